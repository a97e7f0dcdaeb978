use Rattle.stripe_rule.specs.Terms.{terms_of}
use Rattle.stripe_events.proofs.Stripes.{reads, writes, own_read, own_write}
use Rattle.stripe_events.proofs.words.answer_of.Goals as goal

pub read-requires-clause-own : goal.read-requires-clause-own
read-requires-clause-own c = own_read (terms_of c.args.plan.now) c.args.op c.in-Read.read c.in-Read.word c.args.words.now c.in-Read.is c.requires.access c.requires.held

pub can_write-requires : goal.can_write-requires
can_write-requires c = record { own = own_write (terms_of c.args.plan.now) c.args.op c.in-Write.def c.in-Write.word c.in-Write.value c.args.words.now c.in-Write.is c.requires.access c.requires.held }

pub returns-in-Read : goal.returns-in-Read
returns-in-Read c =
    reads (terms_of c.args.plan.now) c.args.op c.in-Read.read c.in-Read.word c.read.result c.args.words.now c.in-Read.is c.requires.access c.requires.held c.read.ensures

pub returns-in-Write : goal.returns-in-Write
returns-in-Write c =
    writes (terms_of c.args.plan.now) c.args.op c.in-Write.def c.in-Write.word c.in-Write.value c.can_write.result c.args.words.now c.in-Write.is c.requires.access c.requires.held c.can_write.ensures
