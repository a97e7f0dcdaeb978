use Rattle.c_lex.proofs.NameLemmas.{name-inserted, name-stored}
use Rattle.c_lex.proofs.names.Names.number.Goals as goal

pub returns-clause-names : goal.returns-clause-names
returns-clause-names c = rw (← c.self.view_is) (name-inserted c.args.name c.self.inside.set.keys c.insert_full.new.self.keys c.in_ok-number.ensures.keys)

pub returns-clause-number : goal.returns-clause-number
returns-clause-number c =
    let stored = c.in_ok-number.ensures.stored in
    name-stored c.args.name stored.0 c.insert_full.new.self.keys c.in_ok-number.number stored.1 stored.2
