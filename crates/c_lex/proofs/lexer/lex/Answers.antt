use Rattle.std.proofs.Common.{arith}
use Rattle.std.proofs.lemmas.Result.{err_from_is_err_and}
use Rattle.c_lex.proofs.OneMeaning.{gives_fault, gives_tokens}
use Rattle.c_lex.proofs.Rules.{is_lexed}
use Rattle.c_lex.proofs.Steps.{lexes_all, read_none}
use Rattle.c_lex.proofs.lexer.lex.Goals as goal

pub loop-at-init : goal.loop-at-init
loop-at-init c = rw (c.new.ensures, c.new-2.ensures) (read_none c.args.bytes.now)

pub returns-in_err-at-clause-whole : goal.returns-in_err-at-clause-whole
returns-in_err-at-clause-whole c =
    let p = err_from_is_err_and c.from_residual.result c.from_residual.ensures.1 in
    rw (p.1, p.2) (gives_fault c.args.bytes.now c.in_err-at.field-0.0 c.in_err-at.ensures.fault)

pub invariant_of-result : goal.invariant_of-result
invariant_of-result c =
    is_lexed c.args.bytes.now _ (λ i. omega (arith, c.type_inv.bytes i))
    (lexes_all c.args.bytes.now c.loop-at.found.tokens c.loop-at.found.names c.in_ok-texts.field-0 c.loop-at.found.line c.loop-at.at c.last_line.result c.loop-at.invariant c.loop-at-test.false c.in_ok-texts.ensures c.last_line.ensures)

pub returns-clause-whole : goal.returns-clause-whole
returns-clause-whole c =
    gives_tokens c.args.bytes.now _
    (lexes_all c.args.bytes.now c.loop-at.found.tokens c.loop-at.found.names c.in_ok-texts.field-0 c.loop-at.found.line c.loop-at.at c.last_line.result c.loop-at.invariant c.loop-at-test.false c.in_ok-texts.ensures c.last_line.ensures)
