use Rattle.std.proofs.Common.{◌∙◌, sym, w32}
use Rattle.std.proofs.lemmas.Int.{to_z_pos}
use Rattle.c_lex.proofs.Numbers.{number_small, number_big, some_digit}
use Rattle.c_lex.proofs.constant.number_in.Goals as goal

pub returns-then-value-lt-TOO_BIG : goal.returns-then-value-lt-TOO_BIG
returns-then-value-lt-TOO_BIG c =
    rw (to_z_pos w32 c.value_in-value.result c.if-value-lt-TOO_BIG.true)
    (number_small c.args.base c.value_in-value.result c.args.digits.now (some_digit _ c.if-is_empty.ensures) (sym c.are_digits_in.ensures ∙ c.if-not-are_digits_in.false) c.value_in-value.ensures c.if-value-lt-TOO_BIG.true)

pub returns-else-value-lt-TOO_BIG : goal.returns-else-value-lt-TOO_BIG
returns-else-value-lt-TOO_BIG c =
    number_big c.args.base c.value_in-value.result c.args.digits.now (some_digit _ c.if-is_empty.ensures) (sym c.are_digits_in.ensures ∙ c.if-not-are_digits_in.false) c.value_in-value.ensures c.if-value-lt-TOO_BIG.false
