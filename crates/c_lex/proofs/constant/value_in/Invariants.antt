use Rattle.std.proofs.Common.{◌≡◌, take, min}
use Rattle.c_lex.specs.Constant.{value_in}
use Rattle.c_lex.proofs.constant.value_in.Given as goal

abbrev pub invariant-loop-digit : goal.invariant-loop-digit
invariant-loop-digit l = l.value ≡ min (value_in l.base (take l.digit-index l.digits)) 2147483648
