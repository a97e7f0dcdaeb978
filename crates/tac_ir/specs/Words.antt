-- The operators of instructions, as functions of words.
use Rattle.std.specs.Prelude.{ℕ}
use Rattle.dfi_base.specs.Words.{word_neg, word_not, word_com, word_add, word_sub, word_mul, word_and, word_or, word_xor, word_shl, word_shr, word_lt, word_gt, word_le, word_ge, word_eq, word_ne, word_quo, word_rem}
use Rattle.tac_ir.specs.declared.code.UnOp.{UnOp}
use Rattle.tac_ir.specs.declared.code.BinOp.{BinOp}
pub use Rattle.dfi_base.specs.Words.{word_of, int_of, wrap, truth}

abbrev pub un_of : UnOp → ℕ → ℕ
un_of UnOp.Neg a = word_neg a
un_of UnOp.Not a = word_not a
un_of UnOp.Com a = word_com a

abbrev pub bin_of : BinOp → ℕ → ℕ → ℕ
bin_of BinOp.Add a b = word_add a b
bin_of BinOp.Sub a b = word_sub a b
bin_of BinOp.Mul a b = word_mul a b
bin_of BinOp.And a b = word_and a b
bin_of BinOp.Or a b = word_or a b
bin_of BinOp.Xor a b = word_xor a b
bin_of BinOp.Shl a b = word_shl a b
bin_of BinOp.Shr a b = word_shr a b
bin_of BinOp.Lt a b = word_lt a b
bin_of BinOp.Gt a b = word_gt a b
bin_of BinOp.Le a b = word_le a b
bin_of BinOp.Ge a b = word_ge a b
bin_of BinOp.Eq a b = word_eq a b
bin_of BinOp.Ne a b = word_ne a b
bin_of BinOp.Quo a b = word_quo a b
bin_of BinOp.Rem a b = word_rem a b
