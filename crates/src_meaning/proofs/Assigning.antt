-- An assignment with an operator reads the old value.
use Rattle.std.proofs.Common.{◌≡◌, refl}
use Rattle.c_ast.specs.declared.stmt.AssignOp.{AssignOp}
use Rattle.src_law.specs.Acts.{a_value, Act}
use Rattle.src_law.specs.Exprs.{Around, Meant}
use Rattle.src_law.specs.Stmts.{assigned, compound}

pub with_operator : (c : Around) (op : AssignOp) (target : Meant) (value : Act a_value) → (op ≡ AssignOp.Plain → ⊥) → assigned c op target value ≡ compound c op target value
with_operator c AssignOp.Plain target value other = absurd (other refl)
with_operator c AssignOp.Add target value other = refl
with_operator c AssignOp.Sub target value other = refl
with_operator c AssignOp.Mul target value other = refl
with_operator c AssignOp.Div target value other = refl
with_operator c AssignOp.Rem target value other = refl
with_operator c AssignOp.BitAnd target value other = refl
with_operator c AssignOp.BitOr target value other = refl
with_operator c AssignOp.BitXor target value other = refl
with_operator c AssignOp.ShiftLeft target value other = refl
with_operator c AssignOp.ShiftRight target value other = refl
