-- Behind what has no meaning nothing follows.
use Rattle.std.proofs.Common.{◌≡◌, Bool, true, false, List, [], ◌∷◌, Result, Ok, Err, refl, ap, arith}
use Rattle.obj_mem.specs.declared.value.Value.{Value}
use Rattle.obj_mem.specs.declared.event.Event.{Event}
use Rattle.obj_mem.specs.declared.event.SrcAnswer.{SrcAnswer}
use Rattle.src_law.specs.declared.heard.Heard.{Heard}
use Rattle.src_law.specs.declared.heard.Heard.TheVariants.{Answer as answer, Branch as branch}
use Rattle.src_law.specs.tools.Heard.{Res, got, bind, asks, nothing_more}
use Rattle.src_meaning.specs.declared.heard.Pause.{Pause}
use Rattle.src_meaning.specs.tools.Follows.{Follows}
use Rattle.src_meaning.proofs.Forking.{err_first}

abbrev is_got : Res Value → Bool
is_got (got x l) = true
is_got r = false

abbrev stop : List Heard → Res Value
stop l = bind (asks Event.Bad l) nothing_more

not_got : (l : List Heard) → is_got (stop l) ≡ false
not_got [] = refl
not_got (branch i ∷ l) = refl
not_got (answer SrcAnswer.Unit ∷ []) = refl
not_got (answer SrcAnswer.Unit ∷ x ∷ l) = refl
not_got (answer (SrcAnswer.Value v) ∷ l) = refl
not_got (answer (SrcAnswer.Frame m) ∷ l) = refl

pub stopped : (l : List Heard) (k : Value → List Heard → Res Value) (r : Result Value Pause) (left : List Heard) → Follows (stop l) r left → Follows (bind (stop l) k) r left
stopped l k (Err p) left is = err_first (stop l) k p is
stopped l k (Ok x) left is =
    let told : is_got (stop l) ≡ true = ap is_got is in
    let never : is_got (stop l) ≡ false = not_got l in
    absurd (grind arith)
