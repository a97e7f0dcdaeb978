-- A link that is the definition of the call at which a caller stands goes on behind that call.
use Rattle.std.proofs.Common.{◌≡◌, ℕ, zero, suc, ◌+◌, List, [], ◌∷◌, Bool, true, false, refl, Option, Some, None, arith, sym, ◌∙◌, ap}
use Rattle.std.specs.Prelude.{slice_get, nat_eq}
use Rattle.std.proofs.lemmas.Bool.{eqb-true, eq-eqb}
use Rattle.dfi_base.specs.declared.numbers.Point.{Point}
use Rattle.tac_ir.specs.declared.code.Code.{Code}
use Rattle.tac_ir.specs.declared.code.Instr.{Instr}
use Rattle.tac_ir.specs.declared.code.Lined.{Lined}
use Rattle.tac_ir.specs.Layout.{lines_of, instr_at}
use Rattle.tac_ir.specs.Numbers.{new_def}
use Rattle.tac_ir.specs.GoodForm.{GoodForm}
use Rattle.tac_ir.specs.NumberLaws.{new_call}
use Rattle.tac_ir.specs.Path.{region_in, region_at, is_call_with, call_from, resumed}
use Rattle.tac_ir.proofs.Numbering.{one_instruction_a_definition}
use Rattle.tac_thread.specs.Life.{instr_of}
use Rattle.tac_thread.specs.Answered.{back_at}
use Rattle.tac_thread.specs.Flat.{flat_meaning}
use Rattle.path_law.specs.Standing.{FlatActivation, point_of}
use Rattle.path_law.proofs.Returns.{goes_back}
use Rattle.tree_law.proofs.lives.Lines.{there}

-- the call with this definition stands at one index
abbrev IsOnlyCall : List Lined → ℕ → ℕ → Type 0
IsOnlyCall code d at = (j : ℕ) (l : Lined) → slice_get code j ≡ Some l → is_call_with d l.instr ≡ true → j ≡ at

only_call : (q : ℕ) (code : List Lined) (d at : ℕ) (l : Lined) → slice_get code at ≡ Some l → is_call_with d l.instr ≡ true → IsOnlyCall code d at → call_from q code d ≡ Some (q + at)
only_call q [] d at l found is only = cc
only_call q (x ∷ rest) d zero l found is only =
    let one : x ≡ l = cc in
    let here : is_call_with d x.instr ≡ true = ap (λ (z : Lined). is_call_with d z.instr) one ∙ is in
    let same : q ≡ q + zero = omega arith in
    ap (λ (b : Bool). elim b [ true ↦ Some q | false ↦ call_from (suc q) rest d ]) here ∙ ap Some same
only_call q (x ∷ rest) d (suc at) l found is only = by (is_call_with d x.instr) refl
    (only_call (suc q) rest d at l found is (λ j k listed call. let s = only (suc j) k listed call in omega (arith, s)))
  where
    by : (b : Bool) → is_call_with d x.instr ≡ b → call_from (suc q) rest d ≡ Some (suc q + at) → elim b [ true ↦ Some q | false ↦ call_from (suc q) rest d ] ≡ Some (q + suc at)
    by true here later = (let s = only 0 x refl here in absurd (omega (arith, s)))
    by false here later = (let move : suc q + at ≡ q + suc at = omega arith in later ∙ ap Some move)

abbrev point_by : Code → Point → Option ℕ → Point
point_by c made o = elim o [
  | None ↦ made
  | Some at ↦ elim (nat_eq (region_in (lines_of c made.fun) at) (region_at c made)) [ true ↦ record { fun = made.fun; at = at } | false ↦ made ]
]

abbrev point_if : Point → Bool → Point
point_if made b = elim b [ true ↦ record { fun = made.fun; at = made.at } | false ↦ made ]

own_call : (c : Code) (made : Point) (d : ℕ) (l : Lined) → slice_get (lines_of c made.fun) made.at ≡ Some l → is_call_with d l.instr ≡ true → IsOnlyCall (lines_of c made.fun) d made.at → resumed c made d ≡ made
own_call c made d l found is only =
    ap (point_by c made) (only_call 0 (lines_of c made.fun) d made.at l found is only ∙ ap Some (let z : 0 + made.at ≡ made.at = omega arith in z))
    ∙ ap (point_if made) (eq-eqb (region_in (lines_of c made.fun) made.at) (region_at c made) refl)

-- calls and their definitions

call_with : (d : ℕ) (i : Instr) → new_call i ≡ Some d → is_call_with d i ≡ true
call_with d (Instr.Call to f k args) is = (let same : k ≡ d = cc in eq-eqb k d same)
call_with d i is = cc

with_call : (d : ℕ) (i : Instr) → is_call_with d i ≡ true → new_def i ≡ Some d
with_call d (Instr.Call to f k args) is = ap Some (eqb-true k d is)
with_call d i is = cc

call_def : (d : ℕ) (i : Instr) → new_call i ≡ Some d → new_def i ≡ Some d
call_def d (Instr.Call to f k args) is = is
call_def d i is = cc

not_end : (d : ℕ) (i : Instr) → new_call i ≡ Some d → i ≡ Instr.End → ⊥
not_end d i is stop = (let clash : None ≡ Some d = ap new_call (sym stop) ∙ is in cc)

pub resumed_home : (c : Code) → GoodForm c → (y : FlatActivation) (d : ℕ) → new_call (instr_of c y) ≡ Some d → resumed c (point_of y) d ≡ point_of y
resumed_home c good y d call =
    let t = there (lines_of c y.fun) y.at (instr_of c y) refl (not_end d (instr_of c y) call) in
    own_call c (point_of y) d t.line t.found (call_with d t.line.instr (ap new_call t.is ∙ call)) only
  where
    only : IsOnlyCall (lines_of c y.fun) d y.at
    only j l listed named =
        let here : instr_at c (record { fun = y.fun; at = j }) ≡ l.instr = ap (λ o. elim o [ None ↦ Instr.End | Some z ↦ z.instr ]) listed in
        let one = one_instruction_a_definition c good (record { fun = y.fun; at = j }) (point_of y) d (ap new_def here ∙ with_call d l.instr named) (call_def d (instr_of c y) call) in
        ap (λ (p : Point). p.at) one

pub back_home : (c : Code) → GoodForm c → (y : FlatActivation) (d : ℕ) → new_call (instr_of c y) ≡ Some d → back_at flat_meaning c (Some d) y ≡ y.at
back_home c good y d call = ap (λ (p : Point). p.at) (sym (goes_back c good y d) ∙ resumed_home c good y d call)
