-- Where a read or a definition is made.
use Rattle.std.proofs.Common.{◌≡◌, ℕ, ◌+◌, ◌<◌, ◌≤◌, Bool, true, false, List, length, get_or, refl, sym, ap, ◌∙◌, subst, arith, Option, Some, None}
use Rattle.std.specs.Prelude.{nat_eq, nat_lt, slice_get}
use Rattle.std.proofs.lemmas.Bool.{eqb-true, eq-eqb, ltb-true, ltb-false}
use Rattle.std.proofs.lemmas.Option.{slice_get_within, slice_get-get_or}
use Rattle.dfi_base.specs.declared.numbers.Point.{Point}
use Rattle.tac_ir.specs.declared.code.Code.{Code}
use Rattle.tac_ir.specs.declared.code.Fun.{Fun}
use Rattle.tac_ir.specs.declared.code.Instr.{Instr}
use Rattle.tac_ir.specs.declared.code.Lined.{Lined}
use Rattle.tac_ir.specs.Layout.{lines_of, instr_at}
use Rattle.tac_ir.specs.GoodForm.{GoodForm}
use Rattle.tac_ir.proofs.Numbering.{has_line}
use Rattle.tac_ir.proofs.FormNumbers.{index_below}
use Rattle.flow_rules.specs.PointNumber.{point_at}
use Rattle.flow_rules.specs.declared.reads.Made.{Made}
use Rattle.flow_rules.specs.tools.Made.{number_by, number_of, Makes, IsMadeIn}
use Rattle.flow_rules.proofs.Parallels.{lines_are}

-- the instruction at an index of a function
pub line_is : (c : Code) (f : ℕ) (code : List Lined) (i : ℕ) (x : Lined) → code ≡ lines_of c f → i < length code → x ≡ get_or code i x → instr_at c (point_at f i) ≡ x.instr
line_is c f code i x same low is =
    ap (λ (o : Option Lined). elim o as (λ z. Instr) [ None ↦ Instr.End | Some lined ↦ lined.instr ])
    (ap (λ xs. slice_get xs i) (sym same) ∙ slice_get-get_or code i x low ∙ ap Some (sym is))

pub fun_is : (c : Code) (fs : List Fun) (f : ℕ) (x : Fun) → fs ≡ c.funs → f < length fs → x ≡ get_or fs f x → slice_get c.funs f ≡ Some x
fun_is c fs f x same low is = ap (λ xs. slice_get xs f) (sym same) ∙ slice_get-get_or fs f x low ∙ ap Some (sym is)

no_end : (made : Made) → number_by made Instr.End ≡ None
no_end (Made.Read r) = refl
no_end (Made.Def d) = refl

pub record IsMadeFound (c : Code) (made : Made) (f at : ℕ) : Type 0 where
  pub small : at < 16384
  pub low : at < length (lines_of c f)
  pub makes : Makes made (instr_at c (point_at f at))

pub made_found : (c : Code) → GoodForm c → (made : Made) (f at : ℕ) (x : Fun) (code : List Lined) → slice_get c.funs f ≡ Some x → code ≡ x.code → IsMadeIn code made (Some at) → IsMadeFound c made f at
made_found c good made f at x code function same h =
    let line = get_or code at d in
    let here : slice_get code at ≡ Some line = slice_get-get_or code at d h.0 in
    let lines : code ≡ lines_of c f = same ∙ sym (lines_are c f x function) in
    let count = ap length lines in
    let low = h.0 in
    record {
      small = index_below c good f x at line function (ap (λ xs. slice_get xs at) (sym same) ∙ here);
      low = omega (arith, low, count);
      makes = ap (number_by made) (ap (λ (o : Option Lined). elim o as (λ z. Instr) [ None ↦ Instr.End | Some lined ↦ lined.instr ]) (ap (λ xs. slice_get xs at) (sym lines) ∙ here)) ∙ h.1 line here;
    }
  where
    d : Lined
    d = record { line = 0; instr = Instr.End }

pub not_in : (c : Code) (made : Made) (f at : ℕ) (x : Fun) (code : List Lined) → slice_get c.funs f ≡ Some x → code ≡ x.code → IsMadeIn code made None → Makes made (instr_at c (point_at f at)) → ⊥
not_in c made f at x code function same none read =
    let h = has_line (number_by made) c (point_at f at) (number_of made) (no_end made) read in
    let one : Some h.fun ≡ Some x = sym h.function ∙ function in
    let equal : h.fun ≡ x = cc in
    none at h.line (ap (λ xs. slice_get xs at) (same ∙ ap (λ (z : Fun). z.code) (sym equal)) ∙ h.found) h.named

not_past : (c : Code) (made : Made) (p : Point) → length c.funs ≤ p.fun → Makes made (instr_at c p) → ⊥
not_past c made p past read =
    let h = has_line (number_by made) c p (number_of made) (no_end made) read in
    let low = slice_get_within c.funs p.fun h.fun h.function in
    omega (arith, past, low)

pub none_up_to : (c : Code) (made : Made) (n : ℕ) → ((f at : ℕ) → f < n → Makes made (instr_at c (point_at f at)) → ⊥) → ((at : ℕ) → Makes made (instr_at c (point_at n at)) → ⊥)
    → (f at : ℕ) → f < n + 1 → Makes made (instr_at c (point_at f at)) → ⊥
none_up_to c made n earlier here f at low = by (nat_eq f n) refl
  where
    by : (b : Bool) → nat_eq f n ≡ b → Makes made (instr_at c (point_at f at)) → ⊥
    by true is = subst (λ g. Makes made (instr_at c (point_at g at)) → ⊥) (sym (eqb-true f n is)) (here at)
    by false is = earlier f at (let other : f ≡ n → ⊥ = λ same. (let clash = sym is ∙ eq-eqb f n same in cc) in omega (arith, low, other))

pub none_at_all : (c : Code) (made : Made) (n : ℕ) → ((f at : ℕ) → f < n → Makes made (instr_at c (point_at f at)) → ⊥) → length c.funs ≤ n → (p : Point) → Makes made (instr_at c p) → ⊥
none_at_all c made n none all p read = by (nat_lt p.fun n) refl
  where
    by : (b : Bool) → nat_lt p.fun n ≡ b → ⊥
    by true is = none p.fun p.at (ltb-true p.fun n is) read
    by false is = not_past c made p (let past = ltb-false p.fun n is in omega (arith, past, all)) read
