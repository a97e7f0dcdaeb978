-- Instructions in no branch, and those to which they lead.
use Rattle.std.proofs.Common.{◌≡◌, ℕ, zero, suc, ◌+◌, ◌-◌, ◌≤◌, ◌<◌, List, [], ◌∷◌, length, get_or, Bool, true, false, refl, Option, Some, None, arith, sym, ◌∙◌, ap, subst}
use Rattle.std.specs.Prelude.{slice_get}
use Rattle.std.proofs.lemmas.Option.{slice_get_within, slice_get-get_or}
use Rattle.tac_ir.specs.declared.code.Code.{Code}
use Rattle.tac_ir.specs.declared.code.Fun.{Fun}
use Rattle.tac_ir.specs.declared.code.Instr.{Instr}
use Rattle.tac_ir.specs.declared.code.Lined.{Lined}
use Rattle.tac_ir.specs.Layout.{lines_of}
use Rattle.tac_ir.specs.GoodForm.{GoodForm, NamesExist, IsGoodCall, IsLastKind, all_targets_of}
use Rattle.tac_thread.specs.tools.Fetched.{instr_in}
use Rattle.tac_ir.proofs.regions.Counted.{IsOutside}
use Rattle.tac_ir.proofs.regions.Inside.{end_inside}
use Rattle.tac_ir.proofs.regions.Outside.{start_outside, next_outside, target_outside}
use Rattle.tree_law.proofs.lives.Lines.{good_code}

-- an instruction of function f that stands in no branch
pub record IsHome (c : Code) (f at : ℕ) : Type 0 where
  pub line : Lined
  pub found : slice_get (lines_of c f) at ≡ Some line
  pub outside : IsOutside (lines_of c f) at

-- instructions behind which a thread goes on
abbrev pub is_passed : Instr → Bool
is_passed (Instr.Ret x r) = false
is_passed (Instr.Jump t) = false
is_passed (Instr.Fork join entries) = false
is_passed Instr.End = false
is_passed i = true

passed_no_fork : (i : Instr) → is_passed i ≡ true → (join : ℕ) (entries : List ℕ) → i ≡ Instr.Fork join entries → ⊥
passed_no_fork i passed join entries same = let clash : true ≡ false = sym passed ∙ ap is_passed same in cc

passed_not_last : (i : Instr) → is_passed i ≡ true → IsLastKind i → ⊥
passed_not_last (Instr.Ret x r) passed last = cc
passed_not_last (Instr.Jump t) passed last = cc
passed_not_last Instr.End passed last = cc
passed_not_last i passed last = absurd last

line_at : (code : List Lined) (at : ℕ) (l : Lined) → at < length code → (m : Lined) × (slice_get code at ≡ Some m)
line_at code at l within = (get_or code at l, slice_get-get_or code at l within)

abbrev instr_of_line : Option Lined → Instr
instr_of_line o = elim o [ None ↦ Instr.End | Some l ↦ l.instr ]

pub home_instr : (c : Code) (f at : ℕ) (h : IsHome c f at) → instr_in (lines_of c f) at ≡ h.line.instr
home_instr c f at h = ap instr_of_line h.found

none_past : {A : Type 0} (xs : List A) (i : ℕ) → slice_get xs i ≡ None → length xs ≤ i
none_past [] i h = omega arith
none_past (x ∷ xs) zero h = cc
none_past (x ∷ xs) (suc i) h = omega (arith, none_past xs i h)

abbrev code_of : Option Fun → List Lined
code_of o = elim o [ None ↦ [] | Some fun ↦ fun.code ]

-- the entry of a function
pub entry_home : (c : Code) → GoodForm c → (f : ℕ) → f < length c.funs → IsHome c f 0
entry_home c good f within = let found = by (slice_get c.funs f) refl in record { line = found.0; found = found.1; outside = found.2 }
  where
    by : (o : Option Fun) → slice_get c.funs f ≡ o → (l : Lined) × (slice_get (code_of o) 0 ≡ Some l) × IsOutside (code_of o) 0
    by None is = absurd (omega (arith, within, none_past c.funs f is))
    by (Some fun) is =
        let g = good.code f fun is in
        let some = slice_get_within fun.code (length fun.code - 1) g.last.0 g.last.1 in
        let first = line_at fun.code 0 g.last.0 (omega (arith, some)) in
        (first.0, first.1, start_outside c f fun.code g)

-- behind an instruction that is passed
pub next_home : (c : Code) → GoodForm c → (f at : ℕ) (h : IsHome c f at) → is_passed h.line.instr ≡ true → IsHome c f (at + 1)
next_home c good f at h passed =
    let code = lines_of c f in
    let g = good_code c good f at h.line h.found in
    let low = slice_get_within code at h.line h.found in
    let not_last : at ≡ length code - 1 → ⊥ = λ same. (
    let both : Some h.line ≡ Some g.last.0 = sym h.found ∙ ap (slice_get code) same ∙ g.last.1 in
    let one : h.line ≡ g.last.0 = cc in
    passed_not_last h.line.instr passed (subst (λ (z : Lined). IsLastKind z.instr) (sym one) g.last.2)) in
    let next = line_at code (at + 1) h.line (omega (arith, low, not_last)) in
    record { line = next.0; found = next.1; outside = next_outside c f code g at h.line h.found (passed_no_fork h.line.instr passed) h.outside }

-- a target, but for the entries of a fork
pub target_home : (c : Code) → GoodForm c → (f at : ℕ) (h : IsHome c f at) (j t : ℕ) → slice_get (all_targets_of h.line.instr) j ≡ Some t
    → ((join : ℕ) (entries : List ℕ) → h.line.instr ≡ Instr.Fork join entries → t < join → ⊥) → IsHome c f t
target_home c good f at h j t named not_entry =
    let code = lines_of c f in
    let g = good_code c good f at h.line h.found in
    let within = slice_get_within (all_targets_of h.line.instr) j t named in
    let got : Some (get_or (all_targets_of h.line.instr) j t) ≡ Some t = sym (slice_get-get_or (all_targets_of h.line.instr) j t within) ∙ named in
    let same : get_or (all_targets_of h.line.instr) j t ≡ t = cc in
    let exists : t < length code = subst (λ q. q < length code) same ((g.instrs at h.line h.found).targets j t within) in
    let there = line_at code t h.line exists in
    record { line = there.0; found = there.1; outside = target_outside c f code g at h.line h.found h.outside j t named not_entry }

-- no `end` stands there
pub no_end_home : (c : Code) → GoodForm c → (f at : ℕ) (h : IsHome c f at) → h.line.instr ≡ Instr.End → ⊥
no_end_home c good f at h is = end_inside c f (lines_of c f) (good_code c good f at h.line h.found) at h.line h.found is h.outside

-- a function that is called there exists
pub callee_exists : (c : Code) → GoodForm c → (f at : ℕ) (h : IsHome c f at) (to g def : ℕ) (args : List ℕ) → h.line.instr ≡ Instr.Call to g def args → g < length c.funs
callee_exists c good f at h to g def args is =
    let names = ((good_code c good f at h.line h.found).instrs at h.line h.found).names in
    let call : IsGoodCall c g args = subst (NamesExist c f) is names in
    call.exists
