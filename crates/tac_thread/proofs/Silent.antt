-- Silent instructions come to an end: whoever goes back goes to the head of a loop, which asks.
use Rattle.std.proofs.Common.{◌≡◌, ℕ, ◌+◌, ◌-◌, ◌<◌, ◌≤◌, Bool, true, false, List, [], length, refl, sym, ap, ◌∙◌, subst, arith, lit<, Option, Some, None, ◌⊎◌, inl, inr}
use Rattle.std.specs.Prelude.{slice_get, All}
use Rattle.std.proofs.lemmas.Option.{slice_get_within}
use Rattle.tac_ir.specs.declared.code.Code.{Code}
use Rattle.tac_ir.specs.declared.code.Fun.{Fun}
use Rattle.tac_ir.specs.declared.code.Lined.{Lined}
use Rattle.tac_ir.specs.declared.code.Instr.{Instr}
use Rattle.tac_ir.specs.Layout.{lines_of}
use Rattle.tac_ir.specs.GoodForm.{GoodForm, all_targets_of, IsTurn}
use Rattle.tac_thread.specs.declared.guest.Activation.{Activation}
use Rattle.tac_thread.specs.declared.guest.Stage.{Stage}
use Rattle.tac_thread.specs.declared.doing.Doing.{Doing}
use Rattle.tac_thread.specs.declared.want.Want.{Want}
use Rattle.tac_thread.specs.Meaning.{Meaning}
use Rattle.tac_thread.specs.tools.Fetched.{instr_in}
use Rattle.tac_thread.specs.Life.{Life, instr_of}
use Rattle.tac_thread.specs.Doing.{doing, given, tested, leaves, done, silent_at, silent_next}
use Rattle.tac_thread.specs.RunsOn.{RunsOn, count_of}
use Rattle.tac_thread.specs.tools.Left.{is_silent, left_from, left_in, left_of}

-- an index behind this one, or a `turn`
abbrev pub IsOnward : List Lined → ℕ → ℕ → Type 0
IsOnward code at t = (at < t) ⊎ IsTurn code t

-- what a silent instruction does leads onward
abbrev pub LeadsOn : {V : Type 0} → List Lined → ℕ → Instr → Doing V → Type 0
LeadsOn code at i (Doing.Gives to v) = is_silent i ≡ true
LeadsOn code at i (Doing.Goes t) = (is_silent i ≡ true) × IsOnward code at t
LeadsOn code at i (Doing.Asks w) = Unit {0}

given-leads : {X : Type 0} (code : List Lined) (at : ℕ) (i : Instr) (to : ℕ) (v : Option X) → is_silent i ≡ true → LeadsOn code at i (given to v)
given-leads code at i to None h = tt
given-leads code at i to (Some v) h = h

tested-leads : (X : Type 0) (code : List Lined) (at : ℕ) (i : Instr) (y z : ℕ) (b : Option Bool) → is_silent i ≡ true → IsOnward code at y → IsOnward code at z → LeadsOn {V = X} code at i (tested y z b)
tested-leads X code at i y z None h p q = tt
tested-leads X code at i y z (Some true) h p q = (h, p)
tested-leads X code at i y z (Some false) h p q = (h, q)

divided-leads : {X T : Type 0} (m : Meaning X T) (code : List Lined) (at : ℕ) (i : Instr) (to : ℕ) (v : Option X) (zero : Bool) → is_silent i ≡ true
    → LeadsOn code at i (elim zero [ true ↦ Doing.Asks Want.Zero | false ↦ given to v ])
divided-leads m code at i to v true h = tt
divided-leads m code at i to v false h = given-leads code at i to v h

leaves-leads : (X : Type 0) (code : List Lined) (at : ℕ) (i : Instr) (r : ℕ) (link : Option ℕ) → LeadsOn {V = X} code at i (leaves r link)
leaves-leads X code at i r None = tt
leaves-leads X code at i r (Some w) = tt

leads : {X T : Type 0} (m : Meaning X T) (c : Code) (a : Activation X T) (code : List Lined) (i : Instr) → All (IsOnward code a.at) (all_targets_of i) → LeadsOn code a.at i (doing m c a i)
leads m c a code (Instr.Const to k) on = refl
leads m c a code (Instr.Null to) on = refl
leads m c a code (Instr.Un to op x) on = given-leads code a.at (Instr.Un to op x) to _ refl
leads m c a code (Instr.Bin to op x y) on = divided-leads m code a.at (Instr.Bin to op x y) to _ _ refl
leads m c a code (Instr.Addr to place) on = refl
leads m c a code (Instr.Field to x shape k) on = given-leads code a.at (Instr.Field to x shape k) to _ refl
leads m c a code (Instr.Decay to x shape) on = given-leads code a.at (Instr.Decay to x shape) to _ refl
leads m c a code (Instr.Index to x y words) on = given-leads code a.at (Instr.Index to x y words) to _ refl
leads m c a code (Instr.Ret x (Some r)) on = leaves-leads _ code a.at (Instr.Ret x (Some r)) r _
leads m c a code (Instr.Jump t) on = (refl, on 0 t (lit< tt))
leads m c a code (Instr.Test x y z) on = tested-leads _ code a.at (Instr.Test x y z) y z _ refl (on 0 y (lit< tt)) (on 1 z (lit< tt))
leads m c a code i on = tt

-- where the instruction is not `end`, there is one
inside : (code : List Lined) (at : ℕ) → is_silent (instr_in code at) ≡ true → at < length code
inside code at silent = by (slice_get code at) refl silent
  where
    by : (o : Option Lined) → slice_get code at ≡ o → is_silent (elim o [ None ↦ Instr.End | Some l ↦ l.instr ]) ≡ true → at < length code
    by None is silent = cc
    by (Some l) is silent = slice_get_within code at l is

-- onward fewer are left
fewer : (code : List Lined) (at t : ℕ) → is_silent (instr_in code at) ≡ true → IsOnward code at t → left_in code t < left_in code at
fewer code at t silent on =
    let here : left_in code at ≡ length code - at = ap (λ b. left_from b code at) silent in
    let low : at < length code = inside code at silent in
    by (is_silent (instr_in code t)) refl on here low
  where
    by : (b : Bool) → is_silent (instr_in code t) ≡ b → IsOnward code at t → left_in code at ≡ length code - at → at < length code → left_from b code t < left_in code at
    by false is on here low = omega (arith, here, low)
    by true is (inl later) here low = omega (arith, here, inside code t is)
    by true is (inr turn) here low =
        let found : instr_in code t ≡ Instr.Turn = ap (λ o. elim o [ None ↦ Instr.End | Some l ↦ l.instr ]) turn.1 ∙ turn.2 in
        let clash : true ≡ false = sym is ∙ ap is_silent found in cc

abbrev OnwardIn : List Lined → ℕ → Type 0
OnwardIn code at = All (IsOnward code at) (all_targets_of (instr_in code at))

onward_at : (c : Code) → GoodForm c → (f at : ℕ) → All (IsOnward (lines_of c f) at) (all_targets_of (instr_in (lines_of c f) at))
onward_at c good f at = by (slice_get c.funs f) refl
  where
    none : (k d : ℕ) → k < 0 → ⊥
    none k d h = omega arith

    in_fun : (fun : Fun) → slice_get c.funs f ≡ Some fun → (o : Option Lined) → slice_get fun.code at ≡ o
        → All (IsOnward fun.code at) (all_targets_of (elim o [ None ↦ Instr.End | Some l ↦ l.instr ]))
    in_fun fun is None here = λ k d h. absurd (omega arith)
    in_fun fun is (Some l) here = ((good.code f fun is).instrs at l here).onward

    by : (o : Option Fun) → slice_get c.funs f ≡ o → OnwardIn (elim o [ None ↦ [] | Some fun ↦ fun.code ]) at
    by None is = λ k d h. absurd (omega arith)
    by (Some fun) is = in_fun fun is (slice_get fun.code at) refl

-- each silent instruction leaves fewer
pub falls : {X T : Type 0} (m : Meaning X T) (c : Code) (l next : Life X T) → GoodForm c → silent_next m c l ≡ Some next → left_of c next < left_of c l
falls {X} {T} m c l next good step =
    by l.stage step (leads m c l.top (lines_of c l.top.fun) (instr_of c l.top) (onward_at c good l.top.fun l.top.at))
  where
    same : (k : Life X T) → Some k ≡ Some next → k ≡ next
    same k e = cc

    moved : (d : Doing X) → done l d ≡ Some next → LeadsOn (lines_of c l.top.fun) l.top.at (instr_of c l.top) d → left_of c next < left_of c l
    moved (Doing.Gives to v) is on =
        subst (λ (k : Life X T). left_of c k < left_of c l) (same _ is) (fewer (lines_of c l.top.fun) l.top.at (l.top.at + 1) on (inl (omega arith)))
    moved (Doing.Goes t) is on =
        subst (λ (k : Life X T). left_of c k < left_of c l) (same _ is) (fewer (lines_of c l.top.fun) l.top.at t on.0 on.1)
    moved (Doing.Asks w) is on = cc

    by : (s : Stage X T) → silent_at m c l s ≡ Some next
        → LeadsOn (lines_of c l.top.fun) l.top.at (instr_of c l.top) (doing m c l.top (instr_of c l.top)) → left_of c next < left_of c l
    by Stage.Ready step on = moved _ step on
    by (Stage.Entering callee) step on = cc
    by (Stage.Leaving v) step on = cc
    by Stage.Waiting step on = cc

few_left : (code : List Lined) (at : ℕ) → left_in code at ≤ length code
few_left code at = by (is_silent (instr_in code at))
  where
    by : (b : Bool) → left_from b code at ≤ length code
    by true = omega arith
    by false = omega arith

counted : {X T : Type 0} (m : Meaning X T) (c : Code) → GoodForm c → (l last : Life X T) (r : RunsOn m c l last) → count_of r ≤ left_of c l
counted m c good l last (RunsOn.rests k rest) = omega arith
counted m c good l last (RunsOn.runs k next end step on) = omega (arith, falls m c l next good step, counted m c good next last on)

-- a stretch is no longer than the function
pub short : {X T : Type 0} (m : Meaning X T) (c : Code) → GoodForm c → (l last : Life X T) (r : RunsOn m c l last) → count_of r ≤ length (lines_of c l.top.fun)
short m c good l last r = omega (arith, counted m c good l last r, few_left (lines_of c l.top.fun) l.top.at)
