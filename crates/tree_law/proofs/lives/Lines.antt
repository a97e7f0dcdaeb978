-- Where an instruction leads: the next index, a jump's target, a join and an entry keep the number of a region.
use Rattle.std.proofs.Common.{◌≡◌, ℕ, ◌+◌, List, [], Bool, true, false, refl, Option, Some, None, sym, ◌∙◌, ap, subst}
use Rattle.std.specs.Prelude.{nat_eq, slice_get}
use Rattle.std.proofs.lemmas.Bool.{eqb-true}
use Rattle.tac_ir.specs.declared.code.Code.{Code}
use Rattle.tac_ir.specs.declared.code.Fun.{Fun}
use Rattle.tac_ir.specs.declared.code.BinOp.{BinOp}
use Rattle.tac_ir.specs.declared.code.Instr.{Instr}
use Rattle.tac_ir.specs.declared.code.Lined.{Lined}
use Rattle.tac_ir.specs.Layout.{lines_of}
use Rattle.tac_ir.specs.Path.{region_in}
use Rattle.tac_ir.specs.GoodForm.{GoodForm, IsGoodCode, targets_of}
use Rattle.tac_thread.specs.declared.guest.Activation.{Activation}
use Rattle.tac_thread.specs.declared.doing.Doing.{Doing}
use Rattle.tac_thread.specs.declared.want.Want.{Want}
use Rattle.tac_thread.specs.Meaning.{Meaning, divides_by_zero}
use Rattle.tac_thread.specs.tools.Fetched.{instr_in}
use Rattle.tac_thread.specs.Life.{temp}
use Rattle.tac_thread.specs.Doing.{given, divided, tested, leaves, doing}
use Rattle.tac_thread.specs.Answered.{named_call, back_at, target_of}
use Rattle.tree_law.specs.Placed.{region_of}
use Rattle.tac_ir.proofs.regions.Counted.{none_if}
use Rattle.tac_ir.proofs.regions.Outside.{start_outside}
use Rattle.tac_ir.proofs.regions.Leads.{next_same, target_same, join_same}

pub good_code : (c : Code) → GoodForm c → (f at : ℕ) (l : Lined) → slice_get (lines_of c f) at ≡ Some l → IsGoodCode c f (lines_of c f)
good_code c good f at l found = by (slice_get c.funs f) refl found
  where
    by : (o : Option Fun) → slice_get c.funs f ≡ o → slice_get (elim o [ None ↦ [] | Some fun ↦ fun.code ]) at ≡ Some l → IsGoodCode c f (elim o [ None ↦ [] | Some fun ↦ fun.code ])
    by None is found = cc
    by (Some fun) is found = good.code f fun is

-- an instruction that is no `end` is there
pub record IsThere (code : List Lined) (at : ℕ) (i : Instr) : Type 0 where
  pub line : Lined
  pub found : slice_get code at ≡ Some line
  pub is : line.instr ≡ i

pub there : (code : List Lined) (at : ℕ) (i : Instr) → instr_in code at ≡ i → (i ≡ Instr.End → ⊥) → IsThere code at i
there code at i is no_end = by (slice_get code at) refl is
  where
    by : (o : Option Lined) → slice_get code at ≡ o → elim o [ None ↦ Instr.End | Some l ↦ l.instr ] ≡ i → IsThere code at i
    by None found same = absurd (no_end (sym same))
    by (Some l) found same = record { line = l; found = found; is = same }

-- instructions behind which a thread goes on
abbrev pub is_passed : Instr → Bool
is_passed (Instr.Ret x r) = false
is_passed (Instr.Jump t) = false
is_passed (Instr.Test x a b) = false
is_passed (Instr.Fork join entries) = false
is_passed Instr.End = false
is_passed i = true

abbrev pub is_jump : Instr → Bool
is_jump (Instr.Jump t) = true
is_jump (Instr.Test x a b) = true
is_jump i = false

-- behind an instruction that is passed
pub behind : (c : Code) → GoodForm c → (f at : ℕ) (i : Instr) → instr_in (lines_of c f) at ≡ i → is_passed i ≡ true → region_in (lines_of c f) (at + 1) ≡ region_in (lines_of c f) at
behind c good f at i is passed =
    let t = there (lines_of c f) at i is (λ e. let clash : true ≡ false = sym passed ∙ ap is_passed e in cc) in
    next_same c f (lines_of c f) (good_code c good f at t.line t.found) at t.line t.found
    (λ join entries fork. let clash : true ≡ false = sym passed ∙ ap is_passed (sym t.is ∙ fork) in cc)
    (λ e. let clash : true ≡ false = sym passed ∙ ap is_passed (sym t.is ∙ e) in cc)

-- at a target of a jump
pub jumped : (c : Code) → GoodForm c → (f at : ℕ) (i : Instr) → instr_in (lines_of c f) at ≡ i → is_jump i ≡ true → (j t : ℕ) → slice_get (targets_of i) j ≡ Some t
    → region_in (lines_of c f) t ≡ region_in (lines_of c f) at
jumped c good f at i is jump j t named =
    let h = there (lines_of c f) at i is (λ e. let clash : true ≡ false = sym jump ∙ ap is_jump e in cc) in
    target_same c f (lines_of c f) (good_code c good f at h.line h.found) at h.line h.found
    (λ join entries fork. let clash : true ≡ false = sym jump ∙ ap is_jump (sym h.is ∙ fork) in cc)
    j t (subst (λ z. slice_get (targets_of z) j ≡ Some t) (sym h.is) named)

-- behind a join
pub joins_at : (c : Code) → GoodForm c → (f at join : ℕ) (entries : List ℕ) → instr_in (lines_of c f) at ≡ Instr.Fork join entries → region_in (lines_of c f) join ≡ region_in (lines_of c f) at
joins_at c good f at join entries is =
    let t = there (lines_of c f) at (Instr.Fork join entries) is (λ e. cc) in
    join_same c f (lines_of c f) (good_code c good f at t.line t.found) at t.line t.found join entries t.is

-- the entry of a function
pub enters_at : (c : Code) → GoodForm c → (f : ℕ) → region_in (lines_of c f) 0 ≡ 0
enters_at c good f = by (slice_get c.funs f) refl
  where
    by : (o : Option Fun) → slice_get c.funs f ≡ o → region_in (elim o [ None ↦ [] | Some fun ↦ fun.code ]) 0 ≡ 0
    by None is = refl
    by (Some fun) is = none_if fun.code 0 (start_outside c f fun.code (good.code f fun is))

-- Silent steps.

-- what a doing leads to
abbrev pub Leads : {V : Type 0} → Instr → Doing V → Type 0
Leads i (Doing.Gives to v) = is_passed i ≡ true
Leads i (Doing.Goes t) = (is_jump i ≡ true) × ((j : ℕ) × (slice_get (targets_of i) j ≡ Some t))
Leads i (Doing.Asks w) = Unit {0}

leads_given : {V : Type 0} → (i : Instr) (to : ℕ) (o : Option V) → is_passed i ≡ true → Leads i (given to o)
leads_given i to None p = tt
leads_given i to (Some v) p = p

leads_divided : {V S : Type 0} → (m : Meaning V S) (to : ℕ) (op : BinOp) (x y : V) (a b : ℕ) → Leads (Instr.Bin to op a b) (divided m to op x y)
leads_divided m to op x y a b = by (divides_by_zero m op y)
  where
    by : (z : Bool) → Leads (Instr.Bin to op a b) (elim z [ true ↦ Doing.Asks Want.Zero | false ↦ given to (m.bin op x y) ])
    by true = tt
    by false = leads_given (Instr.Bin to op a b) to (m.bin op x y) refl

leads_tested : (V : Type 0) (x one other : ℕ) (o : Option Bool) → Leads {V = V} (Instr.Test x one other) (tested one other o)
leads_tested V x one other None = tt
leads_tested V x one other (Some true) = (refl, (0, refl))
leads_tested V x one other (Some false) = (refl, (1, refl))

leads_leaves : (V : Type 0) (i : Instr) (r : ℕ) (o : Option ℕ) → Leads {V = V} i (leaves r o)
leads_leaves V i r None = tt
leads_leaves V i r (Some w) = tt

pub leads : {V S : Type 0} → (m : Meaning V S) (c : Code) (x : Activation V S) (i : Instr) → Leads i (doing m c x i)
leads m c x (Instr.Un to op a) = leads_given (Instr.Un to op a) to (m.un op (temp m x a)) refl
leads m c x (Instr.Bin to op a b) = leads_divided m to op (temp m x a) (temp m x b) a b
leads m c x (Instr.Field to a shape k) = leads_given (Instr.Field to a shape k) to (m.field c (temp m x a) shape k) refl
leads m c x (Instr.Decay to a shape) = leads_given (Instr.Decay to a shape) to (m.decay c (temp m x a) shape) refl
leads m c x (Instr.Index to a b words) = leads_given (Instr.Index to a b words) to (m.index (temp m x a) (temp m x b) words) refl
leads m c x (Instr.Test a at_other at_zero) = leads_tested _ a at_other at_zero (m.truth (temp m x a))
leads m c x (Instr.Ret a (Some r)) = leads_leaves _ (Instr.Ret a (Some r)) r (m.link x.stack)
leads m c x (Instr.Ret a None) = tt
leads m c x (Instr.Jump t) = (refl, (0, refl))
leads m c x (Instr.Const to k) = refl
leads m c x (Instr.Null to) = refl
leads m c x (Instr.Addr to place) = refl
leads m c x i = tt

-- a return goes on in the region of the call that made the frame, whatever the link was
pub back_region : {V S : Type 0} → (m : Meaning V S) (c : Code) (link : Option V) (y : Activation V S) → region_in (lines_of c y.fun) (back_at m c link y) ≡ region_of c y
back_region m c None y = refl
back_region m c (Some link) y = by (named_call m link 0 (lines_of c y.fun))
  where
    pick : (at : ℕ) (b : Bool) → nat_eq (region_in (lines_of c y.fun) at) (region_of c y) ≡ b → region_in (lines_of c y.fun) (elim b [ true ↦ at | false ↦ y.at ]) ≡ region_of c y
    pick at true is = eqb-true _ _ is
    pick at false is = refl

    by : (o : Option ℕ) → region_in (lines_of c y.fun) (elim o [ None ↦ y.at | Some at ↦ elim (nat_eq (region_in (lines_of c y.fun) at) (region_of c y)) [ true ↦ at | false ↦ y.at ] ]) ≡ region_of c y
    by None = refl
    by (Some at) = pick at (nat_eq (region_in (lines_of c y.fun) at) (region_of c y)) refl

pub target_passed : (i : Instr) (to : ℕ) → target_of i ≡ Some to → is_passed i ≡ true
target_passed (Instr.Get t place r) to is = refl
target_passed (Instr.Load t a r) to is = refl
target_passed (Instr.Same t ne a b) to is = refl
target_passed (Instr.New t a site) to is = refl
target_passed (Instr.In t) to is = refl
target_passed (Instr.Left t) to is = refl
target_passed i to is = cc
