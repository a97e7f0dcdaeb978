-- A branch that has ended stood at the `end` of its region, over any values.
use Rattle.std.proofs.Common.{◌≡◌, ℕ, suc, ◌+◌, ◌-◌, ◌⊎◌, inl, inr, List, [], ◌∷◌, Bool, true, false, refl, Option, Some, None, arith, sym, ◌∙◌, ap, subst}
use Rattle.std.specs.Prelude.{slice_get, Contains}
use Rattle.dfi_base.specs.declared.numbers.Point.{Point}
use Rattle.tac_ir.specs.declared.code.Code.{Code}
use Rattle.tac_ir.specs.declared.code.Instr.{Instr}
use Rattle.tac_ir.specs.declared.code.BinOp.{BinOp}
use Rattle.tac_ir.specs.declared.code.Lined.{Lined}
use Rattle.tac_ir.specs.Layout.{lines_of}
use Rattle.tac_ir.specs.Path.{region_in}
use Rattle.tac_ir.specs.Edges.{calls_fun}
use Rattle.tac_ir.specs.Regions.{Region, regions_of, regions_in, regions_by, IsInside}
use Rattle.tac_ir.specs.GoodForm
use Rattle.tac_ir.specs.GoodForm.{GoodForm, IsGoodCode, NamesExist}
use Rattle.tac_ir.proofs.regions.Counted.{outside_if}
use Rattle.tac_ir.proofs.regions.Inside.{end_inside}
use Rattle.tac_ir.proofs.regions.Outside.{listed_in}
use Rattle.tac_ir.proofs.regions.Nested.{bounds_of, same_inside}
use Rattle.tac_ir.proofs.regions.Leads.{entry_own, own_end}
use Rattle.tac_ir.proofs.regions.Laws.{end_closes_one}
use Rattle.tac_thread.specs.declared.guest.Activation.{Activation}
use Rattle.tac_thread.specs.declared.guest.Stage.{Stage}
use Rattle.tac_thread.specs.declared.doing.Doing.{Doing}
use Rattle.tac_thread.specs.declared.want.Want.{Want}
use Rattle.tac_thread.specs.Meaning.{Meaning, divides_by_zero}
use Rattle.tac_thread.specs.Life.{Life, instr_of, temp}
use Rattle.tac_thread.specs.Doing.{given, divided, tested, leaves, doing, asked, link_write, want_at}
use Rattle.tac_thread.specs.Threads.{end_in, ended_of}
use Rattle.tree_law.specs.Placed.{HasLine, AreStanding}
use Rattle.tree_law.proofs.lives.Edges.{region_entry, region_listed}
use Rattle.tree_law.proofs.lives.Lines.{IsThere, there, good_code}
use Rattle.link_law.specs.Linked.{IsBelow}
use Rattle.link_law.specs.tools.Reached.{spot, AreReached, IsReachedIn, IsReachedAt}
use Rattle.link_law.proofs.reach.Moving.{not_main}

-- A thread ends at an `end`, or at the return of main.

no_given : {V : Type 0} → (to : ℕ) (o : Option V) (v : Option V) → end_in (asked (given to o)) ≡ Some v → ⊥
no_given to None v is = cc
no_given to (Some x) v is = cc

no_divided : {V S : Type 0} → (m : Meaning V S) (to : ℕ) (op : BinOp) (x y : V) (v : Option V) → end_in (asked (divided m to op x y)) ≡ Some v → ⊥
no_divided {V} m to op x y v is = by (divides_by_zero m op y) is
  where
    by : (b : Bool) → end_in (asked (elim b [ true ↦ Doing.Asks Want.Zero | false ↦ given to (m.bin op x y) ])) ≡ Some v → ⊥
    by true z = cc
    by false z = no_given to (m.bin op x y) v z

no_tested : {V : Type 0} → (a b : ℕ) (o : Option Bool) (v : Option V) → end_in (asked (tested {V = V} a b o)) ≡ Some v → ⊥
no_tested a b None v is = cc
no_tested a b (Some true) v is = cc
no_tested a b (Some false) v is = cc

no_leaves : {V : Type 0} → (r : ℕ) (o : Option ℕ) (v : Option V) → end_in (asked (leaves {V = V} r o)) ≡ Some v → ⊥
no_leaves r None v is = cc
no_leaves r (Some w) v is = cc

no_link : {V : Type 0} → (i : Instr) (o : Option ℕ) (v : Option V) → end_in (link_write {V = V} i o) ≡ Some v → ⊥
no_link (Instr.Call to f d args) (Some w) v is = cc
no_link (Instr.Call to f d args) None v is = cc
no_link i o v is = cc

abbrev EndsAt : Instr → Type 0
EndsAt i = (i ≡ Instr.End) ⊎ ((x : ℕ) × (i ≡ Instr.Ret x None))

ends_doing : {V S : Type 0} → (m : Meaning V S) (c : Code) (x : Activation V S) (i : Instr) (v : Option V) → end_in (asked (doing m c x i)) ≡ Some v → EndsAt i
ends_doing m c x Instr.End v is = inl refl
ends_doing m c x (Instr.Ret a None) v is = inr (a, refl)
ends_doing m c x (Instr.Ret a (Some r)) v is = absurd (no_leaves r (m.link x.stack) v is)
ends_doing m c x (Instr.Un to op a) v is = absurd (no_given to (m.un op (temp m x a)) v is)
ends_doing m c x (Instr.Bin to op a b) v is = absurd (no_divided m to op (temp m x a) (temp m x b) v is)
ends_doing m c x (Instr.Field to a shape k) v is = absurd (no_given to (m.field c (temp m x a) shape k) v is)
ends_doing m c x (Instr.Decay to a shape) v is = absurd (no_given to (m.decay c (temp m x a) shape) v is)
ends_doing m c x (Instr.Index to a b words) v is = absurd (no_given to (m.index (temp m x a) (temp m x b) words) v is)
ends_doing m c x (Instr.Test a one other) v is = absurd (no_tested one other (m.truth (temp m x a)) v is)
ends_doing m c x i v is = cc

ends_life : {V S : Type 0} → (m : Meaning V S) (c : Code) (l : Life V S) (v : Option V) → ended_of m c (Some l) ≡ Some v → EndsAt (instr_of c l.top)
ends_life {V} {S} m c l v is = by l.stage is
  where
    by : (s : Stage V S) → end_in (want_at m c l.top s) ≡ Some v → EndsAt (instr_of c l.top)
    by Stage.Ready z = ends_doing m c l.top (instr_of c l.top) v z
    by (Stage.Entering callee) z = absurd (no_link (instr_of c l.top) (m.link callee.stack) v z)
    by (Stage.Leaving link) z = cc
    by Stage.Waiting z = cc

-- It stood at the end of its region.

own_line : {V S : Type 0} → (c : Code) (x : Activation V S) (line : HasLine c x) → instr_of c x ≡ line.0.instr
own_line c x line = ap (λ o. elim o [ None ↦ Instr.End | Some l ↦ l.instr ]) line.1

-- a deeper activation ends nowhere
not_deeper : {V S : Type 0} → (c : Code) → GoodForm c → (x y : Activation V S) → EndsAt (instr_of c x) → region_in (lines_of c x.fun) x.at ≡ 0 → calls_fun x.fun (instr_of c y) ≡ true → HasLine c x → ⊥
not_deeper c good x y (inl stop) none call line =
    end_inside c x.fun (lines_of c x.fun) (good_code c good x.fun x.at line.0 line.1) x.at line.0 line.1 (sym (own_line c x line) ∙ stop) (outside_if (lines_of c x.fun) x.at none)
not_deeper c good x y (inr ret) none call line =
    let names = subst (λ w. NamesExist c x.fun w) (sym (own_line c x line) ∙ ret.1) ((good_code c good x.fun x.at line.0 line.1).instrs x.at line.0 line.1).names in
    not_main c good x.fun y (instr_of c y) refl call names

ended_here : {V S : Type 0} → (R : Point → ℕ → ℕ → Type 0) (c : Code) → GoodForm c → (p : Life V S) (i : ℕ) (x : Activation V S) (callers : List (Activation V S)) (e join : ℕ) (entries : List ℕ) (r : Region)
    → instr_of c p.top ≡ Instr.Fork join entries → slice_get entries (i - 1) ≡ Some e → slice_get (regions_of p.top.at join entries) (i - 1) ≡ Some r
    → EndsAt (instr_of c x) → AreStanding c p.top.fun (suc e) x callers → AreReached R c (IsBelow R (spot p.top)) x callers → IsBelow R (spot p.top) (record { fun = p.top.fun; at = r.last })
unfolding AreStanding AreReached
ended_here {V} {S} R c good p i x [] e join entries r fork listed region ends stands reached = by ends
  where
    code : List Lined
    code = lines_of c p.top.fun

    t : IsThere code p.top.at (Instr.Fork join entries)
    t = there code p.top.at (Instr.Fork join entries) fork (λ z. cc)

    well : IsGoodCode c p.top.fun code
    well = good_code c good p.top.fun p.top.at t.line t.found

    own : region_in code e ≡ suc e
    own = entry_own c p.top.fun code well p.top.at (i - 1) e join (record { line = t.line; here = t.found; entries = entries; fork = t.is; entry = listed })

    r_is : (r.entry ≡ e) × (r.fork ≡ p.top.at)
    r_is = region_entry p.top.at join entries (i - 1) e r listed region

    in_code : Contains (regions_in code) r
    in_code =
        let whole : p.top.at ≡ 0 + p.top.at = omega arith in
        listed_in 0 code p.top.at t.line r t.found
        (subst (λ n. Contains (regions_by n t.line.instr) r) whole (subst (λ z. Contains (regions_by p.top.at z) r) (sym t.is) (region_listed p.top.at join entries (i - 1) r region)))

    number : region_in code x.at ≡ suc e
    number = subst (λ f. region_in (lines_of c f) x.at ≡ suc e) stands.0 stands.1

    within : IsInside r x.at
    within =
        let some = (bounds_of c p.top.fun code well r in_code).some in
        let from = r_is.0 in
        same_inside c p.top.fun code well r e x.at in_code (own ∙ sym number) (record { low = omega (arith, from); high = omega (arith, from, some) })

    found : slice_get code x.at ≡ Some stands.2.0
    found = subst (λ f. slice_get (lines_of c f) x.at ≡ Some stands.2.0) stands.0 stands.2.1

    by : EndsAt (instr_of c x) → IsBelow R (spot p.top) (record { fun = p.top.fun; at = r.last })
    by (inr ret) = absurd (well.regions.no_return x.at stands.2.0 r found in_code within (subst GoodForm.IsRet (sym ret.1 ∙ own_line c x stands.2) tt))
    by (inl stop) =
        let is_end : GoodForm.IsEnd code x.at = (stands.2.0, found, sym (own_line c x stands.2) ∙ stop) in
        let q = end_closes_one c p.top.fun code well x.at is_end in
        let told : region_in code x.at ≡ suc r.entry = number ∙ ap suc (sym r_is.0) in
        let same = own_end c p.top.fun code well x.at is_end q.0 r q.1.region in_code q.1.last within told in
        let last : r.last ≡ x.at = ap (λ (z : Region). z.last) same ∙ q.1.last in
        let to : spot x ≡ record { fun = p.top.fun; at = r.last } = ap (λ n. record { fun = n; at = x.at }) stands.0 ∙ ap (λ n. record { fun = p.top.fun; at = n }) (sym last) in
        subst (IsBelow R (spot p.top)) to reached
ended_here R c good p i x (y ∷ callers) e join entries r fork listed region ends stands reached = absurd (not_deeper c good x y ends stands.0 stands.1 stands.2)

abbrev entries_of : Instr → List ℕ
entries_of (Instr.Fork join entries) = entries
entries_of i = []

pub branch_ended : {V S : Type 0} → (m : Meaning V S) (R : Point → ℕ → ℕ → Type 0) (c : Code) → GoodForm c → (p l : Life V S) (i : ℕ) (v : Option V) → IsReachedIn m R c p i l → ended_of m c (Some l) ≡ Some v → IsReachedAt R c p i
branch_ended m R c good p l i v b ends waits join entries r fork region =
    let same : b.branch.entries ≡ entries = ap entries_of (sym b.branch.fork ∙ fork) in
    ended_here R c good p i l.top l.callers b.branch.entry join entries r fork (ap (λ z. slice_get z (i - 1)) (sym same) ∙ b.branch.listed) region
    (ends_life m c l v ends) b.branch.placed.stands b.reached.stands
