-- The rules of reach at a point, fact by fact.
use Rattle.std.proofs.Common.{◌≡◌, ℕ, suc, ◌+◌, ◌-◌, ◌<◌, ◌≤◌, inl, inr, Bool, true, false, List, [], ◌∷◌, length, get_or, refl, sym, ap, ◌∙◌, subst, arith, Option, Some, None}
use Rattle.std.specs.Prelude.{nat_eq, nat_lt, slice_get, All}
use Rattle.std.proofs.lemmas.Bool.{eqb-true, eq-eqb, ltb-true, ltb-false}
use Rattle.std.proofs.lemmas.List.{length-append, get_or_append_left, get_or_at}
use Rattle.std.proofs.lemmas.Option.{slice_get-get_or}
use Rattle.dfi_base.specs.declared.numbers.Point.{Point}
use Rattle.dfi_base.specs.Bits.{has}
use Rattle.tac_ir.specs.declared.code.Code.{Code}
use Rattle.tac_ir.specs.declared.code.Instr.{Instr}
use Rattle.tac_ir.specs.declared.code.Lined.{Lined}
use Rattle.tac_ir.specs.declared.module.Fact.{Fact}
use Rattle.tac_ir.specs.declared.module.Reach.{Reach}
use Rattle.tac_ir.specs.Edges.{calls_fun}
use Rattle.tac_ir.specs.GoodForm.{GoodForm, IsLastKind, all_targets_of}
use Rattle.tac_ir.specs.GoodModule.{IsPoint}
use Rattle.tac_ir.specs.Layout.{instr_at, lines_of}
use Rattle.tac_ir.specs.Numbers.{new_def}
use Rattle.flow_rules.specs.PointNumber.{point_at, point_number}
use Rattle.flow_rules.specs.ReachRows.{row_of}
use Rattle.flow_rules.specs.tools.ReachRules.{Bit, StartsHold, FlowsTo, CallsFlow, ReturnsFlow, EntriesFlow, HasRows, GoesOn}
use Rattle.flow_rules.proofs.InCode.{no_line, good_at}
use Rattle.flow_rules.proofs.PointNumbers.{fun_of, number_below}
use Rattle.flow_rules.proofs.Parallels.{lines_are}

-- Rows.

pub row_long : (c : Code) (r : Reach) → HasRows c r → (p : Point) → IsPoint c p → length (row_of c r p) ≡ length r.facts.pairs
row_long c r rows p point = (let low : point_number c p < length r.rows = omega (arith, number_below c p point, rows.count) in rows.width (point_number c p) [] low)

-- One step of a loop.

differs : (k n : ℕ) → nat_eq k n ≡ false → k ≡ n → ⊥
differs k n is same = (let clash = sym is ∙ eq-eqb k n same in cc)

same_fact : (r : Reach) (k n : ℕ) (x fact : Fact) → k ≡ n → slice_get r.facts.pairs k ≡ Some x → slice_get r.facts.pairs n ≡ Some fact → x ≡ fact
same_fact r k n x fact same is listed = (let equal : Some x ≡ Some fact = sym is ∙ ap (slice_get r.facts.pairs) same ∙ listed in cc)

pub start_next : (c : Code) (r : Reach) (p : Point) (n : ℕ) (fact : Fact) → StartsHold c r p n → slice_get r.facts.pairs n ≡ Some fact → (fact.def ≤ length c.globals → Bit c r p n) → StartsHold c r p (n + 1)
start_next c r p n fact before listed here = record { each = λ k x low is def. by k x low is def (nat_eq k n) refl }
  where
    by : (k : ℕ) (x : Fact) → k < n + 1 → slice_get r.facts.pairs k ≡ Some x → x.def ≤ length c.globals → (b : Bool) → nat_eq k n ≡ b → Bit c r p k
    by k x low is def true same =
        let one = eqb-true k n same in
        let item = same_fact r k n x fact one is listed in
        subst (Bit c r p) (sym one) (here (omega (arith, def, ap (λ (z : Fact). z.def) item)))
    by k x low is def false other = before.each k x (let no = differs k n other in omega (arith, low, no)) is def

pub flow_next : (c : Code) (r : Reach) (killed : Option ℕ) (p q : Point) (n : ℕ) (fact : Fact) → FlowsTo c r killed p q n → slice_get r.facts.pairs n ≡ Some fact
    → (GoesOn (instr_at c p) killed fact (has (row_of c r p) n) → Bit c r q n) → FlowsTo c r killed p q (n + 1)
flow_next c r killed p q n fact before listed here = record {
  makes = λ k x low is def. makes k x low is def (nat_eq k n) refl;
  keeps = λ k x low is bit alive. keeps k x low is bit alive (nat_eq k n) refl;
}
  where
    makes : (k : ℕ) (x : Fact) → k < n + 1 → slice_get r.facts.pairs k ≡ Some x → new_def (instr_at c p) ≡ Some x.def → (b : Bool) → nat_eq k n ≡ b → Bit c r q k
    makes k x low is def true same =
        let one = eqb-true k n same in
        let item = same_fact r k n x fact one is listed in
        subst (Bit c r q) (sym one) (here (inl (def ∙ ap (λ (z : Fact). Some z.def) item)))
    makes k x low is def false other = before.makes k x (let no = differs k n other in omega (arith, low, no)) is def

    keeps : (k : ℕ) (x : Fact) → k < n + 1 → slice_get r.facts.pairs k ≡ Some x → Bit c r p k → (killed ≡ Some x.leaf → ⊥) → (b : Bool) → nat_eq k n ≡ b → Bit c r q k
    keeps k x low is bit alive true same =
        let one = eqb-true k n same in
        let item = same_fact r k n x fact one is listed in
        subst (Bit c r q) (sym one) (here (inr (subst (Bit c r p) one bit, λ kill. alive (kill ∙ ap (λ (z : Fact). Some z.leaf) (sym item)))))
    keeps k x low is bit alive false other = before.keeps k x (let no = differs k n other in omega (arith, low, no)) is bit alive

-- a fact that goes on is one of the two
pub goes_to : (c : Code) (r : Reach) (killed : Option ℕ) (p q : Point) (n k : ℕ) (fact : Fact) → FlowsTo c r killed p q n → k < n → slice_get r.facts.pairs k ≡ Some fact
    → GoesOn (instr_at c p) killed fact (has (row_of c r p) k) → Bit c r q k
goes_to c r killed p q n k fact h low listed (inl def) = h.makes k fact low listed def
goes_to c r killed p q n k fact h low listed (inr keeps) = h.keeps k fact low listed keeps.0 keeps.1

pub entry_next : (c : Code) (r : Reach) (p : Point) (entries : List ℕ) (n : ℕ) → n < length entries → EntriesFlow c r p entries n → FlowsTo c r None p (point_at p.fun (get_or entries n 0)) (length r.facts.pairs)
    → EntriesFlow c r p entries (n + 1)
entry_next c r p entries n low before here = record { each = λ i e under is. by i e under is (nat_eq i n) refl }
  where
    by : (i e : ℕ) → i < n + 1 → slice_get entries i ≡ Some e → (b : Bool) → nat_eq i n ≡ b → FlowsTo c r None p (point_at p.fun e) (length r.facts.pairs)
    by i e under is true same =
        let one : Some (get_or entries n 0) ≡ Some e = sym (slice_get-get_or entries n 0 low) ∙ ap (slice_get entries) (sym (eqb-true i n same)) ∙ is in
        let item : get_or entries n 0 ≡ e = cc in
        subst (λ x. FlowsTo c r None p (point_at p.fun x) (length r.facts.pairs)) item here
    by i e under is false other = before.each i e (let no = differs i n other in omega (arith, under, no)) is

pub call_next : (c : Code) (r : Reach) (p : Point) (f n : ℕ) → CallsFlow c r p f n → (calls_fun p.fun (instr_at c (point_at f n)) ≡ true → FlowsTo c r None p (point_at f (n + 1)) (length r.facts.pairs)) → CallsFlow c r p f (n + 1)
call_next c r p f n before here = record { each = λ at low calls. by at low calls (nat_eq at n) refl }
  where
    by : (at : ℕ) → at < n + 1 → calls_fun p.fun (instr_at c (point_at f at)) ≡ true → (b : Bool) → nat_eq at n ≡ b → FlowsTo c r None p (point_at f (suc at)) (length r.facts.pairs)
    by at low calls true same =
        let one = eqb-true at n same in
        let next : n + 1 ≡ suc at = omega (arith, one) in
        subst (λ z. FlowsTo c r None p (point_at f z) (length r.facts.pairs)) next (here (ap (λ z. calls_fun p.fun (instr_at c (point_at f z))) (sym one) ∙ calls))
    by at low calls false other = before.each at (let no = differs at n other in omega (arith, low, no)) calls

pub return_next : (c : Code) (r : Reach) (p : Point) (n : ℕ) → ReturnsFlow c r p n → CallsFlow c r p n (length (lines_of c n)) → ReturnsFlow c r p (n + 1)
return_next c r p n before here = record { each = λ x low calls. by x low calls (nat_eq x.fun n) refl }
  where
    on_line : (x : Point) → x.fun ≡ n → calls_fun p.fun (instr_at c x) ≡ true → (b : Bool) → nat_lt x.at (length (lines_of c n)) ≡ b → FlowsTo c r None p (point_at x.fun (suc x.at)) (length r.facts.pairs)
    on_line x same calls true low =
        subst (λ f. FlowsTo c r None p (point_at f (suc x.at)) (length r.facts.pairs)) (sym same)
        (here.each x.at (ltb-true x.at (length (lines_of c n)) low) (ap (λ f. calls_fun p.fun (instr_at c (point_at f x.at))) (sym same) ∙ calls))
    on_line x same calls false high =
        let none = no_line c (point_at n x.at) (ltb-false x.at (length (lines_of c n)) high) in
        let clash = sym (ap (calls_fun p.fun) none) ∙ ap (λ f. calls_fun p.fun (instr_at c (point_at f x.at))) (sym same) ∙ calls in
        cc

    by : (x : Point) → x.fun < n + 1 → calls_fun p.fun (instr_at c x) ≡ true → (b : Bool) → nat_eq x.fun n ≡ b → FlowsTo c r None p (point_at x.fun (suc x.at)) (length r.facts.pairs)
    by x low calls true same = on_line x (eqb-true x.fun n same) calls (nat_lt x.at (length (lines_of c n))) refl
    by x low calls false other = before.each x (let no = differs x.fun n other in omega (arith, low, no)) calls

-- Behind an instruction that is not the last there is another.
pub next_exists : (c : Code) → GoodForm c → (p : Point) → IsPoint c p → (IsLastKind (instr_at c p) → ⊥) → p.at + 1 < length (lines_of c p.fun)
next_exists c good p point no_last = by (nat_lt (p.at + 1) (length (lines_of c p.fun))) refl
  where
    by : (b : Bool) → nat_lt (p.at + 1) (length (lines_of c p.fun)) ≡ b → p.at + 1 < length (lines_of c p.fun)
    by true is = ltb-true (p.at + 1) (length (lines_of c p.fun)) is
    by false is =
        let f = fun_of c p point in
        let lines = lines_are c p.fun f.0 f.1.found in
        let last = (good.code p.fun f.0 f.1.found).last in
        let at : length f.0.code - 1 ≡ p.at = omega (arith, ltb-false (p.at + 1) (length (lines_of c p.fun)) is, point, ap length lines) in
        let instr : instr_at c p ≡ last.0.instr =
        ap (λ (o : Option Lined). elim o as (λ z. Instr) [ None ↦ Instr.End | Some lined ↦ lined.instr ]) (ap (λ xs. slice_get xs p.at) lines ∙ ap (slice_get f.0.code) (sym at) ∙ last.1) in
        absurd (no_last (subst IsLastKind (sym instr) last.2))

-- Targets exist.

pub targets_at : (c : Code) → GoodForm c → (p : Point) → IsPoint c p → (i : Instr) → i ≡ instr_at c p → All (λ t. t < length (lines_of c p.fun)) (all_targets_of i)
targets_at c good p point i is = subst (λ j. All (λ t. t < length (lines_of c p.fun)) (all_targets_of j)) (sym is) (good_at c good p point).targets

pub entries_exist : (n join : ℕ) (entries : List ℕ) → All (λ t. t < n) (all_targets_of (Instr.Fork join entries)) → All (λ t. t < n) entries
entries_exist n join entries all k d low =
    let here = all k d (omega (arith, low, length-append entries (join ∷ []))) in
    omega (arith, here, get_or_append_left entries (join ∷ []) d k low)

pub join_exists : (n join : ℕ) (entries : List ℕ) → All (λ t. t < n) (all_targets_of (Instr.Fork join entries)) → join < n
join_exists n join entries all =
    let here = all (length entries) 0 (omega (arith, length-append entries (join ∷ []))) in
    omega (arith, here, get_or_at entries join [] 0 (length entries) refl)

pub call_is_not_last : (f : ℕ) (i : Instr) → calls_fun f i ≡ true → IsLastKind i → ⊥
call_is_not_last f (Instr.Call to g d args) calls last = last
call_is_not_last f i calls last = cc

-- an instruction that goes on is no last one
pub goes_is_not_last : (i : Instr) → ((x : ℕ) (read : Option ℕ) → i ≡ Instr.Ret x read → ⊥) → ((t : ℕ) → i ≡ Instr.Jump t → ⊥) → (i ≡ Instr.End → ⊥) → IsLastKind i → ⊥
goes_is_not_last (Instr.Ret x read) no_ret no_jump no_end last = no_ret x read refl
goes_is_not_last (Instr.Jump t) no_ret no_jump no_end last = no_jump t refl
goes_is_not_last Instr.End no_ret no_jump no_end last = no_end refl
goes_is_not_last i no_ret no_jump no_end last = last
