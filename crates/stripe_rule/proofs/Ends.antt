-- What the log of thread 1 is at the end.
use Rattle.std.proofs.Common.{◌≡◌, ◌≢◌, ⊎_elim, ℕ, zero, suc, ◌+◌, ◌<◌, ◌≤◌, eqb, eq-eqb, ne_eqb, cond, List, [], ◌∷◌, reverse, length, set, refl, sym, ap, ◌∙◌, subst, arith, lt_of_not-le}
use mathlib.Core.Option.{some, some-ne-none, some-injective}
use mathlib.Core.Logic.{dite}
use native.Mathlib.Decide.{ℕ_discrete, dec_le}
use lib.ListN.{get_elem?}
use Rattle.atomic_table.specs.Table.{State, Final, Seen}
use Rattle.atomic_table.proofs.Lists.{at_set, set_else}
use Rattle.tac_ir.specs.Served.{AreServed}
use Rattle.guest_log.specs.Shared.{Shared}
use Rattle.tac_ir.specs.declared.run.Entry.{Entry}
use Rattle.guest_log.specs.declared.stamped.Stamped.{Stamped}
use Rattle.stripe_rule.specs.declared.plan.Terms.{Terms}
use Rattle.stripe_rule.specs.declared.content.Content.{Content}
use Rattle.stripe_rule.specs.declared.view.View.{View}
use Rattle.stripe_rule.specs.Kids.{ALL, Has}
use Rattle.stripe_rule.specs.Views.{nobody}
use Rattle.stripe_rule.specs.Kept.{Kept}
use Rattle.stripe_rule.specs.Laws.{IsClosed, Closes}
use Rattle.stripe_rule.specs.tools.Logs.{Stands, AllBelow, NoneAbove, Logged, times, HasStop, stamps, total}
use Rattle.stripe_rule.proofs.Sums.{total_set, one_of_total, stands_below}
use Rattle.stripe_rule.proofs.Kin.{one_view}
use Rattle.stripe_rule.proofs.Backward.{stamps_from, stamps_history, length_stamps}

-- a log that has each ticket of a history once is all of it
tick_same : (a b : ℕ) → a ≡ b → cond {A = ℕ} (eqb a b) 1 0 ≡ 1
tick_same a b e = ap (λ c. cond {A = ℕ} c 1 0) (eq-eqb a b e)

tick_other : (a b : ℕ) → a ≢ b → cond {A = ℕ} (eqb a b) 1 0 ≡ 0
tick_other a b e = ap (λ c. cond {A = ℕ} c 1 0) (ne_eqb a b e)

no_times : (t : ℕ) (l : List Stamped) → AllBelow t l → times t l ≡ 0
no_times t [] a = refl
no_times t (s ∷ l) a = ap (λ b. cond b 1 0 + times t l) (ne_eqb t s.ticket (λ e. let b = a.0 in omega arith)) ∙ (let r = no_times t l a.1 in omega arith)

under : (t n : ℕ) (l : List Stamped) → t < n → NoneAbove t l → AllBelow n l
under t n [] lt a = tt
under t n (s ∷ l) lt a = ((let b = a.0 in omega arith), under t n l lt a.1)

older : (h : List Entry) (e : Entry) (l : List Stamped) → times (length h) l ≡ 0 → Logged (e ∷ h) l → Logged h l
older h e [] z a = tt
older h e (s ∷ l) z a = (
  ⊎_elim
      (λ (b : (s.ticket ≡ length h) × (s.entry ≡ e)). absurd (let q = tick_same (length h) s.ticket (sym b.0) in omega arith))
      (λ (b : Stands h s.ticket s.entry). b)
      a.0,
  a.1,
  older h e l (omega arith) a.2,
)

abbrev Each : List Entry → List Stamped → Type 0
Each h l = (t : ℕ) → (t < length h → times t l ≡ 1) × (length h ≤ t → times t l ≡ 0)

whole : (h : List Entry) (l : List Stamped) → Logged h l → Each h l → l ≡ stamps h
whole [] [] a each = refl
whole [] (s ∷ l) a each = absurd a.0
whole (e ∷ h) [] a each = absurd (let b = (each (length h)).0 (omega arith) in omega arith)
whole (e ∷ h) (s ∷ l) a each = elim (dec_le (length h) s.ticket) [
  | yes le ↦
      let top = stands_below (e ∷ h) s.ticket s.entry a.0 in
      let is : s.ticket ≡ length h = omega arith in
      let entry : s.entry ≡ e = ⊎_elim (λ (b : (s.ticket ≡ length h) × (s.entry ≡ e)). b.1) (λ (b : Stands h s.ticket s.entry). absurd (let c = stands_below h s.ticket s.entry b in omega arith)) a.0 in
      let gone : times (length h) l ≡ 0 = let b = (each (length h)).0 (omega arith) in let q = tick_same (length h) s.ticket (sym is) in omega arith in
      let rest : Each h l = λ t. (
        (λ lt. let b = (each t).0 (omega arith) in let q = tick_other t s.ticket (λ w. omega arith) in omega arith),
        λ ge. dite (ℕ_discrete t (length h)) (λ w. ap (λ n. times n l) w ∙ gone) (λ ne. let b = (each t).1 (omega arith) in omega arith),
      ) in
      let r = whole h l (older h e l gone a.2) rest in
      λ i. (record { ticket = is i; entry = entry i }) ∷ r i
  | no gt ↦ absurd (
      let lt : s.ticket < length h = lt_of_not-le gt in
      let b = (each (length h)).0 (omega arith) in
      let c = no_times (length h) (s ∷ l) (lt, under s.ticket (length h) l lt a.1) in omega arith)
]

-- where one view has every part, the others add nothing
no_parts : (f g : View → ℕ) (vs : List View) → ((j : ℕ) (u : View) → get_elem? vs j ≡ some u → g u ≡ 0 → f u ≡ 0) → total g vs ≡ 0 → total f vs ≡ 0
no_parts f g [] h z = refl
no_parts f g (x ∷ xs) h z = let a = h 0 x refl (omega arith) in let b = no_parts f g xs (λ j u e. h (suc j) u e) (omega arith) in omega arith

only : (f g : View → ℕ) (vs : List View) (i : ℕ) (v : View) → get_elem? vs i ≡ some v → ((j : ℕ) (u : View) → get_elem? vs j ≡ some u → g u ≡ 0 → f u ≡ 0) → total g vs ≡ g v → total f vs ≡ f v
only f g [] i v e h all = absurd (some-ne-none v (sym e))
only f g (x ∷ xs) zero v e h all = let same = some-injective x v e in let a = ap f same in let b = ap g same in let r = no_parts f g xs (λ j u q. h (suc j) u q) (omega arith) in omega arith
only f g (x ∷ xs) (suc i) v e h all = let m = one_of_total g xs i v e in let a = h 0 x refl (omega arith) in let r = only f g xs i v e (λ j u q. h (suc j) u q) (omega arith) in omega arith

-- The end.
closes_whole : (p : Terms) (id : ℕ) (v : View) (ws : List ℕ) (xs : List Content) → v.parts ≡ ALL → Final (Seen (Kept p) id v) ws xs → IsClosed p v
closes_whole p id v ws xs all (s, seen, same, size, rest) =
    let h = seen.0 in
    let at = seen.1 in
    let f = h.fits id v at in
    let alone : (t : ℕ) → total (λ u. times t u.log) s.views ≡ times t v.log = λ t. only (λ u. times t u.log) (λ u. u.parts) s.views id v at (λ j u e z. ap (times t) ((h.fits j u e).idle z)) (h.parts ∙ sym all) in
    let is : v.log ≡ stamps h.history = whole h.history v.log f.logged (λ t. subst (λ m. (t < length h.history → m ≡ 1) × (length h.history ≤ t → m ≡ 0)) (alone t) (h.tickets t)) in
    let len : length v.log ≡ length h.history = ap length is ∙ length_stamps h.history in
    let count = h.counted in record {
      shared = subst (λ l. Shared p.md p.input (reverse l)) (sym is) (record {
        tickets = stamps_from h.history;
        served = subst (AreServed p.md p.input) (sym (stamps_history h.history)) h.legal;
      });
      most = omega arith;
      spent = λ on. (let a = f.spent on in omega arith);
      halted = λ on. (let t = h.halt (f.halted on) in dite (ℕ_discrete t.0 id)
          (λ q. subst (λ (u : View). HasStop u.log) (one_view s.views t.0 id t.1 v t.2 at q) t.3)
          (λ ne. absurd (subst HasStop ((h.fits t.0 t.1 t.2).idle (others t.0 t.1 t.2 ne h.parts)) t.3)));
    }
  where
    others : (j : ℕ) (u : View) → get_elem? s.views j ≡ some u → j ≢ id → total (λ u. u.parts) s.views ≡ ALL → u.parts ≡ 0
    others j u e ne sum = let a = total_set (λ u. u.parts) s.views j u nobody e in let b = one_of_total (λ u. u.parts) (set s.views j nobody) id v (set_else s.views j id nobody (λ q. ne (sym q)) ∙ seen.1) in omega (arith, all)

-- where thread 1's view has no live child, no other view is live
no_other : (p : Terms) (s : State Content View) (h : Kept p s) (id : ℕ) (v : View) → get_elem? s.views id ≡ some v → v.name ≡ 1 → v.kids ≡ [] → 0 < v.parts
    → (n j : ℕ) (u : View) → get_elem? s.views j ≡ some u → j ≢ id → 0 < u.parts → u.name < n → ⊥
no_other p s h id v at name kids some_part zero j u e ne live low = absurd (omega arith)
no_other p s h id v at name kids some_part (suc n) j u e ne live low =
    let f = h.family j u e live (λ one. ne (h.names j id u v e at live some_part (one ∙ sym name))) in
    dite (ℕ_discrete f.0 id)
    (λ is. subst (Has u.name) (ap (λ (x : View). x.kids) (one_view s.views f.0 id f.1 v f.2 at is) ∙ kids) f.4)
    (λ other. no_other p s h id v at name kids some_part n f.0 f.1 f.2 other f.3 (let a = f.5 in omega arith))

all_zero : (f : View → ℕ) (vs : List View) → ((j : ℕ) (u : View) → get_elem? vs j ≡ some u → f u ≡ 0) → total f vs ≡ 0
all_zero f [] z = refl
all_zero f (x ∷ xs) z = let a = z 0 x refl in let b = all_zero f xs (λ j u e. z (suc j) u e) in omega arith

pub whole_root : (p : Terms) (s : State Content View) (h : Kept p s) (id : ℕ) (v : View) → get_elem? s.views id ≡ some v → v.name ≡ 1 → v.kids ≡ [] → 0 < v.parts → v.parts ≡ ALL
whole_root p s h id v at name kids some_part =
    let rest : total (λ u. u.parts) (set s.views id nobody) ≡ 0 = all_zero (λ u. u.parts) (set s.views id nobody) (λ j u e. ⊎_elim
    (λ (x : (j ≡ id) × (nobody ≡ u)). sym (ap (λ (w : View). w.parts) x.1))
    (λ (x : (j ≢ id) × (get_elem? s.views j ≡ some u)). elim (dec_le 1 u.parts) [
      | yes live ↦ absurd (no_other p s h id v at name kids some_part (suc u.name) j u x.1 x.0 (omega arith) (omega arith))
      | no dead ↦ (let a : u.parts < 1 = lt_of_not-le dead in omega arith)
    ])
    (at_set s.views id j nobody u e)) in
    let a = total_set (λ u. u.parts) s.views id v nobody at in
    let c = h.parts in
    omega arith

pub closes : Closes
closes p id v ws xs name kids some_part final = closes_whole p id v ws xs (whole_root p final.0 final.1.0 id v final.1.1 name kids some_part) final
