-- Names, families and holders.
use Rattle.std.proofs.Common.{◌≡◌, ◌≢◌, ◌⊎◌, inl, inr, ⊎_elim, ℕ, zero, suc, ◌<◌, eq-eqb, ne_eqb, true, cond, List, [], ◌∷◌, ◌++◌, length, get_or, set, refl, sym, ap, ◌∙◌, subst, arith}
use mathlib.Core.Option.{some, some-ne-none, some-injective}
use mathlib.Core.Logic.{dite}
use native.Mathlib.Decide.{ℕ_discrete}
use lib.ListN.{get_elem?}
use Rattle.atomic_table.proofs.Lists.{at_set, set_here, set_else}
use Rattle.stripe_rule.specs.declared.view.View.{View}
use Rattle.stripe_rule.specs.Kids.{Has, remove}
use Rattle.stripe_rule.specs.Kept.{Names, Parented, Family, Holder, Stopped}
use Rattle.stripe_rule.specs.tools.Logs.{HasStop}

pub at_end : {X : Type 0} (l : List X) (a b : X) (j : ℕ) → get_elem? (l ++ a ∷ []) j ≡ some b → (get_elem? l j ≡ some b) ⊎ ((j ≡ length l) × (a ≡ b))
at_end [] a b zero e = inr (refl, some-injective a b e)
at_end [] a b (suc j) e = absurd (some-ne-none b (sym e))
at_end (x ∷ xs) a b zero e = inl e
at_end (x ∷ xs) a b (suc j) e = ⊎_elim (λ (t : get_elem? xs j ≡ some b). inl t) (λ (t : (j ≡ length xs) × (a ≡ b)). inr (ap suc t.0, t.1)) (at_end xs a b j e)

pub in_range : {X : Type 0} (vs : List X) (i : ℕ) (v : X) → get_elem? vs i ≡ some v → i < length vs
in_range [] i v e = absurd (some-ne-none v (sym e))
in_range (x ∷ xs) zero v e = omega arith
in_range (x ∷ xs) (suc i) v e = let r = in_range xs i v e in omega arith

pub one_view : (vs : List View) (i j : ℕ) (v w : View) → get_elem? vs i ≡ some v → get_elem? vs j ≡ some w → i ≡ j → v ≡ w
one_view vs i j v w a b e = some-injective v w (sym a ∙ ap (get_elem? vs) e ∙ b)

-- where v, which may have fewer parts afterwards, becomes w with its name
pub names_all : (vs : List View) (id : ℕ) (v w : View) → get_elem? vs id ≡ some v → Names vs → (0 < w.parts → w.name ≡ v.name) → (0 < w.parts → 0 < v.parts) → Names (set vs id w)
names_all vs id v w at old name live i j x y ex ey px py same =
    ⊎_elim
    (λ (a : (i ≡ id) × (w ≡ x)). ⊎_elim
    (λ (b : (j ≡ id) × (w ≡ y)). a.0 ∙ sym b.0)
    (λ (b : (j ≢ id) × (get_elem? vs j ≡ some y)). a.0 ∙ old id j v y at b.1 (live (subst (λ (u : View). 0 < u.parts) (sym a.1) px)) py (sym (name (subst (λ (u : View). 0 < u.parts) (sym a.1) px)) ∙ ap (λ (u : View). u.name) a.1 ∙ same))
    (at_set vs id j w y ey))
    (λ (a : (i ≢ id) × (get_elem? vs i ≡ some x)). ⊎_elim
    (λ (b : (j ≡ id) × (w ≡ y)). old i id x v a.1 at px (live (subst (λ (u : View). 0 < u.parts) (sym b.1) py)) (same ∙ sym (ap (λ (u : View). u.name) b.1) ∙ name (subst (λ (u : View). 0 < u.parts) (sym b.1) py)) ∙ sym b.0)
    (λ (b : (j ≢ id) × (get_elem? vs j ≡ some y)). old i j x y a.1 b.1 px py same)
    (at_set vs id j w y ey))
    (at_set vs id i w x ex)

-- a parent stays one where w has the child too
pub parented_set : (vs : List View) (id : ℕ) (v w : View) (c low : ℕ) → get_elem? vs id ≡ some v → w.name ≡ v.name → w.floor ≡ v.floor → (0 < v.parts → 0 < w.parts) → (Has c v.kids → Has c w.kids) → Parented vs c low → Parented (set vs id w) c low
parented_set vs id v w c floor at name height live kids (j, u, e, parts, has, low, high, under) = dite (ℕ_discrete j id)
    (λ is. let same : u ≡ v = one_view vs j id u v e at is in
    let n = ap (λ (x : View). x.name) same in
    (id, w, set_here vs id w (in_range vs id v at), live (subst (λ (x : View). 0 < x.parts) same parts), kids (subst (λ (x : View). Has c x.kids) same has), (let m = name in omega arith), (let m = name in omega arith), let g = ap (λ (x : View). x.floor) same in omega (arith, height, g, under)))
    (λ ne. (j, u, set_else vs id j w ne ∙ e, parts, has, low, high, under))

pub family_all : (vs : List View) (id : ℕ) (v w : View) → get_elem? vs id ≡ some v → Family vs → w.name ≡ v.name → w.parts ≡ v.parts → w.kids ≡ v.kids → w.floor ≡ v.floor → Family (set vs id w)
family_all vs id v w at old name parts kids height i x e live ne =
    parented_set vs id v w x.name x.floor at name height (λ l. omega arith) (λ h. subst (Has x.name) (sym kids) h)
    (⊎_elim
    (λ (a : (i ≡ id) × (w ≡ x)). let n = ap (λ (u : View). u.name) a.1 in let q = ap (λ (u : View). u.parts) a.1 in
    subst (λ f. Parented vs x.name f) (sym height ∙ ap (λ (u : View). u.floor) a.1) (subst (λ c. Parented vs c v.floor) (sym name ∙ n) (old id v at (omega arith) (λ one. ne (sym n ∙ name ∙ one)))))
    (λ (a : (i ≢ id) × (get_elem? vs i ≡ some x)). old i x a.1 live ne)
    (at_set vs id i w x e))

pub holder_set : (vs : List View) (ws ws' : List ℕ) (k id : ℕ) (v w : View) → get_elem? vs id ≡ some v → get_or ws' k 0 ≡ get_or ws k 0 → (v.holds ≡ true → v.stripe ≡ k → (w.holds ≡ true) × (w.stripe ≡ k) × (w.name ≡ v.name) × (0 < v.parts → 0 < w.parts)) → Holder vs ws k → Holder (set vs id w) ws' k
holder_set vs ws ws' k id v w at word keeps (j, u, e, on, stripe, name, parts) = dite (ℕ_discrete j id)
    (λ is. let same : u ≡ v = one_view vs j id u v e at is in
    let s = keeps (sym (ap (λ (x : View). x.holds) same) ∙ on) (sym (ap (λ (x : View). x.stripe) same) ∙ stripe) in
    (id, w, set_here vs id w (in_range vs id v at), s.0, s.1, word ∙ name ∙ ap (λ (x : View). x.name) same ∙ sym s.2, s.3 (subst (λ (x : View). 0 < x.parts) same parts)))
    (λ ne. (j, u, set_else vs id j w ne ∙ e, on, stripe, word ∙ name, parts))

pub has_remove : (x y : ℕ) (l : List ℕ) → x ≢ y → Has x l → Has x (remove y l)
has_remove x y [] ne h = absurd h
has_remove x y (z ∷ l) ne h = dite (ℕ_discrete y z)
    (λ is. subst (λ b. Has x (cond b (remove y l) (z ∷ remove y l))) (sym (eq-eqb y z is)) (⊎_elim (λ (e : x ≡ z). absurd (ne (e ∙ sym is))) (λ (r : Has x l). has_remove x y l ne r) h))
    (λ other. subst (λ b. Has x (cond b (remove y l) (z ∷ remove y l))) (sym (ne_eqb y z other)) (⊎_elim (λ (e : x ≡ z). inl e) (λ (r : Has x l). inr (has_remove x y l ne r)) h))

pub stopped_set : (vs : List View) (id : ℕ) (v w : View) → get_elem? vs id ≡ some v → (HasStop v.log → HasStop w.log) → Stopped vs → Stopped (set vs id w)
stopped_set vs id v w at more (j, u, e, stop) = dite (ℕ_discrete j id)
    (λ is. (id, w, set_here vs id w (in_range vs id v at), more (subst (λ (x : View). HasStop x.log) (one_view vs j id u v e at is) stop)))
    (λ ne. (j, u, set_else vs id j w ne ∙ e, stop))
