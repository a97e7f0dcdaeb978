-- A thread that was lent, and its last life.
use Rattle.std.proofs.Common.{◌≡◌, ℕ, List, [], ◌∷◌, sym, ap, ◌∙◌, Option, Some, cond, ⊎_elim}
use Rattle.std.proofs.lemmas.Bool.{cases_eq}
use Rattle.std.specs.Ordering.{nat_cmp}
use Rattle.std.specs.BTreeMap.{is_at}
use Rattle.std.specs.Map.{lookup, set_value}
use Rattle.tac_thread.specs.Life.{Life}
use Rattle.tac_thread.specs.Threads.{Threads, life_in, changed}
use Rattle.tac_thread.specs.Lent.{with_life}
use Rattle.tac_thread.proofs.Trees.{changed_here, changed_other, is_at_same, is_at_other, finds, skips}

abbrev at_name : {X T : Type 0} → List (ℕ × Life X T) → ℕ → Option (Life X T)
at_name es k = lookup (is_at (nat_cmp k)) es

abbrev set_at : {X T : Type 0} → ℕ → List (ℕ × Life X T) → Life X T → List (ℕ × Life X T)
set_at n es w = set_value (is_at (nat_cmp n)) es w

set_here : {X T : Type 0} (e : ℕ × Life X T) (es : List (ℕ × Life X T)) (w : Life X T) → set_at e.0 (e ∷ es) w ≡ (e.0, w) ∷ es
set_here e es w = ap (λ b. cond b ((e.0, w) ∷ es) (e ∷ set_at e.0 es w)) (is_at_same e.0)

set_behind : {X T : Type 0} (n : ℕ) (e : ℕ × Life X T) (es : List (ℕ × Life X T)) (w : Life X T) → (e.0 ≡ n → ⊥) → set_at n (e ∷ es) w ≡ e ∷ set_at n es w
set_behind n e es w other = ap (λ b. cond b ((e.0, w) ∷ es) (e ∷ set_at n es w)) (is_at_other n e.0 other)

-- the thread has that life, and no other changed
set_changes : {X T : Type 0} (n : ℕ) (es : List (ℕ × Life X T)) (l w : Life X T) → Some l ≡ at_name es n → (k : ℕ) → at_name (set_at n es w) k ≡ changed (at_name es) n (Some w) k
set_changes n [] l w found k = cc
set_changes {X} {T} n (e ∷ es) l w found k = ⊎_elim
    (λ (same : e.0 ≡ n). ap (λ x. at_name (set_at x (e ∷ es) w) k) (sym same) ∙ here ∙ ap (λ x. changed (at_name (e ∷ es)) x (Some w) k) same)
    (λ (other : e.0 ≡ n → ⊥). ap (λ x. at_name x k) (set_behind n e es w other) ∙ there other (set_changes n es l w (found ∙ skips e es n (λ same. other (sym same))) k))
    (cases_eq e.0 n)
  where
    here : at_name (set_at e.0 (e ∷ es) w) k ≡ changed (at_name (e ∷ es)) e.0 (Some w) k
    here = ap (λ x. at_name x k) (set_here e es w) ∙ ⊎_elim
        (λ (same : k ≡ e.0). ap (at_name ((e.0, w) ∷ es)) same ∙ finds (e.0, w) es ∙ sym (changed_here (at_name (e ∷ es)) e.0 (Some w)) ∙ ap (changed (at_name (e ∷ es)) e.0 (Some w)) (sym same))
        (λ (other : k ≡ e.0 → ⊥). skips (e.0, w) es k other ∙ sym (skips e es k other) ∙ sym (changed_other (at_name (e ∷ es)) e.0 (Some w) k other))
        (cases_eq k e.0)

    there : (e.0 ≡ n → ⊥) → at_name (set_at n es w) k ≡ changed (at_name es) n (Some w) k → at_name (e ∷ set_at n es w) k ≡ changed (at_name (e ∷ es)) n (Some w) k
    there other rest = ⊎_elim
        (λ (same : k ≡ e.0). ap (at_name (e ∷ set_at n es w)) same ∙ finds e (set_at n es w) ∙ sym (finds e es) ∙ ap (at_name (e ∷ es)) (sym same)
        ∙ sym (changed_other (at_name (e ∷ es)) n (Some w) k (λ is. other (sym same ∙ is))))
        (λ (apart : k ≡ e.0 → ⊥). skips e (set_at n es w) k apart ∙ rest ∙ ap (cond (is_at (nat_cmp n) k) (Some w)) (sym (skips e es k apart)))
        (cases_eq k e.0)

-- with its own life it is as it was
set_same : {X T : Type 0} (n : ℕ) (es : List (ℕ × Life X T)) (l : Life X T) → Some l ≡ at_name es n → set_at n es l ≡ es
set_same n [] l found = cc
set_same {X} {T} n (e ∷ es) l found = ⊎_elim
    (λ (same : e.0 ≡ n). (let is : Some l ≡ Some e.1 = found ∙ ap (at_name (e ∷ es)) (sym same) ∙ finds e es in
    let own : l ≡ e.1 = cc in
    ap (λ x. set_at x (e ∷ es) l) (sym same) ∙ set_here e es l ∙ ap (λ x. (e.0, x) ∷ es) own))
    (λ (other : e.0 ≡ n → ⊥). set_behind n e es l other ∙ ap (λ x. e ∷ x) (set_same n es l (found ∙ skips e es n (λ same. other (sym same)))))
    (cases_eq e.0 n)

pub lent_changes : {X T : Type 0} (t : Threads X T) (n : ℕ) (l w : Life X T) → Some l ≡ life_in t n → (k : ℕ) → life_in (with_life t n w) k ≡ changed (life_in t) n (Some w) k
lent_changes t n l w lived = set_changes n t.lives l w lived

pub lent_same : {X T : Type 0} (t : Threads X T) (n : ℕ) (l : Life X T) → Some l ≡ life_in t n → with_life t n l ≡ t
lent_same {X} {T} t n l lived = ap (λ es. let z : Threads X T = record { lives = es; done = t.done } in z) (set_same n t.lives l lived)
