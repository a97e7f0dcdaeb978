-- The pieces of a list, one after the other.
use Rattle.std.proofs.Common.{◌≡◌, ℕ, ◌+◌, ◌≤◌, List, ◌∷◌, map, length, drop, Result, Ok, Err, sym, subst}
use Rattle.std.proofs.lemmas.List.{drop_all}
use Rattle.tac_lower.specs.declared.draft.Ends.{Ends}
use Rattle.tac_lower.specs.declared.writer.Writer.{Writer}
use Rattle.tac_lower.specs.declared.writer.Stop.{Stop}
use Rattle.tac_lower.specs.Parts.{Part, in_turn}
use Rattle.tac_lower.specs.tools.Emits.{Emitted, Emits}
use Rattle.tac_lower.proofs.emitted.Chains.{nothing}
use Rattle.tac_lower.proofs.emitted.Follows.{next, halt}

-- what is left from a place on is emitted
abbrev pub Rest : {A : Type 0} → (A → Part ℕ) → List A → ℕ → Ends → Writer → Writer → Result ℕ Stop → Type 0
Rest f xs i ends old new r = Emits (in_turn (map f (drop i xs))) ends old new r

-- one item more
pub next_item : {A : Type 0} (f : A → Part ℕ) (xs : List A) (i : ℕ) (x : A) (ends : Ends) (old mid new : Writer) (a : ℕ) (r : Result ℕ Stop)
    → drop i xs ≡ x ∷ drop (i + 1) xs → Emitted ((f x).make ends old.next) (f x).points old mid a → Rest f xs (i + 1) ends mid new r → Rest f xs i ends old new r
next_item f xs i x ends old mid new a r is first second =
    subst (λ ys. Emits (in_turn (map f ys)) ends old new r) (sym is) (next (f x) (in_turn (map f (drop (i + 1) xs))) ends old mid new a r first second)

-- an item that was not emitted
pub no_item : {A : Type 0} (f : A → Part ℕ) (xs : List A) (i : ℕ) (x : A) (ends : Ends) (old mid : Writer) (e : Stop)
    → drop i xs ≡ x ∷ drop (i + 1) xs → Emits (f x) ends old mid (Err e) → Rest f xs i ends old mid (Err e)
no_item f xs i x ends old mid e is past =
    subst (λ ys. Emits (in_turn (map f ys)) ends old mid (Err e)) (sym is) (halt (f x) (in_turn (map f (drop (i + 1) xs))) ends old mid e past)

-- no item is left
pub no_more : {A : Type 0} (f : A → Part ℕ) (xs : List A) (i : ℕ) (ends : Ends) (w : Writer) → length xs ≤ i → Rest f xs i ends w w (Ok 0)
no_more f xs i ends w past = subst (λ ys. Emits (in_turn (map f ys)) ends w w (Ok 0)) (sym (drop_all i xs past)) (nothing 0 ends w)
