-- The arguments of a call, one after the other.
use Rattle.std.proofs.Common.{◌≡◌, ℕ, suc, ◌+◌, ◌<◌, ◌≤◌, List, [], ◌∷◌, ◌++◌, length, drop, get_or, drop-cons, add-one, Result, Ok, Err, ap, sym, ◌∙◌, subst}
use Rattle.std.proofs.lemmas.List.{drop_all}
use Rattle.c_typed.specs.declared.expr.Expr.{Expr}
use Rattle.tac_lower.specs.declared.draft.Ends.{Ends}
use Rattle.tac_lower.specs.declared.writer.Writer.{Writer}
use Rattle.tac_lower.specs.declared.writer.Stop.{Stop}
use Rattle.tac_lower.specs.Parts.{Part, gathered}
use Rattle.tac_lower.specs.Values.{expr, value, values_of}
use Rattle.tac_lower.specs.tools.Emits.{Emitted, Emits}
use Rattle.tac_lower.proofs.emitted.Chains.{follow, stopped, nothing, gathered_counts}

-- what is left from a place on, where that place has this item
pub left_from : {A : Type 0} (xs : List A) (i : ℕ) (x : A) → i < length xs → x ≡ get_or xs i x → drop i xs ≡ x ∷ drop (i + 1) xs
left_from xs i x within is =
    drop-cons xs i x within ∙ ap (λ y. y ∷ drop (suc i) xs) (sym is) ∙ ap (λ k. x ∷ drop k xs) (sym (add-one i))

abbrev pub rest_from : ℕ → List ℕ → List Expr → List ℕ → Part (List ℕ)
rest_from line sizes es temps = gathered temps (values_of line sizes es)

-- one argument more
pub next_argument : (line : ℕ) (sizes : List ℕ) (es rest : List Expr) (e : Expr) (temps more : List ℕ) (a : ℕ) (ends : Ends) (old mid new : Writer) (r : Result (List ℕ) Stop)
    → es ≡ e ∷ rest → more ≡ temps ++ a ∷ []
    → Emitted ((value line (expr sizes e)).make ends old.next) (value line (expr sizes e)).points old mid a
    → Emits (rest_from line sizes rest more) ends mid new r → Emits (rest_from line sizes es temps) ends old new r
next_argument line sizes es rest e temps more a ends old mid new r is pushed first second =
    subst (λ xs. Emits (rest_from line sizes xs temps) ends old new r) (sym is)
    (follow 0 (value line (expr sizes e)) (λ x. gathered (temps ++ x ∷ []) (values_of line sizes rest)) ends old mid new a r
    (λ x. gathered_counts (temps ++ x ∷ []) (temps ++ 0 ∷ []) (values_of line sizes rest))
    first (subst (λ xs. Emits (rest_from line sizes rest xs) ends mid new r) pushed second))

-- an argument that was not emitted
pub no_argument : (line : ℕ) (sizes : List ℕ) (es rest : List Expr) (e : Expr) (temps : List ℕ) (ends : Ends) (old mid : Writer) (stop : Stop)
    → es ≡ e ∷ rest → Emits (value line (expr sizes e)) ends old mid (Err stop) → Emits (rest_from line sizes es temps) ends old mid (Err stop)
no_argument line sizes es rest e temps ends old mid stop is first =
    subst (λ xs. Emits (rest_from line sizes xs temps) ends old mid (Err stop)) (sym is)
    (stopped 0 (value line (expr sizes e)) (λ x. gathered (temps ++ x ∷ []) (values_of line sizes rest)) ends old mid stop first)

-- no argument is left
pub all_arguments : (line : ℕ) (sizes : List ℕ) (es : List Expr) (i : ℕ) (temps : List ℕ) (ends : Ends) (w : Writer)
    → length es ≤ i → Emits (rest_from line sizes (drop i es) temps) ends w w (Ok temps)
all_arguments line sizes es i temps ends w past =
    subst (λ xs. Emits (rest_from line sizes xs temps) ends w w (Ok temps)) (sym (drop_all i es past)) (nothing temps ends w)
