-- Loops in which each item is walked in turn.
use Rattle.std.proofs.Common.{◌≡◌, ◌≢◌, ℕ, zero, suc, ◌<◌, ◌≤◌, List, [], ◌∷◌, ◌++◌, length, drop, get_or, Ok, Err, refl, ap, sym, ◌∙◌, append_assoc, arith}
use Rattle.std.proofs.lemmas.List.{drop_all}
use Rattle.c_typed.specs.declared.fault.TypeFault.{TypeFault}
use Rattle.c_types.specs.tools.Steps.{Found, ◌>>=◌, each, every}

abbrev pub behind : {C K : Type 0} → List C → Found (List C × K) → Found (List C × K)
behind cs (Ok s) = Ok (cs ++ s.0, s.1)
behind cs (Err e) = Err e

-- what the whole loop finds is what the rest finds, behind what is there
abbrev pub SoFar : {X K B C : Type 0} → (B → List C) → (X → K → Found (B × K)) → List X → K → List C → K → ℕ → Type 0
SoFar given step xs first cs k i = each given step xs first ≡ behind cs (each given step (drop i xs) k)

by_all : {C K : Type 0} (f : Found (List C × K)) → f ≡ behind [] f
by_all (Ok s) = refl
by_all (Err e) = refl

pub none_yet : {X K B C : Type 0} (given : B → List C) (step : X → K → Found (B × K)) (xs : List X) (k : K) → SoFar given step xs k [] k 0
none_yet given step xs k = by_all (each given step xs k)

pub at_place : {X : Type 0} (xs : List X) (i : ℕ) (x : X) → i < length xs → x ≡ get_or xs i x → drop i xs ≡ x ∷ drop (suc i) xs
at_place [] i x less is = absurd (omega (arith, less))
at_place (y ∷ xs) zero x less is = ap (λ y. y ∷ xs) (sym is)
at_place (y ∷ xs) (suc i) x less is = at_place xs i x (omega (arith, less)) is

push_behind : {C K : Type 0} (cs ds : List C) (f : Found (List C × K)) → behind cs (f >>= (λ t. Ok (ds ++ t.0, t.1))) ≡ behind (cs ++ ds) f
push_behind cs ds (Ok s) = ap (λ es. Ok (es, s.1)) (sym (append_assoc cs ds s.0))
push_behind cs ds (Err e) = refl

pub one_more : {X K B C : Type 0} (given : B → List C) (step : X → K → Found (B × K)) (xs : List X) (first : K) (cs : List C) (k : K) (i : ℕ) (x : X) (b : B) (l : K)
    → i < length xs → x ≡ get_or xs i x → step x k ≡ Ok (b, l) → SoFar given step xs first cs k i → SoFar given step xs first (cs ++ given b) l (suc i)
one_more given step xs first cs k i x b l less is found so_far =
    so_far ∙ ap (λ ys. behind cs (each given step ys k)) (at_place xs i x less is)
    ∙ ap (λ f. behind cs (f >>= (λ s. each given step (drop (suc i) xs) s.1 >>= (λ t. Ok (given s.0 ++ t.0, t.1))))) found
    ∙ push_behind cs (given b) (each given step (drop (suc i) xs) l)

pub one_refused : {X K B C : Type 0} (given : B → List C) (step : X → K → Found (B × K)) (xs : List X) (first : K) (cs : List C) (k : K) (i : ℕ) (x : X) (e : TypeFault)
    → i < length xs → x ≡ get_or xs i x → (e ≢ TypeFault.Memory → step x k ≡ Err e) → SoFar given step xs first cs k i → e ≢ TypeFault.Memory → each given step xs first ≡ Err e
one_refused given step xs first cs k i x e less is found so_far wanted =
    so_far ∙ ap (λ ys. behind cs (each given step ys k)) (at_place xs i x less is)
    ∙ ap (λ f. behind cs (f >>= (λ s. each given step (drop (suc i) xs) s.1 >>= (λ t. Ok (given s.0 ++ t.0, t.1))))) (found wanted)

append_none : {A : Type 0} (xs : List A) → xs ++ [] ≡ xs
append_none [] = refl
append_none (x ∷ xs) = ap (λ ys. x ∷ ys) (append_none xs)

pub all_done : {X K B C : Type 0} (given : B → List C) (step : X → K → Found (B × K)) (xs : List X) (first : K) (cs : List C) (k : K) (i : ℕ)
    → length xs ≤ i → SoFar given step xs first cs k i → each given step xs first ≡ Ok (cs, k)
all_done given step xs first cs k i le so_far =
    so_far ∙ ap (λ ys. behind cs (each given step ys k)) (drop_all i xs le) ∙ ap (λ cs. Ok (cs, k)) (append_none cs)

-- Without values.
abbrev pub WentOn : {X K : Type 0} → (X → K → Found ((Unit {0}) × K)) → List X → K → K → ℕ → Type 0
WentOn step xs first k i = every step xs first ≡ every step (drop i xs) k

pub went_on : {X K : Type 0} (step : X → K → Found ((Unit {0}) × K)) (xs : List X) (first k : K) (i : ℕ) (x : X) (l : K)
    → i < length xs → x ≡ get_or xs i x → step x k ≡ Ok (tt, l) → WentOn step xs first k i → WentOn step xs first l (suc i)
went_on step xs first k i x l less is found so_far =
    so_far ∙ ap (λ ys. every step ys k) (at_place xs i x less is) ∙ ap (λ f. f >>= (λ s. every step (drop (suc i) xs) s.1)) found

pub stopped : {X K : Type 0} (step : X → K → Found ((Unit {0}) × K)) (xs : List X) (first k : K) (i : ℕ) (x : X) (e : TypeFault)
    → i < length xs → x ≡ get_or xs i x → (e ≢ TypeFault.Memory → step x k ≡ Err e) → WentOn step xs first k i → e ≢ TypeFault.Memory → every step xs first ≡ Err e
stopped step xs first k i x e less is found so_far wanted =
    so_far ∙ ap (λ ys. every step ys k) (at_place xs i x less is) ∙ ap (λ f. f >>= (λ s. every step (drop (suc i) xs) s.1)) (found wanted)

pub went_through : {X K : Type 0} (step : X → K → Found ((Unit {0}) × K)) (xs : List X) (first k : K) (i : ℕ) → length xs ≤ i → WentOn step xs first k i → every step xs first ≡ Ok (tt, k)
went_through step xs first k i le so_far = so_far ∙ ap (λ ys. every step ys k) (drop_all i xs le)
