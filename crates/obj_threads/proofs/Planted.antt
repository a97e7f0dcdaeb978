-- Branches that were planted, and where they live.
use Rattle.obj_mem.specs.declared.value.Value.{Value}
use Rattle.tac_ir.specs.declared.code.Code.{Code}
use Rattle.obj_run.specs.Objects.{object_meaning}
use Rattle.obj_run.specs.Runs.{ObjLife, ObjLives}
use Rattle.std.proofs.Common.{◌≡◌, ℕ, zero, suc, ◌+◌, ◌*◌, ◌/◌, ◌%◌, ◌≤◌, ◌<◌, List, [], ◌∷◌, length, Bool, true, false, refl, Option, Some, None, arith, sym, ◌∙◌, ap, ⊎_elim}
use Rattle.std.specs.Prelude.{slice_get, nat_le, nat_lt}
use Rattle.std.proofs.lemmas.Bool.{cases_eq, ltb-true, ltb-false, leb-true, leb-false}
use Rattle.tac_thread.specs.Threads.{changed, ended_of, with_branch, planted}
use Rattle.tac_thread.proofs.Trees.{changed_here, changed_other}

-- a branch lives where it has not come to its end at once
abbrev pub kept_by : Option (Option Value) → ObjLife → Option ObjLife → Option ObjLife
kept_by over b before = elim over [ None ↦ Some b | Some v ↦ before ]

abbrev pub kept : Code → ObjLife → Option ObjLife → Option ObjLife
kept c b before = kept_by (ended_of object_meaning c (Some b)) b before

branch_here : (c : Code) (f : ObjLives) (n : ℕ) (b : ObjLife) → with_branch object_meaning c f n b n ≡ kept c b (f n)
branch_here c f n b = by (ended_of object_meaning c (Some b))
  where
    by : (o : Option (Option Value)) → (elim o as (λ x. ObjLives) [ None ↦ changed f n (Some b) | Some v ↦ f ]) n ≡ kept_by o b (f n)
    by None = changed_here f n (Some b)
    by (Some v) = refl

branch_other : (c : Code) (f : ObjLives) (n : ℕ) (b : ObjLife) (k : ℕ) → (k ≡ n → ⊥) → with_branch object_meaning c f n b k ≡ f k
branch_other c f n b k other = by (ended_of object_meaning c (Some b))
  where
    by : (o : Option (Option Value)) → (elim o as (λ x. ObjLives) [ None ↦ changed f n (Some b) | Some v ↦ f ]) k ≡ f k
    by None = changed_other f n (Some b) k other
    by (Some v) = refl

-- who is no branch is as before
pub planted_other : (c : Code) (branches : List ObjLife) (f : ObjLives) (n i k : ℕ) → ((j : ℕ) → i ≤ j → j < i + length branches → k ≡ 16 * n + j → ⊥)
    → planted object_meaning c f n i branches k ≡ f k
planted_other c [] f n i k apart = refl
planted_other c (b ∷ branches) f n i k apart =
    planted_other c branches (with_branch object_meaning c f (16 * n + i) b) n (suc i) k (λ j low high same. apart j (omega (arith, low)) (omega (arith, high)) same)
    ∙ branch_other c f (16 * n + i) b k (apart i (omega arith) (omega arith))

-- a branch lives, where it has not ended
pub planted_branch : (c : Code) (branches : List ObjLife) (f : ObjLives) (n i j : ℕ) (b : ObjLife) → slice_get branches j ≡ Some b
    → planted object_meaning c f n i branches (16 * n + (i + j)) ≡ kept c b (f (16 * n + (i + j)))
planted_branch c [] f n i j b at = cc
planted_branch c (x ∷ branches) f n i zero b at =
    let same : x ≡ b = cc in
    let here : 16 * n + (i + zero) ≡ 16 * n + i = omega arith in
    ap (planted object_meaning c f n i (x ∷ branches)) here
    ∙ planted_other c branches (with_branch object_meaning c f (16 * n + i) x) n (suc i) (16 * n + i) (λ j low high e. omega (arith, e, low))
    ∙ branch_here c f (16 * n + i) x ∙ ap (λ z. kept c z (f (16 * n + i))) same ∙ ap (λ k. kept c b (f k)) (sym here)
planted_branch c (x ∷ branches) f n i (suc j) b at =
    let here : 16 * n + (i + suc j) ≡ 16 * n + (suc i + j) = omega arith in
    ap (planted object_meaning c f n i (x ∷ branches)) here
    ∙ planted_branch c branches (with_branch object_meaning c f (16 * n + i) x) n (suc i) j b at
    ∙ ap (kept c b) (branch_other c f (16 * n + i) x (16 * n + (suc i + j)) (λ e. omega (arith, e))) ∙ ap (λ k. kept c b (f k)) (sym here)

-- Names about a fork: the thread itself, its branches, and all others.
pub data Which (n count k : ℕ) : Type 0 where
  itself : k ≡ n → Which n count k
  branch : (j : ℕ) → 1 ≤ j → j ≤ count → k ≡ 16 * n + j → Which n count k
  other : (k ≡ n → ⊥) → ((j : ℕ) → 1 ≤ j → j ≤ count → k ≡ 16 * n + j → ⊥) → Which n count k

pub which : (n count k : ℕ) → count ≤ 15 → Which n count k
which n count k few = ⊎_elim (λ (same : k ≡ n). itself same) (λ (apart : k ≡ n → ⊥). of_parent apart) (cases_eq k n)
  where
    in_range : (k ≡ n → ⊥) → (b : Bool) → nat_le (k % 16) count ≡ b → (d : Bool) → nat_lt 0 (k % 16) ≡ d → k / 16 ≡ n → Which n count k
    in_range apart true high true low parent = branch (k % 16) (ltb-true 0 (k % 16) low) (leb-true (k % 16) count high) (omega (arith, parent))
    in_range apart false high d low parent = other apart (λ j from to same. (let big = leb-false (k % 16) count high in omega (arith, same, to, few, big)))
    in_range apart true high false low parent = other apart (λ j from to same. (let small = ltb-false 0 (k % 16) low in omega (arith, same, from, to, few, small)))

    of_parent : (k ≡ n → ⊥) → Which n count k
    of_parent apart = ⊎_elim (λ (parent : k / 16 ≡ n). in_range apart (nat_le (k % 16) count) refl (nat_lt 0 (k % 16)) refl parent)
        (λ (no : k / 16 ≡ n → ⊥). other apart (λ j from to same. no (omega (arith, same, to, few)))) (cases_eq (k / 16) n)
