-- How deep the life of a thread is.
use Rattle.std.proofs.Common.{◌≡◌, ℕ, zero, suc, ◌+◌, ◌*◌, ◌/◌, ◌%◌, ◌≤◌, Bool, true, false, List, [], ◌∷◌, ◌++◌, reverse, map, refl, sym, ap, ◌∙◌, subst, arith}
use Rattle.std.proofs.lemmas.List.{reverse-append}
use Rattle.dfi_base.specs.Lives.{is_start_of, own, BeginsIn}
use Rattle.dfi_base.proofs.Entries.{begins_by as begins_if}
use Rattle.obj_mem.specs.declared.event.SrcAnswer.{SrcAnswer}
use Rattle.obj_mem.specs.declared.event.Stamp.{Stamp}
use Rattle.src_law.specs.tools.Heard.{Heard, answer, branch, Reads}
use Rattle.src_law.specs.tools.Threads.{depth, heard_of, heard, begins_by, threads_of}

-- so many generations below thread 1
abbrev pub IsDepth : ℕ → ℕ → Type 0
IsDepth zero n = n ≡ 1
IsDepth (suc d) n = IsDepth d (n / 16)

never_zero : (d : ℕ) → IsDepth d 0 → ⊥
never_zero zero is = omega (arith, is)
never_zero (suc d) is = never_zero d (subst (IsDepth d) (let z : 0 / 16 ≡ 0 = omega arith in z) is)

pub one_depth : (d e n : ℕ) → IsDepth d n → IsDepth e n → d ≡ e
one_depth zero zero n a b = refl
one_depth zero (suc e) n a b = absurd (never_zero e (subst (IsDepth e) (let z : n / 16 ≡ 0 = omega (arith, a) in z) b))
one_depth (suc d) zero n a b = absurd (never_zero d (subst (IsDepth d) (let z : n / 16 ≡ 0 = omega (arith, b) in z) a))
one_depth (suc d) (suc e) n a b = (let rest = one_depth d e (n / 16) a b in omega (arith, rest))

pub branch_depth : (d n i : ℕ) → i ≤ 15 → IsDepth d n → IsDepth (suc d) (16 * n + i)
branch_depth d n i few is = subst (IsDepth d) (let z : n ≡ (16 * n + i) / 16 = omega (arith, few) in z) is

depth_both : (l m : List Heard) → depth (l ++ m) ≡ depth l + depth m
unfolding depth
depth_both [] m = omega arith
depth_both (answer a ∷ l) m = depth_both l m
depth_both (branch i ∷ l) m = (let rest = depth_both l m in omega (arith, rest))

depth_answers : (o : List Stamp) → depth (reverse (map heard_of o)) ≡ 0
unfolding depth
depth_answers [] = refl
depth_answers (x ∷ o) =
    ap depth (reverse-append (answer x.answer ∷ []) (map heard_of o))
    ∙ (depth_both (reverse (map heard_of o)) (answer x.answer ∷ []) ∙ (let rest = depth_answers o in omega (arith, rest)))

-- a branch is one deeper than its parent
pub depth_forked : (s : List Heard) (o : List Stamp) (i : ℕ) → depth (begins_by s o i) ≡ suc (depth s)
unfolding depth
depth_forked s o i =
    let one = depth_both (heard s o) (answer SrcAnswer.Unit ∷ branch i ∷ []) in
    let two = depth_both s (reverse (map heard_of o)) in
    let three = depth_answers o in
    one ∙ omega (arith, two, three)

module _ {A : Type 0} (R : Reads A) where
  pub depth_begun : (h : List Stamp) (n : ℕ) (s : List Heard) → BeginsIn (threads_of R) 1 [] h n s → IsDepth (depth s) n
  unfolding BeginsIn depth
  depth_begun [] n s b = subst (λ z. IsDepth (depth z) n) (sym b.1) b.0
  depth_begun (x ∷ h) n s b = go (is_start_of (threads_of R) n x) b (depth_begun h n s) (λ parent up. depth_begun h (n / 16) parent up)
    where
      go : (t : Bool) → begins_if (threads_of R) 1 [] h n s t → (BeginsIn (threads_of R) 1 [] h n s → IsDepth (depth s) n)
          → ((parent : List Heard) → BeginsIn (threads_of R) 1 [] h (n / 16) parent → IsDepth (depth parent) (n / 16)) → IsDepth (depth s) n
      go false b same up = same b
      go true b same up =
          subst (λ z. IsDepth z n) (sym (ap depth b.2 ∙ depth_forked b.0 (own (threads_of R) (n / 16) h) (n % 16))) (up b.0 b.1)
