-- How lives begin, by the function that tells it.
use Rattle.std.proofs.Common.{◌≡◌, ℕ, ◌/◌, ◌%◌, Bool, true, false, nat_eq, List, [], ◌∷◌, refl, sym, ap, ◌∙◌, Option, Some, None, eq-eqb, eqb-true}
use Rattle.dfi_base.specs.Lives.{is_start_of, own, BeginsIn}
use Rattle.dfi_base.proofs.Entries.{begins_by as begins_if}
use Rattle.obj_mem.specs.declared.event.Stamp.{Stamp}
use Rattle.src_law.specs.tools.Heard.{Heard, Reads}
use Rattle.src_law.specs.tools.Threads.{begins_by, threads_of, start_of}

some_one : {B : Type 0} (x y : B) → Some x ≡ Some y → x ≡ y
some_one x y same = cc

module _ {A : Type 0} (R : Reads A) where
  abbrev Begun : List Stamp → ℕ → List Heard → Type 0
  Begun h n s = BeginsIn (threads_of R) 1 [] h n s

  abbrev parent_start : List Stamp → ℕ → Option (List Heard) → Option (List Heard)
  parent_start h n o = elim o [ None ↦ None | Some parent ↦ Some (begins_by parent (own (threads_of R) (n / 16) h) (n % 16)) ]

  pub begun_start : (h : List Stamp) (n : ℕ) (s : List Heard) → Begun h n s → start_of R h n ≡ Some s
  unfolding start_of BeginsIn
  begun_start [] n s b = ap (λ z. elim z as (λ y. Option (List Heard)) [ true ↦ Some [] | false ↦ None ]) (eq-eqb n 1 b.0) ∙ ap (λ z. Some z) (sym b.1)
  begun_start (x ∷ h) n s b = go (is_start_of (threads_of R) n x) b (begun_start h n s) (λ parent up. begun_start h (n / 16) parent up)
    where
      go : (t : Bool) → begins_if (threads_of R) 1 [] h n s t → (Begun h n s → start_of R h n ≡ Some s) → ((parent : List Heard) → Begun h (n / 16) parent → start_of R h (n / 16) ≡ Some parent)
          → elim t as (λ y. Option (List Heard)) [ false ↦ start_of R h n | true ↦ parent_start h n (start_of R h (n / 16)) ] ≡ Some s
      go false b same up = same b
      go true b same up = ap (parent_start h n) (up b.0 b.1) ∙ ap (λ z. Some z) (sym b.2)

  pub start_begun : (h : List Stamp) (n : ℕ) (s : List Heard) → start_of R h n ≡ Some s → Begun h n s
  unfolding start_of BeginsIn
  start_begun [] n s is = go (nat_eq n 1) refl is
    where
      go : (t : Bool) → nat_eq n 1 ≡ t → elim t as (λ y. Option (List Heard)) [ true ↦ Some [] | false ↦ None ] ≡ Some s → (n ≡ 1) × (s ≡ [])
      go true one same = (eqb-true n 1 one, sym (some_one [] s same))
      go false one same = cc
  start_begun (x ∷ h) n s is = go (is_start_of (threads_of R) n x) is (start_begun h n s) (λ parent up. start_begun h (n / 16) parent up)
    where
      by_parent : (o : Option (List Heard)) → start_of R h (n / 16) ≡ o → parent_start h n o ≡ Some s → ((parent : List Heard) → start_of R h (n / 16) ≡ Some parent → Begun h (n / 16) parent)
          → begins_if (threads_of R) 1 [] h n s true
      by_parent None was same up = cc
      by_parent (Some parent) was same up = (parent, up parent was, sym (some_one (begins_by parent (own (threads_of R) (n / 16) h) (n % 16)) s same))

      go : (t : Bool) → elim t as (λ y. Option (List Heard)) [ false ↦ start_of R h n | true ↦ parent_start h n (start_of R h (n / 16)) ] ≡ Some s
          → (start_of R h n ≡ Some s → Begun h n s) → ((parent : List Heard) → start_of R h (n / 16) ≡ Some parent → Begun h (n / 16) parent) → begins_if (threads_of R) 1 [] h n s t
      go false same here up = here same
      go true same here up = by_parent (start_of R h (n / 16)) refl same up
