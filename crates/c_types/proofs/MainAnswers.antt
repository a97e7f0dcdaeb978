-- The number of `main`, and the structs of a typed program.
use Rattle.std.proofs.Common.{◌≡◌, ℕ, suc, ◌+◌, ◌≤◌, Bool, true, false, List, [], ◌∷◌, map, length, get_or, Option, Some, None, nat_lt, refl, ap, sym, ◌∙◌, arith}
use Rattle.std.proofs.lemmas.Bool.Decides.{nat_tests}
use Rattle.c_types.specs.declared.outline.Member.{Member as OutlineMember}
use Rattle.c_types.specs.declared.outline.Shape.{Shape}
use Rattle.c_types.specs.declared.outline.Signature.{Signature as OutlineSignature}
use Rattle.c_types.specs.declared.outline.Outline.{Outline}
use Rattle.c_typed.specs.Whole.{Whole, Member, is_main}
use Rattle.c_typed.specs.Programs.{main_in, main_number, struct_by}
use Rattle.c_types.specs.tools.ProgramWalk.{main_from, struct_of}
use Rattle.c_types.proofs.Outlined.{IsOutline, member_of, signature_of}
use Rattle.c_types.proofs.OutlineWords.{capped_within}
use Rattle.c_types.proofs.OutlineShapes.{AreShapes}
use Rattle.c_types.proofs.NameTests.{main_same}

-- the number from c on, where there is one
abbrev number_from : ℕ → Bool → ℕ → Option ℕ
number_from c there p = elim there [ true ↦ Some (c + p) | false ↦ None ]

main_first : (c m : ℕ) → Some c ≡ number_from c (nat_lt 0 (suc m)) 0
main_first c m =
    let e : c ≡ c + 0 = omega arith in
    let there : nat_lt 0 (suc m) ≡ true = grind (arith, nat_tests) in
    ap (λ c. Some c) e ∙ ap (λ b. number_from c b 0) (sym there)

main_later : (c p m : ℕ) → number_from (suc c) (nat_lt p m) p ≡ number_from c (nat_lt (suc p) (suc m)) (suc p)
main_later c p m =
    let e : suc c + p ≡ c + suc p = omega arith in
    ap (λ n. elim (nat_lt p m) [ true ↦ Some n | false ↦ None ]) e ∙ ap (λ b. number_from c b (suc p)) (below_next (nat_lt p m) refl) where
      below_next : (b : Bool) → nat_lt p m ≡ b → nat_lt p m ≡ nat_lt (suc p) (suc m)
      below_next true e = grind (arith, nat_tests, e)
      below_next false e = grind (arith, nat_tests, e)

abbrev pub main_by : Whole → Bool → Option ℕ
main_by w there = elim there [ true ↦ Some (main_number w) | false ↦ None ]

module _ (w : Whole) (o : Outline) (is : IsOutline w o) where
  abbrev step : Bool → Option ℕ → Option ℕ → Option ℕ
  step b this rest = elim b [ true ↦ this | false ↦ rest ]

  abbrev main_of : List OutlineSignature → ℕ
  main_of ss = main_in w (map signature_of ss)

  by_main : (b : Bool) (c : ℕ) (ss : List OutlineSignature) → main_from o (suc c) ss ≡ number_from (suc c) (nat_lt (main_of ss) (length (map signature_of ss))) (main_of ss)
      → step b (Some c) (main_from o (suc c) ss) ≡ number_from c (nat_lt (elim b as (λ b. ℕ) [ true ↦ 0 | false ↦ suc (main_of ss) ]) (suc (length (map signature_of ss)))) (elim b as (λ b. ℕ) [ true ↦ 0 | false ↦ suc (main_of ss) ])
  by_main true c ss rest = main_first c (length (map signature_of ss))
  by_main false c ss rest = rest ∙ main_later c (main_of ss) (length (map signature_of ss))

  main_there : (c : ℕ) (ss : List OutlineSignature) → main_from o c ss ≡ number_from c (nat_lt (main_of ss) (length (map signature_of ss))) (main_of ss)
  main_there c [] = refl
  main_there c (s ∷ ss) =
      ap (λ b. step b (Some c) (main_from o (suc c) ss)) (main_same w o is s.name)
      ∙ by_main (is_main w s.name) c ss (main_there (suc c) ss)

  pub main_found : map signature_of o.functions ≡ w.functions → main_from o 0 o.functions ≡ main_by w (nat_lt (main_number w) (length w.functions))
  main_found same =
      main_there 0 o.functions ∙ ap (λ ss. number_from 0 (nat_lt (main_in w ss) (length ss)) (main_in w ss)) same
      ∙ ap (λ n. elim (nat_lt (main_number w) (length w.functions)) [ true ↦ Some n | false ↦ None ]) (from_zero (main_number w)) where
        from_zero : (n : ℕ) → 0 + n ≡ n
        from_zero n = omega arith

-- Structs whose words are within the limit.
objects_same : (ms : List OutlineMember) → map (λ m. m.object) ms ≡ map (λ m. m.object) (map member_of ms)
objects_same [] = refl
objects_same (m ∷ ms) = ap (λ ts. m.object ∷ ts) (objects_same ms)

pub structs_typed : (ss : List Shape) (mss : List (List Member)) (ns : List ℕ) → AreShapes ss mss ns → ((k : ℕ) → get_or ns k 0 ≤ 24576) → map struct_of ss ≡ struct_by ns mss
structs_typed [] [] [] all le = refl
structs_typed (s ∷ ss) (ms ∷ mss) (n ∷ ns) all le =
    ap (λ ts. record { fields = ts; words = s.words } ∷ map struct_of ss) (objects_same s.members ∙ ap (map (λ m. m.object)) all.0)
    ∙ ap (λ n. record { fields = map (λ m. m.object) ms; words = n } ∷ map struct_of ss) (all.1 ∙ capped_within n (le 0))
    ∙ ap (λ ts. record { fields = map (λ m. m.object) ms; words = n } ∷ ts) (structs_typed ss mss ns all.2 (λ k. le (suc k)))
structs_typed [] [] (n ∷ ns) all le = absurd all
structs_typed [] (ms ∷ mss) ns all le = absurd all
structs_typed (s ∷ ss) [] ns all le = absurd all
structs_typed (s ∷ ss) (ms ∷ mss) [] all le = absurd all
