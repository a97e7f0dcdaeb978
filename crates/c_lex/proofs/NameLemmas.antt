-- Names through the keys of the set that holds them.
use Rattle.std.proofs.Common.{◌≡◌, ℕ, ◌||◌, Bool, true, false, cond, List, [], ◌∷◌, ◌++◌, map, Some, Bor, refl, sym, ap, ◌∙◌}
use Rattle.std.specs.Prelude.{bytes_eq, slice_get}
use Rattle.std.specs.List.{list_any}
use Rattle.std.specs.Option.{option_map}
use Rattle.std.proofs.lemmas.List.{map_push}
use Rattle.std.proofs.lemmas.Option.{slice_get-map}
use Rattle.std.proofs.lemmas.Slice.Eq.{bytes_eq-Decides}
use Rattle.c_lex.specs.Names.{with_name}

abbrev pub bytes_at : Bor (List ℕ) → List ℕ
bytes_at key = key.now

-- the keys have the same bytes
abbrev pub same_key : Bor (List ℕ) → Bor (List ℕ) → Bool
same_key a b = bytes_eq a.now b.now

any_key : (key : Bor (List ℕ)) (keys : List (Bor (List ℕ))) → list_any (same_key key) keys ≡ list_any (bytes_eq key.now) (map bytes_at keys)
any_key key [] = refl
any_key key (k ∷ keys) = ap (λ b. same_key key k || b) (any_key key keys)

inserted : (key : Bor (List ℕ)) (keys : List (Bor (List ℕ))) (b : Bool) → map bytes_at (cond b keys (keys ++ key ∷ [])) ≡ cond b (map bytes_at keys) (map bytes_at keys ++ key.now ∷ [])
inserted key keys true = refl
inserted key keys false = map_push bytes_at keys key

-- a key that is inserted is a name more
pub name-inserted : (key : Bor (List ℕ)) (old new : List (Bor (List ℕ))) → new ≡ cond (list_any (same_key key) old) old (old ++ key ∷ []) → map bytes_at new ≡ with_name (map bytes_at old) key.now
name-inserted key old new e =
    ap (map bytes_at) e ∙ inserted key old (list_any (same_key key) old) ∙ ap (λ b. cond b (map bytes_at old) (map bytes_at old ++ key.now ∷ [])) (any_key key old)

-- the name of a key that stands at a place
pub name-stored : (key k : Bor (List ℕ)) (keys : List (Bor (List ℕ))) (n : ℕ) → slice_get keys n ≡ Some k → same_key key k ≡ true → slice_get (map bytes_at keys) n ≡ Some key.now
name-stored key k keys n at same = slice_get-map bytes_at keys n ∙ ap (option_map bytes_at) at ∙ ap (λ (bs : List ℕ). Some bs) (sym ((bytes_eq-Decides key.now k.now).0 same))

pub bytes-shown : (xs : List (Bor (Bor (List ℕ)))) → map (λ name. name.now.now) xs ≡ map bytes_at (map (λ name. name.now) xs)
bytes-shown [] = refl
bytes-shown (x ∷ xs) = ap (λ (ks : List (List ℕ)). x.now.now ∷ ks) (bytes-shown xs)
