-- Keys are looked up as their shapes.
use Rattle.std.proofs.Common.{◌≡◌, ℕ, suc, ◌+◌, Bool, true, false, cond, not, List, [], ◌∷◌, ◌++◌, map, refl, ap, sym, ◌∙◌, arith}
use Rattle.std.specs.Prelude.{nat_eq, ◌&&◌, ◌||◌}
use Rattle.std.specs.Cmp.Lexicographic.{pointwise}
use Rattle.std.specs.List.{list_any, position_or_len}
use Rattle.std.proofs.lemmas.List.{map_push}
use Rattle.c_typed.specs.Types.{same_lengths}
use Rattle.tac_lower.specs.declared.shapes.Key.{Key}
use Rattle.tac_lower.specs.contracts.shapes.KeyPartialEq.TheImpl.{eq-value}
use Rattle.tac_lower.specs.tools.Keys.{shape_of}
use Rattle.tac_lower.specs.Shapes.{same_shape, entered_at, entered}

abbrev pub same_key : Key → Key → Bool
same_key = eq-value.it

same_parts : (ps qs : List ℕ) → pointwise nat_eq ps qs ≡ same_lengths ps qs
same_parts [] [] = refl
same_parts [] (q ∷ qs) = refl
same_parts (p ∷ ps) [] = refl
same_parts (p ∷ ps) (q ∷ qs) = ap (λ b. nat_eq p q && b) (same_parts ps qs)

same_is : (a b : Key) → same_key a b ≡ same_shape (shape_of a) (shape_of b)
same_is Key.Int Key.Int = refl
same_is Key.Int Key.Ptr = refl
same_is Key.Int (Key.Array m i) = refl
same_is Key.Int (Key.Struct p) = refl
same_is Key.Ptr Key.Int = refl
same_is Key.Ptr Key.Ptr = refl
same_is Key.Ptr (Key.Array m i) = refl
same_is Key.Ptr (Key.Struct p) = refl
same_is (Key.Array m i) Key.Int = refl
same_is (Key.Array m i) Key.Ptr = refl
same_is (Key.Array m i) (Key.Array n j) = refl
same_is (Key.Array m i) (Key.Struct p) = refl
same_is (Key.Struct p) Key.Int = refl
same_is (Key.Struct p) Key.Ptr = refl
same_is (Key.Struct p) (Key.Array n j) = refl
same_is (Key.Struct p) (Key.Struct q) = same_parts p.items q.items

-- a key entered at its place or at the end
entered_key : (at : ℕ) (all : List Key) (key : Key) (rest : List Key)
    → entered_at at (map shape_of all) (shape_of key) (map shape_of rest)
    ≡ record { shapes = map shape_of (cond (list_any (same_key key) rest) all (all ++ key ∷ [])); number = at + position_or_len (same_key key) rest }
entered_key at all key [] = (λ j. record { shapes = sym (map_push shape_of all key) j; number = (let e : at ≡ at + 0 = omega arith in e) j })
entered_key at all key (t ∷ rest) =
    let go : (b : Bool)
    → elim b [ true ↦ record { shapes = map shape_of all; number = at } | false ↦ entered_at (suc at) (map shape_of all) (shape_of key) (map shape_of rest) ]
    ≡ record { shapes = map shape_of (cond (b || list_any (same_key key) rest) all (all ++ key ∷ [])); number = at + cond (not b) (1 + position_or_len (same_key key) rest) 0 }
    = λ b. elim b as (λ b.
    elim b [ true ↦ record { shapes = map shape_of all; number = at } | false ↦ entered_at (suc at) (map shape_of all) (shape_of key) (map shape_of rest) ]
    ≡ record { shapes = map shape_of (cond (b || list_any (same_key key) rest) all (all ++ key ∷ [])); number = at + cond (not b) (1 + position_or_len (same_key key) rest) 0 }) [
      | true ↦ ap (λ n. record { shapes = map shape_of all; number = n }) (let e : at ≡ at + 0 = omega arith in e)
      | false ↦
          let further : suc at + position_or_len (same_key key) rest ≡ at + (1 + position_or_len (same_key key) rest) = omega arith in
          entered_key (suc at) all key rest ∙ ap (λ n. record { shapes = map shape_of (cond (list_any (same_key key) rest) all (all ++ key ∷ [])); number = n }) further
    ] in
    ap (λ b. elim b [ true ↦ record { shapes = map shape_of all; number = at } | false ↦ entered_at (suc at) (map shape_of all) (shape_of key) (map shape_of rest) ]) (sym (same_is key t))
    ∙ go (same_key key t)

pub entered_is : (keys new : List Key) (key : Key) (n : ℕ)
    → new ≡ cond (list_any (same_key key) keys) keys (keys ++ key ∷ []) → n ≡ position_or_len (same_key key) keys
    → entered (map shape_of keys) (shape_of key) ≡ record { shapes = map shape_of new; number = n }
entered_is keys new key n keeps place =
    entered_key 0 keys key keys ∙ (λ j. record { shapes = map shape_of (sym keeps j); number = (let e : 0 + position_or_len (same_key key) keys ≡ n = omega arith in e) j })
