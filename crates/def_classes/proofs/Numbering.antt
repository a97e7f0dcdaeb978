-- Rows that are numbered through keys that point to them.
use Rattle.std.proofs.Common.{◌≡◌, ℕ, suc, ◌+◌, ◌<◌, ◌≤◌, Bool, true, false, cond, not, ◌||◌, List, [], ◌∷◌, ◌++◌, length, map, get_or, take, refl, sym, ap, ◌∙◌, arith}
use Rattle.std.specs.Prelude.{nat_eq}
use Rattle.std.specs.Cmp.Lexicographic.{pointwise}
use Rattle.std.specs.List.{list_any, position_or_len}
use Rattle.std.proofs.Common.{Bor}
use Rattle.std.proofs.lemmas.Cmp.{nat_list_eq_equiv}
use Rattle.std.proofs.lemmas.List.{length-take, map_push, take_more}
use Rattle.def_classes.specs.tools.Readers.{same_list}
use Rattle.def_classes.specs.tools.EachOnce.{each_once, place_of, with_member}
use Rattle.def_classes.proofs.Once.{each_once-push, length-each_once, numbers-push, place_of-le}

abbrev pub row_at : Bor (List ℕ) → List ℕ
row_at key = key.now

-- two keys point to the same row
abbrev pub same_row : Bor (List ℕ) → Bor (List ℕ) → Bool
same_row a b = pointwise nat_eq a.now b.now

pub same_itself : (xs : List ℕ) → same_list xs xs ≡ true
same_itself xs = nat_list_eq_equiv.refl xs

any_row : (key : Bor (List ℕ)) (keys : List (Bor (List ℕ))) → list_any (same_row key) keys ≡ list_any (same_list key.now) (map row_at keys)
any_row key [] = refl
any_row key (k ∷ keys) = ap (λ b. same_row key k || b) (any_row key keys)

place_row : (key : Bor (List ℕ)) (keys : List (Bor (List ℕ))) → position_or_len (same_row key) keys ≡ place_of same_list (map row_at keys) key.now
place_row key [] = refl
place_row key (k ∷ keys) = ap (λ n. cond (not (same_row key k)) (1 + n) 0) (place_row key keys)

inserted : (key : Bor (List ℕ)) (keys : List (Bor (List ℕ))) (b : Bool) → map row_at (cond b keys (keys ++ key ∷ [])) ≡ cond b (map row_at keys) (map row_at keys ++ key.now ∷ [])
inserted key keys true = refl
inserted key keys false = map_push row_at keys key

-- the rows of the keys behind one more row
pub distinct-more : (rows : List (List ℕ)) (i : ℕ) (key : Bor (List ℕ)) (old new : List (Bor (List ℕ))) → i < length rows → key.now ≡ get_or rows i key.now
    → map row_at old ≡ each_once same_list (take i rows) → new ≡ cond (list_any (same_row key) old) old (old ++ key ∷ [])
    → map row_at new ≡ each_once same_list (take (i + 1) rows)
distinct-more rows i key old new within is before added =
    let members = each_once same_list (take i rows) in
    ap (map row_at) added ∙ inserted key old (list_any (same_row key) old)
    ∙ ap (λ b. cond b (map row_at old) (map row_at old ++ key.now ∷ [])) (any_row key old)
    ∙ ap (λ ks. with_member same_list ks key.now) before
    ∙ ap (with_member same_list members) is
    ∙ sym (each_once-push same_list (take i rows) (get_or rows i key.now))
    ∙ ap (each_once same_list) (sym (take_more rows i key.now within))

-- the place of one more row among the earlier ones
pub place-more : (rows : List (List ℕ)) (i : ℕ) (key : Bor (List ℕ)) (old : List (Bor (List ℕ))) (place : ℕ)
    → map row_at old ≡ each_once same_list (take i rows) → place ≡ position_or_len (same_row key) old
    → place ≡ place_of same_list (each_once same_list (take i rows)) key.now
place-more rows i key old place before is = is ∙ place_row key old ∙ ap (λ ks. place_of same_list ks key.now) before

pub numbers-more : (rows : List (List ℕ)) (i : ℕ) (row : List ℕ) (place : ℕ) (numbers : List ℕ) → i < length rows → row ≡ get_or rows i row
    → place ≡ place_of same_list (each_once same_list (take i rows)) row
    → numbers ≡ map (λ row. suc (place_of same_list (each_once same_list (take i rows)) row)) (take i rows)
    → numbers ++ (place + 1) ∷ [] ≡ map (λ row. suc (place_of same_list (each_once same_list (take (i + 1) rows)) row)) (take (i + 1) rows)
numbers-more rows i row place numbers within is placed before =
    let earlier = take i rows in
    let number : place + 1 ≡ suc (place_of same_list (each_once same_list earlier) (get_or rows i row))
    = ap (λ n. n + 1) (placed ∙ ap (place_of same_list (each_once same_list earlier)) is) ∙ omega arith in
    (λ j. before j ++ number j ∷ [])
    ∙ sym (numbers-push same_list same_itself suc earlier (get_or rows i row))
    ∙ ap (λ xs. map (λ row. suc (place_of same_list (each_once same_list xs) row)) xs) (sym (take_more rows i row within))

pub place-small : (rows : List (List ℕ)) (i place : ℕ) (row : List ℕ) → i ≤ length rows → place ≡ place_of same_list (each_once same_list (take i rows)) row → place ≤ length rows
place-small rows i place row le is =
    let a = place_of-le same_list row (each_once same_list (take i rows)) in
    let b = length-each_once same_list (take i rows) in
    omega (arith, length-take i rows)
