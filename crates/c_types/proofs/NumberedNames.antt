-- Names that are numbered in turn: each has the number of its first.
use Rattle.std.proofs.Common.{◌≡◌, ℕ, suc, ◌+◌, Bool, true, false, List, [], ◌∷◌, map, length, Option, Some, None, refl, ap, sym, ◌∙◌, arith}
use Rattle.std.specs.Prelude.{nat_eq, nat_lt}
use Rattle.std.proofs.lemmas.Bool.Decides.{nat_tests}
use Rattle.c_ast.specs.declared.program.Item.{Item}
use Rattle.c_types.specs.declared.table.Table.{Table}
use Rattle.c_types.specs.declared.numbering.Numbering.{Numbering}
use Rattle.c_typed.specs.Types.{place_of}
use Rattle.c_typed.specs.Whole.{struct_defs, signatures}
use Rattle.c_types.specs.tools.Tables.{looked, put}
use Rattle.c_types.specs.tools.OutlineWalk.{no_numbers, first, next, with_tag, with_function, numbered}
use Rattle.c_types.proofs.Outlined.{number_below}
use Rattle.c_types.proofs.Bindings.{when, looked_put, same_name, none_some}

abbrev pub all_numbered : List ℕ → Numbering → Numbering
all_numbered [] n = n
all_numbered (x ∷ xs) n = all_numbered xs (next x n)

pub tags_numbered : (is : List Item) (n : Numbering) → numbered with_tag is n ≡ all_numbered (map (λ d. d.tag.name) (struct_defs is)) n
tags_numbered [] n = refl
tags_numbered (Item.Struct d ∷ is) n = tags_numbered is (next d.tag.name n)
tags_numbered (Item.Decl d ∷ is) n = tags_numbered is n
tags_numbered (Item.Function f ∷ is) n = tags_numbered is n
tags_numbered (Item.Proto p ∷ is) n = tags_numbered is n

pub functions_numbered : (tags : List ℕ) (is : List Item) (n : Numbering) → numbered with_function is n ≡ all_numbered (map (λ s. s.name) (signatures tags is)) n
functions_numbered tags [] n = refl
functions_numbered tags (Item.Struct d ∷ is) n = functions_numbered tags is n
functions_numbered tags (Item.Decl d ∷ is) n = functions_numbered tags is n
functions_numbered tags (Item.Function f ∷ is) n = functions_numbered tags is (next f.name.name n)
functions_numbered tags (Item.Proto p ∷ is) n = functions_numbered tags is n

-- what a name has already, or its place among those that come, counted from c on
abbrev or_below : Option ℕ → ℕ → ℕ → ℕ → Option ℕ
or_below (Some k) c p m = Some k
or_below None c p m = elim (nat_lt p m) [ true ↦ Some (c + p) | false ↦ None ]

abbrev place_by : Bool → ℕ → ℕ
place_by e p = elim e [ true ↦ 0 | false ↦ suc p ]

-- one more name: e says whether it is the one that is looked up
abbrev with_one : Bool → Option ℕ → Option ℕ → ℕ → Option ℕ
with_one e None own c = when e (Some c) own
with_one e (Some k) own c = own

one_looked : (x y c : ℕ) (t : Table) → looked (first c y t) x ≡ with_one (nat_eq x y) (looked t y) (looked t x) c
one_looked x y c t = by (looked t y) where
  by : (l : Option ℕ) → looked (elim l [ None ↦ put y (Some c) t | Some k ↦ t ]) x ≡ with_one (nat_eq x y) l (looked t x) c
  by None = looked_put y x (Some c) t
  by (Some k) = refl

below_zero : (m : ℕ) → nat_lt 0 (suc m) ≡ true
below_zero m = grind (arith, nat_tests)

below_next : (p m : ℕ) → nat_lt p m ≡ nat_lt (suc p) (suc m)
below_next p m = by (nat_lt p m) refl where
  by : (b : Bool) → nat_lt p m ≡ b → b ≡ nat_lt (suc p) (suc m)
  by true e = grind (arith, nat_tests, e)
  by false e = grind (arith, nat_tests, e)

first_number : (c m : ℕ) → Some c ≡ or_below None c 0 (suc m)
first_number c m =
    let e : c ≡ c + 0 = omega arith in
    ap (λ c. Some c) e ∙ ap (λ b. elim b [ true ↦ Some (c + 0) | false ↦ None ]) (sym (below_zero m))

next_number : (c p m : ℕ) → or_below None (c + 1) p m ≡ or_below None c (suc p) (suc m)
next_number c p m =
    let e : (c + 1) + p ≡ c + suc p = omega arith in
    ap (λ n. elim (nat_lt p m) [ true ↦ Some n | false ↦ None ]) e ∙ ap (λ b. elim b [ true ↦ Some (c + suc p) | false ↦ None ]) (below_next p m)

numbered_one : (e : Bool) (other own : Option ℕ) (c p m : ℕ) → (e ≡ true → own ≡ other) → or_below (with_one e other own c) (c + 1) p m ≡ or_below own c (place_by e p) (suc m)
numbered_one true None None c p m same = first_number c m
numbered_one true None (Some j) c p m same = absurd (none_some (sym (same refl)))
numbered_one true (Some k) None c p m same = absurd (none_some (same refl))
numbered_one true (Some k) (Some j) c p m same = refl
numbered_one false None None c p m same = next_number c p m
numbered_one false (Some k) None c p m same = next_number c p m
numbered_one false None (Some j) c p m same = refl
numbered_one false (Some k) (Some j) c p m same = refl

ends : (o : Option ℕ) (c : ℕ) → o ≡ or_below o c 0 0
ends None c = refl
ends (Some k) c = refl

all_looked : (x : ℕ) (xs : List ℕ) (n : Numbering) → looked (all_numbered xs n).table x ≡ or_below (looked n.table x) n.count (place_of x xs) (length xs)
all_looked x [] n = ends (looked n.table x) n.count
all_looked x (y ∷ xs) n =
    all_looked x xs (next y n) ∙ ap (λ o. or_below o (n.count + 1) (place_of x xs) (length xs)) (one_looked x y n.count n.table)
    ∙ numbered_one (nat_eq x y) (looked n.table y) (looked n.table x) n.count (place_of x xs) (length xs) (λ e. ap (looked n.table) (same_name x y e))

pub names_looked : (x : ℕ) (xs : List ℕ) → looked (all_numbered xs no_numbers).table x ≡ number_below (place_of x xs) (length xs)
names_looked x xs = all_looked x xs no_numbers ∙ ap (λ n. elim (nat_lt (place_of x xs) (length xs)) [ true ↦ Some n | false ↦ None ]) (from_zero (place_of x xs)) where
  from_zero : (n : ℕ) → 0 + n ≡ n
  from_zero n = omega arith

all_counted : (xs : List ℕ) (n : Numbering) → (all_numbered xs n).count ≡ n.count + length xs
all_counted [] n = omega arith
all_counted (x ∷ xs) n = let rest = all_counted xs (next x n) in omega (arith, rest)

pub names_counted : (xs : List ℕ) → (all_numbered xs no_numbers).count ≡ length xs
names_counted xs = let all = all_counted xs no_numbers in omega (arith, all)
