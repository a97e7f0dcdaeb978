-- The words of a struct are those of its fields together, at least one, where structs by value stand before.
use Rattle.std.proofs.Common.{◌≡◌, ℕ, zero, suc, ◌*◌, ◌<◌, ◌≤◌, List, [], ◌∷◌, ◌++◌, map, length, get_or, refl, ap, sym, ◌∙◌, subst, arith}
use Rattle.std.specs.Prelude.{All}
use Rattle.std.proofs.lemmas.List.{append_assoc}
use Rattle.std.proofs.lemmas.List.Elements.{All-head, All-tail}
use Rattle.c_ast.specs.Ast.{HasFields}
use Rattle.c_ast.specs.declared.decl.Base.{Base}
use Rattle.c_ast.specs.declared.decl.Declarator.{Declarator}
use Rattle.c_ast.specs.declared.program.Field.{Field}
use Rattle.c_ast.specs.declared.program.StructDef.{StructDef}
use Rattle.c_ast.specs.declared.program.Item.{Item}
use Rattle.c_typed.specs.declared.types.BaseType.{BaseType}
use Rattle.c_typed.specs.declared.program.Struct.{Struct}
use Rattle.c_typed.specs.Types.{words_of, item_words, times}
use Rattle.c_typed.specs.Whole.{Member, member, members, members_words, sizes_of, struct_defs}
use Rattle.c_typed.specs.Programs.{struct_by}
use Rattle.c_typed.specs.IsWell.{IsEarlier, IsObject, words_in}
use Rattle.c_typed.proofs.WellFunctions.{AllOf, all_append}
use Rattle.c_typed.proofs.WellTables.{length_after}
use Rattle.c_typed.proofs.WellEarlier.{Earlier, EarlierFrom}

-- The words of fields by the structs before theirs, and by all structs.
abbrev Agree : ℕ → List ℕ → List ℕ → Type 0
Agree n xs ys = (j : ℕ) → j < n → get_or xs j 0 ≡ get_or ys j 0

item_same : (n : ℕ) (xs ys : List ℕ) → Agree n xs ys → (b : BaseType) (stars : ℕ) → IsEarlier n b stars → item_words xs b stars ≡ item_words ys b stars
item_same n xs ys same BaseType.Int zero is = refl
item_same n xs ys same (BaseType.Struct j) zero is = same j is
item_same n xs ys same BaseType.Unknown zero is = refl
item_same n xs ys same b (suc s) is = refl

members_same : (n : ℕ) (xs ys : List ℕ) → Agree n xs ys → (ms : List Member) → AllOf (Earlier n) (map (λ m. m.object) ms) → members_words xs ms ≡ words_in ys (map (λ m. m.object) ms)
members_same n xs ys same [] all = refl
members_same n xs ys same (m ∷ ms) all =
    let own : words_of xs m.object ≡ words_of ys m.object = ap (times m.object.lengths) (item_same n xs ys same m.object.base m.object.stars all.0) in
    let rest = members_same n xs ys same ms all.1 in
    omega (arith, own, rest)

agree_front : (xs : List ℕ) (n : ℕ) → Agree (length xs) xs (xs ++ (n ∷ []))
agree_front [] n j less = absurd (omega (arith, less))
agree_front (x ∷ xs) n zero less = refl
agree_front (x ∷ xs) n (suc j) less = agree_front xs n j (omega (arith, less))

agree_all : (xs : List ℕ) (ss : List (List Member)) → Agree (length xs) xs (sizes_of xs ss)
agree_all xs [] j less = refl
agree_all xs (ms ∷ ss) j less =
    let n = members_words xs ms in
    let one_more = length_after xs n in
    agree_front xs n j less ∙ agree_all (xs ++ (n ∷ [])) ss j (omega (arith, less, one_more))

-- the sizes behind those that are given
abbrev new_sizes : List ℕ → List (List Member) → List ℕ
new_sizes xs [] = []
new_sizes xs (ms ∷ ss) = members_words xs ms ∷ new_sizes (xs ++ (members_words xs ms ∷ [])) ss

append_none : (xs : List ℕ) → xs ≡ xs ++ []
append_none [] = refl
append_none (x ∷ xs) = ap (λ xs. x ∷ xs) (append_none xs)

sizes_split : (xs : List ℕ) (ss : List (List Member)) → sizes_of xs ss ≡ xs ++ new_sizes xs ss
sizes_split xs [] = append_none xs
sizes_split xs (ms ∷ ss) =
    let n = members_words xs ms in
    sizes_split (xs ++ (n ∷ [])) ss ∙ append_assoc xs (n ∷ []) (new_sizes (xs ++ (n ∷ [])) ss)

abbrev pub HasWords : List ℕ → Struct → Type 0
HasWords sizes d = d.words ≡ words_in sizes d.fields

words_from : (full xs : List ℕ) (ss : List (List Member)) → sizes_of xs ss ≡ full → EarlierFrom (length xs) ss → AllOf (HasWords full) (struct_by (new_sizes xs ss) ss)
words_from full xs [] e all = tt
words_from full xs (ms ∷ ss) e all =
    let n = members_words xs ms in (
      members_same (length xs) xs full (subst (Agree (length xs) xs) e (agree_all xs (ms ∷ ss))) ms all.0,
      words_from full (xs ++ (n ∷ [])) ss e (subst (λ n. EarlierFrom n ss) (sym (length_after xs n)) all.1),
    )

pub words_all : (ss : List (List Member)) → EarlierFrom 0 ss → AllOf (HasWords (sizes_of [] ss)) (struct_by (sizes_of [] ss) ss)
words_all ss all = subst (λ sizes. AllOf (HasWords (sizes_of [] ss)) (struct_by sizes ss)) (sym (sizes_split [] ss)) (words_from (sizes_of [] ss) [] ss refl all)

-- At least one word.
abbrev Positive : List ℕ → Type 0
Positive ns = AllOf (λ n. 1 ≤ n) ns

mul_positive : (m n : ℕ) → 1 ≤ m → 1 ≤ n → 1 ≤ m * n
mul_positive zero n first second = absurd (omega (arith, first))
mul_positive (suc m) n first second = omega (arith, second)

times_positive : (ns : List ℕ) (k : ℕ) → All (λ n. 0 < n) ns → 1 ≤ k → 1 ≤ times ns k
times_positive [] k all is = is
times_positive (n ∷ ns) k all is =
    let first : 1 ≤ n = let less = All-head (λ n. 0 < n) n ns all in omega (arith, less) in
    mul_positive n (times ns k) first (times_positive ns k (All-tail (λ n. 0 < n) n ns all) is)

get_positive : (xs : List ℕ) (j : ℕ) → Positive xs → j < length xs → 1 ≤ get_or xs j 0
get_positive [] j all less = absurd (omega (arith, less))
get_positive (x ∷ xs) zero all less = all.0
get_positive (x ∷ xs) (suc j) all less = get_positive xs j all.1 (omega (arith, less))

item_positive : (xs : List ℕ) → Positive xs → (b : BaseType) (stars : ℕ) → IsEarlier (length xs) b stars → 1 ≤ item_words xs b stars
item_positive xs all BaseType.Int zero is = omega arith
item_positive xs all (BaseType.Struct j) zero is = get_positive xs j all is
item_positive xs all BaseType.Unknown zero is = absurd is
item_positive xs all b (suc s) is = omega arith

members_positive : (structs : List Struct) (xs : List ℕ) (ms : List Member) → 1 ≤ length ms → AllOf (IsObject structs) (map (λ m. m.object) ms) → AllOf (Earlier (length xs)) (map (λ m. m.object) ms) → Positive xs
    → 1 ≤ members_words xs ms
members_positive structs xs [] some objects earlier all = absurd (omega (arith, some))
members_positive structs xs (m ∷ ms) some objects earlier all =
    let own = times_positive m.object.lengths (item_words xs m.object.base m.object.stars) objects.0.lengths (item_positive xs all m.object.base m.object.stars earlier.0) in
    omega (arith, own)

pub sizes_positive : (structs : List Struct) (xs : List ℕ) (ss : List (List Member)) → Positive xs → EarlierFrom (length xs) ss → AllOf (λ ms. 1 ≤ length ms) ss
    → AllOf (λ (ms : List Member). AllOf (IsObject structs) (map (λ m. m.object) ms)) ss → AllOf (λ n. 1 ≤ n) (sizes_of xs ss)
sizes_positive structs xs [] all earlier some objects = all
sizes_positive structs xs (ms ∷ ss) all earlier some objects =
    let n = members_words xs ms in
    sizes_positive structs (xs ++ (n ∷ [])) ss (all_append (λ n. 1 ≤ n) xs (n ∷ []) all (members_positive structs xs ms some.0 objects.0 earlier.0 all, tt))
    (subst (λ n. EarlierFrom n ss) (sym (length_after xs n)) earlier.1) some.1 objects.1

-- At least one field.
some_before : (tags : List ℕ) (b : Base) (ds : List Declarator) (rest : List Member) → 1 ≤ length ds → 1 ≤ length (map (member tags b) ds ++ rest)
some_before tags b [] rest some = absurd (omega (arith, some))
some_before tags b (d ∷ ds) rest some = omega arith

some_members : (tags : List ℕ) (fs : List Field) → 1 ≤ length fs → All (λ (f : Field). 1 ≤ length f.items) fs → 1 ≤ length (members tags fs)
some_members tags [] some all = absurd (omega (arith, some))
some_members tags (f ∷ fs) some all = some_before tags f.base f.items (members tags fs) (All-head (λ (f : Field). 1 ≤ length f.items) f fs all)

pub all_some : (tags : List ℕ) (is : List Item) → All HasFields is → AllOf (λ ms. 1 ≤ length ms) (map (λ (d : StructDef). members tags d.fields) (struct_defs is))
all_some tags [] all = tt
all_some tags (Item.Struct d ∷ is) all =
    let own : HasFields (Item.Struct d) = All-head HasFields (Item.Struct d) is all in
    (some_members tags d.fields own.0 own.1, all_some tags is (All-tail HasFields (Item.Struct d) is all))
all_some tags (Item.Decl d ∷ is) all = all_some tags is (All-tail HasFields (Item.Decl d) is all)
all_some tags (Item.Function f ∷ is) all = all_some tags is (All-tail HasFields (Item.Function f) is all)
all_some tags (Item.Proto p ∷ is) all = all_some tags is (All-tail HasFields (Item.Proto p) is all)
