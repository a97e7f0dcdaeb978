-- In a text that breaks no rule a struct that stands by value in another stands before it.
use Rattle.std.proofs.Common.{◌≡◌, ℕ, zero, suc, ◌+◌, ◌<◌, ◌≤◌, Bool, true, false, ◌||◌, List, [], ◌∷◌, ◌++◌, map, length, Option, Some, None, refl, ap, sym, ◌∙◌, subst, arith}
use Rattle.std.specs.Prelude.{slice_get, nat_eq, nat_lt}
use Rattle.std.proofs.lemmas.List.{append_assoc}
use Rattle.std.proofs.lemmas.Bool.Decides.{nat_tests}
use Rattle.dfi_base.specs.declared.numbers.Line.{Line}
use Rattle.c_ast.specs.declared.decl.Base.{Base}
use Rattle.c_ast.specs.declared.decl.Declarator.{Declarator}
use Rattle.c_ast.specs.declared.decl.DeclItem.{DeclItem}
use Rattle.c_ast.specs.declared.program.Field.{Field}
use Rattle.c_ast.specs.declared.program.StructDef.{StructDef}
use Rattle.c_ast.specs.declared.program.Item.{Item}
use Rattle.c_typed.specs.declared.types.BaseType.{BaseType}
use Rattle.c_typed.specs.declared.types.ObjectType.{ObjectType}
use Rattle.c_typed.specs.declared.program.Struct.{Struct}
use Rattle.c_typed.specs.Types.{place_of, base_type, declared_type}
use Rattle.c_typed.specs.Marks as marks
use Rattle.c_typed.specs.Marks.{tag, History, has_tag}
use Rattle.c_typed.specs.Whole.{Whole, Member, members, struct_defs}
use Rattle.c_typed.specs.Faults.{unknown, twice, unless}
use Rattle.c_typed.specs.Parts.{Place, marked, behind, tokens, mark, kept_by, separated, in_turn, ◌⊗>◌}
use Rattle.c_typed.specs.Tags.{base}
use Rattle.c_typed.specs.Decls.{by_value, field_item, fields}
use Rattle.c_typed.specs.Programs.{struct, struct_by, item}
use Rattle.c_typed.specs.IsWell.{IsEarlier}
use Rattle.c_typed.proofs.Balanced.{tags_outside}
use Rattle.c_typed.proofs.WellParts.{none_first, none_second, none_some, some_is, none_each}
use Rattle.c_typed.proofs.WellMarks.{false_true}
use Rattle.c_typed.proofs.WellFunctions.{AllOf, all_append}
use Rattle.c_typed.proofs.WellOuter.{tags_fields, line_fields, decl_globals}
use Rattle.c_typed.proofs.WellStructs.{line_objects, members_objects}
use Rattle.c_typed.proofs.WellTables.{length_after}
use Rattle.c_typed.proofs.WellTexts.{AllClean}
use Rattle.c_typed.proofs.WellCounts.{IsUnmoved, fields_closed, struct_marked, over_struct_fields, over_proto, over_function}

-- a type that is not by value one of struct n or of one behind
abbrev pub Earlier : ℕ → ObjectType → Type 0
Earlier n t = IsEarlier n t.base t.stars

abbrev BaseBefore : ℕ → BaseType → Type 0
BaseBefore n BaseType.Int = Unit {0}
BaseBefore n (BaseType.Struct j) = j < n
BaseBefore n BaseType.Unknown = ⊥

-- the structs that are whole here are among the first n
abbrev Before : Whole → ℕ → History → Type 0
Before w n h = (x : ℕ) → has_tag x h ≡ true → place_of x w.tags < n

-- One line of fields.
by_stars : (n : ℕ) (b : BaseType) (stars : ℕ) → (nat_eq stars 0 ≡ true → BaseBefore n b) → IsEarlier n b stars
by_stars n BaseType.Int zero is = tt
by_stars n BaseType.Int (suc s) is = tt
by_stars n (BaseType.Struct j) zero is = is refl
by_stars n (BaseType.Struct j) (suc s) is = tt
by_stars n BaseType.Unknown zero is = is refl
by_stars n BaseType.Unknown (suc s) is = tt

or_first : (a b : Bool) → a ≡ true → a || b ≡ true
or_first true b e = refl
or_first false b e = absurd (false_true e)

or_second : (a b : Bool) → b ≡ true → a || b ≡ true
or_second true b e = refl
or_second false b e = e

all_earlier : (n : ℕ) (tags : List ℕ) (b : Base) (ds : List Declarator) → (by_value ds ≡ true → BaseBefore n (base_type tags b)) → AllOf (Earlier n) (map (declared_type tags b) ds)
all_earlier n tags b [] is = tt
all_earlier n tags b (d ∷ ds) is =
    (by_stars n (base_type tags b) d.stars (λ e. is (or_first (nat_eq d.stars 0) (by_value ds) e)), all_earlier n tags b ds (λ e. is (or_second (nat_eq d.stars 0) (by_value ds) e)))

base_when : (w : Whole) (n x : ℕ) (line : Line) (h : History) (b : Bool) (at : ℕ) → Before w n h → has_tag x h ≡ b
    → (kept_by unknown line at [] (elim b as (λ b. Option (Unit {0})) [ true ↦ Some tt | false ↦ None ])).faults ≡ [] → place_of x w.tags < n
base_when w n x line h true at is test e = is x test
base_when w n x line h false at is test e = absurd (none_each e)

-- the struct of a number below both
struct_before : (n m k : ℕ) (b : Bool) → nat_lt k m ≡ b → k < n → k < m → BaseBefore n (elim b as (λ b. BaseType) [ true ↦ BaseType.Struct k | false ↦ BaseType.Unknown ])
struct_before n m k true at less within = less
struct_before n m k false at less within = absurd (grind (arith, nat_tests, at, within))

base_before : (w : Whole) (n : ℕ) (v : Bool) (b : Base) (here : Place) → n ≤ length w.tags → Before w n here.before → ((base w v b).judge here).faults ≡ [] → v ≡ true → BaseBefore n (base_type w.tags b)
base_before w n false b here le is e value = absurd (false_true value)
base_before w n true (Base.Int line) here le is e value = tt
base_before w n true (Base.Struct line x) here le is e value =
    let less = base_when w n x.name x.line here.before (has_tag x.name here.before) (here.at + 1) is refl e in
    struct_before n (length w.tags) (place_of x.name w.tags) (nat_lt (place_of x.name w.tags) (length w.tags)) refl less (omega (arith, less, le))

line_earlier : (w : Whole) (n : ℕ) (f : Field) (here : Place) → n ≤ length w.tags → Before w n here.before → ((fields w f).judge here).faults ≡ [] → AllOf (Earlier n) (map (declared_type w.tags f.base) f.items)
line_earlier w n f here le is e =
    let bs = base w (by_value f.items) f.base in
    let items = ((separated (map (field_item w f.base) f.items)).judge (behind bs here)).faults in
    all_earlier n w.tags f.base f.items (base_before w n (by_value f.items) f.base here le is (none_first (bs.judge here).faults items (none_first ((bs.judge here).faults ++ items) [] e)))

lines_earlier : (w : Whole) (n : ℕ) (fs : List Field) (here : Place) → n ≤ length w.tags → Before w n here.before → ((in_turn (map (fields w) fs)).judge here).faults ≡ [] → AllOf (Earlier n) (line_objects w.tags fs)
lines_earlier w n [] here le is e = tt
lines_earlier w n (f ∷ fs) here le is e =
    let there = behind (fields w f) here in
    let own = ((fields w f).judge here).faults in
    let rest = ((in_turn (map (fields w) fs)).judge there).faults in
    all_append (Earlier n) (map (declared_type w.tags f.base) f.items) (line_objects w.tags fs) (line_earlier w n f here le is (none_first own rest e))
    (lines_earlier w n fs there le (λ x t. is x (sym (tags_fields x here.before (fields w f).marks (line_fields w f)) ∙ t)) (none_second own rest e))

struct_earlier : (w : Whole) (n : ℕ) (d : StructDef) (here : Place) → n ≤ length w.tags → Before w n here.before → ((struct w d).judge here).faults ≡ [] → AllOf (Earlier n) (map (λ m. m.object) (members w.tags d.fields))
struct_earlier w n d here le is e =
    let q = tokens 3 ⊗> mark (marks.opens marks.fields) in
    let there = behind q here in
    let fs = (in_turn (map (fields w) d.fields)).judge there in
    let own = unless (Rattle.std.specs.Prelude.not (has_tag d.tag.name here.before)) (here.at + 1) twice d.tag.line in
    let inner = none_first fs.faults [] (none_first (fs.faults ++ []) [] (none_first (fs.faults ++ [] ++ []) [] (none_second own (fs.faults ++ [] ++ [] ++ []) e))) in
    subst (AllOf (Earlier n)) (sym (members_objects w.tags d.fields)) (lines_earlier w n d.fields there le is inner)

-- The structs of a text.
place_when : (x : ℕ) (pre rest : List ℕ) (b : Bool) → place_of x (pre ++ (x ∷ rest)) ≤ length pre → elim b as (λ b. ℕ) [ true ↦ 0 | false ↦ suc (place_of x (pre ++ (x ∷ rest))) ] ≤ suc (length pre)
place_when x pre rest true le = omega arith
place_when x pre rest false le = omega (arith, le)

place_own : (pre : List ℕ) (x : ℕ) (rest : List ℕ) → place_of x (pre ++ (x ∷ rest)) ≤ length pre
place_own [] x rest = by (nat_eq x x) (grind (arith, nat_tests)) where
  by : (b : Bool) → b ≡ true → elim b as (λ b. ℕ) [ true ↦ 0 | false ↦ suc (place_of x rest) ] ≤ 0
  by true e = omega arith
  by false e = absurd (false_true e)
place_own (p ∷ pre) x rest = place_when x pre rest (nat_eq x p) (place_own pre x rest)

tags_unmoved : (x : ℕ) → IsUnmoved (has_tag x)
tags_unmoved x = record { outside = tags_outside x; over_field = λ y t h. refl; over_prototype = λ y h. refl }

tag_when : (w : Whole) (n x y : ℕ) (h : History) (b : Bool) → place_of y w.tags ≤ n → nat_eq x y ≡ b → (has_tag x h ≡ true → place_of x w.tags < n) → b || has_tag x h ≡ true → place_of x w.tags < suc n
tag_when w n x y h true le at rest e = let same : x ≡ y = grind (arith, nat_tests, at) in subst (λ x. place_of x w.tags < suc n) (sym same) (omega (arith, le))
tag_when w n x y h false le at rest e = let less = rest e in omega (arith, less)

behind_struct : (w : Whole) (n : ℕ) (d : StructDef) (h : History) → place_of d.tag.name w.tags ≤ n → Before w n h → Before w (suc n) (marked (struct w d).marks h)
behind_struct w n d h le is =
    subst (Before w (suc n)) (sym (struct_marked w d h))
    (λ x e. tag_when w n x d.tag.name (fields_closed w d h) (nat_eq x d.tag.name) le refl (λ t. is x (sym (over_struct_fields w (has_tag x) (tags_unmoved x) d h) ∙ t)) e)

over_globals : (w : Whole) (x : ℕ) (b : Base) (is : List DeclItem) (h : History) → has_tag x (marked (map (λ i. marks.global i.declarator.name.name (declared_type w.tags b i.declarator)) is) h) ≡ has_tag x h
over_globals w x b [] h = refl
over_globals w x b (i ∷ is) h = over_globals w x b is (marks.global i.declarator.name.name (declared_type w.tags b i.declarator) ∷ h)

abbrev pub EarlierFrom : ℕ → List (List Member) → Type 0
EarlierFrom n [] = Unit {0}
EarlierFrom n (ms ∷ rest) = AllOf (Earlier n) (map (λ m. m.object) ms) × EarlierFrom (suc n) rest

front_within : (pre rest : List ℕ) → length pre ≤ length (pre ++ rest)
front_within [] rest = omega arith
front_within (p ∷ pre) rest = (let le = front_within pre rest in omega (arith, le))

abbrev fields_of : List ℕ → List Item → List (List Member)
fields_of tags is = map (λ (d : StructDef). members tags d.fields) (struct_defs is)

structs_earlier : (w : Whole) (is : List Item) (pre : List ℕ) (here : Place) → w.tags ≡ pre ++ map (λ (d : StructDef). d.tag.name) (struct_defs is) → Before w (length pre) here.before → AllClean w is here
    → EarlierFrom (length pre) (fields_of w.tags is)
structs_earlier w [] pre here e was clean = tt
structs_earlier w (Item.Struct d ∷ is) pre here e was clean =
    let tags = map (λ (d : StructDef). d.tag.name) (struct_defs is) in
    let one_more = length_after pre d.tag.name in
    let own = subst (λ ts. place_of d.tag.name ts ≤ length pre) (sym e) (place_own pre d.tag.name tags) in (
      struct_earlier w (length pre) d here (subst (λ ts. length pre ≤ length ts) (sym e) (front_within pre (d.tag.name ∷ tags))) was clean.0,
      subst (λ n. EarlierFrom n (fields_of w.tags is)) one_more
          (structs_earlier w is (pre ++ (d.tag.name ∷ [])) (behind (item w (Item.Struct d)) here) (e ∙ sym (append_assoc pre (d.tag.name ∷ []) tags))
          (subst (λ n. Before w n (marked (struct w d).marks here.before)) (sym one_more) (behind_struct w (length pre) d here.before own was)) clean.1),
    )
structs_earlier w (Item.Decl d ∷ is) pre here e was clean =
    structs_earlier w is pre (behind (item w (Item.Decl d)) here) e
    (λ x t. was x (sym (ap (λ ms. has_tag x (marked ms here.before)) (decl_globals w d) ∙ over_globals w x d.base d.items here.before) ∙ t)) clean.1
structs_earlier w (Item.Function f ∷ is) pre here e was clean =
    structs_earlier w is pre (behind (item w (Item.Function f)) here) e (λ x t. was x (sym (over_function w (has_tag x) (tags_unmoved x) f here.before) ∙ t)) clean.1
structs_earlier w (Item.Proto p ∷ is) pre here e was clean =
    structs_earlier w is pre (behind (item w (Item.Proto p)) here) e (λ x t. was x (sym (over_proto w (has_tag x) (tags_unmoved x) p here.before) ∙ t)) clean.1

pub all_structs_earlier : (w : Whole) (is : List Item) → w.tags ≡ map (λ (d : StructDef). d.tag.name) (struct_defs is) → AllClean w is (record { before = []; at = 0 }) → EarlierFrom 0 (fields_of w.tags is)
all_structs_earlier w is same clean = structs_earlier w is [] (record { before = []; at = 0 }) same (λ x e. absurd (false_true e)) clean

-- struct by struct
pub earlier_at : (n : ℕ) (sizes : List ℕ) (ss : List (List Member)) (k : ℕ) (d : Struct) → EarlierFrom n ss → slice_get (struct_by sizes ss) k ≡ Some d → AllOf (Earlier (n + k)) d.fields
earlier_at n [] ss k d all e = absurd (none_some e)
earlier_at n (m ∷ sizes) [] k d all e = absurd (none_some e)
earlier_at n (m ∷ sizes) (ms ∷ ss) zero d all e =
    let same : n ≡ n + 0 = omega arith in
    subst (λ (d : Struct). AllOf (Earlier (n + 0)) d.fields) (some_is e) (subst (λ n. AllOf (Earlier n) (map (λ m. m.object) ms)) same all.0)
earlier_at n (m ∷ sizes) (ms ∷ ss) (suc k) d all e =
    let same : suc n + k ≡ n + suc k = omega arith in subst (λ n. AllOf (Earlier n) d.fields) same (earlier_at (suc n) sizes ss k d all.1 e)
