-- How a type that is known stands among the shapes.
use Rattle.std.proofs.Common.{◌≡◌, ℕ, zero, suc, ◌<◌, ◌≤◌, true, false, List, [], ◌∷◌, ◌++◌, map, reverse, length, Option, Some, refl, ap, sym, ◌∙◌, subst, arith, append_assoc, append-nil, eq-eqb}
use Rattle.std.specs.Prelude.{nat_eq, slice_get}
use Rattle.std.proofs.lemmas.List.{reverse-append, length-append, length-reverse}
use Rattle.std.proofs.lemmas.Bool.{ne_eqb}
use Rattle.c_typed.specs.declared.types.BaseType.{BaseType}
use Rattle.c_typed.specs.declared.types.ObjectType.{ObjectType}
use Rattle.c_typed.specs.declared.types.ExprType.{ExprType}
use Rattle.c_typed.specs.declared.program.Struct.{Struct}
use Rattle.c_typed.specs.Types.{scalar_type}
use Rattle.c_typed.specs.Exprs.{struct_of}
use Rattle.c_typed.specs.IsWell.{IsEarlier}
use Rattle.tac_ir.specs.declared.code.Shape.{Shape}
use Rattle.tac_lower.specs.Shapes.{Entry, Structs, entered, base_entry, array_entry, object_entry, part_entries, whole_entry, struct_entry, entry, shapes_from}
use Rattle.tac_lower.proofs.form.Lists.{front_empty, back_empty}
use Rattle.tac_lower.proofs.form.Each.{Each}
use Rattle.tac_lower.proofs.interned.Interns.{InternsStructs, shape_interns, object_interns, parts_intern, structs_intern, type_interns, shapes_from-grow}
use Rattle.tac_lower.proofs.form.Shapes.{outcome, outcome_there}

no_growth : {A : Type 0} (xs ys : List A) → xs ++ ys ≡ xs → ys ≡ []
no_growth xs [] h = refl
no_growth xs (y ∷ ys) h = absurd (omega (arith, ap length h, length-append xs (y ∷ ys)))

-- Types that are entered are known at the end.
pub needed_known : (structs : List Struct) (shapes : List Shape) (ts : List ObjectType)
    → Each (λ t. (entry structs t (shapes_from structs shapes ts)).shapes ≡ shapes_from structs shapes ts) ts
needed_known structs shapes [] = tt
needed_known structs shapes (t ∷ ts) =
    let e = entry structs t shapes in
    let rest = shapes_from-grow structs e.shapes ts in
    let known = (type_interns structs t).known shapes rest.0 in
    (subst (λ all. (entry structs t all).shapes ≡ all) (sym rest.1) known, needed_known structs e.shapes ts)

-- Structs among others.
pub struct_later : (later earlier : List Struct) (k : ℕ) (shapes : List Shape) → k < length earlier → struct_entry (later ++ earlier) k shapes ≡ struct_entry earlier k shapes
unfolding struct_entry
struct_later [] earlier k shapes h = refl
struct_later (x ∷ later) earlier k shapes h =
    let other : nat_eq k (length (later ++ earlier)) ≡ false = ne_eqb k (length (later ++ earlier)) (λ e. omega (arith, length-append later earlier)) in
    ap (λ b. elim b as (λ b. Entry) [ true ↦ whole_entry (part_entries (struct_entry (later ++ earlier)) [] x.fields shapes) | false ↦ struct_entry (later ++ earlier) k shapes ]) other
    ∙ struct_later later earlier k shapes h

pub struct_here : (d : Struct) (earlier : List Struct) (k : ℕ) (shapes : List Shape) → k ≡ length earlier → struct_entry (d ∷ earlier) k shapes ≡ whole_entry (part_entries (struct_entry earlier) [] d.fields shapes)
unfolding struct_entry
struct_here d earlier k shapes e =
    ap (λ b. elim b as (λ b. Entry) [ true ↦ whole_entry (part_entries (struct_entry earlier) [] d.fields shapes) | false ↦ struct_entry earlier k shapes ]) (eq-eqb k (length earlier) e)

-- a list at one of its members
record Split {A : Type 0} (xs : List A) (i : ℕ) (x : A) : Type 0 where
  pre : List A
  post : List A
  split : xs ≡ pre ++ x ∷ post
  at : length pre ≡ i

split_at : {A : Type 0} (xs : List A) (i : ℕ) (x : A) → slice_get xs i ≡ Some x → Split xs i x
split_at [] i x h = cc
split_at (y ∷ xs) zero x h = record { pre = []; post = xs; split = (let e : y ≡ x = cc in ap (λ z. z ∷ xs) e); at = refl }
split_at (y ∷ xs) (suc i) x h = (let s = split_at xs i x h in record { pre = y ∷ s.pre; post = s.post; split = ap (λ zs. y ∷ zs) s.split; at = ap suc s.at })

reverse_split : {A : Type 0} (pre post : List A) (x : A) → reverse (pre ++ x ∷ post) ≡ reverse post ++ (x ∷ reverse pre)
reverse_split pre post x =
    reverse-append pre (x ∷ post) ∙ ap (λ ys. ys ++ reverse pre) (reverse-append (x ∷ []) post) ∙ append_assoc (reverse post) (x ∷ []) (reverse pre)

-- The parts of a struct that adds no shape add none.
record PartsKnown (st : Structs) (shapes : List Shape) (numbers : List ℕ) (ts : List ObjectType) : Type 0 where
  each : Each (λ t. (object_entry st t shapes).shapes ≡ shapes) ts
  numbers_are : (part_entries st numbers ts shapes).numbers ≡ numbers ++ map (λ t. (object_entry st t shapes).number) ts

parts_known : (st : Structs) → InternsStructs st → (shapes : List Shape) (ts : List ObjectType) (numbers : List ℕ) → (part_entries st numbers ts shapes).shapes ≡ shapes → PartsKnown st shapes numbers ts
parts_known st interns shapes [] numbers h = record { each = tt; numbers_are = sym (append-nil numbers) }
parts_known st interns shapes (t ∷ ts) numbers h =
    let e = object_entry st t shapes in
    let one = object_interns st interns t in
    let more = parts_intern st interns (numbers ++ e.number ∷ []) ts in
    let all : shapes ++ (one.added shapes ++ more.added e.shapes) ≡ shapes =
    sym (append_assoc shapes (one.added shapes) (more.added e.shapes)) ∙ ap (λ xs. xs ++ more.added e.shapes) (sym (one.grows shapes)) ∙ sym (more.grows e.shapes) ∙ h in
    let nothing = no_growth shapes (one.added shapes ++ more.added e.shapes) all in
    let same : e.shapes ≡ shapes = one.grows shapes ∙ ap (λ xs. shapes ++ xs) (front_empty (one.added shapes) (more.added e.shapes) nothing) ∙ append-nil shapes in
    let rest = parts_known st interns shapes ts (numbers ++ e.number ∷ []) (subst (λ xs. (part_entries st (numbers ++ e.number ∷ []) ts xs).shapes ≡ xs) same (by_self e.shapes (more.added e.shapes) (more.grows e.shapes) (back_empty (one.added shapes) (more.added e.shapes) nothing))) in
    record {
      each = (same, rest.each);
      numbers_are = ap (λ xs. (part_entries st (numbers ++ e.number ∷ []) ts xs).numbers) same ∙ rest.numbers_are ∙ append_assoc numbers (e.number ∷ []) (map (λ u. (object_entry st u shapes).number) ts);
    }
  where
    by_self : {X : Type 0} (xs : List X) (added : List X) {zs : List X} → zs ≡ xs ++ added → added ≡ [] → zs ≡ xs
    by_self xs added is none = is ∙ ap (λ ys. xs ++ ys) none ∙ append-nil xs

-- A struct that is known.
pub record StructKnown (structs : List Struct) (shapes : List Shape) (t : ObjectType) (d : Struct) : Type 0 where
  pub there : slice_get shapes (entry structs t shapes).number ≡ Some (Shape.Struct (map (λ u. (entry structs u shapes).number) d.fields))
  pub fields : Each (λ u. (entry structs u shapes).shapes ≡ shapes) d.fields

-- a field's type enters as it did when its struct stood last
field_later : (later earlier : List Struct) (shapes : List Shape) (base : BaseType) (stars : ℕ) → IsEarlier (length earlier) base stars
    → base_entry (struct_entry (later ++ earlier)) base stars shapes ≡ base_entry (struct_entry earlier) base stars shapes
field_later later earlier shapes base (suc stars) is = refl
field_later later earlier shapes BaseType.Int zero is = refl
field_later later earlier shapes BaseType.Unknown zero is = refl
field_later later earlier shapes (BaseType.Struct k) zero is = struct_later later earlier k shapes is

fields_later : (later earlier : List Struct) (shapes : List Shape) (ts : List ObjectType) → Each (λ t. IsEarlier (length earlier) t.base t.stars) ts
    → (map (λ t. (object_entry (struct_entry earlier) t shapes).number) ts ≡ map (λ t. (object_entry (struct_entry (later ++ earlier)) t shapes).number) ts)
fields_later later earlier shapes [] is = refl
fields_later later earlier shapes (t ∷ ts) is =
    let here : object_entry (struct_entry earlier) t shapes ≡ object_entry (struct_entry (later ++ earlier)) t shapes = ap (array_entry t.lengths) (sym (field_later later earlier shapes t.base t.stars is.0)) in
    let rest = fields_later later earlier shapes ts is.1 in
    cc (ap (λ (e : Entry). e.number) here)

fields_known : (later earlier : List Struct) (shapes : List Shape) (ts : List ObjectType) → Each (λ t. IsEarlier (length earlier) t.base t.stars) ts
    → Each (λ t. (object_entry (struct_entry earlier) t shapes).shapes ≡ shapes) ts → Each (λ t. (object_entry (struct_entry (later ++ earlier)) t shapes).shapes ≡ shapes) ts
fields_known later earlier shapes [] is all = tt
fields_known later earlier shapes (t ∷ ts) is all =
    let here : object_entry (struct_entry earlier) t shapes ≡ object_entry (struct_entry (later ++ earlier)) t shapes = ap (array_entry t.lengths) (sym (field_later later earlier shapes t.base t.stars is.0)) in
    (subst (λ (e : Entry). e.shapes ≡ shapes) here all.0, fields_known later earlier shapes ts is.1 all.1)

struct_type : (base : BaseType) (stars : ℕ) (lengths : List ℕ) (j : ℕ) → struct_of (record { base = base; stars = stars; lengths = lengths }) ≡ Some j
    → (structs : Structs) (shapes : List Shape) → object_entry structs (record { base = base; stars = stars; lengths = lengths }) shapes ≡ structs j shapes
struct_type (BaseType.Struct k) zero [] j is structs shapes = (let e : k ≡ j = cc in ap (λ i. structs i shapes) e)
struct_type (BaseType.Struct k) zero (n ∷ ns) j is structs shapes = cc
struct_type (BaseType.Struct k) (suc stars) lengths j is structs shapes = cc
struct_type BaseType.Int stars lengths j is structs shapes = cc
struct_type BaseType.Unknown stars lengths j is structs shapes = cc

pub struct_known : (structs : List Struct) (shapes : List Shape) (t : ObjectType) (j : ℕ) (d : Struct) → struct_of t ≡ Some j → slice_get structs j ≡ Some d
    → Each (λ u. IsEarlier j u.base u.stars) d.fields → (entry structs t shapes).shapes ≡ shapes → StructKnown structs shapes t d
struct_known structs shapes t j d is found earlier known =
    let s = split_at structs j d found in
    let rs = reverse s.pre in
    let turned : reverse structs ≡ reverse s.post ++ (d ∷ rs) = ap reverse s.split ∙ reverse_split s.pre s.post d in
    let size : j ≡ length rs = sym s.at ∙ sym (length-reverse s.pre) in
    let p = part_entries (struct_entry rs) [] d.fields shapes in
    let whole : entry structs t shapes ≡ whole_entry p =
    struct_type t.base t.stars t.lengths j is (struct_entry (reverse structs)) shapes
    ∙ ap (λ xs. struct_entry xs j shapes) turned
    ∙ struct_later (reverse s.post) (d ∷ rs) j shapes (omega arith)
    ∙ struct_here d rs j shapes size in
    let e = whole_entry p in
    let still : e.shapes ≡ shapes = ap (λ (x : Entry). x.shapes) (sym whole) ∙ known in
    let parts = parts_intern (struct_entry rs) (structs_intern rs) [] d.fields in
    let one = shape_interns (Shape.Struct p.numbers) in
    let nothing : parts.added shapes ++ one.added p.shapes ≡ [] =
    no_growth shapes (parts.added shapes ++ one.added p.shapes) (sym (append_assoc shapes (parts.added shapes) (one.added p.shapes)) ∙ ap (λ xs. xs ++ one.added p.shapes) (sym (parts.grows shapes)) ∙ sym (one.grows p.shapes) ∙ still) in
    let kept : p.shapes ≡ shapes = parts.grows shapes ∙ ap (λ xs. shapes ++ xs) (front_empty (parts.added shapes) (one.added p.shapes) nothing) ∙ append-nil shapes in
    let fields = parts_known (struct_entry rs) (structs_intern rs) shapes d.fields [] kept in
    let earlier' : Each (λ u. IsEarlier (length rs) u.base u.stars) d.fields = subst (λ n. Each (λ u. IsEarlier n u.base u.stars) d.fields) size earlier in
    let later = reverse s.post ++ d ∷ [] in
    let all : later ++ rs ≡ reverse structs = append_assoc (reverse s.post) (d ∷ []) rs ∙ sym turned in
    let numbers : p.numbers ≡ map (λ u. (entry structs u shapes).number) d.fields =
    fields.numbers_are ∙ fields_later later rs shapes d.fields earlier' ∙ ap (λ xs. map (λ u. (object_entry (struct_entry xs) u shapes).number) d.fields) all in
    record {
      there = ap (λ k. slice_get shapes k) (ap (λ (x : Entry). x.number) whole) ∙ ap (λ xs. slice_get xs e.number) (sym still)
          ∙ outcome_there p.shapes (Shape.Struct p.numbers) e (outcome p.shapes (Shape.Struct p.numbers)) ∙ ap (λ ns. Some (Shape.Struct ns)) numbers;
      fields = subst (λ xs. Each (λ u. (object_entry (struct_entry xs) u shapes).shapes ≡ shapes) d.fields) all (fields_known later rs shapes d.fields earlier' fields.each);
    }

-- An array that is known.
array_there : (ns : List ℕ) (n : ℕ) (e : Entry) (shapes : List Shape) → (array_entry (n ∷ ns) e).shapes ≡ shapes → (item : ℕ) × (slice_get shapes (array_entry (n ∷ ns) e).number ≡ Some (Shape.Array n item))
array_there ns n e shapes known =
    let inner = array_entry ns e in
    let shape = Shape.Array n inner.number in
    (inner.number, ap (λ xs. slice_get xs (entered inner.shapes shape).number) (sym known) ∙ outcome_there inner.shapes shape (entered inner.shapes shape) (outcome inner.shapes shape))

pub array_known : (structs : List Struct) (shapes : List Shape) (t : ObjectType) (n : ℕ) (ns : List ℕ) → t.lengths ≡ n ∷ ns → (entry structs t shapes).shapes ≡ shapes
    → (item : ℕ) × (slice_get shapes (entry structs t shapes).number ≡ Some (Shape.Array n item))
array_known structs shapes t n ns is known =
    let base = base_entry (struct_entry (reverse structs)) t.base t.stars shapes in
    let there = array_there ns n base shapes (subst (λ ls. (array_entry ls base).shapes ≡ shapes) is known) in
    (there.0, subst (λ ls. slice_get shapes (array_entry ls base).number ≡ Some (Shape.Array n there.0)) (sym is) there.1)

-- A scalar: an int is shape 0, a pointer shape 1.
pub data IsBasic (e : Entry) : Option ExprType → Type 0 where
  int : e.number ≡ 0 → IsBasic e (Some ExprType.Int)
  pointer : (t : ObjectType) → e.number ≡ 1 → IsBasic e (Some (ExprType.Pointer t))
  unknown : e.number ≤ 1 → IsBasic e (Some ExprType.Unknown)

basic_by : (structs : Structs) (shapes : List Shape) (base : BaseType) (stars : ℕ) (lengths : List ℕ) (s : ExprType) → scalar_type (record { base = base; stars = stars; lengths = lengths }) ≡ Some s
    → IsBasic (object_entry structs (record { base = base; stars = stars; lengths = lengths }) shapes) (scalar_type (record { base = base; stars = stars; lengths = lengths }))
basic_by structs shapes BaseType.Int zero [] s is = int refl
basic_by structs shapes BaseType.Int (suc n) [] s is = pointer _ refl
basic_by structs shapes (BaseType.Struct k) (suc n) [] s is = pointer _ refl
basic_by structs shapes (BaseType.Struct k) zero [] s is = cc
basic_by structs shapes BaseType.Unknown zero [] s is = unknown (omega arith)
basic_by structs shapes BaseType.Unknown (suc n) [] s is = unknown (omega arith)
basic_by structs shapes base stars (n ∷ ns) s is = cc

pub basic : (structs : List Struct) (shapes : List Shape) (t : ObjectType) (s : ExprType) → scalar_type t ≡ Some s → IsBasic (entry structs t shapes) (scalar_type t)
basic structs shapes t s is = basic_by (struct_entry (reverse structs)) shapes t.base t.stars t.lengths s is
