-- Structs, and so all types, enter with their words.
use Rattle.std.proofs.Common.{◌≡◌, ℕ, zero, suc, ◌+◌, ◌<◌, ◌≤◌, Bool, true, false, List, [], ◌∷◌, ◌++◌, reverse, length, Some, refl, ap, sym, ◌∙◌, subst, arith, append_assoc, append-nil, get_or}
use Rattle.std.specs.Prelude.{nat_eq, slice_get, option_map}
use Rattle.std.proofs.lemmas.List.{reverse-append, reverse-reverse, length-append, length-reverse}
use Rattle.std.proofs.lemmas.List.Sums.{sum-map, sum_by-append, sum_by-cons}
use Rattle.std.proofs.lemmas.Option.{get_or_from_slice_get, slice_get-map}
use Rattle.std.specs.List.{sum_by}
use Rattle.c_typed.specs.declared.types.BaseType.{BaseType}
use Rattle.c_typed.specs.declared.types.ObjectType.{ObjectType}
use Rattle.c_typed.specs.declared.program.Struct.{Struct}
use Rattle.c_typed.specs.Types.{words_of}
use Rattle.c_typed.specs.IsWell as well
use Rattle.c_typed.specs.IsWell.{sizes_in, IsBase, IsObject, IsEarlier, IsStruct}
use Rattle.tac_ir.specs.declared.code.Shape.{Shape}
use Rattle.tac_ir.specs.Layout.{words_in}
use Rattle.tac_lower.specs.Shapes.{Structs, Parts, object_entry, part_entries, whole_entry, struct_entry, entry, shapes_from, shapes_of}
use Rattle.tac_lower.proofs.form.Lists.{eq_is, eq_not, get_end}
use Rattle.tac_lower.proofs.form.Each.{Each, each_append, each_by, each_both, each_all}
use Rattle.tac_lower.proofs.interned.Interns.{InternsStructs, object_interns, structs_intern}
use Rattle.tac_lower.proofs.form.Shapes.{words_at, words_more, IsFair, Fair, Entering, EnterStructs, IsBelow, enters_shape, enters_object}

pub record IsFieldType (sizes : List ℕ) (n : ℕ) (t : ObjectType) : Type 0 where
  pub base : IsBelow n t.base t.stars
  pub lengths : Each (λ n. 0 < n) t.lengths
  pub words : words_of sizes t ≤ 24576

record EntersParts (words count : ℕ) (p : Parts) : Type 0 where
  fair : Fair p.shapes
  below : Each (λ n. n < length p.shapes) p.numbers
  words_are : sum_by (words_at p.shapes) p.numbers ≡ words
  count_is : length p.numbers ≡ count

sum_agree : (f g : ℕ → ℕ) (n : ℕ) → ((s : ℕ) → s < n → f s ≡ g s) → (xs : List ℕ) → Each (λ x. x < n) xs → sum_by f xs ≡ sum_by g xs
sum_agree f g n same [] below = refl
sum_agree f g n same (x ∷ xs) below =
    let here = same x below.0 in
    let rest = sum_agree f g n same xs below.1 in
    omega (arith, sum_by-cons f x xs, sum_by-cons g x xs)

enters_parts : (sizes : List ℕ) (n : ℕ) (st : Structs) → EnterStructs sizes n st → InternsStructs st → (ts : List ObjectType) → Each (IsFieldType sizes n) ts
    → (numbers : List ℕ) (shapes : List Shape) → Fair shapes → Each (λ n. n < length shapes) numbers
    → EntersParts (sum_by (words_at shapes) numbers + well.words_in sizes ts) (length numbers + length ts) (part_entries st numbers ts shapes)
enters_parts sizes n st all known [] is numbers shapes fair below = record { fair = fair; below = below; words_are = omega arith; count_is = omega arith }
enters_parts sizes n st all known (t ∷ ts) is numbers shapes fair below =
    let e = object_entry st t shapes in
    let enters = enters_object sizes n st all t is.0.base is.0.lengths is.0.words shapes fair in
    let interns = object_interns st known t in
    let added = interns.added shapes in
    let grows : e.shapes ≡ shapes ++ added = interns.grows shapes in
    let more : length e.shapes ≡ length shapes + length added = ap length grows ∙ length-append shapes added in
    let same : (s : ℕ) → s < length shapes → words_at e.shapes s ≡ words_at shapes s = λ s h. ap (λ xs. words_at xs s) grows ∙ words_more shapes added s h in
    let there = enters.below in
    let rest = enters_parts sizes n st all known ts is.1 (numbers ++ e.number ∷ []) e.shapes enters.fair
    (each_append (λ k. k < length e.shapes) numbers (e.number ∷ []) (each_by (λ k. k < length shapes) (λ k. k < length e.shapes) numbers (λ k h. omega arith) below) (there, tt)) in
    let counted = rest.count_is in
    let summed = rest.words_are in
    let here = enters.words_are in
    record {
      fair = rest.fair;
      below = rest.below;
      words_are = omega (
        arith,
        sum_by-append (words_at e.shapes) numbers (e.number ∷ []),
        sum_by-cons (words_at e.shapes) e.number [],
        sum_agree (words_at e.shapes) (words_at shapes) (length shapes) same numbers below,
      );
      count_is = omega (arith, length-append numbers (e.number ∷ []));
    }

-- Structs, the last one first.
earlier_below : (n k : ℕ) (base : BaseType) (stars : ℕ) → k ≡ n → IsEarlier k base stars → IsBelow n base stars
earlier_below n k (BaseType.Struct j) zero e is = omega arith
earlier_below n k (BaseType.Struct j) (suc stars) e is = tt
earlier_below n k BaseType.Int stars e is = tt
earlier_below n k BaseType.Unknown zero e is = is
earlier_below n k BaseType.Unknown (suc stars) e is = tt

reverse_more : {A : Type 0} (x : A) (xs : List A) → reverse (x ∷ xs) ≡ reverse xs ++ x ∷ []
reverse_more x xs = reverse-append (x ∷ []) xs

module _ (structs : List Struct) (wells : (k : ℕ) (d : Struct) → slice_get structs k ≡ Some d → IsStruct structs k d) where
  field_types : (k n : ℕ) (ts : List ObjectType) → k ≡ n → Each (IsObject structs) ts → Each (λ t. IsEarlier k t.base t.stars) ts → Each (IsFieldType (sizes_in structs) n) ts
  field_types k n ts e objects earlier =
      each_both (IsObject structs) (λ t. IsEarlier k t.base t.stars) (IsFieldType (sizes_in structs) n) ts
      (λ t o h. record { base = earlier_below n k t.base t.stars e h; lengths = each_all (λ n. 0 < n) t.lengths o.lengths; words = o.words }) objects earlier

  enters_whole : (s : Struct) (earlier : List Struct) → slice_get structs (length earlier) ≡ Some s → EnterStructs (sizes_in structs) (length earlier) (struct_entry earlier)
      → Entering s.words (λ shapes. whole_entry (part_entries (struct_entry earlier) [] s.fields shapes))
  enters_whole s earlier found all shapes fair =
      let is = wells (length earlier) s found in
      let ok = field_types (length earlier) (length earlier) s.fields refl (each_all (IsObject structs) s.fields is.fields) (each_all (λ t. IsEarlier (length earlier) t.base t.stars) s.fields is.earlier) in
      let p = part_entries (struct_entry earlier) [] s.fields shapes in
      let parts = enters_parts (sizes_in structs) (length earlier) (struct_entry earlier) all (structs_intern earlier) s.fields ok [] shapes fair tt in
      let some = is.some_fields in
      let summed : sum_by (words_at p.shapes) p.numbers ≡ 0 + well.words_in (sizes_in structs) s.fields = parts.words_are in
      let counted = parts.count_is in
      let words = is.words in
      let limit = is.limit in
      enters_shape p.shapes (Shape.Struct p.numbers) s.words parts.fair parts.below (omega arith) (omega (arith, sum-map (words_at p.shapes) p.numbers)) limit

  struct_split : (s : Struct) (earlier later : List Struct) → structs ≡ reverse (s ∷ earlier) ++ later → structs ≡ reverse earlier ++ (s ∷ later)
  struct_split s earlier later split = split ∙ ap (λ xs. xs ++ later) (reverse_more s earlier) ∙ append_assoc (reverse earlier) (s ∷ []) later

  enters_next : (s : Struct) (earlier later : List Struct) → structs ≡ reverse earlier ++ (s ∷ later) → EnterStructs (sizes_in structs) (length earlier) (struct_entry earlier)
      → (k : ℕ) → k < suc (length earlier) → (b : Bool) → nat_eq k (length earlier) ≡ b → Entering (get_or (sizes_in structs) k 0) (λ shapes. elim b [
        | true ↦ whole_entry (part_entries (struct_entry earlier) [] s.fields shapes)
        | false ↦ struct_entry earlier k shapes
      ])
  enters_next s earlier later split rest k h true is =
      let found : slice_get structs (length earlier) ≡ Some s =
      ap (λ xs. slice_get xs (length earlier)) split ∙ ap (λ j. slice_get (reverse earlier ++ s ∷ later) j) (sym (length-reverse earlier)) ∙ get_end (reverse earlier) later s in
      let size : get_or (sizes_in structs) k 0 ≡ s.words =
      get_or_from_slice_get (sizes_in structs) k s.words 0 (ap (λ j. slice_get (sizes_in structs) j) (eq_is k (length earlier) is) ∙ slice_get-map (λ (d : Struct). d.words) structs (length earlier) ∙ ap (option_map (λ (d : Struct). d.words)) found) in
      subst (λ x. Entering x (λ shapes. whole_entry (part_entries (struct_entry earlier) [] s.fields shapes))) (sym size) (enters_whole s earlier found rest)
  enters_next s earlier later split rest k h false is = rest k (let other = eq_not k (length earlier) is in omega (arith, other))

  enters_structs : (rs later : List Struct) → structs ≡ reverse rs ++ later → EnterStructs (sizes_in structs) (length rs) (struct_entry rs)
  unfolding struct_entry
  enters_structs [] later split k h = absurd (omega arith)
  enters_structs (s ∷ earlier) later split k h =
      let next = struct_split s earlier later split in
      enters_next s earlier later next (enters_structs earlier (s ∷ later) next) k h (nat_eq k (length earlier)) refl

  base_below : (base : BaseType) (stars : ℕ) → IsBase structs base → IsBelow (length (reverse structs)) base stars
  base_below BaseType.Int stars is = tt
  base_below (BaseType.Struct k) zero is = omega (arith, length-reverse structs)
  base_below (BaseType.Struct k) (suc stars) is = tt
  base_below BaseType.Unknown stars is = absurd is

  -- every type that is well-formed
  pub enters_type : (t : ObjectType) → IsObject structs t → Entering (words_of (sizes_in structs) t) (entry structs t)
  enters_type t is =
      let twice : structs ≡ reverse (reverse structs) ++ [] = sym (append-nil (reverse (reverse structs)) ∙ reverse-reverse structs) in
      enters_object (sizes_in structs) (length (reverse structs)) (struct_entry (reverse structs)) (enters_structs (reverse structs) [] twice) t (base_below t.base t.stars is.base)
      (each_all (λ n. 0 < n) t.lengths is.lengths) is.words

  pub fair_from : (shapes : List Shape) (ts : List ObjectType) → Fair shapes → Each (IsObject structs) ts → Fair (shapes_from structs shapes ts)
  fair_from shapes [] fair is = fair
  fair_from shapes (t ∷ ts) fair is = fair_from (entry structs t shapes).shapes ts (enters_type t is.0 shapes fair).fair is.1

-- the first two shapes
fair_first : Fair (Shape.Int ∷ Shape.Ptr ∷ [])
unfolding words_in
fair_first = record { each = by; first = refl; second = refl }
  where
    by : (s : ℕ) (shape : Shape) → slice_get (Shape.Int ∷ Shape.Ptr ∷ []) s ≡ Some shape → IsFair (Shape.Int ∷ Shape.Ptr ∷ []) s shape
    by zero shape h = (let e : Shape.Int ≡ shape = cc in subst (λ x. IsFair (Shape.Int ∷ Shape.Ptr ∷ []) 0 x) e (record { earlier = tt; some = omega arith; words = omega arith; by_parts = refl }))
    by (suc zero) shape h = (let e : Shape.Ptr ≡ shape = cc in subst (λ x. IsFair (Shape.Int ∷ Shape.Ptr ∷ []) 1 x) e (record { earlier = tt; some = omega arith; words = omega arith; by_parts = refl }))
    by (suc (suc s)) shape h = cc

pub fair_shapes : (structs : List Struct) → ((k : ℕ) (d : Struct) → slice_get structs k ≡ Some d → IsStruct structs k d) → (ts : List ObjectType) → Each (IsObject structs) ts → Fair (shapes_of structs ts)
fair_shapes structs wells ts is = fair_from structs wells (Shape.Int ∷ Shape.Ptr ∷ []) ts fair_first is
