-- How many shapes there are: each struct and each array of a list adds its own shape at most once, whatever is entered.
use Rattle.std.proofs.Common.{◌≡◌, ℕ, zero, suc, ◌+◌, ◌<◌, ◌≤◌, inl, inr, Bool, true, false, List, [], ◌∷◌, ◌++◌, length, reverse, refl, ap, sym, ◌∙◌, subst, arith, append_assoc, append-nil}
use Rattle.std.specs.Prelude.{nat_eq, slice_get, Some}
use Rattle.std.proofs.lemmas.List.{length-append, length-reverse, reverse-append, reverse-reverse}
use Rattle.c_typed.specs.declared.types.BaseType.{BaseType}
use Rattle.c_typed.specs.declared.types.ObjectType.{ObjectType}
use Rattle.c_typed.specs.declared.program.Struct.{Struct}
use Rattle.c_typed.specs.IsWell.{IsBase, IsObject, IsEarlier, IsStruct}
use Rattle.tac_ir.specs.declared.code.Shape.{Shape}
use Rattle.tac_lower.specs.Shapes.{Entry, entered, base_entry, array_entry, object_entry, part_entries, whole_entry, struct_entry, entry, shapes_from, shapes_of}
use Rattle.tac_lower.proofs.interned.Interns.{Interns, InternsEntry, arrays_intern, base_interns, parts_intern, structs_intern, type_interns}
use Rattle.tac_lower.proofs.form.Lists.{eq_is, eq_not, get_end}
use Rattle.tac_lower.proofs.form.Each.{Each, each_all}
use Rattle.tac_lower.proofs.form.Parted.{Member, Arrays, Parted}
use Rattle.tac_lower.proofs.form.Declared.{struct_of, IsListed}
use Rattle.tac_lower.proofs.form.Shapes.{Outcome, found, added, outcome}
use Rattle.tac_lower.proofs.form.Known.{struct_later, struct_here}

module _ (structs : List Struct) where
  abbrev to : ObjectType → List Shape → List Shape
  to u shapes = (entry structs u shapes).shapes

  -- whether entering the type adds a shape
  abbrev wait_by : Bool → ℕ
  wait_by true = 0
  wait_by false = 1

  abbrev waits : ObjectType → List Shape → ℕ
  waits u shapes = wait_by (nat_eq (length (to u shapes)) (length shapes))

  abbrev waiting : List ObjectType → List Shape → ℕ
  waiting [] shapes = 0
  waiting (u ∷ us) shapes = waits u shapes + waiting us shapes

  same_length : (u : ObjectType) (shapes : List Shape) → length (to u shapes) ≡ length shapes → to u shapes ≡ shapes
  same_length u shapes is =
      let one = type_interns structs u in
      let none : one.added shapes ≡ [] = by (one.added shapes) (omega (arith, ap length (one.grows shapes), length-append shapes (one.added shapes))) in
      one.grows shapes ∙ ap (λ xs. shapes ++ xs) none ∙ append-nil shapes
    where
      by : (xs : List Shape) → length xs ≡ 0 → xs ≡ []
      by [] e = refl
      by (x ∷ xs) e = absurd (omega arith)

  -- a type that adds none adds none behind more
  stands_more : (u : ObjectType) (shapes more : List Shape) → to u shapes ≡ shapes → to u (shapes ++ more) ≡ shapes ++ more
  stands_more u shapes more is =
      let known = (type_interns structs u).known shapes more in
      subst (λ xs. to u (xs ++ more) ≡ xs ++ more) is known

  wait_least : (b : Bool) → wait_by b ≤ 1
  wait_least true = omega arith
  wait_least false = omega arith

  waits_stands : (u : ObjectType) (shapes : List Shape) → to u shapes ≡ shapes → waits u shapes ≡ 0
  waits_stands u shapes is = by (nat_eq (length (to u shapes)) (length shapes)) refl
    where
      by : (b : Bool) → nat_eq (length (to u shapes)) (length shapes) ≡ b → wait_by b ≡ 0
      by true e = refl
      by false e = absurd (eq_not (length (to u shapes)) (length shapes) e (ap length is))

  waits_more : (u : ObjectType) (shapes more : List Shape) → waits u (shapes ++ more) ≤ waits u shapes
  waits_more u shapes more = by (nat_eq (length (to u shapes)) (length shapes)) refl
    where
      by : (b : Bool) → nat_eq (length (to u shapes)) (length shapes) ≡ b → waits u (shapes ++ more) ≤ wait_by b
      by true e = (let none = waits_stands u (shapes ++ more) (stands_more u shapes more (same_length u shapes (eq_is (length (to u shapes)) (length shapes) e))) in omega arith)
      by false e = wait_least (nat_eq (length (to u (shapes ++ more))) (length (shapes ++ more)))

  waiting_more : (us : List ObjectType) (shapes more : List Shape) → waiting us (shapes ++ more) ≤ waiting us shapes
  waiting_more [] shapes more = omega arith
  waiting_more (u ∷ us) shapes more = (let first = waits_more u shapes more in let rest = waiting_more us shapes more in omega arith)

  waits_once : (u : ObjectType) (shapes : List Shape) → (to u shapes ≡ shapes → ⊥) → waits u shapes ≡ 1
  waits_once u shapes never = by (nat_eq (length (to u shapes)) (length shapes)) refl
    where
      by : (b : Bool) → nat_eq (length (to u shapes)) (length shapes) ≡ b → wait_by b ≡ 1
      by true e = absurd (never (same_length u shapes (eq_is (length (to u shapes)) (length shapes) e)))
      by false e = refl

  -- one of them is entered
  waiting_less : (us : List ObjectType) (u : ObjectType) (shapes more : List Shape) → Member u us → (to u shapes ≡ shapes → ⊥) → to u (shapes ++ more) ≡ shapes ++ more
      → waiting us (shapes ++ more) + 1 ≤ waiting us shapes
  waiting_less [] u shapes more here never is = absurd here
  waiting_less (v ∷ us) u shapes more (inl same) never is =
      let before : waits v shapes ≡ 1 = subst (λ x. waits x shapes ≡ 1) same (waits_once u shapes never) in
      let after : waits v (shapes ++ more) ≡ 0 = subst (λ x. waits x (shapes ++ more) ≡ 0) same (waits_stands u (shapes ++ more) is) in
      let rest = waiting_more us shapes more in
      omega arith
  waiting_less (v ∷ us) u shapes more (inr there) never is = (let first = waits_more v shapes more in let rest = waiting_less us u shapes more there never is in omega arith)

  waiting_few : (us : List ObjectType) (shapes : List Shape) → waiting us shapes ≤ length us
  waiting_few [] shapes = omega arith
  waiting_few (u ∷ us) shapes = (let first = wait_least (nat_eq (length (to u shapes)) (length shapes)) in let rest = waiting_few us shapes in omega arith)

  module _ (us : List ObjectType) where
    -- of what is entered, nothing counts twice
    abbrev Fits : List Shape → List Shape → Type 0
    Fits old new = length new + waiting us new ≤ length old + waiting us old

    abbrev Drops : (List Shape → Entry) → Type 0
    Drops f = (shapes : List Shape) → Fits shapes (f shapes).shapes

    -- one shape more, that of a type among these
    step_by : (u : ObjectType) (shapes mid : List Shape) (s : Shape) → Member u us → entry structs u mid ≡ entered mid s → Fits shapes mid → (e : Entry) → entered mid s ≡ e → Outcome mid s e → Fits shapes e.shapes
    step_by u shapes mid s here again old e is (found same there) = subst (Fits shapes) (sym same) old
    step_by u shapes mid s here again old e is (added more at) =
        let once : to u mid ≡ mid ++ s ∷ [] = ap (λ (x : Entry). x.shapes) (again ∙ is) ∙ more in
        let never : to u mid ≡ mid → ⊥ = λ none. absurd (omega (arith, ap length (sym once ∙ none), length-append mid (s ∷ []))) in
        let after : to u (mid ++ s ∷ []) ≡ mid ++ s ∷ [] = subst (λ xs. to u xs ≡ xs) once (ap (to u) (sym (append-nil (to u mid))) ∙ (type_interns structs u).known mid [] ∙ append-nil (to u mid)) in
        let less = waiting_less us u mid (s ∷ []) here never after in
        let size = length-append mid (s ∷ []) in
        subst (Fits shapes) (sym more) (omega arith)

    step_drops : {A : Type 0} (to' : List Shape → List Shape) (out : List Shape → A) (make : A → Shape) (u : ObjectType) → Interns to' out → Member u us
        → ((shapes : List Shape) → entry structs u shapes ≡ entered (to' shapes) (make (out shapes))) → ((shapes : List Shape) → Fits shapes (to' shapes))
        → Drops (λ shapes. entered (to' shapes) (make (out shapes)))
    step_drops to' out make u interns here is drops shapes =
        let mid = to' shapes in
        let known : to' mid ≡ mid = ap to' (sym (append-nil mid)) ∙ interns.known shapes [] ∙ append-nil mid in
        let same : out mid ≡ out shapes = ap out (sym (append-nil mid)) ∙ interns.same shapes [] in
        let s = make (out shapes) in
        let again : entry structs u mid ≡ entered mid s = is mid ∙ ap (λ xs. entered xs (make (out mid))) known ∙ ap (λ a. entered mid (make a)) same in
        step_by u shapes mid s here again (drops shapes) (entered mid s) refl (outcome mid s)

    arrays_drop : (base : BaseType) (stars : ℕ) (f : List Shape → Entry) → InternsEntry f → ((shapes : List Shape) → base_entry (struct_entry (reverse structs)) base stars shapes ≡ f shapes) → Drops f
        → (ns : List ℕ) → Arrays us base stars ns → Drops (λ shapes. array_entry ns (f shapes))
    arrays_drop base stars f interns is drops [] all = drops
    arrays_drop base stars f interns is drops (n ∷ ns) all =
        step_drops (λ shapes. (array_entry ns (f shapes)).shapes) (λ shapes. (array_entry ns (f shapes)).number) (Shape.Array n) (record { base = base; stars = stars; lengths = n ∷ ns })
        (arrays_intern f interns ns) all.0 (λ shapes. ap (array_entry (n ∷ ns)) (is shapes)) (arrays_drop base stars f interns is drops ns all.1)

    -- structs, the last one first, among all
    same_base : (later rs : List Struct) (base : BaseType) (stars : ℕ) (shapes : List Shape) → reverse structs ≡ later ++ rs → IsEarlier (length rs) base stars
        → base_entry (struct_entry (reverse structs)) base stars shapes ≡ base_entry (struct_entry rs) base stars shapes
    same_base later rs base (suc stars) shapes split is = refl
    same_base later rs BaseType.Int zero shapes split is = refl
    same_base later rs BaseType.Unknown zero shapes split is = refl
    same_base later rs (BaseType.Struct k) zero shapes split is = ap (λ xs. struct_entry xs k shapes) split ∙ struct_later later rs k shapes is

    abbrev StructsDrop : List Struct → Type 0
    StructsDrop rs = (k : ℕ) → k < length rs → Drops (struct_entry rs k)

    base_drops : (rs : List Struct) → StructsDrop rs → (base : BaseType) (stars : ℕ) → IsEarlier (length rs) base stars → Drops (base_entry (struct_entry rs) base stars)
    base_drops rs all base (suc stars) is = λ shapes. omega arith
    base_drops rs all BaseType.Int zero is = λ shapes. omega arith
    base_drops rs all BaseType.Unknown zero is = absurd is
    base_drops rs all (BaseType.Struct k) zero is = all k is

    object_drops : (later rs : List Struct) → reverse structs ≡ later ++ rs → StructsDrop rs → (t : ObjectType) → IsEarlier (length rs) t.base t.stars → Parted us t
        → Drops (object_entry (struct_entry rs) t)
    object_drops later rs split all t is arrays =
        arrays_drop t.base t.stars (base_entry (struct_entry rs) t.base t.stars) (base_interns (struct_entry rs) (structs_intern rs) t.base t.stars)
        (λ shapes. same_base later rs t.base t.stars shapes split is) (base_drops rs all t.base t.stars is) t.lengths arrays

    parts_drop : (later rs : List Struct) → reverse structs ≡ later ++ rs → StructsDrop rs → (numbers : List ℕ) (ts : List ObjectType)
        → Each (λ t. IsEarlier (length rs) t.base t.stars) ts → Each (Parted us) ts
        → (shapes : List Shape) → Fits shapes (part_entries (struct_entry rs) numbers ts shapes).shapes
    parts_drop later rs split all numbers [] is arrays shapes = omega arith
    parts_drop later rs split all numbers (t ∷ ts) is arrays shapes =
        let e = object_entry (struct_entry rs) t shapes in
        let first = object_drops later rs split all t is.0 arrays.0 shapes in
        let rest = parts_drop later rs split all (numbers ++ e.number ∷ []) ts is.1 arrays.1 e.shapes in
        omega arith

    module _ (listed : (k : ℕ) (d : Struct) → slice_get structs k ≡ Some d → IsListed us k d) (wells : (k : ℕ) (d : Struct) → slice_get structs k ≡ Some d → IsStruct structs k d) where
      there_by : (later earlier : List Struct) (d : Struct) → reverse structs ≡ later ++ (d ∷ earlier) → slice_get structs (length earlier) ≡ Some d
      there_by later earlier d split =
          let turned : structs ≡ reverse earlier ++ (d ∷ reverse later) =
          sym (reverse-reverse structs) ∙ ap reverse split ∙ reverse-append later (d ∷ earlier) ∙ ap (λ xs. xs ++ reverse later) (reverse-append (d ∷ []) earlier) ∙ append_assoc (reverse earlier) (d ∷ []) (reverse later) in
          ap (λ xs. slice_get xs (length earlier)) turned ∙ ap (λ k. slice_get (reverse earlier ++ (d ∷ reverse later)) k) (sym (length-reverse earlier)) ∙ get_end (reverse earlier) (reverse later) d

      next_drops : (later earlier : List Struct) (d : Struct) → reverse structs ≡ later ++ (d ∷ earlier) → StructsDrop earlier
          → (k : ℕ) → k < suc (length earlier) → (b : Bool) → nat_eq k (length earlier) ≡ b → Drops (λ shapes. elim b as (λ b. Entry) [
            | true ↦ whole_entry (part_entries (struct_entry earlier) [] d.fields shapes)
            | false ↦ struct_entry earlier k shapes
          ])
      next_drops later earlier d split all k less true e =
          let found = there_by later earlier d split in
          let is = listed (length earlier) d found in
          let before = each_all (λ t. IsEarlier (length earlier) t.base t.stars) d.fields (wells (length earlier) d found).earlier in
          let whole = later ++ d ∷ [] in
          let behind : reverse structs ≡ whole ++ earlier = split ∙ sym (append_assoc later (d ∷ []) earlier) in
          step_drops (λ shapes. (part_entries (struct_entry earlier) [] d.fields shapes).shapes) (λ shapes. (part_entries (struct_entry earlier) [] d.fields shapes).numbers) Shape.Struct (struct_of (length earlier))
          (parts_intern (struct_entry earlier) (structs_intern earlier) [] d.fields) is.here
          (λ shapes. ap (λ xs. struct_entry xs (length earlier) shapes) split ∙ struct_later later (d ∷ earlier) (length earlier) shapes (omega arith) ∙ struct_here d earlier (length earlier) shapes refl)
          (parts_drop whole earlier behind all [] d.fields before is.fields)
      next_drops later earlier d split all k less false e = all k (let other = eq_not k (length earlier) e in omega (arith, other))

      structs_drop : (later rs : List Struct) → reverse structs ≡ later ++ rs → StructsDrop rs
      unfolding struct_entry
      structs_drop later [] split k less = absurd (omega arith)
      structs_drop later (d ∷ earlier) split k less =
          next_drops later earlier d split (structs_drop (later ++ d ∷ []) earlier (split ∙ sym (append_assoc later (d ∷ []) earlier))) k less (nat_eq k (length earlier)) refl

      -- well-formed types
      earlier_of : (base : BaseType) (stars : ℕ) → IsBase structs base → IsEarlier (length (reverse structs)) base stars
      earlier_of BaseType.Int stars is = tt
      earlier_of (BaseType.Struct k) zero is = (let size = length-reverse structs in omega (arith, size))
      earlier_of (BaseType.Struct k) (suc n) is = tt
      earlier_of BaseType.Unknown stars is = absurd is

      types_drop : (ts : List ObjectType) → Each (IsObject structs) ts → Each (Parted us) ts → (shapes : List Shape) → Fits shapes (shapes_from structs shapes ts)
      types_drop [] is arrays shapes = omega arith
      types_drop (t ∷ ts) is arrays shapes =
          let first = object_drops [] (reverse structs) refl (structs_drop [] (reverse structs) refl) t (earlier_of t.base t.stars is.0.base) arrays.0 shapes in
          let rest = types_drop ts is.1 arrays.1 (entry structs t shapes).shapes in
          omega arith

      -- the first two shapes, and at most one of each
      pub few_shapes : (ts : List ObjectType) → Each (IsObject structs) ts → Each (Parted us) ts → length (shapes_of structs ts) ≤ 2 + length us
      few_shapes ts is arrays =
          let first = Shape.Int ∷ Shape.Ptr ∷ [] in
          let all = types_drop ts is arrays first in
          let few = waiting_few us first in
          omega arith
