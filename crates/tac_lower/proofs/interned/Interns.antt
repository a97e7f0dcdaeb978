-- Interning adds shapes behind those that stand, and then gives the same number whatever comes behind.
use Rattle.std.proofs.Common.{◌≡◌, ℕ, zero, suc, ◌+◌, Bool, true, false, List, [], ◌∷◌, ◌++◌, Option, Some, None, length, reverse, refl, ap, sym, ◌∙◌, subst, arith, append_assoc, append-nil}
use Rattle.std.specs.Prelude.{nat_eq, ◌&&◌}
use Rattle.std.proofs.Common.{eq-eqb}
use Rattle.c_typed.specs.declared.types.BaseType.{BaseType}
use Rattle.c_typed.specs.declared.types.ObjectType.{ObjectType}
use Rattle.c_typed.specs.declared.program.Struct.{Struct}
use Rattle.c_typed.specs.Types.{same_lengths}
use Rattle.tac_ir.specs.declared.code.Shape.{Shape}
use Rattle.tac_lower.specs.Shapes.{Entry, Structs, Parts, same_shape, entered_at, entered, base_entry, array_entry, object_entry, part_entries, whole_entry, struct_entry, entry, shapes_from}

pub record Interns {A : Type 0} (to : List Shape → List Shape) (out : List Shape → A) : Type 0 where
  pub added : List Shape → List Shape
  pub grows : (shapes : List Shape) → to shapes ≡ shapes ++ added shapes
  pub known : (shapes more : List Shape) → to (to shapes ++ more) ≡ to shapes ++ more
  pub same : (shapes more : List Shape) → out (to shapes ++ more) ≡ out shapes

abbrev pub InternsEntry : (List Shape → Entry) → Type 0
InternsEntry f = Interns (λ shapes. (f shapes).shapes) (λ shapes. (f shapes).number)

abbrev pub InternsParts : (List Shape → Parts) → Type 0
InternsParts f = Interns (λ shapes. (f shapes).shapes) (λ shapes. (f shapes).numbers)

-- no shape
pub fixed : {A : Type 0} (a : A) → Interns (λ shapes. shapes) (λ shapes. a)
fixed a = record {
  added = λ shapes. [];
  grows = λ shapes. sym (append-nil shapes);
  known = λ shapes more. refl;
  same = λ shapes more. refl;
}

-- some shapes, and then those that depend on what the first gave
pub chain : {A B : Type 0} (to : List Shape → List Shape) (out : List Shape → A) (to' : A → List Shape → List Shape) (out' : A → List Shape → B)
    → Interns to out → ((a : A) → Interns (to' a) (out' a))
    → Interns (λ shapes. to' (out shapes) (to shapes)) (λ shapes. out' (out shapes) (to shapes))
chain {A} {B} to out to' out' first second =
    let behind : (shapes more : List Shape) → to' (out shapes) (to shapes) ++ more ≡ to shapes ++ ((second (out shapes)).added (to shapes) ++ more)
    = λ shapes more. ap (λ xs. xs ++ more) ((second (out shapes)).grows (to shapes)) ∙ append_assoc (to shapes) ((second (out shapes)).added (to shapes)) more in
    let kept : (shapes more : List Shape) → to (to' (out shapes) (to shapes) ++ more) ≡ to' (out shapes) (to shapes) ++ more
    = λ shapes more. ap to (behind shapes more) ∙ first.known shapes ((second (out shapes)).added (to shapes) ++ more) ∙ sym (behind shapes more) in
    let still : (shapes more : List Shape) → out (to' (out shapes) (to shapes) ++ more) ≡ out shapes
    = λ shapes more. ap out (behind shapes more) ∙ first.same shapes ((second (out shapes)).added (to shapes) ++ more) in
    record {
      added = λ shapes. first.added shapes ++ (second (out shapes)).added (to shapes);
      grows = λ shapes. (second (out shapes)).grows (to shapes) ∙ ap (λ xs. xs ++ (second (out shapes)).added (to shapes)) (first.grows shapes)
          ∙ append_assoc shapes (first.added shapes) ((second (out shapes)).added (to shapes));
      known = λ shapes more. ap (λ a. to' a (to (to' (out shapes) (to shapes) ++ more))) (still shapes more)
          ∙ ap (to' (out shapes)) (kept shapes more) ∙ (second (out shapes)).known (to shapes) more;
      same = λ shapes more. ap (λ a. out' a (to (to' (out shapes) (to shapes) ++ more))) (still shapes more)
          ∙ ap (out' (out shapes)) (kept shapes more) ∙ (second (out shapes)).same (to shapes) more;
    }

-- One shape.
eq_itself : (n : ℕ) → nat_eq n n ≡ true
eq_itself n = eq-eqb n n refl

lengths_itself : (ns : List ℕ) → same_lengths ns ns ≡ true
lengths_itself [] = refl
lengths_itself (n ∷ ns) = ap (λ b. b && same_lengths ns ns) (eq_itself n) ∙ lengths_itself ns

pub shape_itself : (s : Shape) → same_shape s s ≡ true
shape_itself Shape.Int = refl
shape_itself Shape.Ptr = refl
shape_itself (Shape.Array n i) = ap (λ b. b && nat_eq i i) (eq_itself n) ∙ eq_itself i
shape_itself (Shape.Struct ps) = lengths_itself ps

-- the place of the first equal one, counted from k
find_by : Bool → ℕ → Option ℕ → Option ℕ
find_by true k rest = Some k
find_by false k rest = rest

find : ℕ → Shape → List Shape → Option ℕ
unfolding find_by
find k s [] = None
find k s (t ∷ rest) = find_by (same_shape s t) k (find (suc k) s rest)

landed : List Shape → Shape → ℕ → Option ℕ → Entry
landed all s end (Some k) = record { shapes = all; number = k }
landed all s end None = record { shapes = all ++ s ∷ []; number = end }

entered_at-find : (k : ℕ) (all : List Shape) (s : Shape) (rest : List Shape) → entered_at k all s rest ≡ landed all s (k + length rest) (find k s rest)
unfolding landed find
entered_at-find k all s [] = ap (λ n. record { shapes = all ++ s ∷ []; number = n }) (omega arith)
entered_at-find k all s (t ∷ rest) =
    let further : suc k + length rest ≡ k + length (t ∷ rest) = omega arith in
    let go : (b : Bool) → elim b [ true ↦ record { shapes = all; number = k } | false ↦ entered_at (suc k) all s rest ] ≡ landed all s (k + length (t ∷ rest)) (find_by b k (find (suc k) s rest))
    = λ b. elim b as (λ b. elim b [ true ↦ record { shapes = all; number = k } | false ↦ entered_at (suc k) all s rest ] ≡ landed all s (k + length (t ∷ rest)) (find_by b k (find (suc k) s rest))) [
      | true ↦ refl
      | false ↦ entered_at-find (suc k) all s rest ∙ ap (λ n. landed all s n (find (suc k) s rest)) further
    ] in
    go (same_shape s t)

find-front : (k n : ℕ) (s : Shape) (xs ys : List Shape) → find k s xs ≡ Some n → find k s (xs ++ ys) ≡ Some n
unfolding find find_by
find-front k n s [] ys found = absurd (cc)
find-front k n s (t ∷ xs) ys found =
    let go : (b : Bool) → find_by b k (find (suc k) s xs) ≡ Some n → find_by b k (find (suc k) s (xs ++ ys)) ≡ Some n
    = λ b. elim b as (λ b. find_by b k (find (suc k) s xs) ≡ Some n → find_by b k (find (suc k) s (xs ++ ys)) ≡ Some n) [
      | true ↦ λ is. is
      | false ↦ λ is. find-front (suc k) n s xs ys is
    ] in
    go (same_shape s t) found

find-behind : (k : ℕ) (s : Shape) (xs ys : List Shape) → find k s xs ≡ None → find k s (xs ++ s ∷ ys) ≡ Some (k + length xs)
unfolding find find_by
find-behind k s [] ys none = ap (λ b. find_by b k (find (suc k) s ys)) (shape_itself s) ∙ ap Some (omega arith)
find-behind k s (t ∷ xs) ys none =
    let further : suc k + length xs ≡ k + length (t ∷ xs) = omega arith in
    let go : (b : Bool) → find_by b k (find (suc k) s xs) ≡ None → find_by b k (find (suc k) s (xs ++ s ∷ ys)) ≡ Some (k + length (t ∷ xs))
    = λ b. elim b as (λ b. find_by b k (find (suc k) s xs) ≡ None → find_by b k (find (suc k) s (xs ++ s ∷ ys)) ≡ Some (k + length (t ∷ xs))) [
      | true ↦ λ is. absurd (let no : Some k ≡ None = is in cc)
      | false ↦ λ is. find-behind (suc k) s xs ys is ∙ ap Some further
    ] in
    go (same_shape s t) none

added_by : Shape → Option ℕ → List Shape
added_by s (Some k) = []
added_by s None = s ∷ []

record Landing (s : Shape) (shapes : List Shape) (e : Entry) : Type 0 where
  added : List Shape
  grows : e.shapes ≡ shapes ++ added
  known : (more : List Shape) → entered (e.shapes ++ more) s ≡ record { shapes = e.shapes ++ more; number = e.number }

landing_by : (s : Shape) (shapes : List Shape) (o : Option ℕ) → find 0 s shapes ≡ o → Landing s shapes (landed shapes s (0 + length shapes) o)
unfolding landed
landing_by s shapes (Some k) found = record {
  added = [];
  grows = sym (append-nil shapes);
  known = λ more. entered_at-find 0 (shapes ++ more) s (shapes ++ more) ∙ ap (landed (shapes ++ more) s (0 + length (shapes ++ more))) (find-front 0 k s shapes more found);
}
landing_by s shapes None none = record {
  added = s ∷ [];
  grows = refl;
  known = λ more.
      let all : (shapes ++ s ∷ []) ++ more ≡ shapes ++ s ∷ more = append_assoc shapes (s ∷ []) more in
      entered_at-find 0 ((shapes ++ s ∷ []) ++ more) s ((shapes ++ s ∷ []) ++ more)
      ∙ ap (landed ((shapes ++ s ∷ []) ++ more) s (0 + length ((shapes ++ s ∷ []) ++ more))) (ap (find 0 s) all ∙ find-behind 0 s shapes more none);
}

landing : (s : Shape) (shapes : List Shape) → Landing s shapes (entered shapes s)
landing s shapes = subst (Landing s shapes) (sym (entered_at-find 0 shapes s shapes)) (landing_by s shapes (find 0 s shapes) refl)

pub shape_interns : (s : Shape) → InternsEntry (λ shapes. entered shapes s)
shape_interns s = record {
  added = λ shapes. (landing s shapes).added;
  grows = λ shapes. (landing s shapes).grows;
  known = λ shapes more. ap (λ e. e.shapes) ((landing s shapes).known more);
  same = λ shapes more. ap (λ e. e.number) ((landing s shapes).known more);
}

-- Types.
pub arrays_intern : (f : List Shape → Entry) → InternsEntry f → (lengths : List ℕ) → InternsEntry (λ shapes. array_entry lengths (f shapes))
arrays_intern f known [] = known
arrays_intern f known (n ∷ ns) =
    chain (λ shapes. (array_entry ns (f shapes)).shapes) (λ shapes. (array_entry ns (f shapes)).number)
    (λ item shapes. (entered shapes (Shape.Array n item)).shapes) (λ item shapes. (entered shapes (Shape.Array n item)).number)
    (arrays_intern f known ns) (λ item. shape_interns (Shape.Array n item))

-- structs that intern, whatever their number
abbrev pub InternsStructs : Structs → Type 0
InternsStructs structs = (k : ℕ) → InternsEntry (structs k)

pub base_interns : (structs : Structs) → InternsStructs structs → (base : BaseType) (stars : ℕ) → InternsEntry (base_entry structs base stars)
base_interns structs known base (suc n) = fixed 1
base_interns structs known BaseType.Int zero = fixed 0
base_interns structs known BaseType.Unknown zero = fixed 0
base_interns structs known (BaseType.Struct k) zero = known k

pub object_interns : (structs : Structs) → InternsStructs structs → (t : ObjectType) → InternsEntry (object_entry structs t)
object_interns structs known t = arrays_intern (base_entry structs t.base t.stars) (base_interns structs known t.base t.stars) t.lengths

pub parts_intern : (structs : Structs) → InternsStructs structs → (numbers : List ℕ) (ts : List ObjectType) → InternsParts (part_entries structs numbers ts)
parts_intern structs known numbers [] = fixed numbers
parts_intern structs known numbers (t ∷ ts) =
    chain (λ shapes. (object_entry structs t shapes).shapes) (λ shapes. (object_entry structs t shapes).number)
    (λ n shapes. (part_entries structs (numbers ++ n ∷ []) ts shapes).shapes) (λ n shapes. (part_entries structs (numbers ++ n ∷ []) ts shapes).numbers)
    (object_interns structs known t) (λ n. parts_intern structs known (numbers ++ n ∷ []) ts)

pub whole_interns : (structs : Structs) → InternsStructs structs → (ts : List ObjectType) → InternsEntry (λ shapes. whole_entry (part_entries structs [] ts shapes))
whole_interns structs known ts =
    chain (λ shapes. (part_entries structs [] ts shapes).shapes) (λ shapes. (part_entries structs [] ts shapes).numbers)
    (λ numbers shapes. (entered shapes (Shape.Struct numbers)).shapes) (λ numbers shapes. (entered shapes (Shape.Struct numbers)).number)
    (parts_intern structs known [] ts) (λ numbers. shape_interns (Shape.Struct numbers))

pub structs_intern : (structs : List Struct) → InternsStructs (struct_entry structs)
unfolding struct_entry
structs_intern [] k = fixed 0
structs_intern (s ∷ earlier) k =
    let whole = whole_interns (struct_entry earlier) (structs_intern earlier) s.fields in
    let rest = structs_intern earlier k in
    elim (nat_eq k (length earlier)) as (λ b. InternsEntry (λ shapes. elim b [
      | true ↦ whole_entry (part_entries (struct_entry earlier) [] s.fields shapes)
      | false ↦ struct_entry earlier k shapes
    ])) [
      | true ↦ whole
      | false ↦ rest
    ]

pub type_interns : (structs : List Struct) (t : ObjectType) → InternsEntry (entry structs t)
type_interns structs t = object_interns (struct_entry (reverse structs)) (structs_intern (reverse structs)) t

pub shapes_from-grow : (structs : List Struct) (shapes : List Shape) (ts : List ObjectType) → (added : List Shape) × (shapes_from structs shapes ts ≡ shapes ++ added)
shapes_from-grow structs shapes [] = ([], sym (append-nil shapes))
shapes_from-grow structs shapes (t ∷ ts) =
    let first = type_interns structs t in
    let rest = shapes_from-grow structs (entry structs t shapes).shapes ts in
    (first.added shapes ++ rest.0, rest.1 ∙ ap (λ xs. xs ++ rest.0) (first.grows shapes) ∙ append_assoc shapes (first.added shapes) rest.0)

pub shapes_from-append : (structs : List Struct) (shapes : List Shape) (ts us : List ObjectType)
    → shapes_from structs shapes (ts ++ us) ≡ shapes_from structs (shapes_from structs shapes ts) us
shapes_from-append structs shapes [] us = refl
shapes_from-append structs shapes (t ∷ ts) us = shapes_from-append structs (entry structs t shapes).shapes ts us
