-- Types whose shapes are interned one after the other.
use Rattle.std.proofs.Common.{◌≡◌, ℕ, suc, ◌+◌, ◌<◌, ◌≤◌, false, List, [], ◌∷◌, ◌++◌, map, take, drop, get_or, set, replicate, Option, Some, None, length, reverse, refl, ap, sym, ◌∙◌, subst, arith, append_assoc, append-nil}
use Rattle.std.specs.Prelude.{nat_eq, slice_get}
use Rattle.std.proofs.Common.{eq-eqb, inl, inr}
use Rattle.std.proofs.lemmas.Bool.{ne_eqb, cases_eq}
use Rattle.std.proofs.lemmas.List.{take-append-drop, take-take, take_all, reverse-append, length-reverse, length-take, length-take-le, length-append, length-set, length-replicate, get_or-replicate, get_or-set_same, get_or-set_other, take_more, map_push}
use Rattle.std.proofs.lemmas.Option.{get_or_from_slice_get, slice_get_within, slice_get-get_or}
use Rattle.c_typed.specs.declared.types.ObjectType.{ObjectType}
use Rattle.c_typed.specs.declared.program.Struct.{Struct}
use Rattle.tac_ir.specs.declared.code.Shape.{Shape}
use Rattle.tac_lower.specs.declared.types.Interner.{Interner}
use Rattle.tac_lower.specs.Shapes.{Entry, entered, array_entry, struct_entry, part_entries, whole_entry, entry, object_entry, shapes_from, shape_number}
use Rattle.tac_lower.specs.tools.Interning.{Stays, IsKept, Entered, Enters, Interned, first_structs}
use Rattle.tac_lower.proofs.interned.Interns.{fixed, shape_interns, arrays_intern, type_interns, structs_intern, shapes_from-grow, shapes_from-append}

-- What stays.
stays-more : (f : List Shape → Entry) (old new added : List Shape) (n : ℕ) → new ≡ old ++ added → Stays f old n → Stays f new n
stays-more f old new added n is stays =
    let behind : (more : List Shape) → new ++ more ≡ old ++ (added ++ more) = λ more. ap (λ xs. xs ++ more) is ∙ append_assoc old added more in
    record {
      shapes = λ more. ap (λ xs. (f xs).shapes) (behind more) ∙ stays.shapes (added ++ more) ∙ sym (behind more);
      number = λ more. ap (λ xs. (f xs).number) (behind more) ∙ stays.number (added ++ more);
    }

pub kept-more : (structs : List Struct) (known : List (Option ℕ)) (old new added : List Shape) → new ≡ old ++ added → IsKept structs known old → IsKept structs known new
kept-more structs known old new added is kept = record {
  count = kept.count;
  each = λ k n found. stays-more (first_structs structs (suc k) k) old new added n is (kept.each k n found);
}

-- none is known at first
pub kept-none : (structs : List Struct) (known : List (Option ℕ)) (shapes : List Shape) (n : ℕ) → n ≡ length structs → known ≡ replicate n None → IsKept structs known shapes
kept-none structs known shapes n size is =
    let count : length known ≡ n = ap length is ∙ length-replicate n None in
    record {
      count = count ∙ size;
      each = λ k m found.
          (let within = slice_get_within known k (Some m) found in
          let same = get_or-replicate n k None None (omega arith) in
          let there : get_or (replicate n None) k None ≡ Some m = ap (λ xs. get_or xs k None) (sym is) ∙ get_or_from_slice_get known k (Some m) None found in
          let never : None ≡ Some m = sym same ∙ there in
          absurd cc);
    }

-- Structs before a limit.
past : (structs : List Struct) (k : ℕ) (shapes : List Shape) → length structs ≤ k → struct_entry structs k shapes ≡ record { shapes = shapes; number = 0 }
unfolding struct_entry
past [] k shapes le = refl
past (s ∷ earlier) k shapes le =
    let other : nat_eq k (length earlier) ≡ false = ne_eqb k (length earlier) (λ is. omega arith) in
    rw (other, struct_entry) (past earlier k shapes (omega arith))

behind_others : (others structs : List Struct) (k : ℕ) (shapes : List Shape) → k < length structs → struct_entry (others ++ structs) k shapes ≡ struct_entry structs k shapes
unfolding struct_entry
behind_others [] structs k shapes lt = refl
behind_others (s ∷ others) structs k shapes lt =
    let longer : length (others ++ structs) ≡ length others + length structs = length-append others structs in
    let other : nat_eq k (length (others ++ structs)) ≡ false = ne_eqb k (length (others ++ structs)) (λ is. omega arith) in
    rw (other, struct_entry) (behind_others others structs k shapes lt)

length-take-bound : (n : ℕ) (xs : List Struct) → length (take n xs) ≤ n
length-take-bound n xs = (let e = length-take n xs in omega arith)

pub past_limit : (structs : List Struct) (limit k : ℕ) (shapes : List Shape) → limit ≤ k → first_structs structs limit k shapes ≡ record { shapes = shapes; number = 0 }
past_limit structs limit k shapes le = past (reverse (take limit structs)) k shapes (let e = length-reverse (take limit structs) in let f = length-take-bound limit structs in omega arith)

pub within_limit : (structs : List Struct) (limit k : ℕ) (shapes : List Shape) → k < limit → limit ≤ length structs → first_structs structs limit k shapes ≡ first_structs structs (suc k) k shapes
within_limit structs limit k shapes lt le =
    let front : take (suc k) (take limit structs) ≡ take (suc k) structs = take-take (suc k) limit structs (omega arith) in
    let rest = drop (suc k) (take limit structs) in
    let split : reverse (take limit structs) ≡ reverse rest ++ reverse (take (suc k) structs)
    = ap reverse (sym (take-append-drop (suc k) (take limit structs))) ∙ reverse-append (take (suc k) (take limit structs)) rest ∙ ap (λ xs. reverse rest ++ reverse xs) front in
    let long : length (reverse (take (suc k) structs)) ≡ suc k = length-reverse (take (suc k) structs) ∙ length-take-le (suc k) structs (omega arith) in
    ap (λ xs. struct_entry xs k shapes) split ∙ behind_others (reverse rest) (reverse (take (suc k) structs)) k shapes (omega arith)

first_by : (s : Struct) (earlier : List Struct) (k : ℕ) (shapes : List Shape) → k ≡ length earlier
    → struct_entry (s ∷ earlier) k shapes ≡ whole_entry (part_entries (struct_entry earlier) [] s.fields shapes)
unfolding struct_entry
first_by s earlier k shapes is = rw (eq-eqb k (length earlier) is, struct_entry) refl

pub first_is : (structs : List Struct) (k : ℕ) (s : Struct) (shapes : List Shape) → k < length structs → s ≡ get_or structs k s
    → first_structs structs (suc k) k shapes ≡ whole_entry (part_entries (first_structs structs k) [] s.fields shapes)
first_is structs k s shapes lt is =
    let last : take (suc k) structs ≡ take k structs ++ s ∷ [] = ap (λ n. take n structs) (let one : suc k ≡ k + 1 = omega arith in one) ∙ take_more structs k s lt ∙ ap (λ x. take k structs ++ x ∷ []) (sym is) in
    let turned : reverse (take (suc k) structs) ≡ s ∷ reverse (take k structs) = ap reverse last ∙ reverse-append (take k structs) (s ∷ []) in
    let long : k ≡ length (reverse (take k structs)) = sym (length-reverse (take k structs) ∙ length-take-le k structs (omega arith)) in
    ap (λ xs. struct_entry xs k shapes) turned ∙ first_by s (reverse (take k structs)) k shapes long

-- The number of one more struct.
pub kept-struct : (structs : List Struct) (known : List (Option ℕ)) (shapes : List Shape) (k n : ℕ) → k < length structs
    → Stays (first_structs structs (suc k) k) shapes n → IsKept structs known shapes → IsKept structs (set known k (Some n)) shapes
kept-struct structs known shapes k n lt stays kept = record {
  count = length-set known k (Some n) ∙ kept.count;
  each = λ j m found.
      let read : get_or (set known k (Some n)) j None ≡ Some m = get_or_from_slice_get (set known k (Some n)) j (Some m) None found in
      let within : j < length known = (let e = slice_get_within (set known k (Some n)) j (Some m) found in let l = length-set known k (Some n) in omega arith) in
      let here : k < length known = (let e = kept.count in omega arith) in
      elim (cases_eq j k) [
        | inl same ↦
            let was : get_or (set known k (Some n)) j None ≡ Some n = ap (λ i. get_or (set known k (Some n)) i None) same ∙ get_or-set_same known k (Some n) None here in
            let equal : n ≡ m = cc in
            subst (λ i. Stays (first_structs structs (suc i) i) shapes m) (sym same) (subst (λ m. Stays (first_structs structs (suc k) k) shapes m) equal stays)
        | inr other ↦
            kept.each j m (slice_get-get_or known j None within ∙ ap Some (sym (get_or-set_other known k j (Some n) None other) ∙ read))
      ];
}

-- One type, and several.
pub single : (structs : List Struct) (t : ObjectType) (old new : Interner) (n : ℕ)
    → Enters structs (object_entry (first_structs structs (length structs)) t) old new n → Interned structs (t ∷ []) (λ shape. shape t) old new n
single structs t old new n entered =
    let whole : first_structs structs (length structs) ≡ struct_entry (reverse structs) = ap (λ xs. struct_entry (reverse xs)) (take_all (length structs) structs (omega arith)) in
    let shapes : new.shapes ≡ (entry structs t old.shapes).shapes = entered.shapes ∙ ap (λ f. (object_entry f t old.shapes).shapes) whole in
    record {
      shapes = shapes;
      result = λ more. entered.result ∙ ap (λ f. (object_entry f t old.shapes).number) whole ∙ sym ((type_interns structs t).same old.shapes more) ∙ ap (λ xs. (entry structs t (xs ++ more)).number) (sym shapes);
      kept = entered.kept;
    }

pub none : {A : Type 0} (structs : List Struct) (old : Interner) (a : A) → IsKept structs old.known.items old.shapes → Interned structs [] (λ shape. a) old old a
none structs old a kept = record { shapes = refl; result = λ more. refl; kept = kept }

-- some types, and then more, where what is made of those depends on what was made of the first
pub after : {A B : Type 0} (structs : List Struct) (ts us vs : List ObjectType) (make : (ObjectType → ℕ) → A) (step : A → (ObjectType → ℕ) → B) (made : (ObjectType → ℕ) → B)
    (old mid new : Interner) (a : A) (b : B) → vs ≡ ts ++ us → ((shape : ObjectType → ℕ) → made shape ≡ step (make shape) shape)
    → Interned structs ts make old mid a → Interned structs us (step a) mid new b → Interned structs vs made old new b
after structs ts us vs make step made old mid new a b types is first second =
    let grown = shapes_from-grow structs mid.shapes us in
    let longer : new.shapes ≡ mid.shapes ++ grown.0 = second.shapes ∙ grown.1 in
    let behind : (more : List Shape) → mid.shapes ++ (grown.0 ++ more) ≡ new.shapes ++ more
    = λ more. sym (append_assoc mid.shapes grown.0 more) ∙ ap (λ xs. xs ++ more) (sym longer) in
    record {
      shapes = second.shapes ∙ ap (λ s. shapes_from structs s us) first.shapes ∙ sym (shapes_from-append structs old.shapes ts us) ∙ ap (shapes_from structs old.shapes) (sym types);
      result = λ more.
          let one : a ≡ make (shape_number structs (new.shapes ++ more)) = first.result (grown.0 ++ more) ∙ ap (λ s. make (shape_number structs s)) (behind more) in
          second.result more ∙ ap (λ x. step x (shape_number structs (new.shapes ++ more))) one ∙ sym (is (shape_number structs (new.shapes ++ more)));
      kept = second.kept;
    }

pub both : {A B C : Type 0} (structs : List Struct) (ts us vs : List ObjectType) (make : (ObjectType → ℕ) → A) (make' : (ObjectType → ℕ) → B) (made : (ObjectType → ℕ) → C) (c : A → B → C)
    (old mid new : Interner) (a : A) (b : B) → vs ≡ ts ++ us → ((shape : ObjectType → ℕ) → made shape ≡ c (make shape) (make' shape))
    → Interned structs ts make old mid a → Interned structs us make' mid new b → Interned structs vs made old new (c a b)
both structs ts us vs make make' made c old mid new a b types is first second =
    after structs ts us vs make (λ a shape. c a (make' shape)) made old mid new a (c a b) types is first
    (record { shapes = second.shapes; result = λ more. ap (c a) (second.result more); kept = second.kept })

-- a loop over items with a type each
pub each_more : {A B : Type 0} (structs : List Struct) (object : A → ObjectType) (make : ℕ → A → B) (xs : List A) (i : ℕ) (x : A) (old mid new : Interner) (made : List B) (n : ℕ)
    → i < length xs → x ≡ get_or xs i x
    → Interned structs (map object (take i xs)) (λ shape. map (λ x. make (shape (object x)) x) (take i xs)) old mid made
    → Interned structs (object x ∷ []) (λ shape. shape (object x)) mid new n
    → Interned structs (map object (take (i + 1) xs)) (λ shape. map (λ x. make (shape (object x)) x) (take (i + 1) xs)) old new (made ++ make n x ∷ [])
each_more structs object make xs i x old mid new made n lt is first second =
    let longer : take (i + 1) xs ≡ take i xs ++ x ∷ [] = take_more xs i x lt ∙ ap (λ y. take i xs ++ y ∷ []) (sym is) in
    both structs (map object (take i xs)) (object x ∷ []) (map object (take (i + 1) xs)) (λ shape. map (λ x. make (shape (object x)) x) (take i xs)) (λ shape. shape (object x))
    (λ shape. map (λ x. make (shape (object x)) x) (take (i + 1) xs)) (λ made n. made ++ make n x ∷ []) old mid new made n
    (ap (map object) longer ∙ map_push object (take i xs) x)
    (λ shape. ap (map (λ x. make (shape (object x)) x)) longer ∙ map_push (λ x. make (shape (object x)) x) (take i xs) x)
    first second

-- arrays of a type that was entered
pub arrays_entered : (structs : List Struct) (f : List Shape → Entry) (lengths : List ℕ) (old mid : Interner) (shapes : List Shape) (item n : ℕ)
    → Enters structs f old mid item → array_entry lengths (record { shapes = mid.shapes; number = item }) ≡ record { shapes = shapes; number = n }
    → Enters structs (λ s. array_entry lengths (f s)) old (record { shapes = shapes; known = mid.known }) n
arrays_entered structs f lengths old mid shapes item n first second =
    let begun : Entry = record { shapes = mid.shapes; number = item } in
    let same : f old.shapes ≡ begun = (λ j. record { shapes = sym first.shapes j; number = sym first.result j }) in
    let made : array_entry lengths (f old.shapes) ≡ record { shapes = shapes; number = n } = ap (array_entry lengths) same ∙ second in
    let grown = (arrays_intern (λ s. record { shapes = s; number = item }) (fixed item) lengths).grows mid.shapes in
    record {
      shapes = ap (λ e. e.shapes) (sym made);
      result = ap (λ e. e.number) (sym made);
      kept = kept-more structs mid.known.items mid.shapes shapes ((arrays_intern (λ s. record { shapes = s; number = item }) (fixed item) lengths).added mid.shapes)
          (ap (λ e. e.shapes) (sym second) ∙ grown) first.kept;
    }

-- A struct: one behind the limit, one that is known, and one that is looked at.
pub struct_hidden : (structs : List Struct) (limit k : ℕ) (old : Interner) → limit ≤ k → IsKept structs old.known.items old.shapes → Enters structs (first_structs structs limit k) old old 0
struct_hidden structs limit k old le kept = record {
  shapes = ap (λ e. e.shapes) (sym (past_limit structs limit k old.shapes le));
  result = ap (λ e. e.number) (sym (past_limit structs limit k old.shapes le));
  kept = kept;
}

pub struct_known : (structs : List Struct) (limit k n : ℕ) (old : Interner) → k < limit → limit ≤ length structs → slice_get old.known.items k ≡ Some (Some n)
    → IsKept structs old.known.items old.shapes → Enters structs (first_structs structs limit k) old old n
struct_known structs limit k n old lt le found kept =
    let stays = kept.each k n found in
    let here : old.shapes ++ [] ≡ old.shapes = append-nil old.shapes in
    let same : first_structs structs limit k old.shapes ≡ first_structs structs (suc k) k (old.shapes ++ [])
    = within_limit structs limit k old.shapes lt le ∙ ap (first_structs structs (suc k) k) (sym here) in
    record {
      shapes = sym (ap (λ e. e.shapes) same ∙ stays.shapes [] ∙ here);
      result = sym (ap (λ e. e.number) same ∙ stays.number []);
      kept = kept;
    }

pub struct_entered : (structs : List Struct) (limit k n : ℕ) (s : Struct) (old mid new : Interner) (parts : List ℕ) (shapes : List Shape)
    → k < limit → limit ≤ length structs → s ≡ get_or structs k s
    → Entered structs (λ shapes. (part_entries (first_structs structs k) [] s.fields shapes).shapes) (λ shapes. (part_entries (first_structs structs k) [] s.fields shapes).numbers) old mid parts
    → entered mid.shapes (Shape.Struct parts) ≡ record { shapes = shapes; number = n }
    → new.shapes ≡ shapes → new.known.items ≡ set mid.known.items k (Some n)
    → Enters structs (first_structs structs limit k) old new n
struct_entered structs limit k n s old mid new parts shapes lt le is first second here known =
    let inside : k < length structs = omega arith in
    let f : List Shape → Entry = first_structs structs (suc k) k in
    let all : f old.shapes ≡ record { shapes = shapes; number = n }
    = first_is structs k s old.shapes inside is ∙ ap (λ xs. entered xs (Shape.Struct (part_entries (first_structs structs k) [] s.fields old.shapes).numbers)) (sym first.shapes)
    ∙ ap (λ ps. entered mid.shapes (Shape.Struct ps)) (sym first.result) ∙ second in
    let interns = structs_intern (reverse (take (suc k) structs)) k in
    let whole : (more : List Shape) → (f old.shapes).shapes ++ more ≡ shapes ++ more = λ more. ap (λ e. e.shapes ++ more) all in
    let stays : Stays f shapes n = record {
      shapes = λ more. ap (λ xs. (f xs).shapes) (sym (whole more)) ∙ interns.known old.shapes more ∙ whole more;
      number = λ more. ap (λ xs. (f xs).number) (sym (whole more)) ∙ interns.same old.shapes more ∙ ap (λ e. e.number) all;
    } in
    let one = shape_interns (Shape.Struct parts) in
    let longer : shapes ≡ mid.shapes ++ one.added mid.shapes = ap (λ e. e.shapes) (sym second) ∙ one.grows mid.shapes in
    let kept : IsKept structs (set mid.known.items k (Some n)) shapes = kept-struct structs mid.known.items shapes k n inside stays (kept-more structs mid.known.items mid.shapes shapes (one.added mid.shapes) longer first.kept) in
    record {
      shapes = here ∙ sym (ap (λ e. e.shapes) (within_limit structs limit k old.shapes lt le ∙ all));
      result = sym (ap (λ e. e.number) (within_limit structs limit k old.shapes lt le ∙ all));
      kept = subst (λ xs. IsKept structs new.known.items xs) (sym here) (subst (λ ks. IsKept structs ks shapes) (sym known) kept);
    }
