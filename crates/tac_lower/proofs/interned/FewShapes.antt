-- Where all that is entered leaves few shapes, so does each part of it.
use Rattle.std.proofs.Common.{◌≡◌, ℕ, ◌+◌, ◌-◌, ◌<◌, ◌≤◌, List, [], ◌∷◌, ◌++◌, map, take, drop, get_or, length, reverse, refl, ap, sym, ◌∙◌, subst, arith, append_assoc, append-nil}
use Rattle.std.proofs.lemmas.List.{length-append, take-append-drop, drop_more, map-append}
use Rattle.std.proofs.lemmas.Option.{slice_get_within}
use Rattle.c_typed.specs.declared.types.ObjectType.{ObjectType}
use Rattle.c_typed.specs.declared.program.Function.{Function}
use Rattle.c_typed.specs.declared.program.Struct.{Struct}
use Rattle.tac_ir.specs.declared.code.Shape.{Shape}
use Rattle.tac_lower.specs.declared.draft.Draft.{Draft}
use Rattle.tac_lower.specs.Shapes.{Entry, Structs, Parts, entered, array_entry, object_entry, part_entries, entry, shapes_from}
use Rattle.tac_lower.specs.CodeOf.{Item, all_of, site_by, need_by, sites_in, needs_in, variables_in}
use Rattle.tac_lower.specs.tools.Interning.{AreFew, first_structs}
use Rattle.tac_lower.proofs.interned.Interns.{InternsStructs, fixed, shape_interns, arrays_intern, parts_intern, shapes_from-grow, shapes_from-append}
use Rattle.tac_lower.proofs.interned.InternedLists.{within_limit, first_is}
use Rattle.tac_lower.proofs.interned.DraftLaws.{objects, variables_in-append, sites_in-append, needs_in-append, all_of-append, popped}
use Rattle.tac_lower.proofs.form.Shapes.{outcome, outcome_there}

few_front : (old new added : List Shape) → new ≡ old ++ added → AreFew new → AreFew old
few_front old new added is few = (let size = ap length is ∙ length-append old added in omega (arith, size, few))

-- One shape.
pub number_fits : (shapes all : List Shape) (s : Shape) (n : ℕ) → entered shapes s ≡ record { shapes = all; number = n } → AreFew (entered shapes s).shapes → n < 4294967296
number_fits shapes all s n is few =
    let e = entered shapes s in
    let there = slice_get_within e.shapes e.number s (outcome_there shapes s e (outcome shapes s)) in
    let same : e.number ≡ n = ap (λ (e : Entry). e.number) is in
    omega (arith, there, same, few)

-- Arrays.
array_append : (ms ns : List ℕ) (e : Entry) → array_entry (ms ++ ns) e ≡ array_entry ms (array_entry ns e)
array_append [] ns e = refl
array_append (m ∷ ms) ns e = ap (λ (item : Entry). entered item.shapes (Shape.Array m item.number)) (array_append ms ns e)

pub few_arrays : (ns : List ℕ) (e : Entry) → AreFew (array_entry ns e).shapes → AreFew e.shapes
few_arrays ns e few =
    let all = arrays_intern (λ shapes. record { shapes = shapes; number = e.number }) (fixed e.number) ns in
    few_front e.shapes (array_entry ns e).shapes (all.added e.shapes) (all.grows e.shapes) few

pub few_item : (ns : List ℕ) (i : ℕ) (e mid : Entry) → 0 < i → i ≤ length ns → array_entry (drop i ns) e ≡ mid → AreFew (array_entry ns e).shapes
    → AreFew (entered mid.shapes (Shape.Array (get_or ns (i - 1) 0) mid.number)).shapes
few_item ns i e mid some within is few =
    let n = get_or ns (i - 1) 0 in
    let next : (i - 1) + 1 ≡ i = omega (arith, some) in
    let rest : drop (i - 1) ns ≡ n ∷ drop i ns = drop_more ns (i - 1) 0 (omega (arith, some, within)) ∙ ap (λ k. n ∷ drop k ns) next in
    let here : array_entry (drop (i - 1) ns) e ≡ entered mid.shapes (Shape.Array n mid.number) =
    ap (λ xs. array_entry xs e) rest ∙ ap (λ (m : Entry). entered m.shapes (Shape.Array n m.number)) is in
    let split : array_entry ns e ≡ array_entry (take (i - 1) ns) (array_entry (drop (i - 1) ns) e) =
    ap (λ xs. array_entry xs e) (sym (take-append-drop (i - 1) ns)) ∙ array_append (take (i - 1) ns) (drop (i - 1) ns) e in
    subst (λ (m : Entry). AreFew m.shapes) here (few_arrays (take (i - 1) ns) (array_entry (drop (i - 1) ns) e) (subst (λ (m : Entry). AreFew m.shapes) split few))

-- A member of a list, with what stands before and behind it.
rest_at : {A : Type 0} (xs : List A) (i : ℕ) (x : A) → i < length xs → x ≡ get_or xs i x → drop i xs ≡ x ∷ drop (i + 1) xs
rest_at xs i x less is = drop_more xs i x less ∙ ap (λ y. y ∷ drop (i + 1) xs) (sym is)

split_at : {A : Type 0} (xs : List A) (i : ℕ) (x : A) → i < length xs → x ≡ get_or xs i x → xs ≡ take i xs ++ (x ∷ drop (i + 1) xs)
split_at xs i x less is = sym (take-append-drop i xs) ∙ ap (λ ys. take i xs ++ ys) (rest_at xs i x less is)

-- Structs.
pub few_part : (structs : Structs) → InternsStructs structs → (numbers : List ℕ) (ts : List ObjectType) (i : ℕ) (t : ObjectType) (shapes : List Shape) (whole : Parts)
    → i < length ts → t ≡ get_or ts i t → part_entries structs numbers (drop i ts) shapes ≡ whole → AreFew whole.shapes → AreFew (object_entry structs t shapes).shapes
few_part structs known numbers ts i t shapes whole less is same few =
    let e = object_entry structs t shapes in
    let rest = drop (i + 1) ts in
    let more = parts_intern structs known (numbers ++ e.number ∷ []) rest in
    let all : whole ≡ part_entries structs (numbers ++ e.number ∷ []) rest e.shapes = sym same ∙ ap (λ ts. part_entries structs numbers ts shapes) (rest_at ts i t less is) in
    few_front e.shapes whole.shapes (more.added e.shapes) (ap (λ (p : Parts). p.shapes) all ∙ more.grows e.shapes) few

module _ (structs : List Struct) (limit k : ℕ) (s : Struct) (shapes : List Shape) (less : k < limit) (within : limit ≤ length structs) (is : s ≡ get_or structs k s) (few : AreFew (first_structs structs limit k shapes).shapes) where
  abbrev fields : Parts
  fields = part_entries (first_structs structs k) [] s.fields shapes

  few_struct : AreFew (entered fields.shapes (Shape.Struct fields.numbers)).shapes
  few_struct = subst (λ (e : Entry). AreFew e.shapes) (within_limit structs limit k shapes less within ∙ first_is structs k s shapes (omega (arith, less, within)) is) few

  pub few_fields : AreFew fields.shapes
  few_fields = (let one = shape_interns (Shape.Struct fields.numbers) in few_front fields.shapes (entered fields.shapes (Shape.Struct fields.numbers)).shapes (one.added fields.shapes) (one.grows fields.shapes) few_struct)

  pub few_whole : (mid : List Shape) (parts : List ℕ) → mid ≡ fields.shapes → parts ≡ fields.numbers → AreFew (entered mid (Shape.Struct parts)).shapes
  few_whole mid parts a b = subst (λ xs. AreFew (entered xs (Shape.Struct parts)).shapes) (sym a) (subst (λ ns. AreFew (entered fields.shapes (Shape.Struct ns)).shapes) (sym b) few_struct)

-- Types, some behind others.
module _ (structs : List Struct) (old mid : List Shape) where
  pub few_next : (ts seen part rest : List ObjectType) → ts ≡ seen ++ (part ++ rest) → mid ≡ shapes_from structs old seen → AreFew (shapes_from structs old ts) → AreFew (shapes_from structs mid part)
  few_next ts seen part rest split is few =
      let here = shapes_from structs mid part in
      let all : shapes_from structs old ts ≡ shapes_from structs here rest =
      ap (shapes_from structs old) split ∙ shapes_from-append structs old seen (part ++ rest) ∙ ap (λ s. shapes_from structs s (part ++ rest)) (sym is) ∙ shapes_from-append structs mid part rest in
      let grown = shapes_from-grow structs here rest in
      few_front here (shapes_from structs old ts) grown.0 (all ∙ grown.1) few

  pub few_each : {A : Type 0} (object : A → ObjectType) (xs : List A) (i : ℕ) (x : A) → i < length xs → x ≡ get_or xs i x → mid ≡ shapes_from structs old (map object (take i xs))
      → AreFew (shapes_from structs old (map object xs)) → AreFew (entry structs (object x) mid).shapes
  few_each object xs i x less at is few =
      few_next (map object xs) (map object (take i xs)) (object x ∷ []) (map object (drop (i + 1) xs)) (ap (map object) (split_at xs i x less at) ∙ map-append object (take i xs) (x ∷ drop (i + 1) xs)) is few

  pub few_frame : (fs : List Function) (i : ℕ) (f : Function) → i < length fs → f ≡ get_or fs i f → mid ≡ shapes_from structs old (variables_in (take i fs))
      → AreFew (shapes_from structs old (variables_in fs)) → AreFew (shapes_from structs mid (map (λ v. v.object) f.variables))
  few_frame fs i f less at is few =
      few_next (variables_in fs) (variables_in (take i fs)) (map (λ v. v.object) f.variables) (variables_in (drop (i + 1) fs))
      (ap variables_in (split_at fs i f less at) ∙ variables_in-append (take i fs) (f ∷ drop (i + 1) fs)) is few

  few_items : (all seen part rest : List Item) → all ≡ seen ++ (part ++ rest) → mid ≡ shapes_from structs old (objects seen) → AreFew (shapes_from structs old (objects all)) → AreFew (shapes_from structs mid (objects part))
  few_items all seen part rest split is few =
      let f = λ (i : Item). i.object in
      few_next (objects all) (objects seen) (objects part) (objects rest) (ap objects split ∙ map-append f seen (part ++ rest) ∙ ap (λ ts. objects seen ++ ts) (map-append f part rest)) is few

  pub few_site : (ds : List Draft) (i : ℕ) (d : Draft) → i < length ds → d ≡ get_or ds i d → mid ≡ shapes_from structs old (objects (sites_in (take i ds)))
      → AreFew (shapes_from structs old (objects (sites_in ds))) → AreFew (shapes_from structs mid (objects (site_by d.line d.object d.instr)))
  few_site ds i d less at is few =
      few_items (sites_in ds) (sites_in (take i ds)) (site_by d.line d.object d.instr) (sites_in (drop (i + 1) ds)) (ap sites_in (split_at ds i d less at) ∙ sites_in-append (take i ds) (d ∷ drop (i + 1) ds)) is few

  pub few_sites : (dss : List (List Draft)) (i : ℕ) (ds : List Draft) → i < length dss → ds ≡ get_or dss i ds → mid ≡ shapes_from structs old (objects (sites_in (all_of (take i dss))))
      → AreFew (shapes_from structs old (objects (sites_in (all_of dss)))) → AreFew (shapes_from structs mid (objects (sites_in ds)))
  few_sites dss i ds less at is few =
      let rest = all_of (drop (i + 1) dss) in
      few_items (sites_in (all_of dss)) (sites_in (all_of (take i dss))) (sites_in ds) (sites_in rest)
      (ap (λ xs. sites_in (all_of xs)) (split_at dss i ds less at) ∙ ap sites_in (all_of-append (take i dss) (ds ∷ drop (i + 1) dss))
      ∙ sites_in-append (all_of (take i dss)) (ds ++ rest) ∙ ap (λ xs. sites_in (all_of (take i dss)) ++ xs) (sites_in-append ds rest)) is few

  -- taken from the end of a reversed list
  taken_split : {A : Type 0} (all seen left rest : List A) (x : A) → all ≡ seen ++ reverse left → left ≡ rest ++ x ∷ [] → all ≡ seen ++ (x ∷ reverse rest)
  taken_split all seen left rest x is last = popped all seen left rest x is last ∙ append_assoc seen (x ∷ []) (reverse rest)

  pub few_line : (ds seen left rest : List Draft) (d : Draft) → ds ≡ seen ++ reverse left → left ≡ rest ++ d ∷ [] → mid ≡ shapes_from structs old (objects (needs_in seen))
      → AreFew (shapes_from structs old (objects (needs_in ds))) → AreFew (shapes_from structs mid (objects (need_by d.line d.object d.instr)))
  few_line ds seen left rest d at last is few =
      few_items (needs_in ds) (needs_in seen) (need_by d.line d.object d.instr) (needs_in (reverse rest)) (ap needs_in (taken_split ds seen left rest d at last) ∙ needs_in-append seen (d ∷ reverse rest)) is few

  pub few_lines : (dss seen left rest : List (List Draft)) (ds : List Draft) → dss ≡ seen ++ reverse left → left ≡ rest ++ ds ∷ [] → mid ≡ shapes_from structs old (objects (needs_in (all_of seen)))
      → AreFew (shapes_from structs old (objects (needs_in (all_of dss)))) → AreFew (shapes_from structs mid (objects (needs_in ds)))
  few_lines dss seen left rest ds at last is few =
      let more = all_of (reverse rest) in
      few_items (needs_in (all_of dss)) (needs_in (all_of seen)) (needs_in ds) (needs_in more)
      (ap (λ xs. needs_in (all_of xs)) (taken_split dss seen left rest ds at last) ∙ ap needs_in (all_of-append seen (ds ∷ reverse rest))
      ∙ needs_in-append (all_of seen) (ds ++ more) ∙ ap (λ xs. needs_in (all_of seen) ++ xs) (needs_in-append ds more)) is few

-- Globals, variables, heap sites and instructions.
module _ (structs : List Struct) (gs fs ss ls : List ObjectType) (s0 s1 s2 s3 : List Shape) (few : AreFew (shapes_from structs s0 (gs ++ fs ++ ss ++ ls))) where
  in_order : gs ++ fs ++ ss ++ ls ≡ gs ++ (fs ++ (ss ++ ls))
  in_order = append_assoc (gs ++ fs) ss ls ∙ append_assoc gs fs (ss ++ ls)

  pub few_globals : AreFew (shapes_from structs s0 gs)
  few_globals = few_next structs s0 s0 (gs ++ fs ++ ss ++ ls) [] gs (fs ++ (ss ++ ls)) in_order refl few

  pub few_variables : s1 ≡ shapes_from structs s0 gs → AreFew (shapes_from structs s1 fs)
  few_variables first = few_next structs s0 s1 (gs ++ fs ++ ss ++ ls) gs fs (ss ++ ls) in_order first few

  after_two : s1 ≡ shapes_from structs s0 gs → s2 ≡ shapes_from structs s1 fs → s2 ≡ shapes_from structs s0 (gs ++ fs)
  after_two first second = second ∙ ap (λ s. shapes_from structs s fs) first ∙ sym (shapes_from-append structs s0 gs fs)

  pub few_new : s1 ≡ shapes_from structs s0 gs → s2 ≡ shapes_from structs s1 fs → AreFew (shapes_from structs s2 ss)
  few_new first second = few_next structs s0 s2 (gs ++ fs ++ ss ++ ls) (gs ++ fs) ss ls (append_assoc (gs ++ fs) ss ls) (after_two first second) few

  pub few_named : s1 ≡ shapes_from structs s0 gs → s2 ≡ shapes_from structs s1 fs → s3 ≡ shapes_from structs s2 ss → AreFew (shapes_from structs s3 ls)
  few_named first second third =
      let is : s3 ≡ shapes_from structs s0 (gs ++ fs ++ ss) = third ∙ ap (λ s. shapes_from structs s ss) (after_two first second) ∙ sym (shapes_from-append structs s0 (gs ++ fs) ss) in
      few_next structs s0 s3 (gs ++ fs ++ ss ++ ls) (gs ++ fs ++ ss) ls [] (ap (λ xs. gs ++ fs ++ ss ++ xs) (sym (append-nil ls))) is few
