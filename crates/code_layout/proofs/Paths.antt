-- Places of code of a good form.
use Rattle.std.proofs.Common.{◌≡◌, ℕ, ◌+◌, ◌-◌, ◌<◌, ◌≤◌, List, [], ◌∷◌, length, slice_index, take, drop, map, sum, sym, ap, ◌∙◌, subst, refl, arith, Option, Some, None, drop-cons, add-one}
use Rattle.std.specs.Prelude.{slice_get}
use Rattle.std.proofs.lemmas.List.{length-map, take_all, drop_all}
use Rattle.std.proofs.lemmas.Option.{slice_get_within, slice_get-get_or, get_or_from_slice_get}
use Rattle.tac_ir.specs.declared.code.Code.{Code}
use Rattle.tac_ir.specs.declared.code.Global.{Global}
use Rattle.tac_ir.specs.declared.code.Place.{Place}
use Rattle.tac_ir.specs.Layout.{shape_words, words_before, parts_of, vars_of, shapes_of_globals, along, frame_words}
use Rattle.tac_ir.specs.Places.{end_of_path, end_from, shape_of_place, IsPlace}
use Rattle.tac_ir.specs.GoodForm.{GoodForm}
use Rattle.tac_ir.proofs.ShapeWords.{shape_words-most, words_before-with, words_before-le, struct_words, along_within}
use Rattle.code_layout.specs.LeadsTo.{LeadsTo}
use Rattle.code_layout.specs.tools.Fitting.{IsFitting}

-- the words before a field fit
pub part_offset : (c : Code) → GoodForm c → (s k : ℕ) (parts : List ℕ) → parts ≡ parts_of c s → k < length (parts_of c s) → words_before c parts k ≤ 24576
part_offset c good s k parts same inside =
    let found : slice_get (parts_of c s) k ≡ Some (slice_index (parts_of c s) k) = slice_get-get_or (parts_of c s) k 0 inside in
    omega (arith, words_before-le c (parts_of c s) k, struct_words c good s k _ found, shape_words-most c good s, ap (λ xs. words_before c xs k) same)

-- where a path of fields has come to, and how far
pub record IsAlong (c : Code) (shape : ℕ) (path : List ℕ) (i here total : ℕ) : Type 0 where
  pub leads : LeadsTo c here (drop i path)
  pub sum : total + along c here (drop i path) ≡ along c shape path

-- the next field of a path is a part
pub record NextPart (c : Code) (here : ℕ) (path : List ℕ) (i : ℕ) : Type 0 where
  pub exists : slice_index path i < length (parts_of c here)
  pub leads : LeadsTo c (slice_index (parts_of c here) (slice_index path i)) (drop (i + 1) path)
  pub sum : along c here (drop i path) ≡ words_before c (parts_of c here) (slice_index path i) + along c (slice_index (parts_of c here) (slice_index path i)) (drop (i + 1) path)

pub next_part : (c : Code) (shape : ℕ) (path : List ℕ) (i here total : ℕ) → i < length path → IsAlong c shape path i here total → NextPart c here path i
next_part c shape path i here total inside so_far =
    let k = slice_index path i in
    let next : drop i path ≡ k ∷ drop (i + 1) path = rw add-one (drop-cons path i 0 inside) in
    let leads : LeadsTo c here (k ∷ drop (i + 1) path) = subst (λ p. LeadsTo c here p) next so_far.leads in
    by (slice_get (parts_of c here) k) refl leads next
  where
    by : (o : Option ℕ) → slice_get (parts_of c here) (slice_index path i) ≡ o
        → (e : ℕ) × (elim o [ None ↦ None | Some part ↦ end_of_path c part (drop (i + 1) path) ] ≡ Some e)
        → drop i path ≡ slice_index path i ∷ drop (i + 1) path → NextPart c here path i
    by None found leads next = absurd (let e : None ≡ Some leads.0 = leads.1 in cc)
    by (Some part) found leads next =
        let same : slice_index (parts_of c here) (slice_index path i) ≡ part = get_or_from_slice_get (parts_of c here) (slice_index path i) part 0 found in
        record {
          exists = slice_get_within (parts_of c here) (slice_index path i) part found;
          leads = (leads.0, ap (λ p. end_of_path c p (drop (i + 1) path)) same ∙ leads.1);
          sum = ap (λ p. along c here p) next;
        }

pub along_more : (c : Code) (shape : ℕ) (path : List ℕ) (i here there total words : ℕ) → i < length path → IsAlong c shape path i here total
    → words ≡ words_before c (parts_of c here) (slice_index path i) → there ≡ slice_index (parts_of c here) (slice_index path i)
    → IsAlong c shape path (i + 1) there (total + words)
along_more c shape path i here there total words inside so_far is at =
    let next = next_part c shape path i here total inside so_far in
    record {
      leads = subst (λ s. LeadsTo c s (drop (i + 1) path)) (sym at) next.leads;
      sum = omega (arith, so_far.sum, next.sum, is, ap (λ s. along c s (drop (i + 1) path)) at);
    }

pub along_fits : (c : Code) → GoodForm c → (shape : ℕ) (path : List ℕ) (i here total words : ℕ) → LeadsTo c shape path → i < length path → IsAlong c shape path i here total
    → words ≡ words_before c (parts_of c here) (slice_index path i) → total + words ≤ 24576
along_fits c good shape path i here total words leads inside so_far is =
    let next = next_part c shape path i here total inside so_far in
    omega (arith, so_far.sum, next.sum, is, along_within c good shape path leads.0 leads.1, shape_words-most c good shape)

pub along_all : (c : Code) (shape : ℕ) (path : List ℕ) (i here total : ℕ) → length path ≤ i → IsAlong c shape path i here total → total ≡ along c shape path
along_all c shape path i here total past so_far =
    let none : drop i path ≡ [] = drop_all i path past in
    let zero_more : along c here (drop i path) ≡ 0 = ap (λ p. along c here p) none in
    omega (arith, so_far.sum, zero_more)

-- Globals and variables.

place_fits : (c : Code) → GoodForm c → (vars : List ℕ) (v : ℕ) (path : List ℕ) (e : ℕ) → end_from c (slice_get vars v) path ≡ Some e → IsFitting c vars v path (sum (map (shape_words c) vars))
place_fits c good vars v path e is = by (slice_get vars v) refl is
  where
    by : (o : Option ℕ) → slice_get vars v ≡ o → end_from c o path ≡ Some e → IsFitting c vars v path (sum (map (shape_words c) vars))
    by None found is = cc
    by (Some s) found is =
        let same : slice_index vars v ≡ s = get_or_from_slice_get vars v s 0 found in
        record {
          exists = slice_get_within vars v s found;
          leads = (e, ap (λ x. end_of_path c x path) same ∙ is);
          fits = omega (arith, words_before-with c vars v s found, along_within c good s path e is, ap (λ x. along c x path) same);
        }

-- a place of a variable lies in the frame
pub local_fits : (c : Code) → GoodForm c → (f v : ℕ) (place : Place) (path : List ℕ) → place ≡ Place.Local v path → IsPlace c f place → IsFitting c (vars_of c f) v path (frame_words c f - 1)
local_fits c good f v place path same is =
    let fits = place_fits c good (vars_of c f) v path is.0 (ap (shape_of_place c f) (sym same) ∙ is.1) in
    record { exists = fits.exists; leads = fits.leads; fits = omega (arith, fits.fits) }

-- and one of a global among the globals
pub global_fits : (c : Code) → GoodForm c → (f v : ℕ) (place : Place) (path : List ℕ) → place ≡ Place.Global v path → IsPlace c f place → IsFitting c (shapes_of_globals c) v path 8176
global_fits c good f v place path same is =
    let shapes = shapes_of_globals c in
    let fits = place_fits c good shapes v path is.0 (ap (shape_of_place c f) (sym same) ∙ is.1) in
    let count : length shapes ≡ length c.globals = length-map c.globals (λ (g : Global). g.shape) in
    let all : words_before c shapes (length c.globals) ≡ sum (map (shape_words c) shapes) = ap (λ xs. sum (map (shape_words c) xs)) (take_all (length c.globals) shapes (omega (arith, count))) in
    record { exists = fits.exists; leads = fits.leads; fits = omega (arith, fits.fits, good.globals.words, all) }
