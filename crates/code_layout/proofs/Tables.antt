-- The tables of a layout hold the numbers of its code.
use Rattle.std.proofs.Common.{◌≡◌, ℕ, zero, suc, ◌+◌, ◌<◌, ◌≤◌, ◌^◌, List, [], ◌∷◌, length, get_or, slice_index, take, map, sum, refl, sym, ap, ◌∙◌, subst, arith, Option, Some, None, MatchOption}
use Rattle.std.specs.Prelude.{slice_get, option_map}
use Rattle.std.proofs.lemmas.Option.{slice_get-map, slice_get-get_or}
use Rattle.std.proofs.lemmas.List.Sums.{sum-map, sum_by-cons}
use Rattle.std.specs.List.{sum_by}
use Rattle.tac_ir.specs.declared.code.Code.{Code}
use Rattle.tac_ir.specs.declared.code.Shape.{Shape}
use Rattle.tac_ir.specs.declared.code.Fun.{Fun}
use Rattle.tac_ir.specs.Layout.{words_by, shape_words, words_before, parts_of, vars_of, frame_words}
use Rattle.tac_ir.specs.Counts.{temps_of, temps_of_fun}
use Rattle.tac_ir.specs.GoodForm.{GoodForm}
use Rattle.tac_ir.proofs.ShapeWords.{shape_words-at, shape_words-most}
use Rattle.code_layout.specs.declared.frames.Frame.{Frame}
use Rattle.code_layout.specs.LaidOut.{global_start}
use Rattle.code_layout.specs.LayoutOf.{IsFrameOf, IsLayoutOf, item_of}
use Rattle.code_layout.specs.tools.Offsets.{offsets_from, parts_in, fields_by, frame_by}

past : {A : Type 0} (xs : List A) (i : ℕ) → slice_get xs i ≡ None → length xs ≤ i
past [] i h = omega arith
past (x ∷ xs) zero h = cc
past (x ∷ xs) (suc i) h = omega (arith, past xs i h)

pub found_at : {A : Type 0} (xs ys : List A) (i : ℕ) (x : A) → xs ≡ ys → i < length xs → x ≡ get_or xs i x → slice_get ys i ≡ Some x
found_at xs ys i x same inside is = ap (λ zs. slice_get zs i) (sym same) ∙ slice_get-get_or xs i x inside ∙ ap Some (sym is)

map_same : (f g : ℕ → ℕ) → ((s : ℕ) → f s ≡ g s) → (xs : List ℕ) → map f xs ≡ map g xs
map_same f g same [] = refl
map_same f g same (x ∷ xs) = cc (same x, map_same f g same xs)

-- item v of a row is the sum of the words before it
offset_by : (words : ℕ → ℕ) (from : ℕ) (shapes : List ℕ) (v : ℕ) → v < length shapes → slice_index (offsets_from words from shapes) v ≡ from + sum_by words (take v shapes)
offset_by words from [] v low = absurd (omega (arith, low))
offset_by words from (s ∷ shapes) zero low = omega arith
offset_by words from (s ∷ shapes) (suc v) low =
    omega (arith, offset_by words (from + words s) shapes v (omega (arith, low)), sum_by-cons words s (take v shapes))

offset_at : (words : ℕ → ℕ) (from : ℕ) (shapes : List ℕ) (v : ℕ) → v < length shapes → slice_index (offsets_from words from shapes) v ≡ from + sum (map words (take v shapes))
offset_at words from shapes v low = omega (arith, offset_by words from shapes v low, sum-map words (take v shapes))

module _ (c : Code) (good : GoodForm c) (sizes : List ℕ) (same : (s : ℕ) → slice_index sizes s ≡ shape_words c s) where
  -- sums by the table of words are sums by the words
  sums : (xs : List ℕ) → sum (map (slice_index sizes) xs) ≡ sum (map (shape_words c) xs)
  sums xs = ap sum (map_same (slice_index sizes) (shape_words c) same xs)

  pub fields_fit : (s : ℕ) (shape : Shape) → slice_get c.shapes s ≡ Some shape → 0 + sum (map (slice_index sizes) (parts_in shape)) < 2 ^ 32
  fields_fit s Shape.Int found = omega arith
  fields_fit s Shape.Ptr found = omega arith
  fields_fit s (Shape.Array len item) found = omega arith
  fields_fit s (Shape.Struct parts) found = omega (arith, sums parts, shape_words-at c good s (Shape.Struct parts) found, shape_words-most c good s)

  pub frame_fits : (f : ℕ) (fun : Fun) → slice_get c.funs f ≡ Some fun → 1 + sum (map (slice_index sizes) fun.vars) < 2 ^ 32
  frame_fits f fun found =
      let most = (good.funs.frames f fun found).words in
      let here : vars_of c f ≡ fun.vars = ap (λ o. elim o [ None ↦ [] | Some x ↦ x.vars ]) found in
      omega (arith, sums fun.vars, most, ap (λ xs. sum (map (shape_words c) xs)) here)

  pub fields_are : (s k : ℕ) → k < length (parts_of c s) → item_of (map (fields_by (slice_index sizes)) c.shapes) s k ≡ words_before c (parts_of c s) k
  fields_are s k low = by (slice_get c.shapes s) refl low
    where
      W : ℕ → ℕ
      W = slice_index sizes

      there : (shape : Shape) → slice_get c.shapes s ≡ Some shape → item_of (map (fields_by W) c.shapes) s k ≡ slice_index (fields_by W shape) k
      there shape found = ap (λ o. elim o [ None ↦ 0 | Some xs ↦ slice_index xs k ]) (slice_get-map (fields_by W) c.shapes s ∙ ap (option_map (fields_by W)) found)

      by : (o : Option Shape) → slice_get c.shapes s ≡ o → k < length {A = ℕ} (elim o [ Some (Shape.Struct parts) ↦ parts | _ ↦ [] ])
          → item_of (map (fields_by W) c.shapes) s k ≡ sum (map (shape_words c) (take k (elim o [ Some (Shape.Struct parts) ↦ parts | _ ↦ [] ])))
      by None found low = absurd (omega (arith, low))
      by (Some Shape.Int) found low = absurd (omega (arith, low))
      by (Some Shape.Ptr) found low = absurd (omega (arith, low))
      by (Some (Shape.Array len item)) found low = absurd (omega (arith, low))
      by (Some (Shape.Struct parts)) found low =
          let offset : slice_index (offsets_from W 0 parts) k ≡ sum (map W (take k parts)) = omega (arith, offset_at W 0 parts k low) in
          there (Shape.Struct parts) found ∙ offset ∙ sums (take k parts)

  pub frame_is : (f : ℕ) (fun : Fun) → slice_get c.funs f ≡ Some fun → IsFrameOf c f (frame_by (slice_index sizes) fun)
  frame_is f fun found =
      let here : vars_of c f ≡ fun.vars = ap (λ o. elim o [ None ↦ [] | Some x ↦ x.vars ]) found in
      record {
        words = ap (λ n. 1 + n) (sums fun.vars ∙ ap (λ xs. sum (map (shape_words c) xs)) (sym here));
        vars = λ v low.
            offset_at (slice_index sizes) 1 fun.vars v (subst (λ xs. v < length xs) here low) ∙ ap (λ n. 1 + n) (sums (take v fun.vars) ∙ ap (λ xs. words_before c xs v) (sym here));
        temps = sym (ap (λ o. elim o [ None ↦ 0 | Some x ↦ temps_of_fun x ]) found);
      }

  pub frames_are : (f : ℕ) → MatchOption (slice_get (map (frame_by (slice_index sizes)) c.funs) f) (length c.funs ≤ f) (IsFrameOf c f)
  frames_are f = by (slice_get c.funs f) refl
    where
      F : Fun → Frame
      F = frame_by (slice_index sizes)

      by : (o : Option Fun) → slice_get c.funs f ≡ o → MatchOption (slice_get (map F c.funs) f) (length c.funs ≤ f) (IsFrameOf c f)
      by None found = subst (λ o. MatchOption o (length c.funs ≤ f) (IsFrameOf c f)) (sym (slice_get-map F c.funs f ∙ ap (option_map F) found)) (past c.funs f found)
      by (Some fun) found = subst (λ o. MatchOption o (length c.funs ≤ f) (IsFrameOf c f)) (sym (slice_get-map F c.funs f ∙ ap (option_map F) found)) (frame_is f fun found)

-- tables that were computed by the words of the shapes are those of the code
pub laid : (c : Code) → GoodForm c → (sizes globals : List ℕ) (fields : List (List ℕ)) (frames : List Frame) → ((s : ℕ) → slice_index sizes s ≡ shape_words c s)
    → ((g : ℕ) → g ≤ length c.globals → slice_index globals g ≡ global_start c g) → fields ≡ map (fields_by (slice_index sizes)) c.shapes → frames ≡ map (frame_by (slice_index sizes)) c.funs
    → IsLayoutOf c (record { shapes = sizes; fields = fields; globals = globals; frames = frames })
laid c good sizes globals fields frames same starts by_field by_frame = record {
  shapes = same;
  fields = λ s k low. ap (λ rows. item_of rows s k) by_field ∙ fields_are c good sizes same s k low;
  globals = λ v low. starts v (omega (arith, low));
  frames = λ f. subst (λ rows. MatchOption (slice_get rows f) (length c.funs ≤ f) (IsFrameOf c f)) (sym by_frame) (frames_are c good sizes same f);
}
