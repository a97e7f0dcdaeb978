-- Code of a good form is laid out in few words.
use Rattle.std.proofs.Common.{◌≡◌, ℕ, ◌<◌, ◌≤◌, ◌^◌, List, [], ◌∷◌, length, get_or, reverse, true, false, refl, arith, ◌∙◌, ap}
use Rattle.std.specs.Prelude.{◌&&◌}
use Rattle.std.proofs.lemmas.Bool.{lt-ltb, eq-eqb}
use Rattle.std.proofs.lemmas.List.{length-reverse}
use Rattle.std.proofs.lemmas.Option.{slice_get-get_or}
use Rattle.tac_ir.specs.declared.code.Code.{Code}
use Rattle.tac_ir.specs.declared.code.Shape.{Shape}
use Rattle.tac_ir.specs.Layout.{words_by, words_in}
use Rattle.tac_ir.specs.GoodForm.{GoodForm}
use Rattle.tac_ir.proofs.ShapeWords.{words_in-earlier}
use Rattle.code_layout.specs.LaidOut.{are_sized, global_start, IsLaidOut}

last_words : (shape : Shape) (earlier : List Shape) → words_in (shape ∷ earlier) (length earlier) ≡ words_by (words_in earlier) shape
unfolding words_in
last_words shape earlier = ap (λ b. elim b as (λ x. ℕ) [ true ↦ words_by (words_in earlier) shape | false ↦ words_in earlier (length earlier) ]) (eq-eqb (length earlier) (length earlier) refl)

sized : (shapes : List Shape) → ((s : ℕ) → s < length shapes → words_in shapes s ≤ 24576) → are_sized shapes ≡ true
sized [] few = refl
sized (shape ∷ earlier) few =
    let here = few (length earlier) (omega arith) in
    ap (λ b. b && are_sized earlier) (lt-ltb (words_by (words_in earlier) shape) (2 ^ 32) (omega (arith, here, last_words shape earlier)))
    ∙ sized earlier (λ s low. omega (arith, few s (omega (arith, low)), words_in-earlier (shape ∷ []) earlier s low))

pub laid_out : (c : Code) → GoodForm c → IsLaidOut c
laid_out c good = record {
  shapes = sized (reverse c.shapes) (λ s low. (
      let within : s < length c.shapes = omega (arith, low, length-reverse c.shapes) in
      (good.shapes.each s (get_or c.shapes s Shape.Int) (slice_get-get_or c.shapes s Shape.Int within)).words));
  globals = omega (arith, good.globals.words);
}
