use Rattle.std.proofs.Common.{◌≡◌, ◌/◌, ◌%◌, arith, sym, ap, ◌∙◌}
use Rattle.std.specs.Prelude.{◌==◌, slice_index}
use Rattle.std.proofs.lemmas.Grind.{get_or_default_zero}
use Rattle.std.proofs.lemmas.Nat.Bits.{shr_and_one}
use Rattle.dfi_base.specs.tools.Packed.{bit_of}
use Rattle.dfi_base.proofs.PackedRows.{IsRow, row_has, place_inside}
use Rattle.dfi_base.proofs.bits.Bits.get.Goals as goal

pub index-requires : goal.index-requires
index-requires c =
    let words = c.self.inside.words in
    let within = place_inside c.self.inside.len words.items c.args.self.now c.args.i (record { packed = c.self.invariant; seen = c.self.view_is }) c.requires in
    omega (arith, within, words.ok.0)

pub returns : goal.returns
returns c =
    let words = c.self.inside.words.items in
    let i = c.args.i in
    let row : IsRow c.self.inside.len words c.args.self.now = record { packed = c.self.invariant; seen = c.self.view_is } in
    let word = c.index.result.now in
    let at : word ≡ slice_index words (i / 64) = c.index.ensures ∙ get_or_default_zero words (i / 64) word (place_inside c.self.inside.len words c.args.self.now i row c.requires) in
    ap (λ n. n == 1) (shr_and_one word (i % 64)) ∙ ap (λ w. bit_of w (i % 64)) at ∙ sym (row_has c.self.inside.len words c.args.self.now row i)
