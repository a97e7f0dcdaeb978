use Rattle.std.proofs.Common.{◌≡◌, ◌∙◌, ◌/◌, arith, ap}
use Rattle.std.proofs.lemmas.Grind.{get_or_default_zero}
use Rattle.std.specs.Prelude.{slice_index, slice_set}
use Rattle.dfi_base.specs.tools.Packed.{bit_of}
use Rattle.dfi_base.proofs.PackedRows.{IsRow, place_inside, put_bits}
use Rattle.dfi_base.proofs.bits.Bits.put.Goals as goal

pub index-requires : goal.index-requires
index-requires c =
    let words = c.self.inside.words in
    let within = place_inside c.self.inside.len words.items c.args.self.now c.args.i (record { packed = c.self.invariant; seen = c.self.view_is }) c.requires in
    omega (arith, within, words.ok.0)

pub index_mut-requires : goal.index_mut-requires
index_mut-requires c =
    let words = c.self.inside.words in
    let within = place_inside c.self.inside.len words.items c.args.self.now c.args.i (record { packed = c.self.invariant; seen = c.self.view_is }) c.requires in
    omega (arith, within, words.ok.0)

made : (c : goal.After-self-1) → IsRow c.self.inside.len (slice_set c.self.inside.words.items (c.args.i / 64) c.word_with.result) (slice_set c.args.self.now c.args.i c.args.b)
made c =
    let words = c.self.inside.words.items in
    let i = c.args.i in
    let row : IsRow c.self.inside.len c.self.inside.words.items c.args.self.now = (record { packed = c.self.invariant; seen = c.self.view_is }) in
    let word = c.index.result.now in
    let at : word ≡ slice_index words (i / 64) = c.index.ensures ∙ get_or_default_zero words (i / 64) word (place_inside c.self.inside.len words c.args.self.now i row c.requires) in
    put_bits c.self.inside.len words c.args.self.now i c.word_with.result c.args.b row c.requires c.word_with.ensures.there
    (λ j within apart. c.word_with.ensures.elsewhere j within apart ∙ ap (λ w. bit_of w j) at)

pub invariant_of-self : goal.invariant_of-self
invariant_of-self c = (made c).packed

pub returns : goal.returns
returns c = (made c).seen
