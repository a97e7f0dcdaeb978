use Rattle.std.proofs.Common.{◌≡◌, arith}
use Rattle.std.specs.Vec.{with_items}
use Rattle.std.proofs.lemmas.List.{with_items_is}
use Rattle.dfi_base.specs.Bits.{met}
use Rattle.dfi_base.proofs.PackedRows.{IsRow, row_of, moved, words_long, and_row}
use Rattle.dfi_base.proofs.bits.Bits.and.Goals as goal

pub and_words-requires : goal.and_words-requires
and_words-requires c =
    let one : IsRow c.self.inside.len c.as_mut_slice.result.now c.args.self.now = row_of c.self.inside.len c.self.inside.words.items c.as_mut_slice.result.now c.args.self.now c.as_mut_slice.ensures.value c.self.invariant c.self.view_is in
    let two : IsRow c.other.inside.len c.as_slice.result.now c.args.other.now = row_of c.other.inside.len c.other.inside.words.items c.as_slice.result.now c.args.other.now c.as_slice.ensures.value c.other.invariant c.other.view_is in
    words_long c.self.inside.len c.other.inside.len c.as_mut_slice.result.now c.as_slice.result.now c.args.self.now c.args.other.now one two c.requires

made : (c : goal.After-self-1) → IsRow c.self.inside.len c.and_words.new.words (met c.args.self.now c.args.other.now)
made c =
    let r0 : IsRow c.self.inside.len c.as_mut_slice.result.now c.args.self.now = row_of c.self.inside.len c.self.inside.words.items c.as_mut_slice.result.now c.args.self.now c.as_mut_slice.ensures.value c.self.invariant c.self.view_is in
    let r1 : IsRow c.other.inside.len c.as_slice.result.now c.args.other.now = row_of c.other.inside.len c.other.inside.words.items c.as_slice.result.now c.args.other.now c.as_slice.ensures.value c.other.invariant c.other.view_is in
    and_row c.self.inside.len c.other.inside.len c.and_words.new.words c.as_mut_slice.result.now c.as_slice.result.now c.args.self.now c.args.other.now r0 r1 c.requires c.and_words.auto.words c.and_words.ensures

items : (c : goal.After-self-1) → (with_items c.self.inside.words c.and_words.new.words).items ≡ c.and_words.new.words
items c = with_items_is c.self.inside.words c.and_words.new.words (omega (arith, c.and_words.auto.words, c.as_mut_slice.ensures.len))

stands : (c : goal.After-self-1) → IsRow c.self.inside.len (with_items c.self.inside.words c.and_words.new.words).items (met c.args.self.now c.args.other.now)
stands c = moved c.self.inside.len c.and_words.new.words (with_items c.self.inside.words c.and_words.new.words).items (met c.args.self.now c.args.other.now) (items c) (made c)

pub invariant_of-self : goal.invariant_of-self
invariant_of-self c = (stands c).packed

pub returns : goal.returns
returns c = (stands c).seen
