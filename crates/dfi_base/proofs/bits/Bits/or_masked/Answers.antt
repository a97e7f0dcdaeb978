use Rattle.std.proofs.Common.{◌≡◌, ◌∙◌, sym, arith}
use Rattle.std.specs.Vec.{with_items}
use Rattle.std.proofs.lemmas.List.{with_items_is}
use Rattle.dfi_base.specs.Bits.{joined, met}
use Rattle.dfi_base.proofs.PackedRows.{IsRow, row_of, moved, unchanged, words_long, or_masked_row}
use Rattle.dfi_base.proofs.bits.Bits.or_masked.Goals as goal

pub or_words_under-requires-clause-other : goal.or_words_under-requires-clause-other
or_words_under-requires-clause-other c =
    let one : IsRow c.self.inside.len c.as_mut_slice.result.now c.args.self.now = row_of c.self.inside.len c.self.inside.words.items c.as_mut_slice.result.now c.args.self.now c.as_mut_slice.ensures.value c.self.invariant c.self.view_is in
    let two : IsRow c.other.inside.len c.as_slice.result.now c.args.other.now = row_of c.other.inside.len c.other.inside.words.items c.as_slice.result.now c.args.other.now c.as_slice.ensures.value c.other.invariant c.other.view_is in
    words_long c.self.inside.len c.other.inside.len c.as_mut_slice.result.now c.as_slice.result.now c.args.self.now c.args.other.now one two c.requires.other

pub or_words_under-requires-clause-mask : goal.or_words_under-requires-clause-mask
or_words_under-requires-clause-mask c =
    let one : IsRow c.self.inside.len c.as_mut_slice.result.now c.args.self.now = row_of c.self.inside.len c.self.inside.words.items c.as_mut_slice.result.now c.args.self.now c.as_mut_slice.ensures.value c.self.invariant c.self.view_is in
    let two : IsRow c.mask.inside.len c.as_slice-2.result.now c.args.mask.now = row_of c.mask.inside.len c.mask.inside.words.items c.as_slice-2.result.now c.args.mask.now c.as_slice-2.ensures.value c.mask.invariant c.mask.view_is in
    words_long c.self.inside.len c.mask.inside.len c.as_mut_slice.result.now c.as_slice-2.result.now c.args.self.now c.args.mask.now one two c.requires.mask

made : (c : goal.After-self-1) → IsRow c.self.inside.len c.or_words_under.new.words (joined c.args.self.now (met c.args.other.now c.args.mask.now))
made c =
    let r0 : IsRow c.self.inside.len c.as_mut_slice.result.now c.args.self.now = row_of c.self.inside.len c.self.inside.words.items c.as_mut_slice.result.now c.args.self.now c.as_mut_slice.ensures.value c.self.invariant c.self.view_is in
    let r1 : IsRow c.other.inside.len c.as_slice.result.now c.args.other.now = row_of c.other.inside.len c.other.inside.words.items c.as_slice.result.now c.args.other.now c.as_slice.ensures.value c.other.invariant c.other.view_is in
    let r2 : IsRow c.mask.inside.len c.as_slice-2.result.now c.args.mask.now = row_of c.mask.inside.len c.mask.inside.words.items c.as_slice-2.result.now c.args.mask.now c.as_slice-2.ensures.value c.mask.invariant c.mask.view_is in
    or_masked_row c.self.inside.len c.other.inside.len c.mask.inside.len c.or_words_under.new.words c.as_mut_slice.result.now c.as_slice.result.now c.as_slice-2.result.now c.args.self.now c.args.other.now c.args.mask.now r0 r1 r2 c.requires.other c.requires.mask c.or_words_under.auto.words c.or_words_under.ensures.each

items : (c : goal.After-self-1) → (with_items c.self.inside.words c.or_words_under.new.words).items ≡ c.or_words_under.new.words
items c = with_items_is c.self.inside.words c.or_words_under.new.words (omega (arith, c.or_words_under.auto.words, c.as_mut_slice.ensures.len))

stands : (c : goal.After-self-1) → IsRow c.self.inside.len (with_items c.self.inside.words c.or_words_under.new.words).items (joined c.args.self.now (met c.args.other.now c.args.mask.now))
stands c = moved c.self.inside.len c.or_words_under.new.words (with_items c.self.inside.words c.or_words_under.new.words).items (joined c.args.self.now (met c.args.other.now c.args.mask.now)) (items c) (made c)

pub invariant_of-self : goal.invariant_of-self
invariant_of-self c = (stands c).packed

pub returns-clause-row : goal.returns-clause-row
returns-clause-row c = (stands c).seen

pub returns-clause-changed : goal.returns-clause-changed
returns-clause-changed c =
    let one : IsRow c.self.inside.len c.as_mut_slice.result.now c.args.self.now = row_of c.self.inside.len c.self.inside.words.items c.as_mut_slice.result.now c.args.self.now c.as_mut_slice.ensures.value c.self.invariant c.self.view_is in
    let says = unchanged c.self.inside.len c.as_mut_slice.result.now c.or_words_under.new.words c.args.self.now (joined c.args.self.now (met c.args.other.now c.args.mask.now)) one (made c) in (
      λ quiet. (stands c).seen ∙ says.0 (c.or_words_under.ensures.changed.0 quiet),
      λ same. c.or_words_under.ensures.changed.1 (says.1 (sym (stands c).seen ∙ same)),
    )
