use Rattle.std.proofs.Common.{◌≡◌, ◌∙◌, sym, arith}
use Rattle.std.specs.Vec.{with_items}
use Rattle.std.proofs.lemmas.List.{with_items_is}
use Rattle.dfi_base.specs.Bits.{joined}
use Rattle.dfi_base.proofs.PackedRows.{IsRow, row_of, moved, unchanged, words_long, or_row}
use Rattle.dfi_base.proofs.bits.Bits.or.Goals as goal

pub or_words-requires : goal.or_words-requires
or_words-requires c =
    let one : IsRow c.self.inside.len c.as_mut_slice.result.now c.args.self.now = row_of c.self.inside.len c.self.inside.words.items c.as_mut_slice.result.now c.args.self.now c.as_mut_slice.ensures.value c.self.invariant c.self.view_is in
    let two : IsRow c.other.inside.len c.as_slice.result.now c.args.other.now = row_of c.other.inside.len c.other.inside.words.items c.as_slice.result.now c.args.other.now c.as_slice.ensures.value c.other.invariant c.other.view_is in
    words_long c.self.inside.len c.other.inside.len c.as_mut_slice.result.now c.as_slice.result.now c.args.self.now c.args.other.now one two c.requires

made : (c : goal.After-self-1) → IsRow c.self.inside.len c.or_words.new.words (joined c.args.self.now c.args.other.now)
made c =
    let r0 : IsRow c.self.inside.len c.as_mut_slice.result.now c.args.self.now = row_of c.self.inside.len c.self.inside.words.items c.as_mut_slice.result.now c.args.self.now c.as_mut_slice.ensures.value c.self.invariant c.self.view_is in
    let r1 : IsRow c.other.inside.len c.as_slice.result.now c.args.other.now = row_of c.other.inside.len c.other.inside.words.items c.as_slice.result.now c.args.other.now c.as_slice.ensures.value c.other.invariant c.other.view_is in
    or_row c.self.inside.len c.other.inside.len c.or_words.new.words c.as_mut_slice.result.now c.as_slice.result.now c.args.self.now c.args.other.now r0 r1 c.requires c.or_words.auto.words c.or_words.ensures.each

items : (c : goal.After-self-1) → (with_items c.self.inside.words c.or_words.new.words).items ≡ c.or_words.new.words
items c = with_items_is c.self.inside.words c.or_words.new.words (omega (arith, c.or_words.auto.words, c.as_mut_slice.ensures.len))

stands : (c : goal.After-self-1) → IsRow c.self.inside.len (with_items c.self.inside.words c.or_words.new.words).items (joined c.args.self.now c.args.other.now)
stands c = moved c.self.inside.len c.or_words.new.words (with_items c.self.inside.words c.or_words.new.words).items (joined c.args.self.now c.args.other.now) (items c) (made c)

pub invariant_of-self : goal.invariant_of-self
invariant_of-self c = (stands c).packed

pub returns-clause-row : goal.returns-clause-row
returns-clause-row c = (stands c).seen

pub returns-clause-changed : goal.returns-clause-changed
returns-clause-changed c =
    let one : IsRow c.self.inside.len c.as_mut_slice.result.now c.args.self.now = row_of c.self.inside.len c.self.inside.words.items c.as_mut_slice.result.now c.args.self.now c.as_mut_slice.ensures.value c.self.invariant c.self.view_is in
    let says = unchanged c.self.inside.len c.as_mut_slice.result.now c.or_words.new.words c.args.self.now (joined c.args.self.now c.args.other.now) one (made c) in (
      λ quiet. (stands c).seen ∙ says.0 (c.or_words.ensures.changed.0 quiet),
      λ same. c.or_words.ensures.changed.1 (says.1 (sym (stands c).seen ∙ same)),
    )
