use Rattle.dfi_base.proofs.PackedRows.{IsRow, row_of, words_long, within_row}
use Rattle.dfi_base.proofs.bits.Bits.is_within.Goals as goal

pub is_within_words-requires : goal.is_within_words-requires
is_within_words-requires c =
    let one : IsRow c.self.inside.len c.as_slice.result.now c.args.self.now = row_of c.self.inside.len c.self.inside.words.items c.as_slice.result.now c.args.self.now c.as_slice.ensures.value c.self.invariant c.self.view_is in
    let two : IsRow c.other.inside.len c.as_slice-2.result.now c.args.other.now = row_of c.other.inside.len c.other.inside.words.items c.as_slice-2.result.now c.args.other.now c.as_slice-2.ensures.value c.other.invariant c.other.view_is in
    words_long c.self.inside.len c.other.inside.len c.as_slice.result.now c.as_slice-2.result.now c.args.self.now c.args.other.now one two c.requires

pub returns : goal.returns
returns c =
    let one : IsRow c.self.inside.len c.as_slice.result.now c.args.self.now = row_of c.self.inside.len c.self.inside.words.items c.as_slice.result.now c.args.self.now c.as_slice.ensures.value c.self.invariant c.self.view_is in
    let two : IsRow c.other.inside.len c.as_slice-2.result.now c.args.other.now = row_of c.other.inside.len c.other.inside.words.items c.as_slice-2.result.now c.args.other.now c.as_slice-2.ensures.value c.other.invariant c.other.view_is in
    within_row c.self.inside.len c.other.inside.len c.as_slice.result.now c.as_slice-2.result.now c.args.self.now c.args.other.now c.is_within_words.result one two c.is_within_words.ensures
