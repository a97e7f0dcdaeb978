use Rattle.dfi_base.proofs.PackedRows.{IsRow, row_of, words_long, within_row_under}
use Rattle.dfi_base.proofs.bits.Bits.is_within_masked.Goals as goal

pub is_within_words_under-requires-clause-other : goal.is_within_words_under-requires-clause-other
is_within_words_under-requires-clause-other c =
    let one : IsRow c.self.inside.len c.as_slice.result.now c.args.self.now = row_of c.self.inside.len c.self.inside.words.items c.as_slice.result.now c.args.self.now c.as_slice.ensures.value c.self.invariant c.self.view_is in
    let two : IsRow c.other.inside.len c.as_slice-2.result.now c.args.other.now = row_of c.other.inside.len c.other.inside.words.items c.as_slice-2.result.now c.args.other.now c.as_slice-2.ensures.value c.other.invariant c.other.view_is in
    words_long c.self.inside.len c.other.inside.len c.as_slice.result.now c.as_slice-2.result.now c.args.self.now c.args.other.now one two c.requires.other

pub is_within_words_under-requires-clause-mask : goal.is_within_words_under-requires-clause-mask
is_within_words_under-requires-clause-mask c =
    let one : IsRow c.self.inside.len c.as_slice.result.now c.args.self.now = row_of c.self.inside.len c.self.inside.words.items c.as_slice.result.now c.args.self.now c.as_slice.ensures.value c.self.invariant c.self.view_is in
    let two : IsRow c.mask.inside.len c.as_slice-3.result.now c.args.mask.now = row_of c.mask.inside.len c.mask.inside.words.items c.as_slice-3.result.now c.args.mask.now c.as_slice-3.ensures.value c.mask.invariant c.mask.view_is in
    words_long c.self.inside.len c.mask.inside.len c.as_slice.result.now c.as_slice-3.result.now c.args.self.now c.args.mask.now one two c.requires.mask

pub returns : goal.returns
returns c =
    let one : IsRow c.self.inside.len c.as_slice.result.now c.args.self.now = row_of c.self.inside.len c.self.inside.words.items c.as_slice.result.now c.args.self.now c.as_slice.ensures.value c.self.invariant c.self.view_is in
    let two : IsRow c.other.inside.len c.as_slice-2.result.now c.args.other.now = row_of c.other.inside.len c.other.inside.words.items c.as_slice-2.result.now c.args.other.now c.as_slice-2.ensures.value c.other.invariant c.other.view_is in
    let three : IsRow c.mask.inside.len c.as_slice-3.result.now c.args.mask.now = row_of c.mask.inside.len c.mask.inside.words.items c.as_slice-3.result.now c.args.mask.now c.as_slice-3.ensures.value c.mask.invariant c.mask.view_is in
    within_row_under c.self.inside.len c.other.inside.len c.mask.inside.len c.as_slice.result.now c.as_slice-2.result.now c.as_slice-3.result.now c.args.self.now c.args.other.now c.args.mask.now c.is_within_words_under.result one two three c.requires.mask c.is_within_words_under.ensures
