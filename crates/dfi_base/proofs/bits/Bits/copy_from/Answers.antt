use Rattle.std.proofs.Common.{◌≡◌, ◌∙◌, sym, subst, arith}
use Rattle.std.specs.Vec.{with_items}
use Rattle.std.proofs.lemmas.List.{with_items_is}
use Rattle.dfi_base.proofs.PackedRows.{IsRow, row_of, moved, words_long, row_long}
use Rattle.dfi_base.proofs.bits.Bits.copy_from.Goals as goal

pub copy_from_slice-requires : goal.copy_from_slice-requires
copy_from_slice-requires c =
    let one : IsRow c.self.inside.len c.as_mut_slice.result.now c.args.self.now = row_of c.self.inside.len c.self.inside.words.items c.as_mut_slice.result.now c.args.self.now c.as_mut_slice.ensures.value c.self.invariant c.self.view_is in
    let two : IsRow c.other.inside.len c.as_slice.result.now c.args.other.now = row_of c.other.inside.len c.other.inside.words.items c.as_slice.result.now c.args.other.now c.as_slice.ensures.value c.other.invariant c.other.view_is in
    words_long c.self.inside.len c.other.inside.len c.as_mut_slice.result.now c.as_slice.result.now c.args.self.now c.args.other.now one two c.requires

stands : (c : goal.After-self-1) → IsRow c.self.inside.len (with_items c.self.inside.words c.copy_from_slice.new.self).items c.args.other.now
stands c =
    let one : IsRow c.self.inside.len c.as_mut_slice.result.now c.args.self.now = row_of c.self.inside.len c.self.inside.words.items c.as_mut_slice.result.now c.args.self.now c.as_mut_slice.ensures.value c.self.invariant c.self.view_is in
    let two : IsRow c.other.inside.len c.as_slice.result.now c.args.other.now = row_of c.other.inside.len c.other.inside.words.items c.as_slice.result.now c.args.other.now c.as_slice.ensures.value c.other.invariant c.other.view_is in
    let width : c.other.inside.len ≡ c.self.inside.len =
    sym (row_long c.other.inside.len c.as_slice.result.now c.args.other.now two) ∙ sym c.requires ∙ row_long c.self.inside.len c.as_mut_slice.result.now c.args.self.now one in
    let items : (with_items c.self.inside.words c.copy_from_slice.new.self).items ≡ c.copy_from_slice.new.self =
    with_items_is c.self.inside.words c.copy_from_slice.new.self (omega (arith, c.copy_from_slice.ensures.len, c.as_mut_slice.ensures.len)) in
    subst (λ n. IsRow n (with_items c.self.inside.words c.copy_from_slice.new.self).items c.args.other.now) width
    (moved c.other.inside.len c.as_slice.result.now (with_items c.self.inside.words c.copy_from_slice.new.self).items c.args.other.now (items ∙ c.copy_from_slice.ensures.after) two)

pub invariant_of-self : goal.invariant_of-self
invariant_of-self c = (stands c).packed

pub returns : goal.returns
returns c = (stands c).seen
