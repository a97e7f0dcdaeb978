use Rattle.std.proofs.Common.{length, ap, arith, sym, subst}
use Rattle.dfi_base.proofs.PackedRows.{IsRow, next_member}
use Rattle.dfi_base.proofs.bits.Bits.next_member.Goals as goal

pub next_bit-requires : goal.next_bit-requires
next_bit-requires c = omega (arith, ap length c.as_slice.ensures.value, c.self.invariant.enough, c.self.invariant.fits)

pub returns : goal.returns
returns c =
    next_member c.self.inside.len c.as_slice.result.now c.args.self.now c.args.from c.next_bit.result
    (subst (λ ws. IsRow c.self.inside.len ws c.args.self.now) (sym c.as_slice.ensures.value) (record { packed = c.self.invariant; seen = c.self.view_is })) c.next_bit.ensures
