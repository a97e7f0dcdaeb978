use Rattle.std.proofs.Common.{◌≡◌, ℕ, zero, suc, nat_lt, true, false, true≢false, pos, Option, Some, None, refl, sym, ◌∙◌, subst, arith}
use Rattle.std.proofs.lemmas.Bool.{lt-ltb}
use Rattle.c_typed.specs.declared.types.ObjectType.{ObjectType}
use Rattle.tac_lower.specs.Instrs.{constant, null}
use Rattle.tac_lower.specs.Functions.{default, default_by}
use Rattle.tac_lower.specs.tools.Drafted.{is_pointer}
use Rattle.tac_lower.specs.tools.Emits.{Emits}
use Rattle.tac_lower.proofs.writer.Writer.default_value.Goals as goal

some_stars : (line stars : ℕ) → nat_lt 0 stars ≡ true → default_by line stars ≡ null line
some_stars line zero is = absurd (true≢false (sym is))
some_stars line (suc stars) is = refl

no_stars : (line stars : ℕ) → nat_lt 0 stars ≡ false → default_by line stars ≡ constant line (pos 0)
no_stars line zero is = refl
no_stars line (suc stars) is = absurd (true≢false (sym (lt-ltb 0 (suc stars) (omega arith)) ∙ is))

a_pointer : (line : ℕ) (t : Option ObjectType) → is_pointer t ≡ true → default line t ≡ null line
a_pointer line None is = absurd (true≢false (sym is))
a_pointer line (Some t) is = some_stars line t.stars is

no_pointer : (line : ℕ) (t : Option ObjectType) → is_pointer t ≡ false → default line t ≡ constant line (pos 0)
no_pointer line None is = refl
no_pointer line (Some t) is = no_stars line t.stars is

pub returns-then-is_pointer : goal.returns-then-is_pointer
returns-then-is_pointer c = λ ends.
    subst (λ p. Emits p ends c.args.self.now c.fresh.new.self c.fresh.result) (sym (a_pointer c.args.line c.args.typing.now (sym c.is_pointer.ensures ∙ c.if-is_pointer.true))) (c.fresh.ensures ends)

pub returns-else-is_pointer : goal.returns-else-is_pointer
returns-else-is_pointer c = λ ends.
    subst (λ p. Emits p ends c.args.self.now c.constant.new.self c.constant.result) (sym (no_pointer c.args.line c.args.typing.now (sym c.is_pointer.ensures ∙ c.if-is_pointer.false))) (c.constant.ensures ends)
