use Rattle.std.proofs.Common.{◌≡◌, sym, arith}
use Rattle.line_format.proofs.Digits.{false_true}
use Rattle.line_format.proofs.Meeting.{past, found, goes_on, used_up}
use Rattle.line_format.proofs.numbers.can_follow.Goals as goal

pub returns-then-least-high : goal.returns-then-least-high
returns-then-least-high c = record { answer = sym (past _ _ _ _ _ _ _ c.loop.invariant.0 c.loop-test.true c.if-least-high.true); fits = λ e. false_true e }

pub returns-then-most-low : goal.returns-then-most-low
returns-then-most-low c = record { answer = sym (found _ _ _ _ _ _ _ c.loop.invariant.0 c.loop-test.true (omega arith) (omega arith)); fits = λ e. omega arith }

pub loop-preserved : goal.loop-preserved
loop-preserved c =
    (goes_on _ _ _ _ _ _ _ c.loop.invariant.0 c.loop-test.true (omega arith) (omega arith), omega (arith, c.requires.top, c.if-least-high.false), omega (arith, c.requires.bottom, c.if-most-low.false), omega arith, omega arith)

pub returns : goal.returns
returns c = record { answer = sym (used_up _ _ _ _ _ _ _ c.loop.invariant.0 (omega arith)); fits = λ e. false_true e }
