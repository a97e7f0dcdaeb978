use Rattle.std.proofs.Common.{◌≡◌, ℕ, List, [], ◌∷◌, ◌++◌, append_assoc}
use Rattle.std.specs.Prelude.{codes}
use Rattle.std.specs.String.{string_bytes}
use Rattle.tac_ir.specs.Text.{at_line, at_word}
use Rattle.alarm_report.proofs.ends.push_stop.Goals as goal

joined : (old a b c one two all : List ℕ) → one ≡ old ++ a → two ≡ one ++ b → all ≡ two ++ (c ++ 10 ∷ []) → all ≡ old ++ (((a ++ b) ++ c) ++ 10 ∷ [])
joined old a b c one two all first second third = rw (third, second, first) (simp append_assoc)

pub returns-in_ok-push_word-in-Address : goal.returns-in_ok-push_word-in-Address
returns-in_ok-push_word-in-Address c =
    rw c.in-Address.is
    (joined (string_bytes c.args.text.now) (codes "trap address") (at_line c.args.m.now c.args.entry.now) (at_word c.args.entry.now.op) _ _ _
    (c.in_ok-write-in-Address.ensures).bytes c.in_ok-push_line-in-Address.ensures c.in_ok-push_word-in-Address.ensures)
