use Rattle.std.proofs.Common.{◌≡◌, ℕ, List, ◌∷◌, [], ◌++◌, append_assoc, ap, ◌∙◌}
use Rattle.std.specs.Prelude.{codes}
use Rattle.std.specs.Fmt.{decimal}
use Rattle.std.specs.String.{string_bytes}
use Rattle.alarm_report.proofs.alarms.push_writer.Goals as goal

regroup : (a b c d e f g : List ℕ) → a ++ (b ++ (c ++ (d ++ (e ++ (f ++ g))))) ≡ (((((a ++ b) ++ c) ++ d) ++ e) ++ f) ++ g
regroup a b c d e f g = simp append_assoc

pub returns : goal.returns
returns c =
    (c.in_ok-writeln.ensures).bytes ∙ ap (λ line. string_bytes c.args.text.now ++ line) (regroup (codes "found class ") (decimal c.args.class) (codes " definition ") (decimal c.args.def) (codes " line ") (decimal c.args.line) (10 ∷ []))
