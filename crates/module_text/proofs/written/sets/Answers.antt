use Rattle.std.proofs.Common.{rules, [], ◌∷◌, subst, sym}
use Rattle.std.specs.Prelude.{codes}
use Rattle.std.specs.Fmt.{decimal}
use Rattle.std.specs.String.{string_bytes}
use Rattle.line_format.specs.Lines.{line}
use Rattle.line_writer.specs.Writes.{Writes}
use Rattle.module_text.proofs.Marked.{beside_count}
use Rattle.module_text.proofs.written.sets.Goals as goal

pub returns : goal.returns
returns c =
    let w = subst (λ n. Writes (line (codes "reads" ∷ decimal n ∷ [])) (string_bytes c.args.text.now) (string_bytes c.count.new.text))
    (sym (beside_count c.args.removed.now c.args.sets.now c.requires)) c.in_ok-count.ensures in
    search rules
