use Rattle.std.proofs.Common.{rules, ◌≡◌, map, arith}
use Rattle.std.proofs.lemmas.Grind.{common_steps}
use Rattle.line_format.proofs.Choosing.{looked}
use Rattle.line_format.proofs.choices.one_of.Goals as goal

pub returns-then-skip : goal.returns-then-skip
returns-then-skip g c =
    let e = looked (map (λ row. (row.0.now, row.1)) c.args.table.now) c.requires c.args.cursor.now in
    first_of (search rules, grind (arith, common_steps))

pub returns : goal.returns
returns g c =
    let e = looked (map (λ row. (row.0.now, row.1)) c.args.table.now) c.requires c.args.cursor.now in
    first_of (search rules, grind (arith, common_steps))
