use Rattle.std.proofs.Common.{ap, ◌++◌, ◌∙◌}
use Rattle.gen_prog.specs.Program.{array_line, ended}
use Rattle.gen_prog.proofs.Growth.{written}
use Rattle.gen_prog.proofs.generate.Goals as goal

pub returns : goal.returns
returns c =
    let array = c.in_ok-push_array.ensures ∙ ap (λ l. l ++ ended (array_line c.args.n)) c.new-text.ensures.bytes in
    ap (λ v. v.items) c.into_bytes.ensures.value
    ∙ written c.args.n _ _ _ _ _ array c.in_ok-push_functions.ensures c.in_ok-writeln.ensures.bytes c.in_ok-push_branches.ensures c.in_ok-push_sum.ensures
