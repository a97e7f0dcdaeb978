use Rattle.std.proofs.Common.{append_assoc}
use Rattle.gen_prog.proofs.lines.push_loop.Goals as goal

pub returns : goal.returns
returns c = simp append_assoc ((c.in_ok-writeln.ensures).bytes)
