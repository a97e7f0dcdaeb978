use Rattle.code_layout.proofs.Placed.{laid_out}
use Rattle.dfi_top.proofs.runs.tell_run.Goals as goal

pub report-requires : goal.report-requires
report-requires c = laid_out c.args.m.now.code c.requires.runs.form
