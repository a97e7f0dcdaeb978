use Rattle.code_layout.proofs.Placed.{laid_out}
use Rattle.test_core.proofs.text.text_of_run.Goals as goal

pub report-requires : goal.report-requires
report-requires c = laid_out _ c.requires.form
