use Rattle.tac_ir.proofs.law.good_modules_run.Goals as goal

pub returns : goal.returns
returns c m good separate = record { form = good.form; tables = good.tables; separate = separate }
