use Rattle.std.proofs.Common.{sym}
use Rattle.c_types.proofs.StartLaws.{null_there, no_null}
use Rattle.c_types.proofs.globals.null_of.Goals as goal

pub returns-in-Null : goal.returns-in-Null
returns-in-Null c = sym (null_there c.args.e.now.form c.in-Null.is)

pub returns-in_default : goal.returns-in_default
returns-in_default c = sym (no_null c.args.e.now.form c.in_default.not-Null)
