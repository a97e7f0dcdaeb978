-- A module that can run can run in either memory.
use Rattle.tac_ir.specs.declared.module.Size.{Size}
use Rattle.tac_ir.specs.Module.{Module}
use Rattle.tac_ir.specs.Tables.{CanRun}

pub runs_in : (m : Module) (s : Size) → CanRun m → CanRun (record m { size = s })
runs_in m s can = record {
  form = can.form;
  tables = record { count = can.tables.count; classes = can.tables.classes; sets = can.tables.sets };
  separate = can.separate;
}
