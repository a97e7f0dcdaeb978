-- What a run asks of its module, for those that look for it here.
pub use Rattle.tac_ir.specs.Tables.{IsNumberOf, HasGoodTables, AreSeparate, CanRun}
