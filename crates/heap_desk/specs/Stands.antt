-- A desk beside the history of a run.
use Rattle.std.specs.Prelude.{◌≡◌, List, ℤ, drop}
use Rattle.tac_ir.specs.declared.run.Entry.{Entry}
use Rattle.tac_ir.specs.Module.{Module}
use Rattle.tac_ir.specs.Desk.{live_blocks, inputs_in}
use Rattle.heap_desk.specs.Desk.{Desk}
use Rattle.heap_desk.specs.SameBlocks.{HasSameBlocks}

-- the desk is where the run is after this history: it has the live blocks, and the numbers that were not asked for yet
pub record StandsAfter (m : Module) (input : List ℤ) (h : List Entry) (d : Desk) : Type 0 where
  pub size : d.size ≡ m.size
  pub blocks : HasSameBlocks (live_blocks m.code h) d.blocks
  pub rest : d.rest ≡ drop (inputs_in h) input
