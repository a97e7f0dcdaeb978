-- The fault of an answer that may have wanted memory.
use Rattle.std.specs.Prelude.{Option, Some, None}
use Rattle.dfi_base.specs.declared.failed.Failed.{Failed}

-- the fault that is told; want of memory tells none. So `Gives view fault_of result meaning` compares an answer with its meaning.
abbrev pub fault_of : {F : Type 0} → Failed F → Option F
fault_of Failed.Memory = None
fault_of (Failed.Fault fault) = Some fault
