-- Loads of files, one after the other.
use Rattle.std.specs.Prelude.{◌≡◌, Err, List, [], ◌∷◌}
use Rattle.dfi_io.specs.Outside.{Load, LibraryTells, IsLoad}
use Rattle.dfi_io.specs.declared.fault.LoadFault.TheVariants.{Failed}

-- just these loads, in order, lead from one library to the other
abbrev pub Chain : {L : Type 0} → LibraryTells L → List Load → L → L → Type 0
Chain tells [] before after = after ≡ before
Chain {L} tells (load ∷ loads) before after = (next : L) × IsLoad tells load before next × Chain tells loads next after

-- the same loads, of which the last failed
abbrev pub with_last_failed : List Load → List Load
with_last_failed [] = []
with_last_failed (load ∷ []) = record load { gave = Err Failed } ∷ []
with_last_failed (load ∷ next ∷ loads) = load ∷ with_last_failed (next ∷ loads)
