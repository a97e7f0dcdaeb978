-- What a stage of a call has done: the loads that it made, and what it says. A tool of proof.
use Rattle.std.specs.Prelude.{◌≡◌, ℕ, ◌⊎◌, Result, Ok, Err, List, []}
use Rattle.dfi_base.specs.declared.memory.Memory.{Memory}
use Rattle.dfi_io.specs.Outside.{Load, LibraryTells}
use Rattle.dfi_top.specs.Loads.{Chain, with_last_failed}
use Rattle.dfi_top.specs.Reply.{Said}
use Rattle.dfi_top.specs.TopCall.{Replied, HasLoaded}

-- nothing was loaded, or the loads are those of a reply whose last load failed
abbrev pub MayLoad : (List Load → Said → Type 0) → List Load → Type 0
MayLoad Replying loads = (loads ≡ []) ⊎ ((said : Said) × Replying (with_last_failed loads) said)

-- what is said by the loads, or how far they came where memory was wanted
abbrev pub Goes : {L R : Type 0} (view : R → Said) → LibraryTells L → (List Load → Said → Type 0) → L → L → Result R Memory → Type 0
Goes view tells Replying before after (Ok r) = (loads : List Load) × Chain tells loads before after × Replying loads (view r)
Goes view tells Replying before after (Err e) = (loads : List Load) × Chain tells loads before after × MayLoad Replying loads

-- the same of words
abbrev pub RepliesToWords : {L R : Type 0} (view : R → Said) → LibraryTells L → List (List ℕ) → L → L → Result R Memory → Type 0
RepliesToWords view tells words lib lib' (Ok r) = Replied tells words lib lib' (view r)
RepliesToWords view tells words lib lib' (Err e) = HasLoaded tells words lib lib'
