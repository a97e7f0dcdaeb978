-- What a thread does by the answers that it hears.
use Rattle.std.specs.Prelude.{List, [], ◌∷◌, Option, Some, None}
use Rattle.obj_mem.specs.declared.Maker.{Maker}
use Rattle.obj_mem.specs.declared.event.Event.{Event}
use Rattle.obj_mem.specs.declared.event.SrcAnswer.{SrcAnswer}
pub use Rattle.src_law.specs.declared.heard.Heard.{Heard}
pub use Rattle.src_law.specs.declared.heard.Heard.TheVariants.{Answer as answer, Branch as branch}
use Rattle.src_law.specs.Acts.{Kind, Result}
use Rattle.src_law.specs.Traces.{result_in}

pub data Res (A : Type 0) : Type 0 where
  -- this result, and what is still to be heard
  got : A → List Heard → Res A
  -- this event is next
  wants : Event → Res A
  -- nothing follows
  over : Res A
  -- a branch has come to its end
  ended : Res A
  -- no thread hears this
  off : Res A

abbrev pub Reads : Type 0 → Type 0
Reads A = List Heard → Res A

abbrev pub bind : {A B : Type 0} → Res A → (A → Reads B) → Res B
bind (got a l) k = k a l
bind (wants e) k = wants e
bind over k = over
bind ended k = ended
bind off k = off

-- one event, and its answer
abbrev pub asks : Event → Reads SrcAnswer
asks e [] = wants e
asks e (answer a ∷ l) = got a l
asks e (branch i ∷ l) = off

abbrev pub unit_of : SrcAnswer → List Heard → Res (Unit {0})
unit_of SrcAnswer.Unit l = got tt l
unit_of a l = off

abbrev pub got_by : {A : Type 0} → Option A → List Heard → Res A
got_by (Some x) l = got x l
got_by None l = off

abbrev pub result_of : (k : Kind) → SrcAnswer → List Heard → Res (Result k)
result_of k a l = got_by (result_in k a) l

abbrev pub frame_of : SrcAnswer → List Heard → Res Maker
frame_of (SrcAnswer.Frame m) l = got m l
frame_of a l = off

abbrev pub nothing_more : {A : Type 0} → SrcAnswer → List Heard → Res A
nothing_more SrcAnswer.Unit [] = over
nothing_more a l = off
