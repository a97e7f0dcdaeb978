-- What a thread asks for as an event, and what an event's answer is as a reply to it.
use Rattle.std.specs.Prelude.{ℕ, ◌+◌, Option, Some, None, slice_get}
use Rattle.std.specs.Option.{option_map}
use Rattle.obj_mem.specs.declared.value.Value.{Value}
use Rattle.obj_mem.specs.declared.event.Event.{Event}
use Rattle.obj_mem.specs.declared.event.SrcAnswer.{SrcAnswer}
use Rattle.obj_mem.specs.Asked.{new_event, out_event}
use Rattle.tac_ir.specs.declared.code.Code.{Code}
use Rattle.tac_thread.specs.declared.want.Want.{Want}
use Rattle.tac_thread.specs.declared.want.ReplyOf.{ReplyOf}
use Rattle.obj_run.specs.declared.values.ObjStack.{ObjStack}
use Rattle.obj_run.specs.Objects.{first_heap_site, words_at}

-- the words of an item of a heap site
abbrev pub item_words : Code → ℕ → ℕ
item_words c site = words_at c (option_map (λ s. s.shape) (slice_get c.sites site))

-- a thread that waits or has ended asks for nothing; and no stack has a link
abbrev pub event_of : Code → Want Value → Option Event
event_of c (Want.Read r p) = Some (Event.Rd p)
event_of c (Want.Write d p v) = Some (Event.Wr p v)
event_of c (Want.Same a b ne) = Some (Event.Same a b ne)
event_of c (Want.New site count) = Some (new_event (first_heap_site c + site) (item_words c site) count)
event_of c (Want.Free p) = Some (Event.Free p)
event_of c Want.In = Some Event.In
event_of c Want.Left = Some Event.Left
event_of c (Want.Out v) = Some (out_event v)
event_of c (Want.Call f) = Some (Event.Call f)
event_of c Want.Ret = Some Event.Ret
event_of c Want.Turn = Some Event.Turn
event_of c (Want.Fork branches) = Some (Event.Fork branches)
event_of c Want.Zero = Some Event.Zero
event_of c Want.Bad = Some Event.Bad
event_of c want = None

-- the number of the read or definition that a thread asks by; 0 where it is none
abbrev pub number_of : Want Value → ℕ
number_of (Want.Read r p) = r.0
number_of (Want.Write d p v) = d.0
number_of want = 0

abbrev pub reply_of : SrcAnswer → ReplyOf Value ObjStack
reply_of SrcAnswer.Unit = ReplyOf.Unit
reply_of (SrcAnswer.Value v) = ReplyOf.Value v
reply_of (SrcAnswer.Frame maker) = ReplyOf.Stack (record { maker = maker })
