-- Kinds of wants, replies and answers.
use Rattle.std.proofs.Common.{◌≡◌, ℕ, ◌+◌, ◌-◌, Bool, true, false, refl, Some, None, sym, ap}
use Rattle.std.specs.Prelude.{nat_lt, if◌then◌else◌}
use Rattle.tac_ir.specs.declared.code.Code.{Code}
use Rattle.tac_ir.specs.declared.run.Op.{Op}
use Rattle.tac_ir.specs.declared.run.Answer.{Answer}
use Rattle.tac_ir.specs.Layout.{frame_words}
use Rattle.tac_thread.specs.declared.flat.FlatStack.{FlatStack}
use Rattle.tac_thread.specs.declared.want.Want.{Want}
use Rattle.tac_thread.specs.declared.want.ReplyOf.{ReplyOf}
use Rattle.tac_thread.specs.Answered.{IsReplyTo}
use Rattle.tac_thread.specs.Flat.{flat_meaning, with_frame}
use Rattle.path_law.specs.Asked.{Tells}

abbrev pub FlatReply : Type 0
FlatReply = ReplyOf ℕ FlatStack

abbrev pub asks_value : Want ℕ → Bool
asks_value (Want.Read r w) = true
asks_value (Want.Same a b ne) = true
asks_value (Want.New site count) = true
asks_value Want.In = true
asks_value Want.Left = true
asks_value (Want.Pop r w) = true
asks_value w = false

pub value_reply : (c : Code) (w : Want ℕ) (reply : FlatReply) → asks_value w ≡ true → IsReplyTo flat_meaning c w reply → (v : ℕ) × (reply ≡ ReplyOf.Value v)
value_reply c (Want.Read r a) (ReplyOf.Value v) h kind = (v, refl)
value_reply c (Want.Same a b ne) (ReplyOf.Value v) h kind = (v, refl)
value_reply c (Want.New site count) (ReplyOf.Value v) h kind = (v, refl)
value_reply c Want.In (ReplyOf.Value v) h kind = (v, refl)
value_reply c Want.Left (ReplyOf.Value v) h kind = (v, refl)
value_reply c (Want.Pop r a) (ReplyOf.Value v) h kind = (v, refl)
value_reply c (Want.Read r a) reply h kind = absurd kind
value_reply c (Want.Same a b ne) reply h kind = absurd kind
value_reply c (Want.New site count) reply h kind = absurd kind
value_reply c Want.In reply h kind = absurd kind
value_reply c Want.Left reply h kind = absurd kind
value_reply c (Want.Pop r a) reply h kind = absurd kind
value_reply c w reply h kind = cc

abbrev pub asks_unit : Want ℕ → Bool
asks_unit (Want.Write d w v) = true
asks_unit (Want.Free w) = true
asks_unit (Want.Out v) = true
asks_unit Want.Ret = true
asks_unit Want.Turn = true
asks_unit (Want.Fork branches) = true
asks_unit (Want.Push d w) = true
asks_unit w = false

pub unit_reply : (c : Code) (w : Want ℕ) (reply : FlatReply) → asks_unit w ≡ true → IsReplyTo flat_meaning c w reply → reply ≡ ReplyOf.Unit
unit_reply c w ReplyOf.Unit h kind = refl
unit_reply c (Want.Write d a v) reply h kind = absurd kind
unit_reply c (Want.Free a) reply h kind = absurd kind
unit_reply c (Want.Out v) reply h kind = absurd kind
unit_reply c Want.Ret reply h kind = absurd kind
unit_reply c Want.Turn reply h kind = absurd kind
unit_reply c (Want.Fork branches) reply h kind = absurd kind
unit_reply c (Want.Push d a) reply h kind = absurd kind
unit_reply c w reply h kind = cc

pub stack_reply : (c : Code) (f : ℕ) (reply : FlatReply) → IsReplyTo flat_meaning c (Want.Call f) reply → (t : FlatStack) × (reply ≡ ReplyOf.Stack t)
stack_reply c f (ReplyOf.Stack t) kind = (t, refl)
stack_reply c f reply kind = absurd kind

-- what a reply tells

pub value_told : (c : Code) (s : FlatStack) (op : Op) (answer : Answer) (v : ℕ) → Tells c s op answer (ReplyOf.Value v) → answer ≡ Answer.Value v
value_told c s (Op.Call f) Answer.Unit v tells = absurd tells
value_told c s (Op.Call f) answer v tells = absurd tells
value_told c s op (Answer.Value u) v tells = ap Answer.Value (sym tells)
value_told c s op answer v tells = absurd tells

pub unit_told : (c : Code) (s : FlatStack) (op : Op) (answer : Answer) → Tells c s op answer ReplyOf.Unit → answer ≡ Answer.Unit
unit_told c s (Op.Call f) Answer.Unit tells = absurd tells
unit_told c s (Op.Call f) answer tells = absurd tells
unit_told c s op Answer.Unit tells = refl
unit_told c s op answer tells = absurd tells

pub stack_told : (c : Code) (s : FlatStack) (f : ℕ) (answer : Answer) (t : FlatStack) → Tells c s (Op.Call f) answer (ReplyOf.Stack t) → (answer ≡ Answer.Unit) × (with_frame (frame_words c f) s ≡ Some t)
stack_told c s f Answer.Unit t tells = (refl, tells)
stack_told c s f answer t tells = absurd tells

-- a stack with one more frame
pub record IsFramedBy (words : ℕ) (s t : FlatStack) : Type 0 where
  pub base : t.base ≡ s.top
  pub top : t.top ≡ s.top + words
  pub limit : t.«end» ≡ s.«end»

pub framed : (words : ℕ) (s t : FlatStack) → with_frame words s ≡ Some t → IsFramedBy words s t
framed words s t e = by (nat_lt (s.«end» - s.top) words) e
  where
    by : (b : Bool) → (if b then None else Some (record { base = s.top; top = s.top + words; «end» = s.«end» })) ≡ Some t → IsFramedBy words s t
    by true e = cc
    by false e =
        let base : s.top ≡ t.base = cc in
        let top : s.top + words ≡ t.top = cc in
        let limit : s.«end» ≡ t.«end» = cc in
        record { base = sym base; top = sym top; limit = sym limit }
