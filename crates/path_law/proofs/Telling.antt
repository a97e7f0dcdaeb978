-- The replies that tell answers.
use Rattle.std.proofs.Common.{◌≡◌, ℕ, List, Bool, true, false, refl, Option, Some, None, sym, ◌∙◌, ap, subst}
use Rattle.dfi_base.specs.declared.numbers.ReadNo.{ReadNo}
use Rattle.std.specs.Prelude.{ℤ, pos, negsuc, not, ◌&&◌, nat_le, if◌then◌else◌}
use Rattle.tac_ir.specs.declared.code.Code.{Code}
use Rattle.tac_ir.specs.declared.run.Op.{Op}
use Rattle.tac_ir.specs.declared.run.Stop.{Stop}
use Rattle.tac_ir.specs.declared.run.Answer.{Answer}
use Rattle.tac_ir.specs.declared.run.Entry.{Entry}
use Rattle.tac_ir.specs.Module.{Module}
use Rattle.tac_ir.specs.Path.{stops}
use Rattle.tac_ir.specs.Layout.{memory_words}
use Rattle.tac_ir.specs.Last.{last_write}
use Rattle.tac_ir.specs.Answers.{class_of, is_checked, is_allowed, IsAnswer, IsBlockAnswer}
use Rattle.tac_thread.specs.declared.flat.FlatStack.{FlatStack}
use Rattle.tac_thread.specs.declared.want.Want.{Want}
use Rattle.tac_thread.specs.declared.want.ReplyOf.{ReplyOf}
use Rattle.tac_thread.specs.Answered.{IsReplyTo}
use Rattle.tac_thread.specs.Flat.{flat_meaning}
use Rattle.path_law.specs.Asked.{op_of, Tells}
use Rattle.path_law.specs.Replies.{reply_to, is_told, takes_no_stack}

by_two : (r : ReadNo) (w v : ℕ) (a b : Bool) (s t : Stop) (answer : Answer) → answer ≡ (if a then Answer.Stop s else (if b then Answer.Stop t else Answer.Value v)) → stops answer ≡ false → is_told (Op.Read r w) answer ≡ true
by_two r w v true b s t answer is goes = let clash : true ≡ false = ap stops (sym is) ∙ goes in cc
by_two r w v false true s t answer is goes = let clash : true ≡ false = ap stops (sym is) ∙ goes in cc
by_two r w v false false s t answer is goes = ap (is_told (Op.Read r w)) is

by_one : (op : Op) (a : Bool) (s : Stop) (answer : Answer) → is_told op Answer.Unit ≡ true → answer ≡ (if a then Answer.Stop s else Answer.Unit) → stops answer ≡ false → is_told op answer ≡ true
by_one op true s answer told is goes = let clash : true ≡ false = ap stops (sym is) ∙ goes in cc
by_one op false s answer told is goes = ap (is_told op) is ∙ told

by_not : (op : Op) (a : Bool) (s : Stop) (answer : Answer) → is_told op Answer.Unit ≡ true → answer ≡ (if a then Answer.Unit else Answer.Stop s) → stops answer ≡ false → is_told op answer ≡ true
by_not op true s answer told is goes = ap (is_told op) is ∙ told
by_not op false s answer told is goes = let clash : true ≡ false = ap stops (sym is) ∙ goes in cc

block_told : (m : Module) (h : List Entry) (site : ℕ) (count : ℤ) (answer : Answer) → IsBlockAnswer m h site count answer → stops answer ≡ false → is_told (Op.New site count) answer ≡ true
block_told m h site (negsuc k) answer is goes = let clash : true ≡ false = ap stops (sym is) ∙ goes in cc
block_told m h site (pos k) (Answer.Value v) is goes = refl
block_told m h site (pos k) (Answer.Stop s) is goes = cc
block_told m h site (pos k) Answer.Unit is goes = absurd is

-- an event that takes no stack has such an answer
pub told_of : (m : Module) (input : List ℤ) (h : List Entry) (n room : ℕ) (op : Op) (answer : Answer) → takes_no_stack op ≡ true → IsAnswer m input h n room op answer → stops answer ≡ false → is_told op answer ≡ true
told_of m input h n room (Op.Read r w) answer other is goes =
    let last = last_write m.code h w in
    by_two r w last.value (nat_le (memory_words m.size) w) (is_checked m r.0 && not (is_allowed m r.0 last)) Stop.Address (Stop.Alarm (class_of m last.def)) answer is goes
told_of m input h n room (Op.Write d w v) answer other is goes = by_one (Op.Write d w v) _ _ answer refl is goes
told_of m input h n room (Op.Same a b ne) answer other is goes = ap (is_told (Op.Same a b ne)) is
told_of m input h n room (Op.New site count) answer other is goes = block_told m h site count answer is goes
told_of m input h n room (Op.Free w) answer other is goes = by_not (Op.Free w) _ _ answer refl is goes
told_of m input h n room Op.In answer other is goes = ap (is_told Op.In) is
told_of m input h n room Op.Left answer other is goes = ap (is_told Op.Left) is
told_of m input h n room (Op.Out v) answer other is goes = ap (is_told (Op.Out v)) is
told_of m input h n room Op.Ret answer other is goes = ap (is_told Op.Ret) is
told_of m input h n room Op.Turn answer other is goes = ap (is_told Op.Turn) is
told_of m input h n room Op.Zero answer other is goes = let clash : true ≡ false = ap stops (sym is) ∙ goes in cc
told_of m input h n room (Op.Call f) answer other is goes = cc
told_of m input h n room (Op.Fork branches) answer other is goes = cc

-- the kind of a reply to a want, and what it tells
pub record IsTelling (c : Code) (s : FlatStack) (want : Want ℕ) (op : Op) (answer : Answer) (reply : ReplyOf ℕ FlatStack) : Type 0 where
  pub kind : IsReplyTo flat_meaning c want reply
  pub tells : Tells c s op answer reply

-- the same by the op of a want, where it has one
abbrev told_in : Option Op → Answer → Bool
told_in None answer = false
told_in (Some op) answer = is_told op answer

kind_value : (c : Code) (want : Want ℕ) (v : ℕ) → told_in (op_of want) (Answer.Value v) ≡ true → IsReplyTo flat_meaning c want (ReplyOf.Value v)
kind_value c (Want.Read r w) v told = tt
kind_value c (Want.Same a b ne) v told = tt
kind_value c (Want.New site count) v told = tt
kind_value c Want.In v told = tt
kind_value c Want.Left v told = tt
kind_value c (Want.Pop r w) v told = tt
kind_value c want v told = cc

kind_unit : (c : Code) (want : Want ℕ) → told_in (op_of want) Answer.Unit ≡ true → IsReplyTo flat_meaning c want ReplyOf.Unit
kind_unit c (Want.Write d w x) told = tt
kind_unit c (Want.Free w) told = tt
kind_unit c (Want.Out x) told = tt
kind_unit c Want.Ret told = tt
kind_unit c Want.Turn told = tt
kind_unit c (Want.Push d w) told = tt
kind_unit c want told = cc

tells_value : (c : Code) (s : FlatStack) (op : Op) (v : ℕ) → is_told op (Answer.Value v) ≡ true → Tells c s op (Answer.Value v) (ReplyOf.Value v)
tells_value c s (Op.Call f) v told = cc
tells_value c s op v told = refl

tells_unit : (c : Code) (s : FlatStack) (op : Op) → is_told op Answer.Unit ≡ true → Tells c s op Answer.Unit ReplyOf.Unit
tells_unit c s (Op.Call f) told = cc
tells_unit c s op told = tt

pub telling : (c : Code) (s : FlatStack) (want : Want ℕ) (op : Op) (answer : Answer) (reply : ReplyOf ℕ FlatStack) → op_of want ≡ Some op → is_told op answer ≡ true → reply_to answer ≡ Some reply → IsTelling c s want op answer reply
telling c s want op (Answer.Stop stop) reply event told is = cc
telling c s want op (Answer.Value v) reply event told is =
    let same : ReplyOf.Value v ≡ reply = cc in
    subst (IsTelling c s want op (Answer.Value v)) same
    (record { kind = kind_value c want v (ap (λ o. told_in o (Answer.Value v)) event ∙ told); tells = tells_value c s op v told })
telling c s want op Answer.Unit reply event told is =
    let same : ReplyOf.Unit ≡ reply = cc in
    subst (IsTelling c s want op Answer.Unit) same
    (record { kind = kind_unit c want (ap (λ o. told_in o Answer.Unit) event ∙ told); tells = tells_unit c s op told })

-- the wants of calls and forks

pub wants_call : (want : Want ℕ) (f : ℕ) → op_of want ≡ Some (Op.Call f) → want ≡ Want.Call f
wants_call (Want.Call k) f is = let same : k ≡ f = cc in ap Want.Call same
wants_call want f is = cc

pub wants_fork : (want : Want ℕ) (n : ℕ) → op_of want ≡ Some (Op.Fork n) → want ≡ Want.Fork n
wants_fork (Want.Fork k) n is = let same : k ≡ n = cc in ap Want.Fork same
wants_fork want n is = cc

-- what a reply tells goes on, and what has none stops
pub replied_goes : (answer : Answer) (reply : ReplyOf ℕ FlatStack) → reply_to answer ≡ Some reply → stops answer ≡ false
replied_goes Answer.Unit reply is = refl
replied_goes (Answer.Value v) reply is = refl
replied_goes (Answer.Stop stop) reply is = cc

pub silent_stops : (answer : Answer) → reply_to answer ≡ None → stops answer ≡ true
silent_stops Answer.Unit is = cc
silent_stops (Answer.Value v) is = cc
silent_stops (Answer.Stop stop) is = refl

-- a block that was taken has a first word
pub block_value : (site : ℕ) (count : ℤ) (answer : Answer) → is_told (Op.New site count) answer ≡ true → (v : ℕ) × (answer ≡ Answer.Value v)
block_value site count (Answer.Value v) told = (v, refl)
block_value site count Answer.Unit told = cc
block_value site count (Answer.Stop stop) told = cc
