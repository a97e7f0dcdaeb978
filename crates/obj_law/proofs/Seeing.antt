-- What a thread was answered, seen by its instruction.
use Rattle.std.proofs.Common.{◌≡◌, ℕ, pos, ◌+◌, List, ◌++◌, length, Bool, true, false, refl, Option, Some, None, sym, ◌∙◌, ap, subst}
use Rattle.std.specs.Prelude.{not, ◌&&◌, ◌||◌}
use Rattle.std.specs.Ordering.{int_eq}
use Rattle.obj_mem.specs.declared.value.Value.{Value}
use Rattle.obj_mem.specs.declared.event.Event.{Event}
use Rattle.obj_mem.specs.declared.event.SrcAnswer.{SrcAnswer}
use Rattle.obj_mem.specs.declared.event.Stamp.{Stamp}
use Rattle.obj_mem.specs.Objects.{same_obj, whole_of}
use Rattle.obj_mem.specs.Alive.{is_live, next_maker, next_block, is_block, live_blocks}
use Rattle.obj_mem.specs.Asked.{new_event, out_event}
use Rattle.obj_mem.specs.Input.{numbers_left, first_or_0}
use Rattle.obj_mem.specs.Written.{last_value}
use Rattle.obj_mem.specs.Valid.{answer_of, where_so, the_value, is_usable, read_at, write_at, compared, freed, number, differs_or_not}
use Rattle.tac_ir.specs.declared.code.Code.{Code}
use Rattle.tac_ir.specs.declared.code.BinOp.{BinOp}
use Rattle.tac_ir.specs.declared.code.Instr.{Instr}
use Rattle.tac_thread.specs.declared.guest.Stage.{Stage}
use Rattle.tac_thread.specs.declared.doing.Doing.{Doing}
use Rattle.tac_thread.specs.declared.want.Want.{Want}
use Rattle.tac_thread.specs.Meaning.{divides_by_zero}
use Rattle.tac_thread.specs.Life.{instr_of}
use Rattle.tac_thread.specs.Doing.{doing, asked, given, tested, want_at}
use Rattle.obj_run.specs.Objects.{object_meaning, first_heap_site}
use Rattle.obj_run.specs.Asked.{event_of, number_of, item_words}
use Rattle.obj_run.specs.Entries.{Entry}
use Rattle.obj_run.specs.Runs.{ObjLife, IsAsked}
use Rattle.obj_law.specs.Did.{ObjActivation, Did, value_in, word_at, number_in}
use Rattle.obj_law.specs.Did.Did.{gets, loads, sets, stores, compares, news, frees, ins, lefts, outs, calls, rets, turns, forks, traps}

-- Answers of events.

unit_where : (b : Bool) (a : SrcAnswer) → where_so b SrcAnswer.Unit ≡ Some a → SrcAnswer.Unit ≡ a
unit_where true a is = cc
unit_where false a is = cc

value_read : (h : List Stamp) (p : Value) (a : SrcAnswer) → read_at h p ≡ Some a → (v : Value) × (SrcAnswer.Value v ≡ a)
value_read h (Value.Ptr o off lo hi) a is = by (is_usable h o off lo hi) (last_value o off h) is
  where
    by : (b : Bool) (o : Option Value) → elim b as (λ z. Option SrcAnswer) [ true ↦ the_value o | false ↦ None ] ≡ Some a → (v : Value) × (SrcAnswer.Value v ≡ a)
    by true (Some v) is = (v, cc)
    by true None is = cc
    by false o is = cc
value_read h (Value.Int k) a is = cc
value_read h Value.Null a is = cc

unit_written : (h : List Stamp) (p : Value) (a : SrcAnswer) → write_at h p ≡ Some a → SrcAnswer.Unit ≡ a
unit_written h (Value.Ptr o off lo hi) a is = unit_where (is_usable h o off lo hi) a is
unit_written h (Value.Int k) a is = cc
unit_written h Value.Null a is = cc

unit_freed : (h : List Stamp) (p : Value) (a : SrcAnswer) → freed h p ≡ Some a → SrcAnswer.Unit ≡ a
unit_freed h Value.Null a is = cc
unit_freed h (Value.Ptr o off lo hi) a is = unit_where (int_eq off (pos 0) && is_block o (live_blocks h)) a is
unit_freed h (Value.Int k) a is = cc

abbrev IsTruth : SrcAnswer → Type 0
IsTruth a = (same : Bool) × (number same ≡ a)

truth_where : (b ne same : Bool) (a : SrcAnswer) → where_so b (differs_or_not ne same) ≡ Some a → IsTruth a
truth_where true true same a is = (not same, cc)
truth_where true false same a is = (same, cc)
truth_where false ne same a is = cc

truth_compared : (h : List Stamp) (v w : Value) (ne : Bool) (a : SrcAnswer) → compared h v w ne ≡ Some a → IsTruth a
truth_compared h Value.Null Value.Null ne a is = truth_where true ne true a is
truth_compared h (Value.Ptr o off lo hi) Value.Null ne a is = truth_where (is_live h o) ne false a is
truth_compared h Value.Null (Value.Ptr o off lo hi) ne a is = truth_where (is_live h o) ne false a is
truth_compared h (Value.Ptr o off lo hi) (Value.Ptr p at from to) ne a is =
    truth_where (is_live h o && is_live h p && (same_obj o p || (not (int_eq off hi) && not (int_eq at to)))) ne (same_obj o p && int_eq off at) a is
truth_compared h (Value.Int k) w ne a is = cc
truth_compared h Value.Null (Value.Int k) ne a is = cc
truth_compared h (Value.Ptr o off lo hi) (Value.Int k) ne a is = cc

-- Instructions.

abbrev asks : Code → Option (Want Value) → Option Event
asks c None = None
asks c (Some w) = event_of c w

module _ (c : Code) (h : List Stamp) (n : ℕ) (x : ObjActivation) where
  abbrev Answers : Instr → Event → SrcAnswer → Type 0
  Answers i e a = answer_of h n e ≡ Some a → Did c h n x i e a

  by_event : (i : Instr) (e w : Event) (a : SrcAnswer) → Answers i w a → Some w ≡ Some e → Answers i e a
  by_event i e w a k is = (let same : w ≡ e = cc in subst (λ z. Answers i z a) same k)

  reads_by : (i : Instr) (p : Value) (a : SrcAnswer) → ((v : Value) → read_at h p ≡ Some (SrcAnswer.Value v) → Did c h n x i (Event.Rd p) (SrcAnswer.Value v)) → Answers i (Event.Rd p) a
  reads_by i p a k is = (let v = value_read h p a is in subst (λ z. Did c h n x i (Event.Rd p) z) v.1 (k v.0 (is ∙ ap Some (sym v.1))))

  writes_by : (i : Instr) (p v : Value) (a : SrcAnswer) → (write_at h p ≡ Some SrcAnswer.Unit → Did c h n x i (Event.Wr p v) SrcAnswer.Unit) → Answers i (Event.Wr p v) a
  writes_by i p v a k is = (let unit = unit_written h p a is in subst (λ z. Did c h n x i (Event.Wr p v) z) unit (k (is ∙ ap Some (sym unit))))

  some_by : (i : Instr) (e : Event) (b a : SrcAnswer) → Did c h n x i e b → Some b ≡ Some a → Did c h n x i e a
  some_by i e b a d is = (let same : b ≡ a = cc in subst (λ z. Did c h n x i e z) same d)

  no_bad : (i : Instr) (to : ℕ) (o : Option Value) (e : Event) (a : SrcAnswer) → asks c (asked (given to o)) ≡ Some e → Answers i e a
  no_bad i to None e a is = by_event i e Event.Bad a (λ z. cc) is
  no_bad i to (Some v) e a is = cc

  no_test : (i : Instr) (one other : ℕ) (o : Option Bool) (e : Event) (a : SrcAnswer) → asks c (asked (tested one other o)) ≡ Some e → Answers i e a
  no_test i one other None e a is = by_event i e Event.Bad a (λ z. cc) is
  no_test i one other (Some true) e a is = cc
  no_test i one other (Some false) e a is = cc

  new_by : (to t site : ℕ) (v : Value) → value_in x t ≡ v → (e : Event) (a : SrcAnswer) → Some (new_event (first_heap_site c + site) (item_words c site) v) ≡ Some e → Answers (Instr.New to t site) e a
  new_by to t site (Value.Int k) at e a is =
      by_event (Instr.New to t site) e (Event.New (first_heap_site c + site) k (item_words c site)) a
      (λ ans. some_by (Instr.New to t site) (Event.New (first_heap_site c + site) k (item_words c site)) (SrcAnswer.Value (whole_of (next_block n h (first_heap_site c + site) k (item_words c site)))) a (news to t site k at) ans) is
  new_by to t site Value.Null at e a is = by_event (Instr.New to t site) e Event.Bad a (λ z. cc) is
  new_by to t site (Value.Ptr o off lo hi) at e a is = by_event (Instr.New to t site) e Event.Bad a (λ z. cc) is

  out_by : (t : ℕ) (v : Value) → value_in x t ≡ v → (e : Event) (a : SrcAnswer) → Some (out_event v) ≡ Some e → Answers (Instr.Out t) e a
  out_by t (Value.Int k) at e a is = by_event (Instr.Out t) e (Event.Out k) a (λ ans. some_by (Instr.Out t) (Event.Out k) SrcAnswer.Unit a (outs t k at) ans) is
  out_by t Value.Null at e a is = by_event (Instr.Out t) e Event.Bad a (λ z. cc) is
  out_by t (Value.Ptr o off lo hi) at e a is = by_event (Instr.Out t) e Event.Bad a (λ z. cc) is

  divided_by : (to : ℕ) (op : BinOp) (y z : ℕ) (b : Bool) → divides_by_zero object_meaning op (value_in x z) ≡ b → (o : Option Value) (e : Event) (a : SrcAnswer)
      → asks c (asked (elim b as (λ q. Doing Value) [ true ↦ Doing.Asks Want.Zero | false ↦ given to o ])) ≡ Some e → Answers (Instr.Bin to op y z) e a
  divided_by to op y z true zero o e a is = by_event (Instr.Bin to op y z) e Event.Zero a (λ ans. some_by (Instr.Bin to op y z) Event.Zero SrcAnswer.Unit a (traps to y z op zero) ans) is
  divided_by to op y z false other o e a is = no_bad (Instr.Bin to op y z) to o e a is

  pub did_by : (i : Instr) (e : Event) (a : SrcAnswer) → asks c (asked (doing object_meaning c x i)) ≡ Some e → Answers i e a
  did_by (Instr.Const to k) e a is = cc
  did_by (Instr.Null to) e a is = cc
  did_by (Instr.Un to op y) e a is = no_bad (Instr.Un to op y) to (object_meaning.un op (value_in x y)) e a is
  did_by (Instr.Bin to op y z) e a is = divided_by to op y z (divides_by_zero object_meaning op (value_in x z)) refl (object_meaning.bin op (value_in x y) (value_in x z)) e a is
  did_by (Instr.Addr to place) e a is = cc
  did_by (Instr.Field to y s k) e a is = no_bad (Instr.Field to y s k) to (object_meaning.field c (value_in x y) s k) e a is
  did_by (Instr.Decay to y s) e a is = no_bad (Instr.Decay to y s) to (object_meaning.decay c (value_in x y) s) e a is
  did_by (Instr.Index to y z w) e a is = no_bad (Instr.Index to y z w) to (object_meaning.index (value_in x y) (value_in x z) w) e a is
  did_by (Instr.Get to place r) e a is = by_event (Instr.Get to place r) e (Event.Rd (word_at c x place)) a (reads_by (Instr.Get to place r) (word_at c x place) a (gets to r place)) is
  did_by (Instr.Load to y r) e a is = by_event (Instr.Load to y r) e (Event.Rd (value_in x y)) a (reads_by (Instr.Load to y r) (value_in x y) a (loads to y r)) is
  did_by (Instr.Set place y d) e a is = by_event (Instr.Set place y d) e (Event.Wr (word_at c x place) (value_in x y)) a (writes_by (Instr.Set place y d) (word_at c x place) (value_in x y) a (sets place y d)) is
  did_by (Instr.Store y z d) e a is = by_event (Instr.Store y z d) e (Event.Wr (value_in x y) (value_in x z)) a (writes_by (Instr.Store y z d) (value_in x y) (value_in x z) a (stores y z d)) is
  did_by (Instr.Same to ne y z) e a is = by_event (Instr.Same to ne y z) e (Event.Same (value_in x y) (value_in x z) ne) a
      (λ ans. let t = truth_compared h (value_in x y) (value_in x z) ne a ans in
      subst (λ q. Did c h n x (Instr.Same to ne y z) (Event.Same (value_in x y) (value_in x z) ne) q) t.1 (compares to y z ne t.0 (ans ∙ ap Some (sym t.1)))) is
  did_by (Instr.New to y site) e a is = new_by to y site (value_in x y) refl e a is
  did_by (Instr.Free y) e a is = by_event (Instr.Free y) e (Event.Free (value_in x y)) a
      (λ ans. let unit = unit_freed h (value_in x y) a ans in subst (λ q. Did c h n x (Instr.Free y) (Event.Free (value_in x y)) q) unit (frees y (ans ∙ ap Some (sym unit)))) is
  did_by (Instr.In to) e a is = by_event (Instr.In to) e Event.In a (λ ans. some_by (Instr.In to) Event.In (SrcAnswer.Value (Value.Int (first_or_0 (numbers_left h)))) a (ins to) ans) is
  did_by (Instr.Left to) e a is = by_event (Instr.Left to) e Event.Left a (λ ans. some_by (Instr.Left to) Event.Left (SrcAnswer.Value (Value.Int (pos (length (numbers_left h))))) a (lefts to) ans) is
  did_by (Instr.Out y) e a is = out_by y (value_in x y) refl e a is
  did_by (Instr.Call to g def args) e a is = by_event (Instr.Call to g def args) e (Event.Call g) a (λ ans. some_by (Instr.Call to g def args) (Event.Call g) (SrcAnswer.Frame (next_maker n h)) a (calls to g def args) ans) is
  did_by (Instr.Ret y (Some r)) e a is = by_event (Instr.Ret y (Some r)) e Event.Ret a (λ ans. some_by (Instr.Ret y (Some r)) Event.Ret SrcAnswer.Unit a (rets y r) ans) is
  did_by (Instr.Ret y None) e a is = cc
  did_by (Instr.Jump t) e a is = cc
  did_by (Instr.Test y one other) e a is = no_test (Instr.Test y one other) one other (object_meaning.truth (value_in x y)) e a is
  did_by Instr.Turn e a is = by_event Instr.Turn e Event.Turn a (λ ans. some_by Instr.Turn Event.Turn SrcAnswer.Unit a turns ans) is
  did_by (Instr.Fork join entries) e a is =
      by_event (Instr.Fork join entries) e (Event.Fork (length entries)) a (λ ans. some_by (Instr.Fork join entries) (Event.Fork (length entries)) SrcAnswer.Unit a (forks join entries) ans) is
  did_by Instr.End e a is = cc

  -- Numbers.

  given_numberless : (to : ℕ) (o : Option Value) (w : Want Value) → asked (given to o) ≡ Some w → number_of w ≡ 0
  given_numberless to None w is = (let same : Want.Bad ≡ w = cc in sym (ap number_of same))
  given_numberless to (Some v) w is = cc

  tested_numberless : (one other : ℕ) (o : Option Bool) (w : Want Value) → asked (tested one other o) ≡ Some w → number_of w ≡ 0
  tested_numberless one other None w is = (let same : Want.Bad ≡ w = cc in sym (ap number_of same))
  tested_numberless one other (Some true) w is = cc
  tested_numberless one other (Some false) w is = cc

  divided_numberless : (to : ℕ) (b : Bool) (o : Option Value) (w : Want Value) → asked (elim b as (λ q. Doing Value) [ true ↦ Doing.Asks Want.Zero | false ↦ given to o ]) ≡ Some w → number_of w ≡ 0
  divided_numberless to true o w is = (let same : Want.Zero ≡ w = cc in sym (ap number_of same))
  divided_numberless to false o w is = given_numberless to o w is

  one_want : (v w : Want Value) → Some v ≡ Some w → number_of w ≡ number_of v
  one_want v w is = (let same : v ≡ w = cc in sym (ap number_of same))

  pub numbered : (i : Instr) (w : Want Value) → asked (doing object_meaning c x i) ≡ Some w → number_of w ≡ number_in i
  numbered (Instr.Const to k) w is = cc
  numbered (Instr.Null to) w is = cc
  numbered (Instr.Un to op y) w is = given_numberless to (object_meaning.un op (value_in x y)) w is
  numbered (Instr.Bin to op y z) w is = divided_numberless to (divides_by_zero object_meaning op (value_in x z)) (object_meaning.bin op (value_in x y) (value_in x z)) w is
  numbered (Instr.Addr to place) w is = cc
  numbered (Instr.Field to y s k) w is = given_numberless to (object_meaning.field c (value_in x y) s k) w is
  numbered (Instr.Decay to y s) w is = given_numberless to (object_meaning.decay c (value_in x y) s) w is
  numbered (Instr.Index to y z words) w is = given_numberless to (object_meaning.index (value_in x y) (value_in x z) words) w is
  numbered (Instr.Get to place r) w is = one_want (Want.Read (record { 0 = r }) (word_at c x place)) w is
  numbered (Instr.Load to y r) w is = one_want (Want.Read (record { 0 = r }) (value_in x y)) w is
  numbered (Instr.Set place y d) w is = one_want (Want.Write (record { 0 = d }) (word_at c x place) (value_in x y)) w is
  numbered (Instr.Store y z d) w is = one_want (Want.Write (record { 0 = d }) (value_in x y) (value_in x z)) w is
  numbered (Instr.Same to ne y z) w is = one_want (Want.Same (value_in x y) (value_in x z) ne) w is
  numbered (Instr.New to y site) w is = one_want (Want.New site (value_in x y)) w is
  numbered (Instr.Free y) w is = one_want (Want.Free (value_in x y)) w is
  numbered (Instr.In to) w is = one_want Want.In w is
  numbered (Instr.Left to) w is = one_want Want.Left w is
  numbered (Instr.Out y) w is = one_want (Want.Out (value_in x y)) w is
  numbered (Instr.Call to g def args) w is = one_want (Want.Call g) w is
  numbered (Instr.Ret y (Some r)) w is = one_want Want.Ret w is
  numbered (Instr.Ret y None) w is = one_want (Want.Ended (Some (value_in x y))) w is
  numbered (Instr.Jump t) w is = cc
  numbered (Instr.Test y one other) w is = tested_numberless one other (object_meaning.truth (value_in x y)) w is
  numbered Instr.Turn w is = one_want Want.Turn w is
  numbered (Instr.Fork join entries) w is = one_want (Want.Fork (length entries)) w is
  numbered Instr.End w is = one_want (Want.Ended None) w is

-- a life that stands ready
pub seen : (c : Code) (first h : List Stamp) (n : ℕ) (l : ObjLife) (e : Entry) → l.stage ≡ Stage.Ready → IsAsked c first h n l e
    → Did c (h ++ first) n l.top (instr_of c l.top) e.stamp.event e.stamp.answer × (e.number ≡ number_in (instr_of c l.top))
seen c first h n l e ready t =
    (did_by c (h ++ first) n l.top (instr_of c l.top) e.stamp.event e.stamp.answer (ap (asks c) wants ∙ t.event) t.answer, t.number ∙ numbered c (h ++ first) n l.top (instr_of c l.top) t.want wants)
  where
    wants : asked (doing object_meaning c l.top (instr_of c l.top)) ≡ Some t.want
    wants = sym (ap (λ s. want_at object_meaning c l.top s) ready) ∙ t.wants
