-- What an unchecked read asks is known.
use Rattle.std.proofs.Common.{◌≡◌, ℕ, zero, suc, ◌+◌, ◌-◌, ◌≤◌, ◌<◌, ◌⊎◌, inl, inr, Bool, true, false, List, [], ◌∷◌, ◌++◌, length, reverse, refl, sym, ap, ◌∙◌, subst, arith, Option, Some, None, ⊎_elim, not}
use Rattle.std.specs.Prelude.{ℤ, ◌&&◌, nat_eq, nat_le, slice_get, if◌then◌else◌}
use Rattle.std.proofs.lemmas.Bool.{eq-eqb, leb-true, cases_eq}
use Rattle.dfi_base.specs.declared.numbers.DefNo.{DefNo}
use Rattle.dfi_base.specs.declared.numbers.Point.{Point}
use Rattle.tac_ir.specs.declared.code.Code.{Code}
use Rattle.tac_ir.specs.declared.code.Instr.{Instr}
use Rattle.tac_ir.specs.declared.code.Place.{Place}
use Rattle.tac_ir.specs.declared.run.Op.{Op}
use Rattle.tac_ir.specs.declared.run.Answer.{Answer}
use Rattle.tac_ir.specs.declared.run.Stop.{Stop}
use Rattle.tac_ir.specs.declared.run.Entry.{Entry}
use Rattle.tac_ir.specs.declared.run.Journal.{Journal}
use Rattle.tac_ir.specs.Module.{Module}
use Rattle.tac_ir.specs.Words.{int_of}
use Rattle.tac_ir.specs.Edges.{calls_fun}
use Rattle.tac_ir.specs.Numbers.{new_def}
use Rattle.tac_ir.specs.GoodForm.{GoodForm, all_targets_of}
use Rattle.tac_ir.specs.Layout.{lines_of, instr_at, place_word, memory_words}
use Rattle.tac_ir.specs.Last.{Written, last_write, write_to}
use Rattle.tac_ir.specs.Lawful.{IsLawfulRead, IsNoAlarm, EndsWithoutAlarm, IsLawful, Lawful}
use Rattle.tac_ir.specs.Path.{stops, calls_in}
use Rattle.tac_ir.specs.Answers.{class_of, is_checked, is_allowed, read_answer, write_answer, IsAnswer}
use Rattle.tac_ir.specs.CoreRun.{GoesOn, Follows, IsHistory, CoreRun}
use Rattle.tac_ir.proofs.Checked.{read_lawful}
use Rattle.tac_ir.proofs.Numbering.{has_line, within_funs}
use Rattle.tac_thread.specs.declared.flat.FlatStack.{FlatStack}
use Rattle.tac_thread.specs.declared.guest.Stage.{Stage}
use Rattle.tac_thread.specs.declared.doing.Doing.{Doing}
use Rattle.tac_thread.specs.declared.want.ReplyOf.{ReplyOf}
use Rattle.tac_thread.specs.declared.want.Want.{Want}
use Rattle.tac_thread.specs.Meaning.{divides_by_zero}
use Rattle.tac_thread.specs.tools.Fetched.{instr_in}
use Rattle.tac_thread.specs.Life.{instr_of, temp}
use Rattle.tac_thread.specs.Doing.{doing, asked, given, tested, link_write, want_at, want_of}
use Rattle.tac_thread.specs.RunsOn.{RunsOn}
use Rattle.tac_thread.specs.Begun.{root_of, branch_of, entry_of}
use Rattle.tac_thread.specs.Answered.{answered, answered_first, answered_at, returned, returns, behind_call, back_at, IsReplyTo}
use Rattle.tac_thread.specs.Flat.{flat_meaning}
use Rattle.tac_thread.specs.Threads.{changed, is_waiting, nobody, at_fork, HasParent}
use Rattle.tac_thread.proofs.Trees.{running_is, changed_here, changed_other}
use Rattle.path_law.specs.Asked.{op_of}
use Rattle.path_law.specs.Standing.{FlatLife, FlatActivation, IsCall, AreCallers, StandsIn, point_of}
use Rattle.path_law.specs.Begins.{root_stack}
use Rattle.path_law.specs.Wants.{room_in}
use Rattle.path_law.specs.InPlace.{FlatLives}
use Rattle.path_law.specs.Alive.{AreAlive}
use Rattle.path_law.proofs.Returns.{back_is_call}
use Rattle.lawful_law.specs.Covered.{IsNamed, AreCovered}
use Rattle.lawful_law.specs.tools.Knows.{Knows, LifeKnows, Keeps, Does}

pub past_or : (m : Module) (h : List Entry) (r w : ℕ) (past : Bool) (last : Written) → last ≡ last_write m.code h w → nat_le (memory_words m.size) w ≡ past → is_allowed m r last ≡ true
    → (answer : Answer) → answer ≡ (if past then Answer.Stop Stop.Address else (if (false && not (is_allowed m r last)) then Answer.Stop (Stop.Alarm (class_of m last.def)) else Answer.Value last.value))
    → IsLawfulRead m h (Op.Read (record { 0 = r }) w) answer
past_or m h r w true last same past allowed answer is = subst (IsLawfulRead m h (Op.Read (record { 0 = r }) w)) (sym is) (λ inside. (let le = leb-true _ _ past in absurd (omega (arith, inside, le))))
past_or m h r w false last same past allowed answer is =
    subst (IsLawfulRead m h (Op.Read (record { 0 = r }) w)) (sym is) (λ inside. (ap (λ (z : Written). Answer.Value z.value) same, subst (λ z. is_allowed m r z ≡ true) same allowed))

abbrev read_of : Op → ℕ
read_of (Op.Read q a) = q.0
read_of op = 0

abbrev word_read : Op → ℕ
word_read (Op.Read q a) = a
word_read op = 0

module _ (m : Module) (covered : AreCovered m) (h : List Entry) (l : FlatLife) (r at : ℕ) (off : is_checked m r ≡ false) (knows : is_waiting l.stage ≡ false → LifeKnows m h l) where
  abbrev Goal : Type 0
  Goal = is_allowed m r (last_write m.code h at) ≡ true

  first_read : (is_waiting l.stage ≡ false) → (i : Instr) (want : Want ℕ) → instr_of m.code l.top ≡ i → asked (doing flat_meaning m.code l.top i) ≡ Some want → op_of want ≡ Some (Op.Read (record { 0 = r }) at) → Goal
  first_read awake (Instr.Get to place q) want is wants event =
      let w = place_word m.code l.top.fun l.top.stack.base place in
      let one : Want.Read (record { 0 = q }) w ≡ want = cc in
      let ops : Some (Op.Read (record { 0 = q }) w) ≡ Some (Op.Read (record { 0 = r }) at) = ap op_of one ∙ event in
      let same : Op.Read (record { 0 = q }) w ≡ Op.Read (record { 0 = r }) at = cc in
      let read : q ≡ r = ap read_of same in
      let word : w ≡ at = ap word_read same in
      let c = covered.gets (point_of l.top) to r place (is ∙ ap (Instr.Get to place) read) off in
      subst (λ z. is_allowed m r (last_write m.code h z) ≡ true) word (knows awake c.0 l.top.at r place c.2 c.1 (omega arith))
  first_read awake (Instr.Load to a q) want is wants event =
      let one : Want.Read (record { 0 = q }) (temp flat_meaning l.top a) ≡ want = cc in
      let ops : Some (Op.Read (record { 0 = q }) (temp flat_meaning l.top a)) ≡ Some (Op.Read (record { 0 = r }) at) = ap op_of one ∙ event in
      let same : Op.Read (record { 0 = q }) (temp flat_meaning l.top a) ≡ Op.Read (record { 0 = r }) at = cc in
      let read : q ≡ r = ap read_of same in
      let clash : true ≡ false = sym (covered.loads (point_of l.top) to a r (is ∙ ap (Instr.Load to a) read)) ∙ off in
      cc
  first_read awake (Instr.Ret x (Some q)) want is wants event =
      let one : Want.Pop (record { 0 = q }) l.top.stack.base ≡ want = cc in
      let ops : Some (Op.Read (record { 0 = q }) l.top.stack.base) ≡ Some (Op.Read (record { 0 = r }) at) = ap op_of one ∙ event in
      let same : Op.Read (record { 0 = q }) l.top.stack.base ≡ Op.Read (record { 0 = r }) at = cc in
      let read : q ≡ r = ap read_of same in
      let clash : true ≡ false = sym (covered.rets (point_of l.top) x r (is ∙ ap (λ z. Instr.Ret x (Some z)) read)) ∙ off in
      cc
  first_read awake (Instr.Bin to o x y) want is wants event = by (divides_by_zero flat_meaning o (temp flat_meaning l.top y)) wants
    where
      by : (b : Bool) → asked (elim b [ true ↦ Doing.Asks Want.Zero | false ↦ given to (flat_meaning.bin o (temp flat_meaning l.top x) (temp flat_meaning l.top y)) ]) ≡ Some want → Goal
      by true z = (let one : Want.Zero ≡ want = cc in let ops : Some Op.Zero ≡ Some (Op.Read (record { 0 = r }) at) = ap op_of one ∙ event in cc)
      by false z = cc
  first_read awake (Instr.Test x a b) want is wants event = by (not (nat_eq (temp flat_meaning l.top x) 0)) wants
    where
      by : (o : Bool) → asked (tested {V = ℕ} a b (Some o)) ≡ Some want → Goal
      by true z = cc
      by false z = cc
  first_read awake i want is wants event = other i (ap op_in wants ∙ event)
    where
      op_in : Option (Want ℕ) → Option Op
      op_in None = None
      op_in (Some w) = op_of w

      other : (i : Instr) → op_in (asked (doing flat_meaning m.code l.top i)) ≡ Some (Op.Read (record { 0 = r }) at) → Goal
      other i z = cc

  pub known_read : (want : Want ℕ) → want_of flat_meaning m.code l ≡ Some want → op_of want ≡ Some (Op.Read (record { 0 = r }) at) → Goal
  known_read want wants event = by l.stage refl wants
    where
      link_reads : (i : Instr) (k : ℕ) → link_write i (Some k) ≡ Some want → Goal
      link_reads (Instr.Call to f d args) k z = (let one : Want.Push (record { 0 = d }) k ≡ want = cc in let ops : Some (Op.Write (record { 0 = d }) k d) ≡ Some (Op.Read (record { 0 = r }) at) = ap op_of one ∙ event in cc)
      link_reads i k z = cc

      by : (s : Stage ℕ FlatStack) → l.stage ≡ s → want_at flat_meaning m.code l.top s ≡ Some want → Goal
      by Stage.Ready is z = first_read (ap is_waiting is) (instr_of m.code l.top) want refl z event
      by (Stage.Entering callee) is z = link_reads (instr_of m.code l.top) callee.stack.base z
      by (Stage.Leaving link) is z = (let one : Want.Ret ≡ want = cc in let ops : Some Op.Ret ≡ Some (Op.Read (record { 0 = r }) at) = ap op_of one ∙ event in cc)
      by Stage.Waiting is z = (let one : Want.Waits ≡ want = cc in let ops : None ≡ Some (Op.Read (record { 0 = r }) at) = ap op_of one ∙ event in cc)
