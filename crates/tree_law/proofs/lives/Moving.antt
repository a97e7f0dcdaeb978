-- What an answer does to a life, read off all instructions once.
use Rattle.std.proofs.Common.{◌≡◌, ℕ, ◌+◌, inl, inr, List, [], ◌∷◌, true, false, refl, Option, Some, None, sym, ◌∙◌, ap, subst}
use Rattle.std.proofs.lemmas.Bool.{eq-eqb}
use Rattle.tac_ir.specs.declared.code.Code.{Code}
use Rattle.tac_ir.specs.declared.code.Instr.{Instr}
use Rattle.tac_ir.specs.Layout.{lines_of}
use Rattle.tac_ir.specs.Path.{region_in}
use Rattle.tac_ir.specs.Edges.{calls_fun}
use Rattle.tac_ir.specs.GoodForm.{GoodForm, NamesExist}
use Rattle.tac_thread.specs.declared.guest.Activation.{Activation}
use Rattle.tac_thread.specs.declared.guest.Stage.{Stage}
use Rattle.tac_thread.specs.declared.want.ReplyOf.{ReplyOf}
use Rattle.tac_thread.specs.Meaning.{Meaning}
use Rattle.tac_thread.specs.tools.Fetched.{instr_in}
use Rattle.tac_thread.specs.Life.{Life, instr_of, temp, with_temp, at_index, with_stage}
use Rattle.tac_thread.specs.Answered
use Rattle.tac_thread.specs.Answered.{answered, answered_first, back_at, behind_call, resumed, called, calls, entered, returned, returns, next_with, next_of, target_of, with_none, with_value, with_stack}
use Rattle.tree_law.specs.Placed.{region_of}
use Rattle.tree_law.specs.Moves.{IsOnward, IsCallee, link_in, Moves}
use Rattle.tree_law.proofs.lives.Lines.{good_code, IsThere, there, behind, is_passed, enters_at, target_passed, back_region}
use Rattle.tree_law.proofs.lives.Silent.{stand_still, passes}
use Rattle.tree_law.proofs.lives.Edges.{is_call, next_line, entry_line}

behind_called : {V S : Type 0} → (c : Code) → GoodForm c → (y : Activation V S) (at : ℕ) (v : V) → region_in (lines_of c y.fun) at ≡ region_of c y → IsOnward c y (behind_call y at v (instr_in (lines_of c y.fun) at))
behind_called c good y at v equal = by (instr_in (lines_of c y.fun) at) refl
  where
    by : (i : Instr) → instr_in (lines_of c y.fun) at ≡ i → IsOnward c y (behind_call y at v i)
    by (Instr.Call to g def args) is = record {
      fun = refl;
      stack = refl;
      region = behind c good y.fun at (Instr.Call to g def args) is refl ∙ equal;
      line = λ h. next_line c good y.fun at (Instr.Call to g def args) is refl;
    }
    by i is = stand_still c y

returned_moves : {V S : Type 0} → (m : Meaning V S) (c : Code) → GoodForm c → (reply : ReplyOf V S) (l : Life V S) (callers : List (Activation V S)) (link : Option V) (x : ℕ) (read : Option ℕ) (v : V) → instr_of c l.top ≡ Instr.Ret x read
    → link ≡ link_in l.stage → l.callers ≡ callers → Moves m c reply l (returned m c l callers link v)
returned_moves m c good reply l [] link x read v is from below = Moves.stays l refl refl (inl refl)
returned_moves m c good reply l (y ∷ callers) link x read v is from below =
    Moves.leaves (returned m c l (y ∷ callers) link v) y callers (record {
      value = x;
      read = read;
      ret = is;
      called_by = below;
      given = v;
      back = ap (λ o. resumed c y (back_at m c o y) v) from;
      onward = behind_called c good y (back_at m c link y) v (back_region m c link y);
      below = refl;
      stage = refl;
    })

returns_moves : {V S : Type 0} → (m : Meaning V S) (c : Code) → GoodForm c → (reply : ReplyOf V S) (l : Life V S) (link : Option V) (i : Instr) → instr_of c l.top ≡ i → link ≡ link_in l.stage → Moves m c reply l (returns m c l link i)
returns_moves m c good reply l link (Instr.Ret x read) is from = returned_moves m c good reply l l.callers link x read (temp m l.top x) is from refl
returns_moves m c good reply l link i is from = Moves.stays l refl refl (inl refl)

next_moves : {V S : Type 0} → (m : Meaning V S) (c : Code) → GoodForm c → (reply : ReplyOf V S) (l : Life V S) (i : Instr) → instr_of c l.top ≡ i → is_passed i ≡ true → is_call i ≡ false → Moves m c reply l (next_of l)
next_moves m c good reply l i is passed call = Moves.goes_on (next_of l) (passes c good l (at_index l.top (l.top.at + 1)) i is passed call refl refl refl)

none_moves : {V S : Type 0} → (m : Meaning V S) (c : Code) → GoodForm c → (reply : ReplyOf V S) (l : Life V S) (i : Instr) → instr_of c l.top ≡ i → None ≡ link_in l.stage → Moves m c reply l (with_none m c l i)
none_moves m c good reply l (Instr.Set place x d) is from = next_moves m c good reply l (Instr.Set place x d) is refl refl
none_moves m c good reply l (Instr.Store x y d) is from = next_moves m c good reply l (Instr.Store x y d) is refl refl
none_moves m c good reply l (Instr.Free x) is from = next_moves m c good reply l (Instr.Free x) is refl refl
none_moves m c good reply l (Instr.Out x) is from = next_moves m c good reply l (Instr.Out x) is refl refl
none_moves m c good reply l Instr.Turn is from = next_moves m c good reply l Instr.Turn is refl refl
none_moves m c good reply l (Instr.Fork join entries) is from = Moves.stays (with_stage l Stage.Waiting) refl refl (inr tt)
none_moves m c good reply l (Instr.Ret x read) is from = returns_moves m c good reply l None (Instr.Ret x read) is from
none_moves m c good reply l i is from = Moves.stays l refl refl (inl refl)

target_calls : (i : Instr) (to : ℕ) → target_of i ≡ Some to → is_call i ≡ false
target_calls (Instr.Call t f d args) to is = cc
target_calls i to is = refl

given_moves : {V S : Type 0} → (m : Meaning V S) (c : Code) → GoodForm c → (reply : ReplyOf V S) (l : Life V S) (v : V) (i : Instr) → instr_of c l.top ≡ i → Moves m c reply l (next_with l (target_of i) v)
given_moves m c good reply l v i is = by (target_of i) refl
  where
    by : (o : Option ℕ) → target_of i ≡ o → Moves m c reply l (next_with l o v)
    by None none = Moves.stays l refl refl (inl refl)
    by (Some to) some =
        Moves.goes_on (next_with l (Some to) v) (passes c good l (at_index (with_temp l.top to v) (l.top.at + 1)) i is (target_passed i to some) (target_calls i to some) refl refl refl)

value_moves : {V S : Type 0} → (m : Meaning V S) (c : Code) → GoodForm c → (reply : ReplyOf V S) (l : Life V S) (v : V) (i : Instr) → instr_of c l.top ≡ i → Moves m c reply l (with_value l v i)
value_moves m c good reply l v (Instr.Ret x read) is = Moves.stays (with_stage l (Stage.Leaving v)) refl refl (inr tt)
value_moves m c good reply l v i is = given_moves m c good reply l v i is

stack_moves : {V S : Type 0} → (m : Meaning V S) (c : Code) → GoodForm c → (l : Life V S) (s : S) (i : Instr) → instr_of c l.top ≡ i → Moves m c (ReplyOf.Stack s) l (with_stack m c l s i)
stack_moves m c good l s (Instr.Call to g def args) is = by (m.link s)
  where
    named : (t : IsThere (lines_of c l.top.fun) l.top.at (Instr.Call to g def args)) → NamesExist c l.top.fun (Instr.Call to g def args)
    named t = subst (NamesExist c l.top.fun) t.is ((good_code c good l.top.fun l.top.at t.line t.found).instrs l.top.at t.line t.found).names

    is_callee : IsCallee c l.top (ReplyOf.Stack s) (called m c l.top g args s)
    is_callee = record {
      entry = refl;
      region = enters_at c good g;
      line = entry_line c good g (named (there (lines_of c l.top.fun) l.top.at (Instr.Call to g def args) is (λ e. cc))).exists;
      call = subst (λ i. calls_fun g i ≡ true) (sym is) (eq-eqb g g refl);
      stack = refl;
    }

    by : (o : Option ℕ) → Moves m c (ReplyOf.Stack s) l (calls l (called m c l.top g args s) o)
    by None = Moves.enters_now (entered l (called m c l.top g args s)) (called m c l.top g args s) is_callee refl refl refl
    by (Some word) = Moves.to_enter (with_stage l (Stage.Entering (called m c l.top g args s))) (called m c l.top g args s) is_callee refl refl refl
stack_moves m c good l s i is = Moves.stays l refl refl (inl refl)

first_moves : {V S : Type 0} → (m : Meaning V S) (c : Code) → GoodForm c → (l : Life V S) (reply : ReplyOf V S) → None ≡ link_in l.stage → Moves m c reply l (answered_first m c l (instr_of c l.top) reply)
first_moves m c good l ReplyOf.Unit from = none_moves m c good ReplyOf.Unit l (instr_of c l.top) refl from
first_moves m c good l (ReplyOf.Value v) from = value_moves m c good (ReplyOf.Value v) l v (instr_of c l.top) refl
first_moves m c good l (ReplyOf.Stack s) from = stack_moves m c good l s (instr_of c l.top) refl

-- the table: whatever the answer is
pub answered_moves : {V S : Type 0} → (m : Meaning V S) (c : Code) → GoodForm c → (l : Life V S) (reply : ReplyOf V S) → Moves m c reply l (answered m c l reply)
answered_moves {V} {S} m c good l reply = by l.stage refl
  where
    by : (s : Stage V S) → l.stage ≡ s → Moves m c reply l (Answered.answered_at m c l s reply)
    by Stage.Ready is = first_moves m c good l reply (ap link_in (sym is))
    by (Stage.Entering callee) is = Moves.enters (entered l callee) callee is refl refl refl
    by (Stage.Leaving link) is = returns_moves m c good reply l (Some link) (instr_of c l.top) refl (ap link_in (sym is))
    by Stage.Waiting is = Moves.stays l refl refl (inl refl)
