-- What a life does between two events.
use Rattle.std.proofs.Common.{◌≡◌, ℕ, ◌+◌, ◌⊎◌, inl, inr, true, false, refl, Some, sym, ◌∙◌, ap, subst}
use Rattle.std.specs.Prelude.{slice_get, Contains}
use Rattle.dfi_base.specs.declared.numbers.Point.{Point}
use Rattle.tac_ir.specs.declared.code.Code.{Code}
use Rattle.tac_ir.specs.declared.code.Instr.{Instr}
use Rattle.tac_ir.specs.declared.code.Lined.{Lined}
use Rattle.tac_ir.specs.Layout.{lines_of}
use Rattle.tac_ir.specs.Path.{region_in}
use Rattle.tac_ir.specs.Edges.{edges_from, edges_of}
use Rattle.tac_ir.specs.GoodForm.{GoodForm, targets_of}
use Rattle.tac_thread.specs.declared.guest.Activation.{Activation}
use Rattle.tac_thread.specs.declared.guest.Stage.{Stage}
use Rattle.tac_thread.specs.declared.doing.Doing.{Doing}
use Rattle.tac_thread.specs.Meaning.{Meaning}
use Rattle.tac_thread.specs.Life.{Life, instr_of, with_temp, at_index, with_top}
use Rattle.tac_thread.specs.Doing.{doing, done, silent_at, silent_next}
use Rattle.tac_thread.specs.RunsOn.{RunsOn}
use Rattle.tac_thread.specs.Answered.{joined, joined_at}
use Rattle.tac_thread.specs.Threads.{point_of}
use Rattle.tree_law.specs.Moves.{IsOnward, GoesOn}
use Rattle.tree_law.proofs.lives.Lines.{is_passed, is_jump, behind, jumped, joins_at, leads, Leads}
use Rattle.tree_law.proofs.lives.Edges.{is_call, next_edge, jump_edge, next_line, jump_line, join_line}

-- behind an instruction that is passed, in its own activation
pub onward : {V S : Type 0} → (c : Code) → GoodForm c → (x y : Activation V S) (i : Instr) → instr_of c x ≡ i → is_passed i ≡ true → y.fun ≡ x.fun → y.stack ≡ x.stack → y.at ≡ x.at + 1 → IsOnward c x y
onward c good x y i is passed fun stack at = record {
  fun = fun;
  stack = stack;
  region = ap (λ f. region_in (lines_of c f) y.at) fun ∙ ap (region_in (lines_of c x.fun)) at ∙ behind c good x.fun x.at i is passed;
  line = λ h. subst (λ f. (l : Lined) × (slice_get (lines_of c f) y.at ≡ Some l)) (sym fun)
      (subst (λ k. (l : Lined) × (slice_get (lines_of c x.fun) k ≡ Some l)) (sym at) (next_line c good x.fun x.at i is passed));
}

pub stand_still : {V S : Type 0} → (c : Code) (x : Activation V S) → IsOnward c x x
stand_still c x = record { fun = refl; stack = refl; region = refl; line = λ h. h }

-- and along its edge
pub passes : {V S : Type 0} → (c : Code) → GoodForm c → (l : Life V S) (y : Activation V S) (i : Instr) → instr_of c l.top ≡ i → is_passed i ≡ true → is_call i ≡ false → y.fun ≡ l.top.fun → y.stack ≡ l.top.stack → y.at ≡ l.top.at + 1
    → GoesOn c l (with_top l y)
passes {V} {S} c good l y i is passed call fun stack at = record { onward = onward c good l.top y i is passed fun stack at; edge = there; callers = refl; stage = refl }
  where
    next : Point
    next = record { fun = l.top.fun; at = l.top.at + 1 }

    same : next ≡ point_of (with_top l y)
    same = ap (λ z. record { fun = z; at = l.top.at + 1 }) (sym fun) ∙ ap (λ z. record { fun = y.fun; at = z }) (sym at)

    edge : Contains (edges_of c (point_of l) (instr_of c l.top)) next
    edge = subst (λ z. Contains (edges_of c (point_of l) z) next) (sym is) (next_edge c (point_of l) i passed call)

    there : Contains (edges_from c (point_of l)) (point_of (with_top l y))
    there = subst (Contains (edges_from c (point_of l))) same edge

-- to a target of a jump
jumps : {V S : Type 0} → (c : Code) → GoodForm c → (l : Life V S) (j t : ℕ) → is_jump (instr_of c l.top) ≡ true → slice_get (targets_of (instr_of c l.top)) j ≡ Some t → GoesOn c l (with_top l (at_index l.top t))
jumps c good l j t jump named = record {
  onward = record {
    fun = refl;
    stack = refl;
    region = jumped c good l.top.fun l.top.at (instr_of c l.top) refl jump j t named;
    line = λ h. jump_line c good l.top.fun l.top.at (instr_of c l.top) refl jump j t named;
  };
  edge = jump_edge c (point_of l) (instr_of c l.top) j t jump named;
  callers = refl;
  stage = refl;
}

no_call : {V S : Type 0} → (m : Meaning V S) (c : Code) (x : Activation V S) (i : Instr) (to : ℕ) (v : V) → doing m c x i ≡ Doing.Gives to v → is_call i ≡ false
no_call m c x (Instr.Call t f d args) to v is = cc
no_call m c x i to v is = refl

-- a silent instruction goes on along an edge
pub silent_goes : {V S : Type 0} → (m : Meaning V S) (c : Code) → GoodForm c → (l k : Life V S) → silent_next m c l ≡ Some k → GoesOn c l k
silent_goes {V} {S} m c good l k is = by l.stage is
  where
    go : (d : Doing V) → doing m c l.top (instr_of c l.top) ≡ d → Leads (instr_of c l.top) d → done l d ≡ Some k → GoesOn c l k
    go (Doing.Gives to v) does h z =
        let y = at_index (with_temp l.top to v) (l.top.at + 1) in
        let one : with_top l y ≡ k = cc in
        subst (GoesOn c l) one (passes c good l y (instr_of c l.top) refl h (no_call m c l.top (instr_of c l.top) to v does) refl refl refl)
    go (Doing.Goes t) does h z = (let one : with_top l (at_index l.top t) ≡ k = cc in subst (GoesOn c l) one (jumps c good l h.1.0 t h.0 h.1.1))
    go (Doing.Asks w) does h z = cc

    by : (s : Stage V S) → silent_at m c l s ≡ Some k → GoesOn c l k
    by Stage.Ready z = go (doing m c l.top (instr_of c l.top)) refl (leads m c l.top (instr_of c l.top)) z
    by (Stage.Entering callee) z = cc
    by (Stage.Leaving link) z = cc
    by Stage.Waiting z = cc

-- what each step along an edge keeps is kept up to the next event
pub runs_keep : {V S : Type 0} → (m : Meaning V S) (c : Code) → GoodForm c → (P : Life V S → Type 0) → ((l k : Life V S) → GoesOn c l k → P l → P k) → (l k : Life V S) → P l → RunsOn m c l k → P k
runs_keep m c good P keep l k p (RunsOn.rests one rest) = p
runs_keep m c good P keep l k p (RunsOn.runs first next last step on) = runs_keep m c good P keep next k (keep l next (silent_goes m c good l next step) p) on

-- A life that goes on behind its fork stands at the join, in its function, frame and region.
pub record IsJoined {V S : Type 0} (c : Code) (l k : Life V S) : Type 0 where
  pub onward : IsOnward c l.top k.top
  pub callers : k.callers ≡ l.callers
  pub stage : (k.stage ≡ l.stage) ⊎ (k.stage ≡ Stage.Ready)

pub joined_is : {V S : Type 0} → (c : Code) → GoodForm c → (l : Life V S) → IsJoined c l (joined c l)
joined_is c good l = by (instr_of c l.top) refl
  where
    by : (i : Instr) → instr_of c l.top ≡ i → IsJoined c l (joined_at l i)
    by (Instr.Fork join entries) is = record {
      onward = record {
        fun = refl;
        stack = refl;
        region = joins_at c good l.top.fun l.top.at join entries is;
        line = λ h. join_line c good l.top.fun l.top.at join entries is;
      };
      callers = refl;
      stage = inr refl;
    }
    by i is = record { onward = stand_still c l.top; callers = refl; stage = inl refl }
