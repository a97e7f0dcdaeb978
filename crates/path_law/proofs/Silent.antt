-- A life that runs on over silent instructions, and the steps of its path that have no event.
use Rattle.std.proofs.Common.{◌≡◌, ℕ, ◌+◌, ◌<◌, List, [], ◌∷◌, length, true, false, refl, Some, None, arith, ◌∙◌, ap, subst}
use Rattle.std.specs.Prelude.{nat_eq, ◌&&◌, All, slice_get}
use Rattle.std.proofs.lemmas.Bool.{eq-eqb, ne_eqb}
use Rattle.std.proofs.lemmas.List.{length-set}
use Rattle.tac_ir.specs.declared.code.Code.{Code}
use Rattle.tac_ir.specs.declared.run.Answer.{Answer}
use Rattle.tac_ir.specs.declared.run.Entry.{Entry}
use Rattle.tac_ir.specs.Counts.{temps_named, temps_of}
use Rattle.tac_ir.specs.Path.{Step, Start, here_at, IsPath}
use Rattle.tac_thread.specs.declared.flat.FlatStack.{FlatStack}
use Rattle.tac_thread.specs.declared.guest.Stage.{Stage}
use Rattle.tac_thread.specs.declared.doing.Doing.{Doing}
use Rattle.tac_thread.specs.Life.{instr_of, temp, with_temp, at_index, with_top}
use Rattle.tac_thread.specs.Doing.{doing, done, silent_at, silent_next}
use Rattle.tac_ir.specs.Layout.{lines_of}
use Rattle.tac_thread.specs.tools.Fetched.{instr_in}
use Rattle.tac_thread.specs.RunsOn.{RunsOn}
use Rattle.tac_thread.specs.RunsOn.RunsOn.{rests, runs}
use Rattle.tac_thread.specs.Flat.{flat_meaning}
use Rattle.path_law.specs.Standing.{FlatActivation, FlatLife, first_spot, IsBefore, StandsIn, Stands, IsAt}
use Rattle.path_law.proofs.Table.{writes_one, DoesAs, first_does}
use Rattle.path_law.proofs.Frames.{left_in}
use Rattle.path_law.proofs.Temps.{named_below, value_set}
use Rattle.path_law.proofs.Moves.{step_in, effect_in, quiet_path, own_moves}

-- the temporary that an instruction names first is one of its function
first_below : (limit : ℕ) (named : List ℕ) (to : ℕ) → All (λ t. t < limit) named → slice_get named 0 ≡ Some to → to < limit
first_below limit [] to all first = cc
first_below limit (t ∷ named) to all first =
    let same : t ≡ to = cc in
    omega (arith, same, all 0 t (omega arith))

pub target_below : (c : Code) (x : FlatActivation) (at to : ℕ) → length x.temps ≡ temps_of c x.fun → slice_get (temps_named (instr_in (lines_of c x.fun) at)) 0 ≡ Some to → to < length x.temps
target_below c x at to size first = omega (arith, size, first_below (temps_of c x.fun) (temps_named (instr_in (lines_of c x.fun) at)) to (named_below c x.fun at) first)

-- the write of one temporary
pub one_write : (a to v : ℕ) (x : FlatActivation) (t : ℕ) → to < length x.temps
    → left_in (writes_one a to v a t) (temp flat_meaning x t) ≡ temp flat_meaning (with_temp x to v) t
one_write a to v x t low =
    ap (λ b. left_in (elim (b && nat_eq t to) [ true ↦ Some v | false ↦ None ]) (temp flat_meaning x t)) (eq-eqb a a refl) ∙ value_set x.temps to v t low

pub no_other_write : (a to v b t : ℕ) → (b ≡ a → ⊥) → writes_one a to v b t ≡ None
no_other_write a to v b t other = ap (λ k. elim (k && nat_eq t to) [ true ↦ Some v | false ↦ None ]) (ne_eqb b a other)

-- one silent instruction
pub record IsQuieter (c : Code) (s : Start) (own : List Entry) (l : FlatLife) : Type 0 where
  pub steps : List Step
  pub path : IsPath c s steps own
  pub stands : Stands c s steps l

pub silent_step : (c : Code) (s : Start) (own : List Entry) (l next : FlatLife) → IsAt c s own l → silent_next flat_meaning c l ≡ Some next → IsAt c s own next
unfolding here_at
silent_step c s own l next now silent = by l.stage now.stands.spot silent
  where
    goes : (d : Doing ℕ) (b : IsBefore c s now.steps l.top l.callers)
        → DoesAs (here_at c s now.steps (first_spot b.act l.top)) (temp flat_meaning l.top) (instr_of c l.top) (effect_in c s now.steps false b.act l.top) d
        → done l d ≡ Some next → IsAt c s own next
    goes (Doing.Gives to v) b does is =
        let x = l.top in
        let y : FlatActivation = at_index (with_temp x to v) (x.at + 1) in
        let low = target_below c x x.at to b.stack.own.size does.1 in
        let same : with_top l y ≡ next = cc in
        let moved = own_moves c s now.steps false b.act x y l.callers Answer.Unit (first_spot b.act y) does.0.1
        (λ k t e. does.4 k t ∙ no_other_write b.act to v k t e)
        (λ t. ap (λ o. left_in o (temp flat_meaning x t)) (does.4 b.act t) ∙ one_write b.act to v x t low)
        (length-set x.temps to v ∙ b.stack.own.size) refl does.3 b.stack now.stands.fresh in
        subst (IsAt c s own) same (record {
          steps = step_in false b.act x Answer.Unit ∷ now.steps;
          path = quiet_path c s now.steps own false b.act x b.stack.own.temps b.spot does.0.0 does.2 now.path;
          stands = record { spot = record { act = b.act; spot = moved.leads; stack = moved.stack }; fresh = moved.fresh };
        })
    goes (Doing.Goes at) b does is =
        let x = l.top in
        let y : FlatActivation = at_index x at in
        let same : with_top l y ≡ next = cc in
        let moved = own_moves c s now.steps false b.act x y l.callers Answer.Unit (first_spot b.act y) does.0.1
        (λ k t e. does.3 k t)
        (λ t. ap (λ o. left_in o (temp flat_meaning x t)) (does.3 b.act t))
        b.stack.own.size refl does.2 b.stack now.stands.fresh in
        subst (IsAt c s own) same (record {
          steps = step_in false b.act x Answer.Unit ∷ now.steps;
          path = quiet_path c s now.steps own false b.act x b.stack.own.temps b.spot does.0.0 does.1 now.path;
          stands = record { spot = record { act = b.act; spot = moved.leads; stack = moved.stack }; fresh = moved.fresh };
        })
    goes (Doing.Asks w) b does is = cc

    by : (stage : Stage ℕ FlatStack) → StandsIn c s now.steps l stage → silent_at flat_meaning c l stage ≡ Some next → IsAt c s own next
    by Stage.Ready b is =
        goes (doing flat_meaning c l.top (instr_of c l.top)) b
        (first_does c (here_at c s now.steps (first_spot b.act l.top)) l.top (instr_of c l.top) refl refl b.stack.own.base) is
    by (Stage.Entering callee) b is = cc
    by (Stage.Leaving link) b is = cc
    by Stage.Waiting b is = cc

-- a whole stretch
pub runs_on : (c : Code) (s : Start) (own : List Entry) (l last : FlatLife) → RunsOn flat_meaning c l last → IsAt c s own l → IsAt c s own last
runs_on c s own l last (rests k quiet) now = now
runs_on c s own l last (runs k next end step rest) now = runs_on c s own next end rest (silent_step c s own k next now step)
