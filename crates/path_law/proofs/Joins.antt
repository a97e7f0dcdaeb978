-- A life whose branches have ended, and wants that no life over words has.
use Rattle.std.proofs.Common.{◌≡◌, ℕ, List, true, false, refl, Some, sym, ◌∙◌, ap, subst}
use Rattle.tac_ir.specs.declared.code.Code.{Code}
use Rattle.tac_ir.specs.declared.run.Entry.{Entry}
use Rattle.tac_ir.specs.Path.{Step, Start, here_at}
use Rattle.tac_thread.specs.declared.flat.FlatStack.{FlatStack}
use Rattle.tac_thread.specs.declared.guest.Stage.{Stage}
use Rattle.tac_thread.specs.declared.want.Want.{Want}
use Rattle.tac_thread.specs.declared.doing.Doing.{Doing}
use Rattle.tac_thread.specs.Life.{instr_of, temp}
use Rattle.tac_thread.specs.Doing.{doing, asked, link_write, want_at, want_of}
use Rattle.tac_thread.specs.Answered.{joined, joined_at}
use Rattle.tac_thread.specs.Threads.{is_waiting}
use Rattle.tac_thread.specs.Flat.{flat_meaning}
use Rattle.path_law.specs.Standing.{FlatActivation, FlatLife, first_spot, IsActivation, StandsIn, IsAt}
use Rattle.path_law.proofs.Table.{AsksAs, DoesAs, first_does}
use Rattle.path_law.proofs.Moves.{effect_in}

asked_as : (c : Code) (s : Start) (steps : List Step) (a : ℕ) (x : FlatActivation) (d : Doing ℕ) (w : Want ℕ)
    → DoesAs (here_at c s steps (first_spot a x)) (temp flat_meaning x) (instr_of c x) (effect_in c s steps false a x) d → asked d ≡ Some w
    → AsksAs (temp flat_meaning x) (instr_of c x) ((effect_in c s steps false a x).event (temp flat_meaning x)) w
asked_as c s steps a x (Doing.Gives to v) w does want = cc
asked_as c s steps a x (Doing.Goes at) w does want = cc
asked_as c s steps a x (Doing.Asks q) w does want =
    let same : q ≡ w = cc in
    subst (λ k. AsksAs (temp flat_meaning x) (instr_of c x) ((effect_in c s steps false a x).event (temp flat_meaning x)) k) same does

-- what the first step of an instruction asks for, by the table
pub first_asks : (c : Code) (s : Start) (steps : List Step) (a : ℕ) (x : FlatActivation) (w : Want ℕ) → IsActivation c s steps a x → asked (doing flat_meaning c x (instr_of c x)) ≡ Some w
    → AsksAs (temp flat_meaning x) (instr_of c x) ((effect_in c s steps false a x).event (temp flat_meaning x)) w
unfolding here_at
first_asks c s steps a x w h want =
    asked_as c s steps a x (doing flat_meaning c x (instr_of c x)) w (first_does c (here_at c s steps (first_spot a x)) x (instr_of c x) refl refl h.base) want

-- over words each instruction has a value
pub never_bad : (c : Code) (s : Start) (own : List Entry) (l : FlatLife) → IsAt c s own l → want_of flat_meaning c l ≡ Some Want.Bad → ⊥
never_bad c s own l now want = by l.stage now.stands.spot want
  where
    by : (stage : Stage ℕ FlatStack) → StandsIn c s now.steps l stage → want_at flat_meaning c l.top stage ≡ Some Want.Bad → ⊥
    by Stage.Ready b want = first_asks c s now.steps b.act l.top Want.Bad b.stack.own want
    by (Stage.Entering z) b want =
        let pushes : Some (Want.Push (record { 0 = b.def }) z.stack.base) ≡ Some Want.Bad = ap (λ i. link_write i (Some z.stack.base)) (sym b.call) ∙ want in cc
    by (Stage.Leaving link) b want = cc
    by Stage.Waiting b want = cc

-- behind its fork a life stands where its path has stood since the fork, and waits no more
pub record IsJoinedAt (c : Code) (s : Start) (own : List Entry) (l : FlatLife) : Type 0 where
  pub stands : IsAt c s own l
  pub awake : is_waiting l.stage ≡ false

pub joined_at_path : (c : Code) (s : Start) (own : List Entry) (l : FlatLife) → IsAt c s own l → want_of flat_meaning c l ≡ Some Want.Waits → IsJoinedAt c s own (joined c l)
joined_at_path c s own l now want = by l.stage now.stands.spot want
  where
    by : (stage : Stage ℕ FlatStack) → StandsIn c s now.steps l stage → want_at flat_meaning c l.top stage ≡ Some Want.Waits → IsJoinedAt c s own (joined c l)
    by Stage.Ready b want = absurd (first_asks c s now.steps b.act l.top Want.Waits b.stack.own want)
    by (Stage.Entering z) b want =
        let pushes : Some (Want.Push (record { 0 = b.def }) z.stack.base) ≡ Some Want.Waits = ap (λ i. link_write i (Some z.stack.base)) (sym b.call) ∙ want in cc
    by (Stage.Leaving link) b want = cc
    by Stage.Waiting b want = subst (λ i. IsJoinedAt c s own (joined_at l i)) (sym b.fork) (record {
      stands = record { steps = now.steps; path = now.path; stands = record { spot = b.before; fresh = now.stands.fresh } };
      awake = refl;
    })

-- who wants to wait waits
pub waits_waiting : (c : Code) (s : Start) (own : List Entry) (l : FlatLife) → IsAt c s own l → want_of flat_meaning c l ≡ Some Want.Waits → is_waiting l.stage ≡ true
waits_waiting c s own l now want = by l.stage now.stands.spot want
  where
    by : (stage : Stage ℕ FlatStack) → StandsIn c s now.steps l stage → want_at flat_meaning c l.top stage ≡ Some Want.Waits → is_waiting stage ≡ true
    by Stage.Ready b want = absurd (first_asks c s now.steps b.act l.top Want.Waits b.stack.own want)
    by (Stage.Entering z) b want =
        let pushes : Some (Want.Push (record { 0 = b.def }) z.stack.base) ≡ Some Want.Waits = ap (λ i. link_write i (Some z.stack.base)) (sym b.call) ∙ want in cc
    by (Stage.Leaving link) b want = cc
    by Stage.Waiting b want = refl
