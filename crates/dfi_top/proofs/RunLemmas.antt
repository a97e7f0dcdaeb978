-- Runs of a module whose reads are all checked.
use Rattle.std.proofs.Common.{◌≡◌, ℕ, zero, suc, true, false, not, List, None, Some, replicate, refl, sym, ap, subst, ◌∙◌, reverse, slice_get, Result, Ok, Err, IfOk, inl}
use Rattle.std.specs.Prelude.{ℤ}
use Rattle.dfi_base.specs.declared.numbers.Name.{Name}
use Rattle.tac_ir.specs.declared.run.Journal.{Journal}
use Rattle.tac_ir.specs.declared.code.Code.{Code}
use Rattle.tac_ir.specs.Module.{Module}
use Rattle.tac_ir.specs.CoreRun.{CoreRun, LeastRun}
use Rattle.tac_ir.specs.Lawful.{Lawful}
use Rattle.tac_ir.specs.Answers.{is_checked}
use Rattle.tac_ir.proofs.Checked.{checked_lawful}
use Rattle.tac_ir.proofs.OneRun.{run_one}
use Rattle.flat_core.specs.Runs as core
use Rattle.flat_core.proofs.Alike.{one_run}
use Rattle.first_module.specs.ModuleOf.{module_of}
use Rattle.dfi_build.specs.Builds.{IsModuleOf}
use Rattle.dfi_top.specs.Checked.{AllChecked}
use Rattle.dfi_top.specs.declared.reply.Reply.{Reply}
use Rattle.dfi_base.specs.declared.memory.Memory.{Memory}
use Rattle.dfi_top.specs.Reply.{Said, TellsRun, RunsByLeast, RunsAlong, RepliesToTurns, said_by}

pub lawful_run : (m : Module) (input : List ℤ) (budget : ℕ) (j : Journal) → AllChecked m → CoreRun m input budget j → Lawful m j
lawful_run m input budget j checked run = checked_lawful m input (reverse j.entries) checked run.history

-- no mark says that a read goes unchecked
none_removed : (n r : ℕ) → elim (slice_get (replicate n false) r) [ None ↦ true | Some removed ↦ not removed ] ≡ true
none_removed zero r = refl
none_removed (suc n) zero = refl
none_removed (suc n) (suc r) = none_removed n r

checked_by : (c : Code) (r : ℕ) → is_checked (module_of c) r ≡ true
checked_by c zero = refl
checked_by c (suc r) = none_removed _ r

pub all_checked : (bytes : List ℕ) (m : Module) → IsModuleOf bytes m → AllChecked m
all_checked bytes m is r = ap (λ x. is_checked x r) is.made ∙ checked_by is.code r

pub by_least : (m : Module) (input : List ℤ) (budget : ℕ) (s : Said) → LeastRun m input budget s.journal → TellsRun m s → RunsByLeast m input budget s
by_least m input budget s run told = record { run = run; only = λ k other. run_one m input budget k s.journal other run; told = told }

pub along : (m : Module) (input : List ℤ) (budget : ℕ) (names : List Name) (s : Said) → core.IsRunAlong m input budget names s.journal → TellsRun m s → RunsAlong m input budget names s
along m input budget names s run told = record { run = run; only = λ k other. one_run m input budget names k s.journal other run; told = told }

pub told_by_least : (m : Module) (input : List ℤ) (budget : ℕ) (j : Journal) → LeastRun m input budget j → (r : Result Reply Memory) → IfOk r (λ x. TellsRun m (said_by x)) → IfOk r (λ x. x.journal ≡ j)
    → IfOk r (λ x. RunsByLeast m input budget (said_by x))
told_by_least m input budget j run (Ok x) told is = by_least m input budget (said_by x) (subst (LeastRun m input budget) (sym is) run) told
told_by_least m input budget j run (Err e) told is = tt

pub told_along : (m : Module) (input : List ℤ) (budget : ℕ) (names : List Name) (j : Journal) → core.IsRunAlong m input budget names j → (r : Result Reply Memory)
    → IfOk r (λ x. TellsRun m (said_by x)) → IfOk r (λ x. x.journal ≡ j) → IfOk r (λ x. RepliesToTurns m input budget names (said_by x))
told_along m input budget names j run (Ok x) told is = inl (along m input budget names (said_by x) (subst (core.IsRunAlong m input budget names) (sym is) run) told)
told_along m input budget names j run (Err e) told is = tt
