-- A stretch of silent instructions, from its start.
use Rattle.std.proofs.Common.{◌≡◌, ◌∙◌, ap, sym, subst, ◌<◌, Bool, true, false}
use Rattle.tac_ir.specs.declared.code.Code.{Code}
use Rattle.tac_thread.specs.Meaning.{Meaning}
use Rattle.tac_thread.specs.Life.{Life}
use Rattle.tac_ir.specs.GoodForm.{GoodForm}
use Rattle.tac_thread.specs.Doing.{silent_next, stepped}
use Rattle.tac_thread.specs.tools.Left.{left_of}
use Rattle.tac_thread.proofs.Silent.{falls}
use Rattle.tac_thread.specs.RunsOn.{RunsOn}
use Rattle.tac_thread.specs.RunsOn.RunsOn.{rests, runs}

-- whatever comes to rest from here comes to rest from the start
abbrev pub Continues : {V S : Type 0} → Meaning V S → Code → Life V S → Life V S → Type 0
Continues {V} {S} m c start here = (last : Life V S) → RunsOn m c here last → RunsOn m c start last

-- one more silent instruction
pub continued : {X T : Type 0} (m : Meaning X T) (c : Code) (start here next : Life X T) (result : Bool)
    → silent_next m c here ≡ stepped result next → result ≡ true → Continues m c start here → Continues m c start next
continued m c start here next result step yes_ so_far =
    λ last r. so_far last (runs here next last (step ∙ ap (λ b. stepped b next) yes_) r)

pub fewer_left : {X T : Type 0} (m : Meaning X T) (c : Code) (here next : Life X T) (result : Bool)
    → GoodForm c → silent_next m c here ≡ stepped result next → result ≡ true → left_of c next < left_of c here
fewer_left m c here next result good step yes_ = falls m c here next good (step ∙ ap (λ b. stepped b next) yes_)

-- no more silent instruction
pub arrived : {X T : Type 0} (m : Meaning X T) (c : Code) (start here next : Life X T) (result : Bool)
    → silent_next m c here ≡ stepped result next → result ≡ false → (result ≡ false → next ≡ here) → Continues m c start here → RunsOn m c start next
arrived m c start here next result step no_ stays so_far =
    subst (λ l. RunsOn m c start l) (sym (stays no_)) (so_far here (rests here (step ∙ ap (λ b. stepped b next) no_)))
