-- What a store answers is what the run allows.
use Rattle.std.proofs.Common.{◌≡◌, ℕ, List, refl}
use Rattle.std.specs.Prelude.{ℤ, if◌then◌else◌}
use Rattle.tac_ir.specs.declared.run.Op.{Op}
use Rattle.tac_ir.specs.declared.run.Answer.{Answer}
use Rattle.tac_ir.specs.declared.run.Stop.{Stop}
use Rattle.tac_ir.specs.declared.run.Entry.{Entry}
use Rattle.tac_ir.specs.Module.{Module}
use Rattle.tac_ir.specs.Words.{word_of}
use Rattle.tac_ir.specs.Desk.{inputs_in}
use Rattle.tac_ir.specs.Answers.{free_answer, input_at}
use Rattle.heap_desk.specs.Desk.{Desk}
use Rattle.heap_desk.specs.Replies.{can_give, first_of}
use Rattle.heap_desk.specs.Stands.{StandsAfter}
use Rattle.heap_desk.proofs.Beside.{give_answers_free, next_answers_in}

-- some entry with this op and answer
abbrev pub some_entry : Op → Answer → Entry
some_entry op answer = record { name = record { 0 = 1 }; point = record { fun = 0; at = 0 }; op = op; answer = answer }

pub frees : (m : Module) (input : List ℤ) (h : List Entry) (d : Desk) (w : ℕ) → StandsAfter m input h d → (if can_give d w then Answer.Unit else Answer.Stop Stop.Free) ≡ free_answer m h w
frees m input h d w stands =
    (give_answers_free m input h d (some_entry (Op.Free w) (if can_give d w then Answer.Unit else Answer.Stop Stop.Free)) w stands refl refl).0 1 0

pub comes : (m : Module) (input : List ℤ) (h : List Entry) (d : Desk) → StandsAfter m input h d → Answer.Value (word_of (first_of d.rest)) ≡ Answer.Value (input_at input (inputs_in h))
comes m input h d stands = (next_answers_in m input h d (some_entry Op.In (Answer.Value (word_of (first_of d.rest)))) stands refl refl).0 1 0
