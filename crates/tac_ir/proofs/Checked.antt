-- A history in which each read is checked is lawful.
use Rattle.std.proofs.Common.{◌≡◌, ℕ, List, [], ◌∷◌, Bool, true, false, refl, arith, sym, ◌∙◌, ap, subst}
use Rattle.std.specs.Prelude.{ℤ, nat_le, not, ◌&&◌, if◌then◌else◌}
use Rattle.std.proofs.lemmas.Bool.{leb-true}
use Rattle.tac_ir.specs.declared.run.Op.{Op}
use Rattle.tac_ir.specs.declared.run.Stop.{Stop}
use Rattle.tac_ir.specs.declared.run.Answer.{Answer}
use Rattle.tac_ir.specs.declared.run.Entry.{Entry}
use Rattle.tac_ir.specs.Module.{Module}
use Rattle.tac_ir.specs.Layout.{memory_words}
use Rattle.tac_ir.specs.Last.{last_write}
use Rattle.tac_ir.specs.Answers.{is_checked, is_allowed, class_of, read_answer, IsAnswer}
use Rattle.tac_ir.specs.CoreRun.{GoesOn, IsHistory}
use Rattle.tac_ir.specs.Lawful.{IsLawfulRead, IsNoAlarm, EndsWithoutAlarm, IsLawful}
use Rattle.tac_ir.specs.Path.{stops}

-- the answer of a read of word w, where these say whether w lies past the memory, and whether the read is checked and allowed
abbrev answer_by : Module → List Entry → ℕ → Bool → Bool → Bool → Answer
answer_by m h w past checked allowed =
    if past then Answer.Stop Stop.Address
    else (if (checked && not allowed) then Answer.Stop (Stop.Alarm (class_of m (last_write m.code h w).def))
    else Answer.Value (last_write m.code h w).value)

-- each such answer of a checked read is lawful
lawful_by : (m : Module) (h : List Entry) (r w : ℕ) (past allowed : Bool)
    → nat_le (memory_words m.size) w ≡ past → is_allowed m r (last_write m.code h w) ≡ allowed → IsLawfulRead m h (Op.Read (record { 0 = r }) w) (answer_by m h w past true allowed)
lawful_by m h r w true allowed p a = λ inside. absurd (omega (arith, inside, leb-true _ _ p))
lawful_by m h r w false true p a = λ inside. (refl, a)
lawful_by m h r w false false p a = tt

-- a checked read is lawful
pub read_lawful : (m : Module) (h : List Entry) (r w : ℕ) (answer : Answer) → is_checked m r ≡ true → answer ≡ read_answer m h r w → IsLawfulRead m h (Op.Read (record { 0 = r }) w) answer
read_lawful m h r w answer checked e =
    let past = nat_le (memory_words m.size) w in
    let allowed = is_allowed m r (last_write m.code h w) in
    let known : answer ≡ answer_by m h w past true allowed = e ∙ ap (λ c. answer_by m h w past c allowed) checked in
    subst (IsLawfulRead m h (Op.Read (record { 0 = r }) w)) (sym known) (lawful_by m h r w past allowed refl refl)

-- each answer is lawful where each read is checked
entry_lawful : (m : Module) (input : List ℤ) (h : List Entry) (n room : ℕ) (op : Op) (answer : Answer)
    → ((r : ℕ) → is_checked m r ≡ true) → IsAnswer m input h n room op answer → IsLawfulRead m h op answer
entry_lawful m input h n room (Op.Read r w) answer checked e = read_lawful m h r.0 w answer (checked r.0) e
entry_lawful m input h n room op answer checked e = tt

-- what does not stop is no alarm
no_alarm : (m : Module) (op : Op) (answer : Answer) → stops answer ≡ false → IsNoAlarm m op answer
no_alarm m (Op.Read r w) (Answer.Stop (Stop.Alarm found)) goes = cc
no_alarm m op answer goes = tt

-- a history that goes on does not end by an alarm
ends_without : (m : Module) (h : List Entry) → GoesOn h → EndsWithoutAlarm m h
ends_without m [] going = tt
ends_without m (e ∷ h) going = no_alarm m e.op e.answer going

-- where each read is checked, each history is lawful
pub checked_lawful : (m : Module) (input : List ℤ) (h : List Entry) → ((r : ℕ) → is_checked m r ≡ true) → IsHistory m input h → IsLawful m h
unfolding IsHistory IsLawful
checked_lawful m input [] checked history = tt
checked_lawful m input (e ∷ h) checked history =
    let follows = history.0 in
    (entry_lawful m input h e.name.0 follows.want.room e.op e.answer checked follows.answer, ends_without m h follows.going, checked_lawful m input h checked history.1)
