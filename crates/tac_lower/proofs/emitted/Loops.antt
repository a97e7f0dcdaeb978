-- Choices and loops, one step after the other.
use Rattle.std.proofs.Common.{◌≡◌, ℕ, ◌+◌, ◌≤◌, false, Option, Some, None, Result, Ok, Err, refl, ap, sym, ◌∙◌, arith}
use Rattle.c_typed.specs.declared.stmt.Condition.{Condition}
use Rattle.tac_lower.specs.declared.draft.Ends.{Ends}
use Rattle.tac_lower.specs.declared.writer.Writer.{Writer}
use Rattle.tac_lower.specs.declared.writer.Stop.{Stop}
use Rattle.tac_lower.specs.Parts.{Part, from_here, within, ◌⨟◌}
use Rattle.tac_lower.specs.Instrs.{jump}
use Rattle.tac_lower.specs.Stmts.{Around, condition, guard, turn, while, for}
use Rattle.tac_lower.specs.tools.Emits.{Emitted, Emits, Counts, Counted}
use Rattle.tac_lower.proofs.emitted.Chains.{counted_stopped, too_long}
use Rattle.tac_lower.proofs.emitted.Follows.{next, halt, here, inside, exactly}

-- How long a test is does not depend on what it goes past.
abbrev pub Steady : (ℕ → Part ℕ) → Type 0
Steady guarded = (x : ℕ) → (guarded x).points ≡ (guarded 0).points

pub condition_steady : (c : Around) (e : Condition) → Steady (condition c e)
condition_steady c e x = refl

pub guard_steady : (c : Around) (e : Option Condition) → Steady (guard c e)
guard_steady c None x = refl
guard_steady c (Some e) x = refl

more_steady : (guarded : ℕ → Part ℕ) (k : ℕ) → Steady guarded → Steady (λ n. guarded (n + k))
more_steady guarded k steady x = steady (x + k) ∙ sym (steady (0 + k))

-- A test goes past a piece that was counted, and so many instructions more.
pub tested : {B : Type 0} (guarded : ℕ → Part ℕ) (rest : Part B) (points n k : ℕ) (ends : Ends) (old mid new : Writer) (a : ℕ) (r : Result B Stop)
    → Steady guarded → (old.dry ≡ false → n ≡ points) → Emitted ((guarded (n + k)).make ends old.next) (guarded (n + k)).points old mid a
    → Emits rest ends mid new r → Emits (guarded (points + k) ⨟ rest) ends old new r
tested guarded rest points n k ends old mid new a r steady is first second =
    next (guarded (points + k)) rest ends old mid new a r (exactly (λ x. guarded (x + k)) points n ends old mid a (more_steady guarded k steady) is first) second

pub untested : {B : Type 0} (guarded : ℕ → Part ℕ) (rest : Part B) (points n k : ℕ) (ends : Ends) (old mid : Writer) (e : Stop)
    → Steady guarded → Emits (guarded (n + k)) ends old mid (Err e) → Emits (guarded (points + k) ⨟ rest) ends old mid (Err e)
untested guarded rest points n k ends old mid e steady past =
    halt (guarded (points + k)) rest ends old mid e (counted_stopped (λ x. guarded (x + k)) points n ends old mid e (more_steady guarded k steady) past)

-- `while`: behind the turn, and behind the test
abbrev pub while_ends : Part ℕ → ℕ → ℕ → Ends
while_ends body head at = record { leave = at + body.points + 1; again = head }

abbrev pub while_body : ℕ → Part ℕ → ℕ → Part ℕ
while_body line body head = from_here (λ at. within (while_ends body head at) body) ⨟ jump line head

abbrev pub while_rest : ℕ → (ℕ → Part ℕ) → Part ℕ → ℕ → Part ℕ
while_rest line guarded body head = guarded (body.points + 1) ⨟ while_body line body head

pub while_turned : (line : ℕ) (guarded : ℕ → Part ℕ) (body : Part ℕ) (ends : Ends) (old mid new : Writer) (a : ℕ) (r : Result ℕ Stop)
    → Emitted ((turn line).make ends old.next) (turn line).points old mid a → Emits (while_rest line guarded body old.next.at) ends mid new r
    → Emits (while line guarded body) ends old new r
while_turned line guarded body ends old mid new a r first second =
    here (λ head. turn line ⨟ while_rest line guarded body head) ends old new r (λ x. refl)
    (next (turn line) (while_rest line guarded body old.next.at) ends old mid new a r first second)

pub while_unturned : (line : ℕ) (guarded : ℕ → Part ℕ) (body : Part ℕ) (ends : Ends) (old mid : Writer) (e : Stop)
    → Emits (turn line) ends old mid (Err e) → Emits (while line guarded body) ends old mid (Err e)
while_unturned line guarded body ends old mid e past =
    here (λ head. turn line ⨟ while_rest line guarded body head) ends old mid (Err e) (λ x. refl)
    (halt (turn line) (while_rest line guarded body old.next.at) ends old mid e past)

pub while_uncounted : (line : ℕ) (guarded : ℕ → Part ℕ) (body : Part ℕ) (head : ℕ) (ends : Ends) (w : Writer) (e : Stop)
    → Counts body w (Err e) → Emits (while_rest line guarded body head) ends w w (Err e)
while_uncounted line guarded body head ends w e past = too_long body (while_rest line guarded body head) ends w w e (let h : body.points ≤ (guarded (body.points + 1)).points + (body.points + 1) = omega arith in h) past

-- the body, with these ends
pub while_round : (line : ℕ) (body : Part ℕ) (head n : ℕ) (ends : Ends) (first old mid new : Writer) (a : ℕ) (r : Result ℕ Stop)
    → old.dry ≡ first.dry → Counted body.points first n
    → Emitted (body.make (record { leave = old.next.at + n + 1; again = head }) old.next) body.points old mid a → Emits (jump line head) ends mid new r
    → Emits (while_body line body head) ends old new r
while_round line body head n ends first old mid new a r dry is done rest =
    next (from_here (λ at. within (while_ends body head at) body)) (jump line head) ends old mid new a r
    (inside (while_ends body head) body (record { leave = old.next.at + n + 1; again = head }) ends old mid (Ok a)
    (λ live. ap (λ k. record { leave = old.next.at + k + 1; again = head }) (is.exact (sym dry ∙ live))) done)
    rest

pub while_unrounded : (line : ℕ) (body : Part ℕ) (head n : ℕ) (ends : Ends) (first old mid : Writer) (e : Stop)
    → old.dry ≡ first.dry → Counted body.points first n
    → Emits body (record { leave = old.next.at + n + 1; again = head }) old mid (Err e) → Emits (while_body line body head) ends old mid (Err e)
while_unrounded line body head n ends first old mid e dry is past =
    halt (from_here (λ at. within (while_ends body head at) body)) (jump line head) ends old mid e
    (inside (while_ends body head) body (record { leave = old.next.at + n + 1; again = head }) ends old mid (Err e)
    (λ live. ap (λ k. record { leave = old.next.at + k + 1; again = head }) (is.exact (sym dry ∙ live))) past)

-- the same for `for`
abbrev pub for_ends : Part ℕ → Part ℕ → ℕ → Ends
for_ends step body at = record { leave = at + body.points + step.points + 1; again = at + body.points }

abbrev pub for_body : ℕ → Part ℕ → Part ℕ → ℕ → Part ℕ
for_body line step body head = from_here (λ at. within (for_ends step body at) body) ⨟ step ⨟ jump line head

abbrev pub for_rest : ℕ → (ℕ → Part ℕ) → Part ℕ → Part ℕ → ℕ → Part ℕ
for_rest line guarded step body head = guarded (body.points + step.points + 1) ⨟ for_body line step body head

pub for_turned : (line : ℕ) (guarded : ℕ → Part ℕ) (step body : Part ℕ) (ends : Ends) (old mid new : Writer) (a : ℕ) (r : Result ℕ Stop)
    → Emitted ((turn line).make ends old.next) (turn line).points old mid a → Emits (for_rest line guarded step body old.next.at) ends mid new r
    → Emits (for line guarded step body) ends old new r
for_turned line guarded step body ends old mid new a r first second =
    here (λ head. turn line ⨟ for_rest line guarded step body head) ends old new r (λ x. refl)
    (next (turn line) (for_rest line guarded step body old.next.at) ends old mid new a r first second)

pub for_unturned : (line : ℕ) (guarded : ℕ → Part ℕ) (step body : Part ℕ) (ends : Ends) (old mid : Writer) (e : Stop)
    → Emits (turn line) ends old mid (Err e) → Emits (for line guarded step body) ends old mid (Err e)
for_unturned line guarded step body ends old mid e past =
    here (λ head. turn line ⨟ for_rest line guarded step body head) ends old mid (Err e) (λ x. refl)
    (halt (turn line) (for_rest line guarded step body old.next.at) ends old mid e past)

pub for_uncounted : (line : ℕ) (guarded : ℕ → Part ℕ) (step body : Part ℕ) (head : ℕ) (ends : Ends) (w : Writer) (e : Stop)
    → Counts body w (Err e) → Emits (for_rest line guarded step body head) ends w w (Err e)
for_uncounted line guarded step body head ends w e past = too_long body (for_rest line guarded step body head) ends w w e
    (let h : body.points ≤ (guarded (body.points + step.points + 1)).points + (body.points + (step.points + 1)) = omega arith in h) past

pub for_step_uncounted : (line : ℕ) (guarded : ℕ → Part ℕ) (step body : Part ℕ) (head : ℕ) (ends : Ends) (w : Writer) (e : Stop)
    → Counts step w (Err e) → Emits (for_rest line guarded step body head) ends w w (Err e)
for_step_uncounted line guarded step body head ends w e past = too_long step (for_rest line guarded step body head) ends w w e
    (let h : step.points ≤ (guarded (body.points + step.points + 1)).points + (body.points + (step.points + 1)) = omega arith in h) past

-- the two counts together
pub both_counted : (p q n m : ℕ) (w : Writer) → Counted p w n → Counted q w m → w.dry ≡ false → n + m ≡ p + q
both_counted p q n m w first second live = ap (λ x. x + m) (first.exact live) ∙ ap (λ x. p + x) (second.exact live)

abbrev pub these_ends : ℕ → ℕ → ℕ → Ends
these_ends at n m = record { leave = at + n + m + 1; again = at + n }

right_ends : (step body : Part ℕ) (n m : ℕ) (first old : Writer) → old.dry ≡ first.dry → Counted body.points first n → Counted step.points first m
    → old.dry ≡ false → these_ends old.next.at n m ≡ for_ends step body old.next.at
right_ends step body n m first old dry is that live =
    ap (λ x. these_ends old.next.at x m) (is.exact (sym dry ∙ live)) ∙ ap (λ x. these_ends old.next.at body.points x) (that.exact (sym dry ∙ live))

pub for_round : (line : ℕ) (step body : Part ℕ) (head n m : ℕ) (ends : Ends) (first old mid new : Writer) (a : ℕ) (r : Result ℕ Stop)
    → old.dry ≡ first.dry → Counted body.points first n → Counted step.points first m
    → Emitted (body.make (these_ends old.next.at n m) old.next) body.points old mid a → Emits (step ⨟ jump line head) ends mid new r
    → Emits (for_body line step body head) ends old new r
for_round line step body head n m ends first old mid new a r dry is that done rest =
    next (from_here (λ at. within (for_ends step body at) body)) (step ⨟ jump line head) ends old mid new a r
    (inside (for_ends step body) body (these_ends old.next.at n m) ends old mid (Ok a) (right_ends step body n m first old dry is that) done)
    rest

pub for_unrounded : (line : ℕ) (step body : Part ℕ) (head n m : ℕ) (ends : Ends) (first old mid : Writer) (e : Stop)
    → old.dry ≡ first.dry → Counted body.points first n → Counted step.points first m
    → Emits body (these_ends old.next.at n m) old mid (Err e) → Emits (for_body line step body head) ends old mid (Err e)
for_unrounded line step body head n m ends first old mid e dry is that past =
    halt (from_here (λ at. within (for_ends step body at) body)) (step ⨟ jump line head) ends old mid e
    (inside (for_ends step body) body (these_ends old.next.at n m) ends old mid (Err e) (right_ends step body n m first old dry is that) past)
