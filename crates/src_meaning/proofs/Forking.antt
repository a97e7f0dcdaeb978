-- A fork and its branches, as the code finds them.
use Rattle.std.proofs.Common.{◌≡◌, ℕ, zero, suc, ◌<◌, ◌≤◌, Bool, true, false, nat_le, List, [], ◌∷◌, map, length, Some, None, slice_get, refl, ap, sym, ◌∙◌, subst, arith}
use Rattle.c_typed.specs.declared.stmt.Branch.{Branch}
use Rattle.c_typed.specs.declared.stmt.Stmt.{Stmt}
use Rattle.obj_mem.specs.declared.event.Event.{Event}
use Rattle.src_law.specs.declared.heard.Heard.{Heard}
use Rattle.src_law.specs.declared.heard.Heard.TheVariants.{Answer as answer, Branch as branch}
use Rattle.src_law.specs.declared.heard.End.{End}
use Rattle.src_law.specs.declared.heard.End.TheVariants.{Done as done}
use Rattle.src_law.specs.Acts.{an_end, Act, count}
use Rattle.src_law.specs.Exprs.{Around}
use Rattle.src_law.specs.Program.{body}
use Rattle.src_law.specs.Stmts.{in_turn, stmt}
use Rattle.src_law.specs.tools.Heard.{Res, got, off, bind, asks, unit_of}
use Rattle.src_law.specs.tools.Reader.{reads, parted}
use Rattle.src_meaning.specs.declared.heard.Pause.{Pause}
use Rattle.src_meaning.specs.declared.level.Level.{Level}
use Rattle.src_meaning.specs.tools.Branches.{branches_of, branch_in, to_its_end, Branches}
use Rattle.src_meaning.specs.tools.Follows.{Pauses}
use Rattle.src_meaning.specs.tools.Levels.{seen, program_of}

counted : (c : Around) (bs : List (Branch Stmt)) → count (branches_of c bs) ≡ length bs
counted c [] = refl
counted c (b ∷ bs) = ap suc (counted c bs)

abbrev fork_reads : Level → List (Branch Stmt) → List Heard → Res End
fork_reads l bs h = reads (body (program_of l.program)) l.fuel an_end (Act.forks (branches_of (seen l) bs)) h

abbrev forked : Level → List (Branch Stmt) → ℕ → List Heard → Res End
forked l bs n h = bind (bind (asks (Event.Fork n) h) unit_of) (λ u. parted (branch_in l (branches_of (seen l) bs)))

chosen_by : (l : Level) (bs : List (Branch Stmt)) (h : List Heard) → Bool → Res End
chosen_by l bs h b = elim b as (λ x. Res End) [ true ↦ forked l bs (count (branches_of (seen l) bs)) h | false ↦ off ]

pub too_many : (l : Level) (bs : List (Branch Stmt)) (h : List Heard) → 15 < length bs → fork_reads l bs h ≡ off
too_many l bs h many =
    let n : count (branches_of (seen l) bs) ≡ length bs = counted (seen l) bs in
    let e : nat_le (count (branches_of (seen l) bs)) 15 ≡ false = grind (arith, nat_le) in
    ap (λ b. elim b as (λ x. Res End) [ true ↦ forked l bs (count (branches_of (seen l) bs)) h | false ↦ off ]) e

pub few : (l : Level) (bs : List (Branch Stmt)) (h : List Heard) → length bs ≤ 15 → fork_reads l bs h ≡ forked l bs (length bs) h
few l bs h some =
    let n : count (branches_of (seen l) bs) ≡ length bs = counted (seen l) bs in
    let e : nat_le (count (branches_of (seen l) bs)) 15 ≡ true = grind (arith, nat_le) in
    ap (λ b. elim b as (λ x. Res End) [ true ↦ forked l bs (count (branches_of (seen l) bs)) h | false ↦ off ]) e ∙ ap (λ k. forked l bs k h) n

pub err_first : {A B : Type 0} (r : Res A) (k : A → List Heard → Res B) (p : Pause) → Pauses r p → Pauses (bind r k) p
err_first r k Pause.Memory is = tt
err_first r k (Pause.Wants e) is = ap (λ x. bind x k) is
err_first r k Pause.Over is = ap (λ x. bind x k) is
err_first r k Pause.Ended is = ap (λ x. bind x k) is
err_first r k Pause.Off is = ap (λ x. bind x k) is

-- behind a fork
pub past : (f : ℕ → List Heard → Res End) (old new : List Heard) → Branches old None new → parted f old ≡ got done new
past f [] new is = ap (got done) (sym is.1)
past f (answer a ∷ l) new is = ap (got done) (sym is.1)
past f (branch i ∷ l) new is = absurd (none_is i is.0)
  where
    none_is : (i : ℕ) → None ≡ Some i → ⊥
    none_is i e = grind arith

pub which : (f : ℕ → List Heard → Res End) (old new : List Heard) (i : ℕ) → Branches old (Some i) new → parted f old ≡ f i new
which f [] new i is = absurd (let e : Some i ≡ None = is.0 in grind arith)
which f (answer a ∷ l) new i is = absurd (let e : Some i ≡ None = is.0 in grind arith)
which f (branch j ∷ l) new i is =
    let e : Some i ≡ Some j = is.0 in
    let same : j ≡ i = grind arith in
    ap (λ k. f k l) same ∙ ap (f i) (sym is.1)

pub zero_branch : (l : Level) (bs : List (Branch Stmt)) (i : ℕ) (h : List Heard) → i ≡ 0 → branch_in l (branches_of (seen l) bs) i h ≡ off
zero_branch l [] i h is = refl
zero_branch l (b ∷ bs) zero h is = refl
zero_branch l (b ∷ bs) (suc i) h is = absurd (omega arith)

none_at : (l : Level) (bs : List (Branch Stmt)) (k : ℕ) (h : List Heard) → slice_get bs k ≡ None → branch_in l (branches_of (seen l) bs) (suc k) h ≡ off
none_at l [] k h is = refl
none_at l (b ∷ bs) zero h is = absurd (grind arith)
none_at l (b ∷ bs) (suc k) h is = none_at l bs k h is

that_at : (l : Level) (bs : List (Branch Stmt)) (k : ℕ) (b : Branch Stmt) (h : List Heard) → slice_get bs k ≡ Some b
    → branch_in l (branches_of (seen l) bs) (suc k) h ≡ to_its_end l (in_turn (map (stmt (seen l)) b.body)) h
that_at l [] k b h is = absurd (grind arith)
that_at l (x ∷ bs) zero b h is =
    let same : x ≡ b = grind arith in
    ap (λ y. to_its_end l (in_turn (map (stmt (seen l)) y.body)) h) same
that_at l (x ∷ bs) (suc k) b h is = that_at l bs k b h is

pub no_branch : (l : Level) (bs : List (Branch Stmt)) (i k : ℕ) (h : List Heard) → i ≡ suc k → slice_get bs k ≡ None → branch_in l (branches_of (seen l) bs) i h ≡ off
no_branch l bs i k h is there = ap (λ j. branch_in l (branches_of (seen l) bs) j h) is ∙ none_at l bs k h there

pub that_branch : (l : Level) (bs : List (Branch Stmt)) (i k : ℕ) (b : Branch Stmt) (h : List Heard) → i ≡ suc k → slice_get bs k ≡ Some b
    → branch_in l (branches_of (seen l) bs) i h ≡ to_its_end l (in_turn (map (stmt (seen l)) b.body)) h
that_branch l bs i k b h is there = ap (λ j. branch_in l (branches_of (seen l) bs) j h) is ∙ that_at l bs k b h there

pub past_fork : (l : Level) (bs : List (Branch Stmt)) (h old new : List Heard) → length bs ≤ 15 → bind (asks (Event.Fork (length bs)) h) unit_of ≡ got tt old → Branches old None new
    → fork_reads l bs h ≡ got done new
past_fork l bs h old new some asked is =
    few l bs h some ∙ ap (λ r. bind r (λ u. parted (branch_in l (branches_of (seen l) bs)))) asked ∙ past (branch_in l (branches_of (seen l) bs)) old new is

pub branch_of_fork : (l : Level) (bs : List (Branch Stmt)) (h old new : List Heard) (i : ℕ) → length bs ≤ 15 → bind (asks (Event.Fork (length bs)) h) unit_of ≡ got tt old → Branches old (Some i) new
    → fork_reads l bs h ≡ branch_in l (branches_of (seen l) bs) i new
branch_of_fork l bs h old new i some asked is =
    few l bs h some ∙ ap (λ r. bind r (λ u. parted (branch_in l (branches_of (seen l) bs)))) asked ∙ which (branch_in l (branches_of (seen l) bs)) old new i is

pub fork_pauses : (l : Level) (bs : List (Branch Stmt)) (h : List Heard) (p : Pause) → length bs ≤ 15 → Pauses (bind (asks (Event.Fork (length bs)) h) unit_of) p → Pauses (fork_reads l bs h) p
fork_pauses l bs h p some is =
    subst (λ r. Pauses r p) (sym (few l bs h some)) (err_first (bind (asks (Event.Fork (length bs)) h) unit_of) (λ u. parted (branch_in l (branches_of (seen l) bs))) p is)
