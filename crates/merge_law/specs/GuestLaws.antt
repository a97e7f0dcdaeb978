-- What a guest does to its log, event by event. Lists of entries have the newest first, logs with tickets the oldest.
use Rattle.std.specs.Prelude.{◌≡◌, ℕ, suc, ◌+◌, ◌*◌, ◌/◌, ◌<◌, ◌≤◌, true, false, List, [], ◌∷◌, ◌++◌, All, Option, Some}
use Rattle.dfi_base.specs.Names.{Below, IsApart}
use Rattle.dfi_base.specs.Lives.{own, branches_after, EndedIn}
use Rattle.dfi_base.specs.Lives
use Rattle.dfi_base.specs.Joined.{IsJoined}
use Rattle.tac_ir.specs.declared.code.Code.{Code}
use Rattle.tac_ir.specs.declared.run.Entry.{Entry}
use Rattle.tac_ir.specs.declared.run.Op.{Op}
use Rattle.tac_ir.specs.Module.{Module}
use Rattle.tac_ir.specs.GoodForm.{GoodForm}
use Rattle.tac_ir.specs.Answers.{IsAnswer}
use Rattle.tac_ir.specs.Path.{Start, stops}
use Rattle.tac_ir.specs.Served.{is_served}
use Rattle.tac_ir.specs.Threads.{root_start, threads_of, forked_by, IsForked}
use Rattle.tac_ir.specs.CoreRun.{Returns}
use Rattle.tac_ir.specs.Words.{int_of}
use Rattle.tac_thread.specs.declared.flat.FlatStack.{FlatStack}
use Rattle.tac_thread.specs.declared.want.Want.{Want}
use Rattle.tac_thread.specs.declared.want.ReplyOf.{ReplyOf}
use Rattle.tac_thread.specs.Life.{instr_of}
use Rattle.tac_thread.specs.Begun.{entry_of}
use Rattle.tac_thread.specs.Doing.{want_of}
use Rattle.tac_thread.specs.RunsOn.{RunsOn}
use Rattle.tac_thread.specs.Answered.{answered, joined}
use Rattle.tac_thread.specs.Flat.{flat_meaning, with_share}
use Rattle.path_law.specs.Standing.{FlatLife, IsAt, point_of}
use Rattle.path_law.specs.Asked.{op_of}
use Rattle.path_law.specs.Begins.{IsBranchAt}
use Rattle.path_law.specs.Wants.{room_in}
use Rattle.path_law.specs.Told.{IsTold}
use Rattle.guest_log.specs.declared.stamped.Stamped.{Stamped}
use Rattle.guest_log.specs.Tickets.{IsUnion}
use Rattle.guest_log.specs.Shared.{history_of}
use Rattle.merge_law.specs.Logs.{IsLogOf}
use Rattle.merge_law.specs.Stops.{has_stop}
use Rattle.merge_law.specs.AtRest.{IsLeftIn}
use Rattle.merge_law.specs.Guests.{IsAtWork, IsBranchOf, IsJoining}

-- it begins, with an empty log
abbrev pub Begins : Type 0
Begins = (m : Module) (n : ℕ) (s : Start) (l : FlatLife) → IsAt m.code s [] l → IsAtWork m n s [] l

-- the guest itself gives what no memory answers
abbrev pub IsOwnAnswer : Module → FlatLife → Entry → Type 0
IsOwnAnswer m l e = is_served e.op ≡ false → IsAnswer m [] [] e.name.0 (room_in l.top.stack) e.op e.answer

-- it is told the answer of its event, and goes on
abbrev pub GoesOn : Type 0
GoesOn = (m : Module) (n : ℕ) (s : Start) (h : List Entry) (l next : FlatLife) (e : Entry) (reply : ReplyOf ℕ FlatStack) → GoodForm m.code → IsAtWork m n s h l
    → e.name.0 ≡ n → IsTold m.code l e reply → IsOwnAnswer m l e → forked_by e.op e.answer ≡ 0 → RunsOn flat_meaning m.code (answered flat_meaning m.code l reply) next
    → IsAtWork m n s (e ∷ h) next

-- its event stops the run
abbrev pub Stops : Type 0
Stops = (m : Module) (n : ℕ) (s : Start) (h : List Entry) (l : FlatLife) (e : Entry) (want : Want ℕ) → IsAtWork m n s h l → e.name.0 ≡ n
    → want_of flat_meaning m.code l ≡ Some want → op_of want ≡ Some e.op → e.point ≡ point_of l.top → IsOwnAnswer m l e → stops e.answer ≡ true
    → IsLogOf m n s (e ∷ h) × (has_stop (e ∷ h) ≡ true)

-- it forks
abbrev pub Forks : Type 0
Forks = (m : Module) (n : ℕ) (s : Start) (h : List Entry) (l next : FlatLife) (e : Entry) (reply : ReplyOf ℕ FlatStack) → GoodForm m.code → IsAtWork m n s h l
    → e.name.0 ≡ n → IsTold m.code l e reply → IsOwnAnswer m l e → RunsOn flat_meaning m.code (answered flat_meaning m.code l reply) next
    → IsJoining m n s (e ∷ h) (e ∷ h) next 0

-- and each branch begins with an empty log
abbrev pub Branches : Type 0
Branches = (m : Module) (n : ℕ) (s : Start) (h : List Entry) (l b : FlatLife) (e : Entry) (i : ℕ) → IsAtWork m n s h l → e.name.0 ≡ n → 0 < i
    → i ≤ forked_by e.op e.answer → i ≤ 15 → (at : IsBranchAt m.code s (own (threads_of m) n h) i b)
    → IsBranchOf m n s (e ∷ h) (16 * n + i) at.start × IsAtWork m (16 * n + i) at.start [] b

-- a branch begins at its entry, in its share of the room above its parent's frame, as a life that begins there with this stack
abbrev pub start_of : ℕ → ℕ → FlatStack → Start
start_of fun at stack = record { point = record { fun = fun; at = at }; base = stack.base; region = stack.top; region_end = stack.«end» }

abbrev pub BranchStarts : Type 0
BranchStarts = (c : Code) (s : Start) (own : List Entry) (l : FlatLife) (n i : ℕ) (stack : FlatStack) → IsAt c s own l → want_of flat_meaning c l ≡ Some (Want.Fork n)
    → 1 ≤ i → with_share (room_in l.top.stack / n) l.top.stack i ≡ Some stack → IsForked c s own i (start_of l.top.fun (entry_of (instr_of c l.top) i) stack)

-- A branch's log joined by tickets: those of the tail are at most the fork's, and those of the branch are greater.
abbrev pub JoinsByTickets : Type 0
JoinsByTickets = (m : Module) (q fork : ℕ) (tail newer part whole : List Stamped) → IsUnion (tail ++ newer) part whole
    → All (λ (s : Stamped). s.ticket ≤ fork) tail → All (λ (s : Stamped). fork < s.ticket) part
    → All (λ (s : Stamped). IsApart q s.entry.name.0) newer → All (λ (s : Stamped). Below q s.entry.name.0) part
    → IsJoined (threads_of m) q (history_of tail) (history_of whole) (history_of (tail ++ newer)) (history_of part)

-- a branch that has ended is joined
abbrev pub JoinsOne : Type 0
JoinsOne = (m : Module) (n : ℕ) (s sq : Start) (tail rest whole part : List Entry) (l : FlatLife) (j : ℕ) → suc j ≤ 15 → IsJoining m n s tail rest l j
    → IsBranchOf m n s tail (16 * n + suc j) sq → IsLogOf m (16 * n + suc j) sq part → EndedIn (threads_of m) (16 * n + suc j) sq part (16 * n + suc j)
    → IsJoined (threads_of m) (16 * n + suc j) tail whole rest part → IsJoining m n s tail whole l (suc j)

-- all branches are joined
abbrev pub JoinedAll : Type 0
JoinedAll = (m : Module) (n : ℕ) (s : Start) (tail h : List Entry) (l next : FlatLife) (j : ℕ) → IsJoining m n s tail h l j
    → branches_after (threads_of m) (own (threads_of m) n h) ≤ j → want_of flat_meaning m.code l ≡ Some Want.Waits → RunsOn flat_meaning m.code (joined m.code l) next
    → IsAtWork m n s h next

-- it ends
abbrev pub Ends : Type 0
Ends = (m : Module) (n : ℕ) (s : Start) (h : List Entry) (l : FlatLife) (v : Option ℕ) → IsAtWork m n s h l → want_of flat_meaning m.code l ≡ Some (Want.Ended v)
    → EndedIn (threads_of m) n s h n

-- that of thread 1 with main's value
pub record IsReturned (m : Module) (h : List Entry) (v : Option ℕ) : Type 0 where
  pub word : ℕ
  pub is : v ≡ Some word
  pub returns : Returns m h (int_of word)

abbrev pub Returning : Type 0
Returning = (m : Module) (h : List Entry) (l : FlatLife) (v : Option ℕ) → GoodForm m.code → IsAtWork m 1 (root_start m) h l
    → want_of flat_meaning m.code l ≡ Some (Want.Ended v) → IsReturned m h v

-- it is left off before its next event
abbrev pub IsLeft : Type 0
IsLeft = (m : Module) (n : ℕ) (s : Start) (h : List Entry) (l : FlatLife) (want : Want ℕ) (op : Op) → IsAtWork m n s h l → want_of flat_meaning m.code l ≡ Some want
    → op_of want ≡ Some op → IsLeftIn m n s h

-- where a branch was left off, its parent is, whose log both logs make
abbrev pub StaysLeft : Type 0
StaysLeft = (m : Module) (n q : ℕ) (s sq : Start) (tail rest whole part : List Entry) → IsBranchOf m n s tail q sq → IsLogOf m n s rest → IsLogOf m q sq part
    → IsJoined (threads_of m) q tail whole rest part
    → IsLogOf m n s whole × (IsLeftIn m q sq part → IsLeftIn m n s whole) × ((left : IsLeftIn m n s rest) → IsApart q left.0 → IsLeftIn m n s whole)

-- where somebody was left off, thread 1 has not ended
abbrev pub LeftLives : Type 0
LeftLives = (m : Module) (h : List Entry) → IsLogOf m 1 (root_start m) h → IsLeftIn m 1 (root_start m) h → Lives.Ended (threads_of m) h 1 → ⊥

-- a stop stays in the log into which it was joined
abbrev pub StopsStay : Type 0
StopsStay = (m : Module) (q : ℕ) (tail whole rest part : List Entry) → IsJoined (threads_of m) q tail whole rest part
    → (has_stop part ≡ true → has_stop whole ≡ true) × (has_stop rest ≡ true → has_stop whole ≡ true)
