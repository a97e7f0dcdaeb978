-- What a word or the desk holds after a history depends on the entries of that word, or of the desk, alone.
use Rattle.std.specs.Prelude.{◌≡◌, ℕ, Bool, true, false, nat_eq, List, filter}
use Rattle.tac_ir.specs.declared.code.Code.{Code}
use Rattle.tac_ir.specs.declared.run.Op.{Op}
use Rattle.tac_ir.specs.declared.run.Entry.{Entry}
use Rattle.tac_ir.specs.Last.{last_write}
use Rattle.tac_ir.specs.Desk.{live_blocks, inputs_in}

-- the events of word w
abbrev pub is_of_word : ℕ → Op → Bool
is_of_word w (Op.Read r at) = nat_eq at w
is_of_word w (Op.Write d at v) = nat_eq at w
is_of_word w op = false

-- the events of the desk: those of blocks and of the input
abbrev pub is_of_desk : Op → Bool
is_of_desk (Op.New site count) = true
is_of_desk (Op.Free w) = true
is_of_desk Op.In = true
is_of_desk Op.Left = true
is_of_desk op = false

-- the entries of a history whose events pass a test
abbrev pub entries_of : (Op → Bool) → List Entry → List Entry
entries_of test h = filter (λ e. test e.op) h

-- the test lets all events of word w pass
abbrev pub HasWord : ℕ → (Op → Bool) → Type 0
HasWord w test = (op : Op) → is_of_word w op ≡ true → test op ≡ true

abbrev pub HasDesk : (Op → Bool) → Type 0
HasDesk test = (op : Op) → is_of_desk op ≡ true → test op ≡ true

abbrev pub WordsAreLocal : Type 0
WordsAreLocal = (c : Code) (test : Op → Bool) (h : List Entry) (w : ℕ) → HasWord w test → last_write c (entries_of test h) w ≡ last_write c h w

abbrev pub BlocksAreLocal : Type 0
BlocksAreLocal = (c : Code) (test : Op → Bool) (h : List Entry) → HasDesk test → live_blocks c (entries_of test h) ≡ live_blocks c h

abbrev pub InputIsLocal : Type 0
InputIsLocal = (test : Op → Bool) (h : List Entry) → HasDesk test → inputs_in (entries_of test h) ≡ inputs_in h
