-- What a thread in front of an unchecked read knows.
use Rattle.std.specs.Prelude.{◌≡◌, ℕ, ◌<◌, ◌≤◌, true, false, None, List}
use Rattle.tac_ir.specs.declared.code.Instr.{Instr}
use Rattle.tac_ir.specs.declared.code.Place.{Place}
use Rattle.tac_ir.specs.declared.run.Entry.{Entry}
use Rattle.tac_ir.specs.declared.run.Answer.{Answer}
use Rattle.tac_ir.specs.declared.run.Op.{Op}
use Rattle.tac_ir.specs.Module.{Module}
use Rattle.tac_ir.specs.Layout.{place_word}
use Rattle.tac_ir.specs.Last.{last_write, write_to}
use Rattle.tac_ir.specs.Answers.{is_allowed}
use Rattle.tac_thread.specs.Threads.{is_waiting}
use Rattle.path_law.specs.Standing.{FlatLife}
use Rattle.lawful_law.specs.Covered.{IsCovered}

-- A thread of function f with this frame that stands at index `now`, at or behind a covering access, will find an allowed definition.
abbrev pub Knows : Module → List Entry → ℕ → ℕ → ℕ → Type 0
Knows m h f base now = (b at r : ℕ) (place : Place) → IsCovered m f b at r place → b < now → now ≤ at → is_allowed m r (last_write m.code h (place_word m.code f base place)) ≡ true

abbrev pub LifeKnows : Module → List Entry → FlatLife → Type 0
LifeKnows m h l = Knows m h l.top.fun l.top.stack.base l.top.at

-- who waits need not know
abbrev pub Keeps : Module → List Entry → FlatLife → Type 0
Keeps m h l = is_waiting l.stage ≡ false → LifeKnows m h l

-- what the entry of an instruction does to words, where that read was lawful
abbrev pub Does : Module → List Entry → ℕ → ℕ → Entry → Instr → Type 0
Does m h f base e (Instr.Get to place r) = ((w : ℕ) → write_to w e.op e.answer ≡ None) × (is_allowed m r (last_write m.code h (place_word m.code f base place)) ≡ true)
Does m h f base e (Instr.Set place a d) = (v : ℕ) × (e.op ≡ Op.Write (record { 0 = d }) (place_word m.code f base place) v) × (e.answer ≡ Answer.Unit) × (1 ≤ d)
Does m h f base e (Instr.Store a b d) = Unit {0}
Does m h f base e (Instr.Free a) = Unit {0}
Does m h f base e (Instr.Call to g def args) = Unit {0}
Does m h f base e (Instr.Fork join entries) = Unit {0}
Does m h f base e i = (w : ℕ) → write_to w e.op e.answer ≡ None
