-- What is so of return links in the core runs of a module whose code has a good form, dirty runs included.
use Rattle.std.specs.Prelude.{◌≡◌, ℕ, false, Some, List, ◌∷◌, ◌++◌, ℤ, reverse}
use Rattle.dfi_base.specs.declared.numbers.Point.{Point}
use Rattle.tac_ir.specs.declared.code.Instr.{Instr}
use Rattle.tac_ir.specs.declared.run.Answer.{Answer}
use Rattle.tac_ir.specs.declared.run.Op.{Op}
use Rattle.tac_ir.specs.declared.run.Entry.{Entry}
use Rattle.tac_ir.specs.declared.run.Journal.{Journal}
use Rattle.tac_ir.specs.Module.{Module}
use Rattle.tac_ir.specs.Layout.{instr_at}
use Rattle.tac_ir.specs.GoodForm.{GoodForm}
use Rattle.tac_ir.specs.Path.{stops}
use Rattle.tac_ir.specs.CoreRun.{CoreRun}
use Rattle.link_law.specs.Made.{MadeBy, ReturnsHome}
use Rattle.link_law.specs.Linked.{ReadsCalls, HasLinkTables, Linked}

-- each link read that goes on is answered the definition of the call that made its frame
abbrev pub LinksNameTheirCalls : Type 0
LinksNameTheirCalls = (m : Module) → GoodForm m.code → ReadsCalls m → (input : List ℤ) (budget : ℕ) (j : Journal) → CoreRun m input budget j
    → (later h : List Entry) (e : Entry) (v r w : ℕ) → reverse j.entries ≡ later ++ e ∷ h → instr_at m.code e.point ≡ Instr.Ret v (Some r) → e.op ≡ Op.Read (record { 0 = r }) w
    → stops e.answer ≡ false → (d : ℕ) × MadeBy m h e d × (e.answer ≡ Answer.Value d)

-- each return goes on behind that call
abbrev pub ReturnsGoHome : Type 0
ReturnsGoHome = (m : Module) → GoodForm m.code → ReadsCalls m → (input : List ℤ) (budget : ℕ) (j : Journal) → CoreRun m input budget j
    → (later h : List Entry) (e : Entry) → reverse j.entries ≡ later ++ e ∷ h → e.op ≡ Op.Ret → ReturnsHome m h e

-- a module whose sets of link reads are what closed facts give is linked
abbrev pub LinkedLaw : (Point → ℕ → ℕ → Type 0) → Type 0
LinkedLaw R = (m : Module) → GoodForm m.code → HasLinkTables m R → Linked m
