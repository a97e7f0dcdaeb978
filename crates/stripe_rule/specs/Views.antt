-- What a pass knows, before and after each step.
use Rattle.std.specs.Prelude.{ℕ, ◌+◌, ◌-◌, ◌||◌, max, true, false, [], ◌∷◌}
use Rattle.tac_ir.specs.declared.run.Op.{Op}
use Rattle.tac_ir.specs.declared.run.Answer.{Answer}
use Rattle.tac_ir.specs.declared.run.Entry.{Entry}
use Rattle.tac_ir.specs.declared.module.Size.{Size}
use Rattle.stripe_rule.specs.declared.plan.Terms.{Terms}
use Rattle.stripe_rule.specs.declared.content.Content.{Content}
use Rattle.stripe_rule.specs.declared.view.View.{View}
use Rattle.stripe_rule.specs.declared.view.Notes.{Notes}
use Rattle.stripe_rule.specs.Kids.{ALL, share_of, remove}
use Rattle.stripe_rule.specs.tools.Logs.{merge, past}

-- no content
abbrev pub nothing : Content
nothing = Content.Words (record { stripe = 0; stripes = 1; values = []; classes = [] })

abbrev pub no_notes : Notes
no_notes = record { failed = 0; busy_at = 0; busy_by = 0; asked = 0; looked = 0; last_spent = 0 }

-- the pass of thread 1, at the start
abbrev pub root : Terms → View
root p = record { plan = p; name = 1; parts = ALL; ready = 0; holds = false; stripe = 0; content = nothing; log = []; floor = 0; kids = []; halted = false; spent = false; notes = no_notes }

-- lock k was taken, under which y lay
abbrev pub holding : View → ℕ → Content → View
holding v k y = record v { holds = true; stripe = k; content = y }

-- lock k was not taken: its word was r
abbrev pub failing : View → ℕ → ℕ → View
failing v k r = record v { notes = record v.notes { failed = v.notes.failed + 1; busy_at = k; busy_by = r } }

-- the lock was freed
abbrev pub freed : View → View
freed v = record v { holds = false; stripe = 0; content = nothing }

-- the clock was loaded
abbrev pub looked : View → View
looked v = record v { notes = record v.notes { looked = v.notes.looked + 1 } }

-- and it was below the budget
abbrev pub with_ready : View → View
with_ready v = record v { ready = 1 }

-- this ticket was too late
abbrev pub as_spent : View → ℕ → View
as_spent v t = record v { ready = 0; spent = true; notes = record v.notes { last_spent = t } }

-- a ticket was drawn for an entry, and what is held became y
abbrev pub drawn : View → ℕ → Entry → Content → View
drawn v t e y = record v { ready = 0; content = y; log = (record { ticket = t; entry = e }) ∷ v.log }

-- the halt word was loaded, and was 0
abbrev pub as_asked : View → View
as_asked v = record v { notes = record v.notes { asked = v.notes.asked + 1 } }

-- or was not
abbrev pub as_halted : View → View
as_halted v = record v { halted = true; notes = record v.notes { asked = v.notes.asked + 1 } }

-- the halt word was set
abbrev pub halting : View → View
halting v = record v { halted = true }

-- a pass that made one for a branch of this name, and the branch's
abbrev pub parent : ℕ → View → View
parent name v = record v { parts = v.parts - share_of v.name; ready = 0; kids = name ∷ v.kids }

abbrev pub child : ℕ → View → View
child name v = record { plan = v.plan; name = name; parts = share_of v.name; ready = 0; holds = false; stripe = 0; content = nothing; log = []; floor = max v.floor (past v.log); kids = []; halted = false; spent = false; notes = no_notes }

-- a pass that took in a branch's
abbrev pub joined : View → View → View
joined v w = record v { parts = v.parts + w.parts; ready = 0; log = merge v.log w.log; kids = remove w.name v.kids; halted = v.halted || w.halted; spent = v.spent || w.spent }

-- nobody's plan, view and entry
abbrev pub no_terms : Terms
no_terms = record { md = record { size = Size.Small; code = record { shapes = []; globals = []; sites = []; main = 0; funs = [] }; classes = []; sets = []; removed = []; points = []; reach = [] }; input = []; stripes = 0; budget = 0 }

abbrev pub nobody : View
nobody = record { plan = no_terms; name = 0; parts = 0; ready = 0; holds = false; stripe = 0; content = nothing; log = []; floor = 0; kids = []; halted = false; spent = false; notes = no_notes }

abbrev pub no_entry : Entry
no_entry = record { name = record { 0 = 0 }; point = record { fun = 0; at = 0 }; op = Op.Ret; answer = Answer.Unit }
