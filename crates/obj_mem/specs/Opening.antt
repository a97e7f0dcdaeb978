-- What every run begins with: each word of each global is written, in order, and then the numbers of the input are given. No thread does this.
use Rattle.std.specs.Prelude.{ℕ, suc, ℤ, pos, List, [], ◌∷◌, ◌++◌, map, reverse, length}
use Rattle.obj_mem.specs.declared.value.Obj.{Obj}
use Rattle.obj_mem.specs.declared.value.Value.{Value}
use Rattle.obj_mem.specs.declared.event.Event.{Event}
use Rattle.obj_mem.specs.declared.event.SrcAnswer.{SrcAnswer}
use Rattle.obj_mem.specs.declared.event.Stamp.{Stamp}
use Rattle.obj_mem.specs.Objects.{of_program}

abbrev pub opened : Event → Stamp
opened e = record { name = record { 0 = 0 }; event = e; answer = SrcAnswer.Unit }

-- these values are written to an object's words, from this one on
abbrev pub words_opened : Obj → ℕ → List Value → List Stamp
words_opened o at [] = []
words_opened o at (v ∷ vs) = opened (Event.Wr (Value.Ptr o (pos at) (pos 0) (pos o.len)) v) ∷ words_opened o (suc at) vs

abbrev pub global_of : ℕ → ℕ → Obj
global_of site words = record { site = site; maker = of_program; len = words }

-- the globals from this site on, each by the values of its words
abbrev pub globals_opened : ℕ → List (List Value) → List Stamp
globals_opened site [] = []
globals_opened site (vs ∷ globals) = words_opened (global_of site (length vs)) 0 vs ++ globals_opened (suc site) globals

-- the newest first
abbrev pub opening_of : List (List Value) → List ℤ → List Stamp
opening_of globals input = reverse (globals_opened 0 globals ++ map (λ v. opened (Event.Given v)) input)
