-- What is known at an item of a program is what stands before it.
use Rattle.std.proofs.Common.{◌≡◌, ℕ, length, is_some, Ok}
use Rattle.c_types.specs.declared.known.Known.{Known}
use Rattle.c_typed.specs.Marks.{History, has_global, has_function, has_prototype, functions_in, globals_in, global_words}
use Rattle.c_typed.specs.Whole.{Whole}
use Rattle.c_typed.specs.Parts.{Place, Part, marked}
use Rattle.c_types.specs.tools.Tables.{looked}
use Rattle.c_types.specs.tools.Outlines.{capped}
use Rattle.c_types.specs.tools.Steps.{Found}
use Rattle.c_types.proofs.Tells.{Tells}
use Rattle.c_types.proofs.Standing.{Stands, IsFramed}
use Rattle.c_types.proofs.Walking.{result_of}

-- with the frame of the last function
pub record Outer (w : Whole) (h : History) (k : Known) : Type 0 where
  pub stands : Stands h k
  pub framed : IsFramed w h k.frame
  pub global_names : (x : ℕ) → is_some (looked k.declared.global_names x) ≡ has_global x h
  pub function_names : (x : ℕ) → is_some (looked k.declared.function_names x) ≡ has_function x h
  pub prototype_names : (x : ℕ) → is_some (looked k.declared.prototype_names x) ≡ has_prototype x h
  pub functions : k.declared.functions ≡ functions_in h
  pub globals : length k.declared.globals ≡ globals_in h
  pub global_words : k.declared.global_words ≡ capped (global_words w.sizes h)

-- what an item finds, and what is known behind it
pub record Passes (w : Whole) {A : Type 0} (p : Part A) (here : Place) (r : Found (A × Known)) : Type 0 where
  pub tells : Tells (p.judge here) (result_of r)
  pub stands : (s : A × Known) → r ≡ Ok s → Outer w (marked p.marks here.before) s.1
