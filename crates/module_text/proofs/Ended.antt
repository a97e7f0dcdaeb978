-- A whole text is written behind no other.
use Rattle.std.proofs.Common.{◌≡◌, ℕ, ◌<◌, List, [], ◌++◌, length, sym, ap, subst, ◌∙◌}
use Rattle.std.proofs.lemmas.List.{append-nil}
use Rattle.dfi_base.specs.Limits.{file_limit}
use Rattle.tac_ir.specs.Module.{Module}
use Rattle.line_writer.specs.Writes.{Writes, Passes}
use Rattle.text_law.specs.ModuleText.{text_then, module_text}

pub whole_written : (m : Module) (first new : List ℕ) → first ≡ [] → Writes (text_then m) first new → new ≡ module_text m
whole_written m first new e w = sym (append-nil new) ∙ (w [] ∙ ap (λ z. z ++ text_then m []) e)

pub whole_passes : (m : Module) (first : List ℕ) → first ≡ [] → Passes (text_then m) first → file_limit < length (module_text m)
whole_passes m first e passes = subst (λ z. file_limit < length (z ++ text_then m [])) e (passes [])
