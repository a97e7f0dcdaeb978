use Rattle.std.proofs.Common.{◌≤◌, drop, take, length}
use Rattle.std.specs.List.{All}
use Rattle.std.specs.Prelude.{List, ℕ, ◌≡◌, ◌++◌}
use Rattle.std.specs.String.{string_bytes}
use Rattle.dfi_base.specs.Limits.{file_limit}
use Rattle.text_law.specs.ModuleText.{funs_text}
use Rattle.text_law.specs.IsModule.{IsFun}
use Rattle.code_writer.proofs.functions.all_funs.Given as goal

abbrev pub invariant-loop-each : goal.invariant-loop-each
invariant-loop-each l =
    ((rest : List ℕ) → string_bytes l.text ++ funs_text (drop l.each-index l.funs) rest ≡ string_bytes l.fn.text ++ funs_text l.funs rest)
    × All IsFun (take l.each-index l.funs)
    × (l.each-index ≤ length (string_bytes l.text))
    × (l.each-index ≤ file_limit)
