use Rattle.std.proofs.Common.{◌≡◌, ◌++◌, take}
use Rattle.std.specs.List.{flat_map}
use Rattle.c_print.specs.TreeTokens as spec
use Rattle.c_print.proofs.tokens.Tokens.field_lines.Given as goal

abbrev pub invariant-loop-field : goal.invariant-loop-field
invariant-loop-field l = l.self ≡ l.fn.self ++ flat_map spec.of_field (take l.field-index l.fields)
