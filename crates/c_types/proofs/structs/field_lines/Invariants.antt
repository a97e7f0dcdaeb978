use Rattle.c_types.specs.tools.ProgramWalk.{field_line_walk}
use Rattle.c_types.proofs.EachLaws.{WentOn}
use Rattle.c_types.proofs.structs.field_lines.Given as goal

abbrev pub invariant-loop-field : goal.invariant-loop-field
invariant-loop-field l = WentOn (field_line_walk l.outline) l.fields l.initial.known l.known l.field-index
