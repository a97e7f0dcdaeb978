use Rattle.std.proofs.Common.{ap, ◌∙◌, sym, map, slice_index}
use Rattle.code_layout.specs.tools.Offsets.{fields_by, frame_by}
use Rattle.code_layout.proofs.Tables.{laid}
use Rattle.code_layout.proofs.layout.Layout.of.Goals as goal

pub returns : goal.returns
returns c =
    laid c.args.code.now c.requires c.from_vec.result c.from_vec-2.result c.in_ok-fields.fields c.in_ok-frames.frames
    (λ s. ap (λ xs. slice_index xs s) c.from_vec.ensures ∙ (c.in_ok-shapes.ensures).sizes s)
    (λ g within. ap (λ xs. slice_index xs g) c.from_vec-2.ensures ∙ (c.in_ok-globals.ensures).starts g within)
    (c.in_ok-fields.ensures ∙ ap (λ xs. map (fields_by (slice_index xs)) c.args.code.now.shapes) (c.as_slice.ensures.value ∙ sym c.from_vec.ensures))
    (c.in_ok-frames.ensures ∙ ap (λ xs. map (frame_by (slice_index xs)) c.args.code.now.funs) (c.as_slice-2.ensures.value ∙ sym c.from_vec.ensures))
