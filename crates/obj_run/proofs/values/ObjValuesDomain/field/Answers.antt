use Rattle.std.proofs.Common.{arith, ap, ◌∙◌, slice_index}
use Rattle.std.proofs.lemmas.Option.{slice_get-get_or}
use Rattle.tac_ir.specs.Layout.{parts_of, shape_words}
use Rattle.tac_ir.proofs.ShapeWords.{struct_words, words_before-with}
use Rattle.obj_run.proofs.values.ObjValuesDomain.field.Goals as goal

pub part-requires : goal.part-requires
part-requires c =
    let code = c.args.c.now in
    let parts = parts_of code c.args.shape in
    let found = slice_get-get_or parts c.args.k 0 c.requires.part in
    let part = ap (shape_words code) (c.shape_at.ensures ∙ ap (λ xs. slice_index xs c.args.k) c.parts_of.ensures) in
    omega (
      arith,
      c.field_offset.ensures code c.requires.laid c.requires.part,
      c.shape_words-words.ensures code c.requires.laid,
      c.shape_words.ensures code c.requires.laid,
      words_before-with code parts c.args.k _ found,
      struct_words code c.requires.form c.args.shape c.args.k _ found,
      part,
    )
