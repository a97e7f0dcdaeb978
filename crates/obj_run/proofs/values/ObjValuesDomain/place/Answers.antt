use Rattle.std.proofs.Common.{arith, ap, sym, ◌∙◌, slice_index}
use Rattle.tac_ir.specs.declared.code.Place.{Place}
use Rattle.tac_ir.specs.Places.{end_of_path}
use Rattle.code_layout.proofs.Paths.{local_fits}
use Rattle.obj_run.proofs.FewSites.{site_exists}
use Rattle.obj_run.proofs.values.ObjValuesDomain.place.Goals as goal

pub overflow_add-site : goal.overflow_add-site
overflow_add-site c =
    let fits = local_fits c.args.c.now c.requires.form c.args.fun _ _ _ c.in-Local.is c.requires.place in
    omega (arith, c.first_variable.ensures.site, (site_exists c.args.c.now c.requires.form c.args.fun c.in-Local.var fits.exists).1)

pub part_at-requires-in-Local-clause-path : goal.part_at-requires-in-Local-clause-path
part_at-requires-in-Local-clause-path c =
    let fits = local_fits c.args.c.now c.requires.form c.args.fun _ _ _ (c.in-Local.is ∙ ap (λ p. Place.Local c.in-Local.var p) (sym c.as_slice-in-Local.ensures)) c.requires.place in
    (fits.leads.0, ap (λ s. end_of_path c.args.c.now s c.as_slice-in-Local.result.now) (c.shape_at-shape.ensures ∙ ap (λ xs. slice_index xs c.in-Local.var) c.vars_of.ensures) ∙ fits.leads.1)
