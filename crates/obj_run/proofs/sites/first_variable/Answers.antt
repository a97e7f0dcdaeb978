use Rattle.std.proofs.Common.{arith, ap, length, take}
use Rattle.tac_ir.specs.Counts.{vars_in_funs}
use Rattle.obj_run.proofs.FewSites.{few_sites, vars_most}
use Rattle.obj_run.proofs.sites.first_variable.Goals as goal

pub site_behind-requires : goal.site_behind-requires
site_behind-requires c =
    omega (arith, few_sites c.args.c.now c.requires.form, vars_most c.args.c.now.funs c.args.fun, ap (λ xs. length (vars_in_funs (take c.args.fun xs))) c.as_slice.ensures)

pub returns-clause-few : goal.returns-clause-few
returns-clause-few c =
    omega (arith, c.site_behind.ensures, few_sites c.args.c.now c.requires.form, vars_most c.args.c.now.funs c.args.fun, ap (λ xs. length (vars_in_funs (take c.args.fun xs))) c.as_slice.ensures)
