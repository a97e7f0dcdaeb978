use Rattle.std.proofs.Common.{arith, ap, length}
use Rattle.tac_ir.specs.Counts.{vars_in_funs}
use Rattle.obj_run.proofs.FewSites.{few_sites}
use Rattle.obj_run.proofs.sites.first_heap_site.Goals as goal

pub site_behind-requires : goal.site_behind-requires
site_behind-requires c = omega (arith, few_sites c.args.c.now c.requires, ap (λ xs. length (vars_in_funs xs)) c.as_slice.ensures)

pub returns-clause-few : goal.returns-clause-few
returns-clause-few c = omega (arith, c.site_behind.ensures, few_sites c.args.c.now c.requires, ap (λ xs. length (vars_in_funs xs)) c.as_slice.ensures)
