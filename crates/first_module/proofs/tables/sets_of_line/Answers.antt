use Rattle.std.proofs.Common.{◌≡◌, ℕ, List, Some, length, refl, ap, subst, sym, ◌∙◌}
use Rattle.std.specs.Prelude.{slice_get}
use Rattle.std.specs.List.{AllByRecursion}
use Rattle.std.proofs.lemmas.Option.{slice_get_read}
use Rattle.tac_ir.specs.declared.code.Fun.{Fun}
use Rattle.tac_ir.specs.declared.code.Lined.{Lined}
use Rattle.first_module.specs.tools.Trail.{NamesWithin}
use Rattle.first_module.proofs.FormLemmas.{names-within}
use Rattle.first_module.proofs.tables.sets_of_line.Goals as goal

pub straight_sets-requires-clause-names : goal.straight_sets-requires-clause-names
straight_sets-requires-clause-names c =
    let code = c.args.code.now in
    let main = c.main-item.result in
    let found : slice_get code.funs 0 ≡ Some main
    = ap (λ (funs : List Fun). slice_get funs 0) (sym c.as_slice.ensures) ∙ slice_get_read c.as_slice.result.now (length c.as_slice.result.now) 0 main refl c.in-len1.len_at_least c.main-item.is in
    let P : ℕ → Type 0 = λ n. AllByRecursion (λ (l : Lined). NamesWithin n l.instr) c.as_slice-3.result.now in
    let Q : List Lined → Type 0 = λ lines. AllByRecursion (λ (l : Lined). NamesWithin (length code.globals) l.instr) lines in
    subst P (sym c.len.ensures) (subst Q (sym c.as_slice-3.ensures) (names-within code c.requires 0 main found))
