use Rattle.std.proofs.Common.{◌≡◌, ℕ, suc, List, Ok, Err, Result, length, replicate, ap, arith, subst, sym, ◌∙◌}
use Rattle.std.specs.Prelude.{IfOk}
use Rattle.std.specs.List.{AllByRecursion}
use Rattle.tac_ir.specs.Numbers.{defs_in_code}
use Rattle.first_module.specs.declared.tables.Tables.{Tables}
use Rattle.first_module.specs.ClassesOf.{classes_of}
use Rattle.first_module.specs.tools.Readers.{Ascends}
use Rattle.first_module.specs.SetsOf.{sets_of}
use Rattle.first_module.proofs.FormLemmas.{every-classes, few-sets, line-sets, sets-ascend}
use Rattle.first_module.proofs.tables.make_tables.Goals as goal

if_ok-then : {A E : Type 0} (P Q : A → Type 0) → ((x : A) → P x → Q x) → (r : Result A E) → IfOk r P → IfOk r Q
if_ok-then P Q f (Ok x) h = f x h
if_ok-then P Q f (Err e) h = tt

pub returns-in_default-clause-classes : goal.returns-in_default-clause-classes
returns-in_default-clause-classes c =
    let code = c.args.code.now in
    let n = c.count_in_code-counts.result.definitions in
    let same = every-classes code n c.count_in_code-counts.ensures.definitions (sym c.in_default.is ∙ c.in_ok-sets.ensures) in
    if_ok-then (λ (t : Tables). t.classes ≡ replicate n 1) (λ (t : Tables). t.classes ≡ classes_of (sets_of code) (defs_in_code code)) (λ t h. h ∙ same)
    c.every_definition.result c.every_definition.ensures.classes

pub make_classes-requires-clause-few : goal.make_classes-requires-clause-few
make_classes-requires-clause-few c =
    let few = few-sets c.args.code.now c.requires c.in-Some.sets (sym c.in-Some.is ∙ c.in_ok-sets.ensures) in
    omega (arith, ap length c.as_slice.ensures)

pub make_classes-requires-clause-sets : goal.make_classes-requires-clause-sets
make_classes-requires-clause-sets c =
    let code = c.args.code.now in
    let P : ℕ → Type 0 = λ n. AllByRecursion (Ascends 1 (suc n)) c.as_slice.result.now in
    let Q : List (List ℕ) → Type 0 = λ sets. AllByRecursion (Ascends 1 (suc (defs_in_code code))) sets in
    let sets = line-sets code c.in-Some.sets (sym c.in-Some.is ∙ c.in_ok-sets.ensures) in
    subst P (sym c.count_in_code-counts.ensures.definitions) (subst Q (sym (c.as_slice.ensures ∙ sets)) (sets-ascend code c.requires))
