-- The structs, globals and results of a whole text that breaks no rule, item by item.
use Rattle.std.proofs.Common.{◌≡◌, List, [], ◌∷◌, ◌++◌, map, refl, ap, sym, ◌∙◌, subst}
use Rattle.std.proofs.lemmas.List.{append-nil}
use Rattle.c_ast.specs.declared.decl.Decl.{Decl}
use Rattle.c_ast.specs.declared.program.Item.{Item}
use Rattle.c_typed.specs.declared.program.Struct.{Struct}
use Rattle.c_typed.specs.declared.program.Global.{Global}
use Rattle.c_typed.specs.Types.{declared_type}
use Rattle.c_typed.specs.Whole.{Whole, signatures, struct_defs}
use Rattle.c_typed.specs.Parts.{Place, marked, behind, separated}
use Rattle.c_typed.specs.Tags.{base}
use Rattle.c_typed.specs.Decls as decls
use Rattle.c_typed.specs.Decls.{joined_lists}
use Rattle.c_typed.specs.Programs.{global_item, global_decl, started, globals_by, item}
use Rattle.c_typed.specs.IsWell.{IsGlobal}
use Rattle.c_typed.proofs.Quiet.{quiet_base}
use Rattle.c_typed.proofs.WellParts.{none_first, none_second}
use Rattle.c_typed.proofs.WellMarks.{IsShaped, Tagged, base_known}
use Rattle.c_typed.proofs.WellFunctions.{AllOf, all_append}
use Rattle.c_typed.proofs.WellItems.{Each, all_objects}
use Rattle.c_typed.proofs.WellStructs.{IsStructured, struct_known, HasResult, result_known}
use Rattle.c_typed.proofs.WellGlobals.{AreStarted, some_globals}

-- what stands before each item, and that each breaks no rule
abbrev pub AllTagged : Whole → List Item → Place → Type 0
AllTagged w is here = Each w (λ here i. Tagged w here.before) is here

abbrev pub AllClean : Whole → List Item → Place → Type 0
AllClean w is here = Each w (λ here i. ((item w i).judge here).faults ≡ []) is here

map_append : (xs ys : List Global) → map (λ g. g.object) (xs ++ ys) ≡ map (λ g. g.object) xs ++ map (λ g. g.object) ys
map_append [] ys = refl
map_append (x ∷ xs) ys = ap (λ os. x.object ∷ os) (map_append xs ys)

module _ (w : Whole) (structs : List Struct) (shaped : IsShaped w structs) where
  pub structs_known : (is : List Item) (here : Place) → AllTagged w is here → AllClean w is here → AllOf (IsStructured w structs shaped) (struct_defs is)
  structs_known [] here tagged clean = tt
  structs_known (Item.Struct d ∷ is) here tagged clean = (struct_known w structs shaped d here tagged.0 clean.0, structs_known is (behind (item w (Item.Struct d)) here) tagged.1 clean.1)
  structs_known (Item.Decl d ∷ is) here tagged clean = structs_known is (behind (item w (Item.Decl d)) here) tagged.1 clean.1
  structs_known (Item.Function f ∷ is) here tagged clean = structs_known is (behind (item w (Item.Function f)) here) tagged.1 clean.1
  structs_known (Item.Proto p ∷ is) here tagged clean = structs_known is (behind (item w (Item.Proto p)) here) tagged.1 clean.1

  pub results_known : (is : List Item) (here : Place) → AllTagged w is here → AllClean w is here → AllOf (HasResult w structs shaped) (signatures w.tags is)
  results_known [] here tagged clean = tt
  results_known (Item.Struct d ∷ is) here tagged clean = results_known is (behind (item w (Item.Struct d)) here) tagged.1 clean.1
  results_known (Item.Decl d ∷ is) here tagged clean = results_known is (behind (item w (Item.Decl d)) here) tagged.1 clean.1
  results_known (Item.Function f ∷ is) here tagged clean = (result_known w structs shaped f here tagged.0 clean.0, results_known is (behind (item w (Item.Function f)) here) tagged.1 clean.1)
  results_known (Item.Proto p ∷ is) here tagged clean = results_known is (behind (item w (Item.Proto p)) here) tagged.1 clean.1

  pub decl_known : (d : Decl) (here : Place) → Tagged w here.before → ((global_decl w d).judge here).faults ≡ [] → AreStarted w structs shaped d.base d.items here.before (global_decl w d).marks
  decl_known d here tagged e =
      let by_value = decls.by_value (map (λ i. i.declarator) d.items) in
      let bs = base w by_value d.base in
      let items = separated (map (global_item w d.base) d.items) in
      let there = behind bs here in
      let all = none_first ((bs.judge here).faults ++ (items.judge there).faults) [] e in
      let is = base_known w structs shaped by_value d.base here tagged (none_first (bs.judge here).faults (items.judge there).faults all) in
      let same : (global_decl w d).marks ≡ items.marks = ap (λ ms. ms ++ items.marks ++ []) (quiet_base w by_value d.base) ∙ append-nil items.marks in
      let known = some_globals w structs shaped d.base d.items there is (none_second (bs.judge here).faults (items.judge there).faults all) in
      subst (AreStarted w structs shaped d.base d.items here.before) (sym same)
      (subst (λ h. AreStarted w structs shaped d.base d.items h items.marks) (ap (λ ms. marked ms here.before) (quiet_base w by_value d.base)) known)

  -- the globals of a text
  pub globals_known : (is : List Item) (here : Place) → AllTagged w is here → AllClean w is here → AllOf (IsGlobal structs) (globals_by w.tags is)
  globals_known [] here tagged clean = tt
  globals_known (Item.Struct d ∷ is) here tagged clean = globals_known is (behind (item w (Item.Struct d)) here) tagged.1 clean.1
  globals_known (Item.Decl d ∷ is) here tagged clean =
      all_append (IsGlobal structs) (joined_lists (map (λ i. started w.tags d.base i i.declarator) d.items)) (globals_by w.tags is) (decl_known d here tagged.0 clean.0).known
      (globals_known is (behind (item w (Item.Decl d)) here) tagged.1 clean.1)
  globals_known (Item.Function f ∷ is) here tagged clean = globals_known is (behind (item w (Item.Function f)) here) tagged.1 clean.1
  globals_known (Item.Proto p ∷ is) here tagged clean = globals_known is (behind (item w (Item.Proto p)) here) tagged.1 clean.1

  -- their types are those that are declared
  pub objects_same : (is : List Item) (here : Place) → AllTagged w is here → AllClean w is here → map (λ g. g.object) (globals_by w.tags is) ≡ all_objects w is
  objects_same [] here tagged clean = refl
  objects_same (Item.Struct d ∷ is) here tagged clean = objects_same is (behind (item w (Item.Struct d)) here) tagged.1 clean.1
  objects_same (Item.Decl d ∷ is) here tagged clean =
      map_append (joined_lists (map (λ i. started w.tags d.base i i.declarator) d.items)) (globals_by w.tags is)
      ∙ ap (λ os. os ++ map (λ g. g.object) (globals_by w.tags is)) (decl_known d here tagged.0 clean.0).objects
      ∙ ap (λ os. map (λ i. declared_type w.tags d.base i.declarator) d.items ++ os) (objects_same is (behind (item w (Item.Decl d)) here) tagged.1 clean.1)
  objects_same (Item.Function f ∷ is) here tagged clean = objects_same is (behind (item w (Item.Function f)) here) tagged.1 clean.1
  objects_same (Item.Proto p ∷ is) here tagged clean = objects_same is (behind (item w (Item.Proto p)) here) tagged.1 clean.1
