-- The words of all globals, and the number of functions, of a text that breaks no rule.
use Rattle.std.proofs.Common.{◌≡◌, ℕ, ◌+◌, ◌<◌, ◌≤◌, ◌&&◌, ◌||◌, not, List, [], ◌∷◌, ◌++◌, map, length, refl, ap, ◌∙◌, subst, arith}
use Rattle.std.specs.Prelude.{nat_lt}
use Rattle.std.proofs.lemmas.List.{append-nil}
use Rattle.std.proofs.lemmas.Bool.Decides.{nat_tests}
use Rattle.c_ast.specs.declared.decl.Base.{Base}
use Rattle.c_ast.specs.declared.decl.DeclItem.{DeclItem}
use Rattle.c_ast.specs.declared.program.StructDef.{StructDef}
use Rattle.c_ast.specs.declared.program.Function.{Function as SourceFunction}
use Rattle.c_ast.specs.declared.program.Proto.{Proto}
use Rattle.c_ast.specs.declared.program.Item.{Item}
use Rattle.c_typed.specs.declared.fault.BigWhat.{BigWhat}
use Rattle.c_typed.specs.declared.types.ObjectType.{ObjectType}
use Rattle.c_typed.specs.declared.program.Struct.{Struct}
use Rattle.c_typed.specs.Types.{result_type, declared_type}
use Rattle.c_typed.specs.Marks as marks
use Rattle.c_typed.specs.Marks.{Mark, tag, field, function, prototype, opens, closes, History, functions_in, global_words}
use Rattle.c_typed.specs.Whole.{Whole, signatures, is_main}
use Rattle.c_typed.specs.Faults as faults
use Rattle.c_typed.specs.Faults.{unless}
use Rattle.c_typed.specs.Parts.{Place, marked, behind, tokens, mark, in_turn, with_faults, ◌<⊗◌, ◌⊗>◌}
use Rattle.c_typed.specs.Decls.{fields}
use Rattle.c_typed.specs.Programs as programs
use Rattle.c_typed.specs.Programs.{struct, function_text, proto, proto_parameters, item, global_limit, function_limit, result_base}
use Rattle.c_typed.specs.IsWell.{words_in}
use Rattle.c_typed.proofs.Balanced.{Balanced, IsOutside, marked_append, unchanged, functions_outside, global_words_outside}
use Rattle.c_typed.proofs.BalancedStmts.{join, balanced_parameters, balanced_function_body}
use Rattle.c_typed.proofs.WellParts.{none_first, none_second}
use Rattle.c_typed.proofs.WellStmts.{unless_none}
use Rattle.c_typed.proofs.WellMarks.{IsShaped}
use Rattle.c_typed.proofs.WellFunction.{quiet_result}
use Rattle.c_typed.proofs.WellOuter.{FieldsOnly, all_fields, decl_globals, function_marks, balanced_proto_parameters}
use Rattle.c_typed.proofs.WellItems.{all_objects, item_objects}
use Rattle.c_typed.proofs.WellTexts.{AllTagged, AllClean, decl_known}

-- What fields and prototypes do not change.
pub record IsUnmoved {A : Type 0} (f : History → A) : Type 0 where
  pub outside : IsOutside f
  pub over_field : (x : ℕ) (t : ObjectType) (h : History) → f (field x t ∷ h) ≡ f h
  pub over_prototype : (x : ℕ) (h : History) → f (prototype x ∷ h) ≡ f h

functions_unmoved : IsUnmoved functions_in
functions_unmoved = record { outside = functions_outside; over_field = λ x t h. refl; over_prototype = λ x h. refl }

words_unmoved : (sizes : List ℕ) → IsUnmoved (global_words sizes)
words_unmoved sizes = record { outside = global_words_outside sizes; over_field = λ x t h. refl; over_prototype = λ x h. refl }

over_fields : {A : Type 0} (f : History → A) → IsUnmoved f → (h : History) (ms : List Mark) → FieldsOnly ms → f (marked ms h) ≡ f h
over_fields f is h [] only = refl
over_fields f is h (field x t ∷ ms) only = over_fields f is (field x t ∷ h) ms only ∙ is.over_field x t h
over_fields f is h (_ ∷ ms) only = absurd only

-- behind a struct: its tag, and before it what changes nothing
abbrev pub fields_closed : Whole → StructDef → History → History
fields_closed w d h = closes ∷ marked ((in_turn (map (fields w) d.fields)).marks ++ []) (opens marks.fields ∷ h)

pub struct_marked : (w : Whole) (d : StructDef) (h : History) → marked (struct w d).marks h ≡ tag d.tag.name ∷ fields_closed w d h
struct_marked w d h =
    let fs = (in_turn (map (fields w) d.fields)).marks in
    marked_append (opens marks.fields ∷ (fs ++ []) ++ (closes ∷ [])) (tag d.tag.name ∷ []) h ∙ ap (λ h. tag d.tag.name ∷ h) (marked_append (opens marks.fields ∷ (fs ++ [])) (closes ∷ []) h)

pub over_struct_fields : {A : Type 0} (w : Whole) (f : History → A) → IsUnmoved f → (d : StructDef) (h : History) → f (fields_closed w d h) ≡ f h
over_struct_fields w f is d h =
    let fs = (in_turn (map (fields w) d.fields)).marks in
    let g = opens marks.fields ∷ h in
    is.outside.over_closes (marked (fs ++ []) g) ∙ ap (λ ms. f (marked ms g)) (append-nil fs) ∙ over_fields f is g fs (all_fields w d.fields) ∙ is.outside.over_opens marks.fields h

over_struct : {A : Type 0} (w : Whole) (f : History → A) → IsUnmoved f → ((x : ℕ) (h : History) → f (tag x ∷ h) ≡ f h) → (d : StructDef) (h : History) → f (marked (struct w d).marks h) ≡ f h
over_struct w f is over_tag d h = ap f (struct_marked w d h) ∙ over_tag d.tag.name (fields_closed w d h) ∙ over_struct_fields w f is d h

pub over_proto : {A : Type 0} (w : Whole) (f : History → A) → IsUnmoved f → (p : Proto) (h : History) → f (marked (proto w p).marks h) ≡ f h
over_proto w f is p h =
    let ms = (proto_parameters w p.params).marks in
    let g = opens marks.block ∷ prototype p.name.name ∷ h in
    let eq : (proto w p).marks ≡ prototype p.name.name ∷ opens marks.block ∷ (ms ++ (closes ∷ [])) =
    ap (λ rs. rs ++ (prototype p.name.name ∷ []) ++ [] ++ (opens marks.block ∷ []) ++ ms ++ (closes ∷ []) ++ []) (quiet_result w p.result)
    ∙ append-nil (prototype p.name.name ∷ opens marks.block ∷ (ms ++ (closes ∷ []))) in
    ap f (ap (λ ms. marked ms h) eq ∙ marked_append ms (closes ∷ []) g) ∙ is.outside.over_closes (marked ms g) ∙ unchanged f is.outside g (balanced_proto_parameters w p.params)
    ∙ is.outside.over_opens marks.block (prototype p.name.name ∷ h) ∙ is.over_prototype p.name.name h

-- behind a function: what its own mark changes
pub over_function : {A : Type 0} (w : Whole) (f : History → A) → IsUnmoved f → (x : SourceFunction) (h : History)
    → f (marked (function_text w x (result_type w.tags x.result)).marks h) ≡ f (function x.name.name (result_type w.tags x.result) ∷ h)
over_function w f is x h =
    let ms = (programs.parameters w x.params).marks ++ [] ++ (programs.function_body w x.body).marks in
    let g = function x.name.name (result_type w.tags x.result) ∷ h in
    ap f (ap (λ ms. marked ms h) (function_marks w x (result_type w.tags x.result)) ∙ marked_append ms (closes ∷ []) g)
    ∙ is.outside.over_closes (marked ms g) ∙ unchanged f is.outside g (join (join (balanced_parameters w x.params) Balanced.none) (balanced_function_body w x.body))

words_append : (sizes : List ℕ) (xs ys : List ObjectType) → words_in sizes (xs ++ ys) ≡ words_in sizes xs + words_in sizes ys
words_append sizes [] ys = omega arith
words_append sizes (x ∷ xs) ys = let rest = words_append sizes xs ys in omega (arith, rest)

module _ (w : Whole) (structs : List Struct) (shaped : IsShaped w structs) where
  -- All globals together.
  pub globals_within : (is : List Item) (here : Place) → AllTagged w is here → AllClean w is here → global_words w.sizes here.before ≤ global_limit
      → global_words w.sizes here.before + words_in w.sizes (all_objects w is) ≤ global_limit
  globals_within [] here tagged clean le = omega (arith, le)
  globals_within (Item.Struct d ∷ is) here tagged clean le =
      let same = over_struct w (global_words w.sizes) (words_unmoved w.sizes) (λ x h. refl) d here.before in
      let rest = globals_within is (behind (item w (Item.Struct d)) here) tagged.1 clean.1 (omega (arith, same, le)) in
      omega (arith, same, rest)
  globals_within (Item.Decl d ∷ is) here tagged clean le =
      let own = decl_known w structs shaped d here tagged.0 clean.0 in
      let total = own.total in
      let rest = globals_within is (behind (item w (Item.Decl d)) here) tagged.1 clean.1 (own.limit le) in
      let both = words_append w.sizes (item_objects w (Item.Decl d)) (all_objects w is) in
      omega (arith, total, rest, both)
  globals_within (Item.Function f ∷ is) here tagged clean le =
      let same = over_function w (global_words w.sizes) (words_unmoved w.sizes) f here.before in
      let rest = globals_within is (behind (item w (Item.Function f)) here) tagged.1 clean.1 (omega (arith, same, le)) in
      omega (arith, same, rest)
  globals_within (Item.Proto p ∷ is) here tagged clean le =
      let same = over_proto w (global_words w.sizes) (words_unmoved w.sizes) p here.before in
      let rest = globals_within is (behind (item w (Item.Proto p)) here) tagged.1 clean.1 (omega (arith, same, le)) in
      omega (arith, same, rest)

  -- The number of functions.
  pub own_faults : (f : SourceFunction) (here : Place) → ((function_text w f (result_type w.tags f.result)).judge here).faults ≡ []
      → programs.function_faults w f f.name (result_type w.tags f.result) (behind (result_base w f.result) here) ≡ []
  own_faults f here e =
      let rb = result_base w f.result in
      let own = programs.function_faults w f f.name (result_type w.tags f.result) (behind rb here) in
      let named = with_faults (programs.function_faults w f f.name (result_type w.tags f.result)) (tokens 1 <⊗ mark (function f.name.name (result_type w.tags f.result))) in
      let ps = programs.parameters w f.params in
      let two = rb ⊗> named in
      let three = two ⊗> tokens 1 in
      let four = three ⊗> ps in
      let five = four ⊗> tokens 1 in
      let six = five ⊗> programs.function_body w f.body in
      none_first own [] (none_second (rb.judge here).faults (own ++ [])
      (none_first (two.judge here).faults [] (none_first (three.judge here).faults (ps.judge (behind three here)).faults
      (none_first (four.judge here).faults [] (none_first (five.judge here).faults ((programs.function_body w f.body).judge (behind five here)).faults (none_first (six.judge here).faults [] e))))))

  one_more : (f : SourceFunction) (here : Place) → ((function_text w f (result_type w.tags f.result)).judge here).faults ≡ [] → functions_in here.before < function_limit
  one_more f here e =
      let there = behind (result_base w f.result) here in
      let x = f.name in
      let result = result_type w.tags f.result in
      let one = unless (not (marks.has_global x.name there.before || marks.has_function x.name there.before || programs.is_builtin w x.name)) there.at faults.twice x.line in
      let two = unless (programs.has_scalar_result result && (not (is_main w x.name) || (programs.is_int f.result && programs.no_parameters f.params))) there.at faults.mismatch x.line in
      let three = unless (nat_lt (functions_in there.before) function_limit) there.at (faults.big BigWhat.Functions) x.line in
      let test = unless_none (nat_lt (functions_in there.before) function_limit) there.at (faults.big BigWhat.Functions) x.line (none_second (one ++ two) three (own_faults f here e)) in
      let less : functions_in there.before < function_limit = grind (arith, nat_tests, test) in
      subst (λ ms. functions_in (marked ms here.before) < function_limit) (quiet_result w f.result) less

  over_globals : (b : Base) (is : List DeclItem) (h : History) → functions_in (marked (map (λ i. marks.global i.declarator.name.name (declared_type w.tags b i.declarator)) is) h) ≡ functions_in h
  over_globals b [] h = refl
  over_globals b (i ∷ is) h = over_globals b is (marks.global i.declarator.name.name (declared_type w.tags b i.declarator) ∷ h)

  pub functions_within : (is : List Item) (here : Place) → AllClean w is here → functions_in here.before ≤ function_limit → functions_in here.before + length (signatures w.tags is) ≤ function_limit
  functions_within [] here clean le = omega (arith, le)
  functions_within (Item.Struct d ∷ is) here clean le =
      let same = over_struct w functions_in functions_unmoved (λ x h. refl) d here.before in
      let rest = functions_within is (behind (item w (Item.Struct d)) here) clean.1 (omega (arith, same, le)) in
      omega (arith, same, rest)
  functions_within (Item.Decl d ∷ is) here clean le =
      let same = ap (λ ms. functions_in (marked ms here.before)) (decl_globals w d) ∙ over_globals d.base d.items here.before in
      let rest = functions_within is (behind (item w (Item.Decl d)) here) clean.1 (omega (arith, same, le)) in
      omega (arith, same, rest)
  functions_within (Item.Function f ∷ is) here clean le =
      let same = over_function w functions_in functions_unmoved f here.before in
      let less = one_more f here clean.0 in
      let rest = functions_within is (behind (item w (Item.Function f)) here) clean.1 (omega (arith, same, less)) in
      omega (arith, same, rest)
  functions_within (Item.Proto p ∷ is) here clean le =
      let same = over_proto w functions_in functions_unmoved p here.before in
      let rest = functions_within is (behind (item w (Item.Proto p)) here) clean.1 (omega (arith, same, le)) in
      omega (arith, same, rest)
