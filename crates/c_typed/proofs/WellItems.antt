-- The items of a program in turn: what stands before each, and that each function is well-formed.
use Rattle.std.proofs.Common.{◌≡◌, ℕ, suc, ◌<◌, true, false, List, [], ◌∷◌, ◌++◌, map, length, Some, refl, ap, sym, ◌∙◌, subst}
use Rattle.std.specs.Prelude.{slice_get}
use Rattle.std.proofs.lemmas.List.{append-nil, append_assoc}
use Rattle.c_ast.specs.declared.decl.Base.{Base}
use Rattle.c_ast.specs.declared.decl.DeclItem.{DeclItem}
use Rattle.c_ast.specs.declared.program.StructDef.{StructDef}
use Rattle.c_ast.specs.declared.program.Function.{Function as SourceFunction}
use Rattle.c_ast.specs.declared.program.Proto.{Proto}
use Rattle.c_ast.specs.declared.program.Item.{Item}
use Rattle.c_typed.specs.declared.types.ObjectType.{ObjectType}
use Rattle.c_typed.specs.declared.program.Function.{Function}
use Rattle.c_typed.specs.Types.{place_of, declared_type, result_type}
use Rattle.c_typed.specs.Marks as marks
use Rattle.c_typed.specs.Marks.{Mark, global, function, opens, closes, prototype, tag, History, globals_in}
use Rattle.c_typed.specs.Whole.{Whole}
use Rattle.c_typed.specs.Parts.{Place, marked, behind, in_turn}
use Rattle.c_typed.specs.Decls.{fields, joined_lists}
use Rattle.c_typed.specs.Programs as programs
use Rattle.c_typed.specs.Programs.{struct, global_decl, function_text, proto, proto_parameters, item}
use Rattle.c_typed.specs.Typed.{Typed}
use Rattle.c_typed.specs.IsWell.{IsFunction}
use Rattle.c_typed.proofs.Balanced.{Balanced, marked_append, unchanged, globals_outside}
use Rattle.c_typed.proofs.BalancedStmts.{join, balanced_parameters, balanced_function_body}
use Rattle.c_typed.proofs.WellParts.{none_first, none_second, both_are, changed_is, some_is}
use Rattle.c_typed.proofs.WellFunctions.{AllOf, all_append}
use Rattle.c_typed.proofs.WellFunction.{IsTabled, IsOuter, quiet_result, typed_function, function_well}
use Rattle.c_typed.proofs.WellOuter.{all_fields, globals_fields, function_marks, balanced_proto_parameters, decl_globals, outer_struct, outer_function, outer_proto, outer_global}

-- the types of the globals of an item
abbrev pub item_objects : Whole → Item → List ObjectType
item_objects w (Item.Decl d) = map (λ i. declared_type w.tags d.base i.declarator) d.items
item_objects w _ = []

abbrev pub all_objects : Whole → List Item → List ObjectType
all_objects w [] = []
all_objects w (i ∷ is) = item_objects w i ++ all_objects w is

-- the tag of each struct is one of the text
abbrev pub HasTag : Whole → Item → Type 0
HasTag w (Item.Struct d) = place_of d.tag.name w.tags < length w.tags
HasTag w _ = Unit {0}

-- each item at its place
abbrev pub Each : (w : Whole) → (Place → Item → Type 0) → List Item → Place → Type 0
Each w P [] here = Unit {0}
Each w P (i ∷ is) here = P here i × Each w P is (behind (item w i) here)

pub each_clean : (w : Whole) (is : List Item) (here : Place) → ((in_turn (map (item w) is)).judge here).faults ≡ [] → Each w (λ here i. ((item w i).judge here).faults ≡ []) is here
each_clean w [] here e = tt
each_clean w (i ∷ is) here e =
    let rest = in_turn (map (item w) is) in
    (none_first ((item w i).judge here).faults (rest.judge (behind (item w i) here)).faults e, each_clean w is (behind (item w i) here) (none_second ((item w i).judge here).faults (rest.judge (behind (item w i) here)).faults e))

there_behind : (pre : List ObjectType) (o : ObjectType) (rest : List ObjectType) → slice_get (pre ++ (o ∷ rest)) (length pre) ≡ Some o
there_behind [] o rest = refl
there_behind (p ∷ pre) o rest = there_behind pre o rest

length_one_more : (pre : List ObjectType) (o : ObjectType) → length (pre ++ (o ∷ [])) ≡ suc (length pre)
length_one_more [] o = refl
length_one_more (p ∷ pre) o = ap suc (length_one_more pre o)

module _ (w : Whole) (t : Typed) where
  abbrev objects : List ObjectType
  objects = map (λ g. g.object) t.globals

  -- what is before the rest of the items: the globals so far, and those that come
  record Before (h : History) (rest : List ObjectType) : Type 0 where
    outer : IsOuter w t h
    so_far : List ObjectType
    all : objects ≡ so_far ++ rest
    count : length so_far ≡ globals_in h

  behind_global : (x : ℕ) (o : ObjectType) (h : History) (rest : List ObjectType) → Before h (o ∷ rest) → Before (global x o ∷ h) rest
  behind_global x o h rest is = record {
    outer = outer_global w t x o h (ap (slice_get objects) (sym is.count) ∙ ap (λ os. slice_get os (length is.so_far)) is.all ∙ there_behind is.so_far o rest) is.outer;
    so_far = is.so_far ++ (o ∷ []);
    all = is.all ∙ sym (append_assoc is.so_far (o ∷ []) rest);
    count = length_one_more is.so_far o ∙ ap suc is.count;
  }

  behind_globals : (b : Base) (is : List DeclItem) (h : History) (rest : List ObjectType) → Before h (map (λ i. declared_type w.tags b i.declarator) is ++ rest)
      → Before (marked (map (λ i. global i.declarator.name.name (declared_type w.tags b i.declarator)) is) h) rest
  behind_globals b [] h rest is = is
  behind_globals b (i ∷ is) h rest was =
      behind_globals b is (global i.declarator.name.name (declared_type w.tags b i.declarator) ∷ h) rest
      (behind_global i.declarator.name.name (declared_type w.tags b i.declarator) h (map (λ i. declared_type w.tags b i.declarator) is ++ rest) was)

  -- an item without globals
  behind_other : (ms : List Mark) (h : History) (rest : List ObjectType) → globals_in (marked ms h) ≡ globals_in h → IsOuter w t (marked ms h) → Before h rest → Before (marked ms h) rest
  behind_other ms h rest same outer is = record { outer = outer; so_far = is.so_far; all = is.all; count = is.count ∙ sym same }

  struct_globals : (d : StructDef) (h : History) → globals_in (marked (struct w d).marks h) ≡ globals_in h
  struct_globals d h =
      let fs = (in_turn (map (fields w) d.fields)).marks in
      ap globals_in (marked_append (opens marks.fields ∷ (fs ++ []) ++ (closes ∷ [])) (tag d.tag.name ∷ []) h ∙ ap (λ h. tag d.tag.name ∷ h) (marked_append (opens marks.fields ∷ (fs ++ [])) (closes ∷ []) h))
      ∙ ap (λ ms. globals_in (marked ms (opens marks.fields ∷ h))) (append-nil fs) ∙ globals_fields (opens marks.fields ∷ h) fs (all_fields w d.fields)

  function_globals : (f : SourceFunction) (h : History) → globals_in (marked (function_text w f (result_type w.tags f.result)).marks h) ≡ globals_in h
  function_globals f h =
      let ms = (programs.parameters w f.params).marks ++ [] ++ (programs.function_body w f.body).marks in
      let g = function f.name.name (result_type w.tags f.result) ∷ h in
      ap globals_in (ap (λ ms. marked ms h) (function_marks w f (result_type w.tags f.result)) ∙ marked_append ms (closes ∷ []) g)
      ∙ unchanged globals_in globals_outside g (join (join (balanced_parameters w f.params) Balanced.none) (balanced_function_body w f.body))

  proto_globals : (p : Proto) (h : History) → globals_in (marked (proto w p).marks h) ≡ globals_in h
  proto_globals p h =
      let ms = (proto_parameters w p.params).marks in
      let g = opens marks.block ∷ prototype p.name.name ∷ h in
      let eq : (proto w p).marks ≡ prototype p.name.name ∷ opens marks.block ∷ (ms ++ (closes ∷ [])) =
      ap (λ rs. rs ++ (prototype p.name.name ∷ []) ++ [] ++ (opens marks.block ∷ []) ++ ms ++ (closes ∷ []) ++ []) (quiet_result w p.result)
      ∙ append-nil (prototype p.name.name ∷ opens marks.block ∷ (ms ++ (closes ∷ []))) in
      ap globals_in (ap (λ ms. marked ms h) eq ∙ marked_append ms (closes ∷ []) g) ∙ unchanged globals_in globals_outside g (balanced_proto_parameters w p.params)

  behind_item : (i : Item) (h : History) (rest : List ObjectType) → HasTag w i → Before h (item_objects w i ++ rest) → Before (marked (item w i).marks h) rest
  behind_item (Item.Struct d) h rest there is = behind_other (struct w d).marks h rest (struct_globals d h) (outer_struct w t d h there is.outer) is
  behind_item (Item.Decl d) h rest there is = subst (λ ms. Before (marked ms h) rest) (sym (decl_globals w d)) (behind_globals d.base d.items h rest is)
  behind_item (Item.Function f) h rest there is =
      behind_other (function_text w f (result_type w.tags f.result)).marks h rest (function_globals f h) (outer_function w t f h is.outer) is
  behind_item (Item.Proto p) h rest there is = behind_other (proto w p).marks h rest (proto_globals p h) (outer_proto w t p h is.outer) is

  each_before : (is : List Item) (here : Place) → AllOf (HasTag w) is → Before here.before (all_objects w is) → Each w (λ here i. IsOuter w t here.before) is here
  each_before [] here tags is = tt
  each_before (i ∷ is) here tags was = (
    was.outer,
    each_before is (behind (item w i) here) tags.1
        (behind_item i here.before (all_objects w is) tags.0 was),
  )

  -- what stands before each item of a text
  pub each_outer : (is : List Item) → AllOf (HasTag w) is → objects ≡ all_objects w is → Each w (λ here i. IsOuter w t here.before) is (record { before = []; at = 0 })
  each_outer is tags same =
      each_before is (record { before = []; at = 0 }) tags
      (record { outer = record { scopes = λ c gs. (tt, tt); tags = λ x e. absurd (no_tag e) }; so_far = []; all = same; count = refl }) where
        no_tag : false ≡ true → ⊥
        no_tag e = Rattle.c_typed.proofs.WellMarks.false_true e

  -- The functions of a text.
  function_list : (tabled : IsTabled w t) (i : Item) (here : Place) (fs : List Function) → IsOuter w t here.before → ((item w i).judge here).faults ≡ [] → ((item w i).judge here).value ≡ Some fs → AllOf (IsFunction t) fs
  function_list tabled (Item.Struct d) here fs outer e has =
      let v = changed_is (λ _. []) ((struct w d).judge here).value fs has in subst (AllOf (IsFunction t)) v.whole tt
  function_list tabled (Item.Decl d) here fs outer e has =
      let v = changed_is (λ _. []) ((global_decl w d).judge here).value fs has in subst (AllOf (IsFunction t)) v.whole tt
  function_list tabled (Item.Proto p) here fs outer e has =
      let v = changed_is (λ _. []) ((proto w p).judge here).value fs has in subst (AllOf (IsFunction t)) v.whole tt
  function_list tabled (Item.Function f) here fs outer e has =
      let v = changed_is (λ ss. typed_function w t tabled f ss ∷ []) ((function_text w f (result_type w.tags f.result)).judge here).value fs has in
      subst (AllOf (IsFunction t)) v.whole (function_well w t tabled f here v.value outer e v.there, tt)

  pub functions_well : (tabled : IsTabled w t) (is : List Item) (here : Place) (fss : List (List Function)) → Each w (λ here i. IsOuter w t here.before) is here
      → Each w (λ here i. ((item w i).judge here).faults ≡ []) is here → ((in_turn (map (item w) is)).judge here).value ≡ Some fss → AllOf (IsFunction t) (joined_lists fss)
  functions_well tabled [] here fss outers clean has = subst (λ fss. AllOf (IsFunction t) (joined_lists fss)) (some_is has) tt
  functions_well tabled (i ∷ is) here fss outers clean has =
      let v = both_are (λ a rest. a ∷ rest) ((item w i).judge here).value ((in_turn (map (item w) is)).judge (behind (item w i) here)).value fss has in
      subst (λ fss. AllOf (IsFunction t) (joined_lists fss)) v.whole
      (all_append (IsFunction t) v.first (joined_lists v.second) (function_list tabled i here v.first outers.0 clean.0 v.left) (functions_well tabled is (behind (item w i) here) v.second outers.1 clean.1 v.right))
