-- What a program declares is no more than the leaves of its tree.
use Rattle.std.proofs.Common.{◌≡◌, ℕ, suc, ◌+◌, ◌≤◌, List, [], ◌∷◌, ◌++◌, map, length, Some, refl, ap, sym, ◌∙◌, subst, arith}
use Rattle.std.proofs.lemmas.List.{length-append}
use Rattle.c_ast.specs.declared.decl.Base.{Base}
use Rattle.c_ast.specs.declared.decl.Declarator.{Declarator}
use Rattle.c_ast.specs.declared.decl.DeclItem.{DeclItem}
use Rattle.c_ast.specs.declared.decl.Param.{Param}
use Rattle.c_ast.specs.declared.decl.Params.{Params}
use Rattle.c_ast.specs.declared.program.Field.{Field}
use Rattle.c_ast.specs.declared.program.StructDef.{StructDef}
use Rattle.c_ast.specs.declared.program.Function.{Function as SourceFunction}
use Rattle.c_ast.specs.declared.program.Item.{Item}
use Rattle.c_ast.specs.Leaves as leaves
use Rattle.c_ast.specs.Leaves.{of_all, of_base, of_brackets, of_ident, of_declarator, of_decl_item, of_field, of_param, of_params, of_result, of_proto_params, of_block, of_item, leaves_of}
use Rattle.c_typed.specs.declared.types.ObjectType.{ObjectType}
use Rattle.c_typed.specs.declared.stmt.Stmt.{Stmt}
use Rattle.c_typed.specs.declared.program.Struct.{Struct}
use Rattle.c_typed.specs.declared.program.Function.{Function}
use Rattle.c_typed.specs.Types.{declared_type, result_type}
use Rattle.c_typed.specs.Marks.{Mark, local}
use Rattle.c_typed.specs.Whole.{Whole, members, struct_defs, parameter_type, parameter_types}
use Rattle.c_typed.specs.Parts.{Place, behind, in_turn}
use Rattle.c_typed.specs.Decls.{joined_lists}
use Rattle.c_typed.specs.Programs as programs
use Rattle.c_typed.specs.Programs.{struct, global_decl, function_text, proto, item, struct_by, variables_in}
use Rattle.c_typed.specs.IsWell.{declared_in, declared_structs, declared_functions, objects_of}
use Rattle.c_typed.proofs.WellParts.{some_is, both_are, changed_is}
use Rattle.c_typed.proofs.WellFunctions.{locals_of}
use Rattle.c_typed.proofs.WellStructs.{line_objects, members_objects}
use Rattle.c_typed.proofs.WellItems.{all_objects}
use Rattle.c_typed.proofs.WellTables.{function_objects}
use Rattle.c_typed.proofs.DeclaredStmts.{count, declarator_leaves, few_function_body}

declared_append : (xs ys : List ObjectType) → declared_in (xs ++ ys) ≡ declared_in xs + declared_in ys
declared_append [] ys = omega arith
declared_append (x ∷ xs) ys = let rest = declared_append xs ys in omega (arith, rest)

functions_append : (xs ys : List Function) → declared_functions (xs ++ ys) ≡ declared_functions xs + declared_functions ys
functions_append [] ys = omega arith
functions_append (x ∷ xs) ys = let rest = functions_append xs ys in omega (arith, rest)

count_is : (ms : List Mark) → declared_in (locals_of ms) ≡ count ms
count_is [] = refl
count_is (local x t ∷ ms) = ap (λ n. suc (length t.lengths + n)) (count_is ms)
count_is (_ ∷ ms) = count_is ms

-- Fields.
line_few : (tags : List ℕ) (b : Base) (ds : List Declarator) → declared_in (map (declared_type tags b) ds) ≤ length (of_all of_declarator ds)
line_few tags b [] = omega arith
line_few tags b (d ∷ ds) =
    let own = declarator_leaves tags b d in
    let rest = line_few tags b ds in
    let sum = length-append (of_declarator d) (of_all of_declarator ds) in
    omega (arith, own, rest, sum)

lines_few : (tags : List ℕ) (fs : List Field) → declared_in (line_objects tags fs) ≤ length (of_all of_field fs)
lines_few tags [] = omega arith
lines_few tags (f ∷ fs) =
    let types = declared_append (map (declared_type tags f.base) f.items) (line_objects tags fs) in
    let own = line_few tags f.base f.items in
    let rest = lines_few tags fs in
    let sum = length-append (of_field f) (of_all of_field fs) in
    let line = length-append (of_base f.base) (of_all of_declarator f.items) in
    omega (arith, types, own, rest, sum, line)

members_few : (tags : List ℕ) (fs : List Field) → declared_in (map (λ m. m.object) (members tags fs)) ≤ length (of_all of_field fs)
members_few tags fs = subst (λ ts. declared_in ts ≤ length (of_all of_field fs)) (sym (members_objects tags fs)) (lines_few tags fs)

-- Globals.
items_few : (tags : List ℕ) (b : Base) (is : List DeclItem) → declared_in (map (λ i. declared_type tags b i.declarator) is) ≤ length (of_all of_decl_item is)
items_few tags b [] = omega arith
items_few tags b (i ∷ is) =
    let own = declarator_leaves tags b i.declarator in
    let rest = items_few tags b is in
    let sum = length-append (of_decl_item i) (of_all of_decl_item is) in
    let item = length-append (of_declarator i.declarator) (leaves.of_option leaves.of_expr i.value) in
    omega (arith, own, rest, sum, item)

-- Functions.
parameters_few : (tags : List ℕ) (ps : List Param) → declared_in (map (parameter_type tags) ps) ≤ length (of_all of_param ps)
parameters_few tags [] = omega arith
parameters_few tags (p ∷ ps) =
    let rest = parameters_few tags ps in
    let sum = length-append (of_param p) (of_all of_param ps) in
    let own = length-append (of_base p.base ++ of_ident p.name) (of_brackets p.brackets) in
    let name = length-append (of_base p.base) (of_ident p.name) in
    omega (arith, rest, sum, own, name)

params_few : (tags : List ℕ) (ps : Params) → declared_in (parameter_types tags ps) ≤ length (of_params ps)
params_few tags Params.Empty = omega arith
params_few tags (Params.Void line) = omega arith
params_few tags (Params.List ps) = parameters_few tags ps

function_few : (w : Whole) (f : SourceFunction) → declared_in (objects_of (variables_in (function_text w f (result_type w.tags f.result)).marks)) ≤ length (of_item (Item.Function f))
function_few w f =
    let body = (programs.function_body w f.body).marks in
    let same = ap declared_in (function_objects w f (result_type w.tags f.result)) ∙ declared_append (parameter_types w.tags f.params) (locals_of body) in
    let counted = count_is body in
    let own = (few_function_body w f.body).few in
    let ps = params_few w.tags f.params in
    let head = of_result f.result ++ of_ident f.name in
    let first = length-append head (of_params f.params) in
    let all = length-append (head ++ of_params f.params) (of_block f.body) in
    omega (arith, same, counted, own, ps, first, all)

abbrev made : (w : Whole) → SourceFunction → List Stmt → List Function
made w f ss = record {
  line = f.name.line;
  result = result_type w.tags f.result;
  parameters = length (parameter_types w.tags f.params);
  variables = variables_in (function_text w f (result_type w.tags f.result)).marks;
  body = ss;
  close = f.body.close;
} ∷ []

abbrev own_leaves : Item → ℕ
own_leaves (Item.Function f) = length (of_item (Item.Function f))
own_leaves _ = 0

nothing_few : (fs : List Function) → [] ≡ fs → declared_functions fs ≤ 0
nothing_few fs e = subst (λ fs. declared_functions fs ≤ 0) e (omega arith)

functions_few : (w : Whole) (i : Item) (here : Place) (fs : List Function) → ((item w i).judge here).value ≡ Some fs → declared_functions fs ≤ own_leaves i
functions_few w (Item.Struct d) here fs has = nothing_few fs (changed_is (λ _. []) ((struct w d).judge here).value fs has).whole
functions_few w (Item.Decl d) here fs has = nothing_few fs (changed_is (λ _. []) ((global_decl w d).judge here).value fs has).whole
functions_few w (Item.Proto p) here fs has = nothing_few fs (changed_is (λ _. []) ((proto w p).judge here).value fs has).whole
functions_few w (Item.Function f) here fs has =
    let v = changed_is (made w f) ((function_text w f (result_type w.tags f.result)).judge here).value fs has in
    let few = function_few w f in
    subst (λ fs. declared_functions fs ≤ length (of_item (Item.Function f))) v.whole (omega (arith, few))

-- The whole text.
abbrev structs_from : Whole → List ℕ → List Item → List Struct
structs_from w sizes is = struct_by sizes (map (λ (d : StructDef). members w.tags d.fields) (struct_defs is))

abbrev AreFew : Whole → List ℕ → List Item → List (List Function) → Type 0
AreFew w sizes is fss = declared_structs (structs_from w sizes is) + declared_in (all_objects w is) + declared_functions (joined_lists fss) ≤ length (leaves_of is)

one_more : (w : Whole) (sizes : List ℕ) (i : Item) (is : List Item) (fs : List Function) (fss : List (List Function)) → declared_functions fs ≤ own_leaves i
    → ((sizes : List ℕ) → AreFew w sizes is fss) → AreFew w sizes (i ∷ is) (fs ∷ fss)
one_more w [] (Item.Struct d) is fs fss few rest =
    let own = rest [] in
    let both = functions_append fs (joined_lists fss) in
    let sum = length-append (of_item (Item.Struct d)) (leaves_of is) in
    omega (arith, own, both, few, sum)
one_more w (n ∷ sizes) (Item.Struct d) is fs fss few rest =
    let own = rest sizes in
    let both = functions_append fs (joined_lists fss) in
    let fields = members_few w.tags d.fields in
    let sum = length-append (of_item (Item.Struct d)) (leaves_of is) in
    omega (arith, own, both, few, fields, sum)
one_more w sizes (Item.Decl d) is fs fss few rest =
    let own = rest sizes in
    let both = functions_append fs (joined_lists fss) in
    let objects = declared_append (map (λ i. declared_type w.tags d.base i.declarator) d.items) (all_objects w is) in
    let items = items_few w.tags d.base d.items in
    let decl = length-append (of_base d.base) (of_all of_decl_item d.items) in
    let sum = length-append (of_item (Item.Decl d)) (leaves_of is) in
    omega (arith, own, both, few, objects, items, decl, sum)
one_more w sizes (Item.Function f) is fs fss few rest =
    let own = rest sizes in
    let both = functions_append fs (joined_lists fss) in
    let sum = length-append (of_item (Item.Function f)) (leaves_of is) in
    omega (arith, own, both, few, sum)
one_more w sizes (Item.Proto p) is fs fss few rest =
    let own = rest sizes in
    let both = functions_append fs (joined_lists fss) in
    let sum = length-append (of_item (Item.Proto p)) (leaves_of is) in
    omega (arith, own, both, few, sum)

nothing_by : (sizes : List ℕ) → declared_structs (struct_by sizes []) ≡ 0
nothing_by [] = refl
nothing_by (n ∷ sizes) = refl

pub items_declare : (w : Whole) (is : List Item) (sizes : List ℕ) (here : Place) (fss : List (List Function)) → ((in_turn (map (item w) is)).judge here).value ≡ Some fss → AreFew w sizes is fss
items_declare w [] sizes here fss has =
    let none = nothing_by sizes in
    subst (AreFew w sizes []) (some_is has) (omega (arith, none))
items_declare w (i ∷ is) sizes here fss has =
    let v = both_are (λ a rest. a ∷ rest) ((item w i).judge here).value ((in_turn (map (item w) is)).judge (behind (item w i) here)).value fss has in
    subst (AreFew w sizes (i ∷ is)) v.whole
    (one_more w sizes i is v.first v.second (functions_few w i here v.first v.left) (λ sizes. items_declare w is sizes (behind (item w i) here) v.second v.right))
