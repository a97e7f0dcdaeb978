-- The tables of a typed program are those of the whole text: its structs and what is called.
use Rattle.std.proofs.Common.{◌≡◌, ℕ, zero, suc, ◌+◌, ◌<◌, List, [], ◌∷◌, ◌++◌, map, take, length, get_or, Option, Some, refl, ap, sym, ◌∙◌, arith}
use Rattle.std.specs.Prelude.{slice_get, option_map}
use Rattle.std.proofs.lemmas.Option.{slice_get-map}
use Rattle.std.proofs.lemmas.List.{append-nil}
use Rattle.c_ast.specs.declared.program.Function.{Function as SourceFunction}
use Rattle.c_ast.specs.declared.program.Item.{Item}
use Rattle.c_ast.specs.declared.program.StructDef.{StructDef}
use Rattle.c_typed.specs.declared.types.ObjectType.{ObjectType}
use Rattle.c_typed.specs.declared.stmt.Stmt.{Stmt}
use Rattle.c_typed.specs.declared.program.Struct.{Struct}
use Rattle.c_typed.specs.declared.program.Function.{Function}
use Rattle.c_typed.specs.Types.{result_type}
use Rattle.c_typed.specs.Marks.{closes}
use Rattle.c_typed.specs.Whole.{Whole, Member, Signature, signature, signatures, parameter_types, members_words, sizes_of, whole_of, struct_defs, members}
use Rattle.c_typed.specs.Parts.{Place, behind, in_turn}
use Rattle.c_typed.specs.Decls.{joined_lists}
use Rattle.c_typed.specs.Programs as programs
use Rattle.c_typed.specs.Programs.{struct, struct_by, global_decl, function_text, proto, item, variables_in}
use Rattle.c_typed.specs.IsWell.{Callee, callee_of, objects_of, sizes_in}
use Rattle.c_typed.proofs.WellParts.{some_is, both_are, changed_is}
use Rattle.c_typed.proofs.WellFunctions.{locals_of, locals_append, parameters_local}
use Rattle.c_typed.proofs.WellOuter.{function_marks}
use Rattle.c_typed.proofs.WellMarks.{IsShaped}

-- Structs.
pub length_after : (sizes : List ℕ) (n : ℕ) → length (sizes ++ (n ∷ [])) ≡ suc (length sizes)
length_after [] n = refl
length_after (s ∷ sizes) n = ap suc (length_after sizes n)

pub length_sizes : (sizes : List ℕ) (ss : List (List Member)) → length (sizes_of sizes ss) ≡ length sizes + length ss
length_sizes sizes [] = omega arith
length_sizes sizes (ms ∷ ss) =
    let rest = length_sizes (sizes ++ (members_words sizes ms ∷ [])) ss in
    let one = length_after sizes (members_words sizes ms) in
    omega (arith, rest, one)

pub sizes_same : (sizes : List ℕ) (ss : List (List Member)) → length sizes ≡ length ss → sizes_in (struct_by sizes ss) ≡ sizes
sizes_same [] ss e = refl
sizes_same (n ∷ sizes) [] e = absurd (omega (arith, e))
sizes_same (n ∷ sizes) (ms ∷ ss) e = ap (λ ns. n ∷ ns) (sizes_same sizes ss (omega (arith, e)))

pub length_structs : (sizes : List ℕ) (ss : List (List Member)) → length sizes ≡ length ss → length (struct_by sizes ss) ≡ length ss
length_structs [] [] e = refl
length_structs [] (ms ∷ ss) e = absurd (omega (arith, e))
length_structs (n ∷ sizes) [] e = absurd (omega (arith, e))
length_structs (n ∷ sizes) (ms ∷ ss) e = ap suc (length_structs sizes ss (omega (arith, e)))

-- a struct's fields are the members of that number
pub fields_there : (sizes : List ℕ) (ss : List (List Member)) (k : ℕ) → k < length (struct_by sizes ss)
    → (d : Struct) × (slice_get (struct_by sizes ss) k ≡ Some d) × (d.fields ≡ map (λ m. m.object) (get_or ss k []))
fields_there [] ss k less = absurd (omega (arith, less))
fields_there (n ∷ sizes) [] k less = absurd (omega (arith, less))
fields_there (n ∷ sizes) (ms ∷ ss) zero less = (record { fields = map (λ m. m.object) ms; words = n }, refl, refl)
fields_there (n ∷ sizes) (ms ∷ ss) (suc k) less = fields_there sizes ss k (omega (arith, less))

length_map : {A B : Type 0} (f : A → B) (xs : List A) → length (map f xs) ≡ length xs
length_map f [] = refl
length_map f (x ∷ xs) = ap suc (length_map f xs)

pub shaped : (names : List (List ℕ)) (items : List Item) → IsShaped (whole_of names items) (struct_by (whole_of names items).sizes (whole_of names items).structs)
shaped names items =
    let w = whole_of names items in
    let same : length w.sizes ≡ length w.structs = let is = length_sizes [] w.structs in omega (arith, is) in
    record {
      count = length_map (λ (d : StructDef). d.tag.name) (struct_defs items) ∙ sym (length_map (λ (d : StructDef). members w.tags d.fields) (struct_defs items)) ∙ sym (length_structs w.sizes w.structs same);
      sizes = sizes_same w.sizes w.structs same;
    }

-- Functions.
abbrev pub called_as : Signature → Callee
called_as s = record { result = s.result; parameters = s.parameters }

take_front : {A : Type 0} (xs ys : List A) → take (length xs) (xs ++ ys) ≡ xs
take_front [] ys = refl
take_front (x ∷ xs) ys = ap (λ xs. x ∷ xs) (take_front xs ys)

pub function_objects : (w : Whole) (f : SourceFunction) (result : Option ObjectType)
    → objects_of (variables_in (function_text w f result).marks) ≡ parameter_types w.tags f.params ++ locals_of (programs.function_body w f.body).marks
function_objects w f result =
    let ps = (programs.parameters w f.params).marks in
    let bs = (programs.function_body w f.body).marks in
    ap locals_of (function_marks w f result) ∙ locals_append (ps ++ [] ++ bs) (closes ∷ []) ∙ append-nil (locals_of (ps ++ [] ++ bs)) ∙ locals_append (ps ++ []) bs
    ∙ ap (λ ts. ts ++ locals_of bs) (locals_append ps [] ∙ append-nil (locals_of ps) ∙ parameters_local w f.params)

pub function_callee : (w : Whole) (f : SourceFunction) (ss : List Stmt) → callee_of (record {
  line = f.name.line;
  result = result_type w.tags f.result;
  parameters = length (parameter_types w.tags f.params);
  variables = variables_in (function_text w f (result_type w.tags f.result)).marks;
  body = ss;
  close = f.body.close;
}) ≡ called_as (signature w.tags f)
function_callee w f ss =
    ap (λ ts. record { result = result_type w.tags f.result; parameters = ts })
    (ap (take (length (parameter_types w.tags f.params))) (function_objects w f (result_type w.tags f.result)) ∙ take_front (parameter_types w.tags f.params) (locals_of (programs.function_body w f.body).marks))

map_append : (xs ys : List Function) → map callee_of (xs ++ ys) ≡ map callee_of xs ++ map callee_of ys
map_append [] ys = refl
map_append (x ∷ xs) ys = ap (λ cs. callee_of x ∷ cs) (map_append xs ys)

-- one item, and the rest
abbrev own_callees : List ℕ → Item → List Callee
own_callees tags (Item.Function f) = called_as (signature tags f) ∷ []
own_callees tags _ = []

own_first : (tags : List ℕ) (i : Item) (is : List Item) → own_callees tags i ++ map called_as (signatures tags is) ≡ map called_as (signatures tags (i ∷ is))
own_first tags (Item.Struct d) is = refl
own_first tags (Item.Decl d) is = refl
own_first tags (Item.Function f) is = refl
own_first tags (Item.Proto p) is = refl

item_callees : (w : Whole) (i : Item) (here : Place) (fs : List Function) → ((item w i).judge here).value ≡ Some fs → map callee_of fs ≡ own_callees w.tags i
item_callees w (Item.Struct d) here fs has = let v = changed_is (λ _. []) ((struct w d).judge here).value fs has in ap (map callee_of) (sym v.whole)
item_callees w (Item.Decl d) here fs has = let v = changed_is (λ _. []) ((global_decl w d).judge here).value fs has in ap (map callee_of) (sym v.whole)
item_callees w (Item.Proto p) here fs has = let v = changed_is (λ _. []) ((proto w p).judge here).value fs has in ap (map callee_of) (sym v.whole)
item_callees w (Item.Function f) here fs has = by (changed_is (made f) ((function_text w f (result_type w.tags f.result)).judge here).value fs has) where
  made : SourceFunction → List Stmt → List Function
  made f ss = record {
    line = f.name.line;
    result = result_type w.tags f.result;
    parameters = length (parameter_types w.tags f.params);
    variables = variables_in (function_text w f (result_type w.tags f.result)).marks;
    body = ss;
    close = f.body.close;
  } ∷ []

  by : Rattle.c_typed.proofs.WellParts.ChangedIs (made f) ((function_text w f (result_type w.tags f.result)).judge here).value fs → map callee_of fs ≡ called_as (signature w.tags f) ∷ []
  by v = ap (map callee_of) (sym v.whole) ∙ ap (λ c. c ∷ []) (function_callee w f v.value)

pub callees_are : (w : Whole) (is : List Item) (here : Place) (fss : List (List Function)) → ((in_turn (map (item w) is)).judge here).value ≡ Some fss
    → map callee_of (joined_lists fss) ≡ map called_as (signatures w.tags is)
callees_are w [] here fss has = ap (λ fss. map callee_of (joined_lists fss)) (sym (some_is has))
callees_are w (i ∷ is) here fss has =
    let v = both_are (λ a rest. a ∷ rest) ((item w i).judge here).value ((in_turn (map (item w) is)).judge (behind (item w i) here)).value fss has in
    ap (λ fss. map callee_of (joined_lists fss)) (sym v.whole) ∙ map_append v.first (joined_lists v.second)
    ∙ ap (λ cs. cs ++ map callee_of (joined_lists v.second)) (item_callees w i here v.first v.left)
    ∙ ap (λ cs. own_callees w.tags i ++ cs) (callees_are w is (behind (item w i) here) v.second v.right) ∙ own_first w.tags i is

-- the callee of a number
pub callee_there : (fs : List Function) (ss : List Signature) (k : ℕ) (s : Signature) → map callee_of fs ≡ map called_as ss → slice_get ss k ≡ Some s → slice_get (map callee_of fs) k ≡ Some (called_as s)
callee_there fs ss k s same e = ap (λ cs. slice_get cs k) same ∙ slice_get-map called_as ss k ∙ ap (option_map called_as) e
