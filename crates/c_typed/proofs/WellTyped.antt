-- The typed program of a text that breaks no rule: its tables, and its functions and globals are well-formed.
use Rattle.std.proofs.Common.{◌≡◌, ℕ, zero, suc, ◌≤◌, pos, List, [], ◌∷◌, map, length, get_or, Some, refl, ap, sym, ◌∙◌, subst, arith}
use Rattle.std.specs.Prelude.{slice_get, nat_lt}
use Rattle.c_ast.specs.Ast.{Ast}
use Rattle.c_ast.specs.declared.program.StructDef.{StructDef}
use Rattle.c_ast.specs.declared.program.Item.{Item}
use Rattle.c_typed.specs.declared.types.ObjectType.{ObjectType}
use Rattle.c_typed.specs.declared.program.Struct.{Struct}
use Rattle.c_typed.specs.declared.program.Global.{Global}
use Rattle.c_typed.specs.Whole.{Whole, Member, members, whole_of, struct_defs}
use Rattle.c_typed.specs.Faults.{unless, no_main}
use Rattle.c_typed.specs.Parts.{Place}
use Rattle.c_typed.specs.Decls.{type_limit, joined_lists}
use Rattle.c_typed.specs.Programs.{global_limit, function_limit, struct_by, text, judged, globals_by, main_number, functions_by, faults_of}
use Rattle.c_typed.specs.Typed.{Typed}
use Rattle.c_typed.specs.IsWell.{IsObject, IsGlobal, IsFunction, sizes_in, words_in}
use Rattle.c_typed.proofs.Small.{one}
use Rattle.c_typed.proofs.WellParts.{none_first, some_is, none_some}
use Rattle.c_typed.proofs.WellFunctions.{AllOf, all_at}
use Rattle.c_typed.proofs.WholeStmts.{whole_text}
use Rattle.c_typed.proofs.WellFunction.{IsTabled, IsOuter}
use Rattle.c_typed.proofs.WellMarks.{Tagged, IsShaped}
use Rattle.c_typed.proofs.WellItems.{Each, each_clean, each_outer, functions_well, all_objects}
use Rattle.c_typed.proofs.WellStructs.{all_tags, IsStructured, sizes_limited, HasResult}
use Rattle.c_typed.proofs.WellTables.{shaped, sizes_same, length_sizes, fields_there, callees_are, callee_there}
use Rattle.c_typed.proofs.WellCounts.{globals_within, functions_within}
use Rattle.c_typed.proofs.WellTexts.{AllTagged, AllClean, structs_known, results_known, globals_known, objects_same}

length_map : {A B : Type 0} (f : A → B) (xs : List A) → length (map f xs) ≡ length xs
length_map f [] = refl
length_map f (x ∷ xs) = ap suc (length_map f xs)

abbrev pub start : Place
start = record { before = []; at = 0 }

-- a program with globals of these types, to say what stands before each item
abbrev with_globals : List ObjectType → Typed
with_globals os = record { structs = []; globals = map (λ o. record { line = one; object = o; start = pos 0 }) os; functions = []; main = 0 }

same_objects : (os : List ObjectType) → map (λ g. g.object) (with_globals os).globals ≡ os
same_objects [] = refl
same_objects (o ∷ os) = ap (λ os'. o ∷ os') (same_objects os)

each_map : (w : Whole) (P Q : Place → Item → Type 0) (is : List Item) (here : Place) → ((here : Place) (i : Item) → P here i → Q here i) → Each w P is here → Each w Q is here
each_map w P Q [] here all each = tt
each_map w P Q (i ∷ is) here all each = (all here i each.0, each_map w P Q is (Rattle.c_typed.specs.Parts.behind (Rattle.c_typed.specs.Programs.item w i) here) all each.1)

all_tagged : (w : Whole) (is : List Item) → w.tags ≡ map (λ (d : StructDef). d.tag.name) (struct_defs is) → AllTagged w is start
all_tagged w is same =
    let t = with_globals (all_objects w is) in
    each_map w (λ here i. IsOuter w t here.before) (λ here i. Tagged w here.before) is start (λ here i outer. outer.tags)
    (each_outer w t is (all_tags w is [] same) (same_objects (all_objects w is)))

members_at : (w : Whole) (structs : List Struct) (s : IsShaped w structs) (sizes : List ℕ) (defs : List StructDef) → AllOf (IsStructured w structs s) defs → (k n : ℕ) (d : Struct) (o : ObjectType)
    → slice_get (struct_by sizes (map (λ (d : StructDef). members w.tags d.fields) defs)) k ≡ Some d → slice_get d.fields n ≡ Some o → IsObject structs o
members_at w structs s [] defs all k n d o e has = absurd (none_some e)
members_at w structs s (m ∷ sizes) [] all k n d o e has = absurd (none_some e)
members_at w structs s (m ∷ sizes) (x ∷ defs) all zero n d o e has =
    all_at (IsObject structs) (map (λ m. m.object) (members w.tags x.fields)) all.0.known n o (ap (λ (d : Struct). slice_get d.fields n) (some_is e) ∙ has)
members_at w structs s (m ∷ sizes) (x ∷ defs) all (suc k) n d o e has = members_at w structs s sizes defs all.1 k n d o e has

pub limits_of : (w : Whole) (structs : List Struct) (s : IsShaped w structs) (defs : List StructDef) → AllOf (IsStructured w structs s) defs
    → AllOf (λ (ms : List Member). words_in w.sizes (map (λ m. m.object) ms) ≤ type_limit) (map (λ (d : StructDef). members w.tags d.fields) defs)
limits_of w structs s [] all = tt
limits_of w structs s (d ∷ defs) all = (all.0.limit, limits_of w structs s defs all.1)

get_limited : (ns : List ℕ) (k : ℕ) → AllOf (λ n. n ≤ type_limit) ns → get_or ns k 0 ≤ type_limit
get_limited [] k all = omega arith
get_limited (n ∷ ns) zero all = all.0
get_limited (n ∷ ns) (suc k) all = get_limited ns k all.1

objects_at : (structs : List Struct) (gs : List Global) → AllOf (IsGlobal structs) gs → (k : ℕ) (o : ObjectType) → slice_get (map (λ g. g.object) gs) k ≡ Some o → IsObject structs o
objects_at structs [] all k o e = absurd (none_some e)
objects_at structs (g ∷ gs) all zero o e = subst (IsObject structs) (some_is e) all.0.object
objects_at structs (g ∷ gs) all (suc k) o e = objects_at structs gs all.1 k o e

-- the typed program before its sites are numbered
abbrev pub plain_by : Whole → List Item → Typed
plain_by w items = record {
  structs = struct_by w.sizes w.structs;
  globals = globals_by w.tags items;
  functions = functions_by (judged w items).value;
  main = main_number w;
}

abbrev pub plain_of : Ast → Typed
plain_of a = plain_by (whole_of a.names a.items) a.items

module _ (a : Ast) (keeps : faults_of a ≡ []) where
  abbrev pub w : Whole
  w = whole_of a.names a.items

  abbrev pub t : Typed
  t = plain_of a

  pub no_fault : (judged w a.items).faults ≡ []
  no_fault = none_first (judged w a.items).faults (unless (nat_lt (main_number w) (length w.functions)) (text w a.items).tokens no_main a.last) keeps

  pub tagged : AllTagged w a.items start
  tagged = all_tagged w a.items refl

  pub clean : AllClean w a.items start
  clean = each_clean w a.items start no_fault

  pub shape : IsShaped w t.structs
  shape = shaped a.names a.items

  pub all_structs : AllOf (IsStructured w t.structs shape) (struct_defs a.items)
  all_structs = structs_known w t.structs shape a.items start tagged clean

  abbrev pub value : Rattle.c_typed.proofs.WholeExprs.Has (judged w a.items).value
  value = (whole_text w a.items).whole start no_fault

  pub functions_are : t.functions ≡ joined_lists value.value
  functions_are = ap functions_by value.there

  pub typed_globals : AllOf (IsGlobal t.structs) t.globals
  typed_globals = globals_known w t.structs shape a.items start tagged clean

  pub typed_tabled : IsTabled w t
  typed_tabled = record {
    shaped = shape;
    fields = fields_there w.sizes w.structs;
    members = members_at w t.structs shape w.sizes (struct_defs a.items) all_structs;
    words = λ k. subst (λ ns. get_or ns k 0 ≤ type_limit) (sym shape.sizes) (get_limited w.sizes k (sizes_limited [] w.structs tt (limits_of w t.structs shape (struct_defs a.items) all_structs)));
    functions = λ k s e. callee_there t.functions w.functions k s
        (ap (map Rattle.c_typed.specs.IsWell.callee_of) functions_are ∙ callees_are w a.items start value.value value.there) e;
    results = λ k s o e same. all_at (HasResult w t.structs shape) w.functions (results_known w t.structs shape a.items start tagged clean) k s e o same;
    main = refl;
    globals = objects_at t.structs t.globals typed_globals;
  }

  -- every function of the program is well-formed
  pub typed_functions : AllOf (IsFunction t) t.functions
  typed_functions =
      subst (AllOf (IsFunction t)) (sym functions_are)
      (functions_well w t typed_tabled a.items start value.value
      (each_outer w t a.items (all_tags w a.items [] refl) (objects_same w t.structs shape a.items start tagged clean)) clean value.there)

  -- the words of all globals, and the number of functions
  pub typed_global_words : words_in (sizes_in t.structs) (map (λ g. g.object) t.globals) ≤ global_limit
  typed_global_words =
      let le = globals_within w t.structs shape a.items start tagged clean (omega arith) in
      let total : words_in w.sizes (all_objects w a.items) ≤ global_limit = omega (arith, le) in
      subst (λ os. words_in (sizes_in t.structs) os ≤ global_limit) (sym (objects_same w t.structs shape a.items start tagged clean))
      (subst (λ sizes. words_in sizes (all_objects w a.items) ≤ global_limit) (sym shape.sizes) total)

  pub typed_few_functions : length t.functions ≤ function_limit
  typed_few_functions =
      let le = functions_within w t.structs shape a.items start clean (omega arith) in
      let total : length w.functions ≤ function_limit = omega (arith, le) in
      let same = ap (map Rattle.c_typed.specs.IsWell.callee_of) functions_are ∙ callees_are w a.items start value.value value.there in
      subst (λ n. n ≤ function_limit) (sym (sym (length_map Rattle.c_typed.specs.IsWell.callee_of t.functions) ∙ ap length same ∙ length_map Rattle.c_typed.proofs.WellTables.called_as w.functions)) total
