-- Every typed program is well-formed.
use Rattle.std.proofs.Common.{◌≡◌, ℕ, ◌+◌, ◌<◌, ◌≤◌, List, [], ◌∷◌, map, length, Some, refl, ap, sym, subst, arith}
use Rattle.std.specs.Prelude.{slice_get, nat_lt}
use Rattle.std.proofs.lemmas.Bool.Decides.{nat_tests}
use Rattle.c_ast.specs.Ast.{Ast, IsBuilt}
use Rattle.c_ast.specs.declared.program.StructDef.{StructDef}
use Rattle.c_typed.specs.declared.types.ObjectType.{ObjectType}
use Rattle.c_typed.specs.declared.program.Struct.{Struct}
use Rattle.c_typed.specs.declared.program.Function.{Function}
use Rattle.c_typed.specs.Whole.{Whole, Member, members, whole_of, struct_defs}
use Rattle.c_typed.specs.Faults.{unless, no_main}
use Rattle.c_typed.specs.Decls.{type_limit}
use Rattle.c_typed.specs.Programs.{declaration_limit, struct_by, text, judged, main_number, faults_of, typed_of}
use Rattle.c_typed.specs.Typed.{Typed}
use Rattle.c_typed.specs.Checks.{IsTyped}
use Rattle.c_typed.specs.IsWell.{IsObject, IsStruct, IsGlobal, IsFunction, IsIntResult, IsWell, words_in, declared_in, declared_functions, declarations}
use Rattle.c_typed.proofs.WellParts.{none_second}
use Rattle.c_typed.proofs.WellStmts.{unless_none}
use Rattle.c_typed.proofs.WellFunctions.{AllOf, all_at, all_from}
use Rattle.c_typed.proofs.WellMarks.{IsShaped}
use Rattle.c_typed.proofs.WellStructs.{IsStructured, sizes_limited}
use Rattle.c_typed.proofs.WellEarlier.{Earlier, EarlierFrom, all_structs_earlier, earlier_at}
use Rattle.c_typed.proofs.WellSizes.{HasWords, words_all, sizes_positive, all_some}
use Rattle.c_typed.proofs.WellMain.{mains_plain, main_there}
use Rattle.c_typed.proofs.WellTexts.{objects_same}
use Rattle.c_typed.proofs.Declared.{items_declare}
use Rattle.c_typed.specs.Sites.{numbered}
use Rattle.c_typed.proofs.SitesCounted.{numbered_sites}
use Rattle.c_typed.proofs.WellSites.{numbered_of, functions_stay, few_stay, declared_stay, main_stays}
use Rattle.c_typed.proofs.WellTyped as typed
use Rattle.c_typed.proofs.WellTyped.{plain_of, limits_of, typed_globals, typed_tabled, typed_functions, typed_global_words, typed_few_functions}

-- what holds of each list of members, or of each size, holds of the structs of them
by_fields : (P : List ObjectType → Type 0) (sizes : List ℕ) (ss : List (List Member)) → AllOf (λ (ms : List Member). P (map (λ m. m.object) ms)) ss → AllOf (λ (d : Struct). P d.fields) (struct_by sizes ss)
by_fields P [] ss all = tt
by_fields P (n ∷ sizes) [] all = tt
by_fields P (n ∷ sizes) (ms ∷ ss) all = (all.0, by_fields P sizes ss all.1)

by_words : (P : ℕ → Type 0) (sizes : List ℕ) (ss : List (List Member)) → AllOf P sizes → AllOf (λ (d : Struct). P d.words) (struct_by sizes ss)
by_words P [] ss all = tt
by_words P (n ∷ sizes) [] all = tt
by_words P (n ∷ sizes) (ms ∷ ss) all = (all.0, by_words P sizes ss all.1)

known_of : (w : Whole) (structs : List Struct) (s : IsShaped w structs) (defs : List StructDef) → AllOf (IsStructured w structs s) defs
    → AllOf (λ (ms : List Member). AllOf (IsObject structs) (map (λ m. m.object) ms)) (map (λ (d : StructDef). members w.tags d.fields) defs)
known_of w structs s [] all = tt
known_of w structs s (d ∷ defs) all = (all.0.known, known_of w structs s defs all.1)

some_mapped : (ss : List (List Member)) → AllOf (λ ms. 1 ≤ length ms) ss → AllOf (λ (ms : List Member). 1 ≤ length (map (λ m. m.object) ms)) ss
some_mapped [] all = tt
some_mapped ([] ∷ ss) all = absurd (let is = all.0 in omega (arith, is))
some_mapped ((m ∷ ms) ∷ ss) all = (omega arith, some_mapped ss all.1)

from_none : (k : ℕ) → 0 + k ≡ k
from_none k = omega arith

module _ (a : Ast) (built : IsBuilt a.items a.names) (keeps : faults_of a ≡ []) where
  abbrev w : Whole
  w = whole_of a.names a.items

  abbrev t : Typed
  t = plain_of a

  abbrev shape : IsShaped w t.structs
  shape = typed.shape a keeps

  known : AllOf (λ (ms : List Member). AllOf (IsObject t.structs) (map (λ m. m.object) ms)) w.structs
  known = known_of w t.structs shape (struct_defs a.items) (typed.all_structs a keeps)

  some : AllOf (λ ms. 1 ≤ length ms) w.structs
  some = all_some w.tags a.items built.fields

  earlier : EarlierFrom 0 w.structs
  earlier = all_structs_earlier w a.items refl (typed.clean a keeps)

  struct_well : (k : ℕ) (d : Struct) → slice_get t.structs k ≡ Some d → IsStruct t.structs k d
  struct_well k d e =
      record {
        fields = all_from (IsObject t.structs) d.fields
            (all_at (IsObject t.structs) d.fields (all_at (λ (d : Struct). AllOf (IsObject t.structs) d.fields) t.structs (by_fields (AllOf (IsObject t.structs)) w.sizes w.structs known) k d e));
        earlier = all_from (Earlier k) d.fields (all_at (Earlier k) d.fields (subst (λ n. AllOf (Earlier n) d.fields) (from_none k) (earlier_at 0 w.sizes w.structs k d earlier e)));
        words = subst (λ sizes. d.words ≡ words_in sizes d.fields) (sym shape.sizes) (all_at (HasWords w.sizes) t.structs (words_all w.structs earlier) k d e);
        limit = all_at (λ (d : Struct). d.words ≤ type_limit) t.structs
            (by_words (λ n. n ≤ type_limit) w.sizes w.structs (sizes_limited [] w.structs tt (limits_of w t.structs shape (struct_defs a.items) (typed.all_structs a keeps)))) k d e;
        some_fields = all_at (λ (d : Struct). 1 ≤ length d.fields) t.structs (by_fields (λ ts. 1 ≤ length ts) w.sizes w.structs (some_mapped w.structs some)) k d e;
        some_words = all_at (λ (d : Struct). 1 ≤ d.words) t.structs (by_words (λ n. 1 ≤ n) w.sizes w.structs (sizes_positive t.structs [] w.structs tt earlier some known)) k d e;
      }

  main_less : main_number w < length w.functions
  main_less =
      let test = unless_none (nat_lt (main_number w) (length w.functions)) (text w a.items).tokens no_main a.last
      (none_second (judged w a.items).faults (unless (nat_lt (main_number w) (length w.functions)) (text w a.items).tokens no_main a.last) keeps) in
      grind (arith, nat_tests, test)

  main_well : (f : Function) × (slice_get t.functions t.main ≡ Some f) × (f.parameters ≡ 0) × IsIntResult f.result
  main_well =
      main_there w t (mains_plain w t.structs shape a.items typed.start (typed.clean a keeps)) refl main_less (typed_tabled a keeps).functions
      (λ f e. (all_at (IsFunction t) t.functions (typed_functions a keeps) t.main f e).parameters)

  few_declared : declarations t ≤ declaration_limit
  few_declared =
      let globals = ap declared_in (objects_same w t.structs shape a.items typed.start (typed.tagged a keeps) (typed.clean a keeps)) in
      let functions = ap declared_functions (typed.functions_are a keeps) in
      let all = items_declare w a.items w.sizes typed.start (typed.value a keeps).value (typed.value a keeps).there in
      let few = built.few in
      omega (arith, globals, functions, all, few)

  program_well : IsWell (typed_of a)
  program_well = record {
    structs = struct_well;
    globals = all_from (IsGlobal t.structs) t.globals (all_at (IsGlobal t.structs) t.globals (typed_globals a keeps));
    global_words = typed_global_words a keeps;
    functions = all_from (IsFunction (numbered_of t)) (numbered t.functions) (all_at (IsFunction (numbered_of t)) (numbered t.functions) (functions_stay t (typed_functions a keeps)));
    few_functions = few_stay t (typed_few_functions a keeps);
    few_declarations = declared_stay t few_declared;
    sites = numbered_sites t.functions;
    main = main_stays t main_well;
  }

pub typed_well : (t : Typed) → IsTyped t → IsWell t
typed_well t is = subst IsWell (sym is.typed) (program_well is.source is.built is.keeps)
