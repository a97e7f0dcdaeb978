-- What a typed program declares is little: its structs, globals, functions, parameters and variables, and the words of each type.
use Rattle.std.proofs.Common.{◌≡◌, ℕ, zero, suc, ◌<◌, ◌≤◌, List, [], ◌∷◌, map, length, Some, sym, ap, ◌∙◌, subst, arith}
use Rattle.std.specs.Prelude.{All, slice_get}
use Rattle.std.proofs.lemmas.List.{length-map}
use Rattle.std.proofs.lemmas.Option.{slice_get_within, slice_get-get_or}
use Rattle.c_typed.specs.declared.types.ObjectType.{ObjectType}
use Rattle.c_typed.specs.declared.program.Struct.{Struct}
use Rattle.c_typed.specs.declared.program.Function.{Function}
use Rattle.c_typed.specs.Types.{times}
use Rattle.c_typed.specs.Programs.{declaration_limit}
use Rattle.c_typed.specs.Typed.{Typed}
use Rattle.c_typed.specs.IsWell.{IsWell, IsFunction, objects_of, declared_in, declared_structs, declared_functions}
use Rattle.c_typed.proofs.WellParts.{none_some, some_is}

-- of each, of this one
pub all_get : {A : Type 0} (P : A → Type 0) (xs : List A) (k : ℕ) (x : A) → All P xs → slice_get xs k ≡ Some x → P x
all_get P xs k x all there =
    let less = slice_get_within xs k x there in
    subst P (some_is (sym (slice_get-get_or xs k x less) ∙ there)) (all k x less)

few_objects : (ts : List ObjectType) → length ts ≤ declared_in ts
few_objects [] = omega arith
few_objects (t ∷ ts) = let rest = few_objects ts in omega (arith, rest)

few_defined : (ds : List Struct) → length ds ≤ declared_structs ds
few_defined [] = omega arith
few_defined (d ∷ ds) = let rest = few_defined ds in omega (arith, rest)

few_in : (fs : List Function) (k : ℕ) (f : Function) → slice_get fs k ≡ Some f → length f.variables ≤ declared_functions fs
few_in [] k f e = absurd (none_some e)
few_in (g ∷ fs) zero f e =
    let own = few_objects (objects_of g.variables) in
    let same = length-map g.variables (λ v. v.object) in
    let is = ap (λ f. length f.variables) (some_is e) in
    omega (arith, own, same, is)
few_in (g ∷ fs) (suc k) f e = let rest = few_in fs k f e in omega (arith, rest)

pub few_structs : (t : Typed) → IsWell t → length t.structs ≤ declaration_limit
few_structs t well = let few = few_defined t.structs in let all = well.few_declarations in omega (arith, few, all)

pub few_globals : (t : Typed) → IsWell t → length t.globals ≤ declaration_limit
few_globals t well =
    let few = few_objects (map (λ g. g.object) t.globals) in
    let same = length-map t.globals (λ g. g.object) in
    let all = well.few_declarations in
    omega (arith, few, same, all)

pub few_functions : (t : Typed) → IsWell t → length t.functions ≤ declaration_limit
few_functions t well = let few = well.few_functions in omega (arith, few)

-- of each function
pub few_variables : (t : Typed) → IsWell t → (k : ℕ) (f : Function) → slice_get t.functions k ≡ Some f → length f.variables ≤ declaration_limit
few_variables t well k f there = let few = few_in t.functions k f there in let all = well.few_declarations in omega (arith, few, all)

pub few_parameters : (t : Typed) → IsWell t → (k : ℕ) (f : Function) → slice_get t.functions k ≡ Some f → f.parameters ≤ declaration_limit
few_parameters t well k f there =
    let few = few_variables t well k f there in
    let is = (all_get (IsFunction t) t.functions k f well.functions there).parameters in
    omega (arith, few, is)

-- the words of an array of arrays: those of a part are no more
pub times_within : (n : ℕ) (ns : List ℕ) (words : ℕ) → 0 < n → times ns words ≤ times (n ∷ ns) words
times_within zero ns words some = absurd (omega (arith, some))
times_within (suc n) ns words some = omega arith
