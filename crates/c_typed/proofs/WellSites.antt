-- A typed program stays well-formed when its sites are numbered.
use Rattle.std.proofs.Common.{◌≡◌, ℕ, zero, suc, ◌+◌, ◌≤◌, false, List, [], ◌∷◌, map, length, Some, refl, ap, sym, subst}
use Rattle.std.specs.Prelude.{slice_get}
use Rattle.c_typed.specs.declared.program.Function.{Function}
use Rattle.c_typed.specs.Typed.{Typed}
use Rattle.c_typed.specs.Programs.{declaration_limit, function_limit}
use Rattle.c_typed.specs.Sites.{in_turn, stmt, function, numbered}
use Rattle.c_typed.specs.IsWell.{AreStmts, placed, IsFunction, IsIntResult, callee_of, context_of, declared_in, declared_structs, declared_functions, declarations, objects_of}
use Rattle.c_typed.proofs.WellParts.{none_some, some_is}
use Rattle.c_typed.proofs.WellFunctions.{AllOf}
use Rattle.c_typed.proofs.SitesKnown.{body_known}

abbrev pub numbered_of : Typed → Typed
numbered_of t = record { structs = t.structs; globals = t.globals; functions = numbered t.functions; main = t.main }

abbrev from : ℕ → List Function → List Function
from n fs = (in_turn (map function fs)).from n

callees_same : (fs : List Function) (n : ℕ) → map callee_of (from n fs) ≡ map callee_of fs
callees_same [] n = refl
callees_same (f ∷ fs) n = ap (λ cs. callee_of f ∷ cs) (callees_same fs (n + (function f).count))

context_same : (t : Typed) (f : Function) → context_of (numbered_of t) f ≡ context_of t f
context_same t f =
    ap (λ fs. record {
      structs = t.structs;
      globals = map (λ g. g.object) t.globals;
      functions = fs;
      main = t.main;
      variables = objects_of f.variables;
      result = f.result;
    }) (callees_same t.functions 0)

function_stays : (t : Typed) (f : Function) (n : ℕ) → IsFunction t f → IsFunction (numbered_of t) ((function f).from n)
function_stays t f n is = record {
  result = is.result;
  parameters = is.parameters;
  scalars = is.scalars;
  objects = is.objects;
  frame = is.frame;
  body = subst (λ c. AreStmts c (placed (record { looped = false; branched = false }) ((in_turn (map stmt f.body)).from n))) (sym (context_same t f))
      (body_known (context_of t f) (record { looped = false; branched = false }) f.body n is.body);
}

functions_from : (t : Typed) (fs : List Function) (n : ℕ) → AllOf (IsFunction t) fs → AllOf (IsFunction (numbered_of t)) (from n fs)
functions_from t [] n all = tt
functions_from t (f ∷ fs) n all = (function_stays t f n all.0, functions_from t fs (n + (function f).count) all.1)

pub functions_stay : (t : Typed) → AllOf (IsFunction t) t.functions → AllOf (IsFunction (numbered_of t)) (numbered t.functions)
functions_stay t all = functions_from t t.functions 0 all

length_from : (fs : List Function) (n : ℕ) → length (from n fs) ≡ length fs
length_from [] n = refl
length_from (f ∷ fs) n = ap suc (length_from fs (n + (function f).count))

pub few_stay : (t : Typed) → length t.functions ≤ function_limit → length (numbered t.functions) ≤ function_limit
few_stay t le = subst (λ n. n ≤ function_limit) (sym (length_from t.functions 0)) le

declared_from : (fs : List Function) (n : ℕ) → declared_functions (from n fs) ≡ declared_functions fs
declared_from [] n = refl
declared_from (f ∷ fs) n = ap (λ k. declared_in (objects_of f.variables) + k) (declared_from fs (n + (function f).count))

pub declared_stay : (t : Typed) → declarations t ≤ declaration_limit → declarations (numbered_of t) ≤ declaration_limit
declared_stay t le =
    subst (λ k. declared_structs t.structs + declared_in (map (λ g. g.object) t.globals) + k ≤ declaration_limit) (sym (declared_from t.functions 0)) le

-- the function `main`
abbrev pub HasMain : List Function → ℕ → Type 0
HasMain fs k = (f : Function) × (slice_get fs k ≡ Some f) × (f.parameters ≡ 0) × IsIntResult f.result

main_from : (fs : List Function) (k n : ℕ) → HasMain fs k → HasMain (from n fs) k
main_from [] k n is = absurd (none_some is.1)
main_from (f ∷ fs) zero n is =
    ((function f).from n, refl, subst (λ (g : Function). g.parameters ≡ 0) (sym (some_is is.1)) is.2, subst (λ (g : Function). IsIntResult g.result) (sym (some_is is.1)) is.3)
main_from (f ∷ fs) (suc k) n is = main_from fs k (n + (function f).count) is

pub main_stays : (t : Typed) → HasMain t.functions t.main → HasMain (numbered t.functions) t.main
main_stays t is = main_from t.functions t.main 0 is
