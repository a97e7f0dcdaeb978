-- What is known where a function begins and behind it, and its variables.
use Rattle.std.proofs.Common.{◌≡◌, ℕ, suc, ◌+◌, List, [], ◌∷◌, ◌++◌, length, Option, is_some, refl, ap, sym, ◌∙◌, arith}
use Rattle.std.proofs.lemmas.List.{append-nil, append_assoc}
use Rattle.c_typed.specs.declared.types.ObjectType.{ObjectType}
use Rattle.c_types.specs.declared.known.Declared.{Declared}
use Rattle.c_types.specs.declared.known.Known.{Known}
use Rattle.c_typed.specs.Marks as marks
use Rattle.c_typed.specs.Marks.{Mark, function, local, opens, closes, History, functions_in, globals_in}
use Rattle.c_typed.specs.Whole.{Whole}
use Rattle.c_typed.specs.Parts.{marked}
use Rattle.c_typed.specs.Programs.{variables_in}
use Rattle.c_types.specs.tools.Tables.{looked}
use Rattle.c_types.specs.tools.Outlines.{capped}
use Rattle.c_types.specs.tools.KnownSteps.{exited}
use Rattle.c_types.specs.tools.ProgramSteps.{function_begun}
use Rattle.c_typed.proofs.Balanced.{Balanced, left_behind, unchanged, has_global_outside, has_function_outside, has_prototype_outside, functions_outside, globals_outside, global_words_outside}
use Rattle.c_types.proofs.Standing.{framed_function, inner_function, stands_function, stands_closes, variables_of}
use Rattle.c_typed.proofs.WellFunctions.{Inner}
use Rattle.c_types.proofs.WalkAnswers.{Within}
use Rattle.c_types.proofs.OuterStands.{Outer}
use Rattle.c_types.proofs.ItemStands.{put_some}

pub function_begins : (w : Whole) (x : ℕ) (r : Option ObjectType) (h : History) (k : Known) → Outer w h k → Within w (function x r ∷ h) (function_begun x r k)
function_begins w x r h k was =
    let s = stands_function x r h k was.stands in
    record {
      stands = record { inner = s.inner; outer = s.outer; scopes = s.scopes; scoped = s.scoped; tags = s.tags };
      framed = framed_function w x r h;
      inner = inner_function x r h;
    }

one_more : (n : ℕ) → n + 1 ≡ suc n
one_more n = omega arith

pub function_ends : (w : Whole) (x : ℕ) (r : Option ObjectType) (h : History) (k l : Known) {ms : List Mark} → Balanced ms → Outer w h k → Within w (marked ms (function x r ∷ h)) l
    → l.declared ≡ (function_begun x r k).declared → Outer w (closes ∷ marked ms (function x r ∷ h)) (exited l)
function_ends w x r h k l balanced was is declared =
    let g = function x r ∷ h in
    record {
      stands = stands_closes _ l was.stands.inner was.stands.outer (left_behind g balanced ∙ was.stands.scopes) is.stands;
      framed = record { result = is.framed.result; variables = is.framed.variables; words = is.framed.words };
      global_names = λ y. ap (λ (d : Declared). is_some (looked d.global_names y)) declared ∙ was.global_names y ∙ sym (unchanged (marks.has_global y) (has_global_outside y) g balanced);
      function_names = λ y.
          ap (λ (d : Declared). is_some (looked d.function_names y)) declared
          ∙ put_some x y k.declared.functions k.declared.function_names (marks.has_function y h) (was.function_names y)
          ∙ sym (unchanged (marks.has_function y) (has_function_outside y) g balanced);
      prototype_names = λ y. ap (λ (d : Declared). is_some (looked d.prototype_names y)) declared ∙ was.prototype_names y ∙ sym (unchanged (marks.has_prototype y) (has_prototype_outside y) g balanced);
      functions = ap (λ (d : Declared). d.functions) declared ∙ ap (λ n. n + 1) was.functions ∙ one_more (functions_in h) ∙ sym (unchanged functions_in functions_outside g balanced);
      globals = ap (λ (d : Declared). length d.globals) declared ∙ was.globals ∙ sym (unchanged globals_in globals_outside g balanced);
      global_words = ap (λ (d : Declared). d.global_words) declared ∙ was.global_words ∙ ap capped (sym (unchanged (marks.global_words w.sizes) (global_words_outside w.sizes) g balanced));
    }

-- The variables that marks declare.
pub variables_behind : (h : History) (ms : List Mark) → Inner ms → variables_of (marked ms h) ≡ variables_of h ++ variables_in ms
variables_behind h [] is = sym (append-nil (variables_of h))
variables_behind h (local x t ∷ ms) is = variables_behind (local x t ∷ h) ms is ∙ append_assoc (variables_of h) (record { line = x.line; object = t } ∷ []) (variables_in ms)
variables_behind h (opens o ∷ ms) is = variables_behind (opens o ∷ h) ms is
variables_behind h (closes ∷ ms) is = variables_behind (closes ∷ h) ms is
variables_behind h (_ ∷ ms) is = absurd is

pub variables_closed : (ms : List Mark) → variables_in (ms ++ (closes ∷ [])) ≡ variables_in ms
variables_closed [] = refl
variables_closed (local x t ∷ ms) = ap (λ vs. record { line = x.line; object = t } ∷ vs) (variables_closed ms)
variables_closed (_ ∷ ms) = variables_closed ms
