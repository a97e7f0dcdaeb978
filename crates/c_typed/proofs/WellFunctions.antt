-- A function that breaks no rule is well-formed.
use Rattle.std.proofs.Common.{◌≡◌, ℕ, zero, suc, ◌+◌, ◌≤◌, List, [], ◌∷◌, ◌++◌, map, length, Some, refl, ap, sym, ◌∙◌, subst, arith}
use Rattle.std.specs.Prelude.{slice_get, slice_index_or, nat_eq, All}
use Rattle.std.proofs.lemmas.Option.{slice_get-get_or}
use Rattle.std.proofs.lemmas.List.{append_assoc}
use Rattle.c_ast.specs.declared.decl.Param.{Param}
use Rattle.c_ast.specs.declared.decl.Params.{Params}
use Rattle.c_typed.specs.declared.types.ObjectType.{ObjectType}
use Rattle.c_typed.specs.declared.program.Struct.{Struct}
use Rattle.c_typed.specs.Types.{words_of}
use Rattle.c_typed.specs.Marks.{Mark, local, opens, closes, History, locals_in, frame_words}
use Rattle.c_typed.specs.Whole.{Whole, parameter_type, parameter_types}
use Rattle.c_typed.specs.Parts.{marked}
use Rattle.c_typed.specs.Decls.{frame_limit, parameter}
use Rattle.c_typed.specs.Programs as programs
use Rattle.c_typed.specs.Programs.{variables_in, parameters}
use Rattle.c_typed.specs.IsWell.{IsObject, Context, words_in, objects_of}
use Rattle.c_typed.proofs.Quiet.{quiet_base}
use Rattle.c_typed.proofs.Balanced.{Balanced}
use Rattle.c_typed.proofs.WellParts.{Kept, some_is, none_some}
use Rattle.c_typed.proofs.WellMarks.{IsShaped, Declared}

-- Marks inside a function.
abbrev pub Inner : List Mark → Type 0
Inner [] = Unit {0}
Inner (local x t ∷ ms) = Inner ms
Inner (opens o ∷ ms) = Inner ms
Inner (closes ∷ ms) = Inner ms
Inner (_ ∷ ms) = ⊥

inner_append : (ms ns : List Mark) → Inner ms → Inner ns → Inner (ms ++ ns)
inner_append [] ns is that = that
inner_append (local x t ∷ ms) ns is that = inner_append ms ns is that
inner_append (opens o ∷ ms) ns is that = inner_append ms ns is that
inner_append (closes ∷ ms) ns is that = inner_append ms ns is that
inner_append (_ ∷ ms) ns is that = absurd is

pub balanced_inner : {ms : List Mark} → Balanced ms → Inner ms
balanced_inner Balanced.none = tt
balanced_inner (Balanced.variable x t is) = balanced_inner is
balanced_inner (Balanced.scope o inner rest is more e) = subst Inner (sym e) (inner_append inner (closes ∷ rest) (balanced_inner is) (balanced_inner more))

pub balanced_inner_closed : (ms ns : List Mark) → Balanced ms → Balanced ns → Inner (ms ++ [] ++ ns ++ (closes ∷ []))
balanced_inner_closed ms ns is that =
    inner_append (ms ++ [] ++ ns) (closes ∷ []) (inner_append (ms ++ []) ns (inner_append ms [] (balanced_inner is) tt) (balanced_inner that)) tt

-- the types of the variables that marks declare
abbrev pub locals_of : List Mark → List ObjectType
locals_of ms = objects_of (variables_in ms)

there_behind : (pre : List ObjectType) (t : ObjectType) (rest : List ObjectType) → slice_get (pre ++ (t ∷ rest)) (length pre) ≡ Some t
there_behind [] t rest = refl
there_behind (p ∷ pre) t rest = there_behind pre t rest

length_one_more : (pre : List ObjectType) (t : ObjectType) → length (pre ++ (t ∷ [])) ≡ suc (length pre)
length_one_more [] t = refl
length_one_more (p ∷ pre) t = ap suc (length_one_more pre t)

pub kept_inner : (c : Context) (h : History) (ms : List Mark) (pre : List ObjectType) → Inner ms → c.variables ≡ pre ++ locals_of ms → length pre ≡ locals_in h → Kept c h ms
kept_inner c h [] pre is all count = tt
kept_inner c h (local x t ∷ ms) pre is all count = (
  ap (slice_get c.variables) (sym count) ∙ ap (λ vs. slice_get vs (length pre)) all ∙ there_behind pre t (locals_of ms),
  kept_inner c (local x t ∷ h) ms (pre ++ (t ∷ [])) is (all ∙ sym (append_assoc pre (t ∷ []) (locals_of ms))) (length_one_more pre t ∙ ap suc count),
)
kept_inner c h (opens o ∷ ms) pre is all count = kept_inner c (opens o ∷ h) ms pre is all count
kept_inner c h (closes ∷ ms) pre is all count = kept_inner c (closes ∷ h) ms pre is all count
kept_inner c h (_ ∷ ms) pre is all count = absurd is

-- All of a list, place by place.
pub all_from : {A : Type 0} (P : A → Type 0) (xs : List A) → ((k : ℕ) (x : A) → slice_get xs k ≡ Some x → P x) → All P xs
all_from P xs each k d less = each k (slice_index_or xs k d) (slice_get-get_or xs k d less)

abbrev pub AllOf : {A : Type 0} → (A → Type 0) → List A → Type 0
AllOf P [] = Unit {0}
AllOf P (x ∷ xs) = P x × AllOf P xs

pub all_at : {A : Type 0} (P : A → Type 0) (xs : List A) → AllOf P xs → (k : ℕ) (x : A) → slice_get xs k ≡ Some x → P x
all_at P [] all k x e = absurd (none_some e)
all_at P (y ∷ ys) all zero x e = subst P (some_is e) all.0
all_at P (y ∷ ys) all (suc k) x e = all_at P ys all.1 k x e

pub all_append : {A : Type 0} (P : A → Type 0) (xs ys : List A) → AllOf P xs → AllOf P ys → AllOf P (xs ++ ys)
all_append P [] ys all more = more
all_append P (x ∷ xs) ys all more = (all.0, all_append P xs ys all.1 more)

module _ (w : Whole) (structs : List Struct) (shaped : IsShaped w structs) where
  -- what the declared variables are
  pub objects_known : (h : History) (ms : List Mark) → Inner ms → Declared w structs shaped h ms → AllOf (IsObject structs) (locals_of ms)
  objects_known h [] is all = tt
  objects_known h (local x t ∷ ms) is all = (all.0, objects_known (local x t ∷ h) ms is all.2)
  objects_known h (opens o ∷ ms) is all = objects_known (opens o ∷ h) ms is all
  objects_known h (closes ∷ ms) is all = objects_known (closes ∷ h) ms is all
  objects_known h (_ ∷ ms) is all = absurd is

  pub frame_kept : (h : History) (ms : List Mark) → Inner ms → Declared w structs shaped h ms → frame_words w.sizes h ≤ frame_limit → frame_words w.sizes (marked ms h) ≤ frame_limit
  frame_kept h [] is all le = le
  frame_kept h (local x t ∷ ms) is all le = frame_kept (local x t ∷ h) ms is all.2 all.1
  frame_kept h (opens o ∷ ms) is all le = frame_kept (opens o ∷ h) ms is all le
  frame_kept h (closes ∷ ms) is all le = frame_kept (closes ∷ h) ms is all le
  frame_kept h (_ ∷ ms) is all le = absurd is

pub frame_sum : (sizes : List ℕ) (h : History) (ms : List Mark) → Inner ms → frame_words sizes (marked ms h) ≡ frame_words sizes h + words_in sizes (locals_of ms)
frame_sum sizes h [] is = omega arith
frame_sum sizes h (local x t ∷ ms) is = let rest = frame_sum sizes (local x t ∷ h) ms is in omega (arith, rest)
frame_sum sizes h (opens o ∷ ms) is = frame_sum sizes (opens o ∷ h) ms is
frame_sum sizes h (closes ∷ ms) is = frame_sum sizes (closes ∷ h) ms is
frame_sum sizes h (_ ∷ ms) is = absurd is

-- The parameters.
pub locals_append : (ms ns : List Mark) → locals_of (ms ++ ns) ≡ locals_of ms ++ locals_of ns
locals_append [] ns = refl
locals_append (local x t ∷ ms) ns = ap (λ ts. t ∷ ts) (locals_append ms ns)
locals_append (_ ∷ ms) ns = locals_append ms ns

quiet_locals : {ms : List Mark} → ms ≡ [] → locals_of ms ≡ []
quiet_locals is = ap locals_of is

parameter_local : (w : Whole) (p : Param) → locals_of (parameter w p).marks ≡ parameter_type w.tags p ∷ []
parameter_local w p =
    ap (λ ms. locals_of (ms ++ [] ++ (local p.name (parameter_type w.tags p) ∷ []) ++ [])) (quiet_base w (nat_eq (Rattle.c_typed.specs.Types.parameter_stars p.stars p.brackets) 0) p.base)

separated_locals : (w : Whole) (ps : List Param) → locals_of (programs.parameters w (Params.List ps)).marks ≡ map (parameter_type w.tags) ps
separated_locals w [] = refl
separated_locals w (p ∷ []) = locals_append (parameter w p).marks [] ∙ ap (λ ts. ts ++ []) (parameter_local w p)
separated_locals w (p ∷ q ∷ ps) =
    locals_append ((parameter w p).marks ++ []) (programs.parameters w (Params.List (q ∷ ps))).marks
    ∙ ap (λ ts. ts ++ locals_of (programs.parameters w (Params.List (q ∷ ps))).marks) (locals_append (parameter w p).marks [] ∙ ap (λ ts. ts ++ []) (parameter_local w p))
    ∙ ap (λ ts. parameter_type w.tags p ∷ ts) (separated_locals w (q ∷ ps))

pub parameters_local : (w : Whole) (p : Params) → locals_of (programs.parameters w p).marks ≡ parameter_types w.tags p
parameters_local w Params.Empty = refl
parameters_local w (Params.Void line) = refl
parameters_local w (Params.List ps) = separated_locals w ps
