-- What a step of the code does is what the definitions of a straight line say.
use Rattle.std.proofs.Common.{◌≡◌, ℕ, ◌<◌, Bool, true, false, List, [], ◌∷◌, ◌++◌, length, get_or, set, Option, Some, None, inl, inr, refl, sym, ap, ◌∙◌, arith}
use Rattle.std.specs.Prelude.{is_some, nat_eq, IfSome}
use Rattle.std.proofs.lemmas.Bool.{cases_eq, eq-eqb, false≢true, ne_eqb}
use Rattle.std.proofs.lemmas.List.{get_or-set_same, get_or-set_other, length-set}
use Rattle.tac_ir.specs.declared.code.Instr.{Instr}
use Rattle.tac_ir.specs.declared.code.Lined.{Lined}
use Rattle.first_module.specs.declared.steps.Step.{Step}
use Rattle.first_module.specs.StraightLine.{behind_by, global_at, global_behind, is_plain}
use Rattle.first_module.specs.SetsOf.{definitions_of, is_global, last_definition_of, or_none, set_by, target_of}
use Rattle.first_module.specs.tools.Steps.{IsStepWithin, by_global, definitions_after, last_of, moved_by, sets_in, step_of}
use Rattle.first_module.specs.tools.Trail.{Below, NamesWithin}

-- Which instructions have a step.

some-by_global : (step : ℕ → Step) (o : Option ℕ) → is_some o ≡ is_some (by_global step o)
some-by_global step None = refl
some-by_global step (Some g) = refl

pub plain-step : (earlier : List Lined) (i : Instr) → is_plain earlier i ≡ is_some (step_of (global_behind earlier) i)
plain-step earlier (Instr.Addr to place) = some-by_global _ (global_at place)
plain-step earlier (Instr.Decay to a shape) = some-by_global _ (global_behind earlier a)
plain-step earlier (Instr.Index to a b words) = some-by_global _ (global_behind earlier a)
plain-step earlier (Instr.Get to place r) = some-by_global _ (global_at place)
plain-step earlier (Instr.Set place a d) = some-by_global _ (global_at place)
plain-step earlier (Instr.Load to a r) = some-by_global _ (global_behind earlier a)
plain-step earlier (Instr.Store a b d) = some-by_global _ (global_behind earlier a)
plain-step earlier i = refl

-- Sets.

last_of-push : (xs : List ℕ) (d : ℕ) → last_of (xs ++ d ∷ []) ≡ d ∷ []
last_of-push [] d = refl
last_of-push (x ∷ []) d = refl
last_of-push (x ∷ y ∷ rest) d = last_of-push (y ∷ rest) d

last-is_global : (g : ℕ) (o : Option ℕ) (d : ℕ) (earlier : List ℕ) (last : List ℕ) → last ≡ last_of earlier
    → is_global g o (d ∷ []) last ≡ last_of (is_global g o (earlier ++ d ∷ []) earlier)
last-is_global g None d earlier last h = h
last-is_global g (Some k) d earlier last h =
    elim (nat_eq k g) as (λ b. (elim b as (λ b. List ℕ) [ true ↦ d ∷ [] | false ↦ last ]) ≡ last_of (elim b as (λ b. List ℕ) [ true ↦ earlier ++ d ∷ [] | false ↦ earlier ])) [
      | true ↦ sym (last_of-push earlier d)
      | false ↦ h
    ]

pub last-definition : (g : ℕ) (earlier : List Lined) → last_definition_of g earlier ≡ last_of (definitions_of g earlier)
last-definition g [] = refl
last-definition g (l ∷ earlier) = by (target_of earlier l.instr) (last-definition g earlier)
  where
    by : (o : Option (Option ℕ × ℕ)) → last_definition_of g earlier ≡ last_of (definitions_of g earlier)
        → (elim o as (λ o. List ℕ) [ None ↦ last_definition_of g earlier | Some t ↦ is_global g t.0 (t.1 ∷ []) (last_definition_of g earlier) ])
        ≡ last_of (elim o as (λ o. List ℕ) [ None ↦ definitions_of g earlier | Some t ↦ is_global g t.0 (definitions_of g earlier ++ t.1 ∷ []) (definitions_of g earlier) ])
    by None h = h
    by (Some t) h = last-is_global g t.0 t.1 (definitions_of g earlier) (last_definition_of g earlier) h

abbrev pub sets_known : (ℕ → List ℕ) → Option Step → List (List ℕ)
sets_known definitions None = []
sets_known definitions (Some step) = sets_in definitions step

quiet-sets : (definitions : ℕ → List ℕ) (o : Option ℕ) → [] ≡ sets_known definitions (by_global (λ g. Step.Quiet) o)
quiet-sets definitions None = refl
quiet-sets definitions (Some g) = refl

write-sets : (definitions : ℕ → List ℕ) (d : ℕ) (o : Option ℕ) → [] ≡ sets_known definitions (by_global (λ g. Step.Write g d) o)
write-sets definitions d None = refl
write-sets definitions d (Some g) = refl

get-sets : (earlier : List Lined) (o : Option ℕ) → is_some o ≡ true → or_none (λ g. last_definition_of g earlier) o ∷ [] ≡ sets_known (λ g. definitions_of g earlier) (by_global (λ g. Step.Get g) o)
get-sets earlier None h = absurd (false≢true h)
get-sets earlier (Some g) h = ap (λ last. last ∷ []) (last-definition g earlier)

load-sets : (earlier : List Lined) (o : Option ℕ) → is_some o ≡ true → or_none (λ g. definitions_of g earlier) o ∷ [] ≡ sets_known (λ g. definitions_of g earlier) (by_global (λ g. Step.Load g) o)
load-sets earlier None h = absurd (false≢true h)
load-sets earlier (Some g) h = refl

pub set-step : (earlier : List Lined) (i : Instr) → is_plain earlier i ≡ true → set_by earlier i ≡ sets_known (λ g. definitions_of g earlier) (step_of (global_behind earlier) i)
set-step earlier (Instr.Addr to place) h = quiet-sets (λ g. definitions_of g earlier) (global_at place)
set-step earlier (Instr.Decay to a shape) h = quiet-sets (λ g. definitions_of g earlier) (global_behind earlier a)
set-step earlier (Instr.Index to a b words) h = quiet-sets (λ g. definitions_of g earlier) (global_behind earlier a)
set-step earlier (Instr.Get to place r) h = get-sets earlier (global_at place) h
set-step earlier (Instr.Set place a d) h = write-sets (λ g. definitions_of g earlier) d (global_at place)
set-step earlier (Instr.Load to a r) h = load-sets earlier (global_behind earlier a) h
set-step earlier (Instr.Store a b d) h = write-sets (λ g. definitions_of g earlier) d (global_behind earlier a)
set-step earlier i h = refl

-- Definitions.

abbrev pub write_known : Option Step → Option (Option ℕ × ℕ)
write_known (Some (Step.Write g d)) = Some (Some g, d)
write_known step = None

quiet-writes : (o : Option ℕ) → None ≡ write_known (by_global (λ g. Step.Quiet) o)
quiet-writes None = refl
quiet-writes (Some g) = refl

get-writes : (o : Option ℕ) → None ≡ write_known (by_global (λ g. Step.Get g) o)
get-writes None = refl
get-writes (Some g) = refl

load-writes : (o : Option ℕ) → None ≡ write_known (by_global (λ g. Step.Load g) o)
load-writes None = refl
load-writes (Some g) = refl

write-writes : (d : ℕ) (o : Option ℕ) → is_some o ≡ true → Some (o, d) ≡ write_known (by_global (λ g. Step.Write g d) o)
write-writes d None h = absurd (false≢true h)
write-writes d (Some g) h = refl

pub target-step : (earlier : List Lined) (i : Instr) → is_plain earlier i ≡ true → target_of earlier i ≡ write_known (step_of (global_behind earlier) i)
target-step earlier (Instr.Addr to place) h = quiet-writes (global_at place)
target-step earlier (Instr.Decay to a shape) h = quiet-writes (global_behind earlier a)
target-step earlier (Instr.Index to a b words) h = quiet-writes (global_behind earlier a)
target-step earlier (Instr.Get to place r) h = get-writes (global_at place)
target-step earlier (Instr.Set place a d) h = write-writes d (global_at place) h
target-step earlier (Instr.Load to a r) h = load-writes (global_behind earlier a)
target-step earlier (Instr.Store a b d) h = write-writes d (global_behind earlier a) h
target-step earlier i h = refl

-- the definitions of a global behind what is written
abbrev pub written : ℕ → Option (Option ℕ × ℕ) → List ℕ → List ℕ
written g None there = there
written g (Some t) there = is_global g t.0 (there ++ t.1 ∷ []) there

pub written-list : (globals g : ℕ) (step : Step) (definitions : List (List ℕ)) → length definitions ≡ globals → IsStepWithin globals step → g < globals
    → get_or (definitions_after step definitions) g [] ≡ written g (write_known (Some step)) (get_or definitions g [])
written-list globals g Step.Quiet definitions count within below = refl
written-list globals g (Step.Get k) definitions count within below = refl
written-list globals g (Step.Load k) definitions count within below = refl
written-list globals g (Step.Write k d) definitions count within below =
    elim (cases_eq g k) [
      | inl same ↦
          let inside : k < length definitions = omega (arith, count, within) in
          ap (λ j. get_or (set definitions k (get_or definitions k [] ++ d ∷ [])) j []) same
          ∙ get_or-set_same definitions k _ [] inside
          ∙ ap (λ j. get_or definitions j [] ++ d ∷ []) (sym same)
          ∙ sym (ap (λ b. elim b as (λ b. List ℕ) [ true ↦ get_or definitions g [] ++ d ∷ [] | false ↦ get_or definitions g [] ]) (eq-eqb k g (sym same)))
      | inr other ↦
          get_or-set_other definitions k g _ [] other
          ∙ sym (ap (λ b. elim b as (λ b. List ℕ) [ true ↦ get_or definitions g [] ++ d ∷ [] | false ↦ get_or definitions g [] ]) (ne_eqb k g (λ e. other (sym e))))
    ]

pub length-after : (step : Step) (definitions : List (List ℕ)) → length (definitions_after step definitions) ≡ length definitions
length-after Step.Quiet definitions = refl
length-after (Step.Get g) definitions = refl
length-after (Step.Load g) definitions = refl
length-after (Step.Write g d) definitions = length-set definitions _ _

pub definitions-written : (g : ℕ) (earlier : List Lined) (l : Lined) → definitions_of g (l ∷ earlier) ≡ written g (target_of earlier l.instr) (definitions_of g earlier)
definitions-written g earlier l = by (target_of earlier l.instr)
  where
    by : (o : Option (Option ℕ × ℕ)) → (elim o as (λ o. List ℕ) [ None ↦ definitions_of g earlier | Some t ↦ is_global g t.0 (definitions_of g earlier ++ t.1 ∷ []) (definitions_of g earlier) ]) ≡ written g o (definitions_of g earlier)
    by None = refl
    by (Some t) = refl

-- Pointers.

-- the global behind a temporary, where this is what an instruction sets
abbrev pub moved : Option (ℕ × Option ℕ) → (ℕ → Option ℕ) → ℕ → Option ℕ
moved None before t = before t
moved (Some m) before t = elim (nat_eq m.0 t) [ true ↦ m.1 | false ↦ before t ]

pub behind-moved : (i : Instr) (before : ℕ → Option ℕ) (t : ℕ) → behind_by i before t ≡ moved (moved_by before i) before t
behind-moved (Instr.Addr to place) before t = refl
behind-moved (Instr.Decay to a shape) before t = refl
behind-moved (Instr.Index to a b words) before t = refl
behind-moved i before t = refl

below-either : (n : ℕ) (b : Bool) (o p : Option ℕ) → Below n o → Below n p → Below n (elim b as (λ b. Option ℕ) [ true ↦ o | false ↦ p ])
below-either n true o p ho hp = ho
below-either n false o p ho hp = hp

pub below-behind : (n : ℕ) (i : Instr) (before : ℕ → Option ℕ) (t : ℕ) → NamesWithin n i → ((t : ℕ) → Below n (before t)) → Below n (behind_by i before t)
below-behind n (Instr.Addr to place) before t names h = below-either n (nat_eq to t) (global_at place) (before t) names (h t)
below-behind n (Instr.Decay to a shape) before t names h = below-either n (nat_eq to t) (before a) (before t) (h a) (h t)
below-behind n (Instr.Index to a b words) before t names h = below-either n (nat_eq to t) (before a) (before t) (h a) (h t)
below-behind n (Instr.Const to k) before t names h = below-either n (nat_eq to t) None (before t) tt (h t)
below-behind n (Instr.Null to) before t names h = below-either n (nat_eq to t) None (before t) tt (h t)
below-behind n (Instr.Un to op a) before t names h = below-either n (nat_eq to t) None (before t) tt (h t)
below-behind n (Instr.Bin to op a b) before t names h = below-either n (nat_eq to t) None (before t) tt (h t)
below-behind n (Instr.Get to place r) before t names h = below-either n (nat_eq to t) None (before t) tt (h t)
below-behind n (Instr.Load to a r) before t names h = below-either n (nat_eq to t) None (before t) tt (h t)
below-behind n i before t names h = h t

-- Steps are about globals that exist.

within-by_global : (n : ℕ) (step : ℕ → Step) (o : Option ℕ) → ((g : ℕ) → g < n → IsStepWithin n (step g)) → Below n o → IfSome (by_global step o) (IsStepWithin n)
within-by_global n step None f h = tt
within-by_global n step (Some g) f h = f g h

pub step-within : (n : ℕ) (i : Instr) (before : ℕ → Option ℕ) → NamesWithin n i → ((t : ℕ) → Below n (before t)) → IfSome (step_of before i) (IsStepWithin n)
step-within n (Instr.Addr to place) before names h = within-by_global n _ (global_at place) (λ g below. tt) names
step-within n (Instr.Decay to a shape) before names h = within-by_global n _ (before a) (λ g below. tt) (h a)
step-within n (Instr.Index to a b words) before names h = within-by_global n _ (before a) (λ g below. tt) (h a)
step-within n (Instr.Get to place r) before names h = within-by_global n _ (global_at place) (λ g below. below) names
step-within n (Instr.Set place a d) before names h = within-by_global n _ (global_at place) (λ g below. below) names
step-within n (Instr.Load to a r) before names h = within-by_global n _ (before a) (λ g below. below) (h a)
step-within n (Instr.Store a b d) before names h = within-by_global n _ (before a) (λ g below. below) (h a)
step-within n i before names h = tt
