-- One instruction more of a straight line.
use Rattle.std.proofs.Common.{◌≡◌, ℕ, zero, suc, ◌+◌, ◌-◌, ◌<◌, true, false, ◌&&◌, List, [], ◌∷◌, ◌++◌, length, get_or, set, take, drop, reverse, Option, Some, None, inl, inr, refl, sym, ap, subst, ◌∙◌, arith}
use Rattle.std.specs.Prelude.{is_some, IfSome}
use Rattle.std.specs.List.{AllByRecursion}
use Rattle.std.proofs.lemmas.Bool.{cases_eq, eq-eqb, ne_eqb}
use Rattle.std.proofs.lemmas.List.{append_assoc, drop_more, get_or-set_other, get_or-set_same, reverse-append, take_more}
use Rattle.std.proofs.lemmas.List.Elements.{All-from_recursion}
use Rattle.tac_ir.specs.declared.code.Instr.{Instr}
use Rattle.tac_ir.specs.declared.code.Lined.{Lined}
use Rattle.first_module.specs.declared.steps.Step.{Step}
use Rattle.first_module.specs.StraightLine.{global_behind, is_plain, is_straight_behind}
use Rattle.first_module.specs.SetsOf.{definitions_of, set_by, sets_behind}
use Rattle.first_module.specs.tools.Steps.{IsStepWithin, definitions_after, last_of, moved_by, sets_in, step_of}
use Rattle.first_module.specs.tools.Trail.{HasTrail, Moves, NamesWithin, Sets}
use Rattle.first_module.proofs.StepLemmas.{behind-moved, below-behind, definitions-written, length-after, moved, plain-step, set-step, sets_known, step-within, target-step, write_known, written, written-list}

-- the last one is what is left behind the others
pub last_of-drop : (xs : List ℕ) → drop (length xs - 1) xs ≡ last_of xs
last_of-drop [] = refl
last_of-drop (x ∷ []) = refl
last_of-drop (x ∷ y ∷ rest) =
    let n = length rest in
    let two : suc (suc n) - 1 ≡ suc n = omega arith in
    let one : n ≡ suc n - 1 = omega arith in
    ap (λ k. drop k (x ∷ y ∷ rest)) two ∙ ap (λ k. drop k (y ∷ rest)) one ∙ last_of-drop (y ∷ rest)

-- the global behind a temporary in a list
abbrev pub in_list : List (Option ℕ) → ℕ → Option ℕ
in_list behind t = get_or behind t None

moves-moved : (old new : List (Option ℕ)) (i : Instr) → Moves old i new → (t : ℕ) → in_list new t ≡ moved (moved_by (in_list old) i) (in_list old) t
moves-moved old new i = by (moved_by (in_list old) i)
  where
    by : (o : Option (ℕ × Option ℕ)) → (elim o as (λ o. Type 0) [ None ↦ (t : ℕ) → in_list new t ≡ in_list old t | Some m ↦ Sets m.0 m.1 old new ]) → (t : ℕ) → in_list new t ≡ moved o (in_list old) t
    by None h t = h t
    by (Some m) h t = h t

module _ (globals : ℕ) (earlier : List Lined) (behind : List (Option ℕ)) (definitions : List (List ℕ)) (trail : HasTrail globals earlier behind definitions) where
  same_behind : in_list behind ≡ global_behind earlier
  same_behind = λ d. λ t. trail.behind_is t d

  -- the step of an instruction is about a global that exists
  pub within-step : (i : Instr) (step : Step) → NamesWithin globals i → step_of (in_list behind) i ≡ Some step → IsStepWithin (length definitions) step
  within-step i step names is =
      let h = step-within globals i (global_behind earlier) names trail.within in
      let is' : step_of (global_behind earlier) i ≡ Some step = ap (λ f. step_of f i) (sym same_behind) ∙ is in
      subst (λ n. IsStepWithin n step) (sym trail.count) (subst (λ o. IfSome o (IsStepWithin globals)) is' h)

  -- an instruction without a step ends a straight line
  pub plain-none : (i : Instr) → step_of (in_list behind) i ≡ None → is_plain earlier i ≡ false
  plain-none i is = plain-step earlier i ∙ ap (λ f. is_some (step_of f i)) (sym same_behind) ∙ ap is_some is

  module _ (l : Lined) (step : Step) (is : step_of (in_list behind) l.instr ≡ Some step) where
    is_step : step_of (global_behind earlier) l.instr ≡ Some step
    is_step = ap (λ f. step_of f l.instr) (sym same_behind) ∙ is

    pub plain : is_plain earlier l.instr ≡ true
    plain = plain-step earlier l.instr ∙ ap is_some is_step

    pub sets-here : set_by earlier l.instr ≡ sets_in (λ g. definitions_of g earlier) step
    sets-here = set-step earlier l.instr plain ∙ ap (sets_known (λ g. definitions_of g earlier)) is_step

    sets-list : IsStepWithin globals step → sets_in (λ g. get_or definitions g []) step ≡ sets_in (λ g. definitions_of g earlier) step
    sets-list = by step
      where
        by : (step : Step) → IsStepWithin globals step → sets_in (λ g. get_or definitions g []) step ≡ sets_in (λ g. definitions_of g earlier) step
        by Step.Quiet below = refl
        by (Step.Get g) below = ap (λ ds. last_of ds ∷ []) (trail.each g below)
        by (Step.Load g) below = ap (λ ds. ds ∷ []) (trail.each g below)
        by (Step.Write g d) below = refl

    below : NamesWithin globals l.instr → IsStepWithin globals step
    below names = subst (λ n. IsStepWithin n step) trail.count (within-step l.instr step names is)

    -- the set that the code adds
    pub sets-added : NamesWithin globals l.instr → sets_in (λ g. get_or definitions g []) step ≡ set_by earlier l.instr
    sets-added names = sets-list (below names) ∙ sym sets-here

    -- the trail behind the instruction
    pub trail-more : NamesWithin globals l.instr → (behind' : List (Option ℕ)) → Moves behind l.instr behind' → HasTrail globals (l ∷ earlier) behind' (definitions_after step definitions)
    trail-more names behind' moves = record {
      count = length-after step definitions ∙ trail.count;
      each = λ g less.
          written-list globals g step definitions trail.count (below names) less
          ∙ ap (written g (write_known (Some step))) (trail.each g less)
          ∙ ap (λ o. written g (write_known o) (definitions_of g earlier)) (sym is_step)
          ∙ ap (λ o. written g o (definitions_of g earlier)) (sym (target-step earlier l.instr plain))
          ∙ sym (definitions-written g earlier l);
      behind_is = λ t.
          moves-moved behind behind' l.instr moves t
          ∙ ap (λ f. moved (moved_by f l.instr) f t) same_behind
          ∙ sym (behind-moved l.instr (global_behind earlier) t);
      within = λ t. below-behind globals l.instr (global_behind earlier) t names trail.within;
    }

-- Instruction i of a line.
module _ (code : List Lined) (i : ℕ) (l : Lined) (within : i < length code) (is : l ≡ get_or code i l) where
  pub earlier-more : reverse (take (i + 1) code) ≡ l ∷ reverse (take i code)
  earlier-more = ap reverse (take_more code i l within) ∙ reverse-append (take i code) (get_or code i l ∷ []) ∙ ap (λ x. x ∷ reverse (take i code)) (sym is)

  pub rest-more : drop i code ≡ l ∷ drop (i + 1) code
  rest-more = drop_more code i l within ∙ ap (λ x. x ∷ drop (i + 1) code) (sym is)

  pub names-here : (P : Lined → Type 0) → AllByRecursion P code → P l
  names-here P all = subst P (sym is) (All-from_recursion P code all i l within)

  -- the code is straight if this instruction is plain and the rest is straight
  pub straight-here : is_straight_behind (reverse (take i code)) (drop i code) ≡ (is_plain (reverse (take i code)) l.instr && is_straight_behind (l ∷ reverse (take i code)) (drop (i + 1) code))
  straight-here = ap (is_straight_behind (reverse (take i code))) rest-more

  pub straight-more : is_plain (reverse (take i code)) l.instr ≡ true → is_straight_behind (reverse (take (i + 1) code)) (drop (i + 1) code) ≡ is_straight_behind (reverse (take i code)) (drop i code)
  straight-more plain =
      ap (λ earlier. is_straight_behind earlier (drop (i + 1) code)) earlier-more
      ∙ ap (λ b. b && is_straight_behind (l ∷ reverse (take i code)) (drop (i + 1) code)) (sym plain)
      ∙ sym straight-here

  pub straight-not : is_plain (reverse (take i code)) l.instr ≡ false → is_straight_behind (reverse (take i code)) (drop i code) ≡ false
  straight-not none = straight-here ∙ ap (λ b. b && is_straight_behind (l ∷ reverse (take i code)) (drop (i + 1) code)) none

  pub sets-more : (sets sets' whole : List (List ℕ)) → sets ++ sets_behind (reverse (take i code)) (drop i code) ≡ whole → sets' ≡ sets ++ set_by (reverse (take i code)) l.instr
      → sets' ++ sets_behind (reverse (take (i + 1) code)) (drop (i + 1) code) ≡ whole
  sets-more sets sets' whole before added =
      let here = set_by (reverse (take i code)) l.instr in
      ap (λ xs. xs ++ sets_behind (reverse (take (i + 1) code)) (drop (i + 1) code)) added
      ∙ ap (λ earlier. (sets ++ here) ++ sets_behind earlier (drop (i + 1) code)) earlier-more
      ∙ append_assoc sets here _
      ∙ ap (λ rest. sets ++ sets_behind (reverse (take i code)) rest) (sym rest-more)
      ∙ before

-- a temporary without a global behind it, at the end of a list
pub none-push : (xs : List (Option ℕ)) (t : ℕ) → get_or (xs ++ None ∷ []) t None ≡ get_or xs t None
none-push [] zero = refl
none-push [] (suc t) = refl
none-push (x ∷ xs) zero = refl
none-push (x ∷ xs) (suc t) = none-push xs t

-- the global behind a temporary is set where there is room
pub sets-set : (temp : ℕ) (global : Option ℕ) (old room : List (Option ℕ)) → temp < length room → ((t : ℕ) → get_or room t None ≡ get_or old t None) → Sets temp global old (set room temp global)
sets-set temp global old room inside same t =
    elim (cases_eq t temp) [
      | inl here ↦
          ap (λ k. get_or (set room temp global) k None) here ∙ get_or-set_same room temp global None inside
          ∙ sym (ap (λ b. elim b as (λ b. Option ℕ) [ true ↦ global | false ↦ get_or old t None ]) (eq-eqb temp t (sym here)))
      | inr other ↦
          get_or-set_other room temp t global None other ∙ same t
          ∙ sym (ap (λ b. elim b as (λ b. Option ℕ) [ true ↦ global | false ↦ get_or old t None ]) (ne_eqb temp t (λ e. other (sym e))))
    ]
