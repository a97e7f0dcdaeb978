-- What the walk finds of a variable of a block, with its value, is what the definition judges of it.
use Rattle.std.proofs.Common.{◌≡◌, ◌≢◌, ℕ, ◌+◌, Bool, true, false, ◌&&◌, not, List, [], ◌∷◌, ◌++◌, length, Option, Some, None, Ok, Err, nat_eq, nat_le, refl, ap, sym, ◌∙◌, subst, append_assoc, arith}
use Rattle.std.proofs.lemmas.List.{append-nil}
use Rattle.dfi_base.specs.declared.numbers.Line.{Line}
use Rattle.c_ast.specs.declared.ident.Ident.{Ident}
use Rattle.c_ast.specs.declared.decl.Declarator.{Declarator}
use Rattle.c_ast.specs.declared.expr.Expr.{Expr as SourceExpr}
use Rattle.c_typed.specs.declared.fault.BigWhat.{BigWhat}
use Rattle.c_typed.specs.declared.fault.TypeFault.{TypeFault}
use Rattle.c_typed.specs.declared.types.ObjectType.{ObjectType}
use Rattle.c_typed.specs.declared.expr.Expr.{Expr}
use Rattle.c_typed.specs.declared.stmt.Stmt.{Stmt}
use Rattle.c_types.specs.declared.outline.Outline.{Outline}
use Rattle.c_types.specs.declared.known.Known.{Known}
use Rattle.c_typed.specs.Types.{fits, words_of}
use Rattle.c_typed.specs.Marks.{History, local, is_declared, locals_in, frame_words}
use Rattle.c_typed.specs.Whole.{Whole}
use Rattle.c_typed.specs.Faults.{Fault, twice, mismatch, big, unless, told_by}
use Rattle.c_typed.specs.Parts.{Place, Judged, Part, marked, tokens, behind, kept_by, ruled_by, obeys, with_faults, ◌<⊗◌, ◌⊗>◌}
use Rattle.c_typed.specs.Exprs.{expr, value}
use Rattle.c_typed.specs.Decls as decls
use Rattle.c_typed.specs.Decls.{has_items, type_limit, frame_limit, name_at, declared, starts_with}
use Rattle.c_types.specs.tools.Answers.{precedes, earlier, least, Answers}
use Rattle.c_types.specs.tools.Steps.{Found, ◌>>=◌, if_some}
use Rattle.c_types.specs.tools.Outlines as outlines
use Rattle.c_types.specs.tools.Outlines.{capped}
use Rattle.c_types.specs.tools.ExprWalk as walk
use Rattle.c_types.specs.tools.ExprWalk.{expr_walk}
use Rattle.c_types.specs.tools.DeclWalk as steps
use Rattle.c_types.specs.tools.DeclWalk.{name_fault, name_first, declarator_rule, valued_by, assigned, local_walk}
use Rattle.c_types.specs.tools.KnownSteps.{declare_local}
use Rattle.c_types.proofs.Bounds.{IsInside, inside}
use Rattle.c_types.proofs.BoundsExprs.{bounded_value}
use Rattle.c_types.proofs.BoundsDecls.{bounded_declared}
use Rattle.c_typed.proofs.Quiet.{quiet}
use Rattle.c_types.proofs.Tells.{Tells, both_result, answers_tell, tells_joined, tells_before, tells_unjudged}
use Rattle.c_types.proofs.Outlined.{IsOutline}
use Rattle.c_types.proofs.OutlineWords.{words_same, capped_sum, capped_le}
use Rattle.c_types.proofs.Standing.{names_of, declared_here, count_locals, stands_local, framed_local, inner_local}
use Rattle.c_types.proofs.ExprAnswers.{value_answers}
use Rattle.c_types.proofs.LevelAnswers.{expr_agrees}
use Rattle.c_types.proofs.WalkNamed.{IsNamed, not_memory, value_named}
use Rattle.c_types.proofs.Walking.{result_of, ok_is, err_ok}
use Rattle.c_types.proofs.WalkAnswers.{Within, Walks}
use Rattle.c_types.proofs.LocalAnswers.{name_faults, first_of, first_name, head, told_at, IsFirstTold, rule_kept, rule_broken}

-- The faults of a declarator, its own and those of its name.
abbrev new_name : Declarator → History → Bool
new_name d h = not (is_declared d.name.name 0 h)

abbrev small_type : Whole → ObjectType → Bool
small_type w t = nat_le (words_of w.sizes t) type_limit

abbrev small_frame : Whole → Declarator → ObjectType → History → Bool
small_frame w d t h = nat_le (frame_words w.sizes (local d.name t ∷ h)) frame_limit

abbrev own_faults : Declarator → ObjectType → Place → List Fault
own_faults d t here = unless (has_items t.lengths) here.at mismatch d.line

abbrev of_name : Whole → Declarator → ObjectType → Place → List Fault
of_name w d t here = name_faults (name_at d here) d.name.line (new_name d here.before) (small_type w t) (small_frame w d t here.before)

abbrev first_fault : Whole → Declarator → ObjectType → Place → Option Fault
first_fault w d t here = first_of (name_at d here) d.name.line (new_name d here.before) (small_type w t) (small_frame w d t here.before)

in_two : (w : Whole) (d : Declarator) (t : ObjectType) (here : Place) → ((declared w d t).judge here).faults ≡ own_faults d t here ++ of_name w d t here
in_two w d t here =
    let fs = own_faults d t here in
    let gs = unless (new_name d here.before) (name_at d here) twice d.name.line in
    let hs = unless (small_type w t) (name_at d here) (big BigWhat.Shape) d.name.line in
    let ks = unless (small_frame w d t here.before) (name_at d here) (big BigWhat.Frame) d.name.line in
    append-nil (fs ++ gs ++ hs ++ ks) ∙ ap (λ xs. xs ++ ks) (append_assoc fs gs hs) ∙ append_assoc fs (gs ++ hs) ks

-- what the walk tells of a name is its first fault
name_as : (n : ℕ) (line : Line) (declared shape frame : Bool) →
    elim declared as (λ b. Option TypeFault) [
      | true ↦ Some (told_by twice line)
      | false ↦ elim shape as (λ b. Option TypeFault) [
        | false ↦ Some (told_by (big BigWhat.Shape) line)
        | true ↦ elim frame as (λ b. Option TypeFault) [ true ↦ None | false ↦ Some (told_by (big BigWhat.Frame) line) ]
      ]
    ] ≡ told_at n line (not declared) shape frame
name_as n line true shape frame = refl
name_as n line false false frame = refl
name_as n line false true false = refl
name_as n line false true true = refl

abbrev fault_by : Line → Bool → Bool → Bool → Option TypeFault
fault_by line declared shape frame =
    elim declared as (λ b. Option TypeFault) [
      | true ↦ Some (told_by twice line)
      | false ↦ elim shape as (λ b. Option TypeFault) [
        | false ↦ Some (told_by (big BigWhat.Shape) line)
        | true ↦ elim frame as (λ b. Option TypeFault) [ true ↦ None | false ↦ Some (told_by (big BigWhat.Frame) line) ]
      ]
    ]

module _ (w : Whole) (o : Outline) (is_outline : IsOutline w o) where
  name_told : (d : Declarator) (t : ObjectType) (here : Place) (k : Known) → Within w here.before k
      → name_fault o k d.name t ≡ told_at (name_at d here) d.name.line (new_name d here.before) (small_type w t) (small_frame w d t here.before)
  name_told d t here k is =
      let words = words_same w o is_outline t in
      let shape : nat_le (outlines.words_of o t) 24576 ≡ small_type w t = ap (λ n. nat_le n 24576) words ∙ capped_le 24576 (words_of w.sizes t) (omega arith) in
      let sum : capped (outlines.words_of o t + k.frame.words) ≡ capped (frame_words w.sizes (local d.name t ∷ here.before)) =
      ap (λ n. capped (n + k.frame.words)) words ∙ ap (λ n. capped (capped (words_of w.sizes t) + n)) is.framed.words ∙ capped_sum (words_of w.sizes t) (frame_words w.sizes here.before) in
      let frame : nat_le (capped (outlines.words_of o t + k.frame.words)) 4096 ≡ small_frame w d t here.before =
      ap (λ n. nat_le n 4096) sum ∙ capped_le 4096 (frame_words w.sizes (local d.name t ∷ here.before)) (omega arith) in
      ap (λ b. fault_by d.name.line b (nat_le (outlines.words_of o t) 24576) (nat_le (capped (outlines.words_of o t + k.frame.words)) 4096)) (declared_here is.stands is.inner d.name.name)
      ∙ ap (λ b. fault_by d.name.line (is_declared d.name.name 0 here.before) b (nat_le (capped (outlines.words_of o t + k.frame.words)) 4096)) shape
      ∙ ap (fault_by d.name.line (is_declared d.name.name 0 here.before) (small_type w t)) frame
      ∙ name_as (name_at d here) d.name.line (is_declared d.name.name 0 here.before) (small_type w t) (small_frame w d t here.before)

  twice_not : (b : Bool) → not (not b) ≡ b
  twice_not true = refl
  twice_not false = refl

  first_same : (d : Declarator) (here : Place) (k : Known) → Within w here.before k → name_first k d ≡ (nat_eq d.stars 0 && not (new_name d here.before))
  first_same d here k is = ap (λ b. nat_eq d.stars 0 && b) (declared_here is.stands is.inner d.name.name ∙ sym (twice_not (is_declared d.name.name 0 here.before)))

  -- the walk's rule of a declarator, for whether its own rule is kept
  abbrev pub rule_found : Declarator → ObjectType → Known → Bool → Found (Unit {0})
  rule_found d t k kept = declarator_rule (name_first k d) d.line kept (name_fault o k d.name t)

  -- the first fault where the declarator's own rule is kept, or broken
  abbrev pub first_with : Declarator → ObjectType → Place → Bool → Option Fault
  first_with d t here true = first_fault w d t here
  first_with d t here false = earlier (head here.at d.line) (first_fault w d t here)

  rule_told : (d : Declarator) (t : ObjectType) (here : Place) (k : Known) (kept : Bool) → Within w here.before k → IsFirstTold (first_with d t here kept) (rule_found d t k kept)
  rule_told d t here k true is =
      subst (λ f. IsFirstTold (first_fault w d t here) (declarator_rule (name_first k d) d.line true f)) (sym (name_told d t here k is))
      (rule_kept (name_first k d) d.line (name_at d here) d.name.line (new_name d here.before) (small_type w t) (small_frame w d t here.before))
  rule_told d t here k false is =
      subst (λ f. IsFirstTold (earlier (head here.at d.line) (first_fault w d t here)) (declarator_rule (name_first k d) d.line false f)) (sym (name_told d t here k is))
      (subst (λ b. IsFirstTold (earlier (head here.at d.line) (first_fault w d t here)) (declarator_rule b d.line false (told_at (name_at d here) d.name.line (new_name d here.before) (small_type w t) (small_frame w d t here.before))))
      (sym (first_same d here k is))
      (rule_broken here.at d.stars d.line d.name.line (new_name d here.before) (small_type w t) (small_frame w d t here.before)))

  own_first : (d : Declarator) (t : ObjectType) (here : Place) (b : Bool) → least (unless b here.at mismatch d.line ++ of_name w d t here) ≡ first_with d t here b
  own_first d t here true = first_name (name_at d here) d.name.line (new_name d here.before) (small_type w t) (small_frame w d t here.before)
  own_first d t here false = ap (earlier (head here.at d.line)) (first_name (name_at d here) d.name.line (new_name d here.before) (small_type w t) (small_frame w d t here.before))

  declared_first : (d : Declarator) (t : ObjectType) (here : Place) → least ((declared w d t).judge here).faults ≡ first_with d t here (has_items t.lengths)
  declared_first d t here = ap least (in_two w d t here) ∙ own_first d t here (has_items t.lengths)

-- No least fault, no fault.
abbrev IsSome' : Option Fault → Type 0
IsSome' None = ⊥
IsSome' (Some f) = Unit {0}

earlier_some : (f : Fault) (o : Option Fault) → IsSome' (earlier f o)
earlier_some f None = tt
earlier_some f (Some g) = elim (precedes f g) as (λ b. IsSome' (elim b [ true ↦ Some f | false ↦ Some g ])) [ true ↦ tt | false ↦ tt ]

pub none_least : (fs : List Fault) → least fs ≡ None → fs ≡ []
none_least [] e = refl
none_least (f ∷ fs) e = absurd (subst IsSome' e (earlier_some f (least fs)))

-- a part with a value and these faults, and what the walk tells of them
pub tells_first_of : {A : Type 0} (j : Judged A) (a : A) (o : Option Fault) (r : Found (Unit {0})) → least j.faults ≡ o → j.value ≡ Some a → IsFirstTold o r → Tells j (r >>= (λ u. Ok a))
tells_first_of j a None r first value is = subst (λ r. Tells j (r >>= (λ u. Ok a))) (sym is) (none_least j.faults first, value)
tells_first_of j a (Some f) r first value is = subst (λ r. Tells j (r >>= (λ u. Ok a))) (sym is) (λ wanted. record { fault = f; first = first; told = refl })

-- the same fault twice
chosen_again : (f g : Fault) (b : Bool) → precedes f g ≡ b → earlier f (elim b [ true ↦ Some f | false ↦ Some g ]) ≡ elim b [ true ↦ Some f | false ↦ Some g ]
chosen_again f g true e = elim (precedes f f) as (λ b. elim b [ true ↦ Some f | false ↦ Some f ] ≡ Some f) [ true ↦ refl | false ↦ refl ]
chosen_again f g false e = ap (λ b. elim b [ true ↦ Some f | false ↦ Some g ]) e

pub earlier_again : (f : Fault) (o : Option Fault) → earlier f (earlier f o) ≡ earlier f o
earlier_again f None = elim (precedes f f) as (λ b. elim b [ true ↦ Some f | false ↦ Some f ] ≡ Some f) [ true ↦ refl | false ↦ refl ]
earlier_again f (Some g) = chosen_again f g (precedes f g) refl

-- a part without a value
tells_without : {A : Type 0} (j : Judged A) (a : A) (o : Option Fault) (r : Found (Unit {0})) → least j.faults ≡ o → IsSome' o → IsFirstTold o r → Tells j (r >>= (λ u. Ok a))
tells_without j a None r first there is = absurd there
tells_without j a (Some f) r first there is = subst (λ r. Tells j (r >>= (λ u. Ok a))) (sym is) (λ wanted. record { fault = f; first = first; told = refl })

-- Values.
abbrev list_of : Found (Option Stmt) → Found (List Stmt)
list_of f = f >>= (λ o. Ok (if_some o))

to_list : {A : Type 0} (r : Found A) (g : A → Option Stmt) → list_of (r >>= (λ a. Ok (g a))) ≡ (r >>= (λ a. Ok (if_some (g a))))
to_list (Ok a) g = refl
to_list (Err e) g = refl

refused_list : (r : Found (Unit {0})) (x : TypeFault) → list_of (r >>= (λ u. Err x)) ≡ both_result (λ a b. b) (r >>= (λ u. Ok u)) (Err x)
refused_list (Ok u) x = refl
refused_list (Err e) x = refl

same_unit : (r : Found (Unit {0})) → (r >>= (λ u. Ok (tt {0}))) ≡ (r >>= (λ u. Ok u))
same_unit (Ok u) = refl
same_unit (Err e) = refl

module _ (w : Whole) (o : Outline) (is_outline : IsOutline w o) where
  none_told : (d : Declarator) (t : ObjectType) (here : Place) (k : Known) → Within w here.before k → Tells ((decls.valued w d t None).judge here) (list_of (steps.valued o k d t None))
  none_told d t here k is =
      let r = rule_found w o is_outline d t k (has_items t.lengths) in
      subst (Tells ((decls.valued w d t None).judge here)) (sym (to_list r (λ u. None)))
      (tells_first_of ((decls.valued w d t None).judge here) [] (first_with w o is_outline d t here (has_items t.lengths)) r (declared_first w o is_outline d t here) refl (rule_told w o is_outline d t here k (has_items t.lengths) is))

  -- a value that is whole: it fits or not
  abbrev kept_there : Declarator → Stmt → Place → List Fault → Bool → Judged (List Stmt)
  kept_there d s here fs fitting = kept_by mismatch d.line here.at fs (elim fitting as (λ b. Option (List Stmt)) [ true ↦ Some (s ∷ []) | false ↦ None ])

  fitted : (d : Declarator) (t : ObjectType) (here : Place) (k : Known) (s : Stmt) (fs : List Fault) (items fitting : Bool) → Within w here.before k → least fs ≡ first_with w o is_outline d t here items
      → Tells (kept_there d s here fs fitting) (rule_found w o is_outline d t k (items && fitting) >>= (λ u. Ok (s ∷ [])))
  fitted d t here k s fs true true is first =
      tells_first_of (kept_there d s here fs true) (s ∷ []) (first_with w o is_outline d t here true) (rule_found w o is_outline d t k true) first refl (rule_told w o is_outline d t here k true is)
  fitted d t here k s fs false true is first =
      tells_first_of (kept_there d s here fs true) (s ∷ []) (first_with w o is_outline d t here false) (rule_found w o is_outline d t k false) first refl (rule_told w o is_outline d t here k false is)
  fitted d t here k s fs true false is first =
      tells_without (kept_there d s here fs false) (s ∷ []) (first_with w o is_outline d t here false) (rule_found w o is_outline d t k false) (ap (earlier (head here.at d.line)) first)
      (earlier_some (head here.at d.line) (first_fault w d t here)) (rule_told w o is_outline d t here k false is)
  fitted d t here k s fs false false is first =
      tells_without (kept_there d s here fs false) (s ∷ []) (first_with w o is_outline d t here false) (rule_found w o is_outline d t k false)
      (ap (earlier (head here.at d.line)) first ∙ earlier_again (head here.at d.line) (first_fault w d t here))
      (earlier_some (head here.at d.line) (first_fault w d t here)) (rule_told w o is_outline d t here k false is)

  abbrev with_value : Declarator → ObjectType → Part Expr → Part Expr
  with_value d t q = declared w d t ⊗> tokens 1 ⊗> q

  abbrev value_place : Declarator → ObjectType → Place → Place
  value_place d t here = behind (declared w d t <⊗ tokens 1) here

  abbrev judged_value : Declarator → ObjectType → Part Expr → Place → Judged (List Stmt)
  judged_value d t q here = (obeys mismatch d.line (λ h v. starts_with d t (locals_in h) v) (with_value d t q)).judge here

  value_told : (d : Declarator) (t : ObjectType) (q : Part Expr) (here : Place) (k : Known) (v : Expr) → Within w here.before k → Answers (q.judge (value_place d t here)) (Ok v)
      → Tells (judged_value d t q here) (list_of (valued_by (name_first k d) d.line t (length k.frame.variables) (name_fault o k d.name t) (Ok v)))
  value_told d t q here k v is answers =
      let s = assigned d.line t (locals_in here.before) v in
      let own = ((declared w d t).judge here).faults in
      let p = (with_value d t q).judge here in
      let none : p.faults ≡ own = ap (λ fs. (own ++ []) ++ fs) answers.0 ∙ append-nil (own ++ []) ∙ append-nil own in
      let there : p.value ≡ Some v = ap (λ o. Rattle.c_typed.specs.Parts.both_values (λ (u : Unit {0}) (b : Expr). b) (Some tt) o) answers.1 in
      let judged : judged_value d t q here ≡ kept_there d s here p.faults (fits v.typing t) = ap (ruled_by mismatch d.line (starts_with d t (locals_in here.before)) here.at p.faults) there in
      let r = rule_found w o is_outline d t k (has_items t.lengths && fits v.typing t) in
      let count : length k.frame.variables ≡ locals_in here.before = ap length is.framed.variables ∙ count_locals here.before in
      subst (Tells (judged_value d t q here))
      (sym (to_list r (λ u. Some (assigned d.line t (length k.frame.variables) v)) ∙ ap (λ n. r >>= (λ u. Ok (assigned d.line t n v ∷ []))) count))
      (subst (λ j. Tells j (r >>= (λ u. Ok (s ∷ [])))) (sym judged)
      (fitted d t here k s p.faults (has_items t.lengths) (fits v.typing t) is (ap least none ∙ declared_first w o is_outline d t here)))

  -- a value that is not whole
  unjudged : (d : Declarator) (t : ObjectType) (q : Part Expr) (here : Place) (r : Found (Unit {0})) (x : TypeFault) → ((with_value d t q).judge here).value ≡ None
      → Tells ((with_value d t q).judge here) (both_result (λ a b. b) r (Err x)) → Tells (judged_value d t q here) (both_result (λ a b. b) r (Err x))
  unjudged d t q here (Ok u) x none tells = tells_unjudged mismatch d.line (starts_with d t (locals_in here.before)) here ((with_value d t q).judge here) x none tells
  unjudged d t q here (Err e) x none tells = tells_unjudged mismatch d.line (starts_with d t (locals_in here.before)) here ((with_value d t q).judge here) e none tells

  fault_told : (d : Declarator) (t : ObjectType) (q : Part Expr) (here : Place) (k : Known) (x : TypeFault) → IsInside q → x ≢ TypeFault.Memory → Within w here.before k → Answers (q.judge (value_place d t here)) (Err x)
      → Tells (judged_value d t q here) (list_of (valued_by (name_first k d) d.line t (length k.frame.variables) (name_fault o k d.name t) (Err x)))
  fault_told d t q here k x inside_q wanted is answers =
      let r = rule_found w o is_outline d t k (has_items t.lengths) in
      let p = declared w d t ⊗> tokens 1 in
      let no = answers wanted in
      let own : Tells ((declared w d t).judge here) (r >>= (λ u. Ok (tt {0}))) =
      tells_first_of ((declared w d t).judge here) (tt {0}) (first_with w o is_outline d t here (has_items t.lengths)) r (declared_first w o is_outline d t here) refl (rule_told w o is_outline d t here k (has_items t.lengths) is) in
      let first : Tells (p.judge here) (r >>= (λ u. Ok u)) = subst (Tells (p.judge here)) (same_unit r) (tells_before 1 (declared w d t) here (r >>= (λ u. Ok (tt {0}))) own) in
      let inside_p : IsInside p = Rattle.c_types.proofs.Bounds.inside_joined (λ a b. b) (declared w d t) (tokens 1) (inside (declared w d t) (bounded_declared w d t)) (Rattle.c_types.proofs.Bounds.inside_tokens 1) in
      subst (Tells (judged_value d t q here)) (sym (refused_list r x))
      (unjudged d t q here (r >>= (λ u. Ok u)) x (ap (λ o. Rattle.c_typed.specs.Parts.both_values (λ (u : Unit {0}) (b : Expr). b) (Some tt) o) no.broken)
      (tells_joined (λ a b. b) p q here (r >>= (λ u. Ok u)) (Err x) inside_p inside_q first (λ u e. answers_tell (q.judge (value_place d t here)) (Err x) answers)))

  pub within_local : (x : Ident) (t : ObjectType) (h : History) (k : Known) → Within w h k → Within w (local x t ∷ h) (declare_local o x t k)
  within_local x t h k is = record {
    stands = stands_local o x t h k (ap length is.framed.variables ∙ count_locals h) is.stands;
    framed = framed_local w o is_outline x t h k.frame is.framed;
    inner = inner_local x t h is.inner;
  }

  by_value_found : (d : Declarator) (t : ObjectType) (q : Part Expr) (here : Place) (k : Known) (v : Found Expr) → IsInside q → IsNamed v → Within w here.before k → Answers (q.judge (value_place d t here)) v
      → Tells (judged_value d t q here) (list_of (valued_by (name_first k d) d.line t (length k.frame.variables) (name_fault o k d.name t) v))
  by_value_found d t q here k (Ok v) inside_q named is answers = value_told d t q here k v is answers
  by_value_found d t q here k (Err x) inside_q named is answers = fault_told d t q here k x inside_q (not_memory named) is answers

  valued_told : (d : Declarator) (t : ObjectType) (v : Option SourceExpr) (here : Place) (k : Known) → Within w here.before k → Tells ((decls.valued w d t v).judge here) (list_of (steps.valued o k d t v))
  valued_told d t None here k is = none_told d t here k is
  valued_told d t (Some e) here k is =
      let l = declare_local o d.name t k in
      let behind_name = within_local d.name t here.before k is in
      let agrees = expr_agrees w o (local d.name t ∷ here.before) l is_outline (names_of behind_name.stands) e in
      by_value_found d t (value (expr w e)) here k (walk.value (expr_walk o l e)) (inside (value (expr w e)) (bounded_value (expr w e) agrees.read)) (value_named o l e) is
      (value_answers (local d.name t ∷ here.before) (expr w e) (expr_walk o l e) agrees (value_place d t here) refl)

  -- an item, with what is known behind it
  abbrev pub listed : Found (Option Stmt × Known) → Found (List Stmt × Known)
  listed r = r >>= (λ s. Ok (if_some s.0, s.1))

  list_result : (f : Found (Option Stmt)) (l : Known) → result_of (listed (f >>= (λ ss. Ok (ss, l)))) ≡ list_of f
  list_result (Ok o) l = refl
  list_result (Err e) l = refl

  known_behind : (f : Found (Option Stmt)) (l : Known) (s : List Stmt × Known) → listed (f >>= (λ ss. Ok (ss, l))) ≡ Ok s → l ≡ s.1
  known_behind (Ok o) l s e = ap (λ s. s.1) (ok_is e)
  known_behind (Err x) l s e = absurd (err_ok e)

  valued_marks : (d : Declarator) (t : ObjectType) (v : Option SourceExpr) (h : History) → marked (decls.valued w d t v).marks h ≡ local d.name t ∷ h
  valued_marks d t None h = refl
  valued_marks d t (Some e) h = ap (λ ms. marked (local d.name t ∷ ms) h) (quiet w e)

  pub local_walks : (d : Declarator) (t : ObjectType) (v : Option SourceExpr) (here : Place) (k : Known) → Within w here.before k → Walks w (decls.valued w d t v) here (listed (local_walk o k d t v))
  local_walks d t v here k is =
      let l = declare_local o d.name t k in
      record {
        tells = subst (Tells ((decls.valued w d t v).judge here)) (sym (list_result (steps.valued o k d t v) l)) (valued_told d t v here k is);
        stands = λ s e. subst (λ h. Within w h s.1) (sym (valued_marks d t v here.before)) (subst (Within w (local d.name t ∷ here.before)) (known_behind (steps.valued o k d t v) l s e) (within_local d.name t here.before k is));
      }
