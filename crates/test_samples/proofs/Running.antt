-- A test of modules: what passes it can run.
use Rattle.std.proofs.Common.{◌≡◌, ℕ, zero, suc, ◌≤◌, ◌<◌, List, [], ◌∷◌, length, get_or, Bool, true, false, refl, Some, None, Ok, Err, IfOk, arith, sym, ◌∙◌, ap, subst}
use Rattle.std.specs.Prelude.{nat_le, nat_eq, not, ◌&&◌, ◌||◌, ◌==◌, slice_get, All, Result}
use Rattle.std.specs.List.{list_all}
use Rattle.std.specs.declared.alloc.AllocError.{AllocError}
use Rattle.std.proofs.lemmas.Bool.{eqb-true, eq-eqb, leb-true}
use Rattle.tac_ir.specs.Module.{Module}
use Rattle.tac_ir.specs.Numbers.{defs_in_code}
use Rattle.tac_ir.specs.Answers.{has, set_of, class_of}
use Rattle.tac_ir.proofs.FormTest.{form_test, form_good}
use Rattle.word_table.specs.Tables.{IsNumberOf, CanRun}
use Rattle.word_table.specs.tools.Classes.{is_class_in}

left_of : (a b : Bool) → (a && b) ≡ true → a ≡ true
left_of true b h = refl
left_of false b h = h

right_of : (a b : Bool) → (a && b) ≡ true → b ≡ true
right_of true b h = h
right_of false b h = cc

-- Tests.

abbrev is_number : Module → ℕ → Bool
is_number m n = nat_le 1 n && nat_le n (defs_in_code m.code)

number_is : (m : Module) (n : ℕ) → is_number m n ≡ true → IsNumberOf m n
number_is m n h = (leb-true 1 n (left_of _ _ h), leb-true n (defs_in_code m.code) (right_of _ _ h))

all_is : {A : Type 0} (test : A → Bool) (P : A → Type 0) → ((x : A) → test x ≡ true → P x) → (xs : List A) → list_all test xs ≡ true → All P xs
all_is test P each [] h = λ i d within. absurd (omega (arith, within))
all_is {A} test P each (x ∷ xs) h = λ i d within. at i d within (all_is test P each xs (right_of _ _ h))
  where
    at : (i : ℕ) (d : A) → i < length (x ∷ xs) → All P xs → P (get_or (x ∷ xs) i d)
    at zero d within rest = each x (left_of _ _ h)
    at (suc i) d within rest = rest i d (omega (arith, within))

-- each definition up to n is in the set where its class is that of a member
abbrev is_apart : Module → List ℕ → ℕ → Bool
is_apart m set zero = true
is_apart m set (suc d) = (not (is_class_in m set (class_of m (suc d))) || has set (suc d)) && is_apart m set d

apart_is : (m : Module) (set : List ℕ) (n d : ℕ) → is_apart m set n ≡ true → 1 ≤ d → d ≤ n → is_class_in m set (class_of m d) ≡ true → has set d ≡ true
apart_is m set zero d h low high class = absurd (omega (arith, low, high))
apart_is m set (suc n) d h low high class = by (nat_eq d (suc n)) refl (apart_is m set n d (right_of _ _ h) low)
  where
    unless : (a b : Bool) → (not a || b) ≡ true → a ≡ true → b ≡ true
    unless true b h e = h
    unless false b h e = cc

    by : (b : Bool) → nat_eq d (suc n) ≡ b → (d ≤ n → is_class_in m set (class_of m d) ≡ true → has set d ≡ true) → has set d ≡ true
    by true is rest =
        let same : suc n ≡ d = sym (eqb-true _ _ is) in
        subst (λ k. has set k ≡ true) same (unless _ _ (left_of _ _ h) (subst (λ k. is_class_in m set (class_of m k) ≡ true) (sym same) class))
    by false is rest = rest (omega (arith, high, λ (e : d ≡ suc n). (let clash : false ≡ true = sym is ∙ eq-eqb d (suc n) e in let none : ⊥ = cc in none))) class

or_true : (b : Bool) → (b || true) ≡ true
or_true true = refl
or_true false = refl

member_class : (m : Module) (set : List ℕ) (e k : ℕ) → has set e ≡ true → k ≡ class_of m e → is_class_in m set k ≡ true
member_class m [] e k h is = cc
member_class m (x ∷ set) e k h is = by (nat_eq x e) refl h (member_class m set e k)
  where
    by : (b : Bool) → nat_eq x e ≡ b → (b || has set e) ≡ true → (has set e ≡ true → k ≡ class_of m e → is_class_in m set k ≡ true) → is_class_in m (x ∷ set) k ≡ true
    by true q h rest = ap (λ b. b || is_class_in m set k) (eq-eqb (class_of m x) k (ap (class_of m) (eqb-true x e q) ∙ sym is))
    by false q h rest = ap (λ b. (class_of m x == k) || b) (rest h is) ∙ or_true _

abbrev pub can_run_test : Module → Bool
can_run_test m =
    form_test m.code && (nat_eq (length m.classes) (defs_in_code m.code)
    && (list_all (is_number m) m.classes && (list_all (list_all (is_number m)) m.sets && list_all (λ set. is_apart m set (defs_in_code m.code)) m.sets)))

set_in : (P : List ℕ → Bool) (m : Module) (r : ℕ) → P [] ≡ true → list_all P m.sets ≡ true → P (set_of m r) ≡ true
set_in P m zero none all = none
set_in P m (suc r) none all = by m.sets r all
  where
    by : (sets : List (List ℕ)) (r : ℕ) → list_all P sets ≡ true → P (elim (slice_get sets r) [ None ↦ [] | Some set ↦ set ]) ≡ true
    by [] r h = none
    by (x ∷ sets) zero h = left_of _ _ h
    by (x ∷ sets) (suc r) h = by sets r (right_of _ _ h)

none_apart : (m : Module) (n : ℕ) → is_apart m [] n ≡ true
none_apart m zero = refl
none_apart m (suc n) = none_apart m n

can_run : (m : Module) → can_run_test m ≡ true → CanRun m
can_run m h =
    let a = left_of _ _ h in
    let b = right_of _ _ h in
    let c = right_of _ _ b in
    let d = right_of _ _ c in
    record {
      form = form_good m.code a;
      tables = record {
        count = eqb-true _ _ (left_of _ _ b);
        classes = all_is (is_number m) (IsNumberOf m) (number_is m) m.classes (left_of _ _ c);
        sets = all_is (list_all (is_number m)) (All (IsNumberOf m)) (λ set k. all_is (is_number m) (IsNumberOf m) (number_is m) set k) m.sets (left_of _ _ d);
      };
      separate = λ r x e number member same. apart_is m (set_of m r) (defs_in_code m.code) x (set_in (λ set. is_apart m set (defs_in_code m.code)) m r (none_apart m (defs_in_code m.code)) (right_of _ _ d))
          number.0 number.1 (member_class m (set_of m r) e (class_of m x) member same);
    }

-- what is equal to a module that passes the test can run
pub known_runs : (known : Module) → can_run_test known ≡ true → (r : Result Module AllocError) → IfOk r (λ m. m ≡ known) → IfOk r CanRun
known_runs known passes (Ok m) is = subst CanRun (sym is) (can_run known passes)
known_runs known passes (Err e) is = tt
