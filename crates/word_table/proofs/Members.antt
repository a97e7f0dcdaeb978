-- Classes in the place of definitions: a class is that of a member of a set exactly where the definition is a member.
use Rattle.std.proofs.Common.{◌≡◌, ℕ, zero, suc, ◌-◌, ◌<◌, List, [], ◌∷◌, length, get_or, Bool, true, false, Option, Some, None, refl, arith, sym, ◌∙◌, ap, subst, ⊎_elim}
use Rattle.std.specs.Prelude.{nat_eq, ◌==◌, ◌&&◌, ◌||◌, not, slice_get, All}
use Rattle.std.proofs.lemmas.Bool.{eqb-true, eq-eqb, ne_eqb, or_cases}
use Rattle.std.proofs.lemmas.Option.{slice_get_within, slice_get-get_or}
use Rattle.tac_ir.specs.Module.{Module}
use Rattle.tac_ir.specs.Last.{Written}
use Rattle.tac_ir.specs.Answers.{has, set_of, class_of, is_allowed}
use Rattle.word_table.specs.Tables.{IsNumberOf, HasGoodTables, CanRun}
use Rattle.word_table.specs.tools.Classes.{is_class_in, AreShort}

-- the class that stands for a definition
pub class_found : (m : Module) (d k : ℕ) → (d ≡ 0 → ⊥) → slice_get m.classes (d - 1) ≡ Some k → class_of m d ≡ k
class_found m zero k some found = absurd (some refl)
class_found m (suc d) k some found =
    let before : suc d - 1 ≡ d = omega arith in
    ap (λ o. elim o [ None ↦ 0 | Some class ↦ class ]) (ap (slice_get m.classes) (sym before) ∙ found)

-- what a member of a list has, where all members have it
pub member : {A : Type 0} (P : A → Type 0) (xs : List A) (i : ℕ) (x : A) → All P xs → slice_get xs i ≡ Some x → P x
member {A} P xs i x all found =
    let within : i < length xs = slice_get_within xs i x found in
    let both : Some (get_or xs i x) ≡ Some x = sym (slice_get-get_or xs i x within) ∙ found in
    let same : get_or xs i x ≡ x = cc in
    subst P same (all i x within)

-- what stands for a definition is 0, or the class of one
pub data IsClass (m : Module) (d : ℕ) : Type 0 where
  none : class_of m d ≡ 0 → IsClass m d
  some : IsNumberOf m d → IsNumberOf m (class_of m d) → IsClass m d

pub class_is : (m : Module) (d : ℕ) → HasGoodTables m → IsClass m d
class_is m zero good = none refl
class_is m (suc d) good = by (slice_get m.classes d) refl
  where
    by : (o : Option ℕ) → slice_get m.classes d ≡ o → IsClass m (suc d)
    by None is = none (ap (λ o. elim o [ None ↦ 0 | Some class ↦ class ]) is)
    by (Some k) is =
        let within : d < length m.classes = slice_get_within m.classes d k is in
        some (omega arith, omega (arith, within, good.count))
        (subst (IsNumberOf m) (sym (ap (λ o. elim o [ None ↦ 0 | Some class ↦ class ]) is)) (member (IsNumberOf m) m.classes d k good.classes is))

pub short : (m : Module) → CanRun m → AreShort m
short m can d = by (class_is m d can.tables)
  where
    by : IsClass m d → class_of m d < 65536
    by (none is) = omega (arith, is)
    by (some number class) = omega (arith, class.1, can.form.limits.defs)

-- Sets.

has_member : (P : ℕ → Type 0) (set : List ℕ) (d : ℕ) → ((i x : ℕ) → slice_get set i ≡ Some x → P x) → has set d ≡ true → P d
has_member P [] d all h = cc
has_member P (x ∷ set) d all h = ⊎_elim (λ q. subst P (eqb-true x d q) (all 0 x refl)) (λ q. has_member P set d (λ i y found. all (suc i) y found) q) (or_cases _ _ h)

-- a member of a set is a definition
pub member_is_number : (m : Module) (r d : ℕ) → HasGoodTables m → has (set_of m r) d ≡ true → IsNumberOf m d
member_is_number m zero d good h = cc
member_is_number m (suc r) d good h = by (slice_get m.sets r) refl h
  where
    by : (o : Option (List ℕ)) → slice_get m.sets r ≡ o → has (elim o [ None ↦ [] | Some set ↦ set ]) d ≡ true → IsNumberOf m d
    by None is h = cc
    by (Some set) is h =
        let all = member (All (IsNumberOf m)) m.sets r set good.sets is in
        has_member (IsNumberOf m) set d (λ i x found. member (IsNumberOf m) set i x all found) h

-- a definition has a class
pub number_class : (m : Module) (e : ℕ) → HasGoodTables m → IsNumberOf m e → IsNumberOf m (class_of m e)
number_class m e good number =
    let within : e - 1 < length m.classes = omega (arith, number.0, number.1, good.count) in
    let found = slice_get-get_or m.classes (e - 1) 0 within in
    subst (IsNumberOf m) (sym (class_found m e (get_or m.classes (e - 1) 0) (λ q. omega (arith, q, number.0)) found)) (good.classes (e - 1) 0 within)

-- what has the class of a member is a member
pub same_class : (m : Module) (r d e : ℕ) → CanRun m → has (set_of m r) e ≡ true → class_of m d ≡ class_of m e → has (set_of m r) d ≡ true
same_class m r d e can h same = by (class_is m d can.tables)
  where
    by : IsClass m d → has (set_of m r) d ≡ true
    by (some number class) = can.separate r d e number h same
    by (none zero_d) = absurd (omega (arith, (number_class m e can.tables (member_is_number m r e can.tables h)).0, same, zero_d))

-- Members of a set by their classes.

or_true : (b : Bool) → (b || true) ≡ true
or_true true = refl
or_true false = refl

found_any : (m : Module) (set : List ℕ) (k : ℕ) → is_class_in m set k ≡ true → (e : ℕ) × (has set e ≡ true) × (class_of m e ≡ k)
found_any m [] k h = cc
found_any m (x ∷ set) k h = go (class_of m x == k) refl h (found_any m set k)
  where
    go : (b : Bool) → (class_of m x == k) ≡ b → (b || is_class_in m set k) ≡ true → (is_class_in m set k ≡ true → (e : ℕ) × (has set e ≡ true) × (class_of m e ≡ k))
        → (e : ℕ) × (has (x ∷ set) e ≡ true) × (class_of m e ≡ k)
    go true q t rest = (x, ap (λ b. b || has set x) (eq-eqb x x refl), eqb-true _ _ q)
    go false q t rest = let r = rest t in (r.0, ap (λ b. nat_eq x r.0 || b) r.1 ∙ or_true (nat_eq x r.0), r.2)

any_found : (m : Module) (set : List ℕ) (d : ℕ) → has set d ≡ true → is_class_in m set (class_of m d) ≡ true
any_found m [] d h = cc
any_found m (x ∷ set) d h = ⊎_elim here (there (any_found m set d)) (or_cases _ _ h)
  where
    here : nat_eq x d ≡ true → is_class_in m (x ∷ set) (class_of m d) ≡ true
    here q = ap (λ b. b || is_class_in m set (class_of m d)) (eq-eqb _ _ (ap (class_of m) (eqb-true x d q)))

    there : (has set d ≡ true → is_class_in m set (class_of m d) ≡ true) → has set d ≡ true → is_class_in m (x ∷ set) (class_of m d) ≡ true
    there rest q = ap (λ b. (class_of m x == class_of m d) || b) (rest q) ∙ or_true _

same_bool : (a b : Bool) → (a ≡ true → b ≡ true) → (b ≡ true → a ≡ true) → a ≡ b
same_bool true b f g = sym (f refl)
same_bool false true f g = g refl
same_bool false false f g = refl

and_second : (a b : Bool) → (a && b) ≡ true → b ≡ true
and_second true b q = q
and_second false b q = cc

-- a class is that of a member exactly where the definition is a member
pub allowed_is : (m : Module) → CanRun m → (r : ℕ) (last : Written) → is_class_in m (set_of m r) (class_of m last.def) ≡ is_allowed m r last
allowed_is m can r last = same_bool _ _ to from
  where
    some_def : has (set_of m r) last.def ≡ true → nat_eq last.def 0 ≡ false
    some_def h = ne_eqb last.def 0 (λ q. omega (arith, q, (member_is_number m r last.def can.tables h).0))

    to : is_class_in m (set_of m r) (class_of m last.def) ≡ true → is_allowed m r last ≡ true
    to h =
        let e = found_any m (set_of m r) (class_of m last.def) h in
        let member = same_class m r last.def e.0 can e.1 (sym e.2) in
        ap (λ b. not b && has (set_of m r) last.def) (some_def member) ∙ member

    from : is_allowed m r last ≡ true → is_class_in m (set_of m r) (class_of m last.def) ≡ true
    from h = any_found m (set_of m r) last.def (and_second (not (nat_eq last.def 0)) (has (set_of m r) last.def) h)
