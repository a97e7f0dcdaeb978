-- The facts of code are what its definitions may touch.
use Rattle.std.proofs.Common.{◌≡◌, ℕ, zero, suc, ◌+◌, ◌<◌, ◌⊎◌, inl, inr, Bool, true, false, List, [], ◌∷◌, ◌++◌, length, map, refl, sym, ap, ◌∙◌, subst, arith, Option, Some, None}
use Rattle.std.specs.Prelude.{nat_eq, ◌&&◌, ◌||◌, slice_get}
use Rattle.std.specs.List.{list_any, flat_map, range_with_len}
use Rattle.std.proofs.lemmas.Bool.{eqb-true, eq-eqb}
use Rattle.tac_ir.specs.declared.code.Code.{Code}
use Rattle.tac_ir.specs.declared.code.Fun.{Fun}
use Rattle.tac_ir.specs.declared.code.Instr.{Instr}
use Rattle.tac_ir.specs.declared.code.Lined.{Lined}
use Rattle.tac_ir.specs.declared.module.PointsRow.{PointsRow}
use Rattle.tac_ir.specs.Layout.{instr_at}
use Rattle.tac_ir.specs.Numbers.{new_def}
use Rattle.tac_ir.specs.Nodes.{leaves_of_global}
use Rattle.tac_ir.specs.Answers.{has}
use Rattle.tac_ir.specs.Accesses.{Access, accesses_in, accesses_in_funs, starting_accesses, leaves_defined, leaves_read, facts_by, facts_of, defs_accesses}
use Rattle.tac_ir.proofs.Numbering.{has_line}
use Rattle.flow_rules.specs.PointNumber.{point_at}
use Rattle.flow_rules.specs.Tables.{is_fact, has_pair}
use Rattle.flow_rules.specs.Touches.{leaves_touched, touches, DefTouches}
use Rattle.flow_rules.specs.Touches.DefTouches.{starting, made}
use Rattle.flow_rules.specs.Laws.{FactsAreTouched}
use Rattle.flow_rules.proofs.Members.{has_append}
use Rattle.flow_rules.proofs.Parallels.{lines_are}

-- Accesses.

-- some access has this number and this leaf
has_access : List Access → ℕ → ℕ → Bool
has_access [] d a = false
has_access (x ∷ xs) d a = (nat_eq x.number d && has x.leaves a) || has_access xs d a

or_assoc : (a b c : Bool) → ((a || b) || c) ≡ (a || (b || c))
or_assoc true b c = refl
or_assoc false b c = refl

any_append : {A : Type 0} (test : A → Bool) (xs ys : List A) → list_any test (xs ++ ys) ≡ (list_any test xs || list_any test ys)
any_append test [] ys = refl
any_append test (x ∷ xs) ys = ap (λ b. test x || b) (any_append test xs ys) ∙ sym (or_assoc (test x) (list_any test xs) (list_any test ys))

has_access_append : (xs ys : List Access) (d a : ℕ) → has_access (xs ++ ys) d a ≡ (has_access xs d a || has_access ys d a)
unfolding has_access
has_access_append [] ys d a = refl
has_access_append (x ∷ xs) ys d a =
    ap (λ b. (nat_eq x.number d && has x.leaves a) || b) (has_access_append xs ys d a) ∙ sym (or_assoc (nat_eq x.number d && has x.leaves a) (has_access xs d a) (has_access ys d a))

-- the facts of one access
by_access : (n : ℕ) (leaves : List ℕ) (d a : ℕ) → list_any (is_fact d a) (map (λ leaf. record { def = n; leaf = leaf }) leaves) ≡ (nat_eq n d && has leaves a)
by_access n [] d a = (let none : (b : Bool) → false ≡ (b && false) = λ b. elim b as (λ z. false ≡ (z && false)) [ true ↦ refl | false ↦ refl ] in none (nat_eq n d))
by_access n (x ∷ leaves) d a = ap (λ b. (nat_eq n d && nat_eq x a) || b) (by_access n leaves d a) ∙ factor (nat_eq n d) (nat_eq x a) (has leaves a)
  where
    factor : (a b c : Bool) → ((a && b) || (a && c)) ≡ (a && (b || c))
    factor true b c = refl
    factor false b c = refl

pairs : (xs : List Access) (d a : ℕ) → has_pair (flat_map facts_by xs) d a ≡ has_access xs d a
unfolding has_access
pairs [] d a = refl
pairs (x ∷ xs) d a = any_append (is_fact d a) (facts_by x) (flat_map facts_by xs) ∙ ap (λ b. b || list_any (is_fact d a) (flat_map facts_by xs)) (by_access x.number x.leaves d a)
    ∙ ap (λ b. (nat_eq x.number d && has x.leaves a) || b) (pairs xs d a)

left : (a b : Bool) → a ≡ true → (a || b) ≡ true
left a b h = cc

right : (a b : Bool) → b ≡ true → (a || b) ≡ true
right true b h = refl
right false b h = h

both : (a b : Bool) → a ≡ true → b ≡ true → (a && b) ≡ true
both a b h k = cc

either : (a b : Bool) → (a || b) ≡ true → (a ≡ true) ⊎ (b ≡ true)
either true b h = inl refl
either false b h = inr h

split : (a b : Bool) → (a && b) ≡ true → (a ≡ true) × (b ≡ true)
split true b h = (refl, h)
split false b h = cc

-- Those of instructions.

record IsAccessAt (number : Instr → Option ℕ) (leaves : ℕ → Instr → List ℕ) (f : ℕ) (funs : List Fun) (d a : ℕ) : Type 0 where
  g : ℕ
  at : ℕ
  fun : Fun
  line : Lined
  function : slice_get funs g ≡ Some fun
  found : slice_get fun.code at ≡ Some line
  named : number line.instr ≡ Some d
  touched : has (leaves (f + g) line.instr) a ≡ true

module _ (number : Instr → Option ℕ) (leaves : ℕ → Instr → List ℕ) where
  lines_have : (f : ℕ) (code : List Lined) (at : ℕ) (l : Lined) (d a : ℕ) → slice_get code at ≡ Some l → number l.instr ≡ Some d → has (leaves f l.instr) a ≡ true → has_access (accesses_in number leaves f code) d a ≡ true
  unfolding has_access
  lines_have f [] at l d a found named touched = cc
  lines_have f (x ∷ code) zero l d a found named touched = (let same : x ≡ l = cc in by (number x.instr) (ap (λ (z : Lined). number z.instr) same ∙ named) (ap (λ (z : Lined). has (leaves f z.instr) a) same ∙ touched))
    where
      by : (o : Option ℕ) → o ≡ Some d → has (leaves f x.instr) a ≡ true
          → has_access (elim o as (λ z. List Access) [ Some n ↦ record { number = n; leaves = leaves f x.instr } ∷ accesses_in number leaves f code | None ↦ accesses_in number leaves f code ]) d a ≡ true
      by None is here = cc
      by (Some n) is here = (let one : n ≡ d = cc in left (nat_eq n d && has (leaves f x.instr) a) (has_access (accesses_in number leaves f code) d a) (both (nat_eq n d) (has (leaves f x.instr) a) (eq-eqb n d one) here))
  lines_have f (x ∷ code) (suc at) l d a found named touched = by (number x.instr) (lines_have f code at l d a found named touched)
    where
      by : (o : Option ℕ) → has_access (accesses_in number leaves f code) d a ≡ true
          → has_access (elim o as (λ z. List Access) [ Some n ↦ record { number = n; leaves = leaves f x.instr } ∷ accesses_in number leaves f code | None ↦ accesses_in number leaves f code ]) d a ≡ true
      by None rest = rest
      by (Some n) rest = right (nat_eq n d && has (leaves f x.instr) a) (has_access (accesses_in number leaves f code) d a) rest

  funs_have : (f : ℕ) (funs : List Fun) (d a : ℕ) → IsAccessAt number leaves f funs d a → has_access (accesses_in_funs number leaves f funs) d a ≡ true
  funs_have f funs d a h = go f funs h.g h.function h.touched
    where
      go : (f : ℕ) (funs : List Fun) (g : ℕ) → slice_get funs g ≡ Some h.fun → has (leaves (f + g) h.line.instr) a ≡ true → has_access (accesses_in_funs number leaves f funs) d a ≡ true
      go f [] g function touched = cc
      go f (x ∷ funs) zero function touched =
          let same : x ≡ h.fun = cc in
          let here : f + 0 ≡ f = omega arith in
          has_access_append (accesses_in number leaves f x.code) (accesses_in_funs number leaves (suc f) funs) d a
          ∙ left (has_access (accesses_in number leaves f x.code) d a) (has_access (accesses_in_funs number leaves (suc f) funs) d a)
          (lines_have f x.code h.at h.line d a (ap (λ (z : Fun). slice_get z.code h.at) same ∙ h.found) h.named (subst (λ k. has (leaves k h.line.instr) a ≡ true) here touched))
      go f (x ∷ funs) (suc g) function touched =
          let here : f + suc g ≡ suc f + g = omega arith in
          has_access_append (accesses_in number leaves f x.code) (accesses_in_funs number leaves (suc f) funs) d a
          ∙ right (has_access (accesses_in number leaves f x.code) d a) (has_access (accesses_in_funs number leaves (suc f) funs) d a)
          (go (suc f) funs g function (subst (λ k. has (leaves k h.line.instr) a ≡ true) here touched))

  record IsLineWith (f : ℕ) (code : List Lined) (d a : ℕ) : Type 0 where
    at : ℕ
    line : Lined
    found : slice_get code at ≡ Some line
    named : number line.instr ≡ Some d
    touched : has (leaves f line.instr) a ≡ true

  in_lines : (f : ℕ) (code : List Lined) (d a : ℕ) → has_access (accesses_in number leaves f code) d a ≡ true → IsLineWith f code d a
  unfolding has_access
  in_lines f [] d a h = cc
  in_lines f (x ∷ code) d a h = by (number x.instr) refl h (in_lines f code d a)
    where
      later : IsLineWith f code d a → IsLineWith f (x ∷ code) d a
      later r = record { at = suc r.at; line = r.line; found = r.found; named = r.named; touched = r.touched }

      by : (o : Option ℕ) → number x.instr ≡ o
          → has_access (elim o as (λ z. List Access) [ Some n ↦ record { number = n; leaves = leaves f x.instr } ∷ accesses_in number leaves f code | None ↦ accesses_in number leaves f code ]) d a ≡ true
          → (has_access (accesses_in number leaves f code) d a ≡ true → IsLineWith f code d a) → IsLineWith f (x ∷ code) d a
      by None is h rest = later (rest h)
      by (Some n) is h rest = pick (either (nat_eq n d && has (leaves f x.instr) a) (has_access (accesses_in number leaves f code) d a) h)
        where
          pick : ((nat_eq n d && has (leaves f x.instr) a) ≡ true) ⊎ (has_access (accesses_in number leaves f code) d a ≡ true) → IsLineWith f (x ∷ code) d a
          pick (inr there) = later (rest there)
          pick (inl here) =
              let parts = split (nat_eq n d) (has (leaves f x.instr) a) here in
              record { at = 0; line = x; found = refl; named = is ∙ ap Some (eqb-true n d parts.0); touched = parts.1 }

  in_funs : (f : ℕ) (funs : List Fun) (d a : ℕ) → has_access (accesses_in_funs number leaves f funs) d a ≡ true → IsAccessAt number leaves f funs d a
  unfolding has_access
  in_funs f [] d a h = cc
  in_funs f (x ∷ funs) d a h =
      by (either (has_access (accesses_in number leaves f x.code) d a) (has_access (accesses_in_funs number leaves (suc f) funs) d a) (sym (has_access_append (accesses_in number leaves f x.code) (accesses_in_funs number leaves (suc f) funs) d a) ∙ h))
      (in_funs (suc f) funs d a)
    where
      by : (has_access (accesses_in number leaves f x.code) d a ≡ true) ⊎ (has_access (accesses_in_funs number leaves (suc f) funs) d a ≡ true)
          → (has_access (accesses_in_funs number leaves (suc f) funs) d a ≡ true → IsAccessAt number leaves (suc f) funs d a) → IsAccessAt number leaves f (x ∷ funs) d a
      by (inl here) rest =
          let r = in_lines f x.code d a here in
          let whole : f ≡ f + 0 = omega arith in
          record { g = 0; at = r.at; fun = x; line = r.line; function = refl; found = r.found; named = r.named; touched = subst (λ k. has (leaves k r.line.instr) a ≡ true) whole r.touched }
      by (inr there) rest =
          let r = rest there in
          let whole : suc f + r.g ≡ f + suc r.g = omega arith in
          record { g = suc r.g; at = r.at; fun = r.fun; line = r.line; function = r.function; found = r.found; named = r.named; touched = subst (λ k. has (leaves k r.line.instr) a ≡ true) whole r.touched }

-- Starting definitions.

abbrev starts : Code → ℕ → ℕ → List Access
starts c first n = map (λ v. record { number = suc v; leaves = leaves_of_global c v }) (range_with_len first n)

starts_have : (c : Code) (first n v a : ℕ) → v < n → has (leaves_of_global c (first + v)) a ≡ true → has_access (starts c first n) (suc (first + v)) a ≡ true
unfolding has_access
starts_have c first zero v a low h = absurd (omega (arith, low))
starts_have c first (suc n) zero a low h =
    let here : first + 0 ≡ first = omega arith in
    left (nat_eq (suc first) (suc (first + 0)) && has (leaves_of_global c first) a) (has_access (starts c (first + 1) n) (suc (first + 0)) a)
    (both (nat_eq (suc first) (suc (first + 0))) (has (leaves_of_global c first) a) (eq-eqb (suc first) (suc (first + 0)) (ap suc (sym here))) (subst (λ k. has (leaves_of_global c k) a ≡ true) here h))
starts_have c first (suc n) (suc v) a low h =
    let here : first + suc v ≡ first + 1 + v = omega arith in
    right (nat_eq (suc first) (suc (first + suc v)) && has (leaves_of_global c first) a) (has_access (starts c (first + 1) n) (suc (first + suc v)) a)
    (subst (λ k. has_access (starts c (first + 1) n) (suc k) a ≡ true) (sym here) (starts_have c (first + 1) n v a (omega (arith, low)) (subst (λ k. has (leaves_of_global c k) a ≡ true) here h)))

record IsStart (c : Code) (first n d a : ℕ) : Type 0 where
  v : ℕ
  low : v < first + n
  def : d ≡ suc v
  touched : has (leaves_of_global c v) a ≡ true

in_starts : (c : Code) (first n d a : ℕ) → has_access (starts c first n) d a ≡ true → IsStart c first n d a
unfolding has_access
in_starts c first zero d a h = cc
in_starts c first (suc n) d a h = by (either (nat_eq (suc first) d && has (leaves_of_global c first) a) (has_access (starts c (first + 1) n) d a) h) (in_starts c (first + 1) n d a)
  where
    by : ((nat_eq (suc first) d && has (leaves_of_global c first) a) ≡ true) ⊎ (has_access (starts c (first + 1) n) d a ≡ true) → (has_access (starts c (first + 1) n) d a ≡ true → IsStart c (first + 1) n d a)
        → IsStart c first (suc n) d a
    by (inl here) rest =
        let parts = split (nat_eq (suc first) d) (has (leaves_of_global c first) a) here in
        record { v = first; low = omega arith; def = sym (eqb-true (suc first) d parts.0); touched = parts.1 }
    by (inr there) rest = (let r = rest there in let low = r.low in record { v = r.v; low = omega (arith, low); def = r.def; touched = r.touched })

-- What the instruction of a definition touches is what it defines.

defined : (c : Code) (points : List PointsRow) (f : ℕ) (i : Instr) (d : ℕ) → new_def i ≡ Some d → leaves_read c points f i ≡ []
defined c points f (Instr.Set place x n) d is = refl
defined c points f (Instr.Store x y n) d is = refl
defined c points f (Instr.Call to g n args) d is = refl
defined c points f i d is = cc

same_leaves : (c : Code) (points : List PointsRow) (f : ℕ) (i : Instr) (d a : ℕ) → new_def i ≡ Some d → has (leaves_touched c points f i) a ≡ has (leaves_defined c points f i) a
same_leaves c points f i d a is =
    has_append (leaves_defined c points f i) (leaves_read c points f i) a ∙ ap (λ xs. has (leaves_defined c points f i) a || has xs a) (defined c points f i d is) ∙ plain (has (leaves_defined c points f i) a)
  where
    plain : (b : Bool) → (b || false) ≡ b
    plain true = refl
    plain false = refl

pub facts_touched : FactsAreTouched
facts_touched c points d a = (forth, back)
  where
    facts : has_pair (facts_of c points) d a ≡ (has_access (starting_accesses c) d a || has_access (accesses_in_funs new_def (leaves_defined c points) 0 c.funs) d a)
    facts = pairs (defs_accesses c points) d a ∙ has_access_append (starting_accesses c) (accesses_in_funs new_def (leaves_defined c points) 0 c.funs) d a

    forth : has_pair (facts_of c points) d a ≡ true → DefTouches c (touches c points) d a
    forth h = pick (either (has_access (starting_accesses c) d a) (has_access (accesses_in_funs new_def (leaves_defined c points) 0 c.funs) d a) (sym facts ∙ h))
      where
        pick : (has_access (starting_accesses c) d a ≡ true) ⊎ (has_access (accesses_in_funs new_def (leaves_defined c points) 0 c.funs) d a ≡ true) → DefTouches c (touches c points) d a
        pick (inl here) = (let r = in_starts c 0 (length c.globals) d a here in let low = r.low in starting r.v (omega (arith, low)) r.def r.touched)
        pick (inr there) =
            let r = in_funs new_def (leaves_defined c points) 0 c.funs d a there in
            let whole : 0 + r.g ≡ r.g = omega arith in
            let instr : instr_at c (point_at r.g r.at) ≡ r.line.instr =
            ap (λ (o : Option Lined). elim o as (λ z. Instr) [ None ↦ Instr.End | Some lined ↦ lined.instr ]) (ap (λ xs. slice_get xs r.at) (lines_are c r.g r.fun r.function) ∙ r.found) in
            made (point_at r.g r.at) (ap new_def instr ∙ r.named)
            (ap (λ i. has (leaves_touched c points r.g i) a) instr ∙ same_leaves c points r.g r.line.instr d a r.named ∙ subst (λ k. has (leaves_defined c points k r.line.instr) a ≡ true) whole r.touched)

    back : DefTouches c (touches c points) d a → has_pair (facts_of c points) d a ≡ true
    back (starting v low is touched) =
        let whole : 0 + v ≡ v = omega arith in
        facts ∙ left (has_access (starting_accesses c) d a) (has_access (accesses_in_funs new_def (leaves_defined c points) 0 c.funs) d a)
        (ap (λ k. has_access (starts c 0 (length c.globals)) k a) (is ∙ ap suc (sym whole)) ∙ starts_have c 0 (length c.globals) v a low (subst (λ k. has (leaves_of_global c k) a ≡ true) (sym whole) touched))
    back (made p def touched) =
        let h = has_line new_def c p d refl def in
        let whole : 0 + p.fun ≡ p.fun = omega arith in
        facts ∙ right (has_access (starting_accesses c) d a) (has_access (accesses_in_funs new_def (leaves_defined c points) 0 c.funs) d a)
        (funs_have new_def (leaves_defined c points) 0 c.funs d a (record {
          g = p.fun;
          at = p.at;
          fun = h.fun;
          line = h.line;
          function = h.function;
          found = h.found;
          named = h.named;
          touched = subst (λ k. has (leaves_defined c points k h.line.instr) a ≡ true) (sym whole) (sym (same_leaves c points p.fun h.line.instr d a h.named) ∙ sym (ap (λ i. has (leaves_touched c points p.fun i) a) h.instr) ∙ touched);
        }))
