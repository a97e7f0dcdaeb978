-- A definition is in the set of a read where one of its facts comes to it.
use Rattle.std.proofs.Common.{◌≡◌, ℕ, zero, suc, ◌+◌, ◌<◌, ◌≤◌, ◌⊎◌, inl, inr, Bool, true, false, List, [], ◌∷◌, length, get_or, refl, sym, ap, ◌∙◌, subst, arith, Option, Some, None}
use Rattle.std.specs.Prelude.{nat_eq, ◌&&◌, ◌||◌, ◌↔◌, IsTrue, slice_get, Contains}
use Rattle.std.proofs.lemmas.Bool.{eqb-true, eq-eqb, ltb-true, lt-ltb}
use Rattle.std.proofs.lemmas.Option.{slice_get_within}
use Rattle.dfi_base.specs.declared.numbers.Point.{Point}
use Rattle.dfi_base.specs.Bits as bits
use Rattle.dfi_base.specs.Bits.{members}
use Rattle.dfi_base.proofs.RowLaws.{has_member, member_has}
use Rattle.tac_ir.specs.declared.code.Code.{Code}
use Rattle.tac_ir.specs.declared.module.Fact.{Fact}
use Rattle.tac_ir.specs.declared.module.PointsRow.{PointsRow}
use Rattle.tac_ir.specs.declared.module.Reach.{Reach}
use Rattle.tac_ir.specs.Layout.{lines_of, instr_at}
use Rattle.tac_ir.specs.Numbers.{new_read, new_def}
use Rattle.tac_ir.specs.GoodForm.{GoodForm}
use Rattle.tac_ir.specs.GoodModule.{IsPoint}
use Rattle.tac_ir.specs.Bodies.{Parallel}
use Rattle.tac_ir.proofs.Numbering.{one_instruction_a_read, one_instruction_a_definition}
use Rattle.flow_rules.specs.InSet.{InSet, IsMadeBeside}
use Rattle.flow_rules.specs.Tables.{is_fact, has_pair, has_fact}
use Rattle.flow_rules.specs.Touches.{touches}
use Rattle.flow_rules.specs.ReachRows.{IsReachOf, exists, row_of, reach_rows}
use Rattle.flow_rules.specs.tools.Coming.{Comes, SomeComes, NoneComes}
use Rattle.flow_rules.specs.PointNumber.{point_number}
use Rattle.flow_rules.proofs.PointNumbers.{number_below}
use Rattle.flow_rules.proofs.FactPairs.{facts_touched}

-- Facts by their numbers.

pub record IsFactAt (facts : List Fact) (d a n : ℕ) : Type 0 where
  pub fact : Fact
  pub listed : slice_get facts n ≡ Some fact
  pub def : fact.def ≡ d
  pub leaf : fact.leaf ≡ a

both : (a b : Bool) → (a && b) ≡ true → (a ≡ true) × (b ≡ true)
both true b h = (refl, h)
both false b h = cc

is_both : (d a : ℕ) (fact : Fact) → is_fact d a fact ≡ true → (fact.def ≡ d) × (fact.leaf ≡ a)
is_both d a fact h = (let parts = both (nat_eq fact.def d) (nat_eq fact.leaf a) h in (eqb-true fact.def d parts.0, eqb-true fact.leaf a parts.1))

is_itself : (d a : ℕ) (fact : Fact) → fact.def ≡ d → fact.leaf ≡ a → is_fact d a fact ≡ true
is_itself d a fact def leaf = (let one = eq-eqb fact.def d def in let two = eq-eqb fact.leaf a leaf in cc)

pub pair_listed : (facts : List Fact) (d a : ℕ) → has_pair facts d a ≡ true → (n : ℕ) × IsFactAt facts d a n
pair_listed [] d a h = cc
pair_listed (x ∷ facts) d a h = by (is_fact d a x) refl h (pair_listed facts d a)
  where
    by : (b : Bool) → is_fact d a x ≡ b → (b || has_pair facts d a) ≡ true → (has_pair facts d a ≡ true → (n : ℕ) × IsFactAt facts d a n) → (n : ℕ) × IsFactAt (x ∷ facts) d a n
    by true is h rest = (let parts = is_both d a x is in (0, record { fact = x; listed = refl; def = parts.0; leaf = parts.1 }))
    by false is h rest = (let r = rest h in (suc r.0, record { fact = r.1.fact; listed = r.1.listed; def = r.1.def; leaf = r.1.leaf }))

pub listed_pair : (facts : List Fact) (d a n : ℕ) → IsFactAt facts d a n → has_pair facts d a ≡ true
listed_pair facts d a n h = go facts n h.listed
  where
    go : (facts : List Fact) (n : ℕ) → slice_get facts n ≡ Some h.fact → has_pair facts d a ≡ true
    go [] n is = cc
    go (x ∷ facts) zero is = (let same : x ≡ h.fact = cc in let here = subst (λ z. is_fact d a z ≡ true) (sym same) (is_itself d a h.fact h.def h.leaf) in ap (λ b. b || has_pair facts d a) here)
    go (x ∷ facts) (suc n) is = or_right (is_fact d a x) (has_pair facts d a) (go facts n is)
      where
        or_right : (a b : Bool) → b ≡ true → (a || b) ≡ true
        or_right true b h = refl
        or_right false b h = h

-- among numbers
by_number : List Fact → ℕ → ℕ → ℕ → Bool
by_number facts d a i = elim (slice_get facts i) as (λ z. Bool) [ None ↦ false | Some fact ↦ is_fact d a fact ]

pub fact_listed : (facts : List Fact) (numbers : List ℕ) (d a : ℕ) → has_fact facts numbers d a ≡ true → (n : ℕ) × Contains numbers n × IsFactAt facts d a n
fact_listed facts [] d a h = cc
fact_listed facts (i ∷ numbers) d a h = by (slice_get facts i) refl h (fact_listed facts numbers d a)
  where
    later : ((n : ℕ) × Contains numbers n × IsFactAt facts d a n) → (n : ℕ) × Contains (i ∷ numbers) n × IsFactAt facts d a n
    later r = (let low = r.1.1 in (r.0, (suc r.1.0, omega (arith, low), r.1.2), r.2))

    test : (fact : Fact) → slice_get facts i ≡ Some fact → (b : Bool) → is_fact d a fact ≡ b → (b || has_fact facts numbers d a) ≡ true
        → (has_fact facts numbers d a ≡ true → (n : ℕ) × Contains numbers n × IsFactAt facts d a n) → (n : ℕ) × Contains (i ∷ numbers) n × IsFactAt facts d a n
    test fact found true is h rest = (let parts = is_both d a fact is in (i, (0, omega arith, refl), record { fact = fact; listed = found; def = parts.0; leaf = parts.1 }))
    test fact found false is h rest = later (rest h)

    by : (o : Option Fact) → slice_get facts i ≡ o → (elim o as (λ z. Bool) [ None ↦ false | Some fact ↦ is_fact d a fact ] || has_fact facts numbers d a) ≡ true
        → (has_fact facts numbers d a ≡ true → (n : ℕ) × Contains numbers n × IsFactAt facts d a n) → (n : ℕ) × Contains (i ∷ numbers) n × IsFactAt facts d a n
    by None found h rest = later (rest h)
    by (Some fact) found h rest = test fact found (is_fact d a fact) refl h rest

pub listed_fact : (facts : List Fact) (numbers : List ℕ) (d a n : ℕ) → Contains numbers n → IsFactAt facts d a n → has_fact facts numbers d a ≡ true
listed_fact facts numbers d a n there h = go numbers there.0 there.1 there.2
  where
    or_right : (a b : Bool) → b ≡ true → (a || b) ≡ true
    or_right true b h = refl
    or_right false b h = h

    go : (numbers : List ℕ) (i : ℕ) → i < length numbers → get_or numbers i n ≡ n → has_fact facts numbers d a ≡ true
    go [] i low is = absurd (omega (arith, low))
    go (x ∷ numbers) zero low is =
        ap (λ (o : Option Fact). elim o as (λ z. Bool) [ None ↦ false | Some fact ↦ is_fact d a fact ] || has_fact facts numbers d a) (ap (slice_get facts) is ∙ h.listed)
        ∙ ap (λ b. b || has_fact facts numbers d a) (is_itself d a h.fact h.def h.leaf)
    go (x ∷ numbers) (suc i) low is =
        or_right (elim (slice_get facts x) as (λ z. Bool) [ None ↦ false | Some fact ↦ is_fact d a fact ]) (has_fact facts numbers d a) (go numbers i (omega (arith, low)) is)

-- Rows of bits.

pub bit_reaches : (c : Code) (r : Reach) (p : Point) → IsPoint c p → (d a n : ℕ) → IsFactAt r.facts.pairs d a n → bits.has (row_of c r p) n ≡ true → reach_rows c r p d a ≡ true
bit_reaches c r p point d a n fact bit =
    let here = lt-ltb p.at (length (lines_of c p.fun)) point in
    ap (λ b. b && has_fact r.facts.pairs (members (row_of c r p)) d a) here ∙ listed_fact r.facts.pairs (members (row_of c r p)) d a n (has_member (row_of c r p) n bit) fact

pub record ReachesBy (c : Code) (r : Reach) (p : Point) (d a : ℕ) : Type 0 where
  pub number : ℕ
  pub fact : IsFactAt r.facts.pairs d a number
  pub bit : bits.has (row_of c r p) number ≡ true
  pub point : IsPoint c p

pub reaches_bit : (c : Code) (r : Reach) (p : Point) (d a : ℕ) → reach_rows c r p d a ≡ true → ReachesBy c r p d a
reaches_bit c r p d a h =
    let parts = both (exists c p) (has_fact r.facts.pairs (members (row_of c r p)) d a) h in
    let found = fact_listed r.facts.pairs (members (row_of c r p)) d a parts.1 in
    record { number = found.0; fact = found.2; bit = member_has (row_of c r p) found.0 found.1; point = ltb-true p.at (length (lines_of c p.fun)) parts.0 }

-- The set of a read.

module _ (c : Code) (good : GoodForm c) (points : List PointsRow) (r : Reach) (of : IsReachOf c points r) (at : Point) (point : IsPoint c at) (read d : ℕ) (here : new_read (instr_at c at) ≡ Some read) where
  pub in_set : (beside : Bool) → (IsTrue beside ↔ IsMadeBeside c at d) → SomeComes c points r at d beside → InSet c (touches c points) (reach_rows c r) read d
  in_set beside made h =
      let fact : IsFactAt r.facts.pairs d h.fact.leaf h.number = record { fact = h.fact; listed = h.listed; def = h.comes.def; leaf = refl } in
      record {
        at = at;
        read = here;
        leaf = h.fact.leaf;
        reads = h.comes.touched;
        writes = (facts_touched c points d h.fact.leaf).0 (ap (λ fs. has_pair fs d h.fact.leaf) (sym of.facts) ∙ listed_pair r.facts.pairs d h.fact.leaf h.number fact);
        comes = by beside made.0 h.comes.near fact;
      }
    where
      by : (b : Bool) → (IsTrue b → IsMadeBeside c at d) → (b || bits.has (row_of c r at) h.number) ≡ true → IsFactAt r.facts.pairs d h.fact.leaf h.number → (reach_rows c r at d h.fact.leaf ≡ true) ⊎ IsMadeBeside c at d
      by true made near fact = inr (made refl)
      by false made near fact = inl (bit_reaches c r at point d h.fact.leaf h.number fact near)

  pub some_comes : (beside : Bool) → (IsTrue beside ↔ IsMadeBeside c at d) → InSet c (touches c points) (reach_rows c r) read d → SomeComes c points r at d beside
  some_comes beside made s = by s.comes
    where
      same : s.at ≡ at
      same = one_instruction_a_read c good s.at at read s.read here

      touched : (n : ℕ) → (fact : IsFactAt r.facts.pairs d s.leaf n) → touches c points at fact.fact.leaf ≡ true
      touched n fact = ap (touches c points at) fact.leaf ∙ subst (λ q. touches c points q s.leaf ≡ true) same s.reads

      or_left : (a b : Bool) → a ≡ true → (a || b) ≡ true
      or_left a b h = cc

      or_right : (a b : Bool) → b ≡ true → (a || b) ≡ true
      or_right true b h = refl
      or_right false b h = h

      by : (reach_rows c r s.at d s.leaf ≡ true) ⊎ IsMadeBeside c s.at d → SomeComes c points r at d beside
      by (inl reaches) =
          let bit = reaches_bit c r at d s.leaf (subst (λ q. reach_rows c r q d s.leaf ≡ true) same reaches) in
          record {
            number = bit.number;
            fact = bit.fact.fact;
            listed = bit.fact.listed;
            comes = record { def = bit.fact.def; touched = touched bit.number bit.fact; near = or_right beside (bits.has (row_of c r at) bit.number) bit.bit };
          }
      by (inr near) =
          let pair = pair_listed r.facts.pairs d s.leaf (ap (λ fs. has_pair fs d s.leaf) of.facts ∙ (facts_touched c points d s.leaf).1 s.writes) in
          record {
            number = pair.0;
            fact = pair.1.fact;
            listed = pair.1.listed;
            comes = record {
              def = pair.1.def;
              touched = touched pair.0 pair.1;
              near = or_left beside (bits.has (row_of c r at) pair.0) (made.1 (subst (λ q. IsMadeBeside c q d) same near));
            };
          }

-- One definition is made at one point.
pub made_beside : (c : Code) → GoodForm c → (p q : Point) (d : ℕ) → new_def (instr_at c q) ≡ Some d → IsMadeBeside c p d → Parallel c p q
made_beside c good p q d def h = subst (Parallel c p) (one_instruction_a_definition c good h.at q d h.def def) h.parallel

-- A loop over facts.

pub row_width : (c : Code) (points : List PointsRow) (r : Reach) → IsReachOf c points r → (p : Point) → IsPoint c p → length (row_of c r p) ≡ length r.facts.pairs
row_width c points r of p point =
    let low : point_number c p < length r.rows = omega (arith, number_below c p point, of.count) in
    of.width (point_number c p) [] low

and_three : (a b c : Bool) → (a && b && c) ≡ true → (a ≡ true) × (b ≡ true) × (c ≡ true)
and_three true true c h = (refl, refl, h)
and_three true false c h = cc
and_three false b c h = cc

module _ (c : Code) (points : List PointsRow) (r : Reach) (at : Point) (d : ℕ) (beside : Bool) where
  pub comes_at : (k : ℕ) (fact : Fact) → slice_get r.facts.pairs k ≡ Some fact → (nat_eq fact.def d && (beside || bits.has (row_of c r at) k) && touches c points at fact.leaf) ≡ true → SomeComes c points r at d beside
  comes_at k fact listed h =
      let parts = and_three (nat_eq fact.def d) (beside || bits.has (row_of c r at) k) (touches c points at fact.leaf) h in
      record { number = k; fact = fact; listed = listed; comes = record { def = eqb-true fact.def d parts.0; touched = parts.2; near = parts.1 } }

  pub none_comes_yet : NoneComes c points r at d beside 0
  none_comes_yet = record { none = λ k fact low is h. omega (arith, low) }

  pub none_comes_next : (n : ℕ) (fact : Fact) → NoneComes c points r at d beside n → slice_get r.facts.pairs n ≡ Some fact → (nat_eq fact.def d && (beside || bits.has (row_of c r at) n) && touches c points at fact.leaf) ≡ false
      → NoneComes c points r at d beside (n + 1)
  none_comes_next n fact before listed fails = record { none = λ k x low is h. by k x low is h (nat_eq k n) refl }
    where
      by : (k : ℕ) (x : Fact) → k < n + 1 → slice_get r.facts.pairs k ≡ Some x → Comes c points r at d beside k x → (b : Bool) → nat_eq k n ≡ b → ⊥
      by k x low is h true same =
          let one = eqb-true k n same in
          let equal : Some x ≡ Some fact = sym is ∙ ap (slice_get r.facts.pairs) one ∙ listed in
          let item : x ≡ fact = cc in
          let def : nat_eq fact.def d ≡ true = ap (λ (z : Fact). nat_eq z.def d) (sym item) ∙ eq-eqb x.def d h.def in
          let near : (beside || bits.has (row_of c r at) n) ≡ true = ap (λ i. beside || bits.has (row_of c r at) i) (sym one) ∙ h.near in
          let touched : touches c points at fact.leaf ≡ true = ap (λ (z : Fact). touches c points at z.leaf) (sym item) ∙ h.touched in
          cc
      by k x low is h false other = before.none k x (let differ : k ≡ n → ⊥ = λ e. (let clash = sym other ∙ eq-eqb k n e in cc) in omega (arith, low, differ)) is h

  pub none_comes : (n : ℕ) → length r.facts.pairs ≤ n → NoneComes c points r at d beside n → SomeComes c points r at d beside → ⊥
  none_comes n high none h = (let low = slice_get_within r.facts.pairs h.number h.fact h.listed in none.none h.number h.fact (omega (arith, low, high)) h.listed h.comes)
