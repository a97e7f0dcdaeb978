-- The rules of reach fact by fact are those of the definition.
use Rattle.std.proofs.Common.{◌≡◌, ℕ, zero, suc, ◌+◌, ◌<◌, ◌≤◌, Bool, true, false, List, [], ◌∷◌, length, get_or, refl, sym, ap, ◌∙◌, subst, arith, Option, Some}
use Rattle.std.specs.Prelude.{nat_eq, nat_lt, ◌&&◌, ◌↔◌, slice_get, Contains, if◌then◌else◌}
use Rattle.std.proofs.lemmas.Bool.{eqb-true, ltb-true}
use Rattle.std.proofs.lemmas.Option.{slice_get_within, slice_get-get_or}
use Rattle.dfi_base.specs.declared.numbers.Point.{Point}
use Rattle.tac_ir.specs.declared.code.Code.{Code}
use Rattle.tac_ir.specs.declared.code.Instr.{Instr}
use Rattle.tac_ir.specs.declared.module.Fact.{Fact}
use Rattle.tac_ir.specs.declared.module.PointsRow.{PointsRow}
use Rattle.tac_ir.specs.declared.module.Reach.{Reach}
use Rattle.tac_ir.specs.AccessLaws.{fact_before}
use Rattle.tac_ir.specs.Bodies.{InBody}
use Rattle.tac_ir.specs.Edges.{edges_from}
use Rattle.tac_ir.specs.GoodForm.{GoodForm}
use Rattle.tac_ir.specs.GoodModule.{IsPoint}
use Rattle.tac_ir.specs.Layout.{instr_at}
use Rattle.tac_ir.specs.Module.{is_chain}
use Rattle.tac_ir.specs.Nodes.{leaves_of_global}
use Rattle.tac_ir.specs.Answers.{has}
use Rattle.tac_ir.specs.Numbers.{new_def}
use Rattle.tac_ir.specs.Regions.{Region, regions_of}
use Rattle.tac_ir.proofs.FactsAscend.{facts_ascend}
use Rattle.tac_ir.proofs.Numbering.{has_line, one_instruction_a_definition, within_funs}
use Rattle.flow_rules.specs.PointNumber.{point_at, entry}
use Rattle.flow_rules.specs.ReachClosed.{ReachClosedAt}
use Rattle.flow_rules.specs.ReachRows.{ArePointsOf, IsReachOf, reach_rows}
use Rattle.flow_rules.specs.Tables.{has_pair}
use Rattle.flow_rules.specs.Touches.{touches, DefTouches}
use Rattle.flow_rules.specs.Touches.DefTouches.{starting, made}
use Rattle.flow_rules.specs.tools.Branches.{last_of, region_by, AreBranches}
use Rattle.flow_rules.specs.tools.Killed.{IsKilled}
use Rattle.flow_rules.specs.tools.ReachRules.{Bit, StartsHold, FlowsTo, EdgesBy, JoinsBy, JoinsHold, ReachesEnds}
use Rattle.flow_rules.proofs.Branches.{branch_of, branches_at, region_listed, listed_region}
use Rattle.flow_rules.proofs.Coming.{IsFactAt, pair_listed, listed_pair, bit_reaches, reaches_bit}
use Rattle.flow_rules.proofs.EdgesOf.{edges_flow, flow_edges, edge_exists}
use Rattle.flow_rules.proofs.FactPairs.{facts_touched}
use Rattle.flow_rules.proofs.Parallels.{fork_at}

-- A fact stands once.

both_of : (a b : Bool) → (a && b) ≡ true → (a ≡ true) × (b ≡ true)
both_of true b h = (refl, h)
both_of false b h = cc

-- what comes first is less
record IsLess (a b : Fact) : Type 0 where
  def : a.def ≤ b.def
  leaf : a.def ≡ b.def → a.leaf < b.leaf

less_if : (a b : Fact) → fact_before a b ≡ true → IsLess a b
less_if a b h = by (nat_lt a.def b.def) refl h
  where
    by : (t : Bool) → nat_lt a.def b.def ≡ t → (if t then true else (nat_eq a.def b.def && nat_lt a.leaf b.leaf)) ≡ true → IsLess a b
    by true is h = (let low = ltb-true a.def b.def is in record { def = omega (arith, low); leaf = λ e. absurd (omega (arith, low, e)) })
    by false is h =
        let parts = both_of (nat_eq a.def b.def) (nat_lt a.leaf b.leaf) h in
        let same = eqb-true a.def b.def parts.0 in
        record { def = omega (arith, same); leaf = λ e. ltb-true a.leaf b.leaf parts.1 }

less_on : (a b c : Fact) → IsLess a b → IsLess b c → IsLess a c
less_on a b c h g =
    let one = h.def in
    let two = g.def in
    record {
      def = omega (arith, one, two);
      leaf = λ e. (let first = h.leaf (omega (arith, one, two, e)) in let second = g.leaf (omega (arith, one, two, e)) in omega (arith, first, second));
    }

first_less : (x : Fact) (xs : List Fact) → is_chain fact_before (x ∷ xs) ≡ true → (j : ℕ) (y : Fact) → slice_get xs j ≡ Some y → IsLess x y
first_less x [] chain j y is = cc
first_less x (z ∷ rest) chain zero y is = (let same : z ≡ y = cc in subst (IsLess x) same (less_if x z (both_of (fact_before x z) (is_chain fact_before (z ∷ rest)) chain).0))
first_less x (z ∷ rest) chain (suc j) y is =
    let parts = both_of (fact_before x z) (is_chain fact_before (z ∷ rest)) chain in
    less_on x z y (less_if x z parts.0) (first_less z rest parts.1 j y is)

chain_rest : (x : Fact) (xs : List Fact) → is_chain fact_before (x ∷ xs) ≡ true → is_chain fact_before xs ≡ true
chain_rest x [] chain = refl
chain_rest x (y ∷ rest) chain = (both_of (fact_before x y) (is_chain fact_before (y ∷ rest)) chain).1

not_less : (a b : Fact) → a.def ≡ b.def → a.leaf ≡ b.leaf → IsLess a b → ⊥
not_less a b def leaf h = (let less = h.leaf def in omega (arith, less, leaf))

fact_once : (xs : List Fact) → is_chain fact_before xs ≡ true → (i j : ℕ) (x y : Fact) → slice_get xs i ≡ Some x → slice_get xs j ≡ Some y → x.def ≡ y.def → x.leaf ≡ y.leaf → i ≡ j
fact_once [] chain i j x y here there def leaf = cc
fact_once (z ∷ xs) chain zero zero x y here there def leaf = refl
fact_once (z ∷ xs) chain zero (suc j) x y here there def leaf = (let same : z ≡ x = cc in absurd (not_less x y def leaf (subst (λ w. IsLess w y) same (first_less z xs chain j y there))))
fact_once (z ∷ xs) chain (suc i) zero x y here there def leaf = (let same : z ≡ y = cc in absurd (not_less y x (sym def) (sym leaf) (subst (λ w. IsLess w x) same (first_less z xs chain i x here))))
fact_once (z ∷ xs) chain (suc i) (suc j) x y here there def leaf = ap suc (fact_once xs (chain_rest z xs chain) i j x y here there def leaf)

-- An instruction's definition is no starting one.
def_above : (c : Code) → GoodForm c → (p : Point) (d : ℕ) → new_def (instr_at c p) ≡ Some d → length c.globals < d
def_above c good p d def =
    let h = has_line new_def c p d refl def in
    omega (arith, within_funs new_def (length c.globals + 1) c.funs p.fun h.fun p.at h.line d good.numbers.defs h.function h.found h.named)

module _ (c : Code) (good : GoodForm c) (rows : List PointsRow) (of_code : ArePointsOf c rows) (r : Reach) (of : IsReachOf c rows r) where
  chain : is_chain fact_before r.facts.pairs ≡ true
  chain = ap (is_chain fact_before) of.facts ∙ facts_ascend c good rows of_code.members

  -- a fact that reaches by the table does so by its bit
  bit_of : (p : Point) (k : ℕ) (x : Fact) → slice_get r.facts.pairs k ≡ Some x → (d a : ℕ) → x.def ≡ d → x.leaf ≡ a → reach_rows c r p d a ≡ true → Bit c r p k
  bit_of p k x listed d a def leaf reaches =
      let h = reaches_bit c r p d a reaches in
      subst (Bit c r p) (fact_once r.facts.pairs chain h.number k h.fact.fact x h.fact.listed listed (h.fact.def ∙ sym def) (h.fact.leaf ∙ sym leaf)) h.bit

  reaches_of : (p : Point) → IsPoint c p → (k : ℕ) (x : Fact) → slice_get r.facts.pairs k ≡ Some x → Bit c r p k → reach_rows c r p x.def x.leaf ≡ true
  reaches_of p point k x listed bit = bit_reaches c r p point x.def x.leaf k (record { fact = x; listed = listed; def = refl; leaf = refl }) bit

  touched_by : (k : ℕ) (x : Fact) → slice_get r.facts.pairs k ≡ Some x → DefTouches c (touches c rows) x.def x.leaf
  touched_by k x listed =
      (facts_touched c rows x.def x.leaf).0 (ap (λ fs. has_pair fs x.def x.leaf) (sym of.facts) ∙ listed_pair r.facts.pairs x.def x.leaf k (record { fact = x; listed = listed; def = refl; leaf = refl }))

  fact_for : (d a : ℕ) → DefTouches c (touches c rows) d a → (k : ℕ) × IsFactAt r.facts.pairs d a k
  fact_for d a h = pair_listed r.facts.pairs d a (ap (λ fs. has_pair fs d a) of.facts ∙ (facts_touched c rows d a).1 h)

  -- what an instruction's definition touches its point touches
  made_here : (p : Point) (d a : ℕ) → new_def (instr_at c p) ≡ Some d → DefTouches c (touches c rows) d a → touches c rows p a ≡ true
  made_here p d a def (starting v low is touched) = absurd (let above = def_above c good p d def in omega (arith, low, above, is))
  made_here p d a def (made q other touched) = subst (λ z. touches c rows z a ≡ true) (one_instruction_a_definition c good q p d other def) touched

  starts_touched : (d a : ℕ) → d ≤ length c.globals → DefTouches c (touches c rows) d a → (v : ℕ) × (v < length c.globals) × (d ≡ suc v) × (has (leaves_of_global c v) a ≡ true)
  starts_touched d a few (starting v low is touched) = (v, low, is, touched)
  starts_touched d a few (made q def touched) = absurd (let above = def_above c good q d def in omega (arith, few, above))

  module _ (p : Point) (point : IsPoint c p) (killed : Option ℕ) (kills : IsKilled c p.fun (instr_at c p) killed) where
    Rules : Type 0
    Rules = (a : ℕ) → ReachClosedAt c (touches c rows) (reach_rows c r) a p

    to_starts : Rules → p ≡ entry c.main → StartsHold c r p (length r.facts.pairs)
    unfolding Rules
    to_starts h main = record {
      each = λ k x low listed few. (let s = starts_touched x.def x.leaf few (touched_by k x listed) in bit_of p k x listed (suc s.0) x.leaf s.2 refl ((h x.leaf).starts main s.0 s.1 s.3));
    }

    to_flows : Rules → (q : Point) → Contains (edges_from c p) q → FlowsTo c r killed p q (length r.facts.pairs)
    unfolding Rules
    to_flows h q edge = record {
      makes = λ k x low listed def. bit_of q k x listed x.def x.leaf refl refl ((h x.leaf).makes x.def q def (made_here p x.def x.leaf def (touched_by k x listed)) edge);
      keeps = λ k x low listed bit alive. bit_of q k x listed x.def x.leaf refl refl ((h x.leaf).keeps x.def q (reaches_of p point k x listed bit) (λ kill. alive ((kills.each x.leaf).0 kill)) edge);
    }

    to_joins : Rules → (i : Instr) → instr_at c p ≡ i → JoinsBy c r p i
    unfolding Rules
    to_joins h (Instr.Fork join entries) is = record {
      one = record {
        each = λ i low. record {
          each = λ k x q under listed body def bit. bit_of (point_at p.fun join) k x listed x.def x.leaf refl refl
              ((h x.leaf).joins_one join x.def entries (region_by p.at join entries i) q is (region_listed p.at join entries i low) body def (reaches_of (point_at p.fun (last_of entries join i)) (branch_of c p.fun join entries branches i low).last k x listed bit));
        };
      };
      all = record {
        each = λ k low ends. (let x = get_or r.facts.pairs k nothing in let listed = slice_get-get_or r.facts.pairs k nothing low in
            bit_of (point_at p.fun join) k x listed x.def x.leaf refl refl ((h x.leaf).joins_all join x.def entries is (λ region there. at_end k x listed ends region (listed_region p.at join entries region there))));
      };
    }
      where
        nothing : Fact
        nothing = record { def = 0; leaf = 0 }

        branches : AreBranches c p.fun join entries
        branches = branches_at c good p point join entries (sym is)

        at_end : (k : ℕ) (x : Fact) → slice_get r.facts.pairs k ≡ Some x → ReachesEnds c r p.fun join entries k (length entries) → (region : Region) → (i : ℕ) × (i < length entries) × (region_by p.at join entries i ≡ region)
            → reach_rows c r (point_at p.fun region.last) x.def x.leaf ≡ true
        at_end k x listed ends region s =
            subst (λ (z : Region). reach_rows c r (point_at p.fun z.last) x.def x.leaf ≡ true) s.2
            (reaches_of (point_at p.fun (last_of entries join s.0)) (branch_of c p.fun join entries branches s.0 s.1).last k x listed (ends.each s.0 s.1))
    to_joins h i is = tt

    of_bits : (p ≡ entry c.main → StartsHold c r p (length r.facts.pairs)) → ((q : Point) → Contains (edges_from c p) q → FlowsTo c r killed p q (length r.facts.pairs)) → JoinsBy c r p (instr_at c p)
        → (a : ℕ) → ReachClosedAt c (touches c rows) (reach_rows c r) a p
    of_bits begun flow joins a = record {
      starts = λ main v low touched. (let f = fact_for (suc v) a (starting v low refl touched) in
          bit_reaches c r p point (suc v) a f.0 f.1 ((begun main).each f.0 f.1.fact (within f.0 f.1.fact f.1.listed) f.1.listed (omega (arith, low, f.1.def))));
      makes = λ d q def touched edge. (let f = fact_for d a (made p def touched) in
          bit_reaches c r q (edge_exists c good p point q edge) d a f.0 f.1 ((flow q edge).makes f.0 f.1.fact (within f.0 f.1.fact f.1.listed) f.1.listed (def ∙ ap Some (sym f.1.def))));
      keeps = λ d q reach alive edge. (let h = reaches_bit c r p d a reach in
          bit_reaches c r q (edge_exists c good p point q edge) d a h.number h.fact
          ((flow q edge).keeps h.number h.fact.fact (within h.number h.fact.fact h.fact.listed) h.fact.listed h.bit (λ kill. alive ((kills.each a).1 (kill ∙ ap Some h.fact.leaf)))));
      joins_one = λ join d entries region q is listed body def reach. one join d entries region q is body def reach (listed_region p.at join entries region listed);
      joins_all = all;
    }
      where
        within : (k : ℕ) (x : Fact) → slice_get r.facts.pairs k ≡ Some x → k < length r.facts.pairs
        within k x listed = slice_get_within r.facts.pairs k x listed

        holds : (join : ℕ) (entries : List ℕ) → instr_at c p ≡ Instr.Fork join entries → JoinsHold c r p.fun p.at join entries
        holds join entries is = subst (JoinsBy c r p) is joins

        one : (join d : ℕ) (entries : List ℕ) (region : Region) (q : Point) → instr_at c p ≡ Instr.Fork join entries → InBody c p.fun region q → new_def (instr_at c q) ≡ Some d
            → reach_rows c r (point_at p.fun region.last) d a ≡ true → (i : ℕ) × (i < length entries) × (region_by p.at join entries i ≡ region) → reach_rows c r (point_at p.fun join) d a ≡ true
        one join d entries region q is body def reach s =
            let h = reaches_bit c r (point_at p.fun region.last) d a reach in
            let hold = (holds join entries is).one.each s.0 s.1 in
            bit_reaches c r (point_at p.fun join) (branches_at c good p point join entries (sym is)).joins d a h.number h.fact
            (hold.each h.number h.fact.fact q (within h.number h.fact.fact h.fact.listed) h.fact.listed (subst (λ z. InBody c p.fun z q) (sym s.2) body) (def ∙ ap Some (sym h.fact.def))
            (subst (λ (z : Region). Bit c r (point_at p.fun z.last) h.number) (sym s.2) h.bit))

        all : (join d : ℕ) (entries : List ℕ) → instr_at c p ≡ Instr.Fork join entries → ((region : Region) → Contains (regions_of p.at join entries) region → reach_rows c r (point_at p.fun region.last) d a ≡ true)
            → reach_rows c r (point_at p.fun join) d a ≡ true
        all join d entries is each =
            let some = (fork_at c good p join entries is).some in
            let low : 0 < length entries = omega (arith, some) in
            let h = reaches_bit c r (point_at p.fun (last_of entries join 0)) d a (each (region_by p.at join entries 0) (region_listed p.at join entries 0 low)) in
            bit_reaches c r (point_at p.fun join) (branches_at c good p point join entries (sym is)).joins d a h.number h.fact
            ((holds join entries is).all.each h.number (within h.number h.fact.fact h.fact.listed)
            (record { each = λ i under. bit_of (point_at p.fun (last_of entries join i)) h.number h.fact.fact h.fact.listed d a h.fact.def h.fact.leaf (each (region_by p.at join entries i) (region_listed p.at join entries i under)) }))

    pub rules_if : (begun led joined : Bool) → (begun ≡ true) ↔ (p ≡ entry c.main → StartsHold c r p (length r.facts.pairs)) → (led ≡ true) ↔ EdgesBy c r killed p (instr_at c p) → (joined ≡ true) ↔ JoinsBy c r p (instr_at c p)
        → ((begun && led && joined) ≡ true) ↔ ((a : ℕ) → ReachClosedAt c (touches c rows) (reach_rows c r) a p)
    unfolding Rules
    rules_if begun led joined x y z = (
      λ h. (let parts = three begun led joined h in of_bits (x.0 parts.0) (edges_flow c r p killed (instr_at c p) kills (y.0 parts.1)) (z.0 parts.2)),
      λ h. all_three begun led joined (x.1 (to_starts h)) (y.1 (flow_edges c r p killed (instr_at c p) kills (to_flows h))) (z.1 (to_joins h (instr_at c p) refl)),
    )
      where
        three : (a b d : Bool) → (a && b && d) ≡ true → (a ≡ true) × (b ≡ true) × (d ≡ true)
        three true true d h = (refl, refl, h)
        three true false d h = cc
        three false b d h = cc

        all_three : (a b d : Bool) → a ≡ true → b ≡ true → d ≡ true → (a && b && d) ≡ true
        all_three a b d h k l = cc
