-- A module with its tables has a good form, and its table of reach is that of the rows of bits.
use Rattle.std.proofs.Common.{◌≡◌, ℕ, suc, ◌<◌, ◌≤◌, Bool, true, false, ◌&&◌, nat_lt, List, [], ◌∷◌, length, get_or, refl, sym, ap, ◌∙◌, subst, arith}
use Rattle.std.specs.Prelude.{All}
use Rattle.std.proofs.lemmas.Bool.{lt-ltb, ltb-true}
use Rattle.std.proofs.lemmas.List.{length-replicate}
use Rattle.dfi_base.specs.Limits.{fact_limit}
use Rattle.dfi_base.specs.declared.numbers.Point.{Point}
use Rattle.dfi_base.specs.Bits.{members}
use Rattle.tac_ir.specs.declared.code.Code.{Code}
use Rattle.tac_ir.specs.declared.module.PointsRow.{PointsRow}
use Rattle.tac_ir.specs.declared.module.Reach.{Reach}
use Rattle.tac_ir.specs.declared.module.ReachRow.{ReachRow}
use Rattle.tac_ir.specs.Accesses.{facts_of}
use Rattle.tac_ir.specs.GoodForm.{GoodForm}
use Rattle.tac_ir.specs.GoodModule.{GoodModule, IsGoodPointsRow, IsGoodReachRow, IsPoint, fact_count}
use Rattle.tac_ir.specs.Layout.{lines_of}
use Rattle.tac_ir.specs.Module.{IsOrdered, Module}
use Rattle.tac_ir.specs.Numbers.{defs_in_code, reads_made}
use Rattle.flow_rules.specs.ReachRows.{ArePointsOf, IsReachOf, reach_rows, row_of}
use Rattle.flow_rules.specs.Tables.{facts_at, has_fact, is_point, reach_in}
use Rattle.module_law.proofs.Ascending.{never, not_both}
use Rattle.module_law.proofs.Orders.{same_point}
use Rattle.instrument.specs.Instruments.{AreSetsOf, Instruments, IsRowOf}

-- a point without a row
none_at : (c : Code) (r : Reach) (rows : List ReachRow) (p : Point) → All (IsRowOf c r) rows → (IsPoint c p → ⊥) → facts_at rows p ≡ []
none_at c r [] p all none = refl
none_at c r (row ∷ rows) p all none =
    ap (λ b. elim b as (λ z. List ℕ) [ true ↦ row.facts | false ↦ facts_at rows p ]) (never (is_point row.point p) (λ h. none (subst (IsPoint c) (same_point row.point p h) (all 0 row (omega arith)).point)))
    ∙ none_at c r rows p (λ k d less. all (suc k) d (omega (arith, less))) none

pub same_reach : (c : Code) (points : List PointsRow) (r : Reach) (sets : List (List ℕ)) (classes : List ℕ) (m : Module) → Instruments c points r sets classes m → IsReachOf c points r
    → (p : Point) (d a : ℕ) → reach_in m p d a ≡ reach_rows c r p d a
same_reach c points r sets classes m is of p d a =
    ap (λ facts. has_fact facts (facts_at m.reach p) d a) facts ∙ by (nat_lt p.at (length (lines_of c p.fun))) refl
  where
    facts : facts_of m.code m.points ≡ r.facts.pairs
    facts = ap (λ k. facts_of k m.points) is.code ∙ ap (facts_of c) is.points_kept ∙ sym of.facts

    by : (b : Bool) → nat_lt p.at (length (lines_of c p.fun)) ≡ b → has_fact r.facts.pairs (facts_at m.reach p) d a ≡ (b && has_fact r.facts.pairs (members (row_of c r p)) d a)
    by true there = ap (λ xs. has_fact r.facts.pairs xs d a) (is.reach p (ltb-true p.at (length (lines_of c p.fun)) there))
    by false there = ap (λ xs. has_fact r.facts.pairs xs d a) (none_at c r m.reach p is.exist (λ low. not_both (sym there ∙ lt-ltb p.at (length (lines_of c p.fun)) low)))

-- numbers from 1 up to how many definitions there are
abbrev pub Within : Code → List ℕ → Type 0
Within c = All (λ n. (1 ≤ n) × (n ≤ defs_in_code c))

pub good_module : (c : Code) (points : List PointsRow) (r : Reach) (sets : List (List ℕ)) (classes : List ℕ) (m : Module) → Instruments c points r sets classes m → GoodForm c → ArePointsOf c points → IsReachOf c points r
    → length r.facts.pairs ≤ fact_limit → AreSetsOf c sets → All (Within c) sets → length classes ≡ defs_in_code c → Within c classes → IsOrdered m.sets m.removed m.points m.reach → GoodModule m
good_module c points r sets classes m is form rows of few has within count numbers ordered = record {
  form = subst GoodForm (sym is.code) form;
  tables = record {
    count = ap length is.classes_kept ∙ count ∙ ap defs_in_code (sym is.code);
    classes = subst (λ k. Within k m.classes) (sym is.code) (subst (Within c) (sym is.classes_kept) numbers);
    sets = subst (λ k. All (Within k) m.sets) (sym is.code) (subst (All (Within c)) (sym is.sets_kept) within);
  };
  sets = ap length is.sets_kept ∙ has.count ∙ ap (λ k. length (reads_made k)) (sym is.code);
  marks = ap length is.checked ∙ length-replicate (length sets) false ∙ has.count ∙ ap (λ k. length (reads_made k)) (sym is.code);
  ordered = ordered;
  points = subst (λ k. All (IsGoodPointsRow k) m.points) (sym is.code) (subst (All (IsGoodPointsRow c)) (sym is.points_kept) rows.good);
  facts = subst (λ n. n ≤ fact_limit) (sym many) few;
  reach = λ k row less. good_row (get_or m.reach k row) (is.exist k row less);
}
  where
    many : fact_count m ≡ length r.facts.pairs
    many = ap (λ k. length (facts_of k m.points)) is.code ∙ ap (λ ps. length (facts_of c ps)) is.points_kept ∙ ap length (sym of.facts)

    good_row : (row : ReachRow) → IsRowOf c r row → IsGoodReachRow m row
    good_row row one = record {
      point = subst (λ k. IsPoint k row.point) (sym is.code) one.point;
      facts = λ j f low. subst (λ n. get_or row.facts j f < n) (sym many) (one.facts j f low);
    }
