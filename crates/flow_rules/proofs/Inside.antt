-- The descent into the nodes of a shape.
use Rattle.std.proofs.Common.{◌≡◌, ℕ, zero, suc, ◌-◌, ◌<◌, List, [], get_or, sym, ap, ◌∙◌, arith, Some, None}
use Rattle.std.specs.Prelude.{slice_get}
use Rattle.std.proofs.lemmas.List.{append-nil}
use Rattle.std.proofs.lemmas.Option.{slice_get_within, slice_get-get_or}
use Rattle.tac_ir.specs.declared.code.Code.{Code}
use Rattle.tac_ir.specs.declared.code.Shape.{Shape}
use Rattle.tac_ir.specs.Counts.{shape_nodes}
use Rattle.tac_ir.specs.GoodForm.{GoodForm}
use Rattle.tac_ir.specs.Nodes.{shapes_below}
use Rattle.tac_ir.proofs.ShapeWords.{all_below}
use Rattle.flow_rules.specs.tools.Spots.{nodes_of, nodes_of_all, IsWithinSome, IsBehindAll, IsInside}
use Rattle.flow_rules.proofs.ShapeNodes.{shape_nodes_at, item_of, nodes_with}
use Rattle.flow_rules.proofs.Spots.{nodes_at}

-- node k of a shape that exists, behind its first
behind_first : (c : Code) → GoodForm c → (s k : ℕ) (shape : Shape) → slice_get c.shapes s ≡ Some shape → 0 < k → slice_get (nodes_of c s) k ≡ slice_get (shapes_below (nodes_of c) shape) (k - 1)
behind_first c good s zero shape found low = absurd (omega (arith, low))
behind_first c good s (suc k) shape found low =
    let same : k ≡ suc k - 1 = omega arith in
    ap (λ l. slice_get l (suc k)) (nodes_at c good s shape found) ∙ ap (slice_get (shapes_below (nodes_of c) shape)) same

pub into_item : (c : Code) → GoodForm c → (s n here k len item : ℕ) → IsInside c s n here k → 0 < k → slice_get c.shapes here ≡ Some (Shape.Array len item) → IsInside c s n item (k - 1)
into_item c good s n here k len item h low found =
    let i = item_of c good here len item found in
    let earlier = i.earlier in
    let nodes = i.nodes in
    let fits = h.fits in
    let listed = h.listed in
    record { listed = omega (arith, earlier, listed); fits = omega (arith, nodes, fits); node = h.node ∙ behind_first c good here k (Shape.Array len item) found low }

pub into_part : (c : Code) → GoodForm c → (s n here k : ℕ) (parts : List ℕ) → IsInside c s n here k → 0 < k → slice_get c.shapes here ≡ Some (Shape.Struct parts) → (part j : ℕ)
    → IsWithinSome c parts (k - 1) part j → IsInside c s n part j
into_part c good s n here k parts h low found part j there =
    let earlier = all_below here parts (good.shapes.each here (Shape.Struct parts) found).earlier there.index part there.listed in
    let fits = h.fits in
    let listed = h.listed in
    let within = slice_get_within parts there.index part there.listed in
    let item : get_or parts there.index part ≡ part = (let same : Some (get_or parts there.index part) ≡ Some part = sym (slice_get-get_or parts there.index part within) ∙ there.listed in cc) in
    record {
      listed = omega (arith, earlier, listed);
      fits = omega (arith, fits, shape_nodes_at c good here (Shape.Struct parts) found, nodes_with (shape_nodes c) parts there.index part within, ap (shape_nodes c) item);
      node = h.node ∙ behind_first c good here k (Shape.Struct parts) found low ∙ ap (λ l. slice_get (nodes_of_all c l) (k - 1)) (sym (append-nil parts)) ∙ there.node [];
    }

pub past_parts : (c : Code) → GoodForm c → (s n here k : ℕ) (parts : List ℕ) → IsInside c s n here k → 0 < k → slice_get c.shapes here ≡ Some (Shape.Struct parts) → (j : ℕ)
    → IsBehindAll c parts (k - 1) j → None ≡ slice_get (nodes_of c s) n
past_parts c good s n here k parts h low found j there =
    sym (h.node ∙ behind_first c good here k (Shape.Struct parts) found low ∙ ap (λ l. slice_get (nodes_of_all c l) (k - 1)) (sym (append-nil parts)) ∙ there.node [])

pub past_leaf : (c : Code) → GoodForm c → (s n here k : ℕ) → IsInside c s n here k → 0 < k → (shape : Shape) → slice_get c.shapes here ≡ Some shape → shapes_below (nodes_of c) shape ≡ []
    → None ≡ slice_get (nodes_of c s) n
past_leaf c good s n here k h low shape found none = sym (h.node ∙ behind_first c good here k shape found low ∙ ap (λ l. slice_get l (k - 1)) none)

pub not_past : (c : Code) (s n here k : ℕ) → IsInside c s n here k → slice_get c.shapes here ≡ None → ⊥
not_past c s n here k h none = (let clash = sym (slice_get-get_or c.shapes here Shape.Int h.listed) ∙ none in cc)

pub at_first : (c : Code) → GoodForm c → (s n here k : ℕ) → IsInside c s n here k → k ≡ 0 → Some here ≡ slice_get (nodes_of c s) n
at_first c good s n here k h zero_is =
    sym (h.node ∙ ap (slice_get (nodes_of c here)) zero_is ∙ ap (λ l. slice_get l 0) (nodes_at c good here (get_or c.shapes here Shape.Int) (slice_get-get_or c.shapes here Shape.Int h.listed)))
