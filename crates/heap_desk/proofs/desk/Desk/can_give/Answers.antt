use Rattle.std.proofs.Common.{◌≡◌, ℕ, Option, Some, None, ◌∙◌, refl, drop}
use Rattle.std.specs.Prelude.{is_some}
use Rattle.heap_desk.specs.Desk.{Desk}
use Rattle.heap_desk.specs.Replies.{can_give}
use Rattle.heap_desk.specs.declared.places.Places.{Places}
use Rattle.heap_desk.specs.tools.Spans.{blocks_of}
use Rattle.heap_desk.specs.tools.Indexed.{IsIndexOf}
use Rattle.heap_desk.proofs.Heaps.{begun, may_give, may_not_give}
use Rattle.heap_desk.proofs.desk.Desk.can_give.Goals as goal

either : (p : Places) (d : Desk) (w : ℕ) (o : Option ℕ) → d.blocks ≡ blocks_of p.ends.items → (w ≡ 0 → ⊥) → IsIndexOf p.ends.items w o → is_some o ≡ can_give d w
either p d w None same other none = may_not_give d w other (cc (same, begun p w None none))
either p d w (Some k) same other there = may_give d w (cc (same, begun p w (Some k) there))

pub returns : goal.returns
returns c =
    let inside = c.self.inside in
    let desk : Desk = record { size = inside.size; blocks = blocks_of inside.places.ends.items; rest = drop inside.read inside.input.items } in
    rw (← c.self.view_is) (c.is_some.ensures ∙ either inside.places desk c.args.word c.index_of.result refl c.if-word-eq0.false c.index_of.ensures)
