-- Choices and loops hold where their parts do.
use Rattle.std.proofs.Common.{◌≡◌, ℕ, ◌+◌, ◌≤◌, ◌⊎◌, inl, inr, Bool, true, List, [], ◌∷◌, Some, None, refl, sym, ◌∙◌, subst, arith}
use Rattle.c_typed.specs.IsWell.{Round, in_loop_of}
use Rattle.tac_ir.specs.GoodForm.{IsTurn}
use Rattle.tac_lower.specs.declared.draft.Numbers.{Numbers}
use Rattle.tac_lower.specs.declared.draft.Ends.{Ends}
use Rattle.tac_lower.specs.Parts.{Part, from_here, within, in_turn, ◌⨟◌}
use Rattle.tac_lower.specs.Instrs.{skip, jump}
use Rattle.tac_lower.specs.Stmts.{choice, turn, while, for}
use Rattle.tac_lower.proofs.form.Zones.{Top, top_before, top_behind, zone_level}
use Rattle.tac_lower.proofs.form.Holds.{World, regions, Sits, own, Anywhere, Keeps, Reaches, Holds, holds_chained, holds_next, holds_given, holds_within, holds_from_here, top_chained}
use Rattle.tac_lower.proofs.form.Fits.{turn_holds, goto_holds}
use Rattle.tac_lower.proofs.form.ExprParts.{Piece, AllHold}

-- where a statement may go besides itself: to the ends of the loop round it
abbrev pub aims_of : Round → Ends → ℕ → Type 0
aims_of r ends t = (r.looped ≡ true) × ((t ≡ ends.leave) ⊎ (t ≡ ends.again))

-- a test that goes on behind it, or past so many instructions
pub record IsGuard (w : World) (b : Bool) (g : ℕ → Part ℕ) : Type 0 where
  pub holds : (past : ℕ) → Holds w b (λ ends lo t. t ≡ lo + (g past).points + past) (g past)

-- the index at the end of a piece, and that at its begin, are in no region of it
top_end : (w : World) (p : Part ℕ) (ends : Ends) (n : Numbers) (t : ℕ) → Keeps w p → n.at + p.points ≤ t → Top t (own w n.at (p.make ends n).drafts)
top_end w p ends n t is h = top_behind n.at (n.at + p.points) t (own w n.at (p.make ends n).drafts) h (is.held ends n)

top_start : (w : World) (p : Part ℕ) (ends : Ends) (n : Numbers) (t : ℕ) → Keeps w p → t ≤ n.at → Top t (own w n.at (p.make ends n).drafts)
top_start w p ends n t is h = top_before n.at (n.at + p.points) t (own w n.at (p.make ends n).drafts) h (is.held ends n)

module _ (w : World) (b : Bool) (outs : Ends → ℕ → Type 0) where
  pub turn_all : (ps : List (Part ℕ)) → AllHold w b outs ps → Piece w b outs (in_turn ps)
  turn_all [] all = holds_given w b (Anywhere outs) 0
  turn_all (p ∷ ps) all = holds_next w b outs p (in_turn ps) all.0 (turn_all ps all.1)

  -- Choices.
  pub choice_one : (line : ℕ) (g : ℕ → Part ℕ) (first : Part ℕ) → IsGuard w b g → Piece w b outs first → Piece w b outs (choice line g first None)
  choice_one line g first is one =
      let test = is.holds first.points in
      holds_chained w b (λ ends lo t. t ≡ lo + (g first.points).points + first.points) (Anywhere outs) (Anywhere outs) 0 (g first.points) (λ a. first) test (λ ends n. one) (λ ends n. refl)
      (λ ends n t e.
      let next = ((g first.points).make ends n).next in
      let at = test.keeps.at ends n in
      inl (omega arith, omega arith, top_end w first ends next t one.keeps (omega arith))) (λ ends n t o. o)

  skipped : (line : ℕ) (second : Part ℕ) → Piece w b outs second → Piece w b outs (skip line second.points ⨟ second)
  skipped line second two =
      holds_chained w b (λ ends lo t. t ≡ lo + 1 + second.points) (Anywhere outs) (Anywhere outs) 0 (skip line second.points) (λ a. second) (goto_holds w b line (λ at. at + 1 + second.points))
      (λ ends n. two) (λ ends n. refl)
      (λ ends n t e. (let next = ((skip line second.points).make ends n).next in inl (omega arith, omega arith, top_end w second ends next t two.keeps (omega arith)))) (λ ends n t o. o)

  pub choice_two : (line : ℕ) (g : ℕ → Part ℕ) (first second : Part ℕ) → IsGuard w b g → Piece w b outs first → Piece w b outs second → Piece w b outs (choice line g first (Some second))
  choice_two line g first second is one two =
      let past = first.points + 1 in
      let test = is.holds past in
      let rest = skip line second.points ⨟ second in
      holds_chained w b (λ ends lo t. t ≡ lo + (g past).points + past) (Anywhere outs) (Anywhere outs) 0 (g past) (λ a. first ⨟ rest) test
      (λ ends n. holds_next w b outs first rest one (skipped line second two)) (λ ends n. refl)
      (λ ends n t e.
      let next = ((g past).make ends n).next in
      let at = test.keeps.at ends n in
      let behind = (first.make ends next).next in
      let there = one.keeps.at ends next in
      let jumped = ((skip line second.points).make ends behind).next in
      inl (
        omega arith,
        omega arith,
        top_chained w 0 first (λ a. rest) ends next t one.keeps (top_end w first ends next t one.keeps (omega arith))
            (top_chained w 0 (skip line second.points) (λ a. second) ends behind t (goto_holds w b line (λ at. at + 1 + second.points)).keeps tt (top_start w second ends jumped t two.keeps (omega arith))),
      ))
      (λ ends n t o. o)

  -- whoever goes back to the begin of a loop goes to its `turn`
  turned : (p : Part ℕ) → ((ends : Ends) (n : Numbers) → Sits w n.at (p.make ends n).drafts → IsTurn w.lines n.at) → Holds w b (λ ends lo t. t ≡ lo) p → Piece w b outs p
  turned p turns is = record {
    keeps = is.keeps;
    fits = λ ends n s.
        let high = n.at + p.points in
        let rs = own w n.at (p.make ends n).drafts in
        let below = s.below in
        let head : Reaches w n.at high rs n.at = record {
          inside = omega arith;
          onward = inr (turns ends n s.sits);
          level = λ i low up top. zone_level (regions w) b n.at high rs i n.at s.zone low (omega arith) (omega arith) (omega arith) top (top_start w p ends n n.at is.keeps (omega arith));
        } in
        is.fits ends n (record { sits = s.sits; zone = s.zone; below = s.below; reaches = λ t e. subst (λ k. Reaches w n.at high rs k) (sym e) head });
  }

  -- Loops: a body goes to the ends of this loop alone.
  looped : (r : Round) (ends_at : ℕ → Ends) (body : Part ℕ) → Piece w b (aims_of (in_loop_of r)) body
      → Holds w b (λ ends lo t. aims_of (in_loop_of r) (ends_at lo) t) (from_here (λ at. within (ends_at at) body))
  looped r ends_at body is =
      holds_from_here w b (λ at ends lo t. aims_of (in_loop_of r) (ends_at at) t) (λ at. within (ends_at at) body)
      (λ at. holds_within w b (Anywhere (aims_of (in_loop_of r))) (ends_at at) body is) (λ at. refl)

  -- a loop by what stands behind its guard, and goes back
  guarded : (line past : ℕ) (g : ℕ → Part ℕ) (tail : ℕ → Part ℕ) → IsGuard w b g → ((head : ℕ) → Holds w b (λ ends lo t. t ≡ head) (tail head)) → ((head : ℕ) → (tail head).points ≡ past)
      → Piece w b outs (from_here (λ head. turn line ⨟ g past ⨟ tail head))
  guarded line past g tail is that size =
      turned (from_here (λ head. turn line ⨟ g past ⨟ tail head)) (λ ends n s. (_, s.0, refl))
      (holds_from_here w b (λ head ends lo t. t ≡ head) (λ head. turn line ⨟ g past ⨟ tail head) (λ head.
      holds_chained w b (λ ends lo t. t ≡ head) (λ ends lo t. t ≡ head) (λ ends lo t. t ≡ head) 0 (turn line) (λ a. g past ⨟ tail head) (turn_holds w b (λ ends lo t. t ≡ head) line)
      (λ ends n. behind head) (λ ends n. refl) (λ ends n t o. inr o) (λ ends n t o. o)) (λ head. (let one = size head in let two = size 0 in omega arith)))
    where
      behind : (head : ℕ) → Holds w b (λ ends lo t. t ≡ head) (g past ⨟ tail head)
      behind head =
          let test = is.holds past in
          let rest = that head in
          holds_chained w b (λ ends lo t. t ≡ lo + (g past).points + past) (λ ends lo t. t ≡ head) (λ ends lo t. t ≡ head) 0 (g past) (λ a. tail head) test (λ ends n. rest) (λ ends n. refl)
          (λ ends n t e.
          let next = ((g past).make ends n).next in
          let at = test.keeps.at ends n in
          let count = size head in
          inl (omega arith, omega arith, top_end w (tail head) ends next t rest.keeps (omega arith))) (λ ends n t o. o)

  -- the body of a loop, and what stands behind it: `break` goes to the end of that
  before_tail : (r : Round) (body tail : Part ℕ) (head : ℕ) (ends_at : ℕ → Ends) → Piece w b (aims_of (in_loop_of r)) body → Holds w b (λ ends lo t. t ≡ head) tail
      → ((at : ℕ) → (ends_at at).leave ≡ at + body.points + tail.points) → ((at : ℕ) → ((ends_at at).again ≡ head) ⊎ ((ends_at at).again ≡ at + body.points))
      → Holds w b (λ ends lo t. t ≡ head) (from_here (λ at. within (ends_at at) body) ⨟ tail)
  before_tail r body tail head ends_at is that leave again =
      let loop = looped r ends_at body is in
      holds_chained w b (λ ends lo t. aims_of (in_loop_of r) (ends_at lo) t) (λ ends lo t. t ≡ head) (λ ends lo t. t ≡ head) 0 (from_here (λ at. within (ends_at at) body)) (λ a. tail) loop
      (λ ends n. that) (λ ends n. refl)
      (λ ends n t o. aimed ends n t ((from_here (λ at. within (ends_at at) body)).make ends n).next (loop.keeps.at ends n) (leave n.at) (again n.at) o.1) (λ ends n t o. o)
    where
      aimed : (ends : Ends) (n : Numbers) (t : ℕ) (next : Numbers) → next.at ≡ n.at + body.points → (ends_at n.at).leave ≡ n.at + body.points + tail.points
          → ((ends_at n.at).again ≡ head) ⊎ ((ends_at n.at).again ≡ n.at + body.points) → (t ≡ (ends_at n.at).leave) ⊎ (t ≡ (ends_at n.at).again)
          → ((next.at ≤ t) × (t ≤ next.at + tail.points) × Top t (own w next.at (tail.make ends next).drafts)) ⊎ (t ≡ head)
      aimed ends n t next at leave again (inl e) = inl (omega arith, omega arith, top_end w tail ends next t that.keeps (omega arith))
      aimed ends n t next at leave (inl back) (inr e) = inr (e ∙ back)
      aimed ends n t next at leave (inr on) (inr e) = inl (omega arith, omega arith, top_start w tail ends next t that.keeps (omega arith))

  pub while_holds : (line : ℕ) (g : ℕ → Part ℕ) (r : Round) (body : Part ℕ) → IsGuard w b g → Piece w b (aims_of (in_loop_of r)) body → Piece w b outs (while line g body)
  while_holds line g r body is that =
      let loop = λ (head at : ℕ). within (record { leave = at + body.points + 1; again = head }) body in
      guarded line (body.points + 1) g (λ head. from_here (loop head) ⨟ jump line head) is
      (λ head. before_tail r body (jump line head) head (λ at. record { leave = at + body.points + 1; again = head }) that (goto_holds w b line (λ at. head)) (λ at. refl) (λ at. inl refl)) (λ head. refl)

  pub for_holds : (line : ℕ) (g : ℕ → Part ℕ) (r : Round) (step body : Part ℕ) → IsGuard w b g → ((head : ℕ) → Holds w b (λ ends lo t. t ≡ head) step) → Piece w b (aims_of (in_loop_of r)) body
      → Piece w b outs (for line g step body)
  for_holds line g r step body is last that =
      guarded line (body.points + step.points + 1) g (λ head. from_here (λ at. within (record { leave = at + body.points + step.points + 1; again = at + body.points }) body) ⨟ step ⨟ jump line head) is
      (λ head. before_tail r body (step ⨟ jump line head) head (λ at. record { leave = at + body.points + step.points + 1; again = at + body.points }) that
      (holds_chained w b (λ ends lo t. t ≡ head) (λ ends lo t. t ≡ head) (λ ends lo t. t ≡ head) 0 step (λ a. jump line head) (last head) (λ ends n. goto_holds w b line (λ at. head)) (λ ends n. refl)
      (λ ends n t o. inr o) (λ ends n t o. o)) (λ at. omega arith) (λ at. inr refl)) (λ head. omega arith)
