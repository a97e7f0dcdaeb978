-- A branch begins at the point and in the stack that its parent's fork gives it.
use Rattle.std.proofs.Common.{◌≡◌, ℕ, suc, ◌+◌, ◌-◌, ◌*◌, ◌/◌, ◌≤◌, length, refl, arith, sym, ◌∙◌, ap, subst}
use Rattle.std.specs.Prelude.{slice_index}
use Rattle.tac_ir.specs.Layout.{instr_at}
use Rattle.tac_ir.specs.Effect.{Spot}
use Rattle.tac_ir.specs.Path.{frame_end}
use Rattle.tac_ir.specs.Threads.{IsForked, IsForkedAt, room_at, share_start}
use Rattle.tac_thread.specs.Life.{instr_of}
use Rattle.tac_thread.specs.Begun.{entry_of}
use Rattle.path_law.specs.Standing.{first_spot}
use Rattle.path_law.proofs.Begins.{forking, shared}
use Rattle.path_law.proofs.Temps.{value_index}
use Rattle.merge_law.specs.GuestLaws.{start_of, BranchStarts}

one_more : (top w i : ℕ) → 1 ≤ i → top + (i - 1) * w + w ≡ top + i * w
one_more top w i h = omega (arith, expand (i - 1), again)
  where
    expand : (j : ℕ) → suc j * w ≡ j * w + w
    expand j = omega arith

    again : i * w ≡ suc (i - 1) * w
    again = let e : i ≡ suc (i - 1) = omega (arith, h) in ap (λ k. k * w) e

pub branch_starts : BranchStarts
branch_starts c s own l n i stack now want from share =
    let x = l.top in
    let f = forking c s own l n now want in
    let a = f.before.act in
    let act = f.before.stack.own in
    let entries = f.fork.entries in
    let given = shared ((x.stack.«end» - x.stack.top) / n) i x.stack stack share in
    let start = share_start c s f.steps (first_spot a x) entries i in
    let words : room_at c s f.steps a / length entries ≡ (x.stack.«end» - x.stack.top) / n =
    ap (λ k. (k - frame_end c s f.steps a) / length entries) act.limit ∙ ap (λ k. (x.stack.«end» - k) / length entries) act.top
    ∙ ap (λ k. (x.stack.«end» - x.stack.top) / k) f.fork.count in
    let w = (x.stack.«end» - x.stack.top) / n in
    let top : start.region ≡ stack.top =
    ap (λ k. k + (i - 1) * (room_at c s f.steps a / length entries)) act.top ∙ ap (λ k. x.stack.top + (i - 1) * k) words ∙ sym given.top in
    let entry : slice_index entries (i - 1) ≡ entry_of (instr_of c x) i = sym (value_index entries (i - 1)) ∙ ap (λ j. entry_of j i) (sym f.fork.is) in
    let base : start.base ≡ stack.base = act.base ∙ sym given.base in
    let limit : start.region_end ≡ stack.«end» =
    ap (λ k. k + (room_at c s f.steps a / length entries)) (top ∙ given.top) ∙ ap (λ k. x.stack.top + (i - 1) * w + k) words ∙ one_more x.stack.top w i from ∙ sym given.limit in
    let same : start ≡ start_of x.fun (entry_of (instr_of c x) i) stack = (λ j. record { point = record { fun = x.fun; at = entry j }; base = base j; region = top j; region_end = limit j }) in
    subst (IsForked c s own i) same (
      f.steps,
      f.path,
      subst (λ (q : Spot). IsForkedAt c s f.steps q i (instr_at c q.point) start) (sym f.before.spot)
          (subst (λ j. IsForkedAt c s f.steps (first_spot a x) i j start) (sym f.fork.is) refl),
    )
