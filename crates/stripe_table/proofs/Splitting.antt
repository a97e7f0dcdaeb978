-- A pass that is split has parts left.
use Rattle.std.proofs.Common.{◌≡◌, ℕ, ◌+◌, ◌-◌, ◌*◌, ◌<◌, ◌≤◌, ◌∷◌, sym, subst, arith}
use Rattle.dfi_base.specs.Names.{depth_of}
use Rattle.stripe_rule.specs.declared.view.View.{View}
use Rattle.stripe_rule.specs.Kids.{share_of, Has, AreKids, IsShared}
use Rattle.stripe_rule.proofs.Kids.{few_kids, shares_left}

pub left_over : (v : View) (name i : ℕ) → v.name ≡ name → 1 ≤ i → i ≤ 15 → (Has (16 * name + i) v.kids → ⊥) → depth_of name < 14 → 0 < v.parts → IsShared v.name v.parts v.kids
    → 0 < v.parts - share_of v.name
left_over v name i is low high free shallow live shared =
    let kids : AreKids v.name ((16 * name + i) ∷ v.kids) = (omega (arith, is, low), omega (arith, is, high), free, shared.are) in
    let few = few_kids v.name ((16 * name + i) ∷ v.kids) kids in
    let deep : depth_of v.name < 14 = subst (λ n. depth_of n < 14) (sym is) shallow in
    let less = shares_left v.name v.parts v.kids deep live shared (omega (arith, few)) in
    omega (arith, less)
