-- What stays of a pass.
use Rattle.std.specs.Prelude.{◌≡◌, [], ◌∷◌, None}
use Rattle.tac_ir.specs.Module.{Module}
use Rattle.stripe_rule.specs.Kids.{remove}
use Rattle.stripe_table.specs.declared.memory.SharedMem.{SharedMem}
use Rattle.stripe_table.specs.declared.pass.Pass.{Pass}
use Rattle.stripe_table.specs.Passes.{plan_of, knows, IsPassOf}
use Rattle.test_stripes.specs.declared.scene.Family.{Family}

-- the memory was made for this module, with 16 stripes
abbrev pub IsOf : Module → SharedMem → Type 0
IsOf m mem = ((plan_of mem).md ≡ m) × ((plan_of mem).stripes ≡ 16)

-- the pass is of the memory, and has its name and its live children as before
abbrev pub Stays : SharedMem → Pass → Pass → Type 0
Stays mem p q = IsPassOf mem q × (q.name ≡ p.name) × ((knows q).kids ≡ (knows p).kids)

-- thread 1 and its two branches
abbrev pub IsFamily : SharedMem → Family → Type 0
IsFamily mem f =
    (IsPassOf mem f.root × (f.root.name ≡ 1) × ((knows f.root).kids ≡ 18 ∷ 17 ∷ []))
    × (IsPassOf mem f.first × (f.first.name ≡ 17) × ((knows f.first).kids ≡ []))
    × (IsPassOf mem f.second × (f.second.name ≡ 18) × ((knows f.second).kids ≡ []))

-- the pass took the child in
abbrev pub IsTaken : SharedMem → Pass → Pass → Pass → Type 0
IsTaken mem child p q = IsPassOf mem q × (q.held ≡ p.held) × (q.name ≡ p.name) × ((knows q).kids ≡ remove child.name (knows p).kids)

-- and it holds no lock
abbrev pub IsFree : SharedMem → Pass → Pass → Type 0
IsFree mem p q = Stays mem p q × (q.held ≡ None)
