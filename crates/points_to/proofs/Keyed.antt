-- What points somewhere is a temporary or a node of the code.
use Rattle.std.proofs.Common.{◌≡◌, ℕ, ◌<◌, List, [], ◌∷◌, All, refl, subst, arith}
use Rattle.std.proofs.lemmas.Option.{slice_get_within}
use Rattle.dfi_base.specs.declared.numbers.Point.{Point}
use Rattle.tac_ir.specs.declared.code.Code.{Code}
use Rattle.tac_ir.specs.declared.code.Instr.{Instr}
use Rattle.tac_ir.specs.declared.module.Key.{Key}
use Rattle.tac_ir.specs.Layout.{instr_at}
use Rattle.tac_ir.specs.Counts.{temps_named, temps_of}
use Rattle.tac_ir.specs.GoodForm.{GoodForm, IsGoodCall}
use Rattle.tac_ir.specs.GoodModule.{IsKey}
use Rattle.flow_rules.specs.PointsTo.{PointsTo}
use Rattle.flow_rules.specs.PointsTo.PointsTo.{addr, field, decay, index, new, call, ret, get, load, set, store}
use Rattle.points_to.proofs.Inside.{place_low}
use Rattle.points_to.proofs.Named.{names_at, temps_at, params_below}
use Rattle.points_to.proofs.Sound.{leaf_low}

first_low : (c : Code) (p : Point) (i : Instr) → instr_at c p ≡ i → (t : ℕ) (ts : List ℕ) → temps_named i ≡ t ∷ ts → t < temps_of c p.fun
first_low c p i at t ts named = subst (λ l. All (λ x. x < temps_of c p.fun) l) named (temps_at c p i at) 0 0 (omega arith)

pub keyed : (c : Code) → GoodForm c → (key : Key) (n : ℕ) → PointsTo c key n → IsKey c key
keyed c good _ _ (addr p to place at) = first_low c p (Instr.Addr to place) at to [] refl
keyed c good _ _ (field p to x s k n at from shape) = first_low c p (Instr.Field to x s k) at to (x ∷ []) refl
keyed c good _ _ (decay p to x s n at from shape) = first_low c p (Instr.Decay to x s) at to (x ∷ []) refl
keyed c good _ _ (index p to x y words n at from) = first_low c p (Instr.Index to x y words) at to (x ∷ y ∷ []) refl
keyed c good _ _ (new p to x site at) = first_low c p (Instr.New to x site) at to (x ∷ []) refl
keyed c good _ _ (call p to g d i x n args at place from) =
    let good_call : IsGoodCall c g args = names_at c good p (Instr.Call to g d args) at in
    let below = params_below c g in
    let within = slice_get_within args i x place in
    omega (arith, below, within, good_call.count)
keyed c good _ _ (ret p q x to d n r args at called from) = first_low c q (Instr.Call to p.fun d args) called to args refl
keyed c good _ _ (get p to r n place at from) = first_low c p (Instr.Get to place r) at to [] refl
keyed c good _ _ (load p to x r a n at pointer leaf from) = first_low c p (Instr.Load to x r) at to (x ∷ []) refl
keyed c good _ _ (set p x d n place at from) =
    let leaf = names_at c good p (Instr.Set place x d) at in
    place_low c good p.fun place (leaf.0, leaf.1)
keyed c good _ _ (store p x y d a n at pointer leaf from) = leaf_low c a leaf
