-- Who called the activation that stands at a return.
use Rattle.std.proofs.Common.{◌≡◌, ℕ, suc, ◌⊎◌, inl, inr, ⊎_elim, List, [], ◌∷◌, true, refl, Some, sym, ◌∙◌, ap, subst}
use Rattle.std.proofs.lemmas.Bool.{cases_eq}
use Rattle.tac_ir.specs.declared.code.Code.{Code}
use Rattle.tac_ir.specs.declared.code.Instr.{Instr}
use Rattle.tac_ir.specs.Layout.{lines_of}
use Rattle.tac_ir.specs.Edges.{calls_fun}
use Rattle.tac_ir.specs.GoodForm
use Rattle.tac_ir.specs.GoodForm.{GoodForm, NamesExist}
use Rattle.tac_ir.proofs.regions.Nested.{inner_of}
use Rattle.tac_thread.specs.declared.guest.Activation.{Activation}
use Rattle.tac_thread.specs.Life.{Life, instr_of}
use Rattle.tac_thread.specs.Threads.{Lives}
use Rattle.tree_law.specs.Placed.{AreStanding, IsPlaced, ArePlaced}
use Rattle.tree_law.proofs.lives.Lines.{there, good_code}
use Rattle.tree_law.proofs.trees.Ancestors.{HaveParents}

-- where a life began: at the entry of main, or in a region
pub record HasPlace {V S : Type 0} (c : Code) (l : Life V S) : Type 0 where
  pub fun : ℕ
  pub region : ℕ
  pub kind : ((region ≡ 0) × (fun ≡ c.main)) ⊎ ((e : ℕ) × (region ≡ suc e))
  pub placed : IsPlaced c fun region l

pub place_of : {V S : Type 0} → (c : Code) (f : Lives V S) → HaveParents f → ArePlaced c f → (n : ℕ) (l : Life V S) → f n ≡ Some l → HasPlace c l
place_of c f parents placed n l lives = ⊎_elim
    (λ (one : n ≡ 1). record { fun = c.main; region = 0; kind = inl (refl, refl); placed = placed.root l (ap f (sym one) ∙ lives) })
    (λ (other : n ≡ 1 → ⊥).
    let up = parents n l lives other in
    let b = placed.branches n up.1.0 l up.0 other lives up.1.1 in
    record { fun = up.1.0.top.fun; region = suc b.entry; kind = inr (b.entry, refl); placed = b.placed })
    (cases_eq n 1)

second_call : {V S : Type 0} → (c : Code) (f r : ℕ) (x y : Activation V S) (callers : List (Activation V S)) → AreStanding c f r x (y ∷ callers) → calls_fun x.fun (instr_of c y) ≡ true
unfolding AreStanding
second_call c f r x y callers h = h.1

-- the caller stands at a call of the function
pub caller_calls : {V S : Type 0} → (c : Code) (l : Life V S) → HasPlace c l → (y : Activation V S) (callers : List (Activation V S)) → l.callers ≡ y ∷ callers → calls_fun l.top.fun (instr_of c y) ≡ true
caller_calls c l h y callers below = second_call c h.fun h.region l.top y callers (subst (AreStanding c h.fun h.region l.top) below h.placed.stands)

-- a link read is in an activation that was called: the first of thread 1 is main's, and that of a branch is in its region
no_first : {V S : Type 0} → (c : Code) → GoodForm c → (f r : ℕ) (x : Activation V S) (v read : ℕ) → instr_of c x ≡ Instr.Ret v (Some read) → AreStanding c f r x [] → ((r ≡ 0) × (f ≡ c.main)) ⊎ ((e : ℕ) × (r ≡ suc e)) → ⊥
unfolding AreStanding
no_first c good f r x v read is stands (inl root) =
    let t = there (lines_of c x.fun) x.at (Instr.Ret v (Some read)) is (λ e. cc) in
    let names = subst (λ z. NamesExist c x.fun z) t.is ((good_code c good x.fun x.at t.line t.found).instrs x.at t.line t.found).names in
    names (stands.0 ∙ root.1)
no_first c good f r x v read is stands (inr branch) =
    let t = there (lines_of c x.fun) x.at (Instr.Ret v (Some read)) is (λ e. cc) in
    let well = good_code c good x.fun x.at t.line t.found in
    let b = inner_of c x.fun (lines_of c x.fun) well x.at branch.0 (stands.1 ∙ branch.1) in
    well.regions.no_return x.at t.line b.region t.found b.listed b.inside (subst GoodForm.IsRet (sym t.is) tt)

pub record HasCaller {V S : Type 0} (l : Life V S) : Type 0 where
  pub caller : Activation V S
  pub callers : List (Activation V S)
  pub is : l.callers ≡ caller ∷ callers

pub has_caller : {V S : Type 0} → (c : Code) → GoodForm c → (l : Life V S) → HasPlace c l → (v read : ℕ) → instr_of c l.top ≡ Instr.Ret v (Some read) → HasCaller l
has_caller {V} {S} c good l h v read ret = by l.callers refl
  where
    by : (callers : List (Activation V S)) → l.callers ≡ callers → HasCaller l
    by [] is = absurd (no_first c good h.fun h.region l.top v read ret (subst (AreStanding c h.fun h.region l.top) is h.placed.stands) h.kind)
    by (y ∷ callers) is = record { caller = y; callers = callers; is = is }
