-- Where threads end: an activation that was called ends nowhere.
use Rattle.std.proofs.Common.{◌≡◌, ℕ, ◌⊎◌, inl, inr, Bool, true, false, refl, Option, Some, None, sym, ◌∙◌, ap, subst}
use Rattle.std.proofs.lemmas.Bool.{eqb-true}
use Rattle.tac_ir.specs.declared.code.Code.{Code}
use Rattle.tac_ir.specs.declared.code.Instr.{Instr}
use Rattle.tac_ir.specs.declared.code.BinOp.{BinOp}
use Rattle.tac_ir.specs.Layout.{lines_of}
use Rattle.tac_ir.specs.Path.{region_in}
use Rattle.tac_ir.specs.Edges.{calls_fun}
use Rattle.tac_ir.specs.GoodForm
use Rattle.tac_ir.specs.GoodForm.{GoodForm, NamesExist}
use Rattle.tac_ir.proofs.regions.Counted.{outside_if}
use Rattle.tac_ir.proofs.regions.Inside.{end_inside}
use Rattle.tac_thread.specs.declared.guest.Activation.{Activation}
use Rattle.tac_thread.specs.declared.guest.Stage.{Stage}
use Rattle.tac_thread.specs.declared.doing.Doing.{Doing}
use Rattle.tac_thread.specs.declared.want.Want.{Want}
use Rattle.tac_thread.specs.Meaning.{Meaning, divides_by_zero}
use Rattle.tac_thread.specs.Life.{Life, instr_of, temp}
use Rattle.tac_thread.specs.Doing.{given, divided, tested, leaves, doing, asked, link_write, want_at}
use Rattle.tac_thread.specs.Threads.{end_in, ended_of}
use Rattle.tree_law.specs.Placed.{HasLine}
use Rattle.tree_law.proofs.lives.Lines.{there, good_code}

-- A thread ends at an `end`, or at the return of main.

no_given : {V : Type 0} → (to : ℕ) (o : Option V) (v : Option V) → end_in (asked (given to o)) ≡ Some v → ⊥
no_given to None v is = cc
no_given to (Some x) v is = cc

no_divided : {V S : Type 0} → (m : Meaning V S) (to : ℕ) (op : BinOp) (x y : V) (v : Option V) → end_in (asked (divided m to op x y)) ≡ Some v → ⊥
no_divided {V} m to op x y v is = by (divides_by_zero m op y) is
  where
    by : (b : Bool) → end_in (asked (elim b [ true ↦ Doing.Asks Want.Zero | false ↦ given to (m.bin op x y) ])) ≡ Some v → ⊥
    by true z = cc
    by false z = no_given to (m.bin op x y) v z

no_tested : {V : Type 0} → (a b : ℕ) (o : Option Bool) (v : Option V) → end_in (asked (tested {V = V} a b o)) ≡ Some v → ⊥
no_tested a b None v is = cc
no_tested a b (Some true) v is = cc
no_tested a b (Some false) v is = cc

no_leaves : {V : Type 0} → (r : ℕ) (o : Option ℕ) (v : Option V) → end_in (asked (leaves {V = V} r o)) ≡ Some v → ⊥
no_leaves r None v is = cc
no_leaves r (Some w) v is = cc

no_link : {V : Type 0} → (i : Instr) (o : Option ℕ) (v : Option V) → end_in (link_write {V = V} i o) ≡ Some v → ⊥
no_link (Instr.Call to f d args) (Some w) v is = cc
no_link (Instr.Call to f d args) None v is = cc
no_link i o v is = cc

abbrev pub EndsAt : Instr → Type 0
EndsAt i = (i ≡ Instr.End) ⊎ ((x : ℕ) × (i ≡ Instr.Ret x None))

ends_doing : {V S : Type 0} → (m : Meaning V S) (c : Code) (x : Activation V S) (i : Instr) (v : Option V) → end_in (asked (doing m c x i)) ≡ Some v → EndsAt i
ends_doing m c x Instr.End v is = inl refl
ends_doing m c x (Instr.Ret a None) v is = inr (a, refl)
ends_doing m c x (Instr.Ret a (Some r)) v is = absurd (no_leaves r (m.link x.stack) v is)
ends_doing m c x (Instr.Un to op a) v is = absurd (no_given to (m.un op (temp m x a)) v is)
ends_doing m c x (Instr.Bin to op a b) v is = absurd (no_divided m to op (temp m x a) (temp m x b) v is)
ends_doing m c x (Instr.Field to a shape k) v is = absurd (no_given to (m.field c (temp m x a) shape k) v is)
ends_doing m c x (Instr.Decay to a shape) v is = absurd (no_given to (m.decay c (temp m x a) shape) v is)
ends_doing m c x (Instr.Index to a b words) v is = absurd (no_given to (m.index (temp m x a) (temp m x b) words) v is)
ends_doing m c x (Instr.Test a one other) v is = absurd (no_tested one other (m.truth (temp m x a)) v is)
ends_doing m c x i v is = cc

pub ends_life : {V S : Type 0} → (m : Meaning V S) (c : Code) (l : Life V S) (v : Option V) → ended_of m c (Some l) ≡ Some v → EndsAt (instr_of c l.top)
ends_life {V} {S} m c l v is = by l.stage is
  where
    by : (s : Stage V S) → end_in (want_at m c l.top s) ≡ Some v → EndsAt (instr_of c l.top)
    by Stage.Ready z = ends_doing m c l.top (instr_of c l.top) v z
    by (Stage.Entering callee) z = absurd (no_link (instr_of c l.top) (m.link callee.stack) v z)
    by (Stage.Leaving link) z = cc
    by Stage.Waiting z = cc

pub not_main : (c : Code) → GoodForm c → {V S : Type 0} → (g : ℕ) (y : Activation V S) (i : Instr) → instr_of c y ≡ i → calls_fun g i ≡ true → g ≡ c.main → ⊥
not_main c good g y (Instr.Call to k def args) is call same =
    let t = there (lines_of c y.fun) y.at (Instr.Call to k def args) is (λ e. cc) in
    let names = subst (λ z. GoodForm.NamesExist c y.fun z) t.is ((good_code c good y.fun y.at t.line t.found).instrs y.at t.line t.found).names in
    names.not_main (sym (eqb-true g k call) ∙ same)
not_main c good g y i is call same = cc

own_line : {V S : Type 0} → (c : Code) (x : Activation V S) (line : HasLine c x) → instr_of c x ≡ line.0.instr
own_line c x line = ap (λ o. elim o [ None ↦ Instr.End | Some l ↦ l.instr ]) line.1

-- a deeper activation ends nowhere
pub not_deeper : {V S : Type 0} → (c : Code) → GoodForm c → (x y : Activation V S) → EndsAt (instr_of c x) → region_in (lines_of c x.fun) x.at ≡ 0 → calls_fun x.fun (instr_of c y) ≡ true → HasLine c x → ⊥
not_deeper c good x y (inl stop) none call line =
    end_inside c x.fun (lines_of c x.fun) (good_code c good x.fun x.at line.0 line.1) x.at line.0 line.1 (sym (own_line c x line) ∙ stop) (outside_if (lines_of c x.fun) x.at none)
not_deeper c good x y (inr ret) none call line =
    let names = subst (λ w. NamesExist c x.fun w) (sym (own_line c x line) ∙ ret.1) ((good_code c good x.fun x.at line.0 line.1).instrs x.at line.0 line.1).names in
    not_main c good x.fun y (instr_of c y) refl call names
