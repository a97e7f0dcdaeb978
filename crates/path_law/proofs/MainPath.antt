-- The path of a life that begins in no branch keeps outside of all branches, and so ends at a return.
use Rattle.std.proofs.Common.{◌≡◌, ℕ, suc, ◌+◌, ◌<◌, List, [], ◌∷◌, ◌++◌, length, Bool, true, false, refl, Option, Some, None, arith, sym, ◌∙◌, ap, subst}
use Rattle.std.specs.Prelude.{nat_eq, slice_get}
use Rattle.std.proofs.lemmas.Bool.{eqb-true}
use Rattle.dfi_base.specs.declared.numbers.Point.{Point}
use Rattle.tac_ir.specs.declared.code.Code.{Code}
use Rattle.tac_ir.specs.declared.code.Instr.{Instr}
use Rattle.tac_ir.specs.declared.code.Lined.{Lined}
use Rattle.tac_ir.specs.declared.run.Op.{Op}
use Rattle.tac_ir.specs.declared.run.Entry.{Entry}
use Rattle.tac_ir.specs.Layout.{lines_of, instr_at}
use Rattle.tac_ir.specs.Effect.{Spot, Here, effect_of, is_last}
use Rattle.tac_ir.specs.Path.{Step, Start, region_in, callee, called_by, calls_in, makes, call_of, call_from, resumed, link_read, back_of, here_at, temp_of, next_spot, event_at, Takes, IsPath}
use Rattle.tac_ir.specs.GoodForm.{GoodForm, all_targets_of}
use Rattle.path_law.specs.Standing.{IsCall}
use Rattle.path_law.specs.Wants.{ended_with, EndsWith}
use Rattle.path_law.proofs.Returns.{found_call}
use Rattle.tac_ir.proofs.regions.Counted.{IsOutside, outside_if, none_if}
use Rattle.path_law.proofs.Homes.{IsHome, is_passed, home_instr, entry_home, next_home, target_home, no_end_home, callee_exists}

-- a point in no branch
abbrev pub AtHome : Code → Point → Type 0
AtHome c p = IsHome c p.fun p.at

-- and that of a call
abbrev IsHomeCall : Code → Point → Type 0
IsHomeCall c p = AtHome c p × IsCall (instr_at c p)

call_passed : (i : Instr) → IsCall i → is_passed i ≡ true
call_passed (Instr.Call to f def args) is = refl
call_passed i is = absurd is

behind_call : (c : Code) → GoodForm c → (p : Point) → IsHomeCall c p → IsHome c p.fun (p.at + 1)
behind_call c good p call = next_home c good p.fun p.at call.0 (ap is_passed (sym (home_instr c p.fun p.at call.0)) ∙ call_passed (instr_at c p) call.1)

-- where a return goes on
abbrev HomeBack : Code → Option Spot → Type 0
HomeBack c None = Unit {0}
HomeBack c (Some back) = IsHomeCall c back.point

join_is : (xs : List ℕ) (join : ℕ) → slice_get (xs ++ join ∷ []) (length xs) ≡ Some join
join_is [] join = refl
join_is (x ∷ xs) join = join_is xs join

abbrev join_at : Instr → ℕ
join_at (Instr.Fork join entries) = join
join_at i = 0

-- One step.

next_of_call : (c : Code) → GoodForm c → (here : Here) (to f def : ℕ) (args : List ℕ) (val : ℕ → ℕ) (b : Bool) → AtHome c here.spot.point → f < length c.funs → here.spot.second ≡ b
    → AtHome c ((effect_of c here (Instr.Call to f def args)).next val).point
next_of_call c good here to f def args val false h within is = rw is h
next_of_call c good here to f def args val true h within is = rw is (entry_home c good f within)

next_of_return : (c : Code) → GoodForm c → (here : Here) (x r : ℕ) (val : ℕ → ℕ) (b : Bool) (o : Option Spot) → AtHome c here.spot.point → HomeBack c o → here.spot.second ≡ b → here.back ≡ o
    → AtHome c ((effect_of c here (Instr.Ret x (Some r))).next val).point
next_of_return c good here x r val false o h back is at = rw is h
next_of_return c good here x r val true None h back is at = rw (is, at) h
next_of_return c good here x r val true (Some made) h back is at = rw (is, at) (behind_call c good made.point back)

pub home_next : (c : Code) → GoodForm c → (here : Here) (i : Instr) (val : ℕ → ℕ) (h : AtHome c here.spot.point) → h.line.instr ≡ i → HomeBack c here.back
    → AtHome c ((effect_of c here i).next val).point
home_next c good here (Instr.Call to f def args) val h is back =
    next_of_call c good here to f def args val here.spot.second h (callee_exists c good here.spot.point.fun here.spot.point.at h to f def args is) refl
home_next c good here (Instr.Ret x None) val h is back = h
home_next c good here (Instr.Ret x (Some r)) val h is back = next_of_return c good here x r val here.spot.second here.back h back refl refl
home_next c good here (Instr.Jump target) val h is back =
    target_home c good here.spot.point.fun here.spot.point.at h 0 target (ap (λ i. slice_get (all_targets_of i) 0) is)
    (λ join entries fork. let clash : Instr.Jump target ≡ Instr.Fork join entries = sym is ∙ fork in cc)
home_next c good here (Instr.Test x at_other at_zero) val h is back = by (nat_eq (val x) 0)
  where
    no_fork : (join : ℕ) (entries : List ℕ) (t : ℕ) → h.line.instr ≡ Instr.Fork join entries → t < join → ⊥
    no_fork join entries t fork below = let clash : Instr.Test x at_other at_zero ≡ Instr.Fork join entries = sym is ∙ fork in cc

    by : (b : Bool) → IsHome c here.spot.point.fun (elim b [ true ↦ at_zero | false ↦ at_other ])
    by true = target_home c good here.spot.point.fun here.spot.point.at h 1 at_zero (ap (λ i. slice_get (all_targets_of i) 1) is) (λ join entries. no_fork join entries at_zero)
    by false = target_home c good here.spot.point.fun here.spot.point.at h 0 at_other (ap (λ i. slice_get (all_targets_of i) 0) is) (λ join entries. no_fork join entries at_other)
home_next c good here (Instr.Fork join entries) val h is back =
    target_home c good here.spot.point.fun here.spot.point.at h (length entries) join (ap (λ i. slice_get (all_targets_of i) (length entries)) is ∙ join_is entries join)
    (λ other entries_of fork below. let same : join ≡ other = ap join_at (sym is ∙ fork) in omega (arith, same, below))
home_next c good here Instr.End val h is back = h
home_next c good here i val h is back = next_home c good here.spot.point.fun here.spot.point.at h (ap is_passed is)

-- Returns.

-- the call that a link names
named_home : (c : Code) (p : Point) (link at : ℕ) → call_from 0 (lines_of c p.fun) link ≡ Some at → IsOutside (lines_of c p.fun) at → IsHomeCall c (record { fun = p.fun; at = at })
named_home c p link at named outside =
    let found = found_call link 0 at (lines_of c p.fun) named in
    let same : found.0 ≡ at = omega (arith, found.1) in
    by (slice_get (lines_of c p.fun) at) refl (subst (λ k. IsCall (instr_at c (record { fun = p.fun; at = k }))) same found.2)
  where
    by : (o : Option Lined) → slice_get (lines_of c p.fun) at ≡ o → IsCall (elim o [ None ↦ Instr.End | Some l ↦ l.instr ]) → IsHomeCall c (record { fun = p.fun; at = at })
    by None is call = absurd call
    by (Some l) is call = (record { line = l; found = is; outside = outside }, subst (λ o. IsCall (elim o [ None ↦ Instr.End | Some l ↦ l.instr ])) (sym is) call)

abbrev point_if : Point → ℕ → Bool → Point
point_if made at b = elim b [ true ↦ record { fun = made.fun; at = at } | false ↦ made ]

resumed_home : (c : Code) (made : Point) (link : ℕ) → IsHomeCall c made → IsHomeCall c (resumed c made link)
resumed_home c made link call = by (call_from 0 (lines_of c made.fun) link) refl
  where
    code : List Lined
    code = lines_of c made.fun

    pick : (at : ℕ) → call_from 0 code link ≡ Some at → (b : Bool) → nat_eq (region_in code at) (region_in code made.at) ≡ b → IsHomeCall c (point_if made at b)
    pick at named true same =
        let none = none_if code made.at call.0.outside in
        named_home c made link at named (outside_if code at (eqb-true _ _ same ∙ none))
    pick at named false same = call

    by : (o : Option ℕ) → call_from 0 code link ≡ o → IsHomeCall c (elim o [ None ↦ made | Some at ↦ point_if made at (nat_eq (region_in code at) (region_in code made.at)) ])
    by None named = call
    by (Some at) named = pick at named (nat_eq (region_in code at) (region_in code made.at)) refl

-- The path.

-- the next step and all calls so far are in no branch
pub record IsHomely (c : Code) (s : Start) (steps : List Step) : Type 0 where
  pub next : AtHome c (next_spot c s steps).point
  pub calls : (a : ℕ) (made : Spot) → call_of c steps a ≡ Some made → IsHomeCall c made.point

back_home : (c : Code) (s : Start) (steps : List Step) (a : ℕ) → IsHomely c s steps → HomeBack c (back_of c steps a)
back_home c s steps a homely = by (call_of c steps a) refl
  where
    by : (o : Option Spot) → call_of c steps a ≡ o
        → HomeBack c (elim o [ None ↦ None | Some made ↦ Some (record { act = made.act; point = resumed c made.point (link_read steps); second = false }) ])
    by None is = tt
    by (Some made) is = resumed_home c made.point (link_read steps) (homely.calls a made is)

called_is_call : (second : Bool) (i : Instr) (f : ℕ) → callee second i ≡ Some f → IsCall i
called_is_call false (Instr.Call to f def args) g is = tt
called_is_call false i g is = cc
called_is_call true i g is = cc

homely_start : (c : Code) (s : Start) → AtHome c s.point → IsHomely c s []
unfolding next_spot call_of
homely_start c s h = record { next = h; calls = λ a made is. cc }

homely_step : (c : Code) → GoodForm c → (s : Start) (x : Step) (earlier : List Step) → x.spot ≡ next_spot c s earlier → IsHomely c s earlier → IsHomely c s (x ∷ earlier)
unfolding next_spot call_of here_at
homely_step c good s x earlier spot homely = record {
  next = home_next c good (here_at c s earlier x.spot) (instr_at c x.spot.point) (temp_of c s earlier x.spot.act) here
      (sym (home_instr c x.spot.point.fun x.spot.point.at here)) (back_home c s earlier x.spot.act homely);
  calls = λ a made is. by a made (makes c earlier x a) refl is;
}
  where
    here : AtHome c x.spot.point
    here = subst (λ (q : Spot). AtHome c q.point) (sym spot) homely.next

    made_here : (a f : ℕ) → makes c earlier x a ≡ Some f → IsCall (instr_at c x.spot.point)
    made_here a f is = pick (nat_eq a (suc (calls_in c earlier))) is
      where
        pick : (b : Bool) → elim b [ true ↦ called_by c x | false ↦ None ] ≡ Some f → IsCall (instr_at c x.spot.point)
        pick true is = called_is_call x.spot.second (instr_at c x.spot.point) f is
        pick false is = cc

    by : (a : ℕ) (made : Spot) (o : Option ℕ) → makes c earlier x a ≡ o → elim o [ Some f ↦ Some x.spot | None ↦ call_of c earlier a ] ≡ Some made → IsHomeCall c made.point
    by a made None is found = homely.calls a made found
    by a made (Some f) is found =
        let same : x.spot ≡ made = cc in
        subst (λ (q : Spot). IsHomeCall c q.point) same (here, made_here a f is)

-- the path without its newest step
earlier_path : (o : Option Op) (x : Step) (Before : List Entry → Type 0) (own : List Entry) → Takes o x Before own → (rest : List Entry) × Before rest
earlier_path None x Before own takes = (own, takes.1)
earlier_path (Some op) x Before [] takes = absurd takes
earlier_path (Some op) x Before (e ∷ own) takes = (own, takes.3)

pub homely : (c : Code) → GoodForm c → (s : Start) → AtHome c s.point → (steps : List Step) (own : List Entry) → IsPath c s steps own → IsHomely c s steps
unfolding IsPath
homely c good s start [] own path = homely_start c s start
homely c good s start (x ∷ earlier) own path =
    let before = earlier_path (event_at c s earlier x.spot) x (IsPath c s earlier) own path.2 in
    homely_step c good s x earlier path.0 (homely c good s start earlier before.0 before.1)

-- a path that begins outside of all branches ends with a value
pub ends_with_value : (c : Code) → GoodForm c → (s : Start) → AtHome c s.point → (own : List Entry) → EndsWith c s own None → ⊥
ends_with_value c good s start own ends =
    let p = (next_spot c s ends.steps).point in
    let home = (homely c good s start ends.steps own ends.path).next in
    let same = home_instr c p.fun p.at home in
    let stop : instr_at c p ≡ Instr.End = by (temp_of c s ends.steps (next_spot c s ends.steps).act) (instr_at c p) ends.last ends.value in
    no_end_home c good p.fun p.at home (sym same ∙ stop)
  where
    by : (val : ℕ → ℕ) (i : Instr) → is_last i ≡ true → None ≡ ended_with val i → i ≡ Instr.End
    by val Instr.End last none = refl
    by val (Instr.Ret v None) last none = cc
    by val i last none = cc
