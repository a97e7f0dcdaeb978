-- What an answer, a silent step and a join keep: each activation is reached by its own call, over any values.
use Rattle.std.proofs.Common.{◌≡◌, ℕ, suc, ◌+◌, ◌-◌, ◌≤◌, ◌<◌, ⊎_elim, List, [], ◌∷◌, length, true, refl, Option, Some, None, arith, sym, ◌∙◌, ap, subst}
use Rattle.std.specs.Prelude.{slice_get, Contains}
use Rattle.std.proofs.lemmas.Bool.{eqb-true}
use Rattle.std.proofs.lemmas.Option.{slice_get-get_or}
use Rattle.dfi_base.specs.declared.numbers.Point.{Point}
use Rattle.tac_ir.specs.declared.code.Code.{Code}
use Rattle.tac_ir.specs.declared.code.Instr.{Instr}
use Rattle.tac_ir.specs.Layout.{lines_of}
use Rattle.tac_ir.specs.Edges.{calls_fun, edges_from, edges_of}
use Rattle.tac_ir.specs.Regions.{Region, regions_of}
use Rattle.tac_ir.specs.NumberLaws.{new_call}
use Rattle.tac_ir.specs.GoodForm
use Rattle.tac_ir.specs.GoodForm.{GoodForm}
use Rattle.tac_thread.specs.declared.guest.Activation.{Activation}
use Rattle.tac_thread.specs.declared.guest.Stage.{Stage}
use Rattle.tac_thread.specs.declared.want.ReplyOf.{ReplyOf}
use Rattle.tac_thread.specs.Meaning.{Meaning}
use Rattle.tac_thread.specs.Life.{Life, instr_of, temp, at_index, with_top, with_stage}
use Rattle.tac_thread.specs.RunsOn.{RunsOn}
use Rattle.tac_thread.specs.Answered.{answered, answered_at, answered_first, back_at, behind_call, resumed, called, calls, entered, returned, returns, next_with, next_of, target_of, with_none, with_value, with_stack, joined, joined_at}
use Rattle.tac_thread.specs.Threads.{is_waiting}
use Rattle.tree_law.specs.Placed.{AreStanding, EntersWell, IsPlaced}
use Rattle.tree_law.specs.Moves.{IsPlain, GoesOn, link_in, Moves}
use Rattle.tree_law.specs.Moves.Moves.{goes_on, to_enter, enters_now, enters, leaves, stays}
use Rattle.tree_law.proofs.lives.Edges.{ret_edge, regions_count}
use Rattle.tree_law.proofs.lives.Lines.{IsThere, there, good_code}
use Rattle.tree_law.proofs.lives.Moving.{answered_moves}
use Rattle.tree_law.proofs.lives.Silent.{runs_keep}
use Rattle.link_law.specs.Linked.{IsBelow, IsLinkClosed}
use Rattle.link_law.specs.tools.Reached.{spot, AreReached, EntersAtEntry, GoesHome, ReadsHome, IsReached, IsReachedAt}

abbrev pub Rises : (Point → ℕ → ℕ → Type 0) → (Point → Type 0) → Type 0
Rises R P = (a b : Point) → IsBelow R a b → P a → P b

-- the newest activation goes on in its function
up : {V S : Type 0} → (R : Point → ℕ → ℕ → Type 0) (c : Code) (P : Point → Type 0) → Rises R P → (x y : Activation V S) (callers : List (Activation V S)) → y.fun ≡ x.fun → IsBelow R (spot x) (spot y)
    → AreReached R c P x callers → AreReached R c P y callers
unfolding AreReached
up R c P rises x y [] fun below h = rises (spot x) (spot y) below h
up R c P rises x y (z ∷ callers) fun below h =
    ((λ d f r. below d f (h.0 d f r)), (λ d call. subst (R (spot y) d) (sym fun) (below d x.fun (h.1 d call))), h.2)

reached_as : {V S : Type 0} → (R : Point → ℕ → ℕ → Type 0) (c : Code) (P : Point → Type 0) (k : Life V S) (x : Activation V S) (callers : List (Activation V S)) → k.top ≡ x → k.callers ≡ callers → AreReached R c P x callers → AreReached R c P k.top k.callers
reached_as R c P k x callers top below h = subst (λ z. AreReached R c P z k.callers) (sym top) (subst (AreReached R c P x) (sym below) h)

-- Links that were read.

pub ready_home : {V S : Type 0} → (m : Meaning V S) (c : Code) (l : Life V S) → l.stage ≡ Stage.Ready → GoesHome m c l
ready_home m c l ready link y callers is below = (let clash : Stage.Ready ≡ Stage.Leaving link = sym ready ∙ is in cc)

waiting_home : {V S : Type 0} → (m : Meaning V S) (c : Code) (l : Life V S) → l.stage ≡ Stage.Waiting → GoesHome m c l
waiting_home m c l waits link y callers is below = (let clash : Stage.Waiting ≡ Stage.Leaving link = sym waits ∙ is in cc)

returned_home : {V S : Type 0} → (m : Meaning V S) (c : Code) (l : Life V S) (callers : List (Activation V S)) (link : Option V) (v : V) → GoesHome m c l → GoesHome m c (returned m c l callers link v)
returned_home m c l [] link v h = h
returned_home m c l (y ∷ callers) link v h = ready_home m c (returned m c l (y ∷ callers) link v) refl

returns_home : {V S : Type 0} → (m : Meaning V S) (c : Code) (l : Life V S) (link : Option V) (i : Instr) → GoesHome m c l → GoesHome m c (returns m c l link i)
returns_home m c l link (Instr.Ret a read) h = returned_home m c l l.callers link (temp m l.top a) h
returns_home m c l link i h = h

pub answered_home : {V S : Type 0} → (m : Meaning V S) (c : Code) (l : Life V S) (reply : ReplyOf V S) → ReadsHome m c l reply → GoesHome m c l → GoesHome m c (answered m c l reply)
answered_home {V} {S} m c l reply reads h = by l.stage refl
  where
    none : (i : Instr) → GoesHome m c (with_none m c l i)
    none (Instr.Set place x d) = ready_home m c (next_of l) refl
    none (Instr.Store x y d) = ready_home m c (next_of l) refl
    none (Instr.Free x) = ready_home m c (next_of l) refl
    none (Instr.Out x) = ready_home m c (next_of l) refl
    none Instr.Turn = ready_home m c (next_of l) refl
    none (Instr.Fork join entries) = waiting_home m c (with_stage l Stage.Waiting) refl
    none (Instr.Ret x read) = returns_home m c l None (Instr.Ret x read) h
    none i = h

    given : (v : V) (o : Option ℕ) → GoesHome m c (next_with l o v)
    given v None = h
    given v (Some to) = ready_home m c (next_with l (Some to) v) refl

    value : (v : V) (i : Instr) → l.stage ≡ Stage.Ready → reply ≡ ReplyOf.Value v → instr_of c l.top ≡ i → GoesHome m c (with_value l v i)
    value v (Instr.Ret x read) ready told is = λ link y callers at below.
        let same : v ≡ link = cc in
        subst (λ z. back_at m c (Some z) y ≡ y.at) same (reads v y callers x read ready is told below)
    value v i ready told is = given v (target_of i)

    pick : (callee : Activation V S) (o : Option ℕ) → GoesHome m c (calls l callee o)
    pick callee None = ready_home m c (entered l callee) refl
    pick callee (Some word) = λ link y callers is below. cc

    stack : (s : S) (i : Instr) → GoesHome m c (with_stack m c l s i)
    stack s (Instr.Call to g def args) = pick (called m c l.top g args s) (m.link s)
    stack s i = h

    first : l.stage ≡ Stage.Ready → (r : ReplyOf V S) → reply ≡ r → GoesHome m c (answered_first m c l (instr_of c l.top) r)
    first ready ReplyOf.Unit told = none (instr_of c l.top)
    first ready (ReplyOf.Value v) told = value v (instr_of c l.top) ready told refl
    first ready (ReplyOf.Stack s) told = stack s (instr_of c l.top)

    by : (s : Stage V S) → l.stage ≡ s → GoesHome m c (answered_at m c l s reply)
    by Stage.Ready is = first is reply refl
    by (Stage.Entering callee) is = ready_home m c (entered l callee) refl
    by (Stage.Leaving link) is = returns_home m c l (Some link) (instr_of c l.top) h
    by Stage.Waiting is = h

-- Silent steps.

plain_enters : {V S : Type 0} → (s : Stage V S) → s ≡ Stage.Ready → EntersAtEntry s
plain_enters Stage.Ready is = tt
plain_enters (Stage.Entering callee) is = cc
plain_enters (Stage.Leaving link) is = tt
plain_enters Stage.Waiting is = tt

goes_reached : {V S : Type 0} → (m : Meaning V S) (R : Point → ℕ → ℕ → Type 0) (c : Code) (P : Point → Type 0) → Rises R P → IsLinkClosed c R → (l k : Life V S) → GoesOn c l k → IsReached m R c P l → IsReached m R c P k
goes_reached m R c P rises closed l k goes h = record {
  stands = subst (AreReached R c P k.top) (sym goes.callers) (up R c P rises l.top k.top l.callers goes.onward.fun (closed.edges (spot l.top) (spot k.top) goes.edge) h.stands);
  enters = plain_enters k.stage goes.stage;
  home = ready_home m c k goes.stage;
}

pub runs_reached : {V S : Type 0} → (m : Meaning V S) (R : Point → ℕ → ℕ → Type 0) (c : Code) (P : Point → Type 0) → Rises R P → GoodForm c → IsLinkClosed c R → (l k : Life V S) → IsReached m R c P l → RunsOn m c l k → IsReached m R c P k
runs_reached m R c P rises good closed l k h on = runs_keep m c good (IsReached m R c P) (goes_reached m R c P rises closed) l k h on

-- Calls and returns.

-- a function that was called is not main
pub not_main : (c : Code) → GoodForm c → {V S : Type 0} → (g : ℕ) (y : Activation V S) (i : Instr) → instr_of c y ≡ i → calls_fun g i ≡ true → g ≡ c.main → ⊥
not_main c good g y (Instr.Call to k def args) is call same =
    let t = there (lines_of c y.fun) y.at (Instr.Call to k def args) is (λ e. cc) in
    let names = subst (λ z. GoodForm.NamesExist c y.fun z) t.is ((good_code c good y.fun y.at t.line t.found).instrs y.at t.line t.found).names in
    names.not_main (sym (eqb-true g k call) ∙ same)
not_main c good g y i is call same = cc

callee_reached : {V S : Type 0} → (R : Point → ℕ → ℕ → Type 0) (c : Code) (P : Point → Type 0) → IsLinkClosed c R → (x callee : Activation V S) (callers : List (Activation V S)) → callee.at ≡ 0 → calls_fun callee.fun (instr_of c x) ≡ true
    → AreReached R c P x callers → AreReached R c P callee (x ∷ callers)
unfolding AreReached
callee_reached {V} {S} R c P closed x callee callers start call h = by (instr_of c x) refl call
  where
    to : spot callee ≡ record { fun = callee.fun; at = 0 }
    to = ap (λ n. record { fun = callee.fun; at = n }) start

    by : (i : Instr) → instr_of c x ≡ i → calls_fun callee.fun i ≡ true → IsBelow R (spot x) (spot callee) × ((d : ℕ) → new_call (instr_of c x) ≡ Some d → R (spot callee) d callee.fun) × AreReached R c P x callers
    by (Instr.Call t g def args) is named =
        let same : callee.fun ≡ g = eqb-true callee.fun g named in
        let at_entry : spot callee ≡ record { fun = g; at = 0 } = to ∙ ap (λ n. record { fun = n; at = 0 }) same in
        let edge : Contains (edges_from c (spot x)) (record { fun = g; at = 0 }) = subst (λ w. Contains (edges_of c (spot x) w) (record { fun = g; at = 0 })) (sym is) (0, omega arith, refl) in
        let below : IsBelow R (spot x) (spot callee) = subst (IsBelow R (spot x)) (sym at_entry) (closed.edges (spot x) (record { fun = g; at = 0 }) edge) in
        (below, (λ d makes. subst (λ w. R w d callee.fun) (sym to) (closed.calls (spot x) callee.fun d call makes)), h)
    by i is named = cc

behind_is : {V S : Type 0} → (y : Activation V S) (v : V) (f : ℕ) (i : Instr) → calls_fun f i ≡ true → ((behind_call y y.at v i).fun ≡ y.fun) × ((behind_call y y.at v i).at ≡ y.at + 1)
behind_is y v f (Instr.Call to g def args) is = (refl, refl)
behind_is y v f i is = cc

call_is_there : (f : ℕ) (i : Instr) → calls_fun f i ≡ true → i ≡ Instr.End → ⊥
call_is_there f (Instr.Call to g def args) is = λ e. cc
call_is_there f i is = cc

caller_reached : {V S : Type 0} → (R : Point → ℕ → ℕ → Type 0) (c : Code) (P : Point → Type 0) → Rises R P → GoodForm c → IsLinkClosed c R → (f r : ℕ) (x y z : Activation V S) (callers : List (Activation V S)) (a : ℕ) (read : Option ℕ) (v : V)
    → instr_of c x ≡ Instr.Ret a read → z ≡ resumed c y y.at v → AreStanding c f r x (y ∷ callers) → AreReached R c P x (y ∷ callers) → AreReached R c P z callers
unfolding AreReached AreStanding
caller_reached {V} {S} R c P rises good closed f r x y z callers a read v is back stands h = up R c P rises y z callers z_fun below h.2
  where
    i : Instr
    i = instr_of c y

    place : ((behind_call y y.at v i).fun ≡ y.fun) × ((behind_call y y.at v i).at ≡ y.at + 1)
    place = behind_is y v x.fun i stands.1

    z_fun : z.fun ≡ y.fun
    z_fun = ap (λ (w : Activation V S). w.fun) back ∙ place.0

    to : spot z ≡ record { fun = y.fun; at = y.at + 1 }
    to = ap (λ n. record { fun = n; at = z.at }) z_fun ∙ ap (λ n. record { fun = y.fun; at = n }) (ap (λ (w : Activation V S). w.at) back ∙ place.1)

    t : IsThere (lines_of c y.fun) y.at i
    t = there (lines_of c y.fun) y.at i refl (call_is_there x.fun i stands.1)

    edge : (o : Option ℕ) → read ≡ o → Contains (edges_of c (spot x) (instr_of c x)) (record { fun = y.fun; at = y.at + 1 })
    edge (Some n) has = subst (λ w. Contains (edges_of c (spot x) w) (record { fun = y.fun; at = y.at + 1 })) (sym (is ∙ ap (Instr.Ret a) has))
        (ret_edge c (spot x) a n y.fun y.at t.line t.found (subst (λ w. calls_fun x.fun w ≡ true) (sym t.is) stands.1))
    edge None has =
        let s = there (lines_of c x.fun) x.at (Instr.Ret a None) (is ∙ ap (Instr.Ret a) has) (λ e. cc) in
        let names = subst (λ w. GoodForm.NamesExist c x.fun w) s.is ((good_code c good x.fun x.at s.line s.found).instrs x.at s.line s.found).names in
        absurd (not_main c good x.fun y i refl stands.1 names)

    below : IsBelow R (spot y) (spot z)
    below d g w = subst (λ p. R p d g) (sym to) (closed.edges (spot x) (record { fun = y.fun; at = y.at + 1 }) (edge read refl) d g (h.0 d g w))

-- Answers.

-- behind which call a return goes on
back_is : {V S : Type 0} → (m : Meaning V S) (c : Code) (l : Life V S) (y : Activation V S) (callers : List (Activation V S)) → GoesHome m c l → l.callers ≡ y ∷ callers → back_at m c (link_in l.stage) y ≡ y.at
back_is {V} {S} m c l y callers home below = by l.stage refl
  where
    by : (s : Stage V S) → l.stage ≡ s → back_at m c (link_in s) y ≡ y.at
    by Stage.Ready is = refl
    by (Stage.Entering callee) is = refl
    by (Stage.Leaving link) is = home link y callers is below
    by Stage.Waiting is = refl

plain_at : {V S : Type 0} → (s : Stage V S) → IsPlain s → EntersAtEntry s
plain_at (Stage.Entering callee) plain = absurd plain
plain_at Stage.Ready plain = tt
plain_at (Stage.Leaving link) plain = tt
plain_at Stage.Waiting plain = tt

moves_stand : {V S : Type 0} → (m : Meaning V S) (R : Point → ℕ → ℕ → Type 0) (c : Code) (P : Point → Type 0) → Rises R P → GoodForm c → IsLinkClosed c R → (f r : ℕ) (reply : ReplyOf V S) (l k : Life V S) → IsPlaced c f r l → Moves m c reply l k
    → IsReached m R c P l → AreReached R c P k.top k.callers × EntersAtEntry k.stage
moves_stand m R c P rises good closed f r reply l k p (goes_on k2 goes) h = (let g = goes_reached m R c P rises closed l k goes h in (g.stands, g.enters))
moves_stand m R c P rises good closed f r reply l k p (to_enter k2 callee is top below stage) h = (reached_as R c P k l.top l.callers top below h.stands, subst EntersAtEntry (sym stage) is.entry)
moves_stand m R c P rises good closed f r reply l k p (enters_now k2 callee is top below ready) h =
    (reached_as R c P k callee (l.top ∷ l.callers) top below (callee_reached R c P closed l.top callee l.callers is.entry is.call h.stands), plain_enters k.stage ready)
moves_stand {V} {S} m R c P rises good closed f r reply l k p (enters k2 callee stage top below ready) h =
    let entry = subst EntersAtEntry stage h.enters in
    let call = (subst (EntersWell c l.top) stage p.enters).1 in
    (reached_as R c P k callee (l.top ∷ l.callers) top below (callee_reached R c P closed l.top callee l.callers entry call h.stands), plain_enters k.stage ready)
moves_stand m R c P rises good closed f r reply l k p (leaves k2 y callers left) h =
    let home = back_is m c l y callers h.home left.called_by in (
      reached_as R c P k k.top callers refl left.below
          (caller_reached R c P rises good closed f r l.top y k.top callers left.value left.read left.given left.ret (left.back ∙ ap (λ n. resumed c y n left.given) home)
          (subst (AreStanding c f r l.top) left.called_by p.stands) (subst (AreReached R c P l.top) left.called_by h.stands)),
      plain_enters k.stage left.stage,
    )
moves_stand m R c P rises good closed f r reply l k p (stays k2 top below how) h =
    (reached_as R c P k l.top l.callers top below h.stands, ⊎_elim (λ (same : k.stage ≡ l.stage). subst EntersAtEntry (sym same) h.enters) (λ (plain : IsPlain k.stage). plain_at k.stage plain) how)

pub answered_reached : {V S : Type 0} → (m : Meaning V S) (R : Point → ℕ → ℕ → Type 0) (c : Code) (P : Point → Type 0) → Rises R P → GoodForm c → IsLinkClosed c R → (f r : ℕ) (l : Life V S) (reply : ReplyOf V S) → ReadsHome m c l reply → IsPlaced c f r l
    → IsReached m R c P l → IsReached m R c P (answered m c l reply)
answered_reached m R c P rises good closed f r l reply reads p h =
    let moved = moves_stand m R c P rises good closed f r reply l (answered m c l reply) p (answered_moves m c good l reply) h in
    record { stands = moved.0; enters = moved.1; home = answered_home m c l reply reads h.home }

-- Joins: all branches have ended, each at its own `end`.
pub joined_reached : {V S : Type 0} → (m : Meaning V S) (R : Point → ℕ → ℕ → Type 0) (c : Code) (P : Point → Type 0) → Rises R P → GoodForm c → IsLinkClosed c R → (l : Life V S) → is_waiting l.stage ≡ true
    → ((i : ℕ) → 1 ≤ i → i ≤ 15 → IsReachedAt R c l i) → IsReached m R c P l → IsReached m R c P (joined c l)
joined_reached {V} {S} m R c P rises good closed l waits all h = by (instr_of c l.top) refl
  where
    by : (i : Instr) → instr_of c l.top ≡ i → IsReached m R c P (joined_at l i)
    by (Instr.Fork join entries) is = record {
      stands = up R c P rises l.top (at_index l.top join) l.callers refl below h.stands;
      enters = tt;
      home = ready_home m c (with_top l (at_index l.top join)) refl;
    }
      where
        t : IsThere (lines_of c l.top.fun) l.top.at (Instr.Fork join entries)
        t = there (lines_of c l.top.fun) l.top.at (Instr.Fork join entries) is (λ e. cc)

        few : length entries ≤ 15
        few = (subst (λ z. GoodForm.ForksWell (lines_of c l.top.fun) l.top.at z) t.is ((good_code c good l.top.fun l.top.at t.line t.found).instrs l.top.at t.line t.found).fork).count

        at_end : (d f : ℕ) → R (spot l.top) d f → (r : Region) → Contains (regions_of l.top.at join entries) r → R (record { fun = l.top.fun; at = r.last }) d f
        at_end d f w r listed =
            let k = listed.0 in
            let within : k < length (regions_of l.top.at join entries) = listed.1 in
            let count = regions_count l.top.at join entries in
            let found : slice_get (regions_of l.top.at join entries) k ≡ Some r = slice_get-get_or (regions_of l.top.at join entries) k r within ∙ ap Some listed.2 in
            let back : suc k - 1 ≡ k = omega arith in
            all (suc k) (omega arith) (omega (arith, within, count, few)) waits join entries r is (ap (slice_get (regions_of l.top.at join entries)) back ∙ found) d f w

        below : IsBelow R (spot l.top) (record { fun = l.top.fun; at = join })
        below d f w = closed.joins (spot l.top) join entries is d f (at_end d f w)
    by i is = h
