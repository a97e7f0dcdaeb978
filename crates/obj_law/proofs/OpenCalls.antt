-- The open calls of a name are the frames of its life.
use Rattle.std.proofs.Common.{◌≡◌, ℕ, suc, ◌+◌, ◌-◌, ◌*◌, ◌/◌, ◌≤◌, ◌<◌, ℤ, List, [], ◌∷◌, ◌++◌, length, map, Bool, true, false, refl, Option, Some, None, arith, sym, ◌∙◌, ap, subst, ⊎_elim}
use Rattle.std.specs.Prelude.{slice_get, nat_eq}
use Rattle.std.proofs.lemmas.Bool.{eqb-true, eq-eqb, cases_eq}
use Rattle.std.proofs.lemmas.Option.{slice_get_within}
use Rattle.obj_mem.specs.declared.Maker.{Maker}
use Rattle.obj_mem.specs.declared.value.Value.{Value}
use Rattle.obj_mem.specs.declared.event.Event.{Event}
use Rattle.obj_mem.specs.declared.event.SrcAnswer.{SrcAnswer}
use Rattle.obj_mem.specs.declared.event.Stamp.{Stamp}
use Rattle.obj_mem.specs.Alive.{but_first, next_maker, frames_by, open_frames}
use Rattle.tac_ir.specs.declared.code.Code.{Code}
use Rattle.tac_ir.specs.declared.code.Instr.{Instr}
use Rattle.tac_ir.specs.Edges.{calls_fun}
use Rattle.tac_ir.specs.GoodForm.{GoodForm}
use Rattle.tac_thread.specs.declared.want.ReplyOf.{ReplyOf}
use Rattle.tac_thread.specs.Life.{instr_of, with_temp, at_index}
use Rattle.tac_thread.specs.Answered
use Rattle.tac_thread.specs.Answered.{answered, answered_first, joined, returned, behind_call, called}
use Rattle.tac_thread.specs.Begun.{root_of, branch_of}
use Rattle.tac_thread.specs.RunsOn.{RunsOn}
use Rattle.tac_thread.specs.Threads.{changed, is_waiting, ended_of, Settles, Resumes, IsFed, IsForked, at_fork, nobody, planted, with_branch, IsTree}
use Rattle.tac_thread.specs.Threads.Settles.{goes_on, main_ends, others_live, joins}
use Rattle.tac_thread.specs.Threads.Resumes.{some_live, none_lives}
use Rattle.tac_thread.proofs.Trees.{changed_here, changed_other}
use Rattle.tree_law.specs.Chain.IsTreeAfter.{begins, feeds, forks, halts, sticks}
use Rattle.tree_law.specs.Placed.{AreStanding, IsPlaced, ArePlaced}
use Rattle.tree_law.proofs.lives.Silent.{runs_keep, joined_is}
use Rattle.tree_law.proofs.trees.Changed.{which, some_of, some_at, IsPlanted, planted_is}
use Rattle.tree_law.proofs.lives.Placing.{answered_placed, root_placed, branch_placed, places_along}
use Rattle.tree_law.specs.Moves.{IsOnward}
use Rattle.tree_law.proofs.trees.Along.{tree_of, no_branches}
use Rattle.obj_run.specs.declared.values.ObjStack.{ObjStack}
use Rattle.obj_run.specs.Objects.{object_meaning, main_stack}
use Rattle.obj_run.specs.Asked.{reply_of}
use Rattle.obj_run.specs.Entries.{Entry, stamps_of}
use Rattle.obj_run.specs.Starts.{opening, global_values}
use Rattle.obj_run.specs.Runs.{ObjLife, ObjLives, IsTold, IsObjTree, object_says, is_zero, is_too_deep}
use Rattle.obj_law.specs.Did.{ObjActivation, Did, value_in}
use Rattle.obj_law.specs.Did.Did.{gets, loads, sets, stores, compares, news, frees, ins, lefts, outs, calls, rets, turns, forks as forked_to, traps}
use Rattle.obj_law.specs.Frames.{OpenCall, all_but_first, calls_by, open_calls, calls_of, calls_in}
use Rattle.obj_law.proofs.Seeing.{seen}
use Rattle.obj_law.proofs.Steady.{steady}
use Rattle.obj_law.proofs.Firsts.{IsFirst, AreFirst, opening_first}
use Rattle.obj_law.proofs.Ending.{ends_life, not_deeper}
use Rattle.obj_law.proofs.One.{forks_by}
use Rattle.obj_law.proofs.OneStep.{one_life}

-- Open calls of lists of stamps.

mine : (h : List Stamp) (s : Stamp) (n : ℕ) → s.name.0 ≡ n → open_calls n (s ∷ h) ≡ calls_by s.event (next_maker n h) (open_calls n h)
unfolding open_calls
mine h s n is = ap (λ b. elim b as (λ z. List OpenCall) [ true ↦ calls_by s.event (next_maker n h) (open_calls n h) | false ↦ open_calls n h ]) (eq-eqb s.name.0 n is)

others : (h : List Stamp) (s : Stamp) (k : ℕ) → (s.name.0 ≡ k → ⊥) → open_calls k (s ∷ h) ≡ open_calls k h
unfolding open_calls
others h s k differ = by (nat_eq s.name.0 k) refl
  where
    by : (b : Bool) → nat_eq s.name.0 k ≡ b → elim b as (λ z. List OpenCall) [ true ↦ calls_by s.event (next_maker k h) (open_calls k h) | false ↦ open_calls k h ] ≡ open_calls k h
    by false is = refl
    by true is = absurd (differ (eqb-true s.name.0 k is))

abbrev IsQuiet : Event → Type 0
IsQuiet e = (m : Maker) (xs : List OpenCall) → calls_by e m xs ≡ xs

quiet : (h : List Stamp) (s : Stamp) (k : ℕ) → IsQuiet s.event → open_calls k (s ∷ h) ≡ open_calls k h
unfolding open_calls
quiet h s k still = by (nat_eq s.name.0 k)
  where
    by : (b : Bool) → elim b as (λ z. List OpenCall) [ true ↦ calls_by s.event (next_maker k h) (open_calls k h) | false ↦ open_calls k h ] ≡ open_calls k h
    by false = refl
    by true = still (next_maker k h) (open_calls k h)

pub nobody_called : (n : ℕ) (h : List Stamp) → AreFirst h → open_calls n h ≡ []
unfolding open_calls
nobody_called n [] all = refl
nobody_called n (s ∷ h) all = quiet h s n (still s all.0) ∙ nobody_called n h all.1
  where
    still : (s : Stamp) → IsFirst s → IsQuiet s.event
    still s (IsFirst.writes p at lo hi w maker) m xs = refl
    still s (IsFirst.gives w) m xs = refl

-- by their makers they are the frames that are open
pub makers_open : (n : ℕ) (h : List Stamp) → open_frames n h ≡ map (λ (x : OpenCall). x.maker) (open_calls n h)
unfolding open_frames open_calls
makers_open n [] = refl
makers_open n (s ∷ h) = by (nat_eq s.name.0 n) (makers_open n h)
  where
    step : (e : Event) (m : Maker) (ms : List Maker) (xs : List OpenCall) → ms ≡ map (λ (x : OpenCall). x.maker) xs → frames_by e m ms ≡ map (λ (x : OpenCall). x.maker) (calls_by e m xs)
    step (Event.Call f) m ms xs same = ap (λ z. m ∷ z) same
    step Event.Ret m ms [] same = ap but_first same
    step Event.Ret m ms (x ∷ xs) same = ap but_first same
    step e m ms xs same = same

    by : (b : Bool) → open_frames n h ≡ map (λ (x : OpenCall). x.maker) (open_calls n h)
        → elim b as (λ z. List Maker) [ true ↦ frames_by s.event (next_maker n h) (open_frames n h) | false ↦ open_frames n h ]
        ≡ map (λ (x : OpenCall). x.maker) (elim b as (λ z. List OpenCall) [ true ↦ calls_by s.event (next_maker n h) (open_calls n h) | false ↦ open_calls n h ])
    by false same = same
    by true same = step s.event (next_maker n h) (open_frames n h) (open_calls n h) same

-- The calls of a life.

calls_top : (x y : ObjActivation) (callers : List ObjActivation) → y.fun ≡ x.fun → y.stack ≡ x.stack → calls_of y callers ≡ calls_of x callers
calls_top x y [] fun stack = refl
calls_top x y (z ∷ callers) fun stack = λ i. (record { fun = fun i; maker = (stack i).maker }) ∷ calls_of z callers

runs_calls : (c : Code) → GoodForm c → (l k : ObjLife) → RunsOn object_meaning c l k → calls_of k.top k.callers ≡ calls_of l.top l.callers
runs_calls c good l k on =
    runs_keep object_meaning c good (λ (x : ObjLife). calls_of x.top x.callers ≡ calls_of l.top l.callers)
    (λ x y go held. ap (calls_of y.top) go.callers ∙ calls_top x.top y.top x.callers go.onward.fun go.onward.stack ∙ held) l k refl on

joined_calls : (c : Code) → GoodForm c → (l : ObjLife) → calls_of (joined c l).top (joined c l).callers ≡ calls_of l.top l.callers
joined_calls c good l = (let j = joined_is c good l in ap (calls_of (joined c l).top) j.callers ∙ calls_top l.top (joined c l).top l.callers j.onward.fun j.onward.stack)

-- what an answer makes of them
module _ (c : Code) (h : List Stamp) (n : ℕ) (l : ObjLife) where
  abbrev now : Instr → ReplyOf Value ObjStack → ObjLife
  now i reply = answered_first object_meaning c l i reply

  abbrev After : ObjLife → Event → Type 0
  After k e = calls_of k.top k.callers ≡ calls_by e (next_maker n h) (calls_of l.top l.callers)

  behind : (y : ObjActivation) → y.fun ≡ l.top.fun → y.stack ≡ l.top.stack → calls_of y l.callers ≡ calls_of l.top l.callers
  behind y fun stack = calls_top l.top y l.callers fun stack

  back : (v : Value) (callers : List ObjActivation) → l.callers ≡ callers → After (returned object_meaning c l callers None v) Event.Ret
  back v [] none = ap (calls_of l.top) none ∙ sym (ap (λ z. all_but_first (calls_of l.top z)) none)
  back v (y ∷ callers) one = by (Rattle.tac_thread.specs.tools.Fetched.instr_in (Rattle.tac_ir.specs.Layout.lines_of c y.fun) y.at) ∙ sym (ap (λ z. all_but_first (calls_of l.top z)) one)
    where
      by : (i : Instr) → calls_of (behind_call y y.at v i) callers ≡ calls_of y callers
      by (Instr.Call to g def args) = calls_top y (behind_call y y.at v (Instr.Call to g def args)) callers refl refl
      by i = refl

  after : (i : Instr) (e : Event) (a : SrcAnswer) → Did c h n l.top i e a → After (now i (reply_of a)) e
  after i e a (gets to k place v was) = behind (at_index (with_temp l.top to v) (l.top.at + 1)) refl refl
  after i e a (loads to x k v was) = behind (at_index (with_temp l.top to v) (l.top.at + 1)) refl refl
  after i e a (sets place x d was) = behind (at_index l.top (l.top.at + 1)) refl refl
  after i e a (stores x y d was) = behind (at_index l.top (l.top.at + 1)) refl refl
  after i e a (compares to x y ne true was) = behind (at_index (with_temp l.top to _) (l.top.at + 1)) refl refl
  after i e a (compares to x y ne false was) = behind (at_index (with_temp l.top to _) (l.top.at + 1)) refl refl
  after i e a (news to x site k int) = behind (at_index (with_temp l.top to _) (l.top.at + 1)) refl refl
  after i e a (frees x was) = behind (at_index l.top (l.top.at + 1)) refl refl
  after i e a (ins to) = behind (at_index (with_temp l.top to _) (l.top.at + 1)) refl refl
  after i e a (lefts to) = behind (at_index (with_temp l.top to _) (l.top.at + 1)) refl refl
  after i e a (outs x k int) = behind (at_index l.top (l.top.at + 1)) refl refl
  after i e a (calls to g def args) = refl
  after i e a (rets x k) = back (value_in l.top x) l.callers refl
  after i e a turns = behind (at_index l.top (l.top.at + 1)) refl refl
  after i e a (forked_to join entries) = refl
  after i e a (traps to x y op stops) = refl

-- How a life stands: each activation but the first was called.

pub record IsStanding (c : Code) (l : ObjLife) : Type 0 where
  pub fun : ℕ
  pub region : ℕ
  pub stands : AreStanding c fun region l.top l.callers

abbrev AllStand : Code → ObjLives → Type 0
AllStand c f = (n : ℕ) (l : ObjLife) → f n ≡ Some l → IsStanding c l

restand : (c : Code) (f r : ℕ) (x y : ObjActivation) (callers : List ObjActivation) → IsOnward c x y → AreStanding c f r x callers → AreStanding c f r y callers
unfolding AreStanding
restand c f r x y [] on h = (on.fun ∙ h.0, on.region ∙ h.1, on.line h.2)
restand c f r x y (z ∷ callers) on h = (on.region ∙ h.0, ap (λ g. calls_fun g (instr_of c z)) on.fun ∙ h.1, on.line h.2, h.3)

runs_stand : (c : Code) → GoodForm c → (l k : ObjLife) → IsStanding c l → RunsOn object_meaning c l k → IsStanding c k
runs_stand c good l k h on =
    runs_keep object_meaning c good (IsStanding c)
    (λ x y go held. record { fun = held.fun; region = held.region; stands = subst (AreStanding c held.fun held.region y.top) (sym go.callers) (restand c held.fun held.region x.top y.top x.callers go.onward held.stands) }) l k h on

joined_stands : (c : Code) → GoodForm c → (l : ObjLife) → IsStanding c l → IsStanding c (joined c l)
joined_stands c good l h =
    let j = joined_is c good l in
    record { fun = h.fun; region = h.region; stands = subst (AreStanding c h.fun h.region (joined c l).top) (sym j.callers) (restand c h.fun h.region l.top (joined c l).top l.callers j.onward h.stands) }

-- who ends has no caller
ends_alone : (c : Code) → GoodForm c → (l : ObjLife) (v : Option Value) → IsStanding c l → ended_of object_meaning c (Some l) ≡ Some v → calls_of l.top l.callers ≡ []
unfolding AreStanding
ends_alone c good l v h ends = by l.callers h.stands
  where
    by : (callers : List ObjActivation) → AreStanding c h.fun h.region l.top callers → calls_of l.top callers ≡ []
    by [] stands = refl
    by (y ∷ callers) stands = absurd (not_deeper c good l.top y (ends_life object_meaning c l v ends) stands.0 stands.1 stands.2)

-- Changes of trees.

abbrev Opens : (ℕ → List OpenCall) → ObjLives → Type 0
Opens o f = (n : ℕ) → o n ≡ calls_in (f n)

put : (o : ℕ → List OpenCall) (f g : ObjLives) (n : ℕ) (q : Option ObjLife) → ((k : ℕ) → g k ≡ changed f n q k) → o n ≡ calls_in q → ((k : ℕ) → (k ≡ n → ⊥) → o k ≡ calls_in (f k)) → Opens o g
put o f g n q is here others k = ⊎_elim
    (λ (same : k ≡ n). ap o same ∙ here ∙ sym (ap calls_in (is k ∙ ap (changed f n q) same ∙ changed_here f n q)))
    (λ (other : k ≡ n → ⊥). others k other ∙ sym (ap calls_in (is k ∙ changed_other f n q k other)))
    (cases_eq k n)

put_stands : (c : Code) (f g : ObjLives) (n : ℕ) (q : ObjLife) → ((k : ℕ) → g k ≡ changed f n (Some q) k) → IsStanding c q → AllStand c f → AllStand c g
put_stands c f g n q is here all k l lives =
    ⊎_elim (λ (a : (k ≡ n) × (q ≡ l)). subst (IsStanding c) a.1 here) (λ (a : (k ≡ n → ⊥) × (f k ≡ Some l)). all k l a.1) (which f n k q l (sym (is k) ∙ lives))

drop_stands : (c : Code) (f g : ObjLives) (n : ℕ) → ((k : ℕ) → g k ≡ changed f n None k) → AllStand c f → AllStand c g
drop_stands c f g n is all k l lives = all k l (some_of f n k l (sym (is k) ∙ lives))

some_life : (c : Code) (o : Option ObjLife) (v : Option Value) → ended_of object_meaning c o ≡ Some v → (l : ObjLife) × (o ≡ Some l)
some_life c None v ends = cc
some_life c (Some l) v ends = (l, refl)

module _ (c : Code) (good : GoodForm c) (o : ℕ → List OpenCall) where
  drop_opens : (f g : ObjLives) (n : ℕ) (v : Option Value) → ended_of object_meaning c (f n) ≡ Some v → ((k : ℕ) → g k ≡ changed f n None k) → AllStand c f → Opens o f → Opens o g
  drop_opens f g n v ends is all had =
      let l = some_life c (f n) v ends in
      put o f g n None is (had n ∙ ap calls_in l.1 ∙ ends_alone c good l.0 v (all n l.0 l.1) (ap (ended_of object_meaning c) (sym l.1) ∙ ends)) (λ k differ. had k)

  settles_open : (n : ℕ) (f g : ObjLives) (x e : Option Value) → Settles object_meaning c n f x g e → AllStand c f → Opens o f → Opens o g
  settles_open n f g x e (goes_on n2 f2 d2 going) all had = had
  settles_open n f g x e (main_ends f2 g2 d2 v ends is) all had = drop_opens f g 1 v ends is all had
  settles_open n f g x e (others_live n2 f2 g2 d2 v other ends is more) all had = drop_opens f g n v ends is all had
  settles_open n f last x e (joins n2 f2 g h last2 d2 v e2 p q other ends is none up on changes settles) all had =
      let less = drop_opens f g n v ends is all had in
      let stand = drop_stands c f g n is all in
      settles_open (n / 16) h last x e settles
      (put_stands c g h (n / 16) q changes (runs_stand c good (joined c p) q (joined_stands c good p (stand (n / 16) p up)) on) stand)
      (put o g h (n / 16) (Some q) changes (less (n / 16) ∙ ap calls_in up ∙ sym (runs_calls c good (joined c p) q on ∙ joined_calls c good p)) (λ k differ. less k))

  resumes_open : (n : ℕ) (f g : ObjLives) (x e : Option Value) → Resumes object_meaning c n f x g e → AllStand c f → Opens o f → Opens o g
  resumes_open n f g x e (some_live n2 f2 d2 more) all had = had
  resumes_open n f last x e (none_lives n2 f2 h last2 d2 e2 p q none lives on changes settles) all had =
      settles_open n h last x e settles (put_stands c f h n q changes (runs_stand c good (joined c p) q (joined_stands c good p (all n p lives)) on) all)
      (put o f h n (Some q) changes (had n ∙ ap calls_in lives ∙ sym (runs_calls c good (joined c p) q on ∙ joined_calls c good p)) (λ k differ. had k))

  -- Branches.

  with_opens : (f : ObjLives) (k : ℕ) (b : ObjLife) (ends : Option (Option Value)) → Opens o f → o k ≡ [] → calls_of b.top b.callers ≡ [] → Opens o (elim ends as (λ z. ObjLives) [ None ↦ changed f k (Some b) | Some v ↦ f ])
  with_opens f k b None had none first = put o f (changed f k (Some b)) k (Some b) (λ z. refl) (none ∙ sym first) (λ z differ. had z)
  with_opens f k b (Some v) had none first = had

  planted_opens : (f : ObjLives) (n i : ℕ) (branches : List ObjLife) → Opens o f → ((j : ℕ) → j < length branches → o (16 * n + (i + j)) ≡ []) → ((j : ℕ) (b : ObjLife) → slice_get branches j ≡ Some b → calls_of b.top b.callers ≡ [])
      → Opens o (planted object_meaning c f n i branches)
  planted_opens f n i [] had none first = had
  planted_opens f n i (b ∷ branches) had none first =
      planted_opens (with_branch object_meaning c f (16 * n + i) b) n (suc i) branches
      (with_opens f (16 * n + i) b (ended_of object_meaning c (Some b)) had (let same : 16 * n + (i + 0) ≡ 16 * n + i = omega arith in ap o (sym same) ∙ none 0 (omega arith)) (first 0 b refl))
      (λ j less. (let same : 16 * n + (i + suc j) ≡ 16 * n + (suc i + j) = omega arith in ap o (sym same) ∙ none (suc j) (omega (arith, less))))
      (λ j q listed. first (suc j) q listed)

-- Along the chain.

quiet_zero : (e : Event) → is_zero e ≡ true → IsQuiet e
quiet_zero Event.Zero is m xs = refl
quiet_zero (Event.Call f) is m xs = cc
quiet_zero Event.Ret is m xs = cc
quiet_zero e is m xs = refl

quiet_deep : (n : ℕ) (e : Event) → is_too_deep n e ≡ true → IsQuiet e
quiet_deep n (Event.Fork k) is m xs = refl
quiet_deep n (Event.Call f) is m xs = cc
quiet_deep n Event.Ret is m xs = cc
quiet_deep n e is m xs = refl

quiet_fork : (e : Event) (k : ℕ) → e ≡ Event.Fork k → IsQuiet e
quiet_fork e k is m xs = ap (λ z. calls_by z m xs) is

module _ (c : Code) (input : List ℤ) (good : GoodForm c) where
  abbrev first : List Stamp
  first = opening c input

  abbrev now_open : List Entry → ℕ → List OpenCall
  now_open h n = open_calls n (stamps_of h ++ first)

  placed_in : (f : ObjLives) → ArePlaced c f → IsTree object_meaning c f → (n : ℕ) (l : ObjLife) → f n ≡ Some l → (g : ℕ) × ((r : ℕ) × IsPlaced c g r l)
  placed_in f places tree n l lives = ⊎_elim
      (λ (one : n ≡ 1). (c.main, (0, places.root l (ap f (sym one) ∙ lives))))
      (λ (other : n ≡ 1 → ⊥). let up = tree.threads.parents n l lives other in let b = places.branches n up.1.0 l up.0 other lives up.1.1 in (up.1.0.top.fun, (suc b.entry, b.placed)))
      (cases_eq n 1)

  all_stand : (f : ObjLives) → ArePlaced c f → IsTree object_meaning c f → AllStand c f
  all_stand f places tree n l lives = (let p = placed_in f places tree n l lives in record { fun = p.0; region = p.1.0; stands = p.1.1.stands })

  places : (h : List Entry) (f : ObjLives) (d : Option Value) → IsObjTree c input h f d → ArePlaced c f
  places h f d chain = places_along object_meaning c good main_stack (object_says c first) h f d chain

  tree_in : (h : List Entry) (f : ObjLives) (d : Option Value) → IsObjTree c input h f d → IsTree object_meaning c f
  tree_in h f d chain = tree_of object_meaning c main_stack (object_says c first) h f d chain

  root_stands : IsStanding c (root_of object_meaning c main_stack)
  root_stands = record { fun = c.main; region = 0; stands = (root_placed object_meaning c good main_stack).stands }

  fed_opens : (h : List Entry) (e : Entry) (n : ℕ) (reply : ReplyOf Value ObjStack) (f g : ObjLives) (d b : Option Value) → IsObjTree c input h f d → (fed : IsFed object_meaning c f d n reply g b) → is_waiting fed.life.stage ≡ false
      → IsTold c first (stamps_of h) n fed.life e reply → Opens (now_open h) f → Opens (now_open (e ∷ h)) g
  fed_opens h e n reply f g d b chain fed awake told had =
      let l = fed.life in
      let old = stamps_of h ++ first in
      let ready = steady c input good h f d chain n l fed.lived awake in
      let did = (seen c first (stamps_of h) n l e ready told.asked).0 in
      let made : calls_of (answered object_meaning c l reply).top (answered object_meaning c l reply).callers ≡ calls_by e.stamp.event (next_maker n old) (calls_of l.top l.callers) =
      ap (λ (k : ObjLife). calls_of k.top k.callers)
      (ap (λ s. Answered.answered_at object_meaning c l s reply) ready ∙ ap (answered_first object_meaning c l (instr_of c l.top)) (sym told.replies))
      ∙ after c old n l (instr_of c l.top) e.stamp.event e.stamp.answer did in
      let stand = all_stand f (places h f d chain) (tree_in h f d chain) in
      let placed = placed_in f (places h f d chain) (tree_in h f d chain) n l fed.lived in
      let next = answered_placed object_meaning c good placed.0 placed.1.0 l reply placed.1.1 in
      settles_open c good (now_open (e ∷ h)) n fed.lives g d b fed.settles
      (put_stands c f fed.lives n fed.next fed.changes (runs_stand c good (answered object_meaning c l reply) fed.next (record { fun = placed.0; region = placed.1.0; stands = next.stands }) fed.runs) stand)
      (put (now_open (e ∷ h)) f fed.lives n (Some fed.next) fed.changes
      (mine old e.stamp n told.asked.name ∙ ap (calls_by e.stamp.event (next_maker n old)) (had n ∙ ap calls_in fed.lived) ∙ sym made ∙ sym (runs_calls c good (answered object_meaning c l reply) fed.next fed.runs))
      (λ k differ. others old e.stamp k (λ z. differ (sym z ∙ told.asked.name)) ∙ had k))

  forked_opens : (h : List Entry) (e : Entry) (n : ℕ) (stacks : List ObjStack) (f g : ObjLives) (d b : Option Value) → IsObjTree c input h f d → (forked : IsForked object_meaning c f d n stacks g b) → is_waiting forked.life.stage ≡ false
      → IsTold c first (stamps_of h) n forked.life e ReplyOf.Unit → (join : ℕ) (entries : List ℕ) → instr_of c forked.life.top ≡ Instr.Fork join entries → length entries ≡ length stacks → length stacks ≤ 15
      → Opens (now_open h) f → Opens (now_open (e ∷ h)) g
  forked_opens h e n stacks f g d b chain forked awake told join entries is count few had =
      let l = forked.life in
      let still = quiet_fork e.stamp.event (length entries) (forks_by c input good h f d n l e chain forked.lived awake told.asked join entries is) in
      let had_now : Opens (now_open (e ∷ h)) f = λ k. quiet (stamps_of h ++ first) e.stamp k still ∙ had k in
      let tree = tree_in h f d chain in
      let stand = all_stand f (places h f d chain) tree in
      let same_count = forked.begin.count in
      let planted_now = planted_opens c good (now_open (e ∷ h)) f n 1 forked.branches had_now
      (λ j less. had_now (16 * n + (1 + j)) ∙ ap calls_in (free tree l forked.lived (1 + j) (omega arith) (omega (arith, less, same_count, few))))
      (λ j q listed. (let z = stack_at j q listed in runs_calls c good (branch_of object_meaning c l (j + 1) z.0) q (forked.begin.each j z.0 q z.1 listed))) in
      let standing : AllStand c (planted object_meaning c f n 1 forked.branches) = λ k x lives.
      ⊎_elim (λ (old : f k ≡ Some x). stand k x old) (λ (new : IsPlanted n 1 k forked.branches x). branch_stands new.at x new.listed) (planted_is object_meaning c f n 1 k forked.branches x lives) in
      resumes_open c good (now_open (e ∷ h)) n forked.lives g d b forked.resumes
      (put_stands c (planted object_meaning c f n 1 forked.branches) forked.lives n (at_fork l) forked.changes (waits_stand (stand n l forked.lived)) standing)
      (put (now_open (e ∷ h)) (planted object_meaning c f n 1 forked.branches) forked.lives n (Some (at_fork l)) forked.changes (had_now n ∙ ap calls_in forked.lived) (λ k differ. planted_now k))
    where
      waits_stand : IsStanding c forked.life → IsStanding c (at_fork forked.life)
      waits_stand s = record { fun = s.fun; region = s.region; stands = s.stands }

      stack_at : (j : ℕ) (q : ObjLife) → slice_get forked.branches j ≡ Some q → (t : ObjStack) × (slice_get stacks j ≡ Some t)
      stack_at j q listed = (let within = slice_get_within forked.branches j q listed in let same = forked.begin.count in some_at stacks j (omega (arith, within, same)))

      branch_stands : (j : ℕ) (q : ObjLife) → slice_get forked.branches j ≡ Some q → IsStanding c q
      branch_stands j q listed =
          let t = stack_at j q listed in
          let within = slice_get_within stacks j t.0 t.1 in
          let x = some_at entries j (omega (arith, within, count)) in
          let back : (j + 1) - 1 ≡ j = omega arith in
          let first = branch_placed object_meaning c good forked.life (j + 1) join x.0 entries t.0 is (ap (slice_get entries) back ∙ x.1) in
          runs_stand c good (branch_of object_meaning c forked.life (j + 1) t.0) q (record { fun = forked.life.top.fun; region = suc x.0; stands = first.stands }) (forked.begin.each j t.0 q t.1 listed)

      free : IsTree object_meaning c f → (l : ObjLife) → f n ≡ Some l → (i : ℕ) → 1 ≤ i → i ≤ 15 → f (16 * n + i) ≡ None
      free tree l lives i low high = by (f (16 * n + i)) refl
        where
          by : (o : Option ObjLife) → f (16 * n + i) ≡ o → f (16 * n + i) ≡ None
          by None z = z
          by (Some w) z = (let one = one_life object_meaning c f n l forked.life lives forked.lived in
              absurd (no_branches f tree.threads.parents n l lives (ap (λ (x : ObjLife). is_waiting x.stage) one ∙ awake) (i, low, high, (w, z))))

  pub opens : (h : List Entry) (f : ObjLives) (d : Option Value) → IsObjTree c input h f d → Opens (now_open h) f
  opens h f d (begins f2 d2 tree b) =
      let none : (k : ℕ) → open_calls k first ≡ [] = λ k. nobody_called k first (opening_first (map (global_values c) c.globals) input) in
      settles_open c good (now_open []) 1 b.lives f None d b.settles
      (put_stands c nobody b.lives 1 b.root b.changes (runs_stand c good (root_of object_meaning c main_stack) b.root root_stands b.runs) (λ k l lives. (let clash : None ≡ Some l = lives in cc)))
      (put (now_open []) nobody b.lives 1 (Some b.root) b.changes (none 1 ∙ sym (runs_calls c good (root_of object_meaning c main_stack) b.root b.runs)) (λ k differ. none k))
  opens h f d (feeds old e n reply f2 g d2 b chain tree fed awake moved told) = fed_opens old e n reply f2 f d2 d chain fed awake told (opens old f2 d2 chain)
  opens h f d (forks old e n stacks f2 g d2 b chain tree forked awake told shares some join entries is count few) =
      forked_opens old e n stacks f2 f d2 d chain forked awake told join entries is count few (opens old f2 d2 chain)
  opens h f d (halts old e n l f2 d2 chain lives awake halted) = λ k. quiet (stamps_of old ++ first) e.stamp k (quiet_zero e.stamp.event halted.1) ∙ opens old f d chain k
  opens h f d (sticks old e n f2 g d2 b chain tree stuck awake stays) =
      let had = opens old f2 d2 chain in
      let still : Opens (now_open (e ∷ old)) f2 = λ k. quiet (stamps_of old ++ first) e.stamp k (quiet_deep n e.stamp.event stays.1) ∙ had k in
      put (now_open (e ∷ old)) f2 f n (Some (at_fork stuck.life)) stuck.changes (still n ∙ ap calls_in stuck.lived) (λ k differ. still k)
