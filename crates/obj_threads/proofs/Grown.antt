-- A tree that begins, and one whose thread takes an answer, waits for good or divides by 0, are in place.
use Rattle.std.proofs.Common.{◌≡◌, ℕ, ◌+◌, ◌*◌, ◌/◌, ◌≤◌, ◌⊎◌, inl, inr, List, [], ◌∷◌, Bool, true, false, refl, Option, Some, None, arith, sym, ◌∙◌, ap, subst, ⊎_elim}
use Rattle.std.proofs.lemmas.Bool.{cases_eq}
use Rattle.tac_thread.specs.RunsOn.{RunsOn}
use Rattle.tac_thread.specs.Answered.{answered}
use Rattle.tac_thread.specs.Threads.{is_waiting, changed, IsFed, IsStuck, at_fork, HasBranch, nobody, IsBegun}
use Rattle.tac_thread.proofs.Trees.{changed_here, changed_other}
use Rattle.tree_law.proofs.trees.Waking.{runs_awake}
use Rattle.obj_threads.proofs.Standing
use Rattle.obj_threads.proofs.Standing.{comes_to}
use Rattle.obj_threads.proofs.Histories.{Starts, not_started, own_mine, own_other, begins_same, begun_same, ended_same}
use Rattle.obj_threads.proofs.Placed.{AreLiving, alive_not_ended}
use Rattle.obj_threads.proofs.Settled.{IsChanged, here_is, other_is, by_name, still_lives, HasPlace, waits_apart, settled}
use Rattle.dfi_base.specs.Lives.{BeginsIn, own, branches_after, Ended}
use Rattle.obj_mem.specs.declared.value.Value.{Value}
use Rattle.tac_ir.specs.declared.code.Code.{Code}
use Rattle.tac_thread.specs.Begun.{root_of}
use Rattle.tac_thread.specs.declared.want.ReplyOf.{ReplyOf}
use Rattle.obj_run.specs.declared.values.ObjStack.{ObjStack}
use Rattle.obj_run.specs.Objects.{object_meaning, main_stack}
use Rattle.obj_run.specs.Asked.{reply_of}
use Rattle.obj_run.specs.Entries.{Entry}
use Rattle.obj_run.specs.tools.SoFar.{fork_in}
use Rattle.obj_run.specs.Runs.{ObjLife, ObjLives, is_zero, is_too_deep}
use Rattle.obj_threads.specs.Threads.{starts_of, LeadsTo, obj_threads}
use Rattle.obj_threads.specs.InPlace.{started, IsAt, IsInPlace, BranchesAre, AreSettled, HasStuck}

-- The beginning.

begun_threads : (c : Code) (root : ObjLife) (f : ObjLives) → RunsOn object_meaning c (root_of object_meaning c main_stack) root → IsChanged nobody 1 (Some root) f → AreSettled c [] f
unfolding BeginsIn own
begun_threads c root f ran changes =
    let awake = runs_awake object_meaning c (root_of object_meaning c main_stack) root refl ran in
    let nobody_else : (P : ℕ → ObjLife → Type 0) → P 1 root → (k : ℕ) (l : ObjLife) → f k ≡ Some l → P k l =
    λ P here. by_name nobody f 1 root P changes here (λ k l other there. (let clash : None ≡ Some l = there in absurd (none_is l clash))) in
    record {
      threads = record {
        lives = nobody_else (IsInPlace c []) (record { start = root_of object_meaning c main_stack; begins = (refl, refl); stands = IsAt.rests (LeadsTo.begins root ran) });
        gone = λ k s away begins. absurd (none_is root (sym away ∙ ap f begins.0 ∙ here_is nobody f 1 (Some root) changes));
        root = (refl, refl);
        branches = nobody_else (λ k l. BranchesAre c [] k (is_waiting l.stage)) (subst (BranchesAre c [] 1) (sym awake) (λ i low high. absurd (omega (arith, low, high))));
        parents = nobody_else (HasPlace c [] f) (λ one. absurd (one refl));
        few = λ k. omega arith;
      };
      waits = λ k l there is. absurd (nobody_else (λ i z. is_waiting z.stage ≡ true → ⊥) (λ w. clash_of (sym w ∙ awake)) k l there is);
    }
  where
    none_is : (l : ObjLife) → None ≡ Some l → ⊥
    none_is l e = cc

    clash_of : true ≡ false → ⊥
    clash_of e = cc

pub tree_begins : (c : Code) (g : ObjLives) (d : Option Value) → IsBegun object_meaning c main_stack g d → AreSettled c [] g
tree_begins c g d begun = settled c [] 1 begun.lives g None d begun.settles (begun_threads c begun.root begun.lives begun.runs begun.changes)

-- An answer.

-- an entry that starts nobody, of a thread that had not ended
pub record IsPlain (c : Code) (h : List Entry) (e : Entry) : Type 0 where
  pub forks : starts_of e ≡ 0
  pub lived : Ended (obj_threads c) h e.stamp.name.0 → ⊥

pub starts_none : (c : Code) (h : List Entry) (e : Entry) → IsPlain c h e → (k : ℕ) → Starts c k e ≡ false
starts_none c h e plain k = not_started c k e (λ s. omega (arith, s.from, s.to, plain.forks))

pub own_same : (c : Code) (h : List Entry) (e : Entry) → IsPlain c h e → (k : ℕ) → (k ≡ e.stamp.name.0 → ⊥) → own (obj_threads c) k (e ∷ h) ≡ own (obj_threads c) k h
own_same c h e plain k other = own_other c e h k (starts_none c h e plain k) (λ same. other (sym same))

pub started_same : (c : Code) (h : List Entry) (e : Entry) → IsPlain c h e → (k : ℕ) → (k ≡ e.stamp.name.0 → ⊥) → started c (e ∷ h) k ≡ started c h k
started_same c h e plain k other = ap (λ o. branches_after (obj_threads c) o) (own_same c h e plain k other)

started_here : (c : Code) (h : List Entry) (e : Entry) → started c (e ∷ h) e.stamp.name.0 ≡ starts_of e
started_here c h e = ap (λ o. branches_after (obj_threads c) o) (own_mine c e h e.stamp.name.0 refl)

abbrev pub AreFew : Code → List Entry → Type 0
AreFew c h = (k : ℕ) → started c h k ≤ 15

branches_same : (c : Code) (h : List Entry) (e : Entry) → AreFew c h → IsPlain c h e → (k : ℕ) → (k ≡ e.stamp.name.0 → ⊥) → (b : Bool) → BranchesAre c h k b → BranchesAre c (e ∷ h) k b
branches_same c h e few plain k other true are = λ i low high.
    (let begun = are i low (omega (arith, high, started_same c h e plain k other)) in (begun.0, begins_same c e h (16 * k + i) begun.0 (starts_none c h e plain (16 * k + i)) begun.1))
branches_same c h e few plain k other false are = λ i low high.
    ended_same c e h plain.lived few (16 * k + i) (starts_none c h e plain (16 * k + i)) (are i low (omega (arith, high, started_same c h e plain k other)))

-- thread n took an answer, and runs on
pub record HasGone (c : Code) (h : List Entry) (f : ObjLives) (e : Entry) (n : ℕ) (next : ObjLife) : Type 0 where
  pub name : e.stamp.name.0 ≡ n
  pub plain : IsPlain c h e
  pub life : ObjLife
  pub lived : f n ≡ Some life
  pub awake : is_waiting life.stage ≡ false
  pub place : IsInPlace c (e ∷ h) n next
  pub rests : is_waiting next.stage ≡ true → HasStuck c (e ∷ h) n

no_branches : (c : Code) (h : List Entry) (n : ℕ) (b : Bool) → started c h n ≡ 0 → BranchesAre c h n b
no_branches c h n true none = λ i low high. absurd (omega (arith, low, high, none))
no_branches c h n false none = λ i low high. absurd (omega (arith, low, high, none))

pub gone_threads : (c : Code) (h : List Entry) (f g : ObjLives) (e : Entry) (n : ℕ) (next : ObjLife) → AreSettled c h f → HasGone c h f e n next → IsChanged f n (Some next) g → AreSettled c (e ∷ h) g
gone_threads c h f g e n next place gone changes =
    let threads = place.threads in
    let plain = gone.plain in
    let none_starts = starts_none c h e plain in
    let apart : (k : ℕ) → (k ≡ n → ⊥) → k ≡ e.stamp.name.0 → ⊥ = λ k other same. other (same ∙ gone.name) in
    let mine : started c (e ∷ h) n ≡ 0 = ap (started c (e ∷ h)) (sym gone.name) ∙ started_here c h e ∙ plain.forks in
    let parent_of : (k : ℕ) (l : ObjLife) → f k ≡ Some l → HasPlace c (e ∷ h) g k l = λ k l there one.
    (let p = threads.parents k l there one in
    let other = waits_apart f n (k / 16) gone.life p.0.1.0 gone.lived gone.awake p.0.1.1 p.0.1.2 in
    ((p.0.0, (p.0.1.0, other_is f g n (Some next) changes (k / 16) other ∙ p.0.1.1, p.0.1.2)), omega (arith, p.1, started_same c h e plain (k / 16) (apart (k / 16) other)))) in
    record {
      threads = record {
        lives = by_name f g n next (IsInPlace c (e ∷ h)) changes gone.place (λ k l other there.
            (let p = threads.lives k l there in
            record { start = p.start; begins = begins_same c e h k p.start (none_starts k) p.begins; stands = subst (λ o. IsAt c p.start o l) (sym (own_same c h e plain k (apart k other))) p.stands }));
        gone = λ k s away begins. ended_same c e h plain.lived threads.few k (none_starts k)
            (threads.gone k s (sym (other_is f g n (Some next) changes k (λ same. (
            let clash : None ≡ Some next = sym away ∙ ap g same ∙ here_is f g n (Some next) changes in cc))) ∙ away) (begun_same c e h k s (none_starts k) begins));
        root = begins_same c e h 1 (root_of object_meaning c main_stack) (none_starts 1) threads.root;
        branches = by_name f g n next (λ k l. BranchesAre c (e ∷ h) k (is_waiting l.stage)) changes
            (no_branches c (e ∷ h) n (is_waiting next.stage) mine)
            (λ k l other there. branches_same c h e threads.few plain k (apart k other) (is_waiting l.stage) (threads.branches k l there));
        parents = by_name f g n next (HasPlace c (e ∷ h) g) changes (parent_of n gone.life gone.lived) (λ k l other there. parent_of k l there);
        few = λ k. ⊎_elim (λ (same : k ≡ n). omega (arith, ap (started c (e ∷ h)) same, mine))
            (λ (other : k ≡ n → ⊥). omega (arith, started_same c h e plain k (apart k other), threads.few k)) (cases_eq k n);
      };
      waits = by_name f g n next (λ k l. is_waiting l.stage ≡ true → HasBranch g k ⊎ HasStuck c (e ∷ h) k) changes (λ is. inr (gone.rests is))
          (λ k l other there is. ⊎_elim (λ (b : HasBranch f k). inl (still_lives f g n next changes k b))
          (λ (s : HasStuck c h k). inr (s.0, (s.1.0, own_same c h e plain k (apart k other) ∙ s.1.1, s.1.2))) (place.waits k l there is));
    }

-- Entries.

module _ (c : Code) (h : List Entry) (f : ObjLives) (e : Entry) (n : ℕ) (life : ObjLife) (alive : AreLiving c h f) (name : e.stamp.name.0 ≡ n) (lived : f n ≡ Some life) (awake : is_waiting life.stage ≡ false) where
  place_at : IsInPlace c h n life
  place_at = alive.place.threads.lives n life lived

  leads : LeadsTo c place_at.start (own (obj_threads c) n h) life
  leads = comes_to c place_at.start (own (obj_threads c) n h) life place_at.stands awake

  plain_by : starts_of e ≡ 0 → IsPlain c h e
  plain_by none = record { forks = none; lived = λ over. alive_not_ended c h f alive n life lived (subst (Ended (obj_threads c) h) name over) }

  -- the thread with its newest entry
  gone_by : (next : ObjLife) (none : starts_of e ≡ 0) → LeadsTo c place_at.start (e ∷ own (obj_threads c) n h) next → (is_waiting next.stage ≡ true → is_too_deep e.stamp.name.0 e.stamp.event ≡ true) → HasGone c h f e n next
  gone_by next none on deep =
      let mine = own_mine c e h n name in
      record {
        name = name;
        plain = plain_by none;
        life = life;
        lived = lived;
        awake = awake;
        place = record {
          start = place_at.start;
          begins = begins_same c e h n place_at.start (starts_none c h e (plain_by none) n) place_at.begins;
          stands = IsAt.rests (subst (λ o. LeadsTo c place_at.start o next) (sym mine) on);
        };
        rests = λ is. (e, (own (obj_threads c) n h, mine, deep is));
      }

  pub fed_place : (g : ObjLives) (d b : Option Value) (reply : ReplyOf Value ObjStack) → reply_of e.stamp.answer ≡ reply → (fed : IsFed object_meaning c f d n reply g b) → is_waiting (answered object_meaning c fed.life reply).stage ≡ false
      → is_zero e.stamp.event ≡ false → fork_in e.stamp.event ≡ None → AreSettled c (e ∷ h) g
  fed_place g d b reply replies fed moved zero_no fork =
      let both : Some fed.life ≡ Some life = sym fed.lived ∙ lived in
      let same : fed.life ≡ life = cc in
      let ran = subst (λ r. RunsOn object_meaning c (answered object_meaning c life r) fed.next) (sym replies) (subst (λ z. RunsOn object_meaning c (answered object_meaning c z reply) fed.next) same fed.runs) in
      let still = runs_awake object_meaning c (answered object_meaning c fed.life reply) fed.next moved fed.runs in
      settled c (e ∷ h) n fed.lives g d b fed.settles (gone_threads c h f fed.lives e n fed.next alive.place
      (gone_by fed.next (Standing.starts_none e fork) (LeadsTo.told e (own (obj_threads c) n h) life fed.next leads awake zero_no fork ran) (λ is. (let clash : true ≡ false = sym is ∙ still in cc))) fed.changes)

  pub stuck_place : (g : ObjLives) (d b : Option Value) (stuck : IsStuck f d n g b) → is_too_deep e.stamp.name.0 e.stamp.event ≡ true → AreSettled c (e ∷ h) g
  stuck_place g d b stuck deep =
      let both : Some stuck.life ≡ Some life = sym stuck.lived ∙ lived in
      let same : stuck.life ≡ life = cc in
      gone_threads c h f g e n (at_fork stuck.life) alive.place
      (gone_by (at_fork stuck.life) (Standing.starts_deep e deep) (subst (λ z. LeadsTo c place_at.start (e ∷ own (obj_threads c) n h) (at_fork z)) (sym same) (LeadsTo.sticks e (own (obj_threads c) n h) life leads awake deep)) (λ is. deep)) stuck.changes

  pub halted_place : is_zero e.stamp.event ≡ true → AreSettled c (e ∷ h) f
  halted_place stops =
      gone_threads c h f f e n life alive.place (gone_by life (Standing.starts_zero e stops) (LeadsTo.traps e (own (obj_threads c) n h) life leads awake stops) (λ is. (let clash : true ≡ false = sym is ∙ awake in cc))) unchanged
    where
      unchanged : IsChanged f n (Some life) f
      unchanged k = ⊎_elim (λ (same : k ≡ n). ap f same ∙ lived ∙ sym (changed_here f n (Some life)) ∙ ap (changed f n (Some life)) (sym same))
          (λ (other : k ≡ n → ⊥). sym (changed_other f n (Some life) k other)) (cases_eq k n)
