-- Each kind of step keeps the rule.
use Rattle.std.proofs.Common.{◌≡◌, ◌≢◌, inr, ⊎_elim, ℕ, ◌+◌, ◌%◌, ◌^◌, ◌<◌, ◌≤◌, min, eqb, eq-eqb, ne_eqb, Bool, true, false, cond, true≢false, List, [], ◌∷◌, length, get_or, set, refl, sym, ap, ◌∙◌, subst, arith, length-set, get_or-set_other, get_or-set_same, lt_of_not-le}
use mathlib.Core.Option.{none, some}
use mathlib.Core.Logic.{dite}
use native.Mathlib.Decide.{ℕ_discrete, dec_le}
use prog.Atomic.{either}
use lib.ListN.{get_elem?}
use Rattle.std.proofs.lemmas.List.{set-get_or}
use Rattle.std.proofs.Math.Nat.{mod-eq_of_lt}
use Rattle.atomic_table.specs.Table.{State, Act, step, stepped, Valid, carried_after, keeps, takes, gives, Allows}
use Rattle.atomic_table.proofs.Lists.{at_set, set_again, set_here, set_else, exchanged}
use Rattle.tac_ir.specs.declared.run.Entry.{Entry}
use Rattle.stripe_rule.specs.declared.plan.Terms.{Terms}
use Rattle.stripe_rule.specs.declared.content.Content.{Content}
use Rattle.stripe_rule.specs.declared.view.View.{View}
use Rattle.stripe_rule.specs.Locks.{lock_of}
use Rattle.stripe_rule.specs.Holds.{Holds}
use Rattle.stripe_rule.specs.Kids.{ALL}
use Rattle.stripe_rule.specs.Views.{holding, failing, freed, looked, with_ready, as_spent, as_asked, as_halted, halting, drawn}
use Rattle.stripe_rule.specs.Kept.{Fits, Kept}
use Rattle.stripe_rule.specs.Steps.{Hears, Halts, Takes, Looks, Draws, Gives, IsOwn, Serves}
use Rattle.stripe_rule.specs.Laws.{StepTells}
use Rattle.stripe_rule.specs.tools.Logs.{AllBelow, times, total, HasStop}
use Rattle.stripe_rule.proofs.Kin.{names_all, family_all, stopped_set, holder_set, in_range, one_view}
use Rattle.stripe_rule.proofs.Sums.{total_set, total_same, total_le, one_of_total, logged_below, logged_more, logged_new, holds_apart, served_more}

abbrev St : Type 0
St = State Content View

pub off : false ≡ true → ⊥
off e = true≢false (sym e)

goes_on : (b : Bool) → (b ≡ true → ⊥) → b ≡ false
goes_on true never = absurd (never refl)
goes_on false never = refl

-- a step that changes nothing
still : (s : St) (i id : ℕ) (v : View) (c : List (ℕ × Content)) → get_elem? s.views id ≡ some v → stepped s i (get_or s.words i 0) id c v keeps ≡ s
still s i id v c at = λ j. record { words = set-get_or s.words i 0 j; homes = s.homes; views = set_again s.views id v at j }

pub fits_all : (p : Terms) (ws : List ℕ) (h : List Entry) (vs : List View) (id : ℕ) (w : View) → ((j : ℕ) (u : View) → j ≢ id → get_elem? vs j ≡ some u → Fits p ws h u) → Fits p ws h w → (j : ℕ) (u : View) → get_elem? (set vs id w) j ≡ some u → Fits p ws h u
fits_all p ws h vs id w others mine j u e =
    ⊎_elim
    (λ (x : (j ≡ id) × (w ≡ u)). subst (Fits p ws h) x.1 mine)
    (λ (x : (j ≢ id) × (get_elem? vs j ≡ some u)). others j u x.0 x.1)
    (at_set vs id j w u e)

abbrev pub Alone : List View → Type 0
Alone vs = (i j : ℕ) (v w : View) → get_elem? vs i ≡ some v → get_elem? vs j ≡ some w → v.holds ≡ true → w.holds ≡ true → v.stripe ≡ w.stripe → i ≡ j

pub alone_all : (vs : List View) (id : ℕ) (w : View) → Alone vs → ((j : ℕ) (u : View) → j ≢ id → get_elem? vs j ≡ some u → w.holds ≡ true → u.holds ≡ true → w.stripe ≡ u.stripe → ⊥) → Alone (set vs id w)
alone_all vs id w old apart i j x y ex ey hx hy same =
    ⊎_elim
    (λ (a : (i ≡ id) × (w ≡ x)). ⊎_elim
    (λ (b : (j ≡ id) × (w ≡ y)). a.0 ∙ sym b.0)
    (λ (b : (j ≢ id) × (get_elem? vs j ≡ some y)). absurd (apart j y b.0 b.1 (ap (λ (u : View). u.holds) a.1 ∙ hx) hy (ap (λ (u : View). u.stripe) a.1 ∙ same)))
    (at_set vs id j w y ey))
    (λ (a : (i ≢ id) × (get_elem? vs i ≡ some x)). ⊎_elim
    (λ (b : (j ≡ id) × (w ≡ y)). absurd (apart i x a.0 a.1 (ap (λ (u : View). u.holds) b.1 ∙ hy) hx (ap (λ (u : View). u.stripe) b.1 ∙ sym same)))
    (λ (b : (j ≢ id) × (get_elem? vs j ≡ some y)). old i j x y a.1 b.1 hx hy same)
    (at_set vs id j w y ey))
    (at_set vs id i w x ex)

-- a view whose words, history and cells did not change for it
fits_still : (p : Terms) (ws ws' : List ℕ) (h : List Entry) (u : View) → get_or ws (p.stripes + 1) 0 ≤ get_or ws' (p.stripes + 1) 0 → get_or ws' (p.stripes + 2) 0 ≡ get_or ws (p.stripes + 2) 0 → (u.holds ≡ true → get_or ws' u.stripe 0 ≡ get_or ws u.stripe 0) → Fits p ws h u → Fits p ws' h u
fits_still p ws ws' h u clock halt same f = record { plan = f.plan; floor = f.floor; logged = f.logged; ready = f.ready; idle = f.idle; share = f.share; above = f.above; spent = λ on. let a = f.spent on in omega arith; late = let a = f.late in omega arith; halted = λ on z. f.halted on (sym halt ∙ z); held = λ on. let x = f.held on in (x.0, x.1, same on ∙ x.2, x.3) }

-- a step that leaves the words, the slots and the history, and what the view has in them
kept_same : (p : Terms) (s : St) (h : Kept p s) (id : ℕ) (v w : View) → get_elem? s.views id ≡ some v → w.name ≡ v.name → w.parts ≡ v.parts → w.kids ≡ v.kids → w.floor ≡ v.floor → w.log ≡ v.log → w.holds ≡ v.holds → w.stripe ≡ v.stripe → Fits p s.words h.history w → (((j : ℕ) (u : View) → get_elem? (set s.views id w) j ≡ some u → Fits p s.words h.history u) → get_or s.words (p.stripes + 1) 0 + total (λ u. u.ready) (set s.views id w) ≤ p.budget + ALL)
    → Kept p record { words = s.words; homes = s.homes; views = set s.views id w }
kept_same p s h id v w at name parts kids floor log holds stripe own bound =
    let all = fits_all p s.words h.history s.views id w (λ j u ne e. h.fits j u e) own in
    record {
      history = h.history;
      counted = h.counted;
      legal = h.legal;
      tickets = λ t. subst (λ m. (t < length h.history → m ≡ 1) × (length h.history ≤ t → m ≡ 0)) (sym (total_same (λ u. times t u.log) s.views id v w at (ap (times t) log))) (h.tickets t);
      fits = all;
      parts = total_same (λ u. u.parts) s.views id v w at parts ∙ h.parts;
      bound = bound all;
      alone = alone_all s.views id w h.alone (λ j u ne e on on' is. ne (sym (h.alone id j v u at e (sym holds ∙ on) on' (sym stripe ∙ is))));
      free = h.free;
      names = names_all s.views id v w at h.names (λ _. name) (λ l. omega arith);
      family = family_all s.views id v w at h.family name parts kids floor;
      busy = λ k lt nz. holder_set s.views s.words s.words k id v w at refl (λ on is. (holds ∙ on, stripe ∙ is, name, λ l. omega arith)) (h.busy k lt nz);
      halt = λ nz. stopped_set s.views id v w at (λ x. subst HasStop (sym log) x) (h.halt nz);
      size = h.size;
      homes = h.homes;
    }

-- the same where one word is written as it was
kept_read : (p : Terms) (s : St) (i id : ℕ) (w : View) → Kept p record { words = s.words; homes = s.homes; views = set s.views id w } → Kept p record { words = set s.words i (get_or s.words i 0); homes = s.homes; views = set s.views id w }
kept_read p s i id w k = subst (λ ws. Kept p record { words = ws; homes = s.homes; views = set s.views id w }) (sym (set-get_or s.words i 0)) k

-- the same where the view's place in the sum is the same too
pub same_words : (p : Terms) (s : St) (h : Kept p s) (id : ℕ) (v w : View) → get_elem? s.views id ≡ some v → w.name ≡ v.name → w.parts ≡ v.parts → w.kids ≡ v.kids → w.floor ≡ v.floor → w.log ≡ v.log → w.holds ≡ v.holds → w.stripe ≡ v.stripe → w.ready ≡ v.ready → w.content ≡ v.content → Fits p s.words h.history w
    → Kept p record { words = s.words; homes = s.homes; views = set s.views id w }
same_words p s h id v w at name parts kids floor log holds stripe ready content own =
    kept_same p s h id v w at name parts kids floor log holds stripe own (λ _. let a = total_same (λ u. u.ready) s.views id v w at ready in let b = h.bound in omega arith)

-- Kind 1.
pub takes_lock : (p : Terms) (id k : ℕ) (v : View) (c : List (ℕ × Content)) → k < (p.stripes + 1) → v.holds ≡ false → 0 < v.name → 0 < v.parts
    → Allows (Kept p) (p.stripes + 1) id (v, c) k (λ n. either (eqb n 0) v.name n) (Takes (step (p.stripes + 1) k 0 v.name none) (v, c))
takes_lock p id k v c lt idle named some_part s h len at fit = exchanged (get_or s.words k 0) 0 v.name F hit miss
  where
    F : ℕ → Type 0
    F x = (w : View) × (a : Act Content) × Valid s.homes c a × Kept p (stepped s k x id c w a) × Takes (step (p.stripes + 1) k 0 v.name none) (v, c) (get_or s.words k 0) (w, carried_after c a)

    miss : get_or s.words k 0 ≢ 0 → F (get_or s.words k 0)
    miss ne = (failing v k (get_or s.words k 0), keeps, tt, kept_read p s k id (failing v k (get_or s.words k 0)) (same_words p s h id v (failing v k (get_or s.words k 0)) at refl refl refl refl refl refl refl refl refl (let f = h.fits id v at in record { plan = f.plan; floor = f.floor; logged = f.logged; ready = f.ready; idle = f.idle; share = f.share; above = f.above; spent = f.spent; late = f.late; halted = f.halted; held = f.held })), ((λ e. absurd (ne e)), λ _. (refl, λ own. let b = h.busy k lt ne in let same : b.1 ≡ v = one_view s.views b.0 id b.1 v b.2 at (h.names b.0 id b.1 v b.2 at b.6 some_part (sym b.5 ∙ own)) in off (sym idle ∙ sym (ap (λ (u : View). u.holds) same) ∙ b.3))))

    hit : get_or s.words k 0 ≡ 0 → F v.name
    hit e =
        let f = h.free k lt e in
        let y : Content = f.0 in
        let w : View = holding v k y in
        let ws : List ℕ = set s.words k v.name in
        let mine = h.fits id v at in
        let room : k < length s.words = let z = h.size in omega arith in
        let clock : get_or ws (p.stripes + 1) 0 ≡ get_or s.words (p.stripes + 1) 0 = get_or-set_other s.words k (p.stripes + 1) v.name 0 (λ q. omega arith) in
        let halt : get_or ws (p.stripes + 2) 0 ≡ get_or s.words (p.stripes + 2) 0 = get_or-set_other s.words k (p.stripes + 2) v.name 0 (λ q. omega arith) in
        let taken : (u : View) → Fits p s.words h.history u → u.holds ≡ true → u.stripe ≢ k = λ u g on is. let x = g.held on in let z = x.0 in let q : get_or s.words k 0 ≡ u.name = ap (λ i. get_or s.words i 0) (sym is) ∙ x.2 in omega arith in
        let own : Fits p ws h.history w = record { plan = mine.plan; floor = mine.floor; logged = mine.logged; ready = mine.ready; idle = mine.idle; share = mine.share; above = mine.above; spent = λ on. let a = mine.spent on in omega arith; late = let a = mine.late in omega arith; halted = λ on z. mine.halted on (sym halt ∙ z); held = λ on. (named, lt, get_or-set_same s.words k v.name 0 room, f.2) } in (
          w,
          takes k y,
          f.1,
          record {
            history = h.history;
            counted = h.counted ∙ ap (λ c. min c p.budget) (sym clock);
            legal = h.legal;
            tickets = λ t. subst (λ m. (t < length h.history → m ≡ 1) × (length h.history ≤ t → m ≡ 0)) (sym (total_same (λ u. times t u.log) s.views id v w at refl)) (h.tickets t);
            fits = fits_all p ws h.history s.views id w (λ j u ne e. let g = h.fits j u e in fits_still p s.words ws h.history u (omega arith) halt (λ on. get_or-set_other s.words k u.stripe v.name 0 (taken u g on)) g) own;
            parts = total_same (λ u. u.parts) s.views id v w at refl ∙ h.parts;
            bound = let a = h.bound in let b = total_same (λ u. u.ready) s.views id v w at refl in omega arith;
            alone = alone_all s.views id w h.alone (λ j u ne e _ on same. taken u (h.fits j u e) on (sym same));
            free = λ k' lt' e'. dite (ℕ_discrete k' k)
                (λ is. absurd (let q : v.name ≡ 0 = sym (get_or-set_same s.words k v.name 0 room) ∙ ap (λ i. get_or ws i 0) (sym is) ∙ e' in omega arith))
                (λ ne. let g = h.free k' lt' (sym (get_or-set_other s.words k k' v.name 0 ne) ∙ e') in (g.0, set_else s.homes k k' none ne ∙ g.1, g.2));
            names = names_all s.views id v w at h.names (λ _. refl) (λ l. l);
            family = family_all s.views id v w at h.family refl refl refl refl;
            busy = λ k' lt' nz. dite (ℕ_discrete k' k)
                (λ is. (id, w, set_here s.views id w (in_range s.views id v at), refl, sym is, ap (λ i. get_or ws i 0) is ∙ get_or-set_same s.words k v.name 0 room, some_part))
                (λ ne. let same = get_or-set_other s.words k k' v.name 0 ne in holder_set s.views s.words ws k' id v w at same (λ on _. absurd (off (sym idle ∙ on))) (h.busy k' lt' (λ z. nz (same ∙ z))));
            halt = λ nz. stopped_set s.views id v w at (λ x. x) (h.halt (λ z. nz (halt ∙ z)));
            size = length-set s.words k v.name ∙ h.size;
            homes = length-set s.homes k none ∙ h.homes;
          },
          ((λ _. (y, refl, (h.history, subst (λ (q : Terms). Holds q k h.history y) (sym (mine.plan some_part)) f.2))), λ ne. absurd (ne e)),
        )

-- Kind 2.
pub looks : (p : Terms) (id : ℕ) (v : View) (c : List (ℕ × Content)) → 0 < v.parts → Allows (Kept p) (p.stripes + 1) id (v, c) (p.stripes + 1) (λ n. n) (Looks (step (p.stripes + 1) (p.stripes + 1) 0 0 none) (v, c))
looks p id v c some_part s h len at fit =
    let r : ℕ = get_or s.words (p.stripes + 1) 0 in
    let mine = h.fits id v at in
    let same : v.plan.budget ≡ p.budget = ap (λ (q : Terms). q.budget) (mine.plan some_part) in
    elim (dec_le p.budget r) [
      | yes le ↦ let w : View = as_spent (looked v) r in (
        w,
        keeps,
        tt,
        kept_read p s (p.stripes + 1) id w (kept_same p s h id v w at refl refl refl refl refl refl refl
            record { plan = mine.plan; floor = mine.floor; logged = mine.logged; ready = omega arith; idle = mine.idle; share = mine.share; above = mine.above; spent = λ _. le; late = omega arith; halted = mine.halted; held = mine.held }
            (λ _. let a = total_set (λ u. u.ready) s.views id v w at in let b = h.bound in omega arith)),
        ((λ lt. absurd (omega arith)), λ _. refl),
      )
      | no gt ↦ let w : View = with_ready (looked v) in
          let lt : r < p.budget = lt_of_not-le gt in (
            w,
            keeps,
            tt,
            kept_read p s (p.stripes + 1) id w (kept_same p s h id v w at refl refl refl refl refl refl refl
                record { plan = mine.plan; floor = mine.floor; logged = mine.logged; ready = omega arith; idle = λ z. absurd (omega arith); share = mine.share; above = mine.above; spent = mine.spent; late = mine.late; halted = mine.halted; held = mine.held }
                (λ all. let a = total_le (λ u. u.ready) (λ u. u.parts) (set s.views id w) (λ j u e. (all j u e).ready) in let b = total_same (λ u. u.parts) s.views id v w at refl ∙ h.parts in omega arith)),
            ((λ _. refl), λ le. absurd (omega arith)),
          )
    ]

-- Kind 7.
pub hears : (p : Terms) (id : ℕ) (v : View) (c : List (ℕ × Content)) → Allows (Kept p) (p.stripes + 1) id (v, c) (p.stripes + 2) (λ n. n) (Hears (step (p.stripes + 1) (p.stripes + 2) 0 0 none) (v, c))
hears p id v c s h len at fit =
    let r : ℕ = get_or s.words (p.stripes + 2) 0 in
    let mine = h.fits id v at in
    elim (ℕ_discrete r 0) [
      | yes z ↦ let w : View = as_asked v in (
        w,
        keeps,
        tt,
        kept_read p s (p.stripes + 2) id w (same_words p s h id v w at refl refl refl refl refl refl refl refl refl
            record { plan = mine.plan; floor = mine.floor; logged = mine.logged; ready = mine.ready; idle = mine.idle; share = mine.share; above = mine.above; spent = mine.spent; late = mine.late; halted = mine.halted; held = mine.held }),
        ((λ _. (goes_on v.halted (λ on. mine.halted on z), refl)), λ nz. absurd (nz z)),
      )
      | no nz ↦ let w : View = as_halted v in (
        w,
        keeps,
        tt,
        kept_read p s (p.stripes + 2) id w (kept_same p s h id v w at refl refl refl refl refl refl refl
            record { plan = mine.plan; floor = mine.floor; logged = mine.logged; ready = mine.ready; idle = mine.idle; share = mine.share; above = mine.above; spent = mine.spent; late = mine.late; halted = λ _. nz; held = mine.held }
            (λ _. let a = total_same (λ u. u.ready) s.views id v w at refl in let b = h.bound in omega arith)),
        ((λ z. absurd (nz z)), λ _. refl),
      )
    ]

-- Kind 8.
pub halts : (p : Terms) (id : ℕ) (v : View) (c : List (ℕ × Content)) → HasStop v.log → Allows (Kept p) (p.stripes + 1) id (v, c) (p.stripes + 2) (λ _. 1) (λ _. Halts (step (p.stripes + 1) (p.stripes + 2) 1 0 none) (v, c) 1)
halts p id v c stop s h len at fit =
    let ws : List ℕ = set s.words (p.stripes + 2) 1 in
    let on_word : get_or ws (p.stripes + 2) 0 ≡ 1 = get_or-set_same s.words (p.stripes + 2) 1 0 (let z = h.size in omega arith) in
    let else : (k : ℕ) → k < p.stripes + 2 → get_or ws k 0 ≡ get_or s.words k 0 = λ k lt. get_or-set_other s.words (p.stripes + 2) k 1 0 (λ q. omega arith) in
    let clock = else (p.stripes + 1) (omega arith) in
    let w : View = halting v in
    let fit_all : (u : View) → Fits p s.words h.history u → Fits p ws h.history u = λ u f. record { plan = f.plan; floor = f.floor; logged = f.logged; ready = f.ready; idle = f.idle; share = f.share; above = f.above; spent = λ on. let a = f.spent on in omega arith; late = let a = f.late in omega arith; halted = λ _ z. omega arith; held = λ on. let x = f.held on in (x.0, x.1, else u.stripe (let l = x.1 in omega arith) ∙ x.2, x.3) } in
    let f = fit_all v (h.fits id v at) in (
      w,
      keeps,
      tt,
      record {
        history = h.history;
        counted = let a = h.counted in omega arith;
        legal = h.legal;
        tickets = λ t. subst (λ m. (t < length h.history → m ≡ 1) × (length h.history ≤ t → m ≡ 0)) (sym (total_same (λ u. times t u.log) s.views id v w at refl)) (h.tickets t);
        fits = fits_all p ws h.history s.views id w (λ j u ne e. fit_all u (h.fits j u e)) record { plan = f.plan; floor = f.floor; logged = f.logged; ready = f.ready; idle = f.idle; share = f.share; above = f.above; spent = f.spent; late = f.late; halted = λ _ z. omega arith; held = f.held };
        parts = total_same (λ u. u.parts) s.views id v w at refl ∙ h.parts;
        bound = let a = total_same (λ u. u.ready) s.views id v w at refl in let b = h.bound in omega arith;
        alone = alone_all s.views id w h.alone (λ j u ne e on on' is. ne (sym (h.alone id j v u at e on on' is)));
        free = λ k lt z. h.free k lt (sym (else k (omega arith)) ∙ z);
        names = names_all s.views id v w at h.names (λ _. refl) (λ l. l);
        family = family_all s.views id v w at h.family refl refl refl refl;
        busy = λ k lt nz. let same = else k (omega arith) in holder_set s.views s.words ws k id v w at same (λ on is. (on, is, refl, λ l. l)) (h.busy k lt (λ z. nz (same ∙ z)));
        halt = λ _. stopped_set s.views id v w at (λ x. x) (id, v, at, stop);
        size = length-set s.words (p.stripes + 2) 1 ∙ h.size;
        homes = h.homes;
      },
      refl,
    )

-- A load that tells of the log.
pub tells : StepTells
tells p id k v c s h len at fit =
    let mine = h.fits id v at in
    let once : (t : ℕ) → times t v.log ≤ 1 = λ t. (let all = one_of_total (λ u. times t u.log) s.views id v at in
    elim (dec_le (length h.history) t) [
      | yes le ↦ (let none_there = (h.tickets t).1 le in omega (arith, all, none_there))
      | no gt ↦ (let one = (h.tickets t).0 (lt_of_not-le gt) in omega (arith, all, one))
    ]) in (
      v,
      keeps,
      tt,
      subst (Kept p) (sym (still s k id v c at)) h,
      (refl, once, mine.above, mine.share),
    )

-- Kind 3.
pub draws : (p : Terms) (id : ℕ) (v : View) (c : List (ℕ × Content)) (e : Entry) (y : Content) → p.budget < 2 ^ 62 → 0 < v.parts → v.ready ≡ 1 → IsOwn p v e → Serves p v e y
    → Allows (Kept p) (p.stripes + 1) id (v, c) (p.stripes + 1) (λ n. (n + 1) % 2 ^ 64) (Draws e y (step (p.stripes + 1) (p.stripes + 1) 1 0 none) (v, c))
draws p id v c e y small some_part ready own serves s h len at fit = subst F (sym wraps) (by_order (dec_le p.budget r))
  where
    r : ℕ
    r = get_or s.words (p.stripes + 1) 0

    ws : List ℕ
    ws = set s.words (p.stripes + 1) (r + 1)

    mine : Fits p s.words h.history v
    mine = h.fits id v at

    same : v.plan.budget ≡ p.budget
    same = ap (λ (q : Terms). q.budget) (mine.plan some_part)

    one : 1 ≤ total (λ u. u.ready) s.views
    one = let a = one_of_total (λ u. u.ready) s.views id v at in omega arith

    under : r + 1 < 2 ^ 64
    under = let a = h.bound in let b = one in omega arith

    wraps : (r + 1) % 2 ^ 64 ≡ r + 1
    wraps = mod-eq_of_lt under

    here : get_or ws (p.stripes + 1) 0 ≡ r + 1
    here = get_or-set_same s.words (p.stripes + 1) (r + 1) 0 (let z = h.size in omega arith)

    lock : (k : ℕ) → k < (p.stripes + 1) → get_or ws k 0 ≡ get_or s.words k 0
    lock k lt = get_or-set_other s.words (p.stripes + 1) k (r + 1) 0 (λ q. omega arith)

    halt : get_or ws (p.stripes + 2) 0 ≡ get_or s.words (p.stripes + 2) 0
    halt = get_or-set_other s.words (p.stripes + 1) (p.stripes + 2) (r + 1) 0 (λ q. omega arith)

    later : r ≤ get_or ws (p.stripes + 1) 0
    later = let a = here in omega arith

    F : ℕ → Type 0
    F x = (w : View) × (a : Act Content) × Valid s.homes c a × Kept p (stepped s (p.stripes + 1) x id c w a) × Draws e y (step (p.stripes + 1) (p.stripes + 1) 1 0 none) (v, c) r (w, carried_after c a)

    less_ready : (w : View) → w.ready ≡ 0 → get_or ws (p.stripes + 1) 0 + total (λ u. u.ready) (set s.views id w) ≤ p.budget + ALL
    less_ready w none_ready = let a = total_set (λ u. u.ready) s.views id v w at in let b = h.bound in let d = here in omega arith

    spent : p.budget ≤ r → F (r + 1)
    spent le = let w : View = as_spent v r in (
      w,
      keeps,
      tt,
      record {
        history = h.history;
        counted = let a = h.counted in let b = here in omega arith;
        legal = h.legal;
        tickets = λ t. subst (λ m. (t < length h.history → m ≡ 1) × (length h.history ≤ t → m ≡ 0)) (sym (total_same (λ u. times t u.log) s.views id v w at refl)) (h.tickets t);
        fits = fits_all p ws h.history s.views id w (λ j u ne q. let g = h.fits j u q in fits_still p s.words ws h.history u later halt (λ held. lock u.stripe (g.held held).1) g)
            record { plan = mine.plan; floor = mine.floor; logged = mine.logged; ready = omega arith; idle = mine.idle; share = mine.share; above = mine.above; spent = λ _. let a = here in omega arith; late = later; halted = λ on' z. mine.halted on' (sym halt ∙ z); held = λ held. let x = mine.held held in (x.0, x.1, lock v.stripe x.1 ∙ x.2, x.3) };
        parts = total_same (λ u. u.parts) s.views id v w at refl ∙ h.parts;
        bound = less_ready w refl;
        alone = alone_all s.views id w h.alone (λ j u ne q on on' is. ne (sym (h.alone id j v u at q on on' is)));
        free = λ k lt z. h.free k lt (sym (lock k lt) ∙ z);
        names = names_all s.views id v w at h.names (λ _. refl) (λ l. l);
        family = family_all s.views id v w at h.family refl refl refl refl;
        busy = λ k lt nz. holder_set s.views s.words ws k id v w at (lock k lt) (λ on is. (on, is, refl, λ l. l)) (h.busy k lt (λ z. nz (lock k lt ∙ z)));
        halt = λ nz. stopped_set s.views id v w at (λ x. x) (h.halt (λ z. nz (halt ∙ z)));
        size = length-set s.words (p.stripes + 1) (r + 1) ∙ h.size;
        homes = h.homes;
      },
      ((λ lt. absurd (let q = same in omega arith)), λ _. refl),
    )

    drew : r < p.budget → F (r + 1)
    drew lt =
        let w : View = drawn v r e y in
        let hs : List Entry = e ∷ h.history in
        let now : r ≡ length h.history = let a = h.counted in omega arith in
        let served = serves h.history (λ on. (mine.held on).3) in
        let elsewhere : (u : View) (j : ℕ) → j ≢ id → get_elem? s.views j ≡ some u → Fits p s.words h.history u → u.holds ≡ true → lock_of p e.op ≢ u.stripe = λ u j ne q g on' is. let low = (g.held on').1 in let o = own (let i = is in omega arith) in ne (sym (h.alone id j v u at q o.0 on' (o.1 ∙ is))) in
        let free_lock : (k : ℕ) → k < (p.stripes + 1) → get_or s.words k 0 ≡ 0 → lock_of p e.op ≢ k = λ k low z is. let o = own (let i = is in omega arith) in let x = mine.held o.0 in let named = x.0 in let zero_name : v.name ≡ 0 = sym x.2 ∙ ap (λ i. get_or s.words i 0) (o.1 ∙ is) ∙ z in omega arith in
        let more : (t : ℕ) → total (λ u. times t u.log) (set s.views id w) ≡ total (λ u. times t u.log) s.views + cond (eqb t r) 1 0 = λ t. let a = total_set (λ u. times t u.log) s.views id v w at in omega arith in (
          w,
          keeps,
          tt,
          record {
            history = hs;
            counted = let a = h.counted in let b = here in omega arith;
            legal = served_more p h.history e served.0 h.legal;
            tickets = λ t. dite (ℕ_discrete t r)
                (λ is. let a = more t ∙ ap (λ b. total (λ u. times t u.log) s.views + cond b 1 0) (eq-eqb t r is) in let o : total (λ u. times t u.log) s.views ≡ 0 = (h.tickets t).1 (omega arith) in ((λ _. omega arith), λ ge. absurd (omega arith)))
                (λ ne. let a = more t ∙ ap (λ b. total (λ u. times t u.log) s.views + cond b 1 0) (ne_eqb t r ne) in let o = h.tickets t in ((λ below. let z = o.0 (omega arith) in omega arith), λ above. let z = o.1 (omega arith) in omega arith));
            fits = fits_all p ws hs s.views id w
                (λ j u ne q. let g = h.fits j u q in record {
                  plan = g.plan;
                  floor = let z = g.floor in omega arith;
                  logged = logged_more h.history e u.log g.logged;
                  ready = g.ready;
                  spent = λ on'. let a = g.spent on' in let b = later in omega arith;
                  late = let a = g.late in let b = later in omega arith;
                  halted = λ on' z. g.halted on' (sym halt ∙ z);
                  idle = g.idle;
                  share = g.share;
                  above = g.above;
                  held = λ on'. let x = g.held on' in (x.0, x.1, lock u.stripe x.1 ∙ x.2, holds_apart p u.stripe h.history e u.content (elsewhere u j ne q g on') x.3);
                })
                record {
                  plan = mine.plan;
                  floor = let z = mine.floor in omega arith;
                  logged = logged_new h.history e r v.log now mine.logged;
                  ready = omega arith;
                  spent = λ on'. let a = mine.spent on' in let b = later in omega arith;
                  late = let a = mine.late in let b = later in omega arith;
                  halted = λ on' z. mine.halted on' (sym halt ∙ z);
                  idle = λ z. absurd (omega arith);
                  share = mine.share;
                  above = ((let z = mine.floor in omega (arith, now, z)), mine.above);
                  held = λ on'. let x = mine.held on' in (x.0, x.1, lock v.stripe x.1 ∙ x.2, served.1 on');
                };
            parts = total_same (λ u. u.parts) s.views id v w at refl ∙ h.parts;
            bound = less_ready w refl;
            alone = alone_all s.views id w h.alone (λ j u ne q on on' is. ne (sym (h.alone id j v u at q on on' is)));
            free = λ k lt' z. let g = h.free k lt' (sym (lock k lt') ∙ z) in (g.0, g.1, holds_apart p k h.history e g.0 (free_lock k lt' (sym (lock k lt') ∙ z)) g.2);
            names = names_all s.views id v w at h.names (λ _. refl) (λ l. l);
            family = family_all s.views id v w at h.family refl refl refl refl;
            busy = λ k lt nz. holder_set s.views s.words ws k id v w at (lock k lt) (λ on is. (on, is, refl, λ l. l)) (h.busy k lt (λ z. nz (lock k lt ∙ z)));
            halt = λ nz. stopped_set s.views id v w at (λ x. inr x) (h.halt (λ z. nz (halt ∙ z)));
            size = length-set s.words (p.stripes + 1) (r + 1) ∙ h.size;
            homes = h.homes;
          },
          ((λ _. (refl, subst (λ q. AllBelow q v.log) (sym now) (logged_below h.history v.log mine.logged), let z = mine.floor in omega arith)), λ le. absurd (let q = same in omega arith)),
        )

    by_order : Dec (p.budget ≤ r) → F (r + 1)
    by_order (yes le) = spent le
    by_order (no gt) = drew (lt_of_not-le gt)

-- Kind 4.
pub gives_back : (p : Terms) (id k : ℕ) (v : View) (y : Content) → k < (p.stripes + 1) → v.holds ≡ true → v.stripe ≡ k → y ≡ v.content
    → Allows (Kept p) (p.stripes + 1) id (v, (k, y) ∷ []) k (λ _. 0) (λ _. Gives (step (p.stripes + 1) k 0 0 none) (v, (k, y) ∷ []) 0)
gives_back p id k v y lt on is cells s h len at fit =
    let w : View = freed v in
    let ws : List ℕ = set s.words k 0 in
    let mine = h.fits id v at in
    let held = mine.held on in
    let clock : get_or ws (p.stripes + 1) 0 ≡ get_or s.words (p.stripes + 1) 0 = get_or-set_other s.words k (p.stripes + 1) 0 0 (λ q. omega arith) in
    let halt : get_or ws (p.stripes + 2) 0 ≡ get_or s.words (p.stripes + 2) 0 = get_or-set_other s.words k (p.stripes + 2) 0 0 (λ q. omega arith) in
    let own : Fits p ws h.history w = record { plan = mine.plan; floor = mine.floor; logged = mine.logged; ready = mine.ready; idle = mine.idle; share = mine.share; above = mine.above; spent = λ on. let a = mine.spent on in omega arith; late = let a = mine.late in omega arith; halted = λ on z. mine.halted on (sym halt ∙ z); held = λ no. absurd (off no) } in (
      w,
      gives,
      tt,
      record {
        history = h.history;
        counted = h.counted ∙ ap (λ c. min c p.budget) (sym clock);
        legal = h.legal;
        tickets = λ t. subst (λ m. (t < length h.history → m ≡ 1) × (length h.history ≤ t → m ≡ 0)) (sym (total_same (λ u. times t u.log) s.views id v w at refl)) (h.tickets t);
        fits = fits_all p ws h.history s.views id w (λ j u ne e. let g = h.fits j u e in fits_still p s.words ws h.history u (omega arith) halt (λ on'. get_or-set_other s.words k u.stripe 0 0 (λ q. ne (sym (h.alone id j v u at e on on' (is ∙ sym q))))) g) own;
        parts = total_same (λ u. u.parts) s.views id v w at refl ∙ h.parts;
        bound = let a = h.bound in let b = total_same (λ u. u.ready) s.views id v w at refl in omega arith;
        alone = alone_all s.views id w h.alone (λ j u ne e no _ same. off no);
        free = λ k' lt' e. dite (ℕ_discrete k' k)
            (λ q. (y, ap (λ i. get_elem? (set s.homes k (some y)) i) q ∙ set_here s.homes k (some y) (let z = h.homes in omega arith), subst (λ i. Holds p i h.history y) (is ∙ sym q) (subst (Holds p v.stripe h.history) (sym cells) held.3)))
            (λ ne. let g = h.free k' lt' (sym (get_or-set_other s.words k k' 0 0 ne) ∙ e) in (g.0, set_else s.homes k k' (some y) ne ∙ g.1, g.2));
        names = names_all s.views id v w at h.names (λ _. refl) (λ l. l);
        family = family_all s.views id v w at h.family refl refl refl refl;
        busy = λ k' lt' nz. dite (ℕ_discrete k' k)
            (λ q. absurd (nz (ap (λ i. get_or ws i 0) q ∙ get_or-set_same s.words k 0 0 (let z = h.size in omega arith))))
            (λ ne. let same = get_or-set_other s.words k k' 0 0 ne in holder_set s.views s.words ws k' id v w at same (λ _ q. absurd (ne (sym q ∙ is))) (h.busy k' lt' (λ z. nz (same ∙ z))));
        halt = λ nz. stopped_set s.views id v w at (λ x. x) (h.halt (λ z. nz (halt ∙ z)));
        size = length-set s.words k 0 ∙ h.size;
        homes = length-set s.homes k (some y) ∙ h.homes;
      },
      refl,
    )

-- what the table is told is the plan
pub at_plan : (G : Terms → ℕ → Type 0) (key p : Terms) (slots : ℕ) → key ≡ p → slots ≡ (p.stripes + 1) → G p (p.stripes + 1) → G key slots
at_plan G key p slots same size g = subst (λ q. G q slots) (sym same) (subst (G p) (sym size) g)
