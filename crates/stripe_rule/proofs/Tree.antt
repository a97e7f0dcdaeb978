-- How passes are split and joined.
use Rattle.std.proofs.Common.{◌≡◌, ◌≢◌, inl, inr, ⊎_elim, ℕ, ◌+◌, ◌*◌, ◌<◌, ◌≤◌, max, List, [], ◌∷◌, ◌++◌, length, set, refl, sym, ap, ◌∙◌, subst, arith}
use mathlib.Core.Option.{some}
use mathlib.Core.Logic.{dite}
use native.Mathlib.Decide.{ℕ_discrete}
use lib.ListN.{get_elem?}
use Rattle.atomic_table.proofs.Lists.{at_set, at_snoc, at_longer, at_last, set_here, set_else}
use Rattle.stripe_rule.specs.declared.view.View.{View}
use Rattle.stripe_rule.specs.Kids.{whole_of, share_of, Has, remove, AreKids, IsShared}
use Rattle.stripe_rule.specs.Views.{parent, child, joined, nobody}
use Rattle.stripe_rule.specs.Kept.{Names, Parented, Fits}
use Rattle.stripe_rule.specs.Laws.{StepSplits, StepJoins}
use Rattle.stripe_rule.specs.tools.Logs.{times, HasStop, past, total}
use Rattle.stripe_rule.proofs.Sums.{total_set, total_snoc, logged_below}
use Rattle.stripe_rule.proofs.Merging.{times_merge, from_merge, logged_merge, either_on, stop_left, stop_right, past_below}
use Rattle.stripe_rule.proofs.Kids.{few_kids, some_share, shares_left, share_cut, share_back, branch_whole, kid_range, kids_removed, removed_has, one_less}
use Rattle.stripe_rule.proofs.Kin.{at_end, stopped_set, names_all, parented_set, holder_set, has_remove, in_range, one_view}
use Rattle.stripe_rule.proofs.Moves.{fits_all, alone_all, off, Alone}

le_max : (a b : ℕ) → a ≤ max a b
le_max a b = omega arith

-- Kind 5.
pub splits : StepSplits
splits p id v name some_part named shallow low high new s h at =
    let l : View = parent name v in
    let r : View = child name v in
    let mine = h.fits id v at in
    let has_share : 0 < share_of v.name = some_share v.name in
    let kids : AreKids v.name (name ∷ v.kids) = (low, high, new, mine.share.are) in
    let few = few_kids v.name (name ∷ v.kids) kids in
    let less : share_of v.name < v.parts = shares_left v.name v.parts v.kids shallow some_part mine.share (omega (arith, few)) in
    let vs : List View = set s.views id l in
    let sum : (f : View → ℕ) → total f (vs ++ r ∷ []) + f v ≡ total f s.views + f l + f r = λ f. let a = total_set f s.views id v l at in let b = total_snoc f vs r in omega arith in
    let left : Fits p s.words h.history l = record { plan = λ some_part. mine.plan (omega arith); floor = mine.floor; logged = mine.logged; ready = omega arith; idle = λ z. mine.idle (omega arith); above = mine.above; share = record { are = kids; shallow = λ _ _. shallow; rest = λ _. share_cut v.parts (share_of v.name) (length v.kids) (whole_of v.name) less (mine.share.rest some_part) }; spent = mine.spent; late = mine.late; halted = mine.halted; held = mine.held } in
    let right : Fits p s.words h.history r = record { plan = λ some_part. mine.plan (omega arith); floor = let a = mine.floor in let b = past_below (length h.history) v.log (logged_below h.history v.log mine.logged) in omega arith; logged = tt; ready = omega arith; idle = λ z. refl; above = tt; share = record { are = tt; shallow = λ c h. absurd h; rest = λ _. (let whole = branch_whole v.name name named shallow low high in omega (arith, whole)) }; spent = λ on. absurd (off on); late = omega arith; halted = λ on. absurd (off on); held = λ on. absurd (off on) } in
    let live : 0 < v.parts → 0 < l.parts = λ x. omega arith in
    let last : get_elem? (vs ++ r ∷ []) (length vs) ≡ some r = at_last vs r (length vs) refl in
    let lift : (c low : ℕ) → Parented vs c low → Parented (vs ++ r ∷ []) c low = λ c low f. (f.0, f.1, at_longer vs (r ∷ []) f.0 f.1 f.2, f.3, f.4, f.5, f.6, f.7) in
    let names : Names vs = names_all s.views id v l at h.names (λ _. refl) (λ _. some_part) in
    let fresh : (i : ℕ) (x : View) → get_elem? vs i ≡ some x → 0 < x.parts → x.name ≢ name = λ i x e on is. ⊎_elim
    (λ (a : (i ≡ id) × (l ≡ x)). let n = ap (λ (u : View). u.name) a.1 in omega arith)
    (λ (a : (i ≢ id) × (get_elem? s.views i ≡ some x)).
    let f = h.family i x a.1 on (λ one. omega arith) in
    let lo = f.5 in
    let hi = f.6 in
    let me : f.1.name ≡ v.name = omega arith in
    let same : f.1 ≡ v = one_view s.views f.0 id f.1 v f.2 at (h.names f.0 id f.1 v f.2 at f.3 some_part me) in
    new (subst (Has name) (ap (λ (u : View). u.kids) same) (subst (λ c. Has c f.1.kids) is f.4)))
    (at_set s.views id i l x e) in
    let old : Alone vs = alone_all s.views id l h.alone (λ j u ne q on on' is. ne (sym (h.alone id j v u at q on on' is))) in
    record {
      history = h.history;
      counted = h.counted;
      legal = h.legal;
      tickets = λ t. let a = sum (λ u. times t u.log) in let o = h.tickets t in ((λ b. let z = o.0 b in omega arith), λ b. let z = o.1 b in omega arith);
      fits = λ j u e. ⊎_elim (λ (a : get_elem? vs j ≡ some u). fits_all p s.words h.history s.views id l (λ i x ne q. h.fits i x q) left j u a) (λ (a : r ≡ u). subst (Fits p s.words h.history) a right) (at_snoc vs r u j e);
      parts = let a = sum (λ u. u.parts) in let b = h.parts in omega arith;
      bound = let a = sum (λ u. u.ready) in let b = h.bound in omega arith;
      alone = λ i j x y ex ey hx hy same. ⊎_elim
          (λ (a : get_elem? vs i ≡ some x). ⊎_elim
          (λ (b : get_elem? vs j ≡ some y). old i j x y a b hx hy same)
          (λ (b : r ≡ y). absurd (off (ap (λ (u : View). u.holds) b ∙ hy)))
          (at_snoc vs r y j ey))
          (λ (a : r ≡ x). absurd (off (ap (λ (u : View). u.holds) a ∙ hx)))
          (at_snoc vs r x i ex);
      names = λ i j x y ex ey px py same. ⊎_elim
          (λ (a : get_elem? vs i ≡ some x). ⊎_elim
          (λ (b : get_elem? vs j ≡ some y). names i j x y a b px py same)
          (λ (b : (j ≡ length vs) × (r ≡ y)). absurd (fresh i x a px (same ∙ sym (ap (λ (u : View). u.name) b.1))))
          (at_end vs r y j ey))
          (λ (a : (i ≡ length vs) × (r ≡ x)). ⊎_elim
          (λ (b : get_elem? vs j ≡ some y). absurd (fresh j y b py (sym same ∙ sym (ap (λ (u : View). u.name) a.1))))
          (λ (b : (j ≡ length vs) × (r ≡ y)). a.0 ∙ sym b.0)
          (at_end vs r y j ey))
          (at_end vs r x i ex);
      family = λ i x e on ne. lift x.name x.floor (⊎_elim
          (λ (a : get_elem? vs i ≡ some x). ⊎_elim
          (λ (b : (i ≡ id) × (l ≡ x)). let n = ap (λ (u : View). u.name) b.1 in subst (λ (u : View). Parented vs u.name u.floor) b.1 (parented_set s.views id v l v.name v.floor at refl refl live (λ q. inr q) (h.family id v at some_part (λ one. ne (sym n ∙ one)))))
          (λ (b : (i ≢ id) × (get_elem? s.views i ≡ some x)). parented_set s.views id v l x.name x.floor at refl refl live (λ q. inr q) (h.family i x b.1 on ne))
          (at_set s.views id i l x a))
          (λ (a : r ≡ x). subst (λ (u : View). Parented vs u.name u.floor) a (id, l, set_here s.views id l (in_range s.views id v at), live some_part, inl refl, low, high, le_max v.floor (past v.log)))
          (at_snoc vs r x i e));
      busy = λ k lt nz. let b = holder_set s.views s.words s.words k id v l at refl (λ on is. (on, is, refl, live)) (h.busy k lt nz) in (b.0, b.1, at_longer vs (r ∷ []) b.0 b.1 b.2, b.3, b.4, b.5, b.6);
      halt = λ nz. let t = stopped_set s.views id v l at (λ x. x) (h.halt nz) in (t.0, t.1, at_longer vs (r ∷ []) t.0 t.1 t.2, t.3);
      free = h.free;
      size = h.size;
      homes = h.homes;
    }

-- Kind 6.
pub joins : StepJoins
joins p id v other w some_part their_part named is_kid free no_kids s h at ne at' =
    let b : View = joined v w in
    let vs : List View = set s.views id b in
    let mine = h.fits id v at in
    let there : get_elem? s.views other ≡ some w = sym (set_else s.views id other b ne) ∙ at' in
    let theirs = h.fits other w there in
    let sum : (f : View → ℕ) → (total f (set vs other nobody) + f w) + f v ≡ (total f s.views + f b) + f nobody = λ f. let x = total_set f s.views id v b at in let y = total_set f vs other w nobody at' in omega arith in
    let shallow = mine.share.shallow w.name is_kid in
    let range = kid_range v.name w.name v.kids mine.share.are is_kid in
    let back = branch_whole v.name w.name named shallow range.0 range.1 in
    let begun = theirs.share.rest their_part in
    let alone : length w.kids ≡ 0 = ap length no_kids in
    let theirs_is : w.parts ≡ share_of v.name = omega (arith, back, begun, ap (λ n. n * share_of w.name) alone) in
    let shared : IsShared v.name (v.parts + w.parts) (remove w.name v.kids) = record {
      are = kids_removed v.name w.name v.kids mine.share.are;
      shallow = λ c h. mine.share.shallow c (removed_has c w.name v.kids h);
      rest = λ _. share_back v.parts w.parts (share_of v.name) (length (remove w.name v.kids)) (length v.kids) (whole_of v.name) (one_less v.name w.name v.kids mine.share.are is_kid) theirs_is (mine.share.rest some_part);
    } in
    let under : v.floor ≤ w.floor =
    (let f = h.family other w there their_part (λ one. (let low = range.0 in omega (arith, low, one, named))) in
    let lo = f.5 in
    let hi = f.6 in
    let above = f.7 in
    let me : f.1.name ≡ v.name = (let a = range.0 in let b = range.1 in omega (arith, lo, hi, a, b)) in
    let same = ap (λ (u : View). u.floor) (one_view s.views f.0 id f.1 v f.2 at (h.names f.0 id f.1 v f.2 at f.3 some_part me)) in
    omega (arith, above, same)) in
    let both : Fits p s.words h.history b = record { plan = λ _. mine.plan some_part; floor = mine.floor; logged = logged_merge h.history v.log w.log mine.logged theirs.logged; ready = omega arith; idle = λ z. absurd (omega arith); share = shared; above = from_merge v.floor w.floor v.log w.log under mine.above theirs.above; late = mine.late; spent = λ on. either_on v.spent w.spent mine.spent theirs.spent on; halted = λ on. either_on v.halted w.halted mine.halted theirs.halted on; held = mine.held } in
    let none_left : Fits p s.words h.history nobody = record { plan = λ z. absurd (omega arith); floor = omega arith; logged = tt; ready = omega arith; idle = λ z. refl; above = tt; share = record { are = tt; shallow = λ c h. absurd h; rest = λ z. absurd (omega arith) }; spent = λ on. absurd (off on); late = omega arith; halted = λ on. absurd (off on); held = λ on. absurd (off on) } in
    let names : Names vs = names_all s.views id v b at h.names (λ _. refl) (λ _. some_part) in
    let other_name : (i : ℕ) (x : View) → get_elem? vs i ≡ some x → 0 < x.parts → i ≢ other → x.name ≢ w.name = λ i x e on apart is. apart (names i other x w e at' on their_part is) in
    -- a parent of a name that is not w's is there still
    let kept : (c low : ℕ) → c ≢ w.name → Parented s.views c low → Parented (set vs other nobody) c low = λ c low apart f.
    let mid : Parented vs c low = parented_set s.views id v b c low at refl refl (λ _. omega arith) (λ q. has_remove c w.name v.kids apart q) f in
    (mid.0, mid.1, set_else vs other mid.0 nobody (λ is. subst (Has c) (ap (λ (u : View). u.kids) (one_view vs mid.0 other mid.1 w mid.2 at' is) ∙ no_kids) mid.4) ∙ mid.2, mid.3, mid.4, mid.5, mid.6, mid.7) in
    record {
      history = h.history;
      counted = h.counted;
      legal = h.legal;
      tickets = λ t. let a = sum (λ u. times t u.log) in let m = times_merge t v.log w.log in let o = h.tickets t in ((λ b. let z = o.0 b in omega arith), λ b. let z = o.1 b in omega arith);
      fits = fits_all p s.words h.history vs other nobody (λ j u _ e. fits_all p s.words h.history s.views id b (λ i x _ q. h.fits i x q) both j u e) none_left;
      parts = let a = sum (λ u. u.parts) in let b = h.parts in omega arith;
      bound = let a = sum (λ u. u.ready) in let b = h.bound in omega arith;
      alone = alone_all vs other nobody (alone_all s.views id b h.alone (λ j u ne q on on' is. ne (sym (h.alone id j v u at q on on' is)))) (λ j u ne e no _ same. off no);
      names = names_all vs other w nobody at' names (λ z. absurd (omega arith)) (λ z. absurd (omega arith));
      family = λ i x e on one. ⊎_elim
          (λ (a : (i ≡ other) × (nobody ≡ x)). absurd (let q = ap (λ (u : View). u.parts) a.1 in omega arith))
          (λ (a : (i ≢ other) × (get_elem? vs i ≡ some x)). kept x.name x.floor (other_name i x a.1 on a.0) (⊎_elim
          (λ (c : (i ≡ id) × (b ≡ x)). let n = ap (λ (u : View). u.name) c.1 in subst (λ (u : View). Parented s.views u.name u.floor) c.1 (h.family id v at some_part (λ o. one (sym n ∙ o))))
          (λ (c : (i ≢ id) × (get_elem? s.views i ≡ some x)). h.family i x c.1 on one)
          (at_set s.views id i b x a.1)))
          (at_set vs other i nobody x e);
      busy = λ k lt nz. holder_set vs s.words s.words k other w nobody at' refl (λ on _. absurd (off (sym free ∙ on))) (holder_set s.views s.words s.words k id v b at refl (λ on is. (on, is, refl, λ _. omega arith)) (h.busy k lt nz));
      halt = λ nz. let t = h.halt nz in dite (ℕ_discrete t.0 other)
          (λ is. (id, b, set_else vs other id nobody (λ e. ne (sym e)) ∙ set_here s.views id b (in_range s.views id v at), stop_right v.log w.log (subst (λ (u : View). HasStop u.log) (one_view s.views t.0 other t.1 w t.2 there is) t.3)))
          (λ apart. let m = stopped_set s.views id v b at (λ x. stop_left v.log w.log x) (t.0, t.1, t.2, t.3) in dite (ℕ_discrete m.0 other)
          (λ is. (id, b, set_else vs other id nobody (λ e. ne (sym e)) ∙ set_here s.views id b (in_range s.views id v at), stop_right v.log w.log (subst (λ (u : View). HasStop u.log) (one_view vs m.0 other m.1 w m.2 at' is) m.3)))
          (λ far. (m.0, m.1, set_else vs other m.0 nobody far ∙ m.2, m.3)));
      free = h.free;
      size = h.size;
      homes = h.homes;
    }
