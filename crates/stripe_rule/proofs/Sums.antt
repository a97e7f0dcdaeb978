-- Lists, histories and sums over views.
use Rattle.std.proofs.Common.{◌≡◌, ◌≢◌, inl, inr, ⊎_elim, ℕ, zero, suc, ◌+◌, ◌*◌, ◌%◌, ◌<◌, ◌≤◌, ne_eqb, true, false, List, [], ◌∷◌, ◌++◌, length, set, refl, sym, ap, ◌∙◌, subst, arith}
use mathlib.Core.Option.{some, some-ne-none, some-injective}
use lib.ListN.{get_elem?}
use Rattle.std.proofs.lemmas.Nat.{mod-mul-add}
use Rattle.tac_ir.specs.declared.run.Entry.{Entry}
use Rattle.guest_log.specs.declared.stamped.Stamped.{Stamped}
use Rattle.stripe_rule.specs.declared.plan.Terms.{Terms}
use Rattle.stripe_rule.specs.declared.view.View.{View}
use Rattle.tac_ir.specs.declared.run.Op.{Op}
use Rattle.tac_ir.specs.declared.run.Answer.{Answer}
use Rattle.tac_ir.specs.Layout.{memory_words}
use Rattle.tac_ir.specs.Last.{Written, write_to}
use Rattle.heap_desk.specs.Laws.{changes_desk}
use Rattle.heap_desk.proofs.Beside.{others_leave_desk}
use Rattle.word_table.specs.Stripes.{Stripe, HoldsStripe}
use Rattle.word_table.proofs.Striped.{stays_by}
use Rattle.std.specs.Prelude.{Some, None, Option as Maybe, if◌then◌else◌}
use Rattle.std.proofs.lemmas.Bool.{cases_eq, lt-ltb}
use Rattle.stripe_rule.specs.declared.content.Content.{Content}
use Rattle.stripe_rule.specs.Locks.{lock_of, lock_at}
use Rattle.stripe_rule.specs.Holds.{Holds, IsServed}
use Rattle.tac_ir.specs.Served.{AreServed}
use Rattle.stripe_rule.specs.tools.Logs.{Stands, AllBelow, NoneAbove, Logged, total}

-- sums
pub total_set : (f : View → ℕ) (vs : List View) (i : ℕ) (v w : View) → get_elem? vs i ≡ some v → total f (set vs i w) + f v ≡ total f vs + f w
total_set f [] i v w e = absurd (some-ne-none v (sym e))
total_set f (x ∷ xs) zero v w e = let same = ap f (some-injective x v e) in omega arith
total_set f (x ∷ xs) (suc i) v w e = let r = total_set f xs i v w e in omega arith

pub total_same : (f : View → ℕ) (vs : List View) (i : ℕ) (v w : View) → get_elem? vs i ≡ some v → f w ≡ f v → total f (set vs i w) ≡ total f vs
total_same f vs i v w e same = let r = total_set f vs i v w e in omega arith

pub total_le : (f g : View → ℕ) (vs : List View) → ((i : ℕ) (v : View) → get_elem? vs i ≡ some v → f v ≤ g v) → total f vs ≤ total g vs
total_le f g [] h = omega arith
total_le f g (x ∷ xs) h = let a : f x ≤ g x = h 0 x refl in let b = total_le f g xs (λ i v e. h (suc i) v e) in omega arith

pub one_of_total : (f : View → ℕ) (vs : List View) (i : ℕ) (v : View) → get_elem? vs i ≡ some v → f v ≤ total f vs
one_of_total f [] i v e = absurd (some-ne-none v (sym e))
one_of_total f (x ∷ xs) zero v e = let same = ap f (some-injective x v e) in omega arith
one_of_total f (x ∷ xs) (suc i) v e = let r = one_of_total f xs i v e in omega arith

pub total_snoc : (f : View → ℕ) (vs : List View) (w : View) → total f (vs ++ w ∷ []) ≡ total f vs + f w
total_snoc f [] w = omega arith
total_snoc f (x ∷ xs) w = let r = total_snoc f xs w in omega arith

-- histories
pub stands_below : (h : List Entry) (t : ℕ) (e : Entry) → Stands h t e → t < length h
stands_below [] t e s = absurd s
stands_below (x ∷ h) t e s = ⊎_elim (λ a. let b = a.0 in omega arith) (λ a. let b = stands_below h t e a in omega arith) s

pub logged_below : (h : List Entry) (l : List Stamped) → Logged h l → AllBelow (length h) l
logged_below h [] a = tt
logged_below h (s ∷ l) a = (stands_below h s.ticket s.entry a.0, logged_below h l a.2)

pub logged_more : (h : List Entry) (e : Entry) (l : List Stamped) → Logged h l → Logged (e ∷ h) l
logged_more h e [] a = tt
logged_more h e (s ∷ l) a = (inr a.0, a.1, logged_more h e l a.2)

pub below_none : (t : ℕ) (l : List Stamped) → AllBelow t l → NoneAbove t l
below_none t [] a = tt
below_none t (s ∷ l) a = (let b = a.0 in omega arith, below_none t l a.1)

pub logged_new : (h : List Entry) (e : Entry) (t : ℕ) (l : List Stamped) → t ≡ length h → Logged h l → Logged (e ∷ h) ((record { ticket = t; entry = e }) ∷ l)
logged_new h e t l is a = (inl (is, refl), below_none t l (subst (λ n. AllBelow n l) (sym is) (logged_below h l a)), logged_more h e l a)

-- one entry more is served
pub none_served : (p : Terms) → AreServed p.md p.input []
unfolding AreServed
none_served p = tt

pub served_more : (p : Terms) (h : List Entry) (e : Entry) → IsServed p h e → AreServed p.md p.input h → AreServed p.md p.input (e ∷ h)
unfolding AreServed
served_more p h e here before = (here, before)

-- what lies under the locks

-- a word of memory of another stripe is not written
not_written : (p : Terms) (w k : ℕ) (op : Op) (a : Answer) → w < memory_words p.md.size → w % p.stripes ≡ k → lock_of p op ≢ k → write_to w op a ≡ None
not_written p w k (Op.Write d at v) Answer.Unit low own ne = ⊎_elim
    (λ (q : at ≡ w). absurd (ne (ap (lock_at p) q ∙ ap (λ b. if b then w % p.stripes else p.stripes + 1) (lt-ltb w (memory_words p.md.size) low) ∙ own)))
    (λ (q : at ≢ w). ap (λ b. elim b as (λ x. Maybe Written) [ true ↦ Some (record { def = d.0; value = v }) | false ↦ None ]) (ne_eqb at w q))
    (cases_eq at w)
not_written p w k (Op.Write d at v) (Answer.Value x) low own ne = refl
not_written p w k (Op.Write d at v) (Answer.Stop x) low own ne = refl
not_written p w k (Op.Read r at) a low own ne = refl
not_written p w k (Op.Same x y z) a low own ne = refl
not_written p w k (Op.New x y) a low own ne = refl
not_written p w k (Op.Free x) a low own ne = refl
not_written p w k Op.In a low own ne = refl
not_written p w k Op.Left a low own ne = refl
not_written p w k (Op.Out x) a low own ne = refl
not_written p w k (Op.Call x) a low own ne = refl
not_written p w k Op.Ret a low own ne = refl
not_written p w k Op.Turn a low own ne = refl
not_written p w k (Op.Fork x) a low own ne = refl
not_written p w k Op.Zero a low own ne = refl

stripe_apart : (p : Terms) (k : ℕ) (h : List Entry) (e : Entry) (t : Stripe) → k < p.stripes → t.stripe ≡ k → t.stripes ≡ p.stripes → lock_of p e.op ≢ k → HoldsStripe p.md h t → HoldsStripe p.md (e ∷ h) t
stripe_apart p k h e t lt own count ne old =
    stays_by (λ j. j * t.stripes + t.stripe) p.md e h t.values t.classes
    (λ j low. not_written p (j * t.stripes + t.stripe) k e.op e.answer (old.within j low)
    (ap (λ n. (j * n + t.stripe) % p.stripes) count ∙ ap (λ r. (j * p.stripes + r) % p.stripes) own ∙ mod-mul-add j p.stripes k lt) ne) old

-- only events of the desk's lock change the desk
not_desk : (p : Terms) (op : Op) → lock_of p op ≢ p.stripes → changes_desk op ≡ false
not_desk p (Op.New x y) ne = absurd (ne refl)
not_desk p (Op.Free x) ne = absurd (ne refl)
not_desk p Op.In ne = absurd (ne refl)
not_desk p Op.Left ne = absurd (ne refl)
not_desk p (Op.Write d at v) ne = refl
not_desk p (Op.Read r at) ne = refl
not_desk p (Op.Same x y z) ne = refl
not_desk p (Op.Out x) ne = refl
not_desk p (Op.Call x) ne = refl
not_desk p Op.Ret ne = refl
not_desk p Op.Turn ne = refl
not_desk p (Op.Fork x) ne = refl
not_desk p Op.Zero ne = refl

pub holds_apart : (p : Terms) (k : ℕ) (h : List Entry) (e : Entry) (y : Content) → lock_of p e.op ≢ k → Holds p k h y → Holds p k (e ∷ h) y
holds_apart p k h e (Content.Words t) ne a = (a.0, a.1, a.2, stripe_apart p k h e t a.0 a.1 a.2 ne a.3)
holds_apart p k h e (Content.Desk d) ne a = (a.0, others_leave_desk p.md p.input h d e a.1 (not_desk p e.op (λ q. ne (q ∙ sym a.0))))
