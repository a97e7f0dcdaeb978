-- What one entry more does to lives: who begins, whose entry it is, and who has ended.
use Rattle.dfi_base.specs.Lives.{BeginsIn, is_start_of, own, Begins, branches_after, Ended}
use Rattle.dfi_base.specs.Lives.EndedIn.{ended}
use Rattle.tac_ir.specs.declared.code.Code.{Code}
use Rattle.obj_run.specs.Entries.{Entry}
use Rattle.obj_run.specs.Runs.{ObjLife}
use Rattle.obj_threads.specs.Threads.{starts_of, IsBranch, HasStopped, obj_threads}
use Rattle.obj_threads.specs.InPlace.{started}
use Rattle.std.proofs.Common.{◌≡◌, ℕ, ◌+◌, ◌*◌, ◌/◌, ◌%◌, ◌≤◌, ◌<◌, List, [], ◌∷◌, Bool, true, false, refl, arith, sym, ◌∙◌, ap, subst}
use Rattle.std.specs.Prelude.{nat_eq, nat_lt, nat_le, ◌&&◌}
use Rattle.std.proofs.lemmas.Bool.{eqb-true, eq-eqb, ne_eqb, ltb-true, leb-true, lt-ltb, le-leb}

abbrev pub Starts : Code → ℕ → Entry → Bool
Starts c n e = is_start_of (obj_threads c) n e

-- who is started
pub record IsStarted (n : ℕ) (e : Entry) : Type 0 where
  pub parent : e.stamp.name.0 ≡ n / 16
  pub from : 0 < n % 16
  pub to : n % 16 ≤ starts_of e

first_of : (a b : Bool) → (a && b) ≡ true → a ≡ true
first_of true b h = refl
first_of false b h = h

second_of : (a b : Bool) → (a && b) ≡ true → b ≡ true
second_of true b h = h
second_of false b h = cc

pub started_is : (c : Code) (n : ℕ) (e : Entry) → Starts c n e ≡ true → IsStarted n e
started_is c n e h =
    let rest = second_of (nat_eq e.stamp.name.0 (n / 16)) _ h in
    record {
      parent = eqb-true e.stamp.name.0 (n / 16) (first_of (nat_eq e.stamp.name.0 (n / 16)) _ h);
      from = ltb-true 0 (n % 16) (first_of (nat_lt 0 (n % 16)) _ rest);
      to = leb-true (n % 16) (starts_of e) (second_of (nat_lt 0 (n % 16)) _ rest);
    }

pub not_started : (c : Code) (n : ℕ) (e : Entry) → (IsStarted n e → ⊥) → Starts c n e ≡ false
not_started c n e none = by (Starts c n e) refl
  where
    by : (b : Bool) → Starts c n e ≡ b → b ≡ false
    by true is = absurd (none (started_is c n e is))
    by false is = refl

pub is_started : (c : Code) (n : ℕ) (e : Entry) → IsStarted n e → Starts c n e ≡ true
is_started c n e h =
    ap (λ b. b && (nat_lt 0 (n % 16) && nat_le (n % 16) (starts_of e))) (eq-eqb e.stamp.name.0 (n / 16) h.parent)
    ∙ ap (λ b. b && nat_le (n % 16) (starts_of e)) (lt-ltb 0 (n % 16) h.from) ∙ le-leb (n % 16) (starts_of e) h.to

-- nobody starts itself
pub not_itself : (c : Code) (n : ℕ) (e : Entry) → e.stamp.name.0 ≡ n → Starts c n e ≡ false
not_itself c n e name = not_started c n e (λ s. omega (arith, name, s.parent, s.from))

-- Entries of one's own.

abbrev own_by : Entry → List Entry → Bool → Bool → List Entry
own_by e rest start mine = elim start [ true ↦ [] | false ↦ elim mine [ true ↦ e ∷ rest | false ↦ rest ] ]

pub own_started : (c : Code) (e : Entry) (h : List Entry) (n : ℕ) → Starts c n e ≡ true → own (obj_threads c) n (e ∷ h) ≡ []
unfolding own
own_started c e h n s = ap (λ b. own_by e (own (obj_threads c) n h) b (nat_eq e.stamp.name.0 n)) s

pub own_mine : (c : Code) (e : Entry) (h : List Entry) (n : ℕ) → e.stamp.name.0 ≡ n → own (obj_threads c) n (e ∷ h) ≡ e ∷ own (obj_threads c) n h
unfolding own
own_mine c e h n name =
    ap (λ b. own_by e (own (obj_threads c) n h) b (nat_eq e.stamp.name.0 n)) (not_itself c n e name) ∙ ap (λ b. own_by e (own (obj_threads c) n h) false b) (eq-eqb e.stamp.name.0 n name)

pub own_other : (c : Code) (e : Entry) (h : List Entry) (n : ℕ) → Starts c n e ≡ false → (e.stamp.name.0 ≡ n → ⊥) → own (obj_threads c) n (e ∷ h) ≡ own (obj_threads c) n h
unfolding own
own_other c e h n s name =
    ap (λ b. own_by e (own (obj_threads c) n h) b (nat_eq e.stamp.name.0 n)) s ∙ ap (λ b. own_by e (own (obj_threads c) n h) false b) (ne_eqb e.stamp.name.0 n name)

-- Beginnings.

abbrev begins_by : Code → List Entry → ℕ → ObjLife → Bool → Type 0
begins_by c h n s start = elim start [
  | false ↦ Begins (obj_threads c) h n s
  | true ↦ (parent : ObjLife) × Begins (obj_threads c) h (n / 16) parent × IsBranch c parent (own (obj_threads c) (n / 16) h) (n % 16) s
]

pub begins_same : (c : Code) (e : Entry) (h : List Entry) (n : ℕ) (s : ObjLife) → Starts c n e ≡ false → Begins (obj_threads c) h n s → Begins (obj_threads c) (e ∷ h) n s
unfolding BeginsIn
begins_same c e h n s none b = subst (begins_by c h n s) (sym none) b

pub begun_same : (c : Code) (e : Entry) (h : List Entry) (n : ℕ) (s : ObjLife) → Starts c n e ≡ false → Begins (obj_threads c) (e ∷ h) n s → Begins (obj_threads c) h n s
unfolding BeginsIn
begun_same c e h n s none b = subst (begins_by c h n s) none b

pub begins_branch : (c : Code) (e : Entry) (h : List Entry) (n : ℕ) (s parent : ObjLife) → Starts c n e ≡ true → Begins (obj_threads c) h (n / 16) parent
    → IsBranch c parent (own (obj_threads c) (n / 16) h) (n % 16) s → Begins (obj_threads c) (e ∷ h) n s
unfolding BeginsIn
begins_branch c e h n s parent start b forked = subst (begins_by c h n s) (sym start) (parent, b, forked)

-- Ends.

-- who has ended stays so, where the entry is that of a thread that has not, and does not start it anew
pub ended_same : (c : Code) (e : Entry) (h : List Entry) → (Ended (obj_threads c) h e.stamp.name.0 → ⊥) → ((k : ℕ) → started c h k ≤ 15) → (n : ℕ) → Starts c n e ≡ false
    → Ended (obj_threads c) h n → Ended (obj_threads c) (e ∷ h) n
ended_same c e h lives few n none (ended k s begins stops joined) =
    let other : e.stamp.name.0 ≡ n → ⊥ = λ q. lives (subst (Ended (obj_threads c) h) (sym q) (ended n s begins stops joined)) in
    let same = own_other c e h n none other in
    ended n s (begins_same c e h n s none begins) (subst (HasStopped c s) (sym same) stops)
    (λ i low high.
    (let within : i ≤ started c h n = omega (arith, high, ap (λ o. branches_after (obj_threads c) o) same) in
    ended_same c e h lives few (16 * n + i) (not_started c (16 * n + i) e (λ q. other (omega (arith, q.parent, within, few n)))) (joined i low within)))

-- nobody is named 0
pub never_zero : (c : Code) (h : List Entry) (s : ObjLife) → Begins (obj_threads c) h 0 s → ⊥
unfolding BeginsIn
never_zero c [] s b = (let e = b.0 in omega (arith, e))
never_zero c (e ∷ h) s b = never_zero c h s (begun_same c e h 0 s (not_started c 0 e (λ x. (let low = x.from in omega (arith, low)))) b)
