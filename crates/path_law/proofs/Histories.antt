-- What one entry more does to lives: who begins, whose entry it is, and who has ended.
use Rattle.std.proofs.Common.{◌≡◌, ℕ, ◌+◌, ◌*◌, ◌/◌, ◌%◌, ◌≤◌, ◌<◌, List, [], ◌∷◌, Bool, true, false, refl, arith, sym, ◌∙◌, ap, subst}
use Rattle.std.specs.Prelude.{nat_eq, nat_lt, nat_le, ◌&&◌}
use Rattle.std.proofs.lemmas.Bool.{eqb-true, eq-eqb, ne_eqb, ltb-true, leb-true, lt-ltb, le-leb}
use Rattle.dfi_base.specs.Lives.{BeginsIn, is_start_of, own, Begins, branches_after, Ended}
use Rattle.dfi_base.specs.Lives.EndedIn.{ended}
use Rattle.tac_ir.specs.declared.run.Entry.{Entry}
use Rattle.tac_ir.specs.Module.{Module}
use Rattle.tac_ir.specs.Path.{Start}
use Rattle.tac_ir.specs.Threads.{IsForked, IsAtEnd, forked_by, threads_of}
use Rattle.path_law.specs.InPlace.{started}

abbrev pub Starts : Module → ℕ → Entry → Bool
Starts m n e = is_start_of (threads_of m) n e

-- who is started
pub record IsStarted (n : ℕ) (e : Entry) : Type 0 where
  pub parent : e.name.0 ≡ n / 16
  pub from : 0 < n % 16
  pub to : n % 16 ≤ forked_by e.op e.answer

first_of : (a b : Bool) → (a && b) ≡ true → a ≡ true
first_of true b h = refl
first_of false b h = h

second_of : (a b : Bool) → (a && b) ≡ true → b ≡ true
second_of true b h = h
second_of false b h = cc

pub started_is : (m : Module) (n : ℕ) (e : Entry) → Starts m n e ≡ true → IsStarted n e
started_is m n e h =
    let rest = second_of (nat_eq e.name.0 (n / 16)) _ h in
    record {
      parent = eqb-true e.name.0 (n / 16) (first_of (nat_eq e.name.0 (n / 16)) _ h);
      from = ltb-true 0 (n % 16) (first_of (nat_lt 0 (n % 16)) _ rest);
      to = leb-true (n % 16) (forked_by e.op e.answer) (second_of (nat_lt 0 (n % 16)) _ rest);
    }

pub not_started : (m : Module) (n : ℕ) (e : Entry) → (IsStarted n e → ⊥) → Starts m n e ≡ false
not_started m n e none = by (Starts m n e) refl
  where
    by : (b : Bool) → Starts m n e ≡ b → b ≡ false
    by true is = absurd (none (started_is m n e is))
    by false is = refl

pub is_started : (m : Module) (n : ℕ) (e : Entry) → IsStarted n e → Starts m n e ≡ true
is_started m n e h =
    ap (λ b. b && (nat_lt 0 (n % 16) && nat_le (n % 16) (forked_by e.op e.answer))) (eq-eqb e.name.0 (n / 16) h.parent)
    ∙ ap (λ b. b && nat_le (n % 16) (forked_by e.op e.answer)) (lt-ltb 0 (n % 16) h.from) ∙ le-leb (n % 16) (forked_by e.op e.answer) h.to

-- nobody starts itself
pub not_itself : (m : Module) (n : ℕ) (e : Entry) → e.name.0 ≡ n → Starts m n e ≡ false
not_itself m n e name = not_started m n e (λ s. omega (arith, name, s.parent, s.from))

-- Entries of one's own.

abbrev own_by : Entry → List Entry → Bool → Bool → List Entry
own_by e rest start mine = elim start [ true ↦ [] | false ↦ elim mine [ true ↦ e ∷ rest | false ↦ rest ] ]

pub own_started : (m : Module) (e : Entry) (h : List Entry) (n : ℕ) → Starts m n e ≡ true → own (threads_of m) n (e ∷ h) ≡ []
unfolding own
own_started m e h n s = ap (λ b. own_by e (own (threads_of m) n h) b (nat_eq e.name.0 n)) s

pub own_mine : (m : Module) (e : Entry) (h : List Entry) (n : ℕ) → e.name.0 ≡ n → own (threads_of m) n (e ∷ h) ≡ e ∷ own (threads_of m) n h
unfolding own
own_mine m e h n name =
    ap (λ b. own_by e (own (threads_of m) n h) b (nat_eq e.name.0 n)) (not_itself m n e name) ∙ ap (λ b. own_by e (own (threads_of m) n h) false b) (eq-eqb e.name.0 n name)

pub own_other : (m : Module) (e : Entry) (h : List Entry) (n : ℕ) → Starts m n e ≡ false → (e.name.0 ≡ n → ⊥) → own (threads_of m) n (e ∷ h) ≡ own (threads_of m) n h
unfolding own
own_other m e h n s name =
    ap (λ b. own_by e (own (threads_of m) n h) b (nat_eq e.name.0 n)) s ∙ ap (λ b. own_by e (own (threads_of m) n h) false b) (ne_eqb e.name.0 n name)

-- Beginnings.

abbrev begins_by : Module → List Entry → ℕ → Start → Bool → Type 0
begins_by m h n s start = elim start [
  | false ↦ Begins (threads_of m) h n s
  | true ↦ (parent : Start) × Begins (threads_of m) h (n / 16) parent × IsForked m.code parent (own (threads_of m) (n / 16) h) (n % 16) s
]

pub begins_same : (m : Module) (e : Entry) (h : List Entry) (n : ℕ) (s : Start) → Starts m n e ≡ false → Begins (threads_of m) h n s → Begins (threads_of m) (e ∷ h) n s
unfolding BeginsIn
begins_same m e h n s none b = subst (begins_by m h n s) (sym none) b

pub begun_same : (m : Module) (e : Entry) (h : List Entry) (n : ℕ) (s : Start) → Starts m n e ≡ false → Begins (threads_of m) (e ∷ h) n s → Begins (threads_of m) h n s
unfolding BeginsIn
begun_same m e h n s none b = subst (begins_by m h n s) none b

pub begins_branch : (m : Module) (e : Entry) (h : List Entry) (n : ℕ) (s parent : Start) → Starts m n e ≡ true → Begins (threads_of m) h (n / 16) parent
    → IsForked m.code parent (own (threads_of m) (n / 16) h) (n % 16) s → Begins (threads_of m) (e ∷ h) n s
unfolding BeginsIn
begins_branch m e h n s parent start b forked = subst (begins_by m h n s) (sym start) (parent, b, forked)

-- Ends.

-- who has ended stays so, where the entry is that of a thread that has not, and does not start it anew
pub ended_same : (m : Module) (e : Entry) (h : List Entry) → (Ended (threads_of m) h e.name.0 → ⊥) → ((k : ℕ) → started m h k ≤ 15) → (n : ℕ) → Starts m n e ≡ false
    → Ended (threads_of m) h n → Ended (threads_of m) (e ∷ h) n
ended_same m e h lives few n none (ended k s begins stops joined) =
    let other : e.name.0 ≡ n → ⊥ = λ q. lives (subst (Ended (threads_of m) h) (sym q) (ended n s begins stops joined)) in
    let same = own_other m e h n none other in
    ended n s (begins_same m e h n s none begins) (subst (IsAtEnd m.code s) (sym same) stops)
    (λ i low high.
    (let within : i ≤ started m h n = omega (arith, high, ap (λ o. branches_after (threads_of m) o) same) in
    ended_same m e h lives few (16 * n + i) (not_started m (16 * n + i) e (λ q. other (omega (arith, q.parent, within, few n)))) (joined i low within)))
