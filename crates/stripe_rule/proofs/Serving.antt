-- What lies under a lock answers as the run does. (Exported.)
use Rattle.std.proofs.Common.{◌≡◌, ℕ, ◌+◌, ◌*◌, ◌/◌, ◌%◌, ◌<◌, List, ◌∷◌, Ok, Err, true, false, true≢false, refl, sym, ap, ◌∙◌, subst, arith}
use Rattle.std.specs.Prelude.{Bool, ◌&&◌, slice_set, ℤ, pos, negsuc, nat_lt, if◌then◌else◌, length}
use Rattle.std.proofs.lemmas.Bool.{le-ltb, lt-ltb, le-leb}
use Rattle.tac_ir.specs.declared.run.Op.{Op}
use Rattle.tac_ir.specs.declared.run.Stop.{Stop}
use Rattle.tac_ir.specs.declared.run.Answer.{Answer}
use Rattle.tac_ir.specs.declared.run.Entry.{Entry}
use Rattle.tac_ir.specs.Words.{word_of}
use Rattle.tac_ir.specs.Layout.{memory_words}
use Rattle.tac_ir.specs.Desk.{item_words}
use Rattle.tac_ir.specs.Last.{write_to}
use Rattle.tac_ir.specs.Answers.{IsAnswer, class_of, read_answer, write_answer}
use Rattle.tac_ir.specs.Served.{is_served}
use Rattle.heap_desk.specs.declared.fault.TakeFault.{TakeFault}
use Rattle.heap_desk.specs.Desk.{Desk}
use Rattle.heap_desk.specs.Laws.{FollowsRun}
use Rattle.heap_desk.specs.Replies.{AnswersTake, after_take, can_give, after_give, first_of, after_next}
use Rattle.heap_desk.proofs.Beside.{take_answers_new, no_room_stops_new, give_answers_free, next_answers_in, left_answers_left}
use Rattle.word_table.specs.Stripes.{Stripe, HoldsStripe, IsIn, with_word}
use Rattle.word_table.proofs.Striped.{stays_by, write_by}
use Rattle.stripe_rule.specs.declared.plan.Terms.{Terms}
use Rattle.stripe_rule.specs.declared.content.Content.{Content}
use Rattle.stripe_rule.specs.declared.view.View.{View}
use Rattle.stripe_rule.specs.Locks.{lock_of, lock_at}
use Rattle.stripe_rule.specs.Holds.{Holds, IsServed}
use Rattle.stripe_rule.specs.Steps.{Serves}
use Rattle.stripe_rule.specs.Serving.{IsReady, IsTick}
use Rattle.stripe_rule.proofs.Sums.{holds_apart}

-- The desk.

followed : (p : Terms) (op : Op) (h : List Entry) (e : Entry) (after : Desk) → FollowsRun p.md p.input h e after → lock_of p op ≡ p.stripes
    → IsServed p h e × Holds p (lock_of p op) (e ∷ h) (Content.Desk after)
followed p op h e after f lock = ((λ _. f.0), (lock, f.1))

pub takes_block : (p : Terms) (site words at : ℕ) (count : ℤ) (d d' : Desk) → words ≡ item_words p.md.code site → AnswersTake d count words (Ok at)
    → d' ≡ after_take d count words (Ok at) → IsReady p (Op.New site count) (Answer.Value at) (Content.Desk d) (Content.Desk d')
takes_block p site words at count d d' size said after h e stands op answer =
    let f = take_answers_new p.md p.input h d e site count at stands.1 (subst (λ n. AnswersTake d count n (Ok at)) size said) op answer in
    followed p (Op.New site count) h e d' (subst (FollowsRun p.md p.input h e) (sym (after ∙ ap (λ n. after_take d count n (Ok at)) size)) f) refl

pub no_block : (p : Terms) (site words : ℕ) (count : ℤ) (d d' : Desk) → words ≡ item_words p.md.code site → AnswersTake d count words (Err TakeFault.NoRoom)
    → d' ≡ d → IsReady p (Op.New site count) (Answer.Stop Stop.Heap) (Content.Desk d) (Content.Desk d')
no_block p site words count d d' size said after h e stands op answer =
    let f = no_room_stops_new p.md p.input h d e site count stands.1 (subst (λ n. AnswersTake d count n (Err TakeFault.NoRoom)) size said) op answer in
    followed p (Op.New site count) h e d' (subst (FollowsRun p.md p.input h e) (sym after) f) refl

pub after_none : (d : Desk) (count : ℤ) (words : ℕ) → after_take d count words (Err TakeFault.NoRoom) ≡ d
after_none d (pos n) words = refl
after_none d (negsuc n) words = refl

pub frees : (p : Terms) (w : ℕ) (d : Desk) → IsReady p (Op.Free w) (if can_give d w then Answer.Unit else Answer.Stop Stop.Free) (Content.Desk d) (Content.Desk d)
frees p w d h e stands op answer = followed p (Op.Free w) h e (after_give d w) (give_answers_free p.md p.input h d e w stands.1 op answer) refl

pub comes : (p : Terms) (d : Desk) → IsReady p Op.In (Answer.Value (word_of (first_of d.rest))) (Content.Desk d) (Content.Desk d)
comes p d h e stands op answer = followed p Op.In h e (after_next d) (next_answers_in p.md p.input h d e stands.1 op answer) refl

pub remain : (p : Terms) (d : Desk) → IsReady p Op.Left (Answer.Value (length d.rest)) (Content.Desk d) (Content.Desk d)
remain p d h e stands op answer = followed p Op.Left h e d (left_answers_left p.md p.input h d e stands.1 op answer) refl

-- The words.

-- the lock of a word of memory
pub lock_in : (p : Terms) (w : ℕ) → w < memory_words p.md.size → lock_at p w ≡ w % p.stripes
lock_in p w low = ap (λ b. if b then w % p.stripes else p.stripes + 1) (lt-ltb w (memory_words p.md.size) low)

-- a word whose lock is that of a stripe is one of the stripe's
pub is_in : (p : Terms) (w : ℕ) (t : Stripe) (h : List Entry) → w < memory_words p.md.size → Holds p (lock_at p w) h (Content.Words t) → IsIn t w
is_in p w t h low holds = ap (λ n. w % n) holds.2 ∙ sym (lock_in p w low) ∙ sym holds.1

pub reads_word : (p : Terms) (r w : ℕ) (a : Answer) (t : Stripe) → ((h : List Entry) → HoldsStripe p.md h t → a ≡ read_answer p.md h r w)
    → IsReady p (Op.Read (record { 0 = r }) w) a (Content.Words t) (Content.Words t)
reads_word p r w a t said h e holds op answer =
    let same : e.answer ≡ read_answer p.md h r w = answer ∙ said h holds.3 in (
      (λ _ n room. subst (λ o. IsAnswer p.md p.input h n room o e.answer) (sym op) same),
      (holds.0, holds.1, holds.2, stays_by (λ j. j * t.stripes + t.stripe) p.md e h t.values t.classes (λ j low. ap (λ o. write_to (j * t.stripes + t.stripe) o e.answer) op) holds.3),
    )

-- a write leaves which stripe it is
abbrev chosen : Bool → Stripe → Stripe → Stripe
chosen b x y = if b then x else y

one_of : (b : Bool) (x y : Stripe) → x.stripe ≡ y.stripe → x.stripes ≡ y.stripes → ((chosen b x y).stripe ≡ y.stripe) × ((chosen b x y).stripes ≡ y.stripes)
one_of true x y own count = (own, count)
one_of false x y own count = (refl, refl)

same_place : (t : Stripe) (class k v : ℕ) → ((with_word t class k v).stripe ≡ t.stripe) × ((with_word t class k v).stripes ≡ t.stripes)
same_place t class k v = one_of (nat_lt k (length t.values) && nat_lt k (length t.classes))
    (record { stripe = t.stripe; stripes = t.stripes; values = slice_set t.values k v; classes = slice_set t.classes k class }) t refl refl

pub writes_word : (p : Terms) (d w v : ℕ) (a : Answer) (t : Stripe) → t.stripe < t.stripes → IsIn t w → ((h : List Entry) → HoldsStripe p.md h t → a ≡ write_answer p.md w)
    → IsReady p (Op.Write (record { 0 = d }) w v) a (Content.Words t) (Content.Words t)
writes_word p d w v a t own mine said h e holds op answer =
    let same : e.answer ≡ write_answer p.md w = answer ∙ said h holds.3 in
    let kept = same_place t (class_of p.md d) (w / t.stripes) v in (
      (λ _ n room. subst (λ o. IsAnswer p.md p.input h n room o e.answer) (sym op) same),
      (holds.0, kept.0 ∙ holds.1, kept.1 ∙ holds.2, write_by t p.md e h d w v own mine holds.3 op same),
    )

-- Events that need no lock.

-- a lock is one of them
pub is_lock : (p : Terms) (k : ℕ) (h : List Entry) (y : Content) → Holds p k h y → k < p.stripes + 1
is_lock p k h (Content.Words t) a = let b = a.0 in omega (arith, b)
is_lock p k h (Content.Desk d) a = let b = a.0 in omega (arith, b)

pub no_lock : (p : Terms) (op : Op) (a : Answer) → IsTick p op a → lock_of p op ≡ p.stripes + 1
no_lock p (Op.Read r w) a t = ap (λ b. if b then w % p.stripes else p.stripes + 1) (le-ltb w (memory_words p.md.size) t.0)
no_lock p (Op.Write d w v) a t = ap (λ b. if b then w % p.stripes else p.stripes + 1) (le-ltb w (memory_words p.md.size) t.0)
no_lock p (Op.New x y) a t = absurd t
no_lock p (Op.Free x) a t = absurd t
no_lock p Op.In a t = absurd t
no_lock p Op.Left a t = absurd t
no_lock p (Op.Same x y z) a t = refl
no_lock p (Op.Out x) a t = refl
no_lock p (Op.Call x) a t = refl
no_lock p Op.Ret a t = refl
no_lock p Op.Turn a t = refl
no_lock p (Op.Fork x) a t = refl
no_lock p Op.Zero a t = refl

tick_served : (p : Terms) (h : List Entry) (op : Op) (a : Answer) → IsTick p op a → is_served op ≡ true → (n room : ℕ) → IsAnswer p.md p.input h n room op a
tick_served p h (Op.Read r w) a t on n room = rw (le-leb (memory_words p.md.size) w t.0) t.1
tick_served p h (Op.Write d w v) a t on n room = rw (le-leb (memory_words p.md.size) w t.0) t.1
tick_served p h (Op.New x y) a t on n room = absurd t
tick_served p h (Op.Free x) a t on n room = absurd t
tick_served p h Op.In a t on n room = absurd t
tick_served p h Op.Left a t on n room = absurd t
tick_served p h (Op.Same x y z) a t on n room = absurd (true≢false (sym on))
tick_served p h (Op.Out x) a t on n room = absurd (true≢false (sym on))
tick_served p h (Op.Call x) a t on n room = absurd (true≢false (sym on))
tick_served p h Op.Ret a t on n room = absurd (true≢false (sym on))
tick_served p h Op.Turn a t on n room = absurd (true≢false (sym on))
tick_served p h (Op.Fork x) a t on n room = absurd (true≢false (sym on))
tick_served p h Op.Zero a t on n room = absurd (true≢false (sym on))

-- such an event leaves what a view holds
pub tick_serves : (p : Terms) (v : View) (e : Entry) → IsTick p e.op e.answer → Serves p v e v.content
tick_serves p v e t h held = (
  (λ on. tick_served p h e.op e.answer t on),
  λ on. (let low = is_lock p v.stripe h v.content (held on) in
      let n = no_lock p e.op e.answer t in
      holds_apart p v.stripe h e v.content (λ q. omega (arith, low, n, q)) (held on)),
)
