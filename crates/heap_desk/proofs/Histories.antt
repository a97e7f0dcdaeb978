-- The live blocks of a run lie in the heap and apart, and what was given back can be taken again.
use Rattle.std.proofs.Common.{◌≡◌, ℕ, ◌<◌, ◌≤◌, Bool, true, false, nat_eq, nat_lt, ◌||◌, List, [], ◌∷◌, ◌++◌, refl, sym, ap, subst, ◌∙◌, arith, ◌⊎◌, inl, inr, ℤ, pos, negsuc, if◌then◌else◌}
use Rattle.std.specs.List.{All, Contains}
use Rattle.std.proofs.lemmas.List.Elements.{All-nil, All-cons, All-head, All-tail, All-weaker, All-contains, All-contains_itself}
use Rattle.std.proofs.lemmas.Bool.Decides.{nat_tests}
use Rattle.tac_ir.specs.declared.code.Code.{Code}
use Rattle.tac_ir.specs.declared.run.Op.{Op}
use Rattle.tac_ir.specs.declared.run.Stop.{Stop}
use Rattle.tac_ir.specs.declared.run.Answer.{Answer}
use Rattle.tac_ir.specs.declared.run.Entry.{Entry}
use Rattle.tac_ir.specs.Module.{Module}
use Rattle.tac_ir.specs.Layout.{heap_from, stack_from}
use Rattle.tac_ir.specs.Desk.{Block, IsApart, IsFree, begins_block, without, room_for, blocks_after, live_blocks}
use Rattle.tac_ir.specs.Answers.{IsAnswer, free_answer}
use Rattle.tac_ir.specs.Served.{is_served, AreServed}
use Rattle.heap_desk.specs.Heap.{AreApart, LiesBetween, AreInHeap, IsFreeWithout}
use Rattle.heap_desk.specs.Desk.{Desk, with_block, room_for_items}
use Rattle.heap_desk.specs.Laws.{BlocksStayApart, GivenBackIsFree, GivenBackIsTaken, GiveUndoesTake, changes_heap}
use Rattle.heap_desk.proofs.Same.{all_without, begins_at, contains_cases}
use Rattle.heap_desk.proofs.Order.{without_none}

-- One step.

apart_without : (w : ℕ) (blocks : List Block) → AreApart blocks → AreApart (without w blocks)
apart_without w [] a = tt
apart_without w (b ∷ blocks) a = go (nat_eq b.at w)
    (all_without (IsApart b) w blocks a.0) (apart_without w blocks a.1)
  where
    go : (here : Bool) → All (IsApart b) (without w blocks) → AreApart (without w blocks)
        → AreApart (elim here [ true ↦ without w blocks | false ↦ b ∷ without w blocks ])
    go true first rest = rest
    go false first rest = (first, rest)

heap_without : (from limit w : ℕ) (blocks : List Block) → AreInHeap from limit blocks → AreInHeap from limit (without w blocks)
heap_without from limit w blocks heap =
    record {
      inside = all_without (LiesBetween from limit) w blocks heap.inside;
      some = all_without (λ (b : Block). 0 < b.words) w blocks heap.some;
      apart = apart_without w blocks heap.apart;
    }

heap_with : (from limit words at : ℕ) (blocks : List Block) → 0 < words → IsFree blocks from limit words at → AreInHeap from limit blocks
    → AreInHeap from limit (record { at = at; words = words } ∷ blocks)
heap_with from limit words at blocks some free heap =
    let new : Block = record { at = at; words = words } in
    record {
      inside = All-cons (LiesBetween from limit) new blocks (free.low, free.high) heap.inside;
      some = All-cons (λ (b : Block). 0 < b.words) new blocks some heap.some;
      apart = (free.apart, heap.apart);
    }

heap_after : (m : Module) (input : List ℤ) (h : List Entry) (op : Op) (answer : Answer)
    → (is_served op ≡ true → (n room : ℕ) → IsAnswer m input h n room op answer)
    → AreInHeap heap_from (stack_from m.size) (live_blocks m.code h)
    → AreInHeap heap_from (stack_from m.size) (blocks_after m.code op answer (live_blocks m.code h))
heap_after m input h (Op.New site (pos count)) (Answer.Value w) fit heap =
    heap_with heap_from (stack_from m.size) (room_for m.code site count) w (live_blocks m.code h) (omega arith) (fit refl 0 0).free heap
heap_after m input h (Op.New site (negsuc k)) (Answer.Value w) fit heap = let no_room = fit refl 0 0 in absurd (cc)
heap_after m input h (Op.Free w) Answer.Unit fit heap = heap_without heap_from (stack_from m.size) w (live_blocks m.code h) heap
heap_after m input h op answer fit heap = heap

-- Any history.

pub stays_heap : BlocksStayApart
unfolding AreServed live_blocks
stays_heap m input [] answered =
    record { inside = All-nil (LiesBetween heap_from (stack_from m.size)); some = All-nil (λ (b : Block). 0 < b.words); apart = tt }
stays_heap m input (e ∷ h) answered = heap_after m input h e.op e.answer answered.0 (stays_heap m input h answered.1)

turned : (a b : Block) → IsApart a b → IsApart b a
turned a b apart = elim apart [ inl before ↦ inr before | inr behind ↦ inl behind ]

-- a block is apart from those that are left without it
apart_from : (b : Block) (blocks : List Block) → AreApart blocks → Contains blocks b → All (IsApart b) (without b.at blocks)
apart_from b [] a h = All-nil (IsApart b)
apart_from b (c ∷ blocks) a h = go (nat_eq c.at b.at) refl (contains_cases c blocks b h) (λ there. apart_from b blocks a.1 there)
  where
    go : (here : Bool) → nat_eq c.at b.at ≡ here → (c ≡ b) ⊎ Contains blocks b → (Contains blocks b → All (IsApart b) (without b.at blocks))
        → All (IsApart b) (elim here [ true ↦ without b.at blocks | false ↦ c ∷ without b.at blocks ])
    go true e (inl same) rest = let P : Block → Type 0 = λ x. All (IsApart x) blocks in all_without (IsApart b) b.at blocks (subst P same a.0)
    go true e (inr there) rest = rest there
    go false e (inl same) rest = absurd (let at : c.at ≡ b.at = ap (λ (x : Block). x.at) same in grind (arith, nat_tests))
    go false e (inr there) rest = All-cons (IsApart b) c (without b.at blocks) (turned c b (All-contains (IsApart c) blocks b a.0 there)) (rest there)

pub free_without : (from limit : ℕ) (blocks : List Block) (b : Block) → AreInHeap from limit blocks → Contains blocks b → IsFreeWithout from limit blocks b
free_without from limit blocks b heap there =
    let lies = All-contains (LiesBetween from limit) blocks b heap.inside there in
    record { low = lies.0; high = lies.1; apart = apart_from b blocks heap.apart there }

pub all_free_without : (from limit : ℕ) (blocks : List Block) → AreInHeap from limit blocks → All (IsFreeWithout from limit blocks) blocks
all_free_without from limit blocks heap =
    All-weaker (Contains blocks) (IsFreeWithout from limit blocks) (λ b there. free_without from limit blocks b heap there) blocks (All-contains_itself blocks)

pub free_again : GivenBackIsFree
free_again m input h b answered there = free_without heap_from (stack_from m.size) (live_blocks m.code h) b (stays_heap m input h answered) there

-- no live block begins where words are free
pub none_there : (from limit words at : ℕ) (blocks : List Block) → 0 < words → IsFree blocks from limit words at → All (λ (b : Block). 0 < b.words) blocks
    → begins_block at blocks ≡ false
none_there from limit words at [] some free all = refl
none_there from limit words at (b ∷ blocks) some free all =
    let new : Block = record { at = at; words = words } in
    let has : 0 < b.words = All-head (λ (c : Block). 0 < c.words) b blocks all in
    let differ : b.at ≡ at → ⊥ = (λ same. elim (All-head (IsApart new) b blocks free.apart) [ inl before ↦ omega arith | inr behind ↦ omega arith ]) in
    let other : nat_eq b.at at ≡ false = grind (arith, nat_tests, differ) in
    let rest : IsFree blocks from limit words at = record { low = free.low; high = free.high; apart = All-tail (IsApart new) b blocks free.apart } in
    rw (other, begins_block) (none_there from limit words at blocks some rest (All-tail (λ (c : Block). 0 < c.words) b blocks all))

-- the live blocks with one more entry
pub live_with : (c : Code) (h : List Entry) (e : Entry) (op : Op) (answer : Answer) → e.op ≡ op → e.answer ≡ answer
    → live_blocks c (e ∷ h) ≡ blocks_after c op answer (live_blocks c h)
unfolding live_blocks
live_with c h e op answer o a =
    ap (λ p. blocks_after c p e.answer (live_blocks c h)) o ∙ ap (λ x. blocks_after c op x (live_blocks c h)) a

-- what is known of an entry's answer, where its op is known and a memory answers it
known : (m : Module) (input : List ℤ) (h : List Entry) (e : Entry) (op : Op) → (is_served e.op ≡ true → (n room : ℕ) → IsAnswer m input h n room e.op e.answer)
    → e.op ≡ op → is_served op ≡ true → IsAnswer m input h 0 0 op e.answer
known m input h e op fit o served = let P : Op → Type 0 = λ p. IsAnswer m input h 0 0 p e.answer in subst P o (fit (ap is_served o ∙ served) 0 0)

-- giving back a live block leaves the others
live_without : (m : Module) (input : List ℤ) (h : List Entry) (f : Entry) (b : Block) → AreServed m input (f ∷ h)
    → Contains (live_blocks m.code h) b → f.op ≡ Op.Free b.at → live_blocks m.code (f ∷ h) ≡ without b.at (live_blocks m.code h)
unfolding AreServed
live_without m input h f b answered there back =
    let given : f.answer ≡ free_answer m h b.at = known m input h f (Op.Free b.at) answered.0 back refl in
    let begins = begins_at b.at (live_blocks m.code h) b there refl in
    let unit : f.answer ≡ Answer.Unit = given ∙ granted (nat_eq b.at 0) (begins_block b.at (live_blocks m.code h)) begins in
    live_with m.code h f (Op.Free b.at) Answer.Unit back unit
  where
    granted : (p q : Bool) → q ≡ true → (if (p || q) then Answer.Unit else Answer.Stop Stop.Free) ≡ Answer.Unit
    granted true q h = refl
    granted false true h = refl
    granted false false h = absurd (cc)

pub unchanged_blocks : (c : Code) (op : Op) (answer : Answer) (blocks : List Block) → changes_heap op ≡ false → blocks_after c op answer blocks ≡ blocks
unchanged_blocks c (Op.New site count) answer blocks no_change = absurd (cc)
unchanged_blocks c (Op.Free word) answer blocks no_change = absurd (cc)
unchanged_blocks c op answer blocks no_change = refl

-- entries that leave the heap leave the live blocks
live_later : (c : Code) (later h : List Entry) → All (λ (e : Entry). changes_heap e.op ≡ false) later → live_blocks c (later ++ h) ≡ live_blocks c h
live_later c [] h none = refl
live_later c (e ∷ later) h none =
    live_with c (later ++ h) e e.op e.answer refl refl
    ∙ unchanged_blocks c e.op e.answer (live_blocks c (later ++ h)) (All-head (λ (x : Entry). changes_heap x.op ≡ false) e later none)
    ∙ live_later c later h (All-tail (λ (x : Entry). changes_heap x.op ≡ false) e later none)

-- the entries before some others are answered too
answered_before : (m : Module) (input : List ℤ) (later h : List Entry) → AreServed m input (later ++ h) → AreServed m input h
unfolding AreServed
answered_before m input [] h answered = answered
answered_before m input (e ∷ later) h answered = answered_before m input later h answered.1

-- where some words are free, so are fewer
fewer : (blocks : List Block) (from limit words room at : ℕ) → room ≤ words → IsFree blocks from limit words at → IsFree blocks from limit room at
fewer blocks from limit words room at le free =
    let wide : Block = record { at = at; words = words } in
    let narrow : Block = record { at = at; words = room } in
    record {
      low = free.low;
      high = (let high = free.high in omega arith);
      apart = All-weaker (IsApart wide) (IsApart narrow) (λ c apart. elim apart [ inl before ↦ inl (omega arith) | inr behind ↦ inr behind ]) blocks free.apart;
    }

pub taken_again : GivenBackIsTaken
unfolding AreServed
taken_again m input h later f b site count n room answered there back none le =
    let here = answered_before m input later (f ∷ h) answered in
    let live = live_later m.code later (f ∷ h) none ∙ live_without m input h f b here there back in
    let P : List Block → Type 0 = λ bs. IsFree bs heap_from (stack_from m.size) (room_for m.code site count) b.at in
    let free = subst P (sym live) (fewer (without b.at (live_blocks m.code h)) heap_from (stack_from m.size) b.words (room_for m.code site count) b.at le (free_again m input h b here.1 there)) in
    (λ stopped. stopped b.at free, λ least. record { free = free; least = least })

-- what was taken goes again
gone : (new : Block) (blocks : List Block) → without new.at (new ∷ blocks) ≡ without new.at blocks
gone new blocks = let here : nat_eq new.at new.at ≡ true = grind (arith, nat_tests) in rw (here, without) refl

past : (w : ℕ) (b : Block) (blocks : List Block) → nat_eq b.at w ≡ false → without w (b ∷ blocks) ≡ b ∷ without w blocks
past w b blocks other = rw (other, without) refl

without_with : (new : Block) (blocks : List Block) → begins_block new.at blocks ≡ false → without new.at (with_block new blocks) ≡ blocks
without_with new [] none = gone new []
without_with new (b ∷ blocks) none =
    let apart = neither (nat_eq b.at new.at) (begins_block new.at blocks) none in
    go (nat_lt new.at b.at) apart.0 (without_with new blocks apart.1)
  where
    neither : (p q : Bool) → (p || q) ≡ false → (p ≡ false) × (q ≡ false)
    neither true q h = absurd (cc)
    neither false q h = (refl, h)

    go : (before : Bool) → nat_eq b.at new.at ≡ false → without new.at (with_block new blocks) ≡ blocks
        → without new.at (elim before [ true ↦ new ∷ b ∷ blocks | false ↦ b ∷ with_block new blocks ]) ≡ b ∷ blocks
    go true other rest = gone new (b ∷ blocks) ∙ without_none new.at (b ∷ blocks) none
    go false other rest = past new.at b (with_block new blocks) other ∙ ap (λ bs. b ∷ bs) rest

pub undone : (d : Desk) → AreInHeap heap_from (stack_from d.size) d.blocks → GiveUndoesTake d
undone d heap (pos count) words at fit =
    let nowhere = none_there heap_from (stack_from d.size) (room_for_items count words) at d.blocks (omega arith) fit.free heap.some in
    let new : Block = record { at = at; words = room_for_items count words } in
    ap (λ bs. record { size = d.size; blocks = bs; rest = d.rest }) (without_with new d.blocks nowhere)
undone d heap (negsuc k) words at fit = absurd (cc)
