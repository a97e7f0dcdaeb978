-- What is old and what is new: makers count up, so what was there before an event is not what the event makes.
use Rattle.std.proofs.Common.{◌≡◌, ℕ, suc, ◌≤◌, ◌⊎◌, inl, inr, Bool, true, false, not, ◌&&◌, ◌||◌, nat_eq, List, [], ◌∷◌, refl, sym, ap, ◌∙◌, subst, eqb-true, arith}
use Rattle.std.proofs.lemmas.Bool.{and_parts}
use Rattle.obj_mem.specs.declared.Maker.{Maker}
use Rattle.obj_mem.specs.declared.value.Obj.{Obj}
use Rattle.obj_mem.specs.declared.value.Value.{Value}
use Rattle.obj_mem.specs.declared.event.Event.{Event}
use Rattle.obj_mem.specs.declared.event.Stamp.{Stamp}
use Rattle.obj_mem.specs.Objects.{same_maker, same_obj}
use Rattle.obj_mem.specs.Alive.{makes, made_by, next_maker, but_first, frames_by, open_frames, next_block, without, blocks_by, live_blocks, is_frame, is_block}
use Rattle.obj_mem.proofs.Blocks.{is_maker, is_obj, freed_block}

abbrev pub IsOld : List Stamp → Maker → Type 0
IsOld h m = m.count ≤ made_by m.thread.0 h

either : (x y : Bool) → (x || y) ≡ true → (x ≡ true) ⊎ (y ≡ true)
either true y is = inl refl
either false y is = inr is

pub more_made : (n : ℕ) (s : Stamp) (h : List Stamp) → made_by n h ≤ made_by n (s ∷ h)
unfolding made_by
more_made n s h = by (nat_eq s.name.0 n && makes s.event)
  where
    by : (b : Bool) → made_by n h ≤ elim b [ true ↦ suc (made_by n h) | false ↦ made_by n h ]
    by true = omega arith
    by false = omega arith

-- what a call puts in front of the frames of its name is new
no_old_frame : (m : Maker) (n : ℕ) (h : List Stamp) → n ≡ m.thread.0 → IsOld h m → same_maker m (next_maker n h) ≡ true → ⊥
no_old_frame m n h name old same = (let count : m.count ≡ suc (made_by n h) = ap (λ (x : Maker). x.count) (is_maker m (next_maker n h) same) in let here : m.count ≤ made_by n h = subst (λ k. m.count ≤ made_by k h) (sym name) old in omega (arith, count, here))

pub fewer : (m : Maker) (ms : List Maker) → is_frame m (but_first ms) ≡ true → is_frame m ms ≡ true
fewer m [] is = is
fewer m (x ∷ ms) is = by (same_maker m x) is
  where
    by : (b : Bool) → is_frame m ms ≡ true → (b || is_frame m ms) ≡ true
    by true is = refl
    by false is = is

-- of old makers, frames only go
pub old_frame : (m : Maker) (s : Stamp) (h : List Stamp) → IsOld h m → is_frame m (open_frames m.thread.0 (s ∷ h)) ≡ true → is_frame m (open_frames m.thread.0 h) ≡ true
unfolding open_frames
old_frame m s h old is = by (nat_eq s.name.0 m.thread.0) refl is
  where
    mine : (e : Event) → s.name.0 ≡ m.thread.0 → is_frame m (frames_by e (next_maker m.thread.0 h) (open_frames m.thread.0 h)) ≡ true → is_frame m (open_frames m.thread.0 h) ≡ true
    mine (Event.Call f) name is = new (either (same_maker m (next_maker m.thread.0 h)) (is_frame m (open_frames m.thread.0 h)) is)
      where
        new : (same_maker m (next_maker m.thread.0 h) ≡ true) ⊎ (is_frame m (open_frames m.thread.0 h) ≡ true) → is_frame m (open_frames m.thread.0 h) ≡ true
        new (inl same) = absurd (no_old_frame m m.thread.0 h refl old same)
        new (inr there) = there
    mine Event.Ret name is = fewer m (open_frames m.thread.0 h) is
    mine e name is = is

    by : (b : Bool) → nat_eq s.name.0 m.thread.0 ≡ b
        → is_frame m (elim b [ true ↦ frames_by s.event (next_maker m.thread.0 h) (open_frames m.thread.0 h) | false ↦ open_frames m.thread.0 h ]) ≡ true → is_frame m (open_frames m.thread.0 h) ≡ true
    by true name is = mine s.event (eqb-true s.name.0 m.thread.0 name) is
    by false name is = is

pub not_freed : (o p : Obj) (blocks : List Obj) → is_block o (without p blocks) ≡ true → is_block o blocks ≡ true
not_freed o p blocks is = (and_parts (is_block o blocks) (not (same_obj o p)) (sym (freed_block o p blocks) ∙ is)).0

no_old_block : (o : Obj) (n : ℕ) (h : List Stamp) (b : Obj) → b.maker ≡ next_maker n h → IsOld h o.maker → same_obj b o ≡ true → ⊥
no_old_block o n h b made old same =
    let maker : o.maker ≡ next_maker n h = ap (λ (x : Obj). x.maker) (sym (is_obj b o same)) ∙ made in
    let count : o.maker.count ≡ suc (made_by n h) = ap (λ (x : Maker). x.count) maker in
    let thread : o.maker.thread.0 ≡ n = ap (λ (x : Maker). x.thread.0) maker in
    let here : o.maker.count ≤ made_by n h = subst (λ k. o.maker.count ≤ made_by k h) thread old in
    omega (arith, count, here)

-- of old makers, blocks only go
pub old_block : (o : Obj) (s : Stamp) (h : List Stamp) → IsOld h o.maker → is_block o (live_blocks (s ∷ h)) ≡ true → is_block o (live_blocks h) ≡ true
unfolding live_blocks
old_block o s h old is = by s.event is
  where
    by : (e : Event) → is_block o (blocks_by e (next_block s.name.0 h) (live_blocks h)) ≡ true → is_block o (live_blocks h) ≡ true
    by (Event.New site count words) is = new (either (same_obj (next_block s.name.0 h site count words) o) (is_block o (live_blocks h)) is)
      where
        new : (same_obj (next_block s.name.0 h site count words) o ≡ true) ⊎ (is_block o (live_blocks h) ≡ true) → is_block o (live_blocks h) ≡ true
        new (inl same) = absurd (no_old_block o s.name.0 h (next_block s.name.0 h site count words) refl old same)
        new (inr there) = there
    by (Event.Free (Value.Ptr p off lo hi)) is = not_freed o p (live_blocks h) is
    by (Event.Free Value.Null) is = is
    by (Event.Free (Value.Int k)) is = is
    by e is = is

-- an event that makes and leaves no frame keeps them
pub kept : (m : Maker) (s : Stamp) (h : List Stamp) → ((x : Maker) (ms : List Maker) → frames_by s.event x ms ≡ ms) → is_frame m (open_frames m.thread.0 (s ∷ h)) ≡ true → is_frame m (open_frames m.thread.0 h) ≡ true
unfolding open_frames
kept m s h quiet is = by (nat_eq s.name.0 m.thread.0) is
  where
    by : (b : Bool) → is_frame m (elim b [ true ↦ frames_by s.event (next_maker m.thread.0 h) (open_frames m.thread.0 h) | false ↦ open_frames m.thread.0 h ]) ≡ true → is_frame m (open_frames m.thread.0 h) ≡ true
    by true is = ap (is_frame m) (sym (quiet (next_maker m.thread.0 h) (open_frames m.thread.0 h))) ∙ is
    by false is = is
