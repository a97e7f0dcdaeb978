-- What lives was made, a block is no frame, and what is over stays so.
use Rattle.std.proofs.Common.{◌≡◌, ℕ, suc, ◌≤◌, ◌⊎◌, inl, inr, ℤ, Bool, true, false, ◌||◌, nat_eq, List, [], ◌∷◌, refl, sym, ap, ◌∙◌, subst, eqb-true, eq-eqb, true≢false, arith}
use Rattle.std.proofs.lemmas.Bool.{and_from}
use Rattle.obj_mem.specs.declared.Maker.{Maker}
use Rattle.obj_mem.specs.declared.value.Obj.{Obj}
use Rattle.obj_mem.specs.declared.value.Value.{Value}
use Rattle.obj_mem.specs.declared.event.Event.{Event}
use Rattle.obj_mem.specs.declared.event.Stamp.{Stamp}
use Rattle.obj_mem.specs.Objects.{same_maker, same_obj}
use Rattle.obj_mem.specs.Alive.{makes, made_by, next_maker, frames_by, open_frames, next_block, blocks_by, live_blocks, is_frame, is_block, is_lasting, is_live}
use Rattle.obj_mem.specs.Laws.{IsMade}
use Rattle.obj_mem.proofs.Blocks.{is_maker, is_obj}
use Rattle.obj_mem.proofs.Makers.{more_made, fewer, kept, not_freed, old_frame}

-- an event or an earlier one has made this
abbrev pub WasMade : List Stamp → Maker → Type 0
WasMade h m = (1 ≤ m.count) × (m.count ≤ made_by m.thread.0 h)

earlier_made : (m : Maker) (s : Stamp) (h : List Stamp) → WasMade h m → WasMade (s ∷ h) m
earlier_made m s h made = (made.0, (let low = made.1 in omega (arith, low, more_made m.thread.0 s h)))

count_with : (n : ℕ) (s : Stamp) (h : List Stamp) → s.name.0 ≡ n → makes s.event ≡ true → made_by n (s ∷ h) ≡ suc (made_by n h)
unfolding made_by
count_with n s h name is = ap (λ b. elim b [ true ↦ suc (made_by n h) | false ↦ made_by n h ]) (and_from (nat_eq s.name.0 n) (makes s.event) (eq-eqb s.name.0 n name) is)

-- what this event makes
made_now : (m : Maker) (s : Stamp) (h : List Stamp) → m ≡ next_maker s.name.0 h → makes s.event ≡ true → WasMade (s ∷ h) m
made_now m s h is event =
    let thread : s.name.0 ≡ m.thread.0 = ap (λ (x : Maker). x.thread.0) (sym is) in
    let count : m.count ≡ suc (made_by s.name.0 h) = ap (λ (x : Maker). x.count) is in
    let same : made_by m.thread.0 (s ∷ h) ≡ suc (made_by s.name.0 h) = count_with m.thread.0 s h thread event ∙ ap (λ n. suc (made_by n h)) (sym thread) in
    (omega (arith, count), omega (arith, count, same))

either : (x y : Bool) → (x || y) ≡ true → (x ≡ true) ⊎ (y ≡ true)
either true y is = inl refl
either false y is = inr is

-- a frame was made by a call
pub frame_made : (m : Maker) (h : List Stamp) → is_frame m (open_frames m.thread.0 h) ≡ true → WasMade h m
unfolding open_frames
frame_made m [] is = absurd (true≢false (sym is))
frame_made m (s ∷ h) is = by (λ there. earlier_made m s h (frame_made m h there)) (nat_eq s.name.0 m.thread.0) refl is
  where
    mine : (is_frame m (open_frames m.thread.0 h) ≡ true → WasMade (s ∷ h) m) → (e : Event) → s.event ≡ e → s.name.0 ≡ m.thread.0 → is_frame m (frames_by e (next_maker m.thread.0 h) (open_frames m.thread.0 h)) ≡ true → WasMade (s ∷ h) m
    mine before (Event.Call f) event name is = new (either (same_maker m (next_maker m.thread.0 h)) (is_frame m (open_frames m.thread.0 h)) is)
      where
        new : (same_maker m (next_maker m.thread.0 h) ≡ true) ⊎ (is_frame m (open_frames m.thread.0 h) ≡ true) → WasMade (s ∷ h) m
        new (inl same) = made_now m s h (is_maker m (next_maker m.thread.0 h) same ∙ ap (λ n. next_maker n h) (sym name)) (ap makes event)
        new (inr there) = before there
    mine before Event.Ret event name is = before (fewer m (open_frames m.thread.0 h) is)
    mine before e event name is = before is

    by : (is_frame m (open_frames m.thread.0 h) ≡ true → WasMade (s ∷ h) m) → (b : Bool) → nat_eq s.name.0 m.thread.0 ≡ b
        → is_frame m (elim b [ true ↦ frames_by s.event (next_maker m.thread.0 h) (open_frames m.thread.0 h) | false ↦ open_frames m.thread.0 h ]) ≡ true → WasMade (s ∷ h) m
    by before true name is = mine before s.event refl (eqb-true s.name.0 m.thread.0 name) is
    by before false name is = before is

-- a block was made by an event, and its maker made no frame
pub record IsSound (h : List Stamp) (o : Obj) : Type 0 where
  pub made : WasMade h o.maker
  pub apart : is_frame o.maker (open_frames o.maker.thread.0 h) ≡ true → ⊥

pub block_sound : (o : Obj) (h : List Stamp) → is_block o (live_blocks h) ≡ true → IsSound h o
unfolding live_blocks
block_sound o [] is = absurd (true≢false (sym is))
block_sound o (s ∷ h) is = by (λ there. earlier (block_sound o h there)) s.event refl is
  where
    earlier : IsSound h o → IsSound (s ∷ h) o
    earlier sound =
        record { made = earlier_made o.maker s h sound.made; apart = λ frame. sound.apart (old_frame o.maker s h sound.made.1 frame) }

    -- a block that is new
    fresh : (site : ℕ) (count : ℤ) (words : ℕ) → s.event ≡ Event.New site count words → o.maker ≡ next_maker s.name.0 h → IsSound (s ∷ h) o
    fresh site count words event is = record { made = made_now o.maker s h is (ap makes event); apart = λ frame. no_frame (still frame) }
      where
        still : is_frame o.maker (open_frames o.maker.thread.0 (s ∷ h)) ≡ true → is_frame o.maker (open_frames o.maker.thread.0 h) ≡ true
        still frame = kept o.maker s h (λ m ms. ap (λ e. frames_by e m ms) event) frame

        no_frame : is_frame o.maker (open_frames o.maker.thread.0 h) ≡ true → ⊥
        no_frame frame =
            let high = (frame_made o.maker h frame).1 in
            let count_is : o.maker.count ≡ suc (made_by s.name.0 h) = ap (λ (x : Maker). x.count) is in
            let thread : o.maker.thread.0 ≡ s.name.0 = ap (λ (x : Maker). x.thread.0) is in
            let here : o.maker.count ≤ made_by s.name.0 h = subst (λ n. o.maker.count ≤ made_by n h) thread high in
            omega (arith, count_is, here)

    by : (is_block o (live_blocks h) ≡ true → IsSound (s ∷ h) o) → (e : Event) → s.event ≡ e → is_block o (blocks_by e (next_block s.name.0 h) (live_blocks h)) ≡ true → IsSound (s ∷ h) o
    by before (Event.New site count words) event is = new (either (same_obj (next_block s.name.0 h site count words) o) (is_block o (live_blocks h)) is)
      where
        new : (same_obj (next_block s.name.0 h site count words) o ≡ true) ⊎ (is_block o (live_blocks h) ≡ true) → IsSound (s ∷ h) o
        new (inl same) = fresh site count words event (ap (λ (x : Obj). x.maker) (sym (is_obj (next_block s.name.0 h site count words) o same)))
        new (inr there) = before there
    by before (Event.Free (Value.Ptr p off lo hi)) event is = before (not_freed o p (live_blocks h) is)
    by before (Event.Free Value.Null) event is = before is
    by before (Event.Free (Value.Int k)) event is = before is
    by before e event is = before is

-- Laws.

pub living_is_made : (h : List Stamp) (o : Obj) → is_live h o ≡ true → IsMade h o.maker
living_is_made h o is = by (is_lasting o.maker || is_frame o.maker (open_frames o.maker.thread.0 h)) (is_block o (live_blocks h)) refl refl is
  where
    first : (is_lasting o.maker ≡ true) ⊎ (is_frame o.maker (open_frames o.maker.thread.0 h) ≡ true) → IsMade h o.maker
    first (inl lasts) = inl lasts
    first (inr frame) = inr (frame_made o.maker h frame)

    by : (x y : Bool) → (is_lasting o.maker || is_frame o.maker (open_frames o.maker.thread.0 h)) ≡ x → is_block o (live_blocks h) ≡ y → (x || y) ≡ true → IsMade h o.maker
    by true y front back is = first (either (is_lasting o.maker) (is_frame o.maker (open_frames o.maker.thread.0 h)) front)
    by false true front back is = inr (block_sound o h back).made
    by false false front back is = absurd (true≢false (sym is))

pub blocks_no_frames : (h : List Stamp) (o : Obj) → is_block o (live_blocks h) ≡ true → is_frame o.maker (open_frames o.maker.thread.0 h) ≡ false
blocks_no_frames h o is = by (is_frame o.maker (open_frames o.maker.thread.0 h)) refl
  where
    by : (b : Bool) → is_frame o.maker (open_frames o.maker.thread.0 h) ≡ b → is_frame o.maker (open_frames o.maker.thread.0 h) ≡ false
    by false frame = frame
    by true frame = absurd ((block_sound o h is).apart frame)
