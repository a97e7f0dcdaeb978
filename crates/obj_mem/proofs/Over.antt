-- A block that was freed is over; and what was written was made.
use Rattle.std.proofs.Common.{◌≡◌, ℕ, ◌⊎◌, inl, inr, ℤ, Bool, true, false, not, ◌&&◌, ◌||◌, nat_eq, List, [], ◌∷◌, ◌++◌, refl, sym, ap, ◌∙◌, subst, eqb-true, true≢false, Option, Some, None, arith, pos}
use Rattle.std.specs.Prelude.{int_le, int_lt, nat_le}
use Rattle.std.specs.Ordering.{int_eq}
use Rattle.std.specs.List.{All}
use Rattle.std.proofs.lemmas.List.Elements.{All-nil, All-cons}
use Rattle.std.proofs.lemmas.Bool.{and_parts}
use Rattle.obj_mem.specs.declared.Maker.{Maker}
use Rattle.obj_mem.specs.declared.value.Obj.{Obj}
use Rattle.obj_mem.specs.declared.value.Value.{Value}
use Rattle.obj_mem.specs.declared.event.Event.{Event}
use Rattle.obj_mem.specs.declared.event.SrcAnswer.{SrcAnswer}
use Rattle.obj_mem.specs.declared.event.Stamp.{Stamp}
use Rattle.obj_mem.specs.Objects.{same_obj}
use Rattle.obj_mem.specs.Alive.{open_frames, blocks_by, next_block, live_blocks, is_frame, is_block, is_lasting, is_live}
use Rattle.obj_mem.specs.Written.{written, last_value}
use Rattle.obj_mem.specs.Valid.{where_so, is_usable, the_value, differs_or_not, answer_of}
use Rattle.obj_mem.specs.Laws.{AreAnswered, uses, IsMade}
use Rattle.obj_mem.proofs.Blocks.{is_obj, obj_itself, freed_block}
use Rattle.obj_mem.proofs.Makers.{more_made, old_frame, old_block}
use Rattle.obj_mem.proofs.WasMade.{WasMade, block_sound, living_is_made}

-- an object that was made and lives no more
pub record IsOver (h : List Stamp) (o : Obj) : Type 0 where
  pub made : WasMade h o.maker
  pub no_frame : is_frame o.maker (open_frames o.maker.thread.0 h) ≡ true → ⊥
  pub no_block : is_block o (live_blocks h) ≡ true → ⊥

stays_over : (o : Obj) (s : Stamp) (h : List Stamp) → IsOver h o → IsOver (s ∷ h) o
stays_over o s h over = record {
  made = (over.made.0, (let low = over.made.1 in omega (arith, low, more_made o.maker.thread.0 s h)));
  no_frame = λ is. over.no_frame (old_frame o.maker s h over.made.1 is);
  no_block = λ is. over.no_block (old_block o s h over.made.1 is);
}

false_of : (b : Bool) → (b ≡ true → ⊥) → b ≡ false
false_of true none = absurd (none refl)
false_of false none = refl

not_lasting : (h : List Stamp) (o : Obj) → WasMade h o.maker → is_lasting o.maker ≡ true → ⊥
not_lasting h o made lasts = (let count = made.0 in let zero_is : o.maker.count ≡ 0 = eqb-true o.maker.count 0 (and_parts (nat_eq o.maker.count 0) (nat_le o.maker.thread.0 1) lasts).0 in omega (arith, count, zero_is))

pub dead : (h : List Stamp) (o : Obj) → IsOver h o → is_live h o ≡ false
dead h o over =
    let lasts : is_lasting o.maker ≡ false = false_of (is_lasting o.maker) (not_lasting h o over.made) in
    let frame : is_frame o.maker (open_frames o.maker.thread.0 h) ≡ false = false_of (is_frame o.maker (open_frames o.maker.thread.0 h)) over.no_frame in
    let block : is_block o (live_blocks h) ≡ false = false_of (is_block o (live_blocks h)) over.no_block in
    λ i. lasts i || frame i || block i

-- Frees.

valid_free : (h : List Stamp) (n : ℕ) (o : Obj) (off lo hi : ℤ) (a : SrcAnswer) → answer_of h n (Event.Free (Value.Ptr o off lo hi)) ≡ Some a → is_block o (live_blocks h) ≡ true
valid_free h n o off lo hi a is = (and_parts (int_eq off (pos 0)) (is_block o (live_blocks h)) (so (int_eq off (pos 0) && is_block o (live_blocks h)) is)).1
  where
    so : (b : Bool) → where_so b SrcAnswer.Unit ≡ Some a → b ≡ true
    so true is = refl
    so false is = cc

over_now : (h : List Stamp) (s : Stamp) (o : Obj) (off lo hi : ℤ) → s.event ≡ Event.Free (Value.Ptr o off lo hi) → is_block o (live_blocks h) ≡ true → IsOver (s ∷ h) o
unfolding live_blocks
over_now h s o off lo hi is there =
    let sound = block_sound o h there in
    record {
      made = (sound.made.0, (let low = sound.made.1 in omega (arith, low, more_made o.maker.thread.0 s h)));
      no_frame = λ frame. sound.apart (old_frame o.maker s h sound.made.1 frame);
      no_block = λ block. true≢false (sym block ∙ gone);
    }
  where
    gone : is_block o (live_blocks (s ∷ h)) ≡ false
    gone =
        ap (λ e. is_block o (blocks_by e (next_block s.name.0 h) (live_blocks h))) is ∙ (freed_block o o (live_blocks h)
        ∙ (ap (λ b. is_block o (live_blocks h) && not b) (obj_itself o) ∙ and_false (is_block o (live_blocks h))))
      where
        and_false : (b : Bool) → (b && false) ≡ false
        and_false true = refl
        and_false false = refl

either : (x y : Bool) → (x || y) ≡ true → (x ≡ true) ⊎ (y ≡ true)
either true y is = inl refl
either false y is = inr is

so_where : (b : Bool) (x a : SrcAnswer) → where_so b x ≡ Some a → b ≡ true
so_where true x a is = refl
so_where false x a is = cc

block_lives : (h : List Stamp) (o : Obj) → is_block o (live_blocks h) ≡ true → is_live h o ≡ true
block_lives h o is = by (is_lasting o.maker || is_frame o.maker (open_frames o.maker.thread.0 h)) is
  where
    by : (b : Bool) → is_block o (live_blocks h) ≡ true → (b || is_block o (live_blocks h)) ≡ true
    by true is = refl
    by false is = is

-- Uses: each is of a live object.

abbrev Unused : List Stamp → Obj → Event → Type 0
Unused h o e = uses o e ≡ true → is_live h o ≡ true

lives_where : (h : List Stamp) (o p : Obj) → same_obj o p ≡ true → is_live h p ≡ true → is_live h o ≡ true
lives_where h o p same lives = subst (λ x. is_live h x ≡ true) (sym (is_obj o p same)) lives

used : (h : List Stamp) (n : ℕ) (o : Obj) (e : Event) (a : SrcAnswer) → answer_of h n e ≡ Some a → Unused h o e
used h n o (Event.Rd (Value.Ptr p off lo hi)) a is same = lives_where h o p same (usable p off lo hi (is_usable h p off lo hi) refl is)
  where
    usable : (p : Obj) (off lo hi : ℤ) (b : Bool) → is_usable h p off lo hi ≡ b → elim b [ true ↦ the_value (last_value p off h) | false ↦ None ] ≡ Some a → is_live h p ≡ true
    usable p off lo hi true here is = (and_parts (int_le lo off && int_lt off hi) (is_live h p) here).1
    usable p off lo hi false here is = cc
used h n o (Event.Wr (Value.Ptr p off lo hi) v) a is same = lives_where h o p same (and_parts (int_le lo off && int_lt off hi) (is_live h p) (so_where (is_usable h p off lo hi) SrcAnswer.Unit a is)).1
used h n o (Event.Same (Value.Ptr p off lo hi) Value.Null ne) a is same = lives_where h o p (left (same_obj o p) same) (so_where (is_live h p) (differs_or_not ne false) a is)
  where
    left : (b : Bool) → (b || false) ≡ true → b ≡ true
    left true is = refl
    left false is = is
used h n o (Event.Same Value.Null (Value.Ptr p off lo hi) ne) a is same = lives_where h o p same (so_where (is_live h p) (differs_or_not ne false) a is)
used h n o (Event.Same (Value.Ptr p off lo hi) (Value.Ptr q at from to) ne) a is same = by (both p q off hi at to (so_where _ _ a is)) (either (same_obj o p) (same_obj o q) same)
  where
    both : (p q : Obj) (off hi at to : ℤ) → (is_live h p && is_live h q && (same_obj p q || (not (int_eq off hi) && not (int_eq at to)))) ≡ true → (is_live h p ≡ true) × (is_live h q ≡ true)
    both p q off hi at to is = and_parts (is_live h p) (is_live h q) (and_parts (is_live h p && is_live h q) (same_obj p q || (not (int_eq off hi) && not (int_eq at to))) is).0

    by : (is_live h p ≡ true) × (is_live h q ≡ true) → (same_obj o p ≡ true) ⊎ (same_obj o q ≡ true) → is_live h o ≡ true
    by live (inl same) = lives_where h o p same live.0
    by live (inr same) = lives_where h o q same live.1
used h n o (Event.Free (Value.Ptr p off lo hi)) a is same = lives_where h o p same (block_lives h p (valid_free h n p off lo hi a is))
used h n o (Event.Same (Value.Ptr p off lo hi) (Value.Int k) ne) a is same = cc
used h n o (Event.Same (Value.Int k) (Value.Ptr p off lo hi) ne) a is same = cc
used h n o e a is same = absurd (true≢false (sym same))

-- what was freed is over in all that follows
pub rest_over : (earlier later : List Stamp) (s : Stamp) (o : Obj) (off lo hi : ℤ) → s.event ≡ Event.Free (Value.Ptr o off lo hi)
    → AreAnswered earlier (later ++ s ∷ []) → IsOver ((later ++ s ∷ []) ++ earlier) o × All (λ t. uses o t.event ≡ false) later
rest_over earlier [] s o off lo hi is answered =
    let there = valid_free earlier s.name.0 o off lo hi s.answer (subst (λ e. answer_of earlier s.name.0 e ≡ Some s.answer) is answered.0) in
    (over_now earlier s o off lo hi is there, All-nil (λ t. uses o t.event ≡ false))
rest_over earlier (t ∷ later) s o off lo hi is answered =
    let before = rest_over earlier later s o off lo hi is answered.1 in
    let h = (later ++ s ∷ []) ++ earlier in
    let unused : uses o t.event ≡ false = false_of (uses o t.event) (λ does. true≢false (sym (used h t.name.0 o t.event t.answer answered.0 does) ∙ dead h o before.0)) in
    (stays_over o t h before.0, All-cons (λ x. uses o x.event ≡ false) t later unused before.1)

pub freed_over : (earlier later : List Stamp) (s : Stamp) (o : Obj) (off lo hi : ℤ) → s.event ≡ Event.Free (Value.Ptr o off lo hi)
    → AreAnswered earlier (later ++ s ∷ []) → All (λ t. uses o t.event ≡ false) later
freed_over earlier later s o off lo hi is answered = (rest_over earlier later s o off lo hi is answered).1

-- What was written.

wrote_uses : (o : Obj) (off : ℤ) (e : Event) (v : Value) → written o off e ≡ Some v → uses o e ≡ true
wrote_uses o off (Event.Wr (Value.Ptr p at lo hi) w) v is = by (same_obj o p && int_eq off at) refl is
  where
    by : (b : Bool) → (same_obj o p && int_eq off at) ≡ b → elim b [ true ↦ Some w | false ↦ None ] ≡ Some v → same_obj o p ≡ true
    by true same is = (and_parts (same_obj o p) (int_eq off at) same).0
    by false same is = cc
wrote_uses o off e v is = cc

still_made : (s : Stamp) (h : List Stamp) (m : Maker) → IsMade h m → IsMade (s ∷ h) m
still_made s h m (inl lasts) = inl lasts
still_made s h m (inr made) = inr (made.0, (let low = made.1 in omega (arith, low, more_made m.thread.0 s h)))

pub written_made : (earlier h : List Stamp) → AreAnswered earlier h → ((o : Obj) (off : ℤ) (v : Value) → last_value o off earlier ≡ Some v → IsMade earlier o.maker)
    → (o : Obj) (off : ℤ) (v : Value) → last_value o off (h ++ earlier) ≡ Some v → IsMade (h ++ earlier) o.maker
unfolding last_value
written_made earlier [] answered first o off v is = first o off v is
written_made earlier (s ∷ h) answered first o off v is = by (written_made earlier h answered.1 first o off v) (written o off s.event) refl is
  where
    by : (last_value o off (h ++ earlier) ≡ Some v → IsMade (h ++ earlier) o.maker) → (w : Option Value) → written o off s.event ≡ w
        → elim w [ Some x ↦ Some x | None ↦ last_value o off (h ++ earlier) ] ≡ Some v → IsMade (s ∷ (h ++ earlier)) o.maker
    by before (Some x) wrote is =
        still_made s (h ++ earlier) o.maker (living_is_made (h ++ earlier) o (used (h ++ earlier) s.name.0 o s.event s.answer answered.0 (wrote_uses o off s.event x wrote)))
    by before None wrote is = still_made s (h ++ earlier) o.maker (before is)
