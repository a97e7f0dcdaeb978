-- What a word or the desk holds depends on its own entries alone.
use Rattle.std.proofs.Common.{◌≡◌, ℕ, List, [], ◌∷◌, cond, Bool, true, false, refl, Option, Some, None, sym, ◌∙◌, ap}
use Rattle.tac_ir.specs.declared.code.Code.{Code}
use Rattle.tac_ir.specs.declared.run.Op.{Op}
use Rattle.tac_ir.specs.declared.run.Answer.{Answer}
use Rattle.tac_ir.specs.Last.{Written, write_to, last_write}
use Rattle.tac_ir.specs.Desk.{Block, blocks_after, live_blocks, takes_input, inputs_in}
use Rattle.tac_ir.specs.Locality.{is_of_word, is_of_desk, entries_of, WordsAreLocal, BlocksAreLocal, InputIsLocal}

-- an event of another word writes nothing there
writes_not : (w : ℕ) (op : Op) (answer : Answer) → is_of_word w op ≡ false → write_to w op answer ≡ None
writes_not w (Op.Write d at v) Answer.Unit other = ap (λ b. elim b [ true ↦ Some (record { def = d.0; value = v }) | false ↦ None ]) other
writes_not w (Op.Write d at v) answer other = refl
writes_not w op answer other = refl

-- where a test lets an event not pass, it is of another word
passed : (p q : Bool) → (p ≡ true → q ≡ true) → q ≡ false → p ≡ false
passed true q has none = sym (has refl) ∙ none
passed false q has none = refl

-- the last write of a word, by what the newest entry wrote and by that before
abbrev last_by : Option Written → Written → Written
last_by o earlier = elim o [ Some written ↦ written | None ↦ earlier ]

pub words_are_local : WordsAreLocal
unfolding last_write
words_are_local c test [] w has = refl
words_are_local c test (e ∷ h) w has = by (test e.op) refl (words_are_local c test h w has)
  where
    by : (b : Bool) → test e.op ≡ b → last_write c (entries_of test h) w ≡ last_write c h w
        → last_write c (cond b (e ∷ entries_of test h) (entries_of test h)) w ≡ last_by (write_to w e.op e.answer) (last_write c h w)
    by true is rest = ap (last_by (write_to w e.op e.answer)) rest
    by false is rest = rest ∙ sym (ap (λ o. last_by o (last_write c h w)) (writes_not w e.op e.answer (passed (is_of_word w e.op) (test e.op) (has e.op) is)))

leaves_blocks : (c : Code) (op : Op) (answer : Answer) (blocks : List Block) → is_of_desk op ≡ false → blocks_after c op answer blocks ≡ blocks
leaves_blocks c (Op.New site count) answer blocks other = cc
leaves_blocks c (Op.Free w) answer blocks other = cc
leaves_blocks c op answer blocks other = refl

pub blocks_are_local : BlocksAreLocal
unfolding live_blocks
blocks_are_local c test [] has = refl
blocks_are_local c test (e ∷ h) has = by (test e.op) refl (blocks_are_local c test h has)
  where
    by : (b : Bool) → test e.op ≡ b → live_blocks c (entries_of test h) ≡ live_blocks c h
        → live_blocks c (cond b (e ∷ entries_of test h) (entries_of test h)) ≡ blocks_after c e.op e.answer (live_blocks c h)
    by true is rest = ap (blocks_after c e.op e.answer) rest
    by false is rest = rest ∙ sym (leaves_blocks c e.op e.answer (live_blocks c h) (passed (is_of_desk e.op) (test e.op) (has e.op) is))

leaves_input : (op : Op) (n : ℕ) → is_of_desk op ≡ false → takes_input op n ≡ n
leaves_input Op.In n other = cc
leaves_input op n other = refl

pub input_is_local : InputIsLocal
unfolding inputs_in
input_is_local test [] has = refl
input_is_local test (e ∷ h) has = by (test e.op) refl (input_is_local test h has)
  where
    by : (b : Bool) → test e.op ≡ b → inputs_in (entries_of test h) ≡ inputs_in h
        → inputs_in (cond b (e ∷ entries_of test h) (entries_of test h)) ≡ takes_input e.op (inputs_in h)
    by true is rest = ap (takes_input e.op) rest
    by false is rest = rest ∙ sym (leaves_input e.op (inputs_in h) (passed (is_of_desk e.op) (test e.op) (has e.op) is))
