-- Return links in memory.
use Rattle.std.specs.Prelude.{◌≡◌, ℕ, true, false, ◌&&◌, nat_eq, Option, Some, None, List, [], ◌∷◌, Contains}
use Rattle.tac_ir.specs.declared.code.Code.{Code}
use Rattle.tac_ir.specs.declared.run.Entry.{Entry}
use Rattle.tac_ir.specs.declared.run.Answer.{Answer}
use Rattle.tac_ir.specs.declared.run.Op.{Op}
use Rattle.tac_ir.specs.NumberLaws.{new_call, is_calls}
use Rattle.tac_thread.specs.Life.{instr_of}
use Rattle.path_law.specs.Standing.{FlatActivation, FlatLife}
use Rattle.path_law.specs.InPlace.{FlatLives}
use Rattle.chain_law.specs.Frames.{framed_of}

-- the definition of a call that an entry writes to word w
abbrev pub link_to : Code → ℕ → Op → Answer → Option ℕ
link_to c w (Op.Write d at v) Answer.Unit = elim (nat_eq at w && is_calls c d.0) [ true ↦ Some d.0 | false ↦ None ]
link_to c w op answer = None

-- the newest of them, 0 for none: stores by other definitions do not count
unfoldable pub last_link : Code → List Entry → ℕ → ℕ
last_link c [] w = 0
last_link c (e ∷ h) w = elim (link_to c w e.op e.answer) [ Some d ↦ d | None ↦ last_link c h w ]

-- each frame but the first has the link of the call at which its caller stands
unfoldable pub AreLinked : Code → List Entry → FlatActivation → List FlatActivation → Type 0
AreLinked c h x [] = Unit {0}
AreLinked c h x (y ∷ callers) = (new_call (instr_of c y) ≡ Some (last_link c h x.stack.base)) × AreLinked c h y callers

abbrev pub IsLinked : Code → List Entry → FlatLife → Type 0
IsLinked c h l = AreLinked c h l.top l.callers

abbrev pub AllLinked : Code → List Entry → FlatLives → Type 0
AllLinked c h f = (n : ℕ) (l : FlatLife) → f n ≡ Some l → IsLinked c h l

-- none of these frames has its link at this word
abbrev pub HasNoLinkAt : ℕ → FlatActivation → List FlatActivation → Type 0
HasNoLinkAt w x callers = (z : FlatActivation) → Contains (framed_of x callers) z → z.stack.base ≡ w → ⊥

-- a call's definition writes its own number
abbrev pub TellsItself : Code → Entry → Type 0
TellsItself c e = (w d v : ℕ) → e.op ≡ Op.Write (record { 0 = d }) w v → is_calls c d ≡ true → v ≡ d

abbrev pub AllTell : Code → List Entry → Type 0
AllTell c [] = Unit {0}
AllTell c (e ∷ h) = TellsItself c e × AllTell c h
