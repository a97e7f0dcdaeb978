-- The stamps of a history have valid answers.
use Rattle.std.proofs.Common.{◌≡◌, ℕ, ℤ, List, ◌++◌, Option, Some, ◌∙◌, ap}
use Rattle.obj_mem.specs.declared.value.Value.{Value}
use Rattle.obj_mem.specs.declared.event.Stamp.{Stamp}
use Rattle.obj_mem.specs.Valid.{answer_of}
use Rattle.obj_mem.specs.Laws.{AreAnswered}
use Rattle.tac_ir.specs.declared.code.Code.{Code}
use Rattle.tree_law.specs.Chain.IsTreeAfter.{begins, feeds, forks, halts, sticks}
use Rattle.obj_run.specs.Entries.{Entry, stamps_of}
use Rattle.obj_run.specs.Starts.{opening}
use Rattle.obj_run.specs.Runs.{ObjLife, ObjLives, IsAsked, IsObjTree}

asked_valid : (c : Code) (first h : List Stamp) (n : ℕ) (l : ObjLife) (e : Entry) → IsAsked c first h n l e → answer_of (h ++ first) e.stamp.name.0 e.stamp.event ≡ Some e.stamp.answer
asked_valid c first h n l e asked = ap (λ k. answer_of (h ++ first) k e.stamp.event) asked.name ∙ asked.answer

pub valid : (c : Code) (input : List ℤ) (h : List Entry) (f : ObjLives) (d : Option Value) → IsObjTree c input h f d → AreAnswered (opening c input) (stamps_of h)
valid c input h f d (begins f2 d2 tree b) = tt
valid c input h f d (feeds old e n reply f2 g d2 b chain tree fed awake moved told) = (asked_valid c (opening c input) (stamps_of old) n fed.life e told.asked, valid c input old f2 d2 chain)
valid c input h f d (forks old e n stacks f2 g d2 b chain tree forked awake told shares some join entries is count few) =
    (asked_valid c (opening c input) (stamps_of old) n forked.life e told.asked, valid c input old f2 d2 chain)
valid c input h f d (halts old e n l f2 d2 chain lives awake halted) = (asked_valid c (opening c input) (stamps_of old) n l e halted.0, valid c input old f2 d2 chain)
valid c input h f d (sticks old e n f2 g d2 b chain tree stuck awake stays) = (asked_valid c (opening c input) (stamps_of old) n stuck.life e stays.0, valid c input old f2 d2 chain)
