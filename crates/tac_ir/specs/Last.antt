-- The last write of a word.
use Rattle.std.specs.Prelude.{ℕ, suc, ◌+◌, true, false, nat_eq, nat_lt, Option, Some, None, List, [], ◌∷◌}
use Rattle.tac_ir.specs.declared.code.Code.{Code}
use Rattle.tac_ir.specs.declared.code.Global.{Global}
use Rattle.tac_ir.specs.declared.run.Op.{Op}
use Rattle.tac_ir.specs.declared.run.Answer.{Answer}
use Rattle.tac_ir.specs.declared.run.Entry.{Entry}
use Rattle.tac_ir.specs.Words.{word_of}
use Rattle.tac_ir.specs.Layout.{shape_words, globals_from}

-- a definition, 0 for none, and its value
pub record Written : Type 0 where
  pub def : ℕ
  pub value : ℕ

abbrev pub unwritten : Written
unwritten = record { def = 0; value = 0 }

-- the starting definition and value of word w, among globals of which the first has this number and stands from word `at` on
unfoldable pub starting : Code → List Global → ℕ → ℕ → ℕ → Written
starting c [] g at w = unwritten
starting c (x ∷ globals) g at w =
    elim (nat_lt w at) [
      | true ↦ unwritten
      | false ↦ elim (nat_lt w (at + shape_words c x.shape)) [
        | true ↦ record { def = suc g; value = word_of x.start }
        | false ↦ starting c globals (suc g) (at + shape_words c x.shape) w
      ]
    ]

-- what an entry writes to word w
abbrev pub write_to : ℕ → Op → Answer → Option Written
write_to w (Op.Write d at v) Answer.Unit = elim (nat_eq at w) [ true ↦ Some (record { def = d.0; value = v }) | false ↦ None ]
write_to w op answer = None

-- the definition and value of the last write of word w in a history, else those with which it started
unfoldable pub last_write : Code → List Entry → ℕ → Written
last_write c [] w = starting c c.globals 0 globals_from w
last_write c (e ∷ h) w = elim (write_to w e.op e.answer) [ Some written ↦ written | None ↦ last_write c h w ]
