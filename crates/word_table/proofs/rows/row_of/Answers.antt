use Rattle.std.proofs.Common.{◌≡◌, suc, ◌+◌, ◌/◌, ◌<◌, ◌||◌, ◌∷◌, length, drop, ap, sym, ◌∙◌, arith, drop-cons, length-set}
use Rattle.std.specs.Prelude.{slice_index}
use Rattle.tac_ir.specs.Answers.{class_of}
use Rattle.word_table.specs.tools.Classes.{is_class_in}
use Rattle.word_table.specs.tools.BitRows.{has_bit, with_bit}
use Rattle.word_table.proofs.BitRows.{member_more}
use Rattle.word_table.proofs.rows.row_of.Goals as goal

-- the class of one more member is in the row
pub loop-def-preserved : goal.loop-def-preserved
loop-def-preserved c =
    let m = c.args.m.now in
    let set = c.args.set.now in
    let i = c.loop-def.def-index in
    let d = slice_index set i in
    let words = c.loop-def.row.words.items in
    let new : c.put.new.self.words.items ≡ with_bit words (class_of m d) = c.put.ensures ∙ ap (with_bit words) c.class_of.ensures in
    let fits : class_of m d / 64 < length words = omega (arith, c.requires.wide d, c.loop-def.invariant.0) in
    let one : suc i ≡ i + 1 = omega arith in
    let left : drop i set ≡ d ∷ drop (i + 1) set = drop-cons set i 0 c.loop-def-test.true ∙ ap (λ n. d ∷ drop n set) one in (
      ap length new ∙ length-set words (class_of m d / 64) _ ∙ c.loop-def.invariant.0,
      λ k.
          ap (λ l. has_bit l k || is_class_in m (drop (i + 1) set) k) new
          ∙ member_more m words d k (drop (i + 1) set) fits
          ∙ ap (λ l. has_bit words k || is_class_in m l k) (sym left)
          ∙ c.loop-def.invariant.1 k,
    )
