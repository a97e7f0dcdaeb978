use Rattle.std.proofs.Common.{rules, ◌≡◌, ◌+◌, ◌≤◌, drop, [], pos, Ok, Err, Some, None, refl, ap, sym, ◌∙◌, subst, arith, to_z, of_z, w32}
use Rattle.c_typed.specs.declared.expr.Form.TheVariants as form
use Rattle.c_typed.specs.Types.{words_of}
use Rattle.tac_ir.specs.declared.code.Instr.{Instr}
use Rattle.tac_ir.specs.declared.code.Place.{Place}
use Rattle.tac_lower.specs.declared.draft.Ends.{Ends}
use Rattle.tac_lower.specs.declared.writer.Spot.{Spot}
use Rattle.tac_lower.specs.tools.Emits.{Emits, Yields, Counts, part_at}
use Rattle.tac_lower.specs.Parts.{given, gathered, chained, ◌▷◌, ◌⨟◌}
use Rattle.c_typed.specs.Elaboration.{object_of, truth_of, operation}
use Rattle.tac_lower.specs.tools.Plans.{skips_of}
use Rattle.tac_lower.specs.Instrs as i
use Rattle.tac_lower.specs.Values.{expr, value, values_of, truth, truth_by, sizes_in, left, read, pointer_to, part_of, prefix, carried, settled, binary, binary_by}
use Rattle.tac_lower.proofs.pieces.Levels as levels
use Rattle.tac_lower.proofs.pieces.Levels.{typing_is}
use Rattle.tac_lower.proofs.emitted.Chains.{follow, stopped, yields, yields_stopped, yields_part, part_stopped, leaves, leaves_stopped, counted, counted_stopped, too_long, dry_stopped, valued, truth_counts, prefix_counts, carried_counts}
use Rattle.tac_lower.proofs.emitted.Gathers.{left_from, next_argument, no_argument, all_arguments}
use Rattle.c_typed.specs.declared.expr.Expr.{Expr}
use Rattle.tac_lower.specs.tools.Well.{IsSmallTyping}
use Rattle.tac_lower.proofs.emitted.Weights.{weight, total, total_at, deref_weight, index_weight, field_weight, arrow_weight, read_weight, decay_weight, address_weight, prefix_weight, binary_weight, call_weight, new_weight}
use Rattle.tac_lower.proofs.emitted.WellParts.{expr_at, expr_small, deref_well, index_pointer_well, index_well, field_well, arrow_well, read_well, decay_well, address_well, prefix_well, left_well, right_well, call_well, new_well}
use Rattle.tac_lower.proofs.writer.Writer.+values.Goals as goal

pub expr-returns-in-Deref : goal.expr-returns-in-Deref
expr-returns-in-Deref t c = λ ends.
    subst (λ y. Yields (y c.args.line) ends c.args.self.now c.value.new.self c.left.result) (sym (levels.deref_is (sizes_in c.args.structs.now) c.args.e.now c.in-Deref.pointer c.in-Deref.is))
    (subst (λ r. Yields (left ((value c.args.line (expr (sizes_in c.args.structs.now) c.in-Deref.pointer)))) ends c.args.self.now c.value.new.self r) (sym c.left.ensures)
    (leaves ((value c.args.line (expr (sizes_in c.args.structs.now) c.in-Deref.pointer))) ends c.args.self.now c.value.new.self c.value.result
    (c.value.ensures ends)))

pub expr-returns-in_ok-b-in-Index : goal.expr-returns-in_ok-b-in-Index
expr-returns-in_ok-b-in-Index t c = λ ends.
    subst (λ y. Yields (y c.args.line) ends c.args.self.now c.index.new.self c.left-in-Index.result) (sym (levels.index_is (sizes_in c.args.structs.now) c.args.e.now c.in-Index.pointer c.in-Index.index c.in-Index.is))
    (subst (λ r. Yields (left ((value c.args.line (expr (sizes_in c.args.structs.now) c.in-Index.pointer)) ▷ λ a. (value c.args.line (expr (sizes_in c.args.structs.now) c.in-Index.index)) ▷ λ b. i.index c.args.line (words_of (sizes_in c.args.structs.now) (object_of (expr (sizes_in c.args.structs.now) c.in-Index.pointer).typing)) a b)) ends c.args.self.now c.index.new.self r) (sym c.left-in-Index.ensures)
    (leaves ((value c.args.line (expr (sizes_in c.args.structs.now) c.in-Index.pointer)) ▷ λ a. (value c.args.line (expr (sizes_in c.args.structs.now) c.in-Index.index)) ▷ λ b. i.index c.args.line (words_of (sizes_in c.args.structs.now) (object_of (expr (sizes_in c.args.structs.now) c.in-Index.pointer).typing)) a b) ends c.args.self.now c.index.new.self c.index.result
    ((follow 0 ((value c.args.line (expr (sizes_in c.args.structs.now) c.in-Index.pointer))) (λ a. (value c.args.line (expr (sizes_in c.args.structs.now) c.in-Index.index)) ▷ λ b. i.index c.args.line (words_of (sizes_in c.args.structs.now) (object_of (expr (sizes_in c.args.structs.now) c.in-Index.pointer).typing)) a b) ends c.args.self.now c.value-in-Index.new.self c.index.new.self c.in_ok-a-in-Index.a c.index.result (λ x. refl)
    (c.in_ok-a-in-Index.ensures ends)
    ((follow 0 ((value c.args.line (expr (sizes_in c.args.structs.now) c.in-Index.index))) (λ b. i.index c.args.line (words_of (sizes_in c.args.structs.now) (object_of (expr (sizes_in c.args.structs.now) c.in-Index.pointer).typing)) c.in_ok-a-in-Index.a b) ends c.value-in-Index.new.self c.value-in-Index-2.new.self c.index.new.self c.in_ok-b-in-Index.b c.index.result (λ x. refl)
    (c.in_ok-b-in-Index.ensures ends)
    (subst (λ w. Emits (i.index c.args.line w c.in_ok-a-in-Index.a c.in_ok-b-in-Index.b) ends c.value-in-Index-2.new.self c.index.new.self c.index.result) (c.words_behind-words.ensures ∙ ap (λ t. words_of (sizes_in c.args.structs.now) (object_of t)) (ap (λ x. x.typing) c.get.ensures ∙ sym (typing_is (sizes_in c.args.structs.now) c.in-Index.pointer))) (c.index.ensures ends))))))))

pub expr-returns-in_err-a-in-Index : goal.expr-returns-in_err-a-in-Index
expr-returns-in_err-a-in-Index t c = λ ends.
    let told : c.from_residual.result ≡ Err c.in_err-a-in-Index.field-0.0 = search rules in
    subst (λ y. Yields (y c.args.line) ends c.args.self.now c.value-in-Index.new.self c.from_residual.result) (sym (levels.index_is (sizes_in c.args.structs.now) c.args.e.now c.in-Index.pointer c.in-Index.index c.in-Index.is))
    (subst (λ r. Yields (left ((value c.args.line (expr (sizes_in c.args.structs.now) c.in-Index.pointer)) ▷ λ a. (value c.args.line (expr (sizes_in c.args.structs.now) c.in-Index.index)) ▷ λ b. i.index c.args.line (words_of (sizes_in c.args.structs.now) (object_of (expr (sizes_in c.args.structs.now) c.in-Index.pointer).typing)) a b)) ends c.args.self.now c.value-in-Index.new.self r) (sym told)
    (leaves_stopped ((value c.args.line (expr (sizes_in c.args.structs.now) c.in-Index.pointer)) ▷ λ a. (value c.args.line (expr (sizes_in c.args.structs.now) c.in-Index.index)) ▷ λ b. i.index c.args.line (words_of (sizes_in c.args.structs.now) (object_of (expr (sizes_in c.args.structs.now) c.in-Index.pointer).typing)) a b) ends c.args.self.now c.value-in-Index.new.self c.in_err-a-in-Index.field-0.0
    ((stopped 0 ((value c.args.line (expr (sizes_in c.args.structs.now) c.in-Index.pointer))) (λ a. (value c.args.line (expr (sizes_in c.args.structs.now) c.in-Index.index)) ▷ λ b. i.index c.args.line (words_of (sizes_in c.args.structs.now) (object_of (expr (sizes_in c.args.structs.now) c.in-Index.pointer).typing)) a b) ends c.args.self.now c.value-in-Index.new.self c.in_err-a-in-Index.field-0.0 (c.in_err-a-in-Index.ensures ends)))))

pub expr-returns-in_err-b-in-Index : goal.expr-returns-in_err-b-in-Index
expr-returns-in_err-b-in-Index t c = λ ends.
    let told : c.from_residual-in_err-b-in-Index.result ≡ Err c.in_err-b-in-Index.field-0.0 = search rules in
    subst (λ y. Yields (y c.args.line) ends c.args.self.now c.value-in-Index-2.new.self c.from_residual-in_err-b-in-Index.result) (sym (levels.index_is (sizes_in c.args.structs.now) c.args.e.now c.in-Index.pointer c.in-Index.index c.in-Index.is))
    (subst (λ r. Yields (left ((value c.args.line (expr (sizes_in c.args.structs.now) c.in-Index.pointer)) ▷ λ a. (value c.args.line (expr (sizes_in c.args.structs.now) c.in-Index.index)) ▷ λ b. i.index c.args.line (words_of (sizes_in c.args.structs.now) (object_of (expr (sizes_in c.args.structs.now) c.in-Index.pointer).typing)) a b)) ends c.args.self.now c.value-in-Index-2.new.self r) (sym told)
    (leaves_stopped ((value c.args.line (expr (sizes_in c.args.structs.now) c.in-Index.pointer)) ▷ λ a. (value c.args.line (expr (sizes_in c.args.structs.now) c.in-Index.index)) ▷ λ b. i.index c.args.line (words_of (sizes_in c.args.structs.now) (object_of (expr (sizes_in c.args.structs.now) c.in-Index.pointer).typing)) a b) ends c.args.self.now c.value-in-Index-2.new.self c.in_err-b-in-Index.field-0.0
    ((follow 0 ((value c.args.line (expr (sizes_in c.args.structs.now) c.in-Index.pointer))) (λ a. (value c.args.line (expr (sizes_in c.args.structs.now) c.in-Index.index)) ▷ λ b. i.index c.args.line (words_of (sizes_in c.args.structs.now) (object_of (expr (sizes_in c.args.structs.now) c.in-Index.pointer).typing)) a b) ends c.args.self.now c.value-in-Index.new.self c.value-in-Index-2.new.self c.in_ok-a-in-Index.a (Err c.in_err-b-in-Index.field-0.0) (λ x. refl)
    (c.in_ok-a-in-Index.ensures ends)
    ((stopped 0 ((value c.args.line (expr (sizes_in c.args.structs.now) c.in-Index.index))) (λ b. i.index c.args.line (words_of (sizes_in c.args.structs.now) (object_of (expr (sizes_in c.args.structs.now) c.in-Index.pointer).typing)) c.in_ok-a-in-Index.a b) ends c.value-in-Index.new.self c.value-in-Index-2.new.self c.in_err-b-in-Index.field-0.0 (c.in_err-b-in-Index.ensures ends)))))))

pub expr-returns-in_ok-spot-in-Field : goal.expr-returns-in_ok-spot-in-Field
expr-returns-in_ok-spot-in-Field t c = λ ends.
    subst (λ y. Yields (y c.args.line) ends c.args.self.now c.part.new.self c.part.result) (sym (levels.field_is (sizes_in c.args.structs.now) c.args.e.now c.in-Field.whole c.in-Field.field c.in-Field.is))
    (yields_part c.args.line (object_of (expr (sizes_in c.args.structs.now) c.in-Field.whole).typing) c.in-Field.field ((expr (sizes_in c.args.structs.now) c.in-Field.whole).yield c.args.line) ends c.args.self.now c.expr.new.self c.part.new.self c.in_ok-spot-in-Field.spot c.part.result
    (subst (λ x. Yields ((expr (sizes_in c.args.structs.now) x).yield c.args.line) ends c.args.self.now c.expr.new.self (Ok c.in_ok-spot-in-Field.spot)) c.get-in-Field.ensures (c.in_ok-spot-in-Field.ensures ends))
    (subst (λ t. Yields (part_at c.args.line (object_of t) c.in-Field.field c.in_ok-spot-in-Field.spot) ends c.expr.new.self c.part.new.self c.part.result) (ap (λ x. x.typing) c.get-in-Field-2.ensures ∙ sym (typing_is (sizes_in c.args.structs.now) c.in-Field.whole)) (c.part.ensures ends)))

pub expr-returns-in_err-spot-in-Field : goal.expr-returns-in_err-spot-in-Field
expr-returns-in_err-spot-in-Field t c = λ ends.
    let told : c.from_residual-in_err-spot-in-Field.result ≡ Err c.in_err-spot-in-Field.field-0.0 = search rules in
    subst (λ y. Yields (y c.args.line) ends c.args.self.now c.expr.new.self c.from_residual-in_err-spot-in-Field.result) (sym (levels.field_is (sizes_in c.args.structs.now) c.args.e.now c.in-Field.whole c.in-Field.field c.in-Field.is))
    (subst (λ r. Yields (part_of c.args.line (object_of (expr (sizes_in c.args.structs.now) c.in-Field.whole).typing) c.in-Field.field ((expr (sizes_in c.args.structs.now) c.in-Field.whole).yield c.args.line)) ends c.args.self.now c.expr.new.self r) (sym told)
    (part_stopped c.args.line (object_of (expr (sizes_in c.args.structs.now) c.in-Field.whole).typing) c.in-Field.field ((expr (sizes_in c.args.structs.now) c.in-Field.whole).yield c.args.line) ends c.args.self.now c.expr.new.self c.in_err-spot-in-Field.field-0.0
    (subst (λ x. Yields ((expr (sizes_in c.args.structs.now) x).yield c.args.line) ends c.args.self.now c.expr.new.self (Err c.in_err-spot-in-Field.field-0.0)) c.get-in-Field.ensures (c.in_err-spot-in-Field.ensures ends))))

pub expr-returns-in_ok-a-in-Arrow : goal.expr-returns-in_ok-a-in-Arrow
expr-returns-in_ok-a-in-Arrow t c = λ ends.
    subst (λ y. Yields (y c.args.line) ends c.args.self.now c.field.new.self c.left-in-Arrow.result) (sym (levels.arrow_is (sizes_in c.args.structs.now) c.args.e.now c.in-Arrow.pointer c.in-Arrow.field c.in-Arrow.is))
    (subst (λ r. Yields (left ((value c.args.line (expr (sizes_in c.args.structs.now) c.in-Arrow.pointer)) ▷ λ a. i.field c.args.line (object_of (expr (sizes_in c.args.structs.now) c.in-Arrow.pointer).typing) c.in-Arrow.field a)) ends c.args.self.now c.field.new.self r) (sym c.left-in-Arrow.ensures)
    (leaves ((value c.args.line (expr (sizes_in c.args.structs.now) c.in-Arrow.pointer)) ▷ λ a. i.field c.args.line (object_of (expr (sizes_in c.args.structs.now) c.in-Arrow.pointer).typing) c.in-Arrow.field a) ends c.args.self.now c.field.new.self c.field.result
    ((follow 0 ((value c.args.line (expr (sizes_in c.args.structs.now) c.in-Arrow.pointer))) (λ a. i.field c.args.line (object_of (expr (sizes_in c.args.structs.now) c.in-Arrow.pointer).typing) c.in-Arrow.field a) ends c.args.self.now c.value-in-Arrow.new.self c.field.new.self c.in_ok-a-in-Arrow.a c.field.result (λ x. refl)
    (c.in_ok-a-in-Arrow.ensures ends)
    (subst (λ t. Emits (i.field c.args.line (object_of t) c.in-Arrow.field c.in_ok-a-in-Arrow.a) ends c.value-in-Arrow.new.self c.field.new.self c.field.result) (ap (λ x. x.typing) c.get-in-Arrow.ensures ∙ sym (typing_is (sizes_in c.args.structs.now) c.in-Arrow.pointer)) (c.field.ensures ends))))))

pub expr-returns-in_err-a-in-Arrow : goal.expr-returns-in_err-a-in-Arrow
expr-returns-in_err-a-in-Arrow t c = λ ends.
    let told : c.from_residual-in_err-a-in-Arrow.result ≡ Err c.in_err-a-in-Arrow.field-0.0 = search rules in
    subst (λ y. Yields (y c.args.line) ends c.args.self.now c.value-in-Arrow.new.self c.from_residual-in_err-a-in-Arrow.result) (sym (levels.arrow_is (sizes_in c.args.structs.now) c.args.e.now c.in-Arrow.pointer c.in-Arrow.field c.in-Arrow.is))
    (subst (λ r. Yields (left ((value c.args.line (expr (sizes_in c.args.structs.now) c.in-Arrow.pointer)) ▷ λ a. i.field c.args.line (object_of (expr (sizes_in c.args.structs.now) c.in-Arrow.pointer).typing) c.in-Arrow.field a)) ends c.args.self.now c.value-in-Arrow.new.self r) (sym told)
    (leaves_stopped ((value c.args.line (expr (sizes_in c.args.structs.now) c.in-Arrow.pointer)) ▷ λ a. i.field c.args.line (object_of (expr (sizes_in c.args.structs.now) c.in-Arrow.pointer).typing) c.in-Arrow.field a) ends c.args.self.now c.value-in-Arrow.new.self c.in_err-a-in-Arrow.field-0.0
    ((stopped 0 ((value c.args.line (expr (sizes_in c.args.structs.now) c.in-Arrow.pointer))) (λ a. i.field c.args.line (object_of (expr (sizes_in c.args.structs.now) c.in-Arrow.pointer).typing) c.in-Arrow.field a) ends c.args.self.now c.value-in-Arrow.new.self c.in_err-a-in-Arrow.field-0.0 (c.in_err-a-in-Arrow.ensures ends)))))

pub expr-returns-in-Number : goal.expr-returns-in-Number
expr-returns-in-Number t c = λ ends.
    subst (λ y. Yields (y c.args.line) ends c.args.self.now c.constant.new.self c.left-in-Number.result) (sym (levels.number_is (sizes_in c.args.structs.now) c.args.e.now c.in-Number.k c.in-Number.is))
    (subst (λ r. Yields (left (i.constant c.args.line c.in-Number.k)) ends c.args.self.now c.constant.new.self r) (sym c.left-in-Number.ensures)
    (leaves (i.constant c.args.line c.in-Number.k) ends c.args.self.now c.constant.new.self c.constant.result
    (subst (λ k. Emits (i.constant c.args.line k) ends c.args.self.now c.constant.new.self c.constant.result) (let same : to_z w32 (of_z w32 c.in-Number.k) ≡ c.in-Number.k = search rules in same) (c.constant.ensures ends))))

pub expr-returns-in-Null : goal.expr-returns-in-Null
expr-returns-in-Null t c = λ ends.
    subst (λ y. Yields (y c.args.line) ends c.args.self.now c.fresh.new.self c.left-in-Null.result) (sym (levels.null_is (sizes_in c.args.structs.now) c.args.e.now c.in-Null.is))
    (subst (λ r. Yields (left (i.null c.args.line)) ends c.args.self.now c.fresh.new.self r) (sym c.left-in-Null.ensures)
    (leaves (i.null c.args.line) ends c.args.self.now c.fresh.new.self c.fresh.result
    (c.fresh.ensures ends)))

pub expr-returns-in-GetInt : goal.expr-returns-in-GetInt
expr-returns-in-GetInt t c = λ ends.
    subst (λ y. Yields (y c.args.line) ends c.args.self.now c.fresh-in-GetInt.new.self c.left-in-GetInt.result) (sym (levels.getint_is (sizes_in c.args.structs.now) c.args.e.now c.in-GetInt.is))
    (subst (λ r. Yields (left (i.fresh c.args.line (λ t. Instr.In t))) ends c.args.self.now c.fresh-in-GetInt.new.self r) (sym c.left-in-GetInt.ensures)
    (leaves (i.fresh c.args.line (λ t. Instr.In t)) ends c.args.self.now c.fresh-in-GetInt.new.self c.fresh-in-GetInt.result
    (c.fresh-in-GetInt.ensures ends)))

pub expr-returns-in-Left : goal.expr-returns-in-Left
expr-returns-in-Left t c = λ ends.
    subst (λ y. Yields (y c.args.line) ends c.args.self.now c.fresh-in-Left.new.self c.left-in-Left.result) (sym (levels.left_is (sizes_in c.args.structs.now) c.args.e.now c.in-Left.is))
    (subst (λ r. Yields (left (i.fresh c.args.line (λ t. Instr.Left t))) ends c.args.self.now c.fresh-in-Left.new.self r) (sym c.left-in-Left.ensures)
    (leaves (i.fresh c.args.line (λ t. Instr.Left t)) ends c.args.self.now c.fresh-in-Left.new.self c.fresh-in-Left.result
    (c.fresh-in-Left.ensures ends)))

pub expr-returns-in_ok-spot-in-Read : goal.expr-returns-in_ok-spot-in-Read
expr-returns-in_ok-spot-in-Read t c = λ ends.
    subst (λ y. Yields (y c.args.line) ends c.args.self.now c.read.new.self c.left-in-Read.result) (sym (levels.read_is (sizes_in c.args.structs.now) c.args.e.now c.in-Read.place c.in-Read.is))
    (subst (λ r. Yields (left (read c.args.line ((expr (sizes_in c.args.structs.now) c.in-Read.place).yield c.args.line))) ends c.args.self.now c.read.new.self r) (sym c.left-in-Read.ensures)
    (leaves (read c.args.line ((expr (sizes_in c.args.structs.now) c.in-Read.place).yield c.args.line)) ends c.args.self.now c.read.new.self c.read.result
    (yields ((expr (sizes_in c.args.structs.now) c.in-Read.place).yield c.args.line) (λ p. i.get c.args.line p) (λ a. i.load c.args.line a) ends c.args.self.now c.expr-in-Read.new.self c.read.new.self c.in_ok-spot-in-Read.spot c.read.result (λ x. refl)
    (subst (λ x. Yields ((expr (sizes_in c.args.structs.now) x).yield c.args.line) ends c.args.self.now c.expr-in-Read.new.self (Ok c.in_ok-spot-in-Read.spot)) c.get-in-Read.ensures (c.in_ok-spot-in-Read.ensures ends))
    (c.read.ensures ends))))

pub expr-returns-in_err-spot-in-Read : goal.expr-returns-in_err-spot-in-Read
expr-returns-in_err-spot-in-Read t c = λ ends.
    let told : c.from_residual-in_err-spot-in-Read.result ≡ Err c.in_err-spot-in-Read.field-0.0 = search rules in
    subst (λ y. Yields (y c.args.line) ends c.args.self.now c.expr-in-Read.new.self c.from_residual-in_err-spot-in-Read.result) (sym (levels.read_is (sizes_in c.args.structs.now) c.args.e.now c.in-Read.place c.in-Read.is))
    (subst (λ r. Yields (left (read c.args.line ((expr (sizes_in c.args.structs.now) c.in-Read.place).yield c.args.line))) ends c.args.self.now c.expr-in-Read.new.self r) (sym told)
    (leaves_stopped (read c.args.line ((expr (sizes_in c.args.structs.now) c.in-Read.place).yield c.args.line)) ends c.args.self.now c.expr-in-Read.new.self c.in_err-spot-in-Read.field-0.0
    (yields_stopped ((expr (sizes_in c.args.structs.now) c.in-Read.place).yield c.args.line) (λ p. i.get c.args.line p) (λ a. i.load c.args.line a) ends c.args.self.now c.expr-in-Read.new.self c.in_err-spot-in-Read.field-0.0
    (subst (λ x. Yields ((expr (sizes_in c.args.structs.now) x).yield c.args.line) ends c.args.self.now c.expr-in-Read.new.self (Err c.in_err-spot-in-Read.field-0.0)) c.get-in-Read.ensures (c.in_err-spot-in-Read.ensures ends)))))

pub expr-returns-in_ok-spot-in-Address : goal.expr-returns-in_ok-spot-in-Address
expr-returns-in_ok-spot-in-Address t c = λ ends.
    subst (λ y. Yields (y c.args.line) ends c.args.self.now c.pointer_to-in-Address.new.self c.left-in-Address.result) (sym (levels.address_is (sizes_in c.args.structs.now) c.args.e.now c.in-Address.place c.in-Address.is))
    (subst (λ r. Yields (left (pointer_to c.args.line ((expr (sizes_in c.args.structs.now) c.in-Address.place).yield c.args.line))) ends c.args.self.now c.pointer_to-in-Address.new.self r) (sym c.left-in-Address.ensures)
    (leaves (pointer_to c.args.line ((expr (sizes_in c.args.structs.now) c.in-Address.place).yield c.args.line)) ends c.args.self.now c.pointer_to-in-Address.new.self c.pointer_to-in-Address.result
    (yields ((expr (sizes_in c.args.structs.now) c.in-Address.place).yield c.args.line) (λ p. i.address c.args.line p) given ends c.args.self.now c.expr-in-Address.new.self c.pointer_to-in-Address.new.self c.in_ok-spot-in-Address.spot c.pointer_to-in-Address.result (λ x. refl)
    (subst (λ x. Yields ((expr (sizes_in c.args.structs.now) x).yield c.args.line) ends c.args.self.now c.expr-in-Address.new.self (Ok c.in_ok-spot-in-Address.spot)) c.get-in-Address.ensures (c.in_ok-spot-in-Address.ensures ends))
    (c.pointer_to-in-Address.ensures ends))))

pub expr-returns-in_err-spot-in-Address : goal.expr-returns-in_err-spot-in-Address
expr-returns-in_err-spot-in-Address t c = λ ends.
    let told : c.from_residual-in_err-spot-in-Address.result ≡ Err c.in_err-spot-in-Address.field-0.0 = search rules in
    subst (λ y. Yields (y c.args.line) ends c.args.self.now c.expr-in-Address.new.self c.from_residual-in_err-spot-in-Address.result) (sym (levels.address_is (sizes_in c.args.structs.now) c.args.e.now c.in-Address.place c.in-Address.is))
    (subst (λ r. Yields (left (pointer_to c.args.line ((expr (sizes_in c.args.structs.now) c.in-Address.place).yield c.args.line))) ends c.args.self.now c.expr-in-Address.new.self r) (sym told)
    (leaves_stopped (pointer_to c.args.line ((expr (sizes_in c.args.structs.now) c.in-Address.place).yield c.args.line)) ends c.args.self.now c.expr-in-Address.new.self c.in_err-spot-in-Address.field-0.0
    (yields_stopped ((expr (sizes_in c.args.structs.now) c.in-Address.place).yield c.args.line) (λ p. i.address c.args.line p) given ends c.args.self.now c.expr-in-Address.new.self c.in_err-spot-in-Address.field-0.0
    (subst (λ x. Yields ((expr (sizes_in c.args.structs.now) x).yield c.args.line) ends c.args.self.now c.expr-in-Address.new.self (Err c.in_err-spot-in-Address.field-0.0)) c.get-in-Address.ensures (c.in_err-spot-in-Address.ensures ends)))))

pub expr-returns-in_ok-a-in-Decay : goal.expr-returns-in_ok-a-in-Decay
expr-returns-in_ok-a-in-Decay t c = λ ends.
    subst (λ y. Yields (y c.args.line) ends c.args.self.now c.decay.new.self c.left-in-Decay.result) (sym (levels.decay_is (sizes_in c.args.structs.now) c.args.e.now c.in-Decay.place c.in-Decay.is))
    (subst (λ r. Yields (left (pointer_to c.args.line ((expr (sizes_in c.args.structs.now) c.in-Decay.place).yield c.args.line) ▷ λ a. i.decay c.args.line (object_of (expr (sizes_in c.args.structs.now) c.in-Decay.place).typing) a)) ends c.args.self.now c.decay.new.self r) (sym c.left-in-Decay.ensures)
    (leaves (pointer_to c.args.line ((expr (sizes_in c.args.structs.now) c.in-Decay.place).yield c.args.line) ▷ λ a. i.decay c.args.line (object_of (expr (sizes_in c.args.structs.now) c.in-Decay.place).typing) a) ends c.args.self.now c.decay.new.self c.decay.result
    ((follow 0 (pointer_to c.args.line ((expr (sizes_in c.args.structs.now) c.in-Decay.place).yield c.args.line)) (λ a. i.decay c.args.line (object_of (expr (sizes_in c.args.structs.now) c.in-Decay.place).typing) a) ends c.args.self.now c.pointer_to.new.self c.decay.new.self c.in_ok-a-in-Decay.a c.decay.result (λ x. refl)
    (yields ((expr (sizes_in c.args.structs.now) c.in-Decay.place).yield c.args.line) (λ p. i.address c.args.line p) given ends c.args.self.now c.expr-in-Decay.new.self c.pointer_to.new.self c.in_ok-spot-in-Decay.spot (Ok c.in_ok-a-in-Decay.a) (λ x. refl)
    (subst (λ x. Yields ((expr (sizes_in c.args.structs.now) x).yield c.args.line) ends c.args.self.now c.expr-in-Decay.new.self (Ok c.in_ok-spot-in-Decay.spot)) c.get-in-Decay.ensures (c.in_ok-spot-in-Decay.ensures ends))
    (c.in_ok-a-in-Decay.ensures ends))
    (subst (λ t. Emits (i.decay c.args.line (object_of t) c.in_ok-a-in-Decay.a) ends c.pointer_to.new.self c.decay.new.self c.decay.result) (ap (λ x. x.typing) c.get-in-Decay-2.ensures ∙ sym (typing_is (sizes_in c.args.structs.now) c.in-Decay.place)) (c.decay.ensures ends))))))

pub expr-returns-in_err-spot-in-Decay : goal.expr-returns-in_err-spot-in-Decay
expr-returns-in_err-spot-in-Decay t c = λ ends.
    let told : c.from_residual-in_err-spot-in-Decay.result ≡ Err c.in_err-spot-in-Decay.field-0.0 = search rules in
    subst (λ y. Yields (y c.args.line) ends c.args.self.now c.expr-in-Decay.new.self c.from_residual-in_err-spot-in-Decay.result) (sym (levels.decay_is (sizes_in c.args.structs.now) c.args.e.now c.in-Decay.place c.in-Decay.is))
    (subst (λ r. Yields (left (pointer_to c.args.line ((expr (sizes_in c.args.structs.now) c.in-Decay.place).yield c.args.line) ▷ λ a. i.decay c.args.line (object_of (expr (sizes_in c.args.structs.now) c.in-Decay.place).typing) a)) ends c.args.self.now c.expr-in-Decay.new.self r) (sym told)
    (leaves_stopped (pointer_to c.args.line ((expr (sizes_in c.args.structs.now) c.in-Decay.place).yield c.args.line) ▷ λ a. i.decay c.args.line (object_of (expr (sizes_in c.args.structs.now) c.in-Decay.place).typing) a) ends c.args.self.now c.expr-in-Decay.new.self c.in_err-spot-in-Decay.field-0.0
    ((stopped 0 (pointer_to c.args.line ((expr (sizes_in c.args.structs.now) c.in-Decay.place).yield c.args.line)) (λ a. i.decay c.args.line (object_of (expr (sizes_in c.args.structs.now) c.in-Decay.place).typing) a) ends c.args.self.now c.expr-in-Decay.new.self c.in_err-spot-in-Decay.field-0.0 (yields_stopped ((expr (sizes_in c.args.structs.now) c.in-Decay.place).yield c.args.line) (λ p. i.address c.args.line p) given ends c.args.self.now c.expr-in-Decay.new.self c.in_err-spot-in-Decay.field-0.0
    (subst (λ x. Yields ((expr (sizes_in c.args.structs.now) x).yield c.args.line) ends c.args.self.now c.expr-in-Decay.new.self (Err c.in_err-spot-in-Decay.field-0.0)) c.get-in-Decay.ensures (c.in_err-spot-in-Decay.ensures ends)))))))

pub expr-returns-in_err-a-in-Decay : goal.expr-returns-in_err-a-in-Decay
expr-returns-in_err-a-in-Decay t c = λ ends.
    let told : c.from_residual-in_err-a-in-Decay.result ≡ Err c.in_err-a-in-Decay.field-0.0 = search rules in
    subst (λ y. Yields (y c.args.line) ends c.args.self.now c.pointer_to.new.self c.from_residual-in_err-a-in-Decay.result) (sym (levels.decay_is (sizes_in c.args.structs.now) c.args.e.now c.in-Decay.place c.in-Decay.is))
    (subst (λ r. Yields (left (pointer_to c.args.line ((expr (sizes_in c.args.structs.now) c.in-Decay.place).yield c.args.line) ▷ λ a. i.decay c.args.line (object_of (expr (sizes_in c.args.structs.now) c.in-Decay.place).typing) a)) ends c.args.self.now c.pointer_to.new.self r) (sym told)
    (leaves_stopped (pointer_to c.args.line ((expr (sizes_in c.args.structs.now) c.in-Decay.place).yield c.args.line) ▷ λ a. i.decay c.args.line (object_of (expr (sizes_in c.args.structs.now) c.in-Decay.place).typing) a) ends c.args.self.now c.pointer_to.new.self c.in_err-a-in-Decay.field-0.0
    ((stopped 0 (pointer_to c.args.line ((expr (sizes_in c.args.structs.now) c.in-Decay.place).yield c.args.line)) (λ a. i.decay c.args.line (object_of (expr (sizes_in c.args.structs.now) c.in-Decay.place).typing) a) ends c.args.self.now c.pointer_to.new.self c.in_err-a-in-Decay.field-0.0 (yields ((expr (sizes_in c.args.structs.now) c.in-Decay.place).yield c.args.line) (λ p. i.address c.args.line p) given ends c.args.self.now c.expr-in-Decay.new.self c.pointer_to.new.self c.in_ok-spot-in-Decay.spot (Err c.in_err-a-in-Decay.field-0.0) (λ x. refl)
    (subst (λ x. Yields ((expr (sizes_in c.args.structs.now) x).yield c.args.line) ends c.args.self.now c.expr-in-Decay.new.self (Ok c.in_ok-spot-in-Decay.spot)) c.get-in-Decay.ensures (c.in_ok-spot-in-Decay.ensures ends))
    (c.in_err-a-in-Decay.ensures ends))))))

pub expr-returns-in_ok-a-in-Prefix : goal.expr-returns-in_ok-a-in-Prefix
expr-returns-in_ok-a-in-Prefix t c = λ ends.
    subst (λ y. Yields (y c.args.line) ends c.args.self.now c.prefix.new.self c.left-in-Prefix.result) (sym (levels.prefix_is (sizes_in c.args.structs.now) c.args.e.now c.in-Prefix.op c.in-Prefix.operand c.in-Prefix.is))
    (subst (λ r. Yields (left ((value c.args.line (expr (sizes_in c.args.structs.now) c.in-Prefix.operand)) ▷ λ a. prefix c.args.line c.in-Prefix.op (expr (sizes_in c.args.structs.now) c.in-Prefix.operand).typing a)) ends c.args.self.now c.prefix.new.self r) (sym c.left-in-Prefix.ensures)
    (leaves ((value c.args.line (expr (sizes_in c.args.structs.now) c.in-Prefix.operand)) ▷ λ a. prefix c.args.line c.in-Prefix.op (expr (sizes_in c.args.structs.now) c.in-Prefix.operand).typing a) ends c.args.self.now c.prefix.new.self c.prefix.result
    ((follow 0 ((value c.args.line (expr (sizes_in c.args.structs.now) c.in-Prefix.operand))) (λ a. prefix c.args.line c.in-Prefix.op (expr (sizes_in c.args.structs.now) c.in-Prefix.operand).typing a) ends c.args.self.now c.value-in-Prefix.new.self c.prefix.new.self c.in_ok-a-in-Prefix.a c.prefix.result (prefix_counts c.args.line c.in-Prefix.op (expr (sizes_in c.args.structs.now) c.in-Prefix.operand).typing)
    (c.in_ok-a-in-Prefix.ensures ends)
    (subst (λ t. Emits (prefix c.args.line c.in-Prefix.op t c.in_ok-a-in-Prefix.a) ends c.value-in-Prefix.new.self c.prefix.new.self c.prefix.result) (ap (λ x. x.typing) c.get-in-Prefix.ensures ∙ sym (typing_is (sizes_in c.args.structs.now) c.in-Prefix.operand)) (c.prefix.ensures ends))))))

pub expr-returns-in_err-a-in-Prefix : goal.expr-returns-in_err-a-in-Prefix
expr-returns-in_err-a-in-Prefix t c = λ ends.
    let told : c.from_residual-in_err-a-in-Prefix.result ≡ Err c.in_err-a-in-Prefix.field-0.0 = search rules in
    subst (λ y. Yields (y c.args.line) ends c.args.self.now c.value-in-Prefix.new.self c.from_residual-in_err-a-in-Prefix.result) (sym (levels.prefix_is (sizes_in c.args.structs.now) c.args.e.now c.in-Prefix.op c.in-Prefix.operand c.in-Prefix.is))
    (subst (λ r. Yields (left ((value c.args.line (expr (sizes_in c.args.structs.now) c.in-Prefix.operand)) ▷ λ a. prefix c.args.line c.in-Prefix.op (expr (sizes_in c.args.structs.now) c.in-Prefix.operand).typing a)) ends c.args.self.now c.value-in-Prefix.new.self r) (sym told)
    (leaves_stopped ((value c.args.line (expr (sizes_in c.args.structs.now) c.in-Prefix.operand)) ▷ λ a. prefix c.args.line c.in-Prefix.op (expr (sizes_in c.args.structs.now) c.in-Prefix.operand).typing a) ends c.args.self.now c.value-in-Prefix.new.self c.in_err-a-in-Prefix.field-0.0
    ((stopped 0 ((value c.args.line (expr (sizes_in c.args.structs.now) c.in-Prefix.operand))) (λ a. prefix c.args.line c.in-Prefix.op (expr (sizes_in c.args.structs.now) c.in-Prefix.operand).typing a) ends c.args.self.now c.value-in-Prefix.new.self c.in_err-a-in-Prefix.field-0.0 (c.in_err-a-in-Prefix.ensures ends)))))

pub expr-returns-in_ok-y-in-Both : goal.expr-returns-in_ok-y-in-Both
expr-returns-in_ok-y-in-Both t c = λ ends.
    subst (λ y. Yields (y c.args.line) ends c.args.self.now c.settle.new.self c.left-in-Both.result) (sym (levels.binary_is (sizes_in c.args.structs.now) c.args.e.now c.in-Binary.first c.in-Binary.op c.in-Binary.second c.in-Binary.is))
    (subst (λ r. Yields (left (binary (sizes_in c.args.structs.now) c.in-Binary.op (expr (sizes_in c.args.structs.now) c.in-Binary.first) (expr (sizes_in c.args.structs.now) c.in-Binary.second) c.args.line)) ends c.args.self.now c.settle.new.self r) (sym c.left-in-Both.ensures)
    (leaves (binary (sizes_in c.args.structs.now) c.in-Binary.op (expr (sizes_in c.args.structs.now) c.in-Binary.first) (expr (sizes_in c.args.structs.now) c.in-Binary.second) c.args.line) ends c.args.self.now c.settle.new.self c.settle.result
    (subst (λ g. Emits (binary_by g (sizes_in c.args.structs.now) c.in-Binary.op (expr (sizes_in c.args.structs.now) c.in-Binary.first) (expr (sizes_in c.args.structs.now) c.in-Binary.second) c.args.line) ends c.args.self.now c.settle.new.self c.settle.result) (ap skips_of (sym c.in-Both.is) ∙ c.logic_of.ensures)
    (follow 0 (truth c.args.line (expr (sizes_in c.args.structs.now) c.in-Binary.first)) (λ x. i.test c.args.line x ((truth c.args.line (expr (sizes_in c.args.structs.now) c.in-Binary.second)).points + 3) ⨟ truth c.args.line (expr (sizes_in c.args.structs.now) c.in-Binary.second) ▷ settled c.args.line) ends c.args.self.now c.truth.new.self c.settle.new.self c.in_ok-x-in-Both.x c.settle.result (λ x. refl)
    (c.in_ok-x-in-Both.ensures ends)
    ((follow 0 (i.test c.args.line c.in_ok-x-in-Both.x ((truth c.args.line (expr (sizes_in c.args.structs.now) c.in-Binary.second)).points + 3)) (λ u. truth c.args.line (expr (sizes_in c.args.structs.now) c.in-Binary.second) ▷ settled c.args.line) ends c.truth.new.self c.test.new.self c.settle.new.self c.in_ok-test-in-Both.field-0 c.settle.result (λ x. refl)
    (counted (λ k. i.test c.args.line c.in_ok-x-in-Both.x (k + 3)) (truth c.args.line (expr (sizes_in c.args.structs.now) c.in-Binary.second)).points c.in_ok-past-in-Both.past ends c.truth.new.self c.test.new.self c.in_ok-test-in-Both.field-0 (λ x. refl) (c.in_ok-past-in-Both.ensures) (c.in_ok-test-in-Both.ensures ends))
    ((follow 0 (truth c.args.line (expr (sizes_in c.args.structs.now) c.in-Binary.second)) (settled c.args.line) ends c.test.new.self c.truth-in-Both.new.self c.settle.new.self c.in_ok-y-in-Both.y c.settle.result (λ x. refl)
    (c.in_ok-y-in-Both.ensures ends)
    (c.settle.ensures ends)))))))))

pub expr-returns-in_err-x-in-Both : goal.expr-returns-in_err-x-in-Both
expr-returns-in_err-x-in-Both t c = λ ends.
    let told : c.from_residual-in_err-x-in-Both.result ≡ Err c.in_err-x-in-Both.field-0.0 = search rules in
    subst (λ y. Yields (y c.args.line) ends c.args.self.now c.truth.new.self c.from_residual-in_err-x-in-Both.result) (sym (levels.binary_is (sizes_in c.args.structs.now) c.args.e.now c.in-Binary.first c.in-Binary.op c.in-Binary.second c.in-Binary.is))
    (subst (λ r. Yields (left (binary (sizes_in c.args.structs.now) c.in-Binary.op (expr (sizes_in c.args.structs.now) c.in-Binary.first) (expr (sizes_in c.args.structs.now) c.in-Binary.second) c.args.line)) ends c.args.self.now c.truth.new.self r) (sym told)
    (leaves_stopped (binary (sizes_in c.args.structs.now) c.in-Binary.op (expr (sizes_in c.args.structs.now) c.in-Binary.first) (expr (sizes_in c.args.structs.now) c.in-Binary.second) c.args.line) ends c.args.self.now c.truth.new.self c.in_err-x-in-Both.field-0.0
    (subst (λ g. Emits (binary_by g (sizes_in c.args.structs.now) c.in-Binary.op (expr (sizes_in c.args.structs.now) c.in-Binary.first) (expr (sizes_in c.args.structs.now) c.in-Binary.second) c.args.line) ends c.args.self.now c.truth.new.self (Err c.in_err-x-in-Both.field-0.0)) (ap skips_of (sym c.in-Both.is) ∙ c.logic_of.ensures)
    (stopped 0 (truth c.args.line (expr (sizes_in c.args.structs.now) c.in-Binary.first)) (λ x. i.test c.args.line x ((truth c.args.line (expr (sizes_in c.args.structs.now) c.in-Binary.second)).points + 3) ⨟ truth c.args.line (expr (sizes_in c.args.structs.now) c.in-Binary.second) ▷ settled c.args.line) ends c.args.self.now c.truth.new.self c.in_err-x-in-Both.field-0.0 (c.in_err-x-in-Both.ensures ends)))))

pub expr-returns-in_err-past-in-Both : goal.expr-returns-in_err-past-in-Both
expr-returns-in_err-past-in-Both t c = λ ends.
    let told : c.from_residual-in_err-past-in-Both.result ≡ Err c.in_err-past-in-Both.field-0.0 = search rules in
    subst (λ y. Yields (y c.args.line) ends c.args.self.now c.truth.new.self c.from_residual-in_err-past-in-Both.result) (sym (levels.binary_is (sizes_in c.args.structs.now) c.args.e.now c.in-Binary.first c.in-Binary.op c.in-Binary.second c.in-Binary.is))
    (subst (λ r. Yields (left (binary (sizes_in c.args.structs.now) c.in-Binary.op (expr (sizes_in c.args.structs.now) c.in-Binary.first) (expr (sizes_in c.args.structs.now) c.in-Binary.second) c.args.line)) ends c.args.self.now c.truth.new.self r) (sym told)
    (leaves_stopped (binary (sizes_in c.args.structs.now) c.in-Binary.op (expr (sizes_in c.args.structs.now) c.in-Binary.first) (expr (sizes_in c.args.structs.now) c.in-Binary.second) c.args.line) ends c.args.self.now c.truth.new.self c.in_err-past-in-Both.field-0.0
    (subst (λ g. Emits (binary_by g (sizes_in c.args.structs.now) c.in-Binary.op (expr (sizes_in c.args.structs.now) c.in-Binary.first) (expr (sizes_in c.args.structs.now) c.in-Binary.second) c.args.line) ends c.args.self.now c.truth.new.self (Err c.in_err-past-in-Both.field-0.0)) (ap skips_of (sym c.in-Both.is) ∙ c.logic_of.ensures)
    (follow 0 (truth c.args.line (expr (sizes_in c.args.structs.now) c.in-Binary.first)) (λ x. i.test c.args.line x ((truth c.args.line (expr (sizes_in c.args.structs.now) c.in-Binary.second)).points + 3) ⨟ truth c.args.line (expr (sizes_in c.args.structs.now) c.in-Binary.second) ▷ settled c.args.line) ends c.args.self.now c.truth.new.self c.truth.new.self c.in_ok-x-in-Both.x (Err c.in_err-past-in-Both.field-0.0) (λ x. refl)
    (c.in_ok-x-in-Both.ensures ends)
    (too_long (truth c.args.line (expr (sizes_in c.args.structs.now) c.in-Binary.second)) (i.test c.args.line c.in_ok-x-in-Both.x ((truth c.args.line (expr (sizes_in c.args.structs.now) c.in-Binary.second)).points + 3) ⨟ truth c.args.line (expr (sizes_in c.args.structs.now) c.in-Binary.second) ▷ settled c.args.line) ends c.truth.new.self c.truth.new.self c.in_err-past-in-Both.field-0.0 (let h : (truth c.args.line (expr (sizes_in c.args.structs.now) c.in-Binary.second)).points ≤ 1 + ((truth c.args.line (expr (sizes_in c.args.structs.now) c.in-Binary.second)).points + 4) = omega arith in h) c.in_err-past-in-Both.ensures)))))

pub expr-returns-in_err-test-in-Both : goal.expr-returns-in_err-test-in-Both
expr-returns-in_err-test-in-Both t c = λ ends.
    let told : c.from_residual-in_err-test-in-Both.result ≡ Err c.in_err-test-in-Both.field-0.0 = search rules in
    subst (λ y. Yields (y c.args.line) ends c.args.self.now c.test.new.self c.from_residual-in_err-test-in-Both.result) (sym (levels.binary_is (sizes_in c.args.structs.now) c.args.e.now c.in-Binary.first c.in-Binary.op c.in-Binary.second c.in-Binary.is))
    (subst (λ r. Yields (left (binary (sizes_in c.args.structs.now) c.in-Binary.op (expr (sizes_in c.args.structs.now) c.in-Binary.first) (expr (sizes_in c.args.structs.now) c.in-Binary.second) c.args.line)) ends c.args.self.now c.test.new.self r) (sym told)
    (leaves_stopped (binary (sizes_in c.args.structs.now) c.in-Binary.op (expr (sizes_in c.args.structs.now) c.in-Binary.first) (expr (sizes_in c.args.structs.now) c.in-Binary.second) c.args.line) ends c.args.self.now c.test.new.self c.in_err-test-in-Both.field-0.0
    (subst (λ g. Emits (binary_by g (sizes_in c.args.structs.now) c.in-Binary.op (expr (sizes_in c.args.structs.now) c.in-Binary.first) (expr (sizes_in c.args.structs.now) c.in-Binary.second) c.args.line) ends c.args.self.now c.test.new.self (Err c.in_err-test-in-Both.field-0.0)) (ap skips_of (sym c.in-Both.is) ∙ c.logic_of.ensures)
    (follow 0 (truth c.args.line (expr (sizes_in c.args.structs.now) c.in-Binary.first)) (λ x. i.test c.args.line x ((truth c.args.line (expr (sizes_in c.args.structs.now) c.in-Binary.second)).points + 3) ⨟ truth c.args.line (expr (sizes_in c.args.structs.now) c.in-Binary.second) ▷ settled c.args.line) ends c.args.self.now c.truth.new.self c.test.new.self c.in_ok-x-in-Both.x (Err c.in_err-test-in-Both.field-0.0) (λ x. refl)
    (c.in_ok-x-in-Both.ensures ends)
    ((stopped 0 (i.test c.args.line c.in_ok-x-in-Both.x ((truth c.args.line (expr (sizes_in c.args.structs.now) c.in-Binary.second)).points + 3)) (λ u. truth c.args.line (expr (sizes_in c.args.structs.now) c.in-Binary.second) ▷ settled c.args.line) ends c.truth.new.self c.test.new.self c.in_err-test-in-Both.field-0.0 (counted_stopped (λ k. i.test c.args.line c.in_ok-x-in-Both.x (k + 3)) (truth c.args.line (expr (sizes_in c.args.structs.now) c.in-Binary.second)).points c.in_ok-past-in-Both.past ends c.truth.new.self c.test.new.self c.in_err-test-in-Both.field-0.0 (λ x. refl) (c.in_err-test-in-Both.ensures ends))))))))

pub expr-returns-in_err-y-in-Both : goal.expr-returns-in_err-y-in-Both
expr-returns-in_err-y-in-Both t c = λ ends.
    let told : c.from_residual-in_err-y-in-Both.result ≡ Err c.in_err-y-in-Both.field-0.0 = search rules in
    subst (λ y. Yields (y c.args.line) ends c.args.self.now c.truth-in-Both.new.self c.from_residual-in_err-y-in-Both.result) (sym (levels.binary_is (sizes_in c.args.structs.now) c.args.e.now c.in-Binary.first c.in-Binary.op c.in-Binary.second c.in-Binary.is))
    (subst (λ r. Yields (left (binary (sizes_in c.args.structs.now) c.in-Binary.op (expr (sizes_in c.args.structs.now) c.in-Binary.first) (expr (sizes_in c.args.structs.now) c.in-Binary.second) c.args.line)) ends c.args.self.now c.truth-in-Both.new.self r) (sym told)
    (leaves_stopped (binary (sizes_in c.args.structs.now) c.in-Binary.op (expr (sizes_in c.args.structs.now) c.in-Binary.first) (expr (sizes_in c.args.structs.now) c.in-Binary.second) c.args.line) ends c.args.self.now c.truth-in-Both.new.self c.in_err-y-in-Both.field-0.0
    (subst (λ g. Emits (binary_by g (sizes_in c.args.structs.now) c.in-Binary.op (expr (sizes_in c.args.structs.now) c.in-Binary.first) (expr (sizes_in c.args.structs.now) c.in-Binary.second) c.args.line) ends c.args.self.now c.truth-in-Both.new.self (Err c.in_err-y-in-Both.field-0.0)) (ap skips_of (sym c.in-Both.is) ∙ c.logic_of.ensures)
    (follow 0 (truth c.args.line (expr (sizes_in c.args.structs.now) c.in-Binary.first)) (λ x. i.test c.args.line x ((truth c.args.line (expr (sizes_in c.args.structs.now) c.in-Binary.second)).points + 3) ⨟ truth c.args.line (expr (sizes_in c.args.structs.now) c.in-Binary.second) ▷ settled c.args.line) ends c.args.self.now c.truth.new.self c.truth-in-Both.new.self c.in_ok-x-in-Both.x (Err c.in_err-y-in-Both.field-0.0) (λ x. refl)
    (c.in_ok-x-in-Both.ensures ends)
    ((follow 0 (i.test c.args.line c.in_ok-x-in-Both.x ((truth c.args.line (expr (sizes_in c.args.structs.now) c.in-Binary.second)).points + 3)) (λ u. truth c.args.line (expr (sizes_in c.args.structs.now) c.in-Binary.second) ▷ settled c.args.line) ends c.truth.new.self c.test.new.self c.truth-in-Both.new.self c.in_ok-test-in-Both.field-0 (Err c.in_err-y-in-Both.field-0.0) (λ x. refl)
    (counted (λ k. i.test c.args.line c.in_ok-x-in-Both.x (k + 3)) (truth c.args.line (expr (sizes_in c.args.structs.now) c.in-Binary.second)).points c.in_ok-past-in-Both.past ends c.truth.new.self c.test.new.self c.in_ok-test-in-Both.field-0 (λ x. refl) (c.in_ok-past-in-Both.ensures) (c.in_ok-test-in-Both.ensures ends))
    ((stopped 0 (truth c.args.line (expr (sizes_in c.args.structs.now) c.in-Binary.second)) (settled c.args.line) ends c.test.new.self c.truth-in-Both.new.self c.in_err-y-in-Both.field-0.0 (c.in_err-y-in-Both.ensures ends)))))))))

pub expr-returns-in_ok-y-in-Either : goal.expr-returns-in_ok-y-in-Either
expr-returns-in_ok-y-in-Either t c = λ ends.
    subst (λ y. Yields (y c.args.line) ends c.args.self.now c.settle-in-Either.new.self c.left-in-Either.result) (sym (levels.binary_is (sizes_in c.args.structs.now) c.args.e.now c.in-Binary.first c.in-Binary.op c.in-Binary.second c.in-Binary.is))
    (subst (λ r. Yields (left (binary (sizes_in c.args.structs.now) c.in-Binary.op (expr (sizes_in c.args.structs.now) c.in-Binary.first) (expr (sizes_in c.args.structs.now) c.in-Binary.second) c.args.line)) ends c.args.self.now c.settle-in-Either.new.self r) (sym c.left-in-Either.ensures)
    (leaves (binary (sizes_in c.args.structs.now) c.in-Binary.op (expr (sizes_in c.args.structs.now) c.in-Binary.first) (expr (sizes_in c.args.structs.now) c.in-Binary.second) c.args.line) ends c.args.self.now c.settle-in-Either.new.self c.settle-in-Either.result
    (subst (λ g. Emits (binary_by g (sizes_in c.args.structs.now) c.in-Binary.op (expr (sizes_in c.args.structs.now) c.in-Binary.first) (expr (sizes_in c.args.structs.now) c.in-Binary.second) c.args.line) ends c.args.self.now c.settle-in-Either.new.self c.settle-in-Either.result) (ap skips_of (sym c.in-Either.is) ∙ c.logic_of.ensures)
    (follow 0 (truth c.args.line (expr (sizes_in c.args.structs.now) c.in-Binary.first)) (λ x. i.test_past c.args.line x ((truth c.args.line (expr (sizes_in c.args.structs.now) c.in-Binary.second)).points + 1) ⨟ truth c.args.line (expr (sizes_in c.args.structs.now) c.in-Binary.second) ▷ settled c.args.line) ends c.args.self.now c.truth-in-Either.new.self c.settle-in-Either.new.self c.in_ok-x-in-Either.x c.settle-in-Either.result (λ x. refl)
    (c.in_ok-x-in-Either.ensures ends)
    ((follow 0 (i.test_past c.args.line c.in_ok-x-in-Either.x ((truth c.args.line (expr (sizes_in c.args.structs.now) c.in-Binary.second)).points + 1)) (λ u. truth c.args.line (expr (sizes_in c.args.structs.now) c.in-Binary.second) ▷ settled c.args.line) ends c.truth-in-Either.new.self c.test_past.new.self c.settle-in-Either.new.self c.in_ok-test_past-in-Either.field-0 c.settle-in-Either.result (λ x. refl)
    (counted (λ k. i.test_past c.args.line c.in_ok-x-in-Either.x (k + 1)) (truth c.args.line (expr (sizes_in c.args.structs.now) c.in-Binary.second)).points c.in_ok-past-in-Either.past ends c.truth-in-Either.new.self c.test_past.new.self c.in_ok-test_past-in-Either.field-0 (λ x. refl) (c.in_ok-past-in-Either.ensures) (c.in_ok-test_past-in-Either.ensures ends))
    ((follow 0 (truth c.args.line (expr (sizes_in c.args.structs.now) c.in-Binary.second)) (settled c.args.line) ends c.test_past.new.self c.truth-in-Either-2.new.self c.settle-in-Either.new.self c.in_ok-y-in-Either.y c.settle-in-Either.result (λ x. refl)
    (c.in_ok-y-in-Either.ensures ends)
    (c.settle-in-Either.ensures ends)))))))))

pub expr-returns-in_err-x-in-Either : goal.expr-returns-in_err-x-in-Either
expr-returns-in_err-x-in-Either t c = λ ends.
    let told : c.from_residual-in_err-x-in-Either.result ≡ Err c.in_err-x-in-Either.field-0.0 = search rules in
    subst (λ y. Yields (y c.args.line) ends c.args.self.now c.truth-in-Either.new.self c.from_residual-in_err-x-in-Either.result) (sym (levels.binary_is (sizes_in c.args.structs.now) c.args.e.now c.in-Binary.first c.in-Binary.op c.in-Binary.second c.in-Binary.is))
    (subst (λ r. Yields (left (binary (sizes_in c.args.structs.now) c.in-Binary.op (expr (sizes_in c.args.structs.now) c.in-Binary.first) (expr (sizes_in c.args.structs.now) c.in-Binary.second) c.args.line)) ends c.args.self.now c.truth-in-Either.new.self r) (sym told)
    (leaves_stopped (binary (sizes_in c.args.structs.now) c.in-Binary.op (expr (sizes_in c.args.structs.now) c.in-Binary.first) (expr (sizes_in c.args.structs.now) c.in-Binary.second) c.args.line) ends c.args.self.now c.truth-in-Either.new.self c.in_err-x-in-Either.field-0.0
    (subst (λ g. Emits (binary_by g (sizes_in c.args.structs.now) c.in-Binary.op (expr (sizes_in c.args.structs.now) c.in-Binary.first) (expr (sizes_in c.args.structs.now) c.in-Binary.second) c.args.line) ends c.args.self.now c.truth-in-Either.new.self (Err c.in_err-x-in-Either.field-0.0)) (ap skips_of (sym c.in-Either.is) ∙ c.logic_of.ensures)
    (stopped 0 (truth c.args.line (expr (sizes_in c.args.structs.now) c.in-Binary.first)) (λ x. i.test_past c.args.line x ((truth c.args.line (expr (sizes_in c.args.structs.now) c.in-Binary.second)).points + 1) ⨟ truth c.args.line (expr (sizes_in c.args.structs.now) c.in-Binary.second) ▷ settled c.args.line) ends c.args.self.now c.truth-in-Either.new.self c.in_err-x-in-Either.field-0.0 (c.in_err-x-in-Either.ensures ends)))))

pub expr-returns-in_err-past-in-Either : goal.expr-returns-in_err-past-in-Either
expr-returns-in_err-past-in-Either t c = λ ends.
    let told : c.from_residual-in_err-past-in-Either.result ≡ Err c.in_err-past-in-Either.field-0.0 = search rules in
    subst (λ y. Yields (y c.args.line) ends c.args.self.now c.truth-in-Either.new.self c.from_residual-in_err-past-in-Either.result) (sym (levels.binary_is (sizes_in c.args.structs.now) c.args.e.now c.in-Binary.first c.in-Binary.op c.in-Binary.second c.in-Binary.is))
    (subst (λ r. Yields (left (binary (sizes_in c.args.structs.now) c.in-Binary.op (expr (sizes_in c.args.structs.now) c.in-Binary.first) (expr (sizes_in c.args.structs.now) c.in-Binary.second) c.args.line)) ends c.args.self.now c.truth-in-Either.new.self r) (sym told)
    (leaves_stopped (binary (sizes_in c.args.structs.now) c.in-Binary.op (expr (sizes_in c.args.structs.now) c.in-Binary.first) (expr (sizes_in c.args.structs.now) c.in-Binary.second) c.args.line) ends c.args.self.now c.truth-in-Either.new.self c.in_err-past-in-Either.field-0.0
    (subst (λ g. Emits (binary_by g (sizes_in c.args.structs.now) c.in-Binary.op (expr (sizes_in c.args.structs.now) c.in-Binary.first) (expr (sizes_in c.args.structs.now) c.in-Binary.second) c.args.line) ends c.args.self.now c.truth-in-Either.new.self (Err c.in_err-past-in-Either.field-0.0)) (ap skips_of (sym c.in-Either.is) ∙ c.logic_of.ensures)
    (follow 0 (truth c.args.line (expr (sizes_in c.args.structs.now) c.in-Binary.first)) (λ x. i.test_past c.args.line x ((truth c.args.line (expr (sizes_in c.args.structs.now) c.in-Binary.second)).points + 1) ⨟ truth c.args.line (expr (sizes_in c.args.structs.now) c.in-Binary.second) ▷ settled c.args.line) ends c.args.self.now c.truth-in-Either.new.self c.truth-in-Either.new.self c.in_ok-x-in-Either.x (Err c.in_err-past-in-Either.field-0.0) (λ x. refl)
    (c.in_ok-x-in-Either.ensures ends)
    (too_long (truth c.args.line (expr (sizes_in c.args.structs.now) c.in-Binary.second)) (i.test_past c.args.line c.in_ok-x-in-Either.x ((truth c.args.line (expr (sizes_in c.args.structs.now) c.in-Binary.second)).points + 1) ⨟ truth c.args.line (expr (sizes_in c.args.structs.now) c.in-Binary.second) ▷ settled c.args.line) ends c.truth-in-Either.new.self c.truth-in-Either.new.self c.in_err-past-in-Either.field-0.0 (let h : (truth c.args.line (expr (sizes_in c.args.structs.now) c.in-Binary.second)).points ≤ 1 + ((truth c.args.line (expr (sizes_in c.args.structs.now) c.in-Binary.second)).points + 4) = omega arith in h) c.in_err-past-in-Either.ensures)))))

pub expr-returns-in_err-test_past-in-Either : goal.expr-returns-in_err-test_past-in-Either
expr-returns-in_err-test_past-in-Either t c = λ ends.
    let told : c.from_residual-in_err-test_past-in-Either.result ≡ Err c.in_err-test_past-in-Either.field-0.0 = search rules in
    subst (λ y. Yields (y c.args.line) ends c.args.self.now c.test_past.new.self c.from_residual-in_err-test_past-in-Either.result) (sym (levels.binary_is (sizes_in c.args.structs.now) c.args.e.now c.in-Binary.first c.in-Binary.op c.in-Binary.second c.in-Binary.is))
    (subst (λ r. Yields (left (binary (sizes_in c.args.structs.now) c.in-Binary.op (expr (sizes_in c.args.structs.now) c.in-Binary.first) (expr (sizes_in c.args.structs.now) c.in-Binary.second) c.args.line)) ends c.args.self.now c.test_past.new.self r) (sym told)
    (leaves_stopped (binary (sizes_in c.args.structs.now) c.in-Binary.op (expr (sizes_in c.args.structs.now) c.in-Binary.first) (expr (sizes_in c.args.structs.now) c.in-Binary.second) c.args.line) ends c.args.self.now c.test_past.new.self c.in_err-test_past-in-Either.field-0.0
    (subst (λ g. Emits (binary_by g (sizes_in c.args.structs.now) c.in-Binary.op (expr (sizes_in c.args.structs.now) c.in-Binary.first) (expr (sizes_in c.args.structs.now) c.in-Binary.second) c.args.line) ends c.args.self.now c.test_past.new.self (Err c.in_err-test_past-in-Either.field-0.0)) (ap skips_of (sym c.in-Either.is) ∙ c.logic_of.ensures)
    (follow 0 (truth c.args.line (expr (sizes_in c.args.structs.now) c.in-Binary.first)) (λ x. i.test_past c.args.line x ((truth c.args.line (expr (sizes_in c.args.structs.now) c.in-Binary.second)).points + 1) ⨟ truth c.args.line (expr (sizes_in c.args.structs.now) c.in-Binary.second) ▷ settled c.args.line) ends c.args.self.now c.truth-in-Either.new.self c.test_past.new.self c.in_ok-x-in-Either.x (Err c.in_err-test_past-in-Either.field-0.0) (λ x. refl)
    (c.in_ok-x-in-Either.ensures ends)
    ((stopped 0 (i.test_past c.args.line c.in_ok-x-in-Either.x ((truth c.args.line (expr (sizes_in c.args.structs.now) c.in-Binary.second)).points + 1)) (λ u. truth c.args.line (expr (sizes_in c.args.structs.now) c.in-Binary.second) ▷ settled c.args.line) ends c.truth-in-Either.new.self c.test_past.new.self c.in_err-test_past-in-Either.field-0.0 (counted_stopped (λ k. i.test_past c.args.line c.in_ok-x-in-Either.x (k + 1)) (truth c.args.line (expr (sizes_in c.args.structs.now) c.in-Binary.second)).points c.in_ok-past-in-Either.past ends c.truth-in-Either.new.self c.test_past.new.self c.in_err-test_past-in-Either.field-0.0 (λ x. refl) (c.in_err-test_past-in-Either.ensures ends))))))))

pub expr-returns-in_err-y-in-Either : goal.expr-returns-in_err-y-in-Either
expr-returns-in_err-y-in-Either t c = λ ends.
    let told : c.from_residual-in_err-y-in-Either.result ≡ Err c.in_err-y-in-Either.field-0.0 = search rules in
    subst (λ y. Yields (y c.args.line) ends c.args.self.now c.truth-in-Either-2.new.self c.from_residual-in_err-y-in-Either.result) (sym (levels.binary_is (sizes_in c.args.structs.now) c.args.e.now c.in-Binary.first c.in-Binary.op c.in-Binary.second c.in-Binary.is))
    (subst (λ r. Yields (left (binary (sizes_in c.args.structs.now) c.in-Binary.op (expr (sizes_in c.args.structs.now) c.in-Binary.first) (expr (sizes_in c.args.structs.now) c.in-Binary.second) c.args.line)) ends c.args.self.now c.truth-in-Either-2.new.self r) (sym told)
    (leaves_stopped (binary (sizes_in c.args.structs.now) c.in-Binary.op (expr (sizes_in c.args.structs.now) c.in-Binary.first) (expr (sizes_in c.args.structs.now) c.in-Binary.second) c.args.line) ends c.args.self.now c.truth-in-Either-2.new.self c.in_err-y-in-Either.field-0.0
    (subst (λ g. Emits (binary_by g (sizes_in c.args.structs.now) c.in-Binary.op (expr (sizes_in c.args.structs.now) c.in-Binary.first) (expr (sizes_in c.args.structs.now) c.in-Binary.second) c.args.line) ends c.args.self.now c.truth-in-Either-2.new.self (Err c.in_err-y-in-Either.field-0.0)) (ap skips_of (sym c.in-Either.is) ∙ c.logic_of.ensures)
    (follow 0 (truth c.args.line (expr (sizes_in c.args.structs.now) c.in-Binary.first)) (λ x. i.test_past c.args.line x ((truth c.args.line (expr (sizes_in c.args.structs.now) c.in-Binary.second)).points + 1) ⨟ truth c.args.line (expr (sizes_in c.args.structs.now) c.in-Binary.second) ▷ settled c.args.line) ends c.args.self.now c.truth-in-Either.new.self c.truth-in-Either-2.new.self c.in_ok-x-in-Either.x (Err c.in_err-y-in-Either.field-0.0) (λ x. refl)
    (c.in_ok-x-in-Either.ensures ends)
    ((follow 0 (i.test_past c.args.line c.in_ok-x-in-Either.x ((truth c.args.line (expr (sizes_in c.args.structs.now) c.in-Binary.second)).points + 1)) (λ u. truth c.args.line (expr (sizes_in c.args.structs.now) c.in-Binary.second) ▷ settled c.args.line) ends c.truth-in-Either.new.self c.test_past.new.self c.truth-in-Either-2.new.self c.in_ok-test_past-in-Either.field-0 (Err c.in_err-y-in-Either.field-0.0) (λ x. refl)
    (counted (λ k. i.test_past c.args.line c.in_ok-x-in-Either.x (k + 1)) (truth c.args.line (expr (sizes_in c.args.structs.now) c.in-Binary.second)).points c.in_ok-past-in-Either.past ends c.truth-in-Either.new.self c.test_past.new.self c.in_ok-test_past-in-Either.field-0 (λ x. refl) (c.in_ok-past-in-Either.ensures) (c.in_ok-test_past-in-Either.ensures ends))
    ((stopped 0 (truth c.args.line (expr (sizes_in c.args.structs.now) c.in-Binary.second)) (settled c.args.line) ends c.test_past.new.self c.truth-in-Either-2.new.self c.in_err-y-in-Either.field-0.0 (c.in_err-y-in-Either.ensures ends)))))))))

pub expr-returns-in_ok-b-in-Neither : goal.expr-returns-in_ok-b-in-Neither
expr-returns-in_ok-b-in-Neither t c = λ ends.
    subst (λ y. Yields (y c.args.line) ends c.args.self.now c.carry.new.self c.left-in-Neither.result) (sym (levels.binary_is (sizes_in c.args.structs.now) c.args.e.now c.in-Binary.first c.in-Binary.op c.in-Binary.second c.in-Binary.is))
    (subst (λ r. Yields (left (binary (sizes_in c.args.structs.now) c.in-Binary.op (expr (sizes_in c.args.structs.now) c.in-Binary.first) (expr (sizes_in c.args.structs.now) c.in-Binary.second) c.args.line)) ends c.args.self.now c.carry.new.self r) (sym c.left-in-Neither.ensures)
    (leaves (binary (sizes_in c.args.structs.now) c.in-Binary.op (expr (sizes_in c.args.structs.now) c.in-Binary.first) (expr (sizes_in c.args.structs.now) c.in-Binary.second) c.args.line) ends c.args.self.now c.carry.new.self c.carry.result
    (subst (λ g. Emits (binary_by g (sizes_in c.args.structs.now) c.in-Binary.op (expr (sizes_in c.args.structs.now) c.in-Binary.first) (expr (sizes_in c.args.structs.now) c.in-Binary.second) c.args.line) ends c.args.self.now c.carry.new.self c.carry.result) (ap skips_of (sym c.in-Neither.is) ∙ c.logic_of.ensures)
    (follow 0 ((value c.args.line (expr (sizes_in c.args.structs.now) c.in-Binary.first))) (λ a. (value c.args.line (expr (sizes_in c.args.structs.now) c.in-Binary.second)) ▷ λ b. carried c.args.line (operation (sizes_in c.args.structs.now) c.in-Binary.op (expr (sizes_in c.args.structs.now) c.in-Binary.first).typing (expr (sizes_in c.args.structs.now) c.in-Binary.second).typing) a b) ends c.args.self.now c.value-in-Neither.new.self c.carry.new.self c.in_ok-a-in-Neither.a c.carry.result (λ x. ap (λ n. (value c.args.line (expr (sizes_in c.args.structs.now) c.in-Binary.second)).points + n) (carried_counts c.args.line (operation (sizes_in c.args.structs.now) c.in-Binary.op (expr (sizes_in c.args.structs.now) c.in-Binary.first).typing (expr (sizes_in c.args.structs.now) c.in-Binary.second).typing) x 0 0 0))
    (c.in_ok-a-in-Neither.ensures ends)
    ((follow 0 ((value c.args.line (expr (sizes_in c.args.structs.now) c.in-Binary.second))) (λ b. carried c.args.line (operation (sizes_in c.args.structs.now) c.in-Binary.op (expr (sizes_in c.args.structs.now) c.in-Binary.first).typing (expr (sizes_in c.args.structs.now) c.in-Binary.second).typing) c.in_ok-a-in-Neither.a b) ends c.value-in-Neither.new.self c.value-in-Neither-2.new.self c.carry.new.self c.in_ok-b-in-Neither.b c.carry.result (λ x. carried_counts c.args.line (operation (sizes_in c.args.structs.now) c.in-Binary.op (expr (sizes_in c.args.structs.now) c.in-Binary.first).typing (expr (sizes_in c.args.structs.now) c.in-Binary.second).typing) c.in_ok-a-in-Neither.a x c.in_ok-a-in-Neither.a 0)
    (c.in_ok-b-in-Neither.ensures ends)
    (subst (λ p. Emits (carried c.args.line p c.in_ok-a-in-Neither.a c.in_ok-b-in-Neither.b) ends c.value-in-Neither-2.new.self c.carry.new.self c.carry.result) (c.plan_of-plan.ensures ∙ ap (λ t. operation (sizes_in c.args.structs.now) c.in-Binary.op t c.get-in-Neither-2.result.now.typing) (ap (λ x. x.typing) c.get-in-Neither.ensures ∙ sym (typing_is (sizes_in c.args.structs.now) c.in-Binary.first)) ∙ ap (λ t. operation (sizes_in c.args.structs.now) c.in-Binary.op (expr (sizes_in c.args.structs.now) c.in-Binary.first).typing t) (ap (λ x. x.typing) c.get-in-Neither-2.ensures ∙ sym (typing_is (sizes_in c.args.structs.now) c.in-Binary.second))) (c.carry.ensures ends))))))))

pub expr-returns-in_err-a-in-Neither : goal.expr-returns-in_err-a-in-Neither
expr-returns-in_err-a-in-Neither t c = λ ends.
    let told : c.from_residual-in_err-a-in-Neither.result ≡ Err c.in_err-a-in-Neither.field-0.0 = search rules in
    subst (λ y. Yields (y c.args.line) ends c.args.self.now c.value-in-Neither.new.self c.from_residual-in_err-a-in-Neither.result) (sym (levels.binary_is (sizes_in c.args.structs.now) c.args.e.now c.in-Binary.first c.in-Binary.op c.in-Binary.second c.in-Binary.is))
    (subst (λ r. Yields (left (binary (sizes_in c.args.structs.now) c.in-Binary.op (expr (sizes_in c.args.structs.now) c.in-Binary.first) (expr (sizes_in c.args.structs.now) c.in-Binary.second) c.args.line)) ends c.args.self.now c.value-in-Neither.new.self r) (sym told)
    (leaves_stopped (binary (sizes_in c.args.structs.now) c.in-Binary.op (expr (sizes_in c.args.structs.now) c.in-Binary.first) (expr (sizes_in c.args.structs.now) c.in-Binary.second) c.args.line) ends c.args.self.now c.value-in-Neither.new.self c.in_err-a-in-Neither.field-0.0
    (subst (λ g. Emits (binary_by g (sizes_in c.args.structs.now) c.in-Binary.op (expr (sizes_in c.args.structs.now) c.in-Binary.first) (expr (sizes_in c.args.structs.now) c.in-Binary.second) c.args.line) ends c.args.self.now c.value-in-Neither.new.self (Err c.in_err-a-in-Neither.field-0.0)) (ap skips_of (sym c.in-Neither.is) ∙ c.logic_of.ensures)
    (stopped 0 ((value c.args.line (expr (sizes_in c.args.structs.now) c.in-Binary.first))) (λ a. (value c.args.line (expr (sizes_in c.args.structs.now) c.in-Binary.second)) ▷ λ b. carried c.args.line (operation (sizes_in c.args.structs.now) c.in-Binary.op (expr (sizes_in c.args.structs.now) c.in-Binary.first).typing (expr (sizes_in c.args.structs.now) c.in-Binary.second).typing) a b) ends c.args.self.now c.value-in-Neither.new.self c.in_err-a-in-Neither.field-0.0 (c.in_err-a-in-Neither.ensures ends)))))

pub expr-returns-in_err-b-in-Neither : goal.expr-returns-in_err-b-in-Neither
expr-returns-in_err-b-in-Neither t c = λ ends.
    let told : c.from_residual-in_err-b-in-Neither.result ≡ Err c.in_err-b-in-Neither.field-0.0 = search rules in
    subst (λ y. Yields (y c.args.line) ends c.args.self.now c.value-in-Neither-2.new.self c.from_residual-in_err-b-in-Neither.result) (sym (levels.binary_is (sizes_in c.args.structs.now) c.args.e.now c.in-Binary.first c.in-Binary.op c.in-Binary.second c.in-Binary.is))
    (subst (λ r. Yields (left (binary (sizes_in c.args.structs.now) c.in-Binary.op (expr (sizes_in c.args.structs.now) c.in-Binary.first) (expr (sizes_in c.args.structs.now) c.in-Binary.second) c.args.line)) ends c.args.self.now c.value-in-Neither-2.new.self r) (sym told)
    (leaves_stopped (binary (sizes_in c.args.structs.now) c.in-Binary.op (expr (sizes_in c.args.structs.now) c.in-Binary.first) (expr (sizes_in c.args.structs.now) c.in-Binary.second) c.args.line) ends c.args.self.now c.value-in-Neither-2.new.self c.in_err-b-in-Neither.field-0.0
    (subst (λ g. Emits (binary_by g (sizes_in c.args.structs.now) c.in-Binary.op (expr (sizes_in c.args.structs.now) c.in-Binary.first) (expr (sizes_in c.args.structs.now) c.in-Binary.second) c.args.line) ends c.args.self.now c.value-in-Neither-2.new.self (Err c.in_err-b-in-Neither.field-0.0)) (ap skips_of (sym c.in-Neither.is) ∙ c.logic_of.ensures)
    (follow 0 ((value c.args.line (expr (sizes_in c.args.structs.now) c.in-Binary.first))) (λ a. (value c.args.line (expr (sizes_in c.args.structs.now) c.in-Binary.second)) ▷ λ b. carried c.args.line (operation (sizes_in c.args.structs.now) c.in-Binary.op (expr (sizes_in c.args.structs.now) c.in-Binary.first).typing (expr (sizes_in c.args.structs.now) c.in-Binary.second).typing) a b) ends c.args.self.now c.value-in-Neither.new.self c.value-in-Neither-2.new.self c.in_ok-a-in-Neither.a (Err c.in_err-b-in-Neither.field-0.0) (λ x. ap (λ n. (value c.args.line (expr (sizes_in c.args.structs.now) c.in-Binary.second)).points + n) (carried_counts c.args.line (operation (sizes_in c.args.structs.now) c.in-Binary.op (expr (sizes_in c.args.structs.now) c.in-Binary.first).typing (expr (sizes_in c.args.structs.now) c.in-Binary.second).typing) x 0 0 0))
    (c.in_ok-a-in-Neither.ensures ends)
    ((stopped 0 ((value c.args.line (expr (sizes_in c.args.structs.now) c.in-Binary.second))) (λ b. carried c.args.line (operation (sizes_in c.args.structs.now) c.in-Binary.op (expr (sizes_in c.args.structs.now) c.in-Binary.first).typing (expr (sizes_in c.args.structs.now) c.in-Binary.second).typing) c.in_ok-a-in-Neither.a b) ends c.value-in-Neither.new.self c.value-in-Neither-2.new.self c.in_err-b-in-Neither.field-0.0 (c.in_err-b-in-Neither.ensures ends)))))))

pub expr-returns-in_ok-temps-in-Call : goal.expr-returns-in_ok-temps-in-Call
expr-returns-in_ok-temps-in-Call t c = λ ends.
    subst (λ y. Yields (y c.args.line) ends c.args.self.now c.call.new.self c.left-in-Call.result) (sym (levels.call_is (sizes_in c.args.structs.now) c.args.e.now c.in-Call.function c.in-Call.arguments c.in-Call.is))
    (subst (λ r. Yields (left (chained [] (gathered [] (values_of c.args.line (sizes_in c.args.structs.now) c.in-Call.arguments)) (λ temps. i.call c.args.line c.in-Call.function temps))) ends c.args.self.now c.call.new.self r) (sym c.left-in-Call.ensures)
    (leaves (chained [] (gathered [] (values_of c.args.line (sizes_in c.args.structs.now) c.in-Call.arguments)) (λ temps. i.call c.args.line c.in-Call.function temps)) ends c.args.self.now c.call.new.self c.call.result
    ((follow [] (gathered [] (values_of c.args.line (sizes_in c.args.structs.now) c.in-Call.arguments)) (λ temps. i.call c.args.line c.in-Call.function temps) ends c.args.self.now c.arguments.new.self c.call.new.self c.in_ok-temps-in-Call.temps c.call.result (λ x. refl)
    (subst (λ es. Emits (gathered [] (values_of c.args.line (sizes_in c.args.structs.now) es)) ends c.args.self.now c.arguments.new.self (Ok c.in_ok-temps-in-Call.temps)) c.as_slice.ensures (c.in_ok-temps-in-Call.ensures ends))
    (c.call.ensures ends)))))

pub expr-returns-in_err-temps-in-Call : goal.expr-returns-in_err-temps-in-Call
expr-returns-in_err-temps-in-Call t c = λ ends.
    let told : c.from_residual-in_err-temps-in-Call.result ≡ Err c.in_err-temps-in-Call.field-0.0 = search rules in
    subst (λ y. Yields (y c.args.line) ends c.args.self.now c.arguments.new.self c.from_residual-in_err-temps-in-Call.result) (sym (levels.call_is (sizes_in c.args.structs.now) c.args.e.now c.in-Call.function c.in-Call.arguments c.in-Call.is))
    (subst (λ r. Yields (left (chained [] (gathered [] (values_of c.args.line (sizes_in c.args.structs.now) c.in-Call.arguments)) (λ temps. i.call c.args.line c.in-Call.function temps))) ends c.args.self.now c.arguments.new.self r) (sym told)
    (leaves_stopped (chained [] (gathered [] (values_of c.args.line (sizes_in c.args.structs.now) c.in-Call.arguments)) (λ temps. i.call c.args.line c.in-Call.function temps)) ends c.args.self.now c.arguments.new.self c.in_err-temps-in-Call.field-0.0
    ((stopped [] (gathered [] (values_of c.args.line (sizes_in c.args.structs.now) c.in-Call.arguments)) (λ temps. i.call c.args.line c.in-Call.function temps) ends c.args.self.now c.arguments.new.self c.in_err-temps-in-Call.field-0.0 (subst (λ es. Emits (gathered [] (values_of c.args.line (sizes_in c.args.structs.now) es)) ends c.args.self.now c.arguments.new.self (Err c.in_err-temps-in-Call.field-0.0)) c.as_slice.ensures (c.in_err-temps-in-Call.ensures ends))))))

pub expr-returns-in_ok-a-in-None : goal.expr-returns-in_ok-a-in-None
expr-returns-in_ok-a-in-None t c = λ ends.
    subst (λ y. Yields (y c.args.line) ends c.args.self.now c.block.new.self c.left-in-None.result) (sym (levels.new_is (sizes_in c.args.structs.now) c.args.e.now c.in-New.site c.in-New.item None (c.in-New.is ∙ ap (λ o. form.New c.in-New.site c.in-New.item o) c.in-None.is)))
    (subst (λ r. Yields (left (i.constant c.args.line (pos 1) ▷ λ a. i.new c.args.line c.in-New.site c.in-New.item a)) ends c.args.self.now c.block.new.self r) (sym c.left-in-None.ensures)
    (leaves (i.constant c.args.line (pos 1) ▷ λ a. i.new c.args.line c.in-New.site c.in-New.item a) ends c.args.self.now c.block.new.self c.block.result
    ((follow 0 (i.constant c.args.line (pos 1)) (λ a. i.new c.args.line c.in-New.site c.in-New.item a) ends c.args.self.now c.constant-in-None.new.self c.block.new.self c.in_ok-a-in-None.a c.block.result (λ x. refl)
    (c.in_ok-a-in-None.ensures ends)
    (c.block.ensures ends)))))

pub expr-returns-in_err-a-in-None : goal.expr-returns-in_err-a-in-None
expr-returns-in_err-a-in-None t c = λ ends.
    let told : c.from_residual-in_err-a-in-None.result ≡ Err c.in_err-a-in-None.field-0.0 = search rules in
    subst (λ y. Yields (y c.args.line) ends c.args.self.now c.constant-in-None.new.self c.from_residual-in_err-a-in-None.result) (sym (levels.new_is (sizes_in c.args.structs.now) c.args.e.now c.in-New.site c.in-New.item None (c.in-New.is ∙ ap (λ o. form.New c.in-New.site c.in-New.item o) c.in-None.is)))
    (subst (λ r. Yields (left (i.constant c.args.line (pos 1) ▷ λ a. i.new c.args.line c.in-New.site c.in-New.item a)) ends c.args.self.now c.constant-in-None.new.self r) (sym told)
    (leaves_stopped (i.constant c.args.line (pos 1) ▷ λ a. i.new c.args.line c.in-New.site c.in-New.item a) ends c.args.self.now c.constant-in-None.new.self c.in_err-a-in-None.field-0.0
    ((stopped 0 (i.constant c.args.line (pos 1)) (λ a. i.new c.args.line c.in-New.site c.in-New.item a) ends c.args.self.now c.constant-in-None.new.self c.in_err-a-in-None.field-0.0 (c.in_err-a-in-None.ensures ends)))))

pub expr-returns-in_ok-a-in-Some : goal.expr-returns-in_ok-a-in-Some
expr-returns-in_ok-a-in-Some t c = λ ends.
    subst (λ y. Yields (y c.args.line) ends c.args.self.now c.block-in-Some.new.self c.left-in-Some.result) (sym (levels.new_is (sizes_in c.args.structs.now) c.args.e.now c.in-New.site c.in-New.item (Some c.in-Some.count) (c.in-New.is ∙ ap (λ o. form.New c.in-New.site c.in-New.item o) c.in-Some.is)))
    (subst (λ r. Yields (left ((value c.args.line (expr (sizes_in c.args.structs.now) c.in-Some.count)) ▷ λ a. i.new c.args.line c.in-New.site c.in-New.item a)) ends c.args.self.now c.block-in-Some.new.self r) (sym c.left-in-Some.ensures)
    (leaves ((value c.args.line (expr (sizes_in c.args.structs.now) c.in-Some.count)) ▷ λ a. i.new c.args.line c.in-New.site c.in-New.item a) ends c.args.self.now c.block-in-Some.new.self c.block-in-Some.result
    ((follow 0 ((value c.args.line (expr (sizes_in c.args.structs.now) c.in-Some.count))) (λ a. i.new c.args.line c.in-New.site c.in-New.item a) ends c.args.self.now c.value-in-Some.new.self c.block-in-Some.new.self c.in_ok-a-in-Some.a c.block-in-Some.result (λ x. refl)
    (c.in_ok-a-in-Some.ensures ends)
    (c.block-in-Some.ensures ends)))))

pub expr-returns-in_err-a-in-Some : goal.expr-returns-in_err-a-in-Some
expr-returns-in_err-a-in-Some t c = λ ends.
    let told : c.from_residual-in_err-a-in-Some.result ≡ Err c.in_err-a-in-Some.field-0.0 = search rules in
    subst (λ y. Yields (y c.args.line) ends c.args.self.now c.value-in-Some.new.self c.from_residual-in_err-a-in-Some.result) (sym (levels.new_is (sizes_in c.args.structs.now) c.args.e.now c.in-New.site c.in-New.item (Some c.in-Some.count) (c.in-New.is ∙ ap (λ o. form.New c.in-New.site c.in-New.item o) c.in-Some.is)))
    (subst (λ r. Yields (left ((value c.args.line (expr (sizes_in c.args.structs.now) c.in-Some.count)) ▷ λ a. i.new c.args.line c.in-New.site c.in-New.item a)) ends c.args.self.now c.value-in-Some.new.self r) (sym told)
    (leaves_stopped ((value c.args.line (expr (sizes_in c.args.structs.now) c.in-Some.count)) ▷ λ a. i.new c.args.line c.in-New.site c.in-New.item a) ends c.args.self.now c.value-in-Some.new.self c.in_err-a-in-Some.field-0.0
    ((stopped 0 ((value c.args.line (expr (sizes_in c.args.structs.now) c.in-Some.count))) (λ a. i.new c.args.line c.in-New.site c.in-New.item a) ends c.args.self.now c.value-in-Some.new.self c.in_err-a-in-Some.field-0.0 (c.in_err-a-in-Some.ensures ends)))))

pub expr-returns-in-Global : goal.expr-returns-in-Global
expr-returns-in-Global t c = λ ends.
    subst (λ y. Yields (y c.args.line) ends c.args.self.now c.args.self.now (Ok (Spot.Direct (Place.Global c.in-Global.var c.new.result)))) (sym (levels.global_is (sizes_in c.args.structs.now) c.args.e.now c.in-Global.var c.in-Global.is))
    (ap (λ p. Place.Global c.in-Global.var p) c.new.ensures, refl)

pub expr-returns-in-Local : goal.expr-returns-in-Local
expr-returns-in-Local t c = λ ends.
    subst (λ y. Yields (y c.args.line) ends c.args.self.now c.args.self.now (Ok (Spot.Direct (Place.Local c.in-Local.var c.new-in-Local.result)))) (sym (levels.local_is (sizes_in c.args.structs.now) c.args.e.now c.in-Local.var c.in-Local.is))
    (ap (λ p. Place.Local c.in-Local.var p) c.new-in-Local.ensures, refl)

pub value-returns : goal.value-returns
value-returns t c = λ ends. subst (λ x. Emits (value c.args.line (expr (sizes_in c.args.structs.now) x)) ends c.args.self.now c.argument.new.self c.argument.result) c.get.ensures (c.argument.ensures ends)

pub argument-returns : goal.argument-returns
argument-returns t c = λ ends.
    subst (λ r. Emits (value c.args.line (expr (sizes_in c.args.structs.now) c.args.e.now)) ends c.args.self.now c.expr.new.self r) (sym c.temp.ensures) (valued ((expr (sizes_in c.args.structs.now) c.args.e.now).yield c.args.line) ends c.args.self.now c.expr.new.self c.expr.result (c.expr.ensures ends))

pub truth-returns : goal.truth-returns
truth-returns t c = λ ends.
    (follow 0 ((value c.args.line (expr (sizes_in c.args.structs.now) c.args.e.now))) (λ a. truth_by c.args.line (expr (sizes_in c.args.structs.now) c.args.e.now).typing a) ends c.args.self.now c.value.new.self c.truth_of.new.self c.in_ok-a.a c.truth_of.result (truth_counts c.args.line (truth_of (expr (sizes_in c.args.structs.now) c.args.e.now).typing))
    (c.in_ok-a.ensures ends)
    (subst (λ t. Emits (truth_by c.args.line t c.in_ok-a.a) ends c.value.new.self c.truth_of.new.self c.truth_of.result) (ap (λ x. x.typing) c.get.ensures ∙ sym (typing_is (sizes_in c.args.structs.now) c.args.e.now)) (c.truth_of.ensures ends)))

pub truth-returns-in_err-a : goal.truth-returns-in_err-a
truth-returns-in_err-a t c = λ ends.
    let told : c.from_residual.result ≡ Err c.in_err-a.field-0.0 = search rules in
    subst (λ r. Emits (truth c.args.line (expr (sizes_in c.args.structs.now) c.args.e.now)) ends c.args.self.now c.value.new.self r) (sym told)
    (stopped 0 ((value c.args.line (expr (sizes_in c.args.structs.now) c.args.e.now))) (λ a. truth_by c.args.line (expr (sizes_in c.args.structs.now) c.args.e.now).typing a) ends c.args.self.now c.value.new.self c.in_err-a.field-0.0 (c.in_err-a.ensures ends))

abbrev no_ends : Ends
no_ends = record { leave = 0; again = 0 }

pub truth_points-overflow_sub-result : goal.truth_points-overflow_sub-result
truth_points-overflow_sub-result t c =
    let e = (c.in_ok-truth.ensures no_ends).count in
    let n = ap (λ x. x.at) c.dry_run-run.ensures.next in
    omega arith

pub truth_points-returns : goal.truth_points-returns
truth_points-returns t c =
    let e = (c.in_ok-truth.ensures no_ends).count in
    let n = ap (λ x. x.at) c.dry_run-run.ensures.next in
    let low = c.truth.new.self.at in
    let few = c.truth.new.self.few in
    record { few = omega arith; exact = λ live. omega arith }

pub truth_points-returns-in_err-truth : goal.truth_points-returns-in_err-truth
truth_points-returns-in_err-truth t c =
    let told : c.from_residual.result ≡ Err c.in_err-truth.field-0.0 = search rules in
    subst (λ r. Counts (truth c.args.line (expr (sizes_in c.args.structs.now) c.args.e.now)) c.args.self.now r) (sym told)
    (dry_stopped (truth c.args.line (expr (sizes_in c.args.structs.now) c.args.e.now)) no_ends c.dry_run-run.result c.truth.new.self c.args.self.now c.in_err-truth.field-0.0 c.dry_run-run.ensures.next c.dry_run-run.ensures.room (c.in_err-truth.ensures no_ends))

pub arguments-loop-argument-preserved : goal.arguments-loop-argument-preserved
arguments-loop-argument-preserved t c = λ ends new r more.
    c.loop-argument.invariant ends new r
    (next_argument c.args.line (sizes_in c.args.structs.now) (drop c.loop-argument.argument-index c.args.arguments.now) (drop (c.loop-argument.argument-index + 1) c.args.arguments.now) c.argument-item.result c.loop-argument.temps c.push.new.self c.in_ok-temp.temp ends c.loop-argument.self c.argument.new.self new r
    (left_from c.args.arguments.now c.loop-argument.argument-index c.argument-item.result c.loop-argument-test.true c.argument-item.is) c.in_ok-push.ensures.ok (c.in_ok-temp.ensures ends) more)

pub arguments-returns-in_err-temp : goal.arguments-returns-in_err-temp
arguments-returns-in_err-temp t c = λ ends.
    let told : c.from_residual.result ≡ Err c.in_err-temp.field-0.0 = search rules in
    subst (λ r. Emits (gathered [] (values_of c.args.line (sizes_in c.args.structs.now) c.args.arguments.now)) ends c.args.self.now c.argument.new.self r) (sym told)
    (c.loop-argument.invariant ends c.argument.new.self (Err c.in_err-temp.field-0.0)
    (no_argument c.args.line (sizes_in c.args.structs.now) (drop c.loop-argument.argument-index c.args.arguments.now) (drop (c.loop-argument.argument-index + 1) c.args.arguments.now) c.argument-item.result c.loop-argument.temps ends c.loop-argument.self c.argument.new.self c.in_err-temp.field-0.0
    (left_from c.args.arguments.now c.loop-argument.argument-index c.argument-item.result c.loop-argument-test.true c.argument-item.is) (c.in_err-temp.ensures ends)))

pub arguments-returns : goal.arguments-returns
arguments-returns t c = λ ends.
    c.loop-argument.invariant ends c.loop-argument.self (Ok c.loop-argument.temps)
    (all_arguments c.args.line (sizes_in c.args.structs.now) c.args.arguments.now c.loop-argument.argument-index c.loop-argument.temps ends c.loop-argument.self c.loop-argument-test.false)

pub expr-words_behind-words-requires : goal.expr-words_behind-words-requires
expr-words_behind-words-requires t c =
    subst (λ (e : Expr). IsSmallTyping (sizes_in c.args.structs.now) e.typing) (sym c.get.ensures) (expr_small c.args.structs.now c.in-Index.pointer (index_pointer_well c.args.structs.now c.args.e.now c.requires c.in-Index.pointer c.in-Index.index c.in-Index.is))

pub expr-plan_of-plan-requires-clause-first : goal.expr-plan_of-plan-requires-clause-first
expr-plan_of-plan-requires-clause-first t c =
    subst (λ (e : Expr). IsSmallTyping (sizes_in c.args.structs.now) e.typing) (sym c.get-in-Neither.ensures) (expr_small c.args.structs.now c.in-Binary.first (left_well c.args.structs.now c.args.e.now c.requires c.in-Binary.first c.in-Binary.op c.in-Binary.second c.in-Binary.is))

pub expr-plan_of-plan-requires-clause-second : goal.expr-plan_of-plan-requires-clause-second
expr-plan_of-plan-requires-clause-second t c =
    subst (λ (e : Expr). IsSmallTyping (sizes_in c.args.structs.now) e.typing) (sym c.get-in-Neither-2.ensures) (expr_small c.args.structs.now c.in-Binary.second (right_well c.args.structs.now c.args.e.now c.requires c.in-Binary.first c.in-Binary.op c.in-Binary.second c.in-Binary.is))

pub expr-value-requires : goal.expr-value-requires
expr-value-requires t c = (omega (arith, deref_weight c.args.e.now c.in-Deref.pointer c.in-Deref.is), deref_well c.args.structs.now c.args.e.now c.requires c.in-Deref.pointer c.in-Deref.is)

pub expr-value-requires-in-Index : goal.expr-value-requires-in-Index
expr-value-requires-in-Index t c = (omega (arith, index_weight c.args.e.now c.in-Index.pointer c.in-Index.index c.in-Index.is), index_pointer_well c.args.structs.now c.args.e.now c.requires c.in-Index.pointer c.in-Index.index c.in-Index.is)

pub expr-value-requires-in-Index-2 : goal.expr-value-requires-in-Index-2
expr-value-requires-in-Index-2 t c = (omega (arith, index_weight c.args.e.now c.in-Index.pointer c.in-Index.index c.in-Index.is), index_well c.args.structs.now c.args.e.now c.requires c.in-Index.pointer c.in-Index.index c.in-Index.is)

pub expr-expr-requires : goal.expr-expr-requires
expr-expr-requires t c = (omega (arith, field_weight c.args.e.now c.in-Field.whole c.in-Field.field c.in-Field.is, ap weight c.get-in-Field.ensures), field_well c.args.structs.now c.args.e.now c.requires c.in-Field.whole c.get-in-Field.result.now c.in-Field.field c.in-Field.is c.get-in-Field.ensures)

pub expr-value-requires-in-Arrow : goal.expr-value-requires-in-Arrow
expr-value-requires-in-Arrow t c = (omega (arith, arrow_weight c.args.e.now c.in-Arrow.pointer c.in-Arrow.field c.in-Arrow.is), arrow_well c.args.structs.now c.args.e.now c.requires c.in-Arrow.pointer c.in-Arrow.field c.in-Arrow.is)

pub expr-expr-requires-in-Read : goal.expr-expr-requires-in-Read
expr-expr-requires-in-Read t c = (omega (arith, read_weight c.args.e.now c.in-Read.place c.in-Read.is, ap weight c.get-in-Read.ensures), read_well c.args.structs.now c.args.e.now c.requires c.in-Read.place c.get-in-Read.result.now c.in-Read.is c.get-in-Read.ensures)

pub expr-expr-requires-in-Decay : goal.expr-expr-requires-in-Decay
expr-expr-requires-in-Decay t c = (omega (arith, decay_weight c.args.e.now c.in-Decay.place c.in-Decay.is, ap weight c.get-in-Decay.ensures), decay_well c.args.structs.now c.args.e.now c.requires c.in-Decay.place c.get-in-Decay.result.now c.in-Decay.is c.get-in-Decay.ensures)

pub expr-expr-requires-in-Address : goal.expr-expr-requires-in-Address
expr-expr-requires-in-Address t c = (omega (arith, address_weight c.args.e.now c.in-Address.place c.in-Address.is, ap weight c.get-in-Address.ensures), address_well c.args.structs.now c.args.e.now c.requires c.in-Address.place c.get-in-Address.result.now c.in-Address.is c.get-in-Address.ensures)

pub expr-value-requires-in-Prefix : goal.expr-value-requires-in-Prefix
expr-value-requires-in-Prefix t c = (omega (arith, prefix_weight c.args.e.now c.in-Prefix.op c.in-Prefix.operand c.in-Prefix.is), prefix_well c.args.structs.now c.args.e.now c.requires c.in-Prefix.op c.in-Prefix.operand c.in-Prefix.is)

pub expr-truth-requires : goal.expr-truth-requires
expr-truth-requires t c = (omega (arith, binary_weight c.args.e.now c.in-Binary.first c.in-Binary.op c.in-Binary.second c.in-Binary.is), left_well c.args.structs.now c.args.e.now c.requires c.in-Binary.first c.in-Binary.op c.in-Binary.second c.in-Binary.is)

pub expr-truth_points-requires : goal.expr-truth_points-requires
expr-truth_points-requires t c = (omega (arith, binary_weight c.args.e.now c.in-Binary.first c.in-Binary.op c.in-Binary.second c.in-Binary.is), right_well c.args.structs.now c.args.e.now c.requires c.in-Binary.first c.in-Binary.op c.in-Binary.second c.in-Binary.is)

pub expr-truth-requires-in-Both : goal.expr-truth-requires-in-Both
expr-truth-requires-in-Both t c = (omega (arith, binary_weight c.args.e.now c.in-Binary.first c.in-Binary.op c.in-Binary.second c.in-Binary.is), right_well c.args.structs.now c.args.e.now c.requires c.in-Binary.first c.in-Binary.op c.in-Binary.second c.in-Binary.is)

pub expr-truth-requires-in-Either : goal.expr-truth-requires-in-Either
expr-truth-requires-in-Either t c = (omega (arith, binary_weight c.args.e.now c.in-Binary.first c.in-Binary.op c.in-Binary.second c.in-Binary.is), left_well c.args.structs.now c.args.e.now c.requires c.in-Binary.first c.in-Binary.op c.in-Binary.second c.in-Binary.is)

pub expr-truth_points-requires-in-Either : goal.expr-truth_points-requires-in-Either
expr-truth_points-requires-in-Either t c = (omega (arith, binary_weight c.args.e.now c.in-Binary.first c.in-Binary.op c.in-Binary.second c.in-Binary.is), right_well c.args.structs.now c.args.e.now c.requires c.in-Binary.first c.in-Binary.op c.in-Binary.second c.in-Binary.is)

pub expr-truth-requires-in-Either-2 : goal.expr-truth-requires-in-Either-2
expr-truth-requires-in-Either-2 t c = (omega (arith, binary_weight c.args.e.now c.in-Binary.first c.in-Binary.op c.in-Binary.second c.in-Binary.is), right_well c.args.structs.now c.args.e.now c.requires c.in-Binary.first c.in-Binary.op c.in-Binary.second c.in-Binary.is)

pub expr-value-requires-in-Neither : goal.expr-value-requires-in-Neither
expr-value-requires-in-Neither t c = (omega (arith, binary_weight c.args.e.now c.in-Binary.first c.in-Binary.op c.in-Binary.second c.in-Binary.is), left_well c.args.structs.now c.args.e.now c.requires c.in-Binary.first c.in-Binary.op c.in-Binary.second c.in-Binary.is)

pub expr-value-requires-in-Neither-2 : goal.expr-value-requires-in-Neither-2
expr-value-requires-in-Neither-2 t c = (omega (arith, binary_weight c.args.e.now c.in-Binary.first c.in-Binary.op c.in-Binary.second c.in-Binary.is), right_well c.args.structs.now c.args.e.now c.requires c.in-Binary.first c.in-Binary.op c.in-Binary.second c.in-Binary.is)

pub expr-arguments-requires : goal.expr-arguments-requires
expr-arguments-requires t c = (omega (arith, call_weight c.args.e.now c.in-Call.function c.in-Call.arguments c.in-Call.is, ap total c.as_slice.ensures), call_well c.args.structs.now c.args.e.now c.requires c.in-Call.function c.in-Call.arguments c.as_slice.result.now c.in-Call.is c.as_slice.ensures)

pub expr-value-requires-in-Some : goal.expr-value-requires-in-Some
expr-value-requires-in-Some t c = (omega (arith, new_weight c.args.e.now c.in-New.site c.in-New.item c.in-New.count c.in-Some.count c.in-New.is c.in-Some.is), new_well c.args.structs.now c.args.e.now c.requires c.in-New.site c.in-New.item c.in-New.count c.in-Some.count c.in-New.is c.in-Some.is)

pub arguments-argument-requires : goal.arguments-argument-requires
arguments-argument-requires t c = (omega (arith, total_at c.args.arguments.now c.loop-argument.argument-index c.argument-item.result c.loop-argument-test.true c.argument-item.is), expr_at c.args.structs.now c.args.arguments.now c.loop-argument.argument-index c.argument-item.result c.loop-argument-test.true c.argument-item.is c.requires)
