use Rattle.std.proofs.Common.{rules, ◌≡◌, ap, ◌∙◌, sym, subst, None, Ok, Err}
use Rattle.std.specs.Option.{option_copied}
use Rattle.c_typed.specs.Faults.{mismatch, not_lvalue}
use Rattle.c_typed.specs.Exprs.{value_by_type, place_by_type}
use Rattle.dfi_base.specs.declared.numbers.Line.{Line}
use Rattle.c_typed.specs.declared.types.ObjectType.{ObjectType}
use Rattle.c_typed.specs.declared.expr.Expr.{Expr}
use Rattle.c_types.specs.tools.Steps.{Found, ◌>>=◌, broken, kept, Finds}
use Rattle.c_types.specs.tools.Outlines.{type_name_walk}
use Rattle.c_types.specs.tools.ExprWalk.{expr_walk, value, unary_walk, field_walk, arrow_walk, typed_cast_walk, allocated_by, sizeof_as, count_first, type_first}
use Rattle.c_types.proofs.WalkLevels.{walk_number, walk_null, walk_name, walk_unary, walk_binary, walk_index, walk_field, walk_arrow, walk_cast, walk_call, walk_sizeof, walk_line}
use Rattle.c_types.proofs.WalkLaws.{first_fails, then_finds, reads}
use Rattle.c_types.proofs.AllocationLaws.{allocates, for_one, product_right, product_left, product_none, product_other, no_size}
use Rattle.c_types.proofs.exprs.+exprs.Goals as goal

abbrev no_value : Found ObjectType → Line → Found Expr
no_value p line = p >>= (λ t. broken mismatch line)

pub place-returns : goal.place-returns
place-returns t c =
    let f = expr_walk c.args.outline.now c.args.known.now c.args.e.now in
    then_finds f.plain (λ e. kept not_lvalue f.line (place_by_type e e.typing)) c.in_ok-whole.whole c.place.result c.in_ok-whole.ensures
    (subst (λ line. Finds c.place.result (kept not_lvalue line (place_by_type c.in_ok-whole.whole c.in_ok-whole.whole.typing))) (sym (walk_line c.args.outline.now c.args.known.now c.args.e.now)) c.place.ensures)

pub value-returns : goal.value-returns
value-returns t c =
    let f = expr_walk c.args.outline.now c.args.known.now c.args.e.now in
    then_finds f.plain (λ e. kept mismatch f.line (value_by_type e e.typing)) c.in_ok-whole.whole c.value.result c.in_ok-whole.ensures
    (subst (λ line. Finds c.value.result (kept mismatch line (value_by_type c.in_ok-whole.whole c.in_ok-whole.whole.typing))) (sym (walk_line c.args.outline.now c.args.known.now c.args.e.now)) c.value.ensures)

pub plain-returns-in-Number : goal.plain-returns-in-Number
plain-returns-in-Number t c = ap (λ f. f.plain) (walk_number c.args.outline.now c.args.known.now c.args.e.now c.in-Number.k c.in-Number.is) ∙ ap (λ e. Ok e) (sym c.number.ensures)

pub plain-returns-in-Null : goal.plain-returns-in-Null
plain-returns-in-Null t c = ap (λ f. f.plain) (walk_null c.args.outline.now c.args.known.now c.args.e.now c.in-Null.is) ∙ ap (λ e. Ok e) (sym c.null.ensures)

pub plain-returns-in-Name : goal.plain-returns-in-Name
plain-returns-in-Name t c = reads _ _ c.name.result (walk_name c.args.outline.now c.args.known.now c.args.e.now c.in-Name.i c.in-Name.is) c.name.ensures

pub plain-returns-in-Call : goal.plain-returns-in-Call
plain-returns-in-Call t c =
    reads _ _ c.call.result (walk_call c.args.outline.now c.args.known.now c.args.e.now c.in-Call.function c.in-Call.arguments c.in-Call.is)
    (search rules)

pub plain-returns-in-Unary : goal.plain-returns-in-Unary
plain-returns-in-Unary t c =
    reads _ _ c.unary.result (walk_unary c.args.outline.now c.args.known.now c.args.e.now c.in-Unary.op c.in-Unary.operand c.in-Unary.is)
    (subst (λ x. Finds c.unary.result (unary_walk c.in-Unary.op c.args.e.now.line (expr_walk c.args.outline.now c.args.known.now x))) c.get.ensures c.unary.ensures)

pub plain-returns-in-Field : goal.plain-returns-in-Field
plain-returns-in-Field t c =
    reads _ _ c.member_of.result (walk_field c.args.outline.now c.args.known.now c.args.e.now c.in-Field.whole c.in-Field.field c.in-Field.is)
    (subst (λ x. Finds c.member_of.result (field_walk c.args.outline.now c.args.e.now.line (expr_walk c.args.outline.now c.args.known.now x) c.in-Field.field)) c.get-in-Field.ensures c.member_of.ensures)

pub plain-returns-in-Arrow : goal.plain-returns-in-Arrow
plain-returns-in-Arrow t c =
    reads _ _ c.member_behind.result (walk_arrow c.args.outline.now c.args.known.now c.args.e.now c.in-Arrow.pointer c.in-Arrow.field c.in-Arrow.is)
    (subst (λ x. Finds c.member_behind.result (arrow_walk c.args.outline.now c.args.e.now.line (expr_walk c.args.outline.now c.args.known.now x) c.in-Arrow.field)) c.get-in-Arrow.ensures c.member_behind.ensures)

pub plain-returns-in-Cast : goal.plain-returns-in-Cast
plain-returns-in-Cast t c =
    reads _ _ c.cast.result (walk_cast c.args.outline.now c.args.known.now c.args.e.now c.in-Cast.to c.in-Cast.operand c.in-Cast.is)
    (subst (λ x. Finds c.cast.result (typed_cast_walk c.args.outline.now c.args.known.now c.args.e.now.line c.in-Cast.to (expr_walk c.args.outline.now c.args.known.now x))) c.get-in-Cast.ensures c.cast.ensures)

pub plain-returns-in_err-left-in-Binary : goal.plain-returns-in_err-left-in-Binary
plain-returns-in_err-left-in-Binary t c =
    let told : c.from_residual.result ≡ Err c.in_err-left-in-Binary.field-0.0 = search rules in
    subst (λ r. Finds r (expr_walk c.args.outline.now c.args.known.now c.args.e.now).plain) (sym told)
    (reads _ _ (Err c.in_err-left-in-Binary.field-0.0) (walk_binary c.args.outline.now c.args.known.now c.args.e.now c.in-Binary.left c.in-Binary.op c.in-Binary.right c.in-Binary.is) (first_fails (value (expr_walk c.args.outline.now c.args.known.now c.in-Binary.left)) _ c.in_err-left-in-Binary.field-0.0 (subst (λ x. Finds (Err c.in_err-left-in-Binary.field-0.0) (value (expr_walk c.args.outline.now c.args.known.now x))) c.get-in-Binary.ensures c.in_err-left-in-Binary.ensures)))

pub plain-returns-in_err-right-in-Binary : goal.plain-returns-in_err-right-in-Binary
plain-returns-in_err-right-in-Binary t c =
    let told : c.from_residual-in_err-right-in-Binary.result ≡ Err c.in_err-right-in-Binary.field-0.0 = search rules in
    subst (λ r. Finds r (expr_walk c.args.outline.now c.args.known.now c.args.e.now).plain) (sym told)
    (reads _ _ (Err c.in_err-right-in-Binary.field-0.0) (walk_binary c.args.outline.now c.args.known.now c.args.e.now c.in-Binary.left c.in-Binary.op c.in-Binary.right c.in-Binary.is)
    (then_finds (value (expr_walk c.args.outline.now c.args.known.now c.in-Binary.left)) _ c.in_ok-left-in-Binary.left (Err c.in_err-right-in-Binary.field-0.0) (subst (λ x. Finds (Ok c.in_ok-left-in-Binary.left) (value (expr_walk c.args.outline.now c.args.known.now x))) c.get-in-Binary.ensures c.in_ok-left-in-Binary.ensures) (first_fails (value (expr_walk c.args.outline.now c.args.known.now c.in-Binary.right)) _ c.in_err-right-in-Binary.field-0.0 (subst (λ x. Finds (Err c.in_err-right-in-Binary.field-0.0) (value (expr_walk c.args.outline.now c.args.known.now x))) c.get-in-Binary-2.ensures c.in_err-right-in-Binary.ensures))))

pub plain-returns-in_ok-right-in-Binary : goal.plain-returns-in_ok-right-in-Binary
plain-returns-in_ok-right-in-Binary t c =
    reads _ _ c.binary.result (walk_binary c.args.outline.now c.args.known.now c.args.e.now c.in-Binary.left c.in-Binary.op c.in-Binary.right c.in-Binary.is)
    (then_finds (value (expr_walk c.args.outline.now c.args.known.now c.in-Binary.left)) _ c.in_ok-left-in-Binary.left c.binary.result (subst (λ x. Finds (Ok c.in_ok-left-in-Binary.left) (value (expr_walk c.args.outline.now c.args.known.now x))) c.get-in-Binary.ensures c.in_ok-left-in-Binary.ensures) (then_finds (value (expr_walk c.args.outline.now c.args.known.now c.in-Binary.right)) _ c.in_ok-right-in-Binary.right c.binary.result (subst (λ x. Finds (Ok c.in_ok-right-in-Binary.right) (value (expr_walk c.args.outline.now c.args.known.now x))) c.get-in-Binary-2.ensures c.in_ok-right-in-Binary.ensures) c.binary.ensures))

pub plain-returns-in_err-pointer-in-Index : goal.plain-returns-in_err-pointer-in-Index
plain-returns-in_err-pointer-in-Index t c =
    let told : c.from_residual-in_err-pointer-in-Index.result ≡ Err c.in_err-pointer-in-Index.field-0.0 = search rules in
    subst (λ r. Finds r (expr_walk c.args.outline.now c.args.known.now c.args.e.now).plain) (sym told)
    (reads _ _ (Err c.in_err-pointer-in-Index.field-0.0) (walk_index c.args.outline.now c.args.known.now c.args.e.now c.in-Index.array c.in-Index.index c.in-Index.is) (first_fails (value (expr_walk c.args.outline.now c.args.known.now c.in-Index.array)) _ c.in_err-pointer-in-Index.field-0.0 (subst (λ x. Finds (Err c.in_err-pointer-in-Index.field-0.0) (value (expr_walk c.args.outline.now c.args.known.now x))) c.get-in-Index.ensures c.in_err-pointer-in-Index.ensures)))

pub plain-returns-in_err-index-in-Index : goal.plain-returns-in_err-index-in-Index
plain-returns-in_err-index-in-Index t c =
    let told : c.from_residual-in_err-index-in-Index.result ≡ Err c.in_err-index-in-Index.field-0.0 = search rules in
    subst (λ r. Finds r (expr_walk c.args.outline.now c.args.known.now c.args.e.now).plain) (sym told)
    (reads _ _ (Err c.in_err-index-in-Index.field-0.0) (walk_index c.args.outline.now c.args.known.now c.args.e.now c.in-Index.array c.in-Index.index c.in-Index.is)
    (then_finds (value (expr_walk c.args.outline.now c.args.known.now c.in-Index.array)) _ c.in_ok-pointer-in-Index.pointer (Err c.in_err-index-in-Index.field-0.0) (subst (λ x. Finds (Ok c.in_ok-pointer-in-Index.pointer) (value (expr_walk c.args.outline.now c.args.known.now x))) c.get-in-Index.ensures c.in_ok-pointer-in-Index.ensures) (first_fails (value (expr_walk c.args.outline.now c.args.known.now c.in-Index.index)) _ c.in_err-index-in-Index.field-0.0 (subst (λ x. Finds (Err c.in_err-index-in-Index.field-0.0) (value (expr_walk c.args.outline.now c.args.known.now x))) c.get-in-Index-2.ensures c.in_err-index-in-Index.ensures))))

pub plain-returns-in_ok-index-in-Index : goal.plain-returns-in_ok-index-in-Index
plain-returns-in_ok-index-in-Index t c =
    reads _ _ c.item_at.result (walk_index c.args.outline.now c.args.known.now c.args.e.now c.in-Index.array c.in-Index.index c.in-Index.is)
    (then_finds (value (expr_walk c.args.outline.now c.args.known.now c.in-Index.array)) _ c.in_ok-pointer-in-Index.pointer c.item_at.result (subst (λ x. Finds (Ok c.in_ok-pointer-in-Index.pointer) (value (expr_walk c.args.outline.now c.args.known.now x))) c.get-in-Index.ensures c.in_ok-pointer-in-Index.ensures) (then_finds (value (expr_walk c.args.outline.now c.args.known.now c.in-Index.index)) _ c.in_ok-index-in-Index.index c.item_at.result (subst (λ x. Finds (Ok c.in_ok-index-in-Index.index) (value (expr_walk c.args.outline.now c.args.known.now x))) c.get-in-Index-2.ensures c.in_ok-index-in-Index.ensures) c.item_at.ensures))

pub plain-returns-in_err-type_name-in-Sizeof : goal.plain-returns-in_err-type_name-in-Sizeof
plain-returns-in_err-type_name-in-Sizeof t c =
    let e = c.in_err-type_name-in-Sizeof.field-0.0 in
    let told : c.from_residual-in_err-type_name-in-Sizeof.result ≡ Err e = search rules in
    subst (λ r. Finds r (expr_walk c.args.outline.now c.args.known.now c.args.e.now).plain) (sym told)
    (reads _ _ (Err e) (walk_sizeof c.args.outline.now c.args.known.now c.args.e.now c.in-Sizeof.t c.in-Sizeof.is)
    (first_fails (type_name_walk c.args.outline.now c.args.known.now c.in-Sizeof.t) _ e c.in_err-type_name-in-Sizeof.ensures))

pub plain-returns-in_ok-type_name-in-Sizeof : goal.plain-returns-in_ok-type_name-in-Sizeof
plain-returns-in_ok-type_name-in-Sizeof t c = λ _.
    ap (λ f. f.plain) (walk_sizeof c.args.outline.now c.args.known.now c.args.e.now c.in-Sizeof.t c.in-Sizeof.is)
    ∙ ap (λ p. no_value p c.args.e.now.line) c.in_ok-type_name-in-Sizeof.ensures

pub allocation-returns-in_err-item-in-Sizeof : goal.allocation-returns-in_err-item-in-Sizeof
allocation-returns-in_err-item-in-Sizeof t c =
    let e = c.in_err-item-in-Sizeof.field-0.0 in
    let p = type_name_walk c.args.outline.now c.args.known.now c.in-Sizeof.t in
    let told : c.from_residual.result ≡ Err e = search rules in
    subst (λ r. Finds r (allocates c.args.line (expr_walk c.args.outline.now c.args.known.now c.args.e.now).size)) (sym told)
    (subst (λ s. Finds (Err e) (allocates c.args.line s.size)) (sym (walk_sizeof c.args.outline.now c.args.known.now c.args.e.now c.in-Sizeof.t c.in-Sizeof.is))
    (subst (λ f. Finds (Err e) f) (sym (for_one c.args.line p)) (first_fails p _ e c.in_err-item-in-Sizeof.ensures)))

pub allocation-returns-in_ok-item-in-Sizeof : goal.allocation-returns-in_ok-item-in-Sizeof
allocation-returns-in_ok-item-in-Sizeof t c =
    let p = type_name_walk c.args.outline.now c.args.known.now c.in-Sizeof.t in
    subst (λ s. Finds c.allocated.result (allocates c.args.line s.size)) (sym (walk_sizeof c.args.outline.now c.args.known.now c.args.e.now c.in-Sizeof.t c.in-Sizeof.is))
    (subst (λ f. Finds c.allocated.result f) (sym (for_one c.args.line p))
    (then_finds p (λ t. kept mismatch c.args.line (allocated_by t None)) c.in_ok-item-in-Sizeof.item c.allocated.result c.in_ok-item-in-Sizeof.ensures c.allocated.ensures))

pub allocation-returns-then-not-is_mul : goal.allocation-returns-then-not-is_mul
allocation-returns-then-not-is_mul t c = λ _.
    ap (λ f. allocates c.args.line f.size) (walk_binary c.args.outline.now c.args.known.now c.args.e.now c.in-Binary.left c.in-Binary.op c.in-Binary.right c.in-Binary.is) ∙ product_other c.args.line c.in-Binary.op (expr_walk c.args.outline.now c.args.known.now c.in-Binary.left) (expr_walk c.args.outline.now c.args.known.now c.in-Binary.right) (sym c.is_mul.ensures ∙ c.if-not-is_mul.true)

pub allocation-returns-in-Some : goal.allocation-returns-in-Some
allocation-returns-in-Some t c =
    let right = ap (λ e. (expr_walk c.args.outline.now c.args.known.now e).sizeof) (sym c.get.ensures) ∙ c.sized.ensures c.args.outline.now c.args.known.now ∙ ap (λ r. sizeof_as c.args.outline.now c.args.known.now (option_copied r)) c.in-Some.is in
    let left = subst (λ e. Finds c.count_first.result (count_first c.args.outline.now c.args.known.now c.args.line (expr_walk c.args.outline.now c.args.known.now e) c.in-Some.t.now)) c.get-in-Some.ensures c.count_first.ensures in
    subst (λ f. Finds c.count_first.result (allocates c.args.line f.size)) (sym (walk_binary c.args.outline.now c.args.known.now c.args.e.now c.in-Binary.left c.in-Binary.op c.in-Binary.right c.in-Binary.is))
    (subst (λ f. Finds c.count_first.result f) (sym (product_right c.args.outline.now c.args.known.now c.args.line c.in-Binary.op (expr_walk c.args.outline.now c.args.known.now c.in-Binary.left) (expr_walk c.args.outline.now c.args.known.now c.in-Binary.right) c.in-Some.t.now (sym c.is_mul.ensures ∙ c.if-not-is_mul.false) right)) left)

pub allocation-returns-in-Some-sized : goal.allocation-returns-in-Some-sized
allocation-returns-in-Some-sized t c =
    let none = ap (λ e. (expr_walk c.args.outline.now c.args.known.now e).sizeof) (sym c.get.ensures) ∙ c.sized.ensures c.args.outline.now c.args.known.now ∙ ap (λ r. sizeof_as c.args.outline.now c.args.known.now (option_copied r)) c.in-None.is in
    let left = ap (λ e. (expr_walk c.args.outline.now c.args.known.now e).sizeof) (sym c.get-in-None.ensures) ∙ c.sized-in-None.ensures c.args.outline.now c.args.known.now ∙ ap (λ r. sizeof_as c.args.outline.now c.args.known.now (option_copied r)) c.in-Some-sized.is in
    let right = subst (λ e. Finds c.type_first.result (type_first c.args.outline.now c.args.known.now c.args.line c.in-Some-sized.t.now (expr_walk c.args.outline.now c.args.known.now e))) c.get-in-Some-sized.ensures c.type_first.ensures in
    subst (λ f. Finds c.type_first.result (allocates c.args.line f.size)) (sym (walk_binary c.args.outline.now c.args.known.now c.args.e.now c.in-Binary.left c.in-Binary.op c.in-Binary.right c.in-Binary.is))
    (subst (λ f. Finds c.type_first.result f) (sym (product_left c.args.outline.now c.args.known.now c.args.line c.in-Binary.op (expr_walk c.args.outline.now c.args.known.now c.in-Binary.left) (expr_walk c.args.outline.now c.args.known.now c.in-Binary.right) c.in-Some-sized.t.now (sym c.is_mul.ensures ∙ c.if-not-is_mul.false) none left)) right)

pub allocation-returns-in-None-sized : goal.allocation-returns-in-None-sized
allocation-returns-in-None-sized t c = λ _.
    let none = ap (λ e. (expr_walk c.args.outline.now c.args.known.now e).sizeof) (sym c.get.ensures) ∙ c.sized.ensures c.args.outline.now c.args.known.now ∙ ap (λ r. sizeof_as c.args.outline.now c.args.known.now (option_copied r)) c.in-None.is in
    let left = ap (λ e. (expr_walk c.args.outline.now c.args.known.now e).sizeof) (sym c.get-in-None.ensures) ∙ c.sized-in-None.ensures c.args.outline.now c.args.known.now ∙ ap (λ r. sizeof_as c.args.outline.now c.args.known.now (option_copied r)) c.in-None-sized.is in
    ap (λ f. allocates c.args.line f.size) (walk_binary c.args.outline.now c.args.known.now c.args.e.now c.in-Binary.left c.in-Binary.op c.in-Binary.right c.in-Binary.is) ∙ product_none c.args.line c.in-Binary.op (expr_walk c.args.outline.now c.args.known.now c.in-Binary.left) (expr_walk c.args.outline.now c.args.known.now c.in-Binary.right) (sym c.is_mul.ensures ∙ c.if-not-is_mul.false) none left

pub allocation-returns-in_default : goal.allocation-returns-in_default
allocation-returns-in_default t c = λ _. ap (λ s. allocates c.args.line s) (no_size c.args.outline.now c.args.known.now c.args.e.now c.in_default.not-Sizeof c.in_default.not-Binary)
