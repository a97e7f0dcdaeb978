use Rattle.std.proofs.Common.{rules, ◌≡◌, option_map, map, ap, sym, ◌∙◌, subst, to_z, of_z, w32}
use Rattle.obj_mem.specs.declared.value.Value.{Value}
use Rattle.c_typed.specs.declared.expr.Form.TheOpen.{Form-F}
use Rattle.src_law.specs.Acts.{a_value}
use Rattle.src_law.specs.Exprs.{form, expr, global_place, local_place, calls}
use Rattle.src_law.specs.Program.{body}
use Rattle.src_law.specs.tools.Heard.{got}
use Rattle.src_law.specs.tools.Reader.{reads}
use Rattle.src_meaning.specs.tools.Levels.{ReadsIn, seen, program_of}
use Rattle.src_meaning.proofs.Forms.{global_is, local_is, deref_is, index_is, field_is, arrow_is, number_is, null_is, read_is, decay_is, address_is, prefix_is, binary_is, call_is, getint_is, left_is, new_is}
use Rattle.src_meaning.proofs.Reading.{given}
use Rattle.src_meaning.proofs.exprs.Parts.+exprs.Goals as goal

pub expr-returns-in-Global : goal.expr-returns-in-Global
expr-returns-in-Global g t c =
    subst (λ a. ReadsIn c.args.self.now.level a_value a c.args.heard.now c.global_place.result c.args.heard.now)
    (sym (global_is (seen c.args.self.now.level) c.args.e.now c.in-Global.v c.in-Global.is))
    (given (global_place (seen c.args.self.now.level) c.in-Global.v) c.args.heard.now c.global_place.result c.global_place.ensures)

pub expr-returns-in-Local : goal.expr-returns-in-Local
expr-returns-in-Local g t c =
    subst (λ a. ReadsIn c.args.self.now.level a_value a c.args.heard.now c.local_place.result c.args.heard.now)
    (sym (local_is (seen c.args.self.now.level) c.args.e.now c.in-Local.v c.in-Local.is))
    (given (local_place (seen c.args.self.now.level) c.in-Local.v) c.args.heard.now c.local_place.result c.local_place.ensures)

pub expr-returns-in-Number : goal.expr-returns-in-Number
expr-returns-in-Number g t c =
    let same : to_z w32 (of_z w32 c.in-Number.k) ≡ c.in-Number.k = search rules in
    ap (λ a. reads (body (program_of c.args.self.now.level.program)) c.args.self.now.level.fuel a_value a c.args.heard.now) (number_is (seen c.args.self.now.level) c.args.e.now c.in-Number.k c.in-Number.is)
    ∙ ap (λ k. got (Value.Int k) c.args.heard.now) (sym same)

pub expr-returns-in-Null : goal.expr-returns-in-Null
expr-returns-in-Null g t c =
    ap (λ a. reads (body (program_of c.args.self.now.level.program)) c.args.self.now.level.fuel a_value a c.args.heard.now) (null_is (seen c.args.self.now.level) c.args.e.now c.in-Null.is)

pub expr-returns-in-GetInt : goal.expr-returns-in-GetInt
expr-returns-in-GetInt g t c =
    subst (λ a. ReadsIn c.args.self.now.level a_value a c.args.heard.now c.value.result c.value.new.self)
    (sym (getint_is (seen c.args.self.now.level) c.args.e.now c.in-GetInt.is))
    (c.value.ensures)

pub expr-returns-in-Left : goal.expr-returns-in-Left
expr-returns-in-Left g t c =
    subst (λ a. ReadsIn c.args.self.now.level a_value a c.args.heard.now c.value-in-Left.result c.value-in-Left.new.self)
    (sym (left_is (seen c.args.self.now.level) c.args.e.now c.in-Left.is))
    (c.value-in-Left.ensures)

pub expr-returns-in-Deref : goal.expr-returns-in-Deref
expr-returns-in-Deref g t c =
    subst (λ a. ReadsIn c.args.self.now.level a_value a c.args.heard.now c.operand.result c.operand.new.heard)
    (sym (deref_is (seen c.args.self.now.level) c.args.e.now c.in-Deref.pointer c.in-Deref.is))
    (c.operand.ensures)

pub expr-returns-in-Address : goal.expr-returns-in-Address
expr-returns-in-Address g t c =
    subst (λ a. ReadsIn c.args.self.now.level a_value a c.args.heard.now c.operand-in-Address.result c.operand-in-Address.new.heard)
    (sym (address_is (seen c.args.self.now.level) c.args.e.now c.in-Address.place c.in-Address.is))
    (c.operand-in-Address.ensures)

pub expr-returns-in-Index : goal.expr-returns-in-Index
expr-returns-in-Index g t c =
    subst (λ a. ReadsIn c.args.self.now.level a_value a c.args.heard.now c.index.result c.index.new.heard)
    (sym (index_is (seen c.args.self.now.level) c.args.e.now c.in-Index.pointer c.in-Index.index c.in-Index.is))
    (c.index.ensures)

pub expr-returns-in-Field : goal.expr-returns-in-Field
expr-returns-in-Field g t c =
    subst (λ a. ReadsIn c.args.self.now.level a_value a c.args.heard.now c.field.result c.field.new.heard)
    (sym (field_is (seen c.args.self.now.level) c.args.e.now c.in-Field.whole c.in-Field.field c.in-Field.is))
    (c.field.ensures)

pub expr-returns-in-Arrow : goal.expr-returns-in-Arrow
expr-returns-in-Arrow g t c =
    subst (λ a. ReadsIn c.args.self.now.level a_value a c.args.heard.now c.field-in-Arrow.result c.field-in-Arrow.new.heard)
    (sym (arrow_is (seen c.args.self.now.level) c.args.e.now c.in-Arrow.pointer c.in-Arrow.field c.in-Arrow.is))
    (c.field-in-Arrow.ensures)

pub expr-returns-in-Read : goal.expr-returns-in-Read
expr-returns-in-Read g t c =
    subst (λ a. ReadsIn c.args.self.now.level a_value a c.args.heard.now c.read.result c.read.new.heard)
    (sym (read_is (seen c.args.self.now.level) c.args.e.now c.in-Read.place c.in-Read.is))
    (c.read.ensures)

pub expr-returns-in-Decay : goal.expr-returns-in-Decay
expr-returns-in-Decay g t c =
    subst (λ a. ReadsIn c.args.self.now.level a_value a c.args.heard.now c.decay.result c.decay.new.heard)
    (sym (decay_is (seen c.args.self.now.level) c.args.e.now c.in-Decay.place c.in-Decay.is))
    (c.decay.ensures)

pub expr-returns-in-Prefix : goal.expr-returns-in-Prefix
expr-returns-in-Prefix g t c =
    subst (λ a. ReadsIn c.args.self.now.level a_value a c.args.heard.now c.prefix.result c.prefix.new.heard)
    (sym (prefix_is (seen c.args.self.now.level) c.args.e.now c.in-Prefix.op c.in-Prefix.operand c.in-Prefix.is))
    (c.prefix.ensures)

pub expr-returns-in-Binary : goal.expr-returns-in-Binary
expr-returns-in-Binary g t c =
    subst (λ a. ReadsIn c.args.self.now.level a_value a c.args.heard.now c.binary.result c.binary.new.heard)
    (sym (binary_is (seen c.args.self.now.level) c.args.e.now c.in-Binary.left c.in-Binary.op c.in-Binary.right c.in-Binary.is))
    (c.binary.ensures)

pub expr-returns-in-Call : goal.expr-returns-in-Call
expr-returns-in-Call g t c =
    subst (λ a. ReadsIn c.args.self.now.level a_value a c.args.heard.now c.calls.result c.calls.new.heard)
    (sym (call_is (seen c.args.self.now.level) c.args.e.now c.in-Call.function c.in-Call.arguments c.in-Call.is))
    (subst (λ xs. ReadsIn c.args.self.now.level a_value (calls c.in-Call.function (map (expr (seen c.args.self.now.level)) xs)) c.args.heard.now c.calls.result c.calls.new.heard) c.as_slice.ensures c.calls.ensures)

pub expr-returns-in-None : goal.expr-returns-in-None
expr-returns-in-None g t c =
    subst (λ a. ReadsIn c.args.self.now.level a_value a c.args.heard.now c.makes.result c.makes.new.heard)
    (sym (new_is (seen c.args.self.now.level) c.args.e.now c.in-New.site c.in-New.item c.in-New.count c.in-New.is))
    (subst (λ x. ReadsIn c.args.self.now.level a_value (form (seen c.args.self.now.level) (Form-F.New c.in-New.site c.in-New.item (option_map (expr (seen c.args.self.now.level)) x))) c.args.heard.now c.makes.result c.makes.new.heard) (sym c.in-None.is) c.makes.ensures)

pub expr-returns-in-Some : goal.expr-returns-in-Some
expr-returns-in-Some g t c =
    subst (λ a. ReadsIn c.args.self.now.level a_value a c.args.heard.now c.makes-in-Some.result c.makes-in-Some.new.heard)
    (sym (new_is (seen c.args.self.now.level) c.args.e.now c.in-New.site c.in-New.item c.in-New.count c.in-New.is))
    (subst (λ x. ReadsIn c.args.self.now.level a_value (form (seen c.args.self.now.level) (Form-F.New c.in-New.site c.in-New.item (option_map (expr (seen c.args.self.now.level)) x))) c.args.heard.now c.makes-in-Some.result c.makes-in-Some.new.heard) (sym c.in-Some.is) c.makes-in-Some.ensures)
