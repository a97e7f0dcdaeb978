use Rattle.std.proofs.Common.{◌≡◌, ◌∙◌, [], get_or, Some, ap, arith, length, refl, reverse, subst, sym, take}
use Rattle.std.proofs.lemmas.Option.{slice_get_read}
use Rattle.std.proofs.lemmas.Result.{IfOk-weaker}
use Rattle.tac_lower.specs.Shapes.{Entry, array_entry, base_entry, object_entry, part_entries}
use Rattle.tac_lower.specs.tools.Interning.{AreFew, Entered, Enters, first_structs}
use Rattle.tac_lower.proofs.interned.InternedLists.{arrays_entered, struct_hidden, struct_known, struct_entered}
use Rattle.tac_lower.proofs.interned.Interns.{structs_intern}
use Rattle.tac_lower.proofs.interned.FewShapes.{few_arrays, few_part, few_fields, few_whole}
use Rattle.tac_lower.proofs.types.Interner.+types.Goals as goal

pub object-returns : goal.object-returns
object-returns t c =
    let S = first_structs c.args.structs.now c.args.limit in
    let begun : Entry = record { shapes = c.base.new.self.shapes; number = c.in_ok-item.item } in
    IfOk-weaker c.arrays.result (λ n. array_entry c.as_slice.result.now begun ≡ record { shapes = c.arrays.new.self; number = n })
    (λ n. Enters c.args.structs.now (object_entry S c.args.object.now) c.args.self.now (record { shapes = c.arrays.new.self; known = c.base.new.self.known }) n)
    (λ n is. arrays_entered c.args.structs.now (base_entry S c.args.object.now.base c.args.object.now.stars) c.args.object.now.lengths c.args.self.now c.base.new.self c.arrays.new.self c.in_ok-item.item n c.in_ok-item.ensures
    (ap (λ ls. array_entry ls begun) (sym c.as_slice.ensures) ∙ is))
    c.arrays.ensures

pub struct_number-returns-then-number-limit : goal.struct_number-returns-then-number-limit
struct_number-returns-then-number-limit t c = struct_hidden c.args.structs.now c.args.limit c.args.number c.args.self.now c.if-number-limit.true c.requires.kept

pub struct_number-returns-in-Some : goal.struct_number-returns-in-Some
struct_number-returns-in-Some t c =
    struct_known c.args.structs.now c.args.limit c.args.number c.in-Some.known c.args.self.now c.if-number-limit.false c.requires.limit
    (slice_get_read c.args.self.now.known.items (length c.args.self.now.known.items) c.args.number c.index.result.now refl (let few = c.requires.kept.count in let l = c.requires.limit in let n = c.if-number-limit.false in omega arith) c.index.ensures ∙ ap Some c.in-Some.is) c.requires.kept

pub struct_number-returns : goal.struct_number-returns
struct_number-returns t c =
    let s = c.index-items-number.result in
    let parts = c.in_ok-parts.parts.items in
    let fields = c.as_slice-fields.ensures ∙ ap (λ s. s.fields) (sym c.index-items-number.is) in
    let here = c.index-items-number.is ∙ ap (λ ss. get_or ss c.args.number s) c.items-items.ensures in
    let S = first_structs c.args.structs.now c.args.number in
    let first = subst (λ ts. Entered c.args.structs.now (λ shapes. (part_entries S [] ts shapes).shapes) (λ shapes. (part_entries S [] ts shapes).numbers) c.args.self.now c.parts.new.self parts) fields c.in_ok-parts.ensures in
    struct_entered c.args.structs.now c.args.limit c.args.number c.in_ok-shape.shape s c.args.self.now c.parts.new.self
    (record { shapes = c.number.new.self; known = _ }) parts c.number.new.self c.if-number-limit.false c.requires.limit here
    first c.in_ok-shape.ensures refl refl

pub object-base-requires : goal.object-base-requires
object-base-requires t c =
    let S = first_structs c.args.structs.now c.args.limit in
    let few = few_arrays c.args.object.now.lengths (base_entry S c.args.object.now.base c.args.object.now.stars c.args.self.now.shapes) c.requires.few in
    (omega arith, (c.requires.limit, (c.requires.kept, few)))

pub parts-object-requires : goal.parts-object-requires
parts-object-requires t c =
    let S = first_structs c.args.structs.now c.args.limit in
    let fields = c.args.fields.now in
    let few = few_part S (structs_intern (reverse (take c.args.limit c.args.structs.now))) c.loop-field.parts.items fields c.loop-field.field-index c.field-item.result c.loop-field.self.shapes
    (part_entries S [] fields c.args.self.now.shapes) c.loop-field-test.true c.field-item.is c.loop-field.invariant.rest c.requires.few in
    (omega arith, (c.requires.limit, (c.loop-field.invariant.kept, few)))

pub struct_number-parts-requires : goal.struct_number-parts-requires
struct_number-parts-requires t c =
    let s = c.index-items-number.result in
    let structs = c.args.structs.now in
    let here = c.index-items-number.is ∙ ap (λ ss. get_or ss c.args.number s) c.items-items.ensures in
    let fields = c.as_slice-fields.ensures ∙ ap (λ s. s.fields) (sym c.index-items-number.is) in
    let few = few_fields structs c.args.limit c.args.number s c.args.self.now.shapes c.if-number-limit.false c.requires.limit here c.requires.few in
    (omega arith, (omega (arith, c.if-number-limit.false, c.requires.limit), (c.requires.kept, subst (λ ts. AreFew (part_entries (first_structs structs c.args.number) [] ts c.args.self.now.shapes).shapes) (sym fields) few)))

pub struct_number-number-requires : goal.struct_number-number-requires
struct_number-number-requires t c =
    let s = c.index-items-number.result in
    let structs = c.args.structs.now in
    let parts = c.in_ok-parts.parts.items in
    let S = first_structs structs c.args.number in
    let fields = c.as_slice-fields.ensures ∙ ap (λ s. s.fields) (sym c.index-items-number.is) in
    let here = c.index-items-number.is ∙ ap (λ ss. get_or ss c.args.number s) c.items-items.ensures in
    let first = subst (λ ts. Entered structs (λ shapes. (part_entries S [] ts shapes).shapes) (λ shapes. (part_entries S [] ts shapes).numbers) c.args.self.now c.parts.new.self parts) fields c.in_ok-parts.ensures in
    few_whole structs c.args.limit c.args.number s c.args.self.now.shapes c.if-number-limit.false c.requires.limit here c.requires.few c.parts.new.self.shapes parts first.shapes first.result
