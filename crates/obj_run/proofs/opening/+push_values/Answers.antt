use Rattle.std.proofs.Common.{rules, ◌≡◌, ◌++◌, ◌≤◌, ◌∙◌, [], ◌∷◌, reverse, sym, subst, length, ap, arith, slice_index, Some, None, refl}
use Rattle.std.specs.Prelude.{slice_get}
use Rattle.std.specs.List.{flat_map}
use Rattle.std.proofs.lemmas.Option.{slice_get-get_or}
use Rattle.obj_mem.specs.declared.value.Value.{Value}
use Rattle.tac_ir.specs.declared.code.Shape.{Shape}
use Rattle.obj_run.specs.Starts.{values_in}
use Rattle.obj_run.proofs.StartWords.{named_below, values_at, values_absent, times_step, times_end, flat_end, append_none}
use Rattle.obj_run.proofs.opening.+push_values.Goals as goal

pub push_values-requires : goal.push_values-requires
push_values-requires t c =
    let found : slice_get c.args.c.now.shapes c.args.shape ≡ Some (Shape.Array c.in-Some-Array.len c.in-Some-Array.item) = search rules in
    (omega (arith, named_below c.args.c.now c.requires c.args.shape _ found 0 c.in-Some-Array.item refl, c.decreases), c.requires)

pub loop-preserved : goal.loop-preserved
loop-preserved t c = times_step c.in-Some-Array.len c.loop.counter _ _ _ _ c.loop-test.true c.in_ok-push_values-in-Some-Array.ensures c.loop.invariant

pub push_values-requires-in-loop-part : goal.push_values-requires-in-loop-part
push_values-requires-in-loop-part t c =
    let found : slice_get c.args.c.now.shapes c.args.shape ≡ Some (Shape.Struct c.in-Some-Struct.parts) = search rules in
    let parts : c.as_slice-part-items.result.now ≡ c.in-Some-Struct.parts = search rules in
    let listed = slice_get-get_or c.as_slice-part-items.result.now c.loop-part.part-index 0 c.loop-part-test.true in
    (omega (arith, named_below c.args.c.now c.requires c.args.shape _ found c.loop-part.part-index _ (subst (λ xs. slice_get xs c.loop-part.part-index ≡ Some (slice_index c.as_slice-part-items.result.now c.loop-part.part-index)) parts listed), c.decreases), c.requires)

pub returns-in-None : goal.returns-in-None
returns-in-None t c =
    let found : slice_get c.args.c.now.shapes c.args.shape ≡ None = search rules in
    sym (append_none c.args.words.now.items) ∙ ap (λ x. c.args.words.now.items ++ x) (sym (values_absent c.args.int c.args.c.now.shapes c.args.shape found))

pub returns-in_ok-push-in-Some-Int : goal.returns-in_ok-push-in-Some-Int
returns-in_ok-push-in-Some-Int t c =
    let found : slice_get c.args.c.now.shapes c.args.shape ≡ Some Shape.Int = search rules in
    let pushed : c.push.new.self.items ≡ c.args.words.now.items ++ c.args.int ∷ [] = search rules in
    pushed ∙ ap (λ x. c.args.words.now.items ++ x) (sym (values_at c.args.c.now c.requires c.args.int c.args.shape _ found))

pub returns-in_ok-push-in-Some-Ptr : goal.returns-in_ok-push-in-Some-Ptr
returns-in_ok-push-in-Some-Ptr t c =
    let found : slice_get c.args.c.now.shapes c.args.shape ≡ Some Shape.Ptr = search rules in
    let pushed : c.push-in-Some-Ptr.new.self.items ≡ c.args.words.now.items ++ Value.Null ∷ [] = search rules in
    pushed ∙ ap (λ x. c.args.words.now.items ++ x) (sym (values_at c.args.c.now c.requires c.args.int c.args.shape _ found))

pub returns-after-loop : goal.returns-after-loop
returns-after-loop t c =
    let found : slice_get c.args.c.now.shapes c.args.shape ≡ Some (Shape.Array c.in-Some-Array.len c.in-Some-Array.item) = search rules in
    let past : c.in-Some-Array.len ≤ c.loop.counter = search rules in
    times_end c.in-Some-Array.len c.loop.counter _ _ _ past c.loop.invariant ∙ ap (λ x. c.args.words.now.items ++ x) (sym (values_at c.args.c.now c.requires c.args.int c.args.shape _ found))

pub returns-after-loop-part : goal.returns-after-loop-part
returns-after-loop-part t c =
    let found : slice_get c.args.c.now.shapes c.args.shape ≡ Some (Shape.Struct c.in-Some-Struct.parts) = search rules in
    let parts : c.as_slice-part-items.result.now ≡ c.in-Some-Struct.parts = search rules in
    let past : length c.as_slice-part-items.result.now ≤ c.loop-part.part-index = search rules in
    flat_end (values_in c.args.int (reverse c.args.c.now.shapes)) c.as_slice-part-items.result.now c.loop-part.part-index _ _ past c.loop-part.invariant
    ∙ ap (λ xs. c.args.words.now.items ++ flat_map (values_in c.args.int (reverse c.args.c.now.shapes)) xs) parts
    ∙ ap (λ x. c.args.words.now.items ++ x) (sym (values_at c.args.c.now c.requires c.args.int c.args.shape _ found))
