use Rattle.std.proofs.Common.{ℕ, List, ◌<◌, ◌≡◌, ◌∙◌, ap, sym, length, get_or, Some, arith}
use Rattle.std.specs.Prelude.{slice_get}
use Rattle.std.proofs.lemmas.Option.{slice_get-get_or}
use Rattle.tac_ir.specs.declared.code.Code.{Code}
use Rattle.tac_ir.specs.declared.code.Lined.{Lined}
use Rattle.tac_ir.specs.Layout.{lines_of}
use Rattle.tac_ir.specs.GoodForm.{GoodForm}
use Rattle.tac_thread.specs.tools.Fetched.{IsUsable}
use Rattle.tac_thread.proofs.Usable.{usable_line}
use Rattle.tac_thread.proofs.resume.named_call.Goals as goal

usable_item : (c : Code) → GoodForm c → (f i : ℕ) (items : List Lined) (item : Lined) → items ≡ lines_of c f → i < length items → item ≡ get_or items i item → IsUsable c f i item.instr
usable_item c good f i items item same inside is =
    usable_line c good f i item (ap (λ xs. slice_get xs i) (sym same) ∙ slice_get-get_or items i item inside ∙ ap Some (sym is))

pub is_call_named-requires : goal.is_call_named-requires
is_call_named-requires g c = (usable_item _ c.requires _ _ _ _ c.lines_of-line-items.ensures c.loop-line-test.true c.line-item.is).numbers

pub overflow_add-at : goal.overflow_add-at
overflow_add-at g c =
    let here = usable_item _ c.requires _ _ _ _ c.lines_of-line-items.ensures c.loop-line-test.true c.line-item.is in
    omega (arith, here.within)
