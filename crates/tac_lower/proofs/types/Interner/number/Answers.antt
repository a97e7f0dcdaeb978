use Rattle.std.proofs.Common.{[], ◌∷◌, subst}
use Rattle.std.proofs.lemmas.Result.{IfOk-weaker}
use Rattle.tac_lower.specs.Shapes.{object_entry}
use Rattle.tac_lower.specs.tools.Interning.{Enters, Interned, first_structs}
use Rattle.tac_lower.proofs.interned.InternedLists.{single}
use Rattle.tac_lower.proofs.types.Interner.number.Goals as goal

pub returns : goal.returns
returns c =
    let structs = c.args.structs.now in
    let t = c.args.object.now in
    IfOk-weaker c.object.result (λ n. Enters structs (object_entry (first_structs structs c.len.result) t) c.args.self.now c.object.new.self n)
    (λ n. Interned structs (t ∷ []) (λ shape. shape t) c.args.self.now c.object.new.self n)
    (λ n entered. single structs t c.args.self.now c.object.new.self n (subst (λ k. Enters structs (object_entry (first_structs structs k) t) c.args.self.now c.object.new.self n) c.len.ensures entered))
    c.object.ensures
