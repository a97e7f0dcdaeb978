use Rattle.std.proofs.Common.{◌≡◌, ◌<◌, ◌∷◌, true, false, length, length-set, set, replicate, ◌↔◌, ap, sym, ◌∙◌, subst, IsTrue, Contains, arith}
use Rattle.std.proofs.lemmas.List.{length-replicate}
use Rattle.dfi_base.specs.Bits.{has}
use Rattle.least_rows.specs.declared.rules.Rule.{Rule}
use Rattle.least_rows.specs.Rules.{row_has, Passes, IsFittingRule, IsMoved, IsLoaded}
use Rattle.least_rows.specs.tools.Growing.{IsApplied}
use Rattle.least_rows.proofs.Gathering.{InAll}
use Rattle.least_rows.proofs.Applying.{has_applied, flow_applied, shift_applied, meet_applied, load_applied, single}
use Rattle.least_rows.proofs.solver.Solver.apply.Goals as goal

pub returns-in-Has-clause-applied : goal.returns-in-Has-clause-applied
returns-in-Has-clause-applied c index one =
    let s = c.args.system.now in
    let t = c.args.self.now.rows.items in
    let wide = length c.args.asked.now in
    let fits : IsFittingRule s.width (length s.masks) (length t) (Rule.Has c.in-Has.row c.in-Has.member) = subst (IsFittingRule s.width (length s.masks) (length t)) c.in-Has.is c.requires.rule in
    let inside : c.in-Has.member < wide = omega (arith, fits.1, c.requires.width) in
    let empty : length (replicate wide false) ≡ wide = length-replicate wide false in
    let made : c.put.new.self ≡ set (replicate wide false) c.in-Has.member true =
    c.put.ensures ∙ ap (λ l. set l c.in-Has.member true) (c.copy_from.ensures ∙ c.requires.empty) in
    let long : length c.put.new.self ≡ wide = ap length made ∙ length-set (replicate wide false) c.in-Has.member true ∙ empty in
    subst (λ r. IsApplied s r t c.args.self.now.waiting c.write.new.self.rows.items c.write.new.self.waiting c.write.result) (sym c.in-Has.is)
    (has_applied s t c.args.self.now.waiting c.in-Has.row wide c.put.new.self c.write.new.self.rows.items c.write.new.self.waiting c.write.result fits.0 c.requires.rows long (c.write.ensures.written s index) c.in-Has.member (subst (Contains s.rules) c.in-Has.is one) (λ k. subst (λ l. IsTrue (has l k) ↔ (k ≡ c.in-Has.member)) (sym made) (single wide c.in-Has.member k inside empty)))

pub returns-in-Flow-clause-applied : goal.returns-in-Flow-clause-applied
returns-in-Flow-clause-applied c index one =
    let s = c.args.system.now in
    let t = c.args.self.now.rows.items in
    let wide = length c.args.asked.now in
    let fits : IsFittingRule s.width (length s.masks) (length t) (Rule.Flow c.in-Flow.from c.in-Flow.mask c.in-Flow.to) = subst (IsFittingRule s.width (length s.masks) (length t)) c.in-Flow.is c.requires.rule in
    subst (λ r. IsApplied s r t c.args.self.now.waiting c.write-in-Flow.new.self.rows.items c.write-in-Flow.new.self.waiting c.write-in-Flow.result) (sym c.in-Flow.is)
    (flow_applied s t c.args.self.now.waiting c.in-Flow.to wide c.gather_row.new.asked c.write-in-Flow.new.self.rows.items c.write-in-Flow.new.self.waiting c.write-in-Flow.result fits.1 c.requires.rows c.gather_row.ensures.long (c.write-in-Flow.ensures.written s index) c.in-Flow.from c.in-Flow.mask (subst (Contains s.rules) c.in-Flow.is one)
    (λ k.
    subst (λ x. IsTrue (has c.gather_row.new.asked k) ↔ (IsTrue (row_has x c.in-Flow.from k) × Passes s.masks c.in-Flow.mask k)) c.deref.ensures.value
    (subst (λ m. IsTrue (has c.gather_row.new.asked k) ↔ (IsTrue (row_has c.deref.result.now c.in-Flow.from k) × Passes m c.in-Flow.mask k)) c.as_slice.ensures
    (c.gather_row.ensures.asked k))))

pub returns-in-Shift-clause-applied : goal.returns-in-Shift-clause-applied
returns-in-Shift-clause-applied c index one =
    let s = c.args.system.now in
    let t = c.args.self.now.rows.items in
    let wide = length c.args.asked.now in
    let shift = Rule.Shift c.in-Shift.from c.in-Shift.mask c.in-Shift.by c.in-Shift.to in
    let fits : IsFittingRule s.width (length s.masks) (length t) shift = subst (IsFittingRule s.width (length s.masks) (length t)) c.in-Shift.is c.requires.rule in
    let empty : length c.copy_from-in-Shift.new.self ≡ wide = ap length (c.copy_from-in-Shift.ensures ∙ c.requires.empty) ∙ length-replicate wide false in
    let long : length c.gather_moved.new.asked ≡ wide = c.gather_moved.ensures.long ∙ empty in
    subst (λ r. IsApplied s r t c.args.self.now.waiting c.write-in-Shift.new.self.rows.items c.write-in-Shift.new.self.waiting c.write-in-Shift.result) (sym c.in-Shift.is)
    (shift_applied s t c.args.self.now.waiting c.in-Shift.to wide c.gather_moved.new.asked c.write-in-Shift.new.self.rows.items c.write-in-Shift.new.self.waiting c.write-in-Shift.result fits.1 c.requires.rows long (c.write-in-Shift.ensures.written s index) c.in-Shift.from c.in-Shift.mask c.in-Shift.by (subst (Contains s.rules) c.in-Shift.is one)
    (λ k.
    subst (λ n. IsTrue (has c.gather_moved.new.asked k) ↔ ((k < n) × IsMoved t s.masks c.in-Shift.from c.in-Shift.mask c.in-Shift.by k)) (empty ∙ c.requires.width)
    (subst (λ x. IsTrue (has c.gather_moved.new.asked k) ↔ ((k < length c.copy_from-in-Shift.new.self) × IsMoved x s.masks c.in-Shift.from c.in-Shift.mask c.in-Shift.by k)) c.deref-in-Shift.ensures.value
    (subst (λ m. IsTrue (has c.gather_moved.new.asked k) ↔ ((k < length c.copy_from-in-Shift.new.self) × IsMoved c.deref-in-Shift.result.now m c.in-Shift.from c.in-Shift.mask c.in-Shift.by k)) c.as_slice-in-Shift.ensures
    (c.gather_moved.ensures.asked k)))))

pub returns-in-Meet-clause-applied : goal.returns-in-Meet-clause-applied
returns-in-Meet-clause-applied c index one =
    let s = c.args.system.now in
    let t = c.args.self.now.rows.items in
    let wide = length c.args.asked.now in
    let fits : IsFittingRule s.width (length s.masks) (length t) (Rule.Meet c.in-Meet.first c.in-Meet.rest c.in-Meet.to) = subst (IsFittingRule s.width (length s.masks) (length t)) c.in-Meet.is c.requires.rule in
    subst (λ r. IsApplied s r t c.args.self.now.waiting c.write-in-Meet.new.self.rows.items c.write-in-Meet.new.self.waiting c.write-in-Meet.result) (sym c.in-Meet.is)
    (meet_applied s t c.args.self.now.waiting c.in-Meet.to wide c.gather_meet.new.asked c.write-in-Meet.new.self.rows.items c.write-in-Meet.new.self.waiting c.write-in-Meet.result fits.1 c.requires.rows c.gather_meet.ensures.long (c.write-in-Meet.ensures.written s index) c.in-Meet.first c.in-Meet.rest (subst (Contains s.rules) c.in-Meet.is one)
    (subst (λ x. InAll x (c.in-Meet.first ∷ c.in-Meet.rest) c.gather_meet.new.asked) c.deref-in-Meet.ensures.value
    (subst (λ l. InAll c.deref-in-Meet.result.now (c.in-Meet.first ∷ l) c.gather_meet.new.asked) c.as_slice-in-Meet.ensures c.gather_meet.ensures.asked)))

pub returns-in-Load-clause-applied : goal.returns-in-Load-clause-applied
returns-in-Load-clause-applied c index one =
    let s = c.args.system.now in
    let t = c.args.self.now.rows.items in
    let wide = length c.args.asked.now in
    let fits : IsFittingRule s.width (length s.masks) (length t) (Rule.Load c.in-Load.sources c.in-Load.to) = subst (IsFittingRule s.width (length s.masks) (length t)) c.in-Load.is c.requires.rule in
    let long : length c.gather_loads.new.asked ≡ wide =
    c.gather_loads.ensures.long ∙ ap length (c.copy_from-in-Load.ensures ∙ c.requires.empty) ∙ length-replicate wide false in
    subst (λ r. IsApplied s r t c.args.self.now.waiting c.write-in-Load.new.self.rows.items c.write-in-Load.new.self.waiting c.write-in-Load.result) (sym c.in-Load.is)
    (load_applied s t c.args.self.now.waiting c.in-Load.to wide c.gather_loads.new.asked c.write-in-Load.new.self.rows.items c.write-in-Load.new.self.waiting c.write-in-Load.result fits.1 c.requires.rows long (c.write-in-Load.ensures.written s index) c.in-Load.sources (subst (Contains s.rules) c.in-Load.is one)
    (λ k. subst (λ x. IsTrue (has c.gather_loads.new.asked k) ↔ IsLoaded x c.in-Load.sources k) c.deref-in-Load.ensures.value (c.gather_loads.ensures.asked k)))
