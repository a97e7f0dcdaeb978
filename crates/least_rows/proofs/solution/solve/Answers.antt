use Rattle.std.proofs.Common.{◌≡◌, ◌<◌, false, length, ap, sym, ◌∙◌, subst, refl, All, Contains, arith, true≢false}
use Rattle.std.proofs.lemmas.List.{length-replicate}
use Rattle.std.proofs.lemmas.Option.{slice_get_within}
use Rattle.least_rows.specs.Derived.Derived.{given}
use Rattle.least_rows.specs.Solutions.{IsSolution}
use Rattle.least_rows.specs.tools.Growing.{loads_from}
use Rattle.least_rows.proofs.Indexing.{loads_there, loads_within}
use Rattle.least_rows.proofs.solution.solve.Goals as goal

pub settle-requires-clause-ready : goal.settle-requires-clause-ready
settle-requires-clause-ready c =
    let s = c.args.system.now in
    let t = c.args.start.items in
    let loads = c.in_ok-loads.ensures in
    let long : length c.in_ok-waiting.waiting ≡ length s.rules = c.in_ok-waiting.ensures.long ∙ c.len-2.ensures in
    record {
      fits = c.requires;
      width = ap length c.in_ok-asked.ensures ∙ length-replicate s.width false;
      empty_is = c.in_ok-empty.ensures;
      within = record {
        few = c.requires.few_rows;
        long = omega (arith, c.in_ok-readers.ensures.long, c.len.ensures, c.args.start.ok.0);
        readers = subst (λ n. All (All (λ i. i < n)) c.in_ok-readers.readers.items) (sym long) c.in_ok-readers.ensures.within;
        loads = subst (λ l. All (λ x. (x.rule < length c.in_ok-waiting.waiting) × (x.sources < length t)) l) (sym loads)
            (loads_within s.rules 0 (length c.in_ok-waiting.waiting) s.width (length s.masks) (length t) (omega (arith, long)) c.requires.rules);
      };
      long = long;
      index = record {
        readers = λ i rule r at one. c.in_ok-readers.ensures.readers i rule r (slice_get_within s.rules i rule at) at one;
        loads = λ i sources to at. subst (λ l. Contains l (record { rule = i; sources = sources })) (sym loads)
            (subst (λ n. Contains (loads_from 0 s.rules) (record { rule = n; sources = sources })) (omega arith) (loads_there s.rules 0 i sources to at));
      };
    }

pub settle-requires-clause-settled : goal.settle-requires-clause-settled
settle-requires-clause-settled c i rule apart at quiet =
    absurd (true≢false (sym (c.in_ok-waiting.ensures.all i (omega (arith, slice_get_within c.args.system.now.rules i rule at, c.len-2.ensures))) ∙ quiet))

pub returns : goal.returns
returns c = subst (λ rows. IsSolution c.args.system.now c.args.start.items rows) (sym (ap (λ v. v.items) c.into_rows.ensures)) (record {
  alike = c.settle.ensures.alike;
  above = c.settle.ensures.above;
  closed = c.settle.ensures.closed;
  derived = c.settle.ensures.sound c.args.start.items refl (λ r k is. given r k is);
})
