use Rattle.std.proofs.Common.{◌≡◌, ◌<◌, ◌∷◌, ◌++◌, [], length, length-set, get_or, take_all, ap, sym, ◌∙◌, subst, Contains, All}
use Rattle.std.proofs.lemmas.List.Elements.{All-get_or}
use Rattle.std.specs.Prelude.{slice_set, slice_index}
use Rattle.least_rows.proofs.Gathering.{list_is}
use Rattle.least_rows.proofs.Indexing.{enter_kept, enter_within, enter_turn}
use Rattle.least_rows.proofs.index.add_reader.Goals as goal

pub loop-r-preserved : goal.loop-r-preserved
loop-r-preserved c =
    let lists = c.loop-r.readers.items in
    let reads = c.args.reads.now in
    let i = c.loop-r.r-index in
    let at = slice_index reads i in
    let rule = c.args.rule in
    let within : at < length lists =
    subst (λ n. at < n) (sym c.loop-r.invariant.long) (All-get_or (λ r. r < length c.args.readers.now.items) reads i 0 c.loop-r-test.true c.requires) in
    let made : c.push.new.self ≡ get_or lists at [] ++ rule ∷ [] =
    c.in_ok-push.ensures.ok ∙ ap (λ l. l ++ rule ∷ []) (list_is lists at c.index_mut.result.now within c.index_mut.ensures.value) in
    record {
      long = length-set lists at c.push.new.self ∙ c.loop-r.invariant.long;
      within = λ n less all. subst (λ l. All (All (λ x. x < n)) (slice_set lists at l)) (sym made) (enter_within lists at rule n within less (c.loop-r.invariant.within n less all));
      kept = λ r j one. subst (λ l. Contains (get_or (slice_set lists at l) r []) j) (sym made) (enter_kept lists at rule r j within (c.loop-r.invariant.kept r j one));
      added = λ r one. subst (λ l. Contains (get_or (slice_set lists at l) r []) rule) (sym made) (enter_turn lists reads i rule c.loop-r-test.true within c.loop-r.invariant.added r one);
    }

pub returns-clause-added : goal.returns-clause-added
returns-clause-added c r one =
    c.loop-r.invariant.added r (subst (λ l. Contains l r) (sym (take_all c.loop-r.r-index c.args.reads.now c.loop-r-test.false)) one)
