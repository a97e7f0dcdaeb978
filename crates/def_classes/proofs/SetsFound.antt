-- Lists of what each read may find are the sets of the code.
use Rattle.std.proofs.Common.{◌≡◌, ℕ, zero, suc, ◌<◌, ◌≤◌, inl, inr, true, Some, None, Option, List, [], length, get_or, sym, ap, ◌∙◌, arith}
use Rattle.std.specs.Prelude.{IsTrue, nat_lt}
use Rattle.std.proofs.lemmas.Bool.{cases_lt, false≢true}
use Rattle.std.proofs.lemmas.List.Elements.{All-from_get_or}
use Rattle.std.proofs.lemmas.Option.{slice_get-get_or, slice_get_past}
use Rattle.tac_ir.specs.declared.code.Code.{Code}
use Rattle.tac_ir.specs.Answers.{has}
use Rattle.tac_ir.specs.GoodForm.{GoodForm}
use Rattle.tac_ir.specs.Module.{is_chain}
use Rattle.tac_ir.specs.Numbers.{defs_in_code, reads_made}
use Rattle.flow_rules.specs.InSet.{InSet}
use Rattle.flow_rules.specs.Tables.{AccessTable, ReachTable}
use Rattle.def_classes.specs.AreSets.{AreSets, set_in}
use Rattle.def_classes.specs.tools.Listed.{AreListsOf}
use Rattle.def_classes.proofs.InOrder.{chain-from_ascends}
use Rattle.def_classes.proofs.InRange.{in_set_within}

pub set_there : (sets : List (List ℕ)) (r : ℕ) → r < length sets → set_in sets (suc r) ≡ get_or sets r []
set_there sets r less = ap (λ (o : Option (List ℕ)). elim o [ None ↦ [] | Some set ↦ set ]) (slice_get-get_or sets r [] less)

pub set_past : (sets : List (List ℕ)) (r : ℕ) → length sets ≤ r → set_in sets (suc r) ≡ []
set_past sets r past = ap (λ (o : Option (List ℕ)). elim o [ None ↦ [] | Some set ↦ set ]) (slice_get_past sets r past)

module _ (c : Code) (good : GoodForm c) (acc : AccessTable) (reach : ReachTable) (sets : List (List ℕ)) (lists : AreListsOf (InSet c acc reach) (length (reads_made c)) (defs_in_code c) sets) where
  to : (r d : ℕ) → has (set_in sets r) d ≡ true → InSet c acc reach r d
  to zero d h = absurd (false≢true h)
  to (suc r) d h = elim (cases_lt r (length sets)) [
    | inl less ↦ (let found = ((lists.lists_are r (omega (arith, less, lists.count_is))).each d).0 (ap (λ set. has set d) (sym (set_there sets r less)) ∙ h) in found.2)
    | inr past ↦ absurd (false≢true (ap (λ set. has set d) (sym (set_past sets r past)) ∙ h))
  ]

  from : (r d : ℕ) → InSet c acc reach r d → has (set_in sets r) d ≡ true
  from r d set = by r (in_set_within c good acc reach r d set) set where
    by : (r : ℕ) → ((1 ≤ r) × (r ≤ length (reads_made c))) × ((1 ≤ d) × (d ≤ defs_in_code c)) → InSet c acc reach r d → has (set_in sets r) d ≡ true
    by zero within set = (let low = within.0.0 in absurd (omega (arith, low)))
    by (suc r) within set =
        let high = within.0.1 in
        let less : r < length (reads_made c) = omega (arith, high) in
        ap (λ set. has set d) (set_there sets r (omega (arith, less, lists.count_is))) ∙ ((lists.lists_are r less).each d).1 (within.1.0, within.1.1, set)

  pub are_sets : AreSets c acc reach sets
  are_sets = record {
    count = lists.count_is;
    order = All-from_get_or (λ set. IsTrue (is_chain nat_lt set)) sets [] (λ k less. chain-from_ascends 1 (suc (defs_in_code c)) (get_or sets k []) (lists.lists_are k (omega (arith, less, lists.count_is))).order);
    each = λ r d. (to r d, from r d);
  }
