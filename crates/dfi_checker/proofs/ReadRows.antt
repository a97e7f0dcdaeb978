-- Changes of the mark and the set of the only read, by computation.
use Rattle.std.proofs.Common.{◌≡◌, ℕ, zero, suc, ◌<◌, ◌≤◌, ⊎_elim, Bool, true, false, ◌||◌, Some, [], ◌∷◌, refl, sym, ap, subst, arith}
use Rattle.std.specs.Prelude.{nat_eq}
use Rattle.std.proofs.lemmas.Bool.{cases_lt, eqb-true}
use Rattle.tac_ir.specs.declared.code.Place.{Place}
use Rattle.tac_ir.specs.Module.{Module}
use Rattle.tac_ir.specs.Layout.{instr_at}
use Rattle.tac_ir.specs.Numbers.{new_def, new_read}
use Rattle.tac_ir.specs.Counts.{nodes_in}
use Rattle.tac_ir.specs.Nodes.{node_shapes_in}
use Rattle.flow_rules.specs.Tables.{reach_in}
use Rattle.flow_rules.specs.Touches.{touches, DefTouches, starting, made}
use Rattle.flow_rules.specs.InSet.{InSet}
use Rattle.flow_rules.specs.Removed.{Removed, Covers, is_loud}
use Rattle.flow_rules.specs.declared.rule.Rule.{Rule}
use Rattle.dfi_checker.specs.TextPlace.{set}
use Rattle.dfi_checker.specs.Breaks.{IsBrokenAt, sets, removed}
use Rattle.dfi_checker.proofs.Rows.{sample, false_is, some_is}

-- only the ninth instruction reads
only_read : (f i r : ℕ) → new_read (instr_at sample.code (record { fun = f; at = i })) ≡ Some r → (f ≡ 0) × (i ≡ 8)
only_read (suc f) i r e = cc
only_read zero zero r e = cc
only_read zero (suc zero) r e = cc
only_read zero (suc (suc zero)) r e = cc
only_read zero (suc (suc (suc zero))) r e = cc
only_read zero (suc (suc (suc (suc zero)))) r e = cc
only_read zero (suc (suc (suc (suc (suc zero))))) r e = cc
only_read zero (suc (suc (suc (suc (suc (suc zero)))))) r e = cc
only_read zero (suc (suc (suc (suc (suc (suc (suc zero))))))) r e = cc
only_read zero (suc (suc (suc (suc (suc (suc (suc (suc zero)))))))) r e = (refl, refl)
only_read zero (suc (suc (suc (suc (suc (suc (suc (suc (suc zero))))))))) r e = cc
only_read zero (suc (suc (suc (suc (suc (suc (suc (suc (suc (suc zero)))))))))) r e = cc
only_read zero (suc (suc (suc (suc (suc (suc (suc (suc (suc (suc (suc zero))))))))))) r e = cc
only_read zero (suc (suc (suc (suc (suc (suc (suc (suc (suc (suc (suc (suc i)))))))))))) r e = cc

-- the read goes unchecked, behind a store
abbrev unchecked : Module
unchecked = record sample { removed = true ∷ [] }

covers_none : (f last first : ℕ) (place : Place) → f ≡ 0 → last ≡ 8 → first < last → Covers unchecked place 1 (instr_at unchecked.code (record { fun = f; at = first }))
    → ((i : ℕ) → first < i → i < last → is_loud (instr_at unchecked.code (record { fun = f; at = i })) ≡ false) → ⊥
covers_none f last first place e g low covers quiet =
    ⊎_elim
    (λ (h : first < 7). loud (subst (λ f. is_loud (instr_at unchecked.code (record { fun = f; at = 7 })) ≡ false) e (quiet 7 h (omega (arith, g)))))
    (λ (h : 7 ≤ first).
    let same : first ≡ 7 = omega (arith, h, low, g) in
    subst (λ n. Covers unchecked place 1 (instr_at unchecked.code (record { fun = 0; at = n }))) same (subst (λ f. Covers unchecked place 1 (instr_at unchecked.code (record { fun = f; at = first }))) e covers))
    (cases_lt first 7)
  where
    loud : true ≡ false → ⊥
    loud e = false_is (sym e)

is_kept : Removed unchecked 1 → ⊥
is_kept is =
    let here = only_read is.at.fun is.at.at 1 (ap new_read is.read) in
    covers_none is.at.fun is.at.at is.covered.first is.place here.0 here.1 is.covered.earlier is.covered.covers is.covered.quiet

read_unchecked : IsBrokenAt unchecked Rule.Removed 31
read_unchecked = record { place = set 1; broken = removed 1 refl is_kept; line_is = refl }

-- only the eighth instruction makes definition 4
only_store : (f i : ℕ) → new_def (instr_at sample.code (record { fun = f; at = i })) ≡ Some 4 → (f ≡ 0) × (i ≡ 7)
only_store (suc f) i e = cc
only_store zero zero e = cc
only_store zero (suc zero) e = absurd (omega (arith, some_is e))
only_store zero (suc (suc zero)) e = cc
only_store zero (suc (suc (suc zero))) e = cc
only_store zero (suc (suc (suc (suc zero)))) e = cc
only_store zero (suc (suc (suc (suc (suc zero))))) e = cc
only_store zero (suc (suc (suc (suc (suc (suc zero)))))) e = cc
only_store zero (suc (suc (suc (suc (suc (suc (suc zero))))))) e = (refl, refl)
only_store zero (suc (suc (suc (suc (suc (suc (suc (suc zero)))))))) e = cc
only_store zero (suc (suc (suc (suc (suc (suc (suc (suc (suc zero))))))))) e = cc
only_store zero (suc (suc (suc (suc (suc (suc (suc (suc (suc (suc zero)))))))))) e = cc
only_store zero (suc (suc (suc (suc (suc (suc (suc (suc (suc (suc (suc zero))))))))))) e = cc
only_store zero (suc (suc (suc (suc (suc (suc (suc (suc (suc (suc (suc (suc i)))))))))))) e = cc

-- the read allows the store through the pointer, which does not touch its variable
abbrev allowing : Module
allowing = record sample { sets = (3 ∷ 4 ∷ []) ∷ [] }

-- the leaf of the read is that of its variable
only_leaf : (f i leaf : ℕ) → f ≡ 0 → i ≡ 8 → touches allowing.code allowing.points (record { fun = f; at = i }) leaf ≡ true → leaf ≡ 2
unfolding nodes_in node_shapes_in
only_leaf f i leaf e g reads =
    by (nat_eq 2 leaf) refl (subst (λ i. touches allowing.code allowing.points (record { fun = 0; at = i }) leaf ≡ true) g
    (subst (λ f. touches allowing.code allowing.points (record { fun = f; at = i }) leaf ≡ true) e reads))
  where
    by : (b : Bool) → nat_eq 2 leaf ≡ b → (b || false) ≡ true → leaf ≡ 2
    by true is h = sym (eqb-true 2 leaf is)
    by false is h = false_is h

store_elsewhere : DefTouches allowing.code (touches allowing.code allowing.points) 4 2 → ⊥
unfolding nodes_in node_shapes_in
store_elsewhere (starting v low e has) = omega (arith, low, e)
store_elsewhere (made p def acc) =
    let here = only_store p.fun p.at def in
    false_is (subst (λ i. touches allowing.code allowing.points (record { fun = 0; at = i }) 2 ≡ true) here.1
    (subst (λ f. touches allowing.code allowing.points (record { fun = f; at = p.at }) 2 ≡ true) here.0 acc))

not_in_set : InSet allowing.code (touches allowing.code allowing.points) (reach_in allowing) 1 4 → ⊥
not_in_set is =
    let here = only_read is.at.fun is.at.at 1 is.read in
    let leaf = only_leaf is.at.fun is.at.at is.leaf here.0 here.1 is.reads in
    store_elsewhere (subst (DefTouches allowing.code (touches allowing.code allowing.points) 4) leaf is.writes)

set_too_wide : IsBrokenAt allowing Rule.Sets 31
set_too_wide = record { place = set 1; broken = sets 0 4 (omega arith) (λ same. not_in_set (same.0 refl)); line_is = refl }
