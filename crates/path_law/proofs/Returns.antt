-- Where a return goes on: the call that a link names.
use Rattle.std.proofs.Common.{◌≡◌, ℕ, suc, ◌+◌, ◌<◌, ◌^◌, List, [], ◌∷◌, Bool, true, false, refl, Option, Some, None, arith, sym, ◌∙◌, ap, subst}
use Rattle.std.specs.Prelude.{nat_eq, not, slice_get, pos}
use Rattle.std.proofs.lemmas.Bool.{eqb-true, eq-eqb, ne_eqb, both_ways}
use Rattle.dfi_base.specs.declared.numbers.Point.{Point}
use Rattle.tac_ir.specs.declared.code.Code.{Code}
use Rattle.tac_ir.specs.declared.code.Fun.{Fun}
use Rattle.tac_ir.specs.declared.code.Instr.{Instr}
use Rattle.tac_ir.specs.declared.code.Lined.{Lined}
use Rattle.tac_ir.specs.Words.{word_of, truth}
use Rattle.tac_ir.specs.Layout.{lines_of}
use Rattle.tac_ir.specs.Numbers.{new_def}
use Rattle.tac_ir.specs.GoodForm.{GoodForm}
use Rattle.tac_ir.specs.Path.{region_in, is_call_with, call_from, resumed}
use Rattle.tac_ir.proofs.FormNumbers.{def_below}
use Rattle.tac_thread.specs.tools.Fetched.{instr_in}
use Rattle.tac_thread.specs.Answered.{is_number, is_call_named, named_call, resumed_at}
use Rattle.tac_thread.specs.Flat.{flat_meaning}
use Rattle.path_law.specs.Standing.{FlatActivation, point_of, IsCall}

-- Numbers of definitions as words.

word_is : (d : ℕ) → d < 2 ^ 32 → word_of (pos d) ≡ d
word_is d h = grind (arith)

symmetric : (a b : ℕ) → nat_eq a b ≡ nat_eq b a
symmetric a b = by (nat_eq b a) refl
  where
    by : (t : Bool) → nat_eq b a ≡ t → nat_eq a b ≡ t
    by true e = eq-eqb a b (sym (eqb-true b a e))
    by false e = ne_eqb a b (λ q. both_ways _ e (eq-eqb b a (sym q)))

not_zero : (t : Bool) → not (nat_eq (truth t) 0) ≡ t
not_zero true = refl
not_zero false = refl

-- whether a value is a word
abbrev yes_of : Option Bool → Bool
yes_of o = elim o [ Some true ↦ true | _ ↦ false ]

yes_is : (t : Bool) → yes_of (Some t) ≡ t
yes_is true = refl
yes_is false = refl

number_is : (link d : ℕ) → d < 2 ^ 32 → is_number flat_meaning link d ≡ nat_eq d link
number_is link d h =
    yes_is (not (nat_eq (truth (nat_eq link (word_of (pos d)))) 0)) ∙ not_zero (nat_eq link (word_of (pos d)))
    ∙ ap (nat_eq link) (word_is d h) ∙ symmetric link d

-- The call.

-- the definitions of calls are words
abbrev HasWords : List Lined → Type 0
HasWords code = (at : ℕ) (l : Lined) (d : ℕ) → slice_get code at ≡ Some l → new_def l.instr ≡ Some d → d < 2 ^ 32

named_is : (link : ℕ) (i : Instr) → ((d : ℕ) → new_def i ≡ Some d → d < 2 ^ 32) → is_call_named flat_meaning link i ≡ is_call_with link i
named_is link (Instr.Call to f def args) words = number_is link def (words def refl)
named_is link i words = refl

call_named : (link at : ℕ) (code : List Lined) → HasWords code → named_call flat_meaning link at code ≡ call_from at code link
call_named link at [] words = refl
call_named link at (l ∷ code) words =
    ap (λ b. elim b [ true ↦ Some at | false ↦ named_call flat_meaning link (suc at) code ]) (named_is link l.instr (λ d e. words 0 l d refl e))
    ∙ ap (λ o. elim (is_call_with link l.instr) [ true ↦ Some at | false ↦ o ]) (call_named link (suc at) code (λ k m d e n. words (suc k) m d e n))

words_in_code : (c : Code) → GoodForm c → (f : ℕ) → HasWords (lines_of c f)
words_in_code c good f = by (slice_get c.funs f) refl
  where
    by : (o : Option Fun) → slice_get c.funs f ≡ o → HasWords (elim o [ None ↦ [] | Some fun ↦ fun.code ])
    by None is at l d e n = cc
    by (Some fun) is at l d e n = omega (arith, def_below c good f fun at l d is e n)

abbrev point_if : ℕ → ℕ → Bool → ℕ → Point
point_if f made b at = elim b [ true ↦ record { fun = f; at = at } | false ↦ record { fun = f; at = made } ]

abbrev index_if : ℕ → Bool → ℕ → ℕ
index_if made b at = elim b [ true ↦ at | false ↦ made ]

abbrev point_by : List Lined → ℕ → ℕ → Option ℕ → Point
point_by code f made o = elim o [ None ↦ record { fun = f; at = made } | Some at ↦ point_if f made (nat_eq (region_in code at) (region_in code made)) at ]

abbrev index_by : List Lined → ℕ → Option ℕ → ℕ
index_by code made o = elim o [ None ↦ made | Some at ↦ index_if made (nat_eq (region_in code at) (region_in code made)) at ]

-- the path goes on after the same call as the life
pub goes_back : (c : Code) → GoodForm c → (y : FlatActivation) (link : ℕ)
    → resumed c (point_of y) link ≡ record { fun = y.fun; at = resumed_at flat_meaning (lines_of c y.fun) y.at link }
goes_back c good y link =
    by (call_from 0 (lines_of c y.fun) link)
    ∙ ap (λ o. record { fun = y.fun; at = index_by (lines_of c y.fun) y.at o }) (sym (call_named link 0 (lines_of c y.fun) (words_in_code c good y.fun)))
  where
    pick : (b : Bool) (at : ℕ) → point_if y.fun y.at b at ≡ record { fun = y.fun; at = index_if y.at b at }
    pick true at = refl
    pick false at = refl

    by : (o : Option ℕ) → point_by (lines_of c y.fun) y.fun y.at o ≡ record { fun = y.fun; at = index_by (lines_of c y.fun) y.at o }
    by None = refl
    by (Some at) = pick (nat_eq (region_in (lines_of c y.fun) at) (region_in (lines_of c y.fun) y.at)) at

-- It is a call.

named_is_call : (link : ℕ) (i : Instr) → is_call_with link i ≡ true → IsCall i
named_is_call link (Instr.Call to f def args) e = tt
named_is_call link i e = cc

pub found_call : (link at k : ℕ) (code : List Lined) → call_from at code link ≡ Some k → (j : ℕ) × (k ≡ at + j) × IsCall (instr_in code j)
found_call link at k [] e = cc
found_call link at k (l ∷ code) e = by (is_call_with link l.instr) refl e (found_call link (suc at) k code)
  where
    by : (b : Bool) → is_call_with link l.instr ≡ b → elim b [ true ↦ Some at | false ↦ call_from (suc at) code link ] ≡ Some k
        → (call_from (suc at) code link ≡ Some k → (j : ℕ) × (k ≡ suc at + j) × IsCall (instr_in code j)) → (j : ℕ) × (k ≡ at + j) × IsCall (instr_in (l ∷ code) j)
    by true is e rest =
        let same : at ≡ k = cc in
        (0, omega (arith, same), named_is_call link l.instr is)
    by false is e rest =
        let r = rest e in
        (suc r.0, omega (arith, r.1), r.2)

-- a return goes on after a call of its caller's function
pub back_is_call : (c : Code) → GoodForm c → (y : FlatActivation) (link : ℕ) → IsCall (instr_in (lines_of c y.fun) y.at)
    → IsCall (instr_in (lines_of c y.fun) (resumed_at flat_meaning (lines_of c y.fun) y.at link))
back_is_call c good y link made =
    subst (λ o. IsCall (instr_in (lines_of c y.fun) (index_by (lines_of c y.fun) y.at o))) (sym (call_named link 0 (lines_of c y.fun) (words_in_code c good y.fun)))
    (by (call_from 0 (lines_of c y.fun) link) refl)
  where
    pick : (b : Bool) (at : ℕ) → ((j : ℕ) × (at ≡ 0 + j) × IsCall (instr_in (lines_of c y.fun) j)) → IsCall (instr_in (lines_of c y.fun) (index_if y.at b at))
    pick true at found = let same : found.0 ≡ at = omega (arith, found.1) in subst (λ k. IsCall (instr_in (lines_of c y.fun) k)) same found.2
    pick false at found = made

    by : (o : Option ℕ) → call_from 0 (lines_of c y.fun) link ≡ o → IsCall (instr_in (lines_of c y.fun) (index_by (lines_of c y.fun) y.at o))
    by None e = made
    by (Some at) e = pick (nat_eq (region_in (lines_of c y.fun) at) (region_in (lines_of c y.fun) y.at)) at (found_call link 0 at (lines_of c y.fun) e)
