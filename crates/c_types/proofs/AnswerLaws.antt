-- Answers of a part, from the answers of its parts.
use Rattle.std.proofs.Common.{◌≡◌, ℕ, ◌<◌, ◌≤◌, true, false, List, [], ◌∷◌, ◌++◌, Option, Some, None, Result, Ok, Err, refl, ap, ◌∙◌, arith}
use Rattle.std.proofs.lemmas.Bool.Decides.{nat_tests}
use Rattle.dfi_base.specs.declared.numbers.Line.{Line}
use Rattle.c_typed.specs.declared.fault.TypeFault.{TypeFault}
use Rattle.c_typed.specs.Faults.{Rule, Fault}
use Rattle.c_typed.specs.Parts.{Place, Judged, both, both_values, kept_by, ruled_by, ruled}
use Rattle.c_types.specs.tools.Answers.{precedes, earlier, least, Answers, Rules}

-- A rule over a part that is whole, and over one that is not.
pub ruled_ok : {A B : Type 0} (rule : Rule) (line : Line) (keeps : A → Option B) (here : Place) (j : Judged A) (a : A) (r : Result B TypeFault)
    → Answers j (Ok a) → Rules rule line (keeps a) r → Answers (ruled rule line keeps here j) r
ruled_ok {A} {B} rule line keeps here j a (Ok b) is kept =
    let by = ap (λ v. ruled_by rule line keeps here.at j.faults v) is.1 ∙ ap (λ k. kept_by rule line here.at j.faults k) kept in
    (ap (λ r. r.faults) by ∙ is.0, ap (λ r. r.value) by)
ruled_ok {A} {B} rule line keeps here j a (Err e) is kept = λ wanted.
    let by =
    ap (λ v. ruled_by rule line keeps here.at j.faults v) is.1 ∙ ap (λ k. kept_by rule line here.at j.faults k) (kept wanted).0
    ∙ ap (λ fs. kept_by {B = B} rule line here.at fs None) is.0 in
    record {
      fault = record { at = here.at; rule = rule; line = line };
      first = ap (λ r. least r.faults) by;
      told = (kept wanted).1;
      broken = ap (λ r. r.value) by;
    }

pub ruled_err : {A B : Type 0} (rule : Rule) (line : Line) (keeps : A → Option B) (here : Place) (j : Judged A) (e : TypeFault)
    → Answers j (Err e) → Answers (ruled rule line keeps here j) (Err e)
ruled_err {A} {B} rule line keeps here j e is = λ wanted.
    let by = ap (λ v. ruled_by {A = A} {B = B} rule line keeps here.at j.faults v) (is wanted).broken in
    record {
      fault = (is wanted).fault;
      first = ap (λ r. least r.faults) by ∙ (is wanted).first;
      told = (is wanted).told;
      broken = ap (λ r. r.value) by;
    }

-- Two parts, one behind the other: the faults of the first stand before those of the second.
pub both_ok : {A B C : Type 0} (f : A → B → C) (j : Judged A) (k : Judged B) (a : A) (b : B) → Answers j (Ok a) → Answers k (Ok b) → Answers (both f j k) (Ok (f a b))
both_ok f j k a b is that =
    (ap (λ fs. fs ++ k.faults) is.0 ∙ that.0, ap (λ v. both_values f v k.value) is.1 ∙ ap (λ v. both_values f (Some a) v) that.1)

pub both_second : {A B C : Type 0} (f : A → B → C) (j : Judged A) (k : Judged B) (a : A) (e : TypeFault) → Answers j (Ok a) → Answers k (Err e) → Answers (both f j k) (Err e)
both_second f j k a e is that = λ wanted.
    let no = that wanted in
    record {
      fault = no.fault;
      first = ap (λ fs. least (fs ++ k.faults)) is.0 ∙ no.first;
      told = no.told;
      broken = ap (λ v. both_values f v k.value) is.1 ∙ ap (λ v. both_values f (Some a) v) no.broken;
    }

-- all of these stand before this place, or from it on
abbrev pub AllBefore : ℕ → List Fault → Type 0
AllBefore n [] = Unit {0}
AllBefore n (f ∷ fs) = (f.at < n) × AllBefore n fs

abbrev pub AllFrom : ℕ → List Fault → Type 0
AllFrom n [] = Unit {0}
AllFrom n (f ∷ fs) = (n ≤ f.at) × AllFrom n fs

-- the least of what stands from a place on stands from it on
abbrev pub From : ℕ → Option Fault → Type 0
From n None = Unit {0}
From n (Some f) = n ≤ f.at

earlier_from : (n : ℕ) (f : Fault) (o : Option Fault) → n ≤ f.at → From n o → From n (earlier f o)
earlier_from n f None from rest = from
earlier_from n f (Some g) from rest = elim (precedes f g) as (λ b. From n (elim b [ true ↦ Some f | false ↦ Some g ])) [ true ↦ from | false ↦ rest ]

least_from : (n : ℕ) (fs : List Fault) → AllFrom n fs → From n (least fs)
least_from n [] all = tt
least_from n (f ∷ fs) all = earlier_from n f (least fs) all.0 (least_from n fs all.1)

precedes_before : (n : ℕ) (f g : Fault) → f.at < n → n ≤ g.at → precedes f g ≡ true
precedes_before n f g before from = grind (arith, nat_tests, before, from)

earlier_before : (n : ℕ) (f : Fault) (o : Option Fault) → f.at < n → From n o → earlier f o ≡ Some f
earlier_before n f None before from = refl
earlier_before n f (Some g) before from = ap (λ b. elim b [ true ↦ Some f | false ↦ Some g ]) (precedes_before n f g before from)

abbrev pub or_else : Option Fault → Option Fault → Option Fault
or_else None o = o
or_else (Some f) o = Some f

abbrev Before : ℕ → Option Fault → Type 0
Before n None = Unit {0}
Before n (Some f) = f.at < n

earlier_is_before : (n : ℕ) (f : Fault) (o : Option Fault) → f.at < n → Before n o → Before n (earlier f o)
earlier_is_before n f None before rest = before
earlier_is_before n f (Some g) before rest = elim (precedes f g) as (λ b. Before n (elim b [ true ↦ Some f | false ↦ Some g ])) [ true ↦ before | false ↦ rest ]

earlier_or : (n : ℕ) (f : Fault) (o p : Option Fault) → f.at < n → From n p → earlier f (or_else o p) ≡ or_else (earlier f o) p
earlier_or n f None p before from = earlier_before n f p before from
earlier_or n f (Some g) p before from = elim (precedes f g) as (λ b. elim b [ true ↦ Some f | false ↦ Some g ] ≡ or_else (elim b [ true ↦ Some f | false ↦ Some g ]) p) [ true ↦ refl | false ↦ refl ]

pub least_append : (n : ℕ) (fs gs : List Fault) → AllBefore n fs → AllFrom n gs → least (fs ++ gs) ≡ or_else (least fs) (least gs)
least_append n [] gs before from = refl
least_append n (f ∷ fs) gs before from =
    ap (λ o. earlier f o) (least_append n fs gs before.1 from) ∙ earlier_or n f (least fs) (least gs) before.0 (least_from n gs from)

pub both_first : {A B C : Type 0} (f : A → B → C) (n : ℕ) (j : Judged A) (k : Judged B) (e : TypeFault) → AllBefore n j.faults → AllFrom n k.faults
    → Answers j (Err e) → Answers (both f j k) (Err e)
both_first f n j k e before from is = λ wanted.
    let no = is wanted in
    record {
      fault = no.fault;
      first = least_append n j.faults k.faults before from ∙ ap (λ o. or_else o (least k.faults)) no.first;
      told = no.told;
      broken = ap (λ v. both_values f v k.value) no.broken;
    }
