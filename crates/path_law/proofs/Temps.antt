-- The temporaries that instructions name, and the lists that have their values.
use Rattle.std.proofs.Common.{◌≡◌, ℕ, zero, suc, ◌≤◌, ◌<◌, List, [], ◌∷◌, ◌++◌, length, Bool, true, false, refl, Option, Some, None, arith, sym, ◌∙◌, ap, subst, get_or, get_or-set_other, get_or-set_same}
use Rattle.std.specs.Prelude.{nat_eq, nat_lt, max, All, slice_get, slice_set, slice_index, map, replicate}
use Rattle.std.proofs.lemmas.Bool.{ltb-true, ltb-false, eqb-true, eq-eqb, both_ways}
use Rattle.tac_ir.specs.declared.code.Code.{Code}
use Rattle.tac_ir.specs.declared.code.Fun.{Fun}
use Rattle.tac_ir.specs.declared.code.Lined.{Lined}
use Rattle.tac_ir.specs.declared.code.Instr.{Instr}
use Rattle.tac_ir.specs.Layout.{lines_of}
use Rattle.tac_ir.specs.Counts.{temps_named, past, temps_in, temps_of_fun, temps_of}
use Rattle.tac_ir.specs.GoodForm.{params_of}
use Rattle.tac_thread.specs.tools.Fetched.{instr_in}
use Rattle.tac_thread.specs.Life.{temp}
use Rattle.tac_thread.specs.Flat.{flat_meaning}
use Rattle.path_law.specs.Standing.{FlatActivation}
use Rattle.path_law.proofs.Frames.{left_in}

-- Bounds.

past_least : (least : ℕ) (ns : List ℕ) → least ≤ past least ns
past_least least [] = omega arith
past_least least (n ∷ ns) = omega (arith, past_least (max least (suc n)) ns)

past_all : (least : ℕ) (ns : List ℕ) → All (λ t. t < past least ns) ns
past_all least [] = λ k d h. absurd (omega arith)
past_all least (n ∷ ns) = at (past_all (max least (suc n)) ns)
  where
    at : All (λ t. t < past (max least (suc n)) ns) ns → (k d : ℕ) → k < suc (length ns) → get_or (n ∷ ns) k d < past (max least (suc n)) ns
    at rest zero d h = omega (arith, past_least (max least (suc n)) ns)
    at rest (suc k) d h = rest k d (omega (arith, h))

temps_in_least : (least : ℕ) (code : List Lined) → least ≤ temps_in least code
temps_in_least least [] = omega arith
temps_in_least least (l ∷ code) = omega (arith, past_least least (temps_named l.instr), temps_in_least (past least (temps_named l.instr)) code)

temps_in_all : (least : ℕ) (code : List Lined) (at : ℕ) (l : Lined) → slice_get code at ≡ Some l → All (λ t. t < temps_in least code) (temps_named l.instr)
temps_in_all least [] at l e = cc
temps_in_all least (x ∷ code) zero l e =
    let same : x ≡ l = cc in
    subst (λ (y : Lined). All (λ t. t < temps_in least (x ∷ code)) (temps_named y.instr)) same
    (λ k d h. omega (arith, past_all least (temps_named x.instr) k d h, temps_in_least (past least (temps_named x.instr)) code))
temps_in_all least (x ∷ code) (suc at) l e = temps_in_all (past least (temps_named x.instr)) code at l e

-- the temporaries that an instruction names are temporaries of its function
pub named_below : (c : Code) (f at : ℕ) → All (λ t. t < temps_of c f) (temps_named (instr_in (lines_of c f) at))
named_below c f at = in_fun (slice_get c.funs f)
  where
    in_code : (least : ℕ) (code : List Lined) (o : Option Lined) → slice_get code at ≡ o
        → All (λ t. t < temps_in least code) (temps_named (elim o [ None ↦ Instr.End | Some l ↦ l.instr ]))
    in_code least code None e = λ k d h. absurd (omega arith)
    in_code least code (Some l) e = temps_in_all least code at l e

    in_fun : (o : Option Fun) → All (λ t. t < elim o [ None ↦ 0 | Some fun ↦ temps_of_fun fun ]) (temps_named (instr_in (elim o [ None ↦ [] | Some fun ↦ fun.code ]) at))
    in_fun None = λ k d h. absurd (omega arith)
    in_fun (Some fun) = in_code fun.params fun.code (slice_get fun.code at) refl

pub params_below : (c : Code) (f : ℕ) → params_of c f ≤ temps_of c f
params_below c f = by (slice_get c.funs f)
  where
    by : (o : Option Fun) → elim o [ None ↦ 0 | Some fun ↦ fun.params ] ≤ elim o [ None ↦ 0 | Some fun ↦ temps_of_fun fun ]
    by None = omega arith
    by (Some fun) = temps_in_least fun.params fun.code

-- Values.

-- a value of a list, and 0 behind it
abbrev pub value_at : List ℕ → ℕ → ℕ
value_at values t = elim (slice_get values t) [ None ↦ 0 | Some v ↦ v ]

pub temp_is : (x : FlatActivation) (t : ℕ) → temp flat_meaning x t ≡ value_at x.temps t
temp_is x t = refl

pub value_index : (values : List ℕ) (t : ℕ) → value_at values t ≡ slice_index values t
value_index [] t = refl
value_index (x ∷ values) zero = refl
value_index (x ∷ values) (suc t) = value_index values t

-- one more value
pub value_set : (values : List ℕ) (to v t : ℕ) → to < length values → left_in (elim (nat_eq t to) [ true ↦ Some v | false ↦ None ]) (value_at values t) ≡ value_at (slice_set values to v) t
value_set values to v t h = by (nat_eq t to) refl ∙ sym (value_index (slice_set values to v) t)
  where
    by : (b : Bool) → nat_eq t to ≡ b → left_in (elim b [ true ↦ Some v | false ↦ None ]) (value_at values t) ≡ slice_index (slice_set values to v) t
    by true e =
        let same : t ≡ to = eqb-true t to e in
        sym (ap (λ k. slice_index (slice_set values to v) k) same ∙ get_or-set_same values to v 0 h)
    by false e =
        let other : t ≡ to → ⊥ = λ q. both_ways _ e (eq-eqb t to q) in
        value_index values t ∙ sym (get_or-set_other values to t v 0 other)

-- arguments, and then 0
given_low : (value : ℕ → ℕ) (args rest : List ℕ) (t : ℕ) → t < length args → value_at (map value args ++ rest) t ≡ value (slice_index args t)
given_low value [] rest t h = absurd (omega arith)
given_low value (a ∷ args) rest zero h = refl
given_low value (a ∷ args) rest (suc t) h = given_low value args rest t (omega (arith, h))

pub zeros : (n t : ℕ) → value_at (replicate n 0) t ≡ 0
zeros zero t = refl
zeros (suc n) zero = refl
zeros (suc n) (suc t) = zeros n t

given_high : (value : ℕ → ℕ) (args : List ℕ) (n t : ℕ) → length args ≤ t → value_at (map value args ++ replicate n 0) t ≡ 0
given_high value [] n t h = zeros n t
given_high value (a ∷ args) n zero h = absurd (omega (arith, h))
given_high value (a ∷ args) n (suc t) h = given_high value args n t (omega (arith, h))

pub value_given : (value : ℕ → ℕ) (args : List ℕ) (n t : ℕ)
    → left_in (elim (nat_lt t (length args)) [ true ↦ Some (value (slice_index args t)) | false ↦ None ]) 0 ≡ value_at (map value args ++ replicate n 0) t
value_given value args n t = by (nat_lt t (length args)) refl
  where
    by : (b : Bool) → nat_lt t (length args) ≡ b → left_in (elim b [ true ↦ Some (value (slice_index args t)) | false ↦ None ]) 0 ≡ value_at (map value args ++ replicate n 0) t
    by true e = sym (given_low value args (replicate n 0) t (ltb-true _ _ e))
    by false e = sym (given_high value args n t (ltb-false _ _ e))
