-- What instructions name exists.
use Rattle.std.proofs.Common.{◌≡◌, ℕ, zero, suc, ◌+◌, ◌≤◌, ◌<◌, List, [], ◌∷◌, length, drop, All, refl, Option, Some, None, arith, sym, ◌∙◌, ap, subst, get_or}
use Rattle.std.specs.Prelude.{max, slice_get}
use Rattle.std.proofs.lemmas.Option.{slice_get_within}
use Rattle.dfi_base.specs.declared.numbers.Point.{Point}
use Rattle.tac_ir.specs.declared.code.Code.{Code}
use Rattle.tac_ir.specs.declared.code.Fun.{Fun}
use Rattle.tac_ir.specs.declared.code.Lined.{Lined}
use Rattle.tac_ir.specs.declared.code.Instr.{Instr}
use Rattle.tac_ir.specs.Layout.{instr_at, lines_of}
use Rattle.tac_ir.specs.Counts.{temps_named, past, temps_in, temps_of_fun, temps_of}
use Rattle.flow_rules.specs.PointNumber.{point_at}
use Rattle.points_to.specs.tools.Here.{IsHere}
use Rattle.tac_ir.specs.GoodForm.{GoodForm, NamesExist, params_of}

-- Bounds.

past_least : (least : ℕ) (ns : List ℕ) → least ≤ past least ns
past_least least [] = omega arith
past_least least (n ∷ ns) = omega (arith, past_least (max least (suc n)) ns)

past_all : (least : ℕ) (ns : List ℕ) → All (λ t. t < past least ns) ns
past_all least [] = λ k d h. absurd (omega (arith, h))
past_all least (n ∷ ns) = at (past_all (max least (suc n)) ns)
  where
    at : All (λ t. t < past (max least (suc n)) ns) ns → (k d : ℕ) → k < suc (length ns) → get_or (n ∷ ns) k d < past (max least (suc n)) ns
    at rest zero d h = omega (arith, past_least (max least (suc n)) ns)
    at rest (suc k) d h = rest k d (omega (arith, h))

temps_in_least : (least : ℕ) (code : List Lined) → least ≤ temps_in least code
temps_in_least least [] = omega arith
temps_in_least least (l ∷ code) = omega (arith, past_least least (temps_named l.instr), temps_in_least (past least (temps_named l.instr)) code)

temps_in_all : (least : ℕ) (code : List Lined) (at : ℕ) (l : Lined) → slice_get code at ≡ Some l → All (λ t. t < temps_in least code) (temps_named l.instr)
temps_in_all least [] at l e = cc
temps_in_all least (x ∷ code) zero l e =
    let same : x ≡ l = cc in
    subst (λ (y : Lined). All (λ t. t < temps_in least (x ∷ code)) (temps_named y.instr)) same
    (λ k d h. omega (arith, past_all least (temps_named x.instr) k d h, temps_in_least (past least (temps_named x.instr)) code))
temps_in_all least (x ∷ code) (suc at) l e = temps_in_all (past least (temps_named x.instr)) code at l e

pub params_below : (c : Code) (f : ℕ) → params_of c f ≤ temps_of c f
params_below c f = by (slice_get c.funs f)
  where
    by : (o : Option Fun) → elim o as (λ z. ℕ) [ None ↦ 0 | Some fun ↦ fun.params ] ≤ elim o as (λ z. ℕ) [ None ↦ 0 | Some fun ↦ temps_of_fun fun ]
    by None = omega arith
    by (Some fun) = temps_in_least fun.params fun.code

pub here : (c : Code) → GoodForm c → (f : ℕ) (fun : Fun) (at : ℕ) (l : Lined) → slice_get c.funs f ≡ Some fun → slice_get fun.code at ≡ Some l
    → IsHere c (record { fun = f; at = at }) l.instr
here c good f fun at l found line = record {
  fun = slice_get_within c.funs f fun found;
  names = ((good.code f fun found).instrs at l line).names;
  temps = subst (λ (o : Option Fun). All (λ t. t < elim o as (λ z. ℕ) [ None ↦ 0 | Some g ↦ temps_of_fun g ]) (temps_named l.instr)) (sym found)
      (temps_in_all fun.params fun.code at l line);
}

-- the instruction at a point
pub at_line : (c : Code) (f : ℕ) (fun : Fun) (at : ℕ) (l : Lined) → slice_get c.funs f ≡ Some fun → slice_get fun.code at ≡ Some l
    → instr_at c (record { fun = f; at = at }) ≡ l.instr
at_line c f fun at l found line =
    ap (λ (o : Option Fun). instr_of (slice_get (elim o as (λ z. List Lined) [ None ↦ [] | Some g ↦ g.code ]) at)) found ∙ ap instr_of line
  where
    instr_of : Option Lined → Instr
    instr_of o = elim o as (λ z. Instr) [ None ↦ Instr.End | Some lined ↦ lined.instr ]

-- what the instruction at a point names exists: where there is none, `end` names nothing
pub names_at : (c : Code) → GoodForm c → (p : Point) (i : Instr) → instr_at c p ≡ i → NamesExist c p.fun i
names_at c good p i at = subst (NamesExist c p.fun) at (in_fun (slice_get c.funs p.fun) refl)
  where
    in_code : (fun : Fun) → slice_get c.funs p.fun ≡ Some fun → (o : Option Lined) → slice_get fun.code p.at ≡ o
        → NamesExist c p.fun (elim o as (λ z. Instr) [ None ↦ Instr.End | Some l ↦ l.instr ])
    in_code fun found None is = tt
    in_code fun found (Some l) is = ((good.code p.fun fun found).instrs p.at l is).names

    in_fun : (q : Option Fun) → slice_get c.funs p.fun ≡ q
        → NamesExist c p.fun (elim (slice_get (elim q as (λ z. List Lined) [ None ↦ [] | Some fun ↦ fun.code ]) p.at) as (λ z. Instr) [ None ↦ Instr.End | Some l ↦ l.instr ])
    in_fun None found = tt
    in_fun (Some fun) found = in_code fun found (slice_get fun.code p.at) refl

-- the same wherever in the function
pub stands : (c : Code) → GoodForm c → (f : ℕ) (fun : Fun) (at : ℕ) (l : Lined) → slice_get c.funs f ≡ Some fun → slice_get fun.code at ≡ Some l
    → IsHere c (point_at f 0) l.instr
stands c good f fun at l found line = (let h = here c good f fun at l found line in record { fun = h.fun; names = h.names; temps = h.temps })

pub lines_are : (c : Code) (f : ℕ) (fun : Fun) → slice_get c.funs f ≡ Some fun → lines_of c f ≡ fun.code
lines_are c f fun found = ap (λ (o : Option Fun). elim o as (λ z. List Lined) [ None ↦ [] | Some g ↦ g.code ]) found

pub fun_rest : (c : Code) (f : ℕ) (funs : List Fun) → f < length funs → (fun : Fun) → slice_get funs f ≡ Some fun → drop f funs ≡ fun ∷ drop (f + 1) funs
fun_rest c f [] low fun found = absurd (omega (arith, low))
fun_rest c zero (x ∷ funs) low fun found = (let same : x ≡ fun = cc in ap (λ z. z ∷ funs) same)
fun_rest c (suc f) (x ∷ funs) low fun found =
    let next : suc (f + 1) ≡ suc f + 1 = omega arith in
    fun_rest c f funs (omega (arith, low)) fun found ∙ ap (λ n. fun ∷ drop n (x ∷ funs)) next

pub fun_at : (funs : List Fun) (f : ℕ) → f < length funs → (fun : Fun) × (slice_get funs f ≡ Some fun)
fun_at [] f low = absurd (omega (arith, low))
fun_at (x ∷ funs) zero low = (x, refl)
fun_at (x ∷ funs) (suc f) low = fun_at funs f (omega (arith, low))

-- and its temporaries are those of its function
pub temps_at : (c : Code) (p : Point) (i : Instr) → instr_at c p ≡ i → All (λ t. t < temps_of c p.fun) (temps_named i)
temps_at c p i at = subst (λ j. All (λ t. t < temps_of c p.fun) (temps_named j)) at (in_fun (slice_get c.funs p.fun))
  where
    in_code : (least : ℕ) (code : List Lined) (o : Option Lined) → slice_get code p.at ≡ o
        → All (λ t. t < temps_in least code) (temps_named (elim o as (λ z. Instr) [ None ↦ Instr.End | Some l ↦ l.instr ]))
    in_code least code None e = λ k d h. absurd (omega (arith, h))
    in_code least code (Some l) e = temps_in_all least code p.at l e

    in_fun : (q : Option Fun) → All (λ t. t < elim q as (λ z. ℕ) [ None ↦ 0 | Some fun ↦ temps_of_fun fun ])
        (temps_named (elim (slice_get (elim q as (λ z. List Lined) [ None ↦ [] | Some fun ↦ fun.code ]) p.at) as (λ z. Instr) [ None ↦ Instr.End | Some l ↦ l.instr ]))
    in_fun None = λ k d h. absurd (omega (arith, h))
    in_fun (Some fun) = in_code fun.params fun.code (slice_get fun.code p.at) refl
