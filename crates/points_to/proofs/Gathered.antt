-- The rules of a code are those of the instructions at its points.
use Rattle.std.proofs.Common.{◌≡◌, ℕ, zero, suc, ◌+◌, ◌<◌, drop, length, List, [], ◌∷◌, ◌++◌, ap, ◌∙◌, All, Contains, refl, Option, Some, None, arith, sym, subst}
use Rattle.std.specs.Prelude.{slice_get}
use Rattle.std.proofs.lemmas.List.{append_assoc}
use Rattle.std.proofs.lemmas.List.Elements.{All-nil, All-append, Contains-append_left, Contains-append_right}
use Rattle.dfi_base.specs.declared.numbers.Point.{Point}
use Rattle.tac_ir.specs.declared.code.Code.{Code}
use Rattle.tac_ir.specs.declared.code.Fun.{Fun}
use Rattle.tac_ir.specs.declared.code.Lined.{Lined}
use Rattle.tac_ir.specs.declared.code.Instr.{Instr}
use Rattle.tac_ir.specs.Layout.{instr_at}
use Rattle.least_rows.specs.declared.rules.Rule.{Rule}
use Rattle.points_to.proofs.Named.{fun_rest}
use Rattle.points_to.specs.Systems.{rules_of, rules_in, rules_from}

-- what holds of the rules of each instruction holds of all rules
in_lines : (c : Code) (P : Rule → Type 0) (f n : ℕ) (lines : List Lined) → ((at : ℕ) (l : Lined) → slice_get lines at ≡ Some l → All P (rules_of c f l.instr))
    → All P (rules_in c f lines)
in_lines c P f n [] each = All-nil P
in_lines c P f n (l ∷ lines) each =
    All-append P (rules_of c f l.instr) (rules_in c f lines) (each 0 l refl) (in_lines c P f n lines (λ at m is. each (suc at) m is))

in_funs : (c : Code) (P : Rule → Type 0) (f : ℕ) (funs : List Fun)
    → ((g : ℕ) (fun : Fun) (at : ℕ) (l : Lined) → slice_get funs g ≡ Some fun → slice_get fun.code at ≡ Some l → All P (rules_of c (f + g) l.instr))
    → All P (rules_from c f funs)
in_funs c P f [] each = All-nil P
in_funs c P f (fun ∷ funs) each =
    All-append P (rules_in c f fun.code) (rules_from c (suc f) funs)
    (in_lines c P f 0 fun.code (λ at l is. (let n : f + 0 ≡ f = omega arith in subst (λ g. All P (rules_of c g l.instr)) n (each 0 fun at l refl is))))
    (in_funs c P (suc f) funs (λ g other at l found is. (let n : f + suc g ≡ suc f + g = omega arith in subst (λ h. All P (rules_of c h l.instr)) n (each (suc g) other at l found is))))

pub all_rules : (c : Code) (P : Rule → Type 0)
    → ((f : ℕ) (fun : Fun) (at : ℕ) (l : Lined) → slice_get c.funs f ≡ Some fun → slice_get fun.code at ≡ Some l → All P (rules_of c f l.instr))
    → All P (rules_from c 0 c.funs)
all_rules c P each =
    in_funs c P 0 c.funs (λ f fun at l found is. (let n : f ≡ 0 + f = omega arith in subst (λ g. All P (rules_of c g l.instr)) n (each f fun at l found is)))

-- the rules of an instruction are among them
of_lines : (c : Code) (f : ℕ) (rule : Rule) (lines : List Lined) (at : ℕ) (l : Lined) → slice_get lines at ≡ Some l → Contains (rules_of c f l.instr) rule
    → Contains (rules_in c f lines) rule
of_lines c f rule [] at l is one = cc
of_lines c f rule (x ∷ lines) zero l is one =
    let same : x ≡ l = cc in
    Contains-append_left (rules_of c f x.instr) (rules_in c f lines) rule (subst (λ (y : Lined). Contains (rules_of c f y.instr) rule) (sym same) one)
of_lines c f rule (x ∷ lines) (suc at) l is one =
    Contains-append_right (rules_of c f x.instr) (rules_in c f lines) rule (of_lines c f rule lines at l is one)

of_funs : (c : Code) (f : ℕ) (rule : Rule) (funs : List Fun) (g : ℕ) (fun : Fun) (at : ℕ) (l : Lined) → slice_get funs g ≡ Some fun → slice_get fun.code at ≡ Some l
    → Contains (rules_of c (f + g) l.instr) rule → Contains (rules_from c f funs) rule
of_funs c f rule [] g fun at l found is one = cc
of_funs c f rule (x ∷ funs) zero fun at l found is one =
    let same : x ≡ fun = cc in
    let n : f + 0 ≡ f = omega arith in
    Contains-append_left (rules_in c f x.code) (rules_from c (suc f) funs) rule
    (of_lines c f rule x.code at l (subst (λ (y : Fun). slice_get y.code at ≡ Some l) (sym same) is) (subst (λ h. Contains (rules_of c h l.instr) rule) n one))
of_funs c f rule (x ∷ funs) (suc g) fun at l found is one =
    let n : f + suc g ≡ suc f + g = omega arith in
    Contains-append_right (rules_in c f x.code) (rules_from c (suc f) funs) rule
    (of_funs c (suc f) rule funs g fun at l found is (subst (λ h. Contains (rules_of c h l.instr) rule) n one))

-- at a point
pub has_rule : (c : Code) (p : Point) (rule : Rule) → Contains (rules_of c p.fun (instr_at c p)) rule → Contains (rules_from c 0 c.funs) rule
has_rule c p rule one = in_fun (slice_get c.funs p.fun) refl one
  where
    in_code : (fun : Fun) → slice_get c.funs p.fun ≡ Some fun → (o : Option Lined) → slice_get fun.code p.at ≡ o
        → Contains (rules_of c p.fun (elim o as (λ z. Instr) [ None ↦ Instr.End | Some l ↦ l.instr ])) rule → Contains (rules_from c 0 c.funs) rule
    in_code fun found None is one' = absurd (omega (arith, one'.1))
    in_code fun found (Some l) is one' =
        let n : p.fun ≡ 0 + p.fun = omega arith in
        of_funs c 0 rule c.funs p.fun fun p.at l found is (subst (λ h. Contains (rules_of c h l.instr) rule) n one')

    in_fun : (q : Option Fun) → slice_get c.funs p.fun ≡ q
        → Contains (rules_of c p.fun (elim (slice_get (elim q as (λ z. List Lined) [ None ↦ [] | Some fun ↦ fun.code ]) p.at) as (λ z. Instr) [ None ↦ Instr.End | Some l ↦ l.instr ])) rule
        → Contains (rules_from c 0 c.funs) rule
    in_fun None found one' = absurd (omega (arith, one'.1))
    in_fun (Some fun) found one' = in_code fun found (slice_get fun.code p.at) refl one'

-- one function more
pub rules_turn : (c : Code) (funs : List Fun) (f : ℕ) (fun : Fun) (rules new total : List Rule) → slice_get funs f ≡ Some fun → f < length funs
    → new ≡ rules ++ rules_in c f fun.code → rules ++ rules_from c f (drop f funs) ≡ total → new ++ rules_from c (f + 1) (drop (f + 1) funs) ≡ total
rules_turn c funs f fun rules new total found low is before =
    let next : f + 1 ≡ suc f = omega arith in
    ap (λ l. l ++ rules_from c (f + 1) (drop (f + 1) funs)) is
    ∙ append_assoc rules (rules_in c f fun.code) (rules_from c (f + 1) (drop (f + 1) funs))
    ∙ ap (λ n. rules ++ (rules_in c f fun.code ++ rules_from c n (drop (f + 1) funs))) next
    ∙ ap (λ l. rules ++ rules_from c f l) (sym (fun_rest c f funs low fun found))
    ∙ before
