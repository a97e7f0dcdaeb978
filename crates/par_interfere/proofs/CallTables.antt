-- Calls: what calls is a point, whom it calls exists, and what leads on from calls is what can be called.
use Rattle.std.proofs.Common.{◌≡◌, ℕ, ◌<◌, ◌≤◌, Bool, true, false, List, length, get_or, refl, sym, ap, subst, ◌∙◌, arith, Option, Some, None, true≢false}
use Rattle.std.specs.Prelude.{slice_get, nat_eq, nat_le, ◌&&◌}
use Rattle.std.proofs.lemmas.Bool.{eqb-true, eq-eqb, leb-true, le-leb}
use Rattle.std.proofs.lemmas.Option.{slice_get_within, slice_get-get_or}
use Rattle.dfi_base.specs.declared.numbers.Point.{Point}
use Rattle.tac_ir.specs.declared.code.Code.{Code}
use Rattle.tac_ir.specs.declared.code.Instr.{Instr}
use Rattle.tac_ir.specs.declared.code.Lined.{Lined}
use Rattle.tac_ir.specs.Layout.{lines_of, instr_at}
use Rattle.tac_ir.specs.Edges.{calls_fun}
use Rattle.tac_ir.specs.Numbers.{new_def}
use Rattle.tac_ir.specs.GoodForm.{GoodForm, NamesExist}
use Rattle.tac_ir.specs.GoodModule.{IsPoint}
use Rattle.tac_ir.proofs.Numbering.{has_line}
use Rattle.flow_rules.specs.PointNumber.{point_number}
use Rattle.flow_rules.specs.CanCall.{CanCall}
use Rattle.flow_rules.specs.CanCall.CanCall.{one, more}
use Rattle.flow_rules.proofs.PointNumbers.{fun_of, number_below}
use Rattle.par_interfere.specs.tools.Points.{ArePoints, callee}
use Rattle.par_interfere.specs.tools.Calls.{AreCalls, IsCalled, IsCallTable, IsTable}
use Rattle.par_interfere.specs.tools.Closing.{Leads, IsClosure}
use Rattle.par_interfere.specs.tools.Closing.Leads.{one as one_step, more as one_step_more}
use Rattle.par_interfere.specs.tools.Branches.{is_between}
use Rattle.par_interfere.proofs.Listed.{and_parts, and_whole}
use Rattle.par_interfere.proofs.PointLists.{listed}

pub callee_calls : (g : ℕ) (i : Instr) → callee i ≡ Some g → calls_fun g i ≡ true
callee_calls g (Instr.Call to f def args) is = (let same : g ≡ f = cc in eq-eqb g f same)
callee_calls g i is = cc

pub calls_callee : (g : ℕ) (i : Instr) → calls_fun g i ≡ true → callee i ≡ Some g
calls_callee g (Instr.Call to f def args) is = ap Some (sym (eqb-true g f is))
calls_callee g i is = cc

pub real_call : (c : Code) (p : Point) (g : ℕ) → calls_fun g (instr_at c p) ≡ true → IsPoint c p
real_call c p g calls = by (slice_get (lines_of c p.fun) p.at) refl calls
  where
    by : (o : Option Lined) → slice_get (lines_of c p.fun) p.at ≡ o → calls_fun g (elim o as (λ z. Instr) [ None ↦ Instr.End | Some lined ↦ lined.instr ]) ≡ true → IsPoint c p
    by None is calls = cc
    by (Some l) is calls = slice_get_within (lines_of c p.fun) p.at l is

pub fun_exists : (c : Code) (p : Point) → IsPoint c p → p.fun < length c.funs
fun_exists c p real = (fun_of c p real).1.exists

-- the function of each listed point exists
pub fun_low : (c : Code) (points : List Point) → ArePoints c points → (k : ℕ) (d : Point) → k < length points → (get_or points k d).fun < length c.funs
fun_low c points all k d low = fun_exists c (get_or points k d) (all.numbered k (get_or points k d) (slice_get-get_or points k d low)).real

pub callee_exists : (c : Code) → GoodForm c → (p : Point) (g : ℕ) → callee (instr_at c p) ≡ Some g → g < length c.funs
callee_exists c good p g is = by (instr_at c p) refl is
  where
    by : (i : Instr) → instr_at c p ≡ i → callee i ≡ Some g → g < length c.funs
    by (Instr.Call to f d args) at is =
        let h = has_line new_def c p d refl (ap new_def at) in
        let names = subst (NamesExist c p.fun) (sym h.instr ∙ at) ((good.code p.fun h.fun h.function).instrs p.at h.line h.found).names in
        let same : f ≡ g = cc in
        (let exists = names.exists in omega (arith, exists, same))
    by i at is = cc

-- A point between two indexes.
pub record IsBetween (p : Point) (f first last : ℕ) : Type 0 where
  pub fun : p.fun ≡ f
  pub after : first ≤ p.at
  pub before : p.at ≤ last

pub between : (p : Point) (f first last : ℕ) → is_between p f first last ≡ true → IsBetween p f first last
between p f first last is =
    let parts = and_parts (nat_eq p.fun f) (nat_le first p.at && nat_le p.at last) is in
    let ends = and_parts (nat_le first p.at) (nat_le p.at last) parts.1 in
    record { fun = eqb-true p.fun f parts.0; after = leb-true first p.at ends.0; before = leb-true p.at last ends.1 }

pub not_between : (p : Point) (f first last : ℕ) → is_between p f first last ≡ false → p.fun ≡ f → first ≤ p.at → p.at ≤ last → ⊥
not_between p f first last is fun after before =
    true≢false (sym (and_whole (nat_eq p.fun f) (nat_le first p.at && nat_le p.at last) (eq-eqb p.fun f fun)
    (and_whole (nat_le first p.at) (nat_le p.at last) (le-leb first p.at after) (le-leb p.at last before))) ∙ is)

-- What is called directly, and what can be called.

called_leads : (c : Code) (points : List Point) (table : List (List Bool)) → AreCalls c points (length points) table → (f g : ℕ) → Leads table f g → CanCall c f g
called_leads c points table calls f g (one_step g2 is) =
    let h = (calls f g).0 is in one h.point g h.fun h.calls
called_leads c points table calls f g (one_step_more k g2 left is) =
    let h = (calls k g).0 is in
    more h.point g (subst (CanCall c f) (sym h.fun) (called_leads c points table calls f k left)) h.calls

is_called : (c : Code) (points : List Point) → ArePoints c points → (p : Point) (f g : ℕ) → p.fun ≡ f → calls_fun g (instr_at c p) ≡ true → IsCalled c points (length points) f g
is_called c points all p f g fun calls =
    let real = real_call c p g calls in
    record { number = point_number c p; point = p; low = (let count = all.count in omega (arith, count, number_below c p real)); listed = listed c points all p real; fun = fun; calls = calls }

leads_called : (c : Code) (points : List Point) → ArePoints c points → (table : List (List Bool)) → AreCalls c points (length points) table → (f g : ℕ) → CanCall c f g → Leads table f g
leads_called c points all table calls f g (one p g2 fun is) = one_step g ((calls f g).1 (is_called c points all p f g fun is))
leads_called c points all table calls f g (more p g2 left is) =
    one_step_more p.fun g (leads_called c points all table calls f p.fun left) ((calls p.fun g).1 (is_called c points all p p.fun g refl is))

pub call_table : (c : Code) (points : List Point) → ArePoints c points → (direct table : List (List Bool)) → AreCalls c points (length points) direct → IsClosure direct table
    → IsTable (length c.funs) table → IsCallTable c table
call_table c points all direct table calls closed shape = record {
  shape = shape;
  calls = λ f g. (
    λ is. called_leads c points direct calls f g (closed.sound f g is),
    λ can. closed.whole f g (leads_called c points all direct calls f g can),
  );
}
