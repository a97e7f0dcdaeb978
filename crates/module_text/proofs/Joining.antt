-- A module is read part by part, and is in order.
use Rattle.std.proofs.Common.{◌≡◌, ℕ, Bool, List, length, map, sym, ap, subst, ◌∙◌}
use Rattle.std.specs.Prelude.{codes}
use Rattle.tac_ir.specs.declared.code.Code.{Code}
use Rattle.tac_ir.specs.declared.module.Size.{Size}
use Rattle.tac_ir.specs.declared.module.PointsRow.{PointsRow}
use Rattle.tac_ir.specs.declared.module.ReachRow.{ReachRow}
use Rattle.tac_ir.specs.Module.{Module, IsOrdered}
use Rattle.line_format.specs.declared.cursor.Failure.{Failure}
use Rattle.line_format.specs.tools.Format.{Format, Has, read, done, and_then}
use Rattle.line_format.specs.tools.Reads.{Fails}
use Rattle.line_format.specs.tools.Words.{word}
use Rattle.line_format.proofs.Laws.{Done, Judge}
use Rattle.text_law.specs.ModuleText.{beside}
use Rattle.text_law.specs.tools.Instrs.{pair}
use Rattle.text_law.specs.tools.Whole as form
use Rattle.text_law.proofs.Whole.{module_law, whole_is, firsts, seconds, points_back, reach_back}

-- the second of two fails behind the first
pub second_fails : {A B : Type 0} (f : Format A) (g : Format B) (ts m : List ℕ) (a : A) (e : Failure) → read f ts ≡ done a m → Fails (read g m) e → Fails (read (pair f g) ts) e
second_fails f g ts m a Failure.Memory h k = tt
second_fails f g ts m a (Failure.At n) h k =
    ap (λ o. and_then o (λ a r. and_then (read g r) (λ b r. done (a, b) r))) h ∙ ap (λ o. and_then o (λ b r. done (a, b) r)) k

pub both_read : {A B : Type 0} (f : Format A) (g : Format B) (ts m r : List ℕ) (a : A) (b : B) → read f ts ≡ done a m → read g m ≡ done b r → read (pair f g) ts ≡ done (a, b) r
both_read f g ts m r a b h k =
    ap (λ o. and_then o (λ a r. and_then (read g r) (λ b r. done (a, b) r))) h ∙ ap (λ o. and_then o (λ b r. done (a, b) r)) k

-- the last line fails behind the parts
pub end_fails : (p : form.Parts) (ts m : List ℕ) (e : Failure) → read form.parts ts ≡ done p m → Fails (read (word (codes "end\n")) m) e → Fails (read form.whole ts) e
end_fails p ts m Failure.Memory h k = tt
end_fails p ts m (Failure.At n) h k =
    ap (λ o. and_then o (λ p r. and_then (read (word (codes "end\n")) r) (λ u r. done (form.module_of p) r))) h
    ∙ ap (λ o. and_then o (λ u r. done (form.module_of p) r)) k

module _ (size : Size) (code : Code) (classes : List ℕ) (removed : List Bool) (sets : List (List ℕ)) (points : List PointsRow) (reach : List ReachRow) where
  abbrev parts : form.Parts
  parts = (size, (code, (classes, (beside removed sets, (map (λ r. (r.key, r.nodes)) points, map (λ r. (r.point, r.facts)) reach)))))

  abbrev joined : Module
  joined = record { size = size; code = code; classes = classes; sets = sets; removed = removed; points = points; reach = reach }

  is_joined : length removed ≡ length sets → form.module_of parts ≡ joined
  is_joined e = λ i. record {
    size = size;
    code = code;
    classes = classes;
    sets = seconds removed sets e i;
    removed = firsts removed sets e i;
    points = points_back points i;
    reach = reach_back reach i;
  }

  module _ (ts c r : List ℕ) (first : read form.parts ts ≡ done parts c) (end : read (word (codes "end\n")) c ≡ done tt r) (even : length removed ≡ length sets) where
    pub whole_read : read form.whole ts ≡ done joined r
    whole_read =
        ap (λ o. and_then o (λ p r. and_then (read (word (codes "end\n")) r) (λ u r. done (form.module_of p) r))) first
        ∙ (ap (λ o. and_then o (λ u r. done (form.module_of parts) r)) end ∙ ap (λ m. done m r) (is_joined even))

    has_read : Has form.whole ts joined r
    has_read =
        let j : Done (Has form.whole) ts joined r = subst (Judge (Has form.whole) ts) whole_read (module_law.judge ts) in
        subst (λ z. Has form.whole z joined r) (sym j.whole) (j.derived r)

    pub in_order : IsOrdered sets removed points reach
    in_order = (whole_is ts joined r has_read).0.ordered
