-- What is known inside a function, and the walk there from mark to mark.
use Rattle.std.proofs.Common.{◌≡◌, List, [], ◌∷◌, ◌++◌, Ok, Err, refl, ap, sym, ◌∙◌, subst}
use Rattle.c_types.specs.declared.known.Known.{Known}
use Rattle.c_typed.specs.Marks.{Mark, Opening, opens, closes, History}
use Rattle.c_typed.specs.Whole.{Whole}
use Rattle.c_typed.specs.Parts.{Place, Part, marked, mark, behind, ◌<⊗◌, ◌⊗>◌}
use Rattle.c_types.specs.tools.Steps.{Found, ◌>>=◌}
use Rattle.c_types.specs.tools.KnownSteps.{entered, exited}
use Rattle.c_types.specs.tools.StmtWalk.{scoped}
use Rattle.c_typed.proofs.Balanced.{Balanced, marked_append, left_behind}
use Rattle.c_types.proofs.Tells.{tells_after_mark, tells_before_mark}
use Rattle.c_types.proofs.Standing.{Stands, Inner, IsFramed, stands_opens, stands_closes, inner_opens, inner_closed}
use Rattle.c_types.proofs.Walking.{Goes, result_of, ok_is, err_ok}

pub record Within (w : Whole) (h : History) (k : Known) : Type 0 where
  pub stands : Stands h k
  pub framed : IsFramed w h k.frame
  pub inner : Inner h

-- what the walk tells of a part is what the definition judges of it, and what is known behind it stands there
abbrev pub Walks : (w : Whole) {A : Type 0} → Part A → Place → Found (A × Known) → Type 0
Walks w p here r = Goes (Within w) p here r

-- A scope.
pub within_opens : (w : Whole) (o : Opening) (h : History) (k : Known) → Within w h k → Within w (opens o ∷ h) (entered k)
within_opens w o h k is = record {
  stands = stands_opens o h k is.stands;
  framed = record { result = is.framed.result; variables = is.framed.variables; words = is.framed.words };
  inner = inner_opens o h;
}

pub within_closes : (w : Whole) (o : Opening) (h : History) (k l : Known) {ms : List Mark} → Balanced ms → Within w h k → Within w (marked ms (opens o ∷ h)) l → Within w (closes ∷ marked ms (opens o ∷ h)) (exited l)
within_closes w o h k l balanced was is = record {
  stands = stands_closes _ l was.stands.inner was.stands.outer (left_behind (opens o ∷ h) balanced ∙ was.stands.scopes) is.stands;
  framed = record { result = is.framed.result; variables = is.framed.variables; words = is.framed.words };
  inner = inner_closed o h balanced was.inner;
}

-- The end of a scope that opened at the first token of a part.
pub walks_closing : (w : Whole) (c : Opening) {A : Type 0} (p : Part A) (ms : List Mark) (here : Place) (k : Known) (r : Found (A × Known)) → p.marks ≡ opens c ∷ ms → Balanced ms → Within w here.before k
    → Walks w p here r → Walks w (p <⊗ mark closes) here (r >>= (λ s. Ok (s.0, exited s.1)))
walks_closing w c p ms here k (Ok t) opened balanced within is = record {
  tells = tells_before_mark closes p here (Ok t.0) is.tells;
  stands = λ s e.
      let inner = subst (λ ns. Within w (marked ns here.before) t.1) opened (is.stands t refl) in
      let outer = subst (λ ns. Within w (closes ∷ marked ns here.before) (exited t.1)) (sym opened) (within_closes w c here.before k t.1 balanced within inner) in
      subst (Within w (marked (p.marks ++ (closes ∷ [])) here.before)) (ap (λ s. s.1) (ok_is e))
      (subst (λ h. Within w h (exited t.1)) (sym (marked_append p.marks (closes ∷ []) here.before)) outer);
}
walks_closing w c p ms here k (Err x) opened balanced within is = record {
  tells = tells_before_mark closes p here (Err x) is.tells;
  stands = λ s e. absurd (err_ok e);
}

pub walks_scoped : (w : Whole) (o : Opening) {A : Type 0} (p : Part A) (here : Place) (k : Known) (walk : Known → Found (A × Known)) → Balanced p.marks → Within w here.before k
    → Walks w p (behind (mark (opens o)) here) (walk (entered k)) → Walks w (mark (opens o) ⊗> p <⊗ mark closes) here (scoped walk k)
walks_scoped w o p here k walk balanced within is =
    let r = walk (entered k) in
    walks_closing w o (mark (opens o) ⊗> p) p.marks here k r refl balanced within (record { tells = tells_after_mark (opens o) p here (result_of r) is.tells; stands = is.stands })
