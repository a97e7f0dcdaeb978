-- What lowering answers, from its steps.
use Rattle.std.proofs.Common.{◌≡◌, ℕ, List, [], ◌∷◌, map, Some, None, Err, refl, ap, sym, ◌∙◌}
use Rattle.std.proofs.lemmas.List.{length-map}
use Rattle.c_typed.specs.Typed.{Typed}
use Rattle.c_typed.specs.declared.types.ObjectType.{ObjectType}
use Rattle.c_typed.specs.declared.program.Function.{Function}
use Rattle.tac_ir.specs.declared.code.Code.{Code}
use Rattle.tac_lower.specs.declared.draft.Draft.{Draft}
use Rattle.tac_lower.specs.declared.fault.LowerFault.{LowerFault}
use Rattle.tac_lower.specs.declared.fault.LowerWhat.{LowerWhat}
use Rattle.tac_lower.specs.CodeOf.{finished, funs_of, drafts_of, code_with, code_of}
use Rattle.tac_lower.specs.Limits.{points_in, point_shares, def_shares, node_shares, passing, point_limit, definition_limit, node_limit, or_else}
use Rattle.tac_lower.specs.Lowers.{Lowers}
use Rattle.tac_lower.specs.tools.Drafted.{AllDrafts, Drafts, draft_share, draft_shares}

shares_are : (shape : ObjectType → ℕ) (fs : List Function) (dss : List (List Draft)) → map points_in (funs_of shape fs dss) ≡ draft_shares fs dss
shares_are shape [] dss = refl
shares_are shape (f ∷ fs) [] = refl
shares_are shape (f ∷ fs) (ds ∷ dss) =
    ap (λ n. record { count = n; line = f.line.0 } ∷ map points_in (funs_of shape fs dss)) (length-map ds (finished shape))
    ∙ ap (λ rest. draft_share f ds ∷ rest) (shares_are shape fs dss)

-- the points of code are its drafts
pub points_are : (t : Typed) → point_shares (code_of t) ≡ draft_shares t.functions (drafts_of t)
points_are t = shares_are _ t.functions (drafts_of t)

pub points_within : (t : Typed) (drafts : List (List Draft)) (code : Code) → AllDrafts t drafts → code ≡ code_with t drafts
    → (code ≡ code_of t) × (passing point_limit (point_shares code) ≡ None)
points_within t drafts code all is =
    let same : code ≡ code_of t = is ∙ ap (code_with t) all.drafts in
    (same, ap (λ c. passing point_limit (point_shares c)) same ∙ ap (passing point_limit) (points_are t) ∙ all.within)

pub emitted_fault : (t : Typed) (e : LowerFault) → Drafts t (Err e) → Lowers t (Err e)
emitted_fault t (LowerFault.Big what line) (is, passed) = λ told.
    ap (λ o. or_else LowerWhat.Points o (or_else LowerWhat.Defs (passing definition_limit (def_shares (code_of t))) (or_else LowerWhat.Nodes (passing node_limit (node_shares (code_of t))) None)))
    (ap (passing point_limit) (points_are t) ∙ passed)
    ∙ ap (λ w. Some (LowerFault.Big w line)) (sym is)
emitted_fault t LowerFault.Memory h = λ told. absurd (told refl)

pub no_memory : (t : Typed) → Lowers t (Err LowerFault.Memory)
no_memory t = λ told. absurd (told refl)
