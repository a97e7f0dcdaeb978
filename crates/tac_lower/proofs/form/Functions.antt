-- The code of a well-formed function is of good form.
use Rattle.std.proofs.Common.{◌≡◌, ℕ, zero, suc, ◌+◌, ◌-◌, ◌<◌, ◌⊎◌, inl, Bool, true, false, pos, List, [], ◌∷◌, ◌++◌, map, take, length, Option, Some, None, refl, ap, sym, ◌∙◌, subst, arith, append_assoc}
use Rattle.std.specs.Prelude.{slice_get}
use Rattle.std.proofs.lemmas.List.{length-append, length-map, map-append}
use Rattle.c_typed.specs.declared.types.ObjectType.{ObjectType}
use Rattle.c_typed.specs.declared.types.ExprType.{ExprType}
use Rattle.c_typed.specs.declared.program.Function.{Function}
use Rattle.c_typed.specs.declared.program.Variable.{Variable}
use Rattle.c_typed.specs.Types.{scalar_type}
use Rattle.c_typed.specs.Decls.{is_scalar}
use Rattle.c_typed.specs.IsWell.{Context, Round, objects_of, placed, AreStmts}
use Rattle.tac_ir.specs.declared.code.Instr.{Instr}
use Rattle.tac_ir.specs.declared.code.Lined.{Lined}
use Rattle.tac_ir.specs.declared.code.Place.{Place}
use Rattle.tac_ir.specs.Regions.{regions_in, IsInside}
use Rattle.tac_ir.specs.GoodForm.{targets_of, fork_targets_of, all_targets_of, NamesExist, IsTurn, IsGoodInstr, IsLastKind, GoodRegions, IsGoodCode}
use Rattle.tac_lower.specs.declared.draft.Numbers.{Numbers}
use Rattle.tac_lower.specs.declared.draft.Draft.{Draft}
use Rattle.tac_lower.specs.declared.draft.Ends.{Ends}
use Rattle.tac_lower.specs.Parts.{Part, Made, in_turn, ◌⨟◌}
use Rattle.tac_lower.specs.Instrs.{draft}
use Rattle.tac_lower.specs.Stmts.{Around, stmt, returned}
use Rattle.tac_lower.specs.Functions.{parameters_from, default_by, default, function, no_loop, first_of}
use Rattle.tac_lower.specs.CodeOf.{shaped, finished}
use Rattle.tac_lower.proofs.form.Lists.{get_end, get_mapped}
use Rattle.tac_lower.proofs.form.Each.{Each, each_append, each_by, each_contains, all_each}
use Rattle.tac_lower.proofs.pieces.Sited.{new_site}
use Rattle.tac_lower.proofs.form.Zones.{Held, Off, Top, top_behind, Level}
use Rattle.tac_lower.proofs.form.Holds.{World, regions, KnownThere, IsDeclaredThere, Named, Aim, Forked, Fit, instr_of, AllFit, Sits, own, Anywhere, fit_append, sits_split, own_append, holds_next, holds_more}
use Rattle.tac_lower.proofs.form.Names.{Shaped, local_place}
use Rattle.tac_lower.proofs.form.Fits.{constant_holds, null_holds, set_holds, IsMainBy, returned_fit, returned_keeps, returned_own}
use Rattle.tac_lower.proofs.form.ExprParts.{Piece, AllHold}
use Rattle.tac_lower.proofs.form.Exprs.{leaf_of}
use Rattle.tac_lower.proofs.form.Loops.{aims_of, turn_all}
use Rattle.tac_lower.proofs.form.Forks.{Nowhere}
use Rattle.tac_lower.proofs.form.Stmts.{body_holds}

-- Drafts that are the lines of a function sit there.
sits_behind : (w : World) (xs : List Lined) (ds : List Draft) (at : ℕ) → at ≡ length xs → w.lines ≡ xs ++ map (finished w.shape) ds → Each (λ (d : Draft). KnownThere w d.object) ds → Sits w at ds
sits_behind w xs [] at here is known = tt
sits_behind w xs (d ∷ ds) at here is known =
    let rest = map (finished w.shape) ds in
    let there : slice_get w.lines at ≡ Some (finished w.shape d) = ap (λ ls. slice_get ls at) is ∙ ap (λ k. slice_get (xs ++ finished w.shape d ∷ rest) k) here ∙ get_end xs rest (finished w.shape d) in
    (there, known.0, sits_behind w (xs ++ finished w.shape d ∷ []) ds (suc at) (omega (arith, length-append xs (finished w.shape d ∷ []))) (is ∙ sym (append_assoc xs (finished w.shape d ∷ []) rest)) known.1)

fit_at : (w : World) (at : ℕ) (ds : List Draft) (i : ℕ) (d : Draft) → AllFit w at ds → slice_get ds i ≡ Some d → Fit w (at + i) (instr_of w d)
fit_at w at [] i d all found = cc
fit_at w at (e ∷ ds) zero d all found = (let same : e ≡ d = cc in let here : at ≡ at + 0 = omega arith in subst (λ k. Fit w k (instr_of w d)) here (subst (λ x. Fit w at (instr_of w x)) same all.0))
fit_at w at (e ∷ ds) (suc i) d all found = (let here : suc at + i ≡ at + suc i = omega arith in subst (λ k. Fit w k (instr_of w d)) here (fit_at w (suc at) ds i d all.1 found))

-- The code of a function by its drafts.
site-shaped : (shape : ObjectType → ℕ) (i : Instr) (o : Option ObjectType) → new_site (shaped shape i o) ≡ new_site i
site-shaped shape (Instr.Field to a s k) (Some t) = refl
site-shaped shape (Instr.Field to a s k) None = refl
site-shaped shape (Instr.Decay to a s) (Some t) = refl
site-shaped shape (Instr.Decay to a s) None = refl
site-shaped shape i o = refl

names_exist : (w : World) (i : Instr) → Named w i → ((s : ℕ) → new_site i ≡ Some s → s < length w.code.sites) → NamesExist w.code w.fun i
names_exist w (Instr.New to a site) named sites = sites site refl
names_exist w i named sites = named

good_instr : (w : World) (at : ℕ) (i : Instr) → Fit w at i → ((s : ℕ) → new_site i ≡ Some s → s < length w.code.sites) → IsGoodInstr w.code w.fun w.lines at i
good_instr w at i fit sites = record {
  names = names_exist w i fit.names sites;
  targets = all_each (λ t. t < length w.lines) (all_targets_of i)
      (each_append (λ t. t < length w.lines) (targets_of i) (fork_targets_of i) (each_by (Aim w at) (λ t. t < length w.lines) (targets_of i) (λ t a. a.inside) fit.aims)
      (each_by (Forked w at) (λ t. t < length w.lines) (fork_targets_of i) (λ t a. a.inside) fit.forked));
  onward = all_each (λ t. (at < t) ⊎ IsTurn w.lines t) (all_targets_of i)
      (each_append (λ t. (at < t) ⊎ IsTurn w.lines t) (targets_of i) (fork_targets_of i) (each_by (Aim w at) (λ t. (at < t) ⊎ IsTurn w.lines t) (targets_of i) (λ t a. a.onward) fit.aims)
      (each_by (Forked w at) (λ t. (at < t) ⊎ IsTurn w.lines t) (fork_targets_of i) (λ t a. inl a.onward) fit.forked));
  fork = fit.fork;
}

module _ (w : World) (ds : List Draft) (lines : w.lines ≡ map (finished w.shape) ds) (all : AllFit w 0 ds) where
  fit_of : (at : ℕ) (l : Lined) → slice_get w.lines at ≡ Some l → Fit w at l.instr
  fit_of at l there =
      let m = get_mapped (finished w.shape) ds at l (ap (λ ls. slice_get ls at) (sym lines) ∙ there) in
      let here : 0 + at ≡ at = omega arith in
      subst (λ k. Fit w k l.instr) here (subst (λ (x : Lined). Fit w (0 + at) x.instr) m.is (fit_at w 0 ds at m.of all m.there))

  good_regions : GoodRegions w.lines
  good_regions = record {
    ends = λ at is. (fit_of at is.0 is.1).end is.2;
    stays = λ at l r there inner.
        all_each (IsInside r) (targets_of l.instr)
        (each_by (Aim w at) (IsInside r) (targets_of l.instr) (λ t a. (each_contains (Level at t) (regions w) r a.level inner.region).0 inner.inside) (fit_of at l there).aims);
    closed = λ at l r there has off.
        all_each (λ t. IsInside r t → (t ≡ r.entry) × (at ≡ r.fork)) (all_targets_of l.instr)
        (each_append (λ t. IsInside r t → (t ≡ r.entry) × (at ≡ r.fork)) (targets_of l.instr) (fork_targets_of l.instr)
        (each_by (Aim w at) (λ t. IsInside r t → (t ≡ r.entry) × (at ≡ r.fork)) (targets_of l.instr)
        (λ t a inside. absurd (off ((each_contains (Level at t) (regions w) r a.level has).1 inside))) (fit_of at l there).aims)
        (each_by (Forked w at) (λ t. IsInside r t → (t ≡ r.entry) × (at ≡ r.fork)) (fork_targets_of l.instr)
        (λ t a inside. each_contains (λ r. Off at r → IsInside r t → (t ≡ r.entry) × (at ≡ r.fork)) (regions w) r a.closed has off inside) (fit_of at l there).forked));
    no_return = λ at l r there has inside ret. each_contains (Off at) (regions w) r ((fit_of at l there).ret ret) has inside;
  }

  pub good_code : ((i : ℕ) (d : Draft) (s : ℕ) → slice_get ds i ≡ Some d → new_site d.instr ≡ Some s → s < length w.code.sites)
      → ((l : Lined) × (slice_get w.lines (length w.lines - 1) ≡ Some l) × IsLastKind l.instr) → IsGoodCode w.code w.fun w.lines
  good_code sites last = record {
    instrs = λ at l there.
        (let m = get_mapped (finished w.shape) ds at l (ap (λ ls. slice_get ls at) (sym lines) ∙ there) in
        good_instr w at l.instr (fit_of at l there)
        (λ s has. sites at m.of s m.there (sym (site-shaped w.shape m.of.instr m.of.object) ∙ ap (λ (x : Lined). new_site x.instr) m.is ∙ has)));
    last = last;
    regions = good_regions;
  }

-- A function: its parameters, its body, the value at the closing brace, and the return.
pub scalar_some : (o : Option ExprType) → elim o as (λ o. Bool) [ None ↦ false | Some v ↦ true ] ≡ true → (v : ExprType) × (o ≡ Some v)
scalar_some None h = cc
scalar_some (Some v) h = (v, refl)

module _ (w : World) (c : Context) (a : Around) (names : Shaped w c a.sizes) where
  parameters_hold : (k p : ℕ) (vs : List Variable) → ((i : ℕ) (v : Variable) → slice_get vs i ≡ Some v → slice_get c.variables (k + i) ≡ Some v.object)
      → Each (λ t. is_scalar t ≡ true) (take p (objects_of vs)) → AllHold w false Nowhere (parameters_from k (take p vs))
  parameters_hold k zero vs there scalars = tt
  parameters_hold k (suc p) [] there scalars = tt
  parameters_hold k (suc p) (v ∷ vs) there scalars =
      let scalar = scalar_some (scalar_type v.object) scalars.0 in
      let here : k + 0 ≡ k = omega arith in
      let found : slice_get c.variables k ≡ Some v.object = subst (λ j. slice_get c.variables j ≡ Some v.object) here (there 0 v refl) in (
        set_holds w false (Anywhere Nowhere) v.line.0 (Place.Local k []) k (leaf_of w c a.sizes names (Place.Local k []) v.object scalar.0 scalar.1 (local_place w c a.sizes names k v.object found)),
        parameters_hold (suc k) p vs (λ i x e. (let next : k + suc i ≡ suc k + i = omega arith in subst (λ j. slice_get c.variables j ≡ Some x.object) next (there (suc i) x e))) scalars.1,
      )

  default_by_holds : (line stars : ℕ) → Piece w false Nowhere (default_by line stars)
  default_by_holds line zero = constant_holds w false (Anywhere Nowhere) line (pos 0)
  default_by_holds line (suc stars) = null_holds w false (Anywhere Nowhere) line

  default_holds : (line : ℕ) (o : Option ObjectType) → Piece w false Nowhere (default line o)
  default_holds line None = constant_holds w false (Anywhere Nowhere) line (pos 0)
  default_holds line (Some t) = default_by_holds line t.stars

  abbrev outside : Round
  outside = record { looped = false; branched = false }

  -- all but the return
  abbrev front : Function → Part ℕ
  front f = in_turn (parameters_from 0 (take f.parameters f.variables)) ⨟ in_turn (map (stmt a) f.body) ⨟ default f.close.0 f.result

  false_true : {A : Type 0} → false ≡ true → A
  false_true e = absurd (let no : ⊥ = cc in no)

  front_holds : (f : Function) → IsMainBy w a.in_main → ((i : ℕ) (v : Variable) → slice_get f.variables i ≡ Some v → slice_get c.variables (0 + i) ≡ Some v.object)
      → Each (λ t. is_scalar t ≡ true) (take f.parameters (objects_of f.variables)) → AreStmts c (placed outside f.body) → Piece w false Nowhere (front f)
  front_holds f main there scalars body =
      holds_next w false Nowhere (in_turn (parameters_from 0 (take f.parameters f.variables))) (in_turn (map (stmt a) f.body) ⨟ default f.close.0 f.result)
      (turn_all w false Nowhere (parameters_from 0 (take f.parameters f.variables)) (parameters_hold 0 f.parameters f.variables there scalars))
      (holds_next w false Nowhere (in_turn (map (stmt a) f.body)) (default f.close.0 f.result)
      (holds_more w false (Anywhere (aims_of outside)) (Anywhere Nowhere) (in_turn (map (stmt a) f.body)) (λ ends lo t o. false_true o.0) (body_holds w c a names main outside f.body body))
      (default_holds f.close.0 f.result))

  front_drafts : (f : Function) (ends : Ends) (n : Numbers) → ((function a f).make ends n).drafts
      ≡ ((front f).make ends n).drafts ++ ((returned a.in_main f.close.0 ((front f).make ends n).result).make ends ((front f).make ends n).next).drafts
  front_drafts f ends n =
      let ps = (in_turn (parameters_from 0 (take f.parameters f.variables))).make ends n in
      let bs = (in_turn (map (stmt a) f.body)).make ends ps.next in
      let vs = (default f.close.0 f.result).make ends bs.next in
      let rs = (returned a.in_main f.close.0 vs.result).make ends vs.next in
      sym (append_assoc ps.drafts (bs.drafts ++ vs.drafts) rs.drafts ∙ ap (λ ds. ps.drafts ++ ds) (append_assoc bs.drafts vs.drafts rs.drafts))

  -- All of it.
  record Whole (f : Function) (n : Numbers) : Type 0 where
    fits : AllFit w 0 ((function a f).make no_loop (first_of f n)).drafts
    last : (l : Lined) × (slice_get w.lines (length w.lines - 1) ≡ Some l) × IsLastKind l.instr

  -- the single draft of a return
  return_draft : (main : Bool) (line x : ℕ) (ends : Ends) (n : Numbers) → (d : Draft) × (((returned main line x).make ends n).drafts ≡ d ∷ []) × IsLastKind (instr_of w d)
  return_draft true line x ends n = (draft line (Instr.Ret x None), refl, tt)
  return_draft false line x ends n = (draft line (Instr.Ret x (Some n.read)), refl, tt)

  whole : (f : Function) (n : Numbers) → Piece w false Nowhere (front f) → IsMainBy w a.in_main → w.lines ≡ map (finished w.shape) ((function a f).make no_loop (first_of f n)).drafts
      → Each (λ (d : Draft). KnownThere w d.object) ((function a f).make no_loop (first_of f n)).drafts → Whole f n
  whole f n is main lines known = record {
    fits = subst (λ xs. AllFit w 0 xs) (sym split) (fit_append w 0 fm.next.at fm.drafts rm.drafts (omega (arith, at, count)) front_fit (returned_fit w a.in_main f.close.0 fm.result no_loop fm.next main top));
    last = (finished w.shape ret.0, there, ret.2);
  }
    where
      fm : Made ℕ
      fm = (front f).make no_loop (first_of f n)

      rm : Made ℕ
      rm = (returned a.in_main f.close.0 fm.result).make no_loop fm.next

      ds : List Draft
      ds = ((function a f).make no_loop (first_of f n)).drafts

      split : ds ≡ fm.drafts ++ rm.drafts
      split = front_drafts f no_loop (first_of f n)

      ret : (d : Draft) × (rm.drafts ≡ d ∷ []) × IsLastKind (instr_of w d)
      ret = return_draft a.in_main f.close.0 fm.result no_loop fm.next

      at : fm.next.at ≡ 0 + (front f).points
      at = is.keeps.at no_loop (first_of f n)

      count : length fm.drafts ≡ (front f).points
      count = is.keeps.drafts no_loop (first_of f n)

      sits : Sits w 0 (fm.drafts ++ rm.drafts)
      sits = subst (λ xs. Sits w 0 xs) split (sits_behind w [] ds 0 refl lines known)

      all_lines : w.lines ≡ map (finished w.shape) fm.drafts ++ finished w.shape ret.0 ∷ []
      all_lines = lines ∙ ap (map (finished w.shape)) (split ∙ ap (λ xs. fm.drafts ++ xs) ret.1) ∙ map-append (finished w.shape) fm.drafts (ret.0 ∷ [])

      size : length w.lines ≡ (front f).points + 1
      size = omega (arith, count, ap length all_lines, length-append (map (finished w.shape) fm.drafts) (finished w.shape ret.0 ∷ []), length-map fm.drafts (finished w.shape))

      there : slice_get w.lines (length w.lines - 1) ≡ Some (finished w.shape ret.0)
      there =
          let index : length w.lines - 1 ≡ length (map (finished w.shape) fm.drafts) = omega (arith, size, count, length-map fm.drafts (finished w.shape)) in
          ap (λ k. slice_get w.lines k) index ∙ ap (λ ls. slice_get ls (length (map (finished w.shape) fm.drafts))) all_lines ∙ get_end (map (finished w.shape) fm.drafts) [] (finished w.shape ret.0)

      regions_are : regions w ≡ own w 0 fm.drafts ++ []
      regions_are =
          ap regions_in (lines ∙ ap (map (finished w.shape)) split) ∙ own_append w 0 fm.next.at fm.drafts rm.drafts (omega (arith, at, count))
          ∙ ap (λ rs. own w 0 fm.drafts ++ rs) (returned_own w a.in_main f.close.0 fm.result no_loop fm.next)

      held : Each (Held 0 (0 + (front f).points)) (own w 0 fm.drafts)
      held = is.keeps.held no_loop (first_of f n)

      top : Top fm.next.at (regions w)
      top = subst (λ rs. Top fm.next.at rs) (sym regions_are) (each_append (Off fm.next.at) (own w 0 fm.drafts) [] (top_behind 0 (0 + (front f).points) fm.next.at (own w 0 fm.drafts) (omega (arith, at)) held) tt)

      front_fit : AllFit w 0 fm.drafts
      front_fit = is.fits no_loop (first_of f n) (record {
        sits = (sits_split w 0 fm.next.at fm.drafts rm.drafts (omega (arith, at, count)) sits).0;
        zone = record { pre = []; post = []; split = regions_are; first = tt; last = tt };
        below = omega (arith, size);
        reaches = λ t o. absurd o;
      })

  -- the types of its drafts are well-formed
  pub function_objects : (f : Function) (n : Numbers) → IsMainBy w a.in_main → ((i : ℕ) (v : Variable) → slice_get f.variables i ≡ Some v → slice_get c.variables (0 + i) ≡ Some v.object)
      → Each (λ t. is_scalar t ≡ true) (take f.parameters (objects_of f.variables)) → AreStmts c (placed (record { looped = false; branched = false }) f.body)
      → Each (λ (d : Draft). IsDeclaredThere w d.object) ((function a f).make no_loop (first_of f n)).drafts
  function_objects f n main there scalars body =
      let fm = (front f).make no_loop (first_of f n) in
      let rm = (returned a.in_main f.close.0 fm.result).make no_loop fm.next in
      subst (λ ds. Each (λ (d : Draft). IsDeclaredThere w d.object) ds) (sym (front_drafts f no_loop (first_of f n)))
      (each_append (λ (d : Draft). IsDeclaredThere w d.object) fm.drafts rm.drafts ((front_holds f main there scalars body).keeps.objects no_loop (first_of f n)) ((returned_keeps w a.in_main f.close.0 fm.result).objects no_loop fm.next))

  -- a function whose types stand among the shapes, in the code
  pub function_good : (f : Function) (n : Numbers) → IsMainBy w a.in_main → ((i : ℕ) (v : Variable) → slice_get f.variables i ≡ Some v → slice_get c.variables (0 + i) ≡ Some v.object)
      → Each (λ t. is_scalar t ≡ true) (take f.parameters (objects_of f.variables)) → AreStmts c (placed (record { looped = false; branched = false }) f.body)
      → w.lines ≡ map (finished w.shape) ((function a f).make no_loop (first_of f n)).drafts
      → Each (λ (d : Draft). KnownThere w d.object) ((function a f).make no_loop (first_of f n)).drafts
      → ((i : ℕ) (d : Draft) (s : ℕ) → slice_get ((function a f).make no_loop (first_of f n)).drafts i ≡ Some d → new_site d.instr ≡ Some s → s < length w.code.sites)
      → IsGoodCode w.code w.fun w.lines
  function_good f n main there scalars body lines known sites =
      let is = whole f n (front_holds f main there scalars body) main lines known in
      good_code w ((function a f).make no_loop (first_of f n)).drafts lines is.fits sites is.last
