-- The functions of a typed program, each in the code of all.
use Rattle.std.proofs.Common.{◌≡◌, ℕ, zero, suc, ◌+◌, ◌*◌, ◌<◌, ◌≤◌, List, [], ◌∷◌, length, Option, Some, None, refl, ap, sym, subst, arith}
use Rattle.std.specs.Prelude.{slice_get}
use Rattle.c_typed.specs.declared.types.ObjectType.{ObjectType}
use Rattle.c_typed.specs.declared.program.Function.{Function}
use Rattle.c_typed.specs.Types.{times}
use Rattle.c_typed.specs.IsWell.{objects_of}
use Rattle.tac_ir.specs.declared.code.Fun.{Fun}
use Rattle.tac_ir.specs.declared.code.Instr.{Instr}
use Rattle.tac_lower.specs.declared.draft.Numbers.{Numbers}
use Rattle.tac_lower.specs.declared.draft.Draft.{Draft}
use Rattle.tac_lower.specs.Functions.{function, no_loop, first_of, around, drafts_from}
use Rattle.tac_lower.specs.CodeOf.{Item, item_at, site_by, need_by, sites_in, needs_in, variables_in, all_of, fun_of, funs_of}
use Rattle.std.proofs.lemmas.List.{map-append}
use Rattle.tac_lower.proofs.interned.DraftLaws.{objects}
use Rattle.tac_lower.proofs.form.Each.{Each, each_append, each_first, each_second}

-- Functions by their number.
pub record FunAt (shape : ObjectType → ℕ) (sizes : List ℕ) (main k : ℕ) (n : Numbers) (fs : List Function) (i : ℕ) (f : Function) : Type 0 where
  pub numbers : Numbers
  pub index : ℕ
  pub index_is : index ≡ k + i
  pub drafts : slice_get (drafts_from sizes main k n fs) i ≡ Some ((function (around sizes main index) f).make no_loop (first_of f numbers)).drafts
  pub fun : slice_get (funs_of shape fs (drafts_from sizes main k n fs)) i ≡ Some (fun_of shape f ((function (around sizes main index) f).make no_loop (first_of f numbers)).drafts)

pub fun_at : (shape : ObjectType → ℕ) (sizes : List ℕ) (main k : ℕ) (n : Numbers) (fs : List Function) (i : ℕ) (f : Function) → slice_get fs i ≡ Some f → FunAt shape sizes main k n fs i f
fun_at shape sizes main k n [] i f found = cc
fun_at shape sizes main k n (g ∷ fs) zero f found =
    let same : g ≡ f = cc in
    record {
      numbers = n;
      index = k;
      index_is = omega arith;
      drafts = ap (λ h. Some ((function (around sizes main k) h).make no_loop (first_of h n)).drafts) same;
      fun = ap (λ h. Some (fun_of shape h ((function (around sizes main k) h).make no_loop (first_of h n)).drafts)) same;
    }
fun_at shape sizes main k n (g ∷ fs) (suc i) f found =
    let rest = fun_at shape sizes main (suc k) ((function (around sizes main k) g).make no_loop (first_of g n)).next fs i f found in
    let at = rest.index_is in
    record { numbers = rest.numbers; index = rest.index; index_is = omega arith; drafts = rest.drafts; fun = rest.fun }

pub fun_from : (shape : ObjectType → ℕ) (sizes : List ℕ) (main k : ℕ) (n : Numbers) (fs : List Function) (i : ℕ) (fun : Fun) → slice_get (funs_of shape fs (drafts_from sizes main k n fs)) i ≡ Some fun
    → (f : Function) × (slice_get fs i ≡ Some f)
fun_from shape sizes main k n [] i fun found = cc
fun_from shape sizes main k n (g ∷ fs) zero fun found = (g, refl)
fun_from shape sizes main k n (g ∷ fs) (suc i) fun found = fun_from shape sizes main (suc k) ((function (around sizes main k) g).make no_loop (first_of g n)).next fs i fun found

pub drafts_get : (sizes : List ℕ) (main k : ℕ) (n : Numbers) (fs : List Function) (i : ℕ) (ds : List Draft) → slice_get (drafts_from sizes main k n fs) i ≡ Some ds → (f : Function) × (slice_get fs i ≡ Some f)
drafts_get sizes main k n [] i ds found = cc
drafts_get sizes main k n (g ∷ fs) zero ds found = (g, refl)
drafts_get sizes main k n (g ∷ fs) (suc i) ds found = drafts_get sizes main (suc k) ((function (around sizes main k) g).make no_loop (first_of g n)).next fs i ds found

pub funs_length : (shape : ObjectType → ℕ) (sizes : List ℕ) (main k : ℕ) (n : Numbers) (fs : List Function) → length (funs_of shape fs (drafts_from sizes main k n fs)) ≡ length fs
funs_length shape sizes main k n [] = refl
funs_length shape sizes main k n (f ∷ fs) = ap suc (funs_length shape sizes main (suc k) ((function (around sizes main k) f).make no_loop (first_of f n)).next fs)

-- The types of drafts, as sites and as needs.
abbrev pub There : (ObjectType → Type 0) → Option ObjectType → Type 0
There P None = Unit {0}
There P (Some t) = P t

item_each : (P : ObjectType → Type 0) (line : ℕ) (o : Option ObjectType) → There P o → Each P (objects (item_at line o))
item_each P line None is = tt
item_each P line (Some t) is = (is, tt)

item_there : (P : ObjectType → Type 0) (line : ℕ) (o : Option ObjectType) → Each P (objects (item_at line o)) → There P o
item_there P line None is = tt
item_there P line (Some t) is = is.0

site_each : (P : ObjectType → Type 0) (line : ℕ) (o : Option ObjectType) (i : Instr) → There P o → Each P (objects (site_by line o i))
site_each P line o (Instr.New to a site) is = item_each P line o is
site_each P line o i is = tt

need_each : (P : ObjectType → Type 0) (line : ℕ) (o : Option ObjectType) (i : Instr) → There P o → Each P (objects (need_by line o i))
need_each P line o (Instr.New to a site) is = tt
need_each P line o i is = item_each P line o is

either_there : (P : ObjectType → Type 0) (line : ℕ) (o : Option ObjectType) (i : Instr) → Each P (objects (site_by line o i)) → Each P (objects (need_by line o i)) → There P o
either_there P line o (Instr.New to a s) site need = item_there P line o site
either_there P line o i site need = item_there P line o need

abbrev pub AllThere : (ObjectType → Type 0) → List Draft → Type 0
AllThere P ds = Each (λ (d : Draft). There P d.object) ds

pub sites_each : (P : ObjectType → Type 0) (ds : List Draft) → AllThere P ds → Each P (objects (sites_in ds))
sites_each P [] is = tt
sites_each P (d ∷ ds) is =
    subst (Each P) (sym (map-append (λ (i : Item). i.object) (site_by d.line d.object d.instr) (sites_in ds)))
    (each_append P (objects (site_by d.line d.object d.instr)) (objects (sites_in ds)) (site_each P d.line d.object d.instr is.0) (sites_each P ds is.1))

pub needs_each : (P : ObjectType → Type 0) (ds : List Draft) → AllThere P ds → Each P (objects (needs_in ds))
needs_each P [] is = tt
needs_each P (d ∷ ds) is =
    subst (Each P) (sym (map-append (λ (i : Item). i.object) (need_by d.line d.object d.instr) (needs_in ds)))
    (each_append P (objects (need_by d.line d.object d.instr)) (objects (needs_in ds)) (need_each P d.line d.object d.instr is.0) (needs_each P ds is.1))

pub drafts_there : (P : ObjectType → Type 0) (ds : List Draft) → Each P (objects (sites_in ds)) → Each P (objects (needs_in ds)) → AllThere P ds
drafts_there P [] sites needs = tt
drafts_there P (d ∷ ds) sites needs =
    let here = objects (site_by d.line d.object d.instr) in
    let more = objects (need_by d.line d.object d.instr) in
    let s = subst (Each P) (map-append (λ (i : Item). i.object) (site_by d.line d.object d.instr) (sites_in ds)) sites in
    let n = subst (Each P) (map-append (λ (i : Item). i.object) (need_by d.line d.object d.instr) (needs_in ds)) needs in (
      either_there P d.line d.object d.instr (each_first P here (objects (sites_in ds)) s) (each_first P more (objects (needs_in ds)) n),
      drafts_there P ds (each_second P here (objects (sites_in ds)) s) (each_second P more (objects (needs_in ds)) n),
    )

pub all_parts : (P : Draft → Type 0) (dss : List (List Draft)) → Each P (all_of dss) → Each (λ ds. Each P ds) dss
all_parts P [] is = tt
all_parts P (ds ∷ dss) is = (each_first P ds (all_of dss) is, all_parts P dss (each_second P ds (all_of dss) is))

pub parts_all : (P : Draft → Type 0) (dss : List (List Draft)) → Each (λ ds. Each P ds) dss → Each P (all_of dss)
parts_all P [] is = tt
parts_all P (ds ∷ dss) is = each_append P ds (all_of dss) is.0 (parts_all P dss is.1)

pub variables_get : (P : ObjectType → Type 0) (fs : List Function) (k : ℕ) (f : Function) → Each P (variables_in fs) → slice_get fs k ≡ Some f → Each P (objects_of f.variables)
variables_get P [] k f is found = cc
variables_get P (g ∷ fs) zero f is found = (let same : g ≡ f = cc in subst (λ (h : Function). Each P (objects_of h.variables)) same (each_first P (objects_of g.variables) (variables_in fs) is))
variables_get P (g ∷ fs) (suc k) f is found = variables_get P fs k f (each_second P (objects_of g.variables) (variables_in fs) is) found

pub variables_each : (P : ObjectType → Type 0) (fs : List Function) → Each (λ (f : Function). Each P (objects_of f.variables)) fs → Each P (variables_in fs)
variables_each P [] is = tt
variables_each P (f ∷ fs) is = each_append P (objects_of f.variables) (variables_in fs) is.0 (variables_each P fs is.1)

-- Words.
pub times_some : (ns : List ℕ) (x : ℕ) → Each (λ n. 0 < n) ns → 1 ≤ x → 1 ≤ times ns x
times_some [] x is h = h
times_some (n ∷ ns) x is h = (let rest = times_some ns x is.1 h in product n (times ns x) is.0 rest)
  where
    product : (a b : ℕ) → 0 < a → 1 ≤ b → 1 ≤ a * b
    product a b p q = grind arith
