-- A heap site of the code stands among all sites at its number, with the line and the type of the draft that makes it.
use Rattle.std.proofs.Common.{◌≡◌, ℕ, zero, suc, ◌+◌, List, [], ◌∷◌, ◌++◌, length, Option, Some, None, refl, ap, sym, ◌∙◌, subst, arith}
use Rattle.std.specs.Prelude.{slice_get}
use Rattle.std.specs.List.{range_with_len}
use Rattle.c_typed.specs.Typed.{Typed}
use Rattle.c_typed.specs.declared.types.ObjectType.{ObjectType}
use Rattle.c_typed.specs.Sites.{sites}
use Rattle.c_typed.specs.IsWell.{IsWell}
use Rattle.tac_ir.specs.declared.code.Instr.{Instr}
use Rattle.tac_lower.specs.declared.draft.Draft.{Draft}
use Rattle.tac_lower.specs.CodeOf.{Item, sites_in, all_of, sizes_of, first_numbers, drafts_of}
use Rattle.tac_lower.proofs.form.Lists.{get_front}
use Rattle.tac_lower.proofs.form.Each.{Each}
use Rattle.tac_lower.proofs.pieces.Sited.{new_site, site_numbers, HasItem}
use Rattle.tac_lower.proofs.pieces.SitedStmts.{program_sited}

abbrev item_of : Draft → ObjectType → Item
item_of d t = record { line = d.line; object = t }

abbrev AllItems : List Draft → Type 0
AllItems ds = Each (λ (d : Draft). HasItem d.instr d.object) ds

-- the number and the item of a site stand at one place among those of all
record SiteAt (ds : List Draft) (d : Draft) (s : ℕ) : Type 0 where
  object : ObjectType
  of : d.object ≡ Some object
  place : ℕ
  number : slice_get (site_numbers ds) place ≡ Some s
  there : slice_get (sites_in ds) place ≡ Some (item_of d object)

site_first : (d : Draft) (ds : List Draft) (s : ℕ) → HasItem d.instr d.object → new_site d.instr ≡ Some s → SiteAt (d ∷ ds) d s
site_first d ds s has is = by d.instr d.object has is
  where
    by : (i : Instr) (o : Option ObjectType) → HasItem i o → new_site i ≡ Some s
        → SiteAt (record { line = d.line; instr = i; object = o } ∷ ds) (record { line = d.line; instr = i; object = o }) s
    by (Instr.New to a site) None has is = absurd has
    by (Instr.New to a site) (Some t) has is = record { object = t; of = refl; place = 0; number = is; there = refl }
    by i o has is = cc

site_behind : (e : Draft) (ds : List Draft) (d : Draft) (s : ℕ) → HasItem e.instr e.object → SiteAt ds d s → SiteAt (e ∷ ds) d s
site_behind e ds d s has at = by e.instr e.object has
  where
    by : (i : Instr) (o : Option ObjectType) → HasItem i o → SiteAt (record { line = e.line; instr = i; object = o } ∷ ds) d s
    by (Instr.New to a site) None has = absurd has
    by (Instr.New to a site) (Some t) has = record { object = at.object; of = at.of; place = suc at.place; number = at.number; there = at.there }
    by i o has = record { object = at.object; of = at.of; place = at.place; number = at.number; there = at.there }

site_at : (ds : List Draft) (i : ℕ) (d : Draft) (s : ℕ) → AllItems ds → slice_get ds i ≡ Some d → new_site d.instr ≡ Some s → SiteAt ds d s
site_at [] i d s all there is = cc
site_at (e ∷ ds) zero d s all there is =
    let same : d ≡ e = cc in
    subst (λ (x : Draft). SiteAt (e ∷ ds) x s) (sym same) (site_first e ds s all.0 (ap (λ (x : Draft). new_site x.instr) (sym same) ∙ is))
site_at (e ∷ ds) (suc i) d s all there is = site_behind e ds d s all.0 (site_at ds i d s all.1 there is)

-- a member of one of some lists is one of all
get_second : {A : Type 0} (xs ys : List A) (i : ℕ) (x : A) → slice_get ys i ≡ Some x → (k : ℕ) × (slice_get (xs ++ ys) k ≡ Some x)
get_second [] ys i x is = (i, is)
get_second (y ∷ xs) ys i x is = (let rest = get_second xs ys i x is in (suc rest.0, rest.1))

pub get_all : {A : Type 0} (xss : List (List A)) (j i : ℕ) (xs : List A) (x : A) → slice_get xss j ≡ Some xs → slice_get xs i ≡ Some x → (k : ℕ) × (slice_get (all_of xss) k ≡ Some x)
get_all [] j i xs x at is = cc
get_all (ys ∷ xss) zero i xs x at is =
    let same : xs ≡ ys = cc in
    (i, get_front ys (all_of xss) i x (ap (λ zs. slice_get zs i) (sym same) ∙ is))
get_all (ys ∷ xss) (suc j) i xs x at is = (let rest = get_all xss j i xs x at is in get_second ys (all_of xss) rest.0 x rest.1)

range_at : (a n i s : ℕ) → slice_get (range_with_len a n) i ≡ Some s → s ≡ a + i
range_at a zero i s is = cc
range_at a (suc n) zero s is = (let same : a ≡ s = cc in omega arith)
range_at a (suc n) (suc i) s is = (let rest = range_at (a + 1) n i s is in omega arith)

-- a heap site of a typed program
pub record SiteOf (t : Typed) (d : Draft) (s : ℕ) : Type 0 where
  pub object : ObjectType
  pub of : d.object ≡ Some object
  pub there : slice_get (sites_in (all_of (drafts_of t))) s ≡ Some (record { line = d.line; object = object })

pub site_of_draft : (t : Typed) → IsWell t → (j i : ℕ) (ds : List Draft) (d : Draft) (s : ℕ) → slice_get (drafts_of t) j ≡ Some ds → slice_get ds i ≡ Some d → new_site d.instr ≡ Some s → SiteOf t d s
site_of_draft t well j i ds d s at there is =
    let all = all_of (drafts_of t) in
    let sited = program_sited (sizes_of t) t.main 0 (first_numbers t) t.functions in
    let k = get_all (drafts_of t) j i ds d at there in
    let found = site_at all k.0 d s sited.1 k.1 is in
    let counted = range_at 0 (length (sites t)) found.place s (ap (λ xs. slice_get xs found.place) (sym well.sites) ∙ ap (λ xs. slice_get xs found.place) (sym sited.0) ∙ found.number) in
    let same : s ≡ found.place = omega arith in
    record { object = found.object; of = found.of; there = ap (λ n. slice_get (sites_in all) n) same ∙ found.there }
