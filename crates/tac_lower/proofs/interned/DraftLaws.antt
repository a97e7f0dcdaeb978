-- Which types drafts need, one draft behind the others.
use Rattle.std.proofs.Common.{◌≡◌, ℕ, ◌+◌, ◌<◌, true, false, List, [], ◌∷◌, ◌++◌, map, take, get_or, Option, Some, None, length, reverse, refl, ap, sym, ◌∙◌, subst, append_assoc, append-nil}
use Rattle.std.proofs.lemmas.List.{take_more, map_push, map-append, reverse-append}
use Rattle.c_typed.specs.declared.types.ObjectType.{ObjectType}
use Rattle.c_typed.specs.declared.program.Function.{Function}
use Rattle.c_typed.specs.declared.program.Struct.{Struct}
use Rattle.tac_ir.specs.declared.code.Instr.{Instr}
use Rattle.tac_ir.specs.declared.code.Lined.{Lined}
use Rattle.tac_ir.specs.declared.code.Site.{Site}
use Rattle.tac_lower.specs.declared.draft.Draft.{Draft}
use Rattle.tac_lower.specs.declared.types.Interner.{Interner}
use Rattle.tac_lower.specs.CodeOf.{Item, all_of, item_at, site_by, need_by, sites_in, needs_in, variables_in, shaped, finished, fun_of, funs_of, site_of}
use Rattle.tac_lower.specs.tools.Interning.{IsKept, Interned, is_new, with_shape, joined}
use Rattle.tac_lower.proofs.interned.InternedLists.{after, both}

-- One draft.
pub site_of_new : (line : ℕ) (o : Option ObjectType) (i : Instr) → is_new i ≡ true → site_by line o i ≡ item_at line o
site_of_new line o (Instr.New to a site) is = refl
site_of_new line o i is = absurd cc

pub site_of_other : (line : ℕ) (o : Option ObjectType) (i : Instr) → is_new i ≡ false → site_by line o i ≡ []
site_of_other line o (Instr.New to a site) is = absurd cc
site_of_other line o i is = refl

pub need_of_new : (line : ℕ) (o : Option ObjectType) (i : Instr) → is_new i ≡ true → need_by line o i ≡ []
need_of_new line o (Instr.New to a site) is = refl
need_of_new line o i is = absurd cc

pub need_of_other : (line : ℕ) (o : Option ObjectType) (i : Instr) → is_new i ≡ false → need_by line o i ≡ item_at line o
need_of_other line o (Instr.New to a site) is = absurd cc
need_of_other line o i is = refl

pub need_of_none : (line : ℕ) (i : Instr) → need_by line None i ≡ []
need_of_none line (Instr.New to a site) = refl
need_of_none line i = refl

pub shaped_none : (shape : ObjectType → ℕ) (i : Instr) → shaped shape i None ≡ i
shaped_none shape (Instr.Field to a s k) = refl
shaped_none shape (Instr.Decay to a s) = refl
shaped_none shape i = refl

pub shaped_new : (shape : ObjectType → ℕ) (i : Instr) (o : Option ObjectType) → is_new i ≡ true → shaped shape i o ≡ i
shaped_new shape (Instr.New to a site) o is = refl
shaped_new shape i o is = absurd cc

pub shaped_some : (shape : ObjectType → ℕ) (i : Instr) (t : ObjectType) → shaped shape i (Some t) ≡ with_shape (shape t) i
shaped_some shape (Instr.Field to a s k) t = refl
shaped_some shape (Instr.Decay to a s) t = refl
shaped_some shape i t = refl

-- More drafts.
pub variables_in-append : (fs gs : List Function) → variables_in (fs ++ gs) ≡ variables_in fs ++ variables_in gs
variables_in-append [] gs = refl
variables_in-append (f ∷ fs) gs =
    ap (λ ts. map (λ v. v.object) f.variables ++ ts) (variables_in-append fs gs) ∙ sym (append_assoc (map (λ v. v.object) f.variables) (variables_in fs) (variables_in gs))

variables_in-push : (fs : List Function) (f : Function) → variables_in (fs ++ f ∷ []) ≡ variables_in fs ++ map (λ v. v.object) f.variables
variables_in-push fs f = variables_in-append fs (f ∷ []) ∙ ap (λ ts. variables_in fs ++ ts) (append-nil (map (λ v. v.object) f.variables))

pub sites_in-append : (ds es : List Draft) → sites_in (ds ++ es) ≡ sites_in ds ++ sites_in es
sites_in-append [] es = refl
sites_in-append (d ∷ ds) es =
    ap (λ s. site_by d.line d.object d.instr ++ s) (sites_in-append ds es) ∙ sym (append_assoc (site_by d.line d.object d.instr) (sites_in ds) (sites_in es))

pub needs_in-append : (ds es : List Draft) → needs_in (ds ++ es) ≡ needs_in ds ++ needs_in es
needs_in-append [] es = refl
needs_in-append (d ∷ ds) es =
    ap (λ s. need_by d.line d.object d.instr ++ s) (needs_in-append ds es) ∙ sym (append_assoc (need_by d.line d.object d.instr) (needs_in ds) (needs_in es))

pub all_of-append : (dss ess : List (List Draft)) → all_of (dss ++ ess) ≡ all_of dss ++ all_of ess
all_of-append [] ess = refl
all_of-append (ds ∷ dss) ess = ap (λ xs. ds ++ xs) (all_of-append dss ess) ∙ sym (append_assoc ds (all_of dss) (all_of ess))

all_of-push : (dss : List (List Draft)) (ds : List Draft) → all_of (dss ++ ds ∷ []) ≡ all_of dss ++ ds
all_of-push dss ds = all_of-append dss (ds ∷ []) ∙ ap (λ xs. all_of dss ++ xs) (append-nil ds)

sites_in-push : (ds : List Draft) (d : Draft) → sites_in (ds ++ d ∷ []) ≡ sites_in ds ++ site_by d.line d.object d.instr
sites_in-push ds d = sites_in-append ds (d ∷ []) ∙ ap (λ s. sites_in ds ++ s) (append-nil (site_by d.line d.object d.instr))

needs_in-push : (ds : List Draft) (d : Draft) → needs_in (ds ++ d ∷ []) ≡ needs_in ds ++ need_by d.line d.object d.instr
needs_in-push ds d = needs_in-append ds (d ∷ []) ∙ ap (λ s. needs_in ds ++ s) (append-nil (need_by d.line d.object d.instr))

abbrev pub objects : List Item → List ObjectType
objects items = map (λ i. i.object) items

longer : {A : Type 0} (xs : List A) (i : ℕ) (x : A) → i < length xs → x ≡ get_or xs i x → take (i + 1) xs ≡ take i xs ++ x ∷ []
longer xs i x lt is = take_more xs i x lt ∙ ap (λ y. take i xs ++ y ∷ []) (sym is)

-- Loops.
pub frames_more : (structs : List Struct) (fs : List Function) (i : ℕ) (f : Function) (old mid new : Interner) (made : List (List ℕ)) (frame : List ℕ)
    → i < length fs → f ≡ get_or fs i f
    → Interned structs (variables_in (take i fs)) (λ shape. map (λ f. map (λ v. shape v.object) f.variables) (take i fs)) old mid made
    → Interned structs (map (λ v. v.object) f.variables) (λ shape. map (λ v. shape v.object) f.variables) mid new frame
    → Interned structs (variables_in (take (i + 1) fs)) (λ shape. map (λ f. map (λ v. shape v.object) f.variables) (take (i + 1) fs)) old new (made ++ frame ∷ [])
frames_more structs fs i f old mid new made frame lt is first second =
    both structs (variables_in (take i fs)) (map (λ v. v.object) f.variables) (variables_in (take (i + 1) fs))
    (λ shape. map (λ f. map (λ v. shape v.object) f.variables) (take i fs)) (λ shape. map (λ v. shape v.object) f.variables)
    (λ shape. map (λ f. map (λ v. shape v.object) f.variables) (take (i + 1) fs)) (λ made frame. made ++ frame ∷ []) old mid new made frame
    (ap variables_in (longer fs i f lt is) ∙ variables_in-push (take i fs) f)
    (λ shape. ap (map (λ f. map (λ v. shape v.object) f.variables)) (longer fs i f lt is) ∙ map_push (λ f. map (λ v. shape v.object) f.variables) (take i fs) f)
    first second

-- sites so far, and the items that more have
sites_after : (structs : List Struct) (front : List Site) (xs ys zs : List Item) (old mid new : Interner) (made all : List Site) → zs ≡ xs ++ ys
    → Interned structs (objects xs) (λ shape. front ++ map (site_of shape) xs) old mid made
    → Interned structs (objects ys) (λ shape. made ++ map (site_of shape) ys) mid new all
    → Interned structs (objects zs) (λ shape. front ++ map (site_of shape) zs) old new all
sites_after structs front xs ys zs old mid new made all is first second =
    after structs (objects xs) (objects ys) (objects zs) (λ shape. front ++ map (site_of shape) xs) (λ made shape. made ++ map (site_of shape) ys)
    (λ shape. front ++ map (site_of shape) zs) old mid new made all
    (ap objects is ∙ map-append (λ i. i.object) xs ys)
    (λ shape. ap (λ s. front ++ map (site_of shape) s) is ∙ ap (λ s. front ++ s) (map-append (site_of shape) xs ys) ∙ sym (append_assoc front (map (site_of shape) xs) (map (site_of shape) ys)))
    first second

pub sites_more : (structs : List Struct) (front : List Site) (ds : List Draft) (i : ℕ) (d : Draft) (old mid new : Interner) (made all : List Site)
    → i < length ds → d ≡ get_or ds i d
    → Interned structs (objects (sites_in (take i ds))) (λ shape. front ++ map (site_of shape) (sites_in (take i ds))) old mid made
    → Interned structs (objects (site_by d.line d.object d.instr)) (λ shape. made ++ map (site_of shape) (site_by d.line d.object d.instr)) mid new all
    → Interned structs (objects (sites_in (take (i + 1) ds))) (λ shape. front ++ map (site_of shape) (sites_in (take (i + 1) ds))) old new all
sites_more structs front ds i d old mid new made all lt is first second =
    sites_after structs front (sites_in (take i ds)) (site_by d.line d.object d.instr) (sites_in (take (i + 1) ds)) old mid new made all
    (ap sites_in (longer ds i d lt is) ∙ sites_in-push (take i ds) d) first second

pub all_sites_more : (structs : List Struct) (dss : List (List Draft)) (i : ℕ) (ds : List Draft) (old mid new : Interner) (made all : List Site)
    → i < length dss → ds ≡ get_or dss i ds
    → Interned structs (objects (sites_in (all_of (take i dss)))) (λ shape. map (site_of shape) (sites_in (all_of (take i dss)))) old mid made
    → Interned structs (objects (sites_in ds)) (λ shape. made ++ map (site_of shape) (sites_in ds)) mid new all
    → Interned structs (objects (sites_in (all_of (take (i + 1) dss)))) (λ shape. map (site_of shape) (sites_in (all_of (take (i + 1) dss)))) old new all
all_sites_more structs dss i ds old mid new made all lt is first second =
    sites_after structs [] (sites_in (all_of (take i dss))) (sites_in ds) (sites_in (all_of (take (i + 1) dss))) old mid new made all
    (ap (λ xs. sites_in (all_of xs)) (longer dss i ds lt is) ∙ ap sites_in (all_of-push (take i dss) ds) ∙ sites_in-append (all_of (take i dss)) ds) first second

pub lines_more : (structs : List Struct) (ds : List Draft) (d : Draft) (old mid new : Interner) (lines : List Lined) (line : Lined)
    → Interned structs (objects (needs_in ds)) (λ shape. map (finished shape) ds) old mid lines
    → Interned structs (objects (need_by d.line d.object d.instr)) (λ shape. finished shape d) mid new line
    → Interned structs (objects (needs_in (ds ++ d ∷ []))) (λ shape. map (finished shape) (ds ++ d ∷ [])) old new (lines ++ line ∷ [])
lines_more structs ds d old mid new lines line first second =
    both structs (objects (needs_in ds)) (objects (need_by d.line d.object d.instr)) (objects (needs_in (ds ++ d ∷ []))) (λ shape. map (finished shape) ds) (λ shape. finished shape d)
    (λ shape. map (finished shape) (ds ++ d ∷ [])) (λ lines line. lines ++ line ∷ []) old mid new lines line
    (ap objects (needs_in-push ds d) ∙ map-append (λ i. i.object) (needs_in ds) (need_by d.line d.object d.instr))
    (λ shape. map_push (finished shape) ds d) first second

pub all_lines_more : (structs : List Struct) (dss : List (List Draft)) (ds : List Draft) (old mid new : Interner) (all : List (List Lined)) (lines : List Lined)
    → Interned structs (objects (needs_in (all_of dss))) (λ shape. map (λ ds. map (finished shape) ds) dss) old mid all
    → Interned structs (objects (needs_in ds)) (λ shape. map (finished shape) ds) mid new lines
    → Interned structs (objects (needs_in (all_of (dss ++ ds ∷ [])))) (λ shape. map (λ ds. map (finished shape) ds) (dss ++ ds ∷ [])) old new (all ++ lines ∷ [])
all_lines_more structs dss ds old mid new all lines first second =
    both structs (objects (needs_in (all_of dss))) (objects (needs_in ds)) (objects (needs_in (all_of (dss ++ ds ∷ [])))) (λ shape. map (λ ds. map (finished shape) ds) dss) (λ shape. map (finished shape) ds)
    (λ shape. map (λ ds. map (finished shape) ds) (dss ++ ds ∷ [])) (λ all lines. all ++ lines ∷ []) old mid new all lines
    (ap (λ xs. objects (needs_in xs)) (all_of-push dss ds) ∙ ap objects (needs_in-append (all_of dss) ds) ∙ map-append (λ i. i.object) (needs_in (all_of dss)) (needs_in ds))
    (λ shape. map_push (λ ds. map (finished shape) ds) dss ds) first second

-- functions from their parts
pub joined_is : (shape : ObjectType → ℕ) (fs : List Function) (dss : List (List Draft))
    → joined fs (map (λ f. map (λ v. shape v.object) f.variables) fs) (map (λ ds. map (finished shape) ds) dss) ≡ funs_of shape fs dss
joined_is shape [] dss = refl
joined_is shape (f ∷ fs) [] = refl
joined_is shape (f ∷ fs) (ds ∷ dss) = ap (λ funs. fun_of shape f ds ∷ funs) (joined_is shape fs dss)

-- Items that are taken from the end of a reversed list.
pub popped : {A : Type 0} (all seen left rest : List A) (x : A) → all ≡ seen ++ reverse left → left ≡ rest ++ x ∷ [] → all ≡ (seen ++ x ∷ []) ++ reverse rest
popped all seen left rest x is last =
    is ∙ ap (λ xs. seen ++ reverse xs) last ∙ ap (λ xs. seen ++ xs) (reverse-append rest (x ∷ [])) ∙ sym (append_assoc seen (x ∷ []) (reverse rest))

pub all_popped : {A : Type 0} (all seen left : List A) → all ≡ seen ++ reverse left → left ≡ [] → seen ≡ all
all_popped all seen left is none = sym (is ∙ ap (λ xs. seen ++ reverse xs) none ∙ append-nil seen)

-- The site and the line of one draft.
no_site_for : (structs : List Struct) (sites : List Site) (items : List Item) (old : Interner) → items ≡ [] → IsKept structs old.known.items old.shapes
    → Interned structs (objects items) (λ shape. sites ++ map (site_of shape) items) old old sites
no_site_for structs sites items old none kept =
    subst (λ items. Interned structs (objects items) (λ shape. sites ++ map (site_of shape) items) old old sites) (sym none)
    (record { shapes = refl; result = λ more. sym (append-nil sites); kept = kept })

pub no_site : (structs : List Struct) (sites : List Site) (line : ℕ) (o : Option ObjectType) (i : Instr) (old : Interner) → is_new i ≡ false → IsKept structs old.known.items old.shapes
    → Interned structs (objects (site_by line o i)) (λ shape. sites ++ map (site_of shape) (site_by line o i)) old old sites
no_site structs sites line o i old is kept = no_site_for structs sites (site_by line o i) old (site_of_other line o i is) kept

pub no_type : (structs : List Struct) (sites : List Site) (line : ℕ) (i : Instr) (old : Interner) → is_new i ≡ true → IsKept structs old.known.items old.shapes
    → Interned structs (objects (site_by line None i)) (λ shape. sites ++ map (site_of shape) (site_by line None i)) old old sites
no_type structs sites line i old is kept = no_site_for structs sites (site_by line None i) old (site_of_new line None i is) kept

pub one_site : (structs : List Struct) (sites : List Site) (line : ℕ) (t : ObjectType) (i : Instr) (old new : Interner) (n : ℕ) → is_new i ≡ true
    → Interned structs (t ∷ []) (λ shape. shape t) old new n
    → Interned structs (objects (site_by line (Some t) i)) (λ shape. sites ++ map (site_of shape) (site_by line (Some t) i)) old new (sites ++ record { shape = n; line = line } ∷ [])
one_site structs sites line t i old new n is interned =
    subst (λ items. Interned structs (objects items) (λ shape. sites ++ map (site_of shape) items) old new (sites ++ record { shape = n; line = line } ∷ [])) (sym (site_of_new line (Some t) i is))
    (record { shapes = interned.shapes; result = λ more. ap (λ n. sites ++ record { shape = n; line = line } ∷ []) (interned.result more); kept = interned.kept })

-- a draft whose line has no shape to be numbered
plain_line : (structs : List Struct) (line : ℕ) (i : Instr) (o : Option ObjectType) (old : Interner) → need_by line o i ≡ [] → ((shape : ObjectType → ℕ) → shaped shape i o ≡ i)
    → IsKept structs old.known.items old.shapes
    → Interned structs (objects (need_by line o i)) (λ shape. finished shape (record { line = line; instr = i; object = o })) old old (record { line = line; instr = i })
plain_line structs line i o old none same kept =
    subst (λ items. Interned structs (objects items) (λ shape. finished shape (record { line = line; instr = i; object = o })) old old (record { line = line; instr = i })) (sym none)
    (record { shapes = refl; result = λ more. ap (λ i. record { line = line; instr = i }) (sym (same _)); kept = kept })

pub line_of_none : (structs : List Struct) (line : ℕ) (i : Instr) (old : Interner) → IsKept structs old.known.items old.shapes
    → Interned structs (objects (need_by line None i)) (λ shape. finished shape (record { line = line; instr = i; object = None })) old old (record { line = line; instr = i })
line_of_none structs line i old kept = plain_line structs line i None old (need_of_none line i) (λ shape. shaped_none shape i) kept

pub line_of_new : (structs : List Struct) (line : ℕ) (i : Instr) (o : Option ObjectType) (old : Interner) → is_new i ≡ true → IsKept structs old.known.items old.shapes
    → Interned structs (objects (need_by line o i)) (λ shape. finished shape (record { line = line; instr = i; object = o })) old old (record { line = line; instr = i })
line_of_new structs line i o old is kept = plain_line structs line i o old (need_of_new line o i is) (λ shape. shaped_new shape i o is) kept

pub line_of_some : (structs : List Struct) (line : ℕ) (i : Instr) (t : ObjectType) (old new : Interner) (n : ℕ) → is_new i ≡ false
    → Interned structs (t ∷ []) (λ shape. shape t) old new n
    → Interned structs (objects (need_by line (Some t) i)) (λ shape. finished shape (record { line = line; instr = i; object = Some t })) old new (record { line = line; instr = with_shape n i })
line_of_some structs line i t old new n is interned =
    subst (λ items. Interned structs (objects items) (λ shape. finished shape (record { line = line; instr = i; object = Some t })) old new (record { line = line; instr = with_shape n i })) (sym (need_of_other line (Some t) i is))
    (record {
      shapes = interned.shapes;
      result = λ more. ap (λ n. record { line = line; instr = with_shape n i }) (interned.result more) ∙ ap (λ i. record { line = line; instr = i }) (sym (shaped_some _ i t));
      kept = interned.kept;
    })
