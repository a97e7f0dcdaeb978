-- The code of a program, from what was made of its globals, variables, heap sites and instructions.
use Rattle.std.proofs.Common.{◌≡◌, ℕ, List, [], ◌∷◌, ◌++◌, map, refl, ap, sym, ◌∙◌, append-nil}
use Rattle.c_typed.specs.Typed.{Typed}
use Rattle.c_typed.specs.declared.types.ObjectType.{ObjectType}
use Rattle.c_typed.specs.declared.program.Struct.{Struct}
use Rattle.tac_ir.specs.declared.code.Fun.{Fun}
use Rattle.tac_ir.specs.declared.code.Global.{Global as CodeGlobal}
use Rattle.tac_ir.specs.declared.code.Lined.{Lined}
use Rattle.tac_ir.specs.declared.code.Shape.{Shape}
use Rattle.tac_ir.specs.declared.code.Site.{Site}
use Rattle.tac_lower.specs.declared.draft.Draft.{Draft}
use Rattle.tac_lower.specs.declared.types.Interner.{Interner}
use Rattle.tac_lower.specs.CodeOf.{all_of, sites_in, needs_in, variables_in, types_needed, global_of, site_of, finished, funs_of, code_by, code_with}
use Rattle.tac_lower.specs.Shapes.{shapes_of, shapes_from, shape_number}
use Rattle.tac_lower.specs.tools.Interning.{Interned, joined}
use Rattle.tac_lower.proofs.interned.DraftLaws.{joined_is}
use Rattle.tac_lower.proofs.interned.InternedLists.{both}

-- what was made stays when more types are entered
still : {A B : Type 0} (structs : List Struct) (ts us : List ObjectType) (make : (ObjectType → ℕ) → A) (make' : (ObjectType → ℕ) → B) (old mid new : Interner) (a : A) (b : B)
    → Interned structs ts make old mid a → Interned structs us make' mid new b → Interned structs (ts ++ us) make old new a
still structs ts us make make' old mid new a b first second = both structs ts us (ts ++ us) make make' make (λ a b. a) old mid new a b refl (λ shape. refl) first second

-- what is made after other types were entered
later : {A B : Type 0} (structs : List Struct) (ts us : List ObjectType) (make : (ObjectType → ℕ) → A) (make' : (ObjectType → ℕ) → B) (old mid new : Interner) (a : A) (b : B)
    → Interned structs ts make old mid a → Interned structs us make' mid new b → Interned structs (ts ++ us) make' old new b
later structs ts us make make' old mid new a b first second = both structs ts us (ts ++ us) make make' make' (λ a b. b) old mid new a b refl (λ shape. refl) first second

at_end : {A : Type 0} (structs : List Struct) (ts : List ObjectType) (make : (ObjectType → ℕ) → A) (old new : Interner) (a : A) (shapes : List Shape)
    → Interned structs ts make old new a → shapes ≡ new.shapes → a ≡ make (shape_number structs shapes)
at_end structs ts make old new a shapes made is = made.result [] ∙ ap (λ s. make (shape_number structs s)) (append-nil new.shapes ∙ sym is)

pub whole_code : (t : Typed) (drafts : List (List Draft)) (i0 i1 i2 i3 i4 : Interner) (shapes : List Shape) (globals : List CodeGlobal) (frames : List (List ℕ)) (sites : List Site) (lines : List (List Lined)) (funs : List Fun)
    → i0.shapes ≡ Shape.Int ∷ Shape.Ptr ∷ []
    → Interned t.structs (map (λ g. g.object) t.globals) (λ shape. map (global_of shape) t.globals) i0 i1 globals
    → Interned t.structs (variables_in t.functions) (λ shape. map (λ f. map (λ v. shape v.object) f.variables) t.functions) i1 i2 frames
    → Interned t.structs (map (λ i. i.object) (sites_in (all_of drafts))) (λ shape. map (site_of shape) (sites_in (all_of drafts))) i2 i3 sites
    → Interned t.structs (map (λ i. i.object) (needs_in (all_of drafts))) (λ shape. map (λ ds. map (finished shape) ds) drafts) i3 i4 lines
    → funs ≡ joined t.functions frames lines → shapes ≡ i4.shapes
    → record { shapes = shapes; globals = globals; sites = sites; main = t.main; funs = funs } ≡ code_with t drafts
whole_code t drafts i0 i1 i2 i3 i4 shapes globals frames sites lines funs begin g f s l join is =
    let gs = map (λ g. g.object) t.globals in
    let fs = variables_in t.functions in
    let ss = map (λ i. i.object) (sites_in (all_of drafts)) in
    let ls = map (λ i. i.object) (needs_in (all_of drafts)) in
    let G : (ObjectType → ℕ) → List CodeGlobal = λ shape. map (global_of shape) t.globals in
    let F : (ObjectType → ℕ) → List (List ℕ) = λ shape. map (λ f. map (λ v. shape v.object) f.variables) t.functions in
    let S : (ObjectType → ℕ) → List Site = λ shape. map (site_of shape) (sites_in (all_of drafts)) in
    let L : (ObjectType → ℕ) → List (List Lined) = λ shape. map (λ ds. map (finished shape) ds) drafts in
    let g2 = still t.structs gs fs G F i0 i1 i2 globals frames g f in
    let f2 = later t.structs gs fs G F i0 i1 i2 globals frames g f in
    let g3 = still t.structs (gs ++ fs) ss G S i0 i2 i3 globals sites g2 s in
    let f3 = still t.structs (gs ++ fs) ss F S i0 i2 i3 frames sites f2 s in
    let s3 = later t.structs (gs ++ fs) ss G S i0 i2 i3 globals sites g2 s in
    let g4 = still t.structs (gs ++ fs ++ ss) ls G L i0 i3 i4 globals lines g3 l in
    let f4 = still t.structs (gs ++ fs ++ ss) ls F L i0 i3 i4 frames lines f3 l in
    let s4 = still t.structs (gs ++ fs ++ ss) ls S L i0 i3 i4 sites lines s3 l in
    let l4 = later t.structs (gs ++ fs ++ ss) ls G L i0 i3 i4 globals lines g3 l in
    let all : shapes ≡ shapes_of t.structs (types_needed t (all_of drafts)) = is ∙ g4.shapes ∙ ap (λ begun. shapes_from t.structs begun (types_needed t (all_of drafts))) begin in
    let number : ObjectType → ℕ = shape_number t.structs shapes in
    let made_g = at_end t.structs (gs ++ fs ++ ss ++ ls) G i0 i4 globals shapes g4 is in
    let made_f = at_end t.structs (gs ++ fs ++ ss ++ ls) F i0 i4 frames shapes f4 is in
    let made_s = at_end t.structs (gs ++ fs ++ ss ++ ls) S i0 i4 sites shapes s4 is in
    let made_l = at_end t.structs (gs ++ fs ++ ss ++ ls) L i0 i4 lines shapes l4 is in
    let made_funs : funs ≡ funs_of number t.functions drafts = join ∙ (λ j. joined t.functions (made_f j) (made_l j)) ∙ joined_is number t.functions drafts in
    (λ j. record { shapes = shapes; globals = made_g j; sites = made_s j; main = t.main; funs = made_funs j })
    ∙ ap (λ all. code_by t drafts all (shape_number t.structs all)) all
