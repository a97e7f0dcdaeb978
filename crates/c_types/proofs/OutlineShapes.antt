-- The structs of an outline are those of the text, their words up to one past the limit of a type.
use Rattle.std.proofs.Common.{◌≡◌, ℕ, zero, suc, ◌+◌, List, [], ◌∷◌, ◌++◌, map, length, nat_abs, get_or, Option, Some, None, refl, ap, sym, ◌∙◌, subst, append_assoc, arith}
use Rattle.std.specs.Prelude.{slice_get}
use Rattle.std.proofs.lemmas.List.{append-nil, map-append}
use Rattle.c_ast.specs.declared.decl.Base.{Base}
use Rattle.c_ast.specs.declared.decl.Declarator.{Declarator}
use Rattle.c_ast.specs.declared.program.Field.{Field}
use Rattle.c_ast.specs.declared.program.StructDef.{StructDef}
use Rattle.c_ast.specs.declared.program.Item.{Item}
use Rattle.c_types.specs.declared.outline.Member.{Member as OutlineMember}
use Rattle.c_types.specs.declared.outline.Shape.{Shape}
use Rattle.c_types.specs.declared.outline.Outline.{Outline}
use Rattle.c_typed.specs.Types as types
use Rattle.c_typed.specs.Whole as whole
use Rattle.c_typed.specs.Whole.{Member, struct_defs, members, members_words, sizes_of}
use Rattle.c_types.specs.tools.Outlines.{capped, shape_words}
use Rattle.c_types.specs.tools.OutlineWalk as walk
use Rattle.c_types.specs.tools.OutlineWalk.{words_from, shape_of, with_shapes, shaped}
use Rattle.c_types.proofs.Outlined.{IsTagged, member_of, members_of, base_by}
use Rattle.c_types.proofs.OutlineWords.{words_by, capped_sum}

-- Each has the members of a struct, and its words.
abbrev pub AreShapes : List Shape → List (List Member) → List ℕ → Type 0
AreShapes [] [] [] = Unit {0}
AreShapes (s ∷ ss) (ms ∷ mss) (n ∷ ns) = (map member_of s.members ≡ ms) × (s.words ≡ capped n) × AreShapes ss mss ns
AreShapes _ _ _ = ⊥

one_shape : (s : Shape) (ms : List Member) (n : ℕ) (ss : List Shape) (mss : List (List Member)) (ns : List ℕ)
    → AreShapes ss mss ns → map member_of s.members ≡ ms → s.words ≡ capped n → AreShapes (ss ++ s ∷ []) (mss ++ ms ∷ []) (ns ++ n ∷ [])
one_shape s ms n [] [] [] all members words = (members, words, tt)
one_shape s ms n (t ∷ ss) (l ∷ mss) (m ∷ ns) all members words = (all.0, all.1, one_shape s ms n ss mss ns all.2 members words)
one_shape s ms n [] [] (m ∷ ns) all members words = absurd all
one_shape s ms n [] (l ∷ mss) ns all members words = absurd all
one_shape s ms n (t ∷ ss) [] ns all members words = absurd all
one_shape s ms n (t ∷ ss) (l ∷ mss) [] all members words = absurd all

abbrev words_at : Option Shape → ℕ
words_at o = elim o [ None ↦ 0 | Some s ↦ s.words ]

pub words_there : (ss : List Shape) (mss : List (List Member)) (ns : List ℕ) → AreShapes ss mss ns → (k : ℕ) → words_at (slice_get ss k) ≡ capped (get_or ns k 0)
words_there [] [] [] all k = refl
words_there (s ∷ ss) (ms ∷ mss) (n ∷ ns) all zero = all.1
words_there (s ∷ ss) (ms ∷ mss) (n ∷ ns) all (suc k) = words_there ss mss ns all.2 k
words_there [] [] (n ∷ ns) all k = absurd all
words_there [] (ms ∷ mss) ns all k = absurd all
words_there (s ∷ ss) [] ns all k = absurd all
words_there (s ∷ ss) (ms ∷ mss) [] all k = absurd all

pub members_there : (ss : List Shape) (mss : List (List Member)) (ns : List ℕ) → AreShapes ss mss ns → (k : ℕ) → members_of (slice_get ss k) ≡ get_or mss k []
members_there [] [] [] all k = refl
members_there (s ∷ ss) (ms ∷ mss) (n ∷ ns) all zero = all.0
members_there (s ∷ ss) (ms ∷ mss) (n ∷ ns) all (suc k) = members_there ss mss ns all.2 k
members_there [] [] (n ∷ ns) all k = absurd all
members_there [] (ms ∷ mss) ns all k = absurd all
members_there (s ∷ ss) [] ns all k = absurd all
members_there (s ∷ ss) (ms ∷ mss) [] all k = absurd all

pub shapes_count : (ss : List Shape) (mss : List (List Member)) (ns : List ℕ) → AreShapes ss mss ns → length ss ≡ length mss
shapes_count [] [] [] all = refl
shapes_count (s ∷ ss) (ms ∷ mss) (n ∷ ns) all = ap suc (shapes_count ss mss ns all.2)
shapes_count [] [] (n ∷ ns) all = absurd all
shapes_count [] (ms ∷ mss) ns all = absurd all
shapes_count (s ∷ ss) [] ns all = absurd all
shapes_count (s ∷ ss) (ms ∷ mss) [] all = absurd all

-- The members of a struct.
line_members : (tags : List ℕ) (o : Outline) → IsTagged tags o → (b : Base) (ds : List Declarator) → map member_of (map (walk.member o b) ds) ≡ map (whole.member tags b) ds
line_members tags o is b [] = refl
line_members tags o is b (d ∷ ds) =
    ap (λ t. record { name = d.name.name; object = record { base = t; stars = d.stars; lengths = map nat_abs d.lengths } } ∷ map member_of (map (walk.member o b) ds)) (base_by tags o is b)
    ∙ ap (λ ms. whole.member tags b d ∷ ms) (line_members tags o is b ds)

members_same : (tags : List ℕ) (o : Outline) → IsTagged tags o → (fs : List Field) → map member_of (walk.members_of o fs) ≡ members tags fs
members_same tags o is [] = refl
members_same tags o is (f ∷ fs) =
    map-append member_of (map (walk.member o f.base) f.items) (walk.members_of o fs)
    ∙ ap (λ ms. ms ++ map member_of (walk.members_of o fs)) (line_members tags o is f.base f.items)
    ∙ ap (λ ms. map (whole.member tags f.base) f.items ++ ms) (members_same tags o is fs)

-- Their words.
words_same : (sizes : List ℕ) (o : Outline) → ((k : ℕ) → shape_words o k ≡ capped (get_or sizes k 0)) → (m : ℕ) (ms : List OutlineMember)
    → words_from o (capped m) ms ≡ capped (m + members_words sizes (map member_of ms))
words_same sizes o is m [] = let e : m ≡ m + 0 = omega arith in ap capped e
words_same sizes o is m (x ∷ ms) =
    let own = types.words_of sizes x.object in
    let rest = members_words sizes (map member_of ms) in
    let e : (own + m) + rest ≡ m + (own + rest) = omega arith in
    ap (λ n. words_from o (capped (n + capped m)) ms) (words_by sizes o is x.object) ∙ ap (λ n. words_from o n ms) (capped_sum own m)
    ∙ words_same sizes o is (own + m) ms ∙ ap capped e

-- The structs in turn.
abbrev all_shaped : List StructDef → Outline → Outline
all_shaped [] o = o
all_shaped (d ∷ ds) o = all_shaped ds (with_shapes (o.shapes ++ shape_of o d ∷ []) o)

defs_shaped : (is : List Item) (o : Outline) → shaped is o ≡ all_shaped (struct_defs is) o
defs_shaped [] o = refl
defs_shaped (Item.Struct d ∷ is) o = defs_shaped is (with_shapes (o.shapes ++ shape_of o d ∷ []) o)
defs_shaped (Item.Decl d ∷ is) o = defs_shaped is o
defs_shaped (Item.Function f ∷ is) o = defs_shaped is o
defs_shaped (Item.Proto p ∷ is) o = defs_shaped is o

-- their shapes alone change
shapes_alone : (ds : List StructDef) (o : Outline) → all_shaped ds o ≡ with_shapes (all_shaped ds o).shapes o
shapes_alone [] o = refl
shapes_alone (d ∷ ds) o = shapes_alone ds (with_shapes (o.shapes ++ shape_of o d ∷ []) o)

pub tagged_with : (tags : List ℕ) (o : Outline) (ss : List Shape) → IsTagged tags o → IsTagged tags (with_shapes ss o)
tagged_with tags o ss is = record { numbers = is.numbers; count = is.count }

abbrev struct_members : List ℕ → List StructDef → List (List Member)
struct_members tags ds = map (λ d. members tags d.fields) ds

defs_are : (tags : List ℕ) (ds : List StructDef) (o : Outline) (mss : List (List Member)) (sizes : List ℕ) → IsTagged tags o → AreShapes o.shapes mss sizes
    → AreShapes (all_shaped ds o).shapes (mss ++ struct_members tags ds) (sizes_of sizes (struct_members tags ds))
defs_are tags [] o mss sizes is all = subst (λ mss. AreShapes o.shapes mss sizes) (sym (append-nil mss)) all
defs_are tags (d ∷ ds) o mss sizes is all =
    let ms = members tags d.fields in
    let n = members_words sizes ms in
    let next = with_shapes (o.shapes ++ shape_of o d ∷ []) o in
    let same = members_same tags o is d.fields in
    let words : words_from o 0 (walk.members_of o d.fields) ≡ capped n =
    words_same sizes o (words_there o.shapes mss sizes all) 0 (walk.members_of o d.fields) ∙ ap (λ ms. capped (0 + members_words sizes ms)) same ∙ ap capped (from_zero n) in
    subst (λ mss. AreShapes (all_shaped ds next).shapes mss (sizes_of (sizes ++ n ∷ []) (struct_members tags ds))) (append_assoc mss (ms ∷ []) (struct_members tags ds))
    (defs_are tags ds next (mss ++ ms ∷ []) (sizes ++ n ∷ []) (tagged_with tags o next.shapes is) (one_shape (shape_of o d) ms n o.shapes mss sizes all same words)) where
      from_zero : (n : ℕ) → 0 + n ≡ n
      from_zero n = omega arith

pub shapes_are : (tags : List ℕ) (is : List Item) (o : Outline) → IsTagged tags o → o.shapes ≡ []
    → AreShapes (shaped is o).shapes (struct_members tags (struct_defs is)) (sizes_of [] (struct_members tags (struct_defs is)))
shapes_are tags is o tagged none =
    subst (λ p. AreShapes p.shapes (struct_members tags (struct_defs is)) (sizes_of [] (struct_members tags (struct_defs is)))) (sym (defs_shaped is o))
    (defs_are tags (struct_defs is) o [] [] tagged (subst (λ ss. AreShapes ss [] []) (sym none) tt))

pub shaped_alone : (is : List Item) (o : Outline) → shaped is o ≡ with_shapes (shaped is o).shapes o
shaped_alone is o = defs_shaped is o ∙ shapes_alone (struct_defs is) o ∙ ap (λ p. with_shapes p.shapes o) (sym (defs_shaped is o))
