-- The fields of structs that break no rule are well-formed, and so are the bases of the results of functions.
use Rattle.std.proofs.Common.{◌≡◌, ℕ, zero, suc, ◌+◌, ◌*◌, ◌<◌, ◌≤◌, Bool, true, false, ◌&&◌, ◌||◌, not, List, [], ◌∷◌, ◌++◌, map, length, get_or, Option, Some, refl, ap, sym, ◌∙◌, subst, arith}
use Rattle.std.specs.Prelude.{nat_eq, nat_le, nat_lt}
use Rattle.std.proofs.lemmas.List.{append_assoc}
use Rattle.std.proofs.lemmas.Bool.Decides.{nat_tests}
use Rattle.c_ast.specs.declared.decl.Base.{Base}
use Rattle.c_ast.specs.declared.decl.Declarator.{Declarator}
use Rattle.c_ast.specs.declared.decl.ResultType.{ResultType}
use Rattle.c_ast.specs.declared.program.Field.{Field}
use Rattle.c_ast.specs.declared.program.StructDef.{StructDef}
use Rattle.c_ast.specs.declared.program.Function.{Function as SourceFunction}
use Rattle.c_ast.specs.declared.program.Item.{Item}
use Rattle.c_typed.specs.declared.fault.BigWhat.{BigWhat}
use Rattle.c_typed.specs.declared.types.BaseType.{BaseType}
use Rattle.c_typed.specs.declared.types.ObjectType.{ObjectType}
use Rattle.c_typed.specs.declared.program.Struct.{Struct}
use Rattle.c_typed.specs.Types.{place_of, base_type, declared_type, result_type, words_of, item_words, times}
use Rattle.c_typed.specs.Marks as marks
use Rattle.c_typed.specs.Marks.{Mark, field, History, field_words}
use Rattle.c_typed.specs.Whole.{Whole, Member, member, members, members_words, sizes_of, Signature, signature, struct_defs, is_main}
use Rattle.c_typed.specs.Faults as faults
use Rattle.c_typed.specs.Faults.{unless}
use Rattle.c_typed.specs.Parts.{Place, marked, behind, tokens, mark, separated, in_turn, with_faults, ◌<⊗◌, ◌⊗>◌}
use Rattle.c_typed.specs.Tags.{base}
use Rattle.c_typed.specs.Decls as decls
use Rattle.c_typed.specs.Decls.{has_items, type_limit, field_item, fields}
use Rattle.c_typed.specs.Programs as programs
use Rattle.c_typed.specs.Programs.{struct, result_base, function_text}
use Rattle.c_typed.specs.IsWell.{IsBase, IsObject, words_in}
use Rattle.c_typed.proofs.Quiet.{quiet_base}
use Rattle.c_typed.proofs.WellParts.{none_first, none_second}
use Rattle.c_typed.proofs.WellStmts.{unless_none}
use Rattle.c_typed.proofs.WellMarks.{IsShaped, Tagged, base_known, lengths_all, le_when}
use Rattle.c_typed.proofs.WellFunctions.{AllOf, all_append}
use Rattle.c_typed.proofs.WellItems.{HasTag}

-- Each tag is one of the text.
place_when : (x p : ℕ) (ps rest : List ℕ) (b : Bool) → (place_of x (ps ++ (x ∷ rest)) < length (ps ++ (x ∷ rest))) → elim b as (λ b. ℕ) [ true ↦ 0 | false ↦ suc (place_of x (ps ++ (x ∷ rest))) ] < suc (length (ps ++ (x ∷ rest)))
place_when x p ps rest true less = omega arith
place_when x p ps rest false less = omega (arith, less)

place_member : (pre : List ℕ) (x : ℕ) (rest : List ℕ) → place_of x (pre ++ (x ∷ rest)) < length (pre ++ (x ∷ rest))
place_member [] x rest = by (nat_eq x x) (grind (arith, nat_tests)) where
  by : (b : Bool) → b ≡ true → elim b as (λ b. ℕ) [ true ↦ 0 | false ↦ suc (place_of x rest) ] < suc (length rest)
  by true e = omega arith
  by false e = absurd (Rattle.c_typed.proofs.WellMarks.false_true e)
place_member (p ∷ pre) x rest = place_when x p pre rest (nat_eq x p) (place_member pre x rest)

pub all_tags : (w : Whole) (is : List Item) (pre : List ℕ) → w.tags ≡ pre ++ map (λ (d : StructDef). d.tag.name) (struct_defs is) → AllOf (HasTag w) is
all_tags w [] pre e = tt
all_tags w (Item.Struct d ∷ is) pre e = (
  subst (λ tags. place_of d.tag.name tags < length tags) (sym e) (place_member pre d.tag.name (map (λ (d : StructDef). d.tag.name) (struct_defs is))),
  all_tags w is (pre ++ (d.tag.name ∷ [])) (e ∙ sym (append_assoc pre (d.tag.name ∷ []) (map (λ (d : StructDef). d.tag.name) (struct_defs is)))),
)
all_tags w (Item.Decl d ∷ is) pre e = (tt, all_tags w is pre e)
all_tags w (Item.Function f ∷ is) pre e = (tt, all_tags w is pre e)
all_tags w (Item.Proto p ∷ is) pre e = (tt, all_tags w is pre e)

-- the types of the fields of some lines
abbrev pub line_objects : List ℕ → List Field → List ObjectType
line_objects tags [] = []
line_objects tags (f ∷ fs) = map (declared_type tags f.base) f.items ++ line_objects tags fs

map_members : (tags : List ℕ) (b : Base) (ds : List Declarator) (rest : List Member) → map (λ m. m.object) (map (member tags b) ds ++ rest) ≡ map (declared_type tags b) ds ++ map (λ m. m.object) rest
map_members tags b [] rest = refl
map_members tags b (d ∷ ds) rest = ap (λ ts. declared_type tags b d ∷ ts) (map_members tags b ds rest)

pub members_objects : (tags : List ℕ) (fs : List Field) → map (λ m. m.object) (members tags fs) ≡ line_objects tags fs
members_objects tags [] = refl
members_objects tags (f ∷ fs) = map_members tags f.base f.items (members tags fs) ∙ ap (λ ts. map (declared_type tags f.base) f.items ++ ts) (members_objects tags fs)

words_append : (sizes : List ℕ) (xs ys : List ObjectType) → words_in sizes (xs ++ ys) ≡ words_in sizes xs + words_in sizes ys
words_append sizes [] ys = omega arith
words_append sizes (x ∷ xs) ys = let rest = words_append sizes xs ys in omega (arith, rest)

module _ (w : Whole) (structs : List Struct) (shaped : IsShaped w structs) where
  -- what a list of fields adds to what stands before them
  record IsFielded (h : History) (ms : List Mark) (ts : List ObjectType) : Type 0 where
    known : AllOf (IsObject structs) ts
    limit : field_words w.sizes h ≤ type_limit → field_words w.sizes (marked ms h) ≤ type_limit
    total : field_words w.sizes (marked ms h) ≡ field_words w.sizes h + words_in w.sizes ts

  one_field : (b : Base) (d : Declarator) (here : Place) → IsBase structs (base_type w.tags b) → decls.field_faults w d (declared_type w.tags b d) here ≡ []
      → IsObject structs (declared_type w.tags b d) × (field_words w.sizes (field d.name.name (declared_type w.tags b d) ∷ here.before) ≤ type_limit)
  one_field b d here is e =
      let t = declared_type w.tags b d in
      let fs = decls.length_faults t d here in
      let gs = unless (not (marks.has_field d.name.name here.before)) (decls.name_at d here) faults.twice d.name.line in
      let hs = unless (nat_le (field_words w.sizes (field d.name.name t ∷ here.before)) type_limit) (decls.name_at d here) (faults.big BigWhat.Shape) d.name.line in
      let le : words_of w.sizes t + field_words w.sizes here.before ≤ type_limit =
      le_when w structs shaped (field_words w.sizes (field d.name.name t ∷ here.before)) type_limit (decls.name_at d here) (faults.big BigWhat.Shape) d.name.line (none_second (fs ++ gs) hs e) in (
        record {
          base = is;
          lengths = lengths_all t.lengths (unless_none (has_items t.lengths) here.at faults.mismatch d.line (none_first fs gs (none_first (fs ++ gs) hs e)));
          words = subst (λ sizes. words_of sizes t ≤ type_limit) (sym shaped.sizes) (omega (arith, le));
        },
        le,
      )

  some_fields : (b : Base) (ds : List Declarator) (here : Place) → IsBase structs (base_type w.tags b) → ((separated (map (field_item w b) ds)).judge here).faults ≡ []
      → IsFielded here.before (separated (map (field_item w b) ds)).marks (map (declared_type w.tags b) ds)
  some_fields b [] here is e = record { known = tt; limit = λ le. le; total = omega arith }
  some_fields b (d ∷ []) here is e =
      let own = decls.field_faults w d (declared_type w.tags b d) here in
      let one = one_field b d here is (none_first own [] (none_first (own ++ []) [] e)) in
      record { known = (one.0, tt); limit = λ le. one.1; total = omega arith }
  some_fields b (d ∷ f ∷ ds) here is e =
      let own = decls.field_faults w d (declared_type w.tags b d) here in
      let there = behind (field_item w b d <⊗ tokens 1) here in
      let rest_faults = ((separated (map (field_item w b) (f ∷ ds))).judge there).faults in
      let one = one_field b d here is (none_first own [] (none_first (own ++ []) [] (none_first (own ++ [] ++ []) rest_faults e))) in
      let rest = some_fields b (f ∷ ds) there is (none_second (own ++ [] ++ []) rest_faults e) in
      let sum = rest.total in
      record { known = (one.0, rest.known); limit = λ le. rest.limit one.1; total = omega (arith, sum) }

  tagged_fields : (x : ℕ) (h : History) (ds : List Declarator) (b : Base) → marks.has_tag x (marked (separated (map (field_item w b) ds)).marks h) ≡ marks.has_tag x h
  tagged_fields x h [] b = refl
  tagged_fields x h (d ∷ []) b = refl
  tagged_fields x h (d ∷ e ∷ ds) b = tagged_fields x (field d.name.name (declared_type w.tags b d) ∷ h) (e ∷ ds) b

  one_line : (f : Field) (here : Place) → Tagged w here.before → ((fields w f).judge here).faults ≡ [] → IsFielded here.before (fields w f).marks (map (declared_type w.tags f.base) f.items) × Tagged w (marked (fields w f).marks here.before)
  one_line f here tagged e =
      let bs = base w (decls.by_value f.items) f.base in
      let items = separated (map (field_item w f.base) f.items) in
      let there = behind bs here in
      let all = none_first ((bs.judge here).faults ++ (items.judge there).faults) [] e in
      let is = base_known w structs shaped (decls.by_value f.items) f.base here tagged (none_first (bs.judge here).faults (items.judge there).faults all) in
      let same : (fields w f).marks ≡ items.marks = ap (λ ms. ms ++ items.marks ++ []) (quiet_base w (decls.by_value f.items) f.base) ∙ Rattle.std.proofs.lemmas.List.append-nil items.marks in
      let known = some_fields f.base f.items there is (none_second (bs.judge here).faults (items.judge there).faults all) in
      let moved = subst (λ h. IsFielded h items.marks (map (declared_type w.tags f.base) f.items)) (ap (λ ms. marked ms here.before) (quiet_base w (decls.by_value f.items) f.base)) known in (
        subst (λ ms. IsFielded here.before ms (map (declared_type w.tags f.base) f.items)) (sym same) moved,
        subst (λ ms. Tagged w (marked ms here.before)) (sym same) (λ x e. tagged x (sym (tagged_fields x here.before f.items f.base) ∙ e)),
      )

  all_lines : (fs : List Field) (here : Place) → Tagged w here.before → ((in_turn (map (fields w) fs)).judge here).faults ≡ [] → IsFielded here.before (in_turn (map (fields w) fs)).marks (line_objects w.tags fs)
  all_lines [] here tagged e = record { known = tt; limit = λ le. le; total = omega arith }
  all_lines (f ∷ fs) here tagged e =
      let there = behind (fields w f) here in
      let rest_faults = ((in_turn (map (fields w) fs)).judge there).faults in
      let one = one_line f here tagged (none_first ((fields w f).judge here).faults rest_faults e) in
      let rest = all_lines fs there one.1 (none_second ((fields w f).judge here).faults rest_faults e) in
      let own = one.0.total in
      let sum = rest.total in
      let both = words_append w.sizes (map (declared_type w.tags f.base) f.items) (line_objects w.tags fs) in
      let eq = Rattle.c_typed.proofs.Balanced.marked_append (fields w f).marks (in_turn (map (fields w) fs)).marks here.before in
      record {
        known = all_append (IsObject structs) (map (declared_type w.tags f.base) f.items) (line_objects w.tags fs) one.0.known rest.known;
        limit = λ le. subst (λ h. field_words w.sizes h ≤ type_limit) (sym eq) (rest.limit (one.0.limit le));
        total = ap (field_words w.sizes) eq ∙ omega (arith, own, sum, both);
      }

  -- the fields of a struct, and their words together
  pub record IsStructured (d : StructDef) : Type 0 where
    pub known : AllOf (IsObject structs) (map (λ m. m.object) (members w.tags d.fields))
    pub limit : words_in w.sizes (map (λ m. m.object) (members w.tags d.fields)) ≤ type_limit

  pub struct_known : (d : StructDef) (here : Place) → Tagged w here.before → ((struct w d).judge here).faults ≡ [] → IsStructured d
  struct_known d here tagged e =
      let q = tokens 3 ⊗> mark (marks.opens marks.fields) in
      let there = behind q here in
      let fs = (in_turn (map (fields w) d.fields)).judge there in
      let own = unless (not (marks.has_tag d.tag.name here.before)) (here.at + 1) faults.twice d.tag.line in
      let inner = none_first fs.faults [] (none_first (fs.faults ++ []) [] (none_first (fs.faults ++ [] ++ []) [] (none_second own (fs.faults ++ [] ++ [] ++ []) e))) in
      let is = all_lines d.fields there tagged inner in
      let le = is.limit (omega arith) in
      let sum = is.total in
      let total : words_in w.sizes (line_objects w.tags d.fields) ≤ type_limit = omega (arith, le, sum) in
      record {
        known = subst (AllOf (IsObject structs)) (sym (members_objects w.tags d.fields)) is.known;
        limit = subst (λ ts. words_in w.sizes ts ≤ type_limit) (sym (members_objects w.tags d.fields)) total;
      }

  -- the base of a function's result, which is no struct
  abbrev pub HasResult : Signature → Type 0
  HasResult s = (o : ObjectType) → s.result ≡ Some o → IsBase structs o.base × (decls.is_scalar o ≡ true)

  result_base_known : (r : ResultType) (here : Place) (o : ObjectType) → Tagged w here.before → ((result_base w r).judge here).faults ≡ [] → result_type w.tags r ≡ Some o → IsBase structs o.base
  result_base_known (ResultType.Void line) here o tagged e same = absurd (Rattle.c_typed.proofs.WellParts.none_some same)
  result_base_known (ResultType.Type b stars) here o tagged e same =
      let bs = base w (nat_eq stars 0) b in
      subst (λ o. IsBase structs o.base) (Rattle.c_typed.proofs.WellParts.some_is same) (base_known w structs shaped (nat_eq stars 0) b here tagged (none_first (bs.judge here).faults [] e))

  result_scalar : (a b : Bool) (r : Option ObjectType) (o : ObjectType) → a ≡ programs.has_scalar_result r → a && b ≡ true → r ≡ Some o → decls.is_scalar o ≡ true
  result_scalar true b r o at kept same = sym (at ∙ ap programs.has_scalar_result same)
  result_scalar false b r o at kept same = absurd (Rattle.c_typed.proofs.WellMarks.false_true kept)

  pub result_known : (f : SourceFunction) (here : Place) → Tagged w here.before → ((function_text w f (result_type w.tags f.result)).judge here).faults ≡ [] → HasResult (signature w.tags f)
  result_known f here tagged e o same =
      let result = result_type w.tags f.result in
      let rb = result_base w f.result in
      let there = behind rb here in
      let x = f.name in
      let own = programs.function_faults w f x result there in
      let named = with_faults (programs.function_faults w f x result) (tokens 1 <⊗ mark (marks.function x.name result)) in
      let ps = programs.parameters w f.params in
      let two = rb ⊗> named in
      let three = two ⊗> tokens 1 in
      let four = three ⊗> ps in
      let five = four ⊗> tokens 1 in
      let six = five ⊗> programs.function_body w f.body in
      let none =
      none_first (two.judge here).faults [] (none_first (three.judge here).faults (ps.judge (behind three here)).faults
      (none_first (four.judge here).faults [] (none_first (five.judge here).faults ((programs.function_body w f.body).judge (behind five here)).faults (none_first (six.judge here).faults [] e)))) in
      let is_plain = not (is_main w x.name) || (programs.is_int f.result && programs.no_parameters f.params) in
      let first = unless (not (marks.has_global x.name there.before || marks.has_function x.name there.before || programs.is_builtin w x.name)) there.at faults.twice x.line in
      let second = unless (programs.has_scalar_result result && is_plain) there.at faults.mismatch x.line in
      let third = unless (nat_lt (marks.functions_in there.before) programs.function_limit) there.at (faults.big BigWhat.Functions) x.line in
      let kept = unless_none (programs.has_scalar_result result && is_plain) there.at faults.mismatch x.line
      (none_second first second (none_first (first ++ second) third (none_first own [] (none_second (rb.judge here).faults (own ++ []) none)))) in (
        result_base_known f.result here o tagged (none_first (rb.judge here).faults (named.judge there).faults none) same,
        result_scalar (programs.has_scalar_result result) is_plain result o refl kept same,
      )

-- Sizes within the limit, where the fields of each struct are.
mul_less : (k m n : ℕ) → m ≤ n → k * m ≤ k * n
mul_less zero m n le = omega arith
mul_less (suc k) m n le = let rest = mul_less k m n le in omega (arith, le, rest)

times_less : (ns : List ℕ) (m n : ℕ) → m ≤ n → times ns m ≤ times ns n
times_less [] m n le = le
times_less (k ∷ ns) m n le = mul_less k (times ns m) (times ns n) (times_less ns m n le)

abbrev NoMore : List ℕ → List ℕ → Type 0
NoMore xs ys = (k : ℕ) → get_or xs k 0 ≤ get_or ys k 0

item_less : (xs ys : List ℕ) → NoMore xs ys → (b : BaseType) (n : ℕ) → item_words xs b n ≤ item_words ys b n
item_less xs ys le BaseType.Int zero = omega arith
item_less xs ys le (BaseType.Struct k) zero = le k
item_less xs ys le BaseType.Unknown zero = omega arith
item_less xs ys le b (suc n) = omega arith

members_less : (xs ys : List ℕ) → NoMore xs ys → (ms : List Member) → members_words xs ms ≤ words_in ys (map (λ m. m.object) ms)
members_less xs ys le [] = omega arith
members_less xs ys le (m ∷ ms) =
    let own = times_less m.object.lengths (item_words xs m.object.base m.object.stars) (item_words ys m.object.base m.object.stars) (item_less xs ys le m.object.base m.object.stars) in
    let rest = members_less xs ys le ms in
    omega (arith, own, rest)

front_less : (xs : List ℕ) (n : ℕ) → NoMore xs (xs ++ (n ∷ []))
front_less [] n k = omega arith
front_less (x ∷ xs) n zero = omega arith
front_less (x ∷ xs) n (suc k) = front_less xs n k

sizes_more : (xs : List ℕ) (ss : List (List Member)) → NoMore xs (sizes_of xs ss)
sizes_more xs [] k = omega arith
sizes_more xs (ms ∷ ss) k =
    let one = front_less xs (members_words xs ms) k in
    let rest = sizes_more (xs ++ (members_words xs ms ∷ [])) ss k in
    omega (arith, one, rest)

pub sizes_limited : (xs : List ℕ) (ss : List (List Member)) → AllOf (λ n. n ≤ type_limit) xs → AllOf (λ (ms : List Member). words_in (sizes_of xs ss) (map (λ m. m.object) ms) ≤ type_limit) ss
    → AllOf (λ n. n ≤ type_limit) (sizes_of xs ss)
sizes_limited xs [] all each = all
sizes_limited xs (ms ∷ ss) all each =
    let full = sizes_of xs (ms ∷ ss) in
    let le = members_less xs full (sizes_more xs (ms ∷ ss)) ms in
    let limit = each.0 in
    sizes_limited (xs ++ (members_words xs ms ∷ [])) ss (all_append (λ n. n ≤ type_limit) xs (members_words xs ms ∷ []) all (omega (arith, le, limit), tt)) each.1
