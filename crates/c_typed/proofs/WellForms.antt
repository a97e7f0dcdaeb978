-- Fields, names and calls, and so every expression.
use Rattle.std.proofs.Common.{◌≡◌, ◌≢◌, ℕ, zero, suc, ◌+◌, ◌<◌, Bool, true, false, ◌&&◌, List, [], ◌∷◌, map, length, get_or, Option, Some, None, refl, ap, sym, ◌∙◌, subst, arith}
use Rattle.std.specs.Prelude.{slice_get, nat_eq, option_map}
use Rattle.std.proofs.lemmas.Bool.Decides.{nat_tests}
use Rattle.std.proofs.lemmas.Option.{slice_get-map}
use Rattle.dfi_base.specs.declared.numbers.Line.{Line}
use Rattle.c_ast.specs.declared.ident.Ident.{Ident}
use Rattle.c_ast.specs.declared.decl.TypeName.{TypeName}
use Rattle.c_ast.specs.declared.expr.BinaryOp.{BinaryOp}
use Rattle.c_ast.specs.declared.expr.Expr.{ind-Expr, Expr as SourceExpr}
use Rattle.c_ast.specs.declared.expr.Form.{Form as SourceForm, map-Form}
use Rattle.c_ast.specs.declared.expr.Form.TheOpen.{Form-F as Source}
use Rattle.c_typed.specs.declared.types.BaseType.{BaseType}
use Rattle.c_typed.specs.declared.types.ObjectType.{ObjectType}
use Rattle.c_typed.specs.declared.types.ExprType.{ExprType}
use Rattle.c_typed.specs.declared.expr.Expr.{Expr}
use Rattle.c_typed.specs.declared.expr.Form.TheOpen.{Form-F}
use Rattle.c_typed.specs.Types.{place_of, scalar_type, scalar_by, fits, accepts, accepts_some}
use Rattle.c_typed.specs.Marks.{History, Variable, variable}
use Rattle.c_typed.specs.Whole.{Whole, Signature, Builtin, Meaning, meaning, is_main, builtin_of, spelling}
use Rattle.c_typed.specs.Faults.{Fault, unknown, mismatch}
use Rattle.c_typed.specs.Parts.{Place, Part, tokens, given, obeys, refused, ◌⊗◌, ◌<⊗◌, ◌⊗>◌}
use Rattle.c_typed.specs.Tags.{type_name}
use Rattle.c_typed.specs.Exprs
use Rattle.c_typed.specs.Exprs.{no_value, Layer, made, Size, Reading, value, many_of, one_of, struct_by, struct_of, struct_at, struct_behind, with_struct, known_struct, field_by, field_of, fielded, in_struct, found_by, name, name_as, all_fit, called_type, applied, asked, put_by, put, freed_by, freed, allocated, arguments, called, allocation_by, allocation, call_as, call, is_malloc, cast_by, counted_by, product, form_step, expr}
use Rattle.c_typed.specs.Decls.{is_scalar}
use Rattle.c_typed.specs.Programs.{main_in}
use Rattle.c_typed.specs.tools.Scopes.{scopes_of}
use Rattle.c_typed.specs.IsWell.{IsBase, IsObject, IsTyping, Context, IsField, IsLayer, IsFreed, IsCount, operands_of, operand_there, IsExpr, AreExprs, none, each}
use Rattle.c_typed.proofs.Levels.{mapped_form, read_form, form_roll, expr_reads}
use Rattle.c_typed.proofs.ScopeLaws.{variable_found}
use Rattle.c_typed.proofs.WellParts.{none_some, some_is, IsBound, found_bound, Pure, pure_tokens, pure_given, pure_joined, pure_map, pure_obeys, pure_refused}
use Rattle.c_typed.proofs.WellTypes.{IsLinked, scalar_typing, place_is, no_unknown, made_known, one, place_object, pointer_object, field_there, IsUsedAs, IsUsed, used_at, never_unknown}
use Rattle.c_typed.proofs.WellExprs.{IfPure, IsUsedThere, all_used, IsNamed, IsSize, IsSound, plainly, sound_value, sound_binary, sound_unary, sound_index, sound_type_name}

-- The function of a name.
found_name : (x m : ℕ) (ms : List ℕ) (y : ℕ) (t : Bool) → nat_eq x m ≡ t → (slice_get ms (place_of x ms) ≡ Some y → y ≡ x)
    → slice_get (m ∷ ms) (elim t as (λ t. ℕ) [ true ↦ 0 | false ↦ suc (place_of x ms) ]) ≡ Some y → y ≡ x
found_name x m ms y true at rest e = sym (some_is e) ∙ grind (arith, nat_tests, at)
found_name x m ms y false at rest e = rest e

pub place_found : (x : ℕ) (ms : List ℕ) (y : ℕ) → slice_get ms (place_of x ms) ≡ Some y → y ≡ x
place_found x [] y e = absurd (none_some e)
place_found x (m ∷ ms) y e = found_name x m ms y (nat_eq x m) refl (place_found x ms y) e

found_main : (w : Whole) (s : Signature) (ss : List Signature) (r : Signature) (t : Bool) → is_main w s.name ≡ t → (slice_get ss (main_in w ss) ≡ Some r → is_main w r.name ≡ true)
    → slice_get (s ∷ ss) (elim t as (λ t. ℕ) [ true ↦ 0 | false ↦ suc (main_in w ss) ]) ≡ Some r → is_main w r.name ≡ true
found_main w s ss r true at rest e = ap (λ s. is_main w s.name) (sym (some_is e)) ∙ at
found_main w s ss r false at rest e = rest e

pub main_found : (w : Whole) (ss : List Signature) (r : Signature) → slice_get ss (main_in w ss) ≡ Some r → is_main w r.name ≡ true
main_found w [] r e = absurd (none_some e)
main_found w (s ∷ ss) r e = found_main w s ss r (is_main w s.name) refl (main_found w ss r) e

abbrev function_number : Meaning → ℕ
function_number (Meaning.function k s) = k
function_number _ = 0

abbrev function_signature : Signature → Meaning → Signature
function_signature d (Meaning.function k s) = s
function_signature d _ = d

abbrev IsFunctionMeant : Meaning → Type 0
IsFunctionMeant (Meaning.function k s) = Unit {0}
IsFunctionMeant _ = ⊥

-- what a function's name means
pub record IsFunctionOf (w : Whole) (x k : ℕ) (s : Signature) : Type 0 where
  pub there : slice_get w.functions k ≡ Some s
  pub named : s.name ≡ x

meant : (w : Whole) (x k : ℕ) (s : Signature) (o : Option Variable) (b : Option Builtin) (r : Option Signature) → slice_get w.functions (place_of x (map (λ s. s.name) w.functions)) ≡ r
    → elim o as (λ o. Meaning) [
      | Some v ↦ Meaning.object v
      | None ↦ elim b as (λ b. Meaning) [ Some b ↦ Meaning.builtin b | None ↦ elim r as (λ r. Meaning) [ None ↦ Meaning.nothing | Some s ↦ Meaning.function (place_of x (map (λ s. s.name) w.functions)) s ] ]
    ] ≡ Meaning.function k s → IsFunctionOf w x k s
meant w x k s (Some v) b r at e = absurd (subst IsFunctionMeant (sym e) tt)
meant w x k s None (Some b) r at e = absurd (subst IsFunctionMeant (sym e) tt)
meant w x k s None None None at e = absurd (subst IsFunctionMeant (sym e) tt)
meant w x k s None None (Some r) at e =
    let number = ap function_number e in
    let same = ap (function_signature r) e in
    record {
      there = subst (λ n. slice_get w.functions n ≡ Some s) number (at ∙ ap (λ s. Some s) same);
      named = ap (λ s. s.name) (sym same) ∙ place_found x (map (λ s. s.name) w.functions) r.name (slice_get-map (λ s. s.name) w.functions (place_of x (map (λ s. s.name) w.functions)) ∙ ap (option_map (λ s. s.name)) at);
    }

pub function_meant : (w : Whole) (h : History) (x k : ℕ) (s : Signature) → meaning w h x ≡ Meaning.function k s → IsFunctionOf w x k s
function_meant w h x k s e = meant w x k s (variable x 0 h) (builtin_of (spelling w x)) (slice_get w.functions (place_of x (map (λ s. s.name) w.functions))) refl e

abbrev IsFalse' : Bool → Type 0
IsFalse' true = ⊥
IsFalse' false = Unit {0}

module _ (w : Whole) (c : Context) (linked : IsLinked w c) where
  -- Fields.
  record IsHolder (form : Expr → ℕ → Layer) (x : Expr × ℕ) : Type 0 where
    object : ObjectType
    struct : struct_of object ≡ Some x.1
    known : IsObject c.structs object
    layer : (n : ℕ) (s : ExprType) → IsField c.structs object n s → IsLayer c s (form x.0 n)
    operands : (n : ℕ) → AreExprs c (operands_of (form x.0 n))

  struct_base : (t : ObjectType) (b : BaseType) (n : ℕ) (ls : List ℕ) (k : ℕ) → IsBase c.structs b → struct_by t b n ls ≡ Some k → k < length c.structs
  struct_base t (BaseType.Struct j) zero [] k is e = subst (λ k. k < length c.structs) (some_is e) is
  struct_base t _ _ _ k is e = absurd (none_some e)

  field_known : (f : Ident) (form : Expr → ℕ → Layer) (at : ℕ) (fs : List Fault) (x : Expr × ℕ) (o : Option (ℕ × ObjectType)) (v : Expr) → IsHolder form x
      → field_by f.name 0 (get_or w.structs x.1 []) ≡ o → (found_by f form at fs x.0 o).value ≡ Some v → IsExpr c v
  field_known f form at fs x None v is has e = absurd (none_some e)
  field_known f form at fs x (Some m) v is has e =
      let k = struct_base is.object is.object.base is.object.stars is.object.lengths x.1 is.known.base is.struct in
      let d = linked.fields x.1 k in
      let there = field_there f.name 0 (get_or w.structs x.1 []) m has in
      let field = ap (λ ts. slice_get ts m.0) d.2 ∙ ap (slice_get (map (λ m. m.object) (get_or w.structs x.1 []))) (there.1 ∙ omega arith) ∙ there.2 in
      subst (IsExpr c) (ap (λ s. made s (form x.0 m.0)) (sym (place_is w c linked m.1 (linked.members x.1 m.0 d.0 m.1 d.1 field).base)) ∙ some_is e)
      (made_known w c linked (ExprType.Place m.1) (form x.0 m.0) (linked.members x.1 m.0 d.0 m.1 d.1 field)
      (is.layer m.0 (ExprType.Place m.1) (record { number = x.1; whole = d.0; field = m.1; struct = is.struct; there = d.1; has = field; typing = refl })) (is.operands m.0))

  -- a struct that has a type
  abbrev Holds : (Expr → ℕ → Layer) → Expr × Option ℕ → Type 0
  Holds form x = (k : ℕ) × (x.1 ≡ Some k) × IsHolder form (x.0, k)

  in_struct_known : (f : Ident) (form : Expr → ℕ → Layer) (at : ℕ) (fs : List Fault) (e : Expr) (o : Option ℕ) (v : Expr) → Holds form (e, o) → (in_struct w f form at fs e o).value ≡ Some v → IsExpr c v
  in_struct_known f form at fs e None v is has = absurd (none_some is.1)
  in_struct_known f form at fs e (Some j) v is has =
      field_known f form at fs (e, j) (field_by f.name 0 (get_or w.structs j [])) v (subst (λ k. IsHolder form (e, k)) (sym (some_is is.1)) is.2) refl has

  fielded_known : (f : Ident) (form : Expr → ℕ → Layer) (at : ℕ) (fs : List Fault) (o : Option (Expr × Option ℕ)) (v : Expr) → ((x : Expr × Option ℕ) → o ≡ Some x → Holds form x)
      → (fielded w f form at fs o).value ≡ Some v → IsExpr c v
  fielded_known f form at fs None v is e = absurd (none_some e)
  fielded_known f form at fs (Some x) v is e = in_struct_known f form at fs x.0 x.1 v (is x refl) e

  sound_field_of : (f : Ident) (form : Expr → ℕ → Layer) (p : Part (Expr × Option ℕ)) → Pure w c p (Holds form) → Pure w c (field_of w f form p) (IsExpr c)
  sound_field_of f form p is = record {
    quiet = is.quiet;
    sound = λ here st v e. fielded_known f form (here.at + p.tokens + 1) (p.judge here).faults (p.judge here).value v (λ x has. is.sound here st x has) e;
  }

  holder_at : (e : Expr) (s : ExprType) (x : Expr × Option ℕ) → IsUsedAs c s e → e.typing ≡ s → with_struct e (struct_at s) ≡ Some x → Holds Form-F.Field x
  holder_at e (ExprType.Place t) x is at has = by (struct_of t) refl has where
    by : (o : Option ℕ) → struct_of t ≡ o → with_struct e (known_struct o) ≡ Some x → Holds Form-F.Field x
    by None st has = absurd (none_some has)
    by (Some k) st has =
        subst (Holds Form-F.Field) (some_is has) (k, refl, record { object = t; struct = st; known = place_object w c linked e t is at; layer = λ n s f. (t, at, f); operands = λ n. one w c linked e is })
  holder_at e ExprType.Int x is at has = absurd (none_some has)
  holder_at e ExprType.Null x is at has = absurd (none_some has)
  holder_at e (ExprType.Pointer t) x is at has = absurd (none_some has)
  holder_at e ExprType.Void x is at has = absurd (none_some has)
  holder_at e ExprType.Unknown x is at has = absurd (no_unknown w c linked e is at)

  holder_behind : (e : Expr) (s : ExprType) (x : Expr × Option ℕ) → IsUsedAs c s e → e.typing ≡ s → with_struct e (struct_behind s) ≡ Some x → Holds Form-F.Arrow x
  holder_behind e (ExprType.Pointer t) x is at has = by (struct_of t) refl has where
    by : (o : Option ℕ) → struct_of t ≡ o → with_struct e (known_struct o) ≡ Some x → Holds Form-F.Arrow x
    by None st has = absurd (none_some has)
    by (Some k) st has =
        subst (Holds Form-F.Arrow) (some_is has) (k, refl, record { object = t; struct = st; known = pointer_object w c linked e t is at; layer = λ n s f. (t, at, f); operands = λ n. one w c linked e is })
  holder_behind e ExprType.Int x is at has = absurd (none_some has)
  holder_behind e ExprType.Null x is at has = absurd (none_some has)
  holder_behind e (ExprType.Place t) x is at has = absurd (none_some has)
  holder_behind e ExprType.Void x is at has = absurd (none_some has)
  holder_behind e ExprType.Unknown x is at has = absurd (no_unknown w c linked e is at)

  sound_field : (line : Line) (f : Ident) (r : Reading) → IsSound w c r → Pure w c (field_of w f Form-F.Field (obeys mismatch line (λ h e. with_struct e (struct_at e.typing)) r.plain)) (IsExpr c)
  sound_field line f r is =
      sound_field_of f Form-F.Field _ (pure_obeys w c mismatch line (λ h e. with_struct e (struct_at e.typing)) r.plain is.plain (λ h e x st e_is has. holder_at e e.typing x e_is refl has))

  sound_arrow : (line : Line) (f : Ident) (r : Reading) → IsSound w c r → Pure w c (field_of w f Form-F.Arrow (obeys mismatch line (λ h e. with_struct e (struct_behind e.typing)) (value r))) (IsExpr c)
  sound_arrow line f r is =
      sound_field_of f Form-F.Arrow _ (pure_obeys w c mismatch line (λ h e. with_struct e (struct_behind e.typing)) (value r) (sound_value w c linked r is) (λ h e x st e_is has. holder_behind e e.typing x e_is refl has))

  -- Names.
  variable_known : (v : Variable) (e : Expr) (i : Ident) (here : Place) → IsBound c v → ((name_as i (Meaning.object v)).judge here).value ≡ Some e → IsExpr c e
  variable_known (Variable.global k t) e i here is has =
      subst (IsExpr c) (ap (λ s. made s (Form-F.Global k)) (sym (place_is w c linked t (linked.globals k t is).base)) ∙ some_is has) (made_known w c linked (ExprType.Place t) (Form-F.Global k) (linked.globals k t is) (t, is, refl) none)
  variable_known (Variable.local k t) e i here is has =
      subst (IsExpr c) (ap (λ s. made s (Form-F.Local k)) (sym (place_is w c linked t (linked.variables k t is).base)) ∙ some_is has) (made_known w c linked (ExprType.Place t) (Form-F.Local k) (linked.variables k t is) (t, is, refl) none)

  name_known : (i : Ident) (here : Place) (e : Expr) (o : Option Variable) (b : Option Builtin) (r : Option Signature) → ((v : Variable) → o ≡ Some v → IsBound c v)
      → ((name_as i (elim o as (λ o. Meaning) [
        | Some v ↦ Meaning.object v
        | None ↦ elim b as (λ b. Meaning) [ Some b ↦ Meaning.builtin b | None ↦ elim r as (λ r. Meaning) [ None ↦ Meaning.nothing | Some s ↦ Meaning.function (place_of i.name (map (λ s. s.name) w.functions)) s ] ]
      ])).judge here).value ≡ Some e → IsExpr c e
  name_known i here e (Some v) b r is has = variable_known v e i here (is v refl) has
  name_known i here e None (Some b) r is has = absurd (none_some has)
  name_known i here e None None None is has = absurd (none_some has)
  name_known i here e None None (Some s) is has = absurd (none_some has)

  sound_name : (i : Ident) → Pure w c (name w i) (IsExpr c)
  sound_name i = record {
    quiet = refl;
    sound = λ here st e has.
        name_known i here e (variable i.name 0 here.before) (builtin_of (spelling w i.name)) (slice_get w.functions (place_of i.name (map (λ s. s.name) w.functions)))
        (λ v is. found_bound c i.name (scopes_of here.before) v st.scopes (sym (variable_found i.name 0 here.before) ∙ is)) has;
  }

  -- Calls.
  abbrev pub AllSound : List Reading → Type 0
  AllSound [] = Unit {0}
  AllSound (r ∷ rs) = IsSound w c r × AllSound rs

  abbrev pub AreUsed : List Expr → Type 0
  AreUsed [] = Unit {0}
  AreUsed (e ∷ es) = IsUsed c e × AreUsed es

  sound_arguments : (rs : List Reading) → AllSound rs → Pure w c (arguments rs) AreUsed
  sound_arguments [] all = pure_given w c {Q = AreUsed} [] tt
  sound_arguments (r ∷ []) all =
      pure_joined w c (λ a rest. a ∷ rest) (value r) (given []) {Q = AreUsed} {R = AreUsed} (sound_value w c linked r all.0) (pure_given w c {Q = AreUsed} [] tt) (λ e es is that. (is, that))
  sound_arguments (r ∷ s ∷ rs) all =
      pure_joined w c (λ a rest. a ∷ rest) (value r <⊗ tokens 1) (arguments (s ∷ rs)) {R = AreUsed}
      (pure_joined w c (λ a b. a) (value r) (tokens 1) {R = IsUsed c} (sound_value w c linked r all.0) (pure_tokens w c 1) (λ a b x y. x)) (sound_arguments (s ∷ rs) all.1) (λ e es is that. (is, that))

  sound_called : {A : Type 0} (p : Part A) (Q : A → Type 0) → Pure w c p Q → Pure w c (called p) Q
  sound_called p Q is =
      pure_joined w c (λ a b. a) (tokens 2 ⊗> p) (tokens 1) {R = Q} (pure_joined w c (λ a b. b) (tokens 2) p {R = Q} (pure_tokens w c 2) is (λ a b x y. y)) (pure_tokens w c 1) (λ a b x y. x)

  asked_known : (layer : Layer) (es : List Expr) (v : Expr) → IsLayer c ExprType.Int layer → AreExprs c (operands_of layer) → asked layer es ≡ Some v → IsExpr c v
  asked_known layer [] v is all has = subst (IsExpr c) (some_is has) (made_known w c linked ExprType.Int layer tt is all)
  asked_known layer (e ∷ es) v is all has = absurd (none_some has)

  -- what `putint` and `free` take
  put_known : (e : Expr) (s : ExprType) (v : Expr) → IsUsedAs c s e → e.typing ≡ s → put_by e s ≡ Some v → IsExpr c v × (v.typing ≡ ExprType.Int)
  put_known e ExprType.Int v is at has = subst (λ v. IsExpr c v × (v.typing ≡ ExprType.Int)) (some_is has) (is, at)
  put_known e (ExprType.Place t) v is at has = absurd (none_some has)
  put_known e ExprType.Null v is at has = absurd (none_some has)
  put_known e (ExprType.Pointer t) v is at has = absurd (none_some has)
  put_known e ExprType.Void v is at has = absurd (none_some has)
  put_known e ExprType.Unknown v is at has = absurd (no_unknown w c linked e is at)

  pub puts_known : (es : List Expr) (v : Expr) → AreUsed es → put es ≡ Some v → IsExpr c v × (v.typing ≡ ExprType.Int)
  puts_known [] v all has = absurd (none_some has)
  puts_known (e ∷ []) v all has = put_known e e.typing v all.0 refl has
  puts_known (e ∷ f ∷ es) v all has = absurd (none_some has)

  freed_known : (e : Expr) (s : ExprType) (v : Expr) → IsUsedAs c s e → e.typing ≡ s → freed_by e s ≡ Some v → IsExpr c v × IsFreed v.typing
  freed_known e (ExprType.Pointer t) v is at has = subst (λ v. IsExpr c v × IsFreed v.typing) (some_is has) (is, subst IsFreed (sym at) tt)
  freed_known e ExprType.Null v is at has = subst (λ v. IsExpr c v × IsFreed v.typing) (some_is has) (is, subst IsFreed (sym at) tt)
  freed_known e (ExprType.Place t) v is at has = absurd (none_some has)
  freed_known e ExprType.Int v is at has = absurd (none_some has)
  freed_known e ExprType.Void v is at has = absurd (none_some has)
  freed_known e ExprType.Unknown v is at has = absurd (no_unknown w c linked e is at)

  pub frees_known : (es : List Expr) (v : Expr) → AreUsed es → freed es ≡ Some v → IsExpr c v × IsFreed v.typing
  frees_known [] v all has = absurd (none_some has)
  frees_known (e ∷ []) v all has = freed_known e e.typing v all.0 refl has
  frees_known (e ∷ f ∷ es) v all has = absurd (none_some has)

  -- each argument has a value
  void_fits : (t : ObjectType) (o : Option ExprType) → accepts_some ExprType.Void o ≡ true → ⊥
  void_fits t None e = subst IsFalse' e tt
  void_fits t (Some s) e = subst IsFalse' e tt

  accepted : (e : Expr) (s : ExprType) (t : ObjectType) → IsUsedAs c s e → accepts s t ≡ true → IsExpr c e
  accepted e ExprType.Void t is fit = absurd (void_fits t (scalar_type t) fit)
  accepted e (ExprType.Place o) t is fit = is
  accepted e ExprType.Int t is fit = is
  accepted e ExprType.Null t is fit = is
  accepted e (ExprType.Pointer o) t is fit = is
  accepted e ExprType.Unknown t is fit = is

  both_first : (a b : Bool) → a && b ≡ true → a ≡ true
  both_first true b e = refl
  both_first false b e = absurd (subst IsFalse' e tt)

  both_second : (a b : Bool) → a && b ≡ true → b ≡ true
  both_second true b e = e
  both_second false b e = absurd (subst IsFalse' e tt)

  fitting : (es : List Expr) (ts : List ObjectType) → AreUsed es → all_fit es ts ≡ true → AreExprs c es
  fitting [] ts all fit = none
  fitting (e ∷ es) [] all fit = absurd (subst IsFalse' fit tt)
  fitting (e ∷ es) (t ∷ ts) all fit =
      each e es (accepted e e.typing t all.0 (both_first (accepts e.typing t) (all_fit es ts) fit)) (fitting es ts all.1 (both_second (accepts e.typing t) (all_fit es ts) fit))

  scalar_result : (t : ObjectType) (ls : List ℕ) (o : Option ExprType) → IsBase c.structs t.base → elim o as (λ o. Bool) [ None ↦ false | Some v ↦ true ] ≡ true → scalar_by t ls ≡ o
      → IsTyping c.structs (elim o as (λ o. ExprType) [ None ↦ ExprType.Unknown | Some v ↦ v ])
  scalar_result t ls None is scalar at = subst (λ b. elim b as (λ b. Type 0) [ true ↦ ⊥ | false ↦ Unit {0} ]) scalar tt
  scalar_result t [] (Some v) is scalar at = scalar_typing w c linked t.base t.stars v is at
  scalar_result t (n ∷ ns) (Some v) is scalar at = absurd (none_some at)

  result_typing : (o : Option ObjectType) → ((t : ObjectType) → o ≡ Some t → IsBase c.structs t.base × (is_scalar t ≡ true)) → IsTyping c.structs (called_type o)
  result_typing None is = tt
  result_typing (Some t) is = let r = is t refl in scalar_result t t.lengths (scalar_type t) r.0 r.1 refl

  not_main : (x k : ℕ) (s : Signature) → IsFunctionOf w x k s → is_main w x ≡ false → k ≢ c.main
  not_main x k s is no_main at =
      let there = subst (λ k. slice_get w.functions k ≡ Some s) (at ∙ linked.main) is.there in
      subst IsFalse' (sym no_main ∙ ap (is_main w) (sym is.named) ∙ main_found w w.functions s there) tt

  applied_known : (k : ℕ) (s : Signature) (es : List Expr) (v : Expr) (t : Bool) → slice_get w.functions k ≡ Some s → k ≢ c.main → AreUsed es → all_fit es s.parameters ≡ t
      → elim t as (λ t. Option Expr) [ true ↦ Some (made (called_type s.result) (Form-F.Call k es)) | false ↦ None ] ≡ Some v → IsExpr c v
  applied_known k s es v true there other all fit has =
      subst (IsExpr c) (some_is has)
      (made_known w c linked (called_type s.result) (Form-F.Call k es) (result_typing s.result (λ t at. linked.results k s t there at))
      (record { callee = record { result = s.result; parameters = s.parameters }; there = linked.functions k s there; other = other; fit = fit; typing = refl }) (fitting es s.parameters all fit))
  applied_known k s es v false there other all fit has = absurd (none_some has)

  -- `malloc`
  new_known : (s : Size) (v : Expr) → IsSize c s → IsCount s.count → Some (made (ExprType.Pointer s.item) (Form-F.New 0 s.item s.count)) ≡ Some v → IsExpr c v
  new_known s v is count has =
      subst (IsExpr c) (some_is has) (made_known w c linked (ExprType.Pointer s.item) (Form-F.New 0 s.item s.count) is.item.0 (count, is.item.1, refl) (there s.count is.count count)) where
        there : (o : Option Expr) → IsUsedThere c o → IsCount o → AreExprs c (operand_there o)
        there None is at = none
        there (Some e) is at = one w c linked e (used_at c e ExprType.Int is at)

  allocated_known : (item : ObjectType) (o : Option Expr) (v : Expr) → IsSize c (record { item = item; count = o }) → allocated (record { item = item; count = o }) ≡ Some v → IsExpr c v
  allocated_known item None v is has = new_known (record { item = item; count = None }) v is tt has
  allocated_known item (Some n) v is has = by n.typing refl has where
    by : (s : ExprType) → n.typing ≡ s
        → elim s as (λ s. Option Expr) [ ExprType.Int ↦ Some (made (ExprType.Pointer item) (Form-F.New 0 item (Some n))) | ExprType.Unknown ↦ Some (made (ExprType.Pointer item) (Form-F.New 0 item (Some n))) | _ ↦ None ] ≡ Some v → IsExpr c v
    by ExprType.Int at has = new_known (record { item = item; count = Some n }) v is at has
    by (ExprType.Place t) at has = absurd (none_some has)
    by ExprType.Null at has = absurd (none_some has)
    by (ExprType.Pointer t) at has = absurd (none_some has)
    by ExprType.Void at has = absurd (none_some has)
    by ExprType.Unknown at has = absurd (never_unknown w c linked n is.count at)

  called_arguments : (rs : List Reading) → AllSound rs → Pure w c (called (arguments rs)) AreUsed
  called_arguments rs all = sound_called (arguments rs) AreUsed (sound_arguments rs all)

  pub sound_allocation : (line : Line) (rs : List Reading) → AllSound rs → Pure w c (allocation line rs) (IsExpr c)
  sound_allocation line [] all = pure_refused w c mismatch line (called (arguments [])) refl
  sound_allocation line (r ∷ []) all = by r.size all.0.size where
    by : (o : Option (Part Size)) → IfPure w c o (IsSize c) → Pure w c (allocation_by line (r ∷ []) o) (IsExpr c)
    by None is = pure_refused w c mismatch line (called (arguments (r ∷ []))) (called_arguments (r ∷ []) all).quiet
    by (Some p) is = pure_obeys w c mismatch line (λ h s. allocated s) (called p) (sound_called p (IsSize c) is) (λ h s v st s_is has. allocated_known s.item s.count v s_is has)
  sound_allocation line (r ∷ s ∷ rs) all = pure_refused w c mismatch line (called (arguments (r ∷ s ∷ rs))) (called_arguments (r ∷ s ∷ rs) all).quiet

  call_by : (line : Line) (f : Ident) (rs : List Reading) (k : ℕ) (s : Signature) (t : Bool) → AllSound rs → IsFunctionOf w f.name k s → is_main w f.name ≡ t
      → Pure w c (elim t as (λ t. Part Expr) [ true ↦ refused mismatch f.line (called (arguments rs)) | false ↦ obeys mismatch line (λ h es. applied k s es) (called (arguments rs)) ]) (IsExpr c)
  call_by line f rs k s true all is at = pure_refused w c mismatch f.line (called (arguments rs)) (called_arguments rs all).quiet
  call_by line f rs k s false all is at =
      pure_obeys w c mismatch line (λ h es. applied k s es) (called (arguments rs)) (called_arguments rs all)
      (λ h es v st es_is has. applied_known k s es v (all_fit es s.parameters) is.there (not_main f.name k s is at) es_is refl has)

  abbrev pub IsFound : Ident → Meaning → Type 0
  IsFound f m = (k : ℕ) (s : Signature) → m ≡ Meaning.function k s → IsFunctionOf w f.name k s

  -- a call of what has a value, or of a function of the text
  pub sound_object_call : (line : Line) (f : Ident) (rs : List Reading) (v : Variable) → AllSound rs → Pure w c (call_as w line f rs (Meaning.object v)) (IsExpr c)
  sound_object_call line f rs v all = pure_refused w c mismatch f.line (called (arguments rs)) (called_arguments rs all).quiet

  pub sound_nothing_call : (line : Line) (f : Ident) (rs : List Reading) → AllSound rs → Pure w c (call_as w line f rs Meaning.nothing) (IsExpr c)
  sound_nothing_call line f rs all = pure_refused w c unknown f.line (called (arguments rs)) (called_arguments rs all).quiet

  pub sound_function_call : (line : Line) (f : Ident) (rs : List Reading) (k : ℕ) (s : Signature) → AllSound rs → IsFound f (Meaning.function k s) → Pure w c (call_as w line f rs (Meaning.function k s)) (IsExpr c)
  sound_function_call line f rs k s all is = call_by line f rs k s (is_main w f.name) all (is k s refl) refl

  pub sound_asked : (line : Line) (f : Ident) (rs : List Reading) (layer : Layer) → IsLayer c ExprType.Int layer → AreExprs c (operands_of layer) → AllSound rs
      → Pure w c (obeys mismatch line (λ h es. asked layer es) (called (arguments rs))) (IsExpr c)
  sound_asked line f rs layer is all_is all = pure_obeys w c mismatch line (λ h es. asked layer es) _ (called_arguments rs all) (λ h es v st es_is has. asked_known layer es v is all_is has)

  pub sound_put : (line : Line) (rs : List Reading) → AllSound rs → Pure w c (obeys mismatch line (λ h es. put es) (called (arguments rs))) (λ e. IsExpr c e × (e.typing ≡ ExprType.Int))
  sound_put line rs all = pure_obeys w c mismatch line (λ h es. put es) _ (called_arguments rs all) (λ h es v st es_is has. puts_known es v es_is has)

  pub sound_free : (line : Line) (rs : List Reading) → AllSound rs → Pure w c (obeys mismatch line (λ h es. freed es) (called (arguments rs))) (λ e. IsExpr c e × IsFreed e.typing)
  sound_free line rs all = pure_obeys w c mismatch line (λ h es. freed es) _ (called_arguments rs all) (λ h es v st es_is has. frees_known es v es_is has)

  pub sound_getint : (line : Line) (f : Ident) (rs : List Reading) → AllSound rs → Pure w c (call_as w line f rs (Meaning.builtin Builtin.getint)) (IsExpr c)
  sound_getint line f rs all = sound_asked line f rs Form-F.GetInt refl none all

  pub sound_left : (line : Line) (f : Ident) (rs : List Reading) → AllSound rs → Pure w c (call_as w line f rs (Meaning.builtin Builtin.left)) (IsExpr c)
  sound_left line f rs all = sound_asked line f rs Form-F.Left refl none all

  call_used : (line : Line) (f : Ident) (rs : List Reading) (m : Meaning) → AllSound rs → IsFound f m → Pure w c (call_as w line f rs m) (IsUsed c)
  call_used line f rs (Meaning.object v) all is = all_used w c linked _ (sound_object_call line f rs v all)
  call_used line f rs Meaning.nothing all is = all_used w c linked _ (sound_nothing_call line f rs all)
  call_used line f rs (Meaning.function k s) all is = all_used w c linked _ (sound_function_call line f rs k s all is)
  call_used line f rs (Meaning.builtin Builtin.getint) all is = all_used w c linked _ (sound_getint line f rs all)
  call_used line f rs (Meaning.builtin Builtin.left) all is = all_used w c linked _ (sound_left line f rs all)
  call_used line f rs (Meaning.builtin Builtin.putint) all is = pure_map w c (λ _. no_value) _ {Q = IsUsed c} (sound_put line rs all) (λ e is. tt)
  call_used line f rs (Meaning.builtin Builtin.free) all is = pure_map w c (λ _. no_value) _ {Q = IsUsed c} (sound_free line rs all) (λ e is. tt)
  call_used line f rs (Meaning.builtin Builtin.malloc) all is = all_used w c linked _ (sound_allocation line rs all)

  sound_call : (line : Line) (f : Ident) (rs : List Reading) → AllSound rs → Pure w c (call w line f rs) (IsUsed c)
  sound_call line f rs all = record {
    quiet = refl;
    sound = λ here st v has. (call_used line f rs (meaning w here.before f.name) all (λ k s e. function_meant w here.before f.name k s e)).sound here st v has;
  }

  -- Casts, and `malloc`'s size.
  cast_when : (e v : Expr) (t : Bool) → IsUsed c e → elim t as (λ t. Option Expr) [ true ↦ Some e | false ↦ None ] ≡ Some v → IsUsed c v
  cast_when e v true is has = subst (IsUsed c) (some_is has) is
  cast_when e v false is has = absurd (none_some has)

  cast_known : (h : History) (o : Option ℕ) (t : ObjectType) (e v : Expr) → IsUsed c e → cast_by w h o t e ≡ Some v → IsUsed c v
  cast_known h None t e v is has = absurd (none_some has)
  cast_known h (Some f) t e v is has = cast_when e v (is_malloc (meaning w h f) && fits e.typing t) is has

  sound_counted : (l r : Reading) (o p : Option (Part ObjectType)) → IsSound w c l → IsSound w c r → IfPure w c o (IsNamed c.structs) → IfPure w c p (IsNamed c.structs)
      → IfPure w c (counted_by l r o p) (IsSize c)
  sound_counted l r o (Some p) left right is that =
      pure_joined w c many_of (value l <⊗ tokens 1) p (pure_joined w c (λ a b. a) (value l) (tokens 1) {R = IsUsed c} (sound_value w c linked l left) (pure_tokens w c 1) (λ a b x y. x)) that
      (λ e t e_is t_is. record { item = t_is; count = e_is })
  sound_counted l r (Some p) None left right is that =
      pure_joined w c (λ t e. many_of e t) (p <⊗ tokens 1) (value r) (pure_joined w c (λ a b. a) p (tokens 1) {R = IsNamed c.structs} is (pure_tokens w c 1) (λ a b x y. x)) (sound_value w c linked r right)
      (λ t e t_is e_is. record { item = t_is; count = e_is })
  sound_counted l r None None left right is that = tt

  sound_product : (op : BinaryOp) (l r : Reading) → IsSound w c l → IsSound w c r → IfPure w c (product op l r) (IsSize c)
  sound_product BinaryOp.Mul l r left right = sound_counted l r l.sizeof r.sizeof left right left.sizeof right.sizeof
  sound_product _ l r left right = tt

  sound_sizeof : (t : TypeName) → Pure w c (tokens 2 ⊗> type_name w t <⊗ tokens 1) (IsNamed c.structs)
  sound_sizeof t =
      pure_joined w c (λ a b. a) (tokens 2 ⊗> type_name w t) (tokens 1) {R = IsNamed c.structs}
      (pure_joined w c (λ a b. b) (tokens 2) (type_name w t) {R = IsNamed c.structs} (pure_tokens w c 2) (sound_type_name w c linked t) (λ a b x y. y)) (pure_tokens w c 1) (λ a b x y. x)

  used_plainly : (line : Line) (p : Part Expr) → Pure w c p (IsUsed c) → IsSound w c (Exprs.reading line p)
  used_plainly line p is = record { plain = is; sizeof = tt; size = tt }

  -- One level, with what is known of each operand beside it.
  abbrev FormSound : SourceForm → Type 0
  FormSound f = (line : Line) → IsSound w c (read_form w f line)

  abbrev ExprSound : SourceExpr → Type 0
  ExprSound e = IsSound w c (expr w e)

  abbrev Known : Type 0
  Known = (e : SourceExpr) × ExprSound e

  abbrev KnownForm : Type 0
  KnownForm = (f : SourceForm) × FormSound f

  all_sound : (es : List Known) → AllSound (map (expr w) (map (λ e. e.0) es))
  all_sound [] = tt
  all_sound (e ∷ es) = (e.1, all_sound es)

  level_sound : (line : Line) (y : Source KnownForm Known) → IsSound w c (form_step w (mapped_form w (map-Form KnownForm Known SourceForm SourceExpr (λ f. f.0) (λ e. e.0) y)) line)
  level_sound line (Source.Binary l op r) = record {
    plain = all_used w c linked _ (sound_binary w c linked line op (expr w l.0) (expr w r.0) l.1 r.1);
    sizeof = tt;
    size = sound_product op (expr w l.0) (expr w r.0) l.1 r.1;
  }
  level_sound line (Source.Unary op x) = plainly w c linked line _ (sound_unary w c linked op line (expr w x.0) x.1)
  level_sound line (Source.Cast to x) =
      used_plainly line _
      (pure_obeys w c mismatch line (λ h e. cast_by w h (expr w x.0).calls e.0 e.1) (tokens 1 ⊗> type_name w to <⊗ tokens 1 ⊗ value (expr w x.0))
      (pure_joined w c (λ a b. (a, b)) (tokens 1 ⊗> type_name w to <⊗ tokens 1) (value (expr w x.0)) {R = λ p. IsUsed c p.1}
      (pure_joined w c (λ a b. a) (tokens 1 ⊗> type_name w to) (tokens 1) {R = IsNamed c.structs}
      (pure_joined w c (λ a b. b) (tokens 1) (type_name w to) {R = IsNamed c.structs} (pure_tokens w c 1) (sound_type_name w c linked to) (λ a b x y. y)) (pure_tokens w c 1) (λ a b x y. x))
      (sound_value w c linked (expr w x.0) x.1) (λ a b x y. y))
      (λ h e v st is has. cast_known h (expr w x.0).calls e.0 e.1 v is has))
  level_sound line (Source.Index x i) = plainly w c linked line _ (sound_index w c linked line (expr w x.0) (expr w i.0) x.1 i.1)
  level_sound line (Source.Field x f) = plainly w c linked line _ (sound_field line f (expr w x.0) x.1)
  level_sound line (Source.Arrow x f) = plainly w c linked line _ (sound_arrow line f (expr w x.0) x.1)
  level_sound line (Source.Number k) =
      plainly w c linked line _ (pure_map w c (λ _. made ExprType.Int (Form-F.Number k)) (tokens 1) (pure_tokens w c 1) (λ u is. made_known w c linked ExprType.Int (Form-F.Number k) tt refl none))
  level_sound line Source.Null =
      plainly w c linked line _ (pure_map w c (λ _. made ExprType.Null Form-F.Null) (tokens 1) (pure_tokens w c 1) (λ u is. made_known w c linked ExprType.Null Form-F.Null tt refl none))
  level_sound line (Source.Name i) = plainly w c linked line _ (sound_name i)
  level_sound line (Source.Call f es) = record { plain = sound_call line f _ (all_sound es); sizeof = tt; size = tt }
  level_sound line (Source.Sizeof t) =
      let p = sound_sizeof t in
      record {
        plain = pure_obeys w c mismatch line (λ h _. None) (tokens 2 ⊗> type_name w t <⊗ tokens 1) p (λ h e v st is has. absurd (none_some has));
        sizeof = p;
        size = pure_map w c one_of (tokens 2 ⊗> type_name w t <⊗ tokens 1) {Q = IsSize c} p (λ t is. record { item = is; count = tt });
      }

  -- Every expression.
  pub sound : (e : SourceExpr) → IsSound w c (expr w e)
  sound = ind-Expr FormSound ExprSound
      (λ x y is line. subst (λ r. IsSound w c r) (sym (form_roll w line x)) (subst (λ x. IsSound w c (form_step w (mapped_form w x) line)) is (level_sound line y)))
      (λ x y is. subst (λ x. IsSound w c (expr w (record { line = x.line; form = x.form }))) is (subst (λ r. IsSound w c r) (sym (expr_reads w y.line y.form.0)) (y.form.1 y.line)))

  pub all_are_sound : (es : List SourceExpr) → AllSound (map (expr w) es)
  all_are_sound [] = tt
  all_are_sound (e ∷ es) = (sound e, all_are_sound es)
