-- Types of well-formed programs, and one level of an expression above well-formed operands.
use Rattle.std.proofs.Common.{◌≡◌, ℕ, zero, suc, ◌+◌, ◌*◌, ◌<◌, ◌≤◌, Bool, true, false, List, [], ◌∷◌, map, length, get_or, Option, Some, None, refl, ap, sym, ◌∙◌, subst, arith}
use Rattle.std.specs.Prelude.{slice_get, nat_eq, nat_lt, All}
use Rattle.std.proofs.lemmas.Bool.Decides.{nat_tests}
use Rattle.std.proofs.lemmas.List.Elements.{All-nil}
use Rattle.c_typed.specs.declared.types.BaseType.{BaseType}
use Rattle.c_typed.specs.declared.types.ObjectType.{ObjectType}
use Rattle.c_typed.specs.declared.types.ExprType.{ExprType}
use Rattle.c_typed.specs.declared.expr.Expr.{Expr}
use Rattle.c_typed.specs.declared.expr.Form.{Form, out-roll-Form}
use Rattle.c_typed.specs.declared.expr.Form.TheOpen.{Form-F}
use Rattle.c_typed.specs.declared.program.Struct.{Struct}
use Rattle.c_typed.specs.Types.{is_known_base, is_unknown, item_words, times, place_of_type, scalar, struct_type, value_by, value_type}
use Rattle.c_typed.specs.Whole.{Whole, Member, Signature}
use Rattle.c_typed.specs.Exprs.{made, taken, value_by_type, field_by}
use Rattle.c_typed.specs.Decls.{type_limit, is_scalar}
use Rattle.c_typed.specs.Programs.{main_number}
use Rattle.c_typed.specs.IsWell.{IsBase, IsObject, IsTyping, sizes_in, Context, IsLayer, operands_of, IsExpr, AreExprs, none, each, known}
use Rattle.c_typed.proofs.WellParts.{none_some, some_is}

-- An expression, or what stands for a call without a value.
abbrev pub IsUsedAs : Context → ExprType → Expr → Type 0
IsUsedAs c ExprType.Void e = Unit {0}
IsUsedAs c _ e = IsExpr c e

abbrev pub IsUsed : Context → Expr → Type 0
IsUsed c e = IsUsedAs c e.typing e

used_by : (c : Context) (s : ExprType) (e : Expr) → IsExpr c e → IsUsedAs c s e
used_by c ExprType.Void e is = tt
used_by c (ExprType.Place t) e is = is
used_by c ExprType.Int e is = is
used_by c ExprType.Null e is = is
used_by c (ExprType.Pointer t) e is = is
used_by c ExprType.Unknown e is = is

pub used : (c : Context) (e : Expr) → IsExpr c e → IsUsed c e
used c e is = used_by c e.typing e is

pub used_at : (c : Context) (e : Expr) (s : ExprType) → IsUsed c e → e.typing ≡ s → IsUsedAs c s e
used_at c e s is at = subst (λ s. IsUsedAs c s e) at is

-- What a program's whole text is to a context.
pub record IsLinked (w : Whole) (c : Context) : Type 0 where
  pub tags : length w.tags ≡ length c.structs
  pub fields : (k : ℕ) → k < length c.structs → (d : Struct) × (slice_get c.structs k ≡ Some d) × (d.fields ≡ map (λ m. m.object) (get_or w.structs k []))
  pub members : (k n : ℕ) (d : Struct) (t : ObjectType) → slice_get c.structs k ≡ Some d → slice_get d.fields n ≡ Some t → IsObject c.structs t
  pub words : (k : ℕ) → get_or (sizes_in c.structs) k 0 ≤ type_limit
  pub functions : (k : ℕ) (s : Signature) → slice_get w.functions k ≡ Some s → slice_get c.functions k ≡ Some (record { result = s.result; parameters = s.parameters })
  pub results : (k : ℕ) (s : Signature) (t : ObjectType) → slice_get w.functions k ≡ Some s → s.result ≡ Some t → IsBase c.structs t.base × (is_scalar t ≡ true)
  pub main : c.main ≡ main_number w
  pub globals : (k : ℕ) (t : ObjectType) → slice_get c.globals k ≡ Some t → IsObject c.structs t
  pub variables : (k : ℕ) (t : ObjectType) → slice_get c.variables k ≡ Some t → IsObject c.structs t

-- the base that a tag of a struct gives
struct_when : (structs : List Struct) (n k : ℕ) (b : Bool) → nat_lt k n ≡ b → k < n → n ≡ length structs → IsBase structs (elim b as (λ b. BaseType) [ true ↦ BaseType.Struct k | false ↦ BaseType.Unknown ])
struct_when structs n k true at less same = omega (arith, less, same)
struct_when structs n k false at less same = absurd (grind (arith, nat_tests, at, less))

pub struct_is : (structs : List Struct) (n k : ℕ) → k < n → n ≡ length structs → IsBase structs (struct_type n k)
struct_is structs n k less same = struct_when structs n k (nat_lt k n) refl less same

-- All of a list, by its parts.
pub all_rest : (n : ℕ) (ns : List ℕ) → All (λ n. 0 < n) (n ∷ ns) → All (λ n. 0 < n) ns
all_rest n ns all = λ k d less. all (suc k) d (omega (arith, less))

pub all_first : (n : ℕ) (ns : List ℕ) → All (λ n. 0 < n) (n ∷ ns) → 0 < n
all_first n ns all = all zero 0 (omega arith)

module _ (w : Whole) (c : Context) (linked : IsLinked w c) where
  item_small : (b : BaseType) (n : ℕ) → item_words (sizes_in c.structs) b n ≤ type_limit
  item_small BaseType.Int zero = omega arith
  item_small (BaseType.Struct k) zero = linked.words k
  item_small BaseType.Unknown zero = omega arith
  item_small b (suc n) = omega arith

  pub item_object : (b : BaseType) (n : ℕ) → IsBase c.structs b → IsObject c.structs (record { base = b; stars = n; lengths = [] })
  item_object b n is = record { base = is; lengths = All-nil (λ n. 0 < n); words = item_small b n }

  pub scalar_typing : (b : BaseType) (n : ℕ) (v : ExprType) → IsBase c.structs b → scalar b n ≡ Some v → IsTyping c.structs v
  scalar_typing BaseType.Int zero v is e = subst (IsTyping c.structs) (some_is e) tt
  scalar_typing (BaseType.Struct k) zero v is e = absurd (none_some e)
  scalar_typing BaseType.Int (suc n) v is e = subst (IsTyping c.structs) (some_is e) (item_object BaseType.Int n is)
  scalar_typing (BaseType.Struct k) (suc n) v is e = subst (IsTyping c.structs) (some_is e) (item_object (BaseType.Struct k) n is)
  scalar_typing BaseType.Unknown n v is e = absurd is

  -- what is well-formed has a type
  place_by : (t : ObjectType) (b : BaseType) → IsBase c.structs b → elim (is_known_base b) as (λ b. ExprType) [ true ↦ ExprType.Place t | false ↦ ExprType.Unknown ] ≡ ExprType.Place t
  place_by t BaseType.Int is = refl
  place_by t (BaseType.Struct k) is = refl
  place_by t BaseType.Unknown is = absurd is

  pub place_is : (t : ObjectType) → IsBase c.structs t.base → place_of_type t ≡ ExprType.Place t
  place_is t is = place_by t t.base is

  pointer_by : (t : ObjectType) (b : BaseType) → IsBase c.structs b → elim (is_known_base b) as (λ b. ExprType) [ true ↦ ExprType.Pointer t | false ↦ ExprType.Unknown ] ≡ ExprType.Pointer t
  pointer_by t BaseType.Int is = refl
  pointer_by t (BaseType.Struct k) is = refl
  pointer_by t BaseType.Unknown is = absurd is

  known_by : (s : ExprType) → IsTyping c.structs s → is_unknown s ≡ false
  known_by (ExprType.Place t) is = refl
  known_by ExprType.Int is = refl
  known_by ExprType.Null is = refl
  known_by (ExprType.Pointer t) is = refl
  known_by ExprType.Void is = refl
  known_by ExprType.Unknown is = absurd is

  -- a product is no less than its second factor
  no_less : (n m : ℕ) → 0 < n → n * m ≤ type_limit → m ≤ type_limit
  no_less zero m less le = absurd (omega (arith, less))
  no_less (suc n) m less le = omega (arith, le)

  pub row_object : (b : BaseType) (stars n : ℕ) (ns : List ℕ) → IsObject c.structs (record { base = b; stars = stars; lengths = n ∷ ns }) → IsObject c.structs (record { base = b; stars = stars; lengths = ns })
  row_object b stars n ns is = record {
    base = is.base;
    lengths = all_rest n ns is.lengths;
    words = no_less n (times ns (item_words (sizes_in c.structs) b stars)) (all_first n ns is.lengths) is.words;
  }

  -- Expressions.
  pub typing_of : (e : Expr) → IsExpr c e → IsTyping c.structs e.typing
  typing_of f (known e t l es) = t

  pub is_typed : (e : Expr) → IsExpr c e → is_unknown e.typing ≡ false
  is_typed e is = known_by e.typing (typing_of e is)

  pub no_unknown : (e : Expr) → IsExpr c e → e.typing ≡ ExprType.Unknown → ⊥
  no_unknown e is at = subst (IsTyping c.structs) at (typing_of e is)

  typed_as : (e : Expr) (s : ExprType) → IsUsedAs c s e → e.typing ≡ s → is_unknown s ≡ false
  typed_as e ExprType.Void is at = refl
  typed_as e (ExprType.Place t) is at = refl
  typed_as e ExprType.Int is at = refl
  typed_as e ExprType.Null is at = refl
  typed_as e (ExprType.Pointer t) is at = refl
  typed_as e ExprType.Unknown is at = absurd (no_unknown e is at)

  pub is_known : (e : Expr) → IsUsed c e → is_unknown e.typing ≡ false
  is_known e is = typed_as e e.typing is refl

  pub never_unknown : (e : Expr) → IsUsed c e → e.typing ≡ ExprType.Unknown → ⊥
  never_unknown e is at = no_unknown e (used_at c e ExprType.Unknown is at) at

  pub made_known : (s : ExprType) (layer : Form-F Form Expr) → IsTyping c.structs s → IsLayer c s layer → AreExprs c (operands_of layer) → IsExpr c (made s layer)
  made_known s layer t l es =
      known (made s layer) t (subst (IsLayer c s) (sym (out-roll-Form layer)) l) (subst (λ x. AreExprs c (operands_of x)) (sym (out-roll-Form layer)) es)

  pub one : (e : Expr) → IsExpr c e → AreExprs c (e ∷ [])
  one e is = each e [] is none

  pub two : (e f : Expr) → IsExpr c e → IsExpr c f → AreExprs c (e ∷ f ∷ [])
  two e f is that = each e (f ∷ []) is (one f that)

  -- the object of a place, and what a pointer points to
  pub place_object : (e : Expr) (t : ObjectType) → IsExpr c e → e.typing ≡ ExprType.Place t → IsObject c.structs t
  place_object e t is e_is = subst (IsTyping c.structs) e_is (typing_of e is)

  pub pointer_object : (e : Expr) (t : ObjectType) → IsExpr c e → e.typing ≡ ExprType.Pointer t → IsObject c.structs t
  pointer_object e t is e_is = subst (IsTyping c.structs) e_is (typing_of e is)

  taken_known : (e : Expr) (b : BaseType) (stars : ℕ) (ls : List ℕ) (v : ExprType) → IsExpr c e → e.typing ≡ ExprType.Place (record { base = b; stars = stars; lengths = ls })
      → value_by (record { base = b; stars = stars; lengths = ls }) ls ≡ Some v → IsExpr c (taken e (record { base = b; stars = stars; lengths = ls }) ls v)
  taken_known e b stars [] v is at has =
      let o = place_object e _ is at in
      made_known v (Form-F.Read e) (scalar_typing b stars v o.base has) (record { base = b; stars = stars; lengths = [] }, at, refl, has) (one e is)
  taken_known e b stars (n ∷ ns) v is at has =
      let o = place_object e _ is at in
      made_known v (Form-F.Decay e) (subst (IsTyping c.structs) (sym (pointer_by (record { base = b; stars = stars; lengths = ns }) b o.base) ∙ some_is has) (row_object b stars n ns o)) (record { base = b; stars = stars; lengths = n ∷ ns }, n, ns, at, refl, has) (one e is)

  value_taken : (e : Expr) (t : ObjectType) (o : Option ExprType) (v : Expr) → IsExpr c e → e.typing ≡ ExprType.Place t → value_type t ≡ o
      → elim o as (λ o. Option Expr) [ None ↦ None | Some s ↦ Some (taken e t t.lengths s) ] ≡ Some v → IsExpr c v
  value_taken e t None v is at has e_is = absurd (none_some e_is)
  value_taken e t (Some s) v is at has e_is = subst (IsExpr c) (some_is e_is) (taken_known e t.base t.stars t.lengths s is at has)

  -- the value of an expression
  pub value_known : (e : Expr) (s : ExprType) (v : Expr) → IsUsed c e → e.typing ≡ s → value_by_type e s ≡ Some v → IsUsed c v
  value_known e (ExprType.Place t) v is at has = used c v (value_taken e t (value_type t) v (used_at c e (ExprType.Place t) is at) at refl has)
  value_known e ExprType.Int v is at has = subst (IsUsed c) (some_is has) is
  value_known e ExprType.Null v is at has = subst (IsUsed c) (some_is has) is
  value_known e (ExprType.Pointer t) v is at has = subst (IsUsed c) (some_is has) is
  value_known e ExprType.Void v is at has = subst (IsUsed c) (some_is has) is
  value_known e ExprType.Unknown v is at has = subst (IsUsed c) (some_is has) is

-- the number of a field, and its type
field_else : (x n : ℕ) (m : Member) (ms : List Member) (f : ℕ × ObjectType) (t : Bool)
    → (field_by x (suc n) ms ≡ Some f → (k : ℕ) × (f.0 ≡ suc n + k) × (slice_get (map (λ m. m.object) ms) k ≡ Some f.1))
    → elim t as (λ t. Option (ℕ × ObjectType)) [ true ↦ Some (n, m.object) | false ↦ field_by x (suc n) ms ] ≡ Some f
    → (k : ℕ) × (f.0 ≡ n + k) × (slice_get (m.object ∷ map (λ m. m.object) ms) k ≡ Some f.1)
field_else x n m ms f true rest e = (zero, sym (ap (λ p. p.0) (some_is e)) ∙ omega arith, ap (λ p. Some p.1) (some_is e))
field_else x n m ms f false rest e =
    let r = rest e in
    (suc r.0, r.1 ∙ omega arith, shifted m.object (map (λ m. m.object) ms) r.0 ∙ r.2) where
      shifted : (t : ObjectType) (ts : List ObjectType) (k : ℕ) → slice_get (t ∷ ts) (suc k) ≡ slice_get ts k
      shifted t ts k = refl

pub field_there : (x n : ℕ) (ms : List Member) (f : ℕ × ObjectType) → field_by x n ms ≡ Some f → (k : ℕ) × (f.0 ≡ n + k) × (slice_get (map (λ m. m.object) ms) k ≡ Some f.1)
field_there x n [] f e = absurd (none_some e)
field_there x n (m ∷ ms) f e = field_else x n m ms f (nat_eq x m.name) (field_there x (suc n) ms f) e
