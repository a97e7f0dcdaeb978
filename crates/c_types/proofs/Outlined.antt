-- An outline is that of a text: what is looked up in it is what the text says.
use Rattle.std.proofs.Common.{◌≡◌, ℕ, suc, Bool, true, false, List, [], ◌∷◌, map, length, get_or, Option, Some, None, refl, ap, sym, ◌∙◌, arith}
use Rattle.std.specs.Prelude.{nat_eq, nat_lt, slice_get, is_some}
use Rattle.std.proofs.lemmas.Bool.Decides.{nat_tests}
use Rattle.c_ast.specs.declared.decl.Base.{Base}
use Rattle.c_ast.specs.declared.decl.TypeName.{TypeName}
use Rattle.c_typed.specs.declared.types.BaseType.{BaseType}
use Rattle.c_typed.specs.declared.types.ObjectType.{ObjectType}
use Rattle.c_types.specs.declared.outline.Spelling.{Spelling}
use Rattle.c_types.specs.declared.outline.Outline.{Outline}
use Rattle.c_types.specs.declared.outline.Shape.{Shape}
use Rattle.c_types.specs.declared.outline.Member.{Member as OutlineMember}
use Rattle.c_types.specs.declared.outline.Signature.{Signature as OutlineSignature}
use Rattle.c_types.specs.declared.scopes.Binding.{Binding}
use Rattle.c_types.specs.declared.scopes.Home.{Home}
use Rattle.c_types.specs.declared.known.Known.{Known}
use Rattle.c_typed.specs.Types as types
use Rattle.c_typed.specs.Types.{place_of}
use Rattle.c_typed.specs.Marks.{History, Variable, variable, has_tag}
use Rattle.c_typed.specs.Whole.{Whole, Member, Signature, Builtin, spelling, builtin_of}
use Rattle.c_typed.specs.Whole as whole
use Rattle.c_types.specs.tools.Tables.{looked}
use Rattle.c_types.specs.tools.Outlines
use Rattle.c_types.specs.tools.Outlines.{spelled, bound, capped, shape_words}

-- What is looked up, as the definition sees it.
abbrev pub spelled_builtin : Option Builtin → Spelling
spelled_builtin None = Spelling.Other
spelled_builtin (Some Builtin.getint) = Spelling.GetInt
spelled_builtin (Some Builtin.left) = Spelling.Left
spelled_builtin (Some Builtin.putint) = Spelling.PutInt
spelled_builtin (Some Builtin.malloc) = Spelling.Malloc
spelled_builtin (Some Builtin.free) = Spelling.Free

abbrev pub spelled_so : Bool → Option Builtin → Spelling
spelled_so true b = Spelling.Main
spelled_so false b = spelled_builtin b

abbrev pub number_below : ℕ → ℕ → Option ℕ
number_below n m = elim (nat_lt n m) [ true ↦ Some n | false ↦ None ]

abbrev pub member_of : OutlineMember → Member
member_of m = record { name = m.name; object = m.object }

abbrev pub members_of : Option Shape → List Member
members_of None = []
members_of (Some s) = map member_of s.members

abbrev pub signature_of : OutlineSignature → Signature
signature_of s = record { name = s.name; result = s.result; parameters = s.parameters }

abbrev pub signature_at : Option OutlineSignature → Option Signature
signature_at None = None
signature_at (Some s) = Some (signature_of s)

pub record IsOutline (w : Whole) (o : Outline) : Type 0 where
  pub spells : (x : ℕ) → spelled o x ≡ spelled_so (whole.is_main w x) (builtin_of (spelling w x))
  pub tags : (x : ℕ) → looked o.tags x ≡ number_below (place_of x w.tags) (length w.tags)
  pub structs : o.structs ≡ length w.tags
  pub shapes : length o.shapes ≡ length w.tags
  pub members : (k : ℕ) → members_of (slice_get o.shapes k) ≡ get_or w.structs k []
  pub words : (k : ℕ) → shape_words o k ≡ capped (get_or w.sizes k 0)
  pub numbers : (x : ℕ) → looked o.numbers x ≡ number_below (place_of x (map (λ s. s.name) w.functions)) (length w.functions)
  pub functions : (k : ℕ) → signature_at (slice_get o.functions k) ≡ slice_get w.functions k

-- What is known of the names of expressions.
abbrev pub variable_at : Home → ℕ → ObjectType → Variable
variable_at Home.Global n t = Variable.global n t
variable_at Home.Local n t = Variable.local n t

abbrev pub variable_of : Option Binding → Option Variable
variable_of None = None
variable_of (Some b) = Some (variable_at b.home b.number b.object)

pub record Names (h : History) (k : Known) : Type 0 where
  pub variables : (x : ℕ) → variable_of (bound k x) ≡ variable x 0 h
  pub tags : (x : ℕ) → is_some (looked k.declared.tags x) ≡ has_tag x h

-- Types.
abbrev below_by : ℕ → Bool → Option ℕ
below_by n b = elim b [ true ↦ Some n | false ↦ None ]

-- the tags alone
pub record IsTagged (tags : List ℕ) (o : Outline) : Type 0 where
  pub numbers : (x : ℕ) → looked o.tags x ≡ number_below (place_of x tags) (length tags)
  pub count : o.structs ≡ length tags

pub tagged : (w : Whole) (o : Outline) → IsOutline w o → IsTagged w.tags o
tagged w o is = record { numbers = is.tags; count = is.structs }

struct_below : (n : ℕ) (b : Bool) → Outlines.struct_by (below_by n b) ≡ elim b as (λ b. BaseType) [ true ↦ BaseType.Struct n | false ↦ BaseType.Unknown ]
struct_below n true = refl
struct_below n false = refl

pub base_by : (tags : List ℕ) (o : Outline) → IsTagged tags o → (b : Base) → Outlines.base_type o b ≡ types.base_type tags b
base_by tags o is (Base.Int line) = refl
base_by tags o is (Base.Struct line tag) = ap Outlines.struct_by (is.numbers tag.name) ∙ struct_below (place_of tag.name tags) (nat_lt (place_of tag.name tags) (length tags))

pub pointers_by : (tags : List ℕ) (o : Outline) → IsTagged tags o → (b : Base) (stars : ℕ) → Outlines.pointers_to o b stars ≡ types.pointers_to tags b stars
pointers_by tags o is b stars = ap (λ b. record { base = b; stars = stars; lengths = [] }) (base_by tags o is b)

pub base_same : (w : Whole) (o : Outline) → IsOutline w o → (b : Base) → Outlines.base_type o b ≡ types.base_type w.tags b
base_same w o is b = base_by w.tags o (tagged w o is) b

pub pointers_same : (w : Whole) (o : Outline) → IsOutline w o → (b : Base) (stars : ℕ) → Outlines.pointers_to o b stars ≡ types.pointers_to w.tags b stars
pointers_same w o is b stars = pointers_by w.tags o (tagged w o is) b stars

pub named_same : (w : Whole) (o : Outline) → IsOutline w o → (t : TypeName) → Outlines.named_type o t ≡ types.named_type w.tags t
named_same w o is t = pointers_same w o is t.base t.stars

pub tag_there : (n m : ℕ) → is_some (number_below n m) ≡ nat_lt n m
tag_there n m = elim (nat_lt n m) as (λ b. is_some (elim b [ true ↦ Some n | false ↦ None ]) ≡ b) [ true ↦ refl | false ↦ refl ]
