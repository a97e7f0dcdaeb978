-- The ways in which a name can be met, in the outline and in the text.
use Rattle.std.proofs.Common.{◌≡◌, ℕ, zero, suc, ◌<◌, ◌≤◌, Bool, true, false, List, [], ◌∷◌, map, length, Option, Some, None, slice_get, nat_lt, codes, bytes_eq, refl, ap, sym, ◌∙◌, subst, arith}
use Rattle.std.proofs.lemmas.Bool.Decides.{nat_tests}
use Rattle.std.proofs.lemmas.Slice.Eq.{bytes_eq-Decides}
use Rattle.c_types.specs.declared.outline.Outline.{Outline}
use Rattle.c_types.specs.declared.outline.Signature.{Signature as OutlineSignature}
use Rattle.c_types.specs.declared.scopes.Binding.{Binding}
use Rattle.c_types.specs.declared.known.Known.{Known}
use Rattle.c_typed.specs.Types.{place_of}
use Rattle.c_typed.specs.Marks.{History, Variable}
use Rattle.c_typed.specs.Whole.{Whole, Signature, Builtin, Meaning, meaning, spelling, builtin_of, is_main, function_named}
use Rattle.c_typed.specs.Exprs.{is_malloc}
use Rattle.c_types.specs.tools.Tables.{looked}
use Rattle.c_types.specs.tools.Outlines as outlines
use Rattle.c_types.specs.tools.Outlines.{spelled, bound, means_malloc}
use Rattle.c_types.proofs.Outlined.{IsOutline, Names, spelled_builtin, spelled_so, number_below, signature_of, signature_at, variable_at, variable_of}

pub data IsMet (w : Whole) (o : Outline) (h : History) (k : Known) (x : ℕ) : Type 0 where
  object : (b : Binding) → bound k x ≡ Some b → meaning w h x ≡ Meaning.object (variable_at b.home b.number b.object) → IsMet w o h k x
  builtin : (b : Builtin) → bound k x ≡ None → spelled o x ≡ spelled_builtin (Some b) → meaning w h x ≡ Meaning.builtin b → IsMet w o h k x
  function : (j : ℕ) (s : OutlineSignature) → bound k x ≡ None → spelled o x ≡ spelled_so (is_main w x) None → looked o.numbers x ≡ Some j → slice_get o.functions j ≡ Some s
      → meaning w h x ≡ Meaning.function j (signature_of s) → IsMet w o h k x
  nothing : bound k x ≡ None → spelled o x ≡ spelled_so (is_main w x) None → looked o.numbers x ≡ None → meaning w h x ≡ Meaning.nothing → IsMet w o h k x

abbrev Is : {A : Type 0} → Option A → Type 0
Is None = ⊥
Is (Some a) = Unit {0}

none_some : {A : Type 0} {a : A} → None ≡ Some a → ⊥
none_some {A} {a} e = subst Is (sym e) tt

some_is : {A : Type 0} {a b : A} → Some a ≡ Some b → a ≡ b
some_is {A} {a} {b} e = ap (λ o. elim o [ None ↦ a | Some x ↦ x ]) e

-- no built-in is named `main`
pub main_plain : (text : List ℕ) → bytes_eq text (codes "main") ≡ true → builtin_of text ≡ None
main_plain text e = ap builtin_of ((bytes_eq-Decides text (codes "main")).0 e)

not_main : (w : Whole) (x : ℕ) (b : Builtin) → builtin_of (spelling w x) ≡ Some b → is_main w x ≡ false
not_main w x b e = by (is_main w x) refl where
  by : (t : Bool) → is_main w x ≡ t → t ≡ false
  by true at = absurd (none_some (sym (main_plain (spelling w x) at) ∙ e))
  by false at = refl

-- the number of a function
get_less : {A : Type 0} (xs : List A) (k : ℕ) (a : A) → slice_get xs k ≡ Some a → k < length xs
get_less [] k a e = absurd (none_some e)
get_less (x ∷ xs) zero a e = omega arith
get_less (x ∷ xs) (suc k) a e = let less = get_less xs k a e in omega (arith, less)

get_past : {A : Type 0} (xs : List A) (k : ℕ) → slice_get xs k ≡ None → length xs ≤ k
get_past [] k e = omega arith
get_past (x ∷ xs) zero e = absurd (none_some (sym e))
get_past (x ∷ xs) (suc k) e = let le = get_past xs k e in omega (arith, le)

below : (n m : ℕ) → n < m → number_below n m ≡ Some n
below n m less = let test : nat_lt n m ≡ true = grind (arith, nat_tests, less) in ap (λ b. elim b [ true ↦ Some n | false ↦ None ]) test

not_below : (n m : ℕ) → m ≤ n → number_below n m ≡ None
not_below n m le = let test : nat_lt n m ≡ false = grind (arith, nat_tests, le) in ap (λ b. elim b [ true ↦ Some n | false ↦ None ]) test

signature_there : (o : Option OutlineSignature) (s : Signature) → signature_at o ≡ Some s → (t : OutlineSignature) × (o ≡ Some t) × (signature_of t ≡ s)
signature_there None s e = absurd (none_some e)
signature_there (Some t) s e = (t, refl, some_is e)

module _ (w : Whole) (o : Outline) (h : History) (k : Known) (is : IsOutline w o) (names : Names h k) (x : ℕ) where
  abbrev index : ℕ
  index = place_of x (map (λ s. s.name) w.functions)

  abbrev named_by : Option Signature → Meaning
  named_by s = elim s [ None ↦ Meaning.nothing | Some s ↦ Meaning.function index s ]

  abbrev built_by : Option Builtin → Meaning
  built_by b = elim b [ Some b ↦ Meaning.builtin b | None ↦ function_named w x ]

  abbrev meant_by : Option Variable → Meaning
  meant_by v = elim v [ Some v ↦ Meaning.object v | None ↦ built_by (builtin_of (spelling w x)) ]

  plain : bound k x ≡ None → spelled o x ≡ spelled_so (is_main w x) None → meaning w h x ≡ function_named w x → (s : Option Signature) → slice_get w.functions index ≡ s → IsMet w o h k x
  plain none spells means None there =
      IsMet.nothing none spells (is.numbers x ∙ not_below index (length w.functions) (get_past w.functions index there)) (means ∙ ap named_by there)
  plain none spells means (Some s) there =
      let t = signature_there (slice_get o.functions index) s (is.functions index ∙ there) in
      IsMet.function index t.0 none spells (is.numbers x ∙ below index (length w.functions) (get_less w.functions index s there)) t.1
      (means ∙ ap named_by there ∙ ap (λ s. Meaning.function index s) (sym t.2))

  unbound : bound k x ≡ None → (b : Option Builtin) → builtin_of (spelling w x) ≡ b → meaning w h x ≡ built_by (builtin_of (spelling w x)) → IsMet w o h k x
  unbound none None built means =
      plain none (is.spells x ∙ ap (spelled_so (is_main w x)) built) (means ∙ ap built_by built) (slice_get w.functions index) refl
  unbound none (Some b) built means =
      IsMet.builtin b none (is.spells x ∙ ap (spelled_so (is_main w x)) built ∙ ap (λ t. spelled_so t (Some b)) (not_main w x b built)) (means ∙ ap built_by built)

  by_binding : (b : Option Binding) → bound k x ≡ b → IsMet w o h k x
  by_binding (Some b) there = IsMet.object b there (ap meant_by (sym (names.variables x) ∙ ap variable_of there))
  by_binding None there = unbound there (builtin_of (spelling w x)) refl (ap meant_by (sym (names.variables x) ∙ ap variable_of there))

  pub met : IsMet w o h k x
  met = by_binding (bound k x) refl

  -- a name means `malloc` in both
  malloc_by : IsMet w o h k x → means_malloc o k x ≡ is_malloc (meaning w h x)
  malloc_by (IsMet.object b there means) = ap (λ b. elim b [ Some b ↦ false | None ↦ outlines.is_malloc (spelled o x) ]) there ∙ sym (ap is_malloc means)
  malloc_by (IsMet.builtin b none spells means) =
      ap (λ b. elim b [ Some b ↦ false | None ↦ outlines.is_malloc (spelled o x) ]) none ∙ ap outlines.is_malloc spells ∙ built b ∙ sym (ap is_malloc means) where
        built : (b : Builtin) → outlines.is_malloc (spelled_builtin (Some b)) ≡ is_malloc (Meaning.builtin b)
        built Builtin.getint = refl
        built Builtin.left = refl
        built Builtin.putint = refl
        built Builtin.malloc = refl
        built Builtin.free = refl
  malloc_by (IsMet.function j s none spells number there means) =
      ap (λ b. elim b [ Some b ↦ false | None ↦ outlines.is_malloc (spelled o x) ]) none ∙ ap outlines.is_malloc spells ∙ other (is_main w x) ∙ sym (ap is_malloc means) where
        other : (t : Bool) → outlines.is_malloc (spelled_so t None) ≡ false
        other true = refl
        other false = refl
  malloc_by (IsMet.nothing none spells number means) =
      ap (λ b. elim b [ Some b ↦ false | None ↦ outlines.is_malloc (spelled o x) ]) none ∙ ap outlines.is_malloc spells ∙ other (is_main w x) ∙ sym (ap is_malloc means) where
        other : (t : Bool) → outlines.is_malloc (spelled_so t None) ≡ false
        other true = refl
        other false = refl

  pub same_malloc : means_malloc o k x ≡ is_malloc (meaning w h x)
  same_malloc = malloc_by met
