-- The types that a typed program declares: its structs, and the arrays of its fields, globals and variables. They are few.
use Rattle.std.proofs.Common.{◌≡◌, ℕ, zero, suc, ◌+◌, ◌≤◌, inl, inr, List, [], ◌∷◌, ◌++◌, map, length, Some, refl, ap, subst, arith}
use Rattle.std.specs.Prelude.{slice_get}
use Rattle.std.proofs.lemmas.List.{length-append}
use Rattle.c_typed.specs.declared.types.BaseType.{BaseType}
use Rattle.c_typed.specs.declared.types.ObjectType.{ObjectType}
use Rattle.c_typed.specs.declared.program.Struct.{Struct}
use Rattle.c_typed.specs.declared.program.Function.{Function}
use Rattle.c_typed.specs.Programs.{declaration_limit}
use Rattle.c_typed.specs.Typed.{Typed}
use Rattle.c_typed.specs.IsWell.{objects_of, declared_in, declared_structs, declared_functions, IsWell}
use Rattle.tac_lower.specs.CodeOf.{variables_in}
use Rattle.tac_lower.proofs.form.Each.{Each, each_by}
use Rattle.tac_lower.proofs.form.Parted.{Member, Arrays, Parted}

-- the whole first
abbrev arrays_of : BaseType → ℕ → List ℕ → List ObjectType
arrays_of base stars [] = []
arrays_of base stars (n ∷ ns) = record { base = base; stars = stars; lengths = n ∷ ns } ∷ arrays_of base stars ns

abbrev arrays_in : List ObjectType → List ObjectType
arrays_in [] = []
arrays_in (t ∷ ts) = arrays_of t.base t.stars t.lengths ++ arrays_in ts

abbrev pub struct_of : ℕ → ObjectType
struct_of k = record { base = BaseType.Struct k; stars = 0; lengths = [] }

-- structs from this number on
abbrev struct_types : ℕ → List Struct → List ObjectType
struct_types k [] = []
struct_types k (d ∷ ds) = struct_of k ∷ (arrays_in d.fields ++ struct_types (suc k) ds)

abbrev pub globals_of : Typed → List ObjectType
globals_of t = map (λ g. g.object) t.globals

abbrev pub declared_types : Typed → List ObjectType
declared_types t = struct_types 0 t.structs ++ (arrays_in (globals_of t) ++ arrays_in (variables_in t.functions))

-- Their number.
arrays_count : (base : BaseType) (stars : ℕ) (ns : List ℕ) → length (arrays_of base stars ns) ≡ length ns
arrays_count base stars [] = refl
arrays_count base stars (n ∷ ns) = ap suc (arrays_count base stars ns)

arrays_few : (ts : List ObjectType) → length (arrays_in ts) ≤ declared_in ts
arrays_few [] = omega arith
arrays_few (t ∷ ts) =
    let here = arrays_of t.base t.stars t.lengths in
    let both = length-append here (arrays_in ts) in
    let own = arrays_count t.base t.stars t.lengths in
    let rest = arrays_few ts in
    omega (arith, both, own, rest)

structs_few : (k : ℕ) (ds : List Struct) → length (struct_types k ds) ≤ declared_structs ds
structs_few k [] = omega arith
structs_few k (d ∷ ds) =
    let both = length-append (arrays_in d.fields) (struct_types (suc k) ds) in
    let own = arrays_few d.fields in
    let rest = structs_few (suc k) ds in
    omega (arith, both, own, rest)

declared_more : (ts us : List ObjectType) → declared_in (ts ++ us) ≡ declared_in ts + declared_in us
declared_more [] us = omega arith
declared_more (t ∷ ts) us = (let rest = declared_more ts us in omega (arith, rest))

variables_few : (fs : List Function) → declared_in (variables_in fs) ≡ declared_functions fs
variables_few [] = refl
variables_few (f ∷ fs) =
    let both = declared_more (objects_of f.variables) (variables_in fs) in
    let rest = variables_few fs in
    omega (arith, both, rest)

pub few_types : (t : Typed) → IsWell t → length (declared_types t) ≤ declaration_limit
few_types t well =
    let structs = structs_few 0 t.structs in
    let globals = arrays_few (globals_of t) in
    let variables = arrays_few (variables_in t.functions) in
    let all = variables_few t.functions in
    let first = length-append (struct_types 0 t.structs) (arrays_in (globals_of t) ++ arrays_in (variables_in t.functions)) in
    let second = length-append (arrays_in (globals_of t)) (arrays_in (variables_in t.functions)) in
    let few = well.few_declarations in
    omega (arith, structs, globals, variables, all, first, second, few)

-- They are among themselves.
member_front : {A : Type 0} (x : A) (xs ys : List A) → Member x xs → Member x (xs ++ ys)
member_front x [] ys is = absurd is
member_front x (y ∷ xs) ys (inl same) = inl same
member_front x (y ∷ xs) ys (inr there) = inr (member_front x xs ys there)

member_back : {A : Type 0} (x : A) (xs ys : List A) → Member x ys → Member x (xs ++ ys)
member_back x [] ys is = is
member_back x (y ∷ xs) ys is = inr (member_back x xs ys is)

abbrev Among : List ObjectType → List ObjectType → Type 0
Among us vs = (x : ObjectType) → Member x us → Member x vs

arrays_among : (us vs : List ObjectType) → Among us vs → (base : BaseType) (stars : ℕ) (ns : List ℕ) → Arrays us base stars ns → Arrays vs base stars ns
arrays_among us vs all base stars [] is = tt
arrays_among us vs all base stars (n ∷ ns) is = (all (record { base = base; stars = stars; lengths = n ∷ ns }) is.0, arrays_among us vs all base stars ns is.1)

own_arrays : (base : BaseType) (stars : ℕ) (ns : List ℕ) → Arrays (arrays_of base stars ns) base stars ns
own_arrays base stars [] = tt
own_arrays base stars (n ∷ ns) =
    let whole : ObjectType = record { base = base; stars = stars; lengths = n ∷ ns } in
    (inl refl, arrays_among (arrays_of base stars ns) (whole ∷ arrays_of base stars ns) (λ x is. inr is) base stars ns (own_arrays base stars ns))

parted_among : (us vs : List ObjectType) → Among us vs → (ts : List ObjectType) → Each (Parted us) ts → Each (Parted vs) ts
parted_among us vs all ts is = each_by (Parted us) (Parted vs) ts (λ t p. arrays_among us vs all t.base t.stars t.lengths p) is

own_parted : (ts : List ObjectType) → Each (Parted (arrays_in ts)) ts
own_parted [] = tt
own_parted (t ∷ ts) =
    let here = arrays_of t.base t.stars t.lengths in
    let rest = arrays_in ts in (
      arrays_among here (here ++ rest) (λ x is. member_front x here rest is) t.base t.stars t.lengths (own_arrays t.base t.stars t.lengths),
      parted_among rest (here ++ rest) (λ x is. member_back x here rest is) ts (own_parted ts),
    )

-- of a struct by its number
pub record IsListed (us : List ObjectType) (k : ℕ) (d : Struct) : Type 0 where
  pub here : Member (struct_of k) us
  pub fields : Each (Parted us) d.fields

listed_among : (us vs : List ObjectType) (k : ℕ) (d : Struct) → Among us vs → IsListed us k d → IsListed vs k d
listed_among us vs k d all is = record { here = all (struct_of k) is.here; fields = parted_among us vs all d.fields is.fields }

own_struct : (n : ℕ) (ds : List Struct) (k : ℕ) (d : Struct) → slice_get ds k ≡ Some d → IsListed (struct_types n ds) (n + k) d
own_struct n [] k d found = cc
own_struct n (e ∷ ds) zero d found =
    let same : e ≡ d = cc in
    let here : n ≡ n + 0 = omega arith in
    let fields = arrays_in e.fields in
    let rest = struct_types (suc n) ds in
    let own : IsListed (struct_types n (e ∷ ds)) n e = record {
      here = inl refl;
      fields = parted_among fields (struct_types n (e ∷ ds)) (λ x is. inr (member_front x fields rest is)) e.fields (own_parted e.fields);
    } in
    subst (λ x. IsListed (struct_types n (e ∷ ds)) (n + 0) x) same (subst (λ j. IsListed (struct_types n (e ∷ ds)) j e) here own)
own_struct n (e ∷ ds) (suc k) d found =
    let here : suc n + k ≡ n + suc k = omega arith in
    let rest = struct_types (suc n) ds in
    subst (λ j. IsListed (struct_types n (e ∷ ds)) j d) here
    (listed_among rest (struct_types n (e ∷ ds)) (suc n + k) d (λ x is. inr (member_back x (arrays_in e.fields) rest is)) (own_struct (suc n) ds k d found))

module _ (t : Typed) where
  pub structs_listed : (k : ℕ) (d : Struct) → slice_get t.structs k ≡ Some d → IsListed (declared_types t) k d
  structs_listed k d found =
      let structs = struct_types 0 t.structs in
      let rest = arrays_in (globals_of t) ++ arrays_in (variables_in t.functions) in
      let here : 0 + k ≡ k = omega arith in
      listed_among structs (declared_types t) k d (λ x is. member_front x structs rest is) (subst (λ j. IsListed structs j d) here (own_struct 0 t.structs k d found))

  pub globals_parted : Each (Parted (declared_types t)) (globals_of t)
  globals_parted =
      let structs = struct_types 0 t.structs in
      let globals = arrays_in (globals_of t) in
      let rest = arrays_in (variables_in t.functions) in
      parted_among globals (declared_types t) (λ x is. member_back x structs (globals ++ rest) (member_front x globals rest is)) (globals_of t) (own_parted (globals_of t))

  pub variables_parted : Each (Parted (declared_types t)) (variables_in t.functions)
  variables_parted =
      let structs = struct_types 0 t.structs in
      let globals = arrays_in (globals_of t) in
      let rest = arrays_in (variables_in t.functions) in
      parted_among rest (declared_types t) (λ x is. member_back x structs (globals ++ rest) (member_back x globals rest is)) (variables_in t.functions) (own_parted (variables_in t.functions))
