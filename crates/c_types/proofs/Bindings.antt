-- The scopes of the code are the open scopes of a history.
use Rattle.std.proofs.Common.{◌≡◌, ℕ, zero, suc, ◌+◌, ◌-◌, ◌<◌, ◌≤◌, Bool, true, false, List, [], ◌∷◌, ◌++◌, map, length, take, drop, get_or, Option, Some, None, is_some, slice_get, nat_eq, refl, ap, sym, ◌∙◌, subst, append_assoc, arith}
use Rattle.std.proofs.lemmas.List.{append-nil}
use Rattle.std.proofs.lemmas.Bool.Decides.{nat_tests}
use Rattle.c_typed.specs.declared.types.ObjectType.{ObjectType}
use Rattle.c_types.specs.declared.table.Table.{Table}
use Rattle.c_types.specs.declared.scopes.Home.{Home}
use Rattle.c_types.specs.declared.scopes.Binding.{Binding}
use Rattle.c_types.specs.declared.scopes.Scopes.{Scopes}
use Rattle.c_typed.specs.Marks.{Variable}
use Rattle.c_typed.specs.tools.Scopes.{Binding as Meant, Scopes as Open, find_in, find}
use Rattle.c_types.specs.tools.Tables.{looked, put, put_in}
use Rattle.c_types.specs.tools.KnownSteps.{opened, start_of, without_last, restored, bindings_from, closed, bind, at_least, is_bound_here}
use Rattle.c_types.proofs.Outlined.{variable_at, variable_of}

-- Tables.
put_same : (x : ℕ) (o : Option ℕ) (xs : List (Option ℕ)) → get_or (put_in x o xs) x None ≡ o
put_same zero o [] = refl
put_same zero o (p ∷ ps) = refl
put_same (suc x) o [] = put_same x o []
put_same (suc x) o (p ∷ ps) = put_same x o ps

put_other : (y x : ℕ) (o : Option ℕ) (xs : List (Option ℕ)) → (x ≡ y → ⊥) → get_or (put_in y o xs) x None ≡ get_or xs x None
put_other zero zero o xs other = absurd (other refl)
put_other zero (suc x) o [] other = refl
put_other zero (suc x) o (p ∷ ps) other = refl
put_other (suc y) zero o [] other = refl
put_other (suc y) zero o (p ∷ ps) other = refl
put_other (suc y) (suc x) o [] other = put_other y x o [] (λ e. other (ap suc e))
put_other (suc y) (suc x) o (p ∷ ps) other = put_other y x o ps (λ e. other (ap suc e))

abbrev pub when : {A : Type 0} → Bool → A → A → A
when t a b = elim t [ true ↦ a | false ↦ b ]

abbrev Is : {A : Type 0} → Option A → Type 0
Is None = ⊥
Is (Some a) = Unit {0}

pub none_some : {A : Type 0} {a : A} → None ≡ Some a → ⊥
none_some {A} {a} e = subst Is (sym e) tt

pub some_is : {A : Type 0} {a b : A} → Some a ≡ Some b → a ≡ b
some_is {A} {a} {b} e = ap (λ o. elim o [ None ↦ a | Some x ↦ x ]) e

false_true : false ≡ true → ⊥
false_true e = subst IsFalse (sym e) tt where
  IsFalse : Bool → Type 0
  IsFalse true = Unit {0}
  IsFalse false = ⊥

pub same_name : (x y : ℕ) → nat_eq x y ≡ true → x ≡ y
same_name x y e = grind (arith, nat_tests, e)

own_name : (x : ℕ) → nat_eq x x ≡ true
own_name x = grind (arith, nat_tests)

other_name : (x y : ℕ) → nat_eq x y ≡ false → x ≡ y → ⊥
other_name x y e is = false_true (sym e ∙ ap (λ y. nat_eq x y) (sym is) ∙ own_name x)

pub looked_put : (y x : ℕ) (o : Option ℕ) (t : Table) → looked (put y o t) x ≡ when (nat_eq x y) o (looked t x)
looked_put y x o t = by (nat_eq x y) refl where
  by : (b : Bool) → nat_eq x y ≡ b → looked (put y o t) x ≡ when b o (looked t x)
  by true e = subst (λ x. looked (put y o t) x ≡ o) (sym (same_name x y e)) (put_same y o t.entries)
  by false e = put_other y x o t.entries (other_name x y e)

-- The bindings of open scopes, the oldest first, and where each scope begins among them.
abbrev pub reversed : List Meant → List Meant
reversed [] = []
reversed (b ∷ bs) = reversed bs ++ (b ∷ [])

abbrev pub in_order : Open → List Meant
in_order [] = []
in_order (s ∷ ss) = in_order ss ++ reversed s

abbrev pub starts_of : Open → List ℕ
starts_of [] = []
starts_of (s ∷ ss) = starts_of ss ++ (length (in_order ss) ∷ [])

abbrev pub shown : Binding → Meant
shown b = record { name = b.name; variable = variable_at b.home b.number b.object }

-- the index of the last binding of a name
abbrev further : ℕ → ℕ → Option ℕ → Option ℕ
further x y None = when (nat_eq x y) (Some 0) None
further x y (Some i) = Some (suc i)

abbrev pub last_of : ℕ → List Binding → Option ℕ
last_of x [] = None
last_of x (b ∷ bs) = further x b.name (last_of x bs)

-- each hides the last of its name before it
abbrev pub AllHide : List Binding → List Binding → Type 0
AllHide before [] = Unit {0}
AllHide before (b ∷ bs) = (b.hidden ≡ last_of b.name before) × AllHide (before ++ (b ∷ [])) bs

pub record AreOpen (ss : Open) (s : Scopes) : Type 0 where
  pub bindings : map shown s.bindings ≡ in_order ss
  pub starts : s.starts ≡ starts_of ss
  pub newest : (x : ℕ) → looked s.newest x ≡ last_of x s.bindings
  pub hide : AllHide [] s.bindings

-- One more binding.
map_append : {A B : Type 0} (f : A → B) (xs ys : List A) → map f (xs ++ ys) ≡ map f xs ++ map f ys
map_append f [] ys = refl
map_append f (x ∷ xs) ys = ap (λ zs. f x ∷ zs) (map_append f xs ys)

last_step : (x y : ℕ) (t : Bool) (n : ℕ) (o : Option ℕ) → further x y (when t (Some n) o) ≡ when t (Some (suc n)) (further x y o)
last_step x y true n o = refl
last_step x y false n o = refl

last_push : (x : ℕ) (bs : List Binding) (b : Binding) → last_of x (bs ++ (b ∷ [])) ≡ when (nat_eq x b.name) (Some (length bs)) (last_of x bs)
last_push x [] b = refl
last_push x (c ∷ bs) b = ap (further x c.name) (last_push x bs b) ∙ last_step x c.name (nat_eq x b.name) (length bs) (last_of x bs)

hide_push : (before bs : List Binding) (b : Binding) → AllHide before bs → b.hidden ≡ last_of b.name (before ++ bs) → AllHide before (bs ++ (b ∷ []))
hide_push before [] b all is = (is ∙ ap (last_of b.name) (append-nil before), tt)
hide_push before (c ∷ bs) b all is = (all.0, hide_push (before ++ (c ∷ [])) bs b all.1 (is ∙ ap (last_of b.name) (sym (append_assoc before (c ∷ []) bs))))

pub binds : (x n : ℕ) (home : Home) (t : ObjectType) (s : List Meant) (ss : Open) (c : Scopes) → AreOpen (s ∷ ss) c
    → AreOpen ((record { name = x; variable = variable_at home n t } ∷ s) ∷ ss) (bind x home n t c)
binds x n home t s ss c is = record {
  bindings = map_append shown c.bindings (new ∷ []) ∙ ap (λ bs. bs ++ (shown new ∷ [])) is.bindings ∙ append_assoc (in_order ss) (reversed s) (shown new ∷ []);
  starts = is.starts;
  newest = λ y.
      looked_put x y (Some (length c.bindings)) c.newest ∙ ap (when (nat_eq y x) (Some (length c.bindings))) (is.newest y) ∙ sym (last_push y c.bindings new);
  hide = hide_push [] c.bindings new is.hide (is.newest x);
} where
  new : Binding
  new = record { name = x; home = home; number = n; object = t; hidden = looked c.newest x }

-- A scope is opened.
shown_length : (bs : List Binding) → length (map shown bs) ≡ length bs
shown_length [] = refl
shown_length (b ∷ bs) = ap suc (shown_length bs)

count_same : (ss : Open) (c : Scopes) → AreOpen ss c → length c.bindings ≡ length (in_order ss)
count_same ss c is = sym (shown_length c.bindings) ∙ ap length is.bindings

pub opens_one : (ss : Open) (c : Scopes) → AreOpen ss c → AreOpen ([] ∷ ss) (opened c)
opens_one ss c is = record {
  bindings = is.bindings ∙ sym (append-nil (in_order ss));
  starts = ap (λ ns. ns ++ (length c.bindings ∷ [])) is.starts ∙ ap (λ n. starts_of ss ++ (n ∷ [])) (count_same ss c is);
  newest = is.newest;
  hide = is.hide;
}

-- The innermost scope is closed.
without_pushed : (ns : List ℕ) (n : ℕ) → without_last (ns ++ (n ∷ [])) ≡ ns
without_pushed [] n = refl
without_pushed (m ∷ []) n = refl
without_pushed (l ∷ m ∷ ns) n = ap (λ ms. l ∷ ms) (without_pushed (m ∷ ns) n)

length_push : (ns : List ℕ) (n : ℕ) → length (ns ++ (n ∷ [])) - 1 ≡ length ns
length_push ns n = let one_more = long ns in omega (arith, one_more) where
  long : (ns : List ℕ) → length (ns ++ (n ∷ [])) ≡ suc (length ns)
  long [] = refl
  long (m ∷ ns) = ap suc (long ns)

get_push : (ns : List ℕ) (n : ℕ) → get_or (ns ++ (n ∷ [])) (length ns) 0 ≡ n
get_push [] n = refl
get_push (m ∷ ns) n = get_push ns n

pub start_is : (s : List Meant) (ss : Open) (c : Scopes) → AreOpen (s ∷ ss) c → start_of c.starts ≡ length (in_order ss)
start_is s ss c is =
    ap start_of is.starts ∙ ap (λ n. get_or (starts_of (s ∷ ss)) n 0) (length_push (starts_of ss) (length (in_order ss))) ∙ get_push (starts_of ss) (length (in_order ss))

split_at : (n : ℕ) (bs : List Binding) → bs ≡ take n bs ++ bindings_from n bs
split_at zero bs = refl
split_at (suc n) [] = refl
split_at (suc n) (b ∷ bs) = ap (λ cs. b ∷ cs) (split_at n bs)

map_take : (n : ℕ) (bs : List Binding) → map shown (take n bs) ≡ take n (map shown bs)
map_take zero bs = refl
map_take (suc n) [] = refl
map_take (suc n) (b ∷ bs) = ap (λ cs. shown b ∷ cs) (map_take n bs)

map_from : (n : ℕ) (bs : List Binding) → map shown (bindings_from n bs) ≡ drop n (map shown bs)
map_from zero bs = refl
map_from (suc n) [] = refl
map_from (suc n) (b ∷ bs) = map_from n bs

take_front : {A : Type 0} (xs ys : List A) → take (length xs) (xs ++ ys) ≡ xs
take_front [] ys = refl
take_front (x ∷ xs) ys = ap (λ xs. x ∷ xs) (take_front xs ys)

drop_front : {A : Type 0} (xs ys : List A) → drop (length xs) (xs ++ ys) ≡ ys
drop_front [] ys = refl
drop_front (x ∷ xs) ys = drop_front xs ys

hide_split : (before xs ys : List Binding) → AllHide before (xs ++ ys) → AllHide before xs × AllHide (before ++ xs) ys
hide_split before [] ys all = (tt, subst (λ bs. AllHide bs ys) (sym (append-nil before)) all)
hide_split before (x ∷ xs) ys all =
    let rest = hide_split (before ++ (x ∷ [])) xs ys all.1 in
    ((all.0, rest.0), subst (λ bs. AllHide bs ys) (append_assoc before (x ∷ []) xs) rest.1)

restored_one : (x : ℕ) (front : List Binding) (b : Binding) (t : Table) → b.hidden ≡ last_of b.name front → looked t x ≡ last_of x (front ++ (b ∷ [])) → looked (put b.name b.hidden t) x ≡ last_of x front
restored_one x front b t hides is = looked_put b.name x b.hidden t ∙ by (nat_eq x b.name) refl where
  by : (c : Bool) → nat_eq x b.name ≡ c → when c b.hidden (looked t x) ≡ last_of x front
  by true e = hides ∙ ap (λ x. last_of x front) (sym (same_name x b.name e))
  by false e = is ∙ last_push x front b ∙ ap (λ c. when c (Some (length front)) (last_of x front)) e

restored_last : (x : ℕ) (front back : List Binding) (t : Table) → AllHide front back → looked t x ≡ last_of x (front ++ back) → looked (restored back t) x ≡ last_of x front
restored_last x front [] t all is = is ∙ ap (last_of x) (append-nil front)
restored_last x front (b ∷ bs) t all is =
    restored_one x front b (restored bs t) all.0 (restored_last x (front ++ (b ∷ [])) bs t all.1 (is ∙ ap (last_of x) (sym (append_assoc front (b ∷ []) bs))))

pub closes_one : (s : List Meant) (ss : Open) (c : Scopes) → AreOpen (s ∷ ss) c → AreOpen ss (closed c)
closes_one s ss c is =
    let n = start_of c.starts in
    let at = start_is s ss c is in
    let split = hide_split [] (take n c.bindings) (bindings_from n c.bindings) (subst (AllHide []) (split_at n c.bindings) is.hide) in
    record {
      bindings = map_take n c.bindings ∙ ap (take n) is.bindings ∙ ap (λ n. take n (in_order (s ∷ ss))) at ∙ take_front (in_order ss) (reversed s);
      starts = ap without_last is.starts ∙ without_pushed (starts_of ss) (length (in_order ss));
      newest = λ x. restored_last x (take n c.bindings) (bindings_from n c.bindings) c.newest split.1 (is.newest x ∙ ap (last_of x) (split_at n c.bindings));
      hide = split.0;
    }

-- The newest binding of a name is the variable that it means.
abbrev otherwise : Option Variable → Option Variable → Option Variable
otherwise o p = elim o [ Some v ↦ Some v | None ↦ p ]

abbrev last_meant : ℕ → List Meant → Option Variable
last_meant x [] = None
last_meant x (b ∷ bs) = otherwise (last_meant x bs) (when (nat_eq x b.name) (Some b.variable) None)

otherwise_none : (o : Option Variable) → otherwise o None ≡ o
otherwise_none None = refl
otherwise_none (Some v) = refl

otherwise_assoc : (o p q : Option Variable) → otherwise (otherwise o p) q ≡ otherwise o (otherwise p q)
otherwise_assoc None p q = refl
otherwise_assoc (Some v) p q = refl

meant_append : (x : ℕ) (bs cs : List Meant) → last_meant x (bs ++ cs) ≡ otherwise (last_meant x cs) (last_meant x bs)
meant_append x [] cs = sym (otherwise_none (last_meant x cs))
meant_append x (b ∷ bs) cs =
    ap (λ o. otherwise o (when (nat_eq x b.name) (Some b.variable) None)) (meant_append x bs cs)
    ∙ otherwise_assoc (last_meant x cs) (last_meant x bs) (when (nat_eq x b.name) (Some b.variable) None)

when_first : (t : Bool) (v : Variable) (o p : Option Variable) → o ≡ p → otherwise (when t (Some v) None) o ≡ elim t [ true ↦ Some v | false ↦ p ]
when_first true v o p is = refl
when_first false v o p is = is

meant_reversed : (x : ℕ) (s : List Meant) → last_meant x (reversed s) ≡ find_in x s
meant_reversed x [] = refl
meant_reversed x (b ∷ s) = meant_append x (reversed s) (b ∷ []) ∙ when_first (nat_eq x b.name) b.variable (last_meant x (reversed s)) (find_in x s) (meant_reversed x s)

meant_found : (x : ℕ) (ss : Open) → last_meant x (in_order ss) ≡ find x ss
meant_found x [] = refl
meant_found x (s ∷ ss) =
    meant_append x (in_order ss) (reversed s) ∙ ap (λ o. otherwise o (last_meant x (in_order ss))) (meant_reversed x s) ∙ ap (otherwise (find_in x s)) (meant_found x ss)

abbrev pub at_index : List Binding → Option ℕ → Option Binding
at_index bs None = None
at_index bs (Some i) = slice_get bs i

last_when : (t : Bool) (b : Binding) (bs : List Binding) → variable_of (at_index (b ∷ bs) (when t (Some 0) None)) ≡ when t (Some (shown b).variable) None
last_when true b bs = refl
last_when false b bs = refl

last_further : (x : ℕ) (b : Binding) (bs : List Binding) (o : Option ℕ) (m : Option Variable) → ((j : ℕ) → o ≡ Some j → (c : Binding) × (slice_get bs j ≡ Some c)) → variable_of (at_index bs o) ≡ m
    → variable_of (at_index (b ∷ bs) (further x b.name o)) ≡ otherwise m (when (nat_eq x b.name) (Some (shown b).variable) None)
last_further x b bs None m there is = last_when (nat_eq x b.name) b bs ∙ ap (λ o. otherwise o (when (nat_eq x b.name) (Some (shown b).variable) None)) is
last_further x b bs (Some j) m there is =
    let c = there j refl in
    let found : variable_of (slice_get bs j) ≡ Some (shown c.0).variable = ap variable_of c.1 in
    found ∙ ap (λ o. otherwise o (when (nat_eq x b.name) (Some (shown b).variable) None)) (sym found ∙ is)

first_there : (b : Binding) (bs : List Binding) (i : ℕ) (t : Bool) → when t (Some 0) None ≡ Some i → (c : Binding) × (slice_get (b ∷ bs) i ≡ Some c)
first_there b bs i true e = (b, ap (slice_get (b ∷ bs)) (sym (some_is e)))
first_there b bs i false e = absurd (none_some e)

further_there : (x : ℕ) (b : Binding) (bs : List Binding) (i : ℕ) (o : Option ℕ) → ((j : ℕ) → o ≡ Some j → (c : Binding) × (slice_get bs j ≡ Some c)) → further x b.name o ≡ Some i
    → (c : Binding) × (slice_get (b ∷ bs) i ≡ Some c)
further_there x b bs i None there e = first_there b bs i (nat_eq x b.name) e
further_there x b bs i (Some j) there e = let c = there j refl in (c.0, ap (slice_get (b ∷ bs)) (sym (some_is e)) ∙ c.1)

last_there : (x : ℕ) (bs : List Binding) (i : ℕ) → last_of x bs ≡ Some i → (c : Binding) × (slice_get bs i ≡ Some c)
last_there x [] i e = absurd (none_some e)
last_there x (b ∷ bs) i e = further_there x b bs i (last_of x bs) (last_there x bs) e

last_variable : (x : ℕ) (bs : List Binding) → variable_of (at_index bs (last_of x bs)) ≡ last_meant x (map shown bs)
last_variable x [] = refl
last_variable x (b ∷ bs) = last_further x b bs (last_of x bs) (last_meant x (map shown bs)) (last_there x bs) (last_variable x bs)

pub finds : (x : ℕ) (ss : Open) (c : Scopes) → AreOpen ss c → variable_of (at_index c.bindings (looked c.newest x)) ≡ find x ss
finds x ss c is = ap (λ o. variable_of (at_index c.bindings o)) (is.newest x) ∙ last_variable x c.bindings ∙ ap (last_meant x) is.bindings ∙ meant_found x ss

-- The innermost scope has a binding of a name.
last_append : (x : ℕ) (front back : List Binding) → last_of x (front ++ back) ≡ elim (last_of x back) [ None ↦ last_of x front | Some i ↦ Some (length front + i) ]
last_append x [] back = by (last_of x back) where
  by : (o : Option ℕ) → o ≡ elim o [ None ↦ None | Some i ↦ Some (0 + i) ]
  by None = refl
  by (Some i) = let e : i ≡ 0 + i = omega arith in ap (λ i. Some i) e
last_append x (b ∷ front) back = ap (further x b.name) (last_append x front back) ∙ by (last_of x back) where
  by : (o : Option ℕ) → further x b.name (elim o [ None ↦ last_of x front | Some i ↦ Some (length front + i) ]) ≡ elim o [ None ↦ further x b.name (last_of x front) | Some i ↦ Some (suc (length front) + i) ]
  by None = refl
  by (Some i) = let e : suc (length front + i) ≡ suc (length front) + i = omega arith in ap (λ i. Some i) e

abbrev IsBelow : ℕ → Option ℕ → Type 0
IsBelow n None = Unit {0}
IsBelow n (Some i) = i < n

below_when : (n : ℕ) (t : Bool) → IsBelow (suc n) (when t (Some 0) None)
below_when n true = omega arith
below_when n false = tt

below_further : (x y n : ℕ) (o : Option ℕ) → IsBelow n o → IsBelow (suc n) (further x y o)
below_further x y n None is = below_when n (nat_eq x y)
below_further x y n (Some i) is = omega (arith, is)

last_below : (x : ℕ) (bs : List Binding) → IsBelow (length bs) (last_of x bs)
last_below x [] = tt
last_below x (b ∷ bs) = below_further x b.name (length bs) (last_of x bs) (last_below x bs)

not_at_least : (n : ℕ) (o : Option ℕ) → IsBelow n o → at_least n o ≡ false
not_at_least n None is = refl
not_at_least n (Some i) is = grind (arith, nat_tests, is)

from_start : (n : ℕ) (o p : Option ℕ) → IsBelow n p → at_least n (elim o [ None ↦ p | Some i ↦ Some (n + i) ]) ≡ is_some o
from_start n None p below = not_at_least n p below
from_start n (Some i) p below = let le : n ≤ n + i = omega arith in grind (arith, nat_tests, le)

variable_some : (o : Option Binding) → is_some (variable_of o) ≡ is_some o
variable_some None = refl
variable_some (Some b) = refl

index_some : (bs : List Binding) (o : Option ℕ) → ((i : ℕ) → o ≡ Some i → (c : Binding) × (slice_get bs i ≡ Some c)) → is_some o ≡ is_some (at_index bs o)
index_some bs None there = refl
index_some bs (Some i) there = let c = there i refl in sym (ap is_some c.1)

last_some : (x : ℕ) (bs : List Binding) → is_some (last_of x bs) ≡ is_some (last_meant x (map shown bs))
last_some x bs = index_some bs (last_of x bs) (last_there x bs) ∙ sym (variable_some (at_index bs (last_of x bs))) ∙ ap is_some (last_variable x bs)

take_count : (n : ℕ) (bs : List Binding) → n ≤ length bs → length (take n bs) ≡ n
take_count zero bs le = refl
take_count (suc n) [] le = absurd (omega (arith, le))
take_count (suc n) (b ∷ bs) le = ap suc (take_count n bs (omega (arith, le)))

length_append : {A : Type 0} (xs ys : List A) → length xs ≤ length (xs ++ ys)
length_append [] ys = omega arith
length_append (x ∷ xs) ys = let rest = length_append xs ys in omega (arith, rest)

pub has : (x : ℕ) (s : List Meant) (ss : Open) (c : Scopes) → AreOpen (s ∷ ss) c → is_bound_here c x ≡ is_some (find_in x s)
has x s ss c is =
    let n = start_of c.starts in
    let at = start_is s ss c is in
    let front = take n c.bindings in
    let back = bindings_from n c.bindings in
    let all = count_same (s ∷ ss) c is in
    let le = length_append (in_order ss) (reversed s) in
    let count = take_count n c.bindings (omega (arith, at, all, le)) in
    let newest : looked c.newest x ≡ elim (last_of x back) [ None ↦ last_of x front | Some i ↦ Some (length front + i) ] =
    is.newest x ∙ ap (last_of x) (split_at n c.bindings) ∙ last_append x front back in
    let meant : last_meant x (map shown back) ≡ find_in x s =
    ap (last_meant x) (map_from n c.bindings ∙ ap (drop n) is.bindings ∙ ap (λ n. drop n (in_order (s ∷ ss))) at ∙ drop_front (in_order ss) (reversed s)) ∙ meant_reversed x s in
    ap (at_least n) newest ∙ ap (λ m. at_least n (elim (last_of x back) [ None ↦ last_of x front | Some i ↦ Some (m + i) ])) count
    ∙ from_start n (last_of x back) (last_of x front) (subst (λ m. IsBelow m (last_of x front)) count (last_below x front))
    ∙ last_some x back ∙ ap is_some meant
