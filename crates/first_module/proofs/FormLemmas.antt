-- What good form says of the tables of code.
use Rattle.std.proofs.Common.{◌≡◌, ℕ, suc, ◌+◌, ◌<◌, ◌≤◌, Bool, true, false, cond, not, ◌||◌, ◌&&◌, List, [], ◌∷◌, length, map, replicate, nat_lt, Option, Some, None, refl, sym, ap, subst, ◌∙◌, arith}
use Rattle.std.specs.Prelude.{IsTrue, All, slice_get, sum, if◌then◌else◌}
use Rattle.std.specs.List.{AllByRecursion, list_all, list_any, range_with_len}
use Rattle.std.proofs.lemmas.Bool.{and_from, false≢true}
use Rattle.std.proofs.lemmas.List.{append-nil, length-append, length-map, length-replicate}
use Rattle.std.proofs.lemmas.List.Elements.{All-from_recursion}
use Rattle.std.proofs.lemmas.List.Sums.{sum_by-cons}
use Rattle.std.proofs.lemmas.List.FromFn.{length-map-range_with_len}
use Rattle.std.proofs.lemmas.Option.{none-some, slice_get_within}
use Rattle.tac_ir.specs.declared.code.Code.{Code}
use Rattle.tac_ir.specs.declared.code.Fun.{Fun}
use Rattle.tac_ir.specs.declared.code.Instr.{Instr}
use Rattle.tac_ir.specs.declared.code.Lined.{Lined}
use Rattle.tac_ir.specs.declared.code.Place.{Place}
use Rattle.tac_ir.specs.GoodForm.{GoodForm, NamesExist}
use Rattle.tac_ir.specs.Layout.{shapes_of_globals}
use Rattle.tac_ir.specs.Module.{IsOrdered, is_chain}
use Rattle.tac_ir.specs.Numbers.{defs_in_code, defs_made, new_def, new_read, numbers_in, numbers_in_funs, reads_made}
use Rattle.tac_ir.specs.Places.{end_from, shape_of_place}
use Rattle.word_table.specs.Tables.{CanRun}
use Rattle.first_module.specs.ClassesOf.{classes_of, readers_of, same_list}
use Rattle.first_module.specs.EachOnce.{each_once, place_of}
use Rattle.first_module.specs.ModuleOf.{module_of}
use Rattle.first_module.specs.tools.Readers.{Ascends}
use Rattle.first_module.specs.SetsOf.{all_sets, set_by, sets_behind, sets_of, straight_sets}
use Rattle.first_module.specs.StraightLine.{global_at, is_straight}
use Rattle.first_module.specs.tools.Trail.{Below, NamesWithin}
use Rattle.first_module.proofs.AscendLemmas.{chain-from_ascends}
use Rattle.first_module.proofs.ClassLemmas.{apart_at}
use Rattle.first_module.proofs.CountLemmas.{count-le}
use Rattle.first_module.proofs.EveryLemmas.{ascends-range, classes-every, every-ascends}
use Rattle.first_module.proofs.LineLemmas.{behind-ascends}
use Rattle.first_module.proofs.NumberLemmas.{same_itself}
use Rattle.first_module.proofs.OnceLemmas.{each_once-has, length-each_once}

-- Names.

all-instrs : {A : Type 0} (P : A → Type 0) (xs : List A) → ((at : ℕ) (x : A) → slice_get xs at ≡ Some x → P x) → AllByRecursion P xs
all-instrs P [] h = tt
all-instrs P (x ∷ xs) h = (h 0 x refl, all-instrs P xs (λ at y e. h (suc at) y e))

ends-within : (c : Code) (v s : ℕ) (o : Option ℕ) → slice_get (shapes_of_globals c) v ≡ o → end_from c o [] ≡ Some s → v < length c.globals
ends-within c v s None is e = absurd (none-some s e)
ends-within c v s (Some t) is e =
    let inside : v < length (shapes_of_globals c) = slice_get_within (shapes_of_globals c) v t is in
    omega (arith, length-map c.globals (λ g. g.shape))

place-within : (c : Code) (f s : ℕ) (place : Place) → shape_of_place c f place ≡ Some s → Below (length c.globals) (global_at place)
place-within c f s (Place.Global v []) e = ends-within c v s (slice_get (shapes_of_globals c) v) refl e
place-within c f s (Place.Global v (k ∷ path)) e = tt
place-within c f s (Place.Local v path) e = tt

names-instr : (c : Code) (f : ℕ) (i : Instr) → NamesExist c f i → NamesWithin (length c.globals) i
names-instr c f (Instr.Addr to place) h = place-within c f h.0 place h.1
names-instr c f (Instr.Get to place r) h = place-within c f h.0 place h.1
names-instr c f (Instr.Set place a d) h = place-within c f h.0 place h.1
names-instr c f i h = tt

pub names-within : (c : Code) → GoodForm c → (f : ℕ) (fun : Fun) → slice_get c.funs f ≡ Some fun → AllByRecursion (λ l. NamesWithin (length c.globals) l.instr) fun.code
names-within c form f fun is =
    all-instrs (λ l. NamesWithin (length c.globals) l.instr) fun.code (λ at l e. names-instr c f l.instr ((form.code f fun is).instrs at l e).names)

-- Sets ascend.

one-fun : (number : Instr → Option ℕ) (f : Fun) → numbers_in_funs number (f ∷ []) ≡ numbers_in number f.code
one-fun number f = append-nil (numbers_in number f.code)

second-true : (a b : Bool) → (a && b) ≡ true → b ≡ true
second-true true b is = is
second-true false b is = absurd (false≢true is)

straight-ascends : (c : Code) → GoodForm c → (funs : List Fun) → c.funs ≡ funs → is_straight funs ≡ true → AllByRecursion (Ascends 1 (suc (defs_in_code c))) (straight_sets funs)
straight-ascends c form [] is straight = absurd (false≢true straight)
straight-ascends c form (f ∷ []) is straight =
    let made : defs_made c ≡ numbers_in new_def f.code = ap (numbers_in_funs new_def) is ∙ one-fun new_def f in
    let counts : numbers_in new_def f.code ≡ range_with_len (length c.globals + 1) (length (numbers_in new_def f.code))
    = subst (λ ns. ns ≡ range_with_len (length c.globals + 1) (length ns)) made form.numbers.defs in
    let long : length (defs_made c) ≡ length (numbers_in new_def f.code) = ap length made in
    behind-ascends (length c.globals) (defs_in_code c) (length c.globals + 1) [] f.code (omega arith) (λ t. tt)
    (names-within c form 0 f (ap (λ fs. slice_get fs 0) is))
    (λ g less. (omega arith, omega arith, tt)) (second-true _ _ straight) counts (omega arith)
straight-ascends c form (f ∷ g ∷ funs) is straight = absurd (false≢true straight)

all-ascends : (c : Code) → AllByRecursion (Ascends 1 (suc (defs_in_code c))) (all_sets c)
all-ascends c =
    let n = defs_in_code c in
    every-ascends 1 (suc n) (length (reads_made c)) (range_with_len 1 n) (ascends-range 1 n (suc n) (omega arith))

pub sets-ascend : (c : Code) → GoodForm c → AllByRecursion (Ascends 1 (suc (defs_in_code c))) (sets_of c)
sets-ascend c form = by (is_straight c.funs) refl
  where
    by : (b : Bool) → is_straight c.funs ≡ b → AllByRecursion (Ascends 1 (suc (defs_in_code c))) (cond b (straight_sets c.funs) (all_sets c))
    by true is = straight-ascends c form c.funs refl is
    by false is = all-ascends c

line-known : (b : Bool) (x y : List (List ℕ)) → Some x ≡ (if b then Some y else None) → (b ≡ true) × (x ≡ y)
line-known true x y e = (refl, ap (λ o. elim o as (λ o. List (List ℕ)) [ None ↦ [] | Some sets ↦ sets ]) e)
line-known false x y e = absurd (none-some x (sym e))

-- where there are sets of a straight line, these are the sets of the code
pub line-sets : (c : Code) (sets : List (List ℕ)) → Some sets ≡ (if is_straight c.funs then Some (straight_sets c.funs) else None) → sets ≡ sets_of c
line-sets c sets e =
    let known = line-known (is_straight c.funs) sets (straight_sets c.funs) e in
    known.1 ∙ ap (λ b. cond b (straight_sets c.funs) (all_sets c)) (sym known.0)

other-known : (b : Bool) (y : List (List ℕ)) → None ≡ (if b then Some y else None) → b ≡ false
other-known true y e = absurd (none-some y e)
other-known false y e = refl

-- where there are none, each read allows each definition
pub every-sets : (c : Code) → None ≡ (if is_straight c.funs then Some (straight_sets c.funs) else None) → all_sets c ≡ sets_of c
every-sets c e = ap (λ b. cond b (straight_sets c.funs) (all_sets c)) (sym (other-known (is_straight c.funs) (straight_sets c.funs) e))

pub every-classes : (c : Code) (n : ℕ) → n ≡ defs_in_code c → None ≡ (if is_straight c.funs then Some (straight_sets c.funs) else None) → replicate n 1 ≡ classes_of (sets_of c) (defs_in_code c)
every-classes c n is e =
    ap (λ k. replicate k 1) is ∙ sym (classes-every (length (reads_made c)) (defs_in_code c)) ∙ ap (λ sets. classes_of sets (defs_in_code c)) (every-sets c e)

chains : (high : ℕ) (sets : List (List ℕ)) → AllByRecursion (Ascends 1 high) sets → IsTrue (list_all (is_chain nat_lt) sets)
chains high [] h = refl
chains high (x ∷ sets) h = and_from _ _ (chain-from_ascends 1 high x h.0) (chains high sets h.1)

pub is_ordered : (c : Code) → GoodForm c → IsOrdered (sets_of c) (replicate (length (sets_of c)) false) [] []
is_ordered c form = record {
  marks = length-replicate (length (sets_of c)) false;
  members = chains _ (sets_of c) (sets-ascend c form);
  points_rows = refl;
  points_order = refl;
  reach_rows = refl;
  reach_order = refl;
}

-- There are few of them.

pub few-reads : (c : Code) → GoodForm c → length (reads_made c) ≤ 16384
few-reads c form = omega (arith, count-le new_read c.funs, form.limits.points)

set_by-one : (earlier : List Lined) (i : Instr) → length (set_by earlier i) ≤ 1
set_by-one earlier (Instr.Get to place r) = omega arith
set_by-one earlier (Instr.Load to a r) = omega arith
set_by-one earlier i = omega arith

sets_behind-le : (earlier rest : List Lined) → length (sets_behind earlier rest) ≤ length rest
sets_behind-le earlier [] = omega arith
sets_behind-le earlier (l ∷ rest) =
    omega (arith, set_by-one earlier l.instr, sets_behind-le (l ∷ earlier) rest, length-append (set_by earlier l.instr) (sets_behind (l ∷ earlier) rest))

line-sets-le : (funs : List Fun) → length (straight_sets funs) ≤ sum (map (λ fun. length fun.code) funs)
line-sets-le [] = omega arith
line-sets-le (f ∷ funs) = omega (arith, sets_behind-le [] f.code, sum_by-cons (λ n. n) (length f.code) (map (λ fun. length fun.code) funs))

pub few-sets : (c : Code) → GoodForm c → (sets : List (List ℕ)) → Some sets ≡ (if is_straight c.funs then Some (straight_sets c.funs) else None) → length sets ≤ 16384
few-sets c form sets e =
    let same : length sets ≡ length (straight_sets c.funs) = ap length (line-known (is_straight c.funs) sets (straight_sets c.funs) e).1 in
    omega (arith, line-sets-le c.funs, form.limits.points)

-- A core can run the module.

abbrev IsNumber : ℕ → ℕ → Type 0
IsNumber n k = (1 ≤ k) × (k ≤ n)

numbers-ascend : (n low : ℕ) (xs : List ℕ) → 1 ≤ low → Ascends low (suc n) xs → AllByRecursion (IsNumber n) xs
numbers-ascend n low [] some h = tt
numbers-ascend n low (x ∷ xs) some h = ((omega arith, omega arith), numbers-ascend n (suc x) xs (omega arith) h.2)

numbers-sets : (n : ℕ) (sets : List (List ℕ)) → AllByRecursion (Ascends 1 (suc n)) sets → AllByRecursion (All (IsNumber n)) sets
numbers-sets n [] h = tt
numbers-sets n (x ∷ sets) h = (All-from_recursion (IsNumber n) x (numbers-ascend n 1 x (omega arith) h.0), numbers-sets n sets h.1)

number-step : (b : Bool) (rest : Bool) (place n : ℕ) → b || rest ≡ true → (rest ≡ true → place < n) → cond (not b) (1 + place) 0 < suc n
number-step true rest place n h later = omega arith
number-step false rest place n h later = let less = later h in omega arith

number-less : {A : Type 0} (equal : A → A → Bool) (x : A) (xs : List A) → list_any (equal x) xs ≡ true → place_of equal xs x < length xs
number-less equal x [] h = absurd (false≢true h)
number-less equal x (k ∷ ks) h = number-step (equal x k) (list_any (equal x) ks) (place_of equal ks x) (length ks) h (λ later. number-less equal x ks later)

numbers-classes : (n : ℕ) (all rows : List (List ℕ)) → length all ≤ n → AllByRecursion (λ row. list_any (same_list row) all ≡ true) rows
    → AllByRecursion (IsNumber n) (map (λ row. suc (place_of same_list all row)) rows)
numbers-classes n all [] few h = tt
numbers-classes n all (row ∷ rows) few h =
    let less = number-less same_list row all h.0 in
    ((omega arith, omega arith), numbers-classes n all rows few h.1)

module _ (sets : List (List ℕ)) (n : ℕ) where
  rows : List (List ℕ)
  rows = map (readers_of sets) (range_with_len 1 n)

  length-classes : length (classes_of sets n) ≡ n
  unfolding rows
  length-classes = length-map rows (λ row. suc (place_of same_list (each_once same_list rows) row)) ∙ length-map-range_with_len (readers_of sets) 1 n

  class-numbers : AllByRecursion (IsNumber n) (classes_of sets n)
  unfolding rows
  class-numbers =
      let long : length rows ≡ n = length-map-range_with_len (readers_of sets) 1 n in
      let few = length-each_once same_list rows in
      numbers-classes n (each_once same_list rows) rows (omega arith) (each_once-has same_list same_itself rows)

pub can_run : (c : Code) → GoodForm c → CanRun (module_of c)
can_run c form =
    let n = defs_in_code c in
    let ascend = sets-ascend c form in
    record {
      form = form;
      tables = record {
        count = length-classes (sets_of c) n;
        classes = All-from_recursion (IsNumber n) (classes_of (sets_of c) n) (class-numbers (sets_of c) n);
        sets = All-from_recursion (All (IsNumber n)) (sets_of c) (numbers-sets n (sets_of c) ascend);
      };
      separate = λ r d e number. apart_at (module_of c) n refl ascend r d e;
    }
