-- A test of code: where it passes, the form of the code is good. (It asks for a little more than the rule, and no clause names it.)
use Rattle.std.proofs.Common.{◌≡◌, ℕ, zero, suc, ◌+◌, ◌-◌, ◌<◌, ◌≤◌, Bool, true, false, List, [], ◌∷◌, ◌++◌, length, drop, slice_index_or, refl, sym, ap, ◌∙◌, subst, arith, Option, Some, None, ◌⊎◌, inl, inr}
use Rattle.std.specs.Prelude.{nat_lt, nat_le, nat_eq, not, ◌&&◌, ◌||◌, slice_get, All, Contains, ℤ, pos, negsuc}
use Rattle.std.specs.List.{list_all, range_with_len}
use Rattle.tac_ir.specs.declared.code.Code.{Code}
use Rattle.tac_ir.specs.declared.code.Shape.{Shape}
use Rattle.tac_ir.specs.declared.code.Global.{Global}
use Rattle.tac_ir.specs.declared.code.Site.{Site}
use Rattle.tac_ir.specs.declared.code.Fun.{Fun}
use Rattle.tac_ir.specs.declared.code.Lined.{Lined}
use Rattle.tac_ir.specs.declared.code.Instr.{Instr}
use Rattle.tac_ir.specs.Module.{is_chain}
use Rattle.tac_ir.specs.Layout.{shape_words, words_before, shapes_of_globals, frame_words, parts_of}
use Rattle.tac_ir.specs.Places.{shape_of_place, is_leaf, is_array}
use Rattle.tac_ir.specs.Numbers.{defs_made, reads_made, defs_in_code}
use Rattle.tac_ir.specs.Counts.{points_in_code, nodes_in_code, temps_in_code}
use Rattle.tac_ir.specs.Regions.{Region, regions_in, IsInside}
use Rattle.tac_ir.specs.GoodForm.{shapes_named, count_of, GoodShapes, IsGoodGlobal, GoodGlobals, IsGoodFrame, params_of, GoodFuns, IsWithinLimits, IsNumbered, targets_of, all_targets_of, NamesExist, IsTurn, IsEnd, ForksWell, IsGoodInstr, IsLastKind, IsRet, regions_ending, GoodRegions, IsGoodCode, GoodForm}

-- Tests.

pub left_of : (a b : Bool) → (a && b) ≡ true → a ≡ true
left_of true b h = refl
left_of false b h = h

pub right_of : (a b : Bool) → (a && b) ≡ true → b ≡ true
right_of true b h = h
right_of false b h = cc

either : (a b : Bool) → (a || b) ≡ true → (a ≡ true) ⊎ (b ≡ true)
either true b h = inl refl
either false b h = inr h

unless : (a b : Bool) → (not a || b) ≡ true → a ≡ true → b ≡ true
unless true b h e = h
unless false b h e = cc

pub lt-is : (a b : ℕ) → nat_lt a b ≡ true → a < b
lt-is a b h = grind (arith, nat_lt)

pub le-is : (a b : ℕ) → nat_le a b ≡ true → a ≤ b
le-is a b h = grind (arith, nat_le)

pub eq-is : (a b : ℕ) → nat_eq a b ≡ true → a ≡ b
eq-is a b h = grind (arith, nat_eq)

le-test : (a b : ℕ) → a ≤ b → nat_le a b ≡ true
le-test a b h = grind (arith, nat_le)

-- each member with its index passes
abbrev pub each_from : {A : Type 0} → (ℕ → A → Bool) → ℕ → List A → Bool
each_from test at [] = true
each_from test at (x ∷ xs) = test at x && each_from test (suc at) xs

each_is : {A : Type 0} (test : ℕ → A → Bool) (at : ℕ) (xs : List A) (i : ℕ) (x : A) → each_from test at xs ≡ true → slice_get xs i ≡ Some x → test (at + i) x ≡ true
each_is test at [] i x h e = cc
each_is test at (y ∷ xs) zero x h e = let same : y ≡ x = cc in let here : at ≡ at + 0 = omega arith in subst (λ k. test k x ≡ true) here (subst (λ z. test at z ≡ true) same (left_of _ _ h))
each_is test at (y ∷ xs) (suc i) x h e = let there : suc at + i ≡ at + suc i = omega arith in subst (λ k. test k x ≡ true) there (each_is test (suc at) xs i x (right_of _ _ h) e)

each_at : {A : Type 0} (test : ℕ → A → Bool) (xs : List A) (i : ℕ) (x : A) → each_from test 0 xs ≡ true → slice_get xs i ≡ Some x → test i x ≡ true
each_at test xs i x h e = let here : 0 + i ≡ i = omega arith in subst (λ k. test k x ≡ true) here (each_is test 0 xs i x h e)

pub all_is : {A : Type 0} (P : A → Type 0) (test : A → Bool) → ((x : A) → test x ≡ true → P x) → (xs : List A) → list_all test xs ≡ true → All P xs
all_is P test sound [] h = λ k d within. absurd (omega arith)
all_is {A} P test sound (x ∷ xs) h = λ k d within. at k d within (all_is P test sound xs (right_of _ _ h))
  where
    at : (k : ℕ) (d : A) → k < length (x ∷ xs) → All P xs → P (slice_index_or (x ∷ xs) k d)
    at zero d within rest = sound x (left_of _ _ h)
    at (suc k) d within rest = rest k d (omega arith)

all_of : {A : Type 0} (test : A → Bool) (xs : List A) (x : A) → list_all test xs ≡ true → Contains xs x → test x ≡ true
all_of test xs x h (k, within, is) = subst (λ y. test y ≡ true) is (all_is (λ y. test y ≡ true) test (λ y e. e) xs h k x within)

-- Shapes and globals.

abbrev is_int_shape : Option Shape → Bool
is_int_shape (Some Shape.Int) = true
is_int_shape o = false

abbrev is_ptr_shape : Option Shape → Bool
is_ptr_shape (Some Shape.Ptr) = true
is_ptr_shape o = false

int-shape-is : (o : Option Shape) → is_int_shape o ≡ true → o ≡ Some Shape.Int
int-shape-is (Some Shape.Int) h = refl
int-shape-is o h = cc

ptr-shape-is : (o : Option Shape) → is_ptr_shape o ≡ true → o ≡ Some Shape.Ptr
ptr-shape-is (Some Shape.Ptr) h = refl
ptr-shape-is o h = cc

abbrev pub shape_test : Code → ℕ → Shape → Bool
shape_test c s shape = list_all (λ n. nat_lt n s) (shapes_named shape) && (nat_le 1 (count_of shape) && nat_le (shape_words c s) 24576)

abbrev pub shapes_test : Code → Bool
shapes_test c = each_from (shape_test c) 0 c.shapes && (is_int_shape (slice_get c.shapes 0) && (is_ptr_shape (slice_get c.shapes 1) && nat_lt (length c.shapes) 2147483648))

shapes-good : (c : Code) → shapes_test c ≡ true → GoodShapes c
shapes-good c h =
    let rest = right_of _ _ h in
    let more = right_of _ _ rest in
    record {
      each = λ s shape e. (let t = each_at (shape_test c) c.shapes s shape (left_of _ _ h) e in
          let u = right_of _ _ t in
          record {
            earlier = all_is (λ n. n < s) (λ n. nat_lt n s) (λ n. lt-is n s) (shapes_named shape) (left_of _ _ t);
            some = le-is 1 (count_of shape) (left_of _ _ u);
            words = le-is (shape_words c s) 24576 (right_of _ _ u);
          });
      first = int-shape-is _ (left_of _ _ rest);
      second = ptr-shape-is _ (left_of _ _ more);
      count = lt-is (length c.shapes) 2147483648 (right_of _ _ more);
    }

abbrev is_zero : ℤ → Bool
is_zero (pos n) = nat_eq n 0
is_zero (negsuc n) = false

zero-is : (z : ℤ) → is_zero z ≡ true → z ≡ pos 0
zero-is (pos n) h = ap pos (eq-is n 0 h)
zero-is (negsuc n) h = cc

abbrev pub global_test : Code → Global → Bool
global_test c g = nat_lt g.shape (length c.shapes) && (is_zero g.start || is_int_shape (slice_get c.shapes g.shape))

start-is : (c : Code) (g : Global) → (is_zero g.start ≡ true) ⊎ (is_int_shape (slice_get c.shapes g.shape) ≡ true) → (g.start ≡ pos 0) ⊎ (slice_get c.shapes g.shape ≡ Some Shape.Int)
start-is c g (inl h) = inl (zero-is g.start h)
start-is c g (inr h) = inr (int-shape-is _ h)

abbrev pub globals_test : Code → Bool
globals_test c = list_all (global_test c) c.globals && (nat_le (words_before c (shapes_of_globals c) (length c.globals)) 8176 && list_all (λ (s : Site). nat_lt s.shape (length c.shapes)) c.sites)

globals-good : (c : Code) → globals_test c ≡ true → GoodGlobals c
globals-good c h =
    let rest = right_of _ _ h in
    record {
      each = all_is (IsGoodGlobal c) (global_test c) (λ g t. record { shape = lt-is g.shape (length c.shapes) (left_of _ _ t); start = start-is c g (either _ _ (right_of _ _ t)) }) c.globals (left_of _ _ h);
      words = le-is _ 8176 (left_of _ _ rest);
      sites = all_is (λ (s : Site). s.shape < length c.shapes) (λ (s : Site). nat_lt s.shape (length c.shapes)) (λ s t. lt-is s.shape (length c.shapes) t) c.sites (right_of _ _ rest);
    }

-- Functions and limits.

abbrev pub frame_test : Code → ℕ → Fun → Bool
frame_test c f fun =
    list_all (λ s. nat_lt s (length c.shapes)) fun.vars
    && (nat_le fun.params (length fun.vars) && (each_from (λ v s. not (nat_lt v fun.params) || nat_lt s 2) 0 fun.vars && nat_le (frame_words c f) 4096))

lt-test : (a b : ℕ) → a < b → nat_lt a b ≡ true
lt-test a b h = grind (arith, nat_lt)

frame-good : (c : Code) (f : ℕ) (fun : Fun) → frame_test c f fun ≡ true → IsGoodFrame c f fun
frame-good c f fun h =
    let rest = right_of _ _ h in
    let more = right_of _ _ rest in
    record {
      vars = all_is (λ s. s < length c.shapes) (λ s. nat_lt s (length c.shapes)) (λ s. lt-is s (length c.shapes)) fun.vars (left_of _ _ h);
      params = le-is fun.params (length fun.vars) (left_of _ _ rest);
      params_are_basic = λ v s within e. lt-is s 2 (unless (nat_lt v fun.params) (nat_lt s 2) (each_at (λ v s. not (nat_lt v fun.params) || nat_lt s 2) fun.vars v s (left_of _ _ more) e) (lt-test v fun.params within));
      words = le-is (frame_words c f) 4096 (right_of _ _ more);
    }

abbrev pub funs_test : Code → Bool
funs_test c = nat_le 1 (length c.funs) && (nat_le (length c.funs) 256 && (nat_lt c.main (length c.funs) && (nat_eq (params_of c c.main) 0 && each_from (frame_test c) 0 c.funs)))

funs-good : (c : Code) → funs_test c ≡ true → GoodFuns c
funs-good c h =
    let a = right_of _ _ h in
    let b = right_of _ _ a in
    let d = right_of _ _ b in
    record {
      some = le-is 1 (length c.funs) (left_of _ _ h);
      count = le-is (length c.funs) 256 (left_of _ _ a);
      main = lt-is c.main (length c.funs) (left_of _ _ b);
      main_params = eq-is (params_of c c.main) 0 (left_of _ _ d);
      frames = λ f fun e. frame-good c f fun (each_at (frame_test c) c.funs f fun (right_of _ _ d) e);
    }

abbrev pub limits_test : Code → Bool
limits_test c = nat_le (points_in_code c) 16384 && (nat_le (nodes_in_code c) 16384 && (nat_le (defs_in_code c) 4096 && nat_le (temps_in_code c) 32768))

limits-good : (c : Code) → limits_test c ≡ true → IsWithinLimits c
limits-good c h =
    let a = right_of _ _ h in
    let b = right_of _ _ a in
    record {
      points = le-is _ 16384 (left_of _ _ h);
      nodes = le-is _ 16384 (left_of _ _ a);
      defs = le-is _ 4096 (left_of _ _ b);
      temps = le-is _ 32768 (right_of _ _ b);
    }

abbrev pub same_list : List ℕ → List ℕ → Bool
same_list [] [] = true
same_list (x ∷ xs) (y ∷ ys) = nat_eq x y && same_list xs ys
same_list xs ys = false

same-list-is : (xs ys : List ℕ) → same_list xs ys ≡ true → xs ≡ ys
same-list-is [] [] h = refl
same-list-is (x ∷ xs) (y ∷ ys) h =
    let first : x ≡ y = eq-is x y (left_of _ _ h) in
    let others : xs ≡ ys = same-list-is xs ys (right_of _ _ h) in
    cc
same-list-is [] (y ∷ ys) h = cc
same-list-is (x ∷ xs) [] h = cc

abbrev pub numbers_test : Code → Bool
numbers_test c = same_list (defs_made c) (range_with_len (length c.globals + 1) (length (defs_made c))) && same_list (reads_made c) (range_with_len 1 (length (reads_made c)))

numbers-good : (c : Code) → numbers_test c ≡ true → IsNumbered c
numbers-good c h = record { defs = same-list-is _ _ (left_of _ _ h); reads = same-list-is _ _ (right_of _ _ h) }

-- Instructions.

abbrev is_some_shape : Option ℕ → Bool
is_some_shape None = false
is_some_shape (Some s) = true

abbrev is_some_leaf : Code → Option ℕ → Bool
is_some_leaf c None = false
is_some_leaf c (Some s) = is_leaf c s

shape-found : (o : Option ℕ) → is_some_shape o ≡ true → (s : ℕ) × (o ≡ Some s)
shape-found None h = cc
shape-found (Some s) h = (s, refl)

leaf-found : (c : Code) (o : Option ℕ) → is_some_leaf c o ≡ true → (s : ℕ) × (o ≡ Some s) × (is_leaf c s ≡ true)
leaf-found c None h = cc
leaf-found c (Some s) h = (s, refl, h)

differs : (a b : ℕ) → not (nat_eq a b) ≡ true → a ≡ b → ⊥
differs a b h e = (let t : nat_eq a b ≡ true = le-eq a b e in let clash : false ≡ true = sym (ap not t) ∙ h in cc)
  where
    le-eq : (a b : ℕ) → a ≡ b → nat_eq a b ≡ true
    le-eq a b e = grind (arith, nat_eq)

abbrev pub names_test : Code → ℕ → Instr → Bool
names_test c f (Instr.Addr to place) = is_some_shape (shape_of_place c f place)
names_test c f (Instr.Field to a shape k) = nat_lt k (length (parts_of c shape))
names_test c f (Instr.Decay to a shape) = is_array c shape
names_test c f (Instr.Index to a b words) = nat_le 1 words
names_test c f (Instr.Get to place r) = is_some_leaf c (shape_of_place c f place)
names_test c f (Instr.Set place a d) = is_some_leaf c (shape_of_place c f place)
names_test c f (Instr.New to a site) = nat_lt site (length c.sites)
names_test c f (Instr.Call to g def args) = nat_lt g (length c.funs) && (nat_eq (length args) (params_of c g) && not (nat_eq g c.main))
names_test c f (Instr.Ret a (Some r)) = not (nat_eq f c.main)
names_test c f (Instr.Ret a None) = nat_eq f c.main
names_test c f i = true

names-good : (c : Code) (f : ℕ) (i : Instr) → names_test c f i ≡ true → NamesExist c f i
names-good c f (Instr.Addr to place) h = shape-found _ h
names-good c f (Instr.Field to a shape k) h = lt-is k (length (parts_of c shape)) h
names-good c f (Instr.Decay to a shape) h = h
names-good c f (Instr.Index to a b words) h = le-is 1 words h
names-good c f (Instr.Get to place r) h = leaf-found c _ h
names-good c f (Instr.Set place a d) h = leaf-found c _ h
names-good c f (Instr.New to a site) h = lt-is site (length c.sites) h
names-good c f (Instr.Call to g def args) h =
    let rest = right_of _ _ h in
    record { exists = lt-is g (length c.funs) (left_of _ _ h); count = eq-is (length args) (params_of c g) (left_of _ _ rest); not_main = differs g c.main (right_of _ _ rest) }
names-good c f (Instr.Ret a (Some r)) h = differs f c.main h
names-good c f (Instr.Ret a None) h = eq-is f c.main h
names-good c f i h = tt

abbrev is_turn : Instr → Bool
is_turn Instr.Turn = true
is_turn i = false

abbrev is_end : Instr → Bool
is_end Instr.End = true
is_end i = false

turn-is : (i : Instr) → is_turn i ≡ true → i ≡ Instr.Turn
turn-is Instr.Turn h = refl
turn-is i h = cc

end-is : (i : Instr) → is_end i ≡ true → i ≡ Instr.End
end-is Instr.End h = refl
end-is i h = cc

-- the instruction at an index passes a test
abbrev pub passes_at : (Instr → Bool) → Option Lined → Bool
passes_at test None = false
passes_at test (Some l) = test l.instr

passing : (test : Instr → Bool) (o : Option Lined) → passes_at test o ≡ true → (l : Lined) × (o ≡ Some l) × (test l.instr ≡ true)
passing test None h = cc
passing test (Some l) h = (l, refl, h)

turn-there : (code : List Lined) (at : ℕ) → passes_at is_turn (slice_get code at) ≡ true → IsTurn code at
turn-there code at h = let l = passing is_turn (slice_get code at) h in (l.0, l.1, turn-is l.0.instr l.2)

end-there : (code : List Lined) (at : ℕ) → passes_at is_end (slice_get code at) ≡ true → IsEnd code at
end-there code at h = let l = passing is_end (slice_get code at) h in (l.0, l.1, end-is l.0.instr l.2)

onward-is : (code : List Lined) (at t : ℕ) → (nat_lt at t || passes_at is_turn (slice_get code t)) ≡ true → (at < t) ⊎ IsTurn code t
onward-is code at t h = by (either _ _ h)
  where
    by : (nat_lt at t ≡ true) ⊎ (passes_at is_turn (slice_get code t) ≡ true) → (at < t) ⊎ IsTurn code t
    by (inl e) = inl (lt-is at t e)
    by (inr e) = inr (turn-there code t e)

abbrev is_entry : Option ℕ → ℕ → Bool
is_entry None at = false
is_entry (Some e) at = nat_eq e at

entry-is : (o : Option ℕ) (at : ℕ) → is_entry o at ≡ true → o ≡ Some at
entry-is None at h = cc
entry-is (Some e) at h = ap Some (eq-is e at h)

abbrev pub fork_test : List Lined → ℕ → Instr → Bool
fork_test code f (Instr.Fork join entries) =
    nat_le 2 (length entries) && (nat_le (length entries) 15 && (is_entry (slice_get entries 0) (f + 1)
    && (is_chain nat_lt (entries ++ join ∷ []) && list_all (λ behind. passes_at is_end (slice_get code (behind - 1))) (drop 1 entries ++ join ∷ []))))
fork_test code f i = true

fork-good : (code : List Lined) (f : ℕ) (i : Instr) → fork_test code f i ≡ true → ForksWell code f i
fork-good code f (Instr.Fork join entries) h =
    let a = right_of _ _ h in
    let b = right_of _ _ a in
    let d = right_of _ _ b in
    record {
      some = le-is 2 (length entries) (left_of _ _ h);
      count = le-is (length entries) 15 (left_of _ _ a);
      first = entry-is (slice_get entries 0) (f + 1) (left_of _ _ b);
      ascends = left_of _ _ d;
      ends = all_is (λ behind. IsEnd code (behind - 1)) (λ behind. passes_at is_end (slice_get code (behind - 1))) (λ behind. end-there code (behind - 1)) (drop 1 entries ++ join ∷ []) (right_of _ _ d);
    }
fork-good code f i h = tt

abbrev pub instr_test : Code → ℕ → List Lined → ℕ → Lined → Bool
instr_test c f code at l =
    names_test c f l.instr && (list_all (λ t. nat_lt t (length code)) (all_targets_of l.instr)
    && (list_all (λ t. nat_lt at t || passes_at is_turn (slice_get code t)) (all_targets_of l.instr) && fork_test code at l.instr))

instr-good : (c : Code) (f : ℕ) (code : List Lined) (at : ℕ) (l : Lined) → instr_test c f code at l ≡ true → IsGoodInstr c f code at l.instr
instr-good c f code at l h =
    let a = right_of _ _ h in
    let b = right_of _ _ a in
    record {
      names = names-good c f l.instr (left_of _ _ h);
      targets = all_is (λ t. t < length code) (λ t. nat_lt t (length code)) (λ t. lt-is t (length code)) (all_targets_of l.instr) (left_of _ _ a);
      onward = all_is (λ t. (at < t) ⊎ IsTurn code t) (λ t. nat_lt at t || passes_at is_turn (slice_get code t)) (λ t. onward-is code at t) (all_targets_of l.instr) (left_of _ _ b);
      fork = fork-good code at l.instr (right_of _ _ b);
    }

-- Regions.

abbrev pub inside : Region → ℕ → Bool
inside r at = nat_le r.entry at && nat_le at r.last

inside-is : (r : Region) (at : ℕ) → inside r at ≡ true → IsInside r at
inside-is r at h = record { low = le-is r.entry at (left_of _ _ h); high = le-is at r.last (right_of _ _ h) }

is-inside : (r : Region) (at : ℕ) → IsInside r at → inside r at ≡ true
is-inside r at h = by (nat_le r.entry at) (nat_le at r.last) (le-test _ _ h.low) (le-test _ _ h.high)
  where
    by : (a b : Bool) → a ≡ true → b ≡ true → (a && b) ≡ true
    by true b p q = q
    by false b p q = cc

abbrev pub is_return : Instr → Bool
is_return (Instr.Ret a r) = true
is_return i = false

return-is : (i : Instr) → IsRet i → is_return i ≡ true
return-is (Instr.Ret a r) h = refl
return-is i h = absurd h

-- what each instruction keeps of a region: jumps from within stay, nothing comes in but by its own fork, and nothing returns
abbrev pub region_test : ℕ → Instr → Region → Bool
region_test at i r =
    (not (inside r at) || (list_all (inside r) (targets_of i) && not (is_return i)))
    && (inside r at || list_all (λ t. not (inside r t) || (nat_eq t r.entry && nat_eq at r.fork)) (all_targets_of i))

abbrev pub regions_test : List Lined → ℕ → Lined → Bool
regions_test code at l = (not (is_end l.instr) || nat_eq (regions_ending code at) 1) && list_all (region_test at l.instr) (regions_in code)

abbrev pub is_last_kind : Instr → Bool
is_last_kind (Instr.Ret a r) = true
is_last_kind (Instr.Jump t) = true
is_last_kind Instr.End = true
is_last_kind i = false

last-kind-is : (i : Instr) → is_last_kind i ≡ true → IsLastKind i
last-kind-is (Instr.Ret a r) h = tt
last-kind-is (Instr.Jump t) h = tt
last-kind-is Instr.End h = tt
last-kind-is i h = cc

regions-good : (code : List Lined) → each_from (regions_test code) 0 code ≡ true → GoodRegions code
regions-good code h = record {
  ends = λ at e. eq-is _ 1 (unless (is_end e.0.instr) _ (left_of _ _ (here at e.0 e.1)) (ap is_end e.2));
  stays = λ at l r e inner. (let kept = unless (inside r at) _ (left_of _ _ (region at l r e inner.region)) (is-inside r at inner.inside) in
      all_is (IsInside r) (inside r) (inside-is r) (targets_of l.instr) (left_of _ _ kept));
  closed = λ at l r e member out. all_is (λ t. IsInside r t → (t ≡ r.entry) × (at ≡ r.fork)) (λ t. not (inside r t) || (nat_eq t r.entry && nat_eq at r.fork))
      (λ t s within. (let own = unless (inside r t) _ s (is-inside r t within) in (eq-is t r.entry (left_of _ _ own), eq-is at r.fork (right_of _ _ own))))
      (all_targets_of l.instr) (outside r at (inside r at) refl out (right_of _ _ (region at l r e member)));
  no_return = λ at l r e member within returns. (let kept = unless (inside r at) _ (left_of _ _ (region at l r e member)) (is-inside r at within) in
      let clash : false ≡ true = sym (ap not (return-is l.instr returns)) ∙ right_of _ _ kept in cc);
}
  where
    here : (at : ℕ) (l : Lined) → slice_get code at ≡ Some l → regions_test code at l ≡ true
    here at l e = each_at (regions_test code) code at l h e

    region : (at : ℕ) (l : Lined) (r : Region) → slice_get code at ≡ Some l → Contains (regions_in code) r → region_test at l.instr r ≡ true
    region at l r e member = all_of (region_test at l.instr) (regions_in code) r (right_of (not (is_end l.instr) || nat_eq (regions_ending code at) 1) (list_all (region_test at l.instr) (regions_in code)) (each_at (regions_test code) code at l h e)) member

    outside : (r : Region) (at : ℕ) (b : Bool) → inside r at ≡ b → (IsInside r at → ⊥) → {rest : Bool} → (b || rest) ≡ true → rest ≡ true
    outside r at true is out e = absurd (out (inside-is r at is))
    outside r at false is out e = e

abbrev pub code_test : Code → ℕ → Fun → Bool
code_test c f fun =
    each_from (instr_test c f fun.code) 0 fun.code && (passes_at is_last_kind (slice_get fun.code (length fun.code - 1)) && each_from (regions_test fun.code) 0 fun.code)

code-good : (c : Code) (f : ℕ) (fun : Fun) → code_test c f fun ≡ true → IsGoodCode c f fun.code
code-good c f fun h =
    let rest = right_of _ _ h in
    let last = passing is_last_kind (slice_get fun.code (length fun.code - 1)) (left_of _ _ rest) in
    record {
      instrs = λ at l e. instr-good c f fun.code at l (each_at (instr_test c f fun.code) fun.code at l (left_of _ _ h) e);
      last = (last.0, last.1, last-kind-is last.0.instr last.2);
      regions = regions-good fun.code (right_of _ _ rest);
    }

abbrev pub form_test : Code → Bool
form_test c = shapes_test c && (globals_test c && (funs_test c && (limits_test c && (numbers_test c && each_from (code_test c) 0 c.funs))))

pub form_good : (c : Code) → form_test c ≡ true → GoodForm c
form_good c h =
    let a = right_of _ _ h in
    let b = right_of _ _ a in
    let d = right_of _ _ b in
    let e = right_of _ _ d in
    record {
      shapes = shapes-good c (left_of _ _ h);
      globals = globals-good c (left_of _ _ a);
      funs = funs-good c (left_of _ _ b);
      limits = limits-good c (left_of _ _ d);
      numbers = numbers-good c (left_of _ _ e);
      code = λ f fun found. code-good c f fun (each_at (code_test c) c.funs f fun (right_of _ _ e) found);
    }
