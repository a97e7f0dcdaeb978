-- In code of a good form the numbers that instructions name are small.
use Rattle.std.proofs.Common.{◌≡◌, ℕ, zero, suc, ◌+◌, ◌<◌, ◌≤◌, Bool, true, false, List, [], ◌∷◌, ◌++◌, length, map, reverse, refl, sym, ap, ◌∙◌, subst, arith, Option, Some, None, get_or, eq-eqb}
use Rattle.std.specs.Prelude.{nat_lt, nat_eq, ◌&&◌, slice_get, option_map}
use Rattle.std.specs.List.{list_all, range_with_len, sum_by}
use Rattle.std.proofs.lemmas.List.Folds.{list_all-append}
use Rattle.std.proofs.lemmas.List.Sums.{sum-map, sum_by-append, sum_by-cons}
use Rattle.std.proofs.lemmas.List.{length-append, length-reverse, length-map}
use Rattle.std.proofs.lemmas.Option.{slice_get_within, slice_get-map, slice_get-get_or}
use borrow.Author.Tests.{ltb-true}
use Rattle.tac_ir.specs.declared.code.Code.{Code}
use Rattle.tac_ir.specs.declared.code.Shape.{Shape}
use Rattle.tac_ir.specs.declared.code.Site.{Site}
use Rattle.tac_ir.specs.declared.code.Fun.{Fun}
use Rattle.tac_ir.specs.declared.code.Lined.{Lined}
use Rattle.tac_ir.specs.declared.code.Instr.{Instr}
use Rattle.tac_ir.specs.Layout.{shapes_of_globals}
use Rattle.tac_ir.specs.Numbers.{new_def, new_read, numbers_in, numbers_in_funs, defs_made, reads_made}
use Rattle.tac_ir.specs.Counts.{nodes_by, nodes_in, shape_nodes, vars_in_funs, shapes_used}
use Rattle.tac_ir.specs.GoodForm.{GoodForm}

-- all members are below a number
abbrev pub are_below : ℕ → List ℕ → Bool
are_below n xs = list_all (λ x. nat_lt x n) xs

both : (a b : Bool) → a ≡ true → b ≡ true → (a && b) ≡ true
both true b p q = q
both false b p q = cc

first_of : (a b : Bool) → (a && b) ≡ true → a ≡ true
first_of true b h = refl
first_of false b h = h

second_of : (a b : Bool) → (a && b) ≡ true → b ≡ true
second_of true b h = h
second_of false b h = cc

lt-test : (a b : ℕ) → a < b → nat_lt a b ≡ true
lt-test a b h = grind (arith, nat_lt)

counted_below : (first n limit : ℕ) → first + n ≤ limit → are_below limit (range_with_len first n) ≡ true
counted_below first zero limit h = refl
counted_below first (suc n) limit h = both _ _ (lt-test first limit (omega arith)) (counted_below (first + 1) n limit (omega arith))

-- a number that an instruction names is among those of its lines
in_lines : (number : Instr → Option ℕ) (test : ℕ → Bool) (code : List Lined) (at : ℕ) (l : Lined) (n : ℕ)
    → slice_get code at ≡ Some l → number l.instr ≡ Some n → list_all test (numbers_in number code) ≡ true → test n ≡ true
in_lines number test [] at l n found named all = cc
in_lines number test (x ∷ code) at l n found named all = here (λ k. in_lines number test code k l n) (number x.instr) refl at found all
  where
    here : ((k : ℕ) → slice_get code k ≡ Some l → number l.instr ≡ Some n → list_all test (numbers_in number code) ≡ true → test n ≡ true) → (o : Option ℕ) → number x.instr ≡ o → (at : ℕ) → slice_get (x ∷ code) at ≡ Some l
        → list_all test (elim o [ Some k ↦ k ∷ numbers_in number code | None ↦ numbers_in number code ]) ≡ true → test n ≡ true
    here rest None is zero found all =
        let same : x ≡ l = cc in
        let clash : None ≡ Some n = sym is ∙ ap (λ y. number y.instr) same ∙ named in cc
    here rest None is (suc at) found all = rest at found named all
    here rest (Some k) is zero found all =
        let same : x ≡ l = cc in
        let number_is : Some k ≡ Some n = sym is ∙ ap (λ y. number y.instr) same ∙ named in
        let equal : k ≡ n = cc in
        subst (λ z. test z ≡ true) equal (first_of _ _ all)
    here rest (Some k) is (suc at) found all = rest at found named (second_of _ _ all)

in_funs : (number : Instr → Option ℕ) (test : ℕ → Bool) (funs : List Fun) (f : ℕ) (fun : Fun) (at : ℕ) (l : Lined) (n : ℕ)
    → slice_get funs f ≡ Some fun → slice_get fun.code at ≡ Some l → number l.instr ≡ Some n → list_all test (numbers_in_funs number funs) ≡ true → test n ≡ true
in_funs number test [] f fun at l n found here named all = cc
in_funs number test (x ∷ funs) zero fun at l n found here named all =
    let same : x ≡ fun = cc in
    let parts = sym (list_all-append test (numbers_in number x.code) (numbers_in_funs number funs)) ∙ all in
    in_lines number test x.code at l n (subst (λ (y : Fun). slice_get y.code at ≡ Some l) (sym same) here) named (first_of _ _ parts)
in_funs number test (x ∷ funs) (suc f) fun at l n found here named all =
    let parts = sym (list_all-append test (numbers_in number x.code) (numbers_in_funs number funs)) ∙ all in
    in_funs number test funs f fun at l n found here named (second_of _ _ parts)

-- definitions are at most 4096
pub def_below : (c : Code) → GoodForm c → (f : ℕ) (fun : Fun) (at : ℕ) (l : Lined) (d : ℕ)
    → slice_get c.funs f ≡ Some fun → slice_get fun.code at ≡ Some l → new_def l.instr ≡ Some d → d < 65536
def_below c good f fun at l d found here named =
    let all : are_below 65536 (defs_made c) ≡ true =
    subst (λ xs. are_below 65536 xs ≡ true) (sym good.numbers.defs) (counted_below (length c.globals + 1) (length (defs_made c)) 65536 (omega (arith, good.limits.defs))) in
    ltb-true _ _ (in_funs new_def (λ x. nat_lt x 65536) c.funs f fun at l d found here named all)

longer : (o : Option ℕ) (xs : List ℕ) (n : ℕ) → length xs ≤ n → length {A = ℕ} (elim o [ Some k ↦ k ∷ xs | None ↦ xs ]) ≤ suc n
longer None xs n h = omega arith
longer (Some k) xs n h = omega arith

numbers_in-length : (number : Instr → Option ℕ) (code : List Lined) → length (numbers_in number code) ≤ length code
numbers_in-length number [] = omega arith
numbers_in-length number (x ∷ code) = longer (number x.instr) (numbers_in number code) (length code) (numbers_in-length number code)

numbers_in_funs-length : (number : Instr → Option ℕ) (funs : List Fun) → length (numbers_in_funs number funs) ≤ sum_by (λ fun. length fun.code) funs
numbers_in_funs-length number [] = omega arith
numbers_in_funs-length number (x ∷ funs) =
    omega (arith, length-append (numbers_in number x.code) (numbers_in_funs number funs), numbers_in-length number x.code, numbers_in_funs-length number funs, sum_by-cons (λ (y : Fun). length y.code) x funs)

-- reads are at most as many as points
pub read_below : (c : Code) → GoodForm c → (f : ℕ) (fun : Fun) (at : ℕ) (l : Lined) (r : ℕ)
    → slice_get c.funs f ≡ Some fun → slice_get fun.code at ≡ Some l → new_read l.instr ≡ Some r → r < 65536
read_below c good f fun at l r found here named =
    let count : length (reads_made c) ≤ 16384 = omega (arith, numbers_in_funs-length new_read c.funs, sum-map (λ (x : Fun). length x.code) c.funs, good.limits.points) in
    let all : are_below 65536 (reads_made c) ≡ true =
    subst (λ xs. are_below 65536 xs ≡ true) (sym good.numbers.reads) (counted_below 1 (length (reads_made c)) 65536 (omega arith)) in
    ltb-true _ _ (in_funs new_read (λ x. nat_lt x 65536) c.funs f fun at l r found here named all)

-- a function has at most as many instructions as there are points
code_within : (funs : List Fun) (f : ℕ) (fun : Fun) → slice_get funs f ≡ Some fun → length fun.code ≤ sum_by (λ x. length x.code) funs
code_within [] f fun found = cc
code_within (x ∷ funs) zero fun found = let same : x ≡ fun = cc in omega (arith, ap (λ (y : Fun). length y.code) same, sum_by-cons (λ (y : Fun). length y.code) x funs)
code_within (x ∷ funs) (suc f) fun found = omega (arith, code_within funs f fun found, sum_by-cons (λ (y : Fun). length y.code) x funs)

pub index_below : (c : Code) → GoodForm c → (f : ℕ) (fun : Fun) (at : ℕ) (l : Lined) → slice_get c.funs f ≡ Some fun → slice_get fun.code at ≡ Some l → at < 16384
index_below c good f fun at l found here =
    omega (arith, slice_get_within fun.code at l here, code_within c.funs f fun found, sum-map (λ (x : Fun). length x.code) c.funs, good.limits.points)

-- Sites: each has a node at least.

nodes_by-some : (nodes : ℕ → ℕ) (shape : Shape) → 1 ≤ nodes_by nodes shape
nodes_by-some nodes Shape.Int = omega arith
nodes_by-some nodes Shape.Ptr = omega arith
nodes_by-some nodes (Shape.Array len item) = omega arith
nodes_by-some nodes (Shape.Struct parts) = omega arith

nodes_in-some : (shapes : List Shape) (s : ℕ) → s < length shapes → 1 ≤ nodes_in shapes s
unfolding nodes_in
nodes_in-some [] s h = absurd (omega arith)
nodes_in-some (x ∷ earlier) s h = by (nat_eq s (length earlier)) refl (nodes_in-some earlier s)
  where
    by : (b : Bool) → nat_eq s (length earlier) ≡ b → (s < length earlier → 1 ≤ nodes_in earlier s)
        → 1 ≤ elim b [ true ↦ nodes_by (nodes_in earlier) x | false ↦ nodes_in earlier s ]
    by true is rest = nodes_by-some (nodes_in earlier) x
    by false is rest = rest (let other : s ≡ length earlier → ⊥ = λ e. (let t : nat_eq s (length earlier) ≡ true = eq-eqb s (length earlier) e in let clash : true ≡ false = sym t ∙ is in cc) in omega (arith, other))

-- the nodes of these shapes are at least as many as the shapes
some_each : (c : Code) (shapes : List ℕ) → ((k : ℕ) (s : ℕ) → slice_get shapes k ≡ Some s → s < length c.shapes) → length shapes ≤ sum_by (shape_nodes c) shapes
some_each c [] inside = omega arith
some_each c (s ∷ shapes) inside =
    let some : 1 ≤ shape_nodes c s = nodes_in-some (reverse c.shapes) s (omega (arith, inside 0 s refl, length-reverse c.shapes)) in
    omega (arith, some, some_each c shapes (λ k t e. inside (suc k) t e), sum_by-cons (shape_nodes c) s shapes)

sites_are_nodes : (c : Code) → GoodForm c → length c.sites ≤ 16384
sites_are_nodes c good =
    let shapes : List ℕ = map (λ (s : Site). s.shape) c.sites in
    let inside : (k s : ℕ) → slice_get shapes k ≡ Some s → s < length c.shapes = λ k s e.
    (let read : option_map (λ (x : Site). x.shape) (slice_get c.sites k) ≡ Some s = sym (slice_get-map (λ (x : Site). x.shape) c.sites k) ∙ e in
    site_shape k s (slice_get c.sites k) refl read) in
    omega (
      arith,
      some_each c shapes inside,
      length-map c.sites (λ (s : Site). s.shape),
      sum-map (shape_nodes c) (shapes_used c),
      sum_by-append (shape_nodes c) (shapes_of_globals c) (vars_in_funs c.funs ++ shapes),
      sum_by-append (shape_nodes c) (vars_in_funs c.funs) shapes,
      good.limits.nodes,
    )
  where
    site_shape : (k s : ℕ) (o : Option Site) → slice_get c.sites k ≡ o → option_map (λ (x : Site). x.shape) o ≡ Some s → s < length c.shapes
    site_shape k s None is e = cc
    site_shape k s (Some x) is e =
        let within : k < length c.sites = slice_get_within c.sites k x is in
        let here : Some (get_or c.sites k x) ≡ Some x = sym (slice_get-get_or c.sites k x within) ∙ is in
        let at : get_or c.sites k x ≡ x = cc in
        let shape : x.shape ≡ s = cc in
        subst (λ n. n < length c.shapes) (ap (λ (y : Site). y.shape) at ∙ shape) (good.globals.sites k x within)

pub site_below : (c : Code) → GoodForm c → (site : ℕ) → site < length c.sites → site < 65536
site_below c good site h = omega (arith, sites_are_nodes c good)
