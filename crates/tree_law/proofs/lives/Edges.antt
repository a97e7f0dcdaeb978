-- Where edges lead, and that there is an instruction.
use Rattle.std.proofs.Common.{◌≡◌, ℕ, zero, suc, ◌+◌, ◌-◌, ◌<◌, List, [], ◌∷◌, ◌++◌, length, Bool, true, false, refl, Option, Some, None, arith, sym, ◌∙◌, ap, subst}
use Rattle.std.specs.Prelude.{nat_le, slice_get, Contains}
use Rattle.std.proofs.lemmas.Bool.{leb-true, leb-false}
use Rattle.std.proofs.lemmas.Option.{slice_get_within}
use Rattle.std.proofs.lemmas.List.Elements.{Contains-append_left, Contains-append_right}
use Rattle.dfi_base.specs.declared.numbers.Point.{Point}
use Rattle.tac_ir.specs.declared.code.Code.{Code}
use Rattle.tac_ir.specs.declared.code.Fun.{Fun}
use Rattle.tac_ir.specs.declared.code.Instr.{Instr}
use Rattle.tac_ir.specs.declared.code.Lined.{Lined}
use Rattle.tac_ir.specs.Layout.{lines_of}
use Rattle.tac_ir.specs.Edges.{calls_fun, after_calls, all_after_calls, points_in, edges_of}
use Rattle.tac_ir.specs.Regions.{Region, regions_of}
use Rattle.tac_ir.specs.GoodForm.{GoodForm, IsLastKind, targets_of, fork_targets_of, all_targets_of}
use Rattle.tac_thread.specs.tools.Fetched.{instr_in}
use Rattle.tac_ir.proofs.regions.Outside.{front_is, same_line}
use Rattle.tac_ir.proofs.regions.Nested.{one_of}
use Rattle.tree_law.proofs.lives.Lines.{IsThere, there, good_code, is_passed, is_jump}
use Rattle.tree_law.proofs.trees.Changed.{some_at}

first_listed : {A : Type 0} → (x : A) (xs : List A) → Contains (x ∷ xs) x
first_listed x xs = (0, omega arith, refl)

later_listed : {A : Type 0} → (x y : A) (xs : List A) → Contains xs y → Contains (x ∷ xs) y
later_listed x y xs h = Contains-append_right (x ∷ []) xs y h

abbrev pub is_call : Instr → Bool
is_call (Instr.Call to g def args) = true
is_call i = false

pub next_edge : (c : Code) (p : Point) (i : Instr) → is_passed i ≡ true → is_call i ≡ false → Contains (edges_of c p i) (record { fun = p.fun; at = p.at + 1 })
next_edge c p (Instr.Jump t) h n = cc
next_edge c p (Instr.Test x a b) h n = cc
next_edge c p (Instr.Ret x r) h n = cc
next_edge c p (Instr.Fork join entries) h n = cc
next_edge c p Instr.End h n = cc
next_edge c p (Instr.Call to f def args) h n = cc
next_edge c p (Instr.Const to k) h n = first_listed _ []
next_edge c p (Instr.Null to) h n = first_listed _ []
next_edge c p (Instr.Un to op a) h n = first_listed _ []
next_edge c p (Instr.Bin to op a b) h n = first_listed _ []
next_edge c p (Instr.Addr to place) h n = first_listed _ []
next_edge c p (Instr.Field to a shape k) h n = first_listed _ []
next_edge c p (Instr.Decay to a shape) h n = first_listed _ []
next_edge c p (Instr.Index to a b words) h n = first_listed _ []
next_edge c p (Instr.Get to place r) h n = first_listed _ []
next_edge c p (Instr.Load to a r) h n = first_listed _ []
next_edge c p (Instr.Set place a d) h n = first_listed _ []
next_edge c p (Instr.Store a b d) h n = first_listed _ []
next_edge c p (Instr.Same to ne a b) h n = first_listed _ []
next_edge c p (Instr.New to a site) h n = first_listed _ []
next_edge c p (Instr.Free a) h n = first_listed _ []
next_edge c p (Instr.In to) h n = first_listed _ []
next_edge c p (Instr.Left to) h n = first_listed _ []
next_edge c p (Instr.Out a) h n = first_listed _ []
next_edge c p Instr.Turn h n = first_listed _ []

points_listed : (f : ℕ) (xs : List ℕ) (k e : ℕ) → slice_get xs k ≡ Some e → Contains (points_in f xs) (record { fun = f; at = e })
points_listed f [] k e is = cc
points_listed f (x ∷ xs) zero e is = (let one : x ≡ e = cc in subst (λ z. Contains (points_in f (x ∷ xs)) (record { fun = f; at = z })) one (first_listed (record { fun = f; at = x }) (points_in f xs)))
points_listed f (x ∷ xs) (suc k) e is = later_listed (record { fun = f; at = x }) (record { fun = f; at = e }) (points_in f xs) (points_listed f xs k e is)

pub jump_edge : (c : Code) (p : Point) (i : Instr) (j t : ℕ) → is_jump i ≡ true → slice_get (targets_of i) j ≡ Some t → Contains (edges_of c p i) (record { fun = p.fun; at = t })
jump_edge c p (Instr.Jump target) j t jump is = points_listed p.fun (target ∷ []) j t is
jump_edge c p (Instr.Test x a b) j t jump is = points_listed p.fun (a ∷ b ∷ []) j t is
jump_edge c p i j t jump is = cc

pub fork_edge : (c : Code) (p : Point) (join : ℕ) (entries : List ℕ) (k e : ℕ) → slice_get entries k ≡ Some e → Contains (edges_of c p (Instr.Fork join entries)) (record { fun = p.fun; at = e })
fork_edge c p join entries k e is = points_listed p.fun entries k e is

-- Returns lead behind each call of the function.

abbrev after_or : Bool → Point → List Point → List Point
after_or b p rest = elim b [ true ↦ p ∷ rest | false ↦ rest ]

still_after : (b : Bool) (p q : Point) (rest : List Point) → Contains rest q → Contains (after_or b p rest) q
still_after true p q rest h = later_listed p q rest h
still_after false p q rest h = h

behind_listed : (f g at : ℕ) (code : List Lined) (j : ℕ) (l : Lined) → slice_get code j ≡ Some l → calls_fun f l.instr ≡ true → Contains (after_calls f g at code) (record { fun = g; at = suc (at + j) })
behind_listed f g at [] j l found is = cc
behind_listed f g at (x ∷ rest) zero l found is =
    let one : x ≡ l = cc in
    let call : calls_fun f x.instr ≡ true = ap (λ (z : Lined). calls_fun f z.instr) one ∙ is in
    let place : suc at ≡ suc (at + 0) = omega arith in
    subst (λ b. Contains (after_or b (record { fun = g; at = suc at }) (after_calls f g (suc at) rest)) (record { fun = g; at = suc (at + 0) })) (sym call)
    (subst (λ z. Contains (record { fun = g; at = suc at } ∷ after_calls f g (suc at) rest) (record { fun = g; at = z })) place (first_listed (record { fun = g; at = suc at }) (after_calls f g (suc at) rest)))
behind_listed f g at (x ∷ rest) (suc j) l found is =
    let place : suc (suc at + j) ≡ suc (at + suc j) = omega arith in
    still_after (calls_fun f x.instr) (record { fun = g; at = suc at }) (record { fun = g; at = suc (at + suc j) }) (after_calls f g (suc at) rest)
    (subst (λ z. Contains (after_calls f g (suc at) rest) (record { fun = g; at = z })) place (behind_listed f g (suc at) rest j l found is))

all_listed : (f q : ℕ) (funs : List Fun) (g : ℕ) (fun : Fun) (j : ℕ) (l : Lined) → slice_get funs g ≡ Some fun → slice_get fun.code j ≡ Some l → calls_fun f l.instr ≡ true
    → Contains (all_after_calls f q funs) (record { fun = q + g; at = suc j })
all_listed f q [] g fun j l here found is = cc
all_listed f q (x ∷ rest) zero fun j l here found is =
    let one : x ≡ fun = cc in
    let name : q ≡ q + 0 = omega arith in
    let zero_is : suc (0 + j) ≡ suc j = omega arith in
    subst (λ z. Contains (all_after_calls f q (x ∷ rest)) (record { fun = z; at = suc j })) name
    (Contains-append_left (after_calls f q 0 x.code) (all_after_calls f (suc q) rest) (record { fun = q; at = suc j })
    (subst (λ z. Contains (after_calls f q 0 x.code) (record { fun = q; at = z })) zero_is (behind_listed f q 0 x.code j l (ap (λ (z : Fun). slice_get z.code j) one ∙ found) is)))
all_listed f q (x ∷ rest) (suc g) fun j l here found is =
    let name : suc q + g ≡ q + suc g = omega arith in
    Contains-append_right (after_calls f q 0 x.code) (all_after_calls f (suc q) rest) (record { fun = q + suc g; at = suc j })
    (subst (λ z. Contains (all_after_calls f (suc q) rest) (record { fun = z; at = suc j })) name (all_listed f (suc q) rest g fun j l here found is))

pub ret_edge : (c : Code) (p : Point) (a r g at : ℕ) (l : Lined) → slice_get (lines_of c g) at ≡ Some l → calls_fun p.fun l.instr ≡ true → Contains (edges_of c p (Instr.Ret a (Some r))) (record { fun = g; at = at + 1 })
ret_edge c p a r g at l found call = by (slice_get c.funs g) refl found
  where
    by : (o : Option Fun) → slice_get c.funs g ≡ o → slice_get (elim o [ None ↦ [] | Some fun ↦ fun.code ]) at ≡ Some l → Contains (edges_of c p (Instr.Ret a (Some r))) (record { fun = g; at = at + 1 })
    by None is there_is = cc
    by (Some fun) is there_is =
        let place : suc at ≡ at + 1 = omega arith in
        let name : 0 + g ≡ g = omega arith in
        subst (λ z. Contains (all_after_calls p.fun 0 c.funs) (record { fun = g; at = z })) place (subst (λ z. Contains (all_after_calls p.fun 0 c.funs) (record { fun = z; at = suc at })) name (all_listed p.fun 0 c.funs g fun at l is there_is call))

-- Instructions that are there.

abbrev pub IsLine : Code → ℕ → ℕ → Type 0
IsLine c f at = (l : Lined) × (slice_get (lines_of c f) at ≡ Some l)

not_last : (i : Instr) → IsLastKind i → is_passed i ≡ true → ⊥
not_last (Instr.Ret a r) last h = cc
not_last (Instr.Jump t) last h = cc
not_last Instr.End last h = cc
not_last i last h = absurd last

pub next_line : (c : Code) → GoodForm c → (f at : ℕ) (i : Instr) → instr_in (lines_of c f) at ≡ i → is_passed i ≡ true → IsLine c f (at + 1)
next_line c good f at i is passed =
    let t = there (lines_of c f) at i is (λ e. let clash : true ≡ false = sym passed ∙ ap is_passed e in cc) in
    let code = good_code c good f at t.line t.found in
    by t code.last (nat_le (length (lines_of c f)) (at + 1)) refl
  where
    by : (t : IsThere (lines_of c f) at i) → ((l : Lined) × (slice_get (lines_of c f) (length (lines_of c f) - 1) ≡ Some l) × IsLastKind l.instr) → (b : Bool) → nat_le (length (lines_of c f)) (at + 1) ≡ b → IsLine c f (at + 1)
    by t last true short =
        let within = slice_get_within (lines_of c f) at t.line t.found in
        let s = leb-true _ _ short in
        let place : length (lines_of c f) - 1 ≡ at = omega (arith, within, s) in
        let one = same_line (lines_of c f) at (length (lines_of c f) - 1) t.line last.0 t.found last.1 place in
        absurd (not_last last.0.instr last.2 (ap (λ (z : Lined). is_passed z.instr) (sym one) ∙ ap is_passed t.is ∙ passed))
    by t last false long = (let s = leb-false _ _ long in some_at (lines_of c f) (at + 1) s)

named_line : (c : Code) → GoodForm c → (f at : ℕ) (l : Lined) → slice_get (lines_of c f) at ≡ Some l → (j t : ℕ) → slice_get (all_targets_of l.instr) j ≡ Some t → IsLine c f t
named_line c good f at l found j t named = some_at (lines_of c f) t (one_of (λ z. z < length (lines_of c f)) (all_targets_of l.instr) j t ((good_code c good f at l found).instrs at l found).targets named)

pub jump_line : (c : Code) → GoodForm c → (f at : ℕ) (i : Instr) → instr_in (lines_of c f) at ≡ i → is_jump i ≡ true → (j t : ℕ) → slice_get (targets_of i) j ≡ Some t → IsLine c f t
jump_line c good f at i is jump j t named =
    let h = there (lines_of c f) at i is (λ e. let clash : true ≡ false = sym jump ∙ ap is_jump e in cc) in
    named_line c good f at h.line h.found j t (front_is (targets_of h.line.instr) (fork_targets_of h.line.instr) j t (ap (λ z. slice_get (targets_of z) j) h.is ∙ named))

last_of : (xs : List ℕ) (x : ℕ) → slice_get (xs ++ x ∷ []) (length xs) ≡ Some x
last_of [] x = refl
last_of (y ∷ xs) x = last_of xs x

pub join_line : (c : Code) → GoodForm c → (f at join : ℕ) (entries : List ℕ) → instr_in (lines_of c f) at ≡ Instr.Fork join entries → IsLine c f join
join_line c good f at join entries is =
    let h = there (lines_of c f) at (Instr.Fork join entries) is (λ e. cc) in
    named_line c good f at h.line h.found (length entries) join (ap (λ z. slice_get (all_targets_of z) (length entries)) h.is ∙ last_of entries join)

pub branch_line : (c : Code) → GoodForm c → (f at join : ℕ) (entries : List ℕ) (k e : ℕ) → instr_in (lines_of c f) at ≡ Instr.Fork join entries → slice_get entries k ≡ Some e → IsLine c f e
branch_line c good f at join entries k e is listed =
    let h = there (lines_of c f) at (Instr.Fork join entries) is (λ z. cc) in
    named_line c good f at h.line h.found k e (ap (λ z. slice_get (all_targets_of z) k) h.is ∙ front_is entries (join ∷ []) k e listed)

pub entry_line : (c : Code) → GoodForm c → (f : ℕ) → f < length c.funs → IsLine c f 0
entry_line c good f within = by (slice_get c.funs f) refl (some_at c.funs f within)
  where
    by : (o : Option Fun) → slice_get c.funs f ≡ o → (x : Fun) × (o ≡ Some x) → (l : Lined) × (slice_get (elim o [ None ↦ [] | Some fun ↦ fun.code ]) 0 ≡ Some l)
    by None is some = (let e = some.1 in cc)
    by (Some fun) is some =
        let last = (good.code f fun is).last in
        let w = slice_get_within fun.code (length fun.code - 1) last.0 last.1 in
        some_at fun.code 0 (omega (arith, w))

-- as many regions as entries, each with its number
pub regions_count : (p join : ℕ) (entries : List ℕ) → length (regions_of p join entries) ≡ length entries
regions_count p join [] = refl
regions_count p join (e ∷ []) = refl
regions_count p join (e ∷ next ∷ entries) = ap suc (regions_count p join (next ∷ entries))

pub region_entry : (p join : ℕ) (entries : List ℕ) (k e : ℕ) (r : Region) → slice_get entries k ≡ Some e → slice_get (regions_of p join entries) k ≡ Some r → (r.entry ≡ e) × (r.fork ≡ p)
region_entry p join [] k e r is here = cc
region_entry p join (x ∷ []) zero e r is here =
    let one : record { fork = p; entry = x; last = join - 1 } ≡ r = cc in
    let same : x ≡ e = cc in
    (sym (ap (λ (z : Region). z.entry) one) ∙ same, sym (ap (λ (z : Region). z.fork) one))
region_entry p join (x ∷ []) (suc k) e r is here = cc
region_entry p join (x ∷ next ∷ entries) zero e r is here =
    let one : record { fork = p; entry = x; last = next - 1 } ≡ r = cc in
    let same : x ≡ e = cc in
    (sym (ap (λ (z : Region). z.entry) one) ∙ same, sym (ap (λ (z : Region). z.fork) one))
region_entry p join (x ∷ next ∷ entries) (suc k) e r is here = region_entry p join (next ∷ entries) k e r is here

pub region_listed : (p join : ℕ) (entries : List ℕ) (k : ℕ) (r : Region) → slice_get (regions_of p join entries) k ≡ Some r → Contains (regions_of p join entries) r
region_listed p join entries k r here = by (regions_of p join entries) k here
  where
    by : (xs : List Region) (j : ℕ) → slice_get xs j ≡ Some r → Contains xs r
    by [] j is = cc
    by (x ∷ xs) zero is = (let one : x ≡ r = cc in subst (Contains (x ∷ xs)) one (first_listed x xs))
    by (x ∷ xs) (suc j) is = later_listed x r xs (by xs j is)
