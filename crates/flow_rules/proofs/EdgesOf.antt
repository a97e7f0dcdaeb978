-- Where edges lead, by what the instruction is.
use Rattle.std.proofs.Common.{◌≡◌, ℕ, zero, suc, ◌+◌, ◌<◌, ◌⊎◌, inl, inr, Bool, true, false, List, [], ◌∷◌, length, get_or, refl, sym, ap, ◌∙◌, subst, arith, Option, Some, None}
use Rattle.std.specs.Prelude.{slice_get, Contains, All}
use Rattle.std.proofs.lemmas.List.Elements.{Contains-append_left, Contains-append_right, Contains-append_cases}
use Rattle.std.proofs.lemmas.Option.{slice_get_within, slice_get-get_or}
use Rattle.dfi_base.specs.declared.numbers.Point.{Point}
use Rattle.tac_ir.specs.declared.code.Code.{Code}
use Rattle.tac_ir.specs.declared.code.Fun.{Fun}
use Rattle.tac_ir.specs.declared.code.Instr.{Instr}
use Rattle.tac_ir.specs.declared.code.Lined.{Lined}
use Rattle.tac_ir.specs.declared.module.Reach.{Reach}
use Rattle.tac_ir.specs.Edges.{calls_fun, after_calls, all_after_calls, points_in, edges_of, edges_from}
use Rattle.tac_ir.specs.GoodForm.{GoodForm, IsLastKind}
use Rattle.tac_ir.specs.GoodModule.{IsPoint}
use Rattle.tac_ir.specs.Layout.{lines_of, instr_at}
use Rattle.tac_ir.proofs.Numbering.{has_line}
use Rattle.flow_rules.specs.PointNumber.{point_at, entry}
use Rattle.flow_rules.specs.Kills.{Kills}
use Rattle.flow_rules.specs.tools.Killed.{IsKilled}
use Rattle.flow_rules.specs.tools.ReachRules.{FlowsTo, EdgesBy}
use Rattle.flow_rules.proofs.InCode.{names_at}
use Rattle.flow_rules.proofs.Parallels.{lines_are, enters}
use Rattle.flow_rules.proofs.ReachRules.{targets_at, entries_exist, next_exists, call_is_not_last}

-- Behind calls.

first_listed : {A : Type 0} → (x : A) (xs : List A) → Contains (x ∷ xs) x
first_listed x xs = (0, omega arith, refl)

later_listed : {A : Type 0} → (x y : A) (xs : List A) → Contains xs y → Contains (x ∷ xs) y
later_listed x y xs h = Contains-append_right (x ∷ []) xs y h

one_or_later : {A : Type 0} → (x y : A) (xs : List A) → Contains (x ∷ xs) y → (x ≡ y) ⊎ Contains xs y
one_or_later x y xs h = by h.0 h.1 h.2
  where
    by : (i : ℕ) → i < length (x ∷ xs) → get_or (x ∷ xs) i y ≡ y → (x ≡ y) ⊎ Contains xs y
    by zero low is = inl is
    by (suc i) low is = inr (i, omega (arith, low), is)

record IsBehindCall (f g at : ℕ) (code : List Lined) (q : Point) : Type 0 where
  index : ℕ
  line : Lined
  found : slice_get code index ≡ Some line
  calls : calls_fun f line.instr ≡ true
  point : point_at g (suc (at + index)) ≡ q

behind_calls : (f g at : ℕ) (code : List Lined) (q : Point) → Contains (after_calls f g at code) q → IsBehindCall f g at code q
behind_calls f g at [] q h = (let low = h.1 in absurd (omega (arith, low)))
behind_calls f g at (x ∷ rest) q h = by (calls_fun f x.instr) refl h (behind_calls f g (suc at) rest q)
  where
    later : IsBehindCall f g (suc at) rest q → IsBehindCall f g at (x ∷ rest) q
    later r =
        let place : suc (at + suc r.index) ≡ suc (suc at + r.index) = omega arith in
        record { index = suc r.index; line = r.line; found = r.found; calls = r.calls; point = ap (point_at g) place ∙ r.point }

    by : (b : Bool) → calls_fun f x.instr ≡ b → Contains (elim b as (λ z. List Point) [ true ↦ record { fun = g; at = suc at } ∷ after_calls f g (suc at) rest | false ↦ after_calls f g (suc at) rest ]) q
        → (Contains (after_calls f g (suc at) rest) q → IsBehindCall f g (suc at) rest q) → IsBehindCall f g at (x ∷ rest) q
    by false is h more = later (more h)
    by true is h more = pick (one_or_later (point_at g (suc at)) q (after_calls f g (suc at) rest) h)
      where
        pick : (point_at g (suc at) ≡ q) ⊎ Contains (after_calls f g (suc at) rest) q → IsBehindCall f g at (x ∷ rest) q
        pick (inl here) =
            let place : suc (at + 0) ≡ suc at = omega arith in
            record { index = 0; line = x; found = refl; calls = is; point = ap (point_at g) place ∙ here }
        pick (inr there) = later (more there)

record IsBehindSome (f first : ℕ) (funs : List Fun) (q : Point) : Type 0 where
  number : ℕ
  fun : Fun
  function : slice_get funs number ≡ Some fun
  behind : IsBehindCall f (first + number) 0 fun.code q

all_behind : (f first : ℕ) (funs : List Fun) (q : Point) → Contains (all_after_calls f first funs) q → IsBehindSome f first funs q
all_behind f first [] q h = (let low = h.1 in absurd (omega (arith, low)))
all_behind f first (x ∷ funs) q h = by (Contains-append_cases (after_calls f first 0 x.code) (all_after_calls f (suc first) funs) q h) (all_behind f (suc first) funs q)
  where
    by : Contains (after_calls f first 0 x.code) q ⊎ Contains (all_after_calls f (suc first) funs) q → (Contains (all_after_calls f (suc first) funs) q → IsBehindSome f (suc first) funs q) → IsBehindSome f first (x ∷ funs) q
    by (inl here) more =
        let same : first ≡ first + 0 = omega arith in
        record { number = 0; fun = x; function = refl; behind = subst (λ g. IsBehindCall f g 0 x.code q) same (behind_calls f first 0 x.code q here) }
    by (inr there) more =
        let r = more there in
        let same : suc first + r.number ≡ first + suc r.number = omega arith in
        record { number = suc r.number; fun = r.fun; function = r.function; behind = subst (λ g. IsBehindCall f g 0 r.fun.code q) same r.behind }

pub record IsReturnTo (c : Code) (f : ℕ) (q : Point) : Type 0 where
  pub at : Point
  pub calls : calls_fun f (instr_at c at) ≡ true
  pub exists : at.fun < length c.funs
  pub point : point_at at.fun (suc at.at) ≡ q
  pub real : IsPoint c at

pub return_to : (c : Code) (f : ℕ) (q : Point) → Contains (all_after_calls f 0 c.funs) q → IsReturnTo c f q
return_to c f q h =
    let r = all_behind f 0 c.funs q h in
    let lines = lines_are c r.number r.fun r.function in
    let whole : 0 + r.number ≡ r.number = omega arith in
    let place : 0 + r.behind.index ≡ r.behind.index = omega arith in
    let instr : instr_at c (point_at r.number r.behind.index) ≡ r.behind.line.instr =
    ap (λ (o : Option Lined). elim o as (λ z. Instr) [ None ↦ Instr.End | Some lined ↦ lined.instr ]) (ap (λ xs. slice_get xs r.behind.index) lines ∙ r.behind.found) in
    let within = slice_get_within r.fun.code r.behind.index r.behind.line r.behind.found in
    record {
      at = point_at r.number r.behind.index;
      calls = ap (calls_fun f) instr ∙ r.behind.calls;
      exists = slice_get_within c.funs r.number r.fun r.function;
      point = ap (λ g. point_at g (suc r.behind.index)) (sym whole) ∙ ap (λ n. point_at (0 + r.number) (suc n)) (sym place) ∙ r.behind.point;
      real = omega (arith, within, ap length lines);
    }

still_after : (b : Bool) (p q : Point) (rest : List Point) → Contains rest q → Contains (elim b as (λ z. List Point) [ true ↦ p ∷ rest | false ↦ rest ]) q
still_after true p q rest h = later_listed p q rest h
still_after false p q rest h = h

behind_listed : (f g at : ℕ) (code : List Lined) (j : ℕ) (l : Lined) → slice_get code j ≡ Some l → calls_fun f l.instr ≡ true → Contains (after_calls f g at code) (point_at g (suc (at + j)))
behind_listed f g at [] j l found is = cc
behind_listed f g at (x ∷ rest) zero l found is =
    let one : x ≡ l = cc in
    let call : calls_fun f x.instr ≡ true = ap (λ (z : Lined). calls_fun f z.instr) one ∙ is in
    let place : suc at ≡ suc (at + 0) = omega arith in
    subst (λ b. Contains (elim b as (λ z. List Point) [ true ↦ point_at g (suc at) ∷ after_calls f g (suc at) rest | false ↦ after_calls f g (suc at) rest ]) (point_at g (suc (at + 0)))) (sym call)
    (subst (λ z. Contains (point_at g (suc at) ∷ after_calls f g (suc at) rest) (point_at g z)) place (first_listed (point_at g (suc at)) (after_calls f g (suc at) rest)))
behind_listed f g at (x ∷ rest) (suc j) l found is =
    let place : suc (suc at + j) ≡ suc (at + suc j) = omega arith in
    still_after (calls_fun f x.instr) (point_at g (suc at)) (point_at g (suc (at + suc j))) (after_calls f g (suc at) rest)
    (subst (λ z. Contains (after_calls f g (suc at) rest) (point_at g z)) place (behind_listed f g (suc at) rest j l found is))

all_listed : (f q : ℕ) (funs : List Fun) (g : ℕ) (fun : Fun) (j : ℕ) (l : Lined) → slice_get funs g ≡ Some fun → slice_get fun.code j ≡ Some l → calls_fun f l.instr ≡ true
    → Contains (all_after_calls f q funs) (point_at (q + g) (suc j))
all_listed f q [] g fun j l here found is = cc
all_listed f q (x ∷ rest) zero fun j l here found is =
    let one : x ≡ fun = cc in
    let name : q ≡ q + 0 = omega arith in
    let zero_is : suc (0 + j) ≡ suc j = omega arith in
    subst (λ z. Contains (all_after_calls f q (x ∷ rest)) (point_at z (suc j))) name
    (Contains-append_left (after_calls f q 0 x.code) (all_after_calls f (suc q) rest) (point_at q (suc j))
    (subst (λ z. Contains (after_calls f q 0 x.code) (point_at q z)) zero_is (behind_listed f q 0 x.code j l (ap (λ (z : Fun). slice_get z.code j) one ∙ found) is)))
all_listed f q (x ∷ rest) (suc g) fun j l here found is =
    let name : suc q + g ≡ q + suc g = omega arith in
    Contains-append_right (after_calls f q 0 x.code) (all_after_calls f (suc q) rest) (point_at (q + suc g) (suc j))
    (subst (λ z. Contains (all_after_calls f (suc q) rest) (point_at z (suc j))) name (all_listed f (suc q) rest g fun j l here found is))

calls_listed : (c : Code) (f : ℕ) (x : Point) → calls_fun f (instr_at c x) ≡ true → Contains (all_after_calls f 0 c.funs) (point_at x.fun (suc x.at))
calls_listed c f x calls =
    let h = has_line (λ i. number (calls_fun f i)) c x 0 refl (ap number calls) in
    let whole : 0 + x.fun ≡ x.fun = omega arith in
    subst (λ g. Contains (all_after_calls f 0 c.funs) (point_at g (suc x.at))) whole
    (all_listed f 0 c.funs x.fun h.fun x.at h.line h.function h.found (ap (calls_fun f) (sym h.instr) ∙ calls))
  where
    number : Bool → Option ℕ
    number true = Some 0
    number false = None

-- Points of a function.

points_listed : (f : ℕ) (xs : List ℕ) (k e : ℕ) → slice_get xs k ≡ Some e → Contains (points_in f xs) (point_at f e)
points_listed f [] k e is = cc
points_listed f (x ∷ xs) zero e is = (let one : x ≡ e = cc in subst (λ z. Contains (points_in f (x ∷ xs)) (point_at f z)) one (first_listed (point_at f x) (points_in f xs)))
points_listed f (x ∷ xs) (suc k) e is = later_listed (point_at f x) (point_at f e) (points_in f xs) (points_listed f xs k e is)

record IsIndex (f : ℕ) (xs : List ℕ) (q : Point) : Type 0 where
  index : ℕ
  e : ℕ
  found : slice_get xs index ≡ Some e
  point : point_at f e ≡ q

listed_index : (f : ℕ) (xs : List ℕ) (q : Point) → Contains (points_in f xs) q → IsIndex f xs q
listed_index f [] q h = (let low = h.1 in absurd (omega (arith, low)))
listed_index f (x ∷ xs) q h = by (one_or_later (point_at f x) q (points_in f xs) h) (listed_index f xs q)
  where
    by : (point_at f x ≡ q) ⊎ Contains (points_in f xs) q → (Contains (points_in f xs) q → IsIndex f xs q) → IsIndex f (x ∷ xs) q
    by (inl here) more = record { index = 0; e = x; found = refl; point = here }
    by (inr there) more = (let r = more there in record { index = suc r.index; e = r.e; found = r.found; point = r.point })

-- What is not a `set` kills nothing.

none_killed : (c : Code) (f : ℕ) (i : Instr) (killed : Option ℕ) → IsKilled c f i killed → ((a : ℕ) → Kills c f i a → ⊥) → killed ≡ None
none_killed c f i None h none = refl
none_killed c f i (Some a) h none = absurd (none a ((h.each a).1 refl))

-- The rules on edges, one edge at a time.

module _ (c : Code) (r : Reach) (p : Point) where
  Flow : Option ℕ → Point → Type 0
  Flow killed q = FlowsTo c r killed p q (length r.facts.pairs)

  one_edge : (killed : Option ℕ) (x q : Point) → Flow killed x → Contains (x ∷ []) q → Flow killed q
  unfolding Flow
  one_edge killed x q h listed = (let one : x ≡ q = (let low = listed.1 in by listed.0 low listed.2) in subst (λ z. FlowsTo c r killed p z (length r.facts.pairs)) one h)
    where
      by : (i : ℕ) → i < 1 → get_or (x ∷ []) i q ≡ q → x ≡ q
      by zero low is = is
      by (suc i) low is = absurd (omega (arith, low))

  with_none : (killed : Option ℕ) (q : Point) → killed ≡ None → FlowsTo c r None p q (length r.facts.pairs) → FlowsTo c r killed p q (length r.facts.pairs)
  with_none killed q is h = subst (λ k. FlowsTo c r k p q (length r.facts.pairs)) (sym is) h

  to_none : (killed : Option ℕ) (q : Point) → killed ≡ None → FlowsTo c r killed p q (length r.facts.pairs) → FlowsTo c r None p q (length r.facts.pairs)
  to_none killed q is h = subst (λ k. FlowsTo c r k p q (length r.facts.pairs)) is h

  pub edges_flow : (killed : Option ℕ) (i : Instr) → IsKilled c p.fun i killed → EdgesBy c r killed p i → (q : Point) → Contains (edges_of c p i) q → FlowsTo c r killed p q (length r.facts.pairs)
  unfolding Flow
  edges_flow killed (Instr.Jump t) kill h q listed = with_none killed q (none_killed c p.fun (Instr.Jump t) killed kill (λ a k. k)) (one_edge None (point_at p.fun t) q h listed)
  edges_flow killed (Instr.Test x y n) kill h q listed =
      let s = listed_index p.fun (y ∷ n ∷ []) q listed in
      with_none killed q (none_killed c p.fun (Instr.Test x y n) killed kill (λ a k. k)) (subst (λ z. FlowsTo c r None p z (length r.facts.pairs)) s.point (by s.index s.e s.found))
    where
      by : (i e : ℕ) → slice_get (y ∷ n ∷ []) i ≡ Some e → FlowsTo c r None p (point_at p.fun e) (length r.facts.pairs)
      by zero e found = (let one : y ≡ e = cc in subst (λ z. FlowsTo c r None p (point_at p.fun z) (length r.facts.pairs)) one h.0)
      by (suc zero) e found = (let one : n ≡ e = cc in subst (λ z. FlowsTo c r None p (point_at p.fun z) (length r.facts.pairs)) one h.1)
      by (suc (suc i)) e found = cc
  edges_flow killed (Instr.Call to f d args) kill h q listed = with_none killed q (none_killed c p.fun (Instr.Call to f d args) killed kill (λ a k. k)) (one_edge None (entry f) q h listed)
  edges_flow killed (Instr.Ret x (Some read)) kill h q listed =
      let s = return_to c p.fun q listed in
      with_none killed q (none_killed c p.fun (Instr.Ret x (Some read)) killed kill (λ a k. k)) (subst (λ z. FlowsTo c r None p z (length r.facts.pairs)) s.point (h.each s.at s.exists s.calls))
  edges_flow killed (Instr.Ret x None) kill h q listed = (let low = listed.1 in absurd (omega (arith, low)))
  edges_flow killed (Instr.Fork join entries) kill h q listed =
      let s = listed_index p.fun entries q listed in
      with_none killed q (none_killed c p.fun (Instr.Fork join entries) killed kill (λ a k. k)) (subst (λ z. FlowsTo c r None p z (length r.facts.pairs)) s.point (h.each s.index s.e (slice_get_within entries s.index s.e s.found) s.found))
  edges_flow killed Instr.End kill h q listed = (let low = listed.1 in absurd (omega (arith, low)))
  edges_flow killed (Instr.Const to k) kill h q listed = one_edge killed (point_at p.fun (p.at + 1)) q h listed
  edges_flow killed (Instr.Null to) kill h q listed = one_edge killed (point_at p.fun (p.at + 1)) q h listed
  edges_flow killed (Instr.Un to op x) kill h q listed = one_edge killed (point_at p.fun (p.at + 1)) q h listed
  edges_flow killed (Instr.Bin to op x y) kill h q listed = one_edge killed (point_at p.fun (p.at + 1)) q h listed
  edges_flow killed (Instr.Addr to place) kill h q listed = one_edge killed (point_at p.fun (p.at + 1)) q h listed
  edges_flow killed (Instr.Field to x s k) kill h q listed = one_edge killed (point_at p.fun (p.at + 1)) q h listed
  edges_flow killed (Instr.Decay to x s) kill h q listed = one_edge killed (point_at p.fun (p.at + 1)) q h listed
  edges_flow killed (Instr.Index to x y w) kill h q listed = one_edge killed (point_at p.fun (p.at + 1)) q h listed
  edges_flow killed (Instr.Get to place d) kill h q listed = one_edge killed (point_at p.fun (p.at + 1)) q h listed
  edges_flow killed (Instr.Load to x d) kill h q listed = one_edge killed (point_at p.fun (p.at + 1)) q h listed
  edges_flow killed (Instr.Set place x d) kill h q listed = one_edge killed (point_at p.fun (p.at + 1)) q h listed
  edges_flow killed (Instr.Store x y d) kill h q listed = one_edge killed (point_at p.fun (p.at + 1)) q h listed
  edges_flow killed (Instr.Same to ne x y) kill h q listed = one_edge killed (point_at p.fun (p.at + 1)) q h listed
  edges_flow killed (Instr.New to x site) kill h q listed = one_edge killed (point_at p.fun (p.at + 1)) q h listed
  edges_flow killed (Instr.Free x) kill h q listed = one_edge killed (point_at p.fun (p.at + 1)) q h listed
  edges_flow killed (Instr.In to) kill h q listed = one_edge killed (point_at p.fun (p.at + 1)) q h listed
  edges_flow killed (Instr.Left to) kill h q listed = one_edge killed (point_at p.fun (p.at + 1)) q h listed
  edges_flow killed (Instr.Out x) kill h q listed = one_edge killed (point_at p.fun (p.at + 1)) q h listed
  edges_flow killed Instr.Turn kill h q listed = one_edge killed (point_at p.fun (p.at + 1)) q h listed

  pub flow_edges : (killed : Option ℕ) (i : Instr) → IsKilled c p.fun i killed → ((q : Point) → Contains (edges_of c p i) q → FlowsTo c r killed p q (length r.facts.pairs)) → EdgesBy c r killed p i
  flow_edges killed (Instr.Jump t) kill h = to_none killed (point_at p.fun t) (none_killed c p.fun (Instr.Jump t) killed kill (λ a k. k)) (h (point_at p.fun t) (points_listed p.fun (t ∷ []) 0 t refl))
  flow_edges killed (Instr.Test x y n) kill h =
      let none = none_killed c p.fun (Instr.Test x y n) killed kill (λ a k. k) in
      (to_none killed (point_at p.fun y) none (h (point_at p.fun y) (points_listed p.fun (y ∷ n ∷ []) 0 y refl)), to_none killed (point_at p.fun n) none (h (point_at p.fun n) (points_listed p.fun (y ∷ n ∷ []) 1 n refl)))
  flow_edges killed (Instr.Call to f d args) kill h = to_none killed (entry f) (none_killed c p.fun (Instr.Call to f d args) killed kill (λ a k. k)) (h (entry f) (first_listed (entry f) []))
  flow_edges killed (Instr.Ret x (Some read)) kill h = record {
    each = λ at low calls. to_none killed (point_at at.fun (suc at.at)) (none_killed c p.fun (Instr.Ret x (Some read)) killed kill (λ a k. k)) (h (point_at at.fun (suc at.at)) (calls_listed c p.fun at calls));
  }
  flow_edges killed (Instr.Ret x None) kill h = tt
  flow_edges killed (Instr.Fork join entries) kill h = record {
    each = λ i e low found. to_none killed (point_at p.fun e) (none_killed c p.fun (Instr.Fork join entries) killed kill (λ a k. k)) (h (point_at p.fun e) (points_listed p.fun entries i e found));
  }
  flow_edges killed Instr.End kill h = tt
  flow_edges killed (Instr.Const to k) kill h = h (point_at p.fun (p.at + 1)) (first_listed (point_at p.fun (p.at + 1)) [])
  flow_edges killed (Instr.Null to) kill h = h (point_at p.fun (p.at + 1)) (first_listed (point_at p.fun (p.at + 1)) [])
  flow_edges killed (Instr.Un to op x) kill h = h (point_at p.fun (p.at + 1)) (first_listed (point_at p.fun (p.at + 1)) [])
  flow_edges killed (Instr.Bin to op x y) kill h = h (point_at p.fun (p.at + 1)) (first_listed (point_at p.fun (p.at + 1)) [])
  flow_edges killed (Instr.Addr to place) kill h = h (point_at p.fun (p.at + 1)) (first_listed (point_at p.fun (p.at + 1)) [])
  flow_edges killed (Instr.Field to x s k) kill h = h (point_at p.fun (p.at + 1)) (first_listed (point_at p.fun (p.at + 1)) [])
  flow_edges killed (Instr.Decay to x s) kill h = h (point_at p.fun (p.at + 1)) (first_listed (point_at p.fun (p.at + 1)) [])
  flow_edges killed (Instr.Index to x y w) kill h = h (point_at p.fun (p.at + 1)) (first_listed (point_at p.fun (p.at + 1)) [])
  flow_edges killed (Instr.Get to place d) kill h = h (point_at p.fun (p.at + 1)) (first_listed (point_at p.fun (p.at + 1)) [])
  flow_edges killed (Instr.Load to x d) kill h = h (point_at p.fun (p.at + 1)) (first_listed (point_at p.fun (p.at + 1)) [])
  flow_edges killed (Instr.Set place x d) kill h = h (point_at p.fun (p.at + 1)) (first_listed (point_at p.fun (p.at + 1)) [])
  flow_edges killed (Instr.Store x y d) kill h = h (point_at p.fun (p.at + 1)) (first_listed (point_at p.fun (p.at + 1)) [])
  flow_edges killed (Instr.Same to ne x y) kill h = h (point_at p.fun (p.at + 1)) (first_listed (point_at p.fun (p.at + 1)) [])
  flow_edges killed (Instr.New to x site) kill h = h (point_at p.fun (p.at + 1)) (first_listed (point_at p.fun (p.at + 1)) [])
  flow_edges killed (Instr.Free x) kill h = h (point_at p.fun (p.at + 1)) (first_listed (point_at p.fun (p.at + 1)) [])
  flow_edges killed (Instr.In to) kill h = h (point_at p.fun (p.at + 1)) (first_listed (point_at p.fun (p.at + 1)) [])
  flow_edges killed (Instr.Left to) kill h = h (point_at p.fun (p.at + 1)) (first_listed (point_at p.fun (p.at + 1)) [])
  flow_edges killed (Instr.Out x) kill h = h (point_at p.fun (p.at + 1)) (first_listed (point_at p.fun (p.at + 1)) [])
  flow_edges killed Instr.Turn kill h = h (point_at p.fun (p.at + 1)) (first_listed (point_at p.fun (p.at + 1)) [])

-- Edges lead to points that exist.
pub edge_exists : (c : Code) → GoodForm c → (p : Point) → IsPoint c p → (q : Point) → Contains (edges_from c p) q → IsPoint c q
edge_exists c good p point q h = by (instr_at c p) refl h
  where
    target : (i : Instr) → instr_at c p ≡ i → (xs : List ℕ) → All (λ t. t < length (lines_of c p.fun)) xs → Contains (points_in p.fun xs) q → IsPoint c q
    target i is xs all listed =
        let s = listed_index p.fun xs q listed in
        let low = slice_get_within xs s.index s.e s.found in
        let item : Some (get_or xs s.index 0) ≡ Some s.e = sym (slice_get-get_or xs s.index 0 low) ∙ s.found in
        let same : get_or xs s.index 0 ≡ s.e = cc in
        subst (IsPoint c) s.point (omega (arith, all s.index 0 low, same))

    next : (i : Instr) → instr_at c p ≡ i → (IsLastKind i → ⊥) → Contains (points_in p.fun ((p.at + 1) ∷ [])) q → IsPoint c q
    next i is no_last listed =
        let s = listed_index p.fun ((p.at + 1) ∷ []) q listed in
        subst (IsPoint c) s.point (one s.index s.e s.found)
      where
        one : (j e : ℕ) → slice_get ((p.at + 1) ∷ []) j ≡ Some e → IsPoint c (point_at p.fun e)
        one zero e found = (let same : p.at + 1 ≡ e = cc in omega (arith, same, next_exists c good p point (λ last. no_last (subst IsLastKind is last))))
        one (suc j) e found = cc

    by : (i : Instr) → instr_at c p ≡ i → Contains (edges_of c p i) q → IsPoint c q
    by (Instr.Jump t) is listed = target (Instr.Jump t) is (t ∷ []) (targets_at c good p point (Instr.Jump t) (sym is)) listed
    by (Instr.Test x y n) is listed = target (Instr.Test x y n) is (y ∷ n ∷ []) (targets_at c good p point (Instr.Test x y n) (sym is)) listed
    by (Instr.Call to f d args) is listed = (let names = names_at c good p point (Instr.Call to f d args) (sym is) in subst (IsPoint c) (only listed.0 listed.1 listed.2) (enters c good f names.exists (record { params = 0; vars = []; code = []; line = 0 })))
      where
        only : (j : ℕ) → j < 1 → get_or (entry f ∷ []) j q ≡ q → entry f ≡ q
        only zero low here = here
        only (suc j) low here = absurd (omega (arith, low))
    by (Instr.Ret x (Some read)) is listed =
        let s = return_to c p.fun q listed in
        subst (IsPoint c) s.point (omega (arith, next_exists c good s.at s.real (call_is_not_last p.fun (instr_at c s.at) s.calls)))
    by (Instr.Ret x None) is listed = (let low = listed.1 in absurd (omega (arith, low)))
    by (Instr.Fork join entries) is listed = target (Instr.Fork join entries) is entries (entries_exist (length (lines_of c p.fun)) join entries (targets_at c good p point (Instr.Fork join entries) (sym is))) listed
    by Instr.End is listed = (let low = listed.1 in absurd (omega (arith, low)))
    by (Instr.Const to k) is listed = next (Instr.Const to k) is (λ l. l) listed
    by (Instr.Null to) is listed = next (Instr.Null to) is (λ l. l) listed
    by (Instr.Un to op x) is listed = next (Instr.Un to op x) is (λ l. l) listed
    by (Instr.Bin to op x y) is listed = next (Instr.Bin to op x y) is (λ l. l) listed
    by (Instr.Addr to place) is listed = next (Instr.Addr to place) is (λ l. l) listed
    by (Instr.Field to x s k) is listed = next (Instr.Field to x s k) is (λ l. l) listed
    by (Instr.Decay to x s) is listed = next (Instr.Decay to x s) is (λ l. l) listed
    by (Instr.Index to x y w) is listed = next (Instr.Index to x y w) is (λ l. l) listed
    by (Instr.Get to place d) is listed = next (Instr.Get to place d) is (λ l. l) listed
    by (Instr.Load to x d) is listed = next (Instr.Load to x d) is (λ l. l) listed
    by (Instr.Set place x d) is listed = next (Instr.Set place x d) is (λ l. l) listed
    by (Instr.Store x y d) is listed = next (Instr.Store x y d) is (λ l. l) listed
    by (Instr.Same to ne x y) is listed = next (Instr.Same to ne x y) is (λ l. l) listed
    by (Instr.New to x site) is listed = next (Instr.New to x site) is (λ l. l) listed
    by (Instr.Free x) is listed = next (Instr.Free x) is (λ l. l) listed
    by (Instr.In to) is listed = next (Instr.In to) is (λ l. l) listed
    by (Instr.Left to) is listed = next (Instr.Left to) is (λ l. l) listed
    by (Instr.Out x) is listed = next (Instr.Out x) is (λ l. l) listed
    by Instr.Turn is listed = next Instr.Turn is (λ l. l) listed
