-- Functions that are reached by calls.
use Rattle.std.proofs.Common.{◌≡◌, ℕ, zero, suc, ◌+◌, ◌<◌, ◌≤◌, ◌⊎◌, inl, inr, Bool, true, false, List, [], ◌∷◌, length, set, refl, sym, ap, ◌∙◌, subst, arith, Option, Some, None}
use Rattle.std.specs.Prelude.{nat_eq, nat_lt, ◌||◌, ◌↔◌, not}
use Rattle.std.proofs.lemmas.Bool.{eqb-true, eq-eqb, ltb-true, ltb-false}
use Rattle.std.proofs.lemmas.List.{length-set, set-get_or}
use Rattle.std.proofs.lemmas.Option.{slice_get_within}
use Rattle.dfi_base.specs.declared.numbers.Point.{Point}
use Rattle.dfi_base.specs.Bits.{has}
use Rattle.dfi_base.proofs.RowLaws.{has_put_same, has_put_other}
use Rattle.tac_ir.specs.declared.code.Code.{Code}
use Rattle.tac_ir.specs.declared.code.Instr.{Instr}
use Rattle.tac_ir.specs.Edges.{calls_fun}
use Rattle.tac_ir.specs.GoodForm.{GoodForm}
use Rattle.tac_ir.specs.GoodModule.{IsPoint}
use Rattle.tac_ir.specs.Layout.{instr_at, lines_of}
use Rattle.tac_ir.proofs.Numbering.{has_line}
use Rattle.flow_rules.specs.CanCall.{CanCall}
use Rattle.flow_rules.specs.CanCall.CanCall.{one, more}
use Rattle.flow_rules.specs.PointNumber.{point_at}
use Rattle.flow_rules.specs.tools.Reached.{IsReached, IsCalledIn, gaps, IsGrown, HasCall, HasCalls, HasAllCalls, IsReachedSet, IsGrowing}
use Rattle.flow_rules.specs.tools.Reached.IsReached.{start, call}
use Rattle.flow_rules.proofs.InCode.{no_line, names_at}

-- Rows that grow.

gap_filled : (row : List Bool) (i : ℕ) → i < length row → has row i ≡ false → gaps (set row i true) < gaps row
gap_filled [] i low h = absurd (omega (arith, low))
gap_filled (true ∷ row) zero low h = cc
gap_filled (false ∷ row) zero low h = omega arith
gap_filled (true ∷ row) (suc i) low h = gap_filled row i (omega (arith, low)) h
gap_filled (false ∷ row) (suc i) low h = omega (arith, gap_filled row i (omega (arith, low)) h)

put_keeps : (row : List Bool) (i k : ℕ) → i < length row → has row k ≡ true → has (set row i true) k ≡ true
put_keeps row i k low h = by (nat_eq k i) refl
  where
    by : (b : Bool) → nat_eq k i ≡ b → has (set row i true) k ≡ true
    by true is = ap (has (set row i true)) (eqb-true k i is) ∙ has_put_same row i true low
    by false is = has_put_other row i k true (λ e. (let clash = sym is ∙ eq-eqb k i e in cc)) ∙ h

pub put_grown : (row : List Bool) (i : ℕ) → i < length row → IsGrown row (set row i true) (not (has row i))
put_grown row i low = by (has row i) refl
  where
    by : (b : Bool) → has row i ≡ b → IsGrown row (set row i true) (not b)
    by true is = record { long = length-set row i true; kept = λ k. put_keeps row i k low; same = λ e. ap (set row i) (sym is) ∙ set-get_or row i false; fewer = λ e. cc }
    by false is = record { long = length-set row i true; kept = λ k. put_keeps row i k low; same = λ e. cc; fewer = λ e. gap_filled row i low is }

pub grown_none : (row : List Bool) → IsGrown row row false
grown_none row = record { long = refl; kept = λ k h. h; same = λ e. refl; fewer = λ e. cc }

no_more_gaps : (old new : List Bool) (changed : Bool) → IsGrown old new changed → gaps new ≤ gaps old
no_more_gaps old new true h = (let fewer = h.fewer refl in omega (arith, fewer))
no_more_gaps old new false h = omega (arith, ap gaps (h.same refl))

pub grown_then : (old mid new : List Bool) (x y : Bool) → IsGrown old mid x → IsGrown mid new y → IsGrown old new (x || y)
grown_then old mid new true y h g = record {
  long = g.long ∙ h.long;
  kept = λ k there. g.kept k (h.kept k there);
  same = λ e. cc;
  fewer = λ e. (let fewer = h.fewer refl in omega (arith, fewer, no_more_gaps mid new y g));
}
grown_then old mid new false y h g = record {
  long = g.long ∙ h.long;
  kept = λ k there. g.kept k (h.kept k there);
  same = λ e. g.same e ∙ h.same refl;
  fewer = λ e. (let fewer = g.fewer e in omega (arith, fewer, ap gaps (h.same refl)));
}

-- One instruction.

pub call_added : (to g d : ℕ) (args : List ℕ) (old : List Bool) → g < length old → HasCall (Instr.Call to g d args) old (set old g true) (not (has old g))
call_added to g d args old low = record {
  grown = put_grown old g low;
  added = λ k calls. ap (has (set old g true)) (eqb-true k g calls) ∙ has_put_same old g true low;
  only = λ k there. by k there (nat_eq k g) refl;
}
  where
    by : (k : ℕ) → has (set old g true) k ≡ true → (b : Bool) → nat_eq k g ≡ b → (has old k ≡ true) ⊎ (calls_fun k (Instr.Call to g d args) ≡ true)
    by k there true is = inr is
    by k there false is = inl (sym (has_put_other old g k true (λ e. (let clash = sym is ∙ eq-eqb k g e in cc))) ∙ there)

-- Instructions of a function.

pub no_calls : (c : Code) (f from : ℕ) (old : List Bool) → HasCalls c f from from old old false
no_calls c f from old = record { grown = grown_none old; added = λ g h. (let low = h.low in let high = h.high in absurd (omega (arith, low, high))); only = λ g h. inl h }

pub calls_next : (c : Code) (f from n : ℕ) (old mid new : List Bool) (x y : Bool) → from ≤ n → HasCalls c f from n old mid x → HasCall (instr_at c (point_at f n)) mid new y → HasCalls c f from (n + 1) old new (x || y)
calls_next c f from n old mid new x y low before here = record {
  grown = grown_then old mid new x y before.grown here.grown;
  added = λ g h. by g h (nat_eq h.at n) refl;
  only = λ g h. only g (here.only g h);
}
  where
    by : (g : ℕ) → (h : IsCalledIn c f from (n + 1) g) → (b : Bool) → nat_eq h.at n ≡ b → has new g ≡ true
    by g h true is = here.added g (ap (λ k. calls_fun g (instr_at c (point_at f k))) (sym (eqb-true h.at n is)) ∙ h.calls)
    by g h false is =
        let other : h.at ≡ n → ⊥ = λ e. (let clash = sym is ∙ eq-eqb h.at n e in cc) in
        let high = h.high in
        here.grown.kept g (before.added g (record { at = h.at; low = h.low; high = omega (arith, high, other); calls = h.calls }))

    wider : (g : ℕ) → (has old g ≡ true) ⊎ IsCalledIn c f from n g → (has old g ≡ true) ⊎ IsCalledIn c f from (n + 1) g
    wider g (inl h) = inl h
    wider g (inr h) = (let high = h.high in inr (record { at = h.at; low = h.low; high = omega (arith, high); calls = h.calls }))

    only : (g : ℕ) → (has mid g ≡ true) ⊎ (calls_fun g (instr_at c (point_at f n)) ≡ true) → (has old g ≡ true) ⊎ IsCalledIn c f from (n + 1) g
    only g (inl h) = wider g (before.only g h)
    only g (inr h) = inr (record { at = n; low = low; high = omega arith; calls = h })

-- All functions of a set.

pub none_called : (c : Code) (old : List Bool) → HasAllCalls c 0 old old false
none_called c old = record { grown = grown_none old; added = λ e f at g low. absurd (omega (arith, low)); only = λ g h. start g h }

pub calls_skip : (c : Code) (n : ℕ) (old mid : List Bool) (x : Bool) → HasAllCalls c n old mid x → has mid n ≡ false → HasAllCalls c (n + 1) old mid x
calls_skip c n old mid x before none = record { grown = before.grown; added = λ e f at g low had calls. by e f at g low had calls (nat_eq f n) refl; only = before.only }
  where
    by : x ≡ false → (f at g : ℕ) → f < n + 1 → has old f ≡ true → calls_fun g (instr_at c (point_at f at)) ≡ true → (b : Bool) → nat_eq f n ≡ b → has old g ≡ true
    by e f at g low had calls true is = (let clash = sym none ∙ ap (has mid) (sym (eqb-true f n is)) ∙ before.grown.kept f had in cc)
    by e f at g low had calls false is = before.added e f at g (let other : f ≡ n → ⊥ = λ same. (let clash = sym is ∙ eq-eqb f n same in cc) in omega (arith, low, other)) had calls

or_false : (a b : Bool) → (a || b) ≡ false → (a ≡ false) × (b ≡ false)
or_false true b h = cc
or_false false b h = (refl, h)

-- a call stands on a line
pub calls_low : (c : Code) (f at g : ℕ) → calls_fun g (instr_at c (point_at f at)) ≡ true → at < length (lines_of c f)
calls_low c f at g calls = by (nat_lt at (length (lines_of c f))) refl
  where
    by : (b : Bool) → nat_lt at (length (lines_of c f)) ≡ b → at < length (lines_of c f)
    by true is = ltb-true at (length (lines_of c f)) is
    by false is = (let clash = sym (ap (calls_fun g) (no_line c (point_at f at) (ltb-false at (length (lines_of c f)) is))) ∙ calls in cc)

pub calls_all : (c : Code) (n : ℕ) (old mid new : List Bool) (x y : Bool) → HasAllCalls c n old mid x → has mid n ≡ true → HasCalls c n 0 (length (lines_of c n)) mid new y → HasAllCalls c (n + 1) old new (x || y)
calls_all c n old mid new x y before member here = record {
  grown = grown_then old mid new x y before.grown here.grown;
  added = λ e f at g low had calls. by (or_false x y e) f at g low had calls (nat_eq f n) refl;
  only = λ g h. only g (here.only g h);
}
  where
    by : (x ≡ false) × (y ≡ false) → (f at g : ℕ) → f < n + 1 → has old f ≡ true → calls_fun g (instr_at c (point_at f at)) ≡ true → (b : Bool) → nat_eq f n ≡ b → has old g ≡ true
    by e f at g low had calls true is =
        let same = eqb-true f n is in
        let here_calls = ap (λ k. calls_fun g (instr_at c (point_at k at))) (sym same) ∙ calls in
        let there = here.added g (record { at = at; low = omega arith; high = calls_low c n at g here_calls; calls = here_calls }) in
        ap (λ row. has row g) (sym (here.grown.same e.1 ∙ before.grown.same e.0)) ∙ there
    by e f at g low had calls false is = before.added e.0 f at g (let other : f ≡ n → ⊥ = λ same. (let clash = sym is ∙ eq-eqb f n same in cc) in omega (arith, low, other)) had calls

    only : (g : ℕ) → (has mid g ≡ true) ⊎ IsCalledIn c n 0 (length (lines_of c n)) g → IsReached c old g
    only g (inl h) = before.only g h
    only g (inr h) = call (point_at n h.at) g (before.only n member) h.calls

-- Until nothing is added.

pub growing_none : (c : Code) (old : List Bool) → IsGrowing c old old
growing_none c old = record { long = refl; kept = λ k h. h; only = λ g h. start g h }

through : (c : Code) (old mid : List Bool) → ((g : ℕ) → has mid g ≡ true → IsReached c old g) → (g : ℕ) → IsReached c mid g → IsReached c old g
through c old mid only g (start h there) = only h there
through c old mid only g (call p h from calls) = call p h (through c old mid only p.fun from) calls

pub growing_next : (c : Code) (old mid new : List Bool) (n : ℕ) (x : Bool) → IsGrowing c old mid → HasAllCalls c n mid new x → IsGrowing c old new
growing_next c old mid new n x before here = record {
  long = here.grown.long ∙ before.long;
  kept = λ k h. here.grown.kept k (before.kept k h);
  only = λ g h. through c old mid before.only g (here.only g h);
}

fun_of_call : (c : Code) (p : Point) (g : ℕ) → calls_fun g (instr_at c p) ≡ true → p.fun < length c.funs
fun_of_call c p g calls = (let h = has_line (λ i. if_calls (calls_fun g i)) c p 0 refl (ap if_calls calls) in slice_get_within c.funs p.fun h.fun h.function)
  where
    if_calls : Bool → Option ℕ
    if_calls true = Some 0
    if_calls false = None

pub all_reached : (c : Code) (old mid new : List Bool) (n : ℕ) → length c.funs ≤ n → IsGrowing c old mid → HasAllCalls c n mid new false → IsReachedSet c old new
all_reached c old mid new n high before here = record { long = here.grown.long ∙ before.long; each = λ g. (λ h. through c old mid before.only g (here.only g h), λ h. ap (λ row. has row g) (here.grown.same refl) ∙ closed g h) }
  where
    closed : (g : ℕ) → IsReached c old g → has mid g ≡ true
    closed g (start h there) = before.kept h there
    closed g (call p h from calls) = (let low = fun_of_call c p h calls in here.added refl p.fun p.at h (omega (arith, low, high)) (closed p.fun from) calls)

-- A function that calls itself.

pub calls_itself : (c : Code) (f : ℕ) (none some all : List Bool) → ((k : ℕ) → has none k ≡ false) → (x : Bool) → HasCalls c f 0 (length (lines_of c f)) none some x → IsReachedSet c some all → (has all f ≡ true) ↔ CanCall c f f
calls_itself c f none some all empty x first reached = (λ h. forth f ((reached.each f).0 h), λ h. (reached.each f).1 (back f h))
  where
    begin : (g : ℕ) → (has none g ≡ true) ⊎ IsCalledIn c f 0 (length (lines_of c f)) g → CanCall c f g
    begin g (inl h) = (let clash = sym (empty g) ∙ h in cc)
    begin g (inr h) = one (point_at f h.at) g refl h.calls

    forth : (g : ℕ) → IsReached c some g → CanCall c f g
    forth g (start h there) = begin h (first.only h there)
    forth g (call p h from calls) = more p h (forth p.fun from) calls

    back : (g : ℕ) → CanCall c f g → IsReached c some g
    back g (one p h same calls) =
        let here = subst (λ k. calls_fun h (instr_at c (point_at k p.at)) ≡ true) same calls in
        start h (first.added h (record { at = p.at; low = omega arith; high = calls_low c f p.at h here; calls = here }))
    back g (more p h from calls) = call p h (back p.fun from) calls

-- The function that an instruction calls exists.
pub called_within : (c : Code) → GoodForm c → (p : Point) → IsPoint c p → (g n : ℕ) → 256 ≤ n → calls_fun g (instr_at c p) ≡ true → g < n
called_within c good p point g n room calls = by (instr_at c p) refl calls
  where
    by : (i : Instr) → instr_at c p ≡ i → calls_fun g i ≡ true → g < n
    by (Instr.Call to h d args) is calls =
        let names = names_at c good p point (Instr.Call to h d args) (sym is) in
        let exists = names.exists in
        omega (arith, exists, eqb-true g h calls, good.funs.count, room)
    by i is calls = cc
