-- The faults of a part stand within it, and where one rule is broken twice at one place, it has one line there.
use Rattle.std.proofs.Common.{◌≡◌, ℕ, zero, suc, ◌<◌, ◌≤◌, ◌⊎◌, inl, inr, Bool, true, false, List, [], ◌∷◌, ◌++◌, length, get_or, sym, ap, ◌∙◌, arith}
use Rattle.std.specs.List.{Contains}
use Rattle.dfi_base.specs.declared.numbers.Line.{Line}
use Rattle.c_typed.specs.Faults.{Rule, Fault, unless}

abbrev pub IsIn : Fault → List Fault → Type 0
IsIn f [] = ⊥
IsIn f (g ∷ fs) = (f ≡ g) ⊎ IsIn f fs

pub in_append : (f : Fault) (fs gs : List Fault) → IsIn f (fs ++ gs) → IsIn f fs ⊎ IsIn f gs
in_append f [] gs is = inr is
in_append f (g ∷ fs) gs (inl e) = inl (inl e)
in_append f (g ∷ fs) gs (inr is) = by (in_append f fs gs is) where
  by : IsIn f fs ⊎ IsIn f gs → IsIn f (g ∷ fs) ⊎ IsIn f gs
  by (inl a) = inl (inr a)
  by (inr b) = inr b

at_place : (f g : Fault) (fs : List Fault) → (Contains fs f → IsIn f fs) → (k : ℕ) → k < suc (length fs) → get_or (g ∷ fs) k f ≡ f → (f ≡ g) ⊎ IsIn f fs
at_place f g fs rest zero less e = inl (sym e)
at_place f g fs rest (suc k) less e = inr (rest (k, omega (arith, less), e))

pub from_contains : (fs : List Fault) (f : Fault) → Contains fs f → IsIn f fs
from_contains [] f h = let below : h.0 < 0 = h.1 in absurd (omega (arith, below))
from_contains (g ∷ fs) f h = at_place f g fs (from_contains fs f) h.0 h.1 h.2

-- of two faults: where they are one rule at one place, they have one line
abbrev pub AreLined : Fault → Fault → Type 0
AreLined f g = f.at ≡ g.at → f.rule ≡ g.rule → f.line ≡ g.line

abbrev pub AreCross : List Fault → List Fault → Type 0
AreCross fs gs = (f g : Fault) → IsIn f fs → IsIn g gs → AreLined f g

pub record IsLined (from to : ℕ) (fs : List Fault) : Type 0 where
  pub start : (f : Fault) → IsIn f fs → from ≤ f.at
  pub end : (f : Fault) → IsIn f fs → f.at < to
  pub lined : AreCross fs fs

pub none : (from to : ℕ) → IsLined from to []
none from to = record { start = λ f is. absurd is; end = λ f is. absurd is; lined = λ f g is that. absurd is }

abbrev the : ℕ → Rule → Line → Fault
the at rule line = record { at = at; rule = rule; line = line }

pub in_one : (f g : Fault) → IsIn f (g ∷ []) → f ≡ g
in_one f g (inl e) = e
in_one f g (inr is) = absurd is

pub one : {from to : ℕ} (at : ℕ) (rule : Rule) (line : Line) → from ≤ at → at < to → IsLined from to (the at rule line ∷ [])
one {from} {to} at rule line low high = record {
  start = λ f is. let e = ap (λ (x : Fault). x.at) (in_one f (the at rule line) is) in omega (arith, e, low);
  end = λ f is. let e = ap (λ (x : Fault). x.at) (in_one f (the at rule line) is) in omega (arith, e, high);
  lined = λ f g is that. λ a r. ap (λ (x : Fault). x.line) (in_one f (the at rule line) is ∙ sym (in_one g (the at rule line) that));
}

pub wider : {from to low high : ℕ} {fs : List Fault} → low ≤ from → to ≤ high → IsLined from to fs → IsLined low high fs
wider {from} {to} {low} {high} {fs} a b is = record {
  start = λ f h. let s = is.start f h in omega (arith, a, s);
  end = λ f h. let s = is.end f h in omega (arith, b, s);
  lined = is.lined;
}

module _ {from to : ℕ} {fs gs : List Fault} (is : IsLined from to fs) (that : IsLined from to gs) (cross : AreCross fs gs) where
  start_by : (f : Fault) → IsIn f fs ⊎ IsIn f gs → from ≤ f.at
  start_by f (inl h) = is.start f h
  start_by f (inr h) = that.start f h

  end_by : (f : Fault) → IsIn f fs ⊎ IsIn f gs → f.at < to
  end_by f (inl h) = is.end f h
  end_by f (inr h) = that.end f h

  lined_by : (f g : Fault) → IsIn f fs ⊎ IsIn f gs → IsIn g fs ⊎ IsIn g gs → AreLined f g
  lined_by f g (inl h) (inl k) a r = is.lined f g h k a r
  lined_by f g (inl h) (inr k) a r = cross f g h k a r
  lined_by f g (inr h) (inl k) a r = sym (cross g f k h (sym a) (sym r))
  lined_by f g (inr h) (inr k) a r = that.lined f g h k a r

  pub together : IsLined from to (fs ++ gs)
  together = record {
    start = λ f h. start_by f (in_append f fs gs h);
    end = λ f h. end_by f (in_append f fs gs h);
    lined = λ f g h k. lined_by f g (in_append f fs gs h) (in_append g fs gs k);
  }

-- one list behind another
pub apart : {from middle to : ℕ} {fs gs : List Fault} → from ≤ middle → middle ≤ to → IsLined from middle fs → IsLined middle to gs → IsLined from to (fs ++ gs)
apart {from} {middle} {to} {fs} {gs} low high is that =
    together (wider (omega arith) high is) (wider low (omega arith) that)
    (λ f g h k. λ a r. let x = is.end f h in let y = that.start g k in absurd (omega (arith, a, x, y)))

-- Rules that are told at one place, on one line.
pub record AllAt (at : ℕ) (line : Line) (fs : List Fault) : Type 0 where
  pub each : (f : Fault) → IsIn f fs → (f.at ≡ at) × (f.line ≡ line)

pub in_unless : (test : Bool) (at : ℕ) (rule : Rule) (line : Line) (f : Fault) → IsIn f (unless test at rule line) → f ≡ the at rule line
in_unless true at rule line f is = absurd is
in_unless false at rule line f is = in_one f (the at rule line) is

pub unless_at : (test : Bool) (at : ℕ) (rule : Rule) (line : Line) → AllAt at line (unless test at rule line)
unless_at test at rule line = record {
  each = λ f is. let e = in_unless test at rule line f is in (ap (λ (x : Fault). x.at) e, ap (λ (x : Fault). x.line) e);
}

pub both_at : {at : ℕ} {line : Line} {fs gs : List Fault} → AllAt at line fs → AllAt at line gs → AllAt at line (fs ++ gs)
both_at {at} {line} {fs} {gs} x y = record { each = λ f is. by f (in_append f fs gs is) } where
  by : (f : Fault) → IsIn f fs ⊎ IsIn f gs → (f.at ≡ at) × (f.line ≡ line)
  by f (inl h) = x.each f h
  by f (inr h) = y.each f h

pub lined_at : {from to : ℕ} {at : ℕ} {line : Line} {fs : List Fault} → from ≤ at → at < to → AllAt at line fs → IsLined from to fs
lined_at {from} {to} {at} {line} {fs} low high all = record {
  start = λ f h. let e = (all.each f h).0 in omega (arith, e, low);
  end = λ f h. let e = (all.each f h).0 in omega (arith, e, high);
  lined = λ f g h k. λ a r. (all.each f h).1 ∙ sym (all.each g k).1;
}
