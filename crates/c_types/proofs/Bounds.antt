-- The faults of a part stand within it.
use Rattle.std.proofs.Common.{ℕ, ◌+◌, ◌<◌, ◌≤◌, List, [], ◌∷◌, ◌++◌, Option, Some, None, arith}
use Rattle.dfi_base.specs.declared.numbers.Line.{Line}
use Rattle.c_typed.specs.Marks.{History}
use Rattle.c_typed.specs.Faults.{Rule, Fault}
use Rattle.c_typed.specs.Parts.{Place, Part, tokens, given, joined, behind, kept_by, ruled_by, obeys, refused, ◌<$>◌}
use Rattle.c_types.proofs.AnswerLaws.{AllBefore, AllFrom}

pub record IsWithin (from to : ℕ) (fs : List Fault) : Type 0 where
  pub start : AllFrom from fs
  pub end : AllBefore to fs

-- with at least one token, at which a rule of the whole may be told
pub record IsBounded {A : Type 0} (p : Part A) : Type 0 where
  pub within : (here : Place) → IsWithin here.at (here.at + p.tokens) (p.judge here).faults
  pub more : 0 < p.tokens

-- or with none and no fault
pub record IsInside {A : Type 0} (p : Part A) : Type 0 where
  pub within : (here : Place) → IsWithin here.at (here.at + p.tokens) (p.judge here).faults

pub from_less : (m n : ℕ) (fs : List Fault) → m ≤ n → AllFrom n fs → AllFrom m fs
from_less m n [] le all = tt
from_less m n (f ∷ fs) le all = (omega (arith, le, all.0), from_less m n fs le all.1)

pub before_more : (m n : ℕ) (fs : List Fault) → m ≤ n → AllBefore m fs → AllBefore n fs
before_more m n [] le all = tt
before_more m n (f ∷ fs) le all = (omega (arith, le, all.0), before_more m n fs le all.1)

pub from_append : (n : ℕ) (fs gs : List Fault) → AllFrom n fs → AllFrom n gs → AllFrom n (fs ++ gs)
from_append n [] gs all more = more
from_append n (f ∷ fs) gs all more = (all.0, from_append n fs gs all.1 more)

pub before_append : (n : ℕ) (fs gs : List Fault) → AllBefore n fs → AllBefore n gs → AllBefore n (fs ++ gs)
before_append n [] gs all more = more
before_append n (f ∷ fs) gs all more = (all.0, before_append n fs gs all.1 more)

pub inside : {A : Type 0} (p : Part A) → IsBounded p → IsInside p
inside p is = record { within = is.within }

pub inside_tokens : (n : ℕ) → IsInside (tokens n)
inside_tokens n = record { within = λ here. record { start = tt; end = tt } }

pub inside_given : {A : Type 0} (a : A) → IsInside (given a)
inside_given a = record { within = λ here. record { start = tt; end = tt } }

pub inside_joined : {A B C : Type 0} (f : A → B → C) (p : Part A) (q : Part B) → IsInside p → IsInside q → IsInside (joined f p q)
inside_joined f p q is that = record {
  within = λ here.
      let l = is.within here in
      let r = that.within (behind p here) in
      record {
        start = from_append here.at _ _ l.start (from_less here.at (here.at + p.tokens) _ (omega arith) r.start);
        end = before_append (here.at + (p.tokens + q.tokens)) _ _ (before_more (here.at + p.tokens) (here.at + (p.tokens + q.tokens)) _ (omega arith) l.end)
            (before_more (here.at + p.tokens + q.tokens) (here.at + (p.tokens + q.tokens)) _ (omega arith) r.end);
      };
}

pub inside_map : {A B : Type 0} (f : A → B) (p : Part A) → IsInside p → IsInside (f <$> p)
inside_map f p is = record { within = λ here. is.within here }

pub bounded_first : {A B C : Type 0} (f : A → B → C) (p : Part A) (q : Part B) → IsBounded p → IsInside q → IsBounded (joined f p q)
bounded_first f p q is that = record { within = (inside_joined f p q (inside p is) that).within; more = omega (arith, is.more) }

pub bounded_second : {A B C : Type 0} (f : A → B → C) (p : Part A) (q : Part B) → IsInside p → IsBounded q → IsBounded (joined f p q)
bounded_second f p q is that = record { within = (inside_joined f p q is (inside q that)).within; more = omega (arith, that.more) }

pub bounded_tokens : {B C : Type 0} (f : (Unit {0}) → B → C) (n : ℕ) (q : Part B) → IsInside q → 0 < n → IsBounded (joined f (tokens n) q)
bounded_tokens f n q that more = record { within = (inside_joined f (tokens n) q (inside_tokens n) that).within; more = omega (arith, more) }

-- a rule of the whole
kept_within : {B : Type 0} (rule : Rule) (line : Line) (at to : ℕ) (fs : List Fault) (o : Option B) → at < to → IsWithin at to fs → IsWithin at to (kept_by rule line at fs o).faults
kept_within rule line at to fs None less is = record { start = (omega arith, is.start); end = (less, is.end) }
kept_within rule line at to fs (Some b) less is = is

ruled_within : {A B : Type 0} (rule : Rule) (line : Line) (keeps : A → Option B) (at to : ℕ) (fs : List Fault) (o : Option A) → at < to → IsWithin at to fs → IsWithin at to (ruled_by rule line keeps at fs o).faults
ruled_within rule line keeps at to fs None less is = is
ruled_within rule line keeps at to fs (Some a) less is = kept_within rule line at to fs (keeps a) less is

pub bounded_obeys : {A B : Type 0} (rule : Rule) (line : Line) (keeps : History → A → Option B) (p : Part A) → IsBounded p → IsBounded (obeys rule line keeps p)
bounded_obeys rule line keeps p is = record {
  within = λ here. ruled_within rule line (keeps here.before) here.at (here.at + p.tokens) (p.judge here).faults (p.judge here).value (omega (arith, is.more)) (is.within here);
  more = is.more;
}

pub bounded_refused : {A B : Type 0} (rule : Rule) (line : Line) (p : Part A) → IsBounded p → IsBounded (refused {A = A} {B = B} rule line p)
bounded_refused rule line p is = record {
  within = λ here. record { start = (omega arith, (is.within here).start); end = (omega (arith, is.more), (is.within here).end) };
  more = is.more;
}
