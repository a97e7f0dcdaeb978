-- Regions, seen from a stretch of code: each is made by a fork of the stretch, or lies apart from it or round it.
use Rattle.std.proofs.Common.{◌≡◌, ℕ, ◌<◌, ◌≤◌, Bool, true, List, ◌++◌, sym, ◌∙◌, ap, subst, arith, append_assoc}
use Rattle.tac_ir.specs.Regions.{Region, IsInside}
use Rattle.tac_lower.proofs.form.Each.{Each, each_append, each_by, each_both}

-- made by a fork of the stretch from lo up to hi
pub record Held (lo hi : ℕ) (r : Region) : Type 0 where
  pub fork : lo ≤ r.fork
  pub entry : r.fork < r.entry
  pub order : r.entry ≤ r.last
  pub last : r.last < hi

-- round the stretch and the index behind it (in a branch alone), or apart from both
pub data Apart (branched : Bool) (lo hi : ℕ) (r : Region) : Type 0 where
  round : branched ≡ true → r.entry ≤ lo → hi ≤ r.last → Apart branched lo hi r
  before : r.last < lo → Apart branched lo hi r
  behind : hi < r.entry → hi < r.last → Apart branched lo hi r

abbrev pub Off : ℕ → Region → Type 0
Off i r = IsInside r i → ⊥

-- in none of these
abbrev pub Top : ℕ → List Region → Type 0
Top i rs = Each (Off i) rs

-- both within, or neither
abbrev pub Level : ℕ → ℕ → Region → Type 0
Level i t r = (IsInside r i → IsInside r t) × (IsInside r t → IsInside r i)

-- all regions, of which a stretch makes these
pub record Zone (all : List Region) (branched : Bool) (lo hi : ℕ) (own : List Region) : Type 0 where
  pub pre : List Region
  pub post : List Region
  pub split : all ≡ pre ++ (own ++ post)
  pub first : Each (Apart branched lo hi) pre
  pub last : Each (Apart branched lo hi) post

pub apart_narrow : (b : Bool) (lo hi low high : ℕ) (r : Region) → lo ≤ low → high ≤ hi → Apart b lo hi r → Apart b low high r
apart_narrow b lo hi low high r l h (round is below above) = round is (omega arith) (omega arith)
apart_narrow b lo hi low high r l h (before is) = before (omega arith)
apart_narrow b lo hi low high r l h (behind is also) = behind (omega arith) (omega arith)

pub held_before : (b : Bool) (lo mid hi : ℕ) (r : Region) → Held lo mid r → Apart b mid hi r
held_before b lo mid hi r is = before is.last

pub held_behind : (b : Bool) (lo mid hi : ℕ) (r : Region) → Held mid hi r → Apart b lo mid r
held_behind b lo mid hi r is = behind (omega arith) (omega arith)

pub held_wide : (lo hi low high : ℕ) (r : Region) → low ≤ lo → hi ≤ high → Held lo hi r → Held low high r
held_wide lo hi low high r l h is = omega arith

pub off_before : (lo hi i : ℕ) (r : Region) → i ≤ lo → Held lo hi r → Off i r
off_before lo hi i r h is = λ inside. omega arith

pub off_behind : (lo hi i : ℕ) (r : Region) → hi ≤ i → Held lo hi r → Off i r
off_behind lo hi i r h is = λ inside. omega arith

pub top_before : (lo hi i : ℕ) (rs : List Region) → i ≤ lo → Each (Held lo hi) rs → Top i rs
top_before lo hi i rs h held = each_by (Held lo hi) (Off i) rs (λ r is. off_before lo hi i r h is) held

pub top_behind : (lo hi i : ℕ) (rs : List Region) → hi ≤ i → Each (Held lo hi) rs → Top i rs
top_behind lo hi i rs h held = each_by (Held lo hi) (Off i) rs (λ r is. off_behind lo hi i r h is) held

pub apart_level : (b : Bool) (lo hi i t : ℕ) (r : Region) → lo ≤ i → i ≤ hi → lo ≤ t → t ≤ hi → Apart b lo hi r → Level i t r
apart_level b lo hi i t r a c d e (round is below above) = (λ inside. omega arith, λ inside. omega arith)
apart_level b lo hi i t r a c d e (before is) = (λ inside. omega arith, λ inside. omega arith)
apart_level b lo hi i t r a c d e (behind is also) = (λ inside. omega arith, λ inside. omega arith)

off_level : (i t : ℕ) (r : Region) → Off i r → Off t r → Level i t r
off_level i t r p q = (λ inside. absurd (p inside), λ inside. absurd (q inside))

-- indexes that are in no region of the stretch's own are on one level
pub zone_level : (all : List Region) (b : Bool) (lo hi : ℕ) (own : List Region) (i t : ℕ) → Zone all b lo hi own
    → lo ≤ i → i ≤ hi → lo ≤ t → t ≤ hi → Top i own → Top t own → Each (Level i t) all
zone_level all b lo hi own i t z a c d e p q =
    subst (λ rs. Each (Level i t) rs) (sym z.split)
    (each_append (Level i t) z.pre (own ++ z.post) (each_by (Apart b lo hi) (Level i t) z.pre (λ r is. apart_level b lo hi i t r a c d e is) z.first)
    (each_append (Level i t) own z.post (each_both (Off i) (Off t) (Level i t) own (λ r x y. off_level i t r x y) p q)
    (each_by (Apart b lo hi) (Level i t) z.post (λ r is. apart_level b lo hi i t r a c d e is) z.last)))

-- the first part of a stretch, and the second
pub zone_left : (all : List Region) (b : Bool) (lo mid hi end : ℕ) (xs ys : List Region) → mid ≤ hi → Each (Held mid end) ys → Zone all b lo hi (xs ++ ys) → Zone all b lo mid xs
zone_left all b lo mid hi end xs ys h held z = record {
  pre = z.pre;
  post = ys ++ z.post;
  split = z.split ∙ ap (λ rs. z.pre ++ rs) (append_assoc xs ys z.post);
  first = each_by (Apart b lo hi) (Apart b lo mid) z.pre (λ r is. apart_narrow b lo hi lo mid r (omega arith) h is) z.first;
  last = each_append (Apart b lo mid) ys z.post (each_by (Held mid end) (Apart b lo mid) ys (λ r is. held_behind b lo mid end r is) held)
      (each_by (Apart b lo hi) (Apart b lo mid) z.post (λ r is. apart_narrow b lo hi lo mid r (omega arith) h is) z.last);
}

pub zone_right : (all : List Region) (b : Bool) (lo mid hi high : ℕ) (xs ys : List Region) → lo ≤ mid → high ≤ hi → Each (Held lo mid) xs → Zone all b lo hi (xs ++ ys) → Zone all b mid high ys
zone_right all b lo mid hi high xs ys l h held z = record {
  pre = z.pre ++ xs;
  post = z.post;
  split = z.split ∙ ap (λ rs. z.pre ++ rs) (append_assoc xs ys z.post) ∙ sym (append_assoc z.pre xs (ys ++ z.post));
  first = each_append (Apart b mid high) z.pre xs (each_by (Apart b lo hi) (Apart b mid high) z.pre (λ r is. apart_narrow b lo hi mid high r l h is) z.first)
      (each_by (Held lo mid) (Apart b mid high) xs (λ r is. held_before b lo mid high r is) held);
  last = each_by (Apart b lo hi) (Apart b mid high) z.post (λ r is. apart_narrow b lo hi mid high r l h is) z.last;
}
