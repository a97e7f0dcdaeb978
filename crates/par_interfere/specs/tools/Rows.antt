-- Rows that are joined of others.
use Rattle.std.specs.Prelude.{◌≡◌, ◌↔◌, ◌<◌, ◌⊎◌, ℕ, Bool, true, List, [], length, slice_get, slice_index_or, Some}
use Rattle.dfi_base.specs.Bits.{has}
use Rattle.dfi_base.specs.declared.numbers.Point.{Point}
use Rattle.par_interfere.specs.declared.branches.Branch.{Branch}
use Rattle.par_interfere.specs.tools.Calls.{AreRows}
use Rattle.par_interfere.specs.tools.Branches.{has_point, are_beside}

-- the row of all items that pass a test
pub record IsRowOf {X : Type 0} (test : X → Bool) (items : List X) (row : List Bool) : Type 0 where
  pub long : length row ≡ length items
  pub each : (k : ℕ) (x : X) → slice_get items k ≡ Some x → has row k ≡ test x

-- one of the first items passes a test, and the row beside it has place k
pub record HasSome {X : Type 0} (test : X → Bool) (items : List X) (rows : List (List Bool)) (n k : ℕ) : Type 0 where
  pub number : ℕ
  pub item : X
  pub low : number < n
  pub listed : slice_get items number ≡ Some item
  pub passes : test item ≡ true
  pub here : has (slice_index_or rows number []) k ≡ true

-- the row is a first one, joined with those beside the first items that pass a test
pub record IsJoinOf {X : Type 0} (test : X → Bool) (items : List X) (rows : List (List Bool)) (n : ℕ) (first row : List Bool) : Type 0 where
  pub long : length row ≡ length first
  pub each : (k : ℕ) → (has row k ≡ true) ↔ ((has first k ≡ true) ⊎ HasSome test items rows n k)

-- beside each branch the points of its body
pub record AreBodies (points : List Point) (branches : List Branch) (bodies : List (List Bool)) : Type 0 where
  pub shape : AreRows (length branches) (length points) bodies
  pub each : (i : ℕ) (b : Branch) → slice_get branches i ≡ Some b → IsRowOf (has_point b) points (slice_index_or bodies i [])

-- beside each branch what is in the bodies of the other branches of its fork
pub record AreOthers (width : ℕ) (branches : List Branch) (bodies others : List (List Bool)) : Type 0 where
  pub shape : AreRows (length branches) width others
  pub each : (i : ℕ) (b : Branch) → slice_get branches i ≡ Some b → (k : ℕ)
      → (has (slice_index_or others i []) k ≡ true) ↔ HasSome (are_beside b) branches bodies (length branches) k

-- for each function what is beside the branches from which it is called
pub record AreBesideFuns (count width : ℕ) (branches : List Branch) (others beside : List (List Bool)) : Type 0 where
  pub shape : AreRows count width beside
  pub each : (g : ℕ) → g < count → (k : ℕ) → (has (slice_index_or beside g []) k ≡ true) ↔ HasSome (λ b. has b.called g) branches others (length branches) k

-- for each point what is beside the branches whose bodies have it
pub record AreBesidePoints (points : List Point) (branches : List Branch) (others rows : List (List Bool)) : Type 0 where
  pub shape : AreRows (length points) (length points) rows
  pub each : (n : ℕ) (p : Point) → slice_get points n ≡ Some p → (k : ℕ)
      → (has (slice_index_or rows n []) k ≡ true) ↔ HasSome (λ b. has_point b p) branches others (length branches) k
