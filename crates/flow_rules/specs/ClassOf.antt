-- The classes of definitions: those in the sets of the same reads share one. Classes are 1, 2 and so on, by their least members.
use Rattle.std.specs.Prelude.{◌≡◌, ℕ, ◌-◌, ◌≤◌, Bool, true, not, List, [], ◌∷◌, ◌&&◌, count_by}
use Rattle.std.specs.Bool.{beq}
use Rattle.std.specs.List.{list_any, range_with_len}
use Rattle.tac_ir.specs.Answers.{has}

-- each of these sets has both definitions, or neither
abbrev pub are_alike : List (List ℕ) → ℕ → ℕ → Bool
are_alike [] d e = true
are_alike (set ∷ sets) d e = beq (has set d) (has set e) && are_alike sets d e

-- definition d is the least of its class
abbrev pub is_least : List (List ℕ) → ℕ → Bool
is_least sets d = not (list_any (are_alike sets d) (range_with_len 1 (d - 1)))

-- the class of definition d: how many least members there are up to that of d
pub record ClassOf (sets : List (List ℕ)) (d class : ℕ) : Type 0 where
  pub least : ℕ
  pub low : 1 ≤ least
  pub high : least ≤ d
  pub alike : are_alike sets least d ≡ true
  pub first : is_least sets least ≡ true
  pub number : class ≡ count_by (is_least sets) (range_with_len 1 least)
