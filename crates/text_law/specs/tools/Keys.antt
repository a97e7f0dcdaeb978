-- The keys of rows: temporaries, nodes, points. A tool of proof.
use Rattle.std.specs.Prelude.{ℕ, suc, ◌-◌, Bool, true, false, if◌then◌else◌, nat_le, List, [], ◌∷◌, codes, Option, Some, None}
use Rattle.dfi_base.specs.declared.numbers.Point.{Point}
use Rattle.tac_ir.specs.declared.module.Key.{Key}
use Rattle.line_format.specs.Lines.{greatest}
use Rattle.line_format.specs.tools.Format.{Format, give, chain}
use Rattle.line_format.specs.tools.Number.{number_and}
use Rattle.line_format.specs.tools.Words.{Table, word, one_of}
use Rattle.line_format.specs.tools.Keys.{Pair, after_pair, pair_key}
use Rattle.line_format.specs.tools.Rows.{rows}

-- which key may come next: a temporary from this one on, or any node; or a node from this one on
pub data NextKey : Type 0 where
  temps : Pair → NextKey
  nodes : ℕ → NextKey

abbrev pub next_key : Key → NextKey
next_key (Key.Temp fun t) = temps (after_pair (fun, t))
next_key (Key.Node n) = nodes (suc n)

-- whether a temporary or a node comes
abbrev pub key_words : Pair → Table Bool
key_words least = if nat_le least.0 greatest then (codes "temp ", true) ∷ (codes "node ", false) ∷ [] else (codes "node ", false) ∷ []

abbrev pub temp_key : Pair → Format Key
temp_key least = chain (pair_key least 0) (λ k. give (Key.Temp k.0 k.1))

abbrev pub node_key : ℕ → ℕ → Format Key
node_key least owed = chain (number_and 32 least (greatest - owed)) (λ n. give (Key.Node n))

abbrev pub key_body : Pair → ℕ → Bool → Format Key
key_body least owed temp = elim temp [ true ↦ temp_key least | false ↦ node_key 0 owed ]

abbrev pub key : NextKey → ℕ → Format Key
key (temps least) owed = chain (one_of (key_words least)) (key_body least owed)
key (nodes least) owed = chain (word (codes "node ")) (λ u. node_key least owed)

abbrev pub point_key : Pair → ℕ → Format Point
point_key least owed = chain (chain (word (codes "at ")) (λ u. pair_key least owed)) (λ k. give (record { fun = k.0; at = k.1 }))

abbrev pub next_point : Point → Pair
next_point p = after_pair (p.fun, p.at)

-- which may come next behind the last one, if any
abbrev pub behind_key : Option Key → NextKey
behind_key None = temps (0, 0)
behind_key (Some k) = next_key k

abbrev pub behind_point : Option Point → Pair
behind_point None = (0, 0)
behind_point (Some p) = next_point p

abbrev pub points_rows : ℕ → Format (List (Key × List ℕ))
points_rows n = rows key next_key (temps (0, 0)) n

abbrev pub reach_rows : ℕ → Format (List (Point × List ℕ))
reach_rows n = rows point_key next_point (0, 0) n
