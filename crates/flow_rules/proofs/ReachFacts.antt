-- What reaches a point is a fact.
use Rattle.std.proofs.Common.{ℕ, suc, ◌-◌, ◌≤◌, List, [], ◌∷◌, length, refl, arith}
use Rattle.std.specs.Prelude.{Contains}
use Rattle.tac_ir.specs.Regions.{Region, regions_of}
use Rattle.flow_rules.specs.Touches.DefTouches.{starting, made}
use Rattle.flow_rules.specs.Reaches.Reaches.{starts, makes, keeps, joins_one, joins_all}
use Rattle.flow_rules.specs.Laws.{WhatReachesIsAFact}
use Rattle.flow_rules.proofs.FactPairs.{facts_touched}
use Rattle.flow_rules.proofs.Parallels.{fork_at}

-- a fork has a branch
pub some_region : (fork join : ℕ) (entries : List ℕ) → 1 ≤ length entries → (r : Region) × Contains (regions_of fork join entries) r
some_region fork join [] some = absurd (omega (arith, some))
some_region fork join (e ∷ []) some = (record { fork = fork; entry = e; last = join - 1 }, (0, omega arith, refl))
some_region fork join (e ∷ next ∷ entries) some = (record { fork = fork; entry = e; last = next - 1 }, (0, omega arith, refl))

pub reach_fact : WhatReachesIsAFact
reach_fact c points a p d good (starts v low leaf) = (facts_touched c points (suc v) a).1 (starting v low refl leaf)
reach_fact c points a p d good (makes q s e def touched edge) = (facts_touched c points e a).1 (made q def touched)
reach_fact c points a p d good (keeps q s e from alive edge) = reach_fact c points a q e good from
reach_fact c points a p d good (joins_one q s join e entries r is branch body def from) = reach_fact c points a (record { fun = q.fun; at = r.last }) e good from
reach_fact c points a p d good (joins_all q join e entries is from) =
    let fork = fork_at c good q join entries is in
    let some = fork.some in
    let r = some_region q.at join entries (omega (arith, some)) in
    reach_fact c points a (record { fun = q.fun; at = r.0.last }) e good (from r.0 r.1)
