use Rattle.std.proofs.Common.{◌≡◌, ◌∙◌, Bor, List, ℕ, map, rules, ap}
use Rattle.std.specs.Map.Iter.{deref}
use Rattle.std.proofs.lemmas.Map.Iter.{iter_end}
use Rattle.c_lex.proofs.NameLemmas.{bytes_at, bytes-shown}
use Rattle.c_lex.proofs.names.Names.texts.Goals as goal

pub returns : goal.returns
returns c =
    let all : map (deref {X = Bor (List ℕ)}) c.loop-name.yielded ≡ c.self.inside.set.keys = search (rules, iter_end) in
    c.loop-name.invariant ∙ bytes-shown c.loop-name.yielded ∙ ap (map bytes_at) all ∙ c.self.view_is
