use Rattle.std.proofs.Common.{◌≡◌, Some, None, [], ◌∷◌, length, refl, sym, ap, ◌∙◌}
use Rattle.parse_law.specs.tools.Parsing.{finish, done, fault, unexpected}
use Rattle.c_lex.specs.declared.token.Kind.{Kind}
use Rattle.c_parse.specs.Symbol.{Symbols}
use Rattle.c_parse.specs.tools.Tokens as spec
use Rattle.c_parse.proofs.cursor.Cursor.finish.Goals as goal

finish_none : (ts : Symbols) → spec.kind_of (spec.next ts) ≡ None → finish ts ≡ done tt ts
unfolding finish
finish_none [] e = refl
finish_none (t ∷ ts) e = absurd cc

finish_some : (ts : Symbols) (k : Kind) → spec.kind_of (spec.next ts) ≡ Some k → finish ts ≡ fault unexpected (length ts)
unfolding finish
finish_some [] k e = absurd cc
finish_some (t ∷ ts) k e = refl

pub returns-in-None : goal.returns-in-None
returns-in-None c = finish_none c.args.self.now (sym c.kind.ensures ∙ c.in-None.is)

pub returns-in-Some : goal.returns-in-Some
returns-in-Some c = finish_some c.args.self.now _ (sym c.kind.ensures ∙ c.in-Some.is) ∙ ap (λ n. fault unexpected n) (sym c.left.ensures.count)
