use Rattle.std.proofs.Common.{◌≡◌, ℕ, zero, suc, List, [], ◌∷◌, slice_index_or, length, ◌<◌, arith, rules, refl}
use Rattle.std.proofs.lemmas.Grind.{common_steps}
use Rattle.dfi_base.specs.declared.numbers.Line.{Line}
use Rattle.c_lex.specs.declared.token.Token.{Token}
use Rattle.c_parse.specs.Symbol.{symbols_of}
use Rattle.c_parse.specs.Parsed.{line_at}
use Rattle.c_parse.specs.tools.Failures as spec
use Rattle.c_parse.proofs.parser.line_from.Goals as goal

line_in : (ts : List Token) (last : Line) (k : ℕ) (d : Token) → k < length ts → (slice_index_or ts k d).line ≡ line_at (symbols_of ts) last k
line_in [] last k d h = absurd (omega arith)
line_in (s ∷ ts) last zero d h = refl
line_in (s ∷ ts) last (suc k) d h = line_in ts last k d (omega arith)

line_out : (ts : List Token) (last : Line) (k : ℕ) → (k < length ts → ⊥) → last ≡ line_at (symbols_of ts) last k
line_out [] last k h = refl
line_out (s ∷ ts) last zero h = absurd (h (omega arith))
line_out (s ∷ ts) last (suc k) h = line_out ts last k (λ g. h (omega arith))

pub returns-in-Some : goal.returns-in-Some
returns-in-Some c =
    let e = line_in c.lexed.inside.tokens c.lexed.inside.last (spec.place c.args.lexed.now c.args.left) c.in-Some.token.now in
    first_of (search rules, grind (arith, common_steps))

pub returns-in-None : goal.returns-in-None
returns-in-None c =
    let e = line_out c.lexed.inside.tokens c.lexed.inside.last (spec.place c.args.lexed.now c.args.left) in
    first_of (search rules, grind (arith, common_steps))
