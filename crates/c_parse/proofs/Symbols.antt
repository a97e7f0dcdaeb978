-- Tokens as symbols.
use Rattle.std.proofs.Common.{◌≡◌, suc, ◌-◌, ◌<◌, ◌≤◌, List, [], ◌∷◌, length, take, drop, refl, sym, ap, arith}
use Rattle.std.proofs.lemmas.List.{take_all}
use Rattle.c_lex.specs.declared.token.Token.{Token}
use Rattle.parse_law.specs.tools.Parsing.{done, skip}
use Rattle.c_parse.specs.Symbol.{symbols_of}

pub length_symbols : (ts : List Token) → length (symbols_of ts) ≡ length ts
length_symbols [] = refl
length_symbols (t ∷ ts) = ap suc (length_symbols ts)

pub skip_none : (ts : List Token) → length ts < 1 → skip (symbols_of ts) ≡ done tt (symbols_of ts)
unfolding skip
skip_none [] h = refl
skip_none (t ∷ ts) h = absurd (omega arith)

pub skip_one : (ts : List Token) → 1 ≤ length ts → skip (symbols_of ts) ≡ done tt (symbols_of (take (length ts - 1) (drop 1 ts)))
unfolding skip
skip_one [] h = absurd (omega arith)
skip_one (t ∷ ts) h = ap (λ z. done tt (symbols_of z)) (sym (take_all (suc (length ts) - 1) ts (omega arith)))
