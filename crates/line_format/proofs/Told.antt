-- Numbers of a range: each list of bytes is one, or has a first fault.
use Rattle.std.proofs.Common.{◌≡◌, ℕ, ◌<◌, ◌≤◌, ◌^◌, ◌⊎◌, Bool, true, false, ◌&&◌, List, [], ◌∷◌, ◌++◌, refl, sym, subst, arith}
use Rattle.std.specs.Prelude.{nat_le}
use Rattle.std.specs.Fmt.{decimal}
use Rattle.std.proofs.lemmas.Bool.{leb-true}
use Rattle.line_format.specs.Laws.{IsNumber}
use Rattle.line_format.specs.FirstFault.{IsAt}
use Rattle.line_format.specs.tools.Format.{Has, read}
use Rattle.line_format.specs.tools.Number.{is_digit, number_and}
use Rattle.line_format.specs.tools.Answers.{read_all}
use Rattle.line_format.proofs.Laws.{Law}
use Rattle.line_format.proofs.Formats.{exact}
use Rattle.line_format.proofs.OneWord.{both}
use Rattle.line_format.proofs.Spells.{number_spells}
use Rattle.line_format.proofs.Firsts.{either}
use Rattle.line_format.proofs.Whole as whole

module _ (end low high : ℕ) (order : low ≤ high) (small : high < 2 ^ 64) (bytes : List ℕ) where
  Told : Type 0
  Told = ((n : ℕ) × IsNumber end low high bytes n) ⊎ ((at : ℕ) × IsAt (IsNumber end low high) bytes at)

  plain_told : is_digit end ≡ false → Told
  unfolding Told
  plain_told plain =
      let s = number_spells end low high plain order small in
      either (IsNumber end low high) bytes (read_all (number_and end low high) bytes)
      (whole.told (number_and end low high) (IsNumber end low high) (exact (number_and end low high) s.good)
      (λ ts n h. let ((l, k), w) = s.is ts n [] h in (l, k, w))
      (λ ts n (l, k, w). subst (λ z. Has (number_and end low high) z n []) (sym w) (s.has n (l, k) [])) bytes)

  told_by : (b : Bool) → is_digit end ≡ b → ((48 ≤ end) × (end ≤ 57) → ⊥) → Told
  told_by false e apart = plain_told e
  told_by true e apart =
      let (f, g) = both (nat_le 48 end) (nat_le end 57) e in
      absurd (apart (leb-true 48 end f, leb-true end 57 g))

  pub number_told : ((48 ≤ end) × (end ≤ 57) → ⊥) → ((n : ℕ) × IsNumber end low high bytes n) ⊎ ((at : ℕ) × IsAt (IsNumber end low high) bytes at)
  unfolding Told
  number_told apart = told_by (is_digit end) refl apart
