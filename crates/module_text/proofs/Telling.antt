-- What the answer of reading says of all the bytes.
use Rattle.std.proofs.Common.{◌≡◌, ℕ, ◌-◌, ◌<◌, ◌≤◌, List, [], ◌∷◌, length, subst, arith}
use Rattle.tac_ir.specs.Module.{Module}
use Rattle.line_format.specs.FirstFault.{IsAt}
use Rattle.line_format.specs.tools.Format.{read, done, fault}
use Rattle.line_format.specs.tools.Answers.{whole, Tells}
use Rattle.text_law.specs.IsText.{IsText}
use Rattle.text_law.specs.tools.Whole as form
use Rattle.text_law.proofs.Whole.{one_answer}

module _ (bytes : List ℕ) where
  pub text_told : (m : Module) (rest : List ℕ) → read form.whole bytes ≡ done m rest → length rest ≡ 0 → IsText bytes m
  text_told m [] e h = subst (λ o. Tells IsText bytes (whole o)) e (one_answer bytes)
  text_told m (b ∷ rest) e h = absurd (omega arith)

  pub rest_told : (m : Module) (rest : List ℕ) → read form.whole bytes ≡ done m rest → 0 < length rest → (length rest ≤ length bytes) × IsAt IsText bytes (length bytes - length rest)
  rest_told m [] e h = absurd (omega arith)
  rest_told m (b ∷ rest) e h = subst (λ o. Tells IsText bytes (whole o)) e (one_answer bytes)

  pub fault_told : (n : ℕ) → read form.whole bytes ≡ fault n → (n ≤ length bytes) × IsAt IsText bytes (length bytes - n)
  fault_told n e = subst (λ o. Tells IsText bytes (whole o)) e (one_answer bytes)
