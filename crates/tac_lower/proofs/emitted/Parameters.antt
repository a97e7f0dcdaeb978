-- The parameters of a function, one after the other.
use Rattle.std.proofs.Common.{◌≡◌, ℕ, suc, ◌+◌, ◌≤◌, List, [], ◌∷◌, length, drop, add-one, Result, Ok, Err, sym, subst}
use Rattle.std.proofs.lemmas.List.{drop_all}
use Rattle.c_typed.specs.declared.program.Variable.{Variable}
use Rattle.tac_ir.specs.declared.code.Place.{Place}
use Rattle.tac_lower.specs.declared.draft.Ends.{Ends}
use Rattle.tac_lower.specs.declared.writer.Writer.{Writer}
use Rattle.tac_lower.specs.declared.writer.Stop.{Stop}
use Rattle.tac_lower.specs.Parts.{Part, in_turn}
use Rattle.tac_lower.specs.Instrs.{set}
use Rattle.tac_lower.specs.Functions.{parameters_from}
use Rattle.tac_lower.specs.tools.Emits.{Emitted, Emits}
use Rattle.tac_lower.proofs.emitted.Chains.{nothing}
use Rattle.tac_lower.proofs.emitted.Follows.{next, halt}

abbrev pub Parameters : ℕ → List Variable → Ends → Writer → Writer → Result ℕ Stop → Type 0
Parameters k vs ends old new r = Emits (in_turn (parameters_from k vs)) ends old new r

abbrev pub parameter : ℕ → Variable → Part ℕ
parameter k v = set v.line.0 (Place.Local k []) k

pub next_parameter : (k : ℕ) (vs rest : List Variable) (v : Variable) (ends : Ends) (old mid new : Writer) (a : ℕ) (r : Result ℕ Stop)
    → vs ≡ v ∷ rest → Emitted ((parameter k v).make ends old.next) (parameter k v).points old mid a → Parameters (k + 1) rest ends mid new r → Parameters k vs ends old new r
next_parameter k vs rest v ends old mid new a r is first second =
    subst (λ ys. Parameters k ys ends old new r) (sym is)
    (next (parameter k v) (in_turn (parameters_from (suc k) rest)) ends old mid new a r first (subst (λ j. Parameters j rest ends mid new r) (add-one k) second))

pub no_parameter : (k : ℕ) (vs rest : List Variable) (v : Variable) (ends : Ends) (old mid : Writer) (e : Stop)
    → vs ≡ v ∷ rest → Emits (parameter k v) ends old mid (Err e) → Parameters k vs ends old mid (Err e)
no_parameter k vs rest v ends old mid e is past =
    subst (λ ys. Parameters k ys ends old mid (Err e)) (sym is) (halt (parameter k v) (in_turn (parameters_from (suc k) rest)) ends old mid e past)

pub no_more_parameters : (k : ℕ) (vs : List Variable) (i : ℕ) (ends : Ends) (w : Writer) → length vs ≤ i → Parameters k (drop i vs) ends w w (Ok 0)
no_more_parameters k vs i ends w past = subst (λ ys. Parameters k ys ends w w (Ok 0)) (sym (drop_all i vs past)) (nothing 0 ends w)
