-- Laws: the live branches of a pass, as branches are taken in, in any order.
use Rattle.std.specs.Prelude.{◌≡◌, ◌≢◌, ℕ, List, []}
use Rattle.stripe_rule.specs.Kids.{Has, remove}

-- who is taken in lives no more
abbrev pub TakenInIsGone : Type 0
TakenInIsGone = (c x : ℕ) (kids : List ℕ) → Has x (remove c kids) → Has x kids × (x ≢ c)

-- and the others live on
abbrev pub OthersLiveOn : Type 0
OthersLiveOn = (c x : ℕ) (kids : List ℕ) → Has x kids → x ≢ c → Has x (remove c kids)

-- where nobody lives there is no name left
abbrev pub NobodyIsLeft : Type 0
NobodyIsLeft = (kids : List ℕ) → ((x : ℕ) → Has x kids → ⊥) → kids ≡ []
