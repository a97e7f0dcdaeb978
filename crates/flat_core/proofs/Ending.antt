-- Whether the run of a core has ended.
use Rattle.std.proofs.Common.{◌≡◌, ℕ, ◌-◌, List, [], ◌∷◌, ◌++◌, length, reverse, Bool, true, false, refl, Option, Some, None, arith, sym, ◌∙◌, ap, inl, inr}
use Rattle.std.specs.Prelude.{ℤ, slice_get}
use Rattle.std.proofs.lemmas.List.{length-append, reverse-append, reverse-reverse}
use Rattle.dfi_base.specs.Lives.{Ended}
use Rattle.tac_ir.specs.declared.run.Entry.{Entry}
use Rattle.tac_ir.specs.Module.{Module}
use Rattle.tac_ir.specs.Path.{stops}
use Rattle.tac_ir.specs.Threads.{threads_of}
use Rattle.tac_ir.specs.CoreRun.{GoesOn}
use Rattle.path_law.specs.InPlace.{FlatLives}
use Rattle.path_law.specs.Alive.{AreAlive}
use Rattle.path_law.specs.Standing.{FlatLife}
use Rattle.path_law.specs.Returned.{HasReturned}
use Rattle.path_law.specs.Returned.HasReturned.{returns, stops as ended_outside}
use Rattle.path_law.proofs.TreeLaws.{same_end, main_value_is}
use Rattle.flat_core.specs.Serves.{Serves}
use Rattle.flat_core.specs.Stands.{Core, history_of, StandsBy, IsCoreOf, IsOver}
use Rattle.flat_core.specs.tools.Over.{is_there, is_over_by, is_over}

-- the newest entry
abbrev pub newest : List Entry → Option Entry
newest [] = None
newest (e ∷ h) = Some e

at_end : (xs : List Entry) (e : Entry) → slice_get (xs ++ e ∷ []) (length xs) ≡ Some e
at_end [] e = refl
at_end (x ∷ xs) e = at_end xs e

last_turned : (h : List Entry) → slice_get (reverse h) (length (reverse h) - 1) ≡ newest h
last_turned [] = refl
last_turned (e ∷ h) =
    let turned : reverse (e ∷ h) ≡ reverse h ++ e ∷ [] = reverse-append (e ∷ []) h in
    let size : length (reverse h ++ e ∷ []) - 1 ≡ length (reverse h) = omega (arith, length-append (reverse h) (e ∷ [])) in
    ap (λ l. slice_get l (length l - 1)) turned ∙ ap (slice_get (reverse h ++ e ∷ [])) size ∙ at_end (reverse h) e

-- the last of the entries is the newest
pub last_is : (entries : List Entry) → slice_get entries (length entries - 1) ≡ newest (reverse entries)
last_is entries = ap (λ l. slice_get l (length l - 1)) (sym (reverse-reverse entries)) ∙ last_turned (reverse entries)

-- Main's value.

ended_is : (m : Module) (h : List Entry) (f : FlatLives) (d : Option ℕ) → AreAlive m h f d → is_there d ≡ true → Ended (threads_of m) h 1
ended_is m h f d alive there = by (f 1) refl
  where
    by : (o : Option FlatLife) → f 1 ≡ o → Ended (threads_of m) h 1
    by None is = (same_end m h f d alive).0 is
    by (Some l) is = let clash : false ≡ true = ap is_there (sym (alive.place.main.lives l is)) ∙ there in absurd (cc)

going_is : (m : Module) (h : List Entry) (f : FlatLives) (d : Option ℕ) → AreAlive m h f d → is_there d ≡ false → Ended (threads_of m) h 1 → ⊥
going_is m h f d alive there over = by (main_value_is m h f d alive over)
  where
    by : HasReturned m h d → ⊥
    by (returns v is r) = let clash : true ≡ false = ap is_there (sym is) ∙ there in cc
    by (ended_outside is r) = let clash : true ≡ false = ap is_there (sym is) ∙ there in cc

-- Over.

over_by : (m : Module) (input : List ℤ) (core : Core) (h : List Entry) → StandsBy m input core h → is_over_by (newest h) core.threads.done ≡ true → IsOver m h
over_by m input core [] stands over = inr (ended_is m [] _ core.threads.done stands.threads over)
over_by m input core (e ∷ h) stands over = by (stops e.answer) refl stands over
  where
    by : (b : Bool) → stops e.answer ≡ b → (elim b as (λ x. Type 0) [ true ↦ (Ended (threads_of m) (e ∷ h) 1 → ⊥) | false ↦ Serves m input (e ∷ h) core.threads core.store ])
        → (elim b as (λ x. Bool) [ true ↦ true | false ↦ is_there core.threads.done ]) ≡ true → IsOver m (e ∷ h)
    by true stop stands over = inl (λ goes. (let clash : true ≡ false = sym stop ∙ goes in cc))
    by false stop stands over = inr (ended_is m (e ∷ h) _ core.threads.done stands.threads over)

-- the run goes on, and the parts of the core are where it is
pub record IsGoing (m : Module) (input : List ℤ) (core : Core) (h : List Entry) : Type 0 where
  pub going : GoesOn h
  pub serves : Serves m input h core.threads core.store
  pub living : Ended (threads_of m) h 1 → ⊥

pub going_with : (m : Module) (input : List ℤ) (core : Core) (h : List Entry) → GoesOn h → Serves m input h core.threads core.store → is_there core.threads.done ≡ false → IsGoing m input core h
going_with m input core h going serves over = record { going = going; serves = serves; living = going_is m h _ core.threads.done serves.threads over }

going_by : (m : Module) (input : List ℤ) (core : Core) (h : List Entry) → StandsBy m input core h → is_over_by (newest h) core.threads.done ≡ false → IsGoing m input core h
going_by m input core [] stands over = record { going = tt; serves = stands; living = going_is m [] _ core.threads.done stands.threads over }
going_by m input core (e ∷ h) stands over = by (stops e.answer) refl stands over
  where
    by : (b : Bool) → stops e.answer ≡ b → (elim b as (λ x. Type 0) [ true ↦ (Ended (threads_of m) (e ∷ h) 1 → ⊥) | false ↦ Serves m input (e ∷ h) core.threads core.store ])
        → (elim b as (λ x. Bool) [ true ↦ true | false ↦ is_there core.threads.done ]) ≡ false → IsGoing m input core (e ∷ h)
    by true stop stands over = cc
    by false stop stands over = record { going = stop; serves = stands; living = going_is m (e ∷ h) _ core.threads.done stands.threads over }

pub over_is : (m : Module) (input : List ℤ) (core : Core) → IsCoreOf m input core → is_over core ≡ true → IsOver m (history_of core)
over_is m input core is over = over_by m input core (history_of core) is.stands (ap (λ o. is_over_by o core.threads.done) (sym (last_is core.entries)) ∙ over)

pub goes_on : (m : Module) (input : List ℤ) (core : Core) → IsCoreOf m input core → is_over core ≡ false → IsGoing m input core (history_of core)
goes_on m input core is over = going_by m input core (history_of core) is.stands (ap (λ o. is_over_by o core.threads.done) (sym (last_is core.entries)) ∙ over)

-- and then it has not ended
pub not_over : (m : Module) (input : List ℤ) (core : Core) (h : List Entry) → IsGoing m input core h → IsOver m h → ⊥
not_over m input core h go (inl stop) = stop go.going
not_over m input core h go (inr over) = go.living over
