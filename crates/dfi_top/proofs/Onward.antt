-- From a stage of a call to the stage before it.
use Rattle.std.proofs.Common.{◌≡◌, ℕ, Result, Ok, Err, IfOk, List, [], ◌∷◌, inl, inr, refl, sym, subst}
use Rattle.dfi_base.specs.declared.memory.Memory.{Memory}
use Rattle.dfi_io.specs.Outside.{Load, Loaded, LibraryTells, IsLoad}
use Rattle.dfi_io.specs.declared.fault.LoadFault.TheVariants.{Failed}
use Rattle.tac_ir.specs.declared.run.End.{End}
use Rattle.dfi_top.specs.declared.reply.Reply.{Reply}
use Rattle.dfi_top.specs.Loads.{with_last_failed}
use Rattle.dfi_top.specs.Reply.{Said, Ends, Given, Behind, RefusesLoad, said_by}
use Rattle.dfi_top.specs.Texts.{failed_text}
use Rattle.dfi_top.specs.tools.Stages.{MayLoad, Goes}

-- what is said of a load that failed
abbrev failed_said : List ℕ → Said
failed_said name = record { status = 6; text = failed_text name; journal = record { entries = []; end = End.NoRun } }

failed_load : (name : List ℕ) → RefusesLoad name Failed (failed_said name)
failed_load name = record { status_is = refl; text_is = refl; no_run = (refl, refl) }

may_load : (name : List ℕ) (limit : ℕ) (Then : List ℕ → List Load → Said → Type 0) (gave : Loaded) (loads : List Load)
    → MayLoad (Given name Then gave) loads → MayLoad (Behind name limit Then) (record { name = name; limit = limit; gave = gave } ∷ loads)
may_load name limit Then gave [] m = inr (failed_said name, ((refl, refl), (refl, failed_load name)))
may_load name limit Then gave (next ∷ loads) (inl e) =
    inr (subst (λ xs. (said : Said) × Behind name limit Then (with_last_failed (record { name = name; limit = limit; gave = gave } ∷ xs)) said) (sym e)
    (failed_said name, ((refl, refl), (refl, failed_load name))))
may_load name limit Then gave (next ∷ loads) (inr m) = inr (m.0, ((refl, refl), m.1))

-- a stage behind one load
pub behind : {L : Type 0} {tells : LibraryTells L} {before mid : L} (after : L) (name : List ℕ) (limit : ℕ) (Then : List ℕ → List Load → Said → Type 0) (gave : Loaded)
    → IsLoad tells (record { name = name; limit = limit; gave = gave }) before mid → (r : Result Reply Memory) → Goes said_by tells (Given name Then gave) mid after r
    → Goes said_by tells (Behind name limit Then) before after r
behind {mid = mid} after name limit Then gave is (Ok r) h = (record { name = name; limit = limit; gave = gave } ∷ h.0, (mid, is, h.1), ((refl, refl), h.2))
behind {mid = mid} after name limit Then gave is (Err e) h = (record { name = name; limit = limit; gave = gave } ∷ h.0, (mid, is, h.1), may_load name limit Then gave h.0 h.2)

-- a stage that loads nothing
pub ends : {L : Type 0} (tells : LibraryTells L) (lib : L) (Saying : Said → Type 0) (r : Result Reply Memory) → IfOk r (λ x. Saying (said_by x))
    → Goes said_by tells (Ends Saying) lib lib r
ends tells lib Saying (Ok r) h = ([], refl, (refl, h))
ends tells lib Saying (Err e) h = ([], refl, inl refl)

-- a stage that is one way to go on
pub alike : {L : Type 0} (tells : LibraryTells L) (before after : L) (Later Whole : List Load → Said → Type 0) → ((loads : List Load) (s : Said) → Later loads s → Whole loads s)
    → (r : Result Reply Memory) → Goes said_by tells Later before after r → Goes said_by tells Whole before after r
alike tells before after Later Whole on (Ok r) h = (h.0, h.1, on h.0 (said_by r) h.2)
alike tells before after Later Whole on (Err e) (loads, loaded, inl none) = (loads, loaded, inl none)
alike tells before after Later Whole on (Err e) (loads, loaded, inr some) = (loads, loaded, inr (some.0, on (with_last_failed loads) some.0 some.1))
