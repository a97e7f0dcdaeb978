-- Loads over a library that tells its files.
use Rattle.std.proofs.Common.{◌≡◌, ◌≤◌, ◌<◌, ◌+◌, ◌-◌, ◌^◌, ℕ, Option, None, Some, IfSome, option_map, Result, Ok, Err, List, [], ◌∷◌, refl, subst, sym, ap, ◌∙◌, arith}
use Rattle.dfi_io.specs.Files.{Files}
use Rattle.dfi_io.specs.Loads.{load_of, after_load}
use Rattle.dfi_io.specs.Outside.{Load, LibraryTells, IsLoad, IsToldBy}
use Rattle.dfi_top.specs.Loads.{Chain}

-- told files after these loads
abbrev pub after_loads : List Load → Files → Files
after_loads [] f = f
after_loads (load ∷ loads) f = after_loads loads (after_load load.limit f)

-- each load gave what the files say
abbrev pub AreTold : List Load → Files → Type 0
AreTold [] f = Unit {0}
AreTold (load ∷ loads) f = IsToldBy load f × AreTold loads (after_load load.limit f)

pub load_told : {L : Type 0} (tells : LibraryTells L) (load : Load) (before after : L) (f : Files) → IsLoad tells load before after → tells.told before ≡ Some f
    → IsToldBy load f × (tells.told after ≡ Some (after_load load.limit f))
load_told tells load before after f is e = (subst (λ o. IfSome o (IsToldBy load)) e is.answer, is.told ∙ ap (option_map (after_load load.limit)) e)

pub chain_told : {L : Type 0} (tells : LibraryTells L) (loads : List Load) (before after : L) (f : Files) → Chain tells loads before after → tells.told before ≡ Some f
    → AreTold loads f × (tells.told after ≡ Some (after_loads loads f))
chain_told tells [] before after f c e = (tt, ap tells.told c ∙ e)
chain_told tells (load ∷ loads) before after f c e =
    let first = load_told tells load before c.0 f c.1 e in
    let rest = chain_told tells loads c.0 after (after_load load.limit f) c.2 first.1 in
    ((first.0, rest.0), rest.1)
