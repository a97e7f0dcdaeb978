-- What the code tests of names in the program's own scope is what the definition tests of them.
use Rattle.std.proofs.Common.{◌≡◌, ℕ, Bool, true, false, ◌||◌, Option, Some, None, is_some, refl, ap, sym, ◌∙◌}
use Rattle.c_types.specs.declared.outline.Outline.{Outline}
use Rattle.c_types.specs.declared.known.Known.{Known}
use Rattle.c_typed.specs.Marks as marks
use Rattle.c_typed.specs.Marks.{History}
use Rattle.c_typed.specs.Whole as whole
use Rattle.c_typed.specs.Whole.{Whole, Builtin, builtin_of, spelling}
use Rattle.c_typed.specs.Programs as programs
use Rattle.c_types.specs.tools.Tables.{looked}
use Rattle.c_types.specs.tools.Outlines as outlines
use Rattle.c_types.specs.tools.Outlines.{spelled}
use Rattle.c_types.specs.tools.ProgramWalk as walk
use Rattle.c_types.proofs.Outlined.{IsOutline, spelled_so}
use Rattle.c_types.proofs.Meanings.{main_plain}
use Rattle.c_types.proofs.OuterStands.{Outer}

built_so : (m : Bool) (b : Option Builtin) → (m ≡ true → b ≡ None) → outlines.is_builtin (spelled_so m b) ≡ is_some b
built_so true b plain = sym (ap is_some (plain refl))
built_so false None plain = refl
built_so false (Some Builtin.getint) plain = refl
built_so false (Some Builtin.left) plain = refl
built_so false (Some Builtin.putint) plain = refl
built_so false (Some Builtin.malloc) plain = refl
built_so false (Some Builtin.free) plain = refl

main_so : (m : Bool) (b : Option Builtin) → outlines.is_main (spelled_so m b) ≡ m
main_so true b = refl
main_so false None = refl
main_so false (Some Builtin.getint) = refl
main_so false (Some Builtin.left) = refl
main_so false (Some Builtin.putint) = refl
main_so false (Some Builtin.malloc) = refl
main_so false (Some Builtin.free) = refl

module _ (w : Whole) (o : Outline) (is : IsOutline w o) (x : ℕ) where
  pub builtin_same : outlines.is_builtin (spelled o x) ≡ programs.is_builtin w x
  builtin_same = ap outlines.is_builtin (is.spells x) ∙ built_so (whole.is_main w x) (builtin_of (spelling w x)) (main_plain (spelling w x))

  pub main_same : outlines.is_main (spelled o x) ≡ whole.is_main w x
  main_same = ap outlines.is_main (is.spells x) ∙ main_so (whole.is_main w x) (builtin_of (spelling w x))

  module _ (h : History) (k : Known) (was : Outer w h k) where
    pub taken_same : walk.is_taken o k x ≡ programs.is_taken w x h
    taken_same =
        let global_there = is_some (looked k.declared.global_names x) in
        let function_there = is_some (looked k.declared.function_names x) in
        let prototype_there = is_some (looked k.declared.prototype_names x) in
        let built = outlines.is_builtin (spelled o x) in
        ap (λ b. b || function_there || prototype_there || built) (was.global_names x) ∙ ap (λ b. marks.has_global x h || b || prototype_there || built) (was.function_names x)
        ∙ ap (λ b. marks.has_global x h || marks.has_function x h || b || built) (was.prototype_names x)
        ∙ ap (λ b. marks.has_global x h || marks.has_function x h || marks.has_prototype x h || b) builtin_same

    -- behind a global, or built in
    pub otherwise_same : walk.is_known_otherwise o k x ≡ (marks.has_global x h || programs.is_builtin w x)
    otherwise_same = ap (λ b. b || outlines.is_builtin (spelled o x)) (was.global_names x) ∙ ap (λ b. marks.has_global x h || b) builtin_same
