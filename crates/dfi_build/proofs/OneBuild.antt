-- A source has one module or one first fault.
use Rattle.std.proofs.Common.{◌≡◌, ◌≤◌, ◌<◌, ℕ, List, [], Option, Some, None, refl, sym, ap, subst, ◌∙◌, arith, true≢false, if◌then◌else◌}
use Rattle.std.specs.Prelude.{is_some, nat_eq}
use Rattle.std.specs.List.{Contains}
use Rattle.c_ast.specs.Ast.{Ast}
use Rattle.c_typed.specs.declared.fault.BigWhat.{BigWhat}
use Rattle.c_typed.specs.Faults.{Fault, Rule, unknown, twice, mismatch, not_lvalue, escape, branches, big, no_main, order, Precedes, earlier, together, IsFirst, told, told_by}
use Rattle.c_typed.specs.Programs.{faults_of}
use Rattle.tac_ir.specs.Module.{Module}
use Rattle.tac_lower.specs.CodeOf.{code_of}
use Rattle.tac_lower.specs.Limits.{first_passed}
use Rattle.tac_lower.specs.declared.fault.LowerFault.{LowerFault}
use Rattle.first_module.specs.ModuleOf.{module_of}
use Rattle.dfi_build.specs.declared.fault.BuildFault.{BuildFault}
use Rattle.dfi_build.specs.Builds.{IsCodeOf, IsFaultOf, IsModuleOf}
use Rattle.dfi_build.specs.Laws.{OneModule, NoFaultOfModule, OneFault}
use Rattle.dfi_build.specs.Source.{IsParsed, IsTyped}
use Rattle.dfi_build.proofs.OneTree.{no_text_fault, one_text_fault, no_parse_fault, one_parse_fault, one_parsed, one_typed}
use Rattle.c_lex.proofs.OneMeaning.{one_lexed}
use Rattle.c_parse.specs.Symbol.{symbols_of}
use Rattle.line_law.proofs.OneLine.{one_line}
use Rattle.c_parse.specs.declared.fault.ParseFault.{ParseFault}
use Rattle.dfi_build.specs.Builds.{IsParseFault}

pub one_module : OneModule
one_module bytes m n x y =
    x.made ∙ ap module_of (x.source.code ∙ ap code_of (one_typed bytes x.source.program y.source.program x.source.typed y.source.typed) ∙ sym y.source.code) ∙ sym y.made

-- the rule of an order
abbrev rule_of : ℕ → Rule
rule_of n =
    if nat_eq n 0 then unknown else (if nat_eq n 1 then twice else (if nat_eq n 2 then mismatch else (if nat_eq n 3 then not_lvalue else (if nat_eq n 4 then escape else (if nat_eq n 5 then branches else (if nat_eq n 6 then big BigWhat.Functions else (if nat_eq n 7 then big BigWhat.Shape else (if nat_eq n 8 then big BigWhat.Globals else (if nat_eq n 9 then big BigWhat.Frame else no_main)))))))))

of_order : (r : Rule) → rule_of (order r) ≡ r
of_order unknown = refl
of_order twice = refl
of_order mismatch = refl
of_order not_lvalue = refl
of_order escape = refl
of_order branches = refl
of_order (big BigWhat.Functions) = refl
of_order (big BigWhat.Shape) = refl
of_order (big BigWhat.Globals) = refl
of_order (big BigWhat.Frame) = refl
of_order no_main = refl

same_rule : (r s : Rule) → order r ≡ order s → r ≡ s
same_rule r s e = sym (of_order r) ∙ ap rule_of e ∙ of_order s

one_first : (f g : Fault) → Precedes f g → Precedes g f → (f.at ≡ g.at) × (f.rule ≡ g.rule)
one_first f g (earlier x) (earlier y) = absurd (omega (arith, x, y))
one_first f g (earlier x) (together y o) = absurd (omega (arith, x, y))
one_first f g (together x o) (earlier y) = absurd (omega (arith, x, y))
one_first f g (together x o) (together y p) = (x, same_rule f.rule g.rule (omega (arith, o, p)))

one_type_fault : (bytes : List ℕ) (a : Ast) → IsParsed bytes a → (f g : Fault) → IsFirst f (faults_of a) → IsFirst g (faults_of a) → told f ≡ told g
one_type_fault bytes a parsed f g x y =
    let same = one_first f g (x.first g y.broken) (y.first f x.broken) in
    let line = one_line (symbols_of parsed.lexed.tokens) a parsed.tree.0.derived f g x.broken y.broken same.0 same.1 in
    λ i. told_by (same.1 i) (line i)

-- what stands before a fault was passed without one
no_type_fault : (bytes : List ℕ) (f : Fault) (a b : Ast) → IsParsed bytes a → IsFirst f (faults_of a) → IsParsed bytes b → faults_of b ≡ [] → ⊥
no_type_fault bytes f a b x first y keeps = nothing (subst (λ fs. Contains fs f) (ap faults_of (one_parsed bytes a b x y) ∙ keeps) first.broken)
  where
    nothing : Contains [] f → ⊥
    nothing c = let below : c.0 < 0 = c.1 in omega (arith, below)

passes : {A : Type 0} {x : A} (o : Option A) → o ≡ None → o ≡ Some x → ⊥
passes o a b = true≢false (sym (ap is_some b) ∙ ap is_some a)

pub no_fault_of_module : NoFaultOfModule
no_fault_of_module bytes m (BuildFault.Lex f) x y = no_text_fault bytes f x.source.typed.parsed.lexed y x.source.typed.parsed.tokens
no_fault_of_module bytes m (BuildFault.Parse f) x y = no_parse_fault bytes f y.0 x.source.typed.tree y.1 y.2 x.source.typed.parsed
no_fault_of_module bytes m (BuildFault.Types f) x y = no_type_fault bytes y.2.0 y.0 x.source.typed.tree y.1 y.2.1 x.source.typed.parsed x.source.typed.keeps
no_fault_of_module bytes m (BuildFault.Lower f) x y =
    passes (first_passed (code_of y.0)) (ap (λ t. first_passed (code_of t)) (one_typed bytes y.0 x.source.program y.1 x.source.typed) ∙ x.source.within) y.2
no_fault_of_module bytes m BuildFault.Memory x y = y

some_same : (f g : LowerFault) → Some f ≡ Some g → f ≡ g
some_same f g e = ap (λ (o : Option LowerFault). elim o [ Some h ↦ h | None ↦ f ]) e

pub one_fault : OneFault
one_fault bytes (BuildFault.Lex f) (BuildFault.Lex g) x y = ap BuildFault.Lex (one_text_fault bytes f g x y)
one_fault bytes (BuildFault.Lex f) (BuildFault.Parse g) x y = absurd (no_text_fault bytes f y.0 x y.1)
one_fault bytes (BuildFault.Lex f) (BuildFault.Types g) x y = absurd (no_text_fault bytes f y.1.lexed x y.1.tokens)
one_fault bytes (BuildFault.Lex f) (BuildFault.Lower g) x y = absurd (no_text_fault bytes f y.1.parsed.lexed x y.1.parsed.tokens)
one_fault bytes (BuildFault.Parse f) (BuildFault.Lex g) x y = absurd (no_text_fault bytes g x.0 y x.1)
one_fault bytes (BuildFault.Parse f) (BuildFault.Parse g) x y =
    ap BuildFault.Parse (one_parse_fault x.0 f g x.2 (subst (λ l. IsParseFault l g) (one_lexed bytes y.0 x.0 y.1 x.1) y.2))
one_fault bytes (BuildFault.Parse f) (BuildFault.Types g) x y = absurd (no_parse_fault bytes f x.0 y.0 x.1 x.2 y.1)
one_fault bytes (BuildFault.Parse f) (BuildFault.Lower g) x y = absurd (no_parse_fault bytes f x.0 y.1.tree x.1 x.2 y.1.parsed)
one_fault bytes (BuildFault.Types f) (BuildFault.Lex g) x y = absurd (no_text_fault bytes g x.1.lexed y x.1.tokens)
one_fault bytes (BuildFault.Types f) (BuildFault.Parse g) x y = absurd (no_parse_fault bytes g y.0 x.0 y.1 y.2 x.1)
one_fault bytes (BuildFault.Types f) (BuildFault.Types g) x y =
    ap BuildFault.Types
    (x.2.2 ∙ one_type_fault bytes x.0 x.1 x.2.0 y.2.0 x.2.1 (subst (λ a. IsFirst y.2.0 (faults_of a)) (one_parsed bytes y.0 x.0 y.1 x.1) y.2.1) ∙ sym y.2.2)
one_fault bytes (BuildFault.Types f) (BuildFault.Lower g) x y = absurd (no_type_fault bytes x.2.0 x.0 y.1.tree x.1 x.2.1 y.1.parsed y.1.keeps)
one_fault bytes (BuildFault.Lower f) (BuildFault.Lex g) x y = absurd (no_text_fault bytes g x.1.parsed.lexed y x.1.parsed.tokens)
one_fault bytes (BuildFault.Lower f) (BuildFault.Parse g) x y = absurd (no_parse_fault bytes g y.0 x.1.tree y.1 y.2 x.1.parsed)
one_fault bytes (BuildFault.Lower f) (BuildFault.Types g) x y = absurd (no_type_fault bytes y.2.0 y.0 x.1.tree y.1 y.2.1 x.1.parsed x.1.keeps)
one_fault bytes (BuildFault.Lower f) (BuildFault.Lower g) x y =
    ap BuildFault.Lower (some_same f g (sym x.2 ∙ ap (λ t. first_passed (code_of t)) (one_typed bytes x.0 y.0 x.1 y.1) ∙ y.2))
one_fault bytes (BuildFault.Lex f) BuildFault.Memory x y = absurd y
one_fault bytes (BuildFault.Parse f) BuildFault.Memory x y = absurd y
one_fault bytes (BuildFault.Types f) BuildFault.Memory x y = absurd y
one_fault bytes (BuildFault.Lower f) BuildFault.Memory x y = absurd y
one_fault bytes BuildFault.Memory g x y = absurd x
