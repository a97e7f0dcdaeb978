-- What the code finds of the declarations of a function, and what is known behind them. A tool of proof.
use Rattle.std.specs.Prelude.{ℕ, ◌+◌, Bool, true, false, ◌&&◌, nat_eq, nat_le, List, map, length, Option, Some, None, Ok, Err}
use Rattle.c_ast.specs.LineOf.{line_of_base}
use Rattle.dfi_base.specs.declared.numbers.Line.{Line}
use Rattle.c_ast.specs.declared.ident.Ident.{Ident}
use Rattle.c_ast.specs.declared.decl.Base.{Base}
use Rattle.c_ast.specs.declared.decl.Brackets.{Brackets}
use Rattle.c_ast.specs.declared.decl.Declarator.{Declarator}
use Rattle.c_ast.specs.declared.decl.Decl.{Decl}
use Rattle.c_ast.specs.declared.decl.DeclItem.{DeclItem}
use Rattle.c_ast.specs.declared.decl.Param.{Param}
use Rattle.c_ast.specs.declared.decl.Params.{Params}
use Rattle.c_ast.specs.declared.decl.ProtoParam.{ProtoParam}
use Rattle.c_ast.specs.declared.decl.ProtoParams.{ProtoParams}
use Rattle.c_ast.specs.declared.expr.Expr.{Expr as SourceExpr}
use Rattle.c_ast.specs.declared.stmt.AssignOp.{AssignOp}
use Rattle.c_typed.specs.declared.fault.BigWhat.{BigWhat}
use Rattle.c_typed.specs.declared.fault.TypeFault.{TypeFault}
use Rattle.c_typed.specs.declared.types.ObjectType.{ObjectType}
use Rattle.c_typed.specs.declared.types.ExprType.{ExprType}
use Rattle.c_typed.specs.declared.expr.Expr.{Expr}
use Rattle.c_typed.specs.declared.expr.Form.TheOpen.{Form-F}
use Rattle.c_typed.specs.Exprs.{made}
use Rattle.c_typed.specs.declared.stmt.Stmt.{Stmt, roll-Stmt}
use Rattle.c_typed.specs.declared.stmt.Stmt.TheOpen.{Stmt-F}
use Rattle.c_types.specs.declared.outline.Outline.{Outline}
use Rattle.c_types.specs.declared.known.Known.{Known}
use Rattle.c_typed.specs.Types.{fits, parameter_stars}
use Rattle.c_typed.specs.Faults.{twice, mismatch, big, told_by}
use Rattle.c_typed.specs.Decls.{has_items, by_value, bracket_items, is_scalar}
use Rattle.c_types.specs.tools.Steps.{Found, ◌>>=◌, broken, unless_kept, each, every, if_some}
use Rattle.c_types.specs.tools.Outlines.{words_of, capped, declared_type, pointers_to, base_walk}
use Rattle.c_types.specs.tools.ExprWalk.{expr_walk, value}
use Rattle.c_types.specs.tools.KnownSteps.{is_bound_here, declare_local}

-- The first fault at the name of a variable of a block, if there is one.
abbrev pub name_fault : Outline → Known → Ident → ObjectType → Option TypeFault
name_fault o k x t =
    elim (is_bound_here k.scopes x.name) [
      | true ↦ Some (told_by twice x.line)
      | false ↦
          elim (nat_le (words_of o t) 24576) [
            | false ↦ Some (told_by (big BigWhat.Shape) x.line)
            | true ↦
                elim (nat_le (capped (words_of o t + k.frame.words)) 4096) [ true ↦ None | false ↦ Some (told_by (big BigWhat.Frame) x.line) ]
          ]
    ]

-- A rule of the declarator's first token is told before one of its name, but behind a name that stands twice at that token.
abbrev pub name_first : Known → Declarator → Bool
name_first k d = nat_eq d.stars 0 && is_bound_here k.scopes d.name.name

abbrev pub no_fault : Option TypeFault → Found (Unit {0})
no_fault None = Ok tt
no_fault (Some e) = Err e

abbrev pub first_or : TypeFault → Option TypeFault → Found (Unit {0})
first_or e None = Err e
first_or e (Some f) = Err f

abbrev pub declarator_rule : Bool → Line → Bool → Option TypeFault → Found (Unit {0})
declarator_rule first line true fault = no_fault fault
declarator_rule true line false fault = first_or (told_by mismatch line) fault
declarator_rule false line false fault = broken mismatch line

abbrev pub assigned : Line → ObjectType → ℕ → Expr → Stmt
assigned line t k e = roll-Stmt (Stmt-F.Assign line (made (ExprType.Place t) (Form-F.Local k)) AssignOp.Plain e)

abbrev pub valued_by : Bool → Line → ObjectType → ℕ → Option TypeFault → Found Expr → Found (Option Stmt)
valued_by first line t number fault (Ok v) =
    declarator_rule first line (has_items t.lengths && fits v.typing t) fault >>= (λ _. Ok (Some (assigned line t number v)))
valued_by first line t number fault (Err e) = declarator_rule first line (has_items t.lengths) fault >>= (λ _. Err e)

abbrev pub valued : Outline → Known → Declarator → ObjectType → Option SourceExpr → Found (Option Stmt)
valued o k d t None = declarator_rule (name_first k d) d.line (has_items t.lengths) (name_fault o k d.name t) >>= (λ _. Ok None)
valued o k d t (Some e) =
    valued_by (name_first k d) d.line t (length k.frame.variables) (name_fault o k d.name t) (value (expr_walk o (declare_local o d.name t k) e))

abbrev pub local_walk : Outline → Known → Declarator → ObjectType → Option SourceExpr → Found (Option Stmt × Known)
local_walk o k d t e = valued o k d t e >>= (λ ss. Ok (ss, declare_local o d.name t k))

abbrev pub local_item_walk : Outline → Base → DeclItem → Known → Found (Option Stmt × Known)
local_item_walk o b i k = local_walk o k i.declarator (declared_type o b i.declarator) i.value

-- the values of the items in turn
abbrev pub local_items_walk : Outline → Base → List DeclItem → Known → Found (List Stmt × Known)
local_items_walk o b is k = each if_some (local_item_walk o b) is k

abbrev pub local_decl_walk : Outline → Decl → Known → Found (Stmt × Known)
local_decl_walk o d k =
    base_walk o k (by_value (map (λ i. i.declarator) d.items)) d.base
    >>= (λ _. local_items_walk o d.base d.items k >>= (λ s. Ok (roll-Stmt (Stmt-F.Block s.0), s.1)))

-- Parameters: what stands before the name has its rules first.
abbrev pub first_rule : Outline → Known → Base → ℕ → Brackets → Found (Unit {0})
first_rule o k b stars brackets =
    unless_kept (bracket_items brackets) mismatch (line_of_base b) (base_walk o k (nat_eq (parameter_stars stars brackets) 0) b)

abbrev pub parameter_fault : Known → Ident → ObjectType → Option TypeFault
parameter_fault k x t =
    elim (is_bound_here k.scopes x.name) [
      | true ↦ Some (told_by twice x.line)
      | false ↦ elim (is_scalar t) [ true ↦ None | false ↦ Some (told_by mismatch x.line) ]
    ]

-- the name, in the frame too
abbrev pub framed : Outline → Known → Ident → ObjectType → Found (Unit {0})
framed o k x t = unless_kept (nat_le (capped (words_of o t + k.frame.words)) 4096) (big BigWhat.Frame) x.line (Ok tt)

abbrev pub parameter_type : Outline → Base → ℕ → Brackets → ObjectType
parameter_type o b stars brackets = pointers_to o b (parameter_stars stars brackets)

abbrev pub parameter_walk : Outline → Param → Known → Found ((Unit {0}) × Known)
parameter_walk o p k =
    let t = parameter_type o p.base p.stars p.brackets in
    first_rule o k p.base p.stars p.brackets
    >>= (λ _. no_fault (parameter_fault k p.name t) >>= (λ _. framed o k p.name t) >>= (λ _. Ok (tt, declare_local o p.name t k)))

abbrev pub parameters_walk : Outline → List Param → Known → Found ((Unit {0}) × Known)
parameters_walk o ps k = every (parameter_walk o) ps k

abbrev pub params_walk : Outline → Params → Known → Found ((Unit {0}) × Known)
params_walk o (Params.List ps) k = parameters_walk o ps k
params_walk o _ k = Ok (tt, k)

-- Parameters of a prototype. A parameter without a name breaks no rule of its own that its base's rules hide.
abbrev pub nameless_walk : Outline → Known → ProtoParam → ObjectType → Found ((Unit {0}) × Known)
nameless_walk o k p t = first_rule o k p.base p.stars p.brackets >>= (λ _. unless_kept (is_scalar t) mismatch (line_of_base p.base) (Ok (tt, k)))

abbrev pub named_walk : Outline → Known → ProtoParam → ObjectType → Ident → Found ((Unit {0}) × Known)
named_walk o k p t x =
    first_rule o k p.base p.stars p.brackets >>= (λ _. no_fault (parameter_fault k x t) >>= (λ _. Ok (tt, declare_local o x t k)))

abbrev pub proto_parameter_walk : Outline → ProtoParam → Known → Found ((Unit {0}) × Known)
proto_parameter_walk o p k =
    let t = parameter_type o p.base p.stars p.brackets in elim p.name [ None ↦ nameless_walk o k p t | Some x ↦ named_walk o k p t x ]

abbrev pub proto_parameters_walk : Outline → List ProtoParam → Known → Found ((Unit {0}) × Known)
proto_parameters_walk o ps k = every (proto_parameter_walk o) ps k

abbrev pub proto_params_walk : Outline → ProtoParams → Known → Found ((Unit {0}) × Known)
proto_params_walk o (ProtoParams.List ps) k = proto_parameters_walk o ps k
proto_params_walk o _ k = Ok (tt, k)
