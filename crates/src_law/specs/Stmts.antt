-- What statements do (C99 6.8, and `par`), one clause a form.
use Rattle.std.specs.Prelude.{refl, pos, true, List, [], ◌∷◌, Option, Some, None}
use Rattle.c_ast.specs.declared.stmt.AssignOp.{AssignOp}
use Rattle.c_typed.specs.Stmts.{scalar_at}
use Rattle.c_typed.specs.declared.types.ExprType.{ExprType}
use Rattle.c_typed.specs.declared.expr.Expr.{Expr}
use Rattle.c_typed.specs.declared.stmt.Branch.{Branch}
use Rattle.c_typed.specs.declared.stmt.Condition.{Condition}
use Rattle.c_typed.specs.declared.stmt.Stmt.{fold-Stmt, Stmt}
use Rattle.c_typed.specs.declared.stmt.Stmt.TheOpen.{Stmt-F}
use Rattle.obj_mem.specs.declared.value.Value.{Value}
use Rattle.obj_mem.specs.declared.event.Event.{Event}
use Rattle.obj_mem.specs.Asked.{out_event}
use Rattle.src_law.specs.Acts.{End, done, broken, again, returned, a_value, a_truth, an_end, Act, Acts, ◌▷◌, ◌⨟◌}
use Rattle.src_law.specs.Operators.{wrong, updated}
use Rattle.src_law.specs.Exprs.{Around, sizes, Meant, truth, chosen, expr}

abbrev pub skip : Act an_end
skip = Act.gives done

-- where the first ends by `break`, `continue` or `return`, so do both
abbrev pub where_done : Act an_end → End → Act an_end
where_done next done = next
where_done next e = Act.gives e

abbrev pub in_turn : List (Act an_end) → Act an_end
in_turn [] = skip
in_turn (a ∷ rest) = a ▷ where_done (in_turn rest)

abbrev pub ignored : Act a_value → Act an_end
ignored a = a ▷ λ v. skip

-- Assignments: the place, then the value; one with an operator reads the old value before the operand.

abbrev pub write : Value → Value → Act an_end
write p v = Act.does (Event.Wr p v) refl ⨟ skip

-- the type of what stands at a place, a pointer or an int
abbrev pub or_int : Option ExprType → ExprType
or_int None = ExprType.Int
or_int (Some t) = t

abbrev pub assigned_type : ExprType → ExprType
assigned_type t = or_int (scalar_at t)

abbrev pub compound : Around → AssignOp → Meant → Act a_value → Act an_end
compound c op target operand =
    target.act ▷ λ p. Act.does (Event.Rd p) refl ▷ λ old. operand ▷ λ v. updated (sizes c) op (assigned_type target.typing) old v ▷ write p

abbrev pub assigned : Around → AssignOp → Meant → Act a_value → Act an_end
assigned c AssignOp.Plain target value = target.act ▷ λ p. value ▷ write p
assigned c op target value = compound c op target value

abbrev pub one : Act a_value
one = Act.gives (Value.Int (pos 1))

-- Output: what is no number has no meaning.
abbrev pub told : Event → Act an_end
told (Event.Out k) = Act.does (Event.Out k) refl ⨟ skip
told e = wrong

abbrev pub put : Act a_value → Act an_end
put a = a ▷ λ v. told (out_event v)

abbrev pub frees : Act a_value → Act an_end
frees a = a ▷ λ p. Act.does (Event.Free p) refl ⨟ skip

-- Conditions.

abbrev pub condition : Around → Condition → Act a_truth
condition c d = truth (expr c d.value)

-- without a condition a loop goes on
abbrev pub guard : Around → Option Condition → Act a_truth
guard c None = Act.gives true
guard c (Some d) = condition c d

abbrev pub or_nothing : Option (Act an_end) → Act an_end
or_nothing None = skip
or_nothing (Some a) = a

-- Returns: without a value it is 0.
abbrev pub result : Around → Option Expr → Act an_end
result c None = Act.gives (returned (Value.Int (pos 0)))
result c (Some e) = (expr c e).act ▷ λ v. Act.gives (returned v)

abbrev pub branches : List (Branch (Act an_end)) → Acts
branches [] = Acts.no_more
branches (b ∷ bs) = Acts.beside (in_turn b.body) (branches bs)

-- One level of a statement.
abbrev pub layer : Around → Stmt-F (Act an_end) → Act an_end
layer c (Stmt-F.Block ss) = in_turn ss
layer c (Stmt-F.Assign line target op v) = assigned c op (expr c target) (expr c v).act
layer c (Stmt-F.Increment line target) = compound c AssignOp.Add (expr c target) one
layer c (Stmt-F.Decrement line target) = compound c AssignOp.Sub (expr c target) one
layer c (Stmt-F.Call line e) = ignored (expr c e).act
layer c (Stmt-F.PutInt line e) = put (expr c e).act
layer c (Stmt-F.Free line e) = frees (expr c e).act
layer c (Stmt-F.Return line e) = result c e
layer c (Stmt-F.Break line) = Act.gives broken
layer c (Stmt-F.Continue line) = Act.gives again
layer c (Stmt-F.If line d first second) = condition c d ▷ chosen first (or_nothing second)
layer c (Stmt-F.While line d body) = Act.loops (condition c d) body skip
layer c (Stmt-F.For line start d step body) = start ▷ where_done (Act.loops (guard c d) body step)
layer c (Stmt-F.Par line bs) = Act.forks (branches bs)

unfoldable pub stmt : Around → Stmt → Act an_end
stmt c = fold-Stmt (Act an_end) (layer c)
