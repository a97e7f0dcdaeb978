-- Laws of the code of typed programs, for what stands on it.
use Rattle.std.specs.Prelude.{◌≡◌, ℕ, ◌≤◌, List, map, length, Some, slice_get}
use Rattle.c_typed.specs.Typed.{Typed}
use Rattle.c_typed.specs.declared.types.ObjectType.{ObjectType}
use Rattle.c_typed.specs.declared.types.ExprType.{ExprType}
use Rattle.c_typed.specs.declared.expr.Expr.{Expr}
use Rattle.c_typed.specs.declared.stmt.Stmt.{Stmt}
use Rattle.c_typed.specs.declared.program.Struct.{Struct}
use Rattle.c_typed.specs.declared.program.Global.{Global}
use Rattle.c_typed.specs.declared.program.Variable.{Variable}
use Rattle.c_typed.specs.declared.program.Function.{Function}
use Rattle.c_typed.specs.Types.{words_of}
use Rattle.c_typed.specs.Exprs.{struct_of}
use Rattle.c_typed.specs.Elaboration.{field_offset}
use Rattle.c_typed.specs.IsWell.{Context, IsExpr, context_of, IsWell}
use Rattle.tac_ir.specs.declared.code.Instr.{Instr}
use Rattle.tac_ir.specs.declared.code.Place.{Place}
use Rattle.tac_ir.specs.Layout.{vars_of, lines_of, shape_words, words_before, parts_of, shapes_of_globals}
use Rattle.tac_ir.specs.Counts.{temps_of}
use Rattle.tac_ir.specs.Places.{shape_of_place}
use Rattle.tac_ir.specs.GoodForm.{params_of}
use Rattle.tac_lower.specs.declared.draft.Numbers.{Numbers}
use Rattle.tac_lower.specs.declared.draft.Draft.{Draft}
use Rattle.tac_lower.specs.declared.draft.Ends.{Ends}
use Rattle.tac_lower.specs.Parts.{Made, Part, in_turn}
use Rattle.tac_lower.specs.Values.{direct, value, truth, expr}
use Rattle.tac_lower.specs.Stmts.{Around, stmt}
use Rattle.tac_lower.specs.Functions.{function, no_loop, first_of, around}
use Rattle.tac_lower.specs.Shapes.{shape_number}
use Rattle.tac_lower.specs.CodeOf.{finished, sizes_of, drafts_of, code_of}

-- A piece makes as many drafts as it has points.
abbrev pub IsCounted : {A : Type 0} → Part A → Type 0
IsCounted p = (ends : Ends) (n : Numbers) → length (p.make ends n).drafts ≡ p.points

pub record PiecesAreCounted : Type 0 where
  pub values : (sizes : List ℕ) (line : ℕ) (e : Expr) → IsCounted (value line (expr sizes e))
  pub truths : (sizes : List ℕ) (line : ℕ) (e : Expr) → IsCounted (truth line (expr sizes e))
  pub stmts : (c : Around) (s : Stmt) → IsCounted (stmt c s)
  pub bodies : (c : Around) (ss : List Stmt) → IsCounted (in_turn (map (stmt c) ss))
  pub functions : (c : Around) (f : Function) → IsCounted (function c f)

-- A piece has the type of its expression, and only a place is direct.
pub record PiecesAreTyped : Type 0 where
  pub typings : (sizes : List ℕ) (e : Expr) → (expr sizes e).typing ≡ e.typing
  pub places : (c : Context) (sizes : List ℕ) (e : Expr) (line : ℕ) (p : Place) → IsExpr c e → (expr sizes e).yield line ≡ direct p
      → (t : ObjectType) × (e.typing ≡ ExprType.Place t)

-- A function in the code of all.
abbrev pub shape_in : Typed → ObjectType → ℕ
shape_in t o = shape_number t.structs (code_of t).shapes o

abbrev pub made_of : Typed → ℕ → Function → Numbers → Made ℕ
made_of t k f n = (function (around (sizes_of t) t.main k) f).make no_loop (first_of f n)

pub record FunctionOf (t : Typed) (k : ℕ) (f : Function) : Type 0 where
  -- with which it begins
  pub numbers : Numbers
  pub drafts : slice_get (drafts_of t) k ≡ Some (made_of t k f numbers).drafts
  pub lines : lines_of (code_of t) k ≡ map (finished (shape_in t)) (made_of t k f numbers).drafts
  -- those that are handed out are the function's
  pub temps : (made_of t k f numbers).next.temp ≤ temps_of (code_of t) k
  pub params : params_of (code_of t) k ≡ f.parameters
  pub vars : vars_of (code_of t) k ≡ map (λ v. shape_in t v.object) f.variables

abbrev pub FunctionsStandInCode : Type 0
FunctionsStandInCode = (t : Typed) → IsWell t → (k : ℕ) (f : Function) → slice_get t.functions k ≡ Some f → FunctionOf t k f

-- The shape of a type has its words. Where it is a struct's, its parts are the shapes of the fields, each with its words and where it stands.
pub record StructShape (t : Typed) (o : ObjectType) (d : Struct) : Type 0 where
  pub parts : parts_of (code_of t) (shape_in t o) ≡ map (shape_in t) d.fields
  pub words : (k : ℕ) (u : ObjectType) → slice_get d.fields k ≡ Some u → shape_words (code_of t) (shape_in t u) ≡ words_of (sizes_of t) u
  pub offsets : (k : ℕ) → words_before (code_of t) (parts_of (code_of t) (shape_in t o)) k ≡ field_offset (sizes_of t) d k

pub record HasShape (t : Typed) (o : ObjectType) : Type 0 where
  pub words : shape_words (code_of t) (shape_in t o) ≡ words_of (sizes_of t) o
  pub struct : (j : ℕ) (d : Struct) → struct_of o ≡ Some j → slice_get t.structs j ≡ Some d → StructShape t o d

-- Globals and variables, what drafts name, heap sites and direct places have the shapes of their types.
pub record ShapesOf (t : Typed) : Type 0 where
  pub globals : (k : ℕ) (g : Global) → slice_get t.globals k ≡ Some g → (slice_get (shapes_of_globals (code_of t)) k ≡ Some (shape_in t g.object)) × HasShape t g.object
  pub variables : (k i : ℕ) (f : Function) (v : Variable) → slice_get t.functions k ≡ Some f → slice_get f.variables i ≡ Some v → HasShape t v.object
  pub drafts : (k i : ℕ) (ds : List Draft) (d : Draft) (o : ObjectType) → slice_get (drafts_of t) k ≡ Some ds → slice_get ds i ≡ Some d → d.object ≡ Some o → HasShape t o
  pub sites : (k i : ℕ) (ds : List Draft) (d : Draft) (to a s : ℕ) → slice_get (drafts_of t) k ≡ Some ds → slice_get ds i ≡ Some d → d.instr ≡ Instr.New to a s
      → (o : ObjectType) × (d.object ≡ Some o) × (slice_get (code_of t).sites s ≡ Some (record { shape = shape_in t o; line = d.line }))
  pub places : (k line : ℕ) (f : Function) (e : Expr) (p : Place) → slice_get t.functions k ≡ Some f → IsExpr (context_of t f) e → (expr (sizes_of t) e).yield line ≡ direct p
      → (o : ObjectType) × (e.typing ≡ ExprType.Place o) × (shape_of_place (code_of t) k p ≡ Some (shape_in t o)) × HasShape t o

abbrev pub TypesHaveShapes : Type 0
TypesHaveShapes = (t : Typed) → IsWell t → ShapesOf t
