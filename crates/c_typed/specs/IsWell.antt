-- What a typed program is, whatever its source: every number in it exists, places, values and types fit, and sizes are within limits.
use Rattle.std.specs.Prelude.{◌≡◌, ◌≢◌, ℕ, zero, suc, ◌+◌, ◌<◌, ◌≤◌, pos, Bool, true, false, List, [], ◌∷◌, ◌++◌, map, take, length, Option, Some, None, All, slice_get}
use Rattle.std.specs.List.{range_with_len}
use Rattle.c_typed.specs.declared.types.BaseType.{BaseType}
use Rattle.c_typed.specs.declared.types.ObjectType.{ObjectType}
use Rattle.c_typed.specs.declared.types.ExprType.{ExprType}
use Rattle.c_typed.specs.declared.expr.PrefixOp.{PrefixOp}
use Rattle.c_typed.specs.declared.expr.Expr.{Expr}
use Rattle.c_typed.specs.declared.expr.Form.{Form, out-Form}
use Rattle.c_typed.specs.declared.expr.Form.TheOpen.{Form-F}
use Rattle.c_typed.specs.declared.stmt.Branch.{Branch}
use Rattle.c_typed.specs.declared.stmt.Condition.{Condition}
use Rattle.c_typed.specs.declared.stmt.Stmt.{Stmt, out-Stmt}
use Rattle.c_typed.specs.declared.stmt.Stmt.TheOpen.{Stmt-F}
use Rattle.c_typed.specs.declared.program.Struct.{Struct}
use Rattle.c_typed.specs.declared.program.Global.{Global}
use Rattle.c_typed.specs.declared.program.Variable.{Variable}
use Rattle.c_typed.specs.declared.program.Function.{Function}
use Rattle.c_typed.specs.Types.{words_of, scalar_type, value_type, is_truth, fits}
use Rattle.c_typed.specs.Exprs.{binary_type, struct_of, all_fit, called_type}
use Rattle.c_typed.specs.Decls.{is_scalar, type_limit, frame_limit}
use Rattle.c_typed.specs.Stmts.{scalar_at, assigns_scalar}
use Rattle.c_typed.specs.Programs.{global_limit, function_limit, declaration_limit}
use Rattle.c_typed.specs.Sites.{sites}
use Rattle.c_typed.specs.Typed.{Typed}

-- Types.
abbrev pub sizes_in : List Struct → List ℕ
sizes_in structs = map (λ s. s.words) structs

abbrev pub IsBase : List Struct → BaseType → Type 0
IsBase structs BaseType.Int = Unit {0}
IsBase structs (BaseType.Struct k) = k < length structs
IsBase structs BaseType.Unknown = ⊥

-- its struct exists, each array has items, and its words are within the limit
pub record IsObject (structs : List Struct) (t : ObjectType) : Type 0 where
  pub base : IsBase structs t.base
  pub lengths : All (λ n. 0 < n) t.lengths
  pub words : words_of (sizes_in structs) t ≤ type_limit

-- of what stands at a place, and of what a pointer points to
abbrev pub IsTyping : List Struct → ExprType → Type 0
IsTyping structs (ExprType.Place t) = IsObject structs t
IsTyping structs (ExprType.Pointer t) = IsObject structs t
IsTyping structs ExprType.Unknown = ⊥
IsTyping structs _ = Unit {0}

-- What an expression may name.
pub record Callee : Type 0 where
  pub result : Option ObjectType
  pub parameters : List ObjectType

pub record Context : Type 0 where
  pub structs : List Struct
  pub globals : List ObjectType
  pub functions : List Callee
  -- no expression calls it
  pub main : ℕ
  -- the variables and the result of the function round it
  pub variables : List ObjectType
  pub result : Option ObjectType

-- a field of this number in such a struct
pub record IsField (structs : List Struct) (t : ObjectType) (k : ℕ) (s : ExprType) : Type 0 where
  pub number : ℕ
  pub whole : Struct
  pub field : ObjectType
  pub struct : struct_of t ≡ Some number
  pub there : slice_get structs number ≡ Some whole
  pub has : slice_get whole.fields k ≡ Some field
  pub typing : s ≡ ExprType.Place field

pub record IsCallOf (c : Context) (k : ℕ) (es : List Expr) (s : ExprType) : Type 0 where
  pub callee : Callee
  pub there : slice_get c.functions k ≡ Some callee
  pub other : k ≢ c.main
  pub fit : all_fit es callee.parameters ≡ true
  pub typing : s ≡ called_type callee.result

abbrev pub IsPrefix : PrefixOp → ExprType → Type 0
IsPrefix PrefixOp.Not t = is_truth t ≡ true
IsPrefix _ t = t ≡ ExprType.Int

abbrev pub IsFreed : ExprType → Type 0
IsFreed (ExprType.Pointer t) = Unit {0}
IsFreed ExprType.Null = Unit {0}
IsFreed _ = ⊥

abbrev pub IsCount : Option Expr → Type 0
IsCount None = Unit {0}
IsCount (Some e) = e.typing ≡ ExprType.Int

-- One level of an expression of a type: the types of its operands fit.
abbrev pub IsLayer : Context → ExprType → Form-F Form Expr → Type 0
IsLayer c s (Form-F.Global k) = (t : ObjectType) × (slice_get c.globals k ≡ Some t) × (s ≡ ExprType.Place t)
IsLayer c s (Form-F.Local k) = (t : ObjectType) × (slice_get c.variables k ≡ Some t) × (s ≡ ExprType.Place t)
IsLayer c s (Form-F.Deref e) = (t : ObjectType) × (e.typing ≡ ExprType.Pointer t) × (s ≡ ExprType.Place t)
IsLayer c s (Form-F.Index e i) = (t : ObjectType) × (e.typing ≡ ExprType.Pointer t) × (i.typing ≡ ExprType.Int) × (s ≡ ExprType.Place t)
IsLayer c s (Form-F.Field e k) = (t : ObjectType) × (e.typing ≡ ExprType.Place t) × IsField c.structs t k s
IsLayer c s (Form-F.Arrow e k) = (t : ObjectType) × (e.typing ≡ ExprType.Pointer t) × IsField c.structs t k s
IsLayer c s (Form-F.Number k) = s ≡ ExprType.Int
IsLayer c s Form-F.Null = s ≡ ExprType.Null
IsLayer c s (Form-F.Read e) = (t : ObjectType) × (e.typing ≡ ExprType.Place t) × (t.lengths ≡ []) × (scalar_type t ≡ Some s)
IsLayer c s (Form-F.Decay e) = (t : ObjectType) × (n : ℕ) × (ns : List ℕ) × (e.typing ≡ ExprType.Place t) × (t.lengths ≡ n ∷ ns) × (value_type t ≡ Some s)
IsLayer c s (Form-F.Address e) = (t : ObjectType) × (e.typing ≡ ExprType.Place t) × (t.lengths ≡ []) × (s ≡ ExprType.Pointer t)
IsLayer c s (Form-F.Prefix op e) = IsPrefix op e.typing × (s ≡ ExprType.Int)
IsLayer c s (Form-F.Binary e op f) = binary_type op e.typing f.typing ≡ Some s
IsLayer c s (Form-F.Call k es) = IsCallOf c k es s
IsLayer c s Form-F.GetInt = s ≡ ExprType.Int
IsLayer c s Form-F.Left = s ≡ ExprType.Int
IsLayer c s (Form-F.New site item count) = IsCount count × (item.lengths ≡ []) × (s ≡ ExprType.Pointer item)

abbrev pub operand_there : Option Expr → List Expr
operand_there None = []
operand_there (Some e) = e ∷ []

abbrev pub operands_of : Form-F Form Expr → List Expr
operands_of (Form-F.Deref e) = e ∷ []
operands_of (Form-F.Index e i) = e ∷ i ∷ []
operands_of (Form-F.Field e k) = e ∷ []
operands_of (Form-F.Arrow e k) = e ∷ []
operands_of (Form-F.Read e) = e ∷ []
operands_of (Form-F.Decay e) = e ∷ []
operands_of (Form-F.Address e) = e ∷ []
operands_of (Form-F.Prefix op e) = e ∷ []
operands_of (Form-F.Binary e op f) = e ∷ f ∷ []
operands_of (Form-F.Call k es) = es
operands_of (Form-F.New site item count) = operand_there count
operands_of _ = []

-- an expression, and all of these
mutual
  pub data IsExpr (c : Context) : Expr → Type 0 where
    known : (e : Expr) → IsTyping c.structs e.typing → IsLayer c e.typing (out-Form e.form) → AreExprs c (operands_of (out-Form e.form)) → IsExpr c e

  pub data AreExprs (c : Context) : List Expr → Type 0 where
    none : AreExprs c []
    each : (e : Expr) (es : List Expr) → IsExpr c e → AreExprs c es → AreExprs c (e ∷ es)

-- Statements, by what stands round them: a loop, with no branch between, and a branch.
pub record Round : Type 0 where
  pub looped : Bool
  pub branched : Bool

abbrev pub in_loop_of : Round → Round
in_loop_of r = record { looped = true; branched = r.branched }

abbrev pub out_of_loop : Round → Round
out_of_loop r = record { looped = false; branched = r.branched }

abbrev pub in_branch_of : Round
in_branch_of = record { looped = false; branched = true }

pub record IsCondition (c : Context) (d : Condition) : Type 0 where
  pub value : IsExpr c d.value
  pub truth : is_truth d.value.typing ≡ true

abbrev pub IsConditionThere : Context → Option Condition → Type 0
IsConditionThere c None = Unit {0}
IsConditionThere c (Some d) = IsCondition c d

-- a place of an int or a pointer
pub record IsTarget (c : Context) (e : Expr) : Type 0 where
  pub known : IsExpr c e
  pub scalar : ExprType
  pub place : scalar_at e.typing ≡ Some scalar

abbrev pub is_call : Form-F Form Expr → Bool
is_call (Form-F.Call k es) = true
is_call Form-F.GetInt = true
is_call Form-F.Left = true
is_call (Form-F.New site item count) = true
is_call _ = false

-- a value exactly where there is a result
abbrev pub IsReturned : Context → Option ObjectType → Option Expr → Type 0
IsReturned c None None = Unit {0}
IsReturned c (Some t) (Some e) = IsExpr c e × (fits e.typing t ≡ true)
IsReturned c _ _ = ⊥

-- an assignment, a count, a call, or nothing
abbrev pub is_simple : Stmt-F Stmt → Bool
is_simple (Stmt-F.Assign line e op v) = true
is_simple (Stmt-F.Increment line e) = true
is_simple (Stmt-F.Decrement line e) = true
is_simple (Stmt-F.Call line e) = true
is_simple (Stmt-F.PutInt line e) = true
is_simple (Stmt-F.Free line e) = true
is_simple (Stmt-F.Block []) = true
is_simple _ = false

-- One level of a statement.
abbrev pub IsStmtLayer : Context → Round → Stmt-F Stmt → Type 0
IsStmtLayer c r (Stmt-F.Assign line e op v) = (is : IsTarget c e) × IsExpr c v × (assigns_scalar op is.scalar v.typing ≡ true)
IsStmtLayer c r (Stmt-F.Increment line e) = IsTarget c e
IsStmtLayer c r (Stmt-F.Decrement line e) = IsTarget c e
IsStmtLayer c r (Stmt-F.Call line e) = IsExpr c e × (is_call (out-Form e.form) ≡ true)
IsStmtLayer c r (Stmt-F.PutInt line e) = IsExpr c e × (e.typing ≡ ExprType.Int)
IsStmtLayer c r (Stmt-F.Free line e) = IsExpr c e × IsFreed e.typing
IsStmtLayer c r (Stmt-F.Return line v) = (r.branched ≡ false) × IsReturned c c.result v
IsStmtLayer c r (Stmt-F.Break line) = r.looped ≡ true
IsStmtLayer c r (Stmt-F.Continue line) = r.looped ≡ true
IsStmtLayer c r (Stmt-F.If line d first second) = IsCondition c d
IsStmtLayer c r (Stmt-F.While line d body) = IsCondition c d
IsStmtLayer c r (Stmt-F.For line start d step body) = IsConditionThere c d × (is_simple (out-Stmt step) ≡ true)
IsStmtLayer c r (Stmt-F.Par line branches) = (2 ≤ length branches) × (length branches ≤ 15)
IsStmtLayer c r (Stmt-F.Block ss) = Unit {0}

-- the statements in a statement, each with what stands round it: no loop round the start and the step of a `for`
abbrev pub Placed : Type 0
Placed = Round × Stmt

abbrev pub placed : Round → List Stmt → List Placed
placed r [] = []
placed r (s ∷ ss) = (r, s) ∷ placed r ss

abbrev pub stmt_there : Round → Option Stmt → List Placed
stmt_there r None = []
stmt_there r (Some s) = (r, s) ∷ []

abbrev pub in_branches : List (Branch Stmt) → List Placed
in_branches [] = []
in_branches (b ∷ bs) = placed in_branch_of b.body ++ in_branches bs

abbrev pub stmts_of : Round → Stmt-F Stmt → List Placed
stmts_of r (Stmt-F.Block ss) = placed r ss
stmts_of r (Stmt-F.If line d first second) = (r, first) ∷ stmt_there r second
stmts_of r (Stmt-F.While line d body) = (in_loop_of r, body) ∷ []
stmts_of r (Stmt-F.For line start d step body) = (out_of_loop r, start) ∷ (out_of_loop r, step) ∷ (in_loop_of r, body) ∷ []
stmts_of r (Stmt-F.Par line branches) = in_branches branches
stmts_of r _ = []

mutual
  pub data IsStmt (c : Context) : Round → Stmt → Type 0 where
    known : (r : Round) (s : Stmt) → IsStmtLayer c r (out-Stmt s) → AreStmts c (stmts_of r (out-Stmt s)) → IsStmt c r s

  pub data AreStmts (c : Context) : List Placed → Type 0 where
    none : AreStmts c []
    each : (p : Placed) (ps : List Placed) → IsStmt c p.0 p.1 → AreStmts c ps → AreStmts c (p ∷ ps)

-- Programs.
abbrev pub words_in : List ℕ → List ObjectType → ℕ
words_in sizes [] = 0
words_in sizes (t ∷ ts) = words_of sizes t + words_in sizes ts

-- a struct by value is one before
abbrev pub IsEarlier : ℕ → BaseType → ℕ → Type 0
IsEarlier k (BaseType.Struct j) zero = j < k
IsEarlier k BaseType.Unknown zero = ⊥
IsEarlier k _ _ = Unit {0}

pub record IsStruct (structs : List Struct) (k : ℕ) (d : Struct) : Type 0 where
  pub fields : All (IsObject structs) d.fields
  pub earlier : All (λ t. IsEarlier k t.base t.stars) d.fields
  pub words : d.words ≡ words_in (sizes_in structs) d.fields
  pub limit : d.words ≤ type_limit
  -- it has a field, and so a word
  pub some_fields : 1 ≤ length d.fields
  pub some_words : 1 ≤ d.words

abbrev pub is_int : ObjectType → Bool
is_int t = elim (scalar_type t) [ Some ExprType.Int ↦ true | _ ↦ false ]

pub record IsGlobal (structs : List Struct) (g : Global) : Type 0 where
  pub object : IsObject structs g.object
  -- an array, a struct and a pointer start with zeros
  pub start : is_int g.object ≡ false → g.start ≡ pos 0

abbrev pub objects_of : List Variable → List ObjectType
objects_of vs = map (λ v. v.object) vs

abbrev pub callee_of : Function → Callee
callee_of f = record { result = f.result; parameters = take f.parameters (objects_of f.variables) }

abbrev pub context_of : Typed → Function → Context
context_of t f = record {
  structs = t.structs;
  globals = map (λ g. g.object) t.globals;
  functions = map callee_of t.functions;
  main = t.main;
  variables = objects_of f.variables;
  result = f.result;
}

abbrev pub IsResult : List Struct → Option ObjectType → Type 0
IsResult structs None = Unit {0}
IsResult structs (Some t) = IsObject structs t × (is_scalar t ≡ true)

pub record IsFunction (t : Typed) (f : Function) : Type 0 where
  pub result : IsResult t.structs f.result
  pub parameters : f.parameters ≤ length f.variables
  pub scalars : All (λ t. is_scalar t ≡ true) (take f.parameters (objects_of f.variables))
  pub objects : All (IsObject t.structs) (objects_of f.variables)
  -- with a word for the link
  pub frame : suc (words_in (sizes_in t.structs) (objects_of f.variables)) ≤ frame_limit
  pub body : AreStmts (context_of t f) (placed (record { looped = false; branched = false }) f.body)

-- What is declared: structs, fields, globals and variables, each with its array dimensions.
abbrev pub declared_in : List ObjectType → ℕ
declared_in [] = 0
declared_in (t ∷ ts) = suc (length t.lengths + declared_in ts)

abbrev pub declared_structs : List Struct → ℕ
declared_structs [] = 0
declared_structs (d ∷ ds) = suc (declared_in d.fields + declared_structs ds)

abbrev pub declared_functions : List Function → ℕ
declared_functions [] = 0
declared_functions (f ∷ fs) = declared_in (objects_of f.variables) + declared_functions fs

abbrev pub declarations : Typed → ℕ
declarations t = declared_structs t.structs + declared_in (map (λ g. g.object) t.globals) + declared_functions t.functions

abbrev pub IsIntResult : Option ObjectType → Type 0
IsIntResult None = ⊥
IsIntResult (Some t) = is_int t ≡ true

pub record IsWell (t : Typed) : Type 0 where
  pub structs : (k : ℕ) (d : Struct) → slice_get t.structs k ≡ Some d → IsStruct t.structs k d
  pub globals : All (IsGlobal t.structs) t.globals
  pub global_words : words_in (sizes_in t.structs) (map (λ g. g.object) t.globals) ≤ global_limit
  pub functions : All (IsFunction t) t.functions
  pub few_functions : length t.functions ≤ function_limit
  pub few_declarations : declarations t ≤ declaration_limit
  -- numbered in the order of the code
  pub sites : sites t ≡ range_with_len 0 (length (sites t))
  pub main : (f : Function) × (slice_get t.functions t.main ≡ Some f) × (f.parameters ≡ 0) × IsIntResult f.result
