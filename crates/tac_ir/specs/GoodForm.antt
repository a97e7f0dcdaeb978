-- The form of code is good: its numbers exist and are in order, its jumps and forks are well nested, and it is within the
-- limits. (Rows, sets and classes of a module have rules of their own.)
use Rattle.std.specs.Prelude.{◌≡◌, ℕ, ◌+◌, ◌-◌, ◌<◌, ◌≤◌, ◌⊎◌, true, IsTrue, nat_eq, nat_lt, Some, None, List, [], ◌∷◌, ◌++◌, length, drop, slice_get, All, Contains, count_by, pos}
use Rattle.dfi_base.specs.Limits.{function_limit, type_limit, global_limit, frame_limit, least_branches, branch_limit, point_limit, definition_limit, node_limit, temporary_limit}
use Rattle.tac_ir.specs.declared.code.Code.{Code}
use Rattle.tac_ir.specs.declared.code.Shape.{Shape}
use Rattle.tac_ir.specs.declared.code.Global.{Global}
use Rattle.tac_ir.specs.declared.code.Site.{Site}
use Rattle.tac_ir.specs.declared.code.Fun.{Fun}
use Rattle.tac_ir.specs.declared.code.Lined.{Lined}
use Rattle.tac_ir.specs.declared.code.Instr.{Instr}
use Rattle.tac_ir.specs.Module.{is_chain}
use Rattle.tac_ir.specs.Layout.{shape_words, words_before, shapes_of_globals, frame_words, parts_of}
use Rattle.tac_ir.specs.Places.{IsPlace, IsLeafPlace, is_array}
use Rattle.tac_ir.specs.Numbers.{defs_made, reads_made, defs_in_code, IsCount}
use Rattle.tac_ir.specs.Counts.{points_in_code, nodes_in_code, temps_in_code}
use Rattle.tac_ir.specs.Regions.{Region, regions_in, IsInside, IsInnermost}

-- Shapes.

-- the shapes that a shape names
abbrev pub shapes_named : Shape → List ℕ
shapes_named Shape.Int = []
shapes_named Shape.Ptr = []
shapes_named (Shape.Array len item) = item ∷ []
shapes_named (Shape.Struct parts) = parts

-- the items of an array, or the parts of a struct
abbrev pub count_of : Shape → ℕ
count_of Shape.Int = 1
count_of Shape.Ptr = 1
count_of (Shape.Array len item) = len
count_of (Shape.Struct parts) = length parts

pub record IsGoodShape (c : Code) (s : ℕ) (shape : Shape) : Type 0 where
  pub earlier : All (λ named. named < s) (shapes_named shape)
  pub some : 1 ≤ count_of shape
  pub words : shape_words c s ≤ type_limit

pub record GoodShapes (c : Code) : Type 0 where
  pub each : (s : ℕ) (shape : Shape) → slice_get c.shapes s ≡ Some shape → IsGoodShape c s shape
  pub first : slice_get c.shapes 0 ≡ Some Shape.Int
  pub second : slice_get c.shapes 1 ≡ Some Shape.Ptr
  pub count : length c.shapes < 2147483648

-- Globals and heap sites.

pub record IsGoodGlobal (c : Code) (g : Global) : Type 0 where
  pub shape : g.shape < length c.shapes
  -- only an int has a value other than 0
  pub start : (g.start ≡ pos 0) ⊎ (slice_get c.shapes g.shape ≡ Some Shape.Int)

pub record GoodGlobals (c : Code) : Type 0 where
  pub each : All (IsGoodGlobal c) c.globals
  pub words : words_before c (shapes_of_globals c) (length c.globals) ≤ global_limit
  pub sites : All (λ (s : Site). s.shape < length c.shapes) c.sites

-- Functions.

pub record IsGoodFrame (c : Code) (f : ℕ) (fun : Fun) : Type 0 where
  pub vars : All (λ s. s < length c.shapes) fun.vars
  -- parameters are the first variables, and have shape 0 or 1
  pub params : fun.params ≤ length fun.vars
  pub params_are_basic : (v s : ℕ) → v < fun.params → slice_get fun.vars v ≡ Some s → s < 2
  pub words : frame_words c f ≤ frame_limit

abbrev pub params_of : Code → ℕ → ℕ
params_of c f = elim (slice_get c.funs f) [ None ↦ 0 | Some fun ↦ fun.params ]

pub record GoodFuns (c : Code) : Type 0 where
  pub some : 1 ≤ length c.funs
  pub count : length c.funs ≤ function_limit
  pub main : c.main < length c.funs
  pub main_params : params_of c c.main ≡ 0
  pub frames : (f : ℕ) (fun : Fun) → slice_get c.funs f ≡ Some fun → IsGoodFrame c f fun

-- Limits on what code alone counts; facts need the tables.

pub record IsWithinLimits (c : Code) : Type 0 where
  pub points : points_in_code c ≤ point_limit
  pub nodes : nodes_in_code c ≤ node_limit
  pub defs : defs_in_code c ≤ definition_limit
  pub temps : temps_in_code c ≤ temporary_limit

-- Definitions and reads count up in the order of the code, starting definitions first.
pub record IsNumbered (c : Code) : Type 0 where
  pub defs : IsCount (length c.globals + 1) (defs_made c)
  pub reads : IsCount 1 (reads_made c)

-- What an instruction names.

-- the indexes of jumps and tests, and those of forks: entries, and then the join
abbrev pub targets_of : Instr → List ℕ
targets_of (Instr.Jump target) = target ∷ []
targets_of (Instr.Test a at_other at_zero) = at_other ∷ at_zero ∷ []
targets_of i = []

abbrev pub fork_targets_of : Instr → List ℕ
fork_targets_of (Instr.Fork join entries) = entries ++ join ∷ []
fork_targets_of i = []

abbrev pub all_targets_of : Instr → List ℕ
all_targets_of i = targets_of i ++ fork_targets_of i

-- a call gives each parameter an argument, and does not call main
pub record IsGoodCall (c : Code) (f : ℕ) (args : List ℕ) : Type 0 where
  pub exists : f < length c.funs
  pub count : length args ≡ params_of c f
  pub not_main : f ≡ c.main → ⊥

-- the numbers of places, shapes, sites and functions exist, and are of the kind that the instruction of function f needs
abbrev pub NamesExist : Code → ℕ → Instr → Type 0
NamesExist c f (Instr.Addr to place) = IsPlace c f place
NamesExist c f (Instr.Field to a shape k) = k < length (parts_of c shape)
NamesExist c f (Instr.Decay to a shape) = is_array c shape ≡ true
NamesExist c f (Instr.Index to a b words) = 1 ≤ words
NamesExist c f (Instr.Get to place r) = IsLeafPlace c f place
NamesExist c f (Instr.Set place a d) = IsLeafPlace c f place
NamesExist c f (Instr.New to a site) = site < length c.sites
NamesExist c f (Instr.Call to g def args) = IsGoodCall c g args
-- a return has a read exactly outside main
NamesExist c f (Instr.Ret a (Some r)) = f ≡ c.main → ⊥
NamesExist c f (Instr.Ret a None) = f ≡ c.main
NamesExist c f i = Unit {0}

abbrev pub IsTurn : List Lined → ℕ → Type 0
IsTurn code at = (l : Lined) × (slice_get code at ≡ Some l) × (l.instr ≡ Instr.Turn)

abbrev pub IsEnd : List Lined → ℕ → Type 0
IsEnd code at = (l : Lined) × (slice_get code at ≡ Some l) × (l.instr ≡ Instr.End)

-- 2 to 15 branches start at a fork: the first behind it, each other behind an `end`, and so does the join behind them all.
pub record IsGoodFork (code : List Lined) (f join : ℕ) (entries : List ℕ) : Type 0 where
  pub some : least_branches ≤ length entries
  pub count : length entries ≤ branch_limit
  pub first : slice_get entries 0 ≡ Some (f + 1)
  pub ascends : IsTrue (is_chain nat_lt (entries ++ join ∷ []))
  pub ends : All (λ behind. IsEnd code (behind - 1)) (drop 1 entries ++ join ∷ [])

abbrev pub ForksWell : List Lined → ℕ → Instr → Type 0
ForksWell code f (Instr.Fork join entries) = IsGoodFork code f join entries
ForksWell code f i = Unit {0}

-- the instruction at this index of function f, among the others of its function
pub record IsGoodInstr (c : Code) (f : ℕ) (code : List Lined) (at : ℕ) (i : Instr) : Type 0 where
  pub names : NamesExist c f i
  pub targets : All (λ t. t < length code) (all_targets_of i)
  -- whoever goes back goes to the head of a loop
  pub onward : All (λ t. (at < t) ⊎ IsTurn code t) (all_targets_of i)
  pub fork : ForksWell code at i

-- the last instruction of a function
abbrev pub IsLastKind : Instr → Type 0
IsLastKind (Instr.Ret a r) = Unit {0}
IsLastKind (Instr.Jump target) = Unit {0}
IsLastKind Instr.End = Unit {0}
IsLastKind i = ⊥

-- The branches of forks.

abbrev pub IsRet : Instr → Type 0
IsRet (Instr.Ret a r) = Unit {0}
IsRet i = ⊥

-- how many regions end at this index
abbrev pub regions_ending : List Lined → ℕ → ℕ
regions_ending code at = count_by (λ (r : Region). nat_eq r.last at) (regions_in code)

pub record GoodRegions (code : List Lined) : Type 0 where
  -- each `end` is that of one region
  pub ends : (at : ℕ) → IsEnd code at → regions_ending code at ≡ 1
  -- jumps and tests stay in their innermost region
  pub stays : (at : ℕ) (l : Lined) (r : Region) → slice_get code at ≡ Some l → IsInnermost code r at → All (IsInside r) (targets_of l.instr)
  -- no index within a region is named from outside, but for its entry by its own fork
  pub closed : (at : ℕ) (l : Lined) (r : Region) → slice_get code at ≡ Some l → Contains (regions_in code) r → (IsInside r at → ⊥)
      → All (λ t. IsInside r t → (t ≡ r.entry) × (at ≡ r.fork)) (all_targets_of l.instr)
  -- no region has a return
  pub no_return : (at : ℕ) (l : Lined) (r : Region) → slice_get code at ≡ Some l → Contains (regions_in code) r → IsInside r at → IsRet l.instr → ⊥

pub record IsGoodCode (c : Code) (f : ℕ) (code : List Lined) : Type 0 where
  pub instrs : (at : ℕ) (l : Lined) → slice_get code at ≡ Some l → IsGoodInstr c f code at l.instr
  pub last : (l : Lined) × (slice_get code (length code - 1) ≡ Some l) × IsLastKind l.instr
  pub regions : GoodRegions code

pub record GoodForm (c : Code) : Type 0 where
  pub shapes : GoodShapes c
  pub globals : GoodGlobals c
  pub funs : GoodFuns c
  pub limits : IsWithinLimits c
  pub numbers : IsNumbered c
  pub code : (f : ℕ) (fun : Fun) → slice_get c.funs f ≡ Some fun → IsGoodCode c f fun.code
