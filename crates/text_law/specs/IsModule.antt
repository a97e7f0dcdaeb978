-- The modules that have a text: every number is of 32 bits, and there are as many of each kind as 32 bits count.
use Rattle.std.specs.Prelude.{◌≤◌, ℕ, false, List, [], ◌∷◌, length, Option, Some, None}
use Rattle.tac_ir.specs.declared.code.Code.{Code}
use Rattle.tac_ir.specs.declared.code.Shape.{Shape}
use Rattle.tac_ir.specs.declared.code.Global.{Global}
use Rattle.tac_ir.specs.declared.code.Site.{Site}
use Rattle.tac_ir.specs.declared.code.Fun.{Fun}
use Rattle.tac_ir.specs.declared.code.Lined.{Lined}
use Rattle.tac_ir.specs.declared.code.Place.{Place}
use Rattle.tac_ir.specs.declared.code.Instr.{Instr}
use Rattle.tac_ir.specs.declared.module.Key.{Key}
use Rattle.tac_ir.specs.declared.module.PointsRow.{PointsRow}
use Rattle.tac_ir.specs.declared.module.ReachRow.{ReachRow}
use Rattle.tac_ir.specs.Module.{Module, IsOrdered}
use Rattle.line_format.specs.Lines.{greatest, IsInt, Fit}

abbrev pub Is32Bits : ℕ → Type 0
Is32Bits n = n ≤ greatest

-- each is of 32 bits, in any order
abbrev pub Are32Bits : List ℕ → Type 0
Are32Bits = Fit false 0

abbrev pub IsPlace : Place → Type 0
IsPlace (Place.Global var path) = Is32Bits var × Are32Bits path
IsPlace (Place.Local var path) = Is32Bits var × Are32Bits path

abbrev pub IsSome : Option ℕ → Type 0
IsSome None = Unit {0}
IsSome (Some n) = Is32Bits n

abbrev pub IsInstr : Instr → Type 0
IsInstr (Instr.Const to k) = Is32Bits to × IsInt k
IsInstr (Instr.Null to) = Is32Bits to
IsInstr (Instr.Un to op a) = Is32Bits to × Is32Bits a
IsInstr (Instr.Bin to op a b) = Is32Bits to × (Is32Bits a × Is32Bits b)
IsInstr (Instr.Addr to p) = Is32Bits to × IsPlace p
IsInstr (Instr.Field to a shape k) = Is32Bits to × (Is32Bits a × (Is32Bits shape × Is32Bits k))
IsInstr (Instr.Decay to a shape) = Is32Bits to × (Is32Bits a × Is32Bits shape)
IsInstr (Instr.Index to a b words) = Is32Bits to × (Is32Bits a × (Is32Bits b × Is32Bits words))
IsInstr (Instr.Get to p read) = Is32Bits to × (IsPlace p × Is32Bits read)
IsInstr (Instr.Load to a read) = Is32Bits to × (Is32Bits a × Is32Bits read)
IsInstr (Instr.Set p a def) = IsPlace p × (Is32Bits a × Is32Bits def)
IsInstr (Instr.Store a b def) = Is32Bits a × (Is32Bits b × Is32Bits def)
IsInstr (Instr.Same to ne a b) = Is32Bits to × (Is32Bits a × Is32Bits b)
IsInstr (Instr.New to a site) = Is32Bits to × (Is32Bits a × Is32Bits site)
IsInstr (Instr.Free a) = Is32Bits a
IsInstr (Instr.In to) = Is32Bits to
IsInstr (Instr.Left to) = Is32Bits to
IsInstr (Instr.Out a) = Is32Bits a
IsInstr (Instr.Call to fun def args) = Is32Bits to × (Is32Bits fun × (Is32Bits def × Are32Bits args))
IsInstr (Instr.Ret a read) = Is32Bits a × IsSome read
IsInstr (Instr.Jump target) = Is32Bits target
IsInstr (Instr.Test a if_so if_not) = Is32Bits a × (Is32Bits if_so × Is32Bits if_not)
IsInstr Instr.Turn = Unit {0}
IsInstr (Instr.Fork join entries) = Is32Bits join × Are32Bits entries
IsInstr Instr.End = Unit {0}

abbrev pub IsLined : Lined → Type 0
IsLined i = Is32Bits i.line × IsInstr i.instr

abbrev pub IsShape : Shape → Type 0
IsShape Shape.Int = Unit {0}
IsShape Shape.Ptr = Unit {0}
IsShape (Shape.Array len item) = Is32Bits len × Is32Bits item
IsShape (Shape.Struct parts) = Are32Bits parts

abbrev pub IsGlobal : Global → Type 0
IsGlobal g = Is32Bits g.shape × (IsInt g.start × Is32Bits g.line)

abbrev pub IsSite : Site → Type 0
IsSite s = Is32Bits s.shape × Is32Bits s.line

-- each of them is so
abbrev pub Each : {A : Type 0} → (A → Type 0) → List A → Type 0
Each P [] = Unit {0}
Each P (x ∷ xs) = P x × Each P xs

-- they are so, and their number is of 32 bits
abbrev pub Counted : {A : Type 0} → (A → Type 0) → List A → Type 0
Counted P xs = Is32Bits (length xs) × Each P xs

pub record IsFun (f : Fun) : Type 0 where
  pub params : Is32Bits f.params
  pub line : Is32Bits f.line
  pub vars : Counted Is32Bits f.vars
  pub code : Counted IsLined f.code

pub record IsCode (c : Code) : Type 0 where
  pub shapes : Counted IsShape c.shapes
  pub globals : Counted IsGlobal c.globals
  pub sites : Counted IsSite c.sites
  pub main : Is32Bits c.main
  pub funs : Counted IsFun c.funs

abbrev pub IsKey : Key → Type 0
IsKey (Key.Temp fun t) = Is32Bits fun × Is32Bits t
IsKey (Key.Node n) = Is32Bits n

abbrev pub IsPointsRow : PointsRow → Type 0
IsPointsRow r = IsKey r.key × Are32Bits r.nodes

abbrev pub IsReachRow : ReachRow → Type 0
IsReachRow r = (Is32Bits r.point.fun × Is32Bits r.point.at) × Are32Bits r.facts

-- every number is of 32 bits, and members and rows stand in order
pub record IsModule (m : Module) : Type 0 where
  pub code : IsCode m.code
  pub classes : Counted Is32Bits m.classes
  pub sets : Counted Are32Bits m.sets
  pub points : Counted IsPointsRow m.points
  pub reach : Counted IsReachRow m.reach
  pub ordered : IsOrdered m.sets m.removed m.points m.reach
