-- Straight lines: the code of one function without jumps, calls, threads and blocks, in which each access is to a global that the
-- code itself names. The instructions before a place are kept newest first.
use Rattle.std.specs.Prelude.{ℕ, Bool, true, false, ◌&&◌, nat_eq, List, [], ◌∷◌, Option, Some, None, is_some}
use Rattle.tac_ir.specs.declared.code.Fun.{Fun}
use Rattle.tac_ir.specs.declared.code.Instr.{Instr}
use Rattle.tac_ir.specs.declared.code.Lined.{Lined}
use Rattle.tac_ir.specs.declared.code.Place.{Place}

-- the global that a place is, where it is one as a whole
abbrev pub global_at : Place → Option ℕ
global_at (Place.Global g []) = Some g
global_at place = None

-- The global into which a pointer in a temporary leads: its address, the first item of it, or an item that is some way on.
abbrev pub behind_by : Instr → (ℕ → Option ℕ) → ℕ → Option ℕ
behind_by (Instr.Addr to place) before t = elim (nat_eq to t) [ true ↦ global_at place | false ↦ before t ]
behind_by (Instr.Decay to a shape) before t = elim (nat_eq to t) [ true ↦ before a | false ↦ before t ]
behind_by (Instr.Index to a b words) before t = elim (nat_eq to t) [ true ↦ before a | false ↦ before t ]
behind_by (Instr.Const to k) before t = elim (nat_eq to t) [ true ↦ None | false ↦ before t ]
behind_by (Instr.Null to) before t = elim (nat_eq to t) [ true ↦ None | false ↦ before t ]
behind_by (Instr.Un to op a) before t = elim (nat_eq to t) [ true ↦ None | false ↦ before t ]
behind_by (Instr.Bin to op a b) before t = elim (nat_eq to t) [ true ↦ None | false ↦ before t ]
behind_by (Instr.Get to place r) before t = elim (nat_eq to t) [ true ↦ None | false ↦ before t ]
behind_by (Instr.Load to a r) before t = elim (nat_eq to t) [ true ↦ None | false ↦ before t ]
behind_by i before t = before t

abbrev pub global_behind : List Lined → ℕ → Option ℕ
global_behind [] t = None
global_behind (l ∷ earlier) t = behind_by l.instr (global_behind earlier) t

-- an instruction that may stand in a straight line
abbrev pub is_plain : List Lined → Instr → Bool
is_plain earlier (Instr.Const to k) = true
is_plain earlier (Instr.Null to) = true
is_plain earlier (Instr.Un to op a) = true
is_plain earlier (Instr.Bin to op a b) = true
is_plain earlier (Instr.Addr to place) = is_some (global_at place)
is_plain earlier (Instr.Decay to a shape) = is_some (global_behind earlier a)
is_plain earlier (Instr.Index to a b words) = is_some (global_behind earlier a)
is_plain earlier (Instr.Get to place r) = is_some (global_at place)
is_plain earlier (Instr.Set place a d) = is_some (global_at place)
is_plain earlier (Instr.Load to a r) = is_some (global_behind earlier a)
is_plain earlier (Instr.Store a b d) = is_some (global_behind earlier a)
is_plain earlier (Instr.Out a) = true
is_plain earlier (Instr.Ret a r) = true
is_plain earlier i = false

abbrev pub is_straight_behind : List Lined → List Lined → Bool
is_straight_behind earlier [] = true
is_straight_behind earlier (l ∷ rest) = is_plain earlier l.instr && is_straight_behind (l ∷ earlier) rest

-- an instruction that takes the first item of the array to which this temporary points
abbrev pub takes_items : ℕ → List Lined → Bool
takes_items t [] = false
takes_items t (l ∷ rest) = elim l.instr [ Instr.Decay to a shape ↦ nat_eq a t | _ ↦ false ]

abbrev pub is_followed : Instr → List Lined → Bool
is_followed (Instr.Addr to place) rest = takes_items to rest
is_followed i rest = true

-- The address of a global is only taken to come to its items, so no pointer leads to a lone variable.
abbrev pub leads_to_items : List Lined → Bool
leads_to_items [] = true
leads_to_items (l ∷ rest) = is_followed l.instr rest && leads_to_items rest

abbrev pub is_straight : List Fun → Bool
is_straight (f ∷ []) = leads_to_items f.code && is_straight_behind [] f.code
is_straight funs = false
