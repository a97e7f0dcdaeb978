-- What one step of an instruction does, once for all: what it asks, what it reads and writes, where it leads.
use Rattle.std.specs.Prelude.{ℕ, suc, ◌+◌, ◌*◌, Bool, true, false, ◌&&◌, nat_eq, nat_lt, if◌then◌else◌, Option, Some, None, List, [], ◌∷◌, length, slice_index}
use Rattle.dfi_base.specs.declared.numbers.Point.{Point}
use Rattle.tac_ir.specs.declared.code.Code.{Code}
use Rattle.tac_ir.specs.declared.code.BinOp.{BinOp}
use Rattle.tac_ir.specs.declared.code.Instr.{Instr}
use Rattle.tac_ir.specs.declared.run.Op.{Op}
use Rattle.tac_ir.specs.declared.run.Answer.{Answer}
use Rattle.tac_ir.specs.Words.{word_of, int_of, wrap, un_of, bin_of}
use Rattle.tac_ir.specs.Layout.{words_before, parts_of, place_word, instr_at}

-- Where a step stands. A call and a return outside main are two steps at their point: the call and the write of the
-- return link; the read of the link and the return.
pub record Spot : Type 0 where
  -- the activation, numbered by the calls of this life before it
  pub act : ℕ
  pub point : Point
  -- whether it is the second step of its point
  pub second : Bool

-- what a step sees of the life so far, but for the temporaries
pub record Here : Type 0 where
  pub spot : Spot
  -- the first word of the frame in which it runs
  pub base : ℕ
  -- the newest activation of this life, and the first word of its frame
  pub newest : ℕ
  pub newest_base : ℕ
  -- for the second step of a return: the call after which it goes on
  pub back : Option Spot

-- Temporaries, as functions from their numbers, are those of the step's own activation.
pub record Effect : Type 0 where
  -- the temporaries that the step reads
  pub uses : List ℕ
  -- the event that it asks for, by the temporaries
  pub event : (ℕ → ℕ) → Option Op
  -- by the temporaries and the answer of its event, the value that it writes to a temporary of an activation
  pub wrote : (ℕ → ℕ) → Answer → ℕ → ℕ → Option ℕ
  -- where the next step stands
  pub next : (ℕ → ℕ) → Spot

abbrev pub spot_at : Spot → ℕ → Spot
spot_at spot at = record { act = spot.act; point = record { fun = spot.point.fun; at = at }; second = false }

-- the instruction after this one
abbrev pub after : Spot → Spot
after spot = spot_at spot (spot.point.at + 1)

-- the second step of the same point
abbrev pub again : Spot → Spot
again spot = record { act = spot.act; point = spot.point; second = true }

abbrev pub value_of : Answer → ℕ
value_of (Answer.Value v) = v
value_of answer = 0

abbrev pub writes_nothing : (ℕ → ℕ) → Answer → ℕ → ℕ → Option ℕ
writes_nothing val answer a t = None

-- a step without an event, which writes this to a temporary of its own
abbrev pub quiet : Here → List ℕ → ℕ → ((ℕ → ℕ) → ℕ) → Effect
quiet here uses to value = record {
  uses = uses;
  event = λ val. None;
  wrote = λ val answer a t. elim (nat_eq a here.spot.act && nat_eq t to) [ true ↦ Some (value val) | false ↦ None ];
  next = λ val. after here.spot;
}

-- a step that asks, and writes the answer's value to a temporary of its own
abbrev pub asks_for : Here → List ℕ → ℕ → ((ℕ → ℕ) → Option Op) → Effect
asks_for here uses to event = record {
  uses = uses;
  event = event;
  wrote = λ val answer a t. elim (nat_eq a here.spot.act && nat_eq t to) [ true ↦ Some (value_of answer) | false ↦ None ];
  next = λ val. after here.spot;
}

-- a step that asks, and writes no temporary
abbrev pub tells : Here → List ℕ → ((ℕ → ℕ) → Option Op) → Effect
tells here uses event = record { uses = uses; event = event; wrote = writes_nothing; next = λ val. after here.spot }

-- a step that goes elsewhere, and does nothing else
abbrev pub goes : List ℕ → ((ℕ → ℕ) → Spot) → Effect
goes uses next = record { uses = uses; event = λ val. None; wrote = writes_nothing; next = next }

-- a division asks where its divisor is 0, and never goes on from there
abbrev pub divides : BinOp → Bool
divides BinOp.Quo = true
divides BinOp.Rem = true
divides op = false

abbrev pub zero_divisor : BinOp → ℕ → Option Op
zero_divisor op b = if (divides op && nat_eq b 0) then Some Op.Zero else None

-- the first step of a call gives the new activation its arguments
abbrev pub calls : Here → ℕ → List ℕ → Effect
calls here f args = record {
  uses = args;
  event = λ val. Some (Op.Call f);
  wrote = λ val answer a t. elim (nat_eq a (suc here.newest) && nat_lt t (length args)) [ true ↦ Some (val (slice_index args t)) | false ↦ None ];
  next = λ val. again here.spot;
}

-- the second writes the call's definition into the link word of the new frame
abbrev pub writes_link : Here → ℕ → ℕ → Effect
writes_link here f def = record {
  uses = [];
  event = λ val. Some (Op.Write (record { 0 = def }) here.newest_base def);
  wrote = writes_nothing;
  next = λ val. record { act = here.newest; point = record { fun = f; at = 0 }; second = false };
}

-- the first step of a return reads the link word of the frame
abbrev pub reads_link : Here → ℕ → Effect
reads_link here r = record {
  uses = [];
  event = λ val. Some (Op.Read (record { 0 = r }) here.base);
  wrote = writes_nothing;
  next = λ val. again here.spot;
}

abbrev pub target_of_call : Instr → Option ℕ
target_of_call (Instr.Call to f def args) = Some to
target_of_call i = None

abbrev pub is_target : Code → Option Spot → ℕ → ℕ → Bool
is_target c None a t = false
is_target c (Some back) a t = nat_eq a back.act && elim (target_of_call (instr_at c back.point)) [ None ↦ false | Some to ↦ nat_eq t to ]

-- the second gives its value to the temporary of the call after which it goes on
abbrev pub returns : Code → Here → ℕ → Effect
returns c here v = record {
  uses = v ∷ [];
  event = λ val. Some Op.Ret;
  wrote = λ val answer a t. elim (is_target c here.back a t) [ true ↦ Some (val v) | false ↦ None ];
  next = λ val. elim here.back [ None ↦ here.spot | Some back ↦ after back ];
}

abbrev pub effect_of : Code → Here → Instr → Effect
effect_of c here (Instr.Const to k) = quiet here [] to (λ val. word_of k)
effect_of c here (Instr.Null to) = quiet here [] to (λ val. 0)
effect_of c here (Instr.Un to op a) = quiet here (a ∷ []) to (λ val. un_of op (val a))
effect_of c here (Instr.Bin to op a b) = record (quiet here (a ∷ b ∷ []) to (λ val. bin_of op (val a) (val b))) { event = λ val. zero_divisor op (val b) }
effect_of c here (Instr.Addr to place) = quiet here [] to (λ val. place_word c here.spot.point.fun here.base place)
effect_of c here (Instr.Field to a shape k) = quiet here (a ∷ []) to (λ val. wrap (val a + words_before c (parts_of c shape) k))
effect_of c here (Instr.Decay to a shape) = quiet here (a ∷ []) to (λ val. val a)
effect_of c here (Instr.Index to a b words) = quiet here (a ∷ b ∷ []) to (λ val. wrap (val a + val b * words))
effect_of c here (Instr.Get to place r) = asks_for here [] to (λ val. Some (Op.Read (record { 0 = r }) (place_word c here.spot.point.fun here.base place)))
effect_of c here (Instr.Load to a r) = asks_for here (a ∷ []) to (λ val. Some (Op.Read (record { 0 = r }) (val a)))
effect_of c here (Instr.Set place a d) = tells here (a ∷ []) (λ val. Some (Op.Write (record { 0 = d }) (place_word c here.spot.point.fun here.base place) (val a)))
effect_of c here (Instr.Store a b d) = tells here (a ∷ b ∷ []) (λ val. Some (Op.Write (record { 0 = d }) (val a) (val b)))
effect_of c here (Instr.Same to ne a b) = asks_for here (a ∷ b ∷ []) to (λ val. Some (Op.Same (val a) (val b) ne))
effect_of c here (Instr.New to a site) = asks_for here (a ∷ []) to (λ val. Some (Op.New site (int_of (val a))))
effect_of c here (Instr.Free a) = tells here (a ∷ []) (λ val. Some (Op.Free (val a)))
effect_of c here (Instr.In to) = asks_for here [] to (λ val. Some Op.In)
effect_of c here (Instr.Left to) = asks_for here [] to (λ val. Some Op.Left)
effect_of c here (Instr.Out a) = tells here (a ∷ []) (λ val. Some (Op.Out (int_of (val a))))
effect_of c here (Instr.Call to f def args) = elim here.spot.second [ false ↦ calls here f args | true ↦ writes_link here f def ]
effect_of c here (Instr.Ret v (Some r)) = elim here.spot.second [ false ↦ reads_link here r | true ↦ returns c here v ]
effect_of c here (Instr.Ret v None) = goes (v ∷ []) (λ val. here.spot)
effect_of c here (Instr.Jump target) = goes [] (λ val. spot_at here.spot target)
effect_of c here (Instr.Test a at_other at_zero) = goes (a ∷ []) (λ val. spot_at here.spot (elim (nat_eq (val a) 0) [ true ↦ at_zero | false ↦ at_other ]))
effect_of c here Instr.Turn = tells here [] (λ val. Some Op.Turn)
effect_of c here (Instr.Fork join entries) = record (tells here [] (λ val. Some (Op.Fork (length entries)))) { next = λ val. spot_at here.spot join }
effect_of c here Instr.End = goes [] (λ val. here.spot)

-- a life ends before an End, and thread 1 before the return of main, which has no link
abbrev pub is_last : Instr → Bool
is_last Instr.End = true
is_last (Instr.Ret v None) = true
is_last i = false
