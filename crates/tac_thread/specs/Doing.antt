-- What a thread does next.
use Rattle.std.specs.Prelude.{ℕ, ◌+◌, ◌<◌, Bool, true, false, Option, Some, None, length}
use Rattle.tac_ir.specs.declared.code.Code.{Code}
use Rattle.tac_ir.specs.declared.code.BinOp.{BinOp}
use Rattle.tac_ir.specs.declared.code.Instr.{Instr}
use Rattle.tac_thread.specs.declared.guest.Activation.{Activation}
use Rattle.tac_thread.specs.declared.guest.Stage.{Stage}
use Rattle.tac_thread.specs.declared.want.Want.{Want}
use Rattle.tac_thread.specs.declared.doing.Doing.{Doing}
use Rattle.tac_thread.specs.Meaning.{Meaning, divides_by_zero}
use Rattle.tac_thread.specs.Life.{Life, instr_of, temp, with_temp, at_index, with_top}

-- a value where the domain has one
abbrev pub given : {V : Type 0} → ℕ → Option V → Doing V
given to None = Doing.Asks Want.Bad
given to (Some v) = Doing.Gives to v

-- an operator's value, but a division by 0 asks
abbrev pub divided : {V S : Type 0} → Meaning V S → ℕ → BinOp → V → V → Doing V
divided m to op x y = elim (divides_by_zero m op y) [ true ↦ Doing.Asks Want.Zero | false ↦ given to (m.bin op x y) ]

abbrev pub tested : {V : Type 0} → ℕ → ℕ → Option Bool → Doing V
tested _ _ None = Doing.Asks Want.Bad
tested at_other _ (Some true) = Doing.Goes at_other
tested _ at_zero (Some false) = Doing.Goes at_zero

-- a return reads the link of its frame first, where there is one
abbrev pub leaves : {V : Type 0} → ℕ → Option ℕ → Doing V
leaves r None = Doing.Asks Want.Ret
leaves r (Some word) = Doing.Asks (Want.Pop (record { 0 = r }) word)

-- what an instruction does, of which nothing is done yet
abbrev pub doing : {V S : Type 0} → Meaning V S → Code → Activation V S → Instr → Doing V
doing m c a (Instr.Const to k) = Doing.Gives to (m.int k)
doing m c a (Instr.Null to) = Doing.Gives to m.null
doing m c a (Instr.Un to op x) = given to (m.un op (temp m a x))
doing m c a (Instr.Bin to op x y) = divided m to op (temp m a x) (temp m a y)
doing m c a (Instr.Addr to place) = Doing.Gives to (m.place c a.fun a.stack place)
doing m c a (Instr.Field to x shape k) = given to (m.field c (temp m a x) shape k)
doing m c a (Instr.Decay to x shape) = given to (m.decay c (temp m a x) shape)
doing m c a (Instr.Index to x y words) = given to (m.index (temp m a x) (temp m a y) words)
doing m c a (Instr.Get to place r) = Doing.Asks (Want.Read (record { 0 = r }) (m.place c a.fun a.stack place))
doing m c a (Instr.Load to x r) = Doing.Asks (Want.Read (record { 0 = r }) (temp m a x))
doing m c a (Instr.Set place x d) = Doing.Asks (Want.Write (record { 0 = d }) (m.place c a.fun a.stack place) (temp m a x))
doing m c a (Instr.Store x y d) = Doing.Asks (Want.Write (record { 0 = d }) (temp m a x) (temp m a y))
doing m c a (Instr.Same to ne x y) = Doing.Asks (Want.Same (temp m a x) (temp m a y) ne)
doing m c a (Instr.New to x site) = Doing.Asks (Want.New site (temp m a x))
doing m c a (Instr.Free x) = Doing.Asks (Want.Free (temp m a x))
doing m c a (Instr.In to) = Doing.Asks Want.In
doing m c a (Instr.Left to) = Doing.Asks Want.Left
doing m c a (Instr.Out x) = Doing.Asks (Want.Out (temp m a x))
doing m c a (Instr.Call to f def args) = Doing.Asks (Want.Call f)
doing m c a (Instr.Ret x (Some r)) = leaves r (m.link a.stack)
doing m c a (Instr.Ret x None) = Doing.Asks (Want.Ended (Some (temp m a x)))
doing m c a (Instr.Jump target) = Doing.Goes target
doing m c a (Instr.Test x at_other at_zero) = tested at_other at_zero (m.truth (temp m a x))
doing m c a Instr.Turn = Doing.Asks Want.Turn
doing m c a (Instr.Fork join entries) = Doing.Asks (Want.Fork (length entries))
doing m c a Instr.End = Doing.Asks (Want.Ended None)

-- an activation goes on behind an index of its function
abbrev pub IsWithin : {V : Type 0} → ℕ → Doing V → Type 0
IsWithin at (Doing.Gives to v) = at < 16384
IsWithin at doing = Unit {0}

-- What it asks for.

abbrev pub asked : {V : Type 0} → Doing V → Option (Want V)
asked (Doing.Gives to v) = None
asked (Doing.Goes at) = None
asked (Doing.Asks w) = Some w

-- after a call the definition of its instruction writes the link of the new frame
abbrev pub link_write : {V : Type 0} → Instr → Option ℕ → Option (Want V)
link_write (Instr.Call to f def args) (Some word) = Some (Want.Push (record { 0 = def }) word)
link_write i link = None

-- by what is done of the instruction of an activation
abbrev pub want_at : {V S : Type 0} → Meaning V S → Code → Activation V S → Stage V S → Option (Want V)
want_at m c a Stage.Ready = asked (doing m c a (instr_of c a))
want_at m c a (Stage.Entering callee) = link_write (instr_of c a) (m.link callee.stack)
want_at m c a (Stage.Leaving link) = Some Want.Ret
want_at m c a Stage.Waiting = Some Want.Waits

-- the next event of a thread that rests
abbrev pub want_of : {V S : Type 0} → Meaning V S → Code → Life V S → Option (Want V)
want_of m c l = want_at m c l.top l.stage

-- What it does without asking.

abbrev pub done : {V S : Type 0} → Life V S → Doing V → Option (Life V S)
done l (Doing.Gives to v) = Some (with_top l (at_index (with_temp l.top to v) (l.top.at + 1)))
done l (Doing.Goes at) = Some (with_top l (at_index l.top at))
done l (Doing.Asks w) = None

abbrev pub silent_at : {V S : Type 0} → Meaning V S → Code → Life V S → Stage V S → Option (Life V S)
silent_at m c l Stage.Ready = done l (doing m c l.top (instr_of c l.top))
silent_at m c l stage = None

-- the thread after a silent instruction, where it stands at one
abbrev pub silent_next : {V S : Type 0} → Meaning V S → Code → Life V S → Option (Life V S)
silent_next m c l = silent_at m c l l.stage

-- what a step made of the thread, and that there was none
abbrev pub stepped : {V S : Type 0} → Bool → Life V S → Option (Life V S)
stepped true l = Some l
stepped false l = None
