-- Pieces of one instruction are steady.
use Rattle.std.proofs.Common.{ℕ, suc, ℤ, ◌+◌, ◌≤◌, max, Bool, pos, List, Some, None, refl, arith}
use Rattle.c_typed.specs.declared.types.ObjectType.{ObjectType}
use Rattle.tac_ir.specs.declared.code.Instr.{Instr}
use Rattle.tac_ir.specs.declared.code.BinOp.{BinOp}
use Rattle.tac_ir.specs.declared.code.UnOp.{UnOp}
use Rattle.tac_ir.specs.declared.code.Place.{Place}
use Rattle.tac_lower.specs.declared.draft.Ends.{Ends}
use Rattle.tac_lower.specs.Instrs.{draft, draft_of, no_number, a_temp, a_def, a_temp_and_def, a_read, a_temp_and_read, fresh, quiet, constant, null, prefixed, computed, address, field, decay, index, get, load, set, store, same, new, call, last_return, linked_return, jump, test, test_past, skip, zero_again}
use Rattle.tac_lower.specs.Stmts.{leaving}
use Rattle.tac_lower.proofs.form.Runs.{past_up, UpTo, up_more, Steps, steps_one, steps_next, steady_given}

pub constant_steps : (m line : ℕ) (k : ℤ) → Steps m (constant line k)
constant_steps m line k = steps_one m a_temp (λ n. draft line (Instr.Const n.temp k)) (λ n h. omega arith)

pub null_steps : (m line : ℕ) → Steps m (null line)
null_steps m line = steps_one m a_temp (λ n. draft line (Instr.Null n.temp)) (λ n h. omega arith)

pub prefixed_steps : (m line : ℕ) (op : UnOp) (a : ℕ) → a ≤ m → Steps m (prefixed line op a)
prefixed_steps m line op a is = steps_one m a_temp (λ n. draft line (Instr.Un n.temp op a)) (λ n h. omega arith)

pub computed_steps : (m line : ℕ) (op : BinOp) (a b : ℕ) → a ≤ m → b ≤ m → Steps m (computed line op a b)
computed_steps m line op a b is that = steps_one m a_temp (λ n. draft line (Instr.Bin n.temp op a b)) (λ n h. omega arith)

pub address_steps : (m line : ℕ) (p : Place) → Steps m (address line p)
address_steps m line p = steps_one m a_temp (λ n. draft line (Instr.Addr n.temp p)) (λ n h. omega arith)

pub field_steps : (m line : ℕ) (t : ObjectType) (k a : ℕ) → a ≤ m → Steps m (field line t k a)
field_steps m line t k a is = steps_one m a_temp (λ n. draft_of line (Instr.Field n.temp a 0 k) t) (λ n h. omega arith)

pub decay_steps : (m line : ℕ) (t : ObjectType) (a : ℕ) → a ≤ m → Steps m (decay line t a)
decay_steps m line t a is = steps_one m a_temp (λ n. draft_of line (Instr.Decay n.temp a 0) t) (λ n h. omega arith)

pub index_steps : (m line words a b : ℕ) → a ≤ m → b ≤ m → Steps m (index line words a b)
index_steps m line words a b is that = steps_one m a_temp (λ n. draft line (Instr.Index n.temp a b words)) (λ n h. omega arith)

pub get_steps : (m line : ℕ) (p : Place) → Steps m (get line p)
get_steps m line p = steps_one m a_temp_and_read (λ n. draft line (Instr.Get n.temp p n.read)) (λ n h. omega arith)

pub load_steps : (m line a : ℕ) → a ≤ m → Steps m (load line a)
load_steps m line a is = steps_one m a_temp_and_read (λ n. draft line (Instr.Load n.temp a n.read)) (λ n h. omega arith)

pub set_steps : (m line : ℕ) (p : Place) (a : ℕ) → a ≤ m → Steps m (set line p a)
set_steps m line p a is = steps_one m a_def (λ n. draft line (Instr.Set p a n.def)) (λ n h. omega arith)

pub store_steps : (m line a b : ℕ) → a ≤ m → b ≤ m → Steps m (store line a b)
store_steps m line a b is that = steps_one m a_def (λ n. draft line (Instr.Store a b n.def)) (λ n h. omega arith)

pub same_steps : (m line : ℕ) (ne : Bool) (a b : ℕ) → a ≤ m → b ≤ m → Steps m (same line ne a b)
same_steps m line ne a b is that = steps_one m a_temp (λ n. draft line (Instr.Same n.temp ne a b)) (λ n h. omega arith)

pub new_steps : (m line site : ℕ) (t : ObjectType) (a : ℕ) → a ≤ m → Steps m (new line site t a)
new_steps m line site t a is = steps_one m a_temp (λ n. draft_of line (Instr.New n.temp a site) t) (λ n h. omega arith)

pub call_steps : (m line f : ℕ) (args : List ℕ) → UpTo m args → Steps m (call line f args)
call_steps m line f args is = steps_one m a_temp_and_def (λ n. draft line (Instr.Call n.temp f n.def args)) (λ n h. record {
  at = refl;
  up = omega arith;
  most = omega arith;
  temps = (omega arith, up_more m (n.temp + 1) args (omega arith) is);
  reach = (let up = past_up (max n.temp (suc n.temp)) args in omega arith);
  def = (refl, refl);
  read = refl;
})

pub last_return_steps : (m line a : ℕ) → a ≤ m → Steps m (last_return line a)
last_return_steps m line a is = steps_one m no_number (λ n. draft line (Instr.Ret a None)) (λ n h. omega arith)

pub linked_return_steps : (m line a : ℕ) → a ≤ m → Steps m (linked_return line a)
linked_return_steps m line a is = steps_one m a_read (λ n. draft line (Instr.Ret a (Some n.read))) (λ n h. omega arith)

pub jump_steps : (m line target : ℕ) → Steps m (jump line target)
jump_steps m line target = steps_one m no_number (λ n. draft line (Instr.Jump target)) (λ n h. omega arith)

pub test_steps : (m line a past : ℕ) → a ≤ m → Steps m (test line a past)
test_steps m line a past is = steps_one m no_number (λ n. draft line (Instr.Test a (n.at + 1) (n.at + 1 + past))) (λ n h. omega arith)

pub test_past_steps : (m line a past : ℕ) → a ≤ m → Steps m (test_past line a past)
test_past_steps m line a past is = steps_one m no_number (λ n. draft line (Instr.Test a (n.at + 1 + past) (n.at + 1))) (λ n h. omega arith)

pub skip_steps : (m line past : ℕ) → Steps m (skip line past)
skip_steps m line past = steps_one m no_number (λ n. draft line (Instr.Jump (n.at + 1 + past))) (λ n h. omega arith)

pub zero_again_steps : (m line t : ℕ) → t ≤ m → Steps m (zero_again line t)
zero_again_steps m line t is =
    steps_next m (quiet line (λ at. Instr.Const t (pos 0))) _ (steps_one m no_number (λ n. draft line (Instr.Const t (pos 0))) (λ n h. omega arith)) (steady_given m t (λ k h. omega arith))

pub in_steps : (m line : ℕ) → Steps m (fresh line (λ t. Instr.In t))
in_steps m line = steps_one m a_temp (λ n. draft line (Instr.In n.temp)) (λ n h. omega arith)

pub left_steps : (m line : ℕ) → Steps m (fresh line (λ t. Instr.Left t))
left_steps m line = steps_one m a_temp (λ n. draft line (Instr.Left n.temp)) (λ n h. omega arith)

pub out_steps : (m line a : ℕ) → a ≤ m → Steps m (quiet line (λ at. Instr.Out a))
out_steps m line a is = steps_one m no_number (λ n. draft line (Instr.Out a)) (λ n h. omega arith)

pub free_steps : (m line a : ℕ) → a ≤ m → Steps m (quiet line (λ at. Instr.Free a))
free_steps m line a is = steps_one m no_number (λ n. draft line (Instr.Free a)) (λ n h. omega arith)

pub turn_steps : (m line : ℕ) → Steps m (quiet line (λ at. Instr.Turn))
turn_steps m line = steps_one m no_number (λ n. draft line Instr.Turn) (λ n h. omega arith)

pub end_steps : (m line : ℕ) → Steps m (quiet line (λ at. Instr.End))
end_steps m line = steps_one m no_number (λ n. draft line Instr.End) (λ n h. omega arith)

pub fork_steps : (m line : ℕ) (join : ℕ → ℕ) (entries : ℕ → List ℕ) → Steps m (quiet line (λ at. Instr.Fork (join at) (entries at)))
fork_steps m line join entries = steps_one m no_number (λ n. draft line (Instr.Fork (join n.at) (entries n.at))) (λ n h. omega arith)

pub leaving_steps : (m line : ℕ) (end : Ends → ℕ) → Steps m (leaving line end)
leaving_steps m line end = record { run = λ ends n h. (jump_steps m line (end ends)).run ends n h; left = λ ends n h. (jump_steps m line (end ends)).left ends n h }
