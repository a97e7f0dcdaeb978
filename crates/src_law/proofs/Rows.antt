-- Runs of worked programs along names, by computation.
use Rattle.std.proofs.Common.{◌≡◌, ℕ, zero, suc, ◌*◌, ℤ, pos, List, [], ◌∷◌, ◌+◌, reverse, replicate, length, Option, Some, None, refl}
use Rattle.dfi_base.specs.Lives.{own}
use Rattle.c_ast.specs.declared.expr.BinaryOp.{BinaryOp}
use Rattle.c_ast.specs.declared.stmt.AssignOp.{AssignOp}
use Rattle.c_typed.specs.declared.types.BaseType.{BaseType}
use Rattle.c_typed.specs.declared.types.ObjectType.{ObjectType}
use Rattle.c_typed.specs.declared.types.ExprType.{ExprType}
use Rattle.c_typed.specs.declared.expr.Form.TheOpen.{Form-F}
use Rattle.c_typed.specs.declared.expr.PrefixOp.{PrefixOp}
use Rattle.c_typed.specs.declared.program.Struct.{Struct}
use Rattle.obj_mem.specs.declared.Maker.{Maker}
use Rattle.obj_mem.specs.declared.value.Value.{Value}
use Rattle.obj_mem.specs.declared.event.Event.{Event}
use Rattle.obj_mem.specs.declared.event.SrcAnswer.{SrcAnswer}
use Rattle.obj_mem.specs.declared.event.Stamp.{Stamp}
use Rattle.obj_mem.specs.declared.run.SrcEnd.{SrcEnd}
use Rattle.obj_mem.specs.Objects.{of_main}
use Rattle.obj_mem.specs.Opening.{opening_of, global_of}
use Rattle.obj_mem.specs.Alive.{made_by, open_frames, live_blocks}
use Rattle.obj_mem.specs.Written.{last_value}
use Rattle.obj_mem.specs.Input.{numbers_left}
use Rattle.src_law.specs.Acts.{done, broken, again, returned, a_value, an_end, Act, Acts, ◌▷◌, ◌⨟◌}
use Rattle.src_law.specs.Operators.{wrong}
use Rattle.src_law.specs.Exprs.{Around, Meant, form, truth, chosen}
use Rattle.src_law.specs.Stmts.{in_turn, skip, ignored, assigned, told, where_done}
use Rattle.src_law.specs.Program.{passed, value_at, with_return}
use Rattle.src_law.specs.Traces.{by}
use Rattle.src_law.specs.Runs.{outputs_of}
use Rattle.obj_mem.specs.Asked.{out_event}
use Rattle.src_law.specs.tools.Heard.{Reads}
use Rattle.src_law.specs.tools.Reader.{reads, calls_at, turns_at}
use Rattle.src_law.specs.tools.Threads.{depth, start_of, has_ended, run_from, run_along, Ran, ran, refused}

-- Parts in open forms.

abbrev int : ObjectType
int = record { base = BaseType.Int; stars = 0; lengths = [] }

abbrev ints : ℕ → ObjectType
ints n = record { base = BaseType.Int; stars = 0; lengths = n ∷ [] }

abbrev pointer : ObjectType
pointer = record { base = BaseType.Int; stars = 1; lengths = [] }

abbrev whole : Around → ExprType → Form-F (Act a_value) Meant → Meant
whole c t f = record { typing = t; act = form c f }

abbrev num : Around → ℕ → Meant
num c k = whole c ExprType.Int (Form-F.Number (pos k))

abbrev global : Around → ObjectType → ℕ → Meant
global c t v = whole c (ExprType.Place t) (Form-F.Global v)

abbrev local : Around → ObjectType → ℕ → Meant
local c t v = whole c (ExprType.Place t) (Form-F.Local v)

-- the value at a place of an int, and of a pointer to ints
abbrev int_at : Around → Meant → Meant
int_at c p = whole c ExprType.Int (Form-F.Read p)

abbrev pointer_at : Around → Meant → Meant
pointer_at c p = whole c (ExprType.Pointer int) (Form-F.Read p)

abbrev item : Around → Meant → Meant → Meant
item c p i = whole c (ExprType.Place int) (Form-F.Index p i)

abbrev of_array : Around → ℕ → Meant → Meant
of_array c n p = whole c (ExprType.Pointer int) (Form-F.Decay p)

abbrev set : Around → Meant → Meant → Act an_end
set c target v = assigned c AssignOp.Plain target v.act

abbrev put : Meant → Act an_end
put e = e.act ▷ λ v. told (out_event v)

abbrev free : Meant → Act an_end
free e = e.act ▷ λ p. Act.does (Event.Free p) refl ⨟ skip

-- a program without calls: globals of so many words, and the words of the variables of main
abbrev alone : List ℕ → List ℕ → Around
alone globals variables = record { structs = []; globals = globals; maker = of_main; site = length globals; variables = variables; heap = length globals + length variables }

abbrev no_body : ℕ → Maker → List Value → Act a_value
no_body f m vs = wrong

abbrev main_of : List (Act an_end) → Act a_value
main_of ss = in_turn ss ▷ λ e. Act.gives (value_at None e)

abbrev reading : (ℕ → Maker → List Value → Act a_value) → List (Act an_end) → Reads Value
reading body ss l = reads body (length l) a_value (main_of ss) l

-- what is put out, and how the run ends
abbrev printed : Ran → Option (List ℤ × SrcEnd)
printed (ran h e) = Some (outputs_of (reverse h), e)
printed (refused n) = None

abbrev events_of : Ran → ℕ
events_of (ran h e) = length h
events_of (refused n) = 0

-- int a[4]; int x; int main() { x = 3; a[I] = 9; putint(x); }
abbrev line_of : ℕ → List (Act an_end)
line_of i =
    let c = alone (4 ∷ 1 ∷ []) [] in
    set c (global c int 1) (num c 3) ∷ set c (item c (of_array c 4 (global c (ints 4) 0)) (num c i)) (num c 9) ∷ put (int_at c (global c int 1)) ∷ []

abbrev zeros : ℕ → List Value
zeros n = replicate n (Value.Int (pos 0))

abbrev line_opening : List Stamp
line_opening = opening_of (zeros 4 ∷ zeros 1 ∷ []) []

line_within : printed (run_along (reading no_body (line_of 3)) line_opening (1 ∷ 1 ∷ 1 ∷ 1 ∷ [])) ≡ Some (pos 3 ∷ [], SrcEnd.Done (pos 0))
unfolding made_by open_frames live_blocks last_value numbers_left calls_at turns_at depth own start_of has_ended run_from outputs_of
line_within = refl

line_beyond : printed (run_along (reading no_body (line_of 4)) line_opening (1 ∷ 1 ∷ [])) ≡ Some ([], SrcEnd.Invalid)
unfolding made_by open_frames live_blocks last_value numbers_left calls_at turns_at depth own start_of has_ended run_from outputs_of
line_beyond = refl

line_one_event : events_of (run_along (reading no_body (line_of 4)) line_opening (1 ∷ 1 ∷ [])) ≡ 1
unfolding made_by open_frames live_blocks last_value numbers_left calls_at turns_at depth own start_of has_ended run_from
line_one_event = refl

line_refused : run_along (reading no_body (line_of 4)) line_opening (1 ∷ 1 ∷ 1 ∷ []) ≡ refused 3
unfolding made_by open_frames live_blocks last_value numbers_left calls_at turns_at depth own start_of has_ended run_from
line_refused = refl

-- int x; int y; int main() { x = 1; par { { x = 2; } { y = x; } } putint(y); }
abbrev race : List (Act an_end)
race =
    let c = alone (1 ∷ 1 ∷ []) [] in
    set c (global c int 0) (num c 1)
    ∷ Act.forks (Acts.beside (in_turn (set c (global c int 0) (num c 2) ∷ [])) (Acts.beside (in_turn (set c (global c int 1) (int_at c (global c int 0)) ∷ [])) Acts.no_more))
    ∷ put (int_at c (global c int 1)) ∷ []

abbrev race_opening : List Stamp
race_opening = opening_of (zeros 1 ∷ zeros 1 ∷ []) []

race_first : printed (run_along (reading no_body race) race_opening (1 ∷ 1 ∷ 17 ∷ 18 ∷ 18 ∷ 1 ∷ 1 ∷ [])) ≡ Some (pos 2 ∷ [], SrcEnd.Done (pos 0))
unfolding made_by open_frames live_blocks last_value numbers_left calls_at turns_at depth own start_of has_ended run_from outputs_of
race_first = refl

race_second : printed (run_along (reading no_body race) race_opening (1 ∷ 1 ∷ 18 ∷ 18 ∷ 17 ∷ 1 ∷ 1 ∷ [])) ≡ Some (pos 1 ∷ [], SrcEnd.Done (pos 0))
unfolding made_by open_frames live_blocks last_value numbers_left calls_at turns_at depth own start_of has_ended run_from outputs_of
race_second = refl

race_early : run_along (reading no_body race) race_opening (1 ∷ 17 ∷ []) ≡ refused 2
unfolding made_by open_frames live_blocks last_value numbers_left calls_at turns_at depth own start_of has_ended run_from
race_early = refl

-- the parent waits for both of its branches
race_waits : run_along (reading no_body race) race_opening (1 ∷ 1 ∷ 17 ∷ 1 ∷ []) ≡ refused 4
unfolding made_by open_frames live_blocks last_value numbers_left calls_at turns_at depth own start_of has_ended run_from
race_waits = refl

-- int a[2]; int main() { a[3] = getint(); }
abbrev beyond : List (Act an_end)
beyond =
    let c = alone (2 ∷ []) [] in
    set c (item c (of_array c 2 (global c (ints 2) 0)) (num c 3)) (whole c ExprType.Int Form-F.GetInt) ∷ []

beyond_at_once : run_along (reading no_body beyond) (opening_of (zeros 2 ∷ []) []) (1 ∷ []) ≡ ran [] SrcEnd.Invalid
unfolding made_by open_frames live_blocks last_value numbers_left calls_at turns_at depth own start_of has_ended run_from
beyond_at_once = refl

-- int m[2][4]; int main() { m[1][0] = 7; putint(m[0][4]); }
abbrev rows_type : ObjectType
rows_type = record { base = BaseType.Int; stars = 0; lengths = 2 ∷ 4 ∷ [] }

abbrev in_row : Around → ℕ → ℕ → Meant
in_row c i k =
    item c (whole c (ExprType.Pointer int) (Form-F.Decay (whole c (ExprType.Place (ints 4)) (Form-F.Index (whole c (ExprType.Pointer (ints 4)) (Form-F.Decay (global c rows_type 0))) (num c i))))) (num c k)

abbrev other_row : List (Act an_end)
other_row = (let c = alone (8 ∷ []) [] in set c (in_row c 1 0) (num c 7) ∷ put (int_at c (in_row c 0 4)) ∷ [])

other_row_invalid : printed (run_along (reading no_body other_row) (opening_of (zeros 8 ∷ []) []) (1 ∷ 1 ∷ [])) ≡ Some ([], SrcEnd.Invalid)
unfolding made_by open_frames live_blocks last_value numbers_left calls_at turns_at depth own start_of has_ended run_from outputs_of
other_row_invalid = refl

-- int *p; int main() { p = NULL; p = p + 0; }
abbrev null_moved : List (Act an_end)
null_moved =
    let c = alone (1 ∷ []) [] in
    let p = global c pointer 0 in
    set c p (whole c ExprType.Null Form-F.Null)
    ∷ set c p (whole c (ExprType.Pointer int) (Form-F.Binary (pointer_at c p) BinaryOp.Add (num c 0))) ∷ []

null_moved_after_two : run_along (reading no_body null_moved) (opening_of ((Value.Null ∷ []) ∷ []) []) (1 ∷ 1 ∷ 1 ∷ [])
    ≡ ran (by 1 (Event.Rd (Value.Ptr (global_of 0 1) (pos 0) (pos 0) (pos 1))) (SrcAnswer.Value Value.Null)
    ∷ by 1 (Event.Wr (Value.Ptr (global_of 0 1) (pos 0) (pos 0) (pos 1)) Value.Null) SrcAnswer.Unit ∷ []) SrcEnd.Invalid
unfolding made_by open_frames live_blocks last_value numbers_left calls_at turns_at depth own start_of has_ended run_from
null_moved_after_two = refl

-- int *p; int *q; int main() { p = malloc(sizeof(int)); q = malloc(0 * sizeof(int)); putint(p + 1 == q); }
abbrev block : Around → ℕ → Option Meant → Meant
block c site count = whole c (ExprType.Pointer int) (Form-F.New site int count)

abbrev past_to_other : List (Act an_end)
past_to_other =
    let c = alone (1 ∷ 1 ∷ []) [] in
    let p = global c pointer 0 in
    let q = global c pointer 1 in
    set c p (block c 0 None) ∷ set c q (block c 1 (Some (num c 0)))
    ∷ put (whole c ExprType.Int (Form-F.Binary (whole c (ExprType.Pointer int) (Form-F.Binary (pointer_at c p) BinaryOp.Add (num c 1))) BinaryOp.Equal (pointer_at c q))) ∷ []

abbrev two_pointers : List Stamp
two_pointers = opening_of ((Value.Null ∷ []) ∷ (Value.Null ∷ []) ∷ []) []

past_to_other_invalid : printed (run_along (reading no_body past_to_other) two_pointers (1 ∷ 1 ∷ 1 ∷ 1 ∷ 1 ∷ 1 ∷ 1 ∷ [])) ≡ Some ([], SrcEnd.Invalid)
unfolding made_by open_frames live_blocks last_value numbers_left calls_at turns_at depth own start_of has_ended run_from outputs_of
past_to_other_invalid = refl

past_to_other_events : events_of (run_along (reading no_body past_to_other) two_pointers (1 ∷ 1 ∷ 1 ∷ 1 ∷ 1 ∷ 1 ∷ 1 ∷ [])) ≡ 6
unfolding made_by open_frames live_blocks last_value numbers_left calls_at turns_at depth own start_of has_ended run_from
past_to_other_events = refl

-- int *p; int main() { p = malloc(0 * sizeof(int)); putint(p == NULL); free(p); putint(2); }
abbrev empty_block : List (Act an_end)
empty_block =
    let c = alone (1 ∷ []) [] in
    let p = global c pointer 0 in
    set c p (block c 0 (Some (num c 0)))
    ∷ put (whole c ExprType.Int (Form-F.Binary (pointer_at c p) BinaryOp.Equal (whole c ExprType.Null Form-F.Null)))
    ∷ free (pointer_at c p) ∷ put (num c 2) ∷ []

empty_block_done : printed (run_along (reading no_body empty_block) (opening_of ((Value.Null ∷ []) ∷ []) []) (replicate 8 1)) ≡ Some (pos 0 ∷ pos 2 ∷ [], SrcEnd.Done (pos 0))
unfolding made_by open_frames live_blocks last_value numbers_left calls_at turns_at depth own start_of has_ended run_from outputs_of
empty_block_done = refl

-- int *p; int main() { p = malloc(sizeof(int)); *p = 1; free(p); putint(*p); }
abbrev behind : Around → Meant → Meant
behind c p = whole c (ExprType.Place int) (Form-F.Deref p)

abbrev freed_block : List (Act an_end)
freed_block =
    let c = alone (1 ∷ []) [] in
    let p = global c pointer 0 in
    set c p (block c 0 None) ∷ set c (behind c (pointer_at c p)) (num c 1) ∷ free (pointer_at c p) ∷ put (int_at c (behind c (pointer_at c p))) ∷ []

freed_block_invalid : printed (run_along (reading no_body freed_block) (opening_of ((Value.Null ∷ []) ∷ []) []) (replicate 8 1)) ≡ Some ([], SrcEnd.Invalid)
unfolding made_by open_frames live_blocks last_value numbers_left calls_at turns_at depth own start_of has_ended run_from outputs_of
freed_block_invalid = refl

-- int main() { int *p; { int x = 5; p = &x; } putint(*p); }
abbrev inner_block : List (Act an_end)
inner_block =
    let c = alone [] (1 ∷ 1 ∷ []) in
    let p = local c pointer 0 in
    in_turn (set c (local c int 1) (num c 5) ∷ set c p (whole c (ExprType.Pointer int) (Form-F.Address (local c int 1))) ∷ [])
    ∷ put (int_at c (behind c (pointer_at c p))) ∷ []

inner_block_lives : printed (run_along (reading no_body inner_block) [] (replicate 5 1)) ≡ Some (pos 5 ∷ [], SrcEnd.Done (pos 0))
unfolding made_by open_frames live_blocks last_value numbers_left calls_at turns_at depth own start_of has_ended run_from outputs_of
inner_block_lives = refl

-- int i; int main() { for (i = 0; i < 3; i++) { if (i == 1) continue; putint(i); } while (1) { while (1) { break; } break; } putint(9); }
abbrev less : Around → Meant → Meant → Meant
less c l r = whole c ExprType.Int (Form-F.Binary l BinaryOp.Less r)

abbrev counter : Around → Meant
counter c = global c int 0

abbrev counting : Around → Act an_end
counting c = set c (counter c) (num c 0) ▷ where_done (Act.loops (truth (less c (int_at c (counter c)) (num c 3)))
    (in_turn ((truth (whole c ExprType.Int (Form-F.Binary (int_at c (counter c)) BinaryOp.Equal (num c 1))) ▷ chosen (Act.gives again) skip) ∷ put (int_at c (counter c)) ∷ []))
    (assigned c AssignOp.Add (counter c) (num c 1).act))

abbrev loops : List (Act an_end)
loops =
    let c = alone (1 ∷ []) [] in
    counting c ∷ Act.loops (truth (num c 1)) (in_turn (Act.loops (truth (num c 1)) (Act.gives broken) skip ∷ Act.gives broken ∷ [])) skip ∷ put (num c 9) ∷ []

loops_done : printed (run_along (reading no_body loops) (opening_of (zeros 1 ∷ []) []) (replicate 25 1)) ≡ Some (pos 0 ∷ pos 2 ∷ pos 9 ∷ [], SrcEnd.Done (pos 0))
unfolding made_by open_frames live_blocks last_value numbers_left calls_at turns_at depth own start_of has_ended run_from outputs_of
loops_done = refl

-- int main() { putint(left()); putint(getint()); putint(getint()); } with the input 5
abbrev inputs : List (Act an_end)
inputs = (let c = alone [] [] in put (whole c ExprType.Int Form-F.Left) ∷ put (whole c ExprType.Int Form-F.GetInt) ∷ put (whole c ExprType.Int Form-F.GetInt) ∷ [])

inputs_done : printed (run_along (reading no_body inputs) (opening_of [] (pos 5 ∷ [])) (replicate 6 1)) ≡ Some (pos 1 ∷ pos 5 ∷ pos 0 ∷ [], SrcEnd.Done (pos 0))
unfolding made_by open_frames live_blocks last_value numbers_left calls_at turns_at depth own start_of has_ended run_from outputs_of
inputs_done = refl

-- int x; int main() { x = 1 / x; }
abbrev by_zero : List (Act an_end)
by_zero = (let c = alone (1 ∷ []) [] in set c (global c int 0) (whole c ExprType.Int (Form-F.Binary (num c 1) BinaryOp.Div (int_at c (global c int 0)))) ∷ [])

by_zero_traps : events_of (run_along (reading no_body by_zero) (opening_of (zeros 1 ∷ []) []) (1 ∷ 1 ∷ [])) ≡ 2
unfolding made_by open_frames live_blocks last_value numbers_left calls_at turns_at depth own start_of has_ended run_from
by_zero_traps = refl

by_zero_end : printed (run_along (reading no_body by_zero) (opening_of (zeros 1 ∷ []) []) (1 ∷ 1 ∷ [])) ≡ Some ([], SrcEnd.Trap)
unfolding made_by open_frames live_blocks last_value numbers_left calls_at turns_at depth own start_of has_ended run_from outputs_of
by_zero_end = refl

-- int f(int d) { int k = 1; if (d <= 0) { k = 5; return 0; } f(d - 1); putint(k); k = 6; return 0; }
abbrev binary_of : Around → BinaryOp → Meant → Meant → Meant
binary_of c op l r = whole c ExprType.Int (Form-F.Binary l op r)

abbrev calling : Around → Meant → Act an_end
calling c e = ignored (whole c ExprType.Int (Form-F.Call 0 (e ∷ []))).act

abbrev returning : Around → ℕ → Act an_end
returning c k = (num c k).act ▷ λ v. Act.gives (returned v)

abbrev deeper : Around → List (Act an_end)
deeper c =
    set c (local c int 1) (num c 1)
    ∷ (truth (binary_of c BinaryOp.LessEqual (int_at c (local c int 0)) (num c 0)) ▷ chosen (in_turn (set c (local c int 1) (num c 5) ∷ returning c 0 ∷ [])) skip)
    ∷ calling c (binary_of c BinaryOp.Sub (int_at c (local c int 0)) (num c 1)) ∷ put (int_at c (local c int 1)) ∷ set c (local c int 1) (num c 6) ∷ returning c 0 ∷ []

abbrev frame : Maker → Around
frame m = record { structs = []; globals = []; maker = m; site = 0; variables = 1 ∷ 1 ∷ []; heap = 2 }

abbrev recursive : ℕ → Maker → List Value → Act a_value
recursive f m vs = (with_return (passed (frame m) 0 vs ⨟ in_turn (deeper (frame m)) ▷ λ e. Act.gives (value_at (Some int) e)))

recursion_done : printed (run_along (reading recursive (calling (frame of_main) (num (frame of_main) 2) ∷ [])) [] (replicate 24 1)) ≡ Some (pos 1 ∷ pos 1 ∷ [], SrcEnd.Done (pos 0))
unfolding made_by open_frames live_blocks last_value numbers_left calls_at turns_at depth own start_of has_ended run_from outputs_of
recursion_done = refl

-- two threads in it at once
abbrev two_in_it : List (Act an_end)
two_in_it = (let c = frame of_main in Act.forks (Acts.beside (calling c (num c 1)) (Acts.beside (calling c (num c 1)) Acts.no_more)) ∷ [])

abbrev in_turns : ℕ → List ℕ
in_turns zero = []
in_turns (suc n) = 17 ∷ 18 ∷ in_turns n

two_in_it_done : printed (run_along (reading recursive two_in_it) [] (1 ∷ in_turns 15)) ≡ Some (pos 1 ∷ pos 1 ∷ [], SrcEnd.Done (pos 0))
unfolding made_by open_frames live_blocks last_value numbers_left calls_at turns_at depth own start_of has_ended run_from outputs_of
two_in_it_done = refl

-- int *f() { int x = 1; return &x; } int main() { putint(*f()); }
abbrev hands_out : ℕ → Maker → List Value → Act a_value
hands_out f m vs =
    let c = frame m in
    (with_return (passed c 0 vs ⨟ in_turn (set c (local c int 1) (num c 1) ∷ ((local c int 1).act ▷ λ v. Act.gives (returned v)) ∷ []) ▷ λ e. Act.gives (value_at (Some pointer) e)))

abbrev dangling : List (Act an_end)
dangling = (let c = frame of_main in put (int_at c (behind c (whole c (ExprType.Pointer int) (Form-F.Call 0 [])))) ∷ [])

dangling_invalid : printed (run_along (reading hands_out dangling) [] (replicate 4 1)) ≡ Some ([], SrcEnd.Invalid)
unfolding made_by open_frames live_blocks last_value numbers_left calls_at turns_at depth own start_of has_ended run_from outputs_of
dangling_invalid = refl

-- int *f() {} int g() {} int main() { if (!f()) putint(g()); }
abbrev empty_bodies : ℕ → Maker → List Value → Act a_value
empty_bodies zero m vs = (with_return (Act.gives (value_at (Some pointer) done)))
empty_bodies (suc f) m vs = (with_return (Act.gives (value_at (Some int) done)))

abbrev no_returns : List (Act an_end)
no_returns =
    let c = frame of_main in
    (truth (whole c ExprType.Int (Form-F.Prefix PrefixOp.Not (whole c (ExprType.Pointer int) (Form-F.Call 0 [])))) ▷ chosen (put (whole c ExprType.Int (Form-F.Call 1 []))) skip) ∷ []

no_returns_done : printed (run_along (reading empty_bodies no_returns) [] (replicate 6 1)) ≡ Some (pos 0 ∷ [], SrcEnd.Done (pos 0))
unfolding made_by open_frames live_blocks last_value numbers_left calls_at turns_at depth own start_of has_ended run_from outputs_of
no_returns_done = refl

-- `par` 14 deep, and one deeper
abbrev nested : ℕ → Act an_end
nested zero = skip
nested (suc n) = Act.forks (Acts.beside (nested n) (Acts.beside skip Acts.no_more))

abbrev descending : ℕ → ℕ → List ℕ
descending n zero = []
descending n (suc turns) = n ∷ descending (16 * n + 1) turns

too_deep : events_of (run_along (reading no_body (nested 15 ∷ [])) [] (descending 1 15)) ≡ 15
unfolding made_by open_frames live_blocks last_value numbers_left calls_at turns_at depth own start_of has_ended run_from
too_deep = refl

deep_is_cut : printed (run_along (reading no_body (nested 15 ∷ [])) [] (descending 1 15)) ≡ Some ([], SrcEnd.Cut)
unfolding made_by open_frames live_blocks last_value numbers_left calls_at turns_at depth own start_of has_ended run_from outputs_of
deep_is_cut = refl

deep_refused : run_along (reading no_body (nested 15 ∷ [])) [] (descending 1 16) ≡ refused 16
unfolding made_by open_frames live_blocks last_value numbers_left calls_at turns_at depth own start_of has_ended run_from
deep_refused = refl

deep_enough : printed (run_along (reading no_body (nested 14 ∷ [])) [] (descending 1 14)) ≡ Some ([], SrcEnd.Done (pos 0))
unfolding made_by open_frames live_blocks last_value numbers_left calls_at turns_at depth own start_of has_ended run_from outputs_of
deep_enough = refl

-- int *p; int main() { p = malloc(-1 * sizeof(int)); putint(p == NULL); }
abbrev negative_block : List (Act an_end)
negative_block =
    let c = alone (1 ∷ []) [] in
    let p = global c pointer 0 in
    set c p (block c 0 (Some (whole c ExprType.Int (Form-F.Prefix PrefixOp.Minus (num c 1)))))
    ∷ put (whole c ExprType.Int (Form-F.Binary (pointer_at c p) BinaryOp.Equal (whole c ExprType.Null Form-F.Null))) ∷ []

negative_block_done : printed (run_along (reading no_body negative_block) (opening_of ((Value.Null ∷ []) ∷ []) []) (replicate 5 1)) ≡ Some (pos 0 ∷ [], SrcEnd.Done (pos 0))
unfolding made_by open_frames live_blocks last_value numbers_left calls_at turns_at depth own start_of has_ended run_from outputs_of
negative_block_done = refl

-- int *p; int main() { p = malloc(2 * sizeof(int)); free(p + 1); }
abbrev inner_word : List (Act an_end)
inner_word =
    let c = alone (1 ∷ []) [] in
    let p = global c pointer 0 in
    set c p (block c 0 (Some (num c 2))) ∷ free (whole c (ExprType.Pointer int) (Form-F.Binary (pointer_at c p) BinaryOp.Add (num c 1))) ∷ []

inner_word_invalid : events_of (run_along (reading no_body inner_word) (opening_of ((Value.Null ∷ []) ∷ []) []) (replicate 4 1)) ≡ 3
unfolding made_by open_frames live_blocks last_value numbers_left calls_at turns_at depth own start_of has_ended run_from
inner_word_invalid = refl

-- int a[3]; int *p; int main() { p = a + 2; *(p - 1) = 7; putint(a[1]); }
abbrev moved_back : List (Act an_end)
moved_back =
    let c = alone (3 ∷ 1 ∷ []) [] in
    let a = of_array c 3 (global c (ints 3) 0) in
    let p = global c pointer 1 in
    set c p (whole c (ExprType.Pointer int) (Form-F.Binary a BinaryOp.Add (num c 2)))
    ∷ set c (behind c (whole c (ExprType.Pointer int) (Form-F.Binary (pointer_at c p) BinaryOp.Sub (num c 1)))) (num c 7)
    ∷ put (int_at c (item c a (num c 1))) ∷ []

moved_back_done : printed (run_along (reading no_body moved_back) (opening_of (zeros 3 ∷ (Value.Null ∷ []) ∷ []) []) (replicate 5 1)) ≡ Some (pos 7 ∷ [], SrcEnd.Done (pos 0))
unfolding made_by open_frames live_blocks last_value numbers_left calls_at turns_at depth own start_of has_ended run_from outputs_of
moved_back_done = refl

-- struct s { int x; } *q; int *r; int main() { q = NULL; r = &q->x; }
abbrev one_field : Struct
one_field = record { fields = int ∷ []; words = 1 }

abbrev of_struct : ℕ → ObjectType
of_struct stars = record { base = BaseType.Struct 0; stars = stars; lengths = [] }

abbrev null_field : List (Act an_end)
null_field =
    let c : Around = record { structs = one_field ∷ []; globals = 1 ∷ 1 ∷ []; maker = of_main; site = 2; variables = []; heap = 2 } in
    let q = global c (of_struct 1) 0 in
    let field = whole c (ExprType.Place int) (Form-F.Arrow (whole c (ExprType.Pointer (of_struct 0)) (Form-F.Read q)) 0) in
    set c q (whole c ExprType.Null Form-F.Null) ∷ set c (global c pointer 1) (whole c (ExprType.Pointer int) (Form-F.Address field)) ∷ []

null_field_invalid : printed (run_along (reading no_body null_field) two_pointers (1 ∷ 1 ∷ 1 ∷ [])) ≡ Some ([], SrcEnd.Invalid)
unfolding made_by open_frames live_blocks last_value numbers_left calls_at turns_at depth own start_of has_ended run_from outputs_of
null_field_invalid = refl

null_field_events : events_of (run_along (reading no_body null_field) two_pointers (1 ∷ 1 ∷ 1 ∷ [])) ≡ 2
unfolding made_by open_frames live_blocks last_value numbers_left calls_at turns_at depth own start_of has_ended run_from
null_field_events = refl
