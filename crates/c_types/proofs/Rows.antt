-- Worked programs and the rules that they break, by computation.
use Rattle.std.specs.Prelude.{codes}
use Rattle.std.proofs.Common.{◌≡◌, ℕ, List, [], ◌∷◌, ◌++◌, None, refl}
use Rattle.c_ast.specs.Ast.{Ast}
use Rattle.c_ast.specs.declared.decl.Base.{Base}
use Rattle.c_ast.specs.declared.expr.BinaryOp.{BinaryOp}
use Rattle.c_ast.specs.declared.expr.UnaryOp.{UnaryOp}
use Rattle.c_ast.specs.declared.stmt.AssignOp.{AssignOp}
use Rattle.c_ast.specs.declared.decl.ResultType.{ResultType}
use Rattle.c_ast.specs.declared.decl.ProtoParams.{ProtoParams}
use Rattle.c_ast.specs.declared.program.Item.{Item}
use Rattle.c_typed.specs.declared.fault.BigWhat.{BigWhat}
use Rattle.c_typed.specs.Whole.{Whole}
use Rattle.c_typed.specs.Stmts.{stmt}
use Rattle.c_typed.specs.Faults.{Rule, Fault, unknown, twice, mismatch, not_lvalue, escape, branches, big, no_main}
use Rattle.c_typed.specs.Programs.{faults_of}
use Rattle.c_typed.proofs.Small.{ident, Tree, Trees, bin, un, cast, index, num, null, id, call, sizeof, also, one}
use Rattle.c_types.proofs.SmallStmts.{Code, Codes, set, run, ret, leave, brk, while, block, par, var, init, then_, code, part, parted, declarator, decl, main_of, program}

abbrev at : ℕ → Rule → Fault
at n rule = record { at = n; rule = rule; line = one }

abbrev letters : List (List ℕ)
letters = codes "x" ∷ codes "p" ∷ codes "putint" ∷ codes "malloc" ∷ codes "f" ∷ []

abbrev x : Tree
x = id 1

abbrev p : Tree
p = id 2

-- these items, and `int main() c`
abbrev of : List Item → Code → Ast
of items c = program (items ++ main_of (then_ c Codes.none) ∷ []) letters

abbrev int : Base
int = Base.Int one

-- `int x[n];`
abbrev array : ℕ → Item
array n = Item.Decl (decl int (declarator 0 1 (n ∷ [])) None)

-- `int f;`
abbrev variable : ℕ → Item
variable n = Item.Decl (decl int (declarator 0 n []) None)

-- `struct f { int x[n]; };`
abbrev struct : ℕ → Item
struct n = Item.Struct (record { line = one; tag = ident 5; fields = record { base = int; items = declarator 0 1 (n ∷ []) ∷ [] } ∷ [] })

-- `struct f { struct f x; };`, with stars before the x
abbrev inside : ℕ → Item
inside stars = Item.Struct (record { line = one; tag = ident 5; fields = record { base = Base.Struct one (ident 5); items = declarator stars 1 [] ∷ [] } ∷ [] })

-- `int f();`
abbrev proto : ℕ → Item
proto n = Item.Proto (record { result = ResultType.Type int 0; name = ident n; params = ProtoParams.Empty })

-- `int *main();`
abbrev star_main : Item
star_main = Item.Proto (record { result = ResultType.Type int 1; name = ident 0; params = ProtoParams.Empty })

-- an empty file has no main
empty : faults_of (record { items = []; names = []; last = one }) ≡ at 0 no_main ∷ []
empty = refl

-- x = 1;
unknown_name_code : Code
unknown_name_code = set x AssignOp.Plain (num 1)

unknown_name : faults_of (of [] unknown_name_code) ≡ at 5 unknown ∷ []
unfolding unknown_name_code
unknown_name = let s : (w : Whole) → stmt w (code unknown_name_code) ≡ part w unknown_name_code = λ w. parted w unknown_name_code in rw (s) refl

-- par { { return 0; } { ; } }
leaves_branch_code : Code
leaves_branch_code = par (then_ (ret (num 0)) (then_ (block Codes.none) Codes.none))

leaves_branch : faults_of (of [] leaves_branch_code) ≡ at 8 escape ∷ []
unfolding leaves_branch_code
leaves_branch = let s : (w : Whole) → stmt w (code leaves_branch_code) ≡ part w leaves_branch_code = λ w. parted w leaves_branch_code in rw (s) refl

-- par { { return; } { ; } }: two rules at one token
both_at_return_code : Code
both_at_return_code = par (then_ leave (then_ (block Codes.none) Codes.none))

both_at_return : faults_of (of [] both_at_return_code) ≡ at 8 escape ∷ at 8 mismatch ∷ []
unfolding both_at_return_code
both_at_return = let s : (w : Whole) → stmt w (code both_at_return_code) ≡ part w both_at_return_code = λ w. parted w both_at_return_code in rw (s) refl

-- par { { ; } }
few_branches_code : Code
few_branches_code = par (then_ (block Codes.none) Codes.none)

few_branches : faults_of (of [] few_branches_code) ≡ at 5 branches ∷ []
unfolding few_branches_code
few_branches = let s : (w : Whole) → stmt w (code few_branches_code) ≡ part w few_branches_code = λ w. parted w few_branches_code in rw (s) refl

-- break;
break_outside_code : Code
break_outside_code = brk

break_outside : faults_of (of [] break_outside_code) ≡ at 5 escape ∷ []
unfolding break_outside_code
break_outside = let s : (w : Whole) → stmt w (code break_outside_code) ≡ part w break_outside_code = λ w. parted w break_outside_code in rw (s) refl

-- while (1) break;
break_in_loop_code : Code
break_in_loop_code = while (num 1) brk

break_in_loop : faults_of (of [] break_in_loop_code) ≡ []
unfolding break_in_loop_code
break_in_loop = let s : (w : Whole) → stmt w (code break_in_loop_code) ≡ part w break_in_loop_code = λ w. parted w break_in_loop_code in rw (s) refl

-- while (1) par { { break; } { ; } }
break_in_branch_code : Code
break_in_branch_code = while (num 1) (par (then_ brk (then_ (block Codes.none) Codes.none)))

break_in_branch : faults_of (of [] break_in_branch_code) ≡ at 12 escape ∷ []
unfolding break_in_branch_code
break_in_branch = let s : (w : Whole) → stmt w (code break_in_branch_code) ≡ part w break_in_branch_code = λ w. parted w break_in_branch_code in rw (s) refl

-- { int x; int x; }
name_twice_code : Code
name_twice_code = block (var int 0 1 [] (var int 0 1 [] Codes.none))

name_twice : faults_of (of [] name_twice_code) ≡ at 10 twice ∷ []
unfolding name_twice_code
name_twice = let s : (w : Whole) → stmt w (code name_twice_code) ≡ part w name_twice_code = λ w. parted w name_twice_code in rw (s) refl

-- { int x; int *x = 5; }: the star is the earlier token
star_first_code : Code
star_first_code = block (var int 0 1 [] (init int 1 1 [] (num 5) Codes.none))

star_first : faults_of (of [] star_first_code) ≡ at 10 mismatch ∷ at 11 twice ∷ []
unfolding star_first_code
star_first = let s : (w : Whole) → stmt w (code star_first_code) ≡ part w star_first_code = λ w. parted w star_first_code in rw (s) refl

-- { int x; int x = NULL; }
at_one_name_code : Code
at_one_name_code = block (var int 0 1 [] (init int 0 1 [] null Codes.none))

at_one_name : faults_of (of [] at_one_name_code) ≡ at 10 mismatch ∷ at 10 twice ∷ []
unfolding at_one_name_code
at_one_name = let s : (w : Whole) → stmt w (code at_one_name_code) ≡ part w at_one_name_code = λ w. parted w at_one_name_code in rw (s) refl

-- { int x = x; }
own_value_code : Code
own_value_code = block (init int 0 1 [] x Codes.none)

own_value : faults_of (of [] own_value_code) ≡ []
unfolding own_value_code
own_value = let s : (w : Whole) → stmt w (code own_value_code) ≡ part w own_value_code = λ w. parted w own_value_code in rw (s) refl

-- { int x; { int *x; x = NULL; } x = 1; }
hides_code : Code
hides_code = block (var int 0 1 [] (then_ (block (var int 1 1 [] (then_ (set x AssignOp.Plain null) Codes.none))) (then_ (set x AssignOp.Plain (num 1)) Codes.none)))

hides : faults_of (of [] hides_code) ≡ []
unfolding hides_code
hides = let s : (w : Whole) → stmt w (code hides_code) ≡ part w hides_code = λ w. parted w hides_code in rw (s) refl

-- { int *p; int x; x = *p + (p == NULL); p = p + x; p += 1; x = !p && p[x]; }
pointers_code : Code
pointers_code = block (var int 1 2 [] (var int 0 1 [] (then_ (set x AssignOp.Plain (bin (un UnaryOp.Deref p) BinaryOp.Add (bin p BinaryOp.Equal null))) (then_ (set p AssignOp.Plain (bin p BinaryOp.Add x)) (then_ (set p AssignOp.Add (num 1)) (then_ (set x AssignOp.Plain (bin (un UnaryOp.Not p) BinaryOp.And (index p x))) Codes.none))))))

pointers : faults_of (of [] pointers_code) ≡ []
unfolding pointers_code
pointers = let s : (w : Whole) → stmt w (code pointers_code) ≡ part w pointers_code = λ w. parted w pointers_code in rw (s) refl

-- 1 = NULL;
no_place_code : Code
no_place_code = set (num 1) AssignOp.Plain null

no_place : faults_of (of [] no_place_code) ≡ at 5 not_lvalue ∷ []
unfolding no_place_code
no_place = let s : (w : Whole) → stmt w (code no_place_code) ≡ part w no_place_code = λ w. parted w no_place_code in rw (s) refl

-- { int *p; p = &1; }
no_address_code : Code
no_address_code = block (var int 1 2 [] (then_ (set p AssignOp.Plain (un UnaryOp.Address (num 1))) Codes.none))

no_address : faults_of (of [] no_address_code) ≡ at 13 not_lvalue ∷ []
unfolding no_address_code
no_address = let s : (w : Whole) → stmt w (code no_address_code) ≡ part w no_address_code = λ w. parted w no_address_code in rw (s) refl

-- { int x[2][3]; x[1][2] = 4; }
array_of_arrays_code : Code
array_of_arrays_code = block (var int 0 1 (2 ∷ 3 ∷ []) (then_ (set (index (index x (num 1)) (num 2)) AssignOp.Plain (num 4)) Codes.none))

array_of_arrays : faults_of (of [] array_of_arrays_code) ≡ []
unfolding array_of_arrays_code
array_of_arrays = let s : (w : Whole) → stmt w (code array_of_arrays_code) ≡ part w array_of_arrays_code = λ w. parted w array_of_arrays_code in rw (s) refl

-- { int x[2]; x = 4; }
array_is_no_scalar_code : Code
array_is_no_scalar_code = block (var int 0 1 (2 ∷ []) (then_ (set x AssignOp.Plain (num 4)) Codes.none))

array_is_no_scalar : faults_of (of [] array_is_no_scalar_code) ≡ at 12 mismatch ∷ []
unfolding array_is_no_scalar_code
array_is_no_scalar = let s : (w : Whole) → stmt w (code array_is_no_scalar_code) ≡ part w array_is_no_scalar_code = λ w. parted w array_is_no_scalar_code in rw (s) refl

-- { int x[0]; }
no_items_code : Code
no_items_code = block (var int 0 1 (0 ∷ []) Codes.none)

no_items : faults_of (of [] no_items_code) ≡ at 7 mismatch ∷ []
unfolding no_items_code
no_items = let s : (w : Whole) → stmt w (code no_items_code) ≡ part w no_items_code = λ w. parted w no_items_code in rw (s) refl

-- { int *p; p = (int *)malloc(3 * sizeof(int)); }
allocates_code : Code
allocates_code = block (var int 1 2 [] (then_ (set p AssignOp.Plain (cast (record { base = int; stars = 1 }) (call 4 (also (bin (num 3) BinaryOp.Mul (sizeof (record { base = int; stars = 0 }))) Trees.none)))) Codes.none))

allocates : faults_of (of [] allocates_code) ≡ []
unfolding allocates_code
allocates = let s : (w : Whole) → stmt w (code allocates_code) ≡ part w allocates_code = λ w. parted w allocates_code in rw (s) refl

-- { int *p; p = malloc(x); }: a matter of form
malloc_of_name_code : Code
malloc_of_name_code = block (var int 1 2 [] (then_ (set p AssignOp.Plain (call 4 (also x Trees.none))) Codes.none))

malloc_of_name : faults_of (of [] malloc_of_name_code) ≡ at 12 mismatch ∷ at 14 unknown ∷ []
unfolding malloc_of_name_code
malloc_of_name = let s : (w : Whole) → stmt w (code malloc_of_name_code) ≡ part w malloc_of_name_code = λ w. parted w malloc_of_name_code in rw (s) refl

-- { int *p; p = (int *)p; }
cast_elsewhere_code : Code
cast_elsewhere_code = block (var int 1 2 [] (then_ (set p AssignOp.Plain (cast (record { base = int; stars = 1 }) p)) Codes.none))

cast_elsewhere : faults_of (of [] cast_elsewhere_code) ≡ at 12 mismatch ∷ []
unfolding cast_elsewhere_code
cast_elsewhere = let s : (w : Whole) → stmt w (code cast_elsewhere_code) ≡ part w cast_elsewhere_code = λ w. parted w cast_elsewhere_code in rw (s) refl

-- putint(sizeof(int));
sizeof_elsewhere_code : Code
sizeof_elsewhere_code = run 3 (also (sizeof (record { base = int; stars = 0 })) Trees.none)

sizeof_elsewhere : faults_of (of [] sizeof_elsewhere_code) ≡ at 7 mismatch ∷ []
unfolding sizeof_elsewhere_code
sizeof_elsewhere = let s : (w : Whole) → stmt w (code sizeof_elsewhere_code) ≡ part w sizeof_elsewhere_code = λ w. parted w sizeof_elsewhere_code in rw (s) refl

-- main();
call_of_main_code : Code
call_of_main_code = run 0 Trees.none

call_of_main : faults_of (of [] call_of_main_code) ≡ at 5 mismatch ∷ []
unfolding call_of_main_code
call_of_main = let s : (w : Whole) → stmt w (code call_of_main_code) ≡ part w call_of_main_code = λ w. parted w call_of_main_code in rw (s) refl

-- putint(x, 1);: one mistake is one fault
one_mistake_code : Code
one_mistake_code = run 3 (also x (also (num 1) Trees.none))

one_mistake : faults_of (of [] one_mistake_code) ≡ at 7 unknown ∷ []
unfolding one_mistake_code
one_mistake = let s : (w : Whole) → stmt w (code one_mistake_code) ≡ part w one_mistake_code = λ w. parted w one_mistake_code in rw (s) refl

-- { int x[4095]; }
frame_within_code : Code
frame_within_code = block (var int 0 1 (4095 ∷ []) Codes.none)

frame_within : faults_of (of [] frame_within_code) ≡ []
unfolding frame_within_code
frame_within = let s : (w : Whole) → stmt w (code frame_within_code) ≡ part w frame_within_code = λ w. parted w frame_within_code in rw (s) refl

-- { int x[4096]; }
frame_past_code : Code
frame_past_code = block (var int 0 1 (4096 ∷ []) Codes.none)

frame_past : faults_of (of [] frame_past_code) ≡ at 7 (big BigWhat.Frame) ∷ []
unfolding frame_past_code
frame_past = let s : (w : Whole) → stmt w (code frame_past_code) ≡ part w frame_past_code = λ w. parted w frame_past_code in rw (s) refl

-- int x[8176];
globals_within_code : Code
globals_within_code = block Codes.none

globals_within : faults_of (of (array 8176 ∷ []) globals_within_code) ≡ []
unfolding globals_within_code
globals_within = let s : (w : Whole) → stmt w (code globals_within_code) ≡ part w globals_within_code = λ w. parted w globals_within_code in rw (s) refl

-- int x[8177];
globals_past_code : Code
globals_past_code = block Codes.none

globals_past : faults_of (of (array 8177 ∷ []) globals_past_code) ≡ at 1 (big BigWhat.Globals) ∷ []
unfolding globals_past_code
globals_past = let s : (w : Whole) → stmt w (code globals_past_code) ≡ part w globals_past_code = λ w. parted w globals_past_code in rw (s) refl

-- int x[24577];: a type is told before the globals
type_past_code : Code
type_past_code = block Codes.none

type_past : faults_of (of (array 24577 ∷ []) type_past_code) ≡ at 1 (big BigWhat.Shape) ∷ at 1 (big BigWhat.Globals) ∷ []
unfolding type_past_code
type_past = let s : (w : Whole) → stmt w (code type_past_code) ≡ part w type_past_code = λ w. parted w type_past_code in rw (s) refl

-- struct f { int x[24576]; };
type_within_code : Code
type_within_code = block Codes.none

type_within : faults_of (of (struct 24576 ∷ []) type_within_code) ≡ []
unfolding type_within_code
type_within = let s : (w : Whole) → stmt w (code type_within_code) ≡ part w type_within_code = λ w. parted w type_within_code in rw (s) refl

-- struct f { int x[24577]; };
struct_past_code : Code
struct_past_code = block Codes.none

struct_past : faults_of (of (struct 24577 ∷ []) struct_past_code) ≡ at 4 (big BigWhat.Shape) ∷ []
unfolding struct_past_code
struct_past = let s : (w : Whole) → stmt w (code struct_past_code) ≡ part w struct_past_code = λ w. parted w struct_past_code in rw (s) refl

-- struct f { struct f x; };
not_yet_whole_code : Code
not_yet_whole_code = block Codes.none

not_yet_whole : faults_of (of (inside 0 ∷ []) not_yet_whole_code) ≡ at 4 unknown ∷ []
unfolding not_yet_whole_code
not_yet_whole = let s : (w : Whole) → stmt w (code not_yet_whole_code) ≡ part w not_yet_whole_code = λ w. parted w not_yet_whole_code in rw (s) refl

-- struct f { struct f *x; };
behind_pointer_code : Code
behind_pointer_code = block Codes.none

behind_pointer : faults_of (of (inside 1 ∷ []) behind_pointer_code) ≡ []
unfolding behind_pointer_code
behind_pointer = let s : (w : Whole) → stmt w (code behind_pointer_code) ≡ part w behind_pointer_code = λ w. parted w behind_pointer_code in rw (s) refl

-- int f();
never_defined_code : Code
never_defined_code = block Codes.none

never_defined : faults_of (of (proto 5 ∷ []) never_defined_code) ≡ at 1 unknown ∷ []
unfolding never_defined_code
never_defined = let s : (w : Whole) → stmt w (code never_defined_code) ≡ part w never_defined_code = λ w. parted w never_defined_code in rw (s) refl

-- int putint();: two rules at one token
built_in_code : Code
built_in_code = block Codes.none

built_in : faults_of (of (proto 3 ∷ []) built_in_code) ≡ at 1 unknown ∷ at 1 twice ∷ []
unfolding built_in_code
built_in = let s : (w : Whole) → stmt w (code built_in_code) ≡ part w built_in_code = λ w. parted w built_in_code in rw (s) refl

-- { int *p; p = malloc(sizeof(struct f)); }
no_such_struct_code : Code
no_such_struct_code = block (var int 1 2 [] (then_ (set p AssignOp.Plain (call 4 (also (sizeof (record { base = Base.Struct one (ident 5); stars = 0 })) Trees.none))) Codes.none))

no_such_struct : faults_of (of [] no_such_struct_code) ≡ at 17 unknown ∷ []
unfolding no_such_struct_code
no_such_struct = let s : (w : Whole) → stmt w (code no_such_struct_code) ≡ part w no_such_struct_code = λ w. parted w no_such_struct_code in rw (s) refl

-- { int *p; p = (struct f *)malloc(sizeof(int)); }
no_such_cast_code : Code
no_such_cast_code = block (var int 1 2 [] (then_ (set p AssignOp.Plain (cast (record { base = Base.Struct one (ident 5); stars = 1 }) (call 4 (also (sizeof (record { base = int; stars = 0 })) Trees.none)))) Codes.none))

no_such_cast : faults_of (of [] no_such_cast_code) ≡ at 14 unknown ∷ []
unfolding no_such_cast_code
no_such_cast = let s : (w : Whole) → stmt w (code no_such_cast_code) ≡ part w no_such_cast_code = λ w. parted w no_such_cast_code in rw (s) refl

-- int f; int f();
variable_and_prototype_code : Code
variable_and_prototype_code = block Codes.none

variable_and_prototype : faults_of (of (variable 5 ∷ proto 5 ∷ []) variable_and_prototype_code) ≡ at 4 unknown ∷ at 4 twice ∷ []
unfolding variable_and_prototype_code
variable_and_prototype = let s : (w : Whole) → stmt w (code variable_and_prototype_code) ≡ part w variable_and_prototype_code = λ w. parted w variable_and_prototype_code in rw (s) refl

-- int *main();
another_main_code : Code
another_main_code = block Codes.none

another_main : faults_of (of (star_main ∷ []) another_main_code) ≡ at 2 mismatch ∷ []
unfolding another_main_code
another_main = let s : (w : Whole) → stmt w (code another_main_code) ≡ part w another_main_code = λ w. parted w another_main_code in rw (s) refl
