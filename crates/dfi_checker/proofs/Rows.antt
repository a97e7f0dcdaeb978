-- Lines of a module, and places where changes of it break rules, by computation.
use Rattle.std.proofs.Common.{◌≡◌, ℕ, zero, suc, ◌≤◌, Bool, true, false, Some, None, List, [], ◌∷◌, ◌++◌, take, inl, refl, sym, ap, subst, arith}
use Rattle.std.specs.Prelude.{pos, count_by}
use Rattle.std.specs.List.{range_with_len}
use Rattle.dfi_base.specs.declared.numbers.Point.{Point}
use Rattle.tac_ir.specs.declared.code.Code.{Code}
use Rattle.tac_ir.specs.declared.code.Shape.{Shape}
use Rattle.tac_ir.specs.declared.code.Lined.{Lined}
use Rattle.tac_ir.specs.declared.code.Place.{Place}
use Rattle.tac_ir.specs.declared.code.Instr.{Instr}
use Rattle.tac_ir.specs.declared.module.Size.{Size}
use Rattle.tac_ir.specs.declared.module.Key.{Key}
use Rattle.tac_ir.specs.declared.module.PointsRow.{PointsRow}
use Rattle.tac_ir.specs.declared.module.ReachRow.{ReachRow}
use Rattle.tac_ir.specs.Module.{Module}
use Rattle.tac_ir.specs.Places.{is_leaf}
use Rattle.tac_ir.specs.Counts.{nodes_in}
use Rattle.tac_ir.specs.Nodes.{node_shapes_in}
use Rattle.flow_rules.specs.Tables.{points_by, reach_in}
use Rattle.flow_rules.specs.Touches.{touches, made}
use Rattle.flow_rules.specs.InSet.{InSet}
use Rattle.flow_rules.specs.PointsClosed.{PointsClosedAt}
use Rattle.flow_rules.specs.ReachClosed.{ReachClosedAt}
use Rattle.flow_rules.specs.ClassOf.{are_alike, is_least}
use Rattle.flow_rules.specs.declared.rule.Rule.{Rule}
use Rattle.dfi_checker.specs.TextPlace.{line_of, shape, global, function_count, main_number, function, instruction, class_count, class, set_count, set, points_row, reach_row}
use Rattle.dfi_checker.specs.BreaksForm.{bad_instruction, bad_last}
use Rattle.dfi_checker.specs.Breaks.{IsBrokenAt, form, points, reach, sets, classes}

-- A store past the end of an array: `int a[4]; int b; main() { b = 3; a[3] = 9; putint(b); }` over three lines.

abbrev at : ℕ → Instr → Lined
at line instr = record { line = line; instr = instr }

abbrev plain : ℕ → Place
plain v = Place.Global v []

-- with the variable of the first `set`, and the words of the `index`
abbrev instrs : ℕ → ℕ → List Lined
instrs v words =
    at 4 (Instr.Const 0 (pos 3)) ∷ at 4 (Instr.Set (plain v) 0 3) ∷ at 5 (Instr.Addr 1 (plain 0)) ∷ at 5 (Instr.Decay 2 1 2)
    ∷ at 5 (Instr.Const 3 (pos 3)) ∷ at 5 (Instr.Index 4 2 3 words) ∷ at 5 (Instr.Const 5 (pos 9)) ∷ at 5 (Instr.Store 4 5 4)
    ∷ at 6 (Instr.Get 6 (plain 1) 1) ∷ at 6 (Instr.Out 6) ∷ at 7 (Instr.Const 7 (pos 0)) ∷ at 7 (Instr.Ret 7 None) ∷ []

abbrev code_of : List Lined → Code
code_of lines = record {
  shapes = Shape.Int ∷ Shape.Ptr ∷ Shape.Array 4 0 ∷ [];
  globals = record { shape = 2; start = pos 0; line = 1 } ∷ record { shape = 0; start = pos 0; line = 2 } ∷ [];
  sites = [];
  main = 0;
  funs = record { params = 0; vars = []; code = lines; line = 3 } ∷ [];
}

abbrev pub point : ℕ → Point
point i = record { fun = 0; at = i }

abbrev row : ℕ → List ℕ → ReachRow
row i facts = record { point = point i; facts = facts }

abbrev points_to : ℕ → List ℕ → PointsRow
points_to t nodes = record { key = Key.Temp 0 t; nodes = nodes }

-- with the row of the point behind the store
abbrev reach_rows : List ℕ → List ReachRow
reach_rows stored =
    row 0 (0 ∷ 1 ∷ []) ∷ row 1 (0 ∷ 1 ∷ []) ∷ row 2 (0 ∷ 2 ∷ []) ∷ row 3 (0 ∷ 2 ∷ []) ∷ row 4 (0 ∷ 2 ∷ []) ∷ row 5 (0 ∷ 2 ∷ []) ∷ row 6 (0 ∷ 2 ∷ [])
    ∷ row 7 (0 ∷ 2 ∷ []) ∷ row 8 stored ∷ row 9 (0 ∷ 2 ∷ 3 ∷ []) ∷ row 10 (0 ∷ 2 ∷ 3 ∷ []) ∷ row 11 (0 ∷ 2 ∷ 3 ∷ []) ∷ []

abbrev pub module_with : List Lined → List ℕ → List PointsRow → List ReachRow → Module
module_with lines numbered rows reaching = record {
  size = Size.Small;
  code = code_of lines;
  classes = numbered;
  sets = (3 ∷ []) ∷ [];
  removed = false ∷ [];
  points = rows;
  reach = reaching;
}

abbrev pointing : ℕ → List PointsRow
pointing n = points_to 1 (0 ∷ []) ∷ points_to 2 (n ∷ []) ∷ points_to 4 (1 ∷ []) ∷ []

abbrev good_classes : List ℕ
good_classes = 1 ∷ 1 ∷ 2 ∷ 1 ∷ []

abbrev pub sample : Module
sample = module_with (instrs 1 1) good_classes (pointing 1) (reach_rows (0 ∷ 2 ∷ 3 ∷ []))

-- Its lines.

last_shape : line_of sample (shape 2) ≡ 5
last_shape = refl

last_global : line_of sample (global 1) ≡ 8
last_global = refl

functions : line_of sample function_count ≡ 10
functions = refl

main_function : line_of sample main_number ≡ 11
main_function = refl

one_function : line_of sample (function 0) ≡ 12
one_function = refl

second_instruction : line_of sample (instruction (point 1)) ≡ 14
second_instruction = refl

last_instruction : line_of sample (instruction (point 11)) ≡ 24
last_instruction = refl

definitions : line_of sample class_count ≡ 25
definitions = refl

third_class : line_of sample (class 3) ≡ 28
third_class = refl

reads : line_of sample set_count ≡ 30
reads = refl

only_set : line_of sample (set 1) ≡ 31
only_set = refl

second_points : line_of sample (points_row 1) ≡ 34
second_points = refl

ninth_reach : line_of sample (reach_row 8) ≡ 45
ninth_reach = refl

-- Changes of it, and where they break rules.

-- a `set` of an array
abbrev of_array : Module
of_array = module_with (instrs 0 1) good_classes (pointing 1) (reach_rows (0 ∷ 2 ∷ 3 ∷ []))

abbrev IsFalse : Bool → Type 0
IsFalse true = ⊥
IsFalse false = Unit {0}

pub false_is : {A : Type 0} → false ≡ true → A
false_is e = absurd (subst IsFalse e tt)

pub some_is : {x y : ℕ} → Some x ≡ Some y → x ≡ y
some_is {x} e = ap (λ o. elim o [ Some z ↦ z | None ↦ x ]) e

set_of_array : IsBrokenAt of_array Rule.Form 14
set_of_array = record {
  place = instruction (point 1);
  broken = form (instruction (point 1)) (bad_instruction (point 1) (omega arith) (λ good. no_leaf good.names));
  line_is = refl;
}
  where
    no_leaf : (s : ℕ) × (Some 2 ≡ Some s) × (is_leaf of_array.code s ≡ true) → ⊥
    no_leaf (s, e, leaf) = false_is (subst (λ n. is_leaf of_array.code n ≡ true) (sym (some_is e)) leaf)

-- an `index` of no words
no_words : IsBrokenAt (module_with (instrs 1 0) good_classes (pointing 1) (reach_rows (0 ∷ 2 ∷ 3 ∷ []))) Rule.Form 18
no_words = record {
  place = instruction (point 5);
  broken = form (instruction (point 5)) (bad_instruction (point 5) (omega arith) (λ good. omega (arith, good.names)));
  line_is = refl;
}

-- an `out` in the place of the last return
no_return : IsBrokenAt (record sample { code = code_of (take 11 (instrs 1 1) ++ at 7 (Instr.Out 7) ∷ []) }) Rule.Form 24
no_return = record {
  place = instruction (point 11);
  broken = form (instruction (point 11)) (bad_last 0 11 refl (λ last. last));
  line_is = refl;
}

-- the first item of an array, pointed to as the array
abbrev misled : Module
misled = module_with (instrs 1 1) good_classes (pointing 0) (reach_rows (0 ∷ 2 ∷ 3 ∷ []))

decay_misled : IsBrokenAt misled Rule.Points 16
unfolding node_shapes_in
decay_misled = record {
  place = instruction (point 3);
  broken = points (point 3) (omega arith) (λ closed. open_rule closed);
  line_is = refl;
}
  where
    open_rule : PointsClosedAt misled.code (touches misled.code misled.points) (points_by misled.points) (point 3) → ⊥
    open_rule closed = false_is (closed.values 0 refl refl)

-- a store that reaches no further
abbrev lost : Module
lost = module_with (instrs 1 1) good_classes (pointing 1) (reach_rows (0 ∷ 2 ∷ []))

store_lost : IsBrokenAt lost Rule.Reach 20
unfolding node_shapes_in nodes_in
store_lost = record {
  place = instruction (point 7);
  broken = reach (point 7) (omega arith) (λ closed. open_rule (closed 1));
  line_is = refl;
}
  where
    open_rule : ReachClosedAt lost.code (touches lost.code lost.points) (reach_in lost) 1 (point 7) → ⊥
    open_rule closed = false_is (closed.makes 4 (point 8) refl refl (0, omega arith, refl))

-- a read that allows no definition: the first `set` reaches it
abbrev empty_set : Module
empty_set = record sample { sets = [] ∷ [] }

set_allowed : InSet empty_set.code (touches empty_set.code empty_set.points) (reach_in empty_set) 1 3
unfolding node_shapes_in nodes_in
set_allowed = record { at = point 8; read = refl; leaf = 2; reads = refl; writes = made (point 1) refl refl; comes = inl refl }

read_forbids : IsBrokenAt empty_set Rule.Sets 31
read_forbids = record {
  place = set 1;
  broken = sets 0 3 (omega arith) (λ same. false_is (same.1 set_allowed));
  line_is = refl;
}

-- a definition in a class that is not its own
abbrev mixed : Module
mixed = module_with (instrs 1 1) (1 ∷ 1 ∷ 1 ∷ 1 ∷ []) (pointing 1) (reach_rows (0 ∷ 2 ∷ 3 ∷ []))

third_mixed : IsBrokenAt mixed Rule.Classes 28
third_mixed = record {
  place = class 3;
  broken = classes 3 (omega arith, omega arith) (λ is. other is.least is.low is.high is.alike is.number);
  line_is = refl;
}
  where
    other : (least : ℕ) → 1 ≤ least → least ≤ 3 → are_alike mixed.sets least 3 ≡ true → 1 ≡ count_by (is_least mixed.sets) (range_with_len 1 least) → ⊥
    other zero low high alike number = omega (arith, low)
    other (suc zero) low high alike number = false_is alike
    other (suc (suc zero)) low high alike number = false_is alike
    other (suc (suc (suc zero))) low high alike number = omega (arith, number)
    other (suc (suc (suc (suc n)))) low high alike number = omega (arith, high)
