-- What interning leaves. (A tool of proof: no public clause names it.)
use Rattle.std.specs.Prelude.{◌≡◌, ℕ, ◌≤◌, suc, Bool, true, false, List, [], ◌∷◌, ◌++◌, Option, Some, slice_get, reverse, take, length}
use Rattle.c_typed.specs.declared.types.ObjectType.{ObjectType}
use Rattle.c_typed.specs.declared.program.Struct.{Struct}
use Rattle.c_typed.specs.declared.program.Function.{Function}
use Rattle.tac_ir.specs.declared.code.Shape.{Shape}
use Rattle.tac_ir.specs.declared.code.Instr.{Instr}
use Rattle.tac_ir.specs.declared.code.Lined.{Lined}
use Rattle.tac_ir.specs.declared.code.Fun.{Fun}
use Rattle.tac_lower.specs.declared.types.Interner.{Interner}
use Rattle.tac_lower.specs.Shapes.{Entry, Structs, struct_entry, shapes_from, shape_number}

-- a number of 32 bits for each
abbrev pub AreFew : List Shape → Type 0
AreFew shapes = length shapes ≤ 4294967296

-- so many structs, as those that come after them see them
abbrev pub first_structs : List Struct → ℕ → Structs
first_structs structs limit = struct_entry (reverse (take limit structs))

-- f has its shape among these: it adds none to them, whatever stands behind
pub record Stays (f : List Shape → Entry) (these : List Shape) (n : ℕ) : Type 0 where
  pub shapes : (more : List Shape) → (f (these ++ more)).shapes ≡ these ++ more
  pub number : (more : List Shape) → (f (these ++ more)).number ≡ n

-- the numbers of structs that are known stand
pub record IsKept (structs : List Struct) (known : List (Option ℕ)) (shapes : List Shape) : Type 0 where
  pub count : length known ≡ length structs
  pub each : (k n : ℕ) → slice_get known k ≡ Some (Some n) → Stays (first_structs structs (suc k) k) shapes n

pub record Entered {A : Type 0} (structs : List Struct) (to : List Shape → List Shape) (out : List Shape → A) (old new : Interner) (a : A) : Type 0 where
  pub shapes : new.shapes ≡ to old.shapes
  pub result : a ≡ out old.shapes
  pub kept : IsKept structs new.known.items new.shapes

-- one type by what enters it
abbrev pub Enters : List Struct → (List Shape → Entry) → Interner → Interner → ℕ → Type 0
Enters structs f old new n = Entered structs (λ shapes. (f shapes).shapes) (λ shapes. (f shapes).number) old new n

-- The shapes of these types are entered, and a is made with their numbers, which more shapes do not change.
pub record Interned {A : Type 0} (structs : List Struct) (types : List ObjectType) (make : (ObjectType → ℕ) → A) (old new : Interner) (a : A) : Type 0 where
  pub shapes : new.shapes ≡ shapes_from structs old.shapes types
  pub result : (more : List Shape) → a ≡ make (shape_number structs (new.shapes ++ more))
  pub kept : IsKept structs new.known.items new.shapes

-- Drafts.
abbrev pub is_new : Instr → Bool
is_new (Instr.New to a site) = true
is_new _ = false

abbrev pub with_shape : ℕ → Instr → Instr
with_shape n (Instr.Field to a s k) = Instr.Field to a n k
with_shape n (Instr.Decay to a s) = Instr.Decay to a n
with_shape n i = i

-- functions from the shapes of their variables and their lines
abbrev pub joined : List Function → List (List ℕ) → List (List Lined) → List Fun
joined (f ∷ fs) (vars ∷ rest) (code ∷ codes) = record { params = f.parameters; vars = vars; code = code; line = f.line.0 } ∷ joined fs rest codes
joined _ _ _ = []
