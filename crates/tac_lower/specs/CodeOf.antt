-- The three-address code of a typed program.
use Rattle.std.specs.Prelude.{ℕ, suc, List, [], ◌∷◌, ◌++◌, map, length, Option, Some, None}
use Rattle.c_typed.specs.Typed.{Typed}
use Rattle.c_typed.specs.declared.types.ObjectType.{ObjectType}
use Rattle.c_typed.specs.declared.program.Function.{Function}
use Rattle.c_typed.specs.declared.program.Global.{Global}
use Rattle.tac_ir.specs.declared.code.Code.{Code}
use Rattle.tac_ir.specs.declared.code.Fun.{Fun}
use Rattle.tac_ir.specs.declared.code.Global.{Global as CodeGlobal}
use Rattle.tac_ir.specs.declared.code.Site.{Site}
use Rattle.tac_ir.specs.declared.code.Shape.{Shape}
use Rattle.tac_ir.specs.declared.code.Instr.{Instr}
use Rattle.tac_ir.specs.declared.code.Lined.{Lined}
use Rattle.tac_lower.specs.declared.draft.Numbers.{Numbers}
use Rattle.tac_lower.specs.declared.draft.Draft.{Draft}
use Rattle.tac_lower.specs.Values.{sizes_in}
use Rattle.tac_lower.specs.Functions.{drafts_from}
use Rattle.tac_lower.specs.Shapes.{shapes_of, shape_number}

abbrev pub sizes_of : Typed → List ℕ
sizes_of t = sizes_in t.structs

-- each global has a starting definition, from 1 on
abbrev pub first_numbers : Typed → Numbers
first_numbers t = record { temp = 0; def = suc (length t.globals); read = 1; at = 0 }

abbrev pub drafts_of : Typed → List (List Draft)
drafts_of t = drafts_from (sizes_of t) t.main 0 (first_numbers t) t.functions

abbrev pub all_of : {A : Type 0} → List (List A) → List A
all_of [] = []
all_of (xs ∷ rest) = xs ++ all_of rest

-- a type, and the line of what needs it
pub record Item : Type 0 where
  pub line : ℕ
  pub object : ObjectType

abbrev pub item_at : ℕ → Option ObjectType → List Item
item_at line None = []
item_at line (Some t) = record { line = line; object = t } ∷ []

-- the item of a heap site
abbrev pub site_by : ℕ → Option ObjectType → Instr → List Item
site_by line object (Instr.New to a site) = item_at line object
site_by line object _ = []

-- the type whose shape an instruction names
abbrev pub need_by : ℕ → Option ObjectType → Instr → List Item
need_by line object (Instr.New to a site) = []
need_by line object _ = item_at line object

abbrev pub sites_in : List Draft → List Item
sites_in [] = []
sites_in (d ∷ ds) = site_by d.line d.object d.instr ++ sites_in ds

abbrev pub needs_in : List Draft → List Item
needs_in [] = []
needs_in (d ∷ ds) = need_by d.line d.object d.instr ++ needs_in ds

abbrev pub variables_in : List Function → List ObjectType
variables_in [] = []
variables_in (f ∷ fs) = map (λ v. v.object) f.variables ++ variables_in fs

-- The variables of all functions come before any site, all sites before the other instructions.
abbrev pub types_needed : Typed → List Draft → List ObjectType
types_needed t drafts =
    map (λ g. g.object) t.globals ++ variables_in t.functions ++ map (λ i. i.object) (sites_in drafts) ++ map (λ i. i.object) (needs_in drafts)

-- Drafts with the numbers of their shapes.
abbrev pub shaped : (ObjectType → ℕ) → Instr → Option ObjectType → Instr
shaped shape (Instr.Field to a s k) (Some t) = Instr.Field to a (shape t) k
shaped shape (Instr.Decay to a s) (Some t) = Instr.Decay to a (shape t)
shaped shape i _ = i

abbrev pub finished : (ObjectType → ℕ) → Draft → Lined
finished shape d = record { line = d.line; instr = shaped shape d.instr d.object }

abbrev pub fun_of : (ObjectType → ℕ) → Function → List Draft → Fun
fun_of shape f drafts = record {
  params = f.parameters;
  vars = map (λ v. shape v.object) f.variables;
  code = map (finished shape) drafts;
  line = f.line.0;
}

abbrev pub funs_of : (ObjectType → ℕ) → List Function → List (List Draft) → List Fun
funs_of shape (f ∷ fs) (ds ∷ rest) = fun_of shape f ds ∷ funs_of shape fs rest
funs_of shape _ _ = []

abbrev pub global_of : (ObjectType → ℕ) → Global → CodeGlobal
global_of shape g = record { shape = shape g.object; start = g.start; line = g.line.0 }

abbrev pub site_of : (ObjectType → ℕ) → Item → Site
site_of shape i = record { shape = shape i.object; line = i.line }

abbrev pub code_by : Typed → List (List Draft) → List Shape → (ObjectType → ℕ) → Code
code_by t drafts shapes shape = record {
  shapes = shapes;
  globals = map (global_of shape) t.globals;
  sites = map (site_of shape) (sites_in (all_of drafts));
  main = t.main;
  funs = funs_of shape t.functions drafts;
}

abbrev pub code_with : Typed → List (List Draft) → Code
code_with t drafts =
    let shapes = shapes_of t.structs (types_needed t (all_of drafts)) in
    code_by t drafts shapes (shape_number t.structs shapes)

abbrev pub code_of : Typed → Code
code_of t = code_with t (drafts_of t)
