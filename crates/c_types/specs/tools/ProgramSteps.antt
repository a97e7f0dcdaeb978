-- How what the program has declared changes from item to item. A tool of proof.
use Rattle.std.specs.Prelude.{ℕ, ℤ, ◌+◌, Bool, false, nat_eq, [], ◌∷◌, ◌++◌, length, Option, Some, None}
use Rattle.c_ast.specs.declared.ident.Ident.{Ident}
use Rattle.c_typed.specs.declared.types.ObjectType.{ObjectType}
use Rattle.c_types.specs.declared.table.Table.{Table}
use Rattle.c_types.specs.declared.scopes.Home.{Home}
use Rattle.c_types.specs.declared.scopes.Scopes.{Scopes}
use Rattle.c_types.specs.declared.known.Frame.{Frame}
use Rattle.c_types.specs.declared.known.Declared.{Declared}
use Rattle.c_types.specs.declared.known.Known.{Known}
use Rattle.c_types.specs.declared.outline.Outline.{Outline}
use Rattle.c_types.specs.tools.Tables.{looked, put}
use Rattle.c_types.specs.tools.Outlines.{capped, words_of}
use Rattle.c_types.specs.tools.KnownSteps.{opened, bind}

-- Before the first item.
abbrev pub no_names : Table
no_names = record { entries = [] }

abbrev pub no_scopes : Scopes
no_scopes = record { bindings = []; starts = 0 ∷ []; newest = no_names }

abbrev pub frame_of : Option ObjectType → Frame
frame_of result = record { result = result; variables = []; words = 1 }

abbrev pub nothing_declared : Declared
nothing_declared = record {
  tags = no_names;
  fields = no_names;
  structs = 0;
  field_words = 0;
  globals = [];
  global_words = 0;
  global_names = no_names;
  functions = 0;
  function_names = no_names;
  prototype_names = no_names;
}

abbrev pub nothing_known : Known
nothing_known = record { scopes = no_scopes; frame = frame_of None; declared = nothing_declared }

-- Structs: their fields are told by the number of structs that have begun.
abbrev pub with_fields : Table → ℕ → ℕ → Known → Known
with_fields fields structs words k =
    let d = k.declared in
    record {
      scopes = k.scopes;
      frame = k.frame;
      declared = record {
        tags = d.tags;
        fields = fields;
        structs = structs;
        field_words = words;
        globals = d.globals;
        global_words = d.global_words;
        global_names = d.global_names;
        functions = d.functions;
        function_names = d.function_names;
        prototype_names = d.prototype_names;
      };
    }

abbrev pub struct_begun : Known → Known
struct_begun k = with_fields k.declared.fields (k.declared.structs + 1) 0 k

abbrev pub is_number : ℕ → Option ℕ → Bool
is_number n None = false
is_number n (Some k) = nat_eq k n

-- the struct round this place has a field of this name
abbrev pub is_field : Known → ℕ → Bool
is_field k x = is_number k.declared.structs (looked k.declared.fields x)

abbrev pub field_declared : Outline → Ident → ObjectType → Known → Known
field_declared o x t k =
    with_fields (put x.name (Some k.declared.structs) k.declared.fields) k.declared.structs (capped (words_of o t + k.declared.field_words)) k

abbrev pub struct_ended : ℕ → Known → Known
struct_ended tag k =
    let d = k.declared in
    record {
      scopes = k.scopes;
      frame = k.frame;
      declared = record {
        tags = put tag (Some d.structs) d.tags;
        fields = d.fields;
        structs = d.structs;
        field_words = d.field_words;
        globals = d.globals;
        global_words = d.global_words;
        global_names = d.global_names;
        functions = d.functions;
        function_names = d.function_names;
        prototype_names = d.prototype_names;
      };
    }

-- Globals.
abbrev pub global_declared : Outline → Ident → ObjectType → ℤ → Known → Known
global_declared o x t start k =
    let d = k.declared in
    record {
      scopes = bind x.name Home.Global (length d.globals) t k.scopes;
      frame = k.frame;
      declared = record {
        tags = d.tags;
        fields = d.fields;
        structs = d.structs;
        field_words = d.field_words;
        globals = d.globals ++ record { line = x.line; object = t; start = start } ∷ [];
        global_words = capped (words_of o t + d.global_words);
        global_names = put x.name (Some (length d.globals)) d.global_names;
        functions = d.functions;
        function_names = d.function_names;
        prototype_names = d.prototype_names;
      };
    }

-- Functions: the parameters and the outermost block are one scope.
abbrev pub function_begun : ℕ → Option ObjectType → Known → Known
function_begun x result k =
    let d = k.declared in
    record {
      scopes = opened k.scopes;
      frame = frame_of result;
      declared = record {
        tags = d.tags;
        fields = d.fields;
        structs = d.structs;
        field_words = d.field_words;
        globals = d.globals;
        global_words = d.global_words;
        global_names = d.global_names;
        functions = d.functions + 1;
        function_names = put x (Some d.functions) d.function_names;
        prototype_names = d.prototype_names;
      };
    }

abbrev pub prototype_declared : ℕ → Known → Known
prototype_declared x k =
    let d = k.declared in
    record {
      scopes = k.scopes;
      frame = k.frame;
      declared = record {
        tags = d.tags;
        fields = d.fields;
        structs = d.structs;
        field_words = d.field_words;
        globals = d.globals;
        global_words = d.global_words;
        global_names = d.global_names;
        functions = d.functions;
        function_names = d.function_names;
        prototype_names = put x (Some d.functions) d.prototype_names;
      };
    }
