-- The globals that a walk over a program gathers are those of its items.
use Rattle.std.proofs.Common.{◌≡◌, ℤ, Bool, true, false, not, is_some, List, [], ◌∷◌, ◌++◌, map, nat_abs, Option, Some, None, Ok, Err, refl, ap, sym, ◌∙◌, append_assoc}
use Rattle.std.proofs.lemmas.List.{append-nil}
use Rattle.dfi_base.specs.declared.numbers.Line.{Line}
use Rattle.c_ast.specs.LineOf.{line_of_base}
use Rattle.c_ast.specs.declared.ident.Ident.{Ident}
use Rattle.c_ast.specs.declared.decl.Base.{Base}
use Rattle.c_ast.specs.declared.decl.Decl.{Decl}
use Rattle.c_ast.specs.declared.decl.DeclItem.{DeclItem}
use Rattle.c_ast.specs.declared.decl.Declarator.{Declarator}
use Rattle.c_ast.specs.declared.decl.ProtoParam.{ProtoParam}
use Rattle.c_ast.specs.declared.decl.ProtoParams.{ProtoParams}
use Rattle.c_ast.specs.declared.program.Field.{Field}
use Rattle.c_ast.specs.declared.program.StructDef.{StructDef}
use Rattle.c_ast.specs.declared.program.Proto.{Proto}
use Rattle.c_ast.specs.declared.program.Item.{Item}
use Rattle.c_typed.specs.declared.fault.TypeFault.{TypeFault}
use Rattle.c_typed.specs.declared.types.ObjectType.{ObjectType}
use Rattle.c_typed.specs.declared.program.Global.{Global}
use Rattle.c_typed.specs.declared.program.Function.{Function}
use Rattle.c_types.specs.declared.outline.Outline.{Outline}
use Rattle.c_types.specs.declared.known.Declared.{Declared}
use Rattle.c_types.specs.declared.known.Known.{Known}
use Rattle.c_typed.specs.Whole.{Whole}
use Rattle.c_typed.specs.Faults.{Rule, twice, mismatch}
use Rattle.c_typed.specs.Decls.{is_scalar, has_items, by_value, joined_lists}
use Rattle.c_typed.specs.Programs as programs
use Rattle.c_typed.specs.Programs.{start_of, globals_by}
use Rattle.c_types.specs.tools.Tables.{looked}
use Rattle.c_types.specs.tools.Steps.{Found, ◌>>=◌, broken, unless_kept, each, every, if_some}
use Rattle.c_types.specs.tools.Outlines as outlines
use Rattle.c_types.specs.tools.Outlines.{base_walk}
use Rattle.c_types.specs.tools.DeclWalk as decls
use Rattle.c_types.specs.tools.DeclWalk.{declarator_rule, nameless_walk, named_walk, proto_parameter_walk, proto_params_walk}
use Rattle.c_types.specs.tools.KnownSteps.{entered, exited, declare_local}
use Rattle.c_types.specs.tools.ProgramSteps.{struct_begun, field_declared, struct_ended, global_declared, prototype_declared}
use Rattle.c_types.specs.tools.ProgramWalk as walk
use Rattle.c_types.specs.tools.ProgramWalk.{started, global_by, global_item_walk, field_item_walk, field_line_walk, fields_walk, struct_walk, global_decl_walk, function_walk, proto_scope_walk, proto_walk, item_walk, items_walk}
use Rattle.c_types.proofs.Outlined.{IsOutline, base_same}
use Rattle.c_types.proofs.Walking.{ok_is, err_ok}
use Rattle.c_types.proofs.FunctionAnswers.{function_declares}

-- what a step came from
came_from : {A B : Type 0} (r : Found A) (f : A → Found B) (b : B) → (r >>= f) ≡ Ok b → (a : A) × (r ≡ Ok a) × (f a ≡ Ok b)
came_from (Ok a) f b e = (a, refl, e)
came_from (Err x) f b e = absurd (err_ok e)

was_kept : {A : Type 0} (t : Bool) (rule : Rule) (line : Line) (f : Found A) (a : A) → unless_kept t rule line f ≡ Ok a → f ≡ Ok a
was_kept true rule line f a e = e
was_kept false rule line f a e = absurd (err_ok e)

-- A walk that declares no global.
abbrev globals : Known → List Global
globals k = k.declared.globals

abbrev Keeps : {A : Type 0} → Known → Found (A × Known) → Type 0
Keeps {A} k r = (s : A × Known) → r ≡ Ok s → globals s.1 ≡ globals k

every_keeps : {X : Type 0} (step : X → Known → Found ((Unit {0}) × Known)) → ((x : X) (k : Known) → Keeps k (step x k)) → (xs : List X) (k : Known) → Keeps k (every step xs k)
every_keeps step keeps [] k s e = sym (ap (λ (s : _ × Known). globals s.1) (ok_is e))
every_keeps step keeps (x ∷ xs) k s e =
    let t = came_from (step x k) (λ t. every step xs t.1) s e in
    every_keeps step keeps xs t.0.1 s t.2 ∙ keeps x k t.0 t.1

field_keeps : (o : Outline) (b : Base) (d : Declarator) (k : Known) → Keeps k (field_item_walk o b d k)
field_keeps o b d k s e =
    let t = outlines.declared_type o b d in
    let u = came_from (declarator_rule (walk.field_first k d) d.line (has_items t.lengths) (walk.field_fault o k d.name t)) (λ _. Ok (tt, field_declared o d.name t k)) s e in
    sym (ap (λ (s : _ × Known). globals s.1) (ok_is u.2))

line_keeps : (o : Outline) (f : Field) (k : Known) → Keeps k (field_line_walk o f k)
line_keeps o f k s e =
    let t = came_from (base_walk o k (by_value f.items) f.base) (λ _. every (field_item_walk o f.base) f.items k) s e in
    every_keeps (field_item_walk o f.base) (field_keeps o f.base) f.items k s t.2

struct_keeps : (o : Outline) (d : StructDef) (k : Known) → Keeps k (struct_walk o d k)
struct_keeps o d k s e =
    let rest = was_kept (not (is_some (looked k.declared.tags d.tag.name))) twice d.tag.line (fields_walk o d.fields (struct_begun k) >>= (λ (s : (Unit {0}) × Known). Ok (tt {0}, struct_ended d.tag.name s.1))) s e in
    let t = came_from (fields_walk o d.fields (struct_begun k)) (λ s. Ok (tt, struct_ended d.tag.name s.1)) s rest in
    sym (ap (λ (s : _ × Known). globals s.1) (ok_is t.2)) ∙ every_keeps (field_line_walk o) (line_keeps o) d.fields (struct_begun k) t.0 t.1

-- Prototypes.
nameless_keeps : (o : Outline) (p : ProtoParam) (t : ObjectType) (k : Known) → Keeps k (nameless_walk o k p t)
nameless_keeps o p t k s e =
    let u = came_from (decls.first_rule o k p.base p.stars p.brackets) (λ _. unless_kept (is_scalar t) mismatch (line_of_base p.base) (Ok (tt, k))) s e in
    let v = was_kept (is_scalar t) mismatch (line_of_base p.base) (Ok (tt, k)) s u.2 in
    sym (ap (λ (s : _ × Known). globals s.1) (ok_is v))

named_keeps : (o : Outline) (p : ProtoParam) (t : ObjectType) (x : Ident) (k : Known) → Keeps k (named_walk o k p t x)
named_keeps o p t x k s e =
    let l = declare_local o x t k in
    let u = came_from (decls.first_rule o k p.base p.stars p.brackets) (λ _. decls.no_fault (decls.parameter_fault k x t) >>= (λ _. Ok (tt, l))) s e in
    let v = came_from (decls.no_fault (decls.parameter_fault k x t)) (λ _. Ok (tt, l)) s u.2 in
    sym (ap (λ (s : _ × Known). globals s.1) (ok_is v.2))

by_name_keeps : (o : Outline) (p : ProtoParam) (t : ObjectType) (x : Option Ident) (k : Known)
    → Keeps k (elim x as (λ x. Found ((Unit {0}) × Known)) [ None ↦ nameless_walk o k p t | Some x ↦ named_walk o k p t x ])
by_name_keeps o p t None k = nameless_keeps o p t k
by_name_keeps o p t (Some x) k = named_keeps o p t x k

params_keep : (o : Outline) (ps : ProtoParams) (k : Known) → Keeps k (proto_params_walk o ps k)
params_keep o ProtoParams.Empty k s e = sym (ap (λ (s : _ × Known). globals s.1) (ok_is e))
params_keep o (ProtoParams.Void line) k s e = sym (ap (λ (s : _ × Known). globals s.1) (ok_is e))
params_keep o (ProtoParams.List ps) k s e = every_keeps (proto_parameter_walk o) (λ p k. by_name_keeps o p (decls.parameter_type o p.base p.stars p.brackets) p.name k) ps k s e

proto_keeps : (o : Outline) (p : Proto) (k : Known) → Keeps k (proto_walk o p k)
proto_keeps o p k s e =
    let named = walk.proto_name_walk o k p (walk.defined o p.name.name) in
    let begun = entered (prototype_declared p.name.name k) in
    let t = came_from (walk.result_walk o k p.result) (λ _. named >>= (λ _. proto_scope_walk o p k)) s e in
    let u = came_from named (λ _. proto_scope_walk o p k) s t.2 in
    let v = came_from (proto_params_walk o p.params begun) (λ s. Ok (tt, exited s.1)) s u.2 in
    sym (ap (λ (s : _ × Known). globals s.1) (ok_is v.2)) ∙ params_keep o p.params begun v.0 v.1

-- Globals.
start_there : (first : Bool) (line : Line) (holds : Bool) (v : Option ℤ) (fault : Option TypeFault) (n : ℤ) → started first line holds v fault ≡ Ok n → v ≡ Some n
start_there first line holds (Some m) fault n e =
    let t = came_from (declarator_rule first line holds fault) (λ _. Ok m) n e in ap (λ m. Some m) (ok_is t.2)
start_there first line holds None fault n e =
    let t = came_from (declarator_rule first line false fault) (λ _. broken mismatch line) n e in absurd (err_ok t.2)

abbrev one_global : Declarator → ObjectType → Option ℤ → List Global
one_global d t v = elim v [ None ↦ [] | Some k ↦ record { line = d.name.line; object = t; start = k } ∷ [] ]

global_gives : (o : Outline) (i : DeclItem) (d : Declarator) (t : ObjectType) (k : Known) (s : (Unit {0}) × Known) → global_by o i d t k ≡ Ok s
    → globals s.1 ≡ globals k ++ one_global d t (start_of t i.value)
global_gives o i d t k s e =
    let u = came_from (started (walk.global_first o k d) d.line (has_items t.lengths) (start_of t i.value) (walk.global_fault o k d.name t)) (λ n. Ok (tt, global_declared o d.name t n k)) s e in
    let there = start_there (walk.global_first o k d) d.line (has_items t.lengths) (start_of t i.value) (walk.global_fault o k d.name t) u.0 u.1 in
    sym (ap (λ (s : _ × Known). globals s.1) (ok_is u.2)) ∙ ap (λ v. globals k ++ one_global d t v) (sym there)

module _ (w : Whole) (o : Outline) (is_outline : IsOutline w o) where
  abbrev own : Base → DeclItem → List Global
  own b i = programs.started w.tags b i i.declarator

  item_gives : (b : Base) (i : DeclItem) (k : Known) (s : (Unit {0}) × Known) → global_item_walk o b i k ≡ Ok s → globals s.1 ≡ globals k ++ own b i
  item_gives b i k s e =
      let d = i.declarator in
      global_gives o i d (outlines.declared_type o b d) k s e
      ∙ ap (λ b. globals k ++ one_global d (record { base = b; stars = d.stars; lengths = map nat_abs d.lengths }) (start_of (record { base = b; stars = d.stars; lengths = map nat_abs d.lengths }) i.value)) (base_same w o is_outline b)

  items_give : (b : Base) (is : List DeclItem) (k : Known) (s : (Unit {0}) × Known) → every (global_item_walk o b) is k ≡ Ok s → globals s.1 ≡ globals k ++ joined_lists (map (own b) is)
  items_give b [] k s e = sym (ap (λ (s : _ × Known). globals s.1) (ok_is e)) ∙ sym (append-nil (globals k))
  items_give b (i ∷ is) k s e =
      let t = came_from (global_item_walk o b i k) (λ t. every (global_item_walk o b) is t.1) s e in
      items_give b is t.0.1 s t.2 ∙ ap (λ gs. gs ++ joined_lists (map (own b) is)) (item_gives b i k t.0 t.1) ∙ append_assoc (globals k) (own b i) (joined_lists (map (own b) is))

  decl_gives : (d : Decl) (k : Known) (s : (Unit {0}) × Known) → global_decl_walk o d k ≡ Ok s → globals s.1 ≡ globals k ++ joined_lists (map (own d.base) d.items)
  decl_gives d k s e =
      let t = came_from (base_walk o k (by_value (map (λ i. i.declarator) d.items)) d.base) (λ _. every (global_item_walk o d.base) d.items k) s e in
      items_give d.base d.items k s t.2

  -- an item, and all of them
  abbrev of_item : Item → List Global
  of_item (Item.Decl d) = joined_lists (map (own d.base) d.items)
  of_item _ = []

  first_item : (i : Item) (is : List Item) → of_item i ++ globals_by w.tags is ≡ globals_by w.tags (i ∷ is)
  first_item (Item.Struct d) is = refl
  first_item (Item.Decl d) is = refl
  first_item (Item.Function f) is = refl
  first_item (Item.Proto p) is = refl

  without : (k : Known) (f : Found ((Unit {0}) × Known)) (s : Option Function × Known) → walk.no_function f ≡ Ok s → (t : (Unit {0}) × Known) × (f ≡ Ok t) × (globals s.1 ≡ globals t.1)
  without k (Ok t) s e = (t, refl, sym (ap (λ (s : _ × Known). globals s.1) (ok_is e)))
  without k (Err x) s e = absurd (err_ok e)

  one_gives : (i : Item) (k : Known) (s : Option Function × Known) → item_walk o i k ≡ Ok s → globals s.1 ≡ globals k ++ of_item i
  one_gives (Item.Struct d) k s e = let t = without k (struct_walk o d k) s e in t.2 ∙ struct_keeps o d k t.0 t.1 ∙ sym (append-nil (globals k))
  one_gives (Item.Decl d) k s e = let t = without k (global_decl_walk o d k) s e in t.2 ∙ decl_gives d k t.0 t.1
  one_gives (Item.Proto p) k s e = let t = without k (proto_walk o p k) s e in t.2 ∙ proto_keeps o p k t.0 t.1 ∙ sym (append-nil (globals k))
  one_gives (Item.Function f) k s e =
      let t = came_from (function_walk o f k) (λ (s : Function × Known). Ok (Some s.0, s.1)) s e in
      sym (ap (λ (s : _ × Known). globals s.1) (ok_is t.2)) ∙ ap (λ (d : Declared). d.globals) (function_declares w o is_outline f k t.0 t.1) ∙ sym (append-nil (globals k))

  pub all_give : (is : List Item) (k : Known) (s : List Function × Known) → items_walk o is k ≡ Ok s → globals s.1 ≡ globals k ++ globals_by w.tags is
  all_give [] k s e = sym (ap (λ (s : _ × Known). globals s.1) (ok_is e)) ∙ sym (append-nil (globals k))
  all_give (i ∷ is) k s e =
      let t = came_from (item_walk o i k) (λ t. each if_some (item_walk o) is t.1 >>= (λ u. Ok (if_some t.0 ++ u.0, u.1))) s e in
      let u = came_from (each if_some (item_walk o) is t.0.1) (λ u. Ok (if_some t.0.0 ++ u.0, u.1)) s t.2 in
      sym (ap (λ (s : _ × Known). globals s.1) (ok_is u.2)) ∙ all_give is t.0.1 u.0 u.1
      ∙ ap (λ gs. gs ++ globals_by w.tags is) (one_gives i k t.0 t.1) ∙ append_assoc (globals k) (of_item i) (globals_by w.tags is) ∙ ap (λ gs. globals k ++ gs) (first_item i is)
