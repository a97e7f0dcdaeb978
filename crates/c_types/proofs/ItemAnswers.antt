-- What the walk finds of the items of a program is what the definition judges of them.
use Rattle.std.proofs.Common.{◌≡◌, List, [], ◌∷◌, length, Option, Some, Ok, Err, refl, ap, sym, subst}
use Rattle.c_ast.specs.declared.program.Function.{Function as SourceFunction}
use Rattle.c_ast.specs.declared.program.Item.{Item}
use Rattle.c_typed.specs.declared.program.Function.{Function}
use Rattle.c_types.specs.declared.outline.Outline.{Outline}
use Rattle.c_types.specs.declared.known.Known.{Known}
use Rattle.c_typed.specs.Whole.{Whole}
use Rattle.c_typed.specs.Parts.{Place}
use Rattle.c_typed.specs.Programs.{struct, global_decl, function_item, proto, item, text}
use Rattle.c_types.specs.tools.Steps.{Found, ◌>>=◌, each, one}
use Rattle.c_types.specs.tools.ProgramWalk.{struct_walk, global_decl_walk, function_walk, proto_walk, no_function, item_walk, items_walk}
use Rattle.c_types.proofs.BoundsPrograms.{inside_item}
use Rattle.c_types.proofs.Outlined.{IsOutline}
use Rattle.c_types.proofs.Walking.{Goes, ok_is, err_ok, goes_map, goes_in_turn, unvalued, in_list, flat, each_flat}
use Rattle.c_types.proofs.FunctionAnswers.{function_passes, function_declares}
use Rattle.c_types.proofs.ItemStands.{AtItem, FieldsBelow}
use Rattle.c_types.proofs.StructAnswers.{struct_found, struct_goes, struct_unvalued}
use Rattle.c_types.proofs.GlobalAnswers.{decl_found, decl_goes, decl_unvalued}
use Rattle.c_types.proofs.ProtoAnswers.{proto_found, proto_goes, proto_unvalued}

-- what an item defines, as a list
abbrev pub listed_item : Outline → Item → Known → Found (List Function × Known)
listed_item o i k = item_walk o i k >>= in_list

abbrev none_of : {A : Type 0} → A × Known → Found (List Function × Known)
none_of s = Ok ([], s.1)

nothing_defined : {A : Type 0} (f : Found ((Unit {0}) × Known)) (r : Found (A × Known)) → f ≡ unvalued r → (no_function f >>= in_list) ≡ (r >>= none_of)
nothing_defined f (Ok s) is = ap (λ f. no_function f >>= in_list) is
nothing_defined f (Err e) is = ap (λ f. no_function f >>= in_list) is

abbrev there : Function × Known → Found (Option Function × Known)
there s = Ok (Some s.0, s.1)

abbrev one_of : Function × Known → Found (List Function × Known)
one_of s = Ok (s.0 ∷ [], s.1)

one_defined : (r : Found (Function × Known)) → (r >>= there >>= in_list) ≡ (r >>= one_of)
one_defined (Ok s) = refl
one_defined (Err e) = refl

-- what all items define, as one list
pub items_flat : (o : Outline) (is : List Item) (k : Known) → items_walk o is k ≡ flat (each one (listed_item o) is k)
items_flat o is k = each_flat (item_walk o) is k

module _ (w : Whole) (o : Outline) (is_outline : IsOutline w o) (counted : length w.structs ≡ length w.tags) where
  behind_function : (f : SourceFunction) (k : Known) (r : Found (Function × Known)) (s : List Function × Known) → function_walk o f k ≡ r → (r >>= one_of) ≡ Ok s → FieldsBelow k.declared
      → FieldsBelow s.1.declared
  behind_function f k (Ok t) s found e below = subst (λ (l : Known). FieldsBelow l.declared) (ap (λ s. s.1) (ok_is e)) (subst FieldsBelow (sym (function_declares w o is_outline f k t found)) below)
  behind_function f k (Err x) s found e below = absurd (err_ok e)

  function_goes : (f : SourceFunction) (here : Place) (k : Known) → AtItem w here.before k → Goes (AtItem w) (function_item w f) here (function_walk o f k >>= one_of)
  function_goes f here k was =
      let passes = function_passes w o is_outline f here k was.outer in
      record {
        tells = passes.tells;
        stands = λ s e. record { outer = passes.stands s e; fields = behind_function f k (function_walk o f k) s refl e was.fields };
      }

  pub item_goes : (i : Item) (here : Place) (k : Known) → AtItem w here.before k → Goes (AtItem w) (item w i) here (listed_item o i k)
  item_goes (Item.Struct d) here k was =
      subst (Goes (AtItem w) (item w (Item.Struct d)) here) (sym (nothing_defined (struct_walk o d k) (struct_found o d k) (struct_unvalued o d k)))
      (goes_map (AtItem w) (λ _. []) (struct w d) here (struct_found o d k) (struct_goes w o is_outline d here k was))
  item_goes (Item.Decl d) here k was =
      subst (Goes (AtItem w) (item w (Item.Decl d)) here) (sym (nothing_defined (global_decl_walk o d k) (decl_found o d k) (decl_unvalued o d k)))
      (goes_map (AtItem w) (λ _. []) (global_decl w d) here (decl_found o d k) (decl_goes w o is_outline d here k was))
  item_goes (Item.Function f) here k was = subst (Goes (AtItem w) (item w (Item.Function f)) here) (sym (one_defined (function_walk o f k))) (function_goes f here k was)
  item_goes (Item.Proto p) here k was =
      subst (Goes (AtItem w) (item w (Item.Proto p)) here) (sym (nothing_defined (proto_walk o p k) (proto_found o p k) (proto_unvalued o p k)))
      (goes_map (AtItem w) (λ _. []) (proto w p) here (proto_found o p k) (proto_goes w o is_outline counted p here k was))

  pub text_goes : (is : List Item) (here : Place) (k : Known) → AtItem w here.before k → Goes (AtItem w) (text w is) here (each one (listed_item o) is k)
  text_goes is here k was = goes_in_turn (AtItem w) (item w) (listed_item o) (inside_item w) item_goes is here k was
