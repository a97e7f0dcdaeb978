-- What the walk finds of the declarations of a block is what the definition judges of them.
use Rattle.std.proofs.Common.{◌≡◌, List, map, nat_abs, Ok, Err, refl, ap, sym, ◌∙◌, subst}
use Rattle.c_ast.specs.declared.decl.Base.{Base}
use Rattle.c_ast.specs.declared.decl.Declarator.{Declarator}
use Rattle.c_ast.specs.declared.decl.Decl.{Decl}
use Rattle.c_ast.specs.declared.decl.DeclItem.{DeclItem}
use Rattle.c_typed.specs.declared.stmt.Stmt.{Stmt, roll-Stmt}
use Rattle.c_typed.specs.declared.stmt.Stmt.TheOpen.{Stmt-F}
use Rattle.c_types.specs.declared.outline.Outline.{Outline}
use Rattle.c_types.specs.declared.known.Known.{Known}
use Rattle.c_typed.specs.Types as types
use Rattle.c_typed.specs.Whole.{Whole}
use Rattle.c_typed.specs.Parts.{Place, tokens, behind, separated, ◌<⊗◌, ◌⊗>◌}
use Rattle.c_typed.specs.Tags.{base}
use Rattle.c_typed.specs.Decls.{by_value, local_item, local_decl, joined_lists}
use Rattle.c_types.specs.tools.Steps.{Found, ◌>>=◌, each, one, if_some}
use Rattle.c_types.specs.tools.Outlines as outlines
use Rattle.c_types.specs.tools.Outlines.{base_walk}
use Rattle.c_types.specs.tools.StmtWalk.{same}
use Rattle.c_types.specs.tools.DeclWalk.{local_walk, local_item_walk, local_decl_walk}
use Rattle.c_types.proofs.Bounds.{inside}
use Rattle.c_types.proofs.BoundsExprs.{bounded_base}
use Rattle.c_types.proofs.BoundsDecls.{inside_local_item, inside_separated, all_inside}
use Rattle.c_typed.proofs.Quiet.{quiet_base}
use Rattle.c_types.proofs.Tells.{answers_tell}
use Rattle.c_types.proofs.Outlined.{IsOutline, base_same}
use Rattle.c_types.proofs.Standing.{names_of}
use Rattle.c_types.proofs.ExprAnswers.{base_answers}
use Rattle.c_types.proofs.Walking.{then, goes_same, goes_joined, goes_before, goes_map, goes_separated, in_list, flat, each_flat}
use Rattle.c_types.proofs.WalkAnswers.{Within, Walks}
use Rattle.c_types.proofs.ValuedAnswers.{local_walks}

-- The values of items, one list of all.
abbrev as_block : List Stmt → Stmt
as_block ss = roll-Stmt (Stmt-F.Block ss)

abbrev blocked : List Stmt × Known → Found (Stmt × Known)
blocked s = Ok (as_block s.0, s.1)

abbrev blocked_lists : List (List Stmt) × Known → Found (Stmt × Known)
blocked_lists s = Ok (as_block (joined_lists s.0), s.1)

abbrev kept_lists : List (List Stmt) × Known → Found (List (List Stmt) × Known)
kept_lists t = Ok (t.0, t.1)

block_of : (r : Found (List (List Stmt) × Known)) → ((r >>= kept_lists) >>= blocked_lists) ≡ (flat r >>= blocked)
block_of (Ok t) = refl
block_of (Err e) = refl

abbrev second_list : Unit {0} → List (List Stmt) → List (List Stmt)
second_list u ss = ss

decl_found : (k : Known) (r : Found (Unit {0})) (g : Known → Found (List (List Stmt) × Known)) (f : Found (List Stmt × Known)) → f ≡ flat (g k)
    → (then second_list (same k r) (λ s. g s.1) >>= blocked_lists) ≡ (r >>= (λ u. f >>= blocked))
decl_found k (Ok u) g f is = block_of (g k) ∙ sym (ap (λ f. f >>= blocked) is)
decl_found k (Err e) g f is = refl

module _ (w : Whole) (o : Outline) (is_outline : IsOutline w o) where
  declared_same : (b : Base) (d : Declarator) → outlines.declared_type o b d ≡ types.declared_type w.tags b d
  declared_same b d = ap (λ b. record { base = b; stars = d.stars; lengths = map nat_abs d.lengths }) (base_same w o is_outline b)

  abbrev item_step : Base → DeclItem → Known → Found (List Stmt × Known)
  item_step b i k = local_item_walk o b i k >>= in_list

  item_walks : (b : Base) (i : DeclItem) (here : Place) (k : Known) → Within w here.before k → Walks w (local_item w b i) here (item_step b i k)
  item_walks b i here k is =
      subst (λ t. Walks w (local_item w b i) here (local_walk o k i.declarator t i.value >>= in_list)) (sym (declared_same b i.declarator))
      (local_walks w o is_outline i.declarator (types.declared_type w.tags b i.declarator) i.value here k is)

  pub local_decl_walks : (d : Decl) (here : Place) (k : Known) → Within w here.before k → Walks w (local_decl w d) here (local_decl_walk o d k)
  local_decl_walks d here k is =
      let v = by_value (map (λ i. i.declarator) d.items) in
      let p = base w v d.base in
      let q = separated (map (local_item w d.base) d.items) in
      let r = base_walk o k v d.base in
      let first = goes_same (Within w) p here k r (quiet_base w v d.base) is (answers_tell (p.judge here) r (base_answers w o here.before k is_outline (names_of is.stands) v d.base here refl)) in
      let both = goes_joined (Within w) second_list p q here (same k r) (λ s. each one (item_step d.base) d.items s.1) (inside p (bounded_base w v d.base))
      (inside_separated (all_inside (local_item w d.base) (inside_local_item w d.base) d.items)) first
      (λ s e. goes_separated (Within w) (local_item w d.base) (item_step d.base) (inside_local_item w d.base) (item_walks d.base) d.items (behind p here) s.1 (first.stands s e)) in
      subst (Walks w (local_decl w d) here)
      (decl_found k r (each one (item_step d.base) d.items) (each if_some (local_item_walk o d.base) d.items k) (each_flat (local_item_walk o d.base) d.items k))
      (goes_map (Within w) (λ ss. as_block (joined_lists ss)) (p ⊗> q <⊗ tokens 1) here _ (goes_before (Within w) 1 (p ⊗> q) here _ both))
