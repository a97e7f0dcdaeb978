-- The globals of a program that breaks no rule are well-formed, and few words together.
use Rattle.std.proofs.Common.{◌≡◌, ◌+◌, ◌≤◌, ℤ, pos, Bool, true, false, ◌&&◌, not, List, [], ◌∷◌, ◌++◌, map, Option, Some, None, refl, ap, sym, ◌∙◌, subst, arith}
use Rattle.std.specs.Prelude.{nat_le, is_some}
use Rattle.c_ast.specs.declared.decl.Base.{Base}
use Rattle.c_ast.specs.declared.decl.DeclItem.{DeclItem}
use Rattle.c_ast.specs.declared.expr.Expr.{Expr as SourceExpr}
use Rattle.c_ast.specs.declared.expr.Form.{Form as SourceForm, out-Form}
use Rattle.c_ast.specs.declared.expr.Form.TheOpen.{Form-F as Source}
use Rattle.c_typed.specs.declared.fault.BigWhat.{BigWhat}
use Rattle.c_typed.specs.declared.types.ObjectType.{ObjectType}
use Rattle.c_typed.specs.declared.types.ExprType.{ExprType}
use Rattle.c_typed.specs.declared.program.Struct.{Struct}
use Rattle.c_typed.specs.declared.program.Global.{Global}
use Rattle.c_typed.specs.Types.{base_type, declared_type, scalar_type, words_of}
use Rattle.c_typed.specs.Marks.{Mark, global, History, global_words}
use Rattle.c_typed.specs.Whole.{Whole, is_main}
use Rattle.c_typed.specs.Faults as faults
use Rattle.c_typed.specs.Faults.{unless}
use Rattle.c_typed.specs.Parts.{Place, marked, behind, tokens, separated, ◌<⊗◌}
use Rattle.c_typed.specs.Decls as decls
use Rattle.c_typed.specs.Decls.{has_items, type_limit, joined_lists}
use Rattle.c_typed.specs.Programs as programs
use Rattle.c_typed.specs.Programs.{global_item, global_decl, global_limit, global_faults, start_of, start_by, null_of, started}
use Rattle.c_typed.specs.IsWell.{IsBase, IsObject, IsGlobal, words_in}
use Rattle.c_typed.proofs.WellParts.{none_first, none_second, none_some, some_is}
use Rattle.c_typed.proofs.WellStmts.{unless_none}
use Rattle.c_typed.proofs.WellMarks.{IsShaped, lengths_all, le_when, false_true}
use Rattle.c_typed.proofs.WellFunctions.{AllOf}

both_first : (a b : Bool) → a && b ≡ true → a ≡ true
both_first true b e = refl
both_first false b e = e

both_second : (a b : Bool) → a && b ≡ true → b ≡ true
both_second true b e = e
both_second false true e = refl
both_second false false e = e

-- the start of an array, a struct or a pointer is 0
null_zero : (x : Source SourceForm SourceExpr) (k : ℤ) → null_of x ≡ Some k → k ≡ pos 0
null_zero Source.Null k e = sym (some_is e)
null_zero (Source.Binary l op r) k e = absurd (none_some e)
null_zero (Source.Unary op x) k e = absurd (none_some e)
null_zero (Source.Cast to x) k e = absurd (none_some e)
null_zero (Source.Index x i) k e = absurd (none_some e)
null_zero (Source.Field x f) k e = absurd (none_some e)
null_zero (Source.Arrow x f) k e = absurd (none_some e)
null_zero (Source.Number n) k e = absurd (none_some e)
null_zero (Source.Name i) k e = absurd (none_some e)
null_zero (Source.Call f xs) k e = absurd (none_some e)
null_zero (Source.Sizeof t) k e = absurd (none_some e)

abbrev int_by : Option ExprType → Bool
int_by o = elim o as (λ o. Bool) [ None ↦ false | Some s ↦ elim s as (λ s. Bool) [ ExprType.Int ↦ true | _ ↦ false ] ]

by_zero : (o : Option ExprType) (x : Source SourceForm SourceExpr) (k : ℤ) → int_by o ≡ false → start_by o x ≡ Some k → k ≡ pos 0
by_zero None x k no_int e = absurd (none_some e)
by_zero (Some ExprType.Int) x k no_int e = absurd (false_true (sym no_int))
by_zero (Some (ExprType.Pointer t)) x k no_int e = null_zero x k e
by_zero (Some (ExprType.Place t)) x k no_int e = absurd (none_some e)
by_zero (Some ExprType.Null) x k no_int e = absurd (none_some e)
by_zero (Some ExprType.Void) x k no_int e = absurd (none_some e)
by_zero (Some ExprType.Unknown) x k no_int e = absurd (none_some e)

start_zero : (t : ObjectType) (v : Option SourceExpr) (k : ℤ) → int_by (scalar_type t) ≡ false → start_of t v ≡ Some k → k ≡ pos 0
start_zero t None k no_int e = sym (some_is e)
start_zero t (Some x) k no_int e = by_zero (scalar_type t) (out-Form x.form) k no_int e

module _ (w : Whole) (structs : List Struct) (shaped : IsShaped w structs) where
  -- one global
  record IsStarted (b : Base) (i : DeclItem) (h : History) : Type 0 where
    object : IsObject structs (declared_type w.tags b i.declarator)
    start : ℤ
    there : start_of (declared_type w.tags b i.declarator) i.value ≡ Some start
    limit : global_words w.sizes (global i.declarator.name.name (declared_type w.tags b i.declarator) ∷ h) ≤ global_limit

  some_start : (o : Option ℤ) → is_some o ≡ true → (k : ℤ) × (o ≡ Some k)
  some_start None e = absurd (false_true e)
  some_start (Some k) e = (k, refl)

  one_global : (b : Base) (i : DeclItem) (here : Place) → IsBase structs (base_type w.tags b) → global_faults w i i.declarator (declared_type w.tags b i.declarator) here ≡ [] → IsStarted b i here.before
  one_global b i here is e =
      let d = i.declarator in
      let t = declared_type w.tags b d in
      let test = has_items t.lengths && is_some (start_of t i.value) in
      let fs = unless test here.at faults.mismatch d.line in
      let gs = unless (not (programs.is_taken w d.name.name here.before)) (decls.name_at d here) faults.twice d.name.line in
      let hs = unless (not (is_main w d.name.name)) (decls.name_at d here) faults.mismatch d.name.line in
      let ks = unless (nat_le (words_of w.sizes t) type_limit) (decls.name_at d here) (faults.big BigWhat.Shape) d.name.line in
      let ls = unless (nat_le (global_words w.sizes (global d.name.name t ∷ here.before)) global_limit) (decls.name_at d here) (faults.big BigWhat.Globals) d.name.line in
      let four = none_first (fs ++ gs ++ hs ++ ks) ls e in
      let three = none_first (fs ++ gs ++ hs) ks four in
      let holds = unless_none test here.at faults.mismatch d.line (none_first fs gs (none_first (fs ++ gs) hs three)) in
      let value = some_start (start_of t i.value) (both_second (has_items t.lengths) (is_some (start_of t i.value)) holds) in
      record {
        object = record {
          base = is;
          lengths = lengths_all t.lengths (both_first (has_items t.lengths) (is_some (start_of t i.value)) holds);
          words = subst (λ sizes. words_of sizes t ≤ type_limit) (sym shaped.sizes)
              (le_when w structs shaped (words_of w.sizes t) type_limit (decls.name_at d here) (faults.big BigWhat.Shape) d.name.line (none_second (fs ++ gs ++ hs) ks four));
        };
        start = value.0;
        there = value.1;
        limit = le_when w structs shaped (global_words w.sizes (global d.name.name t ∷ here.before)) global_limit (decls.name_at d here) (faults.big BigWhat.Globals) d.name.line (none_second (fs ++ gs ++ hs ++ ks) ls e);
      }

  started_when : (b : Base) (i : DeclItem) (o : Option ℤ) (k : ℤ) → o ≡ Some k
      → elim o as (λ o. List Global) [ None ↦ [] | Some k ↦ record { line = i.declarator.name.line; object = declared_type w.tags b i.declarator; start = k } ∷ [] ]
      ≡ record { line = i.declarator.name.line; object = declared_type w.tags b i.declarator; start = k } ∷ []
  started_when b i None k e = absurd (none_some e)
  started_when b i (Some n) k e = ap (λ k. record { line = i.declarator.name.line; object = declared_type w.tags b i.declarator; start = k } ∷ []) (some_is e)

  -- the globals of a declaration, each at its place
  pub record AreStarted (b : Base) (is : List DeclItem) (h : History) (ms : List Mark) : Type 0 where
    pub known : AllOf (IsGlobal structs) (joined_lists (map (λ i. started w.tags b i i.declarator) is))
    pub objects : map (λ g. g.object) (joined_lists (map (λ i. started w.tags b i i.declarator) is)) ≡ map (λ i. declared_type w.tags b i.declarator) is
    pub limit : global_words w.sizes h ≤ global_limit → global_words w.sizes (marked ms h) ≤ global_limit
    pub total : global_words w.sizes (marked ms h) ≡ global_words w.sizes h + words_in w.sizes (map (λ i. declared_type w.tags b i.declarator) is)

  one_more : (b : Base) (i : DeclItem) (is : List DeclItem) (h : History) (ms : List Mark) → IsStarted b i h → AreStarted b is (global i.declarator.name.name (declared_type w.tags b i.declarator) ∷ h) ms
      → AreStarted b (i ∷ is) h (global i.declarator.name.name (declared_type w.tags b i.declarator) ∷ ms)
  one_more b i is h ms one rest =
      let t = declared_type w.tags b i.declarator in
      let same = started_when b i (start_of t i.value) one.start one.there in
      let others = joined_lists (map (λ i. started w.tags b i i.declarator) is) in
      let sum = rest.total in
      record {
        known = subst (λ gs. AllOf (IsGlobal structs) (gs ++ others)) (sym same) (record { object = one.object; start = λ no_int. start_zero t i.value one.start no_int one.there }, rest.known);
        objects = ap (λ gs. map (λ g. g.object) (gs ++ others)) same ∙ ap (λ ts. t ∷ ts) rest.objects;
        limit = λ le. rest.limit one.limit;
        total = omega (arith, sum);
      }

  pub some_globals : (b : Base) (is : List DeclItem) (here : Place) → IsBase structs (base_type w.tags b) → ((separated (map (global_item w b) is)).judge here).faults ≡ []
      → AreStarted b is here.before (separated (map (global_item w b) is)).marks
  some_globals b [] here base_is e = record { known = tt; objects = refl; limit = λ le. le; total = omega arith }
  some_globals b (i ∷ []) here base_is e =
      let own = global_faults w i i.declarator (declared_type w.tags b i.declarator) here in
      one_more b i [] here.before [] (one_global b i here base_is (none_first own [] (none_first (own ++ []) [] (none_first (own ++ [] ++ []) [] e))))
      (record { known = tt; objects = refl; limit = λ le. le; total = omega arith })
  some_globals b (i ∷ j ∷ is) here base_is e =
      let own = global_faults w i i.declarator (declared_type w.tags b i.declarator) here in
      let there = behind (global_item w b i <⊗ tokens 1) here in
      let rest_faults = ((separated (map (global_item w b) (j ∷ is))).judge there).faults in
      one_more b i (j ∷ is) here.before (separated (map (global_item w b) (j ∷ is))).marks
      (one_global b i here base_is (none_first own [] (none_first (own ++ []) [] (none_first (own ++ [] ++ []) [] (none_first (own ++ [] ++ [] ++ []) rest_faults e)))))
      (some_globals b (j ∷ is) there base_is (none_second (own ++ [] ++ [] ++ []) rest_faults e))
