-- The variables that a function's parts declare: their types are well-formed, and the frame is within its limit.
use Rattle.std.proofs.Common.{◌≡◌, ℕ, zero, suc, ◌+◌, ◌<◌, ◌≤◌, Bool, true, false, ◌&&◌, not, List, [], ◌∷◌, ◌++◌, map, length, Option, Some, None, refl, sym, ◌∙◌, subst, arith}
use Rattle.std.specs.Prelude.{nat_eq, nat_le, nat_lt, All}
use Rattle.std.proofs.lemmas.List.Elements.{All-nil}
use Rattle.std.proofs.lemmas.Bool.Decides.{nat_tests}
use Rattle.dfi_base.specs.declared.numbers.Line.{Line}
use Rattle.c_ast.specs.declared.ident.Ident.{Ident}
use Rattle.c_ast.specs.declared.decl.Base.{Base}
use Rattle.c_ast.specs.declared.decl.Declarator.{Declarator}
use Rattle.c_ast.specs.declared.decl.Decl.{Decl}
use Rattle.c_ast.specs.declared.decl.Param.{Param}
use Rattle.c_ast.specs.declared.decl.Params.{Params}
use Rattle.c_ast.specs.declared.expr.Expr.{Expr as SourceExpr}
use Rattle.c_ast.specs.declared.stmt.ForStart.{ForStart}
use Rattle.c_ast.specs.declared.stmt.Block.{Block}
use Rattle.c_ast.specs.declared.stmt.BlockItem.{BlockItem}
use Rattle.c_ast.specs.declared.stmt.Stmt.{ind-Stmt, map-Stmt, roll-Stmt, Stmt as SourceStmt}
use Rattle.c_ast.specs.declared.stmt.Stmt.TheOpen.{Stmt-F as Source}
use Rattle.c_typed.specs.declared.types.BaseType.{BaseType}
use Rattle.c_typed.specs.declared.stmt.Stmt.{Stmt}
use Rattle.c_typed.specs.declared.program.Struct.{Struct}
use Rattle.c_typed.specs.Types.{place_of, base_type, declared_type, pointers_to, parameter_stars, words_of}
use Rattle.c_ast.specs.LineOf.{line_of_base}
use Rattle.c_typed.specs.declared.fault.BigWhat.{BigWhat}
use Rattle.c_typed.specs.Marks
use Rattle.c_typed.specs.Marks.{Opening, Mark, local, opens, closes, block, loop, branch, History, has_tag, frame_words}
use Rattle.c_typed.specs.Whole.{Whole}
use Rattle.c_typed.specs.Faults
use Rattle.c_typed.specs.Faults.{Rule, Fault, unknown, unless}
use Rattle.c_typed.specs.Parts.{Place, Part, marked, tokens, given, mark, joined, behind, kept_by, obeys, with_faults, separated, in_turn, ◌⊗◌, ◌<⊗◌, ◌⊗>◌, ◌<$>◌}
use Rattle.c_typed.specs.Tags.{base, is_tag}
use Rattle.c_typed.specs.Exprs.{expr, value}
use Rattle.c_typed.specs.Decls as decls
use Rattle.c_typed.specs.Decls.{has_items, type_limit, frame_limit, is_scalar, declared, valued, local_item, local_decl, parameter_base, parameter}
use Rattle.c_typed.specs.Stmts.{condition, condition_there, block_item, body, branch_of, start, step, stmt_step, stmt}
use Rattle.c_typed.specs.Programs.{with_part, function_body, parameters}
use Rattle.c_typed.specs.IsWell.{IsBase, IsObject, sizes_in}
use Rattle.c_typed.proofs.Levels.{items_of, blocks_of, first_items, mapped, stmt_roll}
use Rattle.c_typed.proofs.Quiet.{quiet, quiet_base, no_marks}
use Rattle.c_typed.proofs.Balanced.{Balanced, marked_append, unchanged, tags_outside}
use Rattle.c_typed.proofs.BalancedStmts.{balanced_quiet, join, balanced_local_item, balanced_parameter, balanced_separated, all_balanced, quiet_simple, quiet_condition_there, quiet_value_there, quiet_step}
use Rattle.c_typed.proofs.WellParts.{none_each, none_first, none_second, ruled_faults}
use Rattle.c_typed.proofs.WellTypes.{struct_is}
use Rattle.c_typed.proofs.WellStmts.{unless_none}

pub false_true : false ≡ true → ⊥
false_true e = subst IsFalse (sym e) tt where
  IsFalse : Bool → Type 0
  IsFalse true = Unit {0}
  IsFalse false = ⊥

-- an array's lengths
lengths_both : (n : ℕ) (ns : List ℕ) → 0 < n → All (λ n. 0 < n) ns → All (λ n. 0 < n) (n ∷ ns)
lengths_both n ns first rest zero d less = first
lengths_both n ns first rest (suc k) d less = rest k d (omega (arith, less))

lengths_when : (n : ℕ) (ns : List ℕ) (b : Bool) → nat_lt 0 n ≡ b → b && has_items ns ≡ true → (has_items ns ≡ true → All (λ n. 0 < n) ns) → All (λ n. 0 < n) (n ∷ ns)
lengths_when n ns true at e rest = lengths_both n ns (grind (arith, nat_tests, at)) (rest e)
lengths_when n ns false at e rest = absurd (false_true e)

pub lengths_all : (ns : List ℕ) → has_items ns ≡ true → All (λ n. 0 < n) ns
lengths_all [] e = All-nil (λ n. 0 < n)
lengths_all (n ∷ ns) e = lengths_when n ns (nat_lt 0 n) refl e (lengths_all ns)

-- the structs of a program, by the whole text
pub record IsShaped (w : Whole) (structs : List Struct) : Type 0 where
  pub count : length w.tags ≡ length structs
  pub sizes : sizes_in structs ≡ w.sizes

abbrev pub Tagged : Whole → History → Type 0
Tagged w h = (x : ℕ) → has_tag x h ≡ true → place_of x w.tags < length w.tags

module _ (w : Whole) (structs : List Struct) (shaped : IsShaped w structs) where
  -- the base of a declaration
  base_when : (tag : Ident) (line : Line) (h : History) (by_value b : Bool) (at : ℕ) → Tagged w h → is_tag w h by_value tag.name ≡ b
      → (kept_by unknown line at [] (elim b as (λ b. Option (Unit {0})) [ true ↦ Some tt | false ↦ None ])).faults ≡ [] → place_of tag.name w.tags < length w.tags
  base_when tag line h true true at is test e = is tag.name test
  base_when tag line h false true at is test e = grind (arith, nat_tests, test)
  base_when tag line h by_value false at is test e = absurd (none_each e)

  pub base_known : (by_value : Bool) (b : Base) (here : Place) → Tagged w here.before → ((base w by_value b).judge here).faults ≡ [] → IsBase structs (base_type w.tags b)
  base_known by_value (Base.Int line) here is e = tt
  base_known by_value (Base.Struct line tag) here is e =
      struct_is structs (length w.tags) (place_of tag.name w.tags) (base_when tag tag.line here.before by_value (is_tag w here.before by_value tag.name) (here.at + 1) is refl e) shaped.count

  -- The variables that marks declare.
  abbrev pub Declared : History → List Mark → Type 0
  Declared h [] = Unit {0}
  Declared h (local x t ∷ ms) = IsObject structs t × (frame_words w.sizes (local x t ∷ h) ≤ frame_limit) × Declared (local x t ∷ h) ms
  Declared h (m ∷ ms) = Declared (m ∷ h) ms

  pub declared_append : (h : History) (ms ns : List Mark) → Declared h ms → Declared (marked ms h) ns → Declared h (ms ++ ns)
  declared_append h [] ns is that = that
  declared_append h (local x t ∷ ms) ns is that = (is.0, is.1, declared_append (local x t ∷ h) ms ns is.2 that)
  declared_append h (m ∷ ms) ns is that = declared_append (m ∷ h) ms ns is that

  pub record Declares {A : Type 0} (p : Part A) : Type 0 where
    pub tagged : (h : History) → Tagged w h → Tagged w (marked p.marks h)
    pub holds : (here : Place) → Tagged w here.before → (p.judge here).faults ≡ [] → Declared here.before p.marks

  pub tagged_behind : {ms : List Mark} (h : History) → Balanced ms → Tagged w h → Tagged w (marked ms h)
  tagged_behind h is tagged x e = tagged x (sym (unchanged (has_tag x) (tags_outside x) h is) ∙ e)

  declares_quiet : {A : Type 0} (p : Part A) → p.marks ≡ [] → Declares p
  declares_quiet p is = record {
    tagged = λ h tagged. subst (λ ms. Tagged w (marked ms h)) (sym is) tagged;
    holds = λ here tagged e. subst (Declared here.before) (sym is) tt;
  }

  declares_joined : {A B C : Type 0} (f : A → B → C) (p : Part A) (q : Part B) → Declares p → Declares q → Declares (joined f p q)
  declares_joined f p q is that = record {
    tagged = λ h tagged. subst (Tagged w) (sym (marked_append p.marks q.marks h)) (that.tagged (marked p.marks h) (is.tagged h tagged));
    holds = λ here tagged e.
        declared_append here.before p.marks q.marks (is.holds here tagged (none_first (p.judge here).faults (q.judge (behind p here)).faults e))
        (that.holds (behind p here) (is.tagged here.before tagged) (none_second (p.judge here).faults (q.judge (behind p here)).faults e));
  }

  beside : {A B : Type 0} {p : Part A} {q : Part B} → Declares p → Declares q → Declares (p ⊗ q)
  beside {A} {B} {p} {q} is that = declares_joined (λ a b. (a, b)) p q is that

  before : {A B : Type 0} {p : Part A} {q : Part B} → Declares p → Declares q → Declares (p <⊗ q)
  before {A} {B} {p} {q} is that = declares_joined (λ a b. a) p q is that

  after : {A B : Type 0} {p : Part A} {q : Part B} → Declares p → Declares q → Declares (p ⊗> q)
  after {A} {B} {p} {q} is that = declares_joined (λ a b. b) p q is that

  declares_map : {A B : Type 0} (f : A → B) (p : Part A) → Declares p → Declares (f <$> p)
  declares_map f p is = record { tagged = is.tagged; holds = λ here tagged e. is.holds here tagged e }

  declares_tokens : (n : ℕ) → Declares (tokens n)
  declares_tokens n = declares_quiet (tokens n) refl

  declares_with : {A : Type 0} (more : Place → List Fault) (p : Part A) → Declares p → Declares (with_faults more p)
  declares_with more p is = record { tagged = is.tagged; holds = λ here tagged e. is.holds here tagged (none_second (more here) (p.judge here).faults e) }

  declares_opens : (o : Opening) → Declares (mark (opens o))
  declares_opens o = record { tagged = λ h tagged. tagged; holds = λ here tagged e. tt }

  declares_closes : Declares (mark closes)
  declares_closes = record { tagged = λ h tagged. tagged; holds = λ here tagged e. tt }

  data AllDeclare {A : Type 0} : List (Part A) → Type 0 where
    none : AllDeclare []
    each : {p : Part A} {ps : List (Part A)} → Declares p → AllDeclare ps → AllDeclare (p ∷ ps)

  all_declare : {A B : Type 0} (f : A → Part B) → ((a : A) → Declares (f a)) → (xs : List A) → AllDeclare (map f xs)
  all_declare f is [] = none
  all_declare f is (x ∷ xs) = each (is x) (all_declare f is xs)

  declares_none : {A : Type 0} → Declares (given {A = List A} [])
  declares_none {A} = declares_quiet (given {A = List A} []) refl

  declares_in_turn : {A : Type 0} {ps : List (Part A)} → AllDeclare ps → Declares (in_turn ps)
  declares_in_turn none = declares_none
  declares_in_turn (each {p} {ps} is rest) = declares_joined (λ a rest. a ∷ rest) p (in_turn ps) is (declares_in_turn rest)

  declares_separated : {A : Type 0} {ps : List (Part A)} → AllDeclare ps → Declares (separated ps)
  declares_separated none = declares_none
  declares_separated (each {p} is none) = declares_joined (λ a rest. a ∷ rest) p (given []) is declares_none
  declares_separated (each {p} is (each {p = q} {ps = ps} that rest)) =
      declares_joined (λ a rest. a ∷ rest) (p <⊗ tokens 1) (separated (q ∷ ps)) (before is (declares_tokens 1)) (declares_separated (each that rest))

  -- behind a base that keeps its rules
  after_base : {A : Type 0} (by_value : Bool) (b : Base) (p : Part A) → Balanced p.marks → (IsBase structs (base_type w.tags b) → Declares p) → Declares (base w by_value b ⊗> p)
  after_base by_value b p balanced all = record {
    tagged = λ h tagged. tagged_behind h (join (balanced_quiet (quiet_base w by_value b)) balanced) tagged;
    holds = λ here tagged e.
        let q = base w by_value b in
        let fs = (q.judge here).faults in
        let gs = (p.judge (behind q here)).faults in
        (declares_joined (λ a b. b) q p (declares_quiet q (quiet_base w by_value b)) (all (base_known by_value b here tagged (none_first fs gs e)))).holds here tagged e;
  }

  -- Variables.
  pub le_when : (m n at : ℕ) (rule : Rule) (line : Line) → unless (nat_le m n) at rule line ≡ [] → m ≤ n
  le_when m n at rule line e = let is = unless_none (nat_le m n) at rule line e in grind (arith, nat_tests, is)

  declares_declared : (d : Declarator) (b : Base) → IsBase structs (base_type w.tags b) → Declares (declared w d (declared_type w.tags b d))
  declares_declared d b is = record {
    tagged = λ h tagged. tagged;
    holds = λ here tagged e.
        let t = declared_type w.tags b d in
        let fs = decls.length_faults t d here in
        let gs = unless (not (Marks.is_declared d.name.name 0 here.before)) (decls.name_at d here) Faults.twice d.name.line in
        let hs = unless (nat_le (words_of w.sizes t) type_limit) (decls.name_at d here) (Faults.big BigWhat.Shape) d.name.line in
        let ks = decls.frame_faults w d.name t here.before (decls.name_at d here) in
        let all = none_first (fs ++ gs ++ hs ++ ks) [] e in
        let three = none_first (fs ++ gs ++ hs) ks all in (
          record {
            base = is;
            lengths = lengths_all t.lengths (unless_none (has_items t.lengths) here.at Faults.mismatch d.line (none_first fs gs (none_first (fs ++ gs) hs three)));
            words = subst (λ sizes. words_of sizes t ≤ type_limit) (sym shaped.sizes)
                (le_when (words_of w.sizes t) type_limit (decls.name_at d here) (Faults.big BigWhat.Shape) d.name.line (none_second (fs ++ gs) hs three));
          },
          le_when (frame_words w.sizes (local d.name t ∷ here.before)) frame_limit (decls.name_at d here) (Faults.big BigWhat.Frame) d.name.line (none_second (fs ++ gs ++ hs) ks all),
          tt,
        );
  }

  declares_obeys : {A B : Type 0} (rule : Rule) (line : Line) (keeps : History → A → Option B) (p : Part A) → Declares p → Declares (obeys rule line keeps p)
  declares_obeys rule line keeps p is = record {
    tagged = is.tagged;
    holds = λ here tagged e. let j = p.judge here in is.holds here tagged (ruled_faults rule line (keeps here.before) here.at j.faults j.value e);
  }

  declares_valued : (d : Declarator) (b : Base) (v : Option SourceExpr) → IsBase structs (base_type w.tags b) → Declares (valued w d (declared_type w.tags b d) v)
  declares_valued d b None is = declares_map (λ _. []) (declared w d (declared_type w.tags b d)) (declares_declared d b is)
  declares_valued d b (Some e) is =
      declares_obeys _ d.line _ (declared w d (declared_type w.tags b d) ⊗> tokens 1 ⊗> value (expr w e))
      (after (after (declares_declared d b is) (declares_tokens 1)) (declares_quiet (value (expr w e)) (quiet w e)))

  declares_local_decl : (d : Decl) → Declares (local_decl w d)
  declares_local_decl d =
      let items = separated (map (local_item w d.base) d.items) in
      declares_map _ _
      (before (after_base (decls.by_value (map (λ i. i.declarator) d.items)) d.base items (balanced_separated (all_balanced (local_item w d.base) (balanced_local_item w d.base) d.items))
      (λ is. declares_separated (all_declare (local_item w d.base) (λ i. declares_valued i.declarator d.base i.value is) d.items))) (declares_tokens 1))

  -- Parameters, which are scalars.
  pub scalar_words : (b : BaseType) (n : ℕ) → IsBase structs b → is_scalar (record { base = b; stars = n; lengths = [] }) ≡ true → IsObject structs (record { base = b; stars = n; lengths = [] })
  scalar_words BaseType.Int zero is e = record { base = is; lengths = All-nil (λ n. 0 < n); words = omega arith }
  scalar_words (BaseType.Struct k) zero is e = absurd (false_true e)
  scalar_words BaseType.Unknown zero is e = absurd is
  scalar_words b (suc n) is e = record { base = is; lengths = All-nil (λ n. 0 < n); words = omega arith }

  declares_parameter : (p : Param) → Declares (parameter w p)
  declares_parameter p = record {
    tagged = λ h tagged. tagged_behind h (balanced_parameter w p) tagged;
    holds = λ here tagged e.
        let t = pointers_to w.tags p.base (parameter_stars p.stars p.brackets) in
        let q = parameter_base w p.base p.stars p.brackets in
        let there = behind q here in
        let ps = decls.parameter_faults p.name t there in
        let ks = decls.frame_faults w p.name t there.before there.at in
        let twice_faults = unless (not (Marks.is_declared p.name.name 0 there.before)) there.at Faults.twice p.name.line in
        let scalar_faults = unless (is_scalar t) there.at Faults.mismatch p.name.line in
        let all = none_first ((q.judge here).faults ++ (ps ++ ks ++ [])) [] e in
        let own = none_first (ps ++ ks) [] (none_second (q.judge here).faults (ps ++ ks ++ []) all) in
        let outer = decls.bracket_items p.brackets in
        let bs = (base w (nat_eq (parameter_stars p.stars p.brackets) 0) p.base) in
        let base_none = none_first (bs.judge here).faults [] (none_second (unless outer here.at Faults.mismatch (line_of_base p.base)) ((bs.judge here).faults ++ []) (none_first (q.judge here).faults (ps ++ ks ++ []) all)) in
        let is = base_known (nat_eq (parameter_stars p.stars p.brackets) 0) p.base here tagged base_none in
        let object = scalar_words (base_type w.tags p.base) (parameter_stars p.stars p.brackets) is (unless_none (is_scalar t) there.at Faults.mismatch p.name.line (none_second twice_faults scalar_faults (none_first ps ks own))) in
        let frame = le_when (frame_words w.sizes (local p.name t ∷ there.before)) frame_limit there.at (Faults.big BigWhat.Frame) p.name.line (none_second ps ks own) in
        declared_append here.before (q.marks ++ (local p.name t ∷ [])) []
        (declared_append here.before q.marks (local p.name t ∷ []) (subst (Declared here.before) (sym (no_marks (quiet_base w _ p.base) refl)) tt) (object, frame, tt)) tt;
  }

  pub declares_parameters : (p : Params) → Declares (parameters w p)
  declares_parameters Params.Empty = declares_none
  declares_parameters (Params.Void line) = declares_map (λ _. []) (tokens 1) (declares_tokens 1)
  declares_parameters (Params.List ps) = declares_separated (all_declare (parameter w) declares_parameter ps)

  -- Statements.
  declares_start : (s : ForStart) → Declares (start w s)
  declares_start (ForStart.Decl d) = declares_local_decl d
  declares_start (ForStart.Simple None) = declares_quiet (start w (ForStart.Simple None)) refl
  declares_start (ForStart.Simple (Some s)) = declares_quiet (start w (ForStart.Simple (Some s))) (no_marks (quiet_simple w s) refl)

  declares_condition : (e : SourceExpr) → Declares (condition w e)
  declares_condition e = declares_quiet (condition w e) (quiet w e)

  abbrev StmtDeclares : SourceStmt → Type 0
  StmtDeclares s = Declares (stmt w s)

  abbrev Known : Type 0
  Known = (s : SourceStmt) × StmtDeclares s

  abbrev forgotten : Source Known → Source SourceStmt
  forgotten y = map-Stmt Known SourceStmt (λ s. s.0) y

  items_declare : (line close : Line) (xs : List (BlockItem Known)) → AllDeclare (map (block_item w) (items_of (mapped w (forgotten (Source.Block (record { line = line; items = xs; close = close }))))))
  items_declare line close [] = none
  items_declare line close (BlockItem.Decl d ∷ xs) = each (declares_local_decl d) (items_declare line close xs)
  items_declare line close (BlockItem.Stmt s ∷ xs) = each s.1 (items_declare line close xs)

  body_declares : (b : Block (Part Stmt)) → AllDeclare (map (block_item w) b.items) → Declares (body w b)
  body_declares b all = before (after (declares_tokens 1) (declares_in_turn all)) (declares_tokens 1)

  branch_declares : (b : Block (Part Stmt)) → AllDeclare (map (block_item w) b.items) → Declares (branch_of w b)
  branch_declares b all = declares_map _ _ (before (after (declares_opens branch) (body_declares b all)) declares_closes)

  branch_items_declare : (line l c : Line) (bs : List (Block Known)) (xs : List (BlockItem Known))
      → AllDeclare (map (block_item w) (first_items (blocks_of (mapped w (forgotten (Source.Par line (record { line = l; items = xs; close = c } ∷ bs)))))))
  branch_items_declare line l c bs [] = none
  branch_items_declare line l c bs (BlockItem.Decl d ∷ xs) = each (declares_local_decl d) (branch_items_declare line l c bs xs)
  branch_items_declare line l c bs (BlockItem.Stmt s ∷ xs) = each s.1 (branch_items_declare line l c bs xs)

  branches_declare : (line : Line) (bs : List (Block Known)) → AllDeclare (map (branch_of w) (blocks_of (mapped w (forgotten (Source.Par line bs)))))
  branches_declare line [] = none
  branches_declare line (b ∷ bs) =
      let first : Block (Part Stmt) = record { line = b.line; items = first_items (blocks_of (mapped w (forgotten (Source.Par line (b ∷ bs))))); close = b.close } in
      each (branch_declares first (branch_items_declare line b.line b.close bs b.items)) (branches_declare line bs)

  other_declares : (line : Line) (c : SourceExpr) (first : Known) (o : Option Known) → Declares (stmt_step w (mapped w (forgotten (Source.If line c first o))))
  other_declares line c first None =
      declares_map _ _ (beside (beside (before (after (declares_tokens 2) (declares_condition c)) (declares_tokens 1)) first.1) (declares_quiet (given None) refl))
  other_declares line c first (Some s) =
      declares_map _ _ (beside (beside (before (after (declares_tokens 2) (declares_condition c)) (declares_tokens 1)) first.1) (declares_map _ _ (after (declares_tokens 1) s.1)))

  level_declares : (y : Source Known) → Declares (stmt_step w (mapped w (forgotten y)))
  level_declares (Source.Block b) =
      let here : Block (Part Stmt) = record { line = b.line; items = items_of (mapped w (forgotten (Source.Block b))); close = b.close } in
      declares_map _ _ (before (after (declares_opens block) (body_declares here (items_declare b.line b.close b.items))) declares_closes)
  level_declares (Source.Empty line) = declares_quiet (stmt_step w (Source.Empty line)) refl
  level_declares (Source.Simple s) = declares_quiet (stmt_step w (Source.Simple s)) (no_marks (quiet_simple w s) refl)
  level_declares (Source.Return line v) = declares_quiet (stmt_step w (Source.Return line v)) (no_marks (quiet_value_there w v) refl)
  level_declares (Source.Break line) = declares_quiet (stmt_step w (Source.Break line)) refl
  level_declares (Source.Continue line) = declares_quiet (stmt_step w (Source.Continue line)) refl
  level_declares (Source.If line c first other) = other_declares line c first other
  level_declares (Source.While line c s) =
      declares_map _ _ (before (beside (before (after (after (declares_opens loop) (declares_tokens 2)) (declares_condition c)) (declares_tokens 1)) s.1) declares_closes)
  level_declares (Source.For line first c last s) =
      declares_map _ _
      (before (beside (before (beside (before (beside (after (after (declares_opens loop) (declares_tokens 2)) (declares_start first)) (declares_quiet (condition_there w c) (quiet_condition_there w c)))
      (declares_tokens 1)) (declares_quiet (step w last) (quiet_step w last))) (declares_tokens 1)) s.1) declares_closes)
  level_declares (Source.Par line bs) = declares_with _ _ (declares_map _ _ (before (after (declares_tokens 2) (declares_in_turn (branches_declare line bs))) (declares_tokens 1)))

  pub stmt_declares : (s : SourceStmt) → Declares (stmt w s)
  stmt_declares = ind-Stmt StmtDeclares (λ x y is. subst (λ x. StmtDeclares (roll-Stmt x)) is (subst (λ p. Declares p) (sym (stmt_roll w (forgotten y))) (level_declares y)))

  all_items_declare : (xs : List (BlockItem SourceStmt)) → AllDeclare (map (block_item w) (map (with_part w) xs))
  all_items_declare [] = none
  all_items_declare (BlockItem.Decl d ∷ xs) = each (declares_local_decl d) (all_items_declare xs)
  all_items_declare (BlockItem.Stmt s ∷ xs) = each (stmt_declares s) (all_items_declare xs)

  pub function_body_declares : (b : Block SourceStmt) → Declares (function_body w b)
  function_body_declares b = body_declares (record { line = b.line; items = map (with_part w) b.items; close = b.close }) (all_items_declare b.items)
