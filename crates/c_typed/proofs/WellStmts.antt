-- Parts that declare variables; simple statements and declarations are well-formed.
use Rattle.std.proofs.Common.{◌≡◌, ℕ, Bool, true, false, not, List, [], ◌∷◌, ◌++◌, map, Option, Some, None, refl, ap, sym, ◌∙◌, subst}
use Rattle.std.specs.Prelude.{slice_get}
use Rattle.dfi_base.specs.declared.numbers.Line.{Line}
use Rattle.c_ast.specs.declared.ident.Ident.{Ident}
use Rattle.c_ast.specs.declared.decl.Declarator.{Declarator}
use Rattle.c_ast.specs.declared.expr.Expr.{Expr as SourceExpr}
use Rattle.c_ast.specs.declared.stmt.AssignOp.{AssignOp}
use Rattle.c_ast.specs.declared.stmt.Simple.{Simple}
use Rattle.c_typed.specs.declared.types.ObjectType.{ObjectType}
use Rattle.c_typed.specs.declared.types.ExprType.{ExprType}
use Rattle.c_typed.specs.declared.expr.Expr.{Expr}
use Rattle.c_typed.specs.declared.expr.Form.{out-Form, out-roll-Form}
use Rattle.c_typed.specs.declared.expr.Form.TheOpen.{Form-F}
use Rattle.c_typed.specs.declared.stmt.Condition.{Condition}
use Rattle.c_typed.specs.declared.stmt.Stmt.{Stmt, roll-Stmt, out-Stmt, out-roll-Stmt}
use Rattle.c_typed.specs.declared.stmt.Stmt.TheOpen.{Stmt-F}
use Rattle.c_typed.specs.Types.{scalar_type, fits, suits, suits_some, is_truth}
use Rattle.c_typed.specs.Marks.{Mark, History, locals_in, around, in_loop, in_branch}
use Rattle.c_typed.specs.Whole.{Whole, Signature, Builtin, Meaning, meaning, is_main}
use Rattle.c_typed.specs.Faults.{Rule, Fault, mismatch, unless}
use Rattle.c_typed.specs.Parts.{Place, Part, marked, tokens, mark, joined, behind, obeys, refused, with_faults, ◌⊗◌, ◌<⊗◌, ◌⊗>◌, ◌<$>◌}
use Rattle.c_typed.specs.Exprs
use Rattle.c_typed.specs.Exprs.{made, Size, Reading, value, place, expr, call, call_as, applied, asked, put, put_by, freed, freed_by, allocated, allocation, allocation_by, arguments, called, all_fit}
use Rattle.c_typed.specs.Decls.{declared, starts_with, valued}
use Rattle.c_typed.specs.Stmts.{call_by, call_stmt, tested, condition, assigned, assigns_scalar, scalar_at, counted, simple, step}
use Rattle.c_typed.specs.IsWell.{Context, Round, IsExpr, AreExprs, IsCondition, IsTarget, is_call, is_simple, IsStmtLayer, placed, stmts_of, IsStmt, AreStmts, known, each}
use Rattle.c_typed.proofs.Balanced.{Balanced, around_behind}
use Rattle.c_typed.proofs.WellParts.{none_some, some_is, none_each, none_first, none_second, Stands, Kept, kept_first, kept_second, stands_behind, both_are, changed_is, ruled_is, ruled_faults, Pure, pure_tokens, pure_joined, pure_map, pure_obeys}
use Rattle.c_typed.proofs.WellTypes.{IsUsedAs, IsUsed, IsLinked, made_known}
use Rattle.c_typed.proofs.WellExprs.{false_is, truth_value, sound_value, sound_place}
use Rattle.c_typed.proofs.WellForms.{AllSound, IsFound, function_meant, all_are_sound, sound, sound_object_call, sound_nothing_call, sound_function_call, sound_getint, sound_left, sound_put, sound_free, sound_allocation}

-- Parts whose variables are those of the context, with no fault: their value is so, by what stands before them.
pub record Sound (w : Whole) (c : Context) {A : Type 0} (p : Part A) (Q : History → A → Type 0) : Type 0 where
  pub holds : (here : Place) → Stands w c here.before → Kept c here.before p.marks → (p.judge here).faults ≡ [] → (a : A) → (p.judge here).value ≡ Some a → Q here.before a

-- what stands round a place
abbrev pub round : History → Round
round h = record { looped = in_loop (around 0 h); branched = in_branch (around 0 h) }

pub round_behind : {ms : List Mark} (h : History) → Balanced ms → round (marked ms h) ≡ round h
round_behind h is = ap (λ os. record { looped = in_loop os; branched = in_branch os }) (around_behind 0 h is)

pub unless_none : (t : Bool) (at : ℕ) (rule : Rule) (line : Line) → unless t at rule line ≡ [] → t ≡ true
unless_none true at rule line e = refl
unless_none false at rule line e = absurd (none_each e)

pub not_true : (b : Bool) → not b ≡ true → b ≡ false
not_true true e = sym e
not_true false e = refl

module _ (w : Whole) (c : Context) where
  pub sound_of : {A : Type 0} (p : Part A) {P : A → Type 0} {Q : History → A → Type 0} → Pure w c p P → ((h : History) (a : A) → P a → Q h a) → Sound w c p Q
  sound_of p is all = record { holds = λ here st kept no_fault a e. all here.before a (is.sound here st a e) }

  pub sound_tokens : (n : ℕ) → Sound w c (tokens n) (λ h u. Unit {0})
  sound_tokens n = record { holds = λ here st kept no_fault a e. tt }

  pub sound_mark : (m : Mark) → Sound w c (mark m) (λ h u. Unit {0})
  sound_mark m = record { holds = λ here st kept no_fault a e. tt }

  pub sound_joined : {A B C : Type 0} (f : A → B → C) (p : Part A) (q : Part B) {P : History → A → Type 0} {Q : History → B → Type 0} {R : History → C → Type 0}
      → Sound w c p P → Sound w c q Q → ((h : History) (a : A) (b : B) → P h a → Q (marked p.marks h) b → R h (f a b)) → Sound w c (joined f p q) R
  sound_joined f p q {P} {Q} {R} is that all = record {
    holds = λ here st kept no_fault x e.
        let v = both_are f (p.judge here).value (q.judge (behind p here)).value x e in
        let k = kept_first c here.before p.marks q.marks kept in
        subst (R here.before) v.whole
        (all here.before v.first v.second
        (is.holds here st k (none_first (p.judge here).faults (q.judge (behind p here)).faults no_fault) v.first v.left)
        (that.holds (behind p here) (stands_behind w c here.before p.marks st k) (kept_second c here.before p.marks q.marks kept)
        (none_second (p.judge here).faults (q.judge (behind p here)).faults no_fault) v.second v.right));
  }

  pub sound_map : {A B : Type 0} (f : A → B) (p : Part A) {P : History → A → Type 0} {Q : History → B → Type 0} → Sound w c p P → ((h : History) (a : A) → P h a → Q h (f a)) → Sound w c (f <$> p) Q
  sound_map f p {P} {Q} is all = record {
    holds = λ here st kept no_fault x e.
        let v = changed_is f (p.judge here).value x e in subst (Q here.before) v.whole (all here.before v.value (is.holds here st kept no_fault v.value v.there));
  }

  pub sound_obeys : {A B : Type 0} (rule : Rule) (line : Line) (keeps : History → A → Option B) (p : Part A) {P : History → A → Type 0} {Q : History → B → Type 0}
      → Sound w c p P → ((h : History) (a : A) (b : B) → Stands w c h → P h a → keeps h a ≡ Some b → Q h b) → Sound w c (obeys rule line keeps p) Q
  sound_obeys rule line keeps p {P} {Q} is all = record {
    holds = λ here st kept no_fault x e.
        let j = p.judge here in
        let v = ruled_is rule line (keeps here.before) here.at j.faults j.value x e in
        all here.before v.value x st (is.holds here st kept (ruled_faults rule line (keeps here.before) here.at j.faults j.value no_fault) v.value v.there) v.kept;
  }

  pub sound_with : {A : Type 0} (more : Place → List Fault) (p : Part A) {P Q : History → A → Type 0}
      → Sound w c p P → ((h : History) (at : ℕ) (a : A) → P h a → more (record { before = h; at = at }) ≡ [] → Q h a) → Sound w c (with_faults more p) Q
  sound_with more p is all = record {
    holds = λ here st kept no_fault x e.
        all here.before here.at x (is.holds here st kept (none_second (more here) (p.judge here).faults no_fault) x e) (none_first (more here) (p.judge here).faults no_fault);
  }

  -- one level of a statement
  pub stmt_made : (r : Round) (x : Stmt-F Stmt) → IsStmtLayer c r x → AreStmts c (stmts_of r x) → IsStmt c r (roll-Stmt x)
  stmt_made r x l ss = known r (roll-Stmt x) (subst (IsStmtLayer c r) (sym (out-roll-Stmt x)) l) (subst (λ x. AreStmts c (stmts_of r x)) (sym (out-roll-Stmt x)) ss)

  pub are_append : (r : Round) (ss ts : List Stmt) → AreStmts c (placed r ss) → AreStmts c (placed r ts) → AreStmts c (placed r (ss ++ ts))
  are_append r [] ts is that = that
  are_append r (s ∷ ss) ts (each p ps first rest) that = each p (placed r (ss ++ ts)) first (are_append r ss ts rest that)

-- the empty statement
pub empty_known : (c : Context) (r : Round) → IsStmt c r (roll-Stmt (Stmt-F.Block []))
empty_known c r = stmt_made' c r where
  stmt_made' : (c : Context) (r : Round) → IsStmt c r (roll-Stmt (Stmt-F.Block []))
  stmt_made' c r =
      known r (roll-Stmt (Stmt-F.Block [])) (subst (IsStmtLayer c r) (sym (out-roll-Stmt (Stmt-F.Block []))) tt)
      (subst (λ x. AreStmts c (stmts_of r x)) (sym (out-roll-Stmt (Stmt-F.Block []))) AreStmts.none)

-- The step of a `for` is a simple statement.
abbrev pub IsSimple : Stmt → Type 0
IsSimple s = is_simple (out-Stmt s) ≡ true

simple_made : (x : Stmt-F Stmt) (s : Stmt) → is_simple x ≡ true → roll-Stmt x ≡ s → IsSimple s
simple_made x s is e = subst IsSimple e (ap is_simple (out-roll-Stmt x) ∙ is)

simple_when : (x : Stmt-F Stmt) (s : Stmt) (b : Bool) → is_simple x ≡ true → elim b as (λ b. Option Stmt) [ true ↦ Some (roll-Stmt x) | false ↦ None ] ≡ Some s → IsSimple s
simple_when x s true is e = simple_made x s is (some_is e)
simple_when x s false is e = absurd (none_some e)

simple_assigned : (line : Line) (op : AssignOp) (e v : Expr) (o : Option ExprType) (s : Stmt)
    → elim o as (λ o. Option Stmt) [
      | None ↦ None
      | Some t ↦ elim (assigns_scalar op t v.typing) as (λ b. Option Stmt) [ true ↦ Some (roll-Stmt (Stmt-F.Assign line e op v)) | false ↦ None ]
    ] ≡ Some s → IsSimple s
simple_assigned line op e v None s has = absurd (none_some has)
simple_assigned line op e v (Some t) s has = simple_when (Stmt-F.Assign line e op v) s (assigns_scalar op t v.typing) refl has

simple_counted : (x : Stmt-F Stmt) (o : Option ExprType) (s : Stmt) → is_simple x ≡ true → elim o as (λ o. Option Stmt) [ None ↦ None | Some t ↦ Some (roll-Stmt x) ] ≡ Some s → IsSimple s
simple_counted x None s is has = absurd (none_some has)
simple_counted x (Some t) s is has = simple_made x s is (some_is has)

counted_simple : (line : Line) (layer : Expr → Stmt-F Stmt) (p : Part Expr) (here : Place) (s : Stmt) → ((e : Expr) → is_simple (layer e) ≡ true)
    → ((obeys mismatch line (λ h e. counted e (layer e)) p).judge here).value ≡ Some s → IsSimple s
counted_simple line layer p here s is has =
    let j = p.judge here in
    let v = ruled_is mismatch line (λ e. counted e (layer e)) here.at j.faults j.value s has in
    simple_counted (layer v.value) (scalar_at v.value.typing) s (is v.value) v.kept

layer_simple : (layer : Expr → Stmt-F Stmt) (p : Part Expr) (here : Place) (s : Stmt) → ((e : Expr) → is_simple (layer e) ≡ true)
    → (((λ e. roll-Stmt (layer e)) <$> p).judge here).value ≡ Some s → IsSimple s
layer_simple layer p here s is has =
    let v = changed_is (λ e. roll-Stmt (layer e)) (p.judge here).value s has in
    simple_made (layer v.value) s (is v.value) v.whole

call_simple : (w : Whole) (f : Ident) (rs : List Reading) (m : Meaning) (here : Place) (s : Stmt) → ((call_by w f rs m).judge here).value ≡ Some s → IsSimple s
call_simple w f rs (Meaning.object v) here s has = layer_simple (λ e. Stmt-F.Call f.line e) (call_as w f.line f rs (Meaning.object v)) here s (λ e. refl) has
call_simple w f rs Meaning.nothing here s has = layer_simple (λ e. Stmt-F.Call f.line e) (call_as w f.line f rs Meaning.nothing) here s (λ e. refl) has
call_simple w f rs (Meaning.function k g) here s has = layer_simple (λ e. Stmt-F.Call f.line e) (call_as w f.line f rs (Meaning.function k g)) here s (λ e. refl) has
call_simple w f rs (Meaning.builtin Builtin.getint) here s has = layer_simple (λ e. Stmt-F.Call f.line e) (call_as w f.line f rs (Meaning.builtin Builtin.getint)) here s (λ e. refl) has
call_simple w f rs (Meaning.builtin Builtin.left) here s has = layer_simple (λ e. Stmt-F.Call f.line e) (call_as w f.line f rs (Meaning.builtin Builtin.left)) here s (λ e. refl) has
call_simple w f rs (Meaning.builtin Builtin.putint) here s has =
    layer_simple (λ e. Stmt-F.PutInt f.line e) (obeys mismatch f.line (λ h es. put es) (called (arguments rs))) here s (λ e. refl) has
call_simple w f rs (Meaning.builtin Builtin.free) here s has =
    layer_simple (λ e. Stmt-F.Free f.line e) (obeys mismatch f.line (λ h es. freed es) (called (arguments rs))) here s (λ e. refl) has
call_simple w f rs (Meaning.builtin Builtin.malloc) here s has = layer_simple (λ e. Stmt-F.Call f.line e) (call_as w f.line f rs (Meaning.builtin Builtin.malloc)) here s (λ e. refl) has

simple_is : (w : Whole) (t : Simple) (here : Place) (s : Stmt) → ((simple w t).judge here).value ≡ Some s → IsSimple s
simple_is w (Simple.Assign line target op v) here s has =
    let j = (place (expr w target) <⊗ tokens 1 ⊗ value (expr w v)).judge here in
    let is = ruled_is mismatch line (λ (e : Expr × Expr). assigned line op e.0 e.1) here.at j.faults j.value s has in
    simple_assigned line op is.value.0 is.value.1 (scalar_at is.value.0.typing) s is.kept
simple_is w (Simple.Increment line target) here s has = counted_simple line (λ e. Stmt-F.Increment line e) (place (expr w target) <⊗ tokens 1) here s (λ e. refl) has
simple_is w (Simple.Decrement line target) here s has = counted_simple line (λ e. Stmt-F.Decrement line e) (place (expr w target) <⊗ tokens 1) here s (λ e. refl) has
simple_is w (Simple.PreIncrement line target) here s has = counted_simple line (λ e. Stmt-F.Increment line e) (tokens 1 ⊗> place (expr w target)) here s (λ e. refl) has
simple_is w (Simple.PreDecrement line target) here s has = counted_simple line (λ e. Stmt-F.Decrement line e) (tokens 1 ⊗> place (expr w target)) here s (λ e. refl) has
simple_is w (Simple.Call f args) here s has = call_simple w f (map (expr w) args) (meaning w here.before f.name) here s has

pub step_is : (w : Whole) (o : Option Simple) (here : Place) (s : Stmt) → ((step w o).judge here).value ≡ Some s → IsSimple s
step_is w None here s has = simple_made (Stmt-F.Block []) s refl (some_is has)
step_is w (Some t) here s has = simple_is w t here s has

-- What is called.
abbrev IsCalled : Expr → Type 0
IsCalled e = is_call (out-Form e.form) ≡ true

made_call : (t : ExprType) (layer : Exprs.Layer) → is_call layer ≡ true → IsCalled (made t layer)
made_call t layer is = ap is_call (out-roll-Form layer) ∙ is

asked_call : (layer : Exprs.Layer) (es : List Expr) (v : Expr) → is_call layer ≡ true → asked layer es ≡ Some v → IsCalled v
asked_call layer [] v is e = subst IsCalled (some_is e) (made_call ExprType.Int layer is)
asked_call layer (x ∷ es) v is e = absurd (none_some e)

applied_call : (k : ℕ) (s : Signature) (es : List Expr) (v : Expr) (t : Bool)
    → elim t as (λ t. Option Expr) [ true ↦ Some (made (Exprs.called_type s.result) (Form-F.Call k es)) | false ↦ None ] ≡ Some v → IsCalled v
applied_call k s es v true has = subst IsCalled (some_is has) (made_call (Exprs.called_type s.result) (Form-F.Call k es) refl)
applied_call k s es v false has = absurd (none_some has)

new_call : (s : Size) (v : Expr) → Some (made (ExprType.Pointer s.item) (Form-F.New 0 s.item s.count)) ≡ Some v → IsCalled v
new_call s v has = subst IsCalled (some_is has) (made_call (ExprType.Pointer s.item) (Form-F.New 0 s.item s.count) refl)

allocated_call : (item : ObjectType) (o : Option Expr) (v : Expr) → allocated (record { item = item; count = o }) ≡ Some v → IsCalled v
allocated_call item None v has = new_call (record { item = item; count = None }) v has
allocated_call item (Some n) v has = by n.typing has where
  by : (s : ExprType) → elim s as (λ s. Option Expr) [ ExprType.Int ↦ Some (made (ExprType.Pointer item) (Form-F.New 0 item (Some n))) | ExprType.Unknown ↦ Some (made (ExprType.Pointer item) (Form-F.New 0 item (Some n))) | _ ↦ None ] ≡ Some v → IsCalled v
  by ExprType.Int has = new_call (record { item = item; count = Some n }) v has
  by (ExprType.Place t) has = absurd (none_some has)
  by ExprType.Null has = absurd (none_some has)
  by (ExprType.Pointer t) has = absurd (none_some has)
  by ExprType.Void has = absurd (none_some has)
  by ExprType.Unknown has = new_call (record { item = item; count = Some n }) v has

allocation_call : (line : Line) (rs : List Reading) (o : Option (Part Size)) (here : Place) (v : Expr) → ((allocation_by line rs o).judge here).value ≡ Some v → IsCalled v
allocation_call line rs None here v e = absurd (none_some e)
allocation_call line rs (Some p) here v e =
    let j = (called p).judge here in
    let is = ruled_is mismatch line allocated here.at j.faults j.value v e in
    allocated_call is.value.item is.value.count v is.kept

allocations_call : (line : Line) (rs : List Reading) (here : Place) (v : Expr) → ((allocation line rs).judge here).value ≡ Some v → IsCalled v
allocations_call line [] here v e = allocation_call line [] None here v e
allocations_call line (r ∷ []) here v e = allocation_call line (r ∷ []) r.size here v e
allocations_call line (r ∷ s ∷ rs) here v e = allocation_call line (r ∷ s ∷ rs) None here v e

function_call : (line : Line) (f : Ident) (rs : List Reading) (k : ℕ) (s : Signature) (t : Bool) (here : Place) (v : Expr)
    → ((elim t as (λ t. Part Expr) [ true ↦ refused mismatch f.line (called (arguments rs)) | false ↦ obeys mismatch line (λ h es. applied k s es) (called (arguments rs)) ]).judge here).value ≡ Some v → IsCalled v
function_call line f rs k s true here v e = absurd (none_some e)
function_call line f rs k s false here v e =
    let j = (called (arguments rs)).judge here in
    let is = ruled_is mismatch line (applied k s) here.at j.faults j.value v e in
    applied_call k s is.value v (all_fit is.value s.parameters) is.kept

asked_called : (line : Line) (layer : Exprs.Layer) (rs : List Reading) (here : Place) (v : Expr) → is_call layer ≡ true
    → ((obeys mismatch line (λ h es. asked layer es) (called (arguments rs))).judge here).value ≡ Some v → IsCalled v
asked_called line layer rs here v is e =
    let j = (called (arguments rs)).judge here in
    let r = ruled_is mismatch line (asked layer) here.at j.faults j.value v e in
    asked_call layer r.value v is r.kept

module _ (w : Whole) (c : Context) (linked : IsLinked w c) where
  pub value_pure : (e : SourceExpr) → Pure w c (value (expr w e)) (IsUsed c)
  value_pure e = sound_value w c linked (expr w e) (sound w c linked e)

  place_pure : (e : SourceExpr) → Pure w c (place (expr w e)) (IsExpr c)
  place_pure e = sound_place w c linked (expr w e) (sound w c linked e)

  condition_when : (line : Line) (e : Expr) (d : Condition) (t : Bool) → IsUsed c e → is_truth e.typing ≡ t
      → elim t as (λ t. Option Condition) [ true ↦ Some (record { line = line; value = e }) | false ↦ None ] ≡ Some d → IsCondition c d
  condition_when line e d true is at has = subst (IsCondition c) (some_is has) (record { value = truth_value w c linked e e.typing is at; truth = at })
  condition_when line e d false is at has = absurd (none_some has)

  pub condition_pure : (e : SourceExpr) → Pure w c (condition w e) (IsCondition c)
  condition_pure e =
      pure_obeys w c mismatch (expr w e).line (λ h v. tested (expr w e).line v) (value (expr w e)) (value_pure e)
      (λ h v d st is has. condition_when (expr w e).line v d (is_truth v.typing) is refl has)

  -- Simple statements, wherever they stand.
  abbrev pub Anywhere : Stmt → Type 0
  Anywhere s = (r : Round) → IsStmt c r s

  -- what is assigned or returned has a value
  void_compound : (op : AssignOp) (t : ExprType) → assigns_scalar op t ExprType.Void ≡ true → ⊥
  void_compound AssignOp.Plain t e = false_is w c linked e
  void_compound _ t e = false_is w c linked e

  assigned_value : (op : AssignOp) (e : Expr) (t v : ExprType) → IsUsedAs c v e → assigns_scalar op t v ≡ true → IsExpr c e
  assigned_value op e t ExprType.Void is fit = absurd (void_compound op t fit)
  assigned_value op e t (ExprType.Place o) is fit = is
  assigned_value op e t ExprType.Int is fit = is
  assigned_value op e t ExprType.Null is fit = is
  assigned_value op e t (ExprType.Pointer o) is fit = is
  assigned_value op e t ExprType.Unknown is fit = is

  void_suits : (o : Option ExprType) → suits_some ExprType.Void o ≡ true → ⊥
  void_suits None e = false_is w c linked e
  void_suits (Some s) e = false_is w c linked e

  pub fitting_value : (e : Expr) (v : ExprType) (t : ObjectType) → IsUsedAs c v e → fits v t ≡ true → IsExpr c e
  fitting_value e ExprType.Void t is fit = absurd (void_suits (scalar_type t) fit)
  fitting_value e (ExprType.Place o) t is fit = is
  fitting_value e ExprType.Int t is fit = is
  fitting_value e ExprType.Null t is fit = is
  fitting_value e (ExprType.Pointer o) t is fit = is
  fitting_value e ExprType.Unknown t is fit = is

  assign_when : (line : Line) (op : AssignOp) (e v : Expr) (t : ExprType) (b : Bool) (s : Stmt) → IsExpr c e → IsUsed c v → scalar_at e.typing ≡ Some t → assigns_scalar op t v.typing ≡ b
      → elim b as (λ b. Option Stmt) [ true ↦ Some (roll-Stmt (Stmt-F.Assign line e op v)) | false ↦ None ] ≡ Some s → Anywhere s
  assign_when line op e v t true s is that at fit has =
      subst Anywhere (some_is has) (λ r. stmt_made w c r (Stmt-F.Assign line e op v) (record { known = is; scalar = t; place = at }, assigned_value op v t v.typing that fit, fit) AreStmts.none)
  assign_when line op e v t false s is that at fit has = absurd (none_some has)

  assigned_known : (line : Line) (op : AssignOp) (e v : Expr) (o : Option ExprType) (s : Stmt) → IsExpr c e → IsUsed c v → scalar_at e.typing ≡ o
      → elim o as (λ o. Option Stmt) [
        | None ↦ None
        | Some t ↦ elim (assigns_scalar op t v.typing) as (λ b. Option Stmt) [ true ↦ Some (roll-Stmt (Stmt-F.Assign line e op v)) | false ↦ None ]
      ] ≡ Some s → Anywhere s
  assigned_known line op e v None s is that at has = absurd (none_some has)
  assigned_known line op e v (Some t) s is that at has = assign_when line op e v t (assigns_scalar op t v.typing) s is that at refl has

  -- `++` and `--`
  counted_known : (e : Expr) (layer : Stmt-F Stmt) (o : Option ExprType) (s : Stmt) → IsExpr c e → scalar_at e.typing ≡ o → ((r : Round) → IsTarget c e → IsStmt c r (roll-Stmt layer))
      → elim o as (λ o. Option Stmt) [ None ↦ None | Some t ↦ Some (roll-Stmt layer) ] ≡ Some s → Anywhere s
  counted_known e layer None s is at all has = absurd (none_some has)
  counted_known e layer (Some t) s is at all has = subst Anywhere (some_is has) (λ r. all r (record { known = is; scalar = t; place = at }))

  increment_known : (line : Line) (e : Expr) (s : Stmt) → IsExpr c e → counted e (Stmt-F.Increment line e) ≡ Some s → Anywhere s
  increment_known line e s is has = counted_known e (Stmt-F.Increment line e) (scalar_at e.typing) s is refl (λ r t. stmt_made w c r (Stmt-F.Increment line e) t AreStmts.none) has

  decrement_known : (line : Line) (e : Expr) (s : Stmt) → IsExpr c e → counted e (Stmt-F.Decrement line e) ≡ Some s → Anywhere s
  decrement_known line e s is has = counted_known e (Stmt-F.Decrement line e) (scalar_at e.typing) s is refl (λ r t. stmt_made w c r (Stmt-F.Decrement line e) t AreStmts.none) has

  place_then : (e : SourceExpr) → Pure w c (place (expr w e) <⊗ tokens 1) (IsExpr c)
  place_then e = pure_joined w c (λ a b. a) (place (expr w e)) (tokens 1) {R = IsExpr c} (place_pure e) (pure_tokens w c 1) (λ a b x y. x)

  then_place : (e : SourceExpr) → Pure w c (tokens 1 ⊗> place (expr w e)) (IsExpr c)
  then_place e = pure_joined w c (λ a b. b) (tokens 1) (place (expr w e)) {R = IsExpr c} (pure_tokens w c 1) (place_pure e) (λ a b x y. y)

  -- a call, `putint` and `free`
  called_pure : (line : Line) (p : Part Expr) → Pure w c p (IsExpr c) → ((here : Place) (v : Expr) → (p.judge here).value ≡ Some v → IsCalled v)
      → Pure w c ((λ e. roll-Stmt (Stmt-F.Call line e)) <$> p) Anywhere
  called_pure line p is called =
      pure_map w c (λ e. roll-Stmt (Stmt-F.Call line e)) p {P = λ e. IsExpr c e × IsCalled e} {Q = Anywhere}
      (record { quiet = is.quiet; sound = λ here st e has. (is.sound here st e has, called here e has) })
      (λ e all r. stmt_made w c r (Stmt-F.Call line e) all AreStmts.none)

  call_by_pure : (f : Ident) (rs : List Reading) (m : Meaning) → AllSound w c linked rs → IsFound w c linked f m → Pure w c (call_by w f rs m) Anywhere
  call_by_pure f rs (Meaning.object v) all is = called_pure f.line _ (sound_object_call w c linked f.line f rs v all) (λ here e has. absurd (none_some has))
  call_by_pure f rs Meaning.nothing all is = called_pure f.line _ (sound_nothing_call w c linked f.line f rs all) (λ here e has. absurd (none_some has))
  call_by_pure f rs (Meaning.function k s) all is =
      called_pure f.line _ (sound_function_call w c linked f.line f rs k s all is) (λ here e has. function_call f.line f rs k s (is_main w f.name) here e has)
  call_by_pure f rs (Meaning.builtin Builtin.getint) all is =
      called_pure f.line _ (sound_getint w c linked f.line f rs all) (λ here e has. asked_called f.line Form-F.GetInt rs here e refl has)
  call_by_pure f rs (Meaning.builtin Builtin.left) all is =
      called_pure f.line _ (sound_left w c linked f.line f rs all) (λ here e has. asked_called f.line Form-F.Left rs here e refl has)
  call_by_pure f rs (Meaning.builtin Builtin.putint) all is =
      pure_map w c (λ e. roll-Stmt (Stmt-F.PutInt f.line e)) _ {Q = Anywhere} (sound_put w c linked f.line rs all) (λ e known r. stmt_made w c r (Stmt-F.PutInt f.line e) known AreStmts.none)
  call_by_pure f rs (Meaning.builtin Builtin.free) all is =
      pure_map w c (λ e. roll-Stmt (Stmt-F.Free f.line e)) _ {Q = Anywhere} (sound_free w c linked f.line rs all) (λ e known r. stmt_made w c r (Stmt-F.Free f.line e) known AreStmts.none)
  call_by_pure f rs (Meaning.builtin Builtin.malloc) all is =
      called_pure f.line _ (sound_allocation w c linked f.line rs all) (λ here e has. allocations_call f.line rs here e has)

  call_pure : (f : Ident) (rs : List Reading) → AllSound w c linked rs → Pure w c (call_stmt w f rs) Anywhere
  call_pure f rs all = record {
    quiet = refl;
    sound = λ here st s has. (call_by_pure f rs (meaning w here.before f.name) all (λ k g e. function_meant w here.before f.name k g e)).sound here st s has;
  }

  pub simple_pure : (s : Simple) → Pure w c (simple w s) Anywhere
  simple_pure (Simple.Assign line target op v) =
      pure_obeys w c mismatch line (λ h e. assigned line op e.0 e.1) (place (expr w target) <⊗ tokens 1 ⊗ value (expr w v))
      (pure_joined w c (λ a b. (a, b)) (place (expr w target) <⊗ tokens 1) (value (expr w v)) {R = λ p. IsExpr c p.0 × IsUsed c p.1} (place_then target) (value_pure v) (λ a b x y. (x, y)))
      (λ h e s st is has. assigned_known line op e.0 e.1 (scalar_at e.0.typing) s is.0 is.1 refl has)
  simple_pure (Simple.Increment line target) = pure_obeys w c mismatch line (λ h e. counted e (Stmt-F.Increment line e)) _ (place_then target) (λ h e s st is has. increment_known line e s is has)
  simple_pure (Simple.Decrement line target) = pure_obeys w c mismatch line (λ h e. counted e (Stmt-F.Decrement line e)) _ (place_then target) (λ h e s st is has. decrement_known line e s is has)
  simple_pure (Simple.PreIncrement line target) = pure_obeys w c mismatch line (λ h e. counted e (Stmt-F.Increment line e)) _ (then_place target) (λ h e s st is has. increment_known line e s is has)
  simple_pure (Simple.PreDecrement line target) = pure_obeys w c mismatch line (λ h e. counted e (Stmt-F.Decrement line e)) _ (then_place target) (λ h e s st is has. decrement_known line e s is has)
  simple_pure (Simple.Call f args) = call_pure f (map (expr w) args) (all_are_sound w c linked args)

  abbrev pub AreHere : History → List Stmt → Type 0
  AreHere h ss = AreStmts c (placed (round h) ss)

  -- Declarations of variables, whose values are assigned, wherever they stand.
  abbrev pub AreAnywhere : List Stmt → Type 0
  AreAnywhere ss = (r : Round) → AreStmts c (placed r ss)

  abbrev IsVariable : ObjectType → History → Unit {0} → Type 0
  IsVariable t h u = slice_get c.variables (locals_in h) ≡ Some t

  sound_declared : (d : Declarator) (t : ObjectType) → Sound w c (declared w d t) (IsVariable t)
  sound_declared d t = record { holds = λ here st kept no_fault u e. kept.0 }

  scalar_fits : (v : ExprType) (o : Option ExprType) → suits_some v o ≡ true → (s : ExprType) × (o ≡ Some s) × (suits v s ≡ true)
  scalar_fits v None e = absurd (WellFalse e) where
    WellFalse : false ≡ true → ⊥
    WellFalse e = subst (λ b. elim b as (λ b. Type 0) [ true ↦ ⊥ | false ↦ Unit {0} ]) e tt
  scalar_fits v (Some s) e = (s, refl, e)

  starts_when : (d : Declarator) (t : ObjectType) (k : ℕ) (e : Expr) (b : Bool) (ss : List Stmt) → slice_get c.variables k ≡ Some t → IsUsed c e → fits e.typing t ≡ b
      → elim b as (λ b. Option (List Stmt)) [ true ↦ Some (roll-Stmt (Stmt-F.Assign d.line (made (ExprType.Place t) (Form-F.Local k)) AssignOp.Plain e) ∷ []) | false ↦ None ] ≡ Some ss → AreAnywhere ss
  starts_when d t k e true ss there is fit has =
      let s = scalar_fits e.typing (scalar_type t) fit in
      let variable = made (ExprType.Place t) (Form-F.Local k) in
      let target = made_known w c linked (ExprType.Place t) (Form-F.Local k) (linked.variables k t there) (t, there, refl) AreExprs.none in
      let first : Anywhere (roll-Stmt (Stmt-F.Assign d.line variable AssignOp.Plain e)) =
      λ r. stmt_made w c r (Stmt-F.Assign d.line variable AssignOp.Plain e) (record { known = target; scalar = s.0; place = s.1 }, fitting_value e e.typing t is fit, s.2) AreStmts.none in
      subst AreAnywhere (some_is has) (λ r. each (r, roll-Stmt (Stmt-F.Assign d.line variable AssignOp.Plain e)) [] (first r) AreStmts.none)
  starts_when d t k e false ss there is fit has = absurd (none_some has)

  pub sound_valued : (d : Declarator) (t : ObjectType) (v : Option SourceExpr) → Sound w c (valued w d t v) (λ h ss. AreAnywhere ss)
  sound_valued d t None = sound_map w c (λ _. []) (declared w d t) (sound_declared d t) (λ h u is r. AreStmts.none)
  sound_valued d t (Some e) =
      sound_obeys w c mismatch d.line (λ h v. starts_with d t (locals_in h) v) (declared w d t ⊗> tokens 1 ⊗> value (expr w e))
      (sound_joined w c (λ a b. b) (declared w d t ⊗> tokens 1) (value (expr w e)) {R = λ h v. IsVariable t h tt × IsUsed c v}
      (sound_joined w c (λ a b. b) (declared w d t) (tokens 1) {R = IsVariable t} (sound_declared d t) (sound_tokens w c 1) (λ h a b x y. x))
      (sound_of w c (value (expr w e)) {Q = λ h v. IsUsed c v} (value_pure e) (λ h v x. x)) (λ h a b x y. (x, y)))
      (λ h v ss st is has. starts_when d t (locals_in h) v (fits v.typing t) ss is.0 is.1 refl has)
