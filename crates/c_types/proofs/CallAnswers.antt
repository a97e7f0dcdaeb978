-- What the walk finds of a call is what the definition judges of it.
use Rattle.std.proofs.Common.{◌≡◌, ℕ, ◌+◌, ◌≤◌, Bool, true, false, List, [], ◌∷◌, ◌++◌, Option, Some, None, Ok, slice_get, refl, ap, sym, ◌∙◌, subst, arith}
use Rattle.dfi_base.specs.declared.numbers.Line.{Line}
use Rattle.c_ast.specs.declared.ident.Ident.{Ident}
use Rattle.c_typed.specs.declared.types.ExprType.{ExprType}
use Rattle.c_typed.specs.declared.expr.Expr.{Expr}
use Rattle.c_types.specs.declared.outline.Outline.{Outline}
use Rattle.c_types.specs.declared.outline.Signature.{Signature as OutlineSignature}
use Rattle.c_types.specs.declared.known.Known.{Known}
use Rattle.c_typed.specs.declared.expr.Form.TheOpen.{Form-F}
use Rattle.c_typed.specs.Marks.{History}
use Rattle.c_typed.specs.Whole.{Whole, Builtin, Meaning, meaning, is_main}
use Rattle.c_typed.specs.Faults.{Rule, Fault, unknown, mismatch}
use Rattle.c_typed.specs.Parts.{Place, Part, given, tokens, joined, behind, obeys, refused, ◌<⊗◌, ◌⊗>◌, ◌<$>◌}
use Rattle.c_typed.specs.Exprs as defined
use Rattle.c_typed.specs.Exprs.{Reading, Size, called, call_as}
use Rattle.c_types.specs.tools.Answers.{Answers}
use Rattle.c_types.specs.tools.Steps.{Found, ◌>>=◌, broken, kept}
use Rattle.c_types.specs.tools.Tables.{looked}
use Rattle.c_typed.specs.declared.stmt.Stmt.{Stmt, roll-Stmt}
use Rattle.c_typed.specs.declared.stmt.Stmt.TheOpen.{Stmt-F}
use Rattle.c_typed.specs.Stmts.{call_by, call_stmt}
use Rattle.c_types.specs.tools.ExprWalk as walk
use Rattle.c_types.specs.tools.StmtWalk as stmts
use Rattle.c_types.specs.tools.ExprWalk.{Finding}
use Rattle.c_types.proofs.AnswerLaws.{AllFrom, least_append}
use Rattle.c_types.proofs.Bounds.{IsInside, IsBounded, inside, inside_tokens, inside_joined, from_append}
use Rattle.c_types.proofs.BoundsExprs.{bounded_value}
use Rattle.c_types.proofs.FormLaws.{after_tokens, before_tokens}
use Rattle.c_typed.proofs.Quiet.{no_marks, before_same}
use Rattle.c_types.proofs.Outlined.{IsOutline, Names, spelled_so, spelled_builtin, signature_of}
use Rattle.c_types.proofs.Meanings.{IsMet, met}
use Rattle.c_types.proofs.ExprAnswers.{obeys_answers, joined_answers, map_answers, BothAgree, Agrees, value_answers}
use Rattle.c_types.proofs.FormAnswers.{bind_same}

-- The arguments.
pub data AllAgree (h : History) : List Reading → List Finding → Type 0 where
  none : AllAgree h [] []
  each : {r : Reading} {f : Finding} {rs : List Reading} {fs : List Finding} → Agrees h r f → AllAgree h rs fs → AllAgree h (r ∷ rs) (f ∷ fs)

inside_none : IsInside (given {A = List Expr} [])
inside_none = record { within = λ here. record { start = tt; end = tt } }

inside_more : (r : Reading) (p : Part (List Expr)) → IsBounded (defined.value r) → IsInside p → IsInside (joined (λ a rest. a ∷ rest) (defined.value r <⊗ tokens 1) p)
inside_more r p bounded is =
    inside_joined (λ a rest. a ∷ rest) (defined.value r <⊗ tokens 1) p (inside_joined (λ a b. a) (defined.value r) (tokens 1) (inside (defined.value r) bounded) (inside_tokens 1)) is

inside_arguments : (h : History) {rs : List Reading} {fs : List Finding} → AllAgree h rs fs → IsInside (defined.arguments rs)
inside_arguments h AllAgree.none = inside_none
inside_arguments h (AllAgree.each {r} is AllAgree.none) = inside_joined (λ a rest. a ∷ rest) (defined.value r) (given []) (inside (defined.value r) (bounded_value r is.read)) inside_none
inside_arguments h (AllAgree.each {r} is (AllAgree.each {r = s} {rs = rs} that more)) =
    inside_more r (defined.arguments (s ∷ rs)) (bounded_value r is.read) (inside_arguments h (AllAgree.each that more))

arguments_answer : (h : History) {rs : List Reading} {fs : List Finding} → AllAgree h rs fs → (here : Place) → here.before ≡ h → Answers ((defined.arguments rs).judge here) (walk.arguments fs)
arguments_answer h AllAgree.none here at = (refl, refl)
arguments_answer h (AllAgree.each {r} {f} is AllAgree.none) here at =
    joined_answers (λ a rest. a ∷ rest) (defined.value r) (given []) here (walk.value f) (Ok []) (inside (defined.value r) (bounded_value r is.read)) inside_none (value_answers h r f is here at) (refl, refl)
arguments_answer h (AllAgree.each {r} {f} is (AllAgree.each {r = s} {f = g} {rs = rs} {fs = fs} that more)) here at =
    joined_answers (λ a rest. a ∷ rest) (defined.value r <⊗ tokens 1) (defined.arguments (s ∷ rs)) here (walk.value f) (walk.arguments (g ∷ fs))
    (inside_joined (λ a b. a) (defined.value r) (tokens 1) (inside (defined.value r) (bounded_value r is.read)) (inside_tokens 1)) (inside_arguments h (AllAgree.each that more))
    (before_tokens 1 (defined.value r) here (walk.value f) (value_answers h r f is here at))
    (arguments_answer h (AllAgree.each that more) (behind (defined.value r <⊗ tokens 1) here) (before_same (defined.value r <⊗ tokens 1) here (no_marks is.quiet refl) ∙ at))

called_answers : {A : Type 0} (p : Part A) (here : Place) (r : Found A) → Answers (p.judge (behind (tokens 2) here)) r → Answers ((called p).judge here) r
called_answers p here r is = before_tokens 1 (tokens 2 ⊗> p) here r (after_tokens 2 p here r is)

-- A rule that is broken at the first token, whatever the arguments are.
from_less : (m n : ℕ) (fs : List Fault) → m ≤ n → AllFrom n fs → AllFrom m fs
from_less m n [] le all = tt
from_less m n (f ∷ fs) le all = (let first = all.0 in omega (arith, le, first), from_less m n fs le all.1)

refused_answers : {A : Type 0} (rule : Rule) (line : Line) (p : Part A) (here : Place) → IsInside p → Answers ((refused {A = A} {B = Expr} rule line (called p)).judge here) (broken rule line)
refused_answers {A} rule line p here is = λ wanted.
    let f : Fault = record { at = here.at; rule = rule; line = line } in
    let fs = (p.judge (behind (tokens 2) here)).faults in
    let from : AllFrom (here.at + 1) (([] ++ fs) ++ []) =
    from_append (here.at + 1) fs [] (from_less (here.at + 1) (here.at + 2) fs (omega arith) (is.within (behind (tokens 2) here)).start) tt in
    record {
      fault = f;
      first = least_append (here.at + 1) (f ∷ []) (([] ++ fs) ++ []) (omega arith, tt) from;
      told = refl;
      broken = refl;
    }

-- Each way in which a name is met.
abbrev CallAnswers : Whole → Line → Ident → List Reading → Place → Meaning → Found Expr → Type 0
CallAnswers w line f rs here m r = Answers ((call_as w line f rs m).judge here) r

put_same : (es : List Expr) → defined.put es ≡ walk.put_only (walk.only es)
put_same [] = refl
put_same (e ∷ []) = refl
put_same (e ∷ f ∷ es) = refl

freed_same : (es : List Expr) → defined.freed es ≡ walk.freed_only (walk.only es)
freed_same [] = refl
freed_same (e ∷ []) = refl
freed_same (e ∷ f ∷ es) = refl

allocated_type : (s : Size) (n : Expr) (t : ExprType)
    → elim t as (λ t. Option Expr) [ ExprType.Int ↦ Some (defined.made (ExprType.Pointer s.item) (Form-F.New 0 s.item (Some n))) | ExprType.Unknown ↦ Some (defined.made (ExprType.Pointer s.item) (Form-F.New 0 s.item (Some n))) | _ ↦ None ] ≡ walk.new_by s.item n t
allocated_type s n ExprType.Int = refl
allocated_type s n (ExprType.Pointer t) = refl
allocated_type s n (ExprType.Place t) = refl
allocated_type s n ExprType.Null = refl
allocated_type s n ExprType.Void = refl
allocated_type s n ExprType.Unknown = refl

allocated_same : (s : Size) → defined.allocated s ≡ walk.allocated_by s.item s.count
allocated_same s = by s.count where
  by : (c : Option Expr) → defined.allocated (record { item = s.item; count = c }) ≡ walk.allocated_by s.item c
  by None = refl
  by (Some n) = allocated_type (record { item = s.item; count = Some n }) n n.typing

by_size : (h : History) (line : Line) (r : Reading) (here : Place) → here.before ≡ h → IsInside (defined.arguments (r ∷ [])) → (p : Option (Part Size)) (s : Option (Found Size)) → BothAgree h p s
    → Answers ((defined.allocation_by line (r ∷ []) p).judge here) (walk.size_or line s >>= (λ s. kept mismatch line (walk.allocated_by s.item s.count)))
by_size h line r here at is None None agree = refused_answers mismatch line (defined.arguments (r ∷ [])) here is
by_size h line r here at is (Some p) (Some s) agree =
    subst (Answers ((obeys mismatch line (λ h s. defined.allocated s) (called p)).judge here)) (bind_same s _ _ (λ s. ap (kept mismatch line) (allocated_same s)))
    (obeys_answers mismatch line (λ h s. defined.allocated s) (called p) here s (called_answers p here s (agree (behind (tokens 2) here) at)))
by_size h line r here at is None (Some s) agree = absurd agree
by_size h line r here at is (Some p) None agree = absurd agree

allocation_answers : (h : History) (line : Line) {rs : List Reading} {fs : List Finding} → AllAgree h rs fs → (here : Place) → here.before ≡ h → Answers ((defined.allocation line rs).judge here) (walk.allocation line fs)
allocation_answers h line AllAgree.none here at = refused_answers mismatch line (defined.arguments []) here inside_none
allocation_answers h line (AllAgree.each {r} {f} is AllAgree.none) here at = by_size h line r here at (inside_arguments h (AllAgree.each is AllAgree.none)) r.size f.size is.size
allocation_answers h line (AllAgree.each {r} is (AllAgree.each {r = s} {rs = rs} that more)) here at =
    refused_answers mismatch line (defined.arguments (r ∷ s ∷ rs)) here (inside_arguments h (AllAgree.each is (AllAgree.each that more)))

ruled_call : (h : History) (line : Line) (keeps : List Expr → Option Expr) {rs : List Reading} {fs : List Finding} → AllAgree h rs fs → (here : Place) → here.before ≡ h
    → Answers ((obeys mismatch line (λ h es. keeps es) (called (defined.arguments rs))).judge here) (walk.arguments fs >>= (λ es. kept mismatch line (keeps es)))
ruled_call h line keeps {rs} {fs} all here at =
    obeys_answers mismatch line (λ h es. keeps es) (called (defined.arguments rs)) here (walk.arguments fs) (called_answers (defined.arguments rs) here (walk.arguments fs) (arguments_answer h all (behind (tokens 2) here) at))

put_answers : (h : History) (line : Line) {rs : List Reading} {fs : List Finding} → AllAgree h rs fs → (here : Place) → here.before ≡ h
    → Answers ((obeys mismatch line (λ h es. defined.put es) (called (defined.arguments rs))).judge here) (walk.put_walk line fs)
put_answers h line {rs} {fs} all here at =
    subst (Answers ((obeys mismatch line (λ h es. defined.put es) (called (defined.arguments rs))).judge here)) (bind_same (walk.arguments fs) _ _ (λ es. ap (kept mismatch line) (put_same es)))
    (ruled_call h line defined.put all here at)

free_answers : (h : History) (line : Line) {rs : List Reading} {fs : List Finding} → AllAgree h rs fs → (here : Place) → here.before ≡ h
    → Answers ((obeys mismatch line (λ h es. defined.freed es) (called (defined.arguments rs))).judge here) (walk.free_walk line fs)
free_answers h line {rs} {fs} all here at =
    subst (Answers ((obeys mismatch line (λ h es. defined.freed es) (called (defined.arguments rs))).judge here)) (bind_same (walk.arguments fs) _ _ (λ es. ap (kept mismatch line) (freed_same es)))
    (ruled_call h line defined.freed all here at)

builtin_answers : (w : Whole) (o : Outline) (h : History) (line : Line) (f : Ident) (b : Builtin) {rs : List Reading} {fs : List Finding} → AllAgree h rs fs → (here : Place) → here.before ≡ h
    → CallAnswers w line f rs here (Meaning.builtin b) (walk.spelled_call o line (spelled_builtin (Some b)) f fs)
builtin_answers w o h line f Builtin.getint all here at = ruled_call h line (defined.asked Form-F.GetInt) all here at
builtin_answers w o h line f Builtin.left all here at = ruled_call h line (defined.asked Form-F.Left) all here at
builtin_answers w o h line f Builtin.putint {rs} {fs} all here at =
    map_answers (λ _. defined.no_value) (obeys mismatch line (λ h es. defined.put es) (called (defined.arguments rs))) here (walk.put_walk line fs) (put_answers h line all here at)
builtin_answers w o h line f Builtin.free {rs} {fs} all here at =
    map_answers (λ _. defined.no_value) (obeys mismatch line (λ h es. defined.freed es) (called (defined.arguments rs))) here (walk.free_walk line fs) (free_answers h line all here at)
builtin_answers w o h line f Builtin.malloc all here at = allocation_answers h line all here at

abbrev FunctionAnswers : Line → Ident → List Reading → Place → ℕ → OutlineSignature → Bool → Found Expr → Type 0
FunctionAnswers line f rs here j s b r =
    Answers ((elim b as (λ b. Part Expr) [
      | true ↦ refused mismatch f.line (called (defined.arguments rs))
      | false ↦ obeys mismatch line (λ h es. defined.applied j (signature_of s) es) (called (defined.arguments rs))
    ]).judge here) r

function_answers : (o : Outline) (h : History) (line : Line) (f : Ident) (j : ℕ) (s : OutlineSignature) (b : Bool) {rs : List Reading} {fs : List Finding} → AllAgree h rs fs → (here : Place) → here.before ≡ h
    → slice_get o.functions j ≡ Some s → FunctionAnswers line f rs here j s b (elim b [ true ↦ walk.main_call (Some j) f | false ↦ walk.numbered_call o line (Some j) f fs ])
function_answers o h line f j s true {rs} all here at there = refused_answers mismatch f.line (defined.arguments rs) here (inside_arguments h all)
function_answers o h line f j s false {rs} {fs} all here at there =
    subst (FunctionAnswers line f rs here j s false) (sym (ap (λ s. walk.function_call line j s f fs) there)) (ruled_call h line (λ es. defined.applied j (signature_of s) es) all here at)

spelled_function : (o : Outline) (line : Line) (f : Ident) (fs : List Finding) (b : Bool) (n : Option ℕ) → looked o.numbers f.name ≡ n
    → walk.spelled_call o line (spelled_so b None) f fs ≡ elim b [ true ↦ walk.main_call n f | false ↦ walk.numbered_call o line n f fs ]
spelled_function o line f fs true n is = ap (λ n. walk.main_call n f) is
spelled_function o line f fs false n is = ap (λ n. walk.numbered_call o line n f fs) is

nothing_called : (o : Outline) (line : Line) (f : Ident) (fs : List Finding) (b : Bool) → elim b as (λ b. Found Expr) [ true ↦ walk.main_call None f | false ↦ walk.numbered_call o line None f fs ] ≡ broken unknown f.line
nothing_called o line f fs true = refl
nothing_called o line f fs false = refl

call_met : (w : Whole) (o : Outline) (h : History) (k : Known) (line : Line) (f : Ident) {rs : List Reading} {fs : List Finding} → AllAgree h rs fs → (here : Place) → here.before ≡ h → IsMet w o h k f.name
    → CallAnswers w line f rs here (meaning w h f.name) (walk.call_walk o k line f fs)
call_met w o h k line f {rs} {fs} all here at (IsMet.object b there means) =
    subst (λ m. CallAnswers w line f rs here m (walk.call_walk o k line f fs)) (sym means)
    (subst (CallAnswers w line f rs here (Meaning.object (Rattle.c_types.proofs.Outlined.variable_at b.home b.number b.object))) (sym (ap (λ b. walk.call_by o line b f fs) there))
    (refused_answers mismatch f.line (defined.arguments rs) here (inside_arguments h all)))
call_met w o h k line f {rs} {fs} all here at (IsMet.builtin b missing spells means) =
    subst (λ m. CallAnswers w line f rs here m (walk.call_walk o k line f fs)) (sym means)
    (subst (CallAnswers w line f rs here (Meaning.builtin b)) (sym (ap (λ b. walk.call_by o line b f fs) missing ∙ ap (λ s. walk.spelled_call o line s f fs) spells))
    (builtin_answers w o h line f b all here at))
call_met w o h k line f {rs} {fs} all here at (IsMet.function j s missing spells number there means) =
    subst (λ m. CallAnswers w line f rs here m (walk.call_walk o k line f fs)) (sym means)
    (subst (CallAnswers w line f rs here (Meaning.function j (signature_of s)))
    (sym (ap (λ b. walk.call_by o line b f fs) missing ∙ ap (λ s. walk.spelled_call o line s f fs) spells ∙ spelled_function o line f fs (is_main w f.name) (Some j) number))
    (function_answers o h line f j s (is_main w f.name) all here at there))
call_met w o h k line f {rs} {fs} all here at (IsMet.nothing missing spells number means) =
    subst (λ m. CallAnswers w line f rs here m (walk.call_walk o k line f fs)) (sym means)
    (subst (CallAnswers w line f rs here Meaning.nothing)
    (sym (ap (λ b. walk.call_by o line b f fs) missing ∙ ap (λ s. walk.spelled_call o line s f fs) spells ∙ spelled_function o line f fs (is_main w f.name) None number ∙ nothing_called o line f fs (is_main w f.name)))
    (refused_answers unknown f.line (defined.arguments rs) here (inside_arguments h all)))

pub call_answers : (w : Whole) (o : Outline) (h : History) (k : Known) → IsOutline w o → Names h k → (line : Line) (f : Ident) {rs : List Reading} {fs : List Finding} → AllAgree h rs fs
    → (here : Place) → here.before ≡ h → Answers ((defined.call w line f rs).judge here) (walk.call_walk o k line f fs)
call_answers w o h k is names line f {rs} {fs} all here at =
    subst (λ h. CallAnswers w line f rs here (meaning w h f.name) (walk.call_walk o k line f fs)) (sym at) (call_met w o h k line f all here at (met w o h k is names f.name))

-- The same of a call that is a statement.
abbrev StmtAnswers : Whole → Ident → List Reading → Place → Meaning → Found Stmt → Type 0
StmtAnswers w f rs here m r = Answers ((call_by w f rs m).judge here) r

abbrev called_stmt : Line → Expr → Stmt
called_stmt line e = roll-Stmt (Stmt-F.Call line e)

unused_answers : (w : Whole) (f : Ident) (rs : List Reading) (here : Place) (m : Meaning) (r : Found Expr) → CallAnswers w f.line f rs here m r
    → Answers ((called_stmt f.line <$> call_as w f.line f rs m).judge here) (r >>= (λ e. Ok (called_stmt f.line e)))
unused_answers w f rs here m r is = map_answers (called_stmt f.line) (call_as w f.line f rs m) here r is

builtin_stmt : (w : Whole) (o : Outline) (h : History) (k : Known) (f : Ident) (b : Builtin) {rs : List Reading} {fs : List Finding} → AllAgree h rs fs → (here : Place) → here.before ≡ h
    → CallAnswers w f.line f rs here (Meaning.builtin b) (walk.call_walk o k f.line f fs) → StmtAnswers w f rs here (Meaning.builtin b) (stmts.spelled_walk o k f fs (spelled_builtin (Some b)))
builtin_stmt w o h k f Builtin.getint {rs} all here at is = unused_answers w f rs here (Meaning.builtin Builtin.getint) _ is
builtin_stmt w o h k f Builtin.left {rs} all here at is = unused_answers w f rs here (Meaning.builtin Builtin.left) _ is
builtin_stmt w o h k f Builtin.putint {rs} {fs} all here at is =
    map_answers (λ e. roll-Stmt (Stmt-F.PutInt f.line e)) (obeys mismatch f.line (λ h es. defined.put es) (called (defined.arguments rs))) here (walk.put_walk f.line fs) (put_answers h f.line all here at)
builtin_stmt w o h k f Builtin.free {rs} {fs} all here at is =
    map_answers (λ e. roll-Stmt (Stmt-F.Free f.line e)) (obeys mismatch f.line (λ h es. defined.freed es) (called (defined.arguments rs))) here (walk.free_walk f.line fs) (free_answers h f.line all here at)
builtin_stmt w o h k f Builtin.malloc {rs} all here at is = unused_answers w f rs here (Meaning.builtin Builtin.malloc) _ is

spelled_stmt : (o : Outline) (k : Known) (f : Ident) (fs : List Finding) (b : Bool) → stmts.spelled_walk o k f fs (spelled_so b None) ≡ stmts.unused_walk o k f fs
spelled_stmt o k f fs true = refl
spelled_stmt o k f fs false = refl

stmt_met : (w : Whole) (o : Outline) (h : History) (k : Known) (f : Ident) {rs : List Reading} {fs : List Finding} → AllAgree h rs fs → (here : Place) → here.before ≡ h → IsMet w o h k f.name
    → CallAnswers w f.line f rs here (meaning w h f.name) (walk.call_walk o k f.line f fs) → StmtAnswers w f rs here (meaning w h f.name) (stmts.call_walk o k f fs)
stmt_met w o h k f {rs} {fs} all here at (IsMet.object b there means) is =
    let m = Meaning.object (Rattle.c_types.proofs.Outlined.variable_at b.home b.number b.object) in
    subst (λ m. StmtAnswers w f rs here m (stmts.call_walk o k f fs)) (sym means)
    (subst (StmtAnswers w f rs here m) (sym (ap (stmts.call_by o k f fs) there)) (unused_answers w f rs here m _ (subst (λ m. CallAnswers w f.line f rs here m (walk.call_walk o k f.line f fs)) means is)))
stmt_met w o h k f {rs} {fs} all here at (IsMet.builtin b missing spells means) is =
    subst (λ m. StmtAnswers w f rs here m (stmts.call_walk o k f fs)) (sym means)
    (subst (StmtAnswers w f rs here (Meaning.builtin b)) (sym (ap (stmts.call_by o k f fs) missing ∙ ap (stmts.spelled_walk o k f fs) spells))
    (builtin_stmt w o h k f b all here at (subst (λ m. CallAnswers w f.line f rs here m (walk.call_walk o k f.line f fs)) means is)))
stmt_met w o h k f {rs} {fs} all here at (IsMet.function j s missing spells number there means) is =
    let m = Meaning.function j (signature_of s) in
    subst (λ m. StmtAnswers w f rs here m (stmts.call_walk o k f fs)) (sym means)
    (subst (StmtAnswers w f rs here m) (sym (ap (stmts.call_by o k f fs) missing ∙ ap (stmts.spelled_walk o k f fs) spells ∙ spelled_stmt o k f fs (is_main w f.name)))
    (unused_answers w f rs here m _ (subst (λ m. CallAnswers w f.line f rs here m (walk.call_walk o k f.line f fs)) means is)))
stmt_met w o h k f {rs} {fs} all here at (IsMet.nothing missing spells number means) is =
    subst (λ m. StmtAnswers w f rs here m (stmts.call_walk o k f fs)) (sym means)
    (subst (StmtAnswers w f rs here Meaning.nothing) (sym (ap (stmts.call_by o k f fs) missing ∙ ap (stmts.spelled_walk o k f fs) spells ∙ spelled_stmt o k f fs (is_main w f.name)))
    (unused_answers w f rs here Meaning.nothing _ (subst (λ m. CallAnswers w f.line f rs here m (walk.call_walk o k f.line f fs)) means is)))

pub call_stmt_answers : (w : Whole) (o : Outline) (h : History) (k : Known) → IsOutline w o → Names h k → (f : Ident) {rs : List Reading} {fs : List Finding} → AllAgree h rs fs
    → (here : Place) → here.before ≡ h → Answers ((call_stmt w f rs).judge here) (stmts.call_walk o k f fs)
call_stmt_answers w o h k is names f {rs} {fs} all here at =
    subst (λ h. StmtAnswers w f rs here (meaning w h f.name) (stmts.call_walk o k f fs)) (sym at)
    (stmt_met w o h k f all here at (met w o h k is names f.name) (call_met w o h k f.line f all here at (met w o h k is names f.name)))
