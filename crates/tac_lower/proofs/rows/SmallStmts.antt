-- Statements of small programs, in the same way.
use Rattle.std.specs.Prelude.{pos, map}
use Rattle.std.proofs.Common.{◌≡◌, ℕ, suc, List, [], ◌∷◌, Option, Some, None, refl, ap, ◌∙◌}
use Rattle.dfi_base.specs.declared.numbers.Line.{Line}
use Rattle.c_ast.specs.declared.stmt.AssignOp.{AssignOp}
use Rattle.c_typed.specs.Typed.{Typed}
use Rattle.c_typed.specs.declared.types.ObjectType.{ObjectType}
use Rattle.c_typed.specs.declared.program.Struct.{Struct}
use Rattle.c_typed.specs.declared.program.Global.{Global}
use Rattle.c_typed.specs.declared.program.Variable.{Variable}
use Rattle.c_typed.specs.declared.program.Function.{Function}
use Rattle.c_typed.specs.declared.stmt.Branch.{Branch}
use Rattle.c_typed.specs.declared.stmt.Condition.{Condition}
use Rattle.c_typed.specs.declared.stmt.Stmt.{Stmt, roll-Stmt, map-Stmt}
use Rattle.c_typed.specs.declared.stmt.Stmt.TheOpen.{Stmt-F}
use Rattle.tac_lower.specs.declared.draft.Numbers.{Numbers}
use Rattle.tac_lower.specs.declared.draft.Draft.{Draft}
use Rattle.tac_lower.specs.Parts.{Part, in_turn, ◌▷◌, ◌⨟◌}
use Rattle.tac_lower.specs.Instrs.{constant}
use Rattle.tac_lower.specs.Values.{expr, value}
use Rattle.tac_lower.specs.Stmts as stmts
use Rattle.tac_lower.specs.Stmts.{Around, stmt, assignment, compound, returned, tested, choice, while, for, branches, ended, stmt_step}
use Rattle.tac_lower.specs.Functions.{around, function_with, first_of, no_loop, drafts_from}
use Rattle.tac_lower.specs.CodeOf.{code_of, code_with, sizes_of, first_numbers}
use Rattle.tac_lower.proofs.pieces.Levels.{stmt_roll, branches_of}
use Rattle.tac_lower.proofs.rows.Small.{Tree, written, lowered, lowers}

mutual
  -- each with its line
  pub data Code : Type 0 where
    set : ℕ → Tree → AssignOp → Tree → Code
    inc : ℕ → Tree → Code
    dec : ℕ → Tree → Code
    run : ℕ → Tree → Code
    put : ℕ → Tree → Code
    ret : ℕ → Tree → Code
    brk : ℕ → Code
    cont : ℕ → Code
    when : ℕ → Tree → Code → Code
    either : ℕ → Tree → Code → Code → Code
    repeat : ℕ → Tree → Code → Code
    loop : ℕ → Code → Tree → Code → Code → Code
    block : Codes → Code
    par : ℕ → Codes → Code

  pub data Codes : Type 0 where
    none : Codes
    also : Code → Codes → Codes

abbrev pub at_line : ℕ → Line
at_line n = record { 0 = n }

abbrev cond : ℕ → Tree → Condition
cond n x = record { line = at_line n; value = written x }

abbrev mutual
  pub code : Code → Stmt
  code (set n t op v) = roll-Stmt (Stmt-F.Assign (at_line n) (written t) op (written v))
  code (inc n t) = roll-Stmt (Stmt-F.Increment (at_line n) (written t))
  code (dec n t) = roll-Stmt (Stmt-F.Decrement (at_line n) (written t))
  code (run n x) = roll-Stmt (Stmt-F.Call (at_line n) (written x))
  code (put n x) = roll-Stmt (Stmt-F.PutInt (at_line n) (written x))
  code (ret n x) = roll-Stmt (Stmt-F.Return (at_line n) (Some (written x)))
  code (brk n) = roll-Stmt (Stmt-F.Break (at_line n))
  code (cont n) = roll-Stmt (Stmt-F.Continue (at_line n))
  code (when n x a) = roll-Stmt (Stmt-F.If (at_line n) (cond n x) (code a) None)
  code (either n x a b) = roll-Stmt (Stmt-F.If (at_line n) (cond n x) (code a) (Some (code b)))
  code (repeat n x a) = roll-Stmt (Stmt-F.While (at_line n) (cond n x) (code a))
  code (loop n s x t a) = roll-Stmt (Stmt-F.For (at_line n) (code s) (Some (cond n x)) (code t) (code a))
  code (block cs) = roll-Stmt (Stmt-F.Block (codes_of cs))
  code (par n cs) = roll-Stmt (Stmt-F.Par (at_line n) (blocks n cs))

  pub codes_of : Codes → List Stmt
  codes_of none = []
  codes_of (also c cs) = code c ∷ codes_of cs

  -- each statement alone in a branch
  blocks : ℕ → Codes → List (Branch Stmt)
  blocks n none = []
  blocks n (also c cs) = record { body = code c ∷ []; close = at_line n } ∷ blocks n cs

abbrev mutual
  pub part : Around → Code → Part ℕ
  part c (set n t op v) = assignment n c.sizes op (lowered c.sizes t) (value n (lowered c.sizes v))
  part c (inc n t) = compound n c.sizes AssignOp.Add (lowered c.sizes t) (constant n (pos 1))
  part c (dec n t) = compound n c.sizes AssignOp.Sub (lowered c.sizes t) (constant n (pos 1))
  part c (run n x) = value n (lowered c.sizes x)
  part c (put n x) = stmts.put n (lowered c.sizes x)
  part c (ret n x) = value n (lowered c.sizes x) ▷ λ a. returned c.in_main n a
  part c (brk n) = stmt_step c (Stmt-F.Break (at_line n))
  part c (cont n) = stmt_step c (Stmt-F.Continue (at_line n))
  part c (when n x a) = choice n (tested n (lowered c.sizes x)) (part c a) None
  part c (either n x a b) = choice n (tested n (lowered c.sizes x)) (part c a) (Some (part c b))
  part c (repeat n x a) = while n (tested n (lowered c.sizes x)) (part c a)
  part c (loop n s x t a) = part c s ⨟ for n (tested n (lowered c.sizes x)) (part c t) (part c a)
  part c (block cs) = in_turn (parts c cs)
  part c (par n cs) = branches n (ends c n cs)

  pub parts : Around → Codes → List (Part ℕ)
  parts c none = []
  parts c (also a cs) = part c a ∷ parts c cs

  ends : Around → ℕ → Codes → List (Part ℕ)
  ends c n none = []
  ends c n (also a cs) = ended (record { body = part c a ∷ []; close = at_line n }) ∷ ends c n cs

mutual
  pub parted : (c : Around) (a : Code) → stmt c (code a) ≡ part c a
  parted c (set n t op v) =
      stmt_roll c _ ∙ ap (λ x. assignment n c.sizes op x (value n (expr c.sizes (written v)))) (lowers c.sizes t)
      ∙ ap (λ x. assignment n c.sizes op (lowered c.sizes t) (value n x)) (lowers c.sizes v)
  parted c (inc n t) = stmt_roll c _ ∙ ap (λ x. compound n c.sizes AssignOp.Add x (constant n (pos 1))) (lowers c.sizes t)
  parted c (dec n t) = stmt_roll c _ ∙ ap (λ x. compound n c.sizes AssignOp.Sub x (constant n (pos 1))) (lowers c.sizes t)
  parted c (run n x) = stmt_roll c _ ∙ ap (λ x. value n x) (lowers c.sizes x)
  parted c (put n x) = stmt_roll c _ ∙ ap (λ x. stmts.put n x) (lowers c.sizes x)
  parted c (ret n x) = stmt_roll c _ ∙ ap (λ x. value n x ▷ λ a. returned c.in_main n a) (lowers c.sizes x)
  parted c (brk n) = stmt_roll c _
  parted c (cont n) = stmt_roll c _
  parted c (when n x a) =
      stmt_roll c _ ∙ ap (λ x. choice n (tested n x) (stmt c (code a)) None) (lowers c.sizes x)
      ∙ ap (λ p. choice n (tested n (lowered c.sizes x)) p None) (parted c a)
  parted c (either n x a b) =
      stmt_roll c _ ∙ ap (λ x. choice n (tested n x) (stmt c (code a)) (Some (stmt c (code b)))) (lowers c.sizes x)
      ∙ ap (λ p. choice n (tested n (lowered c.sizes x)) p (Some (stmt c (code b)))) (parted c a)
      ∙ ap (λ p. choice n (tested n (lowered c.sizes x)) (part c a) (Some p)) (parted c b)
  parted c (repeat n x a) =
      stmt_roll c _ ∙ ap (λ x. while n (tested n x) (stmt c (code a))) (lowers c.sizes x)
      ∙ ap (λ p. while n (tested n (lowered c.sizes x)) p) (parted c a)
  parted c (loop n s x t a) =
      stmt_roll c _ ∙ ap (λ x. stmt c (code s) ⨟ for n (tested n x) (stmt c (code t)) (stmt c (code a))) (lowers c.sizes x)
      ∙ ap (λ p. p ⨟ for n (tested n (lowered c.sizes x)) (stmt c (code t)) (stmt c (code a))) (parted c s)
      ∙ ap (λ p. part c s ⨟ for n (tested n (lowered c.sizes x)) p (stmt c (code a))) (parted c t)
      ∙ ap (λ p. part c s ⨟ for n (tested n (lowered c.sizes x)) (part c t) p) (parted c a)
  parted c (block cs) = stmt_roll c _ ∙ ap in_turn (all_parted c cs)
  parted c (par n cs) = stmt_roll c _ ∙ ap (branches n) (all_ended c n cs)

  pub all_parted : (c : Around) (cs : Codes) → map (stmt c) (codes_of cs) ≡ parts c cs
  all_parted c none = refl
  all_parted c (also a cs) = ap (λ z. z ∷ map (stmt c) (codes_of cs)) (parted c a) ∙ ap (λ z. part c a ∷ z) (all_parted c cs)

  all_ended : (c : Around) (n : ℕ) (cs : Codes) → map ended (branches_of (map-Stmt Stmt (Part ℕ) (stmt c) (Stmt-F.Par (at_line n) (blocks n cs)))) ≡ ends c n cs
  all_ended c n none = refl
  all_ended c n (also a cs) =
      ap (λ z. ended (record { body = z ∷ []; close = at_line n }) ∷ map ended (branches_of (map-Stmt Stmt (Part ℕ) (stmt c) (Stmt-F.Par (at_line n) (blocks n cs))))) (parted c a)
      ∙ ap (λ z. ended (record { body = part c a ∷ []; close = at_line n }) ∷ z) (all_ended c n cs)

-- Functions.
pub record Small : Type 0 where
  pub line : ℕ
  pub result : Option ObjectType
  pub parameters : ℕ
  pub variables : List Variable
  pub body : Codes
  pub close : ℕ

abbrev pub fun : Small → Function
fun f = record {
  line = at_line f.line;
  result = f.result;
  parameters = f.parameters;
  variables = f.variables;
  body = codes_of f.body;
  close = at_line f.close;
}

abbrev pub drafts : List ℕ → ℕ → ℕ → Numbers → List Small → List (List Draft)
drafts sizes main k n [] = []
drafts sizes main k n (f ∷ fs) =
    let c = around sizes main k in
    let made = (function_with c (fun f) (parts c f.body)).make no_loop (first_of (fun f) n) in
    made.drafts ∷ drafts sizes main (suc k) made.next fs

abbrev after : List ℕ → ℕ → ℕ → Numbers → Small → List Small → Part ℕ → List (List Draft)
after sizes main k n f fs p =
    let made = p.make no_loop (first_of (fun f) n) in
    made.drafts ∷ drafts_from sizes main (suc k) made.next (map fun fs)

pub drafted : (sizes : List ℕ) (main k : ℕ) (n : Numbers) (fs : List Small) → drafts_from sizes main k n (map fun fs) ≡ drafts sizes main k n fs
drafted sizes main k n [] = refl
drafted sizes main k n (f ∷ fs) =
    let c = around sizes main k in
    let made = (function_with c (fun f) (parts c f.body)).make no_loop (first_of (fun f) n) in
    ap (λ ps. after sizes main k n f fs (function_with c (fun f) ps)) (all_parted c f.body)
    ∙ ap (λ ds. made.drafts ∷ ds) (drafted sizes main (suc k) made.next fs)

abbrev pub program : List Struct → List Global → List Small → ℕ → Typed
program structs globals fs main = record { structs = structs; globals = globals; functions = map fun fs; main = main }

pub coded : (structs : List Struct) (globals : List Global) (fs : List Small) (main : ℕ) → code_of (program structs globals fs main) ≡ code_with (program structs globals fs main) (drafts (sizes_of (program structs globals fs main)) main 0 (first_numbers (program structs globals fs main)) fs)
coded structs globals fs main =
    ap (code_with (program structs globals fs main)) (drafted (sizes_of (program structs globals fs main)) main 0 (first_numbers (program structs globals fs main)) fs)
