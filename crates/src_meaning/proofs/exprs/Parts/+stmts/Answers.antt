use Rattle.std.proofs.Common.{rules, ◌≡◌, map, Err, Some, None, option_map, slice_get, ap, sym, ◌∙◌, subst, arith}
use Rattle.std.proofs.lemmas.Grind.{common_steps}
use Rattle.std.proofs.lemmas.Option.{gets}
use Rattle.c_typed.specs.declared.stmt.Stmt.TheOpen.{Stmt-F}
use Rattle.src_law.specs.Acts.{an_end, Act}
use Rattle.src_law.specs.Stmts.{layer, stmt, in_turn, condition, guard, skip}
use Rattle.src_law.specs.Traces.{turn}
use Rattle.src_law.specs.Program.{body}
use Rattle.src_law.specs.tools.Heard.{bind}
use Rattle.src_law.specs.tools.Reader.{reads, turns_at}
use Rattle.src_meaning.specs.tools.Branches.{branches_of, Branches}
use Rattle.src_meaning.specs.tools.Follows.{Follows}
use Rattle.src_meaning.specs.tools.Levels.{ReadsIn, seen, program_of}
use Rattle.src_meaning.proofs.Loops.{no_turn, one_turn}
use Rattle.src_meaning.proofs.Forking.{too_many, past_fork, branch_of_fork, fork_pauses, no_branch, zero_branch, that_branch}
use Rattle.src_meaning.proofs.StmtForms.{block_is, assign_is, increment_is, decrement_is, call_is, putint_is, free_is, return_is, break_is, continue_is, if_is, while_is, for_is, par_is}
use Rattle.src_meaning.proofs.exprs.Parts.+stmts.Goals as goal

pub stmt-returns-in-Block : goal.stmt-returns-in-Block
stmt-returns-in-Block g t c =
    subst (λ a. ReadsIn c.args.self.now.level an_end a c.args.heard.now c.stmts.result c.stmts.new.heard)
    (sym (block_is (seen c.args.self.now.level) c.args.s.now c.in-Block.items c.in-Block.is))
    (subst (λ xs. ReadsIn c.args.self.now.level an_end (in_turn (map (stmt (seen c.args.self.now.level)) xs)) c.args.heard.now c.stmts.result c.stmts.new.heard) c.as_slice.ensures c.stmts.ensures)

pub stmt-returns-in-Assign : goal.stmt-returns-in-Assign
stmt-returns-in-Assign g t c =
    subst (λ a. ReadsIn c.args.self.now.level an_end a c.args.heard.now c.assign.result c.assign.new.heard)
    (sym (assign_is (seen c.args.self.now.level) c.args.s.now c.in-Assign.line c.in-Assign.target c.in-Assign.op c.in-Assign.value c.in-Assign.is))
    (c.assign.ensures)

pub stmt-returns-in-Increment : goal.stmt-returns-in-Increment
stmt-returns-in-Increment g t c =
    subst (λ a. ReadsIn c.args.self.now.level an_end a c.args.heard.now c.step.result c.step.new.heard)
    (sym (increment_is (seen c.args.self.now.level) c.args.s.now c.in-Increment.line c.in-Increment.target c.in-Increment.is))
    (c.step.ensures)

pub stmt-returns-in-Decrement : goal.stmt-returns-in-Decrement
stmt-returns-in-Decrement g t c =
    subst (λ a. ReadsIn c.args.self.now.level an_end a c.args.heard.now c.step-in-Decrement.result c.step-in-Decrement.new.heard)
    (sym (decrement_is (seen c.args.self.now.level) c.args.s.now c.in-Decrement.line c.in-Decrement.target c.in-Decrement.is))
    (c.step-in-Decrement.ensures)

pub stmt-returns-in-Call : goal.stmt-returns-in-Call
stmt-returns-in-Call g t c =
    subst (λ a. ReadsIn c.args.self.now.level an_end a c.args.heard.now c.ignored.result c.ignored.new.heard)
    (sym (call_is (seen c.args.self.now.level) c.args.s.now c.in-Call.line c.in-Call.call c.in-Call.is))
    (c.ignored.ensures)

pub stmt-returns-in-PutInt : goal.stmt-returns-in-PutInt
stmt-returns-in-PutInt g t c =
    subst (λ a. ReadsIn c.args.self.now.level an_end a c.args.heard.now c.put_int.result c.put_int.new.heard)
    (sym (putint_is (seen c.args.self.now.level) c.args.s.now c.in-PutInt.line c.in-PutInt.value c.in-PutInt.is))
    (c.put_int.ensures)

pub stmt-returns-in-Free : goal.stmt-returns-in-Free
stmt-returns-in-Free g t c =
    subst (λ a. ReadsIn c.args.self.now.level an_end a c.args.heard.now c.free.result c.free.new.heard)
    (sym (free_is (seen c.args.self.now.level) c.args.s.now c.in-Free.line c.in-Free.pointer c.in-Free.is))
    (c.free.ensures)

pub stmt-returns-in-Return : goal.stmt-returns-in-Return
stmt-returns-in-Return g t c =
    subst (λ a. ReadsIn c.args.self.now.level an_end a c.args.heard.now c.give.result c.give.new.heard)
    (sym (return_is (seen c.args.self.now.level) c.args.s.now c.in-Return.line c.in-Return.value c.in-Return.is))
    (c.give.ensures)

pub stmt-returns-in-Break : goal.stmt-returns-in-Break
stmt-returns-in-Break g t c = ap (λ a. reads (body (program_of c.args.self.now.level.program)) c.args.self.now.level.fuel an_end a c.args.heard.now) (break_is (seen c.args.self.now.level) c.args.s.now c.in-Break.line c.in-Break.is)

pub stmt-returns-in-Continue : goal.stmt-returns-in-Continue
stmt-returns-in-Continue g t c = ap (λ a. reads (body (program_of c.args.self.now.level.program)) c.args.self.now.level.fuel an_end a c.args.heard.now) (continue_is (seen c.args.self.now.level) c.args.s.now c.in-Continue.line c.in-Continue.is)

pub stmt-returns-in-None : goal.stmt-returns-in-None
stmt-returns-in-None g t c =
    subst (λ a. ReadsIn c.args.self.now.level an_end a c.args.heard.now c.when.result c.when.new.heard)
    (sym (if_is (seen c.args.self.now.level) c.args.s.now c.in-If.line c.in-If.condition c.in-If.first c.in-If.second c.in-If.is))
    (subst (λ x. ReadsIn c.args.self.now.level an_end (layer (seen c.args.self.now.level) (Stmt-F.If c.in-If.line c.in-If.condition (stmt (seen c.args.self.now.level) c.in-If.first) (option_map (stmt (seen c.args.self.now.level)) x))) c.args.heard.now c.when.result c.when.new.heard) (sym c.in-None.is) c.when.ensures)

pub stmt-returns-in-Some : goal.stmt-returns-in-Some
stmt-returns-in-Some g t c =
    subst (λ a. ReadsIn c.args.self.now.level an_end a c.args.heard.now c.choose.result c.choose.new.heard)
    (sym (if_is (seen c.args.self.now.level) c.args.s.now c.in-If.line c.in-If.condition c.in-If.first c.in-If.second c.in-If.is))
    (subst (λ x. ReadsIn c.args.self.now.level an_end (layer (seen c.args.self.now.level) (Stmt-F.If c.in-If.line c.in-If.condition (stmt (seen c.args.self.now.level) c.in-If.first) (option_map (stmt (seen c.args.self.now.level)) x))) c.args.heard.now c.choose.result c.choose.new.heard) (sym c.in-Some.is) c.choose.ensures)

pub stmt-returns-in-While : goal.stmt-returns-in-While
stmt-returns-in-While g t c =
    subst (λ a. ReadsIn c.args.self.now.level an_end a c.args.heard.now c.while_loop.result c.while_loop.new.heard)
    (sym (while_is (seen c.args.self.now.level) c.args.s.now c.in-While.line c.in-While.condition c.in-While.body c.in-While.is))
    (c.while_loop.ensures)

pub stmt-returns-in-For : goal.stmt-returns-in-For
stmt-returns-in-For g t c =
    subst (λ a. ReadsIn c.args.self.now.level an_end a c.args.heard.now c.counted_loop.result c.counted_loop.new.heard)
    (sym (for_is (seen c.args.self.now.level) c.args.s.now c.in-For.line c.in-For.start c.in-For.condition c.in-For.step c.in-For.body c.in-For.is))
    (c.counted_loop.ensures)

pub stmt-returns-in-Par : goal.stmt-returns-in-Par
stmt-returns-in-Par g t c =
    subst (λ a. ReadsIn c.args.self.now.level an_end a c.args.heard.now c.par.result c.par.new.heard)
    (sym (par_is (seen c.args.self.now.level) c.args.s.now c.in-Par.line c.in-Par.branches c.in-Par.is))
    (subst (λ xs. ReadsIn c.args.self.now.level an_end (Act.forks (branches_of (seen c.args.self.now.level) xs)) c.args.heard.now c.par.result c.par.new.heard) c.as_slice-in-Par.ensures c.par.ensures)

pub while_loop-returns-then-self-eq0 : goal.while_loop-returns-then-self-eq0
while_loop-returns-then-self-eq0 g t c =
    ap (λ r. bind r (λ u. turns_at (body (program_of c.args.self.now.level.program)) c.args.self.now.level.fuel (condition (seen c.args.self.now.level) c.args.condition.now) (stmt (seen c.args.self.now.level) c.args.body.now) skip)) c.in_ok-unit.ensures
    ∙ no_turn (body (program_of c.args.self.now.level.program)) c.args.self.now.level.fuel (condition (seen c.args.self.now.level) c.args.condition.now) (stmt (seen c.args.self.now.level) c.args.body.now) skip c.unit.new.self (omega arith)

pub while_loop-returns : goal.while_loop-returns
while_loop-returns g t c =
    subst (λ r. Follows r c.while_turn.result c.while_turn.new.heard)
    (sym (ap (λ r. bind r (λ u. turns_at (body (program_of c.args.self.now.level.program)) c.args.self.now.level.fuel (condition (seen c.args.self.now.level) c.args.condition.now) (stmt (seen c.args.self.now.level) c.args.body.now) skip)) c.in_ok-unit.ensures
    ∙ one_turn (body (program_of c.args.self.now.level.program)) c.args.self.now.level.fuel (condition (seen c.args.self.now.level) c.args.condition.now) (stmt (seen c.args.self.now.level) c.args.body.now) skip c.unit.new.self (omega arith)))
    (subst (λ l. ReadsIn l an_end (turn (condition (seen l) c.args.condition.now) (stmt (seen l) c.args.body.now) skip) c.unit.new.self c.while_turn.result c.while_turn.new.heard) c.lowered.ensures c.while_turn.ensures)

pub for_loop-returns-then-self-eq0 : goal.for_loop-returns-then-self-eq0
for_loop-returns-then-self-eq0 g t c =
    ap (λ r. bind r (λ u. turns_at (body (program_of c.args.self.now.level.program)) c.args.self.now.level.fuel (guard (seen c.args.self.now.level) c.args.condition.now) (stmt (seen c.args.self.now.level) c.args.body.now) (stmt (seen c.args.self.now.level) c.args.step.now))) c.in_ok-unit.ensures
    ∙ no_turn (body (program_of c.args.self.now.level.program)) c.args.self.now.level.fuel (guard (seen c.args.self.now.level) c.args.condition.now) (stmt (seen c.args.self.now.level) c.args.body.now) (stmt (seen c.args.self.now.level) c.args.step.now) c.unit.new.self (omega arith)

pub for_loop-returns : goal.for_loop-returns
for_loop-returns g t c =
    subst (λ r. Follows r c.for_turn.result c.for_turn.new.heard)
    (sym (ap (λ r. bind r (λ u. turns_at (body (program_of c.args.self.now.level.program)) c.args.self.now.level.fuel (guard (seen c.args.self.now.level) c.args.condition.now) (stmt (seen c.args.self.now.level) c.args.body.now) (stmt (seen c.args.self.now.level) c.args.step.now))) c.in_ok-unit.ensures
    ∙ one_turn (body (program_of c.args.self.now.level.program)) c.args.self.now.level.fuel (guard (seen c.args.self.now.level) c.args.condition.now) (stmt (seen c.args.self.now.level) c.args.body.now) (stmt (seen c.args.self.now.level) c.args.step.now) c.unit.new.self (omega arith)))
    (subst (λ l. ReadsIn l an_end (turn (guard (seen l) c.args.condition.now) (stmt (seen l) c.args.body.now) (stmt (seen l) c.args.step.now)) c.unit.new.self c.for_turn.result c.for_turn.new.heard) c.lowered.ensures c.for_turn.ensures)

pub par-returns-then-n-gt15 : goal.par-returns-then-n-gt15
par-returns-then-n-gt15 g t c = too_many c.args.self.now.level c.args.branches.now c.args.heard.now (omega arith)

pub par-returns-in_err-unit : goal.par-returns-in_err-unit
par-returns-in_err-unit g t c =
    let told : c.from_residual.result ≡ Err c.in_err-unit.field-0.0 = search rules in
    subst (λ r. ReadsIn c.args.self.now.level an_end (Act.forks (branches_of (seen c.args.self.now.level) c.args.branches.now)) c.args.heard.now r c.unit.new.self) (sym told)
    (fork_pauses c.args.self.now.level c.args.branches.now c.args.heard.now c.in_err-unit.field-0.0 (omega arith) (search rules))

pub par-returns-in_None-heard : goal.par-returns-in_None-heard
par-returns-in_None-heard g t c =
    let told : Branches c.unit.new.self None c.branch-heard.new.self = search rules in
    past_fork c.args.self.now.level c.args.branches.now c.args.heard.now c.unit.new.self c.branch-heard.new.self (omega arith) (search rules) told

pub par-returns-in_Some-heard : goal.par-returns-in_Some-heard
par-returns-in_Some-heard g t c =
    let told : Branches c.unit.new.self (Some c.in_Some-heard.i) c.branch-heard.new.self = search rules in
    subst (λ r. Follows r c.branch-self.result c.branch-self.new.heard)
    (sym (branch_of_fork c.args.self.now.level c.args.branches.now c.args.heard.now c.unit.new.self c.branch-heard.new.self c.in_Some-heard.i (omega arith) (search rules) told))
    c.branch-self.ensures

pub branch-returns-in_default : goal.branch-returns-in_default
branch-returns-in_default g t c = zero_branch c.args.self.now.level c.args.branches.now c.args.i c.args.heard.now (omega arith)

pub branch-returns-in-None : goal.branch-returns-in-None
branch-returns-in-None g t c =
    let there : slice_get c.args.branches.now c.in-Some.place ≡ None = grind (arith, common_steps, gets) in
    no_branch c.args.self.now.level c.args.branches.now c.args.i c.in-Some.place c.args.heard.now (omega arith) there

pub branch-returns-in-Some-get : goal.branch-returns-in-Some-get
branch-returns-in-Some-get g t c =
    let there : slice_get c.args.branches.now c.in-Some.place ≡ Some c.in-Some-get.branch.now = grind (arith, common_steps, gets) in
    subst (λ r. Follows r c.branch_body.result c.branch_body.new.heard)
    (sym (that_branch c.args.self.now.level c.args.branches.now c.args.i c.in-Some.place c.in-Some-get.branch.now c.args.heard.now (omega arith) there))
    (search rules)
