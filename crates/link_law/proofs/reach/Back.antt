-- Each return goes on behind the call that made the frame, and the set of its link read has that call.
use Rattle.std.proofs.Common.{◌≡◌, ℕ, List, Bool, true, false, refl, Option, Some, None, inl, sym, ◌∙◌, ap, subst, not}
use Rattle.std.specs.Prelude.{ℤ, nat_eq}
use Rattle.dfi_base.specs.declared.numbers.Point.{Point}
use Rattle.dfi_base.specs.Lives.{IsNext}
use Rattle.tac_ir.specs.declared.code.Code.{Code}
use Rattle.tac_ir.specs.declared.code.BinOp.{BinOp}
use Rattle.tac_ir.specs.declared.code.Instr.{Instr}
use Rattle.tac_ir.specs.declared.run.Op.{Op}
use Rattle.tac_ir.specs.declared.run.Entry.{Entry}
use Rattle.tac_ir.specs.Module.{Module}
use Rattle.tac_ir.specs.GoodForm.{GoodForm}
use Rattle.tac_ir.specs.Layout.{instr_at}
use Rattle.tac_ir.specs.Effect.{Spot}
use Rattle.tac_ir.specs.Path.{Step, next_spot, call_of, resumed, link_read}
use Rattle.tac_ir.specs.NumberLaws.{new_call, is_calls}
use Rattle.tac_ir.specs.Numbers.{new_def}
use Rattle.tac_ir.specs.Threads.{threads_of}
use Rattle.tac_ir.specs.Answers.{has, set_of}
use Rattle.tac_ir.specs.CoreRun.{Follows, IsHistory}
use Rattle.tac_ir.proofs.Living.{begins_one}
use Rattle.tac_ir.proofs.Numbering.{calls_make_theirs}
use Rattle.tac_thread.specs.declared.flat.FlatStack.{FlatStack}
use Rattle.tac_thread.specs.declared.guest.Stage.{Stage}
use Rattle.tac_thread.specs.declared.doing.Doing.{Doing}
use Rattle.tac_thread.specs.declared.want.Want.{Want}
use Rattle.tac_thread.specs.Meaning.{divides_by_zero}
use Rattle.tac_thread.specs.Life.{instr_of, temp}
use Rattle.tac_thread.specs.Doing.{doing, asked, given, tested, link_write, want_at, want_of}
use Rattle.tac_thread.specs.Flat.{flat_meaning}
use Rattle.tac_thread.proofs.Trees.{running_is}
use Rattle.path_law.specs.Asked.{op_of}
use Rattle.path_law.specs.Standing.{FlatLife, StandsIn, AreCallers, first_spot, point_of}
use Rattle.path_law.specs.Begins.{root_stack}
use Rattle.path_law.specs.InPlace.{FlatLives}
use Rattle.path_law.specs.Alive.{AreAlive}
use Rattle.path_law.proofs.Returns.{goes_back}
use Rattle.tree_law.proofs.lives.Placing.{places_along}
use Rattle.chain_law.specs.RunTree.{run_says, IsRunTree}
use Rattle.chain_law.proofs.histories.Chained.{IsHere, is_here, chain_of, goes_alive}
use Rattle.link_law.specs.Made.{MadeBy, ReturnsHome}
use Rattle.link_law.specs.Linked.{ReadsCalls, IsLinkClosed, IsCallAt}
use Rattle.link_law.specs.Laws.{ReturnsGoHome, LinkedLaw}
use Rattle.link_law.specs.tools.Links.{last_link}
use Rattle.link_law.specs.tools.Reached.{spot}
use Rattle.link_law.proofs.homes.Callers.{place_of, caller_calls, has_caller}
use Rattle.link_law.proofs.homes.Reading.{says_home, homes_along}
use Rattle.link_law.proofs.homes.Home.{suffix, own_caller, at_link}
use Rattle.link_law.proofs.reach.Along.{IsReachedLife, reached_along, reached_of, own_call_reaches}

-- whoever wants to return has read its link
leaving : (c : Code) (l : FlatLife) (w : Want ℕ) → want_of flat_meaning c l ≡ Some w → op_of w ≡ Some Op.Ret → (link : ℕ) × (l.stage ≡ Stage.Leaving link)
leaving c l w wants event = by l.stage refl wants
  where
    op_is : Option (Want ℕ) → Option Op
    op_is None = None
    op_is (Some z) = op_of z

    divided_no : (to : ℕ) (o : BinOp) (x y : ℕ) (z : Bool) → asked (elim z [ true ↦ Doing.Asks Want.Zero | false ↦ given to (flat_meaning.bin o x y) ]) ≡ Some w → ⊥
    divided_no to o x y true e = (let one : Want.Zero ≡ w = cc in let ops : Some Op.Zero ≡ Some Op.Ret = ap op_of one ∙ event in cc)
    divided_no to o x y false e = cc

    tested_no : (a b : ℕ) (o : Bool) → asked (tested {V = ℕ} a b (Some o)) ≡ Some w → ⊥
    tested_no a b true e = cc
    tested_no a b false e = cc

    first_no : (i : Instr) → asked (doing flat_meaning c l.top i) ≡ Some w → ⊥
    first_no (Instr.Bin to o x y) e = divided_no to o (temp flat_meaning l.top x) (temp flat_meaning l.top y) (divides_by_zero flat_meaning o (temp flat_meaning l.top y)) e
    first_no (Instr.Test x a b) e = tested_no a b (not (nat_eq (temp flat_meaning l.top x) 0)) e
    first_no (Instr.Ret x (Some r)) e =
        (let one : Want.Pop (record { 0 = r }) l.top.stack.base ≡ w = cc in let ops : Some (Op.Read (record { 0 = r }) l.top.stack.base) ≡ Some Op.Ret = ap op_of one ∙ event in cc)
    first_no i e = other i (ap op_is e ∙ event)
      where
        other : (i : Instr) → op_is (asked (doing flat_meaning c l.top i)) ≡ Some Op.Ret → ⊥
        other i z = cc

    link_no : (i : Instr) (k : ℕ) → link_write i (Some k) ≡ Some w → ⊥
    link_no (Instr.Call to f d args) k e = (let one : Want.Push (record { 0 = d }) k ≡ w = cc in let ops : Some (Op.Write (record { 0 = d }) k d) ≡ Some Op.Ret = ap op_of one ∙ event in cc)
    link_no i k e = cc

    by : (s : Stage ℕ FlatStack) → l.stage ≡ s → want_at flat_meaning c l.top s ≡ Some w → (link : ℕ) × (l.stage ≡ Stage.Leaving link)
    by Stage.Ready is e = absurd (first_no (instr_of c l.top) e)
    by (Stage.Entering callee) is e = absurd (link_no (instr_of c l.top) callee.stack.base e)
    by (Stage.Leaving link) is e = (link, is)
    by Stage.Waiting is e = (let one : Want.Waits ≡ w = cc in let ops : None ≡ Some Op.Ret = ap op_of one ∙ event in cc)

-- what reaches a life of a run
reached_life : (m : Module) (input : List ℤ) → GoodForm m.code → ReadsCalls m → (R : Point → ℕ → ℕ → Type 0) → IsLinkClosed m.code R → (h : List Entry) (f : FlatLives) (d : Option ℕ) → IsRunTree m input h f d → AreAlive m h f d
    → (n : ℕ) (l : FlatLife) → f n ≡ Some l → IsReachedLife flat_meaning R m.code l
reached_life m input good reads R closed h f d chain alive n l lives =
    reached_of flat_meaning R m.code f alive.tree.threads.parents
    (reached_along flat_meaning R m.code good closed (root_stack m) (says_home m input) (λ g k z e reply told. told) (λ g k z e none. none) h f d (homes_along m input good reads h f d chain)) n l lives

abbrev back_by : Code → List Step → Option Spot → Option Spot
back_by c steps o = elim o [ None ↦ None | Some made ↦ Some (record { act = made.act; point = resumed c made.point (link_read steps); second = false }) ]

-- every definition reaches everywhere: no table is asked
abbrev everywhere : Point → ℕ → ℕ → Type 0
everywhere p d f = Unit {0}

back_in : (m : Module) (input : List ℤ) → GoodForm m.code → ReadsCalls m → (h : List Entry) (e : Entry) → e.op ≡ Op.Ret → (f : FlatLives) (d : Option ℕ) → IsRunTree m input h f d → AreAlive m h f d → Follows m input h e → IsHere m input h f e → ReturnsHome m h e
back_in m input good reads h e op f d chain alive follows here =
    let run = running_is (f e.name.0) here.life here.runs in
    let leaves = leaving m.code here.life here.asked.want here.asked.wants (here.asked.event ∙ ap Some op) in
    let p = here.asked.place in
    let stands = subst (StandsIn m.code p.start p.stands.steps here.life) leaves.1 p.stands.stands.spot in
    let place = place_of m.code f alive.tree.threads.parents (places_along flat_meaning m.code good (root_stack m) (run_says m input) h f d chain) e.name.0 here.life run.0 in
    let caller = has_caller m.code good here.life place stands.value stands.read stands.ret in
    let closed : IsLinkClosed m.code everywhere = record { calls = λ p f d call makes. tt; edges = λ p q edge d f reached. tt; joins = λ p join entries is d f ends. tt } in
    let home = (reached_life m input good reads everywhere closed h f d chain alive e.name.0 here.life run.0).reached.home leaves.0 caller.caller caller.callers leaves.1 caller.is in
    let c = own_caller m.code p.start p.stands.steps stands.act caller.caller caller.callers (subst (AreCallers m.code p.start p.stands.steps stands.act) caller.is stands.stack.below) in
    let act : (next_spot m.code p.start p.stands.steps).act ≡ stands.act = ap (λ (z : Spot). z.act) stands.spot in
    let call : call_of m.code p.stands.steps (next_spot m.code p.start p.stands.steps).act ≡ Some (first_spot c.0 caller.caller) = ap (call_of m.code p.stands.steps) act ∙ c.1 in
    let link : link_read p.stands.steps ≡ leaves.0 = stands.found (first_spot c.0 caller.caller) c.1 in
    let point : resumed m.code (point_of caller.caller) (link_read p.stands.steps) ≡ point_of caller.caller =
    ap (resumed m.code (point_of caller.caller)) link ∙ goes_back m.code good caller.caller leaves.0 ∙ ap (λ z. record { fun = caller.caller.fun; at = z }) home in
    record {
      maker = record {
        start = p.start;
        want = follows.want;
        next = subst (λ z. IsNext (threads_of m) h e.name.0 z follows.want) (begins_one m h e.name.0 follows.start p.start follows.next.begins p.begins) follows.next;
        steps = p.stands.steps;
        path = p.stands.path;
        made = first_spot c.0 caller.caller;
        call = call;
      };
      back = ap (back_by m.code p.stands.steps) call ∙ ap (λ q. Some (record { act = c.0; point = q; second = false })) point;
    }

pub go_back : ReturnsGoHome
go_back m good reads input budget j run later h e split op =
    let s = suffix m input later h e (subst (IsHistory m input) split run.history) in
    let k = chain_of m input good h s.1 in
    let alive = goes_alive m h k.lives k.value s.0.going k.last in
    back_in m input good reads h e op k.lives k.value k.chain alive s.0 (is_here m input h k.lives k.value e alive s.0)

-- The set of a link read.

def_of_call : (i : Instr) (d : ℕ) → new_call i ≡ Some d → new_def i ≡ Some d
def_of_call (Instr.Call to f k args) d is = is
def_of_call i d is = cc

only_calls : (c : Code) → GoodForm c → (f d : ℕ) (q : Point) → IsCallAt c f d q → is_calls c d ≡ true
only_calls c good f d q is = (calls_make_theirs c good q d (def_of_call (instr_at c q) d is.def)).1 is.def

pub linked : (R : Point → ℕ → ℕ → Type 0) → LinkedLaw R
linked R m good tables = record {
  checked = tables.checked;
  calls = λ p v r d ret in_set. (let q = tables.sets.only p v r d ret in_set in (q.0, q.1));
  reads = λ input budget j run later h e v r w split ret op.
      (let s = suffix m input later h e (subst (IsHistory m input) split run.history) in
      let k = chain_of m input good h s.1 in
      let alive = goes_alive m h k.lives k.value s.0.going k.last in
      read input h e k.lives k.value k.chain alive s.0 (is_here m input h k.lives k.value e alive s.0) v r ret);
}
  where
    reads_calls : ReadsCalls m
    reads_calls = record { checked = tables.checked; calls = λ p v r d ret in_set. (let q = tables.sets.only p v r d ret in_set in only_calls m.code good p.fun d q.0 q.1) }

    read : (input : List ℤ) (h : List Entry) (e : Entry) (f : FlatLives) (d : Option ℕ) → IsRunTree m input h f d → AreAlive m h f d → Follows m input h e → IsHere m input h f e → (v r : ℕ) → instr_at m.code e.point ≡ Instr.Ret v (Some r)
        → (d : ℕ) × MadeBy m h e d × (has (set_of m r) d ≡ true)
    read input h e f d chain alive follows here v r ret =
        let run = running_is (f e.name.0) here.life here.runs in
        let there : instr_of m.code here.life.top ≡ Instr.Ret v (Some r) = ap (instr_at m.code) (sym here.asked.point) ∙ ret in
        let at = at_link m input good h f d e chain alive follows here v r there in
        let call = caller_calls m.code here.life at.place at.caller.caller at.caller.callers at.caller.is in
        let reaches = own_call_reaches flat_meaning R m.code here.life (reached_life m input good reads_calls R tables.closed h f d chain alive e.name.0 here.life run.0) at.caller.caller at.caller.callers at.caller.is
        (last_link m.code h here.life.top.stack.base) at.link in (
          last_link m.code h here.life.top.stack.base,
          at.made,
          tables.sets.all (spot here.life.top) (spot at.caller.caller) v r (last_link m.code h here.life.top.stack.base) there (record { calls = call; def = at.link }) (inl reaches),
        )
