-- Each link read names the call that made the frame.
use Rattle.std.proofs.Common.{◌≡◌, ℕ, List, [], ◌∷◌, ◌++◌, refl, Option, Some, sym, ◌∙◌, ap, subst}
use Rattle.std.specs.Prelude.{ℤ}
use Rattle.dfi_base.specs.Lives.{IsNext, Begins, own}
use Rattle.tac_ir.specs.declared.code.Code.{Code}
use Rattle.tac_ir.specs.declared.code.Instr.{Instr}
use Rattle.tac_ir.specs.declared.run.Op.{Op}
use Rattle.tac_ir.specs.declared.run.Entry.{Entry}
use Rattle.tac_ir.specs.Module.{Module}
use Rattle.tac_ir.specs.GoodForm.{GoodForm}
use Rattle.tac_ir.specs.Layout.{instr_at}
use Rattle.tac_ir.specs.Effect.{Spot}
use Rattle.tac_ir.specs.NumberLaws.{new_call}
use Rattle.tac_ir.specs.Path.{Step, Start, next_spot, call_of, IsPath}
use Rattle.tac_ir.specs.Threads.{threads_of}
use Rattle.tac_ir.specs.CoreRun.{Follows, IsHistory}
use Rattle.tac_ir.proofs.Living.{begins_one}
use Rattle.tac_thread.specs.declared.flat.FlatStack.{FlatStack}
use Rattle.tac_thread.specs.declared.guest.Stage.{Stage}
use Rattle.tac_thread.specs.Life.{instr_of}
use Rattle.tac_thread.specs.Flat.{flat_meaning}
use Rattle.tac_thread.proofs.Trees.{running_is}
use Rattle.path_law.specs.Standing.{FlatActivation, FlatLife, StandsIn, AreCallers, first_spot, point_of}
use Rattle.path_law.specs.Begins.{root_stack}
use Rattle.path_law.specs.InPlace.{FlatLives}
use Rattle.path_law.specs.Alive.{AreAlive}
use Rattle.tree_law.proofs.lives.Placing.{places_along}
use Rattle.chain_law.specs.RunTree.{run_says, IsRunTree}
use Rattle.chain_law.proofs.histories.Chained.{IsHere, is_here, chain_of, goes_alive}
use Rattle.link_law.specs.Made.{HasMaker, MadeBy}
use Rattle.link_law.specs.Laws.{LinksNameTheirCalls}
use Rattle.link_law.specs.tools.Links.{last_link, AreLinked}
use Rattle.link_law.proofs.links.Writes.{unlink}
use Rattle.link_law.proofs.links.Along.{links_along}
use Rattle.link_law.proofs.homes.Callers.{HasPlace, place_of, HasCaller, has_caller}
use Rattle.link_law.proofs.homes.Reading.{read_base, found_last}

pub suffix : (m : Module) (input : List ℤ) (later h : List Entry) (e : Entry) → IsHistory m input (later ++ e ∷ h) → Follows m input h e × IsHistory m input h
unfolding IsHistory
suffix m input [] h e history = history
suffix m input (x ∷ later) h e history = suffix m input later h e history.1

pub own_caller : (c : Code) (s : Start) (steps : List Step) (a : ℕ) (y : FlatActivation) (callers : List FlatActivation) → AreCallers c s steps a (y ∷ callers) → (b : ℕ) × (call_of c steps a ≡ Some (first_spot b y))
unfolding AreCallers
own_caller c s steps a y callers below = (below.0, below.2)

abbrev act_of : Spot → ℕ
act_of spot = spot.act

-- the caller's call made the frame
pub record IsMadeAt (m : Module) (h : List Entry) (e : Entry) (y : FlatActivation) : Type 0 where
  pub maker : HasMaker m h e
  pub point : maker.made.point ≡ point_of y

pub made_at : (m : Module) (input : List ℤ) (h : List Entry) (f : FlatLives) (d : Option ℕ) (e : Entry) → AreAlive m h f d → Follows m input h e → (l : FlatLife) → f e.name.0 ≡ Some l → (caller : HasCaller l)
    → (v r : ℕ) → instr_of m.code l.top ≡ Instr.Ret v (Some r) → IsMadeAt m h e caller.caller
made_at m input h f d e alive follows l lives caller v r ret =
    let p = alive.place.settled.threads.lives e.name.0 l lives in
    by p.start p.begins p.stands.steps p.stands.path l.stage p.stands.stands.spot
  where
    by : (start : Start) → Begins (threads_of m) h e.name.0 start → (steps : List Step) → IsPath m.code start steps (own (threads_of m) e.name.0 h) → (stage : Stage ℕ FlatStack) → StandsIn m.code start steps l stage
        → IsMadeAt m h e caller.caller
    by start begins_so steps path stage spot = make (called stage spot)
      where
        found : (a : ℕ) → act_of (next_spot m.code start steps) ≡ a → AreCallers m.code start steps a l.callers → (b : ℕ) × (call_of m.code steps (next_spot m.code start steps).act ≡ Some (first_spot b caller.caller))
        found a at below =
            let k = own_caller m.code start steps a caller.caller caller.callers (subst (AreCallers m.code start steps a) caller.is below) in
            (k.0, ap (call_of m.code steps) at ∙ k.1)

        called : (stage : Stage ℕ FlatStack) → StandsIn m.code start steps l stage → (b : ℕ) × (call_of m.code steps (next_spot m.code start steps).act ≡ Some (first_spot b caller.caller))
        called Stage.Ready z = found z.act (ap act_of z.spot) z.stack.below
        called (Stage.Entering callee) z = (let clash : Instr.Ret v (Some r) ≡ Instr.Call z.to callee.fun z.def z.args = sym ret ∙ z.call in cc)
        called (Stage.Leaving link) z = found z.act (ap act_of z.spot) z.stack.below
        called Stage.Waiting z = (let clash : Instr.Ret v (Some r) ≡ Instr.Fork z.join z.entries = sym ret ∙ z.fork in cc)

        make : (b : ℕ) × (call_of m.code steps (next_spot m.code start steps).act ≡ Some (first_spot b caller.caller)) → IsMadeAt m h e caller.caller
        make k = record {
          maker = record {
            start = start;
            want = follows.want;
            next = subst (λ z. IsNext (threads_of m) h e.name.0 z follows.want) (begins_one m h e.name.0 follows.start start follows.next.begins begins_so) follows.next;
            steps = steps;
            path = path;
            made = first_spot k.0 caller.caller;
            call = k.1;
          };
          point = refl;
        }

-- The life of a thread at a link read: it has a caller, whose call made the frame and wrote the newest link there.
pub record IsAtLink (m : Module) (input : List ℤ) (h : List Entry) (f : FlatLives) (e : Entry) (here : IsHere m input h f e) : Type 0 where
  pub place : HasPlace m.code here.life
  pub caller : HasCaller here.life
  pub link : new_call (instr_of m.code caller.caller) ≡ Some (last_link m.code h here.life.top.stack.base)
  pub made : MadeBy m h e (last_link m.code h here.life.top.stack.base)

pub at_link : (m : Module) (input : List ℤ) → GoodForm m.code → (h : List Entry) (f : FlatLives) (d : Option ℕ) (e : Entry) → IsRunTree m input h f d → AreAlive m h f d → Follows m input h e → (here : IsHere m input h f e)
    → (v r : ℕ) → instr_of m.code here.life.top ≡ Instr.Ret v (Some r) → IsAtLink m input h f e here
at_link m input good h f d e chain alive follows here v r ret =
    let run = running_is (f e.name.0) here.life here.runs in
    let place = place_of m.code f alive.tree.threads.parents (places_along flat_meaning m.code good (root_stack m) (run_says m input) h f d chain) e.name.0 here.life run.0 in
    let caller = has_caller m.code good here.life place v r ret in
    let links = links_along m input good h f d chain in
    let own = (unlink m.code h here.life.top caller.caller caller.callers (subst (AreLinked m.code h here.life.top) caller.is (links.linked e.name.0 here.life run.0))).0 in
    let made = made_at m input h f d e alive follows here.life run.0 caller v r ret in
    record { place = place; caller = caller; link = own; made = record { maker = made.maker; def = ap (λ p. new_call (instr_at m.code p)) made.point ∙ own } }

pub go_home : LinksNameTheirCalls
go_home m good reads input budget j run later h e v r w split ret op goes =
    let s = suffix m input later h e (subst (IsHistory m input) split run.history) in
    let k = chain_of m input good h s.1 in
    let alive = goes_alive m h k.lives k.value s.0.going k.last in
    let here = is_here m input h k.lives k.value e alive s.0 in
    let there : instr_of m.code here.life.top ≡ Instr.Ret v (Some r) = ap (instr_at m.code) (sym here.asked.point) ∙ ret in
    let at = at_link m input good h k.lives k.value e k.chain alive s.0 here v r there in
    let base : w ≡ here.life.top.stack.base = read_base m.code here.life here.asked.want v r r w here.asked.wants (here.asked.event ∙ ap Some op) there in (
      last_link m.code h here.life.top.stack.base,
      at.made,
      found_last m input good reads h (links_along m input good h k.lives k.value k.chain).tell e.name.0 here.life e.op e.answer v r there (op ∙ ap (Op.Read (record { 0 = r })) base) here.asked.answer goes,
    )
