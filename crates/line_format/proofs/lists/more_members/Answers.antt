use Rattle.std.proofs.Common.{rules, ◌≡◌, ◌+◌, ◌-◌, ◌<◌, ◌≤◌, true, false, arith, refl}
use Rattle.std.proofs.lemmas.Grind.{common_steps}
use Rattle.line_format.specs.Lines.{greatest, after}
use Rattle.line_format.specs.tools.Format.{read, loop, turns, done}
use Rattle.line_format.specs.tools.Number.{number}
use Rattle.line_format.specs.tools.Members.{member, member_end}
use Rattle.line_format.proofs.Listing.{room_behind}
use Rattle.line_format.proofs.Turning.{turned_to, turns_used}
use Rattle.line_format.proofs.lists.more_members.Goals as goal

pub returns-in_err-word : goal.returns-in_err-word
returns-in_err-word c =
    let e = turned_to _ _ _ _ _ _ c.loop.invariant.0 c.loop-test.true _ refl in
    first_of (search rules, grind (arith, common_steps))

pub returns-in_err-value : goal.returns-in_err-value
returns-in_err-value c =
    let e = turned_to _ _ _ _ _ _ c.loop.invariant.0 c.loop-test.true _ refl in
    first_of (search rules, grind (arith, common_steps))

pub returns-then-ended : goal.returns-then-ended
returns-then-ended c =
    let e = turned_to _ _ _ _ _ _ c.loop.invariant.0 c.loop-test.true _ refl in
    first_of (search rules, grind (arith, common_steps))

pub loop-preserved : goal.loop-preserved
loop-preserved c =
    let d : read (number c.loop.least 4294967295 (member_end c.args.between c.args.end c.args.rising)) c.word.new.cursor ≡ done (c.in_ok-value.value, false) c.number.new.cursor =
    first_of (search rules, grind (arith, common_steps)) in
    let b : after c.args.rising c.in_ok-value.value ≤ greatest =
    room_behind c.args.between c.args.end c.args.rising c.requires c.loop.least c.in_ok-value.value c.word.new.cursor c.number.new.cursor c.loop.invariant.1 d in
    let e = turned_to _ _ _ _ _ _ c.loop.invariant.0 c.loop-test.true _ refl in
    first_of (search rules, grind (arith, common_steps))

pub returns : goal.returns
returns c =
    let e = turns_used _ _ _ _ _ _ c.loop.invariant.0 (omega arith) in
    first_of (search rules, grind (arith, common_steps))
