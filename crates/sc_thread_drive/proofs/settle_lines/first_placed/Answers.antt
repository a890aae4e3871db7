use Rattle.std.proofs.Common.{rules, ◌≡◌, None}
use Rattle.sc_thread_drive.proofs.FirstCopies.{past_spot, at_spot}
use Rattle.sc_thread_drive.proofs.settle_lines.first_placed.Goals as goal

pub returns-in-Some : goal.returns-in-Some
returns-in-Some g c = at_spot c.args.shells.now c.args.spots.now c.loop-spot.spot-index _ c.loop-spot-test.true c.loop-spot.invariant c.in-Some.place c.in-Some.ensures.some

pub loop-spot-preserved : goal.loop-spot-preserved
loop-spot-preserved g c =
    let none : c.place_of.result ≡ None = search rules in
    past_spot c.args.shells.now c.args.spots.now c.loop-spot.spot-index _ c.loop-spot-test.true c.loop-spot.invariant (c.place_of.ensures.none none)
