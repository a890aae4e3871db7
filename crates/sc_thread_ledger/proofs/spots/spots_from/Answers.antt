use Rattle.std.proofs.Common.{rules, ◌≡◌, ◌<◌, sym, subst, length, get_or, arith}
use Rattle.sc_thread_ledger.specs.LedgerDefinitions.{AreCounted, IsNext, spot_after}
use Rattle.sc_thread_ledger.proofs.Counted.{next_spots}
use Rattle.sc_thread_ledger.proofs.spots.spots_from.Goals as goal

pub loop-number-preserved : goal.loop-number-preserved
loop-number-preserved c =
    let before = c.loop-number.spots.items in let i = c.loop-number.number-index in
    let next : IsNext before c.in_ok-spot.spot = search rules in
    let at : c.in_ok-spot.spot ≡ spot_after c.args.receivers.now before (get_or c.args.numbers.now i 0) = search rules in
    let inside : i < length c.args.numbers.now = omega arith in (
      next_spots c.args.receivers.now c.args.numbers.now before c.push.new.self.items c.in_ok-spot.spot i inside c.loop-number.invariant.0 at c.in_ok-push.ensures.items,
      subst (AreCounted c.count_spot.new.counts.items) (sym c.in_ok-push.ensures.items) (c.count_spot.ensures before c.loop-number.invariant.1 next),
    )
