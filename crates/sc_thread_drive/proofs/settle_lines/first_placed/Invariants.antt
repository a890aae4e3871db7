use Rattle.std.proofs.Common.{◌≡◌, take, find, None}
use Rattle.sc_thread_drive.specs.Numbers.{is_in}
use Rattle.sc_thread_workers.specs.Crews.{crew_numbers}
use Rattle.sc_thread_drive.proofs.settle_lines.first_placed.Given as goal

-- no shell gets any of those so far
abbrev pub invariant-loop-spot : goal.invariant-loop-spot
invariant-loop-spot g l = find (λ spot. is_in spot.who (crew_numbers l.shells)) (take l.spot-index l.spots) ≡ None
