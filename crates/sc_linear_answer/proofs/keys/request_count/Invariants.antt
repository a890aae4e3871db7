use Rattle.std.proofs.Common.{◌≡◌, ◌≤◌, take}
use Rattle.sc_linear_answer.specs.Keys.{request_count}
use Rattle.sc_linear_answer.proofs.keys.request_count.Given as goal

-- the requests so far were counted
abbrev pub invariant-loop-event : goal.invariant-loop-event
invariant-loop-event l = (l.count ≡ request_count (take l.event-index l.events)) × (l.count ≤ l.event-index)
