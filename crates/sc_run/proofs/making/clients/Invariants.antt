use Rattle.std.proofs.Common.{◌≡◌, ◌*◌}
use Rattle.sc_scenario.specs.scenario.Made.{made_clients}
use Rattle.sc_run.proofs.making.clients.Given as goal

-- the clients so far, and the step of the next one's first request
abbrev pub invariant-loop-k : goal.invariant-loop-k
invariant-loop-k l = (l.clients ≡ made_clients l.seed l.n l.k) × (l.chance ≡ record { number = l.seed; step = l.k * l.n })
