use Rattle.std.proofs.Common.{◌≡◌, ◌+◌, drop}
use Rattle.sc_scenario.specs.scenario.Definitions.{client_place}
use Rattle.sc_scenario.proofs.scenario.taking.place_of.Given as goal

-- none of the clients so far has a greater number
abbrev pub invariant-loop-i : goal.invariant-loop-i
invariant-loop-i l = l.i + client_place l.client (drop l.i l.clients) ≡ client_place l.client l.clients
