use Rattle.std.proofs.Common.{◌≡◌, ◌++◌, map, take}
use Rattle.sc_meaning.specs.sound.Players.{client_seat}
use Rattle.sc_world.proofs.seating.add_asking.Given as goal

-- the clients so far were added
abbrev pub invariant-loop-asks : goal.invariant-loop-asks
invariant-loop-asks l = l.seats.items ≡ l.initial.seats.items ++ map (client_seat l.fn.first) (take l.asks-index l.clients)
