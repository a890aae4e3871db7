-- What the tests say of a seat.
use Rattle.std.specs.Prelude.{◌≡◌, ℕ, false}
use Rattle.sc_thread_ports.specs.declared.turn.seat.TurnSeat.{TurnSeat}
use Rattle.sc_thread_ports.specs.turn.Seats.{known}

-- The seat has the number `who`, and does not have the turn.
abbrev pub IsIdle : {T E : Type 0} → TurnSeat T E → ℕ → Type 0
IsIdle s who = ((known s).who ≡ who) × ((known s).turn ≡ false)
