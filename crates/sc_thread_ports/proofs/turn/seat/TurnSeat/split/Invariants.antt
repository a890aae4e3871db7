use Rattle.sc_thread_ports.proofs.turn.seat.TurnSeat.split.Given as goal

-- the number of the new seat
abbrev pub ghosts-split_as : goal.ghosts-split_as
ghosts-split_as g a = record { number = a.who }
