-- What the contracts of `TurnSeat` say of a seat.
use Rattle.std.specs.Prelude.{◌≡◌, ℕ, map, Contains}
use Rattle.sc_thread_ports.specs.declared.turn.rule.View.{View}
use Rattle.sc_thread_ports.specs.declared.turn.seat.TurnSeat.{TurnSeat}

module _ {T E : Type 0} where
  -- What the seat knows: its view.
  abbrev pub known : TurnSeat T E → View E
  known s = s.place.me.0

  -- Both seats belong to the table of one `TurnSeat::start`.
  abbrev pub OfOneStart : TurnSeat T E → TurnSeat T E → Type 0
  OfOneStart s t = t.place.table_id ≡ s.place.table_id

-- Each number that the view has split off is among those that it has joined.
abbrev pub AllJoined : {E : Type 0} → View E → Type 0
AllJoined v = (n : ℕ) → Contains v.given n → Contains (map (λ k. k.0) v.joined) n
