-- What a turn leaves of a seat.
use Rattle.std.proofs.Common.{◌≡◌, true, false, List, [], ap, ◌∙◌}
use Rattle.sc_thread_ports.specs.declared.turn.seat.TurnSeat.{TurnSeat}
use Rattle.sc_thread_ports.specs.turn.TurnDefinitions.{known, OfOneStart, StartsWith, IsTrueOf, entered_with, with_turn}
use Rattle.sc_actor.specs.declared.rows.Row.{Row}
use Rattle.sc_actor.specs.declared.actors.Parcel.{Ghosts}
use Rattle.sc_thread_ports.specs.declared.exchange.shared.BareRow.{BareRow}
use Rattle.sc_thread_ports.specs.declared.exchange.shared.Exchange.{Exchange}
use Rattle.sc_thread_ports.specs.exchange.ExchangeDefinitions.{all_addressed, bare_rows, rows_from, RowTurned, SeatLooked, SeatTurned}
use Rattle.sc_thread_ports.proofs.ExchangeProofs.Views.{seen_same, turned_same, own_turned, own_row_turned, kept_turned, kept_row_turned}

module _ {M O : Type 0} {g : Ghosts M} where
  -- the turn was taken, these rows were found, and it was left with them
  pub seat_looked : (s m t : TurnSeat (Exchange M O g) (BareRow M O)) (rows : List (Row M O)) → OfOneStart s m → OfOneStart m t → known m ≡ entered_with (known s) (bare_rows rows) → StartsWith (bare_rows rows) (known s).seen → IsTrueOf (known s) (bare_rows rows) →
      known t ≡ with_turn (known m) false → all_addressed g.receiver [] rows ≡ true → SeatLooked s t
  seat_looked s m t rows a b view later facts left addressed = record {
    start = b ∙ a;
    addressed = ap (all_addressed g.receiver []) (seen_same (known s) (known m) (known t) rows view left) ∙ addressed;
    turned = turned_same (known s) (known m) (known t) rows view later facts left;
  }

  -- a turn without a row
  pub seat_same : (s t : TurnSeat (Exchange M O g) (BareRow M O)) → SeatLooked s t → SeatTurned s t
  seat_same s t l = let kept = kept_turned (known s) (known t) l.turned in record {
    start = l.start;
    addressed = l.addressed;
    own = own_turned (known s) (known t) l.turned;
    given = kept.0;
    joined = kept.1;
  }

  -- a turn with a row
  pub seat_row : (s t : TurnSeat (Exchange M O g) (BareRow M O)) (row : Row M O) → OfOneStart s t → all_addressed g.receiver [] (rows_from (known t).seen) ≡ true → RowTurned (known s) (known t) row → SeatTurned s t
  seat_row s t row start addressed turned = let kept = kept_row_turned (known s) (known t) row turned in record {
    start = start;
    addressed = addressed;
    own = own_row_turned (known s) (known t) row turned;
    given = kept.0;
    joined = kept.1;
  }
