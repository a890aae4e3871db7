-- Rows without the number of their maker, and rows with it.
use Rattle.std.specs.Prelude.{ℕ, ◌==◌, List, [], ◌∷◌, map, if◌then◌else◌}
use Rattle.sc_actor.specs.declared.rows.Row.{Row}
use Rattle.sc_thread_ports.specs.declared.exchange.shared.BareRow.{BareRow}

module _ {M O : Type 0} where
  -- Each row as a bare row, paired with the number of its maker.
  abbrev pub bare_rows : List (Row M O) → List (BareRow M O × ℕ)
  bare_rows rows = map (λ row. (record { event = row.event; sent = row.sent }, row.who)) rows

  -- The row that the maker `who` makes of a bare row.
  abbrev pub row_by : ℕ → BareRow M O → Row M O
  row_by who bare = record { who = who; event = bare.event; sent = bare.sent }

  -- The rows of a list of bare rows that are paired with the numbers of their makers.
  abbrev pub rows_from : List (BareRow M O × ℕ) → List (Row M O)
  rows_from done = map (λ d. row_by d.1 d.0) done

  -- The rows whose maker is `who`, in their order.
  abbrev pub rows_of : ℕ → List (Row M O) → List (Row M O)
  rows_of who [] = []
  rows_of who (row ∷ rows) = if row.who == who then row ∷ rows_of who rows else rows_of who rows
