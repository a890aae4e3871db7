-- The rows that decide entries, each with its number and its entries.
use Rattle.std.specs.Prelude.{ℕ, ◌+◌, List, [], ◌∷◌, ◌++◌, length}
use Rattle.sc_actor.specs.declared.rows.Row.{Row}
use Rattle.sc_words.specs.declared.commands.cores.Base.{Base}
use Rattle.sc_words.specs.declared.commands.orders.OrderLine.{OrderLine}
use Rattle.sc_meaning.specs.declared.entries.LogEntry.{LogEntry}
use Rattle.sc_mail.specs.declared.bodies.Mail.{Mail}
use Rattle.sc_meaning.specs.sound.GroupsOf.{entries_by_row}
use Rattle.sc_meaning.specs.sound.Players.{Ahead}
use Rattle.sc_world_entries.specs.declared.decided.deciding.DecidingRow.{DecidingRow}

-- a row with the entries that it decides; no row where it decides none
abbrev pub with_entries : ℕ → List LogEntry → List DecidingRow
with_entries row [] = []
with_entries row (entry ∷ entries) = record { row = row; entries = entry ∷ entries } ∷ []

-- those of some rows that decide entries, where these rows were before them
abbrev pub deciding_from : Ahead → List Base → List (Row Mail OrderLine) → List (Row Mail OrderLine) → List DecidingRow
deciding_from ahead bases before [] = []
deciding_from ahead bases before (row ∷ rows) =
    with_entries (length before + 1) (entries_by_row ahead bases before row) ++ deciding_from ahead bases (before ++ row ∷ []) rows
