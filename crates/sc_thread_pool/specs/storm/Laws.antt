-- The rows that the deeds of a storm make.
use Rattle.std.specs.Prelude.{◌≡◌, ℕ, ◌%◌, ◌<◌, ◌≤◌, List, Option, All, option_and_then}
use Rattle.sc_actor.specs.declared.rows.Row.{Row}
use Rattle.sc_actor.specs.declared.actors.Seat.{Seat}
use Rattle.sc_actor.specs.System.{System, numbers_of}
use Rattle.sc_actor.specs.Walk.{line_row, storm_row}
use Rattle.sc_thread_ledger.specs.declared.spots.Look.{Look}
use Rattle.sc_thread_ports.specs.exchange.Answers.{IsLook}
use Rattle.sc_thread_pool.specs.declared.storm.deeds.Deed.{Deed}
use Rattle.sc_thread_pool.specs.storm.Deeds.{deed_of, deed_line}

-- The row of a deed after these rows: the row of its line, if there is one.
abbrev pub deed_row : {A M O : Type 0} → System A M O → List (Row M O) → Deed → Option (Row M O)
deed_row s rows deed = option_and_then (line_row s rows) (deed_line deed)

-- The actors have numbers from 1 to `n`.
abbrev pub AreWithin : {A : Type 0} → ℕ → List (Seat A) → Type 0
AreWithin n births = All (λ (seat : Seat _). (0 < seat.who) × (seat.who ≤ n)) births

-- With these words, the row of the storm's step after these rows is the row of its deed, where the actors have numbers from 1 to `n` and `look` is what is pending after these rows.
abbrev pub MakesItsRow : {A M O : Type 0} → System A M O → ℕ → List (Row M O) → Look → ℕ × ℕ → Type 0
MakesItsRow s n rows look words =
    AreWithin n s.births → IsLook s.receiver n rows look →
    storm_row s rows (words.0 % 16) words.1 ≡ deed_row s rows (deed_of (numbers_of s.births) look words)
