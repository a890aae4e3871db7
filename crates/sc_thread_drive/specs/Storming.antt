-- What a step of a storm has to do.
use Rattle.std.specs.Prelude.{◌≡◌, ℕ, ◌%◌, List, Option, option_and_then}
use Rattle.sc_actor.specs.declared.actors.Actor.{Ghosts}
use Rattle.sc_actor.specs.declared.actors.Parcel.{Ghosts as MailGhosts}
use Rattle.sc_actor.specs.declared.actors.Seat.{Seat}
use Rattle.sc_actor.specs.declared.schedules.Line.{Line}
use Rattle.sc_actor.specs.System.{system}
use Rattle.sc_actor.specs.Walk.{line_row, storm_row}
use Rattle.sc_thread_ports.specs.declared.exchange.ports.Port.{Port}
use Rattle.sc_thread_ports.specs.exchange.Ports.{seen}
use Rattle.sc_thread_work.specs.declared.shell.shells.Shell.{Shell}
use Rattle.sc_thread_drive.specs.Companies.{IsCompany}

module _ {A M O : Type 0} {g : Ghosts A M O} {h : MailGhosts M} where
  -- For all births of which the shells are those, the row of a storm's step with these words is the row of this line, if there is a line.
  abbrev pub IsStormLine : ℕ × ℕ → Port M O h → List (Shell A M O g h) → Option (Line O) → Type 0
  IsStormLine step net ss line =
      (words : ℕ → ℕ → ℕ × ℕ) (births : List (Seat A)) → IsCompany births net ss →
      storm_row (system g.table h.receiver words births) (seen net) (step.0 % 16) step.1 ≡ option_and_then (line_row (system g.table h.receiver words births) (seen net)) line
