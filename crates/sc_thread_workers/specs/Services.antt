-- The rows that shells make in rounds.
use Rattle.std.specs.Prelude.{◌≡◌, ℕ, ◌<◌, ◌≤◌, List, [], ◌∷◌, ◌++◌, length, slice_index_or, Some}
use Rattle.sc_actor.specs.declared.actors.Actor.{Ghosts}
use Rattle.sc_actor.specs.declared.actors.Parcel.{Ghosts as MailGhosts}
use Rattle.sc_actor.specs.declared.rows.Row.{Row}
use Rattle.sc_actor.specs.declared.rows.Event.TheVariants.{Deliver}
use Rattle.sc_actor.specs.Counted.{journal_bytes}
use Rattle.sc_actor.specs.System.{row_of}
use Rattle.sc_thread_ledger.specs.Pending.{kth_pending}
use Rattle.sc_thread_ports.specs.declared.exchange.ports.Port.{Port}
use Rattle.sc_thread_ports.specs.exchange.BareRows.{rows_of}
use Rattle.sc_thread_ports.specs.exchange.Ports.{seen, made}
use Rattle.sc_thread_work.specs.declared.shell.shells.Shell.{Shell}
use Rattle.sc_thread_work.specs.shell.Shells.{IsReplay}

module _ {A M O : Type 0} {g : Ghosts A M O} {h : MailGhosts M} where
  -- The row, behind the rows `before`, delivers the first mail that is pending for its actor then, sends what the actor's table gives, and is within the limit. The actor is the replay from each birth from which the shell was one at the start.
  pub record IsService (start : Shell A M O g h) (actors limit : ℕ) (before : List (Row M O)) (row : Row M O) : Type 0 where
    pub number : ℕ
    pub event : row.event ≡ Deliver number
    pub first : kth_pending h.receiver actors before row.who 1 ≡ Some number
    pub within : journal_bytes h.weighs (before ++ row ∷ []) ≤ limit
    pub by_table : (birth : A) → IsReplay start birth → row ≡ row_of g.table (record { who = row.who; actor = birth }) before (Deliver number)

  -- Each row that the shell has made since the start, among those that the port has seen, is such a delivery (`IsService`).
  pub record Serves (net : Port M O h) (start : Shell A M O g h) : Type 0 where
    pub each : (before : List (Row M O)) (row : Row M O) (after : List (Row M O)) → seen net ≡ before ++ row ∷ after → row.who ≡ start.port.who →
        length (made start.port) ≤ length (rows_of start.port.who before) → IsService start net.actors net.limit before row

  -- Each row that the shells have made since the start, among those that the port has seen, is such a delivery (`IsService`).
  abbrev pub AllServe : Port M O h → List (Shell A M O g h) → Type 0
  AllServe net start = (k : ℕ) (d : Shell A M O g h) → k < length start → Serves net (slice_index_or start k d)
