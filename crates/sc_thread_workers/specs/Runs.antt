-- Runs of shells, neighbours in the list, that are lent to threads which stay alive.
use Rattle.std.specs.Prelude.{◌≡◌, List, length}
use Rattle.sc_actor.specs.declared.actors.Actor.{Ghosts}
use Rattle.sc_actor.specs.declared.actors.Parcel.{Ghosts as MailGhosts}
use Rattle.sc_thread_work.specs.lend.Lending.{IsLentUnder}
use Rattle.sc_thread_workers.specs.declared.lending.Run.{Run}
use Rattle.sc_thread_workers.specs.declared.lending.Sent.{Sent}
use Rattle.sc_thread_workers.specs.declared.lending.Sent.TheVariants.{Lent, Here}
use Rattle.sc_thread_workers.specs.Crews.{AllTook}

module _ {A M O : Type 0} {g : Ghosts A M O} {h : MailGhosts M} where
  -- The run has the same shells, each of which took one turn or was spent.
  pub record RunTook (s t : Run A M O g h) : Type 0 where
    pub len : length t.shells.items ≡ length s.shells.items
    pub took : AllTook s.shells.items t.shells.items

  -- The run was lent under this number; or it was not lent, and its shells have taken their turns.
  abbrev pub IsSent : List (Run A M O g h) → Run A M O g h → Sent A M O g h → Type 0
  IsSent lent run (Lent number) = IsLentUnder lent number run
  IsSent lent run (Here back) = RunTook run back
