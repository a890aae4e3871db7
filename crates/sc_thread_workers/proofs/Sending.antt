-- Runs that were sent off.
use Rattle.std.proofs.Common.{List}
use Rattle.sc_actor.specs.declared.actors.Actor.{Ghosts}
use Rattle.sc_actor.specs.declared.actors.Parcel.{Ghosts as MailGhosts}
use Rattle.sc_thread_work.specs.lend.Lending.{IsLonger}
use Rattle.sc_thread_workers.specs.declared.lending.Run.{Run}
use Rattle.sc_thread_workers.specs.declared.lending.Sent.{Sent}
use Rattle.sc_thread_workers.specs.declared.lending.Sent.TheVariants.{Lent, Here}
use Rattle.sc_thread_workers.specs.Runs.{IsSent}

module _ {A M O : Type 0} {g : Ghosts A M O} {h : MailGhosts M} where
  -- a run stays sent off where more is lent
  pub sent_later : (old new : List (Run A M O g h)) (run : Run A M O g h) (sent : Sent A M O g h) → IsLonger old new → IsSent old run sent → IsSent new run sent
  sent_later old new run (Lent number) longer s = longer number run s
  sent_later old new run (Here back) longer s = s
