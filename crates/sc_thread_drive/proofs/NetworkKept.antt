-- What is kept of the exchange where the network lost or repeated a mail.
use Rattle.std.proofs.Common.{ℕ, List, refl, ◌∙◌, Bool, true, false}
use Rattle.std.specs.Prelude.{Result, Ok, Err}
use Rattle.sc_actor.specs.declared.actors.Actor.{Ghosts}
use Rattle.sc_actor.specs.declared.actors.Parcel.{Ghosts as MailGhosts}
use Rattle.sc_thread_ports.specs.declared.exchange.fates.Fate.{Fate}
use Rattle.sc_thread_ports.specs.declared.exchange.ports.Port.{Port}
use Rattle.sc_thread_ports.specs.exchange.Ports.{Looked}
use Rattle.sc_thread_work.specs.declared.shell.shells.Shell.{Shell}
use Rattle.sc_thread_workers.specs.Crews.{AreStill, IsCrew, AllOf}
use Rattle.sc_thread_workers.specs.RoundEnds.{IsGathered}
use Rattle.sc_thread_workers.proofs.Crews.{all_of_later}
use Rattle.sc_thread_ledger.specs.declared.errors.PostError.{PostError}
use Rattle.sc_thread_ledger.specs.declared.errors.PostError.TheVariants.{JournalFull, OutOfMemory}
use Rattle.sc_thread_drive.specs.Changing.{Changes}
use Rattle.sc_thread_drive.specs.Goings.{StaysSo}
use Rattle.sc_thread_drive.proofs.GatheredExchange.{kept_gathered, kept_then, on_gathered, all_of_stays}

module _ {A M O : Type 0} {g : Ghosts A M O} {h : MailGhosts M} where
  -- the shells are of the exchange as before
  pub changes_all_of : (net mid : Port M O h) (ss : List (Shell A M O g h)) (fate : Fate) (number : ℕ) (step : Result Bool PostError) → IsCrew net ss → Changes fate number net mid step → AllOf mid ss
  changes_all_of net mid ss fate number (Ok true) crew x = all_of_stays net mid ss x.appended.stays crew.exchange
  changes_all_of net mid ss fate number (Ok false) crew x = all_of_later net mid ss x.looked crew.exchange
  changes_all_of net mid ss fate number (Err (JournalFull bytes)) crew x = all_of_later net mid ss x.0 crew.exchange
  changes_all_of net mid ss fate number (Err OutOfMemory) crew x = all_of_later net mid ss x.0 crew.exchange

  -- all gathered after it
  pub change_on : (net mid next : Port M O h) (ss after : List (Shell A M O g h)) (fate : Fate) (number : ℕ) (step : Result Bool PostError) → IsCrew net ss → Changes fate number net mid step → AreStill mid next ss after → IsGathered next after → StaysSo step net ss next after
  change_on net mid next ss after fate number (Ok true) crew x still gathered = on_gathered net mid next ss after crew.exchange crew.sound x.appended.stays still gathered
  change_on net mid next ss after fate number (Ok false) crew x still gathered = on_gathered net mid next ss after crew.exchange crew.sound x.looked.stays still gathered
  change_on net mid next ss after fate number (Err (JournalFull bytes)) crew x still gathered = kept_gathered net mid next ss after crew.exchange x.0.stays still gathered
  change_on net mid next ss after fate number (Err OutOfMemory) crew x still gathered = tt

  -- the port had looked before
  pub looked_crew : (net first : Port M O h) (ss : List (Shell A M O g h)) → Looked net first → IsCrew net ss → IsCrew first ss
  looked_crew net first ss l crew = record { first = l.stays.who ∙ crew.first; exchange = all_of_later net first ss l crew.exchange; sound = crew.sound }

  -- told from before it looked
  pub stays_looked : (net first next : Port M O h) (ss after : List (Shell A M O g h)) (step : Result Bool PostError) → Looked net first → StaysSo step first ss next after → StaysSo step net ss next after
  stays_looked net first next ss after (Ok true) l on = record { kept = kept_then net first next ss ss after l.stays refl on.kept; sound = on.sound }
  stays_looked net first next ss after (Ok false) l on = record { kept = kept_then net first next ss ss after l.stays refl on.kept; sound = on.sound }
  stays_looked net first next ss after (Err (JournalFull bytes)) l kept = kept_then net first next ss ss after l.stays refl kept
  stays_looked net first next ss after (Err OutOfMemory) l on = tt
