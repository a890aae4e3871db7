-- What the network's port does to a mail.
use Rattle.std.specs.Prelude.{◌≡◌, ℕ, ◌+◌, ◌<◌, List, Bool, true, false, Result, Ok, Err}
use Rattle.sc_actor.specs.declared.actors.Actor.{Ghosts}
use Rattle.sc_actor.specs.declared.actors.Parcel.{Ghosts as MailGhosts}
use Rattle.sc_actor.specs.Counted.{row_bytes, journal_bytes}
use Rattle.sc_thread_ports.specs.declared.exchange.fates.Fate.{Fate}
use Rattle.sc_thread_ports.specs.declared.exchange.ports.Port.{Port}
use Rattle.sc_thread_ports.specs.exchange.Turns.{may_change, change}
use Rattle.sc_thread_ports.specs.exchange.Ports.{seen, Looked, ChangedBy, MayNotChange}
use Rattle.sc_thread_work.specs.declared.shell.shells.Shell.{Shell}
use Rattle.sc_thread_workers.specs.Crews.{AreStill}
use Rattle.sc_thread_workers.specs.RoundEnds.{IsGathered}
use Rattle.sc_thread_ledger.specs.declared.errors.PostError.{PostError}
use Rattle.sc_thread_ledger.specs.declared.errors.PostError.TheVariants.{JournalFull, OutOfMemory}

module _ {M O : Type 0} {h : MailGhosts M} where
  -- The answer to a loss or a repeat: the network's row was appended where it might be; or it might not be; or it would pass the limit; or memory ran out where it might be.
  abbrev pub Changes : Fate → ℕ → Port M O h → Port M O h → Result Bool PostError → Type 0
  Changes fate number net next (Ok true) = ChangedBy fate number net next
  Changes fate number net next (Ok false) = MayNotChange fate number net next
  Changes fate number net next (Err (JournalFull bytes)) =
      Looked net next × (net.limit < journal_bytes h.weighs (seen next) + row_bytes h.weighs (change {M = M} {O = O} fate number)) × (may_change fate h.receiver net.actors (seen next) number ≡ true)
  Changes fate number net next (Err OutOfMemory) = Looked net next × (may_change fate h.receiver net.actors (seen next) number ≡ true)

-- The network's port lost or repeated the mail, or not, by the answer, and then all gathered.
pub record ChangesAll {A M O : Type 0} {g : Ghosts A M O} {h : MailGhosts M} (fate : Fate) (number : ℕ) (net next : Port M O h) (ss after : List (Shell A M O g h)) (step : Result Bool PostError) : Type 0 where
  pub mid : Port M O h
  pub changes : Changes fate number net mid step
  pub still : AreStill mid next ss after
  pub gathered : IsGathered next after
