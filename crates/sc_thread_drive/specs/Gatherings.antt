-- Which shells have to meet the network's port before all have gathered.
use Rattle.std.specs.Prelude.{◌≢◌, ℕ, ◌<◌, List, length, slice_index_or}
use Rattle.sc_actor.specs.declared.actors.Actor.{Ghosts}
use Rattle.sc_actor.specs.declared.actors.Parcel.{Ghosts as MailGhosts}
use Rattle.sc_thread_ports.specs.declared.exchange.ports.Port.{Port}
use Rattle.sc_thread_work.specs.declared.shell.shells.Shell.{Shell}
use Rattle.sc_thread_workers.specs.Crews.{HasMet}

module _ {A M O : Type 0} {g : Ghosts A M O} {h : MailGhosts M} where
  -- Each shell but that at this place has seen only what the port has seen.
  abbrev pub OthersMet : ℕ → Port M O h → List (Shell A M O g h) → Type 0
  OthersMet place net ss = (k : ℕ) (d : Shell A M O g h) → k < length ss → k ≢ place → HasMet net (slice_index_or ss k d)
