-- The beginning of an exchange, one shell at a time.
use Rattle.std.specs.Prelude.{◌≡◌, [], ◌∷◌, ◌++◌, false}
use Rattle.sc_actor.specs.declared.actors.Actor.{Ghosts}
use Rattle.sc_actor.specs.declared.actors.Parcel.{Ghosts as MailGhosts}
use Rattle.sc_actor.specs.declared.actors.Seat.{Seat}
use Rattle.sc_thread_ports.specs.declared.exchange.ports.Port.{Port}
use Rattle.sc_thread_ports.specs.exchange.Ports.{made, given, joined_ports, SameExchange}
use Rattle.sc_thread_work.specs.declared.shell.shells.Shell.{Shell}

module _ {A M O : Type 0} {g : Ghosts A M O} {h : MailGhosts M} where
  -- The network's port has split off a port of the seat's number, and the shell has it and the seat's actor.
  pub record Seated (net next : Port M O h) (seat : Seat A) (s : Shell A M O g h) : Type 0 where
    pub exchange : SameExchange net next
    pub first : next.who ≡ 0
    pub given : given next ≡ given net ++ seat.who ∷ []
    pub joined : joined_ports next ≡ joined_ports net
    pub port : SameExchange net s.port × (s.port.who ≡ seat.who)
    pub actor : s.actor ≡ seat.actor
    pub fresh : (made s.port ≡ []) × (s.spent ≡ false)
    pub made : made next ≡ made net
