-- The lowest-numbered pending mail of all actors.
use Rattle.std.specs.Prelude.{◌≡◌, ℕ, ◌<◌, List, length, find, true, ⊤, Option, None, Some, IfSome}
use Rattle.sc_actor.specs.declared.actors.Actor.{Ghosts}
use Rattle.sc_actor.specs.declared.actors.Parcel.{Ghosts as MailGhosts}
use Rattle.sc_actor.specs.declared.actors.Seat.{Seat}
use Rattle.sc_actor.specs.Mail.{mails, numbered}
use Rattle.sc_actor.specs.System.{System, system, waiting, kth}
use Rattle.sc_actor.specs.Walk.{is_quiet}
use Rattle.sc_thread_ledger.specs.declared.spots.Spot.{Spot}
use Rattle.sc_thread_ports.specs.declared.exchange.ports.Port.{Port}
use Rattle.sc_thread_ports.specs.exchange.Ports.{seen}
use Rattle.sc_thread_work.specs.declared.shell.shells.Shell.{Shell}
use Rattle.sc_thread_workers.specs.Crews.{crew_numbers}
use Rattle.sc_thread_drive.specs.Numbers.{is_in}
use Rattle.sc_thread_drive.specs.Companies.{IsCompany}
use Rattle.sc_thread_drive.specs.Stepping.{IsPlace}

module _ {A M O : Type 0} {g : Ghosts A M O} {h : MailGhosts M} where
  -- The lowest-numbered pending mail goes to the actor whose shell is at this place.
  pub record LowestAt (s : System A M O) (net : Port M O h) (ss : List (Shell A M O g h)) (place : ℕ) : Type 0 where
    pub number : ℕ
    pub mail : M
    pub first : kth (waiting s (seen net) None) 1 ≡ Some number
    pub sent : numbered (mails (seen net)) number ≡ Some mail
    pub at : IsPlace ss (s.receiver mail) place

  -- No mail is pending, or the lowest-numbered goes to the actor whose shell is at this place.
  abbrev pub Lowest : System A M O → Port M O h → List (Shell A M O g h) → Option ℕ → Type 0
  Lowest s net ss None = is_quiet s (seen net) ≡ true
  Lowest s net ss (Some place) = LowestAt s net ss place

  -- The answer of a search for the lowest-numbered pending mail: it is right for all births of which the shells are those.
  pub record FindsLowest (net : Port M O h) (ss : List (Shell A M O g h)) (found : Option ℕ) : Type 0 where
    pub inside : IfSome found (λ place. place < length ss)
    pub lowest : (words : ℕ → ℕ → ℕ × ℕ) (births : List (Seat A)) → IsCompany births net ss → Lowest (system g.table h.receiver words births) net ss found

  -- All gathered once more, and no row was made.
  abbrev pub Rests : Port M O h → List (Shell A M O g h) → Port M O h → List (Shell A M O g h) → Type 0
  Rests net ss next after = (births : List (Seat A)) → IsCompany births net ss → IsCompany births next after × (seen next ≡ seen net)

  -- The place of the shell of this receiver, if there is a receiver.
  abbrev pub IsReceiverAt : List (Shell A M O g h) → Option ℕ → Option ℕ → Type 0
  IsReceiverAt ss None None = ⊤
  IsReceiverAt ss None (Some place) = ⊥
  IsReceiverAt ss (Some who) None = ⊥
  IsReceiverAt ss (Some who) (Some place) = IsPlace ss who place

  -- The place of the shell that gets the first of these copies whose receiver has a shell, if there is such a copy.
  abbrev pub IsFirstPlaced : List (Shell A M O g h) → List Spot → Option ℕ → Type 0
  IsFirstPlaced ss spots None = find (λ spot. is_in spot.who (crew_numbers ss)) spots ≡ None
  IsFirstPlaced ss spots (Some place) = (spot : Spot) × (find (λ spot. is_in spot.who (crew_numbers ss)) spots ≡ Some spot) × IsPlace ss spot.who place
