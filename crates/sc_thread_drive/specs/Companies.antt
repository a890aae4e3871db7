-- The network's port and the shells of all actors, between two lines of a schedule.
use Rattle.std.specs.Prelude.{◌≡◌, ℕ, ◌<◌, ◌≤◌, List, [], ◌∷◌, length, map, slice_index_or, true, false, All}
use Rattle.sc_actor.specs.declared.actors.Actor.{Ghosts}
use Rattle.sc_actor.specs.declared.actors.Parcel.{Ghosts as MailGhosts}
use Rattle.sc_actor.specs.declared.actors.Seat.{Seat}
use Rattle.sc_actor.specs.System.{numbers_of, are_apart}
use Rattle.sc_thread_ports.specs.declared.exchange.ports.Port.{Port}
use Rattle.sc_thread_ports.specs.exchange.Ports.{given, made, IsTrue}
use Rattle.sc_thread_work.specs.declared.shell.shells.Shell.{Shell}
use Rattle.sc_thread_work.specs.shell.Shells.{Replays}
use Rattle.sc_thread_workers.specs.Crews.{AllOver, AllSound, IsCrew, crew_numbers}
use Rattle.sc_thread_drive.specs.Numbers.{apart}

module _ {A M O : Type 0} {g : Ghosts A M O} {h : MailGhosts M} where
  -- The actors of the shells, with their numbers.
  abbrev pub seats : List (Shell A M O g h) → List (Seat A)
  seats ss = map (λ s. record { who = s.port.who; actor = s.actor }) ss

  -- The shells and the network's port between two lines: each actor of the births has a shell, at the one port of its number, and no other port was split off. The network's port has seen all rows that the shells have, the rows of each actor there are those that its shell made, and each actor is its birth after the replay of its rows.
  pub record IsCompany (births : List (Seat A)) (net : Port M O h) (ss : List (Shell A M O g h)) : Type 0 where
    pub first : net.who ≡ 0
    pub all : given net ≡ crew_numbers ss
    pub born : crew_numbers ss ≡ numbers_of births
    pub far : apart (0 ∷ crew_numbers ss) ≡ true
    pub within : (k : ℕ) (d : Shell A M O g h) → k < length ss → (slice_index_or ss k d).port.who ≤ net.actors
    pub over : AllOver net ss
    pub rows : IsTrue net
    pub sound : AllSound ss
    pub replay : (k : ℕ) (d : Shell A M O g h) (e : Seat A) → k < length ss → Replays (slice_index_or ss k d) (slice_index_or births k e).actor

  -- The shells and the network's port at the beginning: a shell of this exchange for each birth, in order, at the one port of its number, from 1 to the number of actors. No other port was split off, and no port has made a row.
  pub record AtBirth (births : List (Seat A)) (net : Port M O h) (ss : List (Shell A M O g h)) : Type 0 where
    pub crew : IsCrew net ss
    pub all : given net ≡ crew_numbers ss
    pub born : seats ss ≡ births
    pub far : are_apart births ≡ true
    pub numbered : All (λ seat. (0 < seat.who) × (seat.who ≤ net.actors)) births
    pub unmade : made net ≡ []
    pub fresh : All (λ s. (made s.port ≡ []) × (s.spent ≡ false)) ss
