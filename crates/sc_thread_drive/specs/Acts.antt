-- What one actor's event or turn does to the journal, where all shells have met and vouched before and after it. To gather is: all shells meet the network's port and vouch for what it has seen.
use Rattle.std.specs.Prelude.{◌≡◌, ℕ, ◌+◌, ◌<◌, ◌≤◌, List, [], ◌∷◌, ◌++◌, Bool, true, false, slice_index_or, Some, None, ⊤}
use Rattle.sc_actor.specs.declared.actors.Actor.{Ghosts}
use Rattle.sc_actor.specs.declared.actors.Parcel.{Ghosts as MailGhosts}
use Rattle.sc_actor.specs.declared.actors.Seat.{Seat}
use Rattle.sc_actor.specs.declared.rows.Event.{Event}
use Rattle.sc_actor.specs.declared.rows.Event.TheVariants.{Deliver}
use Rattle.sc_actor.specs.Counted.{row_bytes, journal_bytes}
use Rattle.sc_actor.specs.Replay.{Table}
use Rattle.sc_actor.specs.System.{row_of}
use Rattle.sc_thread_ledger.specs.Pending.{kth_pending}
use Rattle.sc_thread_ports.specs.declared.exchange.ports.Port.{Port}
use Rattle.sc_thread_ports.specs.exchange.Ports.{seen, Stays, Looked}
use Rattle.sc_thread_work.specs.declared.shell.shells.Shell.{Shell}
use Rattle.sc_thread_work.specs.declared.shell.turns.Turn.{Turn}
use Rattle.sc_thread_work.specs.declared.shell.turns.Turn.TheVariants.{Did, Empty, Full, Spent, OutOfMemory}
use Rattle.sc_thread_work.specs.shell.Shells.{Finds, Happens, Takes, KeepsReplay, state}
use Rattle.sc_thread_workers.specs.Crews.{AllSound, Still, IsAhead}
use Rattle.sc_thread_drive.specs.Companies.{IsCompany}

module _ {A M O : Type 0} {h : MailGhosts M} where
  -- The network's port has seen one more row: that of the event of the actor at this place.
  abbrev pub RowAdded : Table A M O → List (Seat A) → ℕ → Event O → Port M O h → Port M O h → Type 0
  RowAdded table births place event net next = (e : Seat A) → seen next ≡ seen net ++ row_of table (slice_index_or births place e) (seen net) event ∷ []

  -- The row of the event of the actor at this place would pass the limit.
  abbrev pub RowPasses : Table A M O → List (Seat A) → ℕ → Event O → Port M O h → Type 0
  RowPasses table births place event net = (e : Seat A) → net.limit < journal_bytes h.weighs (seen net) + row_bytes h.weighs (row_of table (slice_index_or births place e) (seen net) event)

module _ {A M O : Type 0} {g : Ghosts A M O} {h : MailGhosts M} where
  -- The shell met the port, and then did what `effect` says of it.
  pub record MetAndDid (effect : Shell A M O g h → Type 0) (s t : Shell A M O g h) (net next : Port M O h) : Type 0 where
    pub met : Shell A M O g h
    pub still : Still s met
    pub ahead : IsAhead net met
    pub looked : Looked net next
    pub stays : Stays met.port t.port
    pub keeps : KeepsReplay met t
    pub effect_holds : effect met

  -- The shell met the port, and then the event happened to its actor, with the answer `turn`.
  abbrev pub MetAndHappened : Event O → Turn → Shell A M O g h → Shell A M O g h → Port M O h → Port M O h → Type 0
  MetAndHappened event turn s t net next = MetAndDid (λ met. Happens (state met) (state t) event turn) s t net next

  -- The shell met the port, and then took a turn for its k-th pending mail, with the answer `turn`; memory ran out only where it found such a mail.
  abbrev pub MetAndTook : ℕ → Turn → Shell A M O g h → Shell A M O g h → Port M O h → Port M O h → Type 0
  MetAndTook k turn s t net next = MetAndDid (λ met. Takes (state met) (state t) k turn × (turn ≡ OutOfMemory → Finds met.port t.port k)) s t net next

  -- Whether the shell at this place has posted a Crash is `halted`.
  abbrev pub HasHalted : List (Shell A M O g h) → ℕ → Bool → Type 0
  HasHalted ss place halted = (d : Shell A M O g h) → (slice_index_or ss place d).port.crashed ≡ halted

  -- What an event of the actor at this place leaves, by the answer: one more row, within the limit; or no row, since it would pass the limit, the actor has crashed, or memory ran out, which it does only where the actor has not crashed.
  abbrev pub AfterEvent : List (Seat A) → ℕ → Event O → Port M O h → Port M O h → List (Shell A M O g h) → List (Shell A M O g h) → Turn → Type 0
  AfterEvent births place event net next ss after (Did at) = IsCompany births next after × RowAdded g.table births place event net next × (journal_bytes h.weighs (seen next) ≤ net.limit) × HasHalted ss place false
  AfterEvent births place event net next ss after (Full bytes) = (seen next ≡ seen net) × RowPasses g.table births place event net × HasHalted ss place false
  AfterEvent births place event net next ss after Spent = IsCompany births next after × (seen next ≡ seen net) × HasHalted ss place true
  AfterEvent births place event net next ss after (Empty reported) = ⊥
  AfterEvent births place event net next ss after OutOfMemory = HasHalted ss place false

  -- The k-th pending mail of the actor at this place has this number.
  abbrev pub KthIs : List (Shell A M O g h) → ℕ → ℕ → Port M O h → ℕ → Type 0
  KthIs ss place k net number = (d : Shell A M O g h) → kth_pending h.receiver net.actors (seen net) (slice_index_or ss place d).port.who k ≡ Some number

  -- What a turn of the actor at this place leaves, by the answer: one more row, that of the delivery of the k-th pending mail; or no row, since it would pass the limit, no such mail is pending, the actor has crashed, or memory ran out, which it does only where such a mail is pending.
  abbrev pub AfterTurn : List (Seat A) → ℕ → ℕ → Port M O h → Port M O h → List (Shell A M O g h) → List (Shell A M O g h) → Turn → Type 0
  AfterTurn births place k net next ss after (Did at) = IsCompany births next after × ((number : ℕ) × KthIs ss place k net number × RowAdded g.table births place (Deliver number) net next) × (journal_bytes h.weighs (seen next) ≤ net.limit)
  AfterTurn births place k net next ss after (Full bytes) = (seen next ≡ seen net) × ((number : ℕ) × KthIs ss place k net number × RowPasses g.table births place (Deliver number) net)
  AfterTurn births place k net next ss after (Empty reported) = IsCompany births next after × (seen next ≡ seen net) × ((d : Shell A M O g h) → kth_pending h.receiver net.actors (seen net) (slice_index_or ss place d).port.who k ≡ None)
  AfterTurn births place k net next ss after Spent = IsCompany births next after × (seen next ≡ seen net) × HasHalted ss place true
  AfterTurn births place k net next ss after OutOfMemory = (d : Shell A M O g h) → kth_pending h.receiver net.actors (seen net) (slice_index_or ss place d).port.who k ≡ None → ⊥

  -- What an event of the actor at this place leaves (`AfterEvent`), for all births of which the shells are those.
  abbrev pub AfterEventAll : ℕ → Event O → Port M O h → Port M O h → List (Shell A M O g h) → List (Shell A M O g h) → Turn → Type 0
  AfterEventAll place event net next ss after turn = (births : List (Seat A)) → IsCompany births net ss → AfterEvent births place event net next ss after turn

  -- What a turn of the actor at this place leaves (`AfterTurn`), for all births of which the shells are those.
  abbrev pub AfterTurnAll : ℕ → ℕ → Port M O h → Port M O h → List (Shell A M O g h) → List (Shell A M O g h) → Turn → Type 0
  AfterTurnAll place k net next ss after turn = (births : List (Seat A)) → IsCompany births net ss → AfterTurn births place k net next ss after turn

  -- Each shell that is spent has posted a Crash, where the answer is no refusal.
  abbrev pub SoundAfter : Turn → List (Shell A M O g h) → Type 0
  SoundAfter (Did at) ss = AllSound ss
  SoundAfter (Empty reported) ss = AllSound ss
  SoundAfter Spent ss = AllSound ss
  SoundAfter (Full bytes) ss = ⊤
  SoundAfter OutOfMemory ss = ⊤

-- The answer is one to an event: any but `Empty`.
abbrev pub IsEventAnswer : Turn → Type 0
IsEventAnswer (Did at) = ⊤
IsEventAnswer (Empty reported) = ⊥
IsEventAnswer (Full bytes) = ⊤
IsEventAnswer Spent = ⊤
IsEventAnswer OutOfMemory = ⊤
