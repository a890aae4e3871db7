-- What the contracts of `Shell` say of a shell.
use Rattle.std.specs.Prelude.{◌≡◌, ℕ, ◌≤◌, List, [], length, Bool, true, false, Option, Some, None, ◌⊎◌}
use Rattle.sc_thread_ports.specs.turn.Turn.{StartsWith as Begins}
use Rattle.sc_actor.specs.declared.actors.Actor.{Ghosts}
use Rattle.sc_actor.specs.declared.actors.Parcel.{Ghosts as MailGhosts}
use Rattle.sc_actor.specs.declared.rows.Row.{Row}
use Rattle.sc_actor.specs.declared.rows.Event.{Event}
use Rattle.sc_actor.specs.declared.rows.Event.TheVariants.{Deliver}
use Rattle.sc_actor.specs.declared.rows.Input.{Input}
use Rattle.sc_actor.specs.declared.rows.Input.TheVariants.{Got}
use Rattle.sc_actor.specs.Mail.{mails, numbered, is_crash}
use Rattle.sc_actor.specs.Counted.{row_bytes, journal_bytes}
use Rattle.sc_actor.specs.Replay.{input_of, acted, value}
use Rattle.sc_thread_ledger.specs.declared.errors.PostError.TheVariants.{JournalFull}
use Rattle.sc_thread_ledger.specs.PostErrors.{IsCause}
use Rattle.sc_thread_ledger.specs.Pending.{kth_pending}
use Rattle.sc_thread_ports.specs.declared.exchange.ports.Port.{Port}
use Rattle.sc_thread_ports.specs.exchange.BareRows.{rows_of}
use Rattle.sc_thread_ports.specs.exchange.Ports.{seen, made, Looked, Appended, IsAddressed}
use Rattle.sc_thread_work.specs.declared.shell.shells.Shell.{Shell}
use Rattle.sc_thread_work.specs.declared.shell.turns.Turn.{Turn}
use Rattle.sc_thread_work.specs.declared.shell.turns.Turn.TheVariants.{Did, Empty, Full, Spent, OutOfMemory}

module _ {M O : Type 0} {h : MailGhosts M} where
  -- Between the ports `p` and `q` the k-th pending mail of the port's actor was fetched after the rows `rows`: they begin with what the port had seen before, have no other rows of the actor than those that the port had made, and are a prefix of what the port has seen after.
  pub record Fetches (p q : Port M O h) (k : ℕ) : Type 0 where
    pub rows : List (Row M O)
    pub later : Begins rows (seen p)
    pub before : Begins (seen q) rows
    pub own : rows_of p.who rows ≡ made p
    pub number : ℕ
    pub mail : M
    pub kth : kth_pending h.receiver p.actors rows p.who k ≡ Some number
    pub mail_is : numbered (mails rows) number ≡ Some mail

  -- Between the ports `p` and `q`, after some rows, at least k mails were pending for the port's actor. These rows begin with what the port had seen before, and are a prefix of what the port has seen after.
  pub record Finds (p q : Port M O h) (k : ℕ) : Type 0 where
    pub rows : List (Row M O)
    pub later : Begins rows (seen p)
    pub before : Begins (seen q) rows
    pub some : kth_pending h.receiver p.actors rows p.who k ≡ None → ⊥

-- What a shell is made of, without its last answer.
pub record State (A M O : Type 0) (g : Ghosts A M O) (h : MailGhosts M) : Type 0 where
  pub actor : A
  pub port : Port M O h
  pub spent : Bool

module _ {A M O : Type 0} {g : Ghosts A M O} {h : MailGhosts M} where
  -- The actor in the shell.
  abbrev pub actor_of : Shell A M O g h → A
  actor_of s = s.actor

  -- The port of the shell.
  abbrev pub port_of : Shell A M O g h → Port M O h
  port_of s = s.port

  -- Whether the shell is spent: it posts no row any more.
  abbrev pub is_spent : Shell A M O g h → Bool
  is_spent s = s.spent

  -- The shell's answer to its last turn or event, if there was one.
  abbrev pub last_of : Shell A M O g h → Option Turn
  last_of s = s.last

  -- The actor, the port and the spent mark of the shell.
  abbrev pub state : Shell A M O g h → State A M O g h
  state s = record { actor = s.actor; port = s.port; spent = s.spent }

  -- The actor in the shell is `birth` after the replay of its rows among those that the shell's port has seen.
  abbrev pub Replays : Shell A M O g h → A → Type 0
  Replays s birth = s.actor ≡ value g.table (record { who = s.port.who; actor = birth }) (seen s.port)

  -- The actor in the shell is `birth` after the replay of its rows among the rows `rows`.
  abbrev pub ReplaysOver : Shell A M O g h → List (Row M O) → A → Type 0
  ReplaysOver s rows birth = s.actor ≡ value g.table (record { who = s.port.who; actor = birth }) rows

  -- Where the shell is not spent, or has posted a Crash, its actor is the replay, from `birth`, of its rows.
  abbrev pub IsReplay : Shell A M O g h → A → Type 0
  IsReplay s birth = (s.spent ≡ false) ⊎ (s.port.crashed ≡ true) → Replays s birth

  -- From each birth from which the actor in `s` is the replay of its rows, the actor in `t` is so too.
  abbrev pub KeepsReplay : Shell A M O g h → Shell A M O g h → Type 0
  KeepsReplay s t = (birth : A) → IsReplay s birth → IsReplay t birth

  -- Between `s` and `t` the shell's actor has made no step.
  pub record HasRested (s t : Shell A M O g h) : Type 0 where
    -- The actor is as before.
    pub actor : t.actor ≡ s.actor
    -- Whether the shell is spent is as before.
    pub spent : t.spent ≡ s.spent
    -- The last answer is as before.
    pub last : t.last ≡ s.last
    -- The actor is the replay of its rows if it was before.
    pub replay : KeepsReplay s t

  -- Between `s` and `t` the shell has vouched for the rows `rows`.
  pub record HasVouched (s t : Shell A M O g h) (rows : List (Row M O)) : Type 0 where
    -- The rows of the shell's actor in `rows` are those that its port has made.
    pub own : rows_of s.port.who rows ≡ made t.port
    -- The actor is the replay of its rows in `rows` if it was that of its rows in what its port had seen.
    pub over : (birth : A) → Replays s birth → ReplaysOver t rows birth

  -- The actor's row at this event with this input: it sends what the actor's table gives.
  abbrev pub row_at : State A M O g h → Event O → Option (Input M O) → Row M O
  row_at s event input = record { who = s.port.who; event = event; sent = (acted g.table s.actor input).1 }

  -- What an actor's step answers and leaves: the row of the step is posted, and the actor is as its table says (`Did`); or the row would pass the limit (`Full`); or memory ran out. With the last two the shell is spent.
  abbrev pub Acts : State A M O g h → State A M O g h → Event O → Option (Input M O) → Turn → Type 0
  Acts s t event input (Did at) =
      Appended s.port t.port (row_at s event input) × (at ≡ length (seen t.port)) × (t.actor ≡ (acted g.table s.actor input).0) × (t.spent ≡ is_crash event) × (t.port.crashed ≡ is_crash event) × IsAddressed t.port × (journal_bytes h.weighs (seen t.port) ≤ s.port.limit)
  Acts s t event input (Full bytes) =
      Looked s.port t.port × IsCause (JournalFull bytes) (journal_bytes h.weighs (seen t.port)) (row_bytes h.weighs (row_at s event input)) s.port.limit × (t.spent ≡ true) × (t.port.crashed ≡ false) × IsAddressed t.port
  Acts s t event input OutOfMemory = Looked s.port t.port × (t.spent ≡ true) × (t.port.crashed ≡ false)
  Acts s t event input (Empty reported) = ⊥
  Acts s t event input Spent = ⊥

  -- Nothing changes, since the shell was spent before.
  abbrev pub IsSpent : State A M O g h → State A M O g h → Type 0
  IsSpent s t = (s.spent ≡ true) × (t.actor ≡ s.actor) × (t.port ≡ s.port) × (t.spent ≡ true)

  -- Fewer than k mails were pending for the actor at this turn, when the journal had `reported` rows, and the actor is as before.
  abbrev pub IsEmpty : State A M O g h → State A M O g h → ℕ → ℕ → Type 0
  IsEmpty s t k reported =
      Looked s.port t.port × (t.actor ≡ s.actor) × (kth_pending h.receiver s.port.actors (seen t.port) s.port.who k ≡ None) × (reported ≡ length (seen t.port)) × (t.spent ≡ false) × IsAddressed t.port

  -- What a turn answers and leaves: nothing where the shell was spent; `Empty` where too few mails are pending; else the step of the actor with the k-th pending mail.
  abbrev pub Takes : State A M O g h → State A M O g h → ℕ → Turn → Type 0
  Takes s t k Spent = IsSpent s t
  Takes s t k (Empty reported) = (s.spent ≡ false) × IsEmpty s t k reported
  Takes s t k (Did at) = (s.spent ≡ false) × (f : Fetches s.port t.port k) × Acts s t (Deliver f.number) (Some (Got f.mail)) (Did at)
  Takes s t k (Full bytes) = (s.spent ≡ false) × (f : Fetches s.port t.port k) × Acts s t (Deliver f.number) (Some (Got f.mail)) (Full bytes)
  Takes s t k OutOfMemory = (s.spent ≡ false) × Looked s.port t.port × (t.spent ≡ true)

  -- What an event that is no delivery answers and leaves: nothing where the shell was spent, else the step of the actor.
  abbrev pub Happens : State A M O g h → State A M O g h → Event O → Turn → Type 0
  Happens s t event Spent = IsSpent s t
  Happens s t event (Did at) = (s.spent ≡ false) × Acts s t event (input_of [] event) (Did at)
  Happens s t event (Empty reported) = (s.spent ≡ false) × Acts s t event (input_of [] event) (Empty reported)
  Happens s t event (Full bytes) = (s.spent ≡ false) × Acts s t event (input_of [] event) (Full bytes)
  Happens s t event OutOfMemory = (s.spent ≡ false) × Acts s t event (input_of [] event) OutOfMemory
