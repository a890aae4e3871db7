-- What the contracts of `Port` say of a port.
use Rattle.std.specs.Prelude.{◌≡◌, ◌≢◌, ℕ, ◌≤◌, Option, None, Some, List, [], ◌∷◌, ◌++◌, length, Bool, true, false, map, Contains, ⊤, Result, IfOk, IfErr, OnErr, MatchBool}
use Rattle.sc_thread_ports.specs.turn.TurnDefinitions.{longer, StartsWith as Begins, known, OfOneStart}
use Rattle.sc_actor.specs.declared.rows.Row.{Row}
use Rattle.sc_actor.specs.declared.rows.Event.{Event}
use Rattle.sc_actor.specs.declared.rows.Event.TheVariants.{Deliver, Drop, Again, Tick, Go, Told, Crash}
use Rattle.sc_actor.specs.declared.actors.Parcel.{Ghosts}
use Rattle.sc_actor.specs.Definitions.{is_crash, row_bytes, journal_bytes}
use Rattle.sc_thread_ledger.specs.LedgerDefinitions.{IsCause}
use Rattle.sc_thread_ports.specs.declared.exchange.answers.Unposted.{Unposted}
use Rattle.sc_thread_ports.specs.declared.exchange.fates.Fate.{Fate}
use Rattle.sc_thread_ports.specs.declared.exchange.ports.Port.{Port}
use Rattle.sc_thread_ports.specs.exchange.BareRows.{row_by, rows_from, rows_of}
use Rattle.sc_thread_ports.specs.exchange.Turns.{may_change, change}
use Rattle.sc_thread_ports.specs.exchange.Addressed.{all_addressed}

-- The event is one that an actor may post: a delivery only of the mail that was fetched last, a tick, a go, an order or a crash.
abbrev pub MayPost : {O : Type 0} → Option ℕ → Event O → Type 0
MayPost fetched (Deliver number) = fetched ≡ Some number
MayPost fetched (Drop number) = ⊥
MayPost fetched (Again number) = ⊥
MayPost fetched Tick = ⊤
MayPost fetched Go = ⊤
MayPost fetched (Told order) = ⊤
MayPost fetched Crash = ⊤

-- No actor has a row among `rows` but those whose numbers are in `ns`.
abbrev pub HasNoOthers : {M O : Type 0} → List ℕ → List (Row M O) → Type 0
HasNoOthers ns rows = (n : ℕ) → n ≢ 0 → ¬ Contains ns n → rows_of n rows ≡ []

module _ {M O : Type 0} {g : Ghosts M} where
  -- The rows that the port has seen, a prefix of the journal.
  abbrev pub seen : Port M O g → List (Row M O)
  seen p = rows_from (known p.seat).seen

  -- The rows that the port has made, in their order.
  abbrev pub made : Port M O g → List (Row M O)
  made p = map (row_by p.who) (known p.seat).made

  -- The numbers of the ports that the port has split off.
  abbrev pub given : Port M O g → List ℕ
  given p = (known p.seat).given

  -- The numbers of the ports that the port has joined, each with the rows that the joined port had made.
  abbrev pub joined_ports : Port M O g → List (ℕ × List (Row M O))
  joined_ports p = map (λ k. (k.0, map (row_by k.0) k.1)) (known p.seat).joined

  -- Each port that this one has split off is among those that it has joined.
  abbrev pub HasJoinedAll : Port M O g → Type 0
  HasJoinedAll p = (n : ℕ) → Contains (given p) n → Contains (map (λ k. k.0) (joined_ports p)) n

  -- Both ports belong to one exchange, with the same number of actors and the same limit.
  abbrev pub SameExchange : Port M O g → Port M O g → Type 0
  SameExchange p q = OfOneStart p.seat q.seat × (q.actors ≡ p.actors) × (q.limit ≡ p.limit)

  -- Between `p` and `q` the port has kept its exchange and its actor, and has split off and joined no other port.
  pub record Stays (p q : Port M O g) : Type 0 where
    pub exchange : SameExchange p q
    pub who : q.who ≡ p.who
    pub given : given q ≡ given p
    pub joined : joined_ports q ≡ joined_ports p

  -- Between `p` and `q` the port may have seen more rows, and has made none.
  pub record Looked (p q : Port M O g) : Type 0 where
    pub stays : Stays p q
    pub later : Begins (seen q) (seen p)
    pub made : made q ≡ made p

  -- Between `p` and `q` the port has made one row, `row`, which is the last that it has seen; it may have seen others before it.
  pub record Appended (p q : Port M O g) (row : Row M O) : Type 0 where
    pub stays : Stays p q
    pub before : List (Row M O)
    pub later : Begins before (seen p)
    pub seen : seen q ≡ before ++ row ∷ []
    pub made : made q ≡ made p ++ row ∷ []

  -- The rows of the port's number that it has seen are those that it has made. For the network's port (number 0), no actor that was not split off has a row.
  pub record IsTrue (p : Port M O g) : Type 0 where
    pub own : rows_of p.who (seen p) ≡ made p
    pub others : p.who ≡ 0 → HasNoOthers (given p) (seen p)

  -- Each row that the port has seen may stand where it does (`is_addressed`).
  abbrev pub IsAddressed : Port M O g → Type 0
  IsAddressed p = all_addressed g.receiver [] (seen p) ≡ true

  -- Between `p` and `q` the port has had a turn.
  pub record HasTurned (p q : Port M O g) : Type 0 where
    -- The port has its exchange and its actor, and has split off and joined no other port.
    pub stays : Stays p q
    -- The rows of the port's number that it has seen are those that it has made.
    pub rows : IsTrue q
    -- Each row that the port has seen may stand where it does.
    pub addressed : IsAddressed q

  -- Between `p` and `q` the port has looked at the journal at a turn. The mail of its last fetch is `mail`, if there is one.
  pub record HasLooked (p q : Port M O g) (mail : Option ℕ) : Type 0 where
    -- The port may have seen more rows, and has made none.
    pub looked : Looked p q
    -- The rows of the port's number that it has seen are those that it has made.
    pub rows : IsTrue q
    -- Each row that the port has seen may stand where it does.
    pub addressed : IsAddressed q
    -- The number of the fetched mail is `mail`.
    pub fetched : q.fetched ≡ mail
    -- Whether the port has posted a Crash is as before.
    pub crashed : q.crashed ≡ p.crashed

  -- Between `p` and `q` the port has posted the row, at the place `at` of the journal.
  pub record HasPosted (p q : Port M O g) (row : Row M O) (at : ℕ) : Type 0 where
    -- The row is the last that the port has seen and the last that it has made.
    pub appended : Appended p q row
    -- The place is the number of rows up to this one, so it counts from 1.
    pub place : at ≡ length (seen q)
    -- The counted bytes of the rows that the port has seen are within the limit.
    pub within : journal_bytes g.weighs (seen q) ≤ p.limit
    -- No fetched mail is left to deliver.
    pub fetched : q.fetched ≡ None
    -- The port has posted a Crash exactly where this row is one.
    pub crashed : q.crashed ≡ is_crash row.event

  -- The row was refused and handed back, and the port has made no row.
  pub record IsRefused (p q : Port M O g) (row : Row M O) (unposted : Unposted M O) : Type 0 where
    -- The port may have seen more rows, and has made none.
    pub looked : Looked p q
    -- The event of the row is handed back.
    pub event : unposted.event ≡ row.event
    -- The mail of the row is handed back.
    pub sent : unposted.sent ≡ row.sent
    -- The cause is right: the counted bytes would pass the limit with this row, or memory ran out.
    pub cause : IsCause unposted.why (journal_bytes g.weighs (seen q)) (row_bytes g.weighs row) p.limit
    -- The mail of the last fetch is as before.
    pub fetched : q.fetched ≡ p.fetched
    -- Whether the port has posted a Crash is as before.
    pub crashed : q.crashed ≡ p.crashed

  -- Between `p` and `q` the network's port has appended the row that loses or repeats the mail `number`, at a place where it may stand.
  pub record ChangedBy (fate : Fate) (number : ℕ) (p q : Port M O g) : Type 0 where
    -- The row is the last that the port has seen and the last that it has made.
    pub appended : Appended p q (change fate number)
    -- After the rows before it, the mail may be lost or repeated.
    pub may : may_change fate g.receiver p.actors appended.before number ≡ true
    -- The counted bytes of the rows that the port has seen are within the limit.
    pub within : journal_bytes g.weighs (seen q) ≤ p.limit

  -- Nothing was posted, since the mail `number` may not be lost or repeated.
  pub record MayNotChange (fate : Fate) (number : ℕ) (p q : Port M O g) : Type 0 where
    -- The port may have seen more rows, and has made none.
    pub looked : Looked p q
    -- After the rows that the port has seen, the mail may not be lost or repeated.
    pub may : may_change fate g.receiver p.actors (seen q) number ≡ false

  -- What the network's port answers, and leaves, where it shall lose or repeat the mail `number`.
  pub record HasChanged (fate : Fate) (number : ℕ) (p q : Port M O g) (answer : Result Bool (Unposted M O)) : Type 0 where
    -- The port has had a turn.
    pub turned : HasTurned p q
    -- The mail of the last fetch is as before.
    pub fetched : q.fetched ≡ p.fetched
    -- Whether the port has posted a Crash is as before.
    pub crashed : q.crashed ≡ p.crashed
    -- `true` where the row was appended; `false` only where the mail may not be lost or repeated.
    pub ok : IfOk answer (λ done. MatchBool done (ChangedBy fate number p q) (MayNotChange fate number p q))
    -- An error comes only where the mail may be lost or repeated.
    pub may : OnErr answer (may_change fate g.receiver p.actors (seen q) number ≡ true)
    -- With an error, the refused row is the network's row of this mail.
    pub refused : IfErr answer (λ unposted. IsRefused p q (change fate number) unposted)

  -- Between `p` and `q` the port has met another port, which had seen the rows `other`.
  pub record HasHeard (p q : Port M O g) (other : List (Row M O)) : Type 0 where
    -- The port may have seen more rows, and has made none.
    pub looked : Looked p q
    -- What the port has seen begins with what the other had seen.
    pub begins : Begins (seen q) other
    -- The rows of the port's number that it has seen are those that it has made.
    pub rows : IsTrue q
    -- The mail of the last fetch is as before.
    pub fetched : q.fetched ≡ p.fetched
    -- Whether the port has posted a Crash is as before.
    pub crashed : q.crashed ≡ p.crashed

  -- Between `p` and `q` the port has seen and made nothing more.
  pub record IsAsBefore (p q : Port M O g) : Type 0 where
    -- The port has made no row.
    pub looked : Looked p q
    -- The port has seen no further row.
    pub seen : seen q ≡ seen p
    -- The mail of the last fetch is as before.
    pub fetched : q.fetched ≡ p.fetched
    -- Whether the port has posted a Crash is as before.
    pub crashed : q.crashed ≡ p.crashed

  -- The network's port to a new exchange of `n` actors whose limit is `bytes` counted bytes.
  pub record IsStart (p : Port M O g) (n bytes : ℕ) : Type 0 where
    -- The port has seen no row.
    pub seen : seen p ≡ []
    -- The port has made no row.
    pub made : made p ≡ []
    -- The port has split off no other.
    pub given : given p ≡ []
    -- The port has joined no other.
    pub joined : joined_ports p ≡ []
    -- The port is the network's.
    pub who : p.who ≡ 0
    -- The number of actors is `n`.
    pub actors : p.actors ≡ n
    -- The limit of the counted bytes is `bytes`.
    pub limit : p.limit ≡ bytes
    -- The port has fetched no mail.
    pub fetched : p.fetched ≡ None
    -- The port has posted no Crash.
    pub crashed : p.crashed ≡ false

  -- Between `p` and `q` the network's port may have split off another; it has seen, made and joined what it had.
  pub record HasSplit (p q : Port M O g) : Type 0 where
    -- The port is of the same exchange.
    pub exchange : SameExchange p q
    -- The port is the network's.
    pub who : q.who ≡ 0
    -- The port has seen no further row.
    pub seen : seen q ≡ seen p
    -- The port has made no row.
    pub made : made q ≡ made p
    -- The port has joined no other.
    pub joined : joined_ports q ≡ joined_ports p

  -- `q` is a new port, split off from `p`, of the actor `number`.
  pub record IsNew (p q : Port M O g) (number : ℕ) : Type 0 where
    -- The new port is of the same exchange.
    pub exchange : SameExchange p q
    -- The new port is that of the actor `number`.
    pub who : q.who ≡ number
    -- The new port has seen what `p` has seen.
    pub seen : seen q ≡ seen p
    -- The new port has made no row.
    pub made : made q ≡ []
    -- The new port has fetched no mail.
    pub fetched : q.fetched ≡ None
    -- The new port has posted no Crash.
    pub crashed : q.crashed ≡ false

  -- Between `p` and `q` the network's port has taken in the port `other`.
  pub record HasJoined (p q other : Port M O g) : Type 0 where
    -- The port is of the same exchange.
    pub exchange : SameExchange p q
    -- The port is the network's.
    pub who : q.who ≡ 0
    -- What the port has seen begins with what it had seen before.
    pub later : Begins (seen q) (seen p)
    -- What the port has seen begins with what `other` had seen.
    pub theirs : Begins (seen q) (seen other)
    -- No actor has a row in what the port has seen but those that were split off.
    pub others : HasNoOthers (given q) (seen q)
    -- The port knows the number of `other` and the rows that `other` had made.
    pub joined : joined_ports q ≡ joined_ports p ++ (other.who, made other) ∷ []
    -- The port has made no row.
    pub made : made q ≡ made p
    -- The port has split off no other.
    pub given : given q ≡ given p
    -- The port has seen the longer of what the two had seen.
    pub seen : seen q ≡ longer (seen p) (seen other)

  -- The rows are the journal that the network's port leaves when it closes the exchange.
  pub record IsJournal (p : Port M O g) (rows : List (Row M O)) : Type 0 where
    -- The journal begins with what the port has seen.
    pub later : Begins rows (seen p)
    -- Each row may stand where it does.
    pub addressed : all_addressed g.receiver [] rows ≡ true
    -- The network's rows are those that this port has made.
    pub own : rows_of 0 rows ≡ made p
    -- The rows of each port that was joined are those that it had made.
    pub each : (k : _) → Contains (joined_ports p) k → rows_of k.0 rows ≡ k.1
    -- No actor has a row but those that were split off.
    pub others : HasNoOthers (given p) rows
