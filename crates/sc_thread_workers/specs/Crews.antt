-- What the contracts say of a list of shells, here called a crew, and of the network's port with which they meet.
use Rattle.std.specs.Prelude.{◌≡◌, ℕ, zero, suc, ◌+◌, ◌<◌, ◌≤◌, List, ◌++◌, length, map, sum_by, slice_index_or, Bool, true, false, Option, Some, None, ◌⊎◌, ◌&&◌, not, if◌then◌else◌}
use Rattle.std.specs.List.{AllByRecursion}
use Rattle.sc_thread_ports.specs.turn.Turn.{StartsWith as Begins}
use Rattle.sc_actor.specs.declared.actors.Actor.{Ghosts}
use Rattle.sc_actor.specs.declared.actors.Parcel.{Ghosts as MailGhosts}
use Rattle.sc_actor.specs.declared.rows.Row.{Row}
use Rattle.sc_actor.specs.Mail.{is_delivery}
use Rattle.sc_thread_ports.specs.declared.exchange.ports.Port.{Port}
use Rattle.sc_thread_ports.specs.exchange.BareRows.{rows_of}
use Rattle.sc_thread_ports.specs.exchange.Ports.{seen, made, SameExchange, Stays, Looked}
use Rattle.sc_thread_work.specs.declared.shell.shells.Shell.{Shell}
use Rattle.sc_thread_work.specs.declared.shell.turns.Turn.{Turn}
use Rattle.sc_thread_work.specs.declared.shell.turns.Turn.TheVariants.{Did, Full, OutOfMemory}
use Rattle.sc_thread_work.specs.shell.Shells.{Replays, ReplaysOver, KeepsReplay, Takes, state}

-- The list `new` is `old` followed by rows that are deliveries.
pub record Delivers {M O : Type 0} (old new : List (Row M O)) : Type 0 where
  pub rows : List (Row M O)
  pub all : new ≡ old ++ rows
  pub each : AllByRecursion (λ (row : Row M O). is_delivery row.event ≡ true) rows

-- Whether the last answer says that a row was posted.
abbrev pub is_did : Option Turn → Bool
is_did (Some (Did at)) = true
is_did _ = false

-- The refusal in a last answer: `Full` where it is that, and else `OutOfMemory`.
abbrev pub refusal_in : Option Turn → Turn
refusal_in (Some (Full bytes)) = Full bytes
refusal_in _ = OutOfMemory

module _ {A M O : Type 0} {g : Ghosts A M O} {h : MailGhosts M} where
  -- Between `s` and `t` the shell has kept its actor, has stayed the replay of its rows if it was, and has made only deliveries.
  pub record GoesByDeliveries (s t : Shell A M O g h) : Type 0 where
    pub stays : Stays s.port t.port
    pub replay : KeepsReplay s t
    pub made : Delivers (made s.port) (made t.port)

  -- Between the two lists each shell has made only deliveries (`GoesByDeliveries`).
  abbrev pub AllGo : List (Shell A M O g h) → List (Shell A M O g h) → Type 0
  AllGo ss ts = (k : ℕ) (d : Shell A M O g h) → k < length ss → GoesByDeliveries (slice_index_or ss k d) (slice_index_or ts k d)

  -- Between `s` and `t` the shell took one turn for its first pending mail, or nothing changed since it was spent.
  pub record Took (s t : Shell A M O g h) : Type 0 where
    pub goes : GoesByDeliveries s t
    pub acts : ((s.spent ≡ true) × (t ≡ s)) ⊎ ((s.spent ≡ false) × ((r : Turn) × Takes (state s) (state t) 1 r × (t.last ≡ Some r)))

  -- Each shell took one turn, or was spent (`Took`).
  abbrev pub AllTook : List (Shell A M O g h) → List (Shell A M O g h) → Type 0
  AllTook ss ts = (k : ℕ) (d : Shell A M O g h) → k < length ss → Took (slice_index_or ss k d) (slice_index_or ts k d)

  -- The shell took one turn or none.
  abbrev pub Passed : Shell A M O g h → Shell A M O g h → Type 0
  Passed s t = (t ≡ s) ⊎ Took s t

  -- Each shell took one turn or none (`Passed`).
  abbrev pub AllPassed : List (Shell A M O g h) → List (Shell A M O g h) → Type 0
  AllPassed ss ts = (k : ℕ) (d : Shell A M O g h) → k < length ss → Passed (slice_index_or ss k d) (slice_index_or ts k d)

  -- The shell took a turn that made a row.
  pub record TookRow (s t : Shell A M O g h) : Type 0 where
    pub took : Took s t
    pub made : length (made t.port) ≡ length (made s.port) + 1

  -- Between `s` and `t` the shell took `n` turns, one after the other, each of which made a row.
  abbrev pub MadeRows : ℕ → Shell A M O g h → Shell A M O g h → Type 0
  MadeRows zero s t = t ≡ s
  MadeRows (suc n) s t = (u : Shell A M O g h) × (MadeRows n s u × TookRow u t)

  -- Between `s` and `t` the shell took `n` turns that made a row, and then none, or one that made no row.
  pub record Worked (n : ℕ) (s t : Shell A M O g h) : Type 0 where
    pub last : Shell A M O g h
    pub rows : MadeRows n s last
    pub end : (t ≡ last) ⊎ (Took last t × (made t.port ≡ made last.port))

  -- Each shell took turns that made rows, and then none or one that made none (`Worked`).
  abbrev pub AllWorked : List (Shell A M O g h) → List (Shell A M O g h) → Type 0
  AllWorked ss ts = (k : ℕ) (d : Shell A M O g h) → k < length ss → (n : ℕ) × Worked n (slice_index_or ss k d) (slice_index_or ts k d)

  -- Each shell's port belongs to the exchange of the port `net`.
  abbrev pub AllOf : Port M O h → List (Shell A M O g h) → Type 0
  AllOf net ss = (k : ℕ) (d : Shell A M O g h) → k < length ss → SameExchange (slice_index_or ss k d).port net

  -- If the shell is spent, it has posted a Crash.
  abbrev pub Sound : Shell A M O g h → Type 0
  Sound s = s.spent ≡ true → s.port.crashed ≡ true

  -- Each shell that is spent has posted a Crash.
  abbrev pub AllSound : List (Shell A M O g h) → Type 0
  AllSound ss = (k : ℕ) (d : Shell A M O g h) → k < length ss → Sound (slice_index_or ss k d)

  -- What the port `net` has seen begins with what the shell's port has seen.
  pub record HasMet (net : Port M O h) (s : Shell A M O g h) : Type 0 where
    pub begins : Begins (seen net) (seen s.port)

  -- What the shell's port has seen begins with what `net` has seen, and the rows of its actor in it are those that it has made.
  pub record IsAhead (net : Port M O h) (s : Shell A M O g h) : Type 0 where
    pub begins : Begins (seen s.port) (seen net)
    pub own : rows_of s.port.who (seen s.port) ≡ made s.port

  -- Each shell's port has seen all that `net` has seen, and of its actor only the rows that it has made (`IsAhead`).
  abbrev pub AllAhead : Port M O h → List (Shell A M O g h) → Type 0
  AllAhead net ss = (k : ℕ) (d : Shell A M O g h) → k < length ss → IsAhead net (slice_index_or ss k d)

  -- What `net` has seen begins with what each shell's port has seen.
  abbrev pub AllMet : Port M O h → List (Shell A M O g h) → Type 0
  AllMet net ss = (k : ℕ) (d : Shell A M O g h) → k < length ss → HasMet net (slice_index_or ss k d)

  -- What `net` has seen begins with what the shell's port has seen, and the actor's rows in it are those that the shell has made. So an actor that is the replay of its rows is the replay of its rows in what `net` has seen.
  pub record IsOver (net : Port M O h) (s : Shell A M O g h) : Type 0 where
    pub begins : Begins (seen net) (seen s.port)
    pub own : rows_of s.port.who (seen net) ≡ made s.port
    pub replay : (birth : A) → Replays s birth → ReplaysOver s (seen net) birth

  -- For each shell, what `net` has seen has the shell's rows and no others of its actor (`IsOver`).
  abbrev pub AllOver : Port M O h → List (Shell A M O g h) → Type 0
  AllOver net ss = (k : ℕ) (d : Shell A M O g h) → k < length ss → IsOver net (slice_index_or ss k d)

  -- The numbers of the shells' actors, in the order of the shells.
  abbrev pub crew_numbers : List (Shell A M O g h) → List ℕ
  crew_numbers ss = map (λ s. s.port.who) ss

  -- The number of rows that the shells have made in all.
  abbrev pub rows_made : List (Shell A M O g h) → ℕ
  rows_made ss = sum_by (λ s. length (made s.port)) ss

  -- Between `s` and `t` the shell may have seen more rows, and has made none.
  pub record Still (s t : Shell A M O g h) : Type 0 where
    pub goes : GoesByDeliveries s t
    pub made : made t.port ≡ made s.port
    pub later : Begins (seen t.port) (seen s.port)
    pub spent : t.spent ≡ s.spent
    pub crashed : t.port.crashed ≡ s.port.crashed

  -- Each shell may have seen more rows, and has made none (`Still`).
  abbrev pub AllStill : List (Shell A M O g h) → List (Shell A M O g h) → Type 0
  AllStill ss ts = (k : ℕ) (d : Shell A M O g h) → k < length ss → Still (slice_index_or ss k d) (slice_index_or ts k d)

  -- The shell and the port exchanged what they have seen: afterwards the port `m` has seen all that the shell has, and the shell all that the port `n` had.
  pub record Met (s t : Shell A M O g h) (n m : Port M O h) : Type 0 where
    pub still : Still s t
    pub net : Looked n m
    pub has : HasMet m t
    pub ahead : IsAhead n t

  -- The shell has vouched for what the port has seen: neither saw more rows, and the shell's rows in it are known.
  pub record VouchedFor (s t : Shell A M O g h) (n m : Port M O h) : Type 0 where
    pub still : Still s t
    pub net : Looked n m
    pub same : (seen m ≡ seen n) × (seen t.port ≡ seen s.port)
    pub over : IsOver m t

  -- The shells are of the same actors in the same order. Each may have seen more rows and has made none, and so has the port.
  pub record AreStill (net next : Port M O h) (ss ts : List (Shell A M O g h)) : Type 0 where
    pub len : length ts ≡ length ss
    pub still : AllStill ss ts
    pub looked : Looked net next

  -- The shells are of the same actors in the same order. Each row that a shell has made since is a delivery, and the port has made none.
  pub record AreLater (net next : Port M O h) (ss ts : List (Shell A M O g h)) : Type 0 where
    pub len : length ts ≡ length ss
    pub go : AllGo ss ts
    pub looked : Looked net next

  -- Each shell has met the port: the port has seen what each shell has, and each shell has seen what the port had before.
  pub record HaveMet (net next : Port M O h) (ts : List (Shell A M O g h)) : Type 0 where
    pub met : AllMet next ts
    pub ahead : AllAhead net ts

  -- Each shell has vouched for what the port has seen, which is what it had seen before.
  pub record HaveVouched (net next : Port M O h) (ts : List (Shell A M O g h)) : Type 0 where
    pub seen : seen next ≡ seen net
    pub over : AllOver next ts

  -- The network's port, and shells of its exchange, of which each that is spent has posted a Crash.
  pub record IsCrew (net : Port M O h) (ss : List (Shell A M O g h)) : Type 0 where
    pub first : net.who ≡ 0
    pub exchange : AllOf net ss
    pub sound : AllSound ss

  -- The number of rows of the shell's last turn: 1 where it made a row, and else 0; 0 for a crashed shell.
  abbrev pub did : Shell A M O g h → ℕ
  did s = if not s.port.crashed && is_did s.last then 1 else 0

  -- The refusal of a shell that is spent and has not crashed, and none for any other shell.
  abbrev pub refusal : Shell A M O g h → Option Turn
  refusal s = if s.spent && not s.port.crashed then Some (refusal_in s.last) else None

  -- One of the first `many` shells is spent and has not posted a Crash.
  pub record HasStopped (ss : List (Shell A M O g h)) (many : ℕ) : Type 0 where
    pub place : ℕ
    pub inside : place < many
    pub unsound : (d : Shell A M O g h) → ¬ Sound (slice_index_or ss place d)

  -- A shell of the list has the refusal `r`.
  pub record HasRefusal (ss : List (Shell A M O g h)) (r : Turn) : Type 0 where
    pub place : ℕ
    pub inside : place < length ss
    pub reported : (d : Shell A M O g h) → refusal (slice_index_or ss place d) ≡ Some r

  -- What a round or a phase does with `left` deliveries left: the shells are of the same actors in the same order, and took turns one after the other; they made `rows` rows in all, at most `left`, and fewer where one was refused; where they made none and none was refused, each took a turn.
  pub record HasPlayed (left : ℕ) (ss ts : List (Shell A M O g h)) (rows : ℕ) : Type 0 where
    pub len : length ts ≡ length ss
    pub worked : AllWorked ss ts
    pub most : rows ≤ left
    pub did : rows_made ts ≡ rows_made ss + rows
    pub whole : rows ≡ 0 → 0 < left → AllSound ts → AllTook ss ts
    pub short : (r : Turn) → HasRefusal ts r → rows < left
