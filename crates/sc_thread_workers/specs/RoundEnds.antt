-- How rounds end.
use Rattle.std.specs.Prelude.{◌≡◌, ℕ, ◌+◌, ◌<◌, ◌≤◌, List, length, slice_index_or, Bool, true, false, ⊤, Option, None, Some, is_some}
use Rattle.std.specs.List.{list_any}
use Rattle.sc_actor.specs.declared.actors.Actor.{Ghosts}
use Rattle.sc_actor.specs.declared.actors.Parcel.{Ghosts as MailGhosts}
use Rattle.sc_actor.specs.declared.rows.Event.TheVariants.{Deliver}
use Rattle.sc_actor.specs.Mail.{mails, numbered}
use Rattle.sc_actor.specs.Counted.{row_bytes, journal_bytes}
use Rattle.sc_actor.specs.System.{row_of}
use Rattle.sc_thread_ledger.specs.Pending.{kth_pending}
use Rattle.sc_thread_ports.specs.declared.exchange.ports.Port.{Port}
use Rattle.sc_thread_ports.specs.exchange.Answers.{IsFirstTo}
use Rattle.sc_thread_ports.specs.exchange.Ports.{seen, IsTrue, IsAddressed}
use Rattle.sc_thread_work.specs.declared.shell.shells.Shell.{Shell}
use Rattle.sc_thread_work.specs.declared.shell.turns.Turn.{Turn}
use Rattle.sc_thread_work.specs.declared.shell.turns.Turn.TheVariants.{Full as RefusedFull}
use Rattle.sc_thread_work.specs.shell.Shells.{IsReplay}
use Rattle.sc_thread_workers.specs.declared.answers.Rounds.{Rounds}
use Rattle.sc_thread_workers.specs.declared.answers.Way.{Way}
use Rattle.sc_thread_workers.specs.declared.answers.Way.TheVariants.{Runs, Queue}
use Rattle.sc_thread_workers.specs.declared.answers.Rounds.TheVariants.{Quiet, Limit, Full, OutOfMemory}
use Rattle.sc_thread_workers.specs.Crews.{AllOver, AllSound, rows_made}
use Rattle.sc_thread_workers.specs.Services.{AllServe}

-- Whether, after what the port has seen, mail is pending for one of the actors `whos`.
abbrev pub any_waits : {M O : Type 0} {h : MailGhosts M} → Port M O h → List ℕ → Bool
any_waits {M} {O} {h} net whos = list_any (λ who. is_some (kth_pending h.receiver net.actors (seen net) who 1)) whos

-- The answer is the receiver of the first mail that is pending for the port's actor, or for any actor at the network's port, or there is no such mail.
abbrev pub IsFirst : {M O : Type 0} {h : MailGhosts M} → Port M O h → Option ℕ → Type 0
IsFirst {M} {O} {h} net found = IsFirstTo h.receiver net.actors (seen net) net.who found

module _ {A M O : Type 0} {g : Ghosts A M O} {h : MailGhosts M} where
  -- A shell that was refused a row: it is spent and has not crashed. After all rows that the port has seen its actor has a first pending mail, whose row by the actor's table would pass the limit, and `bytes` is at most the counted bytes of these rows.
  pub record IsRefusedShell (start : Shell A M O g h) (net : Port M O h) (s : Shell A M O g h) (bytes : ℕ) : Type 0 where
    pub spent : s.spent ≡ true
    pub runs : s.port.crashed ≡ false
    pub number : ℕ
    pub mail : M
    pub first : kth_pending h.receiver net.actors (seen net) s.port.who 1 ≡ Some number
    pub mail_is : numbered (mails (seen net)) number ≡ Some mail
    pub passes : (birth : A) → IsReplay start birth →
        net.limit < journal_bytes h.weighs (seen net) + row_bytes h.weighs (row_of g.table (record { who = s.port.who; actor = birth }) (seen net) (Deliver number))
    pub reported : bytes ≤ journal_bytes h.weighs (seen net)

  -- The cause of the answer `Full`: a shell of the list was refused a row for the limit.
  pub record HasRefusedShell (start : List (Shell A M O g h)) (net : Port M O h) (ss : List (Shell A M O g h)) (bytes : ℕ) : Type 0 where
    pub place : ℕ
    pub inside : place < length ss
    pub refused : (d : Shell A M O g h) → IsRefusedShell (slice_index_or start place d) net (slice_index_or ss place d) bytes

  -- How rounds end. `Quiet` comes where nothing is pending for the shells' actors, `Limit` where all deliveries were used and mail is pending; `used` counts the rows that the shells have made since the start. `Full` comes where a row was refused, and then fewer rows were made than the limit. With each of these the port has seen all that the shells have, and each row that they made delivers what was its actor's first pending mail. With `OutOfMemory` nothing is said.
  abbrev pub IsEnd : Rounds → Port M O h → List (Shell A M O g h) → List (Shell A M O g h) → List ℕ → ℕ → Type 0
  IsEnd (Quiet used) net start ss whos limit = AllOver net ss × (any_waits net whos ≡ false) × (used ≤ limit) × (rows_made ss ≡ rows_made start + used) × AllServe net start × AllSound ss
  IsEnd (Limit used) net start ss whos limit = AllOver net ss × (any_waits net whos ≡ true) × (used ≡ limit) × (rows_made ss ≡ rows_made start + used) × AllServe net start × AllSound ss
  IsEnd (Full bytes) net start ss whos limit = AllOver net ss × HasRefusedShell start net ss bytes × (rows_made ss < rows_made start + limit) × AllServe net start
  IsEnd OutOfMemory net start ss whos limit = ⊤

  -- How one round ends the rounds, where `used` deliveries were made so far.
  abbrev pub StepEnd : Rounds → Port M O h → List (Shell A M O g h) → List (Shell A M O g h) → List ℕ → ℕ → ℕ → Type 0
  StepEnd (Quiet reported) net start ss whos limit used = AllOver net ss × (any_waits net whos ≡ false) × (reported ≡ used)
  StepEnd (Limit reported) net start ss whos limit used = AllOver net ss × (any_waits net whos ≡ true) × (reported ≡ used) × (used ≡ limit)
  StepEnd (Full bytes) net start ss whos limit used = AllOver net ss × HasRefusedShell start net ss bytes × (used < limit)
  StepEnd OutOfMemory net start ss whos limit used = ⊤

  -- The port has seen all that the shells have, and the rows of their actors there are those that they made. The rows of the port's own number there are its own, no actor without a port has a row, and each row may stand where it does.
  pub record IsGathered (net : Port M O h) (ss : List (Shell A M O g h)) : Type 0 where
    pub over : AllOver net ss
    pub rows : IsTrue net
    pub addressed : IsAddressed net

  -- How rounds end by a refusal: by `Full` with the bytes of the refusal, or by `OutOfMemory`.
  abbrev pub RefusedEnd : Rounds → Turn → Port M O h → List (Shell A M O g h) → Type 0
  RefusedEnd (Full bytes) refused net ss = (refused ≡ RefusedFull bytes) × IsGathered net ss
  RefusedEnd OutOfMemory refused net ss = ⊤
  RefusedEnd (Quiet reported) refused net ss = ⊥
  RefusedEnd (Limit reported) refused net ss = ⊥

  -- A round may begin: the port has seen all that the shells have, and mail is pending for one of these actors.
  pub record CanBegin (net : Port M O h) (ss : List (Shell A M O g h)) (whos : List ℕ) : Type 0 where
    pub waits : any_waits net whos ≡ true
    pub gathered : IsGathered net ss

-- The claim, where no turn of the round was refused.
abbrev pub IfCalm : Option Rounds → Type 0 → Type 0
IfCalm None claim = claim
IfCalm (Some (Quiet used)) claim = claim
IfCalm (Some (Limit used)) claim = claim
IfCalm (Some (Full bytes)) claim = ⊤
IfCalm (Some OutOfMemory) claim = ⊤

-- The claim, where memory did not run out in the round.
abbrev pub IfHeld : Option Rounds → Type 0 → Type 0
IfHeld None claim = claim
IfHeld (Some (Quiet used)) claim = claim
IfHeld (Some (Limit used)) claim = claim
IfHeld (Some (Full bytes)) claim = claim
IfHeld (Some OutOfMemory) claim = ⊤

-- The claim about shells that a phase loses where memory runs out and runs do not: for runs always, for phases where memory did not run out.
abbrev pub IfKept : Way → Option Rounds → Type 0 → Type 0
IfKept Runs answer claim = claim
IfKept Queue answer claim = IfHeld answer claim
