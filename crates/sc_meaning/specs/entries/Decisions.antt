-- Transactions as their coordinators' logs record them: who takes part, and what was decided. One entry of one log decides a transaction, as in the nested consensus of Scatter (SOSP 2011, multi-group operations), whichever groups have learned of it.
use Rattle.std.specs.Prelude.{ℕ, Bool, ◌&&◌, not, List, [], ◌∷◌, ◌++◌, map, find, if◌then◌else◌, Option, Some, None}
use Rattle.std.specs.Option.{option_map, option_and_then}
use Rattle.sc_base.specs.Definitions.{same_draw}
use Rattle.sc_base.specs.declared.names.Draw.{Draw}
use Rattle.sc_words.specs.declared.commands.bodies.Body.{Body}
use Rattle.sc_words.specs.declared.commands.bodies.Body.TheVariants as At
use Rattle.sc_words.specs.declared.commands.commands.Command.{Command}
use Rattle.sc_words.specs.declared.commands.commands.Command.TheVariants.{Noop, Call, Join, Leave, Split, Begin, Prepared, RecordVote, GiveUp, Finish, Watched, RecordWatch}
use Rattle.sc_words.specs.declared.commands.cores.Core.{Core}
use Rattle.sc_words.specs.declared.commands.effects.Effect.{Effect}
use Rattle.sc_words.specs.declared.commands.votes.Outcome.{Outcome}
use Rattle.sc_words.specs.declared.commands.votes.Vote.{Vote}
use Rattle.sc_words.specs.declared.commands.votes.Vote.TheVariants.{Yes, No}
use Rattle.sc_words.specs.commands.CommandDefinitions.{decided_in, is_changed, is_alone}
use Rattle.sc_meaning.specs.declared.entries.Transaction.{Transaction}

-- ---- what each entry of a coordinator adds to the record of its transaction

-- the transaction that a group begins with its successor as participant
abbrev pub begun_transaction : Core → Draw → Body → Transaction
begun_transaction core tx body = record { tx = tx; coordinator = core.id; body = body; participant = Some core.succ.group; watcher = None; outcome = None }

-- the transaction of a split that a group begins, with its successor as watcher
abbrev pub begun_split : Core → ℕ → Draw → Transaction
begun_split core at child = record { tx = child; coordinator = core.id; body = At.Split at child; participant = None; watcher = Some core.succ.group; outcome = None }

-- the watcher that a participant's Yes names: its successor; a No names none
abbrev pub named_watcher : Vote → Option Draw
named_watcher (Yes frozen) = Some frozen.succ.group
named_watcher (No why) = None

-- a transaction with this watcher
abbrev pub with_watcher : Option Draw → Transaction → Transaction
with_watcher watcher transaction = record transaction { watcher = watcher }

-- a transaction with this outcome
abbrev pub with_outcome : Option Outcome → Transaction → Transaction
with_outcome outcome transaction = record transaction { outcome = outcome }

-- whether a transaction has this name and this coordinator
abbrev pub is_of : Draw → Draw → Transaction → Bool
is_of tx coordinator transaction = same_draw transaction.tx tx && same_draw transaction.coordinator coordinator

-- the transactions, with the one of this name and coordinator changed
abbrev pub amended : Draw → Draw → (Transaction → Transaction) → List Transaction → List Transaction
amended tx coordinator change = map (λ transaction. if is_of tx coordinator transaction then change transaction else transaction)

-- the transactions, with this outcome for the one of this name and coordinator, if there is an outcome
abbrev pub concluded : Option Outcome → Draw → Draw → List Transaction → List Transaction
concluded None tx coordinator transactions = transactions
concluded (Some outcome) tx coordinator transactions = amended tx coordinator (with_outcome (Some outcome)) transactions

-- the transactions after an entry of a group's log, by the group's record before it and the entry's effect. A Begin that changes the group begins one, and so does a Split that changes a group with another successor; a participant's Yes that does not decide sets the watcher; a vote or GiveUp that decides sets the outcome.
abbrev pub transactions_after : Core → Command → Effect → List Transaction → List Transaction
transactions_after core (Begin tx body order) effect transactions = if is_changed effect then transactions ++ begun_transaction core tx body ∷ [] else transactions
transactions_after core (Split at child order) effect transactions =
    if is_changed effect && not (is_alone core) then transactions ++ begun_split core at child ∷ [] else transactions
transactions_after core (RecordVote tx vote by) effect transactions =
    if is_changed effect then amended tx core.id (with_watcher (named_watcher vote)) transactions
    else concluded (decided_in effect) tx core.id transactions
transactions_after core (RecordWatch tx vote by) effect transactions = concluded (decided_in effect) tx core.id transactions
transactions_after core (GiveUp tx) effect transactions = concluded (decided_in effect) tx core.id transactions
transactions_after core Noop effect transactions = transactions
transactions_after core (Call client seq op) effect transactions = transactions
transactions_after core (Join node order) effect transactions = transactions
transactions_after core (Leave node order) effect transactions = transactions
transactions_after core (Prepared tx offer) effect transactions = transactions
transactions_after core (Finish tx outcome) effect transactions = transactions
transactions_after core (Watched tx watch) effect transactions = transactions

-- ---- what is recorded of a transaction

-- the transaction with a name, if it was begun
abbrev pub transaction_in : Draw → List Transaction → Option Transaction
transaction_in tx = find (λ transaction. same_draw transaction.tx tx)

-- the group that coordinates the transaction with a name, if it was begun
abbrev pub coordinator_in : Draw → List Transaction → Option Draw
coordinator_in tx transactions = option_map (λ transaction. transaction.coordinator) (transaction_in tx transactions)

-- the group that takes part in the transaction with a name, if it has a participant
abbrev pub participant_in : Draw → List Transaction → Option Draw
participant_in tx transactions = option_and_then (λ transaction. transaction.participant) (transaction_in tx transactions)

-- the group that watches the transaction with a name, if one is known
abbrev pub watcher_in : Draw → List Transaction → Option Draw
watcher_in tx transactions = option_and_then (λ transaction. transaction.watcher) (transaction_in tx transactions)

-- the outcome of the transaction with a name: none while it is open, else an abort or the outcome of a commit
abbrev pub decision : Draw → List Transaction → Option Outcome
decision tx transactions = option_and_then (λ transaction. transaction.outcome) (transaction_in tx transactions)
