-- Which commands may wait at groups while an order is under way, and in which states the groups may be, by what the order is to do.
use Rattle.std.specs.Prelude.{◌≡◌, ℕ, Bool, true, false, List, []}
use Rattle.std.specs.List.{list_any}
use Rattle.sc_base.specs.Definitions.{Each, same_draw}
use Rattle.sc_node_table.specs.Values.{Draw, Body, Command, Noop, Call, Join, Leave, Split, Begin, Prepared, RecordVote, GiveUp, Finish, Watched, RecordWatch, Base, Core, Lock, Free, Coordinating, Promised, Watching, Order, MailBody, Request, Answer, Prepare, Promise, Accept, Accepted, Nack, Learn, Ask, Install, TxPrepare, TxVote, TxOutcome, TxElsewhere, TxWatch, TxWatched, Told}
use Rattle.sc_words.specs.declared.commands.bodies.Body.TheVariants as At
use Rattle.sc_words.specs.declared.commands.orders.Order.TheVariants as An
use Rattle.sc_node_table.specs.NodeDefinitions.{ReplicaState}

-- what an order is to do: its number, the group that it is given to, the name that it draws, and whether it splits that group
pub record Task : Type 0 where
  pub number : ℕ
  pub group : Draw
  pub name : Draw
  pub splitting : Bool

-- whether an order splits its group
abbrev pub is_split : Order → Bool
is_split (An.Split group at) = true
is_split (An.Join node group) = false
is_split (An.Leave node group) = false
is_split (An.Merge group) = false
is_split (An.Repart group at) = false
is_split (An.Migrate group node) = false

-- the flag is false
abbrev pub IsOff : Bool → Type 0
IsOff true = ⊥
IsOff false = Unit {0}

-- the order does not split, so it may ask participants and send states
abbrev pub HasParts : Task → Type 0
HasParts task = IsOff task.splitting

-- a transaction that is no split
abbrev pub IsNoSplit : Body → Type 0
IsNoSplit At.Merge = Unit {0}
IsNoSplit (At.Repart at) = Unit {0}
IsNoSplit (At.Migrate node) = Unit {0}
IsNoSplit (At.Split at child) = ⊥

-- ---- commands

-- a command of an order that splits: the split itself at its own group, what a watcher is asked and answers, and the outcome
abbrev pub DoesSplit : Draw → Draw → Draw → Command → Type 0
DoesSplit told child name (Split at drawn order) = (name ≡ told) × (drawn ≡ child)
DoesSplit told child name (Finish tx outcome) = Unit {0}
DoesSplit told child name (Watched tx watch) = Unit {0}
DoesSplit told child name (RecordWatch tx vote by) = Unit {0}
DoesSplit told child name Noop = ⊥
DoesSplit told child name (Call client seq op) = ⊥
DoesSplit told child name (Join node order) = ⊥
DoesSplit told child name (Leave node order) = ⊥
DoesSplit told child name (Begin tx body order) = ⊥
DoesSplit told child name (Prepared tx offer) = ⊥
DoesSplit told child name (RecordVote tx vote by) = ⊥
DoesSplit told child name (GiveUp tx) = ⊥

-- a command of an order that does not split: no request, no filler and no split
abbrev pub DoesOther : Command → Type 0
DoesOther Noop = ⊥
DoesOther (Call client seq op) = ⊥
DoesOther (Split at child order) = ⊥
DoesOther (Begin tx body order) = IsNoSplit body
DoesOther (Join node order) = Unit {0}
DoesOther (Leave node order) = Unit {0}
DoesOther (Prepared tx offer) = Unit {0}
DoesOther (RecordVote tx vote by) = Unit {0}
DoesOther (GiveUp tx) = Unit {0}
DoesOther (Finish tx outcome) = Unit {0}
DoesOther (Watched tx watch) = Unit {0}
DoesOther (RecordWatch tx vote by) = Unit {0}

-- a command that may wait at the group `name`, by whether the order splits, its group and the name that it draws
abbrev pub DoesBy : Bool → Draw → Draw → Draw → Command → Type 0
DoesBy true told child name command = DoesSplit told child name command
DoesBy false told child name command = DoesOther command

-- the command is no request, and if an order gives it, the order has this number
abbrev pub HasNumber : ℕ → Command → Type 0
HasNumber number (Join node order) = order ≡ number
HasNumber number (Leave node order) = order ≡ number
HasNumber number (Split at child order) = order ≡ number
HasNumber number (Begin tx body order) = order ≡ number
HasNumber number (Call client seq op) = ⊥
HasNumber number Noop = Unit {0}
HasNumber number (Prepared tx offer) = Unit {0}
HasNumber number (RecordVote tx vote by) = Unit {0}
HasNumber number (GiveUp tx) = Unit {0}
HasNumber number (Finish tx outcome) = Unit {0}
HasNumber number (Watched tx watch) = Unit {0}
HasNumber number (RecordWatch tx vote by) = Unit {0}

-- a command that may wait, be in flight or be ready at the group `name` while an order with this task is under way
abbrev pub Does : Task → Draw → Command → Type 0
Does task name command = DoesBy task.splitting task.group task.name name command × HasNumber task.number command

-- ---- states

-- the transaction is the split of the order's own group, whose child it does not list yet
abbrev pub SplitsInto : Draw → Draw → Draw → List Draw → Body → Type 0
SplitsInto told child name born (At.Split at drawn) = (name ≡ told) × (drawn ≡ child) × (list_any (λ other. same_draw other child) born ≡ false)
SplitsInto told child name born At.Merge = ⊥
SplitsInto told child name born (At.Repart at) = ⊥
SplitsInto told child name born (At.Migrate node) = ⊥

-- under an order that splits a group is locked in that split, or watches, or is free
abbrev pub LockSplits : Draw → Draw → Draw → List Draw → Lock → Type 0
LockSplits told child name born Free = Unit {0}
LockSplits told child name born (Coordinating tx body order heard) = SplitsInto told child name born body
LockSplits told child name born (Promised tx offer) = ⊥
LockSplits told child name born (Watching tx watch) = Unit {0}

-- under an order that does not split no group is locked in a split
abbrev pub LockOther : Lock → Type 0
LockOther Free = Unit {0}
LockOther (Coordinating tx body order heard) = IsNoSplit body
LockOther (Promised tx offer) = Unit {0}
LockOther (Watching tx watch) = Unit {0}

-- a state that the group `name` may have, by whether the order splits, its group and the name that it draws
abbrev pub IsBy : Bool → Draw → Draw → Draw → Core → Type 0
IsBy true told child name core = LockSplits told child name core.born core.lock
IsBy false told child name core = LockOther core.lock

-- if a group with this lock coordinates a transaction, the order that began it has this number
abbrev pub LockNumber : ℕ → Lock → Type 0
LockNumber number (Coordinating tx body order heard) = order ≡ number
LockNumber number Free = Unit {0}
LockNumber number (Promised tx offer) = Unit {0}
LockNumber number (Watching tx watch) = Unit {0}

-- a state that the group `name` may have while an order with this task is under way
abbrev pub Is : Task → Draw → Core → Type 0
Is task name core = IsBy task.splitting task.group task.name name core × LockNumber task.number core.lock

-- ---- children

-- the child that the group `name` may make: an order that splits makes the one child that it names, of its own group; another makes none
abbrev pub CreatesBy : Bool → Draw → Draw → Draw → Base → Type 0
CreatesBy true told child name base = (name ≡ told) × (base.core.id ≡ child) × (base.core.lock ≡ Free)
CreatesBy false told child name base = ⊥

-- the child that the group `name` may make while an order with this task is under way
abbrev pub Creates : Task → Draw → Base → Type 0
Creates task name base = CreatesBy task.splitting task.group task.name name base

-- ---- replicas and mail

-- a replica of the group `name` while an order with this task is under way: no request and no order waits, what waits, is in flight or ready is as `Does` says, and its state is as `Is` says
pub record IsAtWork (task : Task) (name : Draw) (r : ReplicaState) : Type 0 where
  pub backlog : r.backlog ≡ []
  pub acts : Each (Does task name) r.acts
  pub flights : Each (λ flight. Does task name flight.value) r.leader.flights
  pub ready : Each (λ entry. Does task name entry.1) r.ready
  pub state : Is task name r.group.core

-- what a mail may say while an order with this task is under way: no request and no answer; an entry as `Does` says; and under an order that splits no offer or vote of a participant and no state
abbrev pub SaysWork : Task → MailBody → Type 0
SaysWork task (Request group client seq op) = ⊥
SaysWork task (Answer group seq answer) = ⊥
SaysWork task (Learn group slot command) = Does task group command
SaysWork task (Install group slot base sets) = HasParts task × Is task group base.core
SaysWork task (TxPrepare tx offer) = HasParts task
SaysWork task (TxVote tx coord part vote) = HasParts task
SaysWork task (Prepare group ballot from_slot) = Unit {0}
SaysWork task (Promise group ballot reports) = Unit {0}
SaysWork task (Accept group ballot slot command) = Unit {0}
SaysWork task (Accepted group ballot slot) = Unit {0}
SaysWork task (Nack group promised) = Unit {0}
SaysWork task (Ask group from_slot) = Unit {0}
SaysWork task (TxOutcome tx part outcome) = Unit {0}
SaysWork task (TxElsewhere tx coord hint) = Unit {0}
SaysWork task (TxWatch tx watch) = Unit {0}
SaysWork task (TxWatched tx coord part vote) = Unit {0}
SaysWork task (Told order result) = Unit {0}
