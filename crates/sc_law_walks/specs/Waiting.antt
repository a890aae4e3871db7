-- What waits in a replica's queues, and what holds of each replica.
use Rattle.std.specs.Prelude.{◌≡◌, ℕ, false, [], length}
use Rattle.sc_base.specs.Definitions.{Each}
use Rattle.sc_node_table.specs.Values.{Command, Noop, Call, Join, Leave, Split, Begin, Prepared, RecordVote, GiveUp, Finish, Watched, RecordWatch}
use Rattle.sc_node_table.specs.NodeDefinitions.{ReplicaState, slots_ahead}

-- a command of a transaction: a vote, a recorded vote, giving up or an end
abbrev pub IsFiled : Command → Type 0
IsFiled Noop = ⊥
IsFiled (Call client seq op) = ⊥
IsFiled (Join node order) = ⊥
IsFiled (Leave node order) = ⊥
IsFiled (Split at child order) = ⊥
IsFiled (Begin tx body order) = ⊥
IsFiled (Prepared tx offer) = Unit {0}
IsFiled (RecordVote tx vote by) = Unit {0}
IsFiled (GiveUp tx) = Unit {0}
IsFiled (Finish tx outcome) = Unit {0}
IsFiled (Watched tx watch) = Unit {0}
IsFiled (RecordWatch tx vote by) = Unit {0}

-- a command of a transaction that a mail makes a replica queue: any but giving up, which a tick queues
abbrev pub IsFiledOnMail : Command → Type 0
IsFiledOnMail Noop = ⊥
IsFiledOnMail (Call client seq op) = ⊥
IsFiledOnMail (Join node order) = ⊥
IsFiledOnMail (Leave node order) = ⊥
IsFiledOnMail (Split at child order) = ⊥
IsFiledOnMail (Begin tx body order) = ⊥
IsFiledOnMail (Prepared tx offer) = Unit {0}
IsFiledOnMail (RecordVote tx vote by) = Unit {0}
IsFiledOnMail (GiveUp tx) = ⊥
IsFiledOnMail (Finish tx outcome) = Unit {0}
IsFiledOnMail (Watched tx watch) = Unit {0}
IsFiledOnMail (RecordWatch tx vote by) = Unit {0}

-- the command of an order: Join, Leave, Split or Begin
abbrev pub IsOrder : Command → Type 0
IsOrder Noop = ⊥
IsOrder (Call client seq op) = ⊥
IsOrder (Join node order) = Unit {0}
IsOrder (Leave node order) = Unit {0}
IsOrder (Split at child order) = Unit {0}
IsOrder (Begin tx body order) = Unit {0}
IsOrder (Prepared tx offer) = ⊥
IsOrder (RecordVote tx vote by) = ⊥
IsOrder (GiveUp tx) = ⊥
IsOrder (Finish tx outcome) = ⊥
IsOrder (Watched tx watch) = ⊥
IsOrder (RecordWatch tx vote by) = ⊥

-- a client's request or the command of an order
abbrev pub IsAsked : Command → Type 0
IsAsked Noop = ⊥
IsAsked (Call client seq op) = Unit {0}
IsAsked (Join node order) = Unit {0}
IsAsked (Leave node order) = Unit {0}
IsAsked (Split at child order) = Unit {0}
IsAsked (Begin tx body order) = Unit {0}
IsAsked (Prepared tx offer) = ⊥
IsAsked (RecordVote tx vote by) = ⊥
IsAsked (GiveUp tx) = ⊥
IsAsked (Finish tx outcome) = ⊥
IsAsked (Watched tx watch) = ⊥
IsAsked (RecordWatch tx vote by) = ⊥

-- a replica that does not run has nothing in flight and nothing queued; what is queued is a command of a transaction in `acts`, and a request or an order in `backlog`
abbrev pub HoldsQueues : ReplicaState → Type 0
HoldsQueues r = (r.running ≡ false → (r.leader.flights ≡ []) × (r.acts ≡ []) × (r.backlog ≡ [])) × Each IsFiled r.acts × Each IsAsked r.backlog

-- a replica is that of node `me`, has the members of as many slots as are open, and its queues are as `HoldsQueues` says
abbrev pub IsKept : ℕ → ReplicaState → Type 0
IsKept me r = (r.me ≡ me) × (length r.sets ≡ slots_ahead) × HoldsQueues r
