-- What the stages of an order give of what rows of calm journals have to find.
use Rattle.std.specs.Prelude.{◌≡◌, ℕ, ◌≤◌, true, [], length, Some, None, ◌⊎◌}
use Rattle.sc_node_table.specs.Values.{Draw, Command, Noop, Call, Join, Leave, Split, Begin, Prepared, RecordVote, GiveUp, Finish, Watched, RecordWatch, Free, Flight}
use Rattle.sc_words.specs.declared.commands.votes.Past.TheVariants as Cast
use Rattle.sc_group_table.specs.machine.MachineDefinitions.{applied}
use Rattle.sc_base.specs.Definitions.{is_member}
use Rattle.sc_node_table.specs.NodeDefinitions.{ReplicaState, members, before_of}
use Rattle.sc_live_steps.specs.calm.CalmDefinitions.{MayCount, newcomers, MayPump, AsksAs, Ways}
use Rattle.sc_live_steps.specs.orders.OrderDefinitions.{Turn, is_watch, Asking, bond_of, FliesLone}

-- A coordinator asks what its bond says; so, where the ways of a chart name the same group and turn, what it asks owes no more than they say.
abbrev pub BondsAsk : Type 0
BondsAsk =
    (ways : Ways) (tx asked : Draw) (turn : Turn) (node : ℕ) (r : ReplicaState) → bond_of r.group.core ≡ Asking tx asked turn → ways.asked_group tx ≡ Some (asked, is_watch turn) → AsksAs ways tx node r

-- By this entry no member comes or goes: a transaction begins, or a group votes in one.
abbrev pub KeepsMembers : Command → Type 0
KeepsMembers (Begin tx body order) = Unit {0}
KeepsMembers (Prepared tx offer) = Unit {0}
KeepsMembers (Watched tx watch) = Unit {0}
KeepsMembers Noop = ⊥
KeepsMembers (Call client seq op) = ⊥
KeepsMembers (Join node order) = ⊥
KeepsMembers (Leave node order) = ⊥
KeepsMembers (Split at child order) = ⊥
KeepsMembers (RecordVote tx vote by) = ⊥
KeepsMembers (GiveUp tx) = ⊥
KeepsMembers (Finish tx outcome) = ⊥
KeepsMembers (RecordWatch tx vote by) = ⊥

-- A leader where one such entry alone is in flight may count a vote (`MayCount`).
abbrev pub LoneEntriesCount : Type 0
LoneEntriesCount =
    (slot : ℕ) (flight : Flight Command) (r : ReplicaState) → FliesLone flight r → MayPump r → length (members r) ≤ 9 → is_member (members r) r.me ≡ true → r.group.core.gone ≡ None
    → KeepsMembers flight.value → MayCount slot r

-- What the law below needs of an entry of an order, by its kind: for a split, that the group is free; for a watcher's vote, that it is a Yes,
-- and that the leader stays a member by it, or no participant was heard and nobody joins by it. No transaction is given up.
abbrev pub IsEntry : Command → ReplicaState → Type 0
IsEntry (Join node order) r = Unit {0}
IsEntry (Leave node order) r = Unit {0}
IsEntry (Split at child order) r = r.group.core.lock ≡ Free
IsEntry (Begin tx body order) r = Unit {0}
IsEntry (Prepared tx offer) r = Unit {0}
IsEntry (RecordVote tx vote by) r = Unit {0}
IsEntry (Finish tx outcome) r = Unit {0}
IsEntry (Watched tx watch) r = Unit {0}
IsEntry (RecordWatch tx vote by) r =
    (vote ≡ Cast.Yes) × ((is_member (applied r.group (RecordWatch tx vote by)).0.core.members r.me ≡ true) ⊎ (((before_of r.group.core).heard ≡ None) × (length (newcomers (RecordWatch tx vote by) r) ≡ 0)))
IsEntry Noop r = ⊥
IsEntry (Call client seq op) r = ⊥
IsEntry (GiveUp tx) r = ⊥

-- A leader of a group that stands, where one such entry alone is in flight and no call waits, may count a vote, if at most nine are members before the entry and after it.
abbrev pub OrderEntriesCount : Type 0
OrderEntriesCount =
    (slot : ℕ) (flight : Flight Command) (r : ReplicaState) → FliesLone flight r → r.backlog ≡ [] → MayPump r → length (members r) ≤ 9 → length (applied r.group flight.value).0.core.members ≤ 9
    → is_member (members r) r.me ≡ true → r.group.core.gone ≡ None → IsEntry flight.value r → MayCount slot r
