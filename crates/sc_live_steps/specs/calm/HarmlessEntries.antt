-- What the entries that a leader executes one after another have to be, so that they raise nothing that is owed.
use Rattle.std.specs.Prelude.{◌≡◌, ℕ, ◌≤◌, true, false, List, [], ◌∷◌, length, None, Some, ◌⊎◌}
use Rattle.sc_base.specs.Definitions.{Each, is_member}
use Rattle.sc_node_table.specs.Values.{Ballot, Draw, Op, Command, Noop, Call, Join, Leave, Split, Begin, Prepared, RecordVote, GiveUp, Finish, Watched, RecordWatch, Core, Free, Route, Past, Accepted, Flight}
use Rattle.sc_words.specs.ideal.IdealDefinitions.{key_of, holds_key}
use Rattle.sc_words.specs.declared.commands.votes.Past.TheVariants as Cast
use Rattle.sc_words.specs.commands.CommandDefinitions.{is_alone, is_changed}
use Rattle.sc_group_table.specs.machine.MachineDefinitions.{applied}
use Rattle.sc_words.specs.paxos.PaxosDefinitions.{without_flight}
use Rattle.sc_node_table.specs.NodeDefinitions.{admits_requests, entered, executed_one, next_ready, ReplicaState, Place, next, members, without_slot, before_of}
use Rattle.sc_law_walks.specs.WalkDefinitions.{IfThere}
use Rattle.sc_live_steps.specs.calm.PotentialLaws.{newcomers, IsCounting, LeadsOn, StopsAfter, MayPump, Lowers, readied_at, ExecutesFreely}
use Rattle.sc_live_steps.specs.calm.CalmPotential.{Ways}

-- No way by hints is longer than the bound `most`.
abbrev pub AreBounded : Ways → Type 0
AreBounded ways = (group : Draw) (node : ℕ) → ways.far group node ≤ ways.most

-- A group serves this call: it is not gone, no lock keeps calls waiting, and the key lies in its arc.
pub record IsServed (op : Op) (core : Core) : Type 0 where
  pub stands : core.gone ≡ None
  pub serves : admits_requests core.lock ≡ true
  pub holds : holds_key core.arc (key_of op) ≡ true

-- The command is a call that the group serves.
abbrev pub IsServedCall : Core → Command → Type 0
IsServedCall core (Call client seq op) = IsServed op core
IsServedCall core Noop = ⊥
IsServedCall core (Join node order) = ⊥
IsServedCall core (Leave node order) = ⊥
IsServedCall core (Split at child order) = ⊥
IsServedCall core (Begin tx body order) = ⊥
IsServedCall core (Prepared tx offer) = ⊥
IsServedCall core (RecordVote tx vote by) = ⊥
IsServedCall core (GiveUp tx) = ⊥
IsServedCall core (Finish tx outcome) = ⊥
IsServedCall core (Watched tx watch) = ⊥
IsServedCall core (RecordWatch tx vote by) = ⊥

-- The replica leads, and may pump; every command in flight or ready at it is a call that its group serves.
pub record ServesAll (r : ReplicaState) : Type 0 where
  pub running : r.running ≡ true
  pub few : length (members r) ≤ 9
  pub mine : is_member (members r) r.me ≡ true
  pub may : MayPump r
  pub flights : Each (λ (flight : Flight Command). IsServedCall r.group.core flight.value) r.leader.flights
  pub ready : Each (λ (entry : ℕ × Command). IsServedCall r.group.core entry.1) r.ready

-- The leader's group is gone after the entry, and nothing else is in flight or ready.
pub record EndsAfter (command : Command) (r : ReplicaState) : Type 0 where
  pub counting : IsCounting command r
  pub into : Route
  pub goes : (entered command r).group.core.gone ≡ Some into
  pub flights : without_flight (next r) r.leader.flights ≡ []
  pub alone : without_slot r.ready (next r) ≡ []

-- The group has at most nine members after the entry.
abbrev pub LeavesFew : Command → ReplicaState → Type 0
LeavesFew command r = length (members (entered command r)) ≤ 9

-- The vote of a watcher is a Yes, and the leader leads on after the entry; or it is no member after it,
-- and then no participant was heard and nobody joins by the entry. At most nine are members after it.
abbrev pub IsWatchPaid : Draw → Past → ℕ → ReplicaState → Type 0
IsWatchPaid tx Cast.Yes by r =
    LeavesFew (RecordWatch tx Cast.Yes by) r
    × (LeadsOn (RecordWatch tx Cast.Yes by) r ⊎ (((before_of r.group.core).heard ≡ None) × (length (newcomers (RecordWatch tx Cast.Yes by) r) ≡ 0) × StopsAfter (RecordWatch tx Cast.Yes by) r))
IsWatchPaid tx (Cast.No why) by r = ⊥
IsWatchPaid tx Cast.Ended by r = ⊥

-- What a leader needs of an entry that it counted, by the entry's kind, so that the entry raises nothing.
-- A leader may stop only by its own leave, by the split of a group that is alone in its ring, by a decision, or by the end of its group. No transaction is given up.
abbrev pub IsPaid : Command → ReplicaState → Type 0
IsPaid Noop r = LeadsOn Noop r
IsPaid (Call client seq op) r = IsCounting (Call client seq op) r × IsServed op r.group.core
IsPaid (Join node order) r = LeadsOn (Join node order) r
IsPaid (Leave node order) r = LeadsOn (Leave node order) r ⊎ StopsAfter (Leave node order) r
IsPaid (Split at child order) r = (r.group.core.lock ≡ Free) × (LeadsOn (Split at child order) r ⊎ ((is_alone r.group.core ≡ true) × StopsAfter (Split at child order) r))
IsPaid (Begin tx body order) r = LeadsOn (Begin tx body order) r
IsPaid (Prepared tx offer) r = LeadsOn (Prepared tx offer) r
IsPaid (RecordVote tx vote by) r = LeavesFew (RecordVote tx vote by) r × (LeadsOn (RecordVote tx vote by) r ⊎ ((is_changed (applied r.group (RecordVote tx vote by)).1 ≡ false) × StopsAfter (RecordVote tx vote by) r))
IsPaid (GiveUp tx) r = ⊥
IsPaid (Finish tx outcome) r = LeadsOn (Finish tx outcome) r ⊎ EndsAfter (Finish tx outcome) r
IsPaid (Watched tx watch) r = LeadsOn (Watched tx watch) r
IsPaid (RecordWatch tx vote by) r = IsWatchPaid tx vote by r

-- A pump raises nothing at the replica, if that leads.
abbrev pub MayGoOn : ReplicaState → Type 0
MayGoOn r = r.running ≡ true → MayPump r

-- The entries that are ready from the replica's next slot on, at most as many as the list is long, are each paid for (`IsPaid`), and a pump after them raises nothing.
abbrev pub ArePaid : List (ℕ × Command) → Place → Type 0
ArePaid [] place = MayGoOn place.0
ArePaid (e ∷ es) place = IfThere (λ command. IsPaid command place.0 × ArePaid es (executed_one true command place)) (MayGoOn place.0) (next_ready place.0)

-- This command, and the entries ready behind it, are each paid for, and a pump after them raises nothing.
abbrev pub AllPaid : Command → Place → Type 0
AllPaid command place = IsPaid command place.0 × ArePaid (executed_one true command place).0.ready (executed_one true command place)

-- A command that is paid for with all that follows it raises nothing, with all that is offered after it.
abbrev pub ExecutionsRaiseNothing : Type 0
ExecutionsRaiseNothing = (ways : Ways) (command : Command) (place : Place) → AreBounded ways → AllPaid command place → ExecutesFreely ways command place

-- A vote at a leader where calls alone are in flight or ready lowers what is owed, with all that the leader then executes.
abbrev pub CallVotesLower : Type 0
CallVotesLower =
    (ways : Ways) (from : ℕ) (group : Draw) (ballot : Ballot) (slot : ℕ) (place : Place) → AreBounded ways → ServesAll place.0 → Lowers ways from (Accepted group ballot slot) place

-- One command is in flight, at this slot, and none is ready; where the slot is the replica's next one, the entry is paid for and leaves at most nine members.
pub record FliesAlone (slot : ℕ) (flight : Flight Command) (r : ReplicaState) : Type 0 where
  pub flights : r.leader.flights ≡ flight ∷ []
  pub ready : r.ready ≡ []
  pub may : MayPump r
  pub paid : slot ≡ next r → IsPaid flight.value (readied_at slot flight.value r)
  pub leaves : slot ≡ next r → LeavesFew flight.value (readied_at slot flight.value r)

-- A vote at a replica where one paid command alone is in flight lowers what is owed, with all that the replica then executes.
abbrev pub LoneVotesLower : Type 0
LoneVotesLower =
    (ways : Ways) (from : ℕ) (group : Draw) (ballot : Ballot) (slot : ℕ) (flight : Flight Command) (place : Place) → AreBounded ways → FliesAlone slot flight place.0 → Lowers ways from (Accepted group ballot slot) place
