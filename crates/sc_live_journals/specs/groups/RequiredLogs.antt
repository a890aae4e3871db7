-- What a group's log must be, so that each row of a calm journal keeps the group well led. It is said of the log alone, and not of who leads or follows.
use Rattle.std.specs.Prelude.{◌≡◌, ℕ, ◌+◌, ◌-◌, ◌^◌, ◌<◌, ◌≤◌, true, List, length, is_some, ◌⊎◌}
use Rattle.sc_node_table.specs.Values.{Base}
use Rattle.sc_base.specs.Definitions.{IsRoster, is_member}
use Rattle.sc_words.specs.paxos.PaxosDefinitions.{IsAtLeast}
use Rattle.sc_node_table.specs.NodeDefinitions.{is_node, ReplicaState, next, members, first_ballot, slots_ahead}
use Rattle.sc_live_steps.specs.following.FollowingDefinitions.{Sets, members_at, SlotLeaders, AreAt}
use Rattle.sc_live_journals.specs.rows.RowDefinitions.{IsWholeState}
use Rattle.sc_live_journals.specs.groups.WellLedGroups.{Ends}

-- The replica's state is the log's: its members, those of its open slots, and whether the group is gone.
pub record IsOfLog (at : Sets) (over : Ends) (r : ReplicaState) : Type 0 where
  pub members_are : members_at at (next r) ≡ members r
  pub opens : AreAt at (next r) r.sets
  pub many : length r.sets ≡ slots_ahead
  pub ends : is_some r.group.core.gone ≡ over (next r)

-- The replica has executed no entry after the one by which the group is gone.
abbrev pub RestsBy : Ends → ReplicaState → Type 0
RestsBy over r = (slot : ℕ) → over slot ≡ true → next r ≤ slot

-- The replica's greatest ballot is not below its promise, and it has a later round.
pub record HasRounds (r : ReplicaState) : Type 0 where
  pub seen : IsAtLeast r.top r.acceptor.promised
  pub later : r.top.round < 2 ^ 32 - 1

-- The state is the log's after this slot, with as many sets of members as slots are open, of the group that began as `base`, and comes from the node that leads at the slot.
pub record IsLogsState (at : Sets) (by : SlotLeaders) (base : Base) (slot from : ℕ) (state : Base) (sets : List (List ℕ)) : Type 0 where
  pub whole : IsWholeState slot sets
  pub members_are : members_at at (slot + 1) ≡ state.core.members
  pub firsts : first_ballot state.core ≡ first_ballot base.core
  pub slot_leader : from ≡ by slot

-- The node leads at each slot whose entry the replica executes from `r` to `after`.
abbrev pub CountsTo : SlotLeaders → ReplicaState → ReplicaState → ℕ → Type 0
CountsTo by r after node = (slot : ℕ) → next r ≤ slot → slot < next after → by slot ≡ node

-- If the node is a member at each slot whose entry the replica executes from `r` to `after`, it leads at these slots.
abbrev pub CountsAsMember : Sets → SlotLeaders → ReplicaState → ReplicaState → ℕ → Type 0
CountsAsMember at by r after node = ((slot : ℕ) → next r ≤ slot → slot < next after → is_member (members_at at slot) node ≡ true) → CountsTo by r after node

-- The members of each slot are one to nine numbers of nodes; and nobody joins by an entry by which the node that counts it goes.
pub record IsLogOf (at : Sets) (by : SlotLeaders) : Type 0 where
  pub rosters : (slot : ℕ) → IsRoster (at slot)
  pub nodes : (slot node : ℕ) → is_member (at slot) node ≡ true → is_node node ≡ true
  pub leaves : (slot : ℕ) → (is_member (members_at at (slot + 1)) (by slot) ≡ true) ⊎ ((who : ℕ) → is_member (members_at at (slot + 1)) who ≡ true → is_member (members_at at slot) who ≡ true)
