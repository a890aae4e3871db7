-- The frame of a group that stands in a quiet journal: until the next order the group is as plain as one from its birth on.
use Rattle.std.specs.Prelude.{◌≡◌, ℕ, ◌-◌, ◌<◌, true, List, [], length, slice_get, unwrap_or, Some}
use Rattle.sc_base.specs.Definitions.{Each, IsRoster, is_member}
use Rattle.sc_node_table.specs.Values.{Draw, OrderLine, Mail, Row}
use Rattle.sc_node_table.specs.NodeDefinitions.{is_node, ReplicaState, name_of, next, members, slots_ahead}
use Rattle.sc_scenario.specs.declared.scenario.scenarios.Scenario.{Scenario}
use Rattle.sc_live_steps.specs.calm.CalmDefinitions.{View as Replicas, IsAtRest, StandsQuiet}
use Rattle.sc_live_plain.specs.LeaderMail.{View, IsBetween}
use Rattle.sc_live_plain.specs.LeaderMailInJournals.{next_in, votes_in}
use Rattle.sc_live_plain.specs.Frames.{Frame, IsFrame}
use Rattle.sc_live_plain.specs.PlainClients.{IsBegun}
use Rattle.sc_live_plain.specs.PlainMail.{Requests}
use Rattle.sc_live_plain.specs.PlainNodes.{AreTaken, IsPlainGroup, IsPlainAt}

-- a list of one to nine nodes
pub record IsOfNodes (set : List ℕ) : Type 0 where
  pub roster : IsRoster set
  pub nodes : (node : ℕ) → is_member set node ≡ true → is_node node ≡ true

-- what holds of each replica of a journal, quiet or not: it is its node's and its group's, its ballot is its own where it runs, it has forgotten only executed slots, and it knows for each open slot the nodes that decide it, which at the last open slot are the group's members
pub record IsKept (group : Draw) (node : ℕ) (r : ReplicaState) : Type 0 where
  pub me_is : r.me ≡ node
  pub name_is : name_of r ≡ group
  pub own : r.running ≡ true → r.leader.ballot.node ≡ node
  pub floor_low : r.acceptor.floor < next r
  pub many : length r.sets ≡ slots_ahead
  pub sets : Each IsOfNodes r.sets
  pub last : slice_get r.sets 3 ≡ Some (members r)

-- the frame of a group that stands, read off the replica that leads it: each open slot has the members that the replica keeps for it, and each later one those of the record
abbrev pub frame_at_rest : ReplicaState → Frame
frame_at_rest lead = record {
  core = lead.group.core;
  lead = lead.me;
  ballot = lead.leader.ballot;
  at = λ slot. unwrap_or (slice_get lead.sets (slot - next lead)) (members lead);
  from = next lead;
}

-- the view of a group that stands in a quiet journal, in which no slot has a command in flight
abbrev pub view_at_rest : Replicas → ReplicaState → View
view_at_rest at lead = record {
  next = λ node. next_in (at (name_of lead) node);
  bound = next_in (at (name_of lead) lead.me);
  voters = λ slot. votes_in (at (name_of lead) lead.me) slot;
}

-- in the frame of the leading replica all replicas of the group are plain, each node that decides a slot has a replica, no slot has a command in flight or ready, and no mail of agreement is missing or under way between the leader and its nodes
pub record StandsPlain (begun : Requests) (at : Replicas) (lead : ReplicaState) : Type 0 where
  pub frame : IsFrame (frame_at_rest lead)
  pub replicas : (node : ℕ) (r : ReplicaState) → at (name_of lead) node ≡ Some r → IsPlainAt begun (frame_at_rest lead) node r
  pub has : (slot node : ℕ) → is_member ((frame_at_rest lead).at slot) node ≡ true → (r : ReplicaState) × (at (name_of lead) node ≡ Some r)
  pub slots : AreTaken lead 0
  pub between : IsBetween (frame_at_rest lead) (view_at_rest at lead) (λ node. [])

-- each group that stands in a quiet journal is as `StandsPlain` says, where the requests that it has noted are begun
abbrev pub QuietGroupsStandPlain : Type 0
QuietGroupsStandPlain =
    (scenario : Scenario) (rows : List (Row Mail OrderLine)) (at : Replicas) (group : Draw) (quiet : StandsQuiet at group) → ((node : ℕ) (r : ReplicaState) → at group node ≡ Some r → IsKept group node r × IsAtRest r)
    → IsPlainGroup (IsBegun scenario rows) (frame_at_rest quiet.lead) quiet.lead.group → StandsPlain (IsBegun scenario rows) at quiet.lead
