-- What holds of nodes and clients in a quiet journal (no mail pending) of a calm scenario.
use Rattle.std.specs.Prelude.{◌≡◌, ℕ, ◌<◌, ◌≤◌, Bool, true, false, List, [], length, Option, Some, None, ◌⊎◌}
use Rattle.sc_base.specs.Definitions.{Among, Each, end_of, is_member}
use Rattle.sc_node_table.specs.Values.{Draw, Base, Free, Route}
use Rattle.sc_words.specs.paxos.PaxosDefinitions.{below}
use Rattle.sc_client_table.specs.table.TableDefinitions.{Client as ClientState, born_client}
use Rattle.sc_node_table.specs.NodeDefinitions.{ReplicaState, next, members, settled, born_replica}
use Rattle.sc_live_steps.specs.calm.PotentialLaws.{IsUnbound}

-- The replica of each group at each node, if the node has one.
abbrev pub View : Type 0
View = Draw → ℕ → Option ReplicaState

-- The node has a replica of the group.
abbrev pub HasReplica : View → Draw → ℕ → Type 0
HasReplica at group node = (r : ReplicaState) × (at group node ≡ Some r)

-- A replica that has executed as much as any other of its group.
pub record IsNewest (at : View) (group : Draw) (r : ReplicaState) : Type 0 where
  pub is_there : at group r.me ≡ Some r
  pub most : (node : ℕ) (other : ReplicaState) → at group node ≡ Some other → next other ≤ next r

-- The replica has nothing to do: its group is free, nothing waits or is queued, and nothing is in flight or ready.
pub record IsAtRest (r : ReplicaState) : Type 0 where
  pub free : r.group.core.lock ≡ Free
  pub acts : r.acts ≡ []
  pub backlog : r.backlog ≡ []
  pub waits : r.waits ≡ 0
  pub flights : r.leader.flights ≡ []
  pub ready : r.ready ≡ []

-- The replica leads its group: it is a settled member, no report binds it, its ballot is the greatest that it saw, and it takes itself for the leader.
pub record LeadsAtRest (r : ReplicaState) : Type 0 where
  pub running : r.running ≡ true
  pub mine : is_member (members r) r.me ≡ true
  pub settled_is : settled r ≡ true
  pub unbound : IsUnbound r
  pub top_is : r.top ≡ r.leader.ballot
  pub hint_is : r.hint ≡ Some r.me

-- The replica has promised and seen no ballot later than the leader's, and has accepted nothing at a slot that the leader has not executed.
pub record IsBelow (lead r : ReplicaState) : Type 0 where
  pub promised : below lead.leader.ballot r.acceptor.promised ≡ false
  pub top : below lead.leader.ballot r.top ≡ false
  pub accepted : Each (λ report. report.slot < next lead) r.acceptor.accepted

-- The replica may vote at an open slot: it takes the leader for the leader, and, where the leader's ballot is not the group's first, has promised it and the leader has counted that.
pub record MayVote (lead r : ReplicaState) : Type 0 where
  pub hint_is : r.hint ≡ Some lead.me
  pub promised : lead.leader.is_first ≡ false → (r.acceptor.promised ≡ lead.leader.ballot) × (is_member lead.leader.promisers r.me ≡ true)

-- The replica of a member is up to date: it has executed all entries, and takes the leader for the leader.
pub record IsUpToDate (lead r : ReplicaState) : Type 0 where
  pub group_is : r.group ≡ lead.group
  pub next_is : next r ≡ next lead
  pub sets_are : r.sets ≡ lead.sets
  pub hint_is : r.hint ≡ Some lead.me

-- The group's link to the next group is right: that group stands and begins where this one's arc ends, and each node that the link names has a replica of it.
pub record IsLinked (at : View) (lead : ReplicaState) : Type 0 where
  pub behind : ReplicaState
  pub newest : IsNewest at lead.group.core.succ.group behind
  pub stands : behind.group.core.gone ≡ None
  pub begins : behind.group.core.arc.lo ≡ end_of lead.group.core.arc
  pub nodes : (node : ℕ) → is_member lead.group.core.succ.members node ≡ true → HasReplica at lead.group.core.succ.group node

-- A group that stands, in quiet: one replica leads, each member's is up to date, and each node that decides an open slot may vote.
pub record StandsQuiet (at : View) (group : Draw) : Type 0 where
  pub lead : ReplicaState
  pub newest : IsNewest at group lead
  pub stands : lead.group.core.gone ≡ None
  pub leads : LeadsAtRest lead
  pub alone : (node : ℕ) (r : ReplicaState) → at group node ≡ Some r → r.running ≡ true → r ≡ lead
  pub below_it : (node : ℕ) (r : ReplicaState) → at group node ≡ Some r → IsBelow lead r
  pub member : (node : ℕ) → is_member (members lead) node ≡ true → (r : ReplicaState) × (at group node ≡ Some r) × IsUpToDate lead r
  pub voter : (set : List ℕ) (node : ℕ) → Among set lead.sets → is_member set node ≡ true → (r : ReplicaState) × (at group node ≡ Some r) × MayVote lead r
  pub linked : IsLinked at lead

-- A group that is gone, in quiet: no replica leads, each member's has executed that the group went, and the nodes of the group that it went into have a replica of that.
pub record IsGoneQuiet (at : View) (group : Draw) : Type 0 where
  pub last : ReplicaState
  pub newest : IsNewest at group last
  pub into : Route
  pub went : last.group.core.gone ≡ Some into
  pub stopped : (node : ℕ) (r : ReplicaState) → at group node ≡ Some r → r.running ≡ false
  pub member : (node : ℕ) → is_member (members last) node ≡ true → (r : ReplicaState) × (at group node ≡ Some r) × (r.group ≡ last.group) × (next r ≡ next last)
  pub nodes : (node : ℕ) → is_member into.members node ≡ true → HasReplica at into.group node

-- The replica takes for the leader the node of the greatest ballot that it saw; and the replica at that node leads, is gone, or saw a later round.
pub record RisesAt (at : View) (group : Draw) (r : ReplicaState) : Type 0 where
  pub hint_is : r.hint ≡ Some r.top.node
  pub there : ReplicaState
  pub is_there : at group r.top.node ≡ Some there
  pub nearer : (there.running ≡ true) ⊎ (((into : Route) × (there.group.core.gone ≡ Some into)) ⊎ (r.top.round < there.top.round))

-- A client that was not started is as at its birth; one that was has all its replies.
abbrev pub IsAnswered : Bool → Route → ClientState → Type 0
IsAnswered false first client = client ≡ born_client client.me client.requests first
IsAnswered true first client = (client.waiting ≡ None) × (length client.replies ≡ length client.requests)

-- A quiet journal of a calm scenario, by its replicas and its clients; of each client it is given whether it was started.
pub record IsQuiet (at : View) (first : Route) (clients : List (Bool × ClientState)) : Type 0 where
  pub groups : (group : Draw) (node : ℕ) → HasReplica at group node → StandsQuiet at group ⊎ IsGoneQuiet at group
  pub at_rest : (group : Draw) (node : ℕ) (r : ReplicaState) → at group node ≡ Some r → IsAtRest r
  pub rises : (group : Draw) (node : ℕ) (r : ReplicaState) → at group node ≡ Some r → r.running ≡ false → r.group.core.gone ≡ None → RisesAt at group r
  pub answered : Each (λ client. IsAnswered client.0 first client.1) clients

-- At its birth a replica has nothing to do, no report binds it, and it has promised and seen no ballot later than its own `leader.ballot`.
abbrev pub ReplicasBeginAtRest : Type 0
ReplicasBeginAtRest =
    (ahead me : ℕ) (base : Base) → base.core.lock ≡ Free → IsAtRest (born_replica ahead me base) × IsUnbound (born_replica ahead me base) × IsBelow (born_replica ahead me base) (born_replica ahead me base)

-- At a group's birth the replica of its first leader leads.
abbrev pub FirstMembersLead : Type 0
FirstMembersLead = (ahead me : ℕ) (base : Base) → 1 ≤ ahead → base.core.first ≡ me → is_member base.core.members me ≡ true → LeadsAtRest (born_replica ahead me base)
