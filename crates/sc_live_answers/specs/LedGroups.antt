-- A group has one log in a lawful journal of a valid scenario, where it has leaders (`HasLeaders`).
use Rattle.std.specs.Prelude.{◌≡◌, ℕ, ◌+◌, ◌-◌, ◌≤◌, true, false, List, [], ◌++◌, take, is_some, Some, None, ◌⊎◌}
use Rattle.sc_node_table.specs.Values.{Ballot, Draw, Command, Base, OrderLine, Mail, Accepted, Learn, Install, Node, Seat, Event}
use Rattle.sc_base.specs.Definitions.{is_member}
use Rattle.sc_actor.specs.Definitions.{mails, numbered, value}
use Rattle.sc_group_table.specs.machine.MachineDefinitions.{group_of, state_after}
use Rattle.sc_scenario.specs.declared.scenario.scenarios.Scenario.{Scenario}
use Rattle.sc_node_table.specs.NodeDefinitions.{entered, NodeState, replica_of, group_of_mail, ReplicaState, next, last_slot, mailed}
use Rattle.sc_meaning.specs.sound.SoundDefinitions.{decided_log, Ahead, Player, births, player_table}
use Rattle.sc_law_entries.specs.logs.LogDefinitions.{Rows}
use Rattle.sc_live_steps.specs.following.FollowingDefinitions.{members_at, SlotLeaders}
use Rattle.sc_live_journals.specs.rows.RowDefinitions.{view_at, IsSeat, with_event, made_children, AreAsBegun}
use Rattle.sc_live_journals.specs.logs.LogDefinitions.{logged_sets, IsGroupOf, HasReplica}
use Rattle.sc_live_journals.specs.groups.GroupDefinitions.{Ends, HasRounds, RestsBy, CountsAsMember, IsRowOf, Delivers, HasOneLog}

-- whether the group is gone in the state in which a slot is the next one, by its decided log in a journal; beyond the end of the log, in the last state
abbrev pub over_at : Ahead → Base → Rows → Ends
over_at ahead base journal slot = is_some (state_after (group_of base) (take (slot - 1) (decided_log ahead base journal))).core.gone

-- the first leader of each group of a lawful journal of a valid scenario is one of its members, and the group is not gone as it begins
pub record GroupsBeginStanding : Type 0 where
  pub first : (ahead : Ahead) (words : ℕ → ℕ → ℕ × ℕ) (scenario : Scenario) (journal : Rows) (base : Base) → IsGroupOf ahead words scenario journal base → is_member base.core.members base.core.first ≡ true
  pub stands : (ahead : Ahead) (words : ℕ → ℕ → ℕ × ℕ) (scenario : Scenario) (journal : Rows) (base : Base) → IsGroupOf ahead words scenario journal base → base.core.gone ≡ None

-- a group that is gone by its log stays so, and each replica records the group's end as the log does
pub record EndsAreLogged : Type 0 where
  pub stays : (ahead : Ahead) (base : Base) (journal : Rows) (slot later : ℕ) → slot ≤ later → over_at ahead base journal slot ≡ true → over_at ahead base journal later ≡ true
  -- a group is not gone as it begins
  pub begins : (ahead : Ahead) (words : ℕ → ℕ → ℕ × ℕ) (scenario : Scenario) (journal : Rows) (base : Base) → IsGroupOf ahead words scenario journal base → (slot : ℕ) → slot ≤ 1 → over_at ahead base journal slot ≡ false
  -- after any rows of the journal each replica records the end of the group as the log does at the replica's next slot
  pub replicas : (ahead : Ahead) (words : ℕ → ℕ → ℕ × ℕ) (scenario : Scenario) (journal : Rows) (base : Base) → IsGroupOf ahead words scenario journal base
      → (rows : Rows) (seat : Seat Player) (node : NodeState) (r : ReplicaState) → HasReplica ahead scenario journal base rows seat node r → is_some r.group.core.gone ≡ over_at ahead base journal (next r)
  -- with the entry that a Learn brings for its next slot, a replica records the end of the group as the log does
  pub entered : (ahead : Ahead) (words : ℕ → ℕ → ℕ × ℕ) (scenario : Scenario) (journal : Rows) (base : Base) → IsGroupOf ahead words scenario journal base
      → (rows : Rows) (seat : Seat Player) (node : NodeState) (r : ReplicaState) → HasReplica ahead scenario journal base rows seat node r
      → (number : ℕ) (mail : Mail) (slot : ℕ) (command : Command) → numbered (mails rows) number ≡ Some mail → mail.body ≡ Learn base.core.id slot command → slot ≡ next r
      → is_some (entered command r).group.core.gone ≡ over_at ahead base journal (next (entered command r))
  -- by a vote a leader executes nothing of a group that is gone
  pub voted : (ahead : Ahead) (words : ℕ → ℕ → ℕ × ℕ) (scenario : Scenario) (journal : Rows) (base : Base) → IsGroupOf ahead words scenario journal base
      → (rows : Rows) (seat : Seat Player) (node : NodeState) (r : ReplicaState) → HasReplica ahead scenario journal base rows seat node r → r.running ≡ true → r.group.core.gone ≡ None
      → (number : ℕ) (mail : Mail) (ballot : Ballot) (slot : ℕ) → numbered (mails rows) number ≡ Some mail → mail.body ≡ Accepted base.core.id ballot slot → RestsBy (over_at ahead base journal) (mailed mail.from mail.body (r, [])).0.0

-- by each entry of a group's log either no member is lost, or nobody joins
abbrev pub MembersMoveOneWay : Type 0
MembersMoveOneWay = (ahead : Ahead) (words : ℕ → ℕ → ℕ × ℕ) (scenario : Scenario) (journal : Rows) (base : Base) → IsGroupOf ahead words scenario journal base
    → (slot : ℕ) → ((who : ℕ) → is_member (members_at (logged_sets ahead base journal) slot) who ≡ true → is_member (members_at (logged_sets ahead base journal) (slot + 1)) who ≡ true)
    ⊎ ((who : ℕ) → is_member (members_at (logged_sets ahead base journal) (slot + 1)) who ≡ true → is_member (members_at (logged_sets ahead base journal) slot) who ≡ true)

-- each child that a node makes by a mail is a group of the journal as it begins, and the node is a member of it
abbrev pub ChildrenAreBegun : Type 0
ChildrenAreBegun = (ahead : Ahead) (words : ℕ → ℕ → ℕ × ℕ) (scenario : Scenario) (journal : Rows) (base : Base) → IsGroupOf ahead words scenario journal base
    → (rows more : Rows) → journal ≡ rows ++ more → (seat : Seat Player) (node : NodeState) → IsSeat (births ahead scenario) seat → value player_table seat rows ≡ Node node
    → (number : ℕ) (mail : Mail) (group : Draw) → numbered (mails rows) number ≡ Some mail → group_of_mail mail.body ≡ Some group
    → AreAsBegun base seat.who (made_children (replica_of group node.replicas) mail.from mail.body)

-- what has to be shown of a prefix of a journal, so that a group has one log: the node that leads at each slot is a member there; no replica has used up its rounds; slots that mail brings are at most the last one; and a member that executes an entry as leader leads at the entry's slot, and it alone sends the state
pub record HasLeaders (ahead : Ahead) (by : SlotLeaders) (scenario : Scenario) (journal prefix : Rows) (base : Base) : Type 0 where
  pub leads : (slot : ℕ) → is_member (members_at (logged_sets ahead base journal) slot) (by slot) ≡ true
  -- after each prefix of these rows each replica has a later round left
  pub rounds : (rows more : Rows) (node : ℕ) (r : ReplicaState) → prefix ≡ rows ++ more → view_at (births ahead scenario) rows base.core.id node ≡ Some r → HasRounds r
  -- an entry that a Learn brings a replica at its next slot is at most the last slot
  pub told : (rows : Rows) (seat : Seat Player) (number : ℕ) (mail : Mail) (slot : ℕ) (command : Command) (r : ReplicaState) → Delivers prefix rows seat number mail → mail.body ≡ Learn base.core.id slot command
      → view_at (births ahead scenario) rows base.core.id seat.who ≡ Some r → slot ≡ next r → slot ≤ last_slot
  -- a state is sent by the node that leads at its slot
  pub sent : (rows : Rows) (seat : Seat Player) (number : ℕ) (mail : Mail) (slot : ℕ) (state : Base) (sets : List (List ℕ)) → Delivers prefix rows seat number mail → mail.body ≡ Install base.core.id slot state sets
      → (mail.from ≡ by slot) × (slot ≤ last_slot)
  -- the entries that a leader executes are at slots at which it leads
  pub counted : (rows : Rows) (seat : Seat Player) (event : Event OrderLine) (r after : ReplicaState) → IsRowOf prefix rows seat event → view_at (births ahead scenario) rows base.core.id seat.who ≡ Some r → r.running ≡ true
      → view_at (births ahead scenario) (with_event rows seat event) base.core.id seat.who ≡ Some after → CountsAsMember (logged_sets ahead base journal) by r after seat.who

-- a group has one log in a prefix of a journal in which it has leaders: the members of its slots, and the slot from which on it is gone, are those of the whole journal
abbrev pub LedLogsAreOne : Type 0
LedLogsAreOne = (ahead : Ahead) (words : ℕ → ℕ → ℕ × ℕ) (by : SlotLeaders) (scenario : Scenario) (journal prefix more : Rows) (base : Base) → IsGroupOf ahead words scenario journal base → journal ≡ prefix ++ more → HasLeaders ahead by scenario journal prefix base
    → HasOneLog (logged_sets ahead base journal) (over_at ahead base journal) by (births ahead scenario) prefix base
