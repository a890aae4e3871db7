-- What a group's log says, in a lawful journal, of the members of its slots, its replicas and its mail.
use Rattle.std.specs.Prelude.{◌≡◌, ℕ, ◌+◌, ◌<◌, true, List, ◌++◌, length, Some}
use Rattle.sc_base.specs.Definitions.{Among, IsRoster}
use Rattle.sc_node_table.specs.Values.{Ballot, Command, Base, Mail, Accepted, Learn, Install, Node, Seat}
use Rattle.sc_actor.specs.Definitions.{mails, numbered, value}
use Rattle.sc_paxos_law.specs.PaxosLawDefinitions.{members_of}
use Rattle.sc_scenario.specs.scenario.Definitions.{IsValid}
use Rattle.sc_scenario.specs.declared.scenario.scenarios.Scenario.{Scenario}
use Rattle.sc_node_table.specs.NodeDefinitions.{entered, NodeState, replica_of, ReplicaState, name_of, next, members, first_ballot, slots_ahead}
use Rattle.sc_meaning.specs.sound.SoundDefinitions.{groups_at, rule_of, decided_log, Ahead, Player, Lawful, births, player_table}
use Rattle.sc_law_entries.specs.logs.LogDefinitions.{Rows}
use Rattle.sc_live_steps.specs.following.FollowingDefinitions.{IsNext, AreNext, Sets, members_at, DecidesNext, AreAt}
use Rattle.sc_live_journals.specs.rows.RowDefinitions.{view_at, IsSeat}

-- The members of each slot by the group's log in a journal. The state after the first `max(0, slot - ahead)` entries gives those of a slot; behind the log's end it is the last state.
abbrev pub logged_sets : Ahead → Base → Rows → Sets
logged_sets ahead base journal slot = members_of (rule_of ahead base) (decided_log ahead base journal) slot

-- `base` is a group of a lawful journal of a valid scenario, with as many open slots as a node's groups have at birth.
pub record IsGroupOf (ahead : Ahead) (words : ℕ → ℕ → ℕ × ℕ) (scenario : Scenario) (journal : Rows) (base : Base) : Type 0 where
  pub open_slots : ahead.slots ≡ slots_ahead
  pub valid : IsValid scenario
  pub lawful : Lawful ahead words scenario journal
  pub stands : Among base (groups_at ahead scenario.groups journal)

-- The slots that are open at the group's birth, and slot 0, have its first members; the members of each slot are one to nine numbers, ascending.
pub record SlotsHaveRosters : Type 0 where
  pub first : (ahead : Ahead) (words : ℕ → ℕ → ℕ × ℕ) (scenario : Scenario) (journal : Rows) (base : Base) → IsGroupOf ahead words scenario journal base → (slot : ℕ) → slot < 1 + slots_ahead → logged_sets ahead base journal slot ≡ base.core.members
  pub rosters : (ahead : Ahead) (words : ℕ → ℕ → ℕ × ℕ) (scenario : Scenario) (journal : Rows) (base : Base) → IsGroupOf ahead words scenario journal base → (slot : ℕ) → IsRoster (logged_sets ahead base journal slot)

-- A player of the scenario is a node that has this replica of the group after a prefix of the journal.
pub record HasReplica (ahead : Ahead) (scenario : Scenario) (journal : Rows) (base : Base) (rows : Rows) (seat : Seat Player) (node : NodeState) (r : ReplicaState) : Type 0 where
  pub more : Rows
  pub prefix : journal ≡ rows ++ more
  pub seated : IsSeat (births ahead scenario) seat
  pub fact : value player_table seat rows ≡ Node node
  pub here : replica_of base.core.id node.replicas ≡ Some r

-- Each replica of the group that a player has, after a prefix of the journal, is one of a node.
abbrev pub ViewsAreReplicas : Type 0
ViewsAreReplicas = (ahead : Ahead) (words : ℕ → ℕ → ℕ × ℕ) (scenario : Scenario) (journal : Rows) (base : Base) → IsGroupOf ahead words scenario journal base
    → (rows more : Rows) → journal ≡ rows ++ more → (who : ℕ) (r : ReplicaState) → view_at (births ahead scenario) rows base.core.id who ≡ Some r
    → (seat : Seat Player) × (node : NodeState) × HasReplica ahead scenario journal base rows seat node r × (seat.who ≡ who)

-- The replica has the group's name and the members of its open slots, and the members of its state are those of the last open slot (`members_at`).
pub record IsLogged (at : Sets) (base : Base) (r : ReplicaState) : Type 0 where
  pub named : name_of r ≡ base.core.id
  pub roster : IsRoster (members r)
  pub members : members_at at (next r) ≡ members r
  pub many : length r.sets ≡ slots_ahead
  pub opens : AreAt at (next r) r.sets

-- After each prefix of the journal, `IsLogged` holds of each replica of the group.
abbrev pub ReplicasAreLogged : Type 0
ReplicasAreLogged = (ahead : Ahead) (words : ℕ → ℕ → ℕ × ℕ) (scenario : Scenario) (journal : Rows) (base : Base) → IsGroupOf ahead words scenario journal base
    → (rows : Rows) (seat : Seat Player) (node : NodeState) (r : ReplicaState) → HasReplica ahead scenario journal base rows seat node r → IsLogged (logged_sets ahead base journal) base r

-- What a replica executes next is the entry of its next slot, as `IsNext` says.
pub record CommandsComeNext : Type 0 where
  -- an entry of its next slot that a mail brings it to learn
  pub learnt : (ahead : Ahead) (words : ℕ → ℕ → ℕ × ℕ) (scenario : Scenario) (journal : Rows) (base : Base) → IsGroupOf ahead words scenario journal base
      → (rows : Rows) (seat : Seat Player) (node : NodeState) (r : ReplicaState) → HasReplica ahead scenario journal base rows seat node r
      → (number : ℕ) (mail : Mail) (slot : ℕ) (command : Command) → numbered (mails rows) number ≡ Some mail → mail.body ≡ Learn base.core.id slot command → slot ≡ next r
      → IsNext (logged_sets ahead base journal) command r
  -- the replica after such an entry has the members of its open slots then, as `IsLogged` says
  pub entered : (ahead : Ahead) (words : ℕ → ℕ → ℕ × ℕ) (scenario : Scenario) (journal : Rows) (base : Base) → IsGroupOf ahead words scenario journal base
      → (rows : Rows) (seat : Seat Player) (node : NodeState) (r : ReplicaState) → HasReplica ahead scenario journal base rows seat node r
      → (number : ℕ) (mail : Mail) (slot : ℕ) (command : Command) → numbered (mails rows) number ≡ Some mail → mail.body ≡ Learn base.core.id slot command → slot ≡ next r
      → IsLogged (logged_sets ahead base journal) base (entered command r)
  -- what is ready at its next slot, and at those behind it
  pub ready : (ahead : Ahead) (words : ℕ → ℕ → ℕ × ℕ) (scenario : Scenario) (journal : Rows) (base : Base) → IsGroupOf ahead words scenario journal base
      → (rows : Rows) (seat : Seat Player) (node : NodeState) (r : ReplicaState) → HasReplica ahead scenario journal base rows seat node r
      → (mails : List Mail) → AreNext (logged_sets ahead base journal) r.ready (r, mails)
  -- what a vote decides at a leader's next slot, with all that is ready behind it
  pub decided : (ahead : Ahead) (words : ℕ → ℕ → ℕ × ℕ) (scenario : Scenario) (journal : Rows) (base : Base) → IsGroupOf ahead words scenario journal base
      → (rows : Rows) (seat : Seat Player) (node : NodeState) (r : ReplicaState) → HasReplica ahead scenario journal base rows seat node r → r.running ≡ true
      → (number : ℕ) (mail : Mail) (ballot : Ballot) (slot : ℕ) → numbered (mails rows) number ≡ Some mail → mail.body ≡ Accepted base.core.id ballot slot
      → DecidesNext (logged_sets ahead base journal) mail.from ballot slot r

-- The state is the group's after the entry at this slot, with the members of the slots that are open then.
pub record IsLoggedState (at : Sets) (base : Base) (slot : ℕ) (state : Base) (sets : List (List ℕ)) : Type 0 where
  pub many : length sets ≡ slots_ahead
  pub named : state.core.id ≡ base.core.id
  pub first : first_ballot state.core ≡ first_ballot base.core
  pub roster : IsRoster state.core.members
  pub members : members_at at (slot + 1) ≡ state.core.members
  pub opens : AreAt at (slot + 1) sets

-- Each state of the group that a mail has is one that `IsLoggedState` describes.
abbrev pub StatesAreLogged : Type 0
StatesAreLogged = (ahead : Ahead) (words : ℕ → ℕ → ℕ × ℕ) (scenario : Scenario) (journal : Rows) (base : Base) → IsGroupOf ahead words scenario journal base
    → (rows more : Rows) → journal ≡ rows ++ more → (number : ℕ) (mail : Mail) (slot : ℕ) (state : Base) (sets : List (List ℕ)) → numbered (mails rows) number ≡ Some mail → mail.body ≡ Install base.core.id slot state sets
    → IsLoggedState (logged_sets ahead base journal) base slot state sets
