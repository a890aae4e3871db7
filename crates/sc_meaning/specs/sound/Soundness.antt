-- What it means that a prefix of a journal is sound, with any number of groups. Each fact is read off the mail of the rows and the scenario; of the tables it takes only what a replica holds and which replies a client took.
use Rattle.std.specs.Prelude.{◌≡◌, ℕ, ◌+◌, ◌<◌, ◌≤◌, nat_lt, List, [], ◌∷◌, ◌++◌, length, take, drop, if◌then◌else◌, Option, Some, None, slice_get}
use Rattle.sc_base.specs.Definitions.{Among}
use Rattle.sc_node_table.specs.Values.{Reply, Command, Base, OrderLine, Mail, Row, Entry, Node as ANode}
use Rattle.sc_actor.specs.Definitions.{value}
use Rattle.sc_words.specs.ideal.IdealDefinitions.{HasEntry, Legal}
use Rattle.sc_group_table.specs.machine.MachineDefinitions.{group_of, state_after}
use Rattle.sc_node_table.specs.NodeDefinitions.{NodeState, ReplicaState, name_of, next}
use Rattle.sc_paxos_law.specs.PaxosLawDefinitions.{IsLog}
use Rattle.sc_meaning.specs.sound.Players.{Ahead, node_seat, player_table, route_of}
use Rattle.sc_scenario.specs.declared.scenario.scenarios.Asks.{Asks}
use Rattle.sc_scenario.specs.declared.scenario.scenarios.Scenario.{Scenario}
use Rattle.sc_meaning.specs.declared.entries.Cut.{Cut}
use Rattle.sc_meaning.specs.entries.EntryDefinitions.{Covers, IsPlaced, ServesItsCut, HoldsItsPart, StoreWorld, named_group, CoverThroughout}
use Rattle.sc_meaning.specs.sound.Accepts.{accepts}
use Rattle.sc_meaning.specs.sound.GroupsOf.{groups_at, entries_at, log_at, state_at, world_at, history_at}
use Rattle.sc_meaning.specs.sound.Logs.{rule_of, IsChosenIn, decided_log}
use Rattle.sc_meaning.specs.sound.Requests.{IsRequest, issue_row, kept_reply, answer_row}

-- the second log continues the first: the first is a prefix of it
abbrev pub Continues : List Command → List Command → Type 0
Continues log longer = (more : List Command) × (longer ≡ log ++ more)

-- (a) A group has one value per slot, and a log that only grows (Paxos Made Simple, sections 2.2 and 3).
pub record HasOneLog (ahead : Ahead) (bases : List Base) (base : Base) (rows more : List (Row Mail OrderLine)) : Type 0 where
  -- no two commands are chosen at one slot, each by the members that its own log gives
  pub one_value : (log other : List Command) → IsLog (rule_of ahead base) (accepts base.core.id rows) log → IsLog (rule_of ahead base) (accepts base.core.id rows) other
      → (slot : ℕ) (command another : Command) → IsChosenIn ahead base rows log (slot + 1) command → IsChosenIn ahead base rows other (slot + 1) another → command ≡ another
  -- the decided log is a log: its entry k is chosen at slot k
  pub is_log : IsLog (rule_of ahead base) (accepts base.core.id rows) (decided_log ahead base rows)
  -- the decided log is the longest: each other log is a prefix of it
  pub longest : (other : List Command) → IsLog (rule_of ahead base) (accepts base.core.id rows) other → Continues other (decided_log ahead base rows)
  -- with more rows the log of the group with this name continues the decided log
  pub grows : Continues (decided_log ahead base rows) (log_at ahead bases (rows ++ more) base.core.id)

-- (b) A replica's state is that after a prefix of its group's log, which it has executed or taken over as a state; it holds the entries of the prefix that it has not forgotten.
pub record HasRun (ahead : Ahead) (base : Base) (rows : List (Row Mail OrderLine)) (r : ReplicaState) : Type 0 where
  -- the number of entries of the prefix
  pub count : ℕ
  -- the decided log has at least these entries
  pub within : count ≤ length (decided_log ahead base rows)
  -- the slot that the replica waits for is the one after the prefix
  pub next_is : next r ≡ count + 1
  -- the replica holds the entries of the prefix after those that it has forgotten
  pub entries : r.log.entries ≡ drop r.log.base (take count (decided_log ahead base rows))
  -- the group of the replica is the state after the prefix
  pub group_is : r.group ≡ state_after (group_of base) (take count (decided_log ahead base rows))

-- each replica of each node is of a group of the journal, and its state is that after a prefix of the group's log
abbrev pub AllHaveRun : Ahead → Scenario → List (Row Mail OrderLine) → Type 0
AllHaveRun ahead scenario rows = (number : ℕ) → 1 ≤ number → number ≤ scenario.nodes
    → (node : NodeState) → value player_table (node_seat ahead scenario.groups scenario.policy number) rows ≡ ANode node
    → (r : ReplicaState) → Among r node.replicas
    → (base : Base) × Among base (groups_at ahead scenario.groups rows) × (base.core.id ≡ name_of r) × HasRun ahead base rows r

-- (c), (d), (e) The ring covers, each range's group has its place and its part of the map, a group that serves a key is that of its range, and the history is legal (Herlihy and Wing, 1990).
pub record IsOneMap (world : StoreWorld) : Type 0 where
  pub covers : Covers world.ring
  pub placed : (cut : Cut) → Among cut world.ring → IsPlaced world cut
  pub serves_apart : ServesItsCut world
  pub legal : Legal world.history
  pub parts : (cut : Cut) → Among cut world.ring → HoldsItsPart world cut

-- (f) The history is of the scenario's requests, and has each reply that a client keeps. Each client knows the scenario's first group at the start.
pub record AnswersRequests (ahead : Ahead) (scenario : Scenario) (rows : List (Row Mail OrderLine)) : Type 0 where
  -- each entry is a request of the scenario with its own operation
  pub requests : (entry : Entry) → Among entry (history_at ahead scenario.groups rows) → IsRequest scenario entry
  -- each reply that a client keeps is the reply of the entry with its client and number
  pub kept : (first : Base) (others : List Base) → scenario.groups ≡ first ∷ others → (asks : Asks) → Among asks scenario.clients
      → (seq : ℕ) (reply : Reply) → kept_reply (route_of first) asks seq rows ≡ Some reply → HasEntry (history_at ahead scenario.groups rows) asks.client seq reply

-- the number, from 1, of the row after which the history has its entry at a place (from 0), sought in the later rows, if there is one
abbrev pub row_of_entry_from : Ahead → List Base → ℕ → List (Row Mail OrderLine) → List (Row Mail OrderLine) → Option ℕ
row_of_entry_from ahead bases place before [] = None
row_of_entry_from ahead bases place before (row ∷ rows) =
    if nat_lt place (length (history_at ahead bases (before ++ row ∷ []))) then Some (length before + 1)
    else row_of_entry_from ahead bases place (before ++ row ∷ []) rows

-- the number, from 1, of the row that decides the entry of the history at a place (from 0), if one does
abbrev pub row_of_entry : Ahead → List Base → ℕ → List (Row Mail OrderLine) → Option ℕ
row_of_entry ahead bases place rows = row_of_entry_from ahead bases place [] rows

-- (g) An entry of the history is decided after the row in which its client issues it, and before the row in which its client takes the reply, if there is one.
pub record IsTimely (ahead : Ahead) (scenario : Scenario) (rows : List (Row Mail OrderLine)) (place : ℕ) (entry : Entry) : Type 0 where
  -- the number of the row that decides the entry
  pub decided : ℕ
  pub is_decided : row_of_entry ahead scenario.groups place rows ≡ Some decided
  -- the number of the row that issues the request
  pub issued : ℕ
  pub is_issued : issue_row entry.client entry.seq rows ≡ Some issued
  pub after_issue : issued < decided
  -- the row that answers the request, if one does, is behind the one that decides it
  pub before_answer : (first : Base) (others : List Base) → scenario.groups ≡ first ∷ others → (asks : Asks) → Among asks scenario.clients → asks.client ≡ entry.client
      → (answered : ℕ) → answer_row (route_of first) asks entry.seq rows ≡ Some answered → decided < answered

-- a request whose client took the reply in or before the row that issued another request stands before that other one in the history
abbrev pub KeepsRealTime : Ahead → Scenario → List (Row Mail OrderLine) → Type 0
KeepsRealTime ahead scenario rows = (place other : ℕ) (entry later : Entry)
    → slice_get (history_at ahead scenario.groups rows) place ≡ Some entry → slice_get (history_at ahead scenario.groups rows) other ≡ Some later
    → (first : Base) (others : List Base) → scenario.groups ≡ first ∷ others → (asks : Asks) → Among asks scenario.clients → asks.client ≡ entry.client
    → (answered issued : ℕ) → answer_row (route_of first) asks entry.seq rows ≡ Some answered → issue_row later.client later.seq rows ≡ Some issued
    → answered ≤ issued → place < other

-- A prefix of a journal is sound, whatever rows follow it.
pub record IsSound (ahead : Ahead) (scenario : Scenario) (rows more : List (Row Mail OrderLine)) : Type 0 where
  -- (a) each group has one log, which only grows
  pub one_log : (base : Base) → Among base (groups_at ahead scenario.groups rows) → HasOneLog ahead scenario.groups base rows more
  -- the entries of all logs make of each group its state after its own log
  pub states : (base : Base) → Among base (groups_at ahead scenario.groups rows)
      → named_group base.core.id (world_at ahead scenario.groups rows).groups ≡ state_at ahead scenario.groups rows base.core.id
  -- (b) each replica's state is that after a prefix of its group's log
  pub have_run : AllHaveRun ahead scenario rows
  -- (c), (d), (e) the groups together are one map
  pub whole : IsOneMap (world_at ahead scenario.groups rows)
  -- the ring covers after each prefix of the entries
  pub rings : CoverThroughout scenario.groups (entries_at ahead scenario.groups rows)
  -- (f) the history is of the scenario's requests, with the replies that clients keep
  pub answers : AnswersRequests ahead scenario rows
  -- (g) each entry is decided between its issue and its answer
  pub timely : (place : ℕ) (entry : Entry) → slice_get (history_at ahead scenario.groups rows) place ≡ Some entry → IsTimely ahead scenario rows place entry
  pub real_time : KeepsRealTime ahead scenario rows

-- each prefix of a journal is sound
abbrev pub IsSoundThroughout : Ahead → Scenario → List (Row Mail OrderLine) → Type 0
IsSoundThroughout ahead scenario journal = (rows more : List (Row Mail OrderLine)) → journal ≡ rows ++ more → IsSound ahead scenario rows more
