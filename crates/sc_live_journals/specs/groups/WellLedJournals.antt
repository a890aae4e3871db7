-- A group is well led through a calm journal in which its log is one.
use Rattle.std.specs.Prelude.{◌≡◌, ℕ, ◌+◌, ◌<◌, ◌≤◌, true, false, List, [], ◌++◌, Some, None, ◌⊎◌}
use Rattle.sc_base.specs.Definitions.{Among, Each, is_member}
use Rattle.sc_node_table.specs.Values.{Ballot, Draw, Command, Base, OrderLine, Mail, Promise, Accepted, Nack, Learn, Ask, Install, Node, Client, Seat, Event, Deliver, Report}
use Rattle.sc_actor.specs.Definitions.{mails, numbered, value}
use Rattle.sc_live_orderly.specs.OrderlyDefinitions.{IsCalmEvent, AreInTime}
use Rattle.sc_client_table.specs.table.TableDefinitions.{Client as ClientState}
use Rattle.sc_scenario.specs.scenario.Definitions.{IsBounded}
use Rattle.sc_scenario.specs.declared.scenario.scenarios.Scenario.{Scenario}
use Rattle.sc_node_table.specs.NodeDefinitions.{entered, NodeState, replica_of, group_of_mail, may_come, ReplicaState, next, last_slot, mailed, slots_ahead}
use Rattle.sc_law_walks.specs.WalkDefinitions.{GoesOn}
use Rattle.sc_meaning.specs.sound.SoundDefinitions.{Player, player_table, births, as_nodes}
use Rattle.sc_live_steps.specs.calm.CalmDefinitions.{players, Rows}
use Rattle.sc_live_steps.specs.following.FollowingDefinitions.{mark_of, Course, Sets, SlotLeaders, DecidesNext}
use Rattle.sc_live_journals.specs.rows.RowDefinitions.{view_at, PlaysAlone, IsSeat, with_event, made_children, AreAsBegun, IsWellKeptNode}
use Rattle.sc_live_journals.specs.groups.RowKinds.{IsLedStep}
use Rattle.sc_live_journals.specs.groups.WellLedGroups.{Ends, IsWellLed, IsLedOn}
use Rattle.sc_live_journals.specs.groups.RequiredLogs.{IsOfLog, HasRounds, IsLogsState, RestsBy, CountsAsMember, IsLogOf}

-- The player has this number, and each of its replicas is well kept.
abbrev pub IsWellPlayer : ℕ → Player → Type 0
IsWellPlayer who (Node node) = (node.me ≡ who) × IsWellKeptNode node
IsWellPlayer who (Client client) = Unit {0}

-- Each player is born with its number and with replicas that are well kept, and each replica that leads does so in a ballot of its own node.
pub record AreWellBorn (births : List (Seat Player)) : Type 0 where
  pub well : (seat : Seat Player) → IsSeat births seat → IsWellPlayer seat.who seat.actor
  pub alone : Each (λ seat. PlaysAlone seat.actor) births

-- The players of a scenario are well born.
abbrev pub ScenariosAreWellBorn : Type 0
ScenariosAreWellBorn = (scenario : Scenario) → AreWellBorn (births as_nodes scenario)

-- The row of this event is one of the journal, and `rows` are those before it.
pub record IsRowOf (journal rows : Rows) (seat : Seat Player) (event : Event OrderLine) : Type 0 where
  pub more : Rows
  pub fact : journal ≡ with_event rows seat event ++ more

-- The row of the journal after `rows` delivers this mail.
pub record Delivers (journal rows : Rows) (seat : Seat Player) (number : ℕ) (mail : Mail) : Type 0 where
  pub row : IsRowOf journal rows seat (Deliver number)
  pub sent : numbered (mails rows) number ≡ Some mail

-- The group's log is one. Its slots have one to nine nodes as members, the first ones those that the group begins with;
-- each replica has the log's state, and a later round; what mails bring to be learnt, send as states and decide is the log's;
-- one node leads at each slot, and counts its entry; and a child with the group's name is the group as it began.
pub record HasOneLog (at : Sets) (over : Ends) (by : SlotLeaders) (births : List (Seat Player)) (journal : Rows) (base : Base) : Type 0 where
  pub log : IsLogOf at by
  pub begins : (slot : ℕ) → slot < 1 + slots_ahead → at slot ≡ base.core.members
  pub first : is_member base.core.members base.core.first ≡ true
  pub stands : base.core.gone ≡ None
  pub early : over 0 ≡ false
  -- each replica after any of the rows
  pub states : (rows more : Rows) (node : ℕ) (r : ReplicaState) → journal ≡ rows ++ more → view_at births rows base.core.id node ≡ Some r → IsOfLog at over r
  pub rounds : (rows more : Rows) (node : ℕ) (r : ReplicaState) → journal ≡ rows ++ more → view_at births rows base.core.id node ≡ Some r → HasRounds r
  -- an entry of its next slot that a mail brings a replica to learn
  pub told : (rows : Rows) (seat : Seat Player) (number : ℕ) (mail : Mail) (slot : ℕ) (command : Command) (r : ReplicaState) → Delivers journal rows seat number mail → mail.body ≡ Learn base.core.id slot command
      → view_at births rows base.core.id seat.who ≡ Some r → slot ≡ next r → (slot ≤ last_slot) × IsOfLog at over (entered command r)
  -- a state that a mail has
  pub sent : (rows : Rows) (seat : Seat Player) (number : ℕ) (mail : Mail) (slot : ℕ) (state : Base) (sets : List (List ℕ)) → Delivers journal rows seat number mail → mail.body ≡ Install base.core.id slot state sets
      → IsLogsState at by base slot mail.from state sets
  -- a vote that a leader counts
  pub decided : (rows : Rows) (seat : Seat Player) (number : ℕ) (mail : Mail) (ballot : Ballot) (slot : ℕ) (r : ReplicaState) → Delivers journal rows seat number mail → mail.body ≡ Accepted base.core.id ballot slot
      → view_at births rows base.core.id seat.who ≡ Some r → r.running ≡ true → DecidesNext at mail.from ballot slot r
  -- a vote by which a leader executes no entry after the group is gone
  pub rests : (rows : Rows) (seat : Seat Player) (number : ℕ) (mail : Mail) (ballot : Ballot) (slot : ℕ) (r : ReplicaState) → Delivers journal rows seat number mail → mail.body ≡ Accepted base.core.id ballot slot
      → view_at births rows base.core.id seat.who ≡ Some r → r.running ≡ true → r.group.core.gone ≡ None → RestsBy over (mailed mail.from mail.body (r, [])).0.0
  -- the entries that a leader executes
  pub counted : (rows : Rows) (seat : Seat Player) (event : Event OrderLine) (r after : ReplicaState) → IsRowOf journal rows seat event → view_at births rows base.core.id seat.who ≡ Some r → r.running ≡ true
      → view_at births (with_event rows seat event) base.core.id seat.who ≡ Some after → CountsAsMember at by r after seat.who
  -- a child that a mail of another group creates
  pub born : (rows : Rows) (seat : Seat Player) (number : ℕ) (mail : Mail) (node : NodeState) (group : Draw) → Delivers journal rows seat number mail → IsSeat births seat → value player_table seat rows ≡ Node node → group_of_mail mail.body ≡ Some group
      → (group ≡ base.core.id → ⊥) → AreAsBegun base seat.who (made_children (replica_of group node.replicas) mail.from mail.body)

-- Which mail of the group there is: Paxos mail comes from nodes, to nodes, and finds a replica or brings a state; no mail is an Ask;
-- no promise has reports; and no leader stops for the ballot of a Nack.
pub record IsSentSo (births : List (Seat Player)) (journal : Rows) (base : Base) : Type 0 where
  pub comes : (rows : Rows) (seat : Seat Player) (number : ℕ) (mail : Mail) → Delivers journal rows seat number mail → (mark_of base.core.id mail.from mail.body ≡ None) ⊎ (may_come mail.from mail.body ≡ true)
  pub clients : (rows : Rows) (seat : Seat Player) (number : ℕ) (mail : Mail) (client : ClientState) → Delivers journal rows seat number mail → IsSeat births seat → value player_table seat rows ≡ Client client → mark_of base.core.id mail.from mail.body ≡ None
  pub finds : (rows : Rows) (seat : Seat Player) (number : ℕ) (mail : Mail) (node : NodeState) → Delivers journal rows seat number mail → IsSeat births seat → value player_table seat rows ≡ Node node → replica_of base.core.id node.replicas ≡ None
      → (mark_of base.core.id mail.from mail.body ≡ None) ⊎ ((slot : ℕ) × (state : Base) × (sets : List (List ℕ)) × (mail.body ≡ Install base.core.id slot state sets))
  pub asks : (rows : Rows) (seat : Seat Player) (number : ℕ) (mail : Mail) (from_slot : ℕ) → Delivers journal rows seat number mail → mail.body ≡ Ask base.core.id from_slot → ⊥
  pub plain : (rows : Rows) (seat : Seat Player) (number : ℕ) (mail : Mail) (ballot : Ballot) (reports : List (Report Command)) → Delivers journal rows seat number mail → mail.body ≡ Promise base.core.id ballot reports → reports ≡ []
  pub nacks : (rows : Rows) (seat : Seat Player) (number : ℕ) (mail : Mail) (promised : Ballot) (r : ReplicaState) → Delivers journal rows seat number mail → mail.body ≡ Nack base.core.id promised
      → view_at births rows base.core.id seat.who ≡ Some r → GoesOn promised r

-- Each event of a player in such a journal is a row of the group, and leaves the group well led in the course of that row.
abbrev pub EventsGoOn : Type 0
EventsGoOn =
    (at : Sets) (over : Ends) (by : SlotLeaders) (words : ℕ → ℕ → ℕ × ℕ) (births : List (Seat Player)) (journal : Rows) (base : Base) → AreWellBorn births → HasOneLog at over by births journal base → IsSentSo births journal base
    → (rows : Rows) (seat : Seat Player) (event : Event OrderLine) (course : Course) → IsRowOf journal rows seat event → IsSeat births seat → IsCalmEvent (players words births) rows seat.who event
    → AreInTime (players words births) (with_event rows seat event) → IsWellLed at over by words births rows base course → IsLedStep at over by words births rows seat event base course

-- Each event of a player in such a journal leaves the group well led in some course.
abbrev pub EventsKeepLed : Type 0
EventsKeepLed =
    (at : Sets) (over : Ends) (by : SlotLeaders) (words : ℕ → ℕ → ℕ × ℕ) (births : List (Seat Player)) (journal : Rows) (base : Base) → AreWellBorn births → HasOneLog at over by births journal base → IsSentSo births journal base
    → (rows : Rows) (seat : Seat Player) (event : Event OrderLine) (course : Course) → IsRowOf journal rows seat event → IsSeat births seat → IsCalmEvent (players words births) rows seat.who event
    → AreInTime (players words births) (with_event rows seat event) → IsWellLed at over by words births rows base course → IsLedOn at over by words births (with_event rows seat event) base

-- The group is well led after each row of such a journal, if its rows come in time and the group is well led at first.
abbrev pub GroupsAreLedThrough : Type 0
GroupsAreLedThrough =
    (at : Sets) (over : Ends) (by : SlotLeaders) (words : ℕ → ℕ → ℕ × ℕ) (births : List (Seat Player)) (journal : Rows) (base : Base) → AreWellBorn births → HasOneLog at over by births journal base → IsSentSo births journal base
    → AreInTime (players words births) journal → IsLedOn at over by words births [] base → (rows more : Rows) → journal ≡ rows ++ more → IsLedOn at over by words births rows base

-- Each group of a bounded scenario is well led after each row of a journal in time in which its log is one.
abbrev pub ScenariosAreLedThrough : Type 0
ScenariosAreLedThrough =
    (at : Sets) (over : Ends) (by : SlotLeaders) (words : ℕ → ℕ → ℕ × ℕ) (scenario : Scenario) (journal : Rows) (base : Base) → IsBounded scenario → Among base scenario.groups → HasOneLog at over by (births as_nodes scenario) journal base
    → IsSentSo (births as_nodes scenario) journal base → AreInTime (players words (births as_nodes scenario)) journal → (rows more : Rows) → journal ≡ rows ++ more → IsLedOn at over by words (births as_nodes scenario) rows base

-- Each child of a split, of which no node has a replica at the births, is well led after each row of a journal in time in which its log is one.
abbrev pub ChildrenAreLedThrough : Type 0
ChildrenAreLedThrough =
    (at : Sets) (over : Ends) (by : SlotLeaders) (words : ℕ → ℕ → ℕ × ℕ) (births : List (Seat Player)) (journal : Rows) (base : Base) → AreWellBorn births → ((who : ℕ) → view_at births [] base.core.id who ≡ None) → over 1 ≡ false → over 0 ≡ false
    → HasOneLog at over by births journal base → IsSentSo births journal base → AreInTime (players words births) journal → (rows more : Rows) → journal ≡ rows ++ more → IsLedOn at over by words births rows base
