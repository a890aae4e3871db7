-- The laws of what rows of a calm journal change of what is owed.
use Rattle.std.specs.Prelude.{◌≡◌, ℕ, ◌+◌, ◌*◌, ◌≤◌, not, true, false, List, [], length, filter, sum_by, Option, None, Some}
use Rattle.sc_base.specs.Definitions.{Each, Drawer, is_member}
use Rattle.sc_node_table.specs.Values.{Command, Ballot, Draw, Op, Offer, Watch, Body, Base, Coordinating, Heard, OrderLine, Outcome, Past, Vote, MailBody, Request, Prepare, Promise, Accept, Accepted, Nack, Learn, Install, TxElsewhere, TxPrepare, TxVote, TxOutcome, TxWatch, TxWatched, Noop, Call, Join, Leave, Split, Begin, Prepared, RecordVote, GiveUp, Finish, Watched, RecordWatch, Flight}
use Rattle.sc_node_table.specs.NodeDefinitions.{question, ordered_row, mailed, at_slot, with_slot, without_slot, before_of, spoken, entered, announced, executed_one, has_room, executed, pumped, ReplicaState, Place, name_of, next, members}
use Rattle.sc_words.specs.declared.paxos.answers.Must.TheVariants.{Free as Open}
use Rattle.sc_words.specs.paxos.PaxosDefinitions.{must, flight_at, without_flight, without_flight_at}
use Rattle.sc_group_table.specs.machine.MachineDefinitions.{applied}
use Rattle.sc_law_walks.specs.WalkDefinitions.{GoesOn}
use Rattle.sc_live_steps.specs.calm.CalmPotential.{Ways, offered_owes, asked_owes, body_owes, mail_owes, place_owes}

-- No report that the leader has counted says what it must offer at a slot that it has not executed.
abbrev pub IsUnbound : ReplicaState → Type 0
IsUnbound r = (slot : ℕ) → next r ≤ slot → must slot r.leader ≡ Open

-- At most nine nodes decide each open slot.
abbrev pub AreNines : List (List ℕ) → Type 0
AreNines sets = Each (λ set. length set ≤ 9) sets

-- A pump, which offers queued commands at open slots, raises nothing.
abbrev pub PumpsRaiseNothing : Type 0
PumpsRaiseNothing =
    (ways : Ways) (place : Place) → IsUnbound place.0 → AreNines place.0.sets → place_owes ways (pumped place) ≤ place_owes ways place

-- An entry that a replica learns raises nothing, if the replica does not lead and its group stands before it.
abbrev pub LearntEntriesRaiseNothing : Type 0
LearntEntriesRaiseNothing =
    (ways : Ways) (command : Command) (place : Place) → place.0.running ≡ false → place.0.group.core.gone ≡ None → place.0.leader.flights ≡ []
    → place_owes ways (executed_one false command place) ≤ place_owes ways place

-- The replica and the mails after an entry has said what it says: the answers to clients and the desk, and the mail by which a transaction goes on.
abbrev pub said_place : Command → Place → Place
said_place command place =
    spoken true (before_of place.0.group.core) (applied place.0.group command).1 command (announced true (applied place.0.group command).1 command (entered command place.0, place.1))

-- The members that an entry adds.
abbrev pub newcomers : Command → ReplicaState → List ℕ
newcomers command r = filter (λ node. not (is_member (members r) node)) (members (entered command r))

-- A leader, one of at most nine members, whose next command is ready.
pub record IsCounting (command : Command) (r : ReplicaState) : Type 0 where
  pub running : r.running ≡ true
  pub few : length (members r) ≤ 9
  pub mine : is_member (members r) r.me ≡ true
  pub ready : at_slot r.ready (next r) ≡ Some command

-- The leader still leads the group after the entry: the group stands, and it is a member.
pub record LeadsOn (command : Command) (r : ReplicaState) : Type 0 where
  pub counting : IsCounting command r
  pub stands : (entered command r).group.core.gone ≡ None
  pub stays : is_member (members (entered command r)) r.me ≡ true

-- The leader is no member after the entry; nothing else is in flight or ready, and no call waits.
pub record StopsAfter (command : Command) (r : ReplicaState) : Type 0 where
  pub counting : IsCounting command r
  pub stands : (entered command r).group.core.gone ≡ None
  pub leaves : is_member (members (entered command r)) r.me ≡ false
  pub flights : without_flight (next r) r.leader.flights ≡ []
  pub alone : without_slot r.ready (next r) ≡ []
  pub backlog : r.backlog ≡ []

-- An entry that a leader counted, and after which it leads on, raises nothing,
-- if the command in flight owed at least the mail that it sends, 8 for those that learn it, and 3 for each member that it adds.
abbrev pub CountedEntriesRaiseNothing : Type 0
CountedEntriesRaiseNothing =
    (ways : Ways) (command : Command) (place : Place) (said : ℕ) → LeadsOn command place.0
    → (said_place command place).0 ≡ entered command place.0
    → sum_by (mail_owes ways) (said_place command place).1 ≤ sum_by (mail_owes ways) place.1 + said
    → 8 + said + 3 * length (newcomers command place.0) ≤ offered_owes ways.most command
    → place_owes ways (executed_one true command place) ≤ place_owes ways place

-- The command starts nothing with other groups: it is a filler, a join or a leave.
abbrev pub IsChange : Command → Type 0
IsChange Noop = Unit {0}
IsChange (Join node order) = Unit {0}
IsChange (Leave node order) = Unit {0}
IsChange (Call client seq op) = ⊥
IsChange (Split at child order) = ⊥
IsChange (Begin tx body order) = ⊥
IsChange (Prepared tx offer) = ⊥
IsChange (RecordVote tx vote by) = ⊥
IsChange (GiveUp tx) = ⊥
IsChange (Finish tx outcome) = ⊥
IsChange (Watched tx watch) = ⊥
IsChange (RecordWatch tx vote by) = ⊥

-- A counted filler, join or leave raises nothing, if the leader leads on.
abbrev pub ChangesRaiseNothing : Type 0
ChangesRaiseNothing =
    (ways : Ways) (command : Command) (place : Place) → IsChange command → LeadsOn command place.0 → place_owes ways (executed_one true command place) ≤ place_owes ways place

-- What makes a pump raise nothing at a replica: no report binds it, and at most nine nodes decide each open slot.
pub record MayPump (r : ReplicaState) : Type 0 where
  pub unbound : IsUnbound r
  pub few : AreNines r.sets

-- A mail to a replica lowers what is owed by at least one, reckoned with what the replica owes and sends after it.
abbrev pub Lowers : Ways → ℕ → MailBody → Place → Type 0
Lowers ways from body place = place_owes ways (mailed from body place).0 + 1 ≤ place_owes ways place + body_owes ways place.0.me body

-- A Prepare, an Accept and a Nack lower what is owed: at most one mail answers each, if no leader stops for its ballot.
pub record AnswersLower : Type 0 where
  pub prepare : (ways : Ways) (from : ℕ) (group : Draw) (ballot : Ballot) (from_slot : ℕ) (place : Place) → GoesOn ballot place.0 → Lowers ways from (Prepare group ballot from_slot) place
  pub accept : (ways : Ways) (from : ℕ) (group : Draw) (ballot : Ballot) (slot : ℕ) (command : Command) (place : Place) → GoesOn ballot place.0 → Lowers ways from (Accept group ballot slot command) place
  pub nack : (ways : Ways) (from : ℕ) (group : Draw) (ballot : Ballot) (place : Place) → GoesOn ballot place.0 → Lowers ways from (Nack group ballot) place

-- A vote and an outcome of a transaction lower what is owed: they are queued for the log, or answered.
pub record VotesLower : Type 0 where
  pub vote : (ways : Ways) (from : ℕ) (tx coord part : Draw) (vote : Vote) (place : Place) → MayPump place.0 → Lowers ways from (TxVote tx coord part vote) place
  pub watched : (ways : Ways) (from : ℕ) (tx coord part : Draw) (vote : Past) (place : Place) → MayPump place.0 → Lowers ways from (TxWatched tx coord part vote) place
  pub outcome : (ways : Ways) (from : ℕ) (tx part : Draw) (outcome : Outcome) (place : Place) → MayPump place.0 → Lowers ways from (TxOutcome tx part outcome) place

-- An order raises what is owed by at most 242 and four times the bound of ways.
abbrev pub OrdersRaiseLittle : Type 0
OrdersRaiseLittle =
    (ways : Ways) (drawer : Drawer) (line : OrderLine) (place : Place) → MayPump place.0 → place_owes ways (ordered_row drawer line place) ≤ place_owes ways place + (242 + 4 * ways.most)

-- The replica does not lead, its group stands, and at most nine nodes decide each slot that is open after this entry.
pub record Follows (command : Command) (r : ReplicaState) : Type 0 where
  pub stopped : r.running ≡ false
  pub stands : r.group.core.gone ≡ None
  pub flights : r.leader.flights ≡ []
  pub few : AreNines (entered command r).sets

-- A replica that learns an entry, its next one at most, lowers what is owed, also where the entry elects it.
abbrev pub LearnsLower : Type 0
LearnsLower =
    (ways : Ways) (from : ℕ) (group : Draw) (slot : ℕ) (command : Command) (place : Place) → Follows command place.0 → slot ≤ next place.0 → Lowers ways from (Learn group slot command) place

-- A replica that is sent an entry that it has executed lowers what is owed, also where its group is gone.
abbrev pub OldLearnsLower : Type 0
OldLearnsLower = (ways : Ways) (from : ℕ) (group : Draw) (slot : ℕ) (command : Command) (place : Place) → slot + 1 ≤ next place.0 → Lowers ways from (Learn group slot command) place

-- If the replica does not lead and its group stands, it takes for the leader a node that is at least one hint nearer to the leader.
abbrev pub Points : Ways → Draw → ReplicaState → Type 0
Points ways group r = r.running ≡ false → r.group.core.gone ≡ None → (node : ℕ) × (r.hint ≡ Some node) × (ways.far group node + 1 ≤ ways.far group r.me)

-- A promise without reports, a request, an offer and a watch lower what is owed: each is taken, or its sender learns where to ask.
pub record AsksLower : Type 0 where
  pub promise : (ways : Ways) (from : ℕ) (group : Draw) (ballot : Ballot) (place : Place) → MayPump place.0 → Lowers ways from (Promise group ballot []) place
  pub request : (ways : Ways) (from client seq : ℕ) (op : Op) (place : Place) → MayPump place.0 → Points ways (name_of place.0) place.0 → Lowers ways from (Request (name_of place.0) client seq op) place
  pub offer : (ways : Ways) (from : ℕ) (tx : Draw) (offer : Offer) (place : Place) → MayPump place.0 → Points ways offer.part place.0 → ways.asked_group tx ≡ Some (offer.part, false) → Lowers ways from (TxPrepare tx offer) place
  pub watch : (ways : Ways) (from : ℕ) (tx : Draw) (watch : Watch) (place : Place) → MayPump place.0 → Points ways watch.part place.0 → ways.asked_group tx ≡ Some (watch.part, true) → Lowers ways from (TxWatch tx watch) place

-- A leader that leaves raises nothing: the command of its leave owed the election that its group then owes.
abbrev pub LeadersMayLeave : Type 0
LeadersMayLeave =
    (ways : Ways) (node order : ℕ) (place : Place) → StopsAfter (Leave node order) place.0 → place_owes ways (executed_one true (Leave node order) place) ≤ place_owes ways place

-- What the coordinator of a transaction asks of this node owes no more than what the ways say that it asks.
abbrev pub AsksAs : Ways → Draw → ℕ → ReplicaState → Type 0
AsksAs ways tx node r =
    (body : Body) (heard : Option Heard) (order : ℕ) → r.group.core.lock ≡ Coordinating tx body order heard → body_owes ways node (question r.me r.group.core tx body heard) ≤ asked_owes ways node (ways.asked_group tx)

-- A state lowers what is owed at a replica that does not lead, of a group that stands; and so does, at a coordinator, the reply that sends it to another node.
pub record MovesLower : Type 0 where
  pub install : (ways : Ways) (from : ℕ) (group : Draw) (slot : ℕ) (base : Base) (sets : List (List ℕ)) (place : Place) → place.0.running ≡ false → place.0.group.core.gone ≡ None → Lowers ways from (Install group slot base sets) place
  pub elsewhere : (ways : Ways) (from : ℕ) (tx coord : Draw) (node : ℕ) (place : Place) → AsksAs ways tx node place.0 → Lowers ways from (TxElsewhere tx coord (Some node)) place

-- The replica after the command in flight at this slot was chosen, and is ready.
abbrev pub readied_at : ℕ → Command → ReplicaState → ReplicaState
readied_at slot command r = record r { leader = without_flight_at slot r.leader; ready = with_slot r.ready slot command }

-- What a replica executes as counted, from this command on, raises nothing, with all that follows it.
abbrev pub ExecutesFreely : Ways → Command → Place → Type 0
ExecutesFreely ways command place = place_owes ways (executed true command place).0 ≤ place_owes ways place

-- If the command in flight at the replica's next slot is chosen, what the replica then executes raises nothing.
abbrev pub DecidesFreely : Ways → ℕ → Place → Type 0
DecidesFreely ways slot place =
    (flight : Flight Command) → place.0.running ≡ true → has_room place.0 ≡ true → slot ≡ next place.0 → flight_at slot place.0.leader.flights ≡ Some flight
    → ExecutesFreely ways flight.value (readied_at slot flight.value place.0, place.1)

-- A vote lowers what is owed, if what it may decide raises nothing when it is executed.
abbrev pub CountsLower : Type 0
CountsLower =
    (ways : Ways) (from : ℕ) (group : Draw) (ballot : Ballot) (slot : ℕ) (place : Place) → DecidesFreely ways slot place → Lowers ways from (Accepted group ballot slot) place
