-- What a row has to find, by the mail that it takes or the order that it gives, so that an order stays under way.
use Rattle.std.specs.Prelude.{◌≡◌, ℕ, ◌<◌, Bool, true, false, List, [], ◌∷◌, Option, if◌then◌else◌, Some, None}
use Rattle.sc_base.specs.Definitions.{Each, is_member}
use Rattle.sc_node_table.specs.Values.{Draw, Command, OrderLine, OrderRefusal, Mail, MailBody, Request, Answer, Prepare, Promise, Accept, Accepted, Nack, Learn, Ask, Install, TxPrepare, TxVote, TxOutcome, TxElsewhere, TxWatch, TxWatched, Told as ToldMail, Node, Client, Seat, Event, Deliver, Flight, Report}
use Rattle.sc_law_walks.specs.WalkDefinitions.{GoesOn}
use Rattle.sc_actor.specs.declared.rows.Event.TheVariants.{Told}
use Rattle.sc_actor.specs.Definitions.{mails, numbered, value}
use Rattle.sc_client_table.specs.table.TableDefinitions.{Client as ClientState}
use Rattle.sc_live_orderly.specs.OrderlyDefinitions.{AreInTime}
use Rattle.sc_node_table.specs.NodeDefinitions.{NodeState, replica_of, may_come, group_of_order, ordered_row, untaken, ReplicaState, next, settled, listed, mailed, standing_vote, noted_outcome}
use Rattle.sc_words.specs.paxos.PaxosDefinitions.{flight_at}
use Rattle.sc_scenario.specs.scenario.Definitions.{IsBounded}
use Rattle.sc_scenario.specs.declared.scenario.scenarios.Scenario.{Scenario}
use Rattle.sc_meaning.specs.sound.SoundDefinitions.{Player, player_table, births, as_nodes}
use Rattle.sc_live_steps.specs.calm.CalmDefinitions.{players, Rows}
use Rattle.sc_live_steps.specs.orders.OrderDefinitions.{Turn, First, Lone, Next, is_watch, Unbound, Asking, Question, Reply, Work, Opens, Answers, Records, Ends, bound_by, IsOrder, Stage, IsAt, IsUnderWay, results, bond_of, works, errand_by, IsIdle, FliesLone, IsUnbound, Works}
use Rattle.sc_live_journals.specs.rows.RowDefinitions.{view_at, IsSeat, with_event, IsWholeState}
use Rattle.sc_live_journals.specs.scenes.VotesAndOrders.{IsEntry, StaysIn, IsOrdered}
use Rattle.sc_live_journals.specs.scenes.OrderRows.{IsBeside, StageAfter}
use Rattle.sc_live_journals.specs.scenes.CreatedReplicas.{MayJoin}
use Rattle.sc_live_journals.specs.scenes.QuietScenes.{GoesToActor, HasNothing}
use Rattle.sc_live_journals.specs.scenes.JournalScenes.{scene_at, errand_taken}
use Rattle.sc_live_journals.specs.scenes.SceneReceivers.{MayCreate, IsTaking}
use Rattle.sc_live_journals.specs.scenes.SceneRows.{LeadsAlone}

-- ---- the leader

-- A settled coordinator is sent to a node, to ask there.
pub record IsSentOn (me : ℕ) (hint : Option ℕ) (r : ReplicaState) : Type 0 where
  pub to : ℕ
  pub hint_is : hint ≡ Some to
  pub me_is : r.me ≡ me
  pub settles : settled r ≡ true

-- A promise without reports comes to a leader that has one work, or none, and that no report binds.
pub record IsBarePromise (reports : List (Report Command)) (r : ReplicaState) : Type 0 where
  pub bare : reports ≡ []
  pub unbound : IsUnbound r
  pub work : Option Work
  pub works_are : works r ≡ listed work

-- What a vote finds at the leader. `Late`: nothing is in flight at its slot. `Leaves`: it leaves the work as it is.
-- Otherwise: one command is in flight, alone, and it is an entry of one of the kinds of `VotesKeep`.
pub data FindsFlight (births : List (Seat Player)) (rows : Rows) (seat : Seat Player) (number : ℕ) (mail : Mail) (group : Draw) (r : ReplicaState) (slot : ℕ) : Type 0 where
  Late : flight_at slot r.leader.flights ≡ None → FindsFlight births rows seat number mail group r slot
  Leaves : Works (works r) [] r (mailed mail.from mail.body (r, [])).0 → FindsFlight births rows seat number mail group r slot
  Changed : (flight : Flight Command) (order : Work) → FliesLone flight r → r.me ≡ seat.who → IsEntry births rows seat number mail group order (bond_of r.group.core) [] flight.value r → IsOrder order
      → FindsFlight births rows seat number mail group r slot
  Opened : (flight : Flight Command) (tx asked : Draw) (watch : Bool) (node : ℕ) → FliesLone flight r → r.me ≡ seat.who
      → IsEntry births rows seat number mail group (Opens tx) (Asking tx asked (if watch then Lone else First)) ((asked, Question tx group watch seat.who node ∷ []) ∷ []) flight.value r
      → StaysIn flight.value r.me r.group → (asked ≡ group → ⊥) → FindsFlight births rows seat number mail group r slot
  Voted : (flight : Flight Command) (tx coord : Draw) (watch agreed : Bool) (by : ℕ) → FliesLone flight r → r.me ≡ seat.who
      → IsEntry births rows seat number mail group (Answers tx coord watch by) (bound_by agreed tx) ((coord, Reply tx watch agreed seat.who by ∷ []) ∷ []) flight.value r
      → bond_of r.group.core ≡ Unbound → StaysIn flight.value r.me r.group → (watch ≡ true → agreed ≡ true) → FindsFlight births rows seat number mail group r slot
  Aborted : (flight : Flight Command) (tx : Draw) (by : ℕ) → FliesLone flight r → r.me ≡ seat.who → IsEntry births rows seat number mail group (Records tx false false by) Unbound [] flight.value r
      → FindsFlight births rows seat number mail group r slot
  Decided : (flight : Flight Command) (tx asked : Draw) (turn : Turn) (by : ℕ) → FliesLone flight r → r.me ≡ seat.who
      → IsEntry births rows seat number mail group (Records tx (is_watch turn) true by) Unbound (results tx asked turn by) flight.value r → bond_of r.group.core ≡ Asking tx asked turn
      → FindsFlight births rows seat number mail group r slot
  Heard : (flight : Flight Command) (tx asked watcher : Draw) (by node : ℕ) → FliesLone flight r → r.me ≡ seat.who
      → IsEntry births rows seat number mail group (Records tx false true by) (Asking tx watcher (Next asked by)) ((watcher, Question tx group true seat.who node ∷ []) ∷ []) flight.value r
      → bond_of r.group.core ≡ Asking tx asked First → StaysIn flight.value r.me r.group → (watcher ≡ group → ⊥) × (watcher ≡ asked → ⊥) → FindsFlight births rows seat number mail group r slot
  Ended : (flight : Flight Command) (tx : Draw) → FliesLone flight r → r.me ≡ seat.who → IsEntry births rows seat number mail group (Ends tx) Unbound [] flight.value r → FindsFlight births rows seat number mail group r slot

-- What a mail has to find at the leader, by its body.
abbrev pub LeaderFinds : List (Seat Player) → Rows → Seat Player → ℕ → Mail → Draw → ReplicaState → MailBody → Type 0
LeaderFinds births rows seat number mail group r (TxPrepare tx offer) = IsUnbound r × (standing_vote r.group.core tx ≡ None)
LeaderFinds births rows seat number mail group r (TxWatch tx watch) = IsUnbound r × (standing_vote r.group.core tx ≡ None)
LeaderFinds births rows seat number mail group r (TxVote tx coord part vote) = IsUnbound r × (noted_outcome r.group.core tx ≡ None)
LeaderFinds births rows seat number mail group r (TxWatched tx coord part vote) = IsUnbound r × (noted_outcome r.group.core tx ≡ None)
LeaderFinds births rows seat number mail group r (TxOutcome tx part outcome) = IsUnbound r
LeaderFinds births rows seat number mail group r (TxElsewhere tx coord hint) = IsSentOn seat.who hint r
LeaderFinds births rows seat number mail group r (Accept named ballot slot command) = GoesOn ballot r
LeaderFinds births rows seat number mail group r (Prepare named ballot from_slot) = GoesOn ballot r
LeaderFinds births rows seat number mail group r (Nack named ballot) = GoesOn ballot r
LeaderFinds births rows seat number mail group r (Promise named ballot reports) = IsBarePromise reports r
LeaderFinds births rows seat number mail group r (Accepted named ballot slot) = FindsFlight births rows seat number mail group r slot
LeaderFinds births rows seat number mail group r (Learn named slot command) = slot < next r
LeaderFinds births rows seat number mail group r (Install named slot base sets) = slot < next r
LeaderFinds births rows seat number mail group r (Ask named slot) = Unit {0}
LeaderFinds births rows seat number mail group r (Request named client seq op) = Works (works r) [] r (mailed mail.from (Request named client seq op) (r, [])).0
LeaderFinds births rows seat number mail group r (Answer named seq answer) = Unit {0}
LeaderFinds births rows seat number mail group r (ToldMail order result) = Unit {0}

-- ---- beside it

-- What a mail has to find at a replica that does not lead, by its body.
abbrev pub BesideFinds : Mail → ReplicaState → MailBody → Type 0
BesideFinds mail r (TxPrepare tx offer) = (offer.by ≡ mail.from) × ((r.running ≡ false) × (standing_vote r.group.core tx ≡ None))
BesideFinds mail r (TxWatch tx watch) = (watch.by ≡ mail.from) × ((r.running ≡ false) × (standing_vote r.group.core tx ≡ None))
BesideFinds mail r (TxVote tx coord part vote) = Unit {0}
BesideFinds mail r (TxWatched tx coord part vote) = Unit {0}
BesideFinds mail r (TxOutcome tx part outcome) = Unit {0}
BesideFinds mail r (TxElsewhere tx coord hint) = Unit {0}
BesideFinds mail r (Accept named ballot slot command) = GoesOn ballot r
BesideFinds mail r (Prepare named ballot from_slot) = GoesOn ballot r
BesideFinds mail r (Nack named ballot) = GoesOn ballot r
BesideFinds mail r (Promise named ballot reports) = r.running ≡ false
BesideFinds mail r (Accepted named ballot slot) = r.running ≡ false
BesideFinds mail r (Learn named slot command) = IsIdle r
BesideFinds mail r (Install named slot base sets) = IsIdle r
BesideFinds mail r (Ask named slot) = Unit {0}
BesideFinds mail r (Request named client seq op) = r.running ≡ false
BesideFinds mail r (Answer named seq answer) = Unit {0}
BesideFinds mail r (ToldMail order result) = Unit {0}

-- The mail comes to the leader, or to a replica that does not lead, and finds there what it has to.
pub data FindsReplica (births : List (Seat Player)) (rows : Rows) (seat : Seat Player) (number : ℕ) (mail : Mail) (group : Draw) (r : ReplicaState) : Type 0 where
  AtLeader : LeadsAlone births rows group seat.who r → LeaderFinds births rows seat number mail group r mail.body → FindsReplica births rows seat number mail group r
  AtAnother : IsBeside births rows seat (Deliver number) group (mailed mail.from mail.body (r, [])).0 → BesideFinds mail r mail.body → FindsReplica births rows seat number mail group r

-- ---- where there is no replica

-- The state has as many sets of members as slots are open, and a replica of its group may be created at the node.
pub record IsState (births : List (Seat Player)) (rows : Rows) (seat : Seat Player) (number : ℕ) (group : Draw) (slot : ℕ) (sets : List (List ℕ)) : Type 0 where
  pub whole : IsWholeState slot sets
  pub joins : MayJoin births rows seat (Deliver number) group

-- What a mail has to find at a node without a replica of its group, by its body.
abbrev pub NodeFinds : List (Seat Player) → Rows → Seat Player → ℕ → Mail → Draw → MailBody → Type 0
NodeFinds births rows seat number mail group (TxPrepare tx offer) = offer.by ≡ mail.from
NodeFinds births rows seat number mail group (TxWatch tx watch) = watch.by ≡ mail.from
NodeFinds births rows seat number mail group (Install named slot base sets) = IsState births rows seat number group slot sets × (is_member base.core.members mail.from ≡ true)
NodeFinds births rows seat number mail group (TxVote tx coord part vote) = Unit {0}
NodeFinds births rows seat number mail group (TxWatched tx coord part vote) = Unit {0}
NodeFinds births rows seat number mail group (TxOutcome tx part outcome) = Unit {0}
NodeFinds births rows seat number mail group (TxElsewhere tx coord hint) = Unit {0}
NodeFinds births rows seat number mail group (Accept named ballot slot command) = Unit {0}
NodeFinds births rows seat number mail group (Prepare named ballot from_slot) = Unit {0}
NodeFinds births rows seat number mail group (Nack named ballot) = Unit {0}
NodeFinds births rows seat number mail group (Promise named ballot reports) = Unit {0}
NodeFinds births rows seat number mail group (Accepted named ballot slot) = Unit {0}
NodeFinds births rows seat number mail group (Learn named slot command) = Unit {0}
NodeFinds births rows seat number mail group (Ask named slot) = Unit {0}
NodeFinds births rows seat number mail group (Request named client seq op) = Unit {0}
NodeFinds births rows seat number mail group (Answer named seq answer) = Unit {0}
NodeFinds births rows seat number mail group (ToldMail order result) = Unit {0}

-- ---- orders

-- The leader is given the order, where no leader has anything in flight and all errands went to actors; or another replica refuses it.
pub data FindsQuiet (words : ℕ → ℕ → ℕ × ℕ) (births : List (Seat Player)) (rows : Rows) (seat : Seat Player) (line : OrderLine) (node : NodeState) (r : ReplicaState) : Type 0 where
  ByLeader : LeadsAlone births rows (group_of_order line.order) seat.who r → IsUnbound r → Each (GoesToActor words births) (mails rows)
      → ((name : Draw) (node : ℕ) (r : ReplicaState) → view_at births rows name node ≡ Some r → r.running ≡ true → HasNothing r) → FindsQuiet words births rows seat line node r
  ByAnother : (why : OrderRefusal) → IsBeside births rows seat (Told line) (group_of_order line.order) (ordered_row node.draws line (r, [])) → untaken node.draws line r ≡ Some why → FindsQuiet words births rows seat line node r

-- ---- any row

-- What a row has to find: a client takes no errand; no errand comes from one that may not send it; a node has its own number;
-- and a mail or an order finds what `FindsReplica`, `NodeFinds` and `FindsQuiet` say.
pub record FindsOrder (words : ℕ → ℕ → ℕ × ℕ) (births : List (Seat Player)) (rows : Rows) (seat : Seat Player) (event : Event OrderLine) : Type 0 where
  pub client : (client : ClientState) → value player_table seat rows ≡ Client client → errand_taken (mails rows) event ≡ None
  pub me_is : (node : NodeState) → value player_table seat rows ≡ Node node → node.me ≡ seat.who
  pub barred : (node : NodeState) (number : ℕ) (mail : Mail) → event ≡ Deliver number → value player_table seat rows ≡ Node node → numbered (mails rows) number ≡ Some mail → may_come mail.from mail.body ≡ false
      → errand_by mail.from mail.to mail.body ≡ None
  pub here : (number : ℕ) (mail : Mail) (group : Draw) (node : NodeState) (r : ReplicaState) → event ≡ Deliver number → IsTaking words births rows seat number mail group node → replica_of group node.replicas ≡ Some r
      → Each (MayCreate births rows seat) (mailed mail.from mail.body (r, [])).1 × FindsReplica births rows seat number mail group r
  pub missed : (number : ℕ) (mail : Mail) (group : Draw) (node : NodeState) → event ≡ Deliver number → IsTaking words births rows seat number mail group node → replica_of group node.replicas ≡ None
      → NodeFinds births rows seat number mail group mail.body
  pub told : (line : OrderLine) (node : NodeState) (r : ReplicaState) → event ≡ Told line → IsOrdered words births rows seat line node r → FindsQuiet words births rows seat line node r

-- A row that finds this leaves the stage, or leads to the next one by a step of its group.
abbrev pub FoundOrdersStep : Type 0
FoundOrdersStep =
    (words : ℕ → ℕ → ℕ × ℕ) (births : List (Seat Player)) (rows : Rows) (seat : Seat Player) (event : Event OrderLine) → IsSeat births seat → AreInTime (players words births) (with_event rows seat event)
    → FindsOrder words births rows seat event → (stage : Stage) → IsAt stage (scene_at births rows) → StageAfter births rows seat event stage

-- If some stage stands before a row that finds this, some stage stands after it.
abbrev pub FoundOrdersKeep : Type 0
FoundOrdersKeep =
    (words : ℕ → ℕ → ℕ × ℕ) (births : List (Seat Player)) (rows : Rows) (seat : Seat Player) (event : Event OrderLine) → IsSeat births seat → AreInTime (players words births) (with_event rows seat event)
    → FindsOrder words births rows seat event → IsUnderWay (scene_at births rows) → IsUnderWay (scene_at births (with_event rows seat event))

-- Some stage stands after each journal in time of a bounded scenario, each of whose rows finds this.
abbrev pub FoundOrdersGoThrough : Type 0
FoundOrdersGoThrough =
    (words : ℕ → ℕ → ℕ × ℕ) (scenario : Scenario) (journal : Rows) → IsBounded scenario → AreInTime (players words (births as_nodes scenario)) journal
    → ((rows : Rows) (seat : Seat Player) (event : Event OrderLine) → IsSeat (births as_nodes scenario) seat → AreInTime (players words (births as_nodes scenario)) (with_event rows seat event)
    → FindsOrder words (births as_nodes scenario) rows seat event) → IsUnderWay (scene_at (births as_nodes scenario) journal)
