-- What each row of a calm journal has to find, so that a delivery lowers what is owed and an order raises it by a bounded amount.
use Rattle.std.specs.Prelude.{◌≡◌, ℕ, ◌+◌, ◌*◌, ◌≤◌, ◌==◌, true, false, List, [], ◌∷◌, ◌++◌, find, Option, Some, None, ◌⊎◌}
use Rattle.sc_base.specs.Definitions.{Each}
use Rattle.sc_node_table.specs.Values.{Draw, Command, Base, OrderLine, Mail, MailBody, Request, Answer, Prepare, Promise, Accept, Accepted, Nack, Learn, Ask, Install, TxPrepare, TxVote, TxOutcome, TxElsewhere, TxWatch, TxWatched, Told as ToldMail, Node, Client, Seat, Event, Deliver, Tick, Go, Crash, Drop, Again, Row, Line, Flight}
use Rattle.sc_actor.specs.declared.rows.Event.TheVariants.{Told}
use Rattle.sc_actor.specs.Definitions.{mails, numbered, value, System, are_apart, row_of, IsLawful, is_quiet}
use Rattle.sc_live_orderly.specs.OrderlyDefinitions.{deliveries, under_way, AreInTime, IsMeasure}
use Rattle.sc_node_table.specs.NodeDefinitions.{NodeState, replica_of, group_of_mail, may_come, group_of_order, ReplicaState, name_of, next}
use Rattle.sc_law_walks.specs.WalkDefinitions.{GoesOn}
use Rattle.sc_meaning.specs.sound.SoundDefinitions.{Player, player_table}
use Rattle.sc_live_steps.specs.calm.ChartedPotential.{players, Chart, run_owes, MayFollow}
use Rattle.sc_live_steps.specs.calm.HarmlessEntries.{AreBounded, ServesAll, FliesAlone}
use Rattle.sc_live_steps.specs.calm.PotentialLaws.{Lowers, MayPump, Follows, Points, AsksAs}
use Rattle.sc_live_steps.specs.calm.LedReplicas.{LearnsLed}
use Rattle.sc_live_steps.specs.calm.NodePotential.{group_owes, IsTaken, after_mail, IsDelivered, MayMiss}
use Rattle.sc_live_steps.specs.calm.CalmPotential.{Ways}
use Rattle.sc_live_steps.specs.calm.PartyPotential.{Elsewhere, StandsOnce, IsCalmOrder}
use Rattle.sc_live_steps.specs.calm.ClientReach.{IsUnbegun, HearsCalmly}
use Rattle.sc_live_steps.specs.calm.UntakenMail.{IsMadeBehind}
use Rattle.sc_live_steps.specs.calm.Totals.{Rows, led_elsewhere}

-- The replica may take a vote: it does not lead, or calls alone are in flight or ready at it, or one paid command alone is in flight.
abbrev pub MayCount : ℕ → ReplicaState → Type 0
MayCount slot r = (r.running ≡ false) ⊎ (ServesAll r ⊎ ((flight : Flight Command) × FliesAlone slot flight r))

-- The replica may learn this entry: it is one that it has executed, or the replica follows (`Follows`) and the entry is its next one at most.
abbrev pub MayLearn : ℕ → Command → ReplicaState → Type 0
MayLearn slot command r = (slot + 1 ≤ next r) ⊎ (Follows command r × (slot ≤ next r))

-- A coordinator that has to ask elsewhere is sent to a node, and what it asks there is what the chart says.
abbrev pub MayAskThere : Ways → Draw → ReplicaState → Option ℕ → Type 0
MayAskThere ways tx r None = ⊥
MayAskThere ways tx r (Some node) = AsksAs ways tx node r

-- What has to hold of a replica that takes a mail, by the mail's body.
abbrev pub MayTake : Ways → ReplicaState → MailBody → Type 0
MayTake ways r (Request group client seq op) = (name_of r ≡ group) × MayPump r × Points ways group r
MayTake ways r (Prepare group ballot from_slot) = GoesOn ballot r
MayTake ways r (Promise group ballot reports) = (reports ≡ []) × MayPump r
MayTake ways r (Accept group ballot slot command) = GoesOn ballot r
MayTake ways r (Accepted group ballot slot) = MayCount slot r
MayTake ways r (Nack group promised) = GoesOn promised r
MayTake ways r (Learn group slot command) = MayLearn slot command r
MayTake ways r (Install group slot base sets) = (r.running ≡ false) × (r.group.core.gone ≡ None)
MayTake ways r (TxPrepare tx offer) = MayPump r × Points ways offer.part r × (ways.asked_group tx ≡ Some (offer.part, false))
MayTake ways r (TxVote tx coord part vote) = MayPump r
MayTake ways r (TxOutcome tx part outcome) = MayPump r
MayTake ways r (TxElsewhere tx coord hint) = MayAskThere ways tx r hint
MayTake ways r (TxWatch tx watch) = MayPump r × Points ways watch.part r × (ways.asked_group tx ≡ Some (watch.part, true))
MayTake ways r (TxWatched tx coord part vote) = MayPump r
MayTake ways r (Answer group seq answer) = ⊥
MayTake ways r (Ask group from_slot) = ⊥
MayTake ways r (ToldMail order result) = ⊥

-- A mail of which `MayTake` holds lowers what is owed at the replica by at least one.
abbrev pub TakenMailLowers : Type 0
TakenMailLowers = (ways : Ways) (from : ℕ) (body : MailBody) (r : ReplicaState) → AreBounded ways → MayTake ways r body → Lowers ways from body (r, [])

-- The replica of this node takes the mail, and is of the same group after it.
pub record StaysIn (from : ℕ) (group : Draw) (body : MailBody) (r : ReplicaState) (node : NodeState) : Type 0 where
  pub taken : IsTaken from group body r node
  pub here : r.me ≡ node.me
  pub same : name_of (after_mail from body r).0 ≡ group

-- The replica takes the mail with what `MayTake` asks, and stays of the same group. If another replica of the group leads or is gone, this one neither begins to lead nor goes.
pub record TakesCalmly (ways : Ways) (elsewhere : Elsewhere) (from : ℕ) (group : Draw) (body : MailBody) (r : ReplicaState) (node : NodeState) : Type 0 where
  pub stays : StaysIn from group body r node
  pub may : MayTake ways r body
  pub alone : elsewhere group ≡ true → group_owes r ≤ group_owes (after_mail from body r).0

-- Another replica of the group leads or is gone, and this one learns an entry by which it does not become leader; its group may be gone by the entry.
pub record LearnsCalmly (elsewhere : Elsewhere) (from : ℕ) (group : Draw) (body : MailBody) (r : ReplicaState) (node : NodeState) : Type 0 where
  pub stays : StaysIn from group body r node
  pub led : elsewhere group ≡ true
  pub slot : ℕ
  pub command : Command
  pub body_is : body ≡ Learn group slot command
  pub learns : LearnsLed slot command r

-- The node has no replica of the group, which has begun, and creates one from the state in the mail.
pub record MakesCalmly (groups : List Draw) (elsewhere : Elsewhere) (from : ℕ) (group : Draw) (body : MailBody) (node : NodeState) : Type 0 where
  pub once : StandsOnce group groups
  pub none : replica_of group node.replicas ≡ None
  pub slot : ℕ
  pub base : Base
  pub sets : List (List ℕ)
  pub body_is : body ≡ Install group slot base sets
  pub behind : IsMadeBehind elsewhere from group slot base sets node

-- The node has no replica of the mail's group, and less is owed after it took the mail.
pub record MissesCalmly (group : Draw) (body : MailBody) (node : NodeState) : Type 0 where
  pub named : group_of_mail body ≡ Some group
  pub none : replica_of group node.replicas ≡ None
  pub may : MayMiss body

-- A mail that may be delivered to a node: its replica takes it, or learns an entry by it; or the node creates a replica by it, or has none;
-- or the mail is for no group, or comes from one that may not send it.
pub data IsCalmMailAt (ways : Ways) (groups : List Draw) (elsewhere : Elsewhere) (from : ℕ) (body : MailBody) (node : NodeState) : Type 0 where
  Takes : (group : Draw) (r : ReplicaState) (once : StandsOnce group groups) (fact : TakesCalmly ways elsewhere from group body r node) → IsCalmMailAt ways groups elsewhere from body node
  Learns : (group : Draw) (r : ReplicaState) (fact : LearnsCalmly elsewhere from group body r node) → IsCalmMailAt ways groups elsewhere from body node
  Makes : (group : Draw) (fact : MakesCalmly groups elsewhere from group body node) → IsCalmMailAt ways groups elsewhere from body node
  Misses : (group : Draw) (fact : MissesCalmly group body node) → IsCalmMailAt ways groups elsewhere from body node
  Strays : (delivered : IsDelivered body) (none : group_of_mail body ≡ None) → IsCalmMailAt ways groups elsewhere from body node
  IsBarred : (delivered : IsDelivered body) (barred : may_come from body ≡ false) → IsCalmMailAt ways groups elsewhere from body node

-- A mail that may be delivered to this player.
abbrev pub IsCalmFor : Chart → Elsewhere → Mail → Player → Type 0
IsCalmFor chart elsewhere mail (Node node) = (mail.to ≡ node.me) × IsCalmMailAt chart.ways chart.groups elsewhere mail.from mail.body node
IsCalmFor chart elsewhere mail (Client client) = HearsCalmly chart.ways chart.reach mail.from mail.body client

-- A player that may be started: a node, or a client that has not begun.
abbrev pub MayGoNow : Chart → Player → Type 0
MayGoNow chart (Node node) = Unit {0}
MayGoNow chart (Client client) = IsUnbegun chart.reach client

-- A player that may be given an order: a client; a node without a replica of the order's group;
-- or a node with one that may pump, of a group that has begun.
abbrev pub MayBeOrdered : Chart → Elsewhere → OrderLine → Player → Type 0
MayBeOrdered chart elsewhere line (Node node) =
    (replica_of (group_of_order line.order) node.replicas ≡ None) ⊎ ((r : ReplicaState) × StandsOnce (group_of_order line.order) chart.groups × IsCalmOrder elsewhere line r node)
MayBeOrdered chart elsewhere line (Client client) = Unit {0}

-- What an event of a player has to find after these rows. No condition is set on a tick, a crash, a loss or a repeat, since none comes in a calm journal.
abbrev pub FindsCalm : Chart → List (Seat Player) → Rows → Seat Player → Event OrderLine → Type 0
FindsCalm chart births rows seat (Deliver number) = (mail : Mail) → numbered (mails rows) number ≡ Some mail → IsCalmFor chart (led_elsewhere births rows seat.who) mail (value player_table seat rows)
FindsCalm chart births rows seat Go = MayGoNow chart (value player_table seat rows)
FindsCalm chart births rows seat (Told line) = MayBeOrdered chart (led_elsewhere births rows seat.who) line (value player_table seat rows)
FindsCalm chart births rows seat Tick = Unit {0}
FindsCalm chart births rows seat Crash = Unit {0}
FindsCalm chart births rows seat (Drop mail) = Unit {0}
FindsCalm chart births rows seat (Again mail) = Unit {0}

-- The row finds what it needs by the chart of the rows before it, and the chart after the row may follow that one.
pub record KeepsCalm (s : System Player Mail OrderLine) (charts : Rows → Chart) (rows : Rows) (row : Row Mail OrderLine) : Type 0 where
  pub bounded : AreBounded (charts rows).ways
  pub finds : (seat : Seat Player) (event : Event OrderLine) → find (λ other. other.who == seat.who) s.births ≡ Some seat → row ≡ row_of player_table seat rows event → FindsCalm (charts rows) s.births rows seat event
  pub follows : MayFollow s (rows ++ row ∷ []) (charts rows) (charts (rows ++ row ∷ []))

-- Each row of a lawful journal in time, with at most `most` deliveries before it, finds what it needs; and no mail under way to a player has a body that is only for the desk.
pub record KeepCalm (s : System Player Mail OrderLine) (lines : List (Line OrderLine)) (charts : Rows → Chart) (most : ℕ) : Type 0 where
  pub keeps : (rows : Rows) (row : Row Mail OrderLine) → IsLawful s lines (rows ++ row ∷ []) → AreInTime s (rows ++ row ∷ []) → deliveries rows ≤ most → KeepsCalm s charts rows row
  pub delivered : (rows : Rows) → IsLawful s lines rows → AreInTime s rows → deliveries rows ≤ most → Each (λ mail. IsDelivered mail.body) (under_way s rows)

-- Then what is owed is a measure (`IsMeasure`), if at most `still` is owed in quiet journals; an order raises it by at most 242 and four times the bound of ways.
abbrev pub KeptCalmIsMeasured : Type 0
KeptCalmIsMeasured =
    (words : ℕ → ℕ → ℕ × ℕ) (births : List (Seat Player)) (lines : List (Line OrderLine)) (charts : Rows → Chart) (most still : ℕ) → are_apart births ≡ true → KeepCalm (players words births) lines charts most
    → ((rows : Rows) → IsLawful (players words births) lines rows → AreInTime (players words births) rows → deliveries rows ≤ most → is_quiet (players words births) rows ≡ true → run_owes (charts rows) (players words births) rows ≤ still)
    → IsMeasure (players words births) lines most (λ rows. run_owes (charts rows) (players words births) rows) still (242 + 4 * (charts []).ways.most)
