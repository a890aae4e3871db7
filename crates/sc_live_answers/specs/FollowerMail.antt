-- What a mail finds at a replica that does not lead.
use Rattle.std.specs.Prelude.{List, None, Some, [], false, true, ℕ, ◌≡◌}
use Rattle.sc_node_table.specs.Values.{Seat, Deliver, Base, OrderLine, OrderRefusal, Mail, MailBody, Accept, Accepted, Answer, Ask, Install, Learn, Nack, Prepare, Promise, Request, TxElsewhere, TxOutcome, TxPrepare, TxVote, TxWatch, TxWatched, Told as ToldMail}
use Rattle.sc_actor.specs.declared.rows.Event.TheVariants.{Told}
use Rattle.sc_live_answers.specs.GuidedGroups.{IsGuided}
use Rattle.sc_live_steps.specs.calm.CalmDefinitions.{Rows}
use Rattle.sc_live_journals.specs.mail.MailDefinitions.{IsPosted}
use Rattle.sc_live_steps.specs.orders.OrderDefinitions.{IsIdle}
use Rattle.sc_live_journals.specs.scenes.SceneDefinitions.{IsOrdered, BesideFinds, IsBeside, IsTaking}
use Rattle.sc_node_table.specs.NodeDefinitions.{NodeState, group_of_order, replica_of, ordered_row, untaken, ReplicaState, settled, mailed, noted_outcome, standing_vote}
use Rattle.sc_meaning.specs.sound.SoundDefinitions.{Player}

-- a node takes a mail of a group of which it has a replica: the group is guided at this row, the replica is the node's own, and where it does not run it has nothing to do
pub record IsHere (words : ℕ → ℕ → ℕ × ℕ) (births : List (Seat Player)) (rows : Rows) (seat : Seat Player) (number : ℕ) (mail : Mail) (base : Base) (node : NodeState) (r : ReplicaState) : Type 0 where
  pub guided : IsGuided words births rows seat (Deliver number) base
  pub taking : IsTaking words births rows seat number mail base.core.id node
  pub here : replica_of base.core.id node.replicas ≡ Some r
  pub me_is : r.me ≡ seat.who
  pub idle : r.running ≡ false → IsIdle r

-- what a mail of a transaction finds at a replica: a question, that the group has cast no vote on it; a vote, that no outcome of the transaction is noted; and a mail that sends a leader elsewhere names a node, and the leader has its promises
abbrev pub IsUnsettled : ReplicaState → MailBody → Type 0
IsUnsettled r (TxPrepare tx offer) = standing_vote r.group.core tx ≡ None
IsUnsettled r (TxWatch tx watch) = standing_vote r.group.core tx ≡ None
IsUnsettled r (TxVote tx coord part vote) = noted_outcome r.group.core tx ≡ None
IsUnsettled r (TxWatched tx coord part vote) = noted_outcome r.group.core tx ≡ None
IsUnsettled r (TxElsewhere tx coord hint) = r.running ≡ true → (to : ℕ) × (hint ≡ Some to) × (settled r ≡ true)
IsUnsettled r (TxOutcome tx part outcome) = Unit {0}
IsUnsettled r (Accept named ballot slot command) = Unit {0}
IsUnsettled r (Prepare named ballot from_slot) = Unit {0}
IsUnsettled r (Nack named ballot) = Unit {0}
IsUnsettled r (Promise named ballot reports) = Unit {0}
IsUnsettled r (Accepted named ballot slot) = Unit {0}
IsUnsettled r (Learn named slot command) = Unit {0}
IsUnsettled r (Install named slot base sets) = Unit {0}
IsUnsettled r (Ask named slot) = Unit {0}
IsUnsettled r (Request named client seq op) = Unit {0}
IsUnsettled r (Answer named seq answer) = Unit {0}
IsUnsettled r (ToldMail order result) = Unit {0}

-- a mail to a replica that does not run finds what an order needs: either another replica leads alone, and this one does not run after the row; or none runs, the newest state stays bound as it was, and a replica that elects itself has no work of the order
pub record BesidesAreFound : Type 0 where
  pub beside : (words : ℕ → ℕ → ℕ × ℕ) (births : List (Seat Player)) (rows : Rows) (seat : Seat Player) (number : ℕ) (mail : Mail) (base : Base) (node : NodeState) (r : ReplicaState) → IsHere words births rows seat number mail base node r
      → r.running ≡ false → IsBeside births rows seat (Deliver number) base.core.id (mailed mail.from mail.body (r, [])).0
  pub finds : (words : ℕ → ℕ → ℕ × ℕ) (births : List (Seat Player)) (rows : Rows) (seat : Seat Player) (number : ℕ) (mail : Mail) (base : Base) (node : NodeState) (r : ReplicaState) → IsHere words births rows seat number mail base node r
      → r.running ≡ false → IsPosted births mail → IsUnsettled r mail.body → BesideFinds mail r mail.body
  -- an order given to a replica that does not run is refused; either another replica leads alone, or none runs and the newest state stays bound as it was
  pub told : (words : ℕ → ℕ → ℕ × ℕ) (births : List (Seat Player)) (rows : Rows) (seat : Seat Player) (line : OrderLine) (node : NodeState) (base : Base) (r : ReplicaState) → IsGuided words births rows seat (Told line) base
      → IsOrdered words births rows seat line node r → base.core.id ≡ group_of_order line.order → r.running ≡ false
      → IsBeside births rows seat (Told line) (group_of_order line.order) (ordered_row node.draws line (r, [])) × ((why : OrderRefusal) × (untaken node.draws line r ≡ Some why))
