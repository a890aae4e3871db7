-- Who takes a mail or an order: the row is one of its group, and the replica there does what its table says.
use Rattle.std.specs.Prelude.{◌≡◌, ℕ, ◌==◌, true, false, List, [], Some, None, ◌⊎◌}
use Rattle.sc_base.specs.Definitions.{Each}
use Rattle.sc_node_table.specs.Values.{Draw, Base, Free, OrderLine, Mail, Node, Seat, Deliver}
use Rattle.sc_actor.specs.declared.rows.Event.TheVariants.{Told}
use Rattle.sc_actor.specs.Definitions.{mails, numbered, value, row_of}
use Rattle.sc_live_orderly.specs.OrderlyDefinitions.{AreInTime}
use Rattle.sc_node_table.specs.NodeDefinitions.{NodeState, replica_of, group_of_mail, may_come, absent, group_of_order, ordered_row, ReplicaState, mailed}
use Rattle.sc_meaning.specs.sound.SoundDefinitions.{Player, player_table}
use Rattle.sc_live_steps.specs.calm.CalmDefinitions.{players, Rows}
use Rattle.sc_live_steps.specs.orders.OrderDefinitions.{Unbound, Errand, errand_by}
use Rattle.sc_live_journals.specs.rows.RowDefinitions.{view_at, IsSeat, with_event}
use Rattle.sc_live_journals.specs.scenes.JournalScenes.{scene_at}
use Rattle.sc_live_journals.specs.scenes.SceneRows.{NewestAreBound, IsOfGroup, IsTablesRow}

-- What is needed of a child that a row creates at a seat: it is free, the newest states of its group, if any, are bound by nothing,
-- and its first leader is another node, or no replica of it leads yet.
pub record MayCreate (births : List (Seat Player)) (rows : Rows) (seat : Seat Player) (child : Base) : Type 0 where
  pub free : child.core.lock ≡ Free
  pub newest : NewestAreBound births rows child.core.id Unbound
  pub first : ((child.core.first == seat.who) ≡ false) ⊎ ((scene_at births rows).lead child.core.id ≡ None)

-- The node at this seat takes a mail of this group in time, from one that may send it.
pub record IsTaking (words : ℕ → ℕ → ℕ × ℕ) (births : List (Seat Player)) (rows : Rows) (seat : Seat Player) (number : ℕ) (mail : Mail) (group : Draw) (node : NodeState) : Type 0 where
  pub seated : IsSeat births seat
  pub timely : AreInTime (players words births) (with_event rows seat (Deliver number))
  pub is_node : value player_table seat rows ≡ Node node
  pub me_is : node.me ≡ seat.who
  pub sent : numbered (mails rows) number ≡ Some mail
  pub comes : may_come mail.from mail.body ≡ true
  pub named : group_of_mail mail.body ≡ Some group

-- The row of such a mail, or of an order, is one of its group, and the replica there does what its table says.
-- Where the node has no replica and the mail is an errand, it answers as a node without one.
pub record RowsAreTaken : Type 0 where
  pub taken : (words : ℕ → ℕ → ℕ × ℕ) (births : List (Seat Player)) (rows : Rows) (seat : Seat Player) (number : ℕ) (mail : Mail) (group : Draw) (node : NodeState) (r : ReplicaState)
      → IsTaking words births rows seat number mail group node → replica_of group node.replicas ≡ Some r → Each (MayCreate births rows seat) (mailed mail.from mail.body (r, [])).1
      → IsOfGroup words births rows seat (Deliver number) group × IsTablesRow births rows seat (Deliver number) group r (mailed mail.from mail.body (r, [])).0
  pub missed : (words : ℕ → ℕ → ℕ × ℕ) (births : List (Seat Player)) (rows : Rows) (seat : Seat Player) (number : ℕ) (mail : Mail) (group : Draw) (node : NodeState) (entry : Draw × Errand)
      → IsTaking words births rows seat number mail group node → replica_of group node.replicas ≡ None → errand_by mail.from mail.to mail.body ≡ Some entry
      → IsOfGroup words births rows seat (Deliver number) group
      × (view_at births (with_event rows seat (Deliver number)) group seat.who ≡ view_at births rows group seat.who)
      × ((row_of player_table seat rows (Deliver number)).sent ≡ absent node.me mail.from mail.body)
  pub ordered : (words : ℕ → ℕ → ℕ × ℕ) (births : List (Seat Player)) (rows : Rows) (seat : Seat Player) (line : OrderLine) (node : NodeState) (r : ReplicaState)
      → IsSeat births seat → AreInTime (players words births) (with_event rows seat (Told line)) → value player_table seat rows ≡ Node node → replica_of (group_of_order line.order) node.replicas ≡ Some r
      → IsOfGroup words births rows seat (Told line) (group_of_order line.order) × IsTablesRow births rows seat (Told line) (group_of_order line.order) r (ordered_row node.draws line (r, []))
