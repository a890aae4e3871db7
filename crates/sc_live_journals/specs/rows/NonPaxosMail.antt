-- What a replica that does not lead does by mail that is no Paxos mail, and by an order.
use Rattle.std.specs.Prelude.{◌≡◌, ℕ, false, []}
use Rattle.sc_base.specs.Definitions.{Drawer}
use Rattle.sc_node_table.specs.Values.{Draw, OrderLine, MailBody}
use Rattle.sc_node_table.specs.NodeDefinitions.{ordered_row, ReplicaState, Place, next, mailed}
use Rattle.sc_live_steps.specs.following.FollowingDefinitions.{IsAside, marks_for}

-- The replica stays where it is, does not lead, takes the same node for the leader, and sends no Paxos mail of the group.
pub record IsUnmoved (name : Draw) (r : ReplicaState) (after : Place) : Type 0 where
  pub next_is : next after.0 ≡ next r
  pub promise_is : after.0.acceptor.promised ≡ r.acceptor.promised
  pub off : after.0.running ≡ false
  pub hint_is : after.0.hint ≡ r.hint
  pub silent : (who : ℕ) → marks_for name who after.1 ≡ []

-- A replica that does not lead is unmoved by each mail that is no Paxos mail, and by each order that it is given.
pub record AsidesStayStill : Type 0 where
  pub mailed : (from : ℕ) (body : MailBody) (r : ReplicaState) → r.running ≡ false → IsAside r body → (name : Draw) → IsUnmoved name r (mailed from body (r, [])).0
  pub ordered : (drawer : Drawer) (line : OrderLine) (r : ReplicaState) → r.running ≡ false → (name : Draw) → IsUnmoved name r (ordered_row drawer line (r, []))
