-- Rows that are nothing to any order: those of clients, `Go` at nodes, and mail at nodes that is for no group or that they do not take.
use Rattle.std.specs.Prelude.{◌≡◌, ℕ, false, List, Some, None}
use Rattle.sc_node_table.specs.Values.{OrderLine, Draw, Mail, Node, Client, Seat, Event, Deliver, Go}
use Rattle.sc_actor.specs.declared.rows.Event.TheVariants.{Told}
use Rattle.sc_actor.specs.Definitions.{mails, numbered, value}
use Rattle.sc_client_table.specs.table.TableDefinitions.{Client as ClientState}
use Rattle.sc_live_orderly.specs.OrderlyDefinitions.{AreInTime}
use Rattle.sc_node_table.specs.NodeDefinitions.{NodeState, replica_of, group_of_mail, may_come, absent, unknown, group_of_order}
use Rattle.sc_meaning.specs.sound.SoundDefinitions.{Player, player_table}
use Rattle.sc_live_steps.specs.calm.CalmDefinitions.{players, Rows}
use Rattle.sc_live_steps.specs.orders.OrderDefinitions.{errand_by}
use Rattle.sc_live_journals.specs.rows.RowDefinitions.{IsSeat, with_event}
use Rattle.sc_live_journals.specs.scenes.JournalScenes.{errand_taken}
use Rattle.sc_live_journals.specs.scenes.OrderRows.{KeepsStage, ComesToNone}

-- Which rows keep an order at its stage: a client's, if it takes no errand; a node's `Go`; a node's mail of no group, mail that may not come from its sender,
-- mail at a node without a replica of its group that is no errand and creates none; and an order for a group of which the node has no replica.
pub record OthersKeep : Type 0 where
  pub client : (words : ℕ → ℕ → ℕ × ℕ) (births : List (Seat Player)) (rows : Rows) (seat : Seat Player) (event : Event OrderLine) (client : ClientState) → IsSeat births seat → AreInTime (players words births) (with_event rows seat event)
      → value player_table seat rows ≡ Client client → errand_taken (mails rows) event ≡ None → KeepsStage births rows seat event
  pub go : (words : ℕ → ℕ → ℕ × ℕ) (births : List (Seat Player)) (rows : Rows) (seat : Seat Player) (node : NodeState) → IsSeat births seat → AreInTime (players words births) (with_event rows seat Go)
      → value player_table seat rows ≡ Node node → KeepsStage births rows seat Go
  pub stray : (words : ℕ → ℕ → ℕ × ℕ) (births : List (Seat Player)) (rows : Rows) (seat : Seat Player) (number : ℕ) (mail : Mail) (node : NodeState) → IsSeat births seat → AreInTime (players words births) (with_event rows seat (Deliver number))
      → value player_table seat rows ≡ Node node → numbered (mails rows) number ≡ Some mail → group_of_mail mail.body ≡ None → KeepsStage births rows seat (Deliver number)
  pub barred : (words : ℕ → ℕ → ℕ × ℕ) (births : List (Seat Player)) (rows : Rows) (seat : Seat Player) (number : ℕ) (mail : Mail) (node : NodeState) → IsSeat births seat → AreInTime (players words births) (with_event rows seat (Deliver number))
      → value player_table seat rows ≡ Node node → numbered (mails rows) number ≡ Some mail → may_come mail.from mail.body ≡ false → errand_by mail.from mail.to mail.body ≡ None → KeepsStage births rows seat (Deliver number)
  pub missed : (words : ℕ → ℕ → ℕ × ℕ) (births : List (Seat Player)) (rows : Rows) (seat : Seat Player) (number : ℕ) (mail : Mail) (group : Draw) (c : ComesToNone words births rows seat number mail group)
      → errand_by mail.from mail.to mail.body ≡ None → unknown mail.from mail.body c.node ≡ (c.node, absent c.node.me mail.from mail.body) → KeepsStage births rows seat (Deliver number)
  pub refused : (words : ℕ → ℕ → ℕ × ℕ) (births : List (Seat Player)) (rows : Rows) (seat : Seat Player) (line : OrderLine) (node : NodeState) → IsSeat births seat → AreInTime (players words births) (with_event rows seat (Told line))
      → value player_table seat rows ≡ Node node → replica_of (group_of_order line.order) node.replicas ≡ None → KeepsStage births rows seat (Told line)
