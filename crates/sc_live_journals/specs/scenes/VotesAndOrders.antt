-- An order stays under way where a leader counts votes for the one command that it has in flight; and an order begins where a leader is given it.
use Rattle.std.specs.Prelude.{◌≡◌, ℕ, Bool, true, false, List, [], ◌∷◌, if◌then◌else◌, Some, None}
use Rattle.sc_node_table.specs.Values.{Ballot, Draw, Command, OrderLine, OrderRefusal, Mail, Accepted, Node, Seat, Deliver, Flight}
use Rattle.sc_group_table.specs.machine.MachineDefinitions.{Group, applied}
use Rattle.sc_base.specs.Definitions.{is_member}
use Rattle.sc_actor.specs.declared.rows.Event.TheVariants.{Told}
use Rattle.sc_actor.specs.Definitions.{value}
use Rattle.sc_live_orderly.specs.OrderlyDefinitions.{AreInTime}
use Rattle.sc_node_table.specs.NodeDefinitions.{NodeState, replica_of, group_of_order, ordered_row, untaken, ReplicaState, mailed}
use Rattle.sc_meaning.specs.sound.SoundDefinitions.{Player, player_table}
use Rattle.sc_live_steps.specs.calm.CalmDefinitions.{players, Rows}
use Rattle.sc_live_steps.specs.orders.OrderDefinitions.{Turn, First, Lone, Next, is_watch, Bond, Unbound, Asking, Errand, Question, Reply, Work, Opens, Answers, Records, Ends, bound_by, IsOrder, IsAt, Still, results, work_by, bond_of, EntryLeaves, FliesLone, MayFile}
use Rattle.sc_live_journals.specs.rows.RowDefinitions.{IsSeat, with_event}
use Rattle.sc_live_journals.specs.scenes.JournalScenes.{scene_at}
use Rattle.sc_live_journals.specs.scenes.SceneRows.{NewestAreBound, LeadsAlone}
use Rattle.sc_live_journals.specs.scenes.OrderRows.{StageAfter, KeepsStage, ComesToLeader, IsBeside}

-- A vote comes to the leader of a group, which has one command in flight, alone.
pub record IsCounting (words : ℕ → ℕ → ℕ × ℕ) (births : List (Seat Player)) (rows : Rows) (seat : Seat Player) (number : ℕ) (mail : Mail) (group : Draw) (flight : Flight Command) (r : ReplicaState) : Type 0 where
  pub comes : ComesToLeader words births rows seat number mail group r
  pub named : Draw
  pub ballot : Ballot
  pub slot : ℕ
  pub body : mail.body ≡ Accepted named ballot slot
  pub flies : FliesLone flight r
  pub me_is : r.me ≡ seat.who

-- The command is this work; after it the group has this bond, and its leader sends these errands. If the leader stops by it, the group's newest states have this bond.
pub record IsEntry (births : List (Seat Player)) (rows : Rows) (seat : Seat Player) (number : ℕ) (mail : Mail) (group : Draw) (work : Work) (bond : Bond) (sent : List (Draw × List Errand)) (command : Command) (r : ReplicaState) : Type 0 where
  pub work_is : work_by command ≡ Some work
  pub leaves : EntryLeaves bond sent command seat.who r.group
  pub newest : (mailed mail.from mail.body (r, [])).0.0.running ≡ false → NewestAreBound births (with_event rows seat (Deliver number)) group bond

-- After the command the group stands, and this node is a member.
pub record StaysIn (command : Command) (me : ℕ) (group : Group) : Type 0 where
  pub stands : (applied group command).0.core.gone ≡ None
  pub mine : is_member (applied group command).0.core.members me ≡ true

-- A vote keeps an order under way, whatever the command in flight is: an order that begins no transaction, or one that does; a vote of the group;
-- a No or a Yes that the coordinator records; or an outcome.
pub record VotesKeep : Type 0 where
  pub changed : (words : ℕ → ℕ → ℕ × ℕ) (births : List (Seat Player)) (rows : Rows) (seat : Seat Player) (number : ℕ) (mail : Mail) (group : Draw) (flight : Flight Command) (r : ReplicaState) (order : Work)
      → IsCounting words births rows seat number mail group flight r → IsEntry births rows seat number mail group order (bond_of r.group.core) [] flight.value r → IsOrder order → KeepsStage births rows seat (Deliver number)
  pub opened : (words : ℕ → ℕ → ℕ × ℕ) (births : List (Seat Player)) (rows : Rows) (seat : Seat Player) (number : ℕ) (mail : Mail) (group : Draw) (flight : Flight Command) (r : ReplicaState) (tx asked : Draw) (watch : Bool) (node : ℕ)
      → IsCounting words births rows seat number mail group flight r
      → IsEntry births rows seat number mail group (Opens tx) (Asking tx asked (if watch then Lone else First)) ((asked, Question tx group watch seat.who node ∷ []) ∷ []) flight.value r
      → StaysIn flight.value r.me r.group → (asked ≡ group → ⊥) → KeepsStage births rows seat (Deliver number)
  pub voted : (words : ℕ → ℕ → ℕ × ℕ) (births : List (Seat Player)) (rows : Rows) (seat : Seat Player) (number : ℕ) (mail : Mail) (group : Draw) (flight : Flight Command) (r : ReplicaState) (tx coord : Draw) (watch agreed : Bool) (by : ℕ)
      → IsCounting words births rows seat number mail group flight r
      → IsEntry births rows seat number mail group (Answers tx coord watch by) (bound_by agreed tx) ((coord, Reply tx watch agreed seat.who by ∷ []) ∷ []) flight.value r
      → bond_of r.group.core ≡ Unbound → StaysIn flight.value r.me r.group → (watch ≡ true → agreed ≡ true) → KeepsStage births rows seat (Deliver number)
  pub aborted : (words : ℕ → ℕ → ℕ × ℕ) (births : List (Seat Player)) (rows : Rows) (seat : Seat Player) (number : ℕ) (mail : Mail) (group : Draw) (flight : Flight Command) (r : ReplicaState) (tx : Draw) (by : ℕ)
      → IsCounting words births rows seat number mail group flight r → IsEntry births rows seat number mail group (Records tx false false by) Unbound [] flight.value r → KeepsStage births rows seat (Deliver number)
  pub decided : (words : ℕ → ℕ → ℕ × ℕ) (births : List (Seat Player)) (rows : Rows) (seat : Seat Player) (number : ℕ) (mail : Mail) (group : Draw) (flight : Flight Command) (r : ReplicaState) (tx asked : Draw) (turn : Turn) (by : ℕ)
      → IsCounting words births rows seat number mail group flight r → IsEntry births rows seat number mail group (Records tx (is_watch turn) true by) Unbound (results tx asked turn by) flight.value r
      → bond_of r.group.core ≡ Asking tx asked turn → KeepsStage births rows seat (Deliver number)
  pub heard : (words : ℕ → ℕ → ℕ × ℕ) (births : List (Seat Player)) (rows : Rows) (seat : Seat Player) (number : ℕ) (mail : Mail) (group : Draw) (flight : Flight Command) (r : ReplicaState) (tx asked watcher : Draw) (by node : ℕ)
      → IsCounting words births rows seat number mail group flight r
      → IsEntry births rows seat number mail group (Records tx false true by) (Asking tx watcher (Next asked by)) ((watcher, Question tx group true seat.who node ∷ []) ∷ []) flight.value r
      → bond_of r.group.core ≡ Asking tx asked First → StaysIn flight.value r.me r.group → (watcher ≡ group → ⊥) × (watcher ≡ asked → ⊥) → KeepsStage births rows seat (Deliver number)
  pub ended : (words : ℕ → ℕ → ℕ × ℕ) (births : List (Seat Player)) (rows : Rows) (seat : Seat Player) (number : ℕ) (mail : Mail) (group : Draw) (flight : Flight Command) (r : ReplicaState) (tx : Draw)
      → IsCounting words births rows seat number mail group flight r → IsEntry births rows seat number mail group (Ends tx) Unbound [] flight.value r → KeepsStage births rows seat (Deliver number)

-- A node is given an order for a group of which it has a replica, in time.
pub record IsOrdered (words : ℕ → ℕ → ℕ × ℕ) (births : List (Seat Player)) (rows : Rows) (seat : Seat Player) (line : OrderLine) (node : NodeState) (r : ReplicaState) : Type 0 where
  pub seated : IsSeat births seat
  pub timely : AreInTime (players words births) (with_event rows seat (Told line))
  pub is_node : value player_table seat rows ≡ Node node
  pub here : replica_of (group_of_order line.order) node.replicas ≡ Some r

-- Where nothing is under way, an order that the leader is given begins or is refused; an order that another replica refuses changes nothing.
pub record OrdersKeep : Type 0 where
  pub led : (words : ℕ → ℕ → ℕ × ℕ) (births : List (Seat Player)) (rows : Rows) (seat : Seat Player) (line : OrderLine) (node : NodeState) (r : ReplicaState) → IsOrdered words births rows seat line node r
      → LeadsAlone births rows (group_of_order line.order) seat.who r → MayFile r → IsAt Still (scene_at births rows) → StageAfter births rows seat (Told line) Still
  pub beside : (words : ℕ → ℕ → ℕ × ℕ) (births : List (Seat Player)) (rows : Rows) (seat : Seat Player) (line : OrderLine) (node : NodeState) (r : ReplicaState) (why : OrderRefusal) → IsOrdered words births rows seat line node r
      → IsBeside births rows seat (Told line) (group_of_order line.order) (ordered_row node.draws line (r, [])) → untaken node.draws line r ≡ Some why → KeepsStage births rows seat (Told line)
