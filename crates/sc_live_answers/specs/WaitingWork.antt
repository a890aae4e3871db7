-- What waits at groups in each prefix while an order is under way, from the order on.
use Rattle.std.specs.Prelude.{◌≡◌, ℕ, ◌≤◌, true, false, List, [], Some}
use Rattle.std.specs.List.{list_any}
use Rattle.sc_base.specs.Definitions.{same_draw, Each}
use Rattle.sc_node_table.specs.Values.{Draw, Op, OrderLine, AnswerBody, Mail, Request, Answer, Seat, Deliver}
use Rattle.sc_actor.specs.Definitions.{mails, numbered, is_quiet}
use Rattle.sc_actor.specs.declared.rows.Event.TheVariants.{Told}
use Rattle.sc_live_orderly.specs.OrderlyDefinitions.{is_born, rest, AreInTime}
use Rattle.sc_scenario.specs.scenario.Definitions.{IsValid}
use Rattle.sc_scenario.specs.declared.scenario.scenarios.Scenario.{Scenario}
use Rattle.sc_node_table.specs.NodeDefinitions.{NodeState, replica_of, group_of_order, ReplicaState, next, last_slot, mailed}
use Rattle.sc_meaning.specs.sound.SoundDefinitions.{Player, births, as_nodes, Lawful}
use Rattle.sc_live_steps.specs.calm.CalmDefinitions.{players, IsAtRest, Rows}
use Rattle.sc_live_journals.specs.rows.RowDefinitions.{view_at, IsSeat, with_event}
use Rattle.sc_live_journals.specs.scenes.SceneDefinitions.{IsThere, IsNowhere, IsTaking}
use Rattle.sc_live_answers.specs.GuidedGroups.{IsNamedGuide, WaitsForFlights}
use Rattle.sc_live_answers.specs.OrderRowPremises.{MeetsOrder}
use Rattle.sc_live_answers.specs.LeaderVotes.{IsOrdersAlone}
use Rattle.sc_live_answers.specs.OrderTasks.{Task, IsAtWork, SaysWork, Creates}

-- after some rows each replica is as `IsAtWork` says, and all mail under way is as `SaysWork` says
pub record AreAtWork (task : Task) (words : ℕ → ℕ → ℕ × ℕ) (births : List (Seat Player)) (rows : Rows) : Type 0 where
  pub replicas : (name : Draw) (who : ℕ) (r : ReplicaState) → view_at births rows name who ≡ Some r → IsAtWork task name r
  pub mail : (who : ℕ) → is_born (players words births) who ≡ true → Each (λ mail. SaysWork task mail.body) (rest (players words births) rows who)

-- the task of an order that is given after these rows: it has the order's number and is at the order's own group; and where it splits that group, the group has a replica, and no group had the name that the order draws, or lists it as a child's
pub record IsTaskOf (births : List (Seat Player)) (quiet : Rows) (line : OrderLine) (task : Task) : Type 0 where
  pub number : task.number ≡ line.number
  pub group : task.group ≡ group_of_order line.order
  pub there : task.splitting ≡ true → IsThere births quiet task.group
  pub new : task.splitting ≡ true → IsNowhere births quiet task.name
  pub unknown : task.splitting ≡ true → (name : Draw) (who : ℕ) (r : ReplicaState) → view_at births quiet name who ≡ Some r → list_any (λ other. same_draw other task.name) r.group.core.born ≡ false

-- an order given in a quiet journal in which each replica rests has a task, and `AreAtWork` holds after its row
abbrev pub OrdersBeginWork : Type 0
OrdersBeginWork =
    (words : ℕ → ℕ → ℕ × ℕ) (scenario : Scenario) (quiet : Rows) (seat : Seat Player) (line : OrderLine) → IsValid scenario → Lawful as_nodes words scenario quiet → IsSeat (births as_nodes scenario) seat
    → AreInTime (players words (births as_nodes scenario)) (with_event quiet seat (Told line)) → is_quiet (players words (births as_nodes scenario)) quiet ≡ true
    → ((name : Draw) (who : ℕ) (r : ReplicaState) → view_at (births as_nodes scenario) quiet name who ≡ Some r → IsAtRest r × (r.running ≡ true → r.leader.reports ≡ []) × (next r ≤ last_slot))
    → (task : Task) × IsTaskOf (births as_nodes scenario) quiet line task × AreAtWork task words (births as_nodes scenario) (with_event quiet seat (Told line))

-- a delivery in time that finds what an order needs, at which each group that has a replica is guided
pub record IsGuidedRow (words : ℕ → ℕ → ℕ × ℕ) (scenario : Scenario) (rows : Rows) (seat : Seat Player) (number : ℕ) : Type 0 where
  pub seated : IsSeat (births as_nodes scenario) seat
  pub timely : AreInTime (players words (births as_nodes scenario)) (with_event rows seat (Deliver number))
  pub meets : MeetsOrder words (births as_nodes scenario) rows seat number
  pub groups : (name : Draw) (node : ℕ) (r : ReplicaState) → view_at (births as_nodes scenario) rows name node ≡ Some r → IsNamedGuide words (births as_nodes scenario) rows seat (Deliver number) name

-- a delivery as `IsGuidedRow` says keeps `AreAtWork`; the children that it makes are those that the order may make, which their group did not list before; and no request and no answer is delivered
pub record DeliveriesKeepWork : Type 0 where
  pub keeps : (words : ℕ → ℕ → ℕ × ℕ) (scenario : Scenario) (rows : Rows) (seat : Seat Player) (number : ℕ) (task : Task) → IsGuidedRow words scenario rows seat number → AreAtWork task words (births as_nodes scenario) rows
      → AreAtWork task words (births as_nodes scenario) (with_event rows seat (Deliver number))
  pub creation : (words : ℕ → ℕ → ℕ × ℕ) (scenario : Scenario) (rows : Rows) (seat : Seat Player) (number : ℕ) (task : Task) → IsGuidedRow words scenario rows seat number → AreAtWork task words (births as_nodes scenario) rows
      → (mail : Mail) (group : Draw) (node : NodeState) (r : ReplicaState) → IsTaking words (births as_nodes scenario) rows seat number mail group node → replica_of group node.replicas ≡ Some r
      → Each (λ child. Creates task group child × (list_any (λ other. same_draw other child.core.id) r.group.core.born ≡ false)) (mailed mail.from mail.body (r, [])).1
  pub unasked : (words : ℕ → ℕ → ℕ × ℕ) (births : List (Seat Player)) (rows : Rows) (seat : Seat Player) (number : ℕ) (task : Task) → IsSeat births seat → AreInTime (players words births) (with_event rows seat (Deliver number)) → AreAtWork task words births rows
      → (mail : Mail) (group : Draw) (client seq : ℕ) (op : Op) → numbered (mails rows) number ≡ Some mail → mail.body ≡ Request group client seq op → ⊥
  pub unanswered : (words : ℕ → ℕ → ℕ × ℕ) (births : List (Seat Player)) (rows : Rows) (seat : Seat Player) (number : ℕ) (task : Task) → IsSeat births seat → AreInTime (players words births) (with_event rows seat (Deliver number)) → AreAtWork task words births rows
      → (mail : Mail) (group : Draw) (seq : ℕ) (answer : AnswerBody) → numbered (mails rows) number ≡ Some mail → mail.body ≡ Answer group seq answer → ⊥

-- at a replica as `IsAtWork` says only work is in flight or ready, no request and no filler; and at one that rests nothing waits
pub record WorkStandsAlone : Type 0 where
  pub alone : (task : Task) (name : Draw) (r : ReplicaState) → IsAtWork task name r → IsOrdersAlone r
  pub rests : (r : ReplicaState) → IsAtRest r → WaitsForFlights r
