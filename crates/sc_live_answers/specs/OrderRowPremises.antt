-- What has to be known of a row of a calm journal, so that the row finds what an order needs.
use Rattle.std.specs.Prelude.{List, None, Some, [], false, true, ℕ, ◌≡◌, ◌≤◌}
use Rattle.sc_actor.specs.Definitions.{mails, numbered, value, is_quiet}
use Rattle.sc_node_table.specs.Values.{Seat, Event, Deliver, Ballot, Draw, Op, Base, OrderLine, Mail, Accepted, Install, Request, Client}
use Rattle.sc_actor.specs.declared.rows.Event.TheVariants.{Told}
use Rattle.sc_base.specs.Definitions.{Each}
use Rattle.sc_live_answers.specs.FollowerMail.{IsUnsettled}
use Rattle.sc_live_answers.specs.GuidedGroups.{IsNamedGuide, WaitsForFlights}
use Rattle.sc_live_answers.specs.MailWithoutReplica.{IsYoung}
use Rattle.sc_live_answers.specs.LeaderVotes.{IsOrdersAlone, IsTrueEntry}
use Rattle.sc_live_steps.specs.calm.CalmDefinitions.{players, Rows}
use Rattle.sc_live_steps.specs.orders.OrderDefinitions.{IsUnderWay}
use Rattle.sc_live_journals.specs.rows.RowDefinitions.{marks_at, view_at, IsSeat, with_event}
use Rattle.sc_live_journals.specs.scenes.SceneDefinitions.{FindsOrder, FindsReplica, NodeFinds, IsThere, GoesToActor, errand_taken, scene_at, IsTaking}
use Rattle.sc_node_table.specs.NodeDefinitions.{NodeState, replica_of, ReplicaState, last_slot, next, mailed}
use Rattle.sc_live_orderly.specs.OrderlyDefinitions.{is_born, AreInTime}
use Rattle.sc_scenario.specs.scenario.Definitions.{IsBounded}
use Rattle.sc_scenario.specs.declared.scenario.scenarios.Scenario.{Scenario}
use Rattle.sc_meaning.specs.sound.SoundDefinitions.{Player, as_nodes, player_table, births}
use Rattle.sc_client_table.specs.table.TableDefinitions.{Client as ClientState}

-- what is known where an order is given: the journal is quiet, mail of transactions and of groups goes to players, and each leader has slots left and has no act or order waiting with nothing in flight
pub record IsGivenCalmly (words : ℕ → ℕ → ℕ × ℕ) (births : List (Seat Player)) (rows : Rows) : Type 0 where
  pub quiet : is_quiet (players words births) rows ≡ true
  pub errands : Each (GoesToActor words births) (mails rows)
  pub strangers : (name : Draw) (who : ℕ) → is_born (players words births) who ≡ false → marks_at (players words births) rows name who ≡ []
  pub room : (name : Draw) (node : ℕ) (r : ReplicaState) → view_at births rows name node ≡ Some r → r.running ≡ true → (next r ≤ last_slot) × WaitsForFlights r

-- what is known of a row that comes in time while an order is under way: each group that has a replica, or of which a state comes, is guided; mail of transactions is as `IsUnsettled` says; no request comes; a leader that counts a vote has only work in flight, and only true entries; an order is given as `IsGivenCalmly` says; and no client takes mail of a transaction
pub record IsOrdersRow (words : ℕ → ℕ → ℕ × ℕ) (scenario : Scenario) (rows : Rows) (seat : Seat Player) (event : Event OrderLine) : Type 0 where
  pub bounded : IsBounded scenario
  pub seated : IsSeat (births as_nodes scenario) seat
  pub timely : AreInTime (players words (births as_nodes scenario)) (with_event rows seat event)
  pub under : IsUnderWay (scene_at (births as_nodes scenario) rows)
  pub groups : (name : Draw) (node : ℕ) (r : ReplicaState) → view_at (births as_nodes scenario) rows name node ≡ Some r → IsNamedGuide words (births as_nodes scenario) rows seat event name
  pub states : (number : ℕ) (mail : Mail) (group : Draw) (slot : ℕ) (state : Base) (sets : List (List ℕ)) → event ≡ Deliver number → numbered (mails rows) number ≡ Some mail → mail.body ≡ Install group slot state sets
      → IsNamedGuide words (births as_nodes scenario) rows seat event group × IsThere (births as_nodes scenario) rows group
  pub unsettled : (number : ℕ) (mail : Mail) (group : Draw) (node : NodeState) (r : ReplicaState) → event ≡ Deliver number → IsTaking words (births as_nodes scenario) rows seat number mail group node → replica_of group node.replicas ≡ Some r
      → IsUnsettled r mail.body
  pub requests : (number : ℕ) (mail : Mail) (named : Draw) (client seq : ℕ) (op : Op) → event ≡ Deliver number → numbered (mails rows) number ≡ Some mail → mail.body ≡ Request named client seq op → ⊥
  pub votes : (number : ℕ) (mail : Mail) (group : Draw) (node : NodeState) (r : ReplicaState) (named : Draw) (ballot : Ballot) (slot : ℕ) → event ≡ Deliver number → IsTaking words (births as_nodes scenario) rows seat number mail group node
      → replica_of group node.replicas ≡ Some r → r.running ≡ true → mail.body ≡ Accepted named ballot slot
      → IsOrdersAlone r × Each (λ flight. IsTrueEntry r.me r.group flight.value) r.leader.flights
  pub told : (line : OrderLine) → event ≡ Told line → IsGivenCalmly words (births as_nodes scenario) rows
  pub clients : (client : ClientState) → value player_table seat rows ≡ Client client → errand_taken (mails rows) event ≡ None

-- the children that the row makes are young (`IsYoung`)
abbrev pub MakesYoung : (ℕ → ℕ → ℕ × ℕ) → Scenario → Rows → Seat Player → Event OrderLine → Type 0
MakesYoung words scenario rows seat event =
    (number : ℕ) (mail : Mail) (group : Draw) (node : NodeState) (r : ReplicaState) → event ≡ Deliver number → IsTaking words (births as_nodes scenario) rows seat number mail group node → replica_of group node.replicas ≡ Some r
    → Each (IsYoung words (births as_nodes scenario) rows seat) (mailed mail.from mail.body (r, [])).1

-- each mail that is delivered finds what an order needs, at a replica of its group or at a node without one
pub record MeetsOrder (words : ℕ → ℕ → ℕ × ℕ) (births : List (Seat Player)) (rows : Rows) (seat : Seat Player) (number : ℕ) : Type 0 where
  pub here : (mail : Mail) (group : Draw) (node : NodeState) (r : ReplicaState) → IsTaking words births rows seat number mail group node → replica_of group node.replicas ≡ Some r → FindsReplica births rows seat number mail group r
  pub missed : (mail : Mail) (group : Draw) (node : NodeState) → IsTaking words births rows seat number mail group node → replica_of group node.replicas ≡ None → NodeFinds births rows seat number mail group mail.body

-- at a row as `IsOrdersRow` says each mail that is delivered finds what an order needs
abbrev pub OrdersRowsMeet : Type 0
OrdersRowsMeet = (words : ℕ → ℕ → ℕ × ℕ) (scenario : Scenario) (rows : Rows) (seat : Seat Player) (number : ℕ) → IsOrdersRow words scenario rows seat (Deliver number) → MeetsOrder words (births as_nodes scenario) rows seat number

-- a row as `IsOrdersRow` says finds what an order needs, where the children that it makes are young
abbrev pub OrdersRowsFind : Type 0
OrdersRowsFind = (words : ℕ → ℕ → ℕ × ℕ) (scenario : Scenario) (rows : Rows) (seat : Seat Player) (event : Event OrderLine) → IsOrdersRow words scenario rows seat event → MakesYoung words scenario rows seat event → FindsOrder words (births as_nodes scenario) rows seat event
