-- A coordinator that is sent elsewhere with its question learns where: each question goes to a node that has a replica of its group, and a node that sends it elsewhere names such a node.
use Rattle.std.specs.Prelude.{◌≡◌, ℕ, true, Option, Some, ◌⊎◌}
use Rattle.sc_node_table.specs.Values.{Seat, Deliver, Draw, Command, Base, OrderLine, Mail, TxElsewhere, Flight}
use Rattle.sc_actor.specs.declared.rows.Event.TheVariants.{Told}
use Rattle.sc_base.specs.Definitions.{Among, Each}
use Rattle.sc_node_table.specs.NodeDefinitions.{NodeState, ReplicaState}
use Rattle.sc_scenario.specs.declared.scenario.scenarios.Scenario.{Scenario}
use Rattle.sc_meaning.specs.sound.SoundDefinitions.{Player, as_nodes, births}
use Rattle.sc_live_plain.specs.PlainDefinitions.{replicas_after}
use Rattle.sc_live_steps.specs.calm.CalmDefinitions.{HasReplica, Rows}
use Rattle.sc_live_answers.specs.LeaderVotes.{IsTrueEntry}
use Rattle.sc_live_steps.specs.orders.OrderDefinitions.{Asks, Closes, ClosesBoth, IsAt, Ordered, Recorded, Replied, SentOn, Stage, Still, Weighs}
use Rattle.sc_live_journals.specs.rows.RowDefinitions.{view_at, with_event}
use Rattle.sc_live_journals.specs.scenes.SceneDefinitions.{IsGivenInQuiet, GoesBy, left_after, scene_at}
use Rattle.sc_live_answers.specs.OrderFactsAfterDeliveries.{ContinuesSince}
use Rattle.sc_live_answers.specs.OrderFacts.{IsTrueSince}
use Rattle.sc_live_answers.specs.UnsettledMail.{TakesSince}

-- if the mail sends its receiver elsewhere, it names a node that has a replica of the group that is asked
abbrev pub IsHintedAt : Scenario → Rows → Draw → Mail → Type 0
IsHintedAt scenario quiet asked mail = (tx coord : Draw) (hint : Option ℕ) → mail.body ≡ TxElsewhere tx coord hint → (to : ℕ) × (hint ≡ Some to) × HasReplica (replicas_after scenario quiet) asked to

-- at this stage a question under way goes to a node that has a replica of the group that is asked, and a mail that sends the coordinator elsewhere names such a node
abbrev pub IsHinted : Scenario → Rows → Rows → Stage → Type 0
IsHinted scenario quiet rows Still = Unit {0}
IsHinted scenario quiet rows (Ordered group chief work) = Unit {0}
IsHinted scenario quiet rows (Asks deal to) = HasReplica (replicas_after scenario quiet) deal.asked to
IsHinted scenario quiet rows (SentOn deal) = (mail : Mail) → Among mail (left_after rows) → IsHintedAt scenario quiet deal.asked mail
IsHinted scenario quiet rows (Weighs deal host) = Unit {0}
IsHinted scenario quiet rows (Replied deal agreed host) = Unit {0}
IsHinted scenario quiet rows (Recorded deal agreed host) = Unit {0}
IsHinted scenario quiet rows (Closes tx party) = Unit {0}
IsHinted scenario quiet rows (ClosesBoth tx one two) = Unit {0}

-- `IsHinted` holds once an order is given in a quiet prefix
abbrev pub HintedOrdersBegin : Type 0
HintedOrdersBegin =
    (words : ℕ → ℕ → ℕ × ℕ) (scenario : Scenario) (quiet : Rows) (seat : Seat Player) (line : OrderLine) (stage : Stage) → IsGivenInQuiet words (births as_nodes scenario) quiet seat line
    → IsAt stage (scene_at (births as_nodes scenario) (with_event quiet seat (Told line))) → IsHinted scenario quiet (with_event quiet seat (Told line)) stage

-- each delivery keeps `IsHinted`, where what leaders have in flight is true
abbrev pub HintedOrdersGoOn : Type 0
HintedOrdersGoOn =
    (words : ℕ → ℕ → ℕ × ℕ) (scenario : Scenario) (first : Base) (journal quiet rows : Rows) (seat : Seat Player) (number : ℕ) (stage later : Stage) → ContinuesSince words scenario first journal quiet rows seat number stage
    → ((name : Draw) (node : ℕ) (r : ReplicaState) → view_at (births as_nodes scenario) rows name node ≡ Some r → r.running ≡ true → Each (λ (flight : Flight Command). IsTrueEntry r.me r.group flight.value) r.leader.flights)
    → IsAt later (scene_at (births as_nodes scenario) (with_event rows seat (Deliver number))) → (later ≡ stage) ⊎ GoesBy rows (Deliver number) stage later
    → IsTrueSince scenario quiet (with_event rows seat (Deliver number)) later → IsHinted scenario quiet rows stage → IsHinted scenario quiet (with_event rows seat (Deliver number)) later

-- a TxElsewhere that a replica takes names a node
abbrev pub CoordinatorsAreHinted : Type 0
CoordinatorsAreHinted =
    (words : ℕ → ℕ → ℕ × ℕ) (scenario : Scenario) (first : Base) (journal quiet rows : Rows) (seat : Seat Player) (number : ℕ) (mail : Mail) (group : Draw) (node : NodeState) (r : ReplicaState) (stage : Stage) (tx coord : Draw) (hint : Option ℕ)
    → TakesSince words scenario first journal quiet rows seat number mail group node r stage → IsHinted scenario quiet rows stage → mail.body ≡ TxElsewhere tx coord hint → (to : ℕ) × (hint ≡ Some to)
