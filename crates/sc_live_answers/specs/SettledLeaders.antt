-- The leader of a coordinator stays settled: nobody is asked to promise a ballot in its group since a quiet prefix.
use Rattle.std.specs.Prelude.{◌≡◌, ℕ, true, false, List, [], ◌∷◌, Option, Some, ◌⊎◌}
use Rattle.sc_node_table.specs.Values.{Seat, Deliver, Draw, Base, OrderLine, Mail, TxElsewhere}
use Rattle.sc_actor.specs.declared.rows.Event.TheVariants.{Told}
use Rattle.sc_base.specs.Definitions.{Each}
use Rattle.sc_node_table.specs.NodeDefinitions.{NodeState, ReplicaState, settled}
use Rattle.sc_live_orderly.specs.OrderlyDefinitions.{is_born}
use Rattle.sc_scenario.specs.declared.scenario.scenarios.Scenario.{Scenario}
use Rattle.sc_meaning.specs.sound.SoundDefinitions.{Player, as_nodes, births}
use Rattle.sc_live_steps.specs.following.FollowingDefinitions.{Asks as AsksFor, Installs, Mark, Prepares, Promises, Teaches, Votes}
use Rattle.sc_live_steps.specs.calm.CalmDefinitions.{players, Rows}
use Rattle.sc_live_steps.specs.orders.OrderDefinitions.{Asks, Closes, ClosesBoth, IsAt, Ordered, Recorded, Replied, SentOn, Stage, Still, Weighs}
use Rattle.sc_live_journals.specs.rows.RowDefinitions.{marks_at, view_at, with_event}
use Rattle.sc_live_journals.specs.scenes.SceneDefinitions.{IsGivenInQuiet, GoesBy, scene_at}
use Rattle.sc_live_answers.specs.LeaderVotes.{IsOrdersAlone}
use Rattle.sc_live_answers.specs.CalmJournals.{AreSent, IsCalmJournal, IsPrefixOf}
use Rattle.sc_live_answers.specs.RestingPrefixes.{RestsAt}
use Rattle.sc_live_answers.specs.OrderFactsAfterDeliveries.{ContinuesSince}
use Rattle.sc_live_answers.specs.OrderFacts.{AreSeen, IsTrueSince}
use Rattle.sc_live_answers.specs.UnsettledMail.{TakesSince}

-- the mark neither asks to promise a ballot, nor is such a promise
abbrev pub IsNoRound : Mark → Type 0
IsNoRound (AsksFor ballot slot) = Unit {0}
IsNoRound (Votes node ballot slot) = Unit {0}
IsNoRound (Teaches slot) = Unit {0}
IsNoRound (Installs slot) = Unit {0}
IsNoRound (Prepares ballot) = ⊥
IsNoRound (Promises node ballot) = ⊥

-- no mail of the group under way asks to promise a ballot, or is such a promise
abbrev pub HasNoRounds : (ℕ → ℕ → ℕ × ℕ) → List (Seat Player) → Rows → Draw → Type 0
HasNoRounds words births rows name = (who : ℕ) → Each IsNoRound (marks_at (players words births) rows name who)

-- the group that the order is given to, or that coordinates its transaction, with the node that leads it
abbrev pub coords_of : Stage → List (Draw × ℕ)
coords_of Still = []
coords_of (Ordered group chief work) = (group, chief) ∷ []
coords_of (Asks deal to) = (deal.coord, deal.chief) ∷ []
coords_of (SentOn deal) = (deal.coord, deal.chief) ∷ []
coords_of (Weighs deal host) = (deal.coord, deal.chief) ∷ []
coords_of (Replied deal agreed host) = (deal.coord, deal.chief) ∷ []
coords_of (Recorded deal agreed host) = (deal.coord, deal.chief) ∷ []
coords_of (Closes tx party) = []
coords_of (ClosesBoth tx one two) = []

-- no mail of the group that the order is given to, or that coordinates its transaction, asks to promise a ballot, or is such a promise
abbrev pub AreSettled : (ℕ → ℕ → ℕ × ℕ) → Scenario → Rows → Stage → Type 0
AreSettled words scenario rows stage = Each (λ coord. HasNoRounds words (births as_nodes scenario) rows coord.0) (coords_of stage)

-- `AreSettled` holds once an order is given in a quiet prefix, where no mail of a group is for a number that is no player
abbrev pub SettledOrdersBegin : Type 0
SettledOrdersBegin =
    (words : ℕ → ℕ → ℕ × ℕ) (scenario : Scenario) (first : Base) (journal quiet : Rows) (seat : Seat Player) (line : OrderLine) (stage : Stage) → IsCalmJournal words scenario journal → RestsAt words scenario first journal quiet → AreSeen scenario quiet
    → IsGivenInQuiet words (births as_nodes scenario) quiet seat line → IsPrefixOf journal (with_event quiet seat (Told line)) → AreSent words scenario journal (with_event quiet seat (Told line))
    → ((name : Draw) (who : ℕ) → is_born (players words (births as_nodes scenario)) who ≡ false → marks_at (players words (births as_nodes scenario)) quiet name who ≡ [])
    → IsAt stage (scene_at (births as_nodes scenario) (with_event quiet seat (Told line))) → IsTrueSince scenario quiet (with_event quiet seat (Told line)) stage
    → AreSettled words scenario (with_event quiet seat (Told line)) stage

-- each delivery keeps `AreSettled`, where leaders have only work of the order in flight and ready
abbrev pub SettledOrdersGoOn : Type 0
SettledOrdersGoOn =
    (words : ℕ → ℕ → ℕ × ℕ) (scenario : Scenario) (first : Base) (journal quiet rows : Rows) (seat : Seat Player) (number : ℕ) (stage later : Stage) → ContinuesSince words scenario first journal quiet rows seat number stage
    → AreSent words scenario journal rows → AreSent words scenario journal (with_event rows seat (Deliver number))
    → ((name : Draw) (node : ℕ) (r : ReplicaState) → view_at (births as_nodes scenario) rows name node ≡ Some r → r.running ≡ true → IsOrdersAlone r)
    → IsAt later (scene_at (births as_nodes scenario) (with_event rows seat (Deliver number))) → (later ≡ stage) ⊎ GoesBy rows (Deliver number) stage later
    → IsTrueSince scenario quiet (with_event rows seat (Deliver number)) later → AreSettled words scenario rows stage → AreSettled words scenario (with_event rows seat (Deliver number)) later

-- a coordinator's leader that takes a TxElsewhere, which sends it to another node, is settled: it may offer at its next slot
abbrev pub CoordinatorsAreSettled : Type 0
CoordinatorsAreSettled =
    (words : ℕ → ℕ → ℕ × ℕ) (scenario : Scenario) (first : Base) (journal quiet rows : Rows) (seat : Seat Player) (number : ℕ) (mail : Mail) (group : Draw) (node : NodeState) (r : ReplicaState) (stage : Stage) (tx coord : Draw) (hint : Option ℕ)
    → TakesSince words scenario first journal quiet rows seat number mail group node r stage → IsPrefixOf journal rows → AreSent words scenario journal rows → AreSettled words scenario rows stage
    → mail.body ≡ TxElsewhere tx coord hint → r.running ≡ true → settled r ≡ true
