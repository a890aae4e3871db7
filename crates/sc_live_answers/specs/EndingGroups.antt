-- Which groups go while an order is under way since a quiet prefix: one at most, into the coordinator of its transaction, which stood in that prefix.
use Rattle.std.specs.Prelude.{◌≡◌, ◌++◌, ℕ, true, None, Some, ◌⊎◌}
use Rattle.sc_base.specs.Definitions.{Among, Each}
use Rattle.sc_node_table.specs.Values.{Draw, Seat, Deliver, Offer, Finish, Prepared, Base, Route, OrderLine, Merged}
use Rattle.sc_actor.specs.Definitions.{is_quiet}
use Rattle.sc_actor.specs.declared.rows.Event.TheVariants.{Told}
use Rattle.sc_node_table.specs.NodeDefinitions.{ReplicaState, listed}
use Rattle.sc_scenario.specs.declared.scenario.scenarios.Scenario.{Scenario}
use Rattle.sc_meaning.specs.sound.SoundDefinitions.{groups_at, Player, as_nodes, births}
use Rattle.sc_live_journals.specs.charts.ChartDefinitions.{all_replicas, names_at, GoInTurn}
use Rattle.sc_live_steps.specs.calm.CalmDefinitions.{players, Rows}
use Rattle.sc_live_steps.specs.orders.OrderDefinitions.{Stage, Still, Ordered, Asks, SentOn, Weighs, Replied, Recorded, Closes, ClosesBoth, IsAt}
use Rattle.sc_live_journals.specs.rows.RowDefinitions.{view_at, with_event}
use Rattle.sc_live_journals.specs.logs.LogDefinitions.{logged_sets}
use Rattle.sc_live_journals.specs.scenes.SceneDefinitions.{IsNowhere, IsGivenInQuiet, GoesBy, scene_at}
use Rattle.sc_live_plain.specs.PlainDefinitions.{replicas_after}
use Rattle.sc_live_answers.specs.GuidedGroups.{IsReachedSo}
use Rattle.sc_live_answers.specs.CalmJournals.{AreSent, IsCalmJournal, IsPrefixOf}
use Rattle.sc_live_answers.specs.OrderUnderWay.{IsYoungAt}
use Rattle.sc_live_answers.specs.GroupEndOrder.{OnlyOneEnds}
use Rattle.sc_live_answers.specs.LedGroups.{over_at}
use Rattle.sc_live_answers.specs.NewTransactions.{tx_of}
use Rattle.sc_live_answers.specs.RestingPrefixes.{RestsAt}
use Rattle.sc_live_answers.specs.GroupMail.{IsSentStep}
use Rattle.sc_live_answers.specs.SlotLeaders.{slot_leaders_at}
use Rattle.sc_live_answers.specs.AllowedCommands.{IsAllowedBy, sources_of}
use Rattle.sc_live_answers.specs.TrueEntries.{LeadsSince}
use Rattle.sc_live_answers.specs.OrderFactsAfterDeliveries.{ContinuesSince}
use Rattle.sc_live_answers.specs.OrderFacts.{AreSeen}

-- some replica of the group was gone in the quiet prefix
pub record WasGone (scenario : Scenario) (quiet : Rows) (name : Draw) : Type 0 where
  pub who : ℕ
  pub replica : ReplicaState
  pub into : Route
  pub was : replicas_after scenario quiet name who ≡ Some replica
  pub gone : replica.group.core.gone ≡ Some into

-- no replica of the group was gone in the quiet prefix
abbrev pub NoneGone : Scenario → Rows → Draw → Type 0
NoneGone scenario quiet name = (who : ℕ) (r : ReplicaState) → replicas_after scenario quiet name who ≡ Some r → r.group.core.gone ≡ None

-- the group for which the transaction's name was drawn was not gone in the quiet prefix
abbrev pub OwnerStood : Scenario → Rows → Rows → Draw → Type 0
OwnerStood scenario journal quiet tx = (coord : Draw) → (sources_of scenario journal).owner tx ≡ Some coord → NoneGone scenario quiet coord

-- by the logs of the whole journal the group promised this transaction and went into another by its outcome, and the group that began the transaction stood in the quiet prefix
pub record HasMerged (scenario : Scenario) (journal quiet : Rows) (tx name : Draw) (into : Route) : Type 0 where
  pub offer : Offer
  pub offered : IsAllowedBy scenario journal name (Prepared tx offer)
  pub ended : IsAllowedBy scenario journal name (Finish tx (Merged into))
  pub stood : OwnerStood scenario journal quiet tx

-- at this stage the order has begun its transaction
abbrev pub HasBegun : Stage → Type 0
HasBegun Still = ⊥
HasBegun (Ordered group chief work) = ⊥
HasBegun (Asks deal to) = Unit {0}
HasBegun (SentOn deal) = Unit {0}
HasBegun (Weighs deal host) = Unit {0}
HasBegun (Replied deal agreed host) = Unit {0}
HasBegun (Recorded deal agreed host) = Unit {0}
HasBegun (Closes tx party) = Unit {0}
HasBegun (ClosesBoth tx one two) = Unit {0}

-- since a quiet prefix the order has one transaction at most, whose coordinator stood in that prefix; and each group that is gone now was gone then, or went by that transaction
pub record IsGoingSince (scenario : Scenario) (journal quiet rows : Rows) (stage : Stage) : Type 0 where
  pub tx : Draw
  pub same : Each (λ other. other ≡ tx) (listed (tx_of stage))
  pub stood : HasBegun stage → OwnerStood scenario journal quiet tx
  pub went : (name : Draw) (node : ℕ) (r : ReplicaState) (into : Route) → view_at (births as_nodes scenario) rows name node ≡ Some r → r.group.core.gone ≡ Some into
      → WasGone scenario quiet name ⊎ HasMerged scenario journal quiet tx name into

-- `IsGoingSince` holds at each stage that stands once an order is given in a quiet prefix that rests
abbrev pub EndingGroupsBegin : Type 0
EndingGroupsBegin =
    (words : ℕ → ℕ → ℕ × ℕ) (scenario : Scenario) (first : Base) (journal quiet : Rows) (seat : Seat Player) (line : OrderLine) (stage : Stage) → IsCalmJournal words scenario journal → RestsAt words scenario first journal quiet → AreSeen scenario quiet
    → IsGivenInQuiet words (births as_nodes scenario) quiet seat line → IsPrefixOf journal (with_event quiet seat (Told line)) → IsAt stage (scene_at (births as_nodes scenario) (with_event quiet seat (Told line)))
    → IsGoingSince scenario journal quiet (with_event quiet seat (Told line)) stage

-- each delivery keeps `IsGoingSince`, where all groups are well led after it, some replica of each group has its newest state, groups with no replica are young, and each leader is as `LeadsSince` says
abbrev pub EndingGroupsGoOn : Type 0
EndingGroupsGoOn =
    (words : ℕ → ℕ → ℕ × ℕ) (scenario : Scenario) (first : Base) (journal quiet rows : Rows) (seat : Seat Player) (number : ℕ) (stage later : Stage) → ContinuesSince words scenario first journal quiet rows seat number stage → (sent : AreSent words scenario journal rows)
    → ((base : Base) (among : Among base (groups_at as_nodes scenario.groups journal))
    → IsSentStep (logged_sets as_nodes base journal) (over_at as_nodes base journal) (slot_leaders_at as_nodes scenario base journal) words (births as_nodes scenario) rows seat (Deliver number) base (sent base among).course)
    → ((base : Base) (among : Among base (groups_at as_nodes scenario.groups journal)) → IsReachedSo (births as_nodes scenario) rows base (sent base among).course)
    → ((base : Base) → Among base (groups_at as_nodes scenario.groups journal) → IsNowhere (births as_nodes scenario) rows base.core.id → IsYoungAt words (births as_nodes scenario) (with_event rows seat (Deliver number)) base)
    → ((name : Draw) (node : ℕ) (r : ReplicaState) → view_at (births as_nodes scenario) rows name node ≡ Some r → r.running ≡ true → LeadsSince words scenario first journal quiet rows name node r stage)
    → IsAt later (scene_at (births as_nodes scenario) (with_event rows seat (Deliver number))) → (later ≡ stage) ⊎ GoesBy rows (Deliver number) stage later
    → IsGoingSince scenario journal quiet rows stage → IsGoingSince scenario journal quiet (with_event rows seat (Deliver number)) later

-- while an order is under way one group at most is gone that was not gone in the quiet prefix, and it went into one that stands
abbrev pub OneGroupEnds : Type 0
OneGroupEnds =
    (words : ℕ → ℕ → ℕ × ℕ) (scenario : Scenario) (journal quiet rows : Rows) (stage : Stage) → IsCalmJournal words scenario journal → IsPrefixOf journal rows → IsGoingSince scenario journal quiet rows stage
    → (group : Draw) × OnlyOneEnds scenario quiet rows group

-- once the journal is quiet again after an order, groups go one after another (`GoInTurn`)
abbrev pub GroupsEndInTurn : Type 0
GroupsEndInTurn =
    (words : ℕ → ℕ → ℕ × ℕ) (scenario : Scenario) (first : Base) (journal quiet behind : Rows) (stage : Stage) → IsCalmJournal words scenario journal → RestsAt words scenario first journal quiet → IsPrefixOf journal (quiet ++ behind) → AreSent words scenario journal (quiet ++ behind)
    → is_quiet (players words (births as_nodes scenario)) (quiet ++ behind) ≡ true → IsGoingSince scenario journal quiet (quiet ++ behind) stage
    → (turn : Draw → ℕ) × GoInTurn (names_at (births as_nodes scenario) (quiet ++ behind)) (all_replicas (births as_nodes scenario) (quiet ++ behind)) turn
