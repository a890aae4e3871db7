-- All that holds while an order is under way since a quiet prefix of a calm journal, and that each delivery keeps it.
use Rattle.std.specs.Prelude.{◌≡◌, ◌⊎◌, ℕ, ◌+◌, true, ◌++◌, Some}
use Rattle.sc_base.specs.Definitions.{Among, Each}
use Rattle.sc_node_table.specs.Values.{Draw, Base, OrderLine, Mail, Client, Seat, Deliver}
use Rattle.sc_actor.specs.declared.rows.Event.TheVariants.{Told}
use Rattle.sc_actor.specs.Definitions.{mails, value, has_started}
use Rattle.sc_client_table.specs.table.TableDefinitions.{Client as ClientState}
use Rattle.sc_live_orderly.specs.OrderlyDefinitions.{is_born, orders, rest, AreInTime}
use Rattle.sc_scenario.specs.declared.scenario.scenarios.Scenario.{Scenario}
use Rattle.sc_node_table.specs.NodeDefinitions.{group_of_mail}
use Rattle.sc_meaning.specs.sound.SoundDefinitions.{groups_at, Player, player_table, births, as_nodes}
use Rattle.sc_live_steps.specs.calm.CalmDefinitions.{players, FindsCalm, Rows}
use Rattle.sc_live_journals.specs.rows.RowDefinitions.{IsSeat, with_event}
use Rattle.sc_live_journals.specs.charts.ChartDefinitions.{chart_at, quiet_prefix}
use Rattle.sc_live_steps.specs.orders.OrderDefinitions.{Still}
use Rattle.sc_live_journals.specs.scenes.SceneDefinitions.{StageAfter, scene_at}
use Rattle.sc_live_plain.specs.PlainDefinitions.{replicas_after, DoHintsRise}
use Rattle.sc_live_journals.specs.logs.LogDefinitions.{logged_sets}
use Rattle.sc_live_answers.specs.SlotLeaders.{slot_leaders_at}
use Rattle.sc_live_answers.specs.HintInvariant.{IsRisingOn}
use Rattle.sc_live_answers.specs.RoundBounds.{IsRoundSince}
use Rattle.sc_live_answers.specs.ErrandReceivers.{GoesToNode}
use Rattle.sc_live_answers.specs.CalmJournals.{IsCalmJournal, IsPrefixOf, ContinuesBy, IsNamedGroup}
use Rattle.sc_live_answers.specs.RestingPrefixes.{RestsAt}
use Rattle.sc_live_answers.specs.OrderUnderWay.{IsUnder}
use Rattle.sc_live_answers.specs.QuestionReceivers.{IsHinted}
use Rattle.sc_live_answers.specs.SettledLeaders.{AreSettled}
use Rattle.sc_live_answers.specs.OrderFacts.{IsTrueSince}
use Rattle.sc_live_answers.specs.EndingGroups.{IsGoingSince}
use Rattle.sc_live_answers.specs.RedirectBounds.{HasNamesSince}
use Rattle.sc_live_answers.specs.WaitingActs.{HaveNoneWaiting}
use Rattle.sc_live_answers.specs.CreatedGroups.{AreCreatedByOrder}
use Rattle.sc_group_table.specs.policy.PolicyDefinitions.{is_reported}
use Rattle.sc_live_answers.specs.OrderTasks.{Task}
use Rattle.sc_live_answers.specs.ReportedOrders.{IsGiven, IsRefusalSent, IsReported, IsOrderHeld}
use Rattle.sc_live_answers.specs.WaitingWork.{AreAtWork, IsTaskOf}

-- if the mail names a group, a group of the journal has that name
abbrev pub IsOfJournal : Scenario → Rows → Mail → Type 0
IsOfJournal scenario journal mail = (name : Draw) → group_of_mail mail.body ≡ Some name → IsNamedGroup scenario journal name

-- what holds while one order is under way since a quiet prefix that rests: its stage and the groups that it has not touched, hints and rounds of each group, what its leaders have executed, the groups that go, its coordinator and whom it asks, the commands that wait at groups, the child that it makes and the names of groups; clients are as they were, each mail under way is of a group of the journal, errands go to nodes, no act waits with nothing in flight; and the order's result is reported, or a group holds it
pub record IsOrderedSince (words : ℕ → ℕ → ℕ × ℕ) (scenario : Scenario) (first : Base) (journal quiet rows : Rows) : Type 0 where
  pub behind : Rows
  pub rows_are : rows ≡ quiet ++ behind
  pub one_order : orders rows ≡ orders quiet + 1
  pub under : IsUnder words scenario first journal quiet rows
  pub rising : (base : Base) (among : Among base (groups_at as_nodes scenario.groups journal)) → IsRisingOn (logged_sets as_nodes base journal) (slot_leaders_at as_nodes scenario base journal) words (births as_nodes scenario) rows base (under.sent base among).course
  pub round : (base : Base) (among : Among base (groups_at as_nodes scenario.groups journal)) → IsRoundSince (under.rests.sent base among).course under.stage base.core.id (under.sent base among).course
  pub true_since : IsTrueSince scenario quiet rows under.stage
  pub goes : IsGoingSince scenario journal quiet rows under.stage
  pub settled : AreSettled words scenario rows under.stage
  pub hinted : IsHinted scenario quiet rows under.stage
  pub line : OrderLine
  pub only : (other : OrderLine) → IsGiven rows other → IsGiven quiet other ⊎ (other ≡ line)
  pub told : is_reported line.number ≡ true
  pub refusal : IsRefusalSent (mails rows) under.stage
  pub result : IsReported (births as_nodes scenario) rows line.number ⊎ IsOrderHeld (scene_at (births as_nodes scenario) rows)
  pub task : Task
  pub is_task : IsTaskOf (births as_nodes scenario) quiet line task
  pub work : AreAtWork task words (births as_nodes scenario) rows
  pub created : AreCreatedByOrder scenario journal quiet rows task
  pub clients : (other : Seat Player) (client : ClientState) → IsSeat (births as_nodes scenario) other → value player_table other quiet ≡ Client client → (value player_table other rows ≡ Client client) × (has_started rows other.who ≡ has_started quiet other.who)
  pub known : (who : ℕ) → is_born (players words (births as_nodes scenario)) who ≡ true → Each (IsOfJournal scenario journal) (rest (players words (births as_nodes scenario)) rows who)
  pub home : Each (GoesToNode scenario) (mails rows)
  pub waits : HaveNoneWaiting scenario rows
  pub names : HasNamesSince (births as_nodes scenario) quiet rows task

-- an order given in a quiet prefix that rests, whose errands went to nodes, begins a stage, `IsOrderedSince` holds after its row, and the row finds what the potential needs
abbrev pub OrdersBeginOrdered : Type 0
OrdersBeginOrdered =
    (words : ℕ → ℕ → ℕ × ℕ) (scenario : Scenario) (first : Base) (journal quiet : Rows) (seat : Seat Player) (line : OrderLine) → IsCalmJournal words scenario journal → RestsAt words scenario first journal quiet → Each (GoesToNode scenario) (mails quiet)
    → IsSeat (births as_nodes scenario) seat → IsPrefixOf journal (with_event quiet seat (Told line)) → AreInTime (players words (births as_nodes scenario)) (with_event quiet seat (Told line))
    → IsOrderedSince words scenario first journal quiet (with_event quiet seat (Told line)) × StageAfter (births as_nodes scenario) quiet seat (Told line) Still
    × ((far sent : ℕ) → FindsCalm (chart_at far sent (players words (births as_nodes scenario)) quiet) (births as_nodes scenario) quiet seat (Told line))

-- each delivery keeps `IsOrderedSince`, leaves the stage as it is or takes it one step on, and finds what the potential needs by the chart of the rows before it
abbrev pub DeliveriesKeepOrdered : Type 0
DeliveriesKeepOrdered =
    (words : ℕ → ℕ → ℕ × ℕ) (scenario : Scenario) (first : Base) (journal quiet rows : Rows) (seat : Seat Player) (number : ℕ) → IsCalmJournal words scenario journal
    → (o : IsOrderedSince words scenario first journal quiet rows) → ContinuesBy words scenario journal rows seat number
    → IsOrderedSince words scenario first journal quiet (with_event rows seat (Deliver number)) × StageAfter (births as_nodes scenario) rows seat (Deliver number) o.under.stage
    × ((far sent : ℕ) → quiet_prefix (players words (births as_nodes scenario)) rows ≡ quiet → DoHintsRise (replicas_after scenario quiet) (chart_at far sent (players words (births as_nodes scenario)) rows).ways
    → FindsCalm (chart_at far sent (players words (births as_nodes scenario)) rows) (births as_nodes scenario) rows seat (Deliver number))
