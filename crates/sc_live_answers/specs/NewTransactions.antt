-- The name of an order's transaction was in no use in the quiet prefix before the order.
use Rattle.std.specs.Prelude.{Option, Some, None}
use Rattle.sc_base.specs.Definitions.{Each}
use Rattle.sc_node_table.specs.Values.{Draw}
use Rattle.sc_node_table.specs.NodeDefinitions.{listed}
use Rattle.sc_law_entries.specs.names.NameDefinitions.{IsUsed}
use Rattle.sc_scenario.specs.declared.scenario.scenarios.Scenario.{Scenario}
use Rattle.sc_meaning.specs.sound.SoundDefinitions.{as_nodes}
use Rattle.sc_live_steps.specs.calm.CalmDefinitions.{Rows}
use Rattle.sc_live_steps.specs.orders.OrderDefinitions.{Work, Changes, Opens, Answers, Records, GivesUp, Ends, Stage, Still, Ordered, Asks, SentOn, Weighs, Replied, Recorded, Closes, ClosesBoth}

-- the transaction that the command of an order begins, or None
abbrev pub opened_by : Work → Option Draw
opened_by (Opens tx) = Some tx
opened_by Changes = None
opened_by (Answers tx coord watch by) = None
opened_by (Records tx watch agreed by) = None
opened_by (GivesUp tx) = None
opened_by (Ends tx) = None

-- the transaction of a stage, or None
abbrev pub tx_of : Stage → Option Draw
tx_of Still = None
tx_of (Ordered group chief work) = opened_by work
tx_of (Asks deal to) = Some deal.tx
tx_of (SentOn deal) = Some deal.tx
tx_of (Weighs deal host) = Some deal.tx
tx_of (Replied deal agreed host) = Some deal.tx
tx_of (Recorded deal agreed host) = Some deal.tx
tx_of (Closes tx party) = Some tx
tx_of (ClosesBoth tx one two) = Some tx

-- a name is not in use after these rows: it is none of the scenario, and was not drawn in them
abbrev pub IsUnused : Scenario → Rows → Draw → Type 0
IsUnused scenario rows name = IsUsed as_nodes scenario rows name → ⊥

-- the transaction of the stage, if there is one, has a name that was not in use in the quiet prefix
abbrev pub IsOfNew : Scenario → Rows → Stage → Type 0
IsOfNew scenario quiet stage = Each (IsUnused scenario quiet) (listed (tx_of stage))
