-- Every request of a calm scenario at its budget is answered, and of any calm scenario where no line was cut off.
use Rattle.std.specs.Prelude.{◌≡◌, ℕ, ◌+◌, ◌^◌, ◌≤◌, true, false, List, ◌∷◌, length}
use Rattle.sc_node_table.specs.Values.{Base, OrderLine, Mail, Row}
use Rattle.sc_actor.specs.Definitions.{is_quiet, unsettled}
use Rattle.sc_scenario.specs.scenario.Definitions.{IsValid}
use Rattle.sc_scenario.specs.declared.scenario.scenarios.Scenario.{Scenario}
use Rattle.sc_meaning.specs.sound.SoundDefinitions.{births, system_of, schedule, as_nodes, Lawful, Whole}
use Rattle.sc_live_orderly.specs.OrderlyDefinitions.{AreInTime}
use Rattle.sc_live_steps.specs.calm.CalmDefinitions.{Chart, players, Rows}
use Rattle.sc_live_journals.specs.charts.ChartDefinitions.{chart_at}
use Rattle.sc_live_plain.specs.PlainDefinitions.{IsQuietJournal, AreAnswered, orders_of, HasCalmLines, IsCalm, IsCalmAtBudget}
use Rattle.sc_live_answers.specs.LineEnds.{AreCharted}
use Rattle.sc_live_answers.specs.ReportedOrders.{SettledJournalsReport, TimelyJournalsReport}

-- in each lawful journal of a valid calm scenario at its budget no line of deliveries is cut off with mail pending
abbrev pub CalmLinesSettle : Type 0
CalmLinesSettle =
    (words : ℕ → ℕ → ℕ × ℕ) (scenario : Scenario) (journal : List (Row Mail OrderLine)) → IsValid scenario → IsCalmAtBudget scenario → Lawful as_nodes words scenario journal
    → unsettled (system_of as_nodes words scenario) (schedule scenario) journal ≡ false

-- each lawful journal with no mail pending, of a valid calm scenario at its budget that gives an order, is a quiet journal (`IsQuietJournal`)
abbrev pub CalmJournalsRest : Type 0
CalmJournalsRest =
    (words : ℕ → ℕ → ℕ × ℕ) (scenario : Scenario) (first : Base) (others : List Base) (rows : List (Row Mail OrderLine)) → IsValid scenario → IsCalmAtBudget scenario → 1 ≤ orders_of scenario → scenario.groups ≡ first ∷ others
    → Lawful as_nodes words scenario rows → is_quiet (system_of as_nodes words scenario) rows ≡ true → IsQuietJournal words scenario first rows

-- in each whole lawful journal of a valid calm scenario at its budget every request is answered of a client whose `go` line is followed by a line of deliveries
abbrev pub CalmRequestsAreAnswered : Type 0
CalmRequestsAreAnswered =
    (words : ℕ → ℕ → ℕ × ℕ) (scenario : Scenario) (journal : List (Row Mail OrderLine)) → IsValid scenario → IsCalmAtBudget scenario → Lawful as_nodes words scenario journal → Whole as_nodes words scenario journal → AreAnswered scenario journal

-- A lawful journal of a valid calm scenario in which no line was cut off, with no more rows than slots and rounds are for, is as a quiet journal asks it where no mail is pending.
abbrev pub SettledJournalsRest : Type 0
SettledJournalsRest =
    (words : ℕ → ℕ → ℕ × ℕ) (scenario : Scenario) (first : Base) (others : List Base) (rows : List (Row Mail OrderLine)) → IsValid scenario → IsCalm scenario → scenario.groups ≡ first ∷ others
    → Lawful as_nodes words scenario rows → unsettled (system_of as_nodes words scenario) (schedule scenario) rows ≡ false → length rows ≤ 2 ^ 28
    → is_quiet (system_of as_nodes words scenario) rows ≡ true → IsQuietJournal words scenario first rows

-- A lawful journal of a valid scenario of calm lines whose rows come in time, with no more rows than slots and rounds are for, is as a quiet journal asks it where no mail is pending.
abbrev pub TimelyJournalsRest : Type 0
TimelyJournalsRest =
    (words : ℕ → ℕ → ℕ × ℕ) (scenario : Scenario) (first : Base) (others : List Base) (rows : List (Row Mail OrderLine)) → IsValid scenario → HasCalmLines scenario → scenario.groups ≡ first ∷ others
    → Lawful as_nodes words scenario rows → AreInTime (system_of as_nodes words scenario) rows → length rows ≤ 2 ^ 28
    → is_quiet (system_of as_nodes words scenario) rows ≡ true → IsQuietJournal words scenario first rows

-- In a whole journal of a valid calm scenario in which no line was cut off, with no more rows than slots and rounds are for, every request of a client whose `go` line is followed by a line of deliveries is answered.
abbrev pub SettledRequestsAreAnswered : Type 0
SettledRequestsAreAnswered =
    (words : ℕ → ℕ → ℕ × ℕ) (scenario : Scenario) (journal : List (Row Mail OrderLine)) → IsValid scenario → IsCalm scenario → Lawful as_nodes words scenario journal → Whole as_nodes words scenario journal
    → unsettled (system_of as_nodes words scenario) (schedule scenario) journal ≡ false → length journal ≤ 2 ^ 28 → AreAnswered scenario journal

-- the charts of a calm scenario, by which the potential of its journals is counted: with G groups and N orders no way by hints is longer than N + 1, and no client is sent on more often than G + N times
abbrev pub charts_of : (ℕ → ℕ → ℕ × ℕ) → Scenario → Rows → Chart
charts_of words scenario = chart_at (orders_of scenario + 1) (length scenario.groups + orders_of scenario) (players words (births as_nodes scenario))

-- for each valid calm scenario at its budget that gives an order the charts of `charts_of` are as `AreCharted` says: by them each row of its lawful journals finds what the potential needs, and journals with no mail pending rest, as long as no more than `calm_deliveries_of` deliveries are made
abbrev pub CalmJournalsAreCharted : Type 0
CalmJournalsAreCharted = (words : ℕ → ℕ → ℕ × ℕ) (scenario : Scenario) → IsValid scenario → IsCalmAtBudget scenario → 1 ≤ orders_of scenario → AreCharted words scenario (charts_of words scenario)

-- calm journals have charts by which the potential falls with each delivery, each of them with no mail pending is a quiet journal, and where no line was cut off, or the rows come in time, the results of its orders are reported
pub record CalmJournalsGoOn : Type 0 where
  pub charted : CalmJournalsAreCharted
  pub rests : CalmJournalsRest
  pub settled : SettledJournalsRest
  pub timely : TimelyJournalsRest
  pub reported : SettledJournalsReport
  pub timely_reported : TimelyJournalsReport
