-- What the budget of a calm scenario covers, and where its lines of deliveries end quiet: what is known of births, lines and orders, put together.
use Rattle.sc_live_answers.proofs.AnswersProofs.AllowedOrders.{orders_so}
use Rattle.sc_scenario.proofs.ScenarioProofs.Lemmas.{valid_scenarios_are_bounded}
use Rattle.sc_live_plain.proofs.PlainLemmas.{calm_lines_are_spaced, plain_lines_end_quiet}
use Rattle.sc_live_answers.specs.GivenOrders.{OrdersMayBeGiven}
use Rattle.sc_live_answers.proofs.AnswersProofs.LineEnds.{calm_end_quiet}
use Rattle.sc_live_steps.proofs.CalmStepsProofs.CalmStepLemmas.{kept_calm_ends_quiet}
use Rattle.sc_live_answers.specs.AnswerDefinitions.{CalmLinesEndQuiet, QuietJournalsBegin, CalmJournalsAreShort}
use Rattle.sc_live_answers.proofs.QuietProofs.QuietBeginnings.{journals_begin}
use Rattle.sc_live_answers.proofs.AnswersProofs.ShortJournals.{journals_short}

-- In each lawful journal of a valid calm scenario each order that is given is one for a node of the scenario's, which names nodes and positions that there are.
pub orders_may_be_given : OrdersMayBeGiven
orders_may_be_given = orders_so valid_scenarios_are_bounded

-- In each lawful journal of a valid calm scenario at its budget no line of deliveries is cut off, where there are charts by which each row finds what it needs and quiet journals rest.
pub calm_lines_end_quiet : CalmLinesEndQuiet
calm_lines_end_quiet = calm_end_quiet valid_scenarios_are_bounded calm_lines_are_spaced kept_calm_ends_quiet plain_lines_end_quiet

-- Before the first row of a valid scenario all is quiet: each group is led by its first member, and each of its members is up to date, no client has started, and no mail is left.
pub quiet_journals_begin : QuietJournalsBegin
quiet_journals_begin = journals_begin valid_scenarios_are_bounded

-- A journal of a valid calm scenario at its budget has few rows, so slots and rounds are left in each: its budget is no more than a line may deliver, and so it gives few orders.
pub calm_journals_are_short : CalmJournalsAreShort
calm_journals_are_short = journals_short valid_scenarios_are_bounded calm_lines_are_spaced
