-- Laws that follow from lemmas of this crate and of those below.
use Rattle.sc_live_plain.proofs.BudgetProofs.PlainLineEnds.{ends_quiet}
use Rattle.sc_scenario.proofs.ScenarioProofs.Lemmas.{valid_scenarios_are_bounded}
use Rattle.sc_live_plain.specs.PlainDefinitions.{PlainLinesEndQuiet, RequestsGoOn, QuietJournalsAsk}
use Rattle.sc_live_plain.proofs.CalmProofs.RequestPhaseClients.{go_on}
use Rattle.sc_live_plain.proofs.CalmProofs.RequestsAfterQuiet.{quiet_ask}

-- In each lawful journal of a valid plain scenario at its budget no line of deliveries is cut off: each ends with no mail pending, whatever the order in which threads deliver, as long as each actor takes its mail in ascending order of number, which lawful journals of such schedules do.
pub plain_lines_end_quiet : PlainLinesEndQuiet
plain_lines_end_quiet = ends_quiet valid_scenarios_are_bounded

-- Between two orders, while clients ask alone, each row that comes in order keeps all of it: calm nodes and clients, calm mail, and what stands between the leader of each group and its nodes.
pub requests_go_on : RequestsGoOn
requests_go_on = go_on valid_scenarios_are_bounded

-- From a quiet journal on clients may ask: its replicas give the frames of all groups that stand, and all that holds while clients ask alone.
pub quiet_journals_ask : QuietJournalsAsk
quiet_journals_ask = quiet_ask valid_scenarios_are_bounded
