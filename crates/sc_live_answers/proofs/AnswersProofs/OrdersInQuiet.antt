-- Where each order is given while nothing else is under way, every request of a client that has started is answered, and the result of each order is reported.
use Rattle.std.proofs.Common.{◌≡◌, true, List, [], ◌∷◌, ◌++◌, map, refl, sym, subst, append-nil}
use Rattle.sc_base.specs.Definitions.{Among, client_actor}
use Rattle.sc_node_table.specs.Values.{OrderLine, Mail, Seat}
use Rattle.sc_actor.specs.declared.schedules.Line.TheVariants.{Told as ToldLine}
use Rattle.sc_actor.specs.Definitions.{System}
use Rattle.sc_node_table.specs.NodeDefinitions.{numbers_from}
use Rattle.sc_paxos_law.proofs.Lemmas.{Among-right}
use Rattle.sc_words.proofs.PaxosProofs.PaxosLemmas.{Each-among, Each-from_All}
use Rattle.sc_live_orderly.proofs.OrderlyLemmas.{holds_when_whole, tidy-calm}
use Rattle.sc_scenario.specs.scenario.Definitions.{ValidScenariosAreBounded, IsBoundedLine}
use Rattle.sc_scenario.specs.declared.scenario.scenarios.SchedLine.TheVariants.{Told}
use Rattle.sc_meaning.specs.sound.SoundDefinitions.{Player, node_seat, births, line_of, schedule, system_of, as_nodes}
use Rattle.sc_law_groups.specs.whole.WholeDefinitions.{ValidJournalsAreSound}
use Rattle.sc_live_steps.specs.calm.CalmDefinitions.{Rows}
use Rattle.sc_live_plain.proofs.PlainLemmas.{stage, map_among, schedule_calm}
use Rattle.sc_live_answers.specs.AnswerDefinitions.{TimelyJournalsRest, TimelyJournalsReport, IsGiven}
use Rattle.sc_live_answers.specs.OrdersInQuiet.{StartedRequestsAreAnswered, OrdersInQuietAreReported}
use Rattle.sc_live_answers.proofs.AnswersProofs.AnsweredRequests.{answered_since}
use Rattle.sc_live_answers.proofs.AnswersProofs.PassedOrders.{given_now, given_stays, order_stands}
use Rattle.sc_live_answers.proofs.ErrandsProofs.ErrandReceivers.{node_seated}

pub started_answered : ValidScenariosAreBounded → ValidJournalsAreSound → TimelyJournalsRest → StartedRequestsAreAnswered
started_answered all_bounded sound_law rest_law words scenario journal valid in_quiet lawful short first others groups asks among gone =
    let s = stage scenario (all_bounded scenario valid) in
    let quiet = rest_law words scenario s.first s.others journal valid in_quiet.lines s.groups_are lawful in_quiet.timely short in_quiet.quiet in
    answered_since sound_law words scenario s journal valid lawful asks among journal [] (sym (append-nil journal)) quiet gone first others groups

pub orders_reported : ValidScenariosAreBounded → TimelyJournalsReport → OrdersInQuietAreReported
orders_reported all_bounded report_law words scenario journal valid in_quiet lawful whole short node order among =
    let s : System Player Mail OrderLine = system_of as_nodes words scenario in
    let home = (Each-among (IsBoundedLine scenario.nodes scenario.clients) scenario.lines (Told node order) (Each-from_All (IsBoundedLine scenario.nodes scenario.clients) scenario.lines (all_bounded scenario valid).lines) among).0 in
    let seat : Seat Player = node_seat as_nodes scenario.groups scenario.policy node in
    let born = node_seated scenario node home in
    let there : Among (ToldLine node order) (schedule scenario) = map_among line_of scenario.lines (Told node order) among in
    let given : IsGiven journal order =
    holds_when_whole s (ToldLine node order) refl (λ (rows : Rows). IsGiven rows order) (given_stays s node order seat born) (given_now s node order seat born) (schedule scenario)
    (λ rows allowed over. absurd (order_stands s node order seat born rows ((tidy-calm s (schedule scenario) rows (schedule_calm scenario.lines in_quiet.lines) allowed).alive node) over)) there journal lawful whole in
    report_law words scenario journal valid in_quiet.lines lawful in_quiet.timely short in_quiet.quiet order given
