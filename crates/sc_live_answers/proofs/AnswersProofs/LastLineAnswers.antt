-- In a whole journal of a plain scenario whose last line is at the budget, every request of each client that has started is answered.
use Rattle.std.proofs.Common.{◌≡◌, List, [], ◌∷◌, ◌++◌, map, refl, sym, ◌∙◌, ap, subst, append-nil, inl}
use Rattle.std.proofs.lemmas.List.{map-append}
use Rattle.sc_base.specs.Definitions.{Among, client_actor}
use Rattle.sc_node_table.specs.Values.{OrderLine, Mail, Seat, Line}
use Rattle.sc_actor.specs.declared.schedules.Line.TheVariants as line
use Rattle.sc_actor.specs.Definitions.{System}
use Rattle.sc_node_table.specs.NodeDefinitions.{numbers_from}
use Rattle.sc_paxos_law.proofs.Lemmas.{Among-right}
use Rattle.sc_live_orderly.proofs.OrderlyLemmas.{started_when_whole, plain_in_time, seat_found}
use Rattle.sc_scenario.specs.scenario.Definitions.{ValidScenariosAreBounded}
use Rattle.sc_scenario.specs.declared.scenario.scenarios.SchedLine.TheVariants.{Go}
use Rattle.sc_meaning.specs.sound.SoundDefinitions.{Player, node_seat, client_seat, route_of, births, line_of, schedule, system_of, as_nodes}
use Rattle.sc_law_groups.specs.whole.WholeDefinitions.{ValidJournalsAreSound}
use Rattle.sc_live_plain.specs.PlainDefinitions.{LastLinesEndQuiet, LastLinesAnswer}
use Rattle.sc_live_plain.proofs.PlainLemmas.{stage, map_among, all_plain, lines_plain, plain_lines_calm}
use Rattle.sc_live_answers.specs.AnswerDefinitions.{TimelyJournalsRest}
use Rattle.sc_live_answers.proofs.AnswersProofs.AnsweredRequests.{answered_since}

pub last_lines_answer : ValidScenariosAreBounded → ValidJournalsAreSound → LastLinesEndQuiet → TimelyJournalsRest → LastLinesAnswer
last_lines_answer all_bounded sound_law quiet_law rest_law words scenario journal valid ends lawful whole short first others groups asks a served =
    let s = stage scenario (all_bounded scenario valid) in
    let sys : System Player Mail OrderLine = system_of as_nodes words scenario in
    let plain = all_plain scenario ends in
    let timely = plain_in_time sys (schedule scenario) (lines_plain 0 scenario.lines plain) journal lawful in
    let quiet = rest_law words scenario s.first s.others journal valid (plain_lines_calm 0 scenario plain).lines s.groups_are lawful timely short (quiet_law words scenario journal valid ends lawful whole) in
    let seat : Seat Player = client_seat (route_of s.first) asks in
    let there : Among seat (births as_nodes scenario) =
    subst (Among seat) (sym s.seats) (Among-right seat (map (node_seat as_nodes scenario.groups scenario.policy) (numbers_from 1 scenario.nodes)) (map (client_seat (route_of s.first)) scenario.clients) (map_among (client_seat (route_of s.first)) scenario.clients asks a)) in
    let born = seat_found (births as_nodes scenario) seat s.seats_apart there in
    let lines : map line_of served.before ++ line.Go (client_actor asks.client) ∷ map line_of served.after ≡ schedule scenario = sym (ap (map line_of) served.lines_are ∙ map-append line_of served.before (Go asks.client ∷ served.after)) in
    let reported : Among (line.Go (client_actor asks.client)) (schedule scenario) = subst (λ (ls : List (Line OrderLine)). Among (line.Go (client_actor asks.client)) ls) lines (Among-right (line.Go (client_actor asks.client)) (map line_of served.before) (line.Go (client_actor asks.client) ∷ map line_of served.after) (inl refl)) in
    let gone = started_when_whole sys (client_actor asks.client) seat born (schedule scenario) reported journal lawful whole in
    answered_since sound_law words scenario s journal valid lawful asks a journal [] (sym (append-nil journal)) quiet gone first others groups
