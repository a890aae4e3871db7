-- A line of requests in a lawful journal leaves it quiet.
use Rattle.std.proofs.Common.{◌≡◌, ◌∷◌, ◌++◌, sym, ◌∙◌, subst}
use Rattle.sc_node_table.specs.Values.{Base}
use Rattle.sc_actor.proofs.Lemmas.{lawful-prefix}
use Rattle.sc_meaning.specs.sound.SoundDefinitions.{schedule, system_of, as_nodes}
use Rattle.sc_scenario.specs.scenario.Definitions.{ValidScenariosAreBounded}
use Rattle.sc_live_plain.specs.PlainDefinitions.{IsAsking, replicas_after, setting_at, IsQuietJournal, Setting}
use Rattle.sc_live_plain.proofs.PlainLemmas.{quiet_ask, stage}
use Rattle.sc_live_answers.specs.AnswerDefinitions.{LawfulJournalsHaveOneLog, LawfulLinesLeaveQuiet, HaveOneLog, LinesLeaveReplicasQuiet, LinesLeaveQuiet}
use Rattle.sc_live_answers.proofs.RequestsProofs.RequestLineEnds.{line_ends}

pub lawful_leave : ValidScenariosAreBounded → LawfulJournalsHaveOneLog → LinesLeaveReplicasQuiet → LinesLeaveQuiet → LawfulLinesLeaveQuiet
lawful_leave all_bounded one replicas journals words scenario first others before after frames ways valid groups q s up linked seated requests none lawful =
    let begins = stage scenario (all_bounded scenario valid) in
    let same : first ≡ begins.first = (let e : first ∷ others ≡ begins.first ∷ begins.others = sym groups ∙ begins.groups_are in cc) in
    let set : Setting = setting_at (replicas_after scenario before) frames ways in
    let asks = quiet_ask all_bounded words scenario first others before frames ways valid groups q s up in
    let q_ = subst (λ (f : Base). IsQuietJournal words scenario f before) same q in
    let j_ = subst (λ (f : Base). IsAsking words scenario set f before) same asks.1 in
    let end = line_ends words scenario begins before after frames ways q_ s asks.0 linked j_ requests in
    let one_before : HaveOneLog (replicas_after scenario before) = one words scenario before valid (lawful-prefix (system_of as_nodes words scenario) (schedule scenario) before after lawful) (λ group node h. seated.homes group node (record { r = h.0; is_there = h.1 })) in
    let one_after : HaveOneLog (replicas_after scenario (before ++ after)) = one words scenario (before ++ after) valid lawful (λ group node h. seated.homes group node (end.1.homes group node h.0 h.1)) in
    let all = replicas words scenario first others before after frames ways valid groups q s up linked seated requests none one_before one_after in
    (journals words scenario first others before after frames ways valid groups q s up linked seated requests none one_before one_after, all.may_pump)
