-- A client that has not started is sent on no more often than there are names: it knows one group alone.
use Rattle.std.proofs.Common.{◌≡◌, ℕ, ◌≤◌, List, [], ◌∷◌, ◌++◌, length, refl, sym, ◌∙◌, subst, arith, append-nil}
use Rattle.sc_node_table.specs.Values.{Draw, Base}
use Rattle.sc_client_table.specs.declared.lookup.ways.Way.{Way}
use Rattle.sc_scenario.specs.scenario.Definitions.{ValidScenariosAreBounded}
use Rattle.sc_scenario.specs.declared.scenario.scenarios.Scenario.{Scenario}
use Rattle.sc_node_table.specs.NodeDefinitions.{ReplicaState}
use Rattle.sc_meaning.specs.sound.SoundDefinitions.{births, as_nodes}
use Rattle.sc_live_steps.specs.calm.CalmDefinitions.{Chart, players, sent_on, Rows}
use Rattle.sc_live_journals.specs.charts.ChartDefinitions.{all_replicas, chart_at, names_at, reach_in, LedStandOnce, quiet_prefix}
use Rattle.sc_live_plain.specs.PlainDefinitions.{IsAsking, AreRequests, AreSeated, QuietJournalsAsk, IsLinkedSetting, Setting, IsSetting}
use Rattle.sc_live_plain.proofs.PlainLemmas.{IsStage, stage, Journal}
use Rattle.sc_live_answers.specs.AnswerDefinitions.{QuietGroupsHaveCuts, KnowOne, IsCalmJournal, ChartHintsRise, PrefixesAreFound, IsQuietPrefix, ClientsAreNear, setting_of, IsKnownPrefix, IsRequested, RestsAt, StandingGroupsAreRound, AreNear, QuietJournalsHaveFrames, QuietSettingsAreLinked, LawfulReplicasAreNamedOnce, QuietJournalsKnowOne}
use Rattle.sc_live_answers.proofs.RestProofs.GoneGroupsInPrefixes.{gone_named}
use Rattle.sc_live_answers.proofs.RequestsProofs.RequestLineClients.{line_keeps, fresh_row}
use Rattle.sc_live_answers.proofs.ReplicasProofs.NameLists.{sent_few}
use Rattle.sc_live_answers.proofs.LinesProofs.Setting as quiet_of

-- ---- one that has not started knows one group still

module _ (words : ℕ → ℕ → ℕ × ℕ) (scenario : Scenario) (begins : IsStage scenario) (set : Setting) (fact : IsSetting set) (linked : IsLinkedSetting set) (seated : AreSeated scenario set) where
  knows_still : (before after : Journal) → AreRequests words scenario set before after → IsAsking words scenario set begins.first before → KnowOne scenario begins.first before → KnowOne scenario begins.first (before ++ after)
  knows_still before after requests j fresh =
      (line_keeps words scenario begins set fact linked (KnowOne scenario begins.first)
      (λ rows t k room row o h. fresh_row words scenario begins set fact linked seated rows t k room (λ asks client. (entry : Draw × Way) × (client.known ≡ entry ∷ [])) row o h) before after requests [] after refl
      (subst (λ (l : Journal). IsAsking words scenario set begins.first l × KnowOne scenario begins.first l) (sym (append-nil before)) (j, fresh))).1

module _ (all_bounded : ValidScenariosAreBounded) (named_law : LawfulReplicasAreNamedOnce) (led_once : LedStandOnce) (found_law : PrefixesAreFound) (frames_law : QuietJournalsHaveFrames) (rise_law : ChartHintsRise) (ask_law : QuietJournalsAsk) (cuts_law : QuietGroupsHaveCuts) (round_law : StandingGroupsAreRound)
    (linked_law : QuietSettingsAreLinked) (know_one : QuietJournalsKnowOne) (words : ℕ → ℕ → ℕ × ℕ) (scenario : Scenario) (first : Base) (others : List Base) (far sent : ℕ) (journal quiet after : Rows) (calm : IsCalmJournal words scenario journal) (groups : scenario.groups ≡ first ∷ others)
    (rests : RestsAt words scenario first journal quiet) (known : IsKnownPrefix words scenario journal quiet far) (asked : IsRequested words scenario first far sent quiet after) (own : quiet_prefix (players words (births as_nodes scenario)) (quiet ++ after) ≡ quiet)
    (few : length (names_at (births as_nodes scenario) quiet) ≤ sent) where
  abbrev set : Setting
  set = setting_of words scenario far sent quiet

  abbrev chart : Chart
  chart = chart_at far sent (players words (births as_nodes scenario)) (quiet ++ after)

  abbrev names : List Draw
  names = names_at (births as_nodes scenario) quiet

  abbrev all : List ReplicaState
  all = all_replicas (births as_nodes scenario) quiet

  knows : KnowOne scenario first (quiet ++ after)
  knows =
      let begins = stage scenario (all_bounded scenario calm.valid) in
      let same : first ≡ begins.first = (let e : first ∷ others ≡ begins.first ∷ begins.others = sym groups ∙ begins.groups_are in cc) in
      subst (λ (f : Base). KnowOne scenario f (quiet ++ after)) (sym same)
      (knows_still words scenario begins set
      (quiet_of.is_setting all_bounded frames_law rise_law ask_law cuts_law round_law linked_law words scenario first others far sent journal quiet calm groups rests known)
      (quiet_of.linked all_bounded frames_law rise_law ask_law cuts_law round_law linked_law words scenario first others far sent journal quiet calm groups rests known)
      (quiet_of.seated all_bounded frames_law rise_law ask_law cuts_law round_law linked_law words scenario first others far sent journal quiet calm groups rests known)
      quiet after asked.requests
      (subst (λ (f : Base). IsAsking words scenario set f quiet) same (quiet_of.asking all_bounded frames_law rise_law ask_law cuts_law round_law linked_law words scenario first others far sent journal quiet calm groups rests known))
      (subst (λ (f : Base). KnowOne scenario f quiet) same (know_one words scenario first quiet rests.fact)))

  is_quiet_prefix : IsQuietPrefix words scenario journal quiet
  is_quiet_prefix = record { calm = calm; begins = rests.prefix; quiet = rests.calm; sent = rests.sent }

  one_near : (entry : Draw × Way) → sent_on (reach_in sent names all) (entry ∷ []) ≤ sent
  one_near entry = (let low = sent_few names all rests.turn rests.turns (gone_named all_bounded named_law led_once found_law words scenario journal quiet is_quiet_prefix) sent entry in omega (arith, low, few))

  near : AreNear scenario chart first (quiet ++ after)
  near asks client a fact gone =
      let one = knows asks client a gone fact in
      subst (λ q. sent_on (reach_in sent (names_at (births as_nodes scenario) q) (all_replicas (births as_nodes scenario) q)) client.known ≤ sent) (sym own)
      (subst (λ k. sent_on (reach_in sent names all) k ≤ sent) (sym one.1) (one_near one.0))

pub clients_near : ValidScenariosAreBounded → LawfulReplicasAreNamedOnce → LedStandOnce → PrefixesAreFound → QuietJournalsHaveFrames → ChartHintsRise → QuietJournalsAsk → QuietGroupsHaveCuts → StandingGroupsAreRound → QuietSettingsAreLinked → QuietJournalsKnowOne → ClientsAreNear
clients_near all_bounded named_law led_once found_law frames_law rise_law ask_law cuts_law round_law linked_law know_one words scenario first others far sent journal quiet after calm groups rests known asked own few =
    near all_bounded named_law led_once found_law frames_law rise_law ask_law cuts_law round_law linked_law know_one words scenario first others far sent journal quiet after calm groups rests known asked own few
