-- Each replica that runs after some rows of a calm journal leads its group alone, where all groups are well led.
use Rattle.std.proofs.Common.{◌≡◌, ℕ, true, Some, ◌∙◌, ap, subst}
use Rattle.sc_node_table.specs.Values.{Draw}
use Rattle.sc_node_table.specs.NodeDefinitions.{ReplicaState, name_of}
use Rattle.sc_scenario.specs.scenario.Definitions.{ValidScenariosAreBounded}
use Rattle.sc_scenario.specs.declared.scenario.scenarios.Scenario.{Scenario}
use Rattle.sc_meaning.specs.sound.SoundDefinitions.{births, as_nodes}
use Rattle.sc_live_steps.specs.calm.CalmDefinitions.{Rows}
use Rattle.sc_live_journals.specs.rows.RowDefinitions.{view_at}
use Rattle.sc_live_journals.specs.scenes.SceneDefinitions.{LeadsAlone}
use Rattle.sc_live_answers.specs.AnswerDefinitions.{LawfulReplicasAreNamedOnce, WellLedLeadAlone, IsCalmJournal, IsPrefixOf, AreSent, AllLeadAlone, PrefixesAreFound, ViewsAgree}
use Rattle.sc_live_answers.proofs.LedGroupsProofs.GuidedGroups.{named_there}
use Rattle.sc_live_answers.proofs.ReplicasProofs.PlayerReplicas.{place_of}

module _ (all_bounded : ValidScenariosAreBounded) (found_law : PrefixesAreFound) (alone_law : WellLedLeadAlone) (once_law : LawfulReplicasAreNamedOnce) (agree_law : ViewsAgree)
    (words : ℕ → ℕ → ℕ × ℕ) (scenario : Scenario) (journal rows : Rows) (calm : IsCalmJournal words scenario journal) (prefix : IsPrefixOf journal rows) (sent : AreSent words scenario journal rows) where
  -- of each name
  pub leads_at : (name : Draw) (node : ℕ) (r : ReplicaState) → view_at (births as_nodes scenario) rows name node ≡ Some r → r.running ≡ true → LeadsAlone (births as_nodes scenario) rows name node r
  leads_at name node r e runs =
      let g = named_there found_law words scenario journal rows calm prefix name (node, r, e) in
      let t = sent g.0 g.1 in
      subst (λ n. LeadsAlone (births as_nodes scenario) rows n node r) g.2 (alone_law.alone _ _ _ words (births as_nodes scenario) rows g.0 t.course node r t.led (ap (λ n. view_at (births as_nodes scenario) rows n node) g.2 ∙ e) runs).0

  -- of each player
  pub all_lead : AllLeadAlone (births as_nodes scenario) rows
  all_lead r a runs =
      let f = found_law words scenario journal rows calm prefix in
      let p = place_of all_bounded once_law agree_law words scenario rows calm.valid f.lawful f.homes r a in
      (p.0, leads_at (name_of r) p.0 r p.1 runs)
