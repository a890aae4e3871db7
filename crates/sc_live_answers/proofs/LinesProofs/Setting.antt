-- The setting that a quiet prefix gives.
use Rattle.std.proofs.Common.{◌≡◌, ℕ, ◌-◌, ◌≤◌, true, Option, List, ◌∷◌, Some, None, refl, sym, ◌∙◌, ap, subst}
use Rattle.std.specs.Prelude.{slice_get, unwrap_or}
use Rattle.sc_base.specs.Definitions.{Among, is_member}
use Rattle.sc_node_table.specs.Values.{Draw, Base}
use Rattle.sc_actor.specs.Definitions.{is_quiet}
use Rattle.sc_actor.proofs.Lemmas.{lawful-prefix}
use Rattle.sc_node_table.specs.NodeDefinitions.{ReplicaState, next, members}
use Rattle.sc_scenario.specs.declared.scenario.scenarios.Scenario.{Scenario}
use Rattle.sc_scenario.specs.scenario.Definitions.{ValidScenariosAreBounded}
use Rattle.sc_meaning.specs.sound.SoundDefinitions.{world_at, births, schedule, system_of, as_nodes, Lawful}
use Rattle.sc_live_steps.specs.calm.CalmDefinitions.{players, StandsQuiet, Rows}
use Rattle.sc_live_journals.specs.charts.ChartDefinitions.{quiet_prefix}
use Rattle.sc_live_answers.proofs.AnswersProofs.Segments.{prefix_whole}
use Rattle.sc_live_plain.specs.PlainDefinitions.{IsAsking, NobodyWaits, AreSeated, replicas_after, DoHintsRise, AreFramesOf, QuietJournalsAsk, frame_at_rest, IsLinkedSetting, Setting, IsSetting, Frame}
use Rattle.sc_live_answers.specs.AnswerDefinitions.{AreReached, QuietGroupsHaveCuts, AreOfCuts, StandingGroupsAreRound, frames_after, AreAtNodes, QuietJournalsHaveFrames, QuietSettingsAreLinked, IsCalmJournal, IsPrefixOf, RestsAt, ChartHintsRise, setting_of, IsKnownPrefix}
use Rattle.sc_paxos_law.proofs.Lemmas.{place_among}

-- the first rows of a lawful journal are one
pub prefix_lawful : (words : ℕ → ℕ → ℕ × ℕ) (scenario : Scenario) (journal rows : Rows) → Lawful as_nodes words scenario journal → IsPrefixOf journal rows → Lawful as_nodes words scenario rows
prefix_lawful words scenario journal rows lawful prefix = lawful-prefix (system_of as_nodes words scenario) (schedule scenario) rows prefix.more (subst (Lawful as_nodes words scenario) prefix.fact lawful)

-- a quiet prefix is its own last quiet prefix
pub own_prefix : (words : ℕ → ℕ → ℕ × ℕ) (scenario : Scenario) (quiet : Rows) → is_quiet (players words (births as_nodes scenario)) quiet ≡ true → quiet_prefix (players words (births as_nodes scenario)) quiet ≡ quiet
own_prefix words scenario quiet still = prefix_whole (players words (births as_nodes scenario)) quiet still

module _ (all_bounded : ValidScenariosAreBounded) (frames_law : QuietJournalsHaveFrames) (rise_law : ChartHintsRise) (ask_law : QuietJournalsAsk) (cuts_law : QuietGroupsHaveCuts) (round_law : StandingGroupsAreRound) (linked_law : QuietSettingsAreLinked) (words : ℕ → ℕ → ℕ × ℕ) (scenario : Scenario) (first : Base) (others : List Base)
    (far sent : ℕ) (journal quiet : Rows) (calm : IsCalmJournal words scenario journal) (groups : scenario.groups ≡ first ∷ others) (rests : RestsAt words scenario first journal quiet) (known : IsKnownPrefix words scenario journal quiet far) where
  abbrev at : Draw → ℕ → Option ReplicaState
  at = replicas_after scenario quiet

  abbrev set : Setting
  set = setting_of words scenario far sent quiet

  pub lawful : Lawful as_nodes words scenario quiet
  lawful = prefix_lawful words scenario journal quiet calm.lawful rests.prefix

  pub homes : AreAtNodes scenario quiet
  homes = known.homes quiet rests.prefix

  pub frames : AreFramesOf at (frames_after scenario quiet)
  frames = frames_law words scenario first quiet calm.valid lawful rests.fact homes

  abbrev prefix_own : quiet_prefix (players words (births as_nodes scenario)) quiet ≡ quiet
  prefix_own = own_prefix words scenario quiet rests.calm

  risen : DoHintsRise at set.ways × AreReached set
  risen = rise_law words scenario first others journal quiet quiet far sent (frames_after scenario quiet) calm.valid groups lawful rests homes prefix_own known.room frames

  pub rise : DoHintsRise at set.ways
  rise = risen.0

  pub reached : AreReached set
  reached = risen.1

  asks : IsSetting set × IsAsking words scenario set first quiet × NobodyWaits scenario first quiet
  asks = ask_law words scenario first others quiet (frames_after scenario quiet) set.ways calm.valid groups rests.fact frames rise

  pub is_setting : IsSetting set
  is_setting = asks.0

  pub asking : IsAsking words scenario set first quiet
  asking = asks.1

  pub waits : NobodyWaits scenario first quiet
  waits = asks.2

  cuts : AreOfCuts (world_at as_nodes scenario.groups quiet) (frames_after scenario quiet)
  cuts = cuts_law words scenario first quiet (frames_after scenario quiet) known.one known.logs rests.known rests.fact frames

  pub linked : IsLinkedSetting set
  linked =
      linked_law at (frames_after scenario quiet) set.ways frames rests.reach (λ group q. (rests.fact.kept group q.lead.me q.lead q.newest.is_there).name_is)
      (λ frame a. round_law (world_at as_nodes scenario.groups quiet) set known.one.covers known.one.placed cuts frame a)

  pub seated : AreSeated scenario set
  seated = record {
    homes = λ group node home. homes group node (home.r, home.is_there);
    voters = λ frame slot node a m. voter frame slot node a m;
  }
    where
      voter : (frame : Frame) (slot node : ℕ) → Among frame set.frames → is_member (frame.at slot) node ≡ true → (1 ≤ node) × (node ≤ scenario.nodes)
      voter frame slot node a m =
          let f = frames.are frame a in
          of f.0 f.1 (subst (λ (x : Frame). is_member (x.at slot) node ≡ true) (sym f.2) m)
        where
          of : (group : Draw) (q : StandsQuiet at group) → is_member ((frame_at_rest q.lead).at slot) node ≡ true → (1 ≤ node) × (node ≤ scenario.nodes)
          of group q n = by (slice_get q.lead.sets (slot - next q.lead)) refl
            where
              by : (o : Option (List ℕ)) → slice_get q.lead.sets (slot - next q.lead) ≡ o → (1 ≤ node) × (node ≤ scenario.nodes)
              by None e = (let u = q.member node (sym (ap (λ x. is_member (unwrap_or x (members q.lead)) node) e) ∙ n) in homes group node (u.0, u.1))
              by (Some voters) e = (let u = q.voter voters node (place_among q.lead.sets (slot - next q.lead) voters e) (sym (ap (λ x. is_member (unwrap_or x (members q.lead)) node) e) ∙ n) in homes group node (u.0, u.1))
