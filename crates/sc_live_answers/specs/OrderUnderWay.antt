-- What holds while an order is under way since a quiet prefix of a calm journal.
use Rattle.std.specs.Prelude.{◌≡◌, ℕ, true, List, Some, None, ◌⊎◌}
use Rattle.sc_base.specs.Definitions.{Among, Each}
use Rattle.sc_node_table.specs.Values.{Base, Seat}
use Rattle.sc_live_orderly.specs.OrderlyDefinitions.{is_born, rest}
use Rattle.sc_scenario.specs.declared.scenario.scenarios.Scenario.{Scenario}
use Rattle.sc_node_table.specs.NodeDefinitions.{group_of_mail, born_replica, slots_ahead}
use Rattle.sc_meaning.specs.sound.SoundDefinitions.{groups_at, Player, births, as_nodes}
use Rattle.sc_live_steps.specs.calm.CalmDefinitions.{players, Rows}
use Rattle.sc_live_journals.specs.rows.RowDefinitions.{view_at}
use Rattle.sc_live_steps.specs.orders.OrderDefinitions.{Stage}
use Rattle.sc_live_journals.specs.scenes.SceneDefinitions.{IsNowhere, AreUntouched}
use Rattle.sc_live_answers.specs.GuidedGroups.{IsReachedSo}
use Rattle.sc_live_answers.specs.CalmJournals.{IsPrefixOf, AreSent}
use Rattle.sc_live_answers.specs.RestingPrefixes.{RestsAt}

-- a group is young: each of its replicas is as at birth, and no mail of it is under way
pub record IsYoungAt (words : ℕ → ℕ → ℕ × ℕ) (births : List (Seat Player)) (rows : Rows) (base : Base) : Type 0 where
  pub born : (who : ℕ) → (view_at births rows base.core.id who ≡ None) ⊎ (view_at births rows base.core.id who ≡ Some (born_replica slots_ahead who base))
  pub unsent : (who : ℕ) → is_born (players words births) who ≡ true → Each (λ mail. group_of_mail mail.body ≡ Some base.core.id → ⊥) (rest (players words births) rows who)

-- since a quiet prefix that rests an order is at a stage, and groups that have no part in it are as they were; all groups are well led, each that has a replica has one with its newest state; and groups that had no replica in the quiet prefix are young
pub record IsUnder (words : ℕ → ℕ → ℕ × ℕ) (scenario : Scenario) (first : Base) (journal quiet rows : Rows) : Type 0 where
  pub rests : RestsAt words scenario first journal quiet
  pub prefix : IsPrefixOf journal rows
  pub sent : AreSent words scenario journal rows
  pub reached : (base : Base) (fact : Among base (groups_at as_nodes scenario.groups journal)) → IsReachedSo (births as_nodes scenario) rows base (sent base fact).course
  pub stage : Stage
  pub untouched : AreUntouched words (births as_nodes scenario) quiet rows stage
  pub young : (base : Base) → Among base (groups_at as_nodes scenario.groups journal) → IsNowhere (births as_nodes scenario) quiet base.core.id → IsYoungAt words (births as_nodes scenario) rows base
