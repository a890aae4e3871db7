-- What holds of a quiet prefix of a calm journal that rests.
use Rattle.std.specs.Prelude.{◌≡◌, ℕ, ◌+◌, ◌≤◌, true, Some}
use Rattle.sc_base.specs.Definitions.{Among, is_member}
use Rattle.sc_node_table.specs.Values.{Draw, Base}
use Rattle.sc_actor.specs.Definitions.{is_quiet}
use Rattle.sc_live_orderly.specs.OrderlyDefinitions.{orders}
use Rattle.sc_scenario.specs.declared.scenario.scenarios.Scenario.{Scenario}
use Rattle.sc_node_table.specs.NodeDefinitions.{ReplicaState}
use Rattle.sc_meaning.specs.sound.SoundDefinitions.{groups_at, births, as_nodes}
use Rattle.sc_live_steps.specs.calm.CalmDefinitions.{players, HasReplica, Rows}
use Rattle.sc_live_journals.specs.rows.RowDefinitions.{view_at}
use Rattle.sc_live_steps.specs.orders.OrderDefinitions.{Still, IsAt}
use Rattle.sc_live_journals.specs.scenes.SceneDefinitions.{scene_at, IsThere}
use Rattle.sc_live_journals.specs.charts.ChartDefinitions.{names_at, all_replicas, GoInTurn}
use Rattle.sc_live_plain.specs.PlainDefinitions.{IsQuietJournal, replicas_after}
use Rattle.sc_live_answers.specs.QuietRanges.{AreKnown}
use Rattle.sc_live_answers.specs.EqualReplicas.{AllMayPump}
use Rattle.sc_live_answers.specs.Settings.{AreReachable}
use Rattle.sc_live_journals.specs.logs.LogDefinitions.{logged_sets}
use Rattle.sc_live_answers.specs.SlotLeaders.{slot_leaders_at}
use Rattle.sc_live_answers.specs.HintInvariant.{IsRisingOn}
use Rattle.sc_live_answers.specs.CalmJournals.{IsPrefixOf, AreSent}

-- a prefix of a calm journal rests: no mail is pending after it, and it is a quiet journal; all groups are well led, the first members of each that has a replica have one, and no part of an order is left; links and routes name nodes that have replicas; all replicas may pump; rounds are at least 1 and at most one more than the number of orders given; hints rise; and groups went one after another
pub record RestsAt (words : ℕ → ℕ → ℕ × ℕ) (scenario : Scenario) (first : Base) (journal quiet : Rows) : Type 0 where
  pub prefix : IsPrefixOf journal quiet
  pub calm : is_quiet (players words (births as_nodes scenario)) quiet ≡ true
  pub fact : IsQuietJournal words scenario first quiet
  pub sent : AreSent words scenario journal quiet
  pub members : (base : Base) → Among base (groups_at as_nodes scenario.groups journal) → IsThere (births as_nodes scenario) quiet base.core.id
      → (node : ℕ) → is_member base.core.members node ≡ true → HasReplica (view_at (births as_nodes scenario) quiet) base.core.id node
  pub still : IsAt Still (scene_at (births as_nodes scenario) quiet)
  pub known : AreKnown scenario quiet
  pub reach : AreReachable (replicas_after scenario quiet)
  pub pumps : AllMayPump (replicas_after scenario quiet)
  pub rounds : (name : Draw) (node : ℕ) (r : ReplicaState) → view_at (births as_nodes scenario) quiet name node ≡ Some r → (1 ≤ r.top.round) × (r.top.round ≤ orders quiet + 1)
  pub rising : (base : Base) (among : Among base (groups_at as_nodes scenario.groups journal)) → IsRisingOn (logged_sets as_nodes base journal) (slot_leaders_at as_nodes scenario base journal) words (births as_nodes scenario) quiet base (sent base among).course
  pub turn : Draw → ℕ
  pub turns : GoInTurn (names_at (births as_nodes scenario) quiet) (all_replicas (births as_nodes scenario) quiet) turn
