-- A quiet prefix of a calm journal rests, where its players are as `IsQuietJournal` says.
use Rattle.std.specs.Prelude.{◌≡◌, ℕ, ◌+◌, ◌≤◌, List, ◌∷◌, ◌++◌, Some}
use Rattle.sc_base.specs.Definitions.{Each, Among}
use Rattle.sc_node_table.specs.Values.{Draw, Base}
use Rattle.sc_actor.specs.Definitions.{mails}
use Rattle.sc_live_orderly.specs.OrderlyDefinitions.{orders}
use Rattle.sc_scenario.specs.declared.scenario.scenarios.Scenario.{Scenario}
use Rattle.sc_node_table.specs.NodeDefinitions.{ReplicaState}
use Rattle.sc_meaning.specs.sound.SoundDefinitions.{births, as_nodes, groups_at}
use Rattle.sc_live_steps.specs.calm.CalmDefinitions.{Rows}
use Rattle.sc_live_journals.specs.rows.RowDefinitions.{view_at}
use Rattle.sc_live_journals.specs.scenes.SceneDefinitions.{GoesToActor}
use Rattle.sc_live_journals.specs.charts.ChartDefinitions.{names_at, all_replicas, GoInTurn}
use Rattle.sc_live_plain.specs.PlainDefinitions.{IsQuietJournal}
use Rattle.sc_live_answers.specs.QuietPrefixes.{IsQuietPrefix}
use Rattle.sc_live_journals.specs.logs.LogDefinitions.{logged_sets}
use Rattle.sc_live_answers.specs.SlotLeaders.{slot_leaders_at}
use Rattle.sc_live_answers.specs.HintInvariant.{IsRisingOn}
use Rattle.sc_live_answers.specs.CalmJournals.{AreSent}
use Rattle.sc_live_answers.specs.RestingPrefixes.{RestsAt}
use Rattle.sc_live_answers.specs.RequestInvariant.{IsKnownPrefix, IsRequested}

-- mail of transactions went to players, no replica saw a later round than one more than the number of orders given, hints rise, and groups went one after another
pub record RestsBesides (words : ℕ → ℕ → ℕ × ℕ) (scenario : Scenario) (journal prefix : Rows) (sent : AreSent words scenario journal prefix) : Type 0 where
  pub errands : Each (GoesToActor words (births as_nodes scenario)) (mails prefix)
  pub rounds : (name : Draw) (node : ℕ) (r : ReplicaState) → view_at (births as_nodes scenario) prefix name node ≡ Some r → r.top.round ≤ orders prefix + 1
  pub rising : (base : Base) (among : Among base (groups_at as_nodes scenario.groups journal)) → IsRisingOn (logged_sets as_nodes base journal) (slot_leaders_at as_nodes scenario base journal) words (births as_nodes scenario) prefix base (sent base among).course
  pub turn : Draw → ℕ
  pub turns : GoInTurn (names_at (births as_nodes scenario) prefix) (all_replicas (births as_nodes scenario) prefix) turn

-- a quiet prefix rests, where it is a quiet journal and is as `RestsBesides` says
abbrev pub QuietJournalsRest : Type 0
QuietJournalsRest =
    (words : ℕ → ℕ → ℕ × ℕ) (scenario : Scenario) (first : Base) (journal prefix : Rows) → (q : IsQuietPrefix words scenario journal prefix) → IsQuietJournal words scenario first prefix → RestsBesides words scenario journal prefix q.sent → RestsAt words scenario first journal prefix

-- a quiet prefix behind one that rests, with requests alone between the two, rests where it is as `RestsBesides` says
abbrev pub RequestsLeaveResting : Type 0
RequestsLeaveResting =
    (words : ℕ → ℕ → ℕ × ℕ) (scenario : Scenario) (first : Base) (others : List Base) (far sent : ℕ) (journal quiet after : Rows) → scenario.groups ≡ first ∷ others → RestsAt words scenario first journal quiet → IsKnownPrefix words scenario journal quiet far
    → IsRequested words scenario first far sent quiet after → (q : IsQuietPrefix words scenario journal (quiet ++ after)) → RestsBesides words scenario journal (quiet ++ after) q.sent → RestsAt words scenario first journal (quiet ++ after)
