-- Groups go one after another, where at most one more is gone.
use Rattle.std.specs.Prelude.{◌≡◌, ℕ, List, ◌++◌, None, Some}
use Rattle.sc_base.specs.Definitions.{Among}
use Rattle.sc_node_table.specs.Values.{Draw, Route}
use Rattle.sc_scenario.specs.declared.scenario.scenarios.Scenario.{Scenario}
use Rattle.sc_node_table.specs.NodeDefinitions.{ReplicaState}
use Rattle.sc_meaning.specs.sound.SoundDefinitions.{births, as_nodes}
use Rattle.sc_live_steps.specs.calm.CalmDefinitions.{Rows}
use Rattle.sc_live_plain.specs.PlainDefinitions.{replicas_after}
use Rattle.sc_live_journals.specs.charts.ChartDefinitions.{all_replicas, names_at, went_in, GoInTurn}
use Rattle.sc_live_answers.specs.QuietPrefixes.{IsQuietPrefix}
use Rattle.sc_live_answers.specs.Links.{AreAllFree}

-- each group that was gone stays so by the same route; at most one more group is gone, and it went into one that stands; each that is gone has one of the names, and the later names go on from the earlier ones
pub record EndsOnce (names later_names : List Draw) (replicas later : List ReplicaState) (group : Draw) : Type 0 where
  pub more : List Draw
  pub go_on : later_names ≡ names ++ more
  pub named : (other : Draw) (into : Route) → went_in other replicas ≡ Some into → Among other names
  pub here : (other : Draw) (into : Route) → went_in other later ≡ Some into → Among other later_names
  pub stays : (other : Draw) (into : Route) → went_in other replicas ≡ Some into → went_in other later ≡ Some into
  pub others : (other : Draw) (into : Route) → (other ≡ group → ⊥) → went_in other later ≡ Some into → went_in other replicas ≡ Some into
  pub stands : (into : Route) → went_in group replicas ≡ None → went_in group later ≡ Some into → went_in into.group later ≡ None

-- where groups went one after another before, and at most one more went, they still do
abbrev pub TurnsGoOn : Type 0
TurnsGoOn =
    (names later_names : List Draw) (replicas later : List ReplicaState) (group : Draw) (turn : Draw → ℕ) → GoInTurn names replicas turn → EndsOnce names later_names replicas later group → (after : Draw → ℕ) × GoInTurn later_names later after

-- between two prefixes at most this one group went, and if it did, into a group that stands
pub record OnlyOneEnds (scenario : Scenario) (quiet prefix : Rows) (group : Draw) : Type 0 where
  pub others : (name : Draw) (node : ℕ) (r : ReplicaState) (into : Route) → (name ≡ group → ⊥) → replicas_after scenario prefix name node ≡ Some r → r.group.core.gone ≡ Some into
      → (who : ℕ) × (s : ReplicaState) × (old : Route) × (replicas_after scenario quiet name who ≡ Some s) × (s.group.core.gone ≡ Some old)
  pub stands : (node : ℕ) (r : ReplicaState) (into : Route) → ((who : ℕ) (s : ReplicaState) → replicas_after scenario quiet group who ≡ Some s → s.group.core.gone ≡ None)
      → replicas_after scenario prefix group node ≡ Some r → r.group.core.gone ≡ Some into → (who : ℕ) (s : ReplicaState) → replicas_after scenario prefix into.group who ≡ Some s → s.group.core.gone ≡ None

-- groups go one after another in a quiet prefix, where they did in an earlier quiet prefix in which none was locked, and at most one went between the two
abbrev pub PrefixesGoInTurn : Type 0
PrefixesGoInTurn =
    (words : ℕ → ℕ → ℕ × ℕ) (scenario : Scenario) (journal quiet more : Rows) (turn : Draw → ℕ) (group : Draw) → IsQuietPrefix words scenario journal quiet → AreAllFree scenario quiet → IsQuietPrefix words scenario journal (quiet ++ more) → OnlyOneEnds scenario quiet (quiet ++ more) group
    → GoInTurn (names_at (births as_nodes scenario) quiet) (all_replicas (births as_nodes scenario) quiet) turn → (after : Draw → ℕ) × GoInTurn (names_at (births as_nodes scenario) (quiet ++ more)) (all_replicas (births as_nodes scenario) (quiet ++ more)) after

-- each group that is gone in the later prefix was gone in the earlier one
abbrev pub NoGroupEnds : Scenario → Rows → Rows → Type 0
NoGroupEnds scenario quiet prefix = (name : Draw) (node : ℕ) (r : ReplicaState) (into : Route) → replicas_after scenario prefix name node ≡ Some r → r.group.core.gone ≡ Some into
    → (who : ℕ) × (s : ReplicaState) × (old : Route) × (replicas_after scenario quiet name who ≡ Some s) × (s.group.core.gone ≡ Some old)

-- groups go one after another in a quiet prefix, where they did in an earlier quiet prefix in which none was locked, and none went between the two
abbrev pub PrefixesStayInTurn : Type 0
PrefixesStayInTurn =
    (words : ℕ → ℕ → ℕ × ℕ) (scenario : Scenario) (journal quiet more : Rows) (turn : Draw → ℕ) → IsQuietPrefix words scenario journal quiet → AreAllFree scenario quiet → IsQuietPrefix words scenario journal (quiet ++ more) → NoGroupEnds scenario quiet (quiet ++ more)
    → GoInTurn (names_at (births as_nodes scenario) quiet) (all_replicas (births as_nodes scenario) quiet) turn → (after : Draw → ℕ) × GoInTurn (names_at (births as_nodes scenario) (quiet ++ more)) (all_replicas (births as_nodes scenario) (quiet ++ more)) after
