-- How often a client that has not started is sent on, and how many names of groups there are.
use Rattle.std.specs.Prelude.{◌≡◌, ℕ, ◌+◌, ◌≤◌, List, [], ◌∷◌, ◌++◌, length, ◌⊎◌}
use Rattle.sc_node_table.specs.Values.{Draw, Base, OrderLine, Mail, Seat, Row, Event}
use Rattle.sc_live_orderly.specs.OrderlyDefinitions.{orders}
use Rattle.sc_scenario.specs.declared.scenario.scenarios.Scenario.{Scenario}
use Rattle.sc_meaning.specs.sound.SoundDefinitions.{Player, births, as_nodes}
use Rattle.sc_live_steps.specs.calm.CalmDefinitions.{players, Rows}
use Rattle.sc_live_journals.specs.rows.RowDefinitions.{with_event}
use Rattle.sc_live_journals.specs.charts.ChartDefinitions.{chart_at, names_at, quiet_prefix}
use Rattle.sc_live_journals.specs.scenes.SceneDefinitions.{IsThere}
use Rattle.sc_live_answers.specs.CreatedGroups.{AreCreatedByOrder}
use Rattle.sc_live_answers.specs.CalmJournals.{IsCalmJournal, IsPrefixOf}
use Rattle.sc_live_answers.specs.RequestInvariant.{IsKnownPrefix, IsRequested}
use Rattle.sc_live_answers.specs.RestingPrefixes.{RestsAt}
use Rattle.sc_live_answers.specs.RequestRows.{AreNear}
use Rattle.sc_live_answers.specs.OrderTasks.{Task}

-- while clients ask alone since a quiet prefix that rests, a client that has not started is sent on no more often than the chart allows, where that is at least the number of names of groups
abbrev pub ClientsAreNear : Type 0
ClientsAreNear =
    (words : ℕ → ℕ → ℕ × ℕ) (scenario : Scenario) (first : Base) (others : List Base) (far sent : ℕ) (journal quiet after : Rows) → IsCalmJournal words scenario journal → scenario.groups ≡ first ∷ others → RestsAt words scenario first journal quiet
    → IsKnownPrefix words scenario journal quiet far → IsRequested words scenario first far sent quiet after → quiet_prefix (players words (births as_nodes scenario)) (quiet ++ after) ≡ quiet → length (names_at (births as_nodes scenario) quiet) ≤ sent
    → AreNear scenario (chart_at far sent (players words (births as_nodes scenario)) (quiet ++ after)) first (quiet ++ after)

-- after these rows there are no more names of groups than groups of the scenario and orders given
abbrev pub HasFewNames : Scenario → Rows → Type 0
HasFewNames scenario rows = length (names_at (births as_nodes scenario) rows) ≤ length scenario.groups + orders rows

-- the names of groups are those of the quiet prefix, or these and the name that the order draws
abbrev pub HasNamesSince : List (Seat Player) → Rows → Rows → Task → Type 0
HasNamesSince births quiet rows task = (names_at births rows ≡ names_at births quiet) ⊎ (names_at births rows ≡ names_at births quiet ++ task.name ∷ [])

-- there are few names at the births, requests add none, an order adds at most the name of its child, and so there are few in the next quiet journal
pub record NamesStayFew : Type 0 where
  pub born : (words : ℕ → ℕ → ℕ × ℕ) (scenario : Scenario) (journal : Rows) → IsCalmJournal words scenario journal → HasFewNames scenario []
  pub asked : (words : ℕ → ℕ → ℕ × ℕ) (scenario : Scenario) (first : Base) (journal quiet rows : Rows) (row : Row Mail OrderLine) → IsCalmJournal words scenario journal → RestsAt words scenario first journal quiet
      → ((name : Draw) → IsThere (births as_nodes scenario) (rows ++ row ∷ []) name → IsThere (births as_nodes scenario) quiet name)
      → names_at (births as_nodes scenario) rows ≡ names_at (births as_nodes scenario) quiet → names_at (births as_nodes scenario) (rows ++ row ∷ []) ≡ names_at (births as_nodes scenario) quiet
  pub begins : (births : List (Seat Player)) (quiet : Rows) (task : Task) → HasNamesSince births quiet quiet task
  pub goes_on : (words : ℕ → ℕ → ℕ × ℕ) (scenario : Scenario) (first : Base) (journal quiet rows : Rows) (seat : Seat Player) (event : Event OrderLine) (task : Task) → IsCalmJournal words scenario journal → RestsAt words scenario first journal quiet
      → IsPrefixOf journal (with_event rows seat event) → AreCreatedByOrder scenario journal quiet (with_event rows seat event) task
      → HasNamesSince (births as_nodes scenario) quiet rows task → HasNamesSince (births as_nodes scenario) quiet (with_event rows seat event) task
  pub over : (scenario : Scenario) (quiet rows : Rows) (task : Task) → HasNamesSince (births as_nodes scenario) quiet rows task → orders rows ≡ orders quiet + 1 → HasFewNames scenario quiet → HasFewNames scenario rows
