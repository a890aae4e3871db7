-- No mail of a group goes to a number that is no player.
use Rattle.std.specs.Prelude.{◌≡◌, ℕ, true, false, []}
use Rattle.sc_base.specs.Definitions.{Among, is_member}
use Rattle.sc_node_table.specs.Values.{Draw, Base}
use Rattle.sc_live_orderly.specs.OrderlyDefinitions.{is_born}
use Rattle.sc_scenario.specs.declared.scenario.scenarios.Scenario.{Scenario}
use Rattle.sc_meaning.specs.sound.SoundDefinitions.{groups_at, births, as_nodes}
use Rattle.sc_live_steps.specs.calm.CalmDefinitions.{players, Rows}
use Rattle.sc_live_journals.specs.rows.RowDefinitions.{marks_at}
use Rattle.sc_live_answers.specs.CalmJournals.{IsCalmJournal, IsPrefixOf, AreSent}

-- after a prefix of a calm journal whose groups are well led, no mail of any group is for a number that is no player; and first members of groups are players
pub record NoMailForStrangers : Type 0 where
  pub strangers : (words : ℕ → ℕ → ℕ × ℕ) (scenario : Scenario) (journal prefix : Rows) → IsCalmJournal words scenario journal → IsPrefixOf journal prefix → AreSent words scenario journal prefix
      → (name : Draw) (who : ℕ) → is_born (players words (births as_nodes scenario)) who ≡ false → marks_at (players words (births as_nodes scenario)) prefix name who ≡ []
  pub born : (words : ℕ → ℕ → ℕ × ℕ) (scenario : Scenario) (journal : Rows) → IsCalmJournal words scenario journal
      → (base : Base) → Among base (groups_at as_nodes scenario.groups journal) → (who : ℕ) → is_member base.core.members who ≡ true → is_born (players words (births as_nodes scenario)) who ≡ true
