-- The groups of a scenario have replicas at their first members in each prefix of a calm journal.
use Rattle.std.specs.Prelude.{◌≡◌, ℕ, true, List, ◌∷◌}
use Rattle.sc_base.specs.Definitions.{Among, is_member, least_of}
use Rattle.sc_node_table.specs.Values.{Base}
use Rattle.sc_scenario.specs.declared.scenario.scenarios.Scenario.{Scenario}
use Rattle.sc_meaning.specs.sound.SoundDefinitions.{route_of}
use Rattle.sc_live_steps.specs.calm.CalmDefinitions.{HasReplica, Rows}
use Rattle.sc_live_plain.specs.PlainDefinitions.{replicas_after}
use Rattle.sc_live_answers.specs.CalmJournals.{IsCalmJournal, IsPrefixOf}

-- in each prefix of a calm journal each first member of a group of the scenario has a replica of it, and so has the node that clients ask first
pub record FirstGroupsAreReached : Type 0 where
  pub members : (words : ℕ → ℕ → ℕ × ℕ) (scenario : Scenario) (journal prefix : Rows) (base : Base) → IsCalmJournal words scenario journal → IsPrefixOf journal prefix → Among base scenario.groups
      → (node : ℕ) → is_member base.core.members node ≡ true → HasReplica (replicas_after scenario prefix) base.core.id node
  pub first : (words : ℕ → ℕ → ℕ × ℕ) (scenario : Scenario) (journal prefix : Rows) (first : Base) (others : List Base) → IsCalmJournal words scenario journal → IsPrefixOf journal prefix → scenario.groups ≡ first ∷ others
      → HasReplica (replicas_after scenario prefix) (route_of first).group (least_of (route_of first).members)
