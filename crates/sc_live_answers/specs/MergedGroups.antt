-- Where a group goes that is merged, by the logs of a journal.
use Rattle.std.specs.Prelude.{◌≡◌, ℕ, Some}
use Rattle.sc_node_table.specs.Values.{Draw, Offer, Finish, Prepared, Base, Route, Merged}
use Rattle.sc_scenario.specs.declared.scenario.scenarios.Scenario.{Scenario}
use Rattle.sc_meaning.specs.sound.SoundDefinitions.{as_nodes}
use Rattle.sc_live_steps.specs.calm.CalmDefinitions.{Rows}
use Rattle.sc_live_journals.specs.logs.LogDefinitions.{IsGroupOf}
use Rattle.sc_live_answers.specs.AllowedCommands.{IsAllowedBy, sources_of}

-- a group that promised a transaction whose outcome is a merge goes into the group for which the transaction's name was drawn, which is another group
abbrev pub MergesEndAtOwner : Type 0
MergesEndAtOwner =
    (words : ℕ → ℕ → ℕ × ℕ) (scenario : Scenario) (journal : Rows) (base : Base) → IsGroupOf as_nodes words scenario journal base
    → (tx one other : Draw) (offer : Offer) (into : Route) → IsAllowedBy scenario journal one (Prepared tx offer) → IsAllowedBy scenario journal other (Finish tx (Merged into))
    → ((sources_of scenario journal).owner tx ≡ Some into.group) × (into.group ≡ one → ⊥)
