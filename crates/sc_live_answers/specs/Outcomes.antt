-- A participant can carry out the outcome that the logs of a journal give its transaction.
use Rattle.std.specs.Prelude.{◌≡◌, ℕ, false, List, Some, None}
use Rattle.std.specs.FinMap.{get}
use Rattle.sc_node_table.specs.Values.{Draw, Offer, Finish, Prepared, RecordVote, Base, Frozen, Outcome}
use Rattle.sc_words.specs.declared.commands.votes.Vote.TheVariants as Vows
use Rattle.sc_words.specs.ideal.IdealDefinitions.{holds_key}
use Rattle.sc_group_table.specs.machine.MachineDefinitions.{participant_after, Group, frozen_of}
use Rattle.sc_law_entries.specs.ring.RingDefinitions.{unsigned}
use Rattle.sc_scenario.specs.declared.scenario.scenarios.Scenario.{Scenario}
use Rattle.sc_meaning.specs.sound.SoundDefinitions.{as_nodes}
use Rattle.sc_live_steps.specs.calm.CalmDefinitions.{Rows}
use Rattle.sc_live_journals.specs.logs.LogDefinitions.{IsGroupOf}
use Rattle.sc_live_answers.specs.AllowedCommands.{IsAllowedBy}

-- all pairs of the group lie on its arc
abbrev pub HasOwnKeys : Group → Type 0
HasOwnKeys group = (key : List ℕ) → holds_key group.core.arc key ≡ false → get group.pairs key ≡ None

-- a participant can carry out this outcome, if it was offered this, has handed over this frozen state, and its pairs lie on its arc
abbrev pub IsTakenBy : Outcome → Offer → Frozen → Type 0
IsTakenBy outcome offer frozen = (group : Group) (own : Offer) → frozen_of group ≡ frozen → unsigned own ≡ offer → HasOwnKeys group → (after : Group) × (participant_after outcome group own ≡ Some after)

-- a participant can carry out each outcome that the logs of a lawful journal allow for its transaction
abbrev pub OutcomesAreTaken : Type 0
OutcomesAreTaken =
    (words : ℕ → ℕ → ℕ × ℕ) (scenario : Scenario) (journal : Rows) (base : Base) → IsGroupOf as_nodes words scenario journal base
    → (tx one two three : Draw) (outcome : Outcome) (offer : Offer) (frozen : Frozen) (by : ℕ) → IsAllowedBy scenario journal one (Finish tx outcome) → IsAllowedBy scenario journal two (Prepared tx offer)
    → IsAllowedBy scenario journal three (RecordVote tx (Vows.Yes frozen) by) → IsTakenBy outcome (unsigned offer) frozen
