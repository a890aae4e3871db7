-- What the logs of a journal name was drawn, where each command is allowed by the owners of names.
use Rattle.std.specs.Prelude.{◌≡◌, ℕ, ◌≤◌, ◌++◌, Some}
use Rattle.sc_base.specs.Definitions.{Among, Each}
use Rattle.sc_node_table.specs.Values.{Draw, Op, Command, Base}
use Rattle.sc_meaning.specs.sound.SoundDefinitions.{Ahead, Lawful, decided_log}
use Rattle.sc_law_entries.specs.ring.RingDefinitions.{IsAllowed, draw_of, Stories}
use Rattle.sc_scenario.specs.declared.scenario.scenarios.Scenario.{Scenario}
use Rattle.sc_law_entries.specs.names.Fresh.{BeginsUndrawn}
use Rattle.sc_law_entries.specs.names.NameLaws.{IsDrawn}
use Rattle.sc_law_entries.specs.names.Owners.{Rows, owner_in}

-- a Begin or a Split that is allowed in the log of a group brings a name that a node drew for the group: no group of a scenario has it
abbrev pub AllowedNamesAreDrawn : Type 0
AllowedNamesAreDrawn = (ahead : Ahead) (scenario : Scenario) (rows : Rows) (request : ℕ → ℕ → Op) (stories : Stories) (group : Draw) (command : Command) (name : Draw)
    → IsAllowed (record { owner = owner_in ahead scenario rows; request = request }) stories group command → draw_of command ≡ Some name → IsDrawn ahead scenario rows name group × (1 ≤ name.node)

-- the name of a Begin or a Split in a log after these rows, where it is allowed by the owners of these and more rows, was drawn for its group in these rows
abbrev pub LoggedNamesAreDrawn : Type 0
LoggedNamesAreDrawn = (ahead : Ahead) (words : ℕ → ℕ → ℕ × ℕ) (scenario : Scenario) → Each BeginsUndrawn scenario.groups → (rows more : Rows) → Lawful ahead words scenario rows
    → (base : Base) (command : Command) → Among command (decided_log ahead base rows) → (request : ℕ → ℕ → Op) (stories : Stories) (group name : Draw)
    → IsAllowed (record { owner = owner_in ahead scenario (rows ++ more); request = request }) stories group command → draw_of command ≡ Some name → IsDrawn ahead scenario rows name group

-- what is allowed by the owners of some rows is allowed by those of more rows
abbrev pub MoreOwnersAllow : Type 0
MoreOwnersAllow = (ahead : Ahead) (scenario : Scenario) (rows more : Rows) (request : ℕ → ℕ → Op) (stories : Stories) (group : Draw) (command : Command)
    → IsAllowed (record { owner = owner_in ahead scenario rows; request = request }) stories group command → IsAllowed (record { owner = owner_in ahead scenario (rows ++ more); request = request }) stories group command
