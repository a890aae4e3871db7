-- How every valid scenario begins.
use Rattle.std.specs.Prelude.{◌≡◌, Option, None}
use Rattle.sc_node_table.specs.Values.{Draw}
use Rattle.sc_node_table.specs.NodeDefinitions.{slots_ahead}
use Rattle.sc_meaning.specs.sound.SoundDefinitions.{Ahead}
use Rattle.sc_scenario.specs.scenario.Definitions.{IsValid}
use Rattle.sc_scenario.specs.declared.scenario.scenarios.Scenario.{Scenario}
use Rattle.sc_law_groups.specs.whole.Begins.{IsReady, section_op}

-- each valid scenario is ready, with the requests of its clients' sections, for any owners of names that own no name of the scenario's groups
abbrev pub ValidScenariosBeginWell : Type 0
ValidScenariosBeginWell = (owner : Draw → Option Draw) → ((name : Draw) → name.node ≡ 0 → owner name ≡ None) → (ahead : Ahead) → ahead.slots ≡ slots_ahead
    → (scenario : Scenario) → IsValid scenario → IsReady (record { owner = owner; request = section_op scenario }) ahead scenario
