-- Nothing is under way before the first row of a scenario.
use Rattle.std.specs.Prelude.{[]}
use Rattle.sc_scenario.specs.scenario.Definitions.{IsBounded}
use Rattle.sc_scenario.specs.declared.scenario.scenarios.Scenario.{Scenario}
use Rattle.sc_meaning.specs.sound.SoundDefinitions.{births, as_nodes}
use Rattle.sc_live_steps.specs.orders.OrderDefinitions.{IsAt, Still}
use Rattle.sc_live_journals.specs.scenes.JournalScenes.{scene_at}

-- At the birth of a bounded scenario the stage is `Still`: all groups are free, no leader has work, and no mail is under way.
abbrev pub ScenariosBeginStill : Type 0
ScenariosBeginStill = (scenario : Scenario) → IsBounded scenario → IsAt Still (scene_at (births as_nodes scenario) [])
