-- Why rows of a scenario are not replayed.
use Rattle.std.specs.Prelude.{ℕ, List, ⊤}
use Rattle.sc_words.specs.declared.commands.orders.OrderLine.{OrderLine}
use Rattle.sc_mail.specs.declared.bodies.Mail.{Mail}
use Rattle.sc_actor.specs.declared.rows.Row.{Row}
use Rattle.sc_scenario.specs.declared.scenario.scenarios.Scenario.{Scenario}
use Rattle.sc_world_replay.specs.Replays.{IsBadRow as IsBadRowOf}
use Rattle.sc_meaning.specs.sound.Players.{system_of, schedule, as_nodes}
use Rattle.sc_world.specs.declared.replaying.ReplayError.{ReplayError}
use Rattle.sc_world.specs.declared.replaying.ReplayError.TheVariants.{BadRow, OutOfMemory}
use Rattle.sc_texts.specs.chance.KeyStream.{two_words}

-- the row with this number, from 1, is the first that is not lawful for a scenario
abbrev pub IsBadRow : Scenario → List (Row Mail OrderLine) → ℕ → Type 0
IsBadRow scenario rows at = IsBadRowOf (system_of as_nodes two_words scenario) (schedule scenario) rows at

-- why rows are not replayed: the named row is the first that is not lawful; out of memory has no condition
abbrev pub IsReplayError : Scenario → List (Row Mail OrderLine) → ReplayError → Type 0
IsReplayError scenario rows (BadRow at) = IsBadRow scenario rows at
IsReplayError scenario rows OutOfMemory = ⊤
