-- What comes of a request, by what holds requests back.
use Rattle.std.specs.Prelude.{ℕ, Option, Some, None}
use Rattle.sc_base.specs.declared.names.Draw.{Draw}
use Rattle.sc_base.specs.declared.ops.Op.{Op}
use Rattle.sc_words.specs.declared.commands.effects.Effect.{Effect}
use Rattle.sc_words.specs.declared.commands.effects.Effect.TheVariants.{NoEffect}
use Rattle.sc_group_table.specs.machine.MachineDefinitions.{Group, served}

-- what comes of a request to a group that is not gone, by the transaction that holds requests back, if one does
abbrev pub called_under : Option Draw → Group → ℕ → ℕ → Op → Group × Effect
called_under None group client seq op = served group client seq op
called_under (Some tx) group client seq op = (group, NoEffect tx)
