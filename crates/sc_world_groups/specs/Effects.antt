-- The effect of an entry on its group.
use Rattle.std.specs.Prelude.{Option}
use Rattle.std.specs.Option.{option_map}
use Rattle.sc_words.specs.declared.commands.effects.Effect.{Effect}
use Rattle.sc_group_table.specs.machine.Machine.{applied}
use Rattle.sc_meaning.specs.entries.Worlds.{StoreWorld, named_group}
use Rattle.sc_meaning.specs.declared.entries.LogEntry.{LogEntry}

-- the effect of an entry on its group as the world has it, if the group was created
abbrev pub effect_in : StoreWorld → LogEntry → Option Effect
effect_in world entry = option_map (λ group. (applied group entry.command).1) (named_group entry.group world.groups)
