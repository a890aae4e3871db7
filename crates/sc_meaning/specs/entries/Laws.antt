-- The law of births.
use Rattle.std.specs.Prelude.{◌≡◌}
use Rattle.sc_words.specs.declared.commands.commands.Command.{Command}
use Rattle.sc_group_table.specs.machine.MachineDefinitions.{child_by, Group, applied}
use Rattle.sc_meaning.specs.entries.Births.{birth_of}

-- the child that the machine's table makes for a command is the group that the entry's effect creates
abbrev pub BirthsAreChildren : Type 0
BirthsAreChildren = (group : Group) (command : Command) → child_by group command ≡ birth_of group command (applied group command).1
