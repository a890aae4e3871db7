-- The world: what the entries of all logs make of all groups, entry by entry.
use Rattle.std.specs.Prelude.{◌≡◌, Bool, List, [], ◌++◌, map, fold, find, if◌then◌else◌, Option, Some, None}
use Rattle.std.specs.Option.{option_to_list}
use Rattle.sc_base.specs.Definitions.{same_draw}
use Rattle.sc_base.specs.declared.names.Draw.{Draw}
use Rattle.sc_words.specs.declared.commands.commands.Command.{Command}
use Rattle.sc_words.specs.declared.commands.cores.Base.{Base}
use Rattle.sc_words.specs.declared.commands.effects.Effect.{Effect}
use Rattle.sc_words.specs.declared.ideal.Entry.{Entry}
use Rattle.sc_group_table.specs.machine.MachineDefinitions.{Group, group_of, entry_of, applied}
use Rattle.sc_meaning.specs.entries.Births.{birth_of}
use Rattle.sc_meaning.specs.declared.entries.Cut.{Cut}
use Rattle.sc_meaning.specs.declared.entries.LogEntry.{LogEntry}
use Rattle.sc_meaning.specs.declared.entries.Transaction.{Transaction}
use Rattle.sc_meaning.specs.entries.Decisions.{transactions_after}
use Rattle.sc_meaning.specs.entries.Rings.{Covers, first_cut, ring_after}

-- all groups, transactions, the ring and the history after a list of entries
pub record StoreWorld : Type 0 where
  -- each group that was created, as its own log makes it
  pub groups : List Group
  -- each transaction that was begun
  pub transactions : List Transaction
  -- the decided ring
  pub ring : List Cut
  -- the requests that took effect
  pub history : List Entry

-- the world before any entry: the groups of a scenario
abbrev pub first_world : List Base → StoreWorld
first_world bases = record { groups = map group_of bases; transactions = []; ring = map first_cut bases; history = [] }

-- whether a group has this name
abbrev pub is_named : Draw → Group → Bool
is_named name group = same_draw group.core.id name

-- the group with a name, if there is one
abbrev pub named_group : Draw → List Group → Option Group
named_group name = find (is_named name)

-- the groups, with the one of this name replaced
abbrev pub with_group : Draw → Group → List Group → List Group
with_group name after = map (λ group. if is_named name group then after else group)

-- the groups after an entry of one group's log, by that group before and after it, with the child that the entry creates, if any
abbrev pub groups_after : Group → Group → Option Base → List Group → List Group
groups_after group after child groups = with_group group.core.id after groups ++ map group_of (option_to_list child)

-- the world after an entry of a group's log, by the group before it and what the machine's table makes of the group
abbrev pub with_result : StoreWorld → Group → Command → Group × Effect → StoreWorld
with_result world group command result = record {
  groups = groups_after group result.0 (birth_of group command result.1) world.groups;
  transactions = transactions_after group.core command result.1 world.transactions;
  ring = ring_after group.core command result.1 world.ring;
  history = world.history ++ entry_of command result.1;
}

-- the world after a command of the group that was found; where no group was found it stays as it is
abbrev pub after_command : StoreWorld → Option Group → Command → StoreWorld
after_command world None command = world
after_command world (Some group) command = with_result world group command (applied group command)

-- the world after one entry
abbrev pub recorded : StoreWorld → LogEntry → StoreWorld
recorded world entry = after_command world (named_group entry.group world.groups) entry.command

-- the world after a list of entries, in their order
abbrev pub world_after : StoreWorld → List LogEntry → StoreWorld
world_after = fold recorded

-- the world that a list of entries makes of the groups of a scenario
abbrev pub world_of : List Base → List LogEntry → StoreWorld
world_of bases = world_after (first_world bases)

-- the ring covers after each prefix of the entries
abbrev pub CoverThroughout : List Base → List LogEntry → Type 0
CoverThroughout bases entries = (before later : List LogEntry) → entries ≡ before ++ later → Covers (world_of bases before).ring
