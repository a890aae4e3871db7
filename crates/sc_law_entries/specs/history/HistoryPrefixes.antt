-- What the notes of a group's log, after each prefix of it, say of the history of all entries.
use Rattle.std.specs.Prelude.{◌≡◌, List, ◌++◌, map, Some}
use Rattle.std.specs.List.{filter}
use Rattle.sc_base.specs.Definitions.{same_draw}
use Rattle.sc_base.specs.declared.names.Draw.{Draw}
use Rattle.sc_words.specs.declared.commands.commands.Command.{Command}
use Rattle.sc_words.specs.declared.commands.cores.Base.{Base}
use Rattle.sc_group_table.specs.machine.MachineDefinitions.{Group, state_after}
use Rattle.sc_meaning.specs.declared.entries.LogEntry.{LogEntry}
use Rattle.sc_meaning.specs.entries.EntryDefinitions.{StoreWorld, named_group, world_after, world_of}
use Rattle.sc_law_entries.specs.history.Moves.{HasNotes}
use Rattle.sc_law_entries.specs.history.Worlds.{LogNotesStay}

-- the log of the group with a name, out of the entries of all logs
abbrev pub log_in : Draw → List LogEntry → List Command
log_in name entries = map (λ (entry : LogEntry). entry.command) (filter (λ (entry : LogEntry). same_draw entry.group name) entries)

-- whatever the entries are, each group that was there before them is after them as its own log makes it
abbrev pub LogsMakeStates : Type 0
LogsMakeStates = (world : StoreWorld) (name : Draw) (group : Group) → named_group name world.groups ≡ Some group → (entries : List LogEntry)
    → named_group name (world_after world entries).groups ≡ Some (state_after group (log_in name entries))

-- what a group's log made it note after each prefix, counted from where the group was there, has its entry in the history of all entries
abbrev pub PrefixNotesStay : List Base → List LogEntry → Type 0
PrefixNotesStay bases entries = (born rest : List LogEntry) → entries ≡ born ++ rest → (name : Draw) (group : Group) → named_group name (world_of bases born).groups ≡ Some group
    → (prefix later : List Command) → log_in name rest ≡ prefix ++ later → HasNotes (world_of bases entries).history (state_after group prefix).clients

-- where the notes of all logs stay in the history, those after each prefix of each log do: a replica that has executed a prefix of its group's log, and answers by it, answers by the history
abbrev pub PrefixesAnswerByHistory : Type 0
PrefixesAnswerByHistory = (bases : List Base) (entries : List LogEntry) → LogNotesStay bases entries → PrefixNotesStay bases entries
