-- The groups of a journal with their decided logs, and the entries of all these logs in one list. An entry of one group's log may create another group, so groups and logs are found together.
use Rattle.std.specs.Prelude.{◌≡◌, ℕ, zero, suc, ◌+◌, Bool, List, [], ◌∷◌, ◌++◌, fold, find, length, drop, if◌then◌else◌, Option, Some, None}
use Rattle.std.specs.List.{flat_map, list_any}
use Rattle.std.specs.Option.{option_map, option_to_list}
use Rattle.sc_base.specs.Definitions.{Each, same_draw}
use Rattle.sc_node_table.specs.Values.{Draw, Command, Base, OrderLine, Mail, Row, Entry}
use Rattle.sc_group_table.specs.machine.MachineDefinitions.{Group, group_of, applied}
use Rattle.sc_meaning.specs.sound.Players.{Ahead}
use Rattle.sc_meaning.specs.declared.entries.Cut.{Cut}
use Rattle.sc_meaning.specs.declared.entries.LogEntry.{LogEntry}
use Rattle.sc_meaning.specs.entries.EntryDefinitions.{birth_of, StoreWorld, world_of}
use Rattle.sc_meaning.specs.sound.Logs.{decided_log, decided_state}

-- ---- the groups

-- the birth records of the children that a log creates, from the group before it
abbrev pub children_of : Group → List Command → List Base
children_of group [] = []
children_of group (command ∷ commands) =
    option_to_list (birth_of group command (applied group command).1) ++ children_of (applied group command).0 commands

-- the birth records of the children that the decided log of a group creates
abbrev pub children_by : Ahead → List (Row Mail OrderLine) → Base → List Base
children_by ahead rows base = children_of (group_of base) (decided_log ahead base rows)

-- whether a birth record is of the group with this name
abbrev pub is_birth_of : Draw → Base → Bool
is_birth_of name base = same_draw base.core.id name

-- the groups, with one more unless its name is there already
abbrev pub with_birth : List Base → Base → List Base
with_birth bases base = if list_any (is_birth_of base.core.id) bases then bases else bases ++ base ∷ []

-- the groups, with the children that their decided logs create
abbrev pub with_next_children : Ahead → List (Row Mail OrderLine) → List Base → List Base
with_next_children ahead rows bases = fold with_birth bases (flat_map (children_by ahead rows) bases)

-- the groups with their descendants of this many generations, which the decided logs create
abbrev pub with_descendants : Ahead → List (Row Mail OrderLine) → ℕ → List Base → List Base
with_descendants ahead rows zero bases = bases
with_descendants ahead rows (suc more) bases = with_next_children ahead rows (with_descendants ahead rows more bases)

-- the groups of a journal, each by its birth record: those of the scenario, the children that their decided logs create, the children of these, and so on. Each birth takes a row of its own, so as many generations as there are rows are enough.
abbrev pub groups_at : Ahead → List Base → List (Row Mail OrderLine) → List Base
groups_at ahead bases rows = with_descendants ahead rows (length rows) bases

-- no two of these groups have one name
abbrev pub AreNamedApart : List Base → Type 0
AreNamedApart [] = Unit {0}
AreNamedApart (base ∷ bases) = Each (λ other. other.core.id ≡ base.core.id → ⊥) bases × AreNamedApart bases

-- ---- their logs

-- the birth record of the group with a name in a journal, if there is such a group yet
abbrev pub birth_at : Ahead → List Base → List (Row Mail OrderLine) → Draw → Option Base
birth_at ahead bases rows name = find (is_birth_of name) (groups_at ahead bases rows)

-- the decided log of the group that was found; empty where none was found
abbrev pub log_by : Ahead → List (Row Mail OrderLine) → Option Base → List Command
log_by ahead rows None = []
log_by ahead rows (Some base) = decided_log ahead base rows

-- the decided log of the group with a name in a journal; empty where there is no such group yet
abbrev pub log_at : Ahead → List Base → List (Row Mail OrderLine) → Draw → List Command
log_at ahead bases rows name = log_by ahead rows (birth_at ahead bases rows name)

-- the state of the group with a name after its decided log, if there is such a group yet
abbrev pub state_at : Ahead → List Base → List (Row Mail OrderLine) → Draw → Option Group
state_at ahead bases rows name = option_map (λ base. decided_state ahead base rows) (birth_at ahead bases rows name)

-- ---- the entries of all logs

-- the commands as entries of a group's log, at the slots from this one on
abbrev pub entries_from : Draw → ℕ → List Command → List LogEntry
entries_from name slot [] = []
entries_from name slot (command ∷ commands) = record { group = name; slot = slot; command = command } ∷ entries_from name (slot + 1) commands

-- the entries by which a longer log goes on after a log
abbrev pub entries_after : Draw → List Command → List Command → List LogEntry
entries_after name log longer = entries_from name (length log + 1) (drop (length log) longer)

-- the entries of a group that are decided after the later rows and not after the earlier ones
abbrev pub entries_gained : Ahead → List Base → List (Row Mail OrderLine) → List (Row Mail OrderLine) → Draw → List LogEntry
entries_gained ahead bases before after name = entries_after name (log_at ahead bases before name) (log_at ahead bases after name)

-- the entries that one more row decides: those of each group, by slot
abbrev pub entries_by_row : Ahead → List Base → List (Row Mail OrderLine) → Row Mail OrderLine → List LogEntry
entries_by_row ahead bases before row =
    flat_map (λ base. entries_gained ahead bases before (before ++ row ∷ []) base.core.id) (groups_at ahead bases (before ++ row ∷ []))

-- the entries that the later rows decide after the earlier ones, row by row
abbrev pub entries_by_rows : Ahead → List Base → List (Row Mail OrderLine) → List (Row Mail OrderLine) → List LogEntry
entries_by_rows ahead bases before [] = []
entries_by_rows ahead bases before (row ∷ rows) = entries_by_row ahead bases before row ++ entries_by_rows ahead bases (before ++ row ∷ []) rows

-- the entries of a journal: those of all logs, in the order of the rows that decide them, and by slot within one row
abbrev pub entries_at : Ahead → List Base → List (Row Mail OrderLine) → List LogEntry
entries_at ahead bases rows = entries_by_rows ahead bases [] rows

-- ---- what the entries make of all groups

-- the world of a journal: what its entries make of the groups of the scenario
abbrev pub world_at : Ahead → List Base → List (Row Mail OrderLine) → StoreWorld
world_at ahead bases rows = world_of bases (entries_at ahead bases rows)

-- the decided ring of a journal
abbrev pub ring_at : Ahead → List Base → List (Row Mail OrderLine) → List Cut
ring_at ahead bases rows = (world_at ahead bases rows).ring

-- the history of a journal: the requests that took effect in any group, in the order of the rows that decide them
abbrev pub history_at : Ahead → List Base → List (Row Mail OrderLine) → List Entry
history_at ahead bases rows = (world_at ahead bases rows).history
