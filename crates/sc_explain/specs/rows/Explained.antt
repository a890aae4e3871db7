-- What each row of a journal decided, line by line: what the entries, the history, the groups and the ring are with the row, and were not before it.
use Rattle.std.specs.Prelude.{ℕ, ◌+◌, Bool, not, List, [], ◌∷◌, ◌++◌, length, map, drop, if◌then◌else◌}
use Rattle.std.specs.List.{filter, flat_map, list_any}
use Rattle.std.specs.Option.{option_map, option_to_list}
use Rattle.sc_actor.specs.declared.rows.Row.{Row}
use Rattle.sc_words.specs.declared.commands.cores.Base.{Base}
use Rattle.sc_words.specs.declared.commands.orders.OrderLine.{OrderLine}
use Rattle.sc_explain.specs.facts.Facts.{birth_line, entry_line, history_line, record_line, record_of, ring_group_line, ring_group_of, ring_line}
use Rattle.sc_explain.specs.facts.Sameness.{same_record, same_ring, same_ring_group}
use Rattle.sc_explain.specs.declared.facts.facts.GroupRecord.{GroupRecord}
use Rattle.sc_explain.specs.declared.facts.facts.RingGroup.{RingGroup}
use Rattle.sc_meaning.specs.declared.entries.Cut.{Cut}
use Rattle.sc_meaning.specs.declared.entries.LogEntry.{LogEntry}
use Rattle.sc_meaning.specs.entries.Effective.{effective}
use Rattle.sc_meaning.specs.entries.Worlds.{StoreWorld, first_world, recorded}
use Rattle.sc_group_table.specs.machine.Group.{Group}
use Rattle.sc_mail.specs.declared.bodies.Mail.{Mail}
use Rattle.sc_meaning.specs.sound.GroupsOf.{entries_by_row, world_at}
use Rattle.sc_meaning.specs.sound.Players.{Ahead}
use Rattle.sc_world_groups.specs.Effects.{effect_in}

-- ---- what is said of the groups of a world

-- what is said of each group that was created, by its own log
abbrev pub records_in : StoreWorld → List GroupRecord
records_in world = map (λ group. record_of group.core) world.groups

-- what is said of the group of a cut by its effective record, if it was created
abbrev pub ring_group_in : StoreWorld → Cut → List RingGroup
ring_group_in world cut = option_to_list (option_map (ring_group_of cut.group) (effective world cut.group))

-- what is said of each group of the ring by its effective record, in the order of the ring
abbrev pub ring_groups_in : StoreWorld → List RingGroup
ring_groups_in world = flat_map (ring_group_in world) world.ring

-- ---- what changed

-- the items of the second list that have no same one in the first
abbrev pub changed : {X : Type 0} → (X → X → Bool) → List X → List X → List X
changed same before after = filter (λ x. not (list_any (same x) before)) after

-- ---- the lines of one row

-- the line of the creation of a group, with its members as they are after the row
abbrev pub birth_of_group : ℕ → Group → List ℕ
birth_of_group row group = birth_line row group.core.id group.core.members

-- the lines of entries, each with its effect on its group as the group was before the entry
abbrev pub entry_lines : ℕ → StoreWorld → List LogEntry → List (List ℕ)
entry_lines row world [] = []
entry_lines row world (entry ∷ entries) = entry_line row entry (effect_in world entry) ∷ entry_lines row (recorded world entry) entries

-- the line of the ring, where it is another than before
abbrev pub ring_lines : ℕ → List Cut → List Cut → List (List ℕ)
ring_lines row before after = if same_ring before after then [] else ring_line row after ∷ []

-- the lines of a row, by the world before it, the entries that it decides, and the world with it: groups that are new, entries, what the history has more, records that changed, groups of the ring that changed, and the ring, if it changed
abbrev pub row_lines : ℕ → StoreWorld → List LogEntry → StoreWorld → List (List ℕ)
row_lines row before entries after =
    map (birth_of_group row) (drop (length before.groups) after.groups)
    ++ entry_lines row before entries
    ++ map (history_line row) (drop (length before.history) after.history)
    ++ map (record_line row) (changed same_record (records_in before) (records_in after))
    ++ map (ring_group_line row) (changed same_ring_group (ring_groups_in before) (ring_groups_in after))
    ++ ring_lines row before.ring after.ring

-- ---- the lines of all rows

-- the world before the beginning, which has nothing
abbrev pub no_world : StoreWorld
no_world = record { groups = []; transactions = []; ring = []; history = [] }

-- the lines of some rows, where these rows were before them
abbrev pub lines_from : Ahead → List Base → List (Row Mail OrderLine) → List (Row Mail OrderLine) → List (List ℕ)
lines_from ahead bases before [] = []
lines_from ahead bases before (row ∷ rows) =
    row_lines (length before + 1) (world_at ahead bases before) (entries_by_row ahead bases before row) (world_at ahead bases (before ++ row ∷ []))
    ++ lines_from ahead bases (before ++ row ∷ []) rows

-- what the rows of a journal decided, line by line; row 0 stands for the beginning
abbrev pub explained : Ahead → List Base → List (Row Mail OrderLine) → List (List ℕ)
explained ahead bases rows = row_lines 0 no_world [] (first_world bases) ++ lines_from ahead bases [] rows
