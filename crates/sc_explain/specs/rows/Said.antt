-- What was said last of a world, and what becomes of a world by the entries of a row.
use Rattle.std.specs.Prelude.{◌≡◌, ℕ, Bool, true, false, cond, List, [], ◌∷◌, ◌++◌, length, Some}
use Rattle.std.specs.List.{list_any}
use Rattle.sc_base.specs.Definitions.{same_draw}
use Rattle.sc_base.specs.declared.names.Draw.{Draw}
use Rattle.sc_words.specs.declared.commands.cores.Lock.{Lock}
use Rattle.sc_words.specs.declared.commands.cores.Lock.TheVariants.{Free, Coordinating, Promised, Watching}
use Rattle.sc_group_table.specs.machine.MachineDefinitions.{Group}
use Rattle.sc_world_entries.specs.declared.decided.deciding.DecidingRow.{DecidingRow}
use Rattle.sc_explain.specs.declared.facts.facts.RingGroup.{RingGroup}
use Rattle.sc_meaning.specs.declared.entries.LogEntry.{LogEntry}
use Rattle.sc_meaning.specs.declared.entries.Transaction.{Transaction}
use Rattle.sc_meaning.specs.entries.EntryDefinitions.{StoreWorld, effective_by, named_group, world_after, HaveArcs}
use Rattle.sc_explain.specs.declared.rows.said.Said.{Said}
use Rattle.sc_explain.specs.rows.Explained.{entry_lines, records_in, ring_groups_in, row_lines}

-- What was said last is what is said of this world.
pub record IsSaidOf (world : StoreWorld) (said : Said) : Type 0 where
  pub births : said.births ≡ length world.groups
  pub history : said.history ≡ length world.history
  pub records : said.records.items ≡ records_in world
  pub groups : said.groups.items ≡ ring_groups_in world
  pub ring : said.ring.items ≡ world.ring

-- A world has taken these entries, and these are their lines; where `groups` is what was said of the groups of the ring before, `later` is what is said of them after.
pub record HasTaken (row : ℕ) (before : StoreWorld) (entries : List LogEntry) (groups : List RingGroup) (after : StoreWorld) (lines : List (List ℕ)) (later : List RingGroup) : Type 0 where
  pub world : after ≡ world_after before entries
  pub lines_are : lines ≡ entry_lines row before entries
  pub groups_are : groups ≡ ring_groups_in before → later ≡ ring_groups_in after

-- a group with this lock is what its own log makes of it, whatever other groups have decided
abbrev pub IsByLog : Lock → Type 0
IsByLog lock = (transactions : List Transaction) (group : Group) → effective_by lock transactions group ≡ group

-- each group that is found by its name is so, but those with one of these names
abbrev pub AreByLog : List Group → List Draw → Type 0
AreByLog groups bound = (name : Draw) (group : Group) → named_group name groups ≡ Some group → list_any (same_draw name) bound ≡ false → IsByLog group.core.lock

-- another group may have decided something of a group with this lock: it has promised, or watches
abbrev pub is_bound : Lock → Bool
is_bound Free = false
is_bound (Coordinating tx body order heard) = false
is_bound (Promised tx offer) = true
is_bound (Watching tx watch) = true

-- the names of the groups of which another group may have decided something
abbrev pub bound_names : List Group → List Draw
bound_names [] = []
bound_names (group ∷ groups) = cond (is_bound group.core.lock) (group.core.id ∷ bound_names groups) (bound_names groups)

-- each cut of the ring is an arc after each prefix of the entries
abbrev pub HaveArcsThroughout : StoreWorld → List LogEntry → Type 0
HaveArcsThroughout world entries = (before later : List LogEntry) → entries ≡ before ++ later → HaveArcs (world_after world before).ring

-- the lines of rows that decide entries, where this world was before them
abbrev pub lines_by : StoreWorld → List DecidingRow → List (List ℕ)
lines_by world [] = []
lines_by world (deciding ∷ more) =
    row_lines deciding.row world deciding.entries (world_after world deciding.entries) ++ lines_by (world_after world deciding.entries) more
