-- What holds of the groups of a journal and of its entries, where each row decides in turn.
use Rattle.std.specs.Prelude.{◌≡◌, ℕ, ◌+◌, ◌<◌, ◌≤◌, ◌⊎◌, List, [], ◌∷◌, ◌++◌, length, Some, None}
use Rattle.sc_base.specs.Definitions.{Among}
use Rattle.sc_base.specs.declared.names.Draw.{Draw}
use Rattle.sc_words.specs.declared.commands.commands.Command.{Command}
use Rattle.sc_words.specs.declared.commands.commands.Command.TheVariants.{Call}
use Rattle.sc_words.specs.declared.commands.cores.Base.{Base}
use Rattle.sc_words.specs.declared.commands.orders.OrderLine.{OrderLine}
use Rattle.sc_mail.specs.declared.bodies.Mail.{Mail}
use Rattle.sc_actor.specs.declared.rows.Row.{Row}
use Rattle.sc_words.specs.declared.ideal.Entry.{Entry}
use Rattle.sc_group_table.specs.machine.MachineDefinitions.{group_of, state_after}
use Rattle.sc_meaning.specs.sound.SoundDefinitions.{Ahead, children_of, children_by, groups_at, birth_at, log_at, state_at, entries_at, world_at, history_at, decided_log, decided_state, Continues, IsOneMap, row_of_entry}
use Rattle.sc_meaning.specs.declared.entries.LogEntry.{LogEntry}
use Rattle.sc_meaning.specs.entries.EntryDefinitions.{named_group}
use Rattle.sc_law_entries.specs.history.HistoryDefinitions.{log_in, HasNotes}
use Rattle.sc_law_entries.specs.logs.Descent.{Rows, IsFound, added_by, newborn_by}

-- ---- groups

-- a group is found by its name, with its own log and the state after it
pub record IsFoundByName (ahead : Ahead) (bases : List Base) (rows : Rows) (base : Base) : Type 0 where
  pub birth : birth_at ahead bases rows base.core.id ≡ Some base
  pub log : log_at ahead bases rows base.core.id ≡ decided_log ahead base rows
  pub state : state_at ahead bases rows base.core.id ≡ Some (decided_state ahead base rows)

-- the groups of a journal are those that descend from the scenario's, and no others, under names of their own
pub record AreFound (ahead : Ahead) (bases : List Base) (rows : Rows) : Type 0 where
  -- the groups of the scenario are groups of the journal
  pub first : (base : Base) → Among base bases → Among base (groups_at ahead bases rows)
  -- the children that a group's log creates are groups of the journal
  pub closed : (base : Base) → Among base (groups_at ahead bases rows) → (child : Base) → Among child (children_by ahead rows base) → Among child (groups_at ahead bases rows)
  -- the children that a prefix of a group's log creates are groups of the journal
  pub prefixes : (base : Base) → Among base (groups_at ahead bases rows) → (prefix later : List Command) → decided_log ahead base rows ≡ prefix ++ later
      → (child : Base) → Among child (children_of (group_of base) prefix) → Among child (groups_at ahead bases rows)
  -- the groups of the journal are exactly those that descend from the scenario's
  pub all : (base : Base) → IsFound ahead bases rows base → Among base (groups_at ahead bases rows)
  pub only : (base : Base) → Among base (groups_at ahead bases rows) → IsFound ahead bases rows base
  -- two groups of one name are one
  pub apart : (one other : Base) → Among one (groups_at ahead bases rows) → Among other (groups_at ahead bases rows) → one.core.id ≡ other.core.id → one ≡ other
  -- each group is known by its name
  pub known : (base : Base) → Among base (groups_at ahead bases rows) → IsFoundByName ahead bases rows base

-- a child that a row's own entries create: its name was nobody's, and its log is empty
pub record IsNewborn (ahead : Ahead) (bases : List Base) (before : Rows) (row : Row Mail OrderLine) (child : Base) : Type 0 where
  pub parent : Base
  pub stands : Among parent (groups_at ahead bases before)
  pub named : Among child (newborn_by ahead before row parent)
  pub unborn : birth_at ahead bases before child.core.id ≡ None
  pub silent : decided_log ahead child (before ++ row ∷ []) ≡ []

-- each group after a row was there before it, or is a child that the row creates
abbrev pub AreOldOrNew : Ahead → List Base → Rows → Row Mail OrderLine → Type 0
AreOldOrNew ahead bases before row =
    (base : Base) → Among base (groups_at ahead bases (before ++ row ∷ [])) → Among base (groups_at ahead bases before) ⊎ IsNewborn ahead bases before row base

-- ---- entries

-- the entries of a journal are the logs of its groups, and make of each group the state after its log
pub record AreItsLogs (ahead : Ahead) (bases : List Base) (rows : Rows) : Type 0 where
  pub logs : (name : Draw) → log_in name (entries_at ahead bases rows) ≡ log_at ahead bases rows name
  pub states : (name : Draw) → named_group name (world_at ahead bases rows).groups ≡ state_at ahead bases rows name

-- the entries make one map, and what a group's log made it note, after each prefix of it, has its entry in the history
pub record MakeOneMapWithNotes (ahead : Ahead) (bases : List Base) (rows : Rows) : Type 0 where
  pub map : IsOneMap (world_at ahead bases rows)
  pub notes : (base : Base) → Among base (groups_at ahead bases rows) → (prefix later : List Command) → decided_log ahead base rows ≡ prefix ++ later
      → HasNotes (history_at ahead bases rows) (state_after (group_of base) prefix).clients

-- ---- rows

-- the row that decides the entry of the history at a place: it decides the call, for a group that was there before it
pub record IsDecidedAt (ahead : Ahead) (bases : List Base) (rows : Rows) (place : ℕ) (entry : Entry) : Type 0 where
  pub before : Rows
  pub row : Row Mail OrderLine
  pub later : Rows
  pub are : rows ≡ before ++ row ∷ later
  pub is_recorded : row_of_entry ahead bases place rows ≡ Some (length before + 1)
  -- the history has the entry after the row, and not before
  pub not_before : length (history_at ahead bases before) ≤ place
  pub after : place < length (history_at ahead bases (before ++ row ∷ []))
  -- the group for which the row decides the call
  pub base : Base
  pub stands : Among base (groups_at ahead bases before)
  pub call : Among (Call entry.client entry.seq entry.op) (added_by ahead before row base)

-- what stays with more rows: the groups with their logs, the entries, the history, and the rows that decide its entries
pub record StayRecorded (ahead : Ahead) (bases : List Base) (rows more : Rows) : Type 0 where
  pub groups : (base : Base) → Among base (groups_at ahead bases rows) → Among base (groups_at ahead bases (rows ++ more))
  pub logs : (base : Base) → Among base (groups_at ahead bases rows) → Continues (decided_log ahead base rows) (log_at ahead bases (rows ++ more) base.core.id)
  pub entries : (later : List LogEntry) × (entries_at ahead bases (rows ++ more) ≡ entries_at ahead bases rows ++ later)
  pub history : (later : List Entry) × (history_at ahead bases (rows ++ more) ≡ history_at ahead bases rows ++ later)
  pub recorded : (place at : ℕ) → row_of_entry ahead bases place rows ≡ Some at → row_of_entry ahead bases place (rows ++ more) ≡ Some at
