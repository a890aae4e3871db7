-- What follows where each row of a journal decides in turn, from groups in place, whatever its groups order, split and merge.
use Rattle.std.specs.Prelude.{◌≡◌, ℕ, List, [], ◌∷◌, ◌++◌, Some, slice_get}
use Rattle.sc_base.specs.Definitions.{Among}
use Rattle.sc_base.specs.declared.names.Draw.{Draw}
use Rattle.sc_words.specs.declared.commands.commands.Command.{Command}
use Rattle.sc_words.specs.declared.commands.cores.Base.{Base}
use Rattle.sc_words.specs.declared.commands.orders.OrderLine.{OrderLine}
use Rattle.sc_mail.specs.declared.bodies.Mail.{Mail}
use Rattle.sc_actor.specs.declared.rows.Row.{Row}
use Rattle.sc_words.specs.declared.ideal.Entry.{Entry}
use Rattle.sc_meaning.specs.sound.SoundDefinitions.{Ahead, groups_at, entries_at, history_at, decided_log, IsSound}
use Rattle.sc_scenario.specs.declared.scenario.scenarios.Scenario.{Scenario}
use Rattle.sc_group_table.specs.machine.MachineDefinitions.{Group, group_of, state_after}
use Rattle.sc_law_entries.specs.ring.RingDefinitions.{Sources, IsAllowed, AreAllowed, first_recorded, BeginInPlace, stories_of}
use Rattle.sc_law_entries.specs.history.HistoryDefinitions.{BeginBare}
use Rattle.sc_law_entries.specs.logs.Allows.{AllowsAsItStands, MakesAllowed, GroupAllows}
use Rattle.sc_law_entries.specs.logs.Beside.{HoldsBeside}
use Rattle.sc_law_entries.specs.logs.Descent.{Rows}
use Rattle.sc_law_entries.specs.logs.InTurn.{DecidesInTurn, DecideInTurn, DecidesForOne}
use Rattle.sc_law_entries.specs.logs.Findings.{AreFound, AreOldOrNew, AreItsLogs, MakeOneMapWithNotes, IsDecidedAt, StayRecorded}

-- each row, lawful or not, decides for one group at most
abbrev pub RowsDecideForOne : Type 0
RowsDecideForOne = (ahead : Ahead) (before : Rows) (row : Row Mail OrderLine) → DecidesForOne ahead before row

-- rows that decide in turn, with one more row that does, decide in turn
abbrev pub RowsGoOn : Type 0
RowsGoOn = (sources : Sources) (ahead : Ahead) (bases : List Base) (rows : Rows) (row : Row Mail OrderLine) → DecideInTurn sources ahead bases [] rows → DecidesInTurn sources ahead bases rows row
    → DecideInTurn sources ahead bases [] (rows ++ row ∷ [])

-- where each row decides in turn, the groups are those that descend from the scenario's
abbrev pub GroupsAreFound : Type 0
GroupsAreFound = (sources : Sources) (ahead : Ahead) (bases : List Base) → BeginInPlace sources bases → (rows : Rows) → DecideInTurn sources ahead bases [] rows → AreFound ahead bases rows

-- where each row decides in turn, each group was there before the last row, or is a child that the row creates
abbrev pub GroupsAreOldOrNew : Type 0
GroupsAreOldOrNew = (sources : Sources) (ahead : Ahead) (bases : List Base) → BeginInPlace sources bases → (before : Rows) → DecideInTurn sources ahead bases [] before
    → (row : Row Mail OrderLine) → DecidesInTurn sources ahead bases before row → AreOldOrNew ahead bases before row

-- where each row decides in turn, the entries are the logs of the groups
abbrev pub EntriesAreLogs : Type 0
EntriesAreLogs = (sources : Sources) (ahead : Ahead) (bases : List Base) → BeginInPlace sources bases → (rows : Rows) → DecideInTurn sources ahead bases [] rows → AreItsLogs ahead bases rows

-- where each row decides in turn, each entry is allowed by those before it
abbrev pub EntriesAreAllowed : Type 0
EntriesAreAllowed = (sources : Sources) (ahead : Ahead) (bases : List Base) → BeginInPlace sources bases → (rows : Rows) → DecideInTurn sources ahead bases [] rows
    → AreAllowed sources (first_recorded bases) (entries_at ahead bases rows)

-- where each row decides in turn, a command that is allowed stays allowed with more rows
abbrev pub AllowedStaysAllowed : Type 0
AllowedStaysAllowed = (sources : Sources) (ahead : Ahead) (bases : List Base) → BeginInPlace sources bases → (rows more : Rows) → DecideInTurn sources ahead bases [] (rows ++ more)
    → (name : Draw) (command : Command) → IsAllowed sources (stories_of bases (entries_at ahead bases rows)) name command → IsAllowed sources (stories_of bases (entries_at ahead bases (rows ++ more))) name command

-- where each row decides in turn, a command that an entry of a group's log makes allowed is allowed
abbrev pub PrefixesAllow : Type 0
PrefixesAllow = (sources : Sources) (ahead : Ahead) (bases : List Base) → BeginInPlace sources bases → (rows : Rows) → DecideInTurn sources ahead bases [] rows
    → (base : Base) → Among base (groups_at ahead bases rows) → (prefix : List Command) (entry : Command) (later : List Command) → decided_log ahead base rows ≡ prefix ++ entry ∷ later
    → (name : Draw) (command : Command) → MakesAllowed sources base.core.id (state_after (group_of base) prefix) entry name command → IsAllowed sources (stories_of bases (entries_at ahead bases rows)) name command

-- where each row decides in turn, a command that a group's state after a prefix of its log makes allowed is allowed
abbrev pub StatesAllow : Type 0
StatesAllow = (sources : Sources) (ahead : Ahead) (bases : List Base) → BeginInPlace sources bases → (rows : Rows) → DecideInTurn sources ahead bases [] rows
    → (base : Base) → Among base (groups_at ahead bases rows) → (prefix later : List Command) → decided_log ahead base rows ≡ prefix ++ later
    → (name : Draw) (command : Command) → AllowsAsItStands sources base.core.id (state_after (group_of base) prefix) name command → IsAllowed sources (stories_of bases (entries_at ahead bases rows)) name command

-- each group makes allowed what follows from its lock and from its entries that vote or decide
abbrev pub GroupsAllowOthers : Type 0
GroupsAllowOthers = (sources : Sources) (by : Draw) (group : Group) → GroupAllows sources by group

-- where each row decides in turn, from groups that hold nothing, the entries make one map
abbrev pub EntriesMakeOneMap : Type 0
EntriesMakeOneMap = (sources : Sources) (ahead : Ahead) (bases : List Base) → BeginInPlace sources bases → BeginBare bases → (rows : Rows) → DecideInTurn sources ahead bases [] rows
    → MakeOneMapWithNotes ahead bases rows

-- where each row decides in turn, each entry of the history is decided by a row that decides its call
abbrev pub HistoryIsDecided : Type 0
HistoryIsDecided = (sources : Sources) (ahead : Ahead) (bases : List Base) → BeginInPlace sources bases → (rows : Rows) → DecideInTurn sources ahead bases [] rows
    → (place : ℕ) (entry : Entry) → slice_get (history_at ahead bases rows) place ≡ Some entry → IsDecidedAt ahead bases rows place entry

-- where each row decides in turn, groups, logs, entries, history and the rows that decide its entries stay with more rows
abbrev pub DecidingRowsStay : Type 0
DecidingRowsStay = (sources : Sources) (ahead : Ahead) (bases : List Base) → BeginInPlace sources bases → (rows more : Rows) → DecideInTurn sources ahead bases [] (rows ++ more) → StayRecorded ahead bases rows more

-- ---- all together

-- a journal whose rows decide in turn is sound, where each group has one value per slot, each replica has executed a prefix, and calls and replies come in order
abbrev pub JournalsInTurnAreSound : Type 0
JournalsInTurnAreSound = (sources : Sources) (ahead : Ahead) (scenario : Scenario) → BeginInPlace sources scenario.groups → BeginBare scenario.groups
    → (rows more : Rows) → DecideInTurn sources ahead scenario.groups [] (rows ++ more) → HoldsBeside ahead scenario rows → IsSound ahead scenario rows more
