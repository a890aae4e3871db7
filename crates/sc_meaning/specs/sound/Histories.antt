-- The history of a journal whose groups are given: the requests that took effect, in the order of the rows that decide them.
use Rattle.std.specs.Prelude.{ℕ, ◌+◌, nat_lt, List, [], ◌∷◌, ◌++◌, length, drop, if◌then◌else◌, Option, Some, None}
use Rattle.std.specs.List.{flat_map}
use Rattle.sc_node_table.specs.Values.{Base, OrderLine, Mail, Row, Entry}
use Rattle.sc_group_table.specs.machine.MachineDefinitions.{group_of, state_after, done_by}
use Rattle.sc_meaning.specs.sound.Players.{Ahead}
use Rattle.sc_meaning.specs.sound.Logs.{decided_log}

-- the calls of a group that took effect by entries decided after the later rows and not after the earlier ones
abbrev pub newly_decided : Ahead → List (Row Mail OrderLine) → List (Row Mail OrderLine) → Base → List Entry
newly_decided ahead before after base =
    done_by (state_after (group_of base) (decided_log ahead base before)) (drop (length (decided_log ahead base before)) (decided_log ahead base after))

-- the history that the later rows add after the earlier ones
abbrev pub history_from : Ahead → List Base → List (Row Mail OrderLine) → List (Row Mail OrderLine) → List Entry
history_from ahead groups before [] = []
history_from ahead groups before (row ∷ rows) =
    flat_map (newly_decided ahead before (before ++ row ∷ [])) groups ++ history_from ahead groups (before ++ row ∷ []) rows

-- the history of a journal, for these groups: row by row the calls decided there that took effect, and by slot within one group
abbrev pub history : Ahead → List Base → List (Row Mail OrderLine) → List Entry
history ahead groups rows = history_from ahead groups [] rows

-- the number, from 1, of the row after which a group's log has its entry at a place (from 0), sought in the later rows, if there is one
abbrev pub decided_from : Ahead → Base → ℕ → List (Row Mail OrderLine) → List (Row Mail OrderLine) → Option ℕ
decided_from ahead base place before [] = None
decided_from ahead base place before (row ∷ rows) =
    if nat_lt place (length (decided_log ahead base (before ++ row ∷ []))) then Some (length before + 1)
    else decided_from ahead base place (before ++ row ∷ []) rows

-- the number, from 1, of the row that decides the entry at a place (from 0) of a group's log, if one does
abbrev pub decided_row : Ahead → Base → ℕ → List (Row Mail OrderLine) → Option ℕ
decided_row ahead base place rows = decided_from ahead base place [] rows
