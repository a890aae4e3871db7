-- Worked entries of merges: what they make of the ring and of the effective records, entry by entry, as a second implementation tells it.
use Rattle.std.proofs.Common.{◌≡◌, List, [], ◌∷◌, Some, None, refl}
use Rattle.sc_words.specs.declared.commands.bodies.Body.TheVariants.{Merge}
use Rattle.sc_words.specs.declared.commands.commands.Command.TheVariants.{Begin, Prepared, RecordVote, GiveUp, Finish, Watched, RecordWatch}
use Rattle.sc_words.specs.declared.commands.cores.Base.{Base}
use Rattle.sc_words.specs.declared.commands.votes.No.TheVariants.{Busy}
use Rattle.sc_words.specs.declared.commands.votes.Outcome.TheVariants.{Abort, Merged}
use Rattle.sc_words.specs.declared.commands.votes.Past.TheVariants as Cast
use Rattle.sc_words.specs.declared.commands.votes.Vote.TheVariants.{Yes, No}
use Rattle.sc_meaning.specs.declared.entries.LogEntry.{LogEntry}
use Rattle.sc_meaning.specs.entries.EntryDefinitions.{first_world, world_of}
use Rattle.sc_meaning.proofs.EntriesProofs.Worked.{draw, born, entry, cut, shown, Shape, shape, shapes}

-- Of two groups that make the ring, one takes over the other.
abbrev closing : List Base
closing = born 1 0 2147483648 (1 ∷ []) 2 (2 ∷ []) 2 (2 ∷ []) ∷ born 2 2147483648 2147483648 (2 ∷ []) 1 (1 ∷ []) 1 (1 ∷ []) ∷ []

abbrev closing_entries : List LogEntry
closing_entries =
    entry (draw 0 1) 1 (Begin (draw 1 1) Merge 1)
    ∷ entry (draw 0 2) 1 (Prepared (draw 1 1) (record { coord = draw 0 1; part = draw 0 2; arc = record { lo = 0; len = 2147483648 }; members = 1 ∷ []; body = Merge; by = 1 }))
    ∷ entry (draw 0 1) 2 (RecordVote (draw 1 1) (Yes (record { arc = record { lo = 2147483648; len = 2147483648 }; members = 2 ∷ []; succ = record { group = draw 0 1; members = 1 ∷ [] }; pairs = []; clients = [] })) 2)
    ∷ entry (draw 0 2) 2 (Finish (draw 1 1) (Merged (record { group = draw 0 1; lo = 0; members = 1 ∷ 2 ∷ [] }))) ∷ []

abbrev closing_first : Shape
closing_first = shape
    (cut 0 2147483648 (draw 0 1) ∷ cut 2147483648 2147483648 (draw 0 2) ∷ [])
    (shown (draw 0 1) 0 2147483648 (draw 0 2) (draw 0 2) ∷ shown (draw 0 2) 2147483648 2147483648 (draw 0 1) (draw 0 1) ∷ [])

abbrev closing_second : Shape
closing_second = shape
    (cut 0 4294967296 (draw 0 1) ∷ [])
    (shown (draw 0 1) 0 4294967296 (draw 0 1) (draw 0 1) ∷ [])

closing_is : shapes (first_world closing) closing_entries ≡ closing_first ∷ closing_first ∷ closing_first ∷ closing_second ∷ closing_second ∷ []
closing_is = refl

closing_tells : (world_of closing closing_entries).transactions ≡ record { tx = draw 1 1; coordinator = draw 0 1; body = Merge; participant = Some (draw 0 2); watcher = None; outcome = Some (Merged (record { group = draw 0 1; lo = 0; members = 1 ∷ 2 ∷ [] })) } ∷ []
closing_tells = refl

-- A group takes over its successor, and the one after that watches.
abbrev merge : List Base
merge = born 1 0 1073741824 (1 ∷ []) 2 (2 ∷ []) 3 (3 ∷ []) ∷ born 2 1073741824 1073741824 (2 ∷ []) 3 (3 ∷ []) 1 (1 ∷ []) ∷ born 3 2147483648 2147483648 (3 ∷ []) 1 (1 ∷ []) 2 (2 ∷ []) ∷ []

abbrev merge_entries : List LogEntry
merge_entries =
    entry (draw 0 1) 1 (Begin (draw 1 1) Merge 1)
    ∷ entry (draw 0 2) 1 (Prepared (draw 1 1) (record { coord = draw 0 1; part = draw 0 2; arc = record { lo = 0; len = 1073741824 }; members = 1 ∷ []; body = Merge; by = 1 }))
    ∷ entry (draw 0 1) 2 (RecordVote (draw 1 1) (Yes (record { arc = record { lo = 1073741824; len = 1073741824 }; members = 2 ∷ []; succ = record { group = draw 0 3; members = 3 ∷ [] }; pairs = []; clients = [] })) 2)
    ∷ entry (draw 0 3) 1 (Watched (draw 1 1) (record { coord = draw 0 1; members = 1 ∷ []; part = draw 0 3; old = draw 0 2; next = record { group = draw 0 1; members = 1 ∷ 2 ∷ [] }; by = 1 }))
    ∷ entry (draw 0 1) 3 (RecordWatch (draw 1 1) Cast.Yes 3)
    ∷ entry (draw 0 2) 2 (Finish (draw 1 1) (Merged (record { group = draw 0 1; lo = 0; members = 1 ∷ 2 ∷ [] })))
    ∷ entry (draw 0 3) 2 (Finish (draw 1 1) (Merged (record { group = draw 0 1; lo = 0; members = 1 ∷ 2 ∷ [] }))) ∷ []

abbrev merge_first : Shape
merge_first = shape
    (cut 0 1073741824 (draw 0 1) ∷ cut 1073741824 1073741824 (draw 0 2) ∷ cut 2147483648 2147483648 (draw 0 3) ∷ [])
    (shown (draw 0 1) 0 1073741824 (draw 0 2) (draw 0 3) ∷ shown (draw 0 2) 1073741824 1073741824 (draw 0 3) (draw 0 1) ∷ shown (draw 0 3) 2147483648 2147483648 (draw 0 1) (draw 0 2) ∷ [])

abbrev merge_second : Shape
merge_second = shape
    (cut 0 2147483648 (draw 0 1) ∷ cut 2147483648 2147483648 (draw 0 3) ∷ [])
    (shown (draw 0 1) 0 2147483648 (draw 0 3) (draw 0 3) ∷ shown (draw 0 3) 2147483648 2147483648 (draw 0 1) (draw 0 1) ∷ [])

merge_is : shapes (first_world merge) merge_entries ≡ merge_first ∷ merge_first ∷ merge_first ∷ merge_first ∷ merge_first ∷ merge_second ∷ merge_second ∷ merge_second ∷ []
merge_is = refl

merge_tells : (world_of merge merge_entries).transactions ≡ record { tx = draw 1 1; coordinator = draw 0 1; body = Merge; participant = Some (draw 0 2); watcher = Some (draw 0 3); outcome = Some (Merged (record { group = draw 0 1; lo = 0; members = 1 ∷ 2 ∷ [] })) } ∷ []
merge_tells = refl

-- A merge is given up before its participant votes.
abbrev late : List Base
late = born 1 0 2147483648 (1 ∷ []) 2 (2 ∷ []) 2 (2 ∷ []) ∷ born 2 2147483648 2147483648 (2 ∷ []) 1 (1 ∷ []) 1 (1 ∷ []) ∷ []

abbrev late_entries : List LogEntry
late_entries =
    entry (draw 0 1) 1 (Begin (draw 1 1) Merge 1)
    ∷ entry (draw 0 1) 2 (GiveUp (draw 1 1))
    ∷ entry (draw 0 2) 1 (Prepared (draw 1 1) (record { coord = draw 0 1; part = draw 0 2; arc = record { lo = 0; len = 2147483648 }; members = 1 ∷ []; body = Merge; by = 1 }))
    ∷ entry (draw 0 2) 2 (Finish (draw 1 1) Abort) ∷ []

abbrev late_first : Shape
late_first = shape
    (cut 0 2147483648 (draw 0 1) ∷ cut 2147483648 2147483648 (draw 0 2) ∷ [])
    (shown (draw 0 1) 0 2147483648 (draw 0 2) (draw 0 2) ∷ shown (draw 0 2) 2147483648 2147483648 (draw 0 1) (draw 0 1) ∷ [])

late_is : shapes (first_world late) late_entries ≡ late_first ∷ late_first ∷ late_first ∷ late_first ∷ late_first ∷ []
late_is = refl

late_tells : (world_of late late_entries).transactions ≡ record { tx = draw 1 1; coordinator = draw 0 1; body = Merge; participant = Some (draw 0 2); watcher = None; outcome = Some Abort } ∷ []
late_tells = refl

-- Two groups begin to take over each other, and each votes No.
abbrev busy : List Base
busy = born 1 0 2147483648 (1 ∷ []) 2 (2 ∷ []) 2 (2 ∷ []) ∷ born 2 2147483648 2147483648 (2 ∷ []) 1 (1 ∷ []) 1 (1 ∷ []) ∷ []

abbrev busy_entries : List LogEntry
busy_entries =
    entry (draw 0 1) 1 (Begin (draw 1 1) Merge 1)
    ∷ entry (draw 0 2) 1 (Begin (draw 2 1) Merge 2)
    ∷ entry (draw 0 2) 2 (Prepared (draw 1 1) (record { coord = draw 0 1; part = draw 0 2; arc = record { lo = 0; len = 2147483648 }; members = 1 ∷ []; body = Merge; by = 1 }))
    ∷ entry (draw 0 1) 2 (Prepared (draw 2 1) (record { coord = draw 0 2; part = draw 0 1; arc = record { lo = 2147483648; len = 2147483648 }; members = 2 ∷ []; body = Merge; by = 2 }))
    ∷ entry (draw 0 1) 3 (RecordVote (draw 1 1) (No (Busy (draw 2 1))) 2)
    ∷ entry (draw 0 2) 3 (RecordVote (draw 2 1) (No (Busy (draw 1 1))) 1) ∷ []

abbrev busy_first : Shape
busy_first = shape
    (cut 0 2147483648 (draw 0 1) ∷ cut 2147483648 2147483648 (draw 0 2) ∷ [])
    (shown (draw 0 1) 0 2147483648 (draw 0 2) (draw 0 2) ∷ shown (draw 0 2) 2147483648 2147483648 (draw 0 1) (draw 0 1) ∷ [])

busy_is : shapes (first_world busy) busy_entries ≡ busy_first ∷ busy_first ∷ busy_first ∷ busy_first ∷ busy_first ∷ busy_first ∷ busy_first ∷ []
busy_is = refl

busy_tells : (world_of busy busy_entries).transactions ≡ record { tx = draw 1 1; coordinator = draw 0 1; body = Merge; participant = Some (draw 0 2); watcher = None; outcome = Some Abort } ∷ record { tx = draw 2 1; coordinator = draw 0 2; body = Merge; participant = Some (draw 0 1); watcher = None; outcome = Some Abort } ∷ []
busy_tells = refl
