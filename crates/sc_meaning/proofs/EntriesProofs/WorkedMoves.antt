-- Worked entries of a member that moves on: what they make of the ring and of the effective records, entry by entry, as a second implementation tells it.
use Rattle.std.proofs.Common.{◌≡◌, List, [], ◌∷◌, Some, None, refl}
use Rattle.sc_words.specs.declared.commands.bodies.Body.TheVariants.{Migrate}
use Rattle.sc_words.specs.declared.commands.commands.Command.TheVariants.{Begin, Prepared, RecordVote, Finish}
use Rattle.sc_words.specs.declared.commands.cores.Base.{Base}
use Rattle.sc_words.specs.declared.commands.votes.Outcome.TheVariants.{Migrated}
use Rattle.sc_words.specs.declared.commands.votes.Vote.TheVariants.{Yes}
use Rattle.sc_meaning.specs.declared.entries.LogEntry.{LogEntry}
use Rattle.sc_meaning.specs.entries.EntryDefinitions.{first_world, world_of}
use Rattle.sc_meaning.proofs.EntriesProofs.Worked.{draw, born, entry, cut, shown, Shape, shape, shapes}

-- A member moves on to the next group.
abbrev migrate : List Base
migrate = born 1 0 2147483648 (1 ∷ 2 ∷ 3 ∷ []) 2 (4 ∷ []) 2 (4 ∷ []) ∷ born 2 2147483648 2147483648 (4 ∷ []) 1 (1 ∷ 2 ∷ 3 ∷ []) 1 (1 ∷ 2 ∷ 3 ∷ []) ∷ []

abbrev migrate_entries : List LogEntry
migrate_entries =
    entry (draw 0 1) 1 (Begin (draw 1 1) (Migrate 3) 1)
    ∷ entry (draw 0 2) 1 (Prepared (draw 1 1) (record { coord = draw 0 1; part = draw 0 2; arc = record { lo = 0; len = 2147483648 }; members = 1 ∷ 2 ∷ 3 ∷ []; body = Migrate 3; by = 1 }))
    ∷ entry (draw 0 1) 2 (RecordVote (draw 1 1) (Yes (record { arc = record { lo = 2147483648; len = 2147483648 }; members = 4 ∷ []; succ = record { group = draw 0 1; members = 1 ∷ 2 ∷ 3 ∷ [] }; pairs = []; clients = [] })) 4)
    ∷ entry (draw 0 2) 2 (Finish (draw 1 1) (Migrated 3)) ∷ []

abbrev migrate_first : Shape
migrate_first = shape
    (cut 0 2147483648 (draw 0 1) ∷ cut 2147483648 2147483648 (draw 0 2) ∷ [])
    (shown (draw 0 1) 0 2147483648 (draw 0 2) (draw 0 2) ∷ shown (draw 0 2) 2147483648 2147483648 (draw 0 1) (draw 0 1) ∷ [])

migrate_is : shapes (first_world migrate) migrate_entries ≡ migrate_first ∷ migrate_first ∷ migrate_first ∷ migrate_first ∷ migrate_first ∷ []
migrate_is = refl

migrate_tells : (world_of migrate migrate_entries).transactions ≡ record { tx = draw 1 1; coordinator = draw 0 1; body = Migrate 3; participant = Some (draw 0 2); watcher = None; outcome = Some (Migrated 3) } ∷ []
migrate_tells = refl
