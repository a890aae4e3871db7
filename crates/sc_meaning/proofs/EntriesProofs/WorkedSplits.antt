-- Worked entries of splits: what they make of the ring and of the effective records, entry by entry, as a second implementation tells it.
use Rattle.std.proofs.Common.{◌≡◌, List, [], ◌∷◌, Some, None, refl}
use Rattle.sc_words.specs.declared.commands.bodies.Body.TheVariants as At
use Rattle.sc_words.specs.declared.commands.commands.Command.TheVariants.{Split, Finish, Watched, RecordWatch}
use Rattle.sc_words.specs.declared.commands.cores.Base.{Base}
use Rattle.sc_words.specs.declared.commands.votes.Outcome.TheVariants.{Divided}
use Rattle.sc_words.specs.declared.commands.votes.Past.TheVariants as Cast
use Rattle.sc_meaning.specs.declared.entries.LogEntry.{LogEntry}
use Rattle.sc_meaning.specs.entries.EntryDefinitions.{first_world, world_of}
use Rattle.sc_meaning.proofs.EntriesProofs.Worked.{draw, born, entry, cut, shown, Shape, shape, shapes}

-- A group that is its own successor splits at once.
abbrev lone : List Base
lone = born 1 0 4294967296 (1 ∷ 2 ∷ []) 1 (1 ∷ 2 ∷ []) 1 (1 ∷ 2 ∷ []) ∷ []

abbrev lone_entries : List LogEntry
lone_entries =
    entry (draw 0 1) 1 (Split 1828716544 (draw 1 1) 1) ∷ []

abbrev lone_first : Shape
lone_first = shape
    (cut 0 4294967296 (draw 0 1) ∷ [])
    (shown (draw 0 1) 0 4294967296 (draw 0 1) (draw 0 1) ∷ [])

abbrev lone_second : Shape
lone_second = shape
    (cut 0 1828716544 (draw 0 1) ∷ cut 1828716544 2466250752 (draw 1 1) ∷ [])
    (shown (draw 0 1) 0 1828716544 (draw 1 1) (draw 1 1) ∷ shown (draw 1 1) 1828716544 2466250752 (draw 0 1) (draw 0 1) ∷ [])

lone_is : shapes (first_world lone) lone_entries ≡ lone_first ∷ lone_second ∷ []
lone_is = refl

lone_tells : (world_of lone lone_entries).transactions ≡ []
lone_tells = refl

-- A Split at the start of the arc is refused: it divides nothing.
refused_is : shapes (first_world lone) (entry (draw 0 1) 1 (Split 0 (draw 1 1) 1) ∷ []) ≡ lone_first ∷ lone_first ∷ []
refused_is = refl

-- A group splits, and its successor watches.
abbrev split : List Base
split = born 1 0 2147483648 (1 ∷ 2 ∷ []) 2 (3 ∷ []) 2 (3 ∷ []) ∷ born 2 2147483648 2147483648 (3 ∷ []) 1 (1 ∷ 2 ∷ []) 1 (1 ∷ 2 ∷ []) ∷ []

abbrev split_entries : List LogEntry
split_entries =
    entry (draw 0 1) 1 (Split 1073741824 (draw 1 1) 1)
    ∷ entry (draw 0 2) 1 (Watched (draw 1 1) (record { coord = draw 0 1; members = 1 ∷ 2 ∷ []; part = draw 0 2; old = draw 0 1; next = record { group = draw 1 1; members = 2 ∷ [] }; by = 1 }))
    ∷ entry (draw 0 1) 2 (RecordWatch (draw 1 1) Cast.Yes 3)
    ∷ entry (draw 0 2) 2 (Finish (draw 1 1) Divided) ∷ []

abbrev split_first : Shape
split_first = shape
    (cut 0 2147483648 (draw 0 1) ∷ cut 2147483648 2147483648 (draw 0 2) ∷ [])
    (shown (draw 0 1) 0 2147483648 (draw 0 2) (draw 0 2) ∷ shown (draw 0 2) 2147483648 2147483648 (draw 0 1) (draw 0 1) ∷ [])

abbrev split_second : Shape
split_second = shape
    (cut 0 1073741824 (draw 0 1) ∷ cut 1073741824 1073741824 (draw 1 1) ∷ cut 2147483648 2147483648 (draw 0 2) ∷ [])
    (shown (draw 0 1) 0 1073741824 (draw 1 1) (draw 0 2) ∷ shown (draw 1 1) 1073741824 1073741824 (draw 0 2) (draw 0 1) ∷ shown (draw 0 2) 2147483648 2147483648 (draw 0 1) (draw 1 1) ∷ [])

split_is : shapes (first_world split) split_entries ≡ split_first ∷ split_first ∷ split_first ∷ split_second ∷ split_second ∷ []
split_is = refl

split_tells : (world_of split split_entries).transactions ≡ record { tx = draw 1 1; coordinator = draw 0 1; body = At.Split 1073741824 (draw 1 1); participant = None; watcher = Some (draw 0 2); outcome = Some Divided } ∷ []
split_tells = refl

-- A child splits in its turn, watched by its parent.
abbrev again : List Base
again = born 1 0 4294967296 (1 ∷ 2 ∷ 3 ∷ 4 ∷ []) 1 (1 ∷ 2 ∷ 3 ∷ 4 ∷ []) 1 (1 ∷ 2 ∷ 3 ∷ 4 ∷ []) ∷ []

abbrev again_entries : List LogEntry
again_entries =
    entry (draw 0 1) 1 (Split 2147483648 (draw 1 1) 1)
    ∷ entry (draw 1 1) 1 (Split 3221225472 (draw 3 1) 2)
    ∷ entry (draw 0 1) 2 (Watched (draw 3 1) (record { coord = draw 1 1; members = 3 ∷ 4 ∷ []; part = draw 0 1; old = draw 1 1; next = record { group = draw 3 1; members = 4 ∷ [] }; by = 3 }))
    ∷ entry (draw 1 1) 2 (RecordWatch (draw 3 1) Cast.Yes 1)
    ∷ entry (draw 0 1) 3 (Finish (draw 3 1) Divided) ∷ []

abbrev again_first : Shape
again_first = shape
    (cut 0 4294967296 (draw 0 1) ∷ [])
    (shown (draw 0 1) 0 4294967296 (draw 0 1) (draw 0 1) ∷ [])

abbrev again_second : Shape
again_second = shape
    (cut 0 2147483648 (draw 0 1) ∷ cut 2147483648 2147483648 (draw 1 1) ∷ [])
    (shown (draw 0 1) 0 2147483648 (draw 1 1) (draw 1 1) ∷ shown (draw 1 1) 2147483648 2147483648 (draw 0 1) (draw 0 1) ∷ [])

abbrev again_third : Shape
again_third = shape
    (cut 0 2147483648 (draw 0 1) ∷ cut 2147483648 1073741824 (draw 1 1) ∷ cut 3221225472 1073741824 (draw 3 1) ∷ [])
    (shown (draw 0 1) 0 2147483648 (draw 1 1) (draw 3 1) ∷ shown (draw 1 1) 2147483648 1073741824 (draw 3 1) (draw 0 1) ∷ shown (draw 3 1) 3221225472 1073741824 (draw 0 1) (draw 1 1) ∷ [])

again_is : shapes (first_world again) again_entries ≡ again_first ∷ again_second ∷ again_second ∷ again_second ∷ again_third ∷ again_third ∷ []
again_is = refl

again_tells : (world_of again again_entries).transactions ≡ record { tx = draw 3 1; coordinator = draw 1 1; body = At.Split 3221225472 (draw 3 1); participant = None; watcher = Some (draw 0 1); outcome = Some Divided } ∷ []
again_tells = refl
