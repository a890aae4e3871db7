-- Rows in which two groups decide a call each, the second group first: the entries are in the order of the rows, not of the groups.
use Rattle.std.proofs.Common.{◌≡◌, ℕ, List, [], ◌∷◌, refl}
use Rattle.sc_node_table.specs.Values.{Ballot, Put, Command, Call, Base, OrderLine, Mail, Request, Accept, Accepted, Row, Deliver, Go}
use Rattle.sc_meaning.proofs.EntriesProofs.EntryLemmas.{draw, born, entry}
use Rattle.sc_meaning.specs.sound.SoundDefinitions.{four, mail, row, entries_at}

-- two groups of one node each
abbrev groups : List Base
groups = born 1 0 1828716544 (1 ∷ []) 2 (2 ∷ []) 2 (2 ∷ []) ∷ born 2 1828716544 2466250752 (2 ∷ []) 1 (1 ∷ []) 1 (1 ∷ []) ∷ []

abbrev its_first : ℕ → Ballot
its_first node = record { round = 1; node = node }

abbrev put_m : Command
put_m = Call 1 1 (Put (109 ∷ []) (120 ∷ []))

abbrev put_a : Command
put_a = Call 2 1 (Put (97 ∷ []) (121 ∷ []))

-- each node offers the call that it got, and accepts it
abbrev rows : List (Row Mail OrderLine)
rows =
    row 33 Go (mail 33 2 (Request (draw 0 2) 1 1 (Put (109 ∷ []) (120 ∷ []))))
    ∷ row 2 (Deliver 1) (mail 2 2 (Accept (draw 0 2) (its_first 2) 1 put_m))
    ∷ row 2 (Deliver 2) (mail 2 2 (Accepted (draw 0 2) (its_first 2) 1))
    ∷ row 34 Go (mail 34 1 (Request (draw 0 1) 2 1 (Put (97 ∷ []) (121 ∷ []))))
    ∷ row 1 (Deliver 4) (mail 1 1 (Accept (draw 0 1) (its_first 1) 1 put_a))
    ∷ row 1 (Deliver 5) (mail 1 1 (Accepted (draw 0 1) (its_first 1) 1)) ∷ []

entries_are : entries_at four groups rows ≡ entry (draw 0 2) 1 put_m ∷ entry (draw 0 1) 1 put_a ∷ []
entries_are = refl
