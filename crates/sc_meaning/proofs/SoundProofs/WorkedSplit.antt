-- The first rows of a journal in which a group that is its own successor splits: its groups, its entries and its ring, row by row, as a second implementation tells them.
use Rattle.std.proofs.Common.{◌≡◌, ℕ, List, [], ◌∷◌, map, refl}
use Rattle.sc_node_table.specs.Values.{Command, Split, Base, OrderLine, Mail, MailBody, Accept, Accepted, Row, Deliver}
use Rattle.sc_words.specs.declared.commands.orders.Order.TheVariants as Ordered
use Rattle.sc_actor.specs.declared.rows.Event.TheVariants.{Told}
use Rattle.sc_meaning.proofs.EntriesProofs.EntryLemmas.{draw, born, entry, cut}
use Rattle.sc_meaning.specs.sound.SoundDefinitions.{four, ballot, row, groups_at, entries_at, ring_at}

-- a group of two nodes that has the whole ring
abbrev groups : List Base
groups = born 1 0 4294967296 (1 ∷ 2 ∷ []) 1 (1 ∷ 2 ∷ []) 1 (1 ∷ 2 ∷ []) ∷ []

abbrev mail : ℕ → ℕ → MailBody → Mail
mail from to body = record { from = from; to = to; body = body }

abbrev split : Command
split = Split 1828716544 (draw 1 1) 1

-- node 1 gets the order to split the group, and offers it; both nodes accept
abbrev first : Row Mail OrderLine
first = row 1 (Told (record { number = 1; order = Ordered.Split (draw 0 1) 1828716544 }))
    (mail 1 1 (Accept (draw 0 1) ballot 1 split) ∷ mail 1 2 (Accept (draw 0 1) ballot 1 split) ∷ [])

abbrev second : Row Mail OrderLine
second = row 1 (Deliver 1) (mail 1 1 (Accepted (draw 0 1) ballot 1) ∷ [])

abbrev third : Row Mail OrderLine
third = row 2 (Deliver 2) (mail 2 1 (Accepted (draw 0 1) ballot 1) ∷ [])

-- after two rows nothing is decided
early_entries : entries_at four groups (first ∷ second ∷ []) ≡ []
early_entries = refl

early_groups : map (λ base. base.core.id) (groups_at four groups (first ∷ second ∷ [])) ≡ draw 0 1 ∷ []
early_groups = refl

-- the third row decides the split, which creates the child
third_entries : entries_at four groups (first ∷ second ∷ third ∷ []) ≡ entry (draw 0 1) 1 split ∷ []
third_entries = refl

third_groups : map (λ base. base.core.id) (groups_at four groups (first ∷ second ∷ third ∷ [])) ≡ draw 0 1 ∷ draw 1 1 ∷ []
third_groups = refl

third_ring : ring_at four groups (first ∷ second ∷ third ∷ []) ≡ cut 0 1828716544 (draw 0 1) ∷ cut 1828716544 2466250752 (draw 1 1) ∷ []
third_ring = refl
