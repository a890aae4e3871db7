-- What one more row makes of the entries of a journal, and of all groups.
use Rattle.std.proofs.Common.{◌≡◌, List, [], ◌∷◌, ◌++◌, sym, ◌∙◌, ap, append-nil, append_assoc}
use Rattle.sc_node_table.specs.Values.{Base, OrderLine, Mail, Row}
use Rattle.sc_meaning.specs.sound.SoundDefinitions.{Ahead, entries_at, entries_by_row, entries_by_rows, world_at}
use Rattle.sc_meaning.specs.entries.EntryDefinitions.{first_world, world_after, world_of}
use Rattle.sc_meaning.proofs.EntriesProofs.EntryLemmas.{world_append}

entries_by_rows-push : (ahead : Ahead) (bases : List Base) (before rows : List (Row Mail OrderLine)) (row : Row Mail OrderLine)
    → entries_by_rows ahead bases before (rows ++ row ∷ []) ≡ entries_by_rows ahead bases before rows ++ entries_by_row ahead bases (before ++ rows) row
entries_by_rows-push ahead bases before [] row =
    append-nil (entries_by_row ahead bases before row)
    ∙ ap (λ b. entries_by_row ahead bases b row) (sym (append-nil before))
entries_by_rows-push ahead bases before (r ∷ rows) row =
    let there = entries_by_row ahead bases before r in
    ap (λ es. there ++ es) (entries_by_rows-push ahead bases (before ++ r ∷ []) rows row)
    ∙ sym (append_assoc there (entries_by_rows ahead bases (before ++ r ∷ []) rows) (entries_by_row ahead bases ((before ++ r ∷ []) ++ rows) row))
    ∙ ap (λ b. (there ++ entries_by_rows ahead bases (before ++ r ∷ []) rows) ++ entries_by_row ahead bases b row) (append_assoc before (r ∷ []) rows)

-- the entries of a journal with one more row are those before it and what the row decides
pub entries-push : (ahead : Ahead) (bases : List Base) (rows : List (Row Mail OrderLine)) (row : Row Mail OrderLine)
    → entries_at ahead bases (rows ++ row ∷ []) ≡ entries_at ahead bases rows ++ entries_by_row ahead bases rows row
entries-push ahead bases rows row = entries_by_rows-push ahead bases [] rows row

-- what a row decides is applied to the world before it
pub world-push : (ahead : Ahead) (bases : List Base) (rows : List (Row Mail OrderLine)) (row : Row Mail OrderLine)
    → world_at ahead bases (rows ++ row ∷ []) ≡ world_after (world_at ahead bases rows) (entries_by_row ahead bases rows row)
world-push ahead bases rows row =
    ap (λ entries. world_of bases entries) (entries-push ahead bases rows row)
    ∙ world_append (first_world bases) (entries_at ahead bases rows) (entries_by_row ahead bases rows row)
