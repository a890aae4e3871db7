-- The rows that decide entries, one row after another.
use Rattle.std.proofs.Common.{◌≡◌, ℕ, ◌+◌, ◌<◌, ◌≤◌, List, [], ◌∷◌, ◌++◌, length, get_or, take, drop, sym, ◌∙◌, ap, append_assoc, append-nil, arith}
use Rattle.std.proofs.lemmas.List.{drop_more, drop_all, length-take-le}
use Rattle.sc_actor.specs.declared.rows.Row.{Row}
use Rattle.sc_words.specs.declared.commands.cores.Base.{Base}
use Rattle.sc_words.specs.declared.commands.orders.OrderLine.{OrderLine}
use Rattle.sc_meaning.specs.declared.entries.LogEntry.{LogEntry}
use Rattle.sc_mail.specs.declared.bodies.Mail.{Mail}
use Rattle.sc_meaning.specs.sound.GroupsOf.{entries_by_row}
use Rattle.sc_meaning.specs.sound.Players.{as_nodes}
use Rattle.sc_world_entries.specs.decided.Deciding.{deciding_from, with_entries}
use Rattle.sc_world_entries.specs.declared.decided.deciding.DecidingRow.{DecidingRow}

-- what is left begins with the row at the place
pub drop_here : {X : Type 0} (xs : List X) (i : ℕ) (x : X) → i < length xs → x ≡ get_or xs i x → drop i xs ≡ x ∷ drop (i + 1) xs
drop_here {X} xs i x lt is = drop_more xs i x lt ∙ ap (λ (y : X). y ∷ drop (i + 1) xs) (sym is)

-- one more row is among those that were found, if it decides entries
pub row_next : (bases : List Base) (rows : List (Row Mail OrderLine)) (i : ℕ) (row : Row Mail OrderLine) (found : List DecidingRow) (entries : List LogEntry) → i < length rows → row ≡ get_or rows i row
    → take (i + 1) rows ≡ take i rows ++ row ∷ [] → entries ≡ entries_by_row as_nodes bases (take i rows) row
    → (found ++ with_entries (i + 1) entries) ++ deciding_from as_nodes bases (take (i + 1) rows) (drop (i + 1) rows) ≡ found ++ deciding_from as_nodes bases (take i rows) (drop i rows)
row_next bases rows i row found entries lt is next entries_are =
    append_assoc found (with_entries (i + 1) entries) (deciding_from as_nodes bases (take (i + 1) rows) (drop (i + 1) rows))
    ∙ ap (λ (ds : List DecidingRow). found ++ ds)
    (ap (λ es. with_entries (i + 1) es ++ deciding_from as_nodes bases (take (i + 1) rows) (drop (i + 1) rows)) entries_are
    ∙ ap (λ rs. with_entries (i + 1) (entries_by_row as_nodes bases (take i rows) row) ++ deciding_from as_nodes bases rs (drop (i + 1) rows)) next
    ∙ ap (λ n. with_entries (n + 1) (entries_by_row as_nodes bases (take i rows) row) ++ deciding_from as_nodes bases (take i rows ++ row ∷ []) (drop (i + 1) rows)) (sym (length-take-le i rows (omega (arith, lt))))
    ∙ ap (deciding_from as_nodes bases (take i rows)) (sym (drop_here rows i row lt is)))

-- behind all rows all are found
pub rows_end : (bases : List Base) (rows : List (Row Mail OrderLine)) (i : ℕ) (found : List DecidingRow) → length rows ≤ i
    → found ++ deciding_from as_nodes bases (take i rows) (drop i rows) ≡ deciding_from as_nodes bases [] rows → found ≡ deciding_from as_nodes bases [] rows
rows_end bases rows i found le so_far =
    sym (append-nil found) ∙ ap (λ rs. found ++ deciding_from as_nodes bases (take i rows) rs) (sym (drop_all i rows le)) ∙ so_far
