-- The lines of rows, by the rows that decide entries.
use Rattle.std.proofs.Common.{◌≡◌, ℕ, ◌+◌, List, [], ◌∷◌, ◌++◌, length, map, drop, refl, ◌∙◌, ap, ap₂, append-nil}
use Rattle.std.specs.List.{flat_map}
use Rattle.std.proofs.lemmas.Bool.{cond-true}
use Rattle.std.proofs.lemmas.Grind.{flat_map-append}
use Rattle.sc_actor.specs.declared.rows.Row.{Row}
use Rattle.sc_words.specs.declared.commands.cores.Base.{Base}
use Rattle.sc_words.specs.declared.commands.orders.OrderLine.{OrderLine}
use Rattle.sc_world_entries.specs.decided.Deciding.{deciding_from, with_entries}
use Rattle.sc_world_entries.specs.declared.decided.deciding.DecidingRow.{DecidingRow}
use Rattle.sc_explain.proofs.FactsProofs.Itself.{record_itself, ring_group_itself, ring_itself}
use Rattle.sc_explain.specs.facts.Facts.{history_line, record_line, ring_group_line, ring_line}
use Rattle.sc_explain.specs.facts.Sameness.{same_record, same_ring, same_ring_group}
use Rattle.sc_meaning.specs.declared.entries.LogEntry.{LogEntry}
use Rattle.sc_meaning.specs.entries.Worlds.{StoreWorld, world_after}
use Rattle.sc_mail.specs.declared.bodies.Mail.{Mail}
use Rattle.sc_meaning.specs.sound.GroupsOf.{entries_by_row, entries_by_rows, world_at}
use Rattle.sc_meaning.specs.sound.Players.{Ahead}
use Rattle.sc_meaning.proofs.SoundProofs.EntryRows.{world-push}
use Rattle.sc_explain.specs.rows.Explained.{birth_of_group, changed, lines_from, records_in, ring_groups_in, ring_lines, row_lines}
use Rattle.sc_explain.specs.rows.Said.{lines_by}
use Rattle.sc_explain.proofs.RowsProofs.Changed.{unchanged}

-- ---- a row that decides nothing has no lines

drop-all : {X : Type 0} (xs : List X) → drop (length xs) xs ≡ []
drop-all [] = refl
drop-all (x ∷ xs) = drop-all xs

six_empty : {X : Type 0} (a b c d e f : List X) → a ≡ [] → b ≡ [] → c ≡ [] → d ≡ [] → e ≡ [] → f ≡ [] → a ++ b ++ c ++ d ++ e ++ f ≡ []
six_empty a b c d e f a_is b_is c_is d_is e_is f_is =
    ap (λ x. x ++ b ++ c ++ d ++ e ++ f) a_is ∙ ap (λ x. x ++ c ++ d ++ e ++ f) b_is ∙ ap (λ x. x ++ d ++ e ++ f) c_is ∙ ap (λ x. x ++ e ++ f) d_is ∙ ap (λ x. x ++ f) e_is ∙ f_is

nothing_said : (row : ℕ) (world : StoreWorld) → row_lines row world [] world ≡ []
nothing_said row world =
    six_empty (map (birth_of_group row) (drop (length world.groups) world.groups)) [] (map (history_line row) (drop (length world.history) world.history))
    (map (record_line row) (changed same_record (records_in world) (records_in world))) (map (ring_group_line row) (changed same_ring_group (ring_groups_in world) (ring_groups_in world)))
    (ring_lines row world.ring world.ring)
    (ap (map (birth_of_group row)) (drop-all world.groups)) refl (ap (map (history_line row)) (drop-all world.history))
    (ap (map (record_line row)) (unchanged same_record record_itself (records_in world))) (ap (map (ring_group_line row)) (unchanged same_ring_group ring_group_itself (ring_groups_in world)))
    (cond-true (same_ring world.ring world.ring) [] (ring_line row world.ring ∷ []) (ring_itself world.ring))

-- ---- the rows that decide

-- with one row more before them, if it decides
lines_with : (row : ℕ) (world : StoreWorld) (entries : List LogEntry) (more : List DecidingRow)
    → row_lines row world entries (world_after world entries) ++ lines_by (world_after world entries) more ≡ lines_by world (with_entries row entries ++ more)
lines_with row world [] more = ap (λ ls. ls ++ lines_by world more) (nothing_said row world)
lines_with row world (entry ∷ entries) more = refl

-- the lines of rows are those of the rows that decide
pub lines_are : (ahead : Ahead) (bases : List Base) (before rows : List (Row Mail OrderLine))
    → lines_from ahead bases before rows ≡ lines_by (world_at ahead bases before) (deciding_from ahead bases before rows)
lines_are ahead bases before [] = refl
lines_are ahead bases before (row ∷ rows) =
    let world : StoreWorld = world_at ahead bases before in
    let entries : List LogEntry = entries_by_row ahead bases before row in
    let more : List DecidingRow = deciding_from ahead bases (before ++ row ∷ []) rows in
    ap (λ ls. row_lines (length before + 1) world entries (world_at ahead bases (before ++ row ∷ [])) ++ ls) (lines_are ahead bases (before ++ row ∷ []) rows)
    ∙ ap (λ w. row_lines (length before + 1) world entries w ++ lines_by w more) (world-push ahead bases before row)
    ∙ lines_with (length before + 1) world entries more

-- their entries are all entries
entries_with_are : (row : ℕ) (entries : List LogEntry) → flat_map (λ (d : DecidingRow). d.entries) (with_entries row entries) ≡ entries
entries_with_are row [] = refl
entries_with_are row (entry ∷ entries) = append-nil (entry ∷ entries)

pub entries_are : (ahead : Ahead) (bases : List Base) (before rows : List (Row Mail OrderLine))
    → flat_map (λ (d : DecidingRow). d.entries) (deciding_from ahead bases before rows) ≡ entries_by_rows ahead bases before rows
entries_are ahead bases before [] = refl
entries_are ahead bases before (row ∷ rows) =
    flat_map-append (λ (d : DecidingRow). d.entries) (with_entries (length before + 1) (entries_by_row ahead bases before row)) (deciding_from ahead bases (before ++ row ∷ []) rows)
    ∙ ap₂ (λ (a b : List LogEntry). a ++ b) (entries_with_are (length before + 1) (entries_by_row ahead bases before row)) (entries_are ahead bases (before ++ row ∷ []) rows)
