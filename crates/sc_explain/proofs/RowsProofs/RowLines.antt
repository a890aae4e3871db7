-- The lines of a row, one kind of fact after another.
use Rattle.std.proofs.Common.{◌≡◌, ℕ, List, ◌++◌, length, map, drop, ◌∙◌, ap, append_assoc}
use Rattle.sc_explain.specs.facts.Facts.{history_line, record_line, ring_group_line}
use Rattle.sc_explain.specs.facts.Sameness.{same_record, same_ring_group}
use Rattle.sc_explain.specs.declared.facts.facts.GroupRecord.{GroupRecord}
use Rattle.sc_explain.specs.declared.facts.facts.RingGroup.{RingGroup}
use Rattle.sc_words.specs.declared.ideal.Entry.{Entry}
use Rattle.sc_meaning.specs.declared.entries.Cut.{Cut}
use Rattle.sc_meaning.specs.declared.entries.LogEntry.{LogEntry}
use Rattle.sc_meaning.specs.entries.Worlds.{StoreWorld}
use Rattle.sc_group_table.specs.machine.Group.{Group}
use Rattle.sc_explain.specs.rows.Explained.{birth_of_group, changed, entry_lines, records_in, ring_groups_in, ring_lines, row_lines}

-- what is added twice is added at once
also : {X : Type 0} (first middle last one other : List X) → middle ≡ first ++ one → last ≡ middle ++ other → last ≡ first ++ (one ++ other)
also first middle last one other h k = k ∙ ap (λ xs. xs ++ other) h ∙ append_assoc first one other

-- the lines of a row are added, kind by kind
pub row_added : (row : ℕ) (was now : StoreWorld) (decided : List LogEntry) (l0 l1 l2 l3 l4 l5 l6 : List (List ℕ))
    (births : List Group) (entries : List (List ℕ)) (history : List Entry) (records : List GroupRecord) (groups : List RingGroup) (before after : List Cut)
    → l1 ≡ l0 ++ map (birth_of_group row) births → births ≡ drop (length was.groups) now.groups
    → l2 ≡ l1 ++ entries → entries ≡ entry_lines row was decided
    → l3 ≡ l2 ++ map (history_line row) history → history ≡ drop (length was.history) now.history
    → l4 ≡ l3 ++ map (record_line row) records → records ≡ changed same_record (records_in was) (records_in now)
    → l5 ≡ l4 ++ map (ring_group_line row) groups → groups ≡ changed same_ring_group (ring_groups_in was) (ring_groups_in now)
    → l6 ≡ l5 ++ ring_lines row before after → before ≡ was.ring → after ≡ now.ring
    → l6 ≡ l0 ++ row_lines row was decided now
row_added row was now decided l0 l1 l2 l3 l4 l5 l6 births entries history records groups before after h1 births_are h2 entries_are h3 history_is h4 records_are h5 groups_are h6 before_is after_is =
    let a : List (List ℕ) = map (birth_of_group row) (drop (length was.groups) now.groups) in
    let b : List (List ℕ) = entry_lines row was decided in
    let c : List (List ℕ) = map (history_line row) (drop (length was.history) now.history) in
    let d : List (List ℕ) = map (record_line row) (changed same_record (records_in was) (records_in now)) in
    let e : List (List ℕ) = map (ring_group_line row) (changed same_ring_group (ring_groups_in was) (ring_groups_in now)) in
    let f : List (List ℕ) = ring_lines row was.ring now.ring in
    let one : l1 ≡ l0 ++ a = h1 ∙ ap (λ (gs : List Group). l0 ++ map (birth_of_group row) gs) births_are in
    let two : l2 ≡ l0 ++ (a ++ b) = also l0 l1 l2 a b one (h2 ∙ ap (λ (ls : List (List ℕ)). l1 ++ ls) entries_are) in
    let three : l3 ≡ l0 ++ ((a ++ b) ++ c) = also l0 l2 l3 (a ++ b) c two (h3 ∙ ap (λ (es : List Entry). l2 ++ map (history_line row) es) history_is) in
    let four : l4 ≡ l0 ++ (((a ++ b) ++ c) ++ d) = also l0 l3 l4 ((a ++ b) ++ c) d three (h4 ∙ ap (λ (rs : List GroupRecord). l3 ++ map (record_line row) rs) records_are) in
    let five : l5 ≡ l0 ++ ((((a ++ b) ++ c) ++ d) ++ e) = also l0 l4 l5 (((a ++ b) ++ c) ++ d) e four (h5 ∙ ap (λ (gs : List RingGroup). l4 ++ map (ring_group_line row) gs) groups_are) in
    also l0 l5 l6 ((((a ++ b) ++ c) ++ d) ++ e) f five
    (h6 ∙ ap (λ (r : List Cut). l5 ++ ring_lines row r after) before_is ∙ ap (λ (r : List Cut). l5 ++ ring_lines row was.ring r) after_is)
