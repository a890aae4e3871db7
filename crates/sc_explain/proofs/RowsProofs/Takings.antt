-- The entries of a row, taken one after another.
use Rattle.std.proofs.Common.{◌≡◌, ℕ, suc, ◌+◌, ◌<◌, ◌≤◌, List, [], ◌∷◌, ◌++◌, length, get_or, take, drop, refl, sym, ◌∙◌, ap, subst, append_assoc, append-nil, arith}
use Rattle.std.specs.List.{flat_map}
use Rattle.std.proofs.Math.Seq.{take-suc}
use Rattle.std.proofs.lemmas.List.{take-append-drop, drop_all}
use Rattle.sc_world_entries.proofs.DecidedProofs.RowByRow.{drop_here}
use Rattle.sc_world_entries.specs.declared.decided.deciding.DecidingRow.{DecidingRow}
use Rattle.sc_explain.specs.facts.Facts.{entry_line}
use Rattle.sc_explain.specs.declared.facts.facts.RingGroup.{RingGroup}
use Rattle.sc_meaning.specs.declared.entries.LogEntry.{LogEntry}
use Rattle.sc_meaning.specs.entries.Rings.{HaveArcs}
use Rattle.sc_meaning.specs.entries.Worlds.{StoreWorld, recorded, world_after}
use Rattle.sc_meaning.proofs.EntriesProofs.Pushes.{world_append}
use Rattle.sc_world_groups.specs.Effects.{effect_in}
use Rattle.sc_explain.specs.rows.Explained.{entry_lines, ring_groups_in, row_lines}
use Rattle.sc_explain.specs.rows.Said.{HasTaken, HaveArcsThroughout, lines_by}

-- the lines of one entry more
entry_lines-push : (row : ℕ) (world : StoreWorld) (entries : List LogEntry) (entry : LogEntry)
    → entry_lines row world (entries ++ entry ∷ []) ≡ entry_lines row world entries ++ entry_line row entry (effect_in (world_after world entries) entry) ∷ []
entry_lines-push row world [] entry = refl
entry_lines-push row world (e ∷ entries) entry = ap (λ ls. entry_line row e (effect_in world e) ∷ ls) (entry_lines-push row (recorded world e) entries entry)

-- one entry more
pub taken_next : (row : ℕ) (before : StoreWorld) (entries : List LogEntry) (i : ℕ) (entry : LogEntry) (groups : List RingGroup) (after later : StoreWorld) (lines more : List (List ℕ)) (kept followed : List RingGroup)
    → i < length entries → entry ≡ get_or entries i entry → HasTaken row before (take i entries) groups after lines kept → later ≡ recorded after entry
    → more ≡ lines ++ entry_line row entry (effect_in after entry) ∷ [] → (kept ≡ ring_groups_in after → followed ≡ ring_groups_in later)
    → HasTaken row before (take (i + 1) entries) groups later more followed
taken_next row before entries i entry groups after later lines more kept followed lt is taken told_is more_is follows =
    let one : i + 1 ≡ suc i = omega arith in
    let prefix : take (i + 1) entries ≡ take i entries ++ entry ∷ [] = ap (λ (n : ℕ). take n entries) one ∙ take-suc entries i entry lt ∙ ap (λ (e : LogEntry). take i entries ++ e ∷ []) (sym is) in
    record {
      world = told_is ∙ ap (λ w. recorded w entry) taken.world ∙ sym (ap (world_after before) prefix ∙ world_append before (take i entries) (entry ∷ []));
      lines_are =
          more_is ∙ ap (λ ls. ls ++ entry_line row entry (effect_in after entry) ∷ []) taken.lines_are
          ∙ ap (λ w. entry_lines row before (take i entries) ++ entry_line row entry (effect_in w entry) ∷ []) taken.world
          ∙ sym (ap (entry_lines row before) prefix ∙ entry_lines-push row before (take i entries) entry);
      groups_are = λ g. follows (taken.groups_are g);
    }

-- an entry that leaves no arc is none of entries that leave arcs throughout
pub no_error : (row : ℕ) (before : StoreWorld) (entries : List LogEntry) (i : ℕ) (entry : LogEntry) (groups : List RingGroup) (after : StoreWorld) (lines : List (List ℕ)) (kept : List RingGroup)
    → i < length entries → entry ≡ get_or entries i entry → HasTaken row before (take i entries) groups after lines kept → HaveArcsThroughout before entries → HaveArcs (recorded after entry).ring
no_error row before entries i entry groups after lines kept lt is taken arcs =
    let prefix : take (suc i) entries ≡ take i entries ++ entry ∷ [] = take-suc entries i entry lt ∙ ap (λ (e : LogEntry). take i entries ++ e ∷ []) (sym is) in
    let made : world_after before (take (suc i) entries) ≡ recorded after entry =
    ap (world_after before) prefix ∙ world_append before (take i entries) (entry ∷ []) ∙ ap (λ w. recorded w entry) (sym taken.world) in
    subst (λ (w : StoreWorld). HaveArcs w.ring) made (arcs (take (suc i) entries) (drop (suc i) entries) (sym (take-append-drop (suc i) entries)))

-- ---- the rows that decide

-- what holds throughout of entries and of more, holds of the first from the world before, and of the rest from the world after them
pub first_arcs : (world : StoreWorld) (entries more : List LogEntry) → HaveArcsThroughout world (entries ++ more) → HaveArcsThroughout world entries
first_arcs world entries more arcs before later is = arcs before (later ++ more) (ap (λ (es : List LogEntry). es ++ more) is ∙ append_assoc before later more)

pub later_arcs : (world : StoreWorld) (entries more : List LogEntry) → HaveArcsThroughout world (entries ++ more) → HaveArcsThroughout (world_after world entries) more
later_arcs world entries more arcs before later is =
    subst (λ (w : StoreWorld). HaveArcs w.ring) (world_append world entries before)
    (arcs (entries ++ before) later (ap (λ (es : List LogEntry). entries ++ es) is ∙ sym (append_assoc entries before later)))

-- the rows that are left begin with the row at a place: the arcs of its entries, and of those behind it
pub arcs_here : (world : StoreWorld) (deciding : List DecidingRow) (k : ℕ) (row : DecidingRow) → k < length deciding → row ≡ get_or deciding k row
    → HaveArcsThroughout world (flat_map (λ (d : DecidingRow). d.entries) (drop k deciding)) → HaveArcsThroughout world row.entries
arcs_here world deciding k row lt is arcs =
    first_arcs world row.entries (flat_map (λ (d : DecidingRow). d.entries) (drop (k + 1) deciding))
    (subst (λ (ds : List DecidingRow). HaveArcsThroughout world (flat_map (λ (d : DecidingRow). d.entries) ds)) (drop_here deciding k row lt is) arcs)

pub arcs_next : (world later : StoreWorld) (deciding : List DecidingRow) (k : ℕ) (row : DecidingRow) → k < length deciding → row ≡ get_or deciding k row → later ≡ world_after world row.entries
    → HaveArcsThroughout world (flat_map (λ (d : DecidingRow). d.entries) (drop k deciding)) → HaveArcsThroughout later (flat_map (λ (d : DecidingRow). d.entries) (drop (k + 1) deciding))
arcs_next world later deciding k row lt is made arcs =
    subst (λ (w : StoreWorld). HaveArcsThroughout w (flat_map (λ (d : DecidingRow). d.entries) (drop (k + 1) deciding))) (sym made)
    (later_arcs world row.entries (flat_map (λ (d : DecidingRow). d.entries) (drop (k + 1) deciding))
    (subst (λ (ds : List DecidingRow). HaveArcsThroughout world (flat_map (λ (d : DecidingRow). d.entries) ds)) (drop_here deciding k row lt is) arcs))

-- ... and its lines, with those behind it
pub lines_next : (world later : StoreWorld) (deciding : List DecidingRow) (k : ℕ) (row : DecidingRow) (lines more total : List (List ℕ)) → k < length deciding → row ≡ get_or deciding k row → later ≡ world_after world row.entries
    → more ≡ lines ++ row_lines row.row world row.entries later → lines ++ lines_by world (drop k deciding) ≡ total → more ++ lines_by later (drop (k + 1) deciding) ≡ total
lines_next world later deciding k row lines more total lt is made more_is so_far =
    ap (λ (ls : List (List ℕ)). ls ++ lines_by later (drop (k + 1) deciding)) more_is
    ∙ append_assoc lines (row_lines row.row world row.entries later) (lines_by later (drop (k + 1) deciding))
    ∙ ap (λ (w : StoreWorld). lines ++ (row_lines row.row world row.entries w ++ lines_by w (drop (k + 1) deciding))) made
    ∙ ap (λ (ds : List DecidingRow). lines ++ lines_by world ds) (sym (drop_here deciding k row lt is)) ∙ so_far

-- behind all rows nothing is left
pub lines_end : (world : StoreWorld) (deciding : List DecidingRow) (k : ℕ) (lines total : List (List ℕ)) → length deciding ≤ k → lines ++ lines_by world (drop k deciding) ≡ total → lines ≡ total
lines_end world deciding k lines total le so_far =
    sym (append-nil lines) ∙ ap (λ (ds : List DecidingRow). lines ++ lines_by world ds) (sym (drop_all k deciding le)) ∙ so_far
