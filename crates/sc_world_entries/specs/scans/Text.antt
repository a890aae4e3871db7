-- The text of a scan, line by line.
use Rattle.std.specs.Prelude.{ℕ, ◌+◌, ◌%◌, ◌==◌, ◌&&◌, Bool, nat_lt, List, [], ◌∷◌, ◌++◌, length, codes, if◌then◌else◌}
use Rattle.std.specs.Fmt.{decimal}
use Rattle.sc_scenario.specs.report.Report.{count_line, with_line_feed}
use Rattle.sc_world_entries.specs.declared.scans.walking.Part.{Part}
use Rattle.sc_world_entries.specs.declared.scans.scans.Shown.{Shown}
use Rattle.sc_world_entries.specs.scans.Order.{Pair}
use Rattle.sc_world_entries.specs.scans.Scan.{all_pairs}

-- the line of a part: `part LO LEN group A.B slot N`
abbrev pub part_line : Part → ℕ → List ℕ
part_line part slot =
    with_line_feed (codes "part " ++ decimal part.arc.lo ++ codes " " ++ decimal part.arc.len ++ codes " group " ++ decimal part.group.node ++ codes "." ++ decimal part.group.count ++ codes " slot " ++ decimal slot)

-- the line of a pair: `pair K V`
abbrev pub pair_line : Pair → List ℕ
pair_line pair = with_line_feed (codes "pair " ++ pair.0 ++ codes " " ++ pair.1)

-- whether a page of `most` pairs ends with the pair of this number, from 1, and another page follows it
abbrev pub ends_page : ℕ → ℕ → ℕ → Bool
ends_page most total number = (number % most == 0) && nat_lt number total

-- the line `page` where a page ends, else no line
abbrev pub page_lines : Bool → List (List ℕ)
page_lines ends = if ends then with_line_feed (codes "page") ∷ [] else []

-- the lines of these pairs, before which `number` of all pairs came
abbrev pub pair_lines : ℕ → ℕ → ℕ → List Pair → List (List ℕ)
pair_lines most total number [] = []
pair_lines most total number (pair ∷ more) = (pair_line pair ∷ page_lines (ends_page most total (number + 1))) ++ pair_lines most total (number + 1) more

-- the lines of these parts, before which `number` of all pairs came
abbrev pub part_lines : ℕ → ℕ → ℕ → List Shown → List (List ℕ)
part_lines most total number [] = []
part_lines most total number (shown ∷ more) =
    (part_line shown.part shown.slot ∷ pair_lines most total number shown.pairs) ++ part_lines most total (number + length shown.pairs) more

-- the whole text of a scan of this number of rows, with `most` pairs a page
abbrev pub scan_lines : ℕ → ℕ → List Shown → List (List ℕ)
scan_lines most rows scan =
    (with_line_feed (codes "scatter scan 1") ∷ count_line (codes "rows ") rows ∷ []) ++ part_lines most (length (all_pairs scan)) 0 scan
    ++ count_line (codes "pairs ") (length (all_pairs scan)) ∷ []
