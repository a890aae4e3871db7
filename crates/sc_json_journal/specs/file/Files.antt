-- A stored journal: a scenario's text, the line `journal`, and a line for each row.
use Rattle.std.specs.Prelude.{true, ◌≡◌, ℕ, ◌+◌, ◌-◌, ◌==◌, ◌||◌, nat_lt, Bool, get_or, List, [], ◌∷◌, ◌++◌, length, take, drop, map, codes, Option, Some, None, if◌then◌else◌}
use Rattle.std.specs.List.{concat}
use Rattle.std.specs.Option.{option_map}
use Rattle.sc_texts.specs.lines.Lines.{lines_in}
use Rattle.sc_texts.specs.lines.Words.{same}

-- The line that ends the scenario, without its line feed.
abbrev pub divider : List ℕ
divider = codes "journal"

-- The line with its line feed.
abbrev pub fed : List ℕ → List ℕ
fed line = line ++ 10 ∷ []

-- The bytes of the lines, each with its line feed.
abbrev pub whole : List (List ℕ) → List ℕ
whole lines = concat (map fed lines)

-- The lines before the first that is `journal`, if one is.
abbrev pub lines_before : List (List ℕ) → Option (List (List ℕ))
lines_before [] = None
lines_before (line ∷ lines) = if same line divider then Some [] else option_map (λ more. line ∷ more) (lines_before lines)

-- The numbers of bytes and lines before a file's first line `journal`, if it has one. Only lines that a line feed ends count.
abbrev pub divider_at : List ℕ → Option (ℕ × ℕ)
divider_at file = option_map (λ (lines : List (List ℕ)). (length (whole lines), length lines)) (lines_before (lines_in true file))

-- Whether the last line of these bytes is empty, or there are fewer than two bytes. The bytes are lines with their line feeds.
abbrev pub has_empty_end : List ℕ → Bool
has_empty_end prefix = nat_lt (length prefix) 2 || (get_or prefix (length prefix - 2) 0 == 10)

-- The scenario's text: the bytes before the line `journal`, without the last line feed where the last line is not empty.
abbrev pub scenario_text : List ℕ → List ℕ
scenario_text prefix = if has_empty_end prefix then prefix else take (length prefix - 1) prefix

-- The bytes behind the first `bytes` bytes and the line `journal`.
abbrev pub rows_text : ℕ → List ℕ → List ℕ
rows_text bytes file = drop (bytes + length (fed divider)) file

-- The file is divided at its first line `journal` into the text of the scenario, with its number of lines, and the bytes behind that line.
abbrev pub IsCut : List ℕ → List ℕ → ℕ → List ℕ → Type 0
IsCut file scenario lines rows = (bytes : ℕ) × (divider_at file ≡ Some (bytes, lines)) × (scenario ≡ scenario_text (take bytes file)) × (rows ≡ rows_text bytes file)
