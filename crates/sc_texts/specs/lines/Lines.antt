-- The lines of a text.
use Rattle.std.specs.Prelude.{ℕ, ◌-◌, ◌==◌, ◌&&◌, ◌||◌, not, nat_lt, Bool, true, false, get_or, List, [], ◌∷◌, length, take, if◌then◌else◌}
use Rattle.std.specs.List.{list_any}
use Rattle.sc_texts.specs.lines.Words.{pieces, words_of, is_empty}

-- the most bytes of a text
abbrev pub most_bytes : ℕ
most_bytes = 16777216

-- the most lines of a text
abbrev pub most_lines : ℕ
most_lines = 20000

-- the lines of a text, by its parts between line feeds: the last part is a line only where it is not empty
abbrev pub lines_in_parts : List (List ℕ) → List (List ℕ)
lines_in_parts [] = []
lines_in_parts (last ∷ []) = if is_empty last then [] else last ∷ []
lines_in_parts (part ∷ next ∷ parts) = part ∷ lines_in_parts (next ∷ parts)

-- the parts of a text that a line feed ends
abbrev pub ended_parts : List (List ℕ) → List (List ℕ)
ended_parts [] = []
ended_parts (last ∷ []) = []
ended_parts (part ∷ next ∷ parts) = part ∷ ended_parts (next ∷ parts)

-- whether a text has more bytes than it may have
abbrev pub is_too_long : List ℕ → Bool
is_too_long text = nat_lt most_bytes (length text)

-- the lines of a text; of one cut from a text with too many bytes, only those that a line feed ends
abbrev pub lines_in : Bool → List ℕ → List (List ℕ)
lines_in true text = ended_parts (pieces 10 text)
lines_in false text = lines_in_parts (pieces 10 text)

-- the lines of a text that are parsed: of a text with too many bytes, those before the line with the byte after the last allowed one
abbrev pub lines_of : List ℕ → List (List ℕ)
lines_of text = lines_in (is_too_long text) (take most_bytes text)

-- the line without the carriage return at its end
abbrev pub trimmed : List ℕ → List ℕ
trimmed line = if get_or line (length line - 1) 0 == 13 then take (length line - 1) line else line

-- whether a line is a comment, which begins with `#`, or has no words
abbrev pub is_skipped : List ℕ → Bool
is_skipped line = (get_or line 0 0 == 35) || (length (words_of line) == 0)

-- whether no line may have this byte: it is outside 32 to 126 and no tab
abbrev pub is_bad : ℕ → Bool
is_bad byte = not (byte == 9) && (nat_lt byte 32 || nat_lt 126 byte)

-- whether a line has a byte that no line may have
abbrev pub has_bad_byte : List ℕ → Bool
has_bad_byte line = list_any is_bad line
