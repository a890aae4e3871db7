-- The words of a line, and what they spell.
use Rattle.std.specs.Prelude.{ℕ, ◌==◌, ◌||◌, not, nat_le, nat_eq, Bool, get_or, List, [], length, Option, Some, None, is_none, if◌then◌else◌, option_and_then}
use Rattle.std.specs.List.{slice_split, filter}
use Rattle.std.specs.Cmp.Lexicographic.{pointwise}
use Rattle.sc_base.specs.Definitions.{number_of, longest_key, longest_value, text_error}

-- whether two texts are equal
abbrev pub same : List ℕ → List ℕ → Bool
same text other = pointwise nat_eq text other

-- the parts of a text between the bytes `at`
abbrev pub pieces : ℕ → List ℕ → List (List ℕ)
pieces at text = slice_split (λ byte. byte == at) text

-- whether a text is empty
abbrev pub is_empty : List ℕ → Bool
is_empty text = length text == 0

-- the words of a line: the parts between blanks and tabs that are not empty
abbrev pub words_of : List ℕ → List (List ℕ)
words_of line = filter (λ word. not (is_empty word)) (slice_split (λ byte. (byte == 32) || (byte == 9)) line)

-- the k-th of these texts, counted from 0, or the empty text where there is none
abbrev pub nth : List (List ℕ) → ℕ → List ℕ
nth texts k = get_or texts k []

-- the number from 1 to `most` that a word spells, if it spells one
abbrev pub count_in : ℕ → List ℕ → Option ℕ
count_in most word = option_and_then (λ n. if nat_le 1 n then Some n else None) (number_of word most)

-- the key that a word spells, if it spells one
abbrev pub key_in : List ℕ → Option (List ℕ)
key_in word = if is_none (text_error longest_key word) then Some word else None

-- the value that a word spells, if it spells one
abbrev pub value_in : List ℕ → Option (List ℕ)
value_in word = if is_none (text_error longest_value word) then Some word else None
