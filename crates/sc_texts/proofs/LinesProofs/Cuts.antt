-- The first line of a text, and the others.
use Rattle.std.proofs.Common.{◌≡◌, ℕ, ◌+◌, ◌-◌, ◌<◌, ◌≤◌, Bool, true, false, cond, if◌then◌else◌, eqb, ltb, nat_lt, List, [], ◌∷◌, length, take, drop, Option, Some, None, refl, sym, ap, ◌∙◌, arith, position}
use Rattle.std.specs.List.{slice_split, position_or_len}
use Rattle.std.proofs.lemmas.Bool.{cond-false, ltb-true, ltb-false}
use Rattle.std.proofs.lemmas.List.{take_all, length-drop}
use Rattle.std.proofs.lemmas.List.Splits.{slice_split_first, slice_split_none, length-slice_split}
use Rattle.std.proofs.lemmas.List.Sums.{fails_before_first}
use Rattle.std.proofs.lemmas.Option.{same_Some, none-some}
use Rattle.sc_texts.proofs.LinesProofs.Choices.{chosen}
use Rattle.sc_texts.specs.lines.Definitions.{most_bytes, is_too_long, lines_in_parts, ended_parts, lines_in, lines_of}

abbrev is_feed : ℕ → Bool
is_feed byte = eqb byte 10

parts_cons : (part : List ℕ) (parts : List (List ℕ)) → 0 < length parts → lines_in_parts (part ∷ parts) ≡ part ∷ lines_in_parts parts
parts_cons part [] some = absurd (omega arith)
parts_cons part (next ∷ parts) some = refl

ended_cons : (part : List ℕ) (parts : List (List ℕ)) → 0 < length parts → ended_parts (part ∷ parts) ≡ part ∷ ended_parts parts
ended_cons part [] some = absurd (omega arith)
ended_cons part (next ∷ parts) some = refl

split_some : (text : List ℕ) → 0 < length (slice_split is_feed text)
split_some text = omega (arith, length-slice_split is_feed text)

-- the parts of a text with a line feed
split_first : (text : List ℕ) (at : ℕ) → position is_feed text ≡ Some at → slice_split is_feed text ≡ take at text ∷ slice_split is_feed (drop (at + 1) text)
split_first text at e =
    let c = chosen (nat_lt (position_or_len is_feed text) (length text)) (Some (position_or_len is_feed text)) at e in
    let lt : position_or_len is_feed text < length text = ltb-true (position_or_len is_feed text) (length text) c.0 in
    slice_split_first is_feed text 0 lt ∙ ap (λ n. take n text ∷ slice_split is_feed (drop (n + 1) text)) (same_Some (position_or_len is_feed text) at c.1)

-- the first line, where a line feed ends it
pub lines_first : (is_long : Bool) (text : List ℕ) (at : ℕ) → position is_feed text ≡ Some at → lines_in is_long text ≡ take at text ∷ lines_in is_long (drop (at + 1) text)
lines_first true text at e = ap ended_parts (split_first text at e) ∙ ended_cons (take at text) (slice_split is_feed (drop (at + 1) text)) (split_some (drop (at + 1) text))
lines_first false text at e = ap lines_in_parts (split_first text at e) ∙ parts_cons (take at text) (slice_split is_feed (drop (at + 1) text)) (split_some (drop (at + 1) text))

-- the same, of the bytes up to the end
pub lines_cut_first : (is_long : Bool) (text : List ℕ) (at : ℕ) → position is_feed text ≡ Some at → lines_in is_long text ≡ take at text ∷ lines_in is_long (take (length text - (at + 1)) (drop (at + 1) text))
lines_cut_first is_long text at e =
    let le : length (drop (at + 1) text) ≤ length text - (at + 1) = omega (arith, length-drop (at + 1) text) in
    lines_first is_long text at e ∙ ap (λ rest. take at text ∷ lines_in is_long rest) (sym (take_all (length text - (at + 1)) (drop (at + 1) text) le))

unchosen : {X : Type 0} (b : Bool) (x : X) → (if b then Some x else None) ≡ None → b ≡ false
unchosen true x e = absurd (none-some x (sym e))
unchosen false x e = refl

-- the one part of a text without a line feed
split_none : (text : List ℕ) → position is_feed text ≡ None → slice_split is_feed text ≡ text ∷ []
split_none text e =
    let f = unchosen (nat_lt (position_or_len is_feed text) (length text)) (position_or_len is_feed text) e in
    let le : length text ≤ position_or_len is_feed text = ltb-false (position_or_len is_feed text) (length text) f in
    slice_split_none is_feed text (λ k d within. fails_before_first is_feed text k d (omega (arith, le, within)))

-- a text that goes on behind its bytes has no line without a line feed
pub lines_none : (text : List ℕ) → position is_feed text ≡ None → lines_in true text ≡ []
lines_none text e = ap ended_parts (split_none text e)

-- the last line of a text, which no line feed ends
pub lines_last : (text : List ℕ) → 0 < length text → position is_feed text ≡ None → lines_in false text ≡ text ∷ lines_in false []
lines_last text some e =
    let filled : eqb (length text) 0 ≡ false = grind arith in
    ap lines_in_parts (split_none text e) ∙ cond-false (eqb (length text) 0) [] (text ∷ []) filled

some_case : (text : List ℕ) (found : Option ℕ) → position is_feed text ≡ found → 0 < length text → (line : List ℕ) × (lines : List (List ℕ)) × (lines_in false text ≡ line ∷ lines)
some_case text (Some at) e some = (take at text, lines_in false (drop (at + 1) text), lines_first false text at e)
some_case text None e some = (text, lines_in false [], lines_last text some e)

-- a text that is not empty has a line
pub lines_some : (text : List ℕ) → 0 < length text → (line : List ℕ) × (lines : List (List ℕ)) × (lines_in false text ≡ line ∷ lines)
lines_some text some = some_case text (position is_feed text) refl some

-- all lines of a text that is not too long
pub lines_all : (text : List ℕ) → is_too_long text ≡ false → lines_of text ≡ lines_in false text
lines_all text e =
    let le : length text ≤ most_bytes = ltb-false most_bytes (length text) e in
    ap (λ b. lines_in b (take most_bytes text)) e ∙ ap (lines_in false) (take_all most_bytes text le)

-- the lines of a text that is too long
pub lines_cut : (text : List ℕ) → is_too_long text ≡ true → lines_of text ≡ lines_in true (take most_bytes text)
lines_cut text e = ap (λ b. lines_in b (take most_bytes text)) e
