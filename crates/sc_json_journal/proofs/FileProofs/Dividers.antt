-- How far a file goes before its line `journal`, line by line.
use Rattle.std.proofs.Common.{◌≡◌, ℕ, suc, ◌+◌, ◌-◌, ◌<◌, ◌≤◌, Bool, true, false, cond, eqb, nat_lt, List, [], ◌∷◌, ◌++◌, length, take, drop, position, Option, Some, None, refl, sym, ap, ◌∙◌, arith, length-append}
use Rattle.std.specs.List.{position_or_len}
use Rattle.std.specs.Option.{option_map}
use Rattle.std.proofs.lemmas.Bool.{ltb-true}
use Rattle.std.proofs.lemmas.List.{length-take, length-drop, take_all, drop-drop}
use Rattle.std.proofs.lemmas.Option.{same_Some}
use Rattle.sc_texts.proofs.LinesProofs.Choices.{chosen}
use Rattle.sc_texts.proofs.LinesProofs.Cuts.{lines_first, lines_none}
use Rattle.sc_texts.specs.lines.Lines.{lines_in}
use Rattle.sc_texts.specs.lines.Words.{same}
use Rattle.sc_json_journal.specs.file.Files.{divider, fed, whole, lines_before, divider_at}

abbrev pub is_feed : ℕ → Bool
is_feed byte = eqb byte 10

-- a first line feed stands in the text
pub feed_within : (text : List ℕ) (n : ℕ) → position is_feed text ≡ Some n → n < length text
feed_within text n e =
    let c = chosen (nat_lt (position_or_len is_feed text) (length text)) (Some (position_or_len is_feed text)) n e in
    let lt = ltb-true (position_or_len is_feed text) (length text) c.0 in
    let at = same_Some (position_or_len is_feed text) n c.1 in
    omega (arith, lt, at)

-- how far lines go
abbrev pub measure : List (List ℕ) → ℕ × ℕ
measure lines = (length (whole lines), length lines)

-- the measure with these numbers of bytes and lines before it
abbrev pub further : ℕ → ℕ → ℕ × ℕ → ℕ × ℕ
further bytes lines m = (bytes + m.0, lines + m.1)

length_line : (line : List ℕ) (n : ℕ) → length line ≡ n → (lines : List (List ℕ)) → measure (line ∷ lines) ≡ further (n + 1) 1 (measure lines)
length_line line n is lines =
    let whole_is : length (fed line ++ whole lines) ≡ n + 1 + length (whole lines) = omega (arith, length-append (fed line) (whole lines), length-append line (10 ∷ []), is) in
    ap (λ (k : ℕ). (k, suc (length lines))) whole_is ∙ ap (λ (k : ℕ). (n + 1 + length (whole lines), k)) (let e : suc (length lines) ≡ 1 + length lines = omega arith in e)

of_lines : (line : List ℕ) (n : ℕ) → length line ≡ n → (b : Bool) (o : Option (List (List ℕ)))
    → option_map measure (cond b (Some []) (option_map (λ more. line ∷ more) o)) ≡ cond b (Some (0, 0)) (option_map (further (n + 1) 1) (option_map measure o))
of_lines line n is true o = refl
of_lines line n is false None = refl
of_lines line n is false (Some lines) = ap Some (length_line line n is lines)

-- line by line
pub divider_first : (text : List ℕ) (n : ℕ) → position is_feed text ≡ Some n
    → divider_at text ≡ cond (same (take n text) divider) (Some (0, 0)) (option_map (further (n + 1) 1) (divider_at (drop (n + 1) text)))
divider_first text n e =
    let within = feed_within text n e in
    let length_is : length (take n text) ≡ n = omega (arith, length-take n text, within) in
    ap (λ lines. option_map measure (lines_before lines)) (lines_first true text n e) ∙ of_lines (take n text) n length_is (same (take n text) divider) (lines_before (lines_in true (drop (n + 1) text)))

-- a text without a line feed has no line `journal` that one ends
pub divider_none : (text : List ℕ) → position is_feed text ≡ None → divider_at text ≡ None
divider_none text e = ap (λ lines. option_map measure (lines_before lines)) (lines_none text e)

further_twice : (bytes lines n : ℕ) (o : Option (ℕ × ℕ)) → option_map (further bytes lines) (option_map (further (n + 1) 1) o) ≡ option_map (further (bytes + (n + 1)) (lines + 1)) o
further_twice bytes lines n None = refl
further_twice bytes lines n (Some m) = ap Some (ap (λ (k : ℕ). (k, lines + (1 + m.1))) (omega arith) ∙ ap (λ (k : ℕ). (bytes + (n + 1) + m.0, k)) (omega arith))

-- one line further
divider_further : (file text : List ℕ) (bytes lines n : ℕ) → divider_at file ≡ option_map (further bytes lines) (divider_at text) → position is_feed text ≡ Some n → same (take n text) divider ≡ false
    → divider_at file ≡ option_map (further (bytes + (n + 1)) (lines + 1)) (divider_at (drop (n + 1) text))
divider_further file text bytes lines n is e other =
    is ∙ ap (option_map (further bytes lines)) (divider_first text n e ∙ ap (λ b. cond b (Some (0, 0)) (option_map (further (n + 1) 1) (divider_at (drop (n + 1) text)))) other)
    ∙ further_twice bytes lines n (divider_at (drop (n + 1) text))

-- at the line `journal`
pub divider_here : (file text : List ℕ) (bytes lines n : ℕ) → divider_at file ≡ option_map (further bytes lines) (divider_at text) → position is_feed text ≡ Some n → same (take n text) divider ≡ true
    → divider_at file ≡ Some (bytes, lines)
divider_here file text bytes lines n is e here =
    is ∙ ap (option_map (further bytes lines)) (divider_first text n e ∙ ap (λ b. cond b (Some (0, 0)) (option_map (further (n + 1) 1) (divider_at (drop (n + 1) text)))) here)
    ∙ ap Some (ap (λ (k : ℕ). (k, lines + 0)) (omega arith) ∙ ap (λ (k : ℕ). (bytes, k)) (omega arith))

-- where no line feed comes any more
pub divider_nowhere : (file text : List ℕ) (bytes lines : ℕ) → divider_at file ≡ option_map (further bytes lines) (divider_at text) → position is_feed text ≡ None → divider_at file ≡ None
divider_nowhere file text bytes lines is e = is ∙ ap (option_map (further bytes lines)) (divider_none text e)

-- ---- as slices are taken

rest_is : (file : List ℕ) (at : ℕ) → take (length file - at) (drop at file) ≡ drop at file
rest_is file at = take_all (length file - at) (drop at file) (omega (arith, length-drop at file))

drop_on : (file : List ℕ) (at n : ℕ) → drop (n + 1) (drop at file) ≡ drop (at + (n + 1)) file
drop_on file at n = drop-drop (n + 1) at file ∙ ap (λ k. drop k file) (omega arith)

line_is : (file : List ℕ) (at n : ℕ) → take ((at + n) - at) (drop at file) ≡ take n (drop at file)
line_is file at n = ap (λ k. take k (drop at file)) (omega arith)

-- the first line feed behind a place
feed_behind : (file : List ℕ) (at : ℕ) (o : Option ℕ) → position is_feed (take (length file - at) (drop at file)) ≡ o → position is_feed (drop at file) ≡ o
feed_behind file at o e = ap (position is_feed) (sym (rest_is file at)) ∙ e

pub found_here : (file : List ℕ) (at lines n : ℕ) → divider_at file ≡ option_map (further at lines) (divider_at (drop at file)) → position is_feed (take (length file - at) (drop at file)) ≡ Some n
    → same (take ((at + n) - at) (drop at file)) divider ≡ true → divider_at file ≡ Some (at, lines)
found_here file at lines n is e here = divider_here file (drop at file) at lines n is (feed_behind file at (Some n) e) (ap (λ line. same line divider) (sym (line_is file at n)) ∙ here)

pub found_on : (file : List ℕ) (at lines n : ℕ) → divider_at file ≡ option_map (further at lines) (divider_at (drop at file)) → position is_feed (take (length file - at) (drop at file)) ≡ Some n
    → same (take ((at + n) - at) (drop at file)) divider ≡ false → at ≤ length file
    → (at + (n + 1) ≤ length file) × (divider_at file ≡ option_map (further (at + (n + 1)) (lines + 1)) (divider_at (drop (at + (n + 1)) file)))
found_on file at lines n is e other le =
    let first = feed_behind file at (Some n) e in
    let within = feed_within (drop at file) n first in (
      omega (arith, within, length-drop at file, le),
      divider_further file (drop at file) at lines n is first (ap (λ line. same line divider) (sym (line_is file at n)) ∙ other) ∙ ap (λ text. option_map (further (at + (n + 1)) (lines + 1)) (divider_at text)) (drop_on file at n),
    )

pub found_nowhere : (file : List ℕ) (at lines : ℕ) → divider_at file ≡ option_map (further at lines) (divider_at (drop at file)) → position is_feed (take (length file - at) (drop at file)) ≡ None → divider_at file ≡ None
found_nowhere file at lines is e = divider_nowhere file (drop at file) at lines is (feed_behind file at None e)
