-- Texts without a line feed, and the lines that they make.
use Rattle.std.proofs.Common.{◌≡◌, ℕ, ◌+◌, ◌<◌, Bool, true, not, eqb, nat_lt, List, [], ◌∷◌, ◌++◌, length, take, drop, get_or, position, Some, None, refl, sym, ap, ◌∙◌, arith, append_assoc, length-append}
use Rattle.std.specs.List.{list_all, position_or_len}
use Rattle.std.proofs.lemmas.Bool.{and_parts, cond-true, lt-ltb, eqb-true}
use Rattle.std.proofs.lemmas.List.{take_at, drop_at, drop_more, take-append-drop}
use Rattle.std.proofs.lemmas.List.Quantifiers.{position-Some}
use Rattle.std.proofs.lemmas.Option.{same_Some}
use Rattle.sc_json_journal.specs.file.Files.{fed}
use Rattle.sc_json_journal.proofs.FileProofs.Dividers.{is_feed}

-- whether a text has no line feed
abbrev pub is_plain : List ℕ → Bool
is_plain text = list_all (λ byte. not (eqb byte 10)) text

plain_first : (text more : List ℕ) → is_plain text ≡ true → position_or_len is_feed (fed text ++ more) ≡ length text
plain_first [] more p = refl
plain_first (byte ∷ text) more p =
    let parts = and_parts (not (eqb byte 10)) (is_plain text) p in
    let on = plain_first text more parts.1 in
    cond-true (not (eqb byte 10)) (1 + position_or_len is_feed (fed text ++ more)) 0 parts.0 ∙ omega (arith, on)

-- a line feed more
pub length_fed : (text : List ℕ) → length (fed text) ≡ length text + 1
length_fed text = omega (arith, length-append text (10 ∷ []))

-- the first line feed is the one behind such a text
pub plain_feed : (text more : List ℕ) → is_plain text ≡ true → position is_feed (fed text ++ more) ≡ Some (length text)
plain_feed text more p =
    let at = plain_first text more p in
    let within : position_or_len is_feed (fed text ++ more) < length (fed text ++ more) = omega (arith, at, length-append (fed text) more, length_fed text) in
    cond-true (nat_lt (position_or_len is_feed (fed text ++ more)) (length (fed text ++ more))) (Some (position_or_len is_feed (fed text ++ more))) None (lt-ltb (position_or_len is_feed (fed text ++ more)) (length (fed text ++ more)) within) ∙ ap Some at

-- the bytes before the first line feed are the line itself
pub line_taken : (text more : List ℕ) → take (length text) (fed text ++ more) ≡ text
line_taken text more = ap (take (length text)) (append_assoc text (10 ∷ []) more) ∙ take_at text (10 ∷ more) (length text) refl

-- the bytes behind the first line feed are what is behind the line
pub line_dropped : (text more : List ℕ) → drop (length text + 1) (fed text ++ more) ≡ more
line_dropped text more = drop_at (fed text) more (length text + 1) (length_fed text)

-- two lines with line feeds that begin the same bytes are one
pub fed_apart : (one other more rest : List ℕ) → is_plain one ≡ true → is_plain other ≡ true → fed one ++ more ≡ fed other ++ rest → (one ≡ other) × (more ≡ rest)
fed_apart one other more rest p q e =
    let same : length one ≡ length other = same_Some (length one) (length other) (sym (plain_feed one more p) ∙ ap (position is_feed) e ∙ plain_feed other rest q) in (
      sym (line_taken one more) ∙ ap (take (length one)) e ∙ ap (λ n. take n (fed other ++ rest)) same ∙ line_taken other rest,
      sym (line_dropped one more) ∙ ap (drop (length one + 1)) e ∙ ap (λ n. drop (n + 1) (fed other ++ rest)) same ∙ line_dropped other rest,
    )

-- a text up to its first line feed and from there on
pub cut_at : (text : List ℕ) (at : ℕ) → position is_feed text ≡ Some at → text ≡ fed (take at text) ++ drop (at + 1) text
cut_at text at e =
    let found = position-Some is_feed text at 0 e in
    sym (take-append-drop at text)
    ∙ ap (λ rest. take at text ++ rest) (drop_more text at 0 found.0 ∙ ap (λ byte. byte ∷ drop (at + 1) text) (eqb-true (get_or text at 0) 10 found.1))
    ∙ sym (append_assoc (take at text) (10 ∷ []) (drop (at + 1) text))
