-- Lines with their line feeds, and the lines of a text.
use Rattle.std.proofs.Common.{◌≡◌, ℕ, zero, suc, ◌+◌, ◌<◌, ◌≤◌, Bool, true, false, not, cond, eqb, nat_lt, List, [], ◌∷◌, ◌++◌, length, take, drop, get_or, position, Option, Some, None, refl, sym, ap, ◌∙◌, subst, inl, inr, arith, append_assoc, length-drop}
use Rattle.std.specs.Prelude.{◌⊎◌}
use Rattle.std.specs.List.{position_or_len}
use Rattle.std.proofs.lemmas.Bool.{and_parts, cond-true, cond-false, not_from_false, le-ltb, ltb-false}
use Rattle.std.proofs.lemmas.List.{append-nil, get_or-take, length-take-le}
use Rattle.std.proofs.lemmas.List.Quantifiers.{position-Some}
use Rattle.std.proofs.lemmas.List.Sums.{list_all-from_AllPass, fails_before_first}
use Rattle.std.proofs.lemmas.Option.{none-some}
use Rattle.sc_base.specs.Among.{Each}
use Rattle.sc_texts.proofs.LinesProofs.Cuts.{lines_first, lines_last}
use Rattle.sc_texts.specs.lines.Lines.{lines_in}
use Rattle.sc_json_journal.specs.file.Files.{fed, whole}
use Rattle.sc_json_journal.proofs.FileProofs.Dividers.{is_feed}
use Rattle.sc_json_journal.proofs.FileProofs.Plain.{is_plain, plain_feed, line_taken, line_dropped, cut_at}

-- a text without a line feed
abbrev pub IsPlain : List ℕ → Type 0
IsPlain text = is_plain text ≡ true

-- ---- the lines of whole lines

line_next : (is_long : Bool) (line more : List ℕ) → IsPlain line → lines_in is_long (fed line ++ more) ≡ line ∷ lines_in is_long more
line_next is_long line more plain =
    lines_first is_long (fed line ++ more) (length line) (plain_feed line more plain)
    ∙ ap (λ text. text ∷ lines_in is_long (drop (length line + 1) (fed line ++ more))) (line_taken line more)
    ∙ ap (λ text. line ∷ lines_in is_long text) (line_dropped line more)

-- lines with their line feeds, and a text behind them
pub lines_whole : (is_long : Bool) (lines : List (List ℕ)) (more : List ℕ) → Each IsPlain lines → lines_in is_long (whole lines ++ more) ≡ lines ++ lines_in is_long more
lines_whole is_long [] more plain = refl
lines_whole is_long (line ∷ lines) more plain =
    ap (lines_in is_long) (append_assoc (fed line) (whole lines) more) ∙ line_next is_long line (whole lines ++ more) plain.0 ∙ ap (λ rest. line ∷ rest) (lines_whole is_long lines more plain.1)

-- lines with their line feeds, and nothing behind them
pub lines_ended : (is_long : Bool) (lines : List (List ℕ)) → Each IsPlain lines → lines_in is_long [] ≡ [] → lines_in is_long (whole lines) ≡ lines
lines_ended is_long lines plain none =
    ap (lines_in is_long) (sym (append-nil (whole lines))) ∙ lines_whole is_long lines [] plain ∙ ap (λ rest. lines ++ rest) none ∙ append-nil lines

plain_all : (text : List ℕ) → IsPlain text → position_or_len is_feed text ≡ length text
plain_all [] p = refl
plain_all (byte ∷ text) p =
    let parts = and_parts (not (eqb byte 10)) (is_plain text) p in
    let on = plain_all text parts.1 in
    cond-true (not (eqb byte 10)) (1 + position_or_len is_feed text) 0 parts.0 ∙ omega (arith, on)

-- a text without a line feed has no first one
pub plain_none : (text : List ℕ) → IsPlain text → position is_feed text ≡ None
plain_none text p =
    let all = plain_all text p in
    let le : length text ≤ position_or_len is_feed text = omega (arith, all) in
    cond-false (nat_lt (position_or_len is_feed text) (length text)) (Some (position_or_len is_feed text)) None (le-ltb (position_or_len is_feed text) (length text) le)

-- lines of which the last has no line feed, and is not empty
pub lines_bare : (lines : List (List ℕ)) (last : List ℕ) → Each IsPlain lines → IsPlain last → 0 < length last → lines_in false (whole lines ++ last) ≡ lines ++ last ∷ []
lines_bare lines last plain p some = lines_whole false lines last plain ∙ ap (λ rest. lines ++ rest) (lines_last last some (plain_none last p))

-- ---- the lines of any text

-- the last line of a text has no line feed
pub record EndsBare (text : List ℕ) (lines : List (List ℕ)) : Type 0 where
  pub prefix : List (List ℕ)
  pub last : List ℕ
  pub lines_are : lines ≡ prefix ++ last ∷ []
  pub some : 0 < length last
  pub plain : IsPlain last
  pub text_is : text ≡ whole prefix ++ last

-- the lines of a text have no line feeds in them, and make the text; only the last may lack its line feed
pub record AreLinesOf (text : List ℕ) (lines : List (List ℕ)) : Type 0 where
  pub plain : Each IsPlain lines
  pub make : (whole lines ≡ text) ⊎ EndsBare text lines

divider_after_plain : (text : List ℕ) (at : ℕ) → position is_feed text ≡ Some at → IsPlain (take at text)
divider_after_plain text at e =
    let found = position-Some is_feed text at 0 e in
    let long : length (take at text) ≡ at = length-take-le at text (omega (arith, found.0)) in
    list_all-from_AllPass (λ (byte : ℕ). not (eqb byte 10)) (take at text)
    (λ k d lt. let below : k < at = omega (arith, lt, long) in
    not_from_false (eqb (get_or (take at text) k d) 10) (ap (λ byte. eqb byte 10) (get_or-take at text k d below) ∙ (position-Some is_feed text at d e).2 k below))

found_none : (b : Bool) (n : ℕ) → cond b (Some n) None ≡ None → b ≡ false
found_none true n e = absurd (none-some n (sym e))
found_none false n e = refl

none_plain : (text : List ℕ) → position is_feed text ≡ None → IsPlain text
none_plain text e =
    let none = found_none (nat_lt (position_or_len is_feed text) (length text)) (position_or_len is_feed text) e in
    let le : length text ≤ position_or_len is_feed text = ltb-false (position_or_len is_feed text) (length text) none in
    list_all-from_AllPass (λ (byte : ℕ). not (eqb byte 10)) text
    (λ k d lt. not_from_false (eqb (get_or text k d) 10) (fails_before_first is_feed text k d (omega (arith, lt, le))))

make_on : (text : List ℕ) (at : ℕ) (lines : List (List ℕ)) → position is_feed text ≡ Some at → (whole lines ≡ drop (at + 1) text) ⊎ EndsBare (drop (at + 1) text) lines
    → (whole (take at text ∷ lines) ≡ text) ⊎ EndsBare text (take at text ∷ lines)
make_on text at lines e (inl is) = inl (ap (λ rest. fed (take at text) ++ rest) is ∙ sym (cut_at text at e))
make_on text at lines e (inr bare) = inr (record {
  prefix = take at text ∷ bare.prefix;
  last = bare.last;
  lines_are = ap (λ more. take at text ∷ more) bare.lines_are;
  some = bare.some;
  plain = bare.plain;
  text_is = cut_at text at e ∙ ap (λ rest. fed (take at text) ++ rest) bare.text_is ∙ sym (append_assoc (fed (take at text)) (whole bare.prefix) bare.last);
})

lines_on : (text : List ℕ) (at : ℕ) → position is_feed text ≡ Some at → AreLinesOf (drop (at + 1) text) (lines_in false (drop (at + 1) text)) → AreLinesOf text (lines_in false text)
lines_on text at e rest =
    subst (AreLinesOf text) (sym (lines_first false text at e))
    (record { plain = (divider_after_plain text at e, rest.plain); make = make_on text at (lines_in false (drop (at + 1) text)) e rest.make })

no_bytes : AreLinesOf [] (lines_in false [])
no_bytes = record { plain = tt; make = inl refl }

lines_none : (text : List ℕ) → position is_feed text ≡ None → 0 < length text → AreLinesOf text (lines_in false text)
lines_none text e some =
    let plain = none_plain text e in
    subst (AreLinesOf text) (sym (lines_last text some e))
    (record { plain = (plain, tt); make = inr (record { prefix = []; last = text; lines_are = refl; some = some; plain = plain; text_is = refl }) })

found_by : (n : ℕ) → ((rest : List ℕ) → length rest ≤ n → AreLinesOf rest (lines_in false rest)) → (text : List ℕ) (o : Option ℕ) → position is_feed text ≡ o → 0 < length text → length text ≤ suc n
    → AreLinesOf text (lines_in false text)
found_by n shorter text None e some le = lines_none text e some
found_by n shorter text (Some at) e some le = lines_on text at e (shorter (drop (at + 1) text) (omega (arith, le, some, length-drop (at + 1) text)))

-- by the most bytes that a text has
lines_by : (n : ℕ) (text : List ℕ) → length text ≤ n → AreLinesOf text (lines_in false text)
lines_by zero [] le = no_bytes
lines_by zero (byte ∷ text) le = absurd (omega arith)
lines_by (suc n) [] le = no_bytes
lines_by (suc n) (byte ∷ text) le = found_by n (λ rest below. lines_by n rest below) (byte ∷ text) (position is_feed (byte ∷ text)) refl (omega arith) le

-- what the lines of a text are
pub lines_are : (text : List ℕ) → AreLinesOf text (lines_in false text)
lines_are text = lines_by (length text) text (omega arith)
