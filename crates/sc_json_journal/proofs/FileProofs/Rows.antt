-- The lines of rows.
use Rattle.std.proofs.Common.{◌≡◌, ℕ, ◌+◌, ◌-◌, ◌<◌, ◌≤◌, true, not, eqb, List, [], ◌∷◌, ◌++◌, length, take, drop, position, Some, None, refl, sym, ap, ◌∙◌, arith, append_assoc, length-append}
use Rattle.std.specs.List.{list_all}
use Rattle.std.proofs.lemmas.List.{append-nil, take_rest}
use Rattle.std.proofs.lemmas.Option.{same_Some, none-some}
use Rattle.sc_base.specs.Among.{Each}
use Rattle.sc_actor.specs.Mail.{mails}
use Rattle.sc_actor.specs.declared.rows.Row.{Row}
use Rattle.sc_words.specs.declared.commands.orders.OrderLine.{OrderLine}
use Rattle.sc_mail.specs.declared.bodies.Mail.{Mail}
use Rattle.sc_json_text.specs.rows.RowText.{text_of, IsHeld}
use Rattle.sc_json_journal.specs.file.Files.{fed}
use Rattle.sc_json_journal.specs.file.Stored.{rows_whole, BeginsBadly, IsSole, GoesOn}
use Rattle.sc_json_journal.proofs.FileProofs.Dividers.{is_feed}
use Rattle.sc_json_journal.proofs.FileProofs.Plain.{plain_feed, line_taken, fed_apart, cut_at}

-- the text of a row is one line
abbrev pub AreLines : Type 0
AreLines = (row : Row Mail OrderLine) → IsHeld row → list_all (λ (byte : ℕ). not (eqb byte 10)) (text_of row) ≡ true

-- it has a byte for each mail
abbrev pub AreLong : Type 0
AreLong = (row : Row Mail OrderLine) → IsHeld row → length row.sent ≤ length (text_of row)

-- ---- the first line

-- without a line feed no row's line begins
pub bad_unended : (bytes : List ℕ) → 0 < length bytes → position is_feed bytes ≡ None → AreLines → BeginsBadly bytes
bad_unended bytes some e lines =
    (some, λ row more held is. none-some (length (text_of row)) (sym e ∙ ap (position is_feed) is ∙ plain_feed (text_of row) more (lines row held)))

-- nor where the first line is no row's text
pub bad_line : (bytes : List ℕ) (at : ℕ) → 0 < length bytes → position is_feed bytes ≡ Some at → AreLines → ((row : Row Mail OrderLine) → IsHeld row → text_of row ≡ take at bytes → ⊥) → BeginsBadly bytes
bad_line bytes at some e lines none = (
  some,
  λ row more held is.
      let same : length (text_of row) ≡ at = same_Some (length (text_of row)) at (sym (plain_feed (text_of row) more (lines row held)) ∙ ap (position is_feed) (sym is) ∙ e) in
      none row held (sym (line_taken (text_of row) more) ∙ ap (take (length (text_of row))) (sym is) ∙ ap (λ n. take n bytes) same),
)

-- where it is, the row's line begins
pub good_line : (bytes : List ℕ) (at : ℕ) (row : Row Mail OrderLine) → position is_feed bytes ≡ Some at → text_of row ≡ take at bytes → IsHeld row
    → ((other : Row Mail OrderLine) → IsHeld other → text_of other ≡ take at bytes → other ≡ row) → GoesOn bytes row (take (length bytes - (at + 1)) (drop (at + 1) bytes))
good_line bytes at row e is held only = record {
  held = held;
  sole = λ other h same. only other h (same ∙ is);
  bytes_are = cut_at bytes at e ∙ ap (λ line. fed line ++ drop (at + 1) bytes) (sym is) ∙ ap (λ rest. fed (text_of row) ++ rest) (sym (take_rest bytes (at + 1)));
}

-- ---- line by line

whole_push : (rows : List (Row Mail OrderLine)) (row : Row Mail OrderLine) (more : List ℕ) → rows_whole (rows ++ row ∷ []) ++ more ≡ rows_whole rows ++ (fed (text_of row) ++ more)
whole_push [] row more = ap (λ bytes. bytes ++ more) (append-nil (fed (text_of row)))
whole_push (first ∷ rows) row more =
    append_assoc (fed (text_of first)) (rows_whole (rows ++ row ∷ [])) more
    ∙ ap (λ bytes. fed (text_of first) ++ bytes) (whole_push rows row more)
    ∙ sym (append_assoc (fed (text_of first)) (rows_whole rows) (fed (text_of row) ++ more))

-- one row further
pub rows_on : (bytes rest more : List ℕ) (rows : List (Row Mail OrderLine)) (row : Row Mail OrderLine) → bytes ≡ rows_whole rows ++ rest → GoesOn rest row more → bytes ≡ rows_whole (rows ++ row ∷ []) ++ more
rows_on bytes rest more rows row is on = is ∙ ap (λ end. rows_whole rows ++ end) on.bytes_are ∙ sym (whole_push rows row more)

-- and shorter
pub rest_shorter : (rest more : List ℕ) (row : Row Mail OrderLine) → GoesOn rest row more → length more + 1 ≤ length rest
rest_shorter rest more row on =
    omega (arith, ap length on.bytes_are, length-append (fed (text_of row)) more, length-append (text_of row) (10 ∷ []))

-- ---- how many

-- each row has its line feed
pub few_rows : (rows : List (Row Mail OrderLine)) → length rows ≤ length (rows_whole rows)
few_rows [] = omega arith
few_rows (row ∷ rows) =
    let more = few_rows rows in
    omega (arith, more, length-append (fed (text_of row)) (rows_whole rows), length-append (text_of row) (10 ∷ []))

-- and each mail a byte of its row's text
pub few_mails : AreLong → (rows : List (Row Mail OrderLine)) → Each IsHeld rows → length (mails rows) ≤ length (rows_whole rows)
few_mails long [] held = omega arith
few_mails long (row ∷ rows) held =
    let more = few_mails long rows held.1 in
    omega (arith, more, long row held.0, length-append row.sent (mails rows), length-append (fed (text_of row)) (rows_whole rows), length-append (text_of row) (10 ∷ []))

-- ---- which

-- a line with its line feed has bytes
pub some_bytes : (text more : List ℕ) → [] ≡ fed text ++ more → ⊥
some_bytes text more e = absurd (omega (arith, ap length e, length-append (fed text) more, length-append text (10 ∷ [])))

-- no other rows have the same lines as rows that are the only ones with their texts
pub same_rows : AreLines → (rows others : List (Row Mail OrderLine)) → Each IsHeld rows → Each IsSole rows → Each IsHeld others → rows_whole rows ≡ rows_whole others → others ≡ rows
same_rows lines [] [] held sole helds e = refl
same_rows lines [] (other ∷ others) held sole helds e = absurd (some_bytes (text_of other) (rows_whole others) e)
same_rows lines (row ∷ rows) [] held sole helds e = absurd (some_bytes (text_of row) (rows_whole rows) (sym e))
same_rows lines (row ∷ rows) (other ∷ others) held sole helds e =
    let apart = fed_apart (text_of row) (text_of other) (rows_whole rows) (rows_whole others) (lines row held.0) (lines other helds.0) e in
    ap (λ first. first ∷ others) (sole.0 other helds.0 (sym apart.0)) ∙ ap (λ more. row ∷ more) (same_rows lines rows others held.1 sole.1 helds.1 apart.1)
