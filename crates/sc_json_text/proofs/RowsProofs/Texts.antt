-- The text of a row: one line that is read back, and no shorter than the row has mails.
use Rattle.std.proofs.Common.{◌≡◌, suc, ◌≤◌, List, [], ◌∷◌, length, codes, true, false, Some, refl, ap, arith, IsUtf8}
use Rattle.serde_json.specs.Events.{items_len}
use Rattle.serde_json.specs.Read.{read}
use Rattle.serde_json.specs.Written.{has_float}
use Rattle.sc_actor.specs.declared.rows.Row.{Row}
use Rattle.sc_words.specs.declared.commands.orders.OrderLine.{OrderLine}
use Rattle.sc_mail.specs.declared.bodies.Mail.{Mail}
use Rattle.sc_json_text.specs.plain.Plain.{IsPlain, is_one_line}
use Rattle.sc_json_text.proofs.PlainProofs.Lemmas.{plain_has_no_float, plain_read_back, plain_text_utf8, plain_text_on_one_line, items_counted, members_parts}
use Rattle.sc_json_text.specs.rows.Definitions.{items_json, list_json, members_json, number_json, mail_json, event_json, row_json, text_of, IsHeld}
use Rattle.sc_json_text.proofs.RowsProofs.RowsPlain.{row_plain}

-- a row that is held is plain
held_plain : (row : Row Mail OrderLine) → IsHeld row → IsPlain 127 (row_json row)
unfolding IsHeld
held_plain row held = row_plain 112 row held

pub no_float : (row : Row Mail OrderLine) → IsHeld row → has_float (row_json row) ≡ false
no_float row held = plain_has_no_float 127 (row_json row) (held_plain row held)

pub reads_back : (row : Row Mail OrderLine) → IsHeld row → read (text_of row) ≡ Some (row_json row)
unfolding text_of
reads_back row held = plain_read_back (row_json row) (held_plain row held)

pub text_utf8 : (row : Row Mail OrderLine) → IsHeld row → IsUtf8 (text_of row)
unfolding text_of
text_utf8 row held = plain_text_utf8 127 (row_json row) (held_plain row held)

pub one_line : (row : Row Mail OrderLine) → IsHeld row → is_one_line (text_of row) ≡ true
unfolding text_of
one_line row held = plain_text_on_one_line 127 (row_json row) (held_plain row held)

counted : (mails : List Mail) → items_len (items_json mail_json mails) ≡ length mails
counted [] = refl
counted (mail ∷ mails) = ap suc (counted mails)

pub mails_counted : (row : Row Mail OrderLine) → IsHeld row → length row.sent ≤ length (text_of row)
unfolding text_of row_json
mails_counted row held =
    let mails = counted row.sent in
    let items = items_counted (items_json mail_json row.sent) in
    let later = members_parts true (codes "sent") (list_json mail_json row.sent) (members_json ((codes "who", number_json row.who) ∷ [])) in
    let whole = members_parts false (codes "event") (event_json row.event) (members_json ((codes "sent", list_json mail_json row.sent) ∷ (codes "who", number_json row.who) ∷ [])) in
    omega (arith, mails, items, later.0, whole.1)
