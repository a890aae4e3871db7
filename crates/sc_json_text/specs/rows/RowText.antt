-- The text of a journal's row, and which rows the program's types can hold.
use Rattle.std.specs.Prelude.{ℕ, List}
use Rattle.serde_json.specs.Written.{compact_text}
use Rattle.sc_actor.specs.declared.rows.Row.{Row}
use Rattle.sc_words.specs.declared.commands.orders.OrderLine.{OrderLine}
use Rattle.sc_mail.specs.declared.bodies.Mail.{Mail}
use Rattle.sc_json_text.specs.rows.Rows.{row_json, FitsRow}

-- The text of a row: its JSON, compact, with the names of each object in ascending order.
unfoldable pub text_of : Row Mail OrderLine → List ℕ
text_of row = compact_text (row_json row)

-- The row is one that the program's types can hold: its numbers are in their ranges, and its keys, values, arcs and sets are valid.
unfoldable pub IsHeld : Row Mail OrderLine → Type 0
IsHeld row = FitsRow row
