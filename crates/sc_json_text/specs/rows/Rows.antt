-- Rows and their events as JSON.
use Rattle.std.specs.Prelude.{[], ◌∷◌, codes, ⊤}
use Rattle.serde_json.specs.Data.{Data, string}
use Rattle.sc_base.specs.Definitions.{Each}
use Rattle.sc_actor.specs.declared.rows.Event.{Event}
use Rattle.sc_actor.specs.declared.rows.Event.TheVariants as TheEvent
use Rattle.sc_actor.specs.declared.rows.Row.{Row}
use Rattle.sc_mail.specs.declared.bodies.Mail.{Mail}
use Rattle.sc_words.specs.declared.commands.orders.OrderLine.{OrderLine}
use Rattle.sc_json_text.specs.rows.Shapes.{number_json, list_json, fields, variant}
use Rattle.sc_json_text.specs.rows.Held.{FitsU32}
use Rattle.sc_json_text.specs.rows.Orders.{order_line_json, FitsOrderLine}
use Rattle.sc_json_text.specs.rows.Mails.{mail_json, FitsMail}

-- The JSON of an event: the variant that it is, with its content.
unfoldable pub event_json : Event OrderLine → Data
event_json (TheEvent.Deliver content) = variant (codes "Deliver") (number_json content)
event_json TheEvent.Tick = string (codes "Tick")
event_json TheEvent.Go = string (codes "Go")
event_json (TheEvent.Told content) = variant (codes "Told") (order_line_json content)
event_json TheEvent.Crash = string (codes "Crash")
event_json (TheEvent.Drop content) = variant (codes "Drop") (number_json content)
event_json (TheEvent.Again content) = variant (codes "Again") (number_json content)

-- An event that the program's type can hold: each of its parts is valid.
unfoldable pub FitsEvent : Event OrderLine → Type 0
FitsEvent (TheEvent.Deliver content) = FitsU32 content
FitsEvent TheEvent.Tick = ⊤
FitsEvent TheEvent.Go = ⊤
FitsEvent (TheEvent.Told content) = FitsOrderLine content
FitsEvent TheEvent.Crash = ⊤
FitsEvent (TheEvent.Drop content) = FitsU32 content
FitsEvent (TheEvent.Again content) = FitsU32 content

-- The JSON of a row: its event, the mail that it sends, and the actor that made it.
unfoldable pub row_json : Row Mail OrderLine → Data
row_json row = fields
    ((codes "event", event_json row.event)
    ∷ (codes "sent", list_json mail_json row.sent)
    ∷ (codes "who", number_json row.who)
    ∷ [])

-- A row that the program's type can hold: each of its parts is valid.
unfoldable pub FitsRow : Row Mail OrderLine → Type 0
FitsRow row = FitsEvent row.event × Each FitsMail row.sent × FitsU32 row.who
