-- Rows and their events are plain JSON.
use Rattle.std.proofs.Common.{◌≡◌, ℕ, suc, refl}
use Rattle.sc_actor.specs.declared.rows.Event.{Event}
use Rattle.sc_actor.specs.declared.rows.Event.TheVariants as TheEvent
use Rattle.sc_actor.specs.declared.rows.Row.{Row}
use Rattle.sc_mail.specs.declared.bodies.Mail.{Mail}
use Rattle.sc_words.specs.declared.commands.orders.OrderLine.{OrderLine}
use Rattle.sc_json_text.specs.plain.Plain.{IsPlain}
use Rattle.sc_json_text.specs.rows.Definitions.{mail_json, FitsMail, event_json, FitsEvent, row_json, FitsRow}
use Rattle.sc_json_text.proofs.RowsProofs.ShapesPlain.{list_plain, u32_plain}
use Rattle.sc_json_text.proofs.RowsProofs.MailsPlain.{mail_plain}
use Rattle.sc_json_text.proofs.RowsProofs.OrdersPlain.{order_line_plain}

pub event_plain : (room : ℕ) (event : Event OrderLine) → FitsEvent event → IsPlain (suc (suc (suc (suc room)))) (event_json event)
unfolding event_json FitsEvent
event_plain room (TheEvent.Deliver content) fits = (refl, (u32_plain content fits), tt, tt)
event_plain room TheEvent.Tick fits = refl
event_plain room TheEvent.Go fits = refl
event_plain room (TheEvent.Told content) fits = (refl, (order_line_plain room content fits), tt, tt)
event_plain room TheEvent.Crash fits = refl
event_plain room (TheEvent.Drop content) fits = (refl, (u32_plain content fits), tt, tt)
event_plain room (TheEvent.Again content) fits = (refl, (u32_plain content fits), tt, tt)

pub row_plain : (room : ℕ) (row : Row Mail OrderLine) → FitsRow row → IsPlain (suc (suc (suc (suc (suc (suc (suc (suc (suc (suc (suc (suc (suc (suc (suc room))))))))))))))) (row_json row)
unfolding row_json FitsRow
row_plain room row fits = (refl, (event_plain (suc (suc (suc (suc (suc (suc (suc (suc (suc (suc room)))))))))) row.event fits.0), refl, (refl, (list_plain (suc (suc (suc (suc (suc (suc (suc (suc (suc (suc (suc (suc (suc room))))))))))))) mail_json FitsMail (λ y14 g14. (mail_plain room y14 g14)) row.sent fits.1), refl, (refl, (u32_plain row.who fits.2), tt, tt)))
