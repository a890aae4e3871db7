use Rattle.std.proofs.Common.{ap}
use Rattle.sc_actor.specs.declared.rows.Row.{Row}
use Rattle.sc_mail.specs.declared.bodies.Mail.{Mail}
use Rattle.sc_words.specs.declared.commands.orders.OrderLine.{OrderLine}
use Rattle.sc_json_text.specs.rows.Rows.{row_json, FitsRow}
use Rattle.sc_json_read.proofs.Finding.{failed}
use Rattle.sc_json_journal.proofs.row.rows.row_from_json.Goals as goal

pub returns-in_err-event-clause-finds : goal.returns-in_err-event-clause-finds
unfolding row_json FitsRow
returns-in_err-event-clause-finds c = λ row fits e. failed _ _ _ c.from_residual.ensures (c.in_err-event.ensures.finds row.event (record { mails = row.sent }) row.who fits.0 fits.1 fits.2 e)

pub returns-clause-finds : goal.returns-clause-finds
unfolding row_json FitsRow
returns-clause-finds c = λ row fits e. ap (λ p. let r : Row Mail OrderLine = record { event = p.0; sent = p.1.mails; who = p.2 } in r) (c.in_ok-event.ensures.finds row.event (record { mails = row.sent }) row.who fits.0 fits.1 fits.2 e)

pub returns-clause-exact : goal.returns-clause-exact
unfolding row_json
returns-clause-exact c = c.in_ok-event.ensures.exact
