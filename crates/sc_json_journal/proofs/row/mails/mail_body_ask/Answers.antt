use Rattle.std.proofs.Common.{codes, ap}
use Rattle.sc_mail.specs.declared.bodies.MailBody.TheVariants.{Ask}
use Rattle.sc_json_text.specs.rows.Mails.{mail_body_json, FitsMailBody}
use Rattle.sc_json_text.specs.rows.Shapes.{variant}
use Rattle.sc_json_read.specs.Reading.{content_of}
use Rattle.sc_json_read.proofs.Finding.{failed}
use Rattle.sc_json_journal.proofs.row.mails.mail_body_ask.Goals as goal

pub returns-in_err-from_slot-clause-finds : goal.returns-in_err-from_slot-clause-finds
unfolding mail_body_json FitsMailBody
returns-in_err-from_slot-clause-finds c = λ group from_slot fits e. failed _ _ _ c.from_residual.ensures (c.in_err-from_slot.ensures.finds from_slot group fits.0 fits.1 (ap content_of e))

pub returns-clause-finds : goal.returns-clause-finds
unfolding mail_body_json FitsMailBody
returns-clause-finds c = λ group from_slot fits e. ap (λ p. Ask p.1 p.0) (c.in_ok-from_slot.ensures.finds from_slot group fits.0 fits.1 (ap content_of e))

pub returns-clause-exact : goal.returns-clause-exact
unfolding mail_body_json
returns-clause-exact c = ap (variant (codes "Ask")) c.in_ok-from_slot.ensures.exact
