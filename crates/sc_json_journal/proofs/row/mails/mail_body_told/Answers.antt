use Rattle.std.proofs.Common.{codes, ap}
use Rattle.sc_mail.specs.declared.bodies.MailBody.TheVariants.{Told}
use Rattle.sc_json_text.specs.rows.Mails.{mail_body_json, FitsMailBody}
use Rattle.sc_json_text.specs.rows.Shapes.{variant}
use Rattle.sc_json_read.specs.Reading.{content_of}
use Rattle.sc_json_read.proofs.Finding.{failed}
use Rattle.sc_json_journal.proofs.row.mails.mail_body_told.Goals as goal

pub returns-in_err-order-clause-finds : goal.returns-in_err-order-clause-finds
unfolding mail_body_json FitsMailBody
returns-in_err-order-clause-finds c = λ order outcome fits e. failed _ _ _ c.from_residual.ensures (c.in_err-order.ensures.finds order outcome fits.0 fits.1 (ap content_of e))

pub returns-clause-finds : goal.returns-clause-finds
unfolding mail_body_json FitsMailBody
returns-clause-finds c = λ order outcome fits e. ap (λ p. Told p.0 p.1) (c.in_ok-order.ensures.finds order outcome fits.0 fits.1 (ap content_of e))

pub returns-clause-exact : goal.returns-clause-exact
unfolding mail_body_json
returns-clause-exact c = ap (variant (codes "Told")) c.in_ok-order.ensures.exact
