use Rattle.std.proofs.Common.{codes, ap}
use Rattle.sc_mail.specs.declared.bodies.MailBody.TheVariants.{Request}
use Rattle.sc_json_text.specs.rows.Mails.{mail_body_json, FitsMailBody}
use Rattle.sc_json_text.specs.rows.Shapes.{variant}
use Rattle.sc_json_read.specs.Reading.{content_of}
use Rattle.sc_json_read.proofs.Finding.{failed}
use Rattle.sc_json_journal.proofs.row.mails.mail_body_request.Goals as goal

pub returns-in_err-client-clause-finds : goal.returns-in_err-client-clause-finds
unfolding mail_body_json FitsMailBody
returns-in_err-client-clause-finds c = λ group client seq op fits e. failed _ _ _ c.from_residual.ensures (c.in_err-client.ensures.finds client group op seq fits.0 fits.1 fits.2 fits.3 (ap content_of e))

pub returns-clause-finds : goal.returns-clause-finds
unfolding mail_body_json FitsMailBody
returns-clause-finds c = λ group client seq op fits e. ap (λ p. Request p.1 p.0 p.3 p.2) (c.in_ok-client.ensures.finds client group op seq fits.0 fits.1 fits.2 fits.3 (ap content_of e))

pub returns-clause-exact : goal.returns-clause-exact
unfolding mail_body_json
returns-clause-exact c = ap (variant (codes "Request")) c.in_ok-client.ensures.exact
