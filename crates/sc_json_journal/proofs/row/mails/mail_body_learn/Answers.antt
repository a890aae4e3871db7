use Rattle.std.proofs.Common.{codes, ap}
use Rattle.sc_mail.specs.declared.bodies.MailBody.TheVariants.{Learn}
use Rattle.sc_json_text.specs.rows.Mails.{mail_body_json, FitsMailBody}
use Rattle.sc_json_text.specs.rows.Shapes.{variant}
use Rattle.sc_json_read.specs.Reading.{content_of}
use Rattle.sc_json_read.proofs.Finding.{failed}
use Rattle.sc_json_journal.proofs.row.mails.mail_body_learn.Goals as goal

pub returns-in_err-command-clause-finds : goal.returns-in_err-command-clause-finds
unfolding mail_body_json FitsMailBody
returns-in_err-command-clause-finds c = λ group slot command fits e. failed _ _ _ c.from_residual.ensures (c.in_err-command.ensures.finds command group slot fits.0 fits.1 fits.2 (ap content_of e))

pub returns-clause-finds : goal.returns-clause-finds
unfolding mail_body_json FitsMailBody
returns-clause-finds c = λ group slot command fits e. ap (λ p. Learn p.1 p.2 p.0) (c.in_ok-command.ensures.finds command group slot fits.0 fits.1 fits.2 (ap content_of e))

pub returns-clause-exact : goal.returns-clause-exact
unfolding mail_body_json
returns-clause-exact c = ap (variant (codes "Learn")) c.in_ok-command.ensures.exact
