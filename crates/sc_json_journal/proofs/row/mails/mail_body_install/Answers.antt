use Rattle.std.proofs.Common.{codes, ap}
use Rattle.sc_mail.specs.declared.bodies.MailBody.TheVariants.{Install}
use Rattle.sc_json_text.specs.rows.Mails.{mail_body_json, FitsMailBody}
use Rattle.sc_json_text.specs.rows.Shapes.{variant}
use Rattle.sc_json_read.specs.Reading.{content_of}
use Rattle.sc_json_read.proofs.Finding.{failed}
use Rattle.sc_json_journal.proofs.row.mails.mail_body_install.Goals as goal

pub returns-in_err-base-clause-finds : goal.returns-in_err-base-clause-finds
unfolding mail_body_json FitsMailBody
returns-in_err-base-clause-finds c = λ group slot base sets fits e. failed _ _ _ c.from_residual.ensures (c.in_err-base.ensures.finds base group sets slot fits.0 fits.1 fits.2 fits.3 (ap content_of e))

pub returns-clause-finds : goal.returns-clause-finds
unfolding mail_body_json FitsMailBody
returns-clause-finds c = λ group slot base sets fits e. ap (λ p. Install p.1 p.3 p.0 p.2) (c.in_ok-base.ensures.finds base group sets slot fits.0 fits.1 fits.2 fits.3 (ap content_of e))

pub returns-clause-exact : goal.returns-clause-exact
unfolding mail_body_json
returns-clause-exact c = ap (variant (codes "Install")) c.in_ok-base.ensures.exact
