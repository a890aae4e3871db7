use Rattle.std.proofs.Common.{codes, ap}
use Rattle.sc_mail.specs.declared.bodies.MailBody.TheVariants.{TxOutcome}
use Rattle.sc_json_text.specs.rows.Mails.{mail_body_json, FitsMailBody}
use Rattle.sc_json_text.specs.rows.Shapes.{variant}
use Rattle.sc_json_read.specs.Reading.{content_of}
use Rattle.sc_json_read.proofs.Finding.{failed}
use Rattle.sc_json_journal.proofs.row.mails.mail_body_tx_outcome.Goals as goal

pub returns-in_err-outcome-clause-finds : goal.returns-in_err-outcome-clause-finds
unfolding mail_body_json FitsMailBody
returns-in_err-outcome-clause-finds c = λ tx part outcome fits e. failed _ _ _ c.from_residual.ensures (c.in_err-outcome.ensures.finds outcome part tx fits.0 fits.1 fits.2 (ap content_of e))

pub returns-clause-finds : goal.returns-clause-finds
unfolding mail_body_json FitsMailBody
returns-clause-finds c = λ tx part outcome fits e. ap (λ p. TxOutcome p.2 p.1 p.0) (c.in_ok-outcome.ensures.finds outcome part tx fits.0 fits.1 fits.2 (ap content_of e))

pub returns-clause-exact : goal.returns-clause-exact
unfolding mail_body_json
returns-clause-exact c = ap (variant (codes "TxOutcome")) c.in_ok-outcome.ensures.exact
