use Rattle.std.proofs.Common.{codes, ap}
use Rattle.sc_mail.specs.declared.bodies.MailBody.TheVariants.{TxWatch}
use Rattle.sc_json_text.specs.rows.Mails.{mail_body_json, FitsMailBody}
use Rattle.sc_json_text.specs.rows.Shapes.{variant}
use Rattle.sc_json_read.specs.Reading.{content_of}
use Rattle.sc_json_read.proofs.Finding.{failed}
use Rattle.sc_json_journal.proofs.row.mails.mail_body_tx_watch.Goals as goal

pub returns-in_err-tx-clause-finds : goal.returns-in_err-tx-clause-finds
unfolding mail_body_json FitsMailBody
returns-in_err-tx-clause-finds c = λ tx watch fits e. failed _ _ _ c.from_residual.ensures (c.in_err-tx.ensures.finds tx watch fits.0 fits.1 (ap content_of e))

pub returns-clause-finds : goal.returns-clause-finds
unfolding mail_body_json FitsMailBody
returns-clause-finds c = λ tx watch fits e. ap (λ p. TxWatch p.0 p.1) (c.in_ok-tx.ensures.finds tx watch fits.0 fits.1 (ap content_of e))

pub returns-clause-exact : goal.returns-clause-exact
unfolding mail_body_json
returns-clause-exact c = ap (variant (codes "TxWatch")) c.in_ok-tx.ensures.exact
