use Rattle.std.proofs.Common.{codes, ap}
use Rattle.sc_mail.specs.declared.bodies.MailBody.TheVariants.{TxVote}
use Rattle.sc_json_text.specs.rows.Mails.{mail_body_json, FitsMailBody}
use Rattle.sc_json_text.specs.rows.Shapes.{variant}
use Rattle.sc_json_read.specs.Reading.{content_of}
use Rattle.sc_json_read.proofs.Finding.{failed}
use Rattle.sc_json_journal.proofs.row.mails.mail_body_tx_vote.Goals as goal

pub returns-in_err-coord-clause-finds : goal.returns-in_err-coord-clause-finds
unfolding mail_body_json FitsMailBody
returns-in_err-coord-clause-finds c = λ tx coord part vote fits e. failed _ _ _ c.from_residual.ensures (c.in_err-coord.ensures.finds coord part tx vote fits.0 fits.1 fits.2 fits.3 (ap content_of e))

pub returns-clause-finds : goal.returns-clause-finds
unfolding mail_body_json FitsMailBody
returns-clause-finds c = λ tx coord part vote fits e. ap (λ p. TxVote p.2 p.0 p.1 p.3) (c.in_ok-coord.ensures.finds coord part tx vote fits.0 fits.1 fits.2 fits.3 (ap content_of e))

pub returns-clause-exact : goal.returns-clause-exact
unfolding mail_body_json
returns-clause-exact c = ap (variant (codes "TxVote")) c.in_ok-coord.ensures.exact
