use Rattle.std.proofs.Common.{codes, ap}
use Rattle.sc_mail.specs.declared.bodies.MailBody.TheVariants.{Answer}
use Rattle.sc_json_text.specs.rows.Mails.{mail_body_json, FitsMailBody}
use Rattle.sc_json_text.specs.rows.Shapes.{variant}
use Rattle.sc_json_read.specs.Reading.{content_of}
use Rattle.sc_json_read.proofs.Finding.{failed}
use Rattle.sc_json_journal.proofs.row.mails.mail_body_answer.Goals as goal

pub returns-in_err-answer-clause-finds : goal.returns-in_err-answer-clause-finds
unfolding mail_body_json FitsMailBody
returns-in_err-answer-clause-finds c = λ group seq answer fits e. failed _ _ _ c.from_residual.ensures (c.in_err-answer.ensures.finds answer group seq fits.0 fits.1 fits.2 (ap content_of e))

pub returns-clause-finds : goal.returns-clause-finds
unfolding mail_body_json FitsMailBody
returns-clause-finds c = λ group seq answer fits e. ap (λ p. Answer p.1 p.2 p.0) (c.in_ok-answer.ensures.finds answer group seq fits.0 fits.1 fits.2 (ap content_of e))

pub returns-clause-exact : goal.returns-clause-exact
unfolding mail_body_json
returns-clause-exact c = ap (variant (codes "Answer")) c.in_ok-answer.ensures.exact
