use Rattle.std.proofs.Common.{ap}
use Rattle.sc_mail.specs.declared.bodies.Mail.{Mail}
use Rattle.sc_json_text.specs.rows.Mails.{mail_json, FitsMail}
use Rattle.sc_json_read.proofs.Finding.{failed}
use Rattle.sc_json_journal.proofs.row.mails.mail_from_json.Goals as goal

pub returns-in_err-said-clause-finds : goal.returns-in_err-said-clause-finds
unfolding mail_json FitsMail
returns-in_err-said-clause-finds c = λ mail fits e. failed _ _ _ c.from_residual.ensures (c.in_err-said.ensures.finds (record { body = mail.body }) mail.from mail.to fits.0 fits.1 fits.2 e)

pub returns-clause-finds : goal.returns-clause-finds
unfolding mail_json FitsMail
returns-clause-finds c = λ mail fits e. ap (λ p. let r : Mail = record { body = p.0.body; from = p.1; to = p.2 } in r) (c.in_ok-said.ensures.finds (record { body = mail.body }) mail.from mail.to fits.0 fits.1 fits.2 e)

pub returns-clause-exact : goal.returns-clause-exact
unfolding mail_json
returns-clause-exact c = c.in_ok-said.ensures.exact
