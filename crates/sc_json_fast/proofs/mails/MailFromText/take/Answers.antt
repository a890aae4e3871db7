use Rattle.sc_json_fast.proofs.MailTexts.{mail_begins}
use Rattle.sc_json_fast.proofs.mails.MailFromText.take.Goals as goal

pub returns : goal.returns
returns c = mail_begins _ _ _ _ _ c.in_ok-body.ensures.a c.in_ok-body.ensures.b c.in_ok-body.ensures.c c.in_ok-body.ensures.text
