-- The mails of a round of votes.
use Rattle.std.specs.Prelude.{Bool, true, false}
use Rattle.sc_mail.specs.declared.bodies.MailBody.{MailBody}
use Rattle.sc_mail.specs.declared.bodies.MailBody.TheVariants.{Prepare, Promise, Accept, Nack, Ask, Install}

-- whether a mail is of a round of votes, or moves a log, and executes nothing
abbrev pub is_of_round : MailBody → Bool
is_of_round (Prepare group ballot from_slot) = true
is_of_round (Promise group ballot reports) = true
is_of_round (Accept group ballot slot command) = true
is_of_round (Nack group promised) = true
is_of_round (Ask group from_slot) = true
is_of_round (Install group slot base sets) = true
is_of_round _ = false
