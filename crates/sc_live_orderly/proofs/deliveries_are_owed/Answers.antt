use Rattle.sc_actor.specs.Definitions.{system}
use Rattle.sc_live_orderly.proofs.PotentialBounds.{deliveries_are_owed}
use Rattle.sc_live_orderly.proofs.QuietLineEnds.{never_cut}
use Rattle.sc_live_orderly.proofs.MailAndRowCounts.{mails_are_owed, goes_are_few, rows_are}
use Rattle.sc_live_orderly.proofs.deliveries_are_owed.Goals as goal

pub returns-clause-deliveries : goal.returns-clause-deliveries
returns-clause-deliveries g c = λ words births lines owing journal apart plain lowers lawful.
    deliveries_are_owed (system g.A.Actor.table g.A.Mail.Parcel.receiver words births) apart owing lines plain lowers journal lawful

pub returns-clause-settled : goal.returns-clause-settled
returns-clause-settled g c = λ words births lines owing journal apart plain lowers room lawful.
    never_cut (system g.A.Actor.table g.A.Mail.Parcel.receiver words births) apart owing lines plain lowers room journal lawful

pub returns-clause-mails : goal.returns-clause-mails
returns-clause-mails g c = λ words births lines owing journal apart plain lowers to_actors lawful.
    mails_are_owed (system g.A.Actor.table g.A.Mail.Parcel.receiver words births) apart lines plain to_actors owing journal (lowers.mail journal lawful) lawful

pub returns-clause-rows : goal.returns-clause-rows
returns-clause-rows g c = λ words births lines journal apart plain lawful.
    let s = system g.A.Actor.table g.A.Mail.Parcel.receiver words births in
    (rows_are s lines journal plain lawful, goes_are_few s apart lines journal plain lawful)
