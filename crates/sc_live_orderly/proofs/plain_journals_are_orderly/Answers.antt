use Rattle.sc_actor.specs.Definitions.{system}
use Rattle.sc_live_orderly.proofs.RowsOfSchedules.{orderly}
use Rattle.sc_live_orderly.proofs.RemainingMail.{tidy}
use Rattle.sc_live_orderly.proofs.plain_journals_are_orderly.Goals as goal

pub returns-clause-row : goal.returns-clause-row
returns-clause-row g c = λ words births lines rows row plain lawful.
    orderly (system g.A.Actor.table g.A.Mail.Parcel.receiver words births) lines rows row plain lawful

pub returns-clause-tidy : goal.returns-clause-tidy
returns-clause-tidy g c = λ words births lines rows plain lawful.
    tidy (system g.A.Actor.table g.A.Mail.Parcel.receiver words births) lines rows plain lawful
