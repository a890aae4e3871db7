use Rattle.sc_actor.specs.Definitions.{system}
use Rattle.sc_live_orderly.proofs.RowsOfSchedules.{calm_row}
use Rattle.sc_live_orderly.proofs.RemainingMail.{tidy-calm}
use Rattle.sc_live_orderly.proofs.calm_journals_are_orderly.Goals as goal

pub returns-clause-row : goal.returns-clause-row
returns-clause-row g c = λ words births lines rows row calm lawful.
    calm_row (system g.A.Actor.table g.A.Mail.Parcel.receiver words births) lines rows row calm lawful

pub returns-clause-tidy : goal.returns-clause-tidy
returns-clause-tidy g c = λ words births lines rows calm lawful.
    tidy-calm (system g.A.Actor.table g.A.Mail.Parcel.receiver words births) lines rows calm lawful
