use Rattle.sc_actor.specs.Definitions.{system, place_after}
use Rattle.sc_actor.proofs.Induction.{MayAdd-step}
use Rattle.sc_actor.proofs.PendingLemmas.{waiting_one, waiting_any}
use Rattle.sc_actor.proofs.laws.next_rows_are_steps.Goals as goal

pub returns-clause-step : goal.returns-clause-step
returns-clause-step g c = λ words births lines rows row next.
    let s = system g.A.Actor.table g.A.Mail.Parcel.receiver words births in
    MayAdd-step s rows (place_after s lines rows).tasks row next

pub returns-clause-any : goal.returns-clause-any
returns-clause-any g c = λ words births rows k number pending. waiting_any (system g.A.Actor.table g.A.Mail.Parcel.receiver words births) rows k number pending

pub returns-clause-one : goal.returns-clause-one
returns-clause-one g c = λ words births rows who k number pending. waiting_one (system g.A.Actor.table g.A.Mail.Parcel.receiver words births) rows who k number pending
