use Rattle.sc_actor.specs.Definitions.{system}
use Rattle.sc_live_orderly.proofs.PendingMail.{none_pending, takes_lowest}
use Rattle.sc_live_orderly.proofs.TakenTurns.{turns_taken}
use Rattle.sc_live_orderly.proofs.turns_are_taken.Goals as goal

pub returns-clause-taken : goal.returns-clause-taken
returns-clause-taken g c = λ words births lines most turns journal lawful whole uncut.
    turns_taken (system g.A.Actor.table g.A.Mail.Parcel.receiver words births) lines most turns journal lawful whole uncut

pub returns-clause-lowest : goal.returns-clause-lowest
returns-clause-lowest g c = λ words births rows row fact.
    takes_lowest (system g.A.Actor.table g.A.Mail.Parcel.receiver words births) rows row fact

pub returns-clause-quiet : goal.returns-clause-quiet
returns-clause-quiet g c = λ words births rows quiet.
    none_pending (system g.A.Actor.table g.A.Mail.Parcel.receiver words births) rows quiet
