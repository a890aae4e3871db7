use Rattle.sc_actor.specs.Definitions.{system}
use Rattle.sc_live_orderly.proofs.RemainingMail.{rest-lawful, first-lawful, quiet-lawful, empty-lawful}
use Rattle.sc_live_orderly.proofs.mail_is_taken_in_order.Goals as goal

pub returns-clause-rest : goal.returns-clause-rest
returns-clause-rest g c = λ words births lines rows row who calm lawful.
    rest-lawful (system g.A.Actor.table g.A.Mail.Parcel.receiver words births) lines calm rows row who lawful

pub returns-clause-first : goal.returns-clause-first
returns-clause-first g c = λ words births lines rows row number calm lawful event.
    first-lawful (system g.A.Actor.table g.A.Mail.Parcel.receiver words births) lines calm rows row number lawful event

pub returns-clause-quiet : goal.returns-clause-quiet
returns-clause-quiet g c = λ words births lines rows who calm lawful quiet born.
    quiet-lawful (system g.A.Actor.table g.A.Mail.Parcel.receiver words births) lines calm rows who lawful born quiet

pub returns-clause-empty : goal.returns-clause-empty
returns-clause-empty g c = λ words births lines rows calm lawful none.
    empty-lawful (system g.A.Actor.table g.A.Mail.Parcel.receiver words births) lines calm rows lawful none
