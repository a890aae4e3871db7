use Rattle.sc_actor.specs.Definitions.{system}
use Rattle.sc_live_orderly.proofs.MailAndRowCounts.{rows_of_all, goes_in_time}
use Rattle.sc_live_orderly.proofs.GivenOrders.{few_told, told_so}
use Rattle.sc_live_orderly.proofs.SpacedLines.{rows_in_time, ends_quiet, deliveries_and_orders}
use Rattle.sc_live_orderly.proofs.orders_begin_in_quiet.Goals as goal

pub returns-clause-timely : goal.returns-clause-timely
returns-clause-timely g c = λ words births lines most owed_after still raise journal measure apart room within lawful.
    rows_in_time (system g.A.Actor.table g.A.Mail.Parcel.receiver words births) lines most owed_after still raise measure apart within room journal lawful

pub returns-clause-settled : goal.returns-clause-settled
returns-clause-settled g c = λ words births lines most owed_after still raise journal measure apart room within lawful.
    ends_quiet (system g.A.Actor.table g.A.Mail.Parcel.receiver words births) lines most owed_after still raise measure apart within room journal lawful

pub returns-clause-deliveries : goal.returns-clause-deliveries
returns-clause-deliveries g c = λ words births lines most owed_after still raise journal measure apart room within lawful.
    deliveries_and_orders (system g.A.Actor.table g.A.Mail.Parcel.receiver words births) lines most owed_after still raise measure apart within room journal lawful

pub returns-clause-rows : goal.returns-clause-rows
returns-clause-rows g c = λ words births journal apart timely.
    let s = system g.A.Actor.table g.A.Mail.Parcel.receiver words births in
    (rows_of_all s journal timely, goes_in_time s apart journal timely)

pub returns-clause-few : goal.returns-clause-few
returns-clause-few g c = λ words births lines journal calm lawful.
    few_told (system g.A.Actor.table g.A.Mail.Parcel.receiver words births) lines calm journal lawful

pub returns-clause-told_so : goal.returns-clause-told_so
returns-clause-told_so g c = λ words births lines allowed journal calm so lawful.
    told_so (system g.A.Actor.table g.A.Mail.Parcel.receiver words births) lines calm allowed so journal lawful
