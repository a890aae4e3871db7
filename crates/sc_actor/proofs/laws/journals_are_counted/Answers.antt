use Rattle.sc_actor.proofs.BoundLemmas.{copies_bounded, journal_counts, journal_bytes-snoc}
use Rattle.sc_actor.proofs.laws.journals_are_counted.Goals as goal

pub returns-clause-copies : goal.returns-clause-copies
returns-clause-copies g c = λ rows. copies_bounded rows

pub returns-clause-bytes : goal.returns-clause-bytes
returns-clause-bytes g c = λ rows. journal_counts g.A.Mail.Parcel.weighs rows

pub returns-clause-next : goal.returns-clause-next
returns-clause-next g c = λ rows row. journal_bytes-snoc g.A.Mail.Parcel.weighs rows row
