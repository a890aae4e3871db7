use Rattle.sc_actor.specs.Definitions.{system}
use Rattle.sc_actor.proofs.WalkLemmas.{lawful-snoc, lawful-last, lawful-prefix}
use Rattle.sc_actor.proofs.laws.lawful_journals_grow.Goals as goal

pub returns-clause-next : goal.returns-clause-next
returns-clause-next g c = λ words births lines rows row lawful next. lawful-snoc (system g.A.Actor.table g.A.Mail.Parcel.receiver words births) lines rows row lawful next

pub returns-clause-last : goal.returns-clause-last
returns-clause-last g c = λ words births lines rows row lawful. lawful-last (system g.A.Actor.table g.A.Mail.Parcel.receiver words births) lines rows row lawful

pub returns-clause-first : goal.returns-clause-first
returns-clause-first g c = λ words births lines rows more lawful. lawful-prefix (system g.A.Actor.table g.A.Mail.Parcel.receiver words births) lines rows more lawful
