use Rattle.sc_actor.proofs.CountLemmas.{counted}
use Rattle.sc_actor.proofs.ReplayLemmas.{value-snoc}
use Rattle.sc_actor.proofs.laws.journals_grow.Goals as goal

pub returns-clause-counted : goal.returns-clause-counted
returns-clause-counted g c = λ rows. counted rows

pub returns-clause-value : goal.returns-clause-value
returns-clause-value g c = λ seat rows row. value-snoc g.A.Actor.table seat rows row
