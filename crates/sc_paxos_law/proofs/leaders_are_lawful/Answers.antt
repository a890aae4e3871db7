use Rattle.sc_paxos_law.proofs.Leading.{elected_by, strangers}
use Rattle.sc_paxos_law.proofs.leaders_are_lawful.Goals as goal

pub returns-clause-elected : goal.returns-clause-elected
returns-clause-elected g c = elected_by

pub returns-clause-strangers : goal.returns-clause-strangers
returns-clause-strangers g c = strangers
