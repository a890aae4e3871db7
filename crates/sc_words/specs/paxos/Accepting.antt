-- How an acceptor answers an accept (Paxos Made Simple, section 2.2, phase 2b).
use Rattle.std.specs.Prelude.{if◌then◌else◌}
use Rattle.sc_words.specs.declared.paxos.reports.Report.{Report}
use Rattle.sc_words.specs.declared.paxos.answers.AcceptAnswer.{AcceptAnswer}
use Rattle.sc_words.specs.declared.paxos.answers.AcceptAnswer.TheVariants.{Accepted, Ignored}
use Rattle.sc_words.specs.paxos.Acceptors.{AcceptorState, may_accept, after_accept}

-- the answer and the state after an accept: the acceptor accepts in a ballot not below its promise, and ignores any other
abbrev pub accepted : {V : Type 0} → Report V → AcceptorState V → AcceptAnswer × AcceptorState V
accepted report state =
    if may_accept state report.ballot then (Accepted, after_accept report state)
    else (Ignored state.promised, state)
