-- How an acceptor answers a prepare (Paxos Made Simple, section 2.2, phase 1b).
use Rattle.std.specs.Prelude.{ℕ, if◌then◌else◌}
use Rattle.sc_base.specs.declared.names.Ballot.{Ballot}
use Rattle.sc_words.specs.declared.paxos.answers.PrepareAnswer.{PrepareAnswer}
use Rattle.sc_words.specs.declared.paxos.answers.PrepareAnswer.TheVariants.{Promise, Ignored}
use Rattle.sc_words.specs.paxos.Acceptors.{AcceptorState, may_promise, after_promise, reports_from}

-- the answer and the state after a prepare: the acceptor promises a ballot above its promise, with its reports of the slots not below `from`, and ignores any other ballot
abbrev pub prepared : {V : Type 0} → Ballot → ℕ → AcceptorState V → PrepareAnswer V × AcceptorState V
prepared ballot from state =
    if may_promise state ballot then (Promise (reports_from from state.accepted), after_promise ballot state)
    else (Ignored state.promised, state)
