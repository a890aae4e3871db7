use Rattle.sc_words.proofs.PaxosProofs.AcceptorLemmas.{whole_at_birth, whole_by_promise, whole_by_accept, whole_by_cut, accepted_here, accepted_elsewhere, ballots_never_fall}
use Rattle.sc_words.proofs.paxos.laws.acceptors_never_fall.Goals as goal

pub returns-clause-accepted : goal.returns-clause-accepted
returns-clause-accepted g c state report older is t e = ballots_never_fall state report older is t e

pub returns-clause-whole : goal.returns-clause-whole
returns-clause-whole g c = record {
  at_birth = whole_at_birth;
  by_promise = whole_by_promise;
  by_accept = whole_by_accept;
  by_cut = whole_by_cut;
  accepted_here = λ state report. accepted_here report state.accepted;
  accepted_elsewhere = λ state report slot other. accepted_elsewhere report state.accepted slot other;
}
