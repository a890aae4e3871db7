use Rattle.std.proofs.Common.{ℕ, List, sym, subst}
use Rattle.sc_words.specs.declared.paxos.reports.Report.{Report}
use Rattle.sc_words.specs.paxos.PaxosDefinitions.{IsWholeAcceptor}
use Rattle.sc_words.proofs.PaxosProofs.PaxosLemmas.{whole_by_cut}
use Rattle.sc_paxos.proofs.acceptor.Acceptor.cut.Goals as goal

pub invariant_of-self : goal.invariant_of-self
invariant_of-self g c =
    let floor = λ (n : ℕ). λ (accepted : List (Report g.row.V.Denot)). IsWholeAcceptor (record { promised = c.self.inside.promised; floor = n; accepted = accepted }) in
    subst (λ (n : ℕ). floor n c.forget.new.accepted.items) (sym c.max-self-inside.ensures)
    (subst (floor _) (sym c.forget.ensures.items) (whole_by_cut _ c.args.upto c.self.invariant))
