use Rattle.std.proofs.Common.{rules, ◌≡◌, ◌<◌, false, List, sym, subst}
use Rattle.std.proofs.lemmas.Bool.{not_from_false}
use Rattle.sc_words.specs.declared.paxos.reports.Report.{Report}
use Rattle.sc_words.specs.paxos.PaxosDefinitions.{below, IsWholeAcceptor}
use Rattle.sc_words.proofs.PaxosProofs.PaxosLemmas.{whole_by_accept}
use Rattle.sc_paxos.specs.PaxosDefinitions.{Roomy}
use Rattle.sc_paxos.proofs.acceptor.Acceptor.on_accept.Goals as goal

pub invariant_of-self : goal.invariant_of-self
invariant_of-self g c =
    let not_below : below c.args.ballot c.self.inside.promised ≡ false = search rules in
    let floor : c.self.inside.floor < c.args.slot = subst (λ (s : Roomy g.row.V.Denot). s.state.floor < c.args.slot) (sym c.self.view_is) c.requires.above in
    subst (λ (accepted : List (Report g.row.V.Denot)). IsWholeAcceptor (record { promised = c.args.ballot; floor = c.self.inside.floor; accepted = accepted })) (sym c.put.ensures.items)
    (whole_by_accept _ (record { slot = c.args.slot; ballot = c.args.ballot; value = c.args.value }) c.self.invariant (not_from_false _ not_below) floor)
