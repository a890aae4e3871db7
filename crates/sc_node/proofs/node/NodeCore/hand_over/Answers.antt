use Rattle.std.proofs.Common.{[], ◌++◌, get_or, sym, subst, ◌∙◌, ap, arith}
use Rattle.sc_node_table.specs.Node.{NodeState, replica_of, taken_by}
use Rattle.sc_node_table.specs.Rows.{mailed}
use Rattle.sc_node.specs.Places.{StandsAt}
use Rattle.sc_node.specs.PassedInputs.{IsPassedBy}
use Rattle.sc_node.proofs.Standing.{taken-at}
use Rattle.sc_node.proofs.Passing.{passed_childless, passed-at}
use Rattle.sc_node.proofs.node.NodeCore.hand_over.Goals as goal

pub index_mut-requires : goal.index_mut-requires
index_mut-requires c =
    let stands = subst (λ (n : NodeState). StandsAt c.args.group n.replicas c.args.i) (sym c.self.view_is) c.requires.place in
    omega (arith, stands.within, c.self.inside.replicas.ok.0)

pub returns-clause-row : goal.returns-clause-row
returns-clause-row c =
    let stands = subst (λ (n : NodeState). StandsAt c.args.group n.replicas c.args.i) (sym c.self.view_is) c.requires.place in
    let node : NodeState = record { me = c.self.inside.me; draws = c.self.inside.draws; policy = c.self.inside.policy; replicas = c.self.inside.replicas.items } in
    ap (λ (n : NodeState). taken_by (replica_of c.args.group n.replicas) c.args.group c.args.from c.args.body.now n) (sym c.self.view_is)
    ∙ taken-at c.args.group c.args.from c.args.body.now node c.args.i c.index_mut.result.now c.take_mail.new.replica c.take_mail.new.out c.take_mail.new.made stands
    (c.in_ok-take_mail.ensures.place
    ∙ ap (λ r. (mailed c.args.from c.args.body.now (r, c.args.sent.now)).0) c.index_mut.ensures.value
    ∙ ap (λ mails. (mailed c.args.from c.args.body.now (get_or c.self.inside.replicas.items c.args.i c.index_mut.result.now, mails)).0) c.requires.unsent)
    (c.in_ok-take_mail.ensures.made
    ∙ ap (λ r. c.args.made.now ++ (mailed c.args.from c.args.body.now (r, c.args.sent.now)).1) c.index_mut.ensures.value
    ∙ ap (λ mails. c.args.made.now ++ (mailed c.args.from c.args.body.now (get_or c.self.inside.replicas.items c.args.i c.index_mut.result.now, mails)).1) c.requires.unsent
    ∙ ap (λ made. made ++ (mailed c.args.from c.args.body.now (get_or c.self.inside.replicas.items c.args.i c.index_mut.result.now, [])).1) c.requires.none)

pub returns-in_err-take_mail-clause-none : goal.returns-in_err-take_mail-clause-none
returns-in_err-take_mail-clause-none c = λ p.
    let at = c.index_mut.ensures.value ∙ ap (λ (n : NodeState). get_or n.replicas c.args.i c.index_mut.result.now) c.self.view_is in
    let passed = subst (IsPassedBy c.args.from c.args.body.now) (sym at) (passed-at c.args.group c.args.from c.args.body.now c.args.self.now c.args.i c.index_mut.result.now c.requires.place p) in
    let ok = c.in_err-take_mail.ensures.none passed in
    absurd (cc)

pub returns-clause-childless : goal.returns-clause-childless
returns-clause-childless c = λ p.
    let at = c.index_mut.ensures.value ∙ ap (λ (n : NodeState). get_or n.replicas c.args.i c.index_mut.result.now) c.self.view_is in
    let passed = subst (IsPassedBy c.args.from c.args.body.now) (sym at) (passed-at c.args.group c.args.from c.args.body.now c.args.self.now c.args.i c.index_mut.result.now c.requires.place p) in
    c.in_ok-take_mail.ensures.made
    ∙ ap (λ made. made ++ (mailed c.args.from c.args.body.now (c.index_mut.result.now, c.args.sent.now)).1) c.requires.none
    ∙ passed_childless c.args.from c.args.body.now c.index_mut.result.now c.args.sent.now passed
