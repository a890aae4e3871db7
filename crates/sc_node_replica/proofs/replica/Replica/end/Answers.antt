use Rattle.std.proofs.Common.{[], ap, ◌∙◌}
use Rattle.sc_base.specs.declared.names.Draw.{Draw}
use Rattle.sc_node_table.specs.Mails.{dismissed_all}
use Rattle.sc_node_table.specs.Replica.{ReplicaState}
use Rattle.sc_node_replica.proofs.Unsent.{ended-none}
use Rattle.sc_node_replica.proofs.replica.Replica.end.Goals as goal

pub returns-in_err-answer_under_way-clause-none : goal.returns-in_err-answer_under_way-clause-none
returns-in_err-answer_under_way-clause-none c = λ e.
    let ok = c.in_err-answer_under_way.ensures.none (ended-none c.args.hint c.args.body.now c.args.self.now e).0 in
    absurd (cc)

pub returns-in_err-dismiss_all-clause-none : goal.returns-in_err-dismiss_all-clause-none
returns-in_err-dismiss_all-clause-none c = λ e.
    let ok = c.in_err-dismiss_all.ensures.none
    (ap (λ (r : ReplicaState). dismissed_all r.me c.name.result c.args.hint c.args.body.now r.backlog []) c.self.view_is
    ∙ ap (λ (name : Draw). dismissed_all c.args.self.now.me name c.args.hint c.args.body.now c.args.self.now.backlog []) c.name.ensures
    ∙ (ended-none c.args.hint c.args.body.now c.args.self.now e).1) in
    absurd (cc)
