use Rattle.std.proofs.Common.{◌≡◌, true, All, sym, ap, ◌∙◌, subst}
use Rattle.sc_words.specs.declared.commands.commands.Command.{Command}
use Rattle.sc_words.specs.paxos.Leaders.{LeaderState}
use Rattle.sc_words.specs.paxos.Votes.{has_counted}
use Rattle.sc_node_table.specs.Replica.{ReplicaState, flying}
use Rattle.sc_node_table.specs.Rows.{uncounted}
use Rattle.sc_node_replica.proofs.Unsent.{asked_for-none, uncounted-none}
use Rattle.sc_node_replica.proofs.replica.Replica.ask_again_at.Goals as goal

pub returns-in_err-nodes-clause-none : goal.returns-in_err-nodes-clause-none
returns-in_err-nodes-clause-none c = λ e.
    let nobody = asked_for-none (flying c.args.self.now c.args.slot) c.in-Some.command.now c.args.self.now c.args.slot c.args.set.now
    (c.in-Some.ensures ∙ ap (λ (r : ReplicaState). flying r c.args.slot) c.self.view_is) e in
    let all = subst (λ (leader : LeaderState Command). All (λ node. has_counted c.args.slot node leader ≡ true) c.args.set.now) (sym (ap (λ (r : ReplicaState). r.leader) c.self.view_is))
    (uncounted-none c.args.self.now c.args.slot c.args.set.now nobody) in
    let ok = c.in_err-nodes.ensures.none all in
    absurd (cc)

pub returns-clause-none : goal.returns-clause-none
returns-clause-none c = λ e.
    let nobody = asked_for-none (flying c.args.self.now c.args.slot) c.in-Some.command.now c.args.self.now c.args.slot c.args.set.now
    (c.in-Some.ensures ∙ ap (λ (r : ReplicaState). flying r c.args.slot) c.self.view_is) e in
    c.send_accepts.ensures.none (c.as_slice.ensures.value ∙ c.in_ok-nodes.ensures.nodes ∙ ap (λ (r : ReplicaState). uncounted r c.args.slot c.args.set.now) c.self.view_is ∙ nobody)
