use Rattle.std.proofs.Common.{◌≡◌, ℕ, List, All, sym, subst}
use Rattle.sc_node_replica.proofs.Unsent.{learnt-alone}
use Rattle.sc_node_replica.proofs.replica.Replica.teach_members.Goals as goal

pub returns-clause-none : goal.returns-clause-none
returns-clause-none c = λ e.
    let alone = learnt-alone c.args.counted c.args.before.now c.args.slot c.args.command.now c.args.self.now c.if-not-counted.false e in
    c.send_learns.ensures.alone (subst (λ (nodes : List ℕ). All (λ node. node ≡ c.args.self.now.me) nodes) (sym c.as_slice.ensures.same) alone)
