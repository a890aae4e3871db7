use Rattle.std.proofs.Common.{◌∙◌}
use Rattle.sc_node_replica.proofs.Unsent.{welcomed-none}
use Rattle.sc_node_replica.proofs.replica.Replica.welcome.Goals as goal

pub returns-in_err-added-clause-none : goal.returns-in_err-added-clause-none
returns-in_err-added-clause-none c = λ e.
    let ok = c.in_err-added.ensures.none (welcomed-none c.args.counted c.args.before.now c.args.self.now c.if-not-counted.false e) in
    absurd (cc)

pub returns-clause-none : goal.returns-clause-none
returns-clause-none c = λ e.
    c.welcome_all.ensures.none (c.as_slice.ensures.value ∙ c.in_ok-added.ensures.nodes ∙ welcomed-none c.args.counted c.args.before.now c.args.self.now c.if-not-counted.false e)
