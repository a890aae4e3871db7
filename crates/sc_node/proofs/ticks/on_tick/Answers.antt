use Rattle.std.proofs.Common.{◌≡◌, [], sym, ap, ◌∙◌, subst}
use Rattle.sc_node_table.specs.Pump.{pumped}
use Rattle.sc_node_table.specs.Replica.{ReplicaState, Place}
use Rattle.sc_node.proofs.IdleTicks.{unwished, unreminded}
use Rattle.sc_node.proofs.ticks.on_tick.Goals as goal

pub returns-in_err-remind_and_wish-clause-idle : goal.returns-in_err-remind_and_wish-clause-idle
returns-in_err-remind_and_wish-clause-idle c = λ h.
    let ok = c.in_err-remind_and_wish.ensures.none h.without_policy h.nothing_bound (unreminded c.args.replica.now h.nobody_reminded) in
    absurd (cc)

pub returns-clause-idle : goal.returns-clause-idle
returns-clause-idle c = λ h.
    let same = ap (λ (p : Place). p.0) c.in_ok-remind_and_wish.ensures.row ∙ unwished c.args.policy c.args.draws.now c.args.replica.now c.repeat.new.out h.without_policy h.nothing_bound in
    c.pump.ensures.none (subst (λ (r : ReplicaState). (let place : Place = (r, []) in pumped place ≡ place)) (sym same) h.nothing_offered)
