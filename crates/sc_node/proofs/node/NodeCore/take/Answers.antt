use Rattle.std.proofs.Common.{subst}
use Rattle.sc_node.specs.PassedInputs.{IsPassedByOne}
use Rattle.sc_node.proofs.Standing.{taken-nowhere}
use Rattle.sc_node.proofs.node.NodeCore.take.Goals as goal

pub returns-in-None-clause-row : goal.returns-in-None-clause-row
returns-in-None-clause-row c =
    taken-nowhere c.args.group c.args.from c.args.body.now c.args.self.now c.take_unknown.new.self c.take_unknown.result c.in-None.ensures c.take_unknown.ensures.row

pub returns-in-None-clause-none : goal.returns-in-None-clause-none
returns-in-None-clause-none c = λ p. c.take_unknown.ensures.none (subst (λ o. IsPassedByOne o c.args.self.now.me c.args.from c.args.body.now) c.in-None.ensures p)
