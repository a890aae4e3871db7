use Rattle.sc_node_replica.proofs.Unsent.{answered-listed}
use Rattle.sc_node_table.specs.Replica.{name_of, taken_at}
use Rattle.sc_node_replica.proofs.replica.Replica.answer_taken.Goals as goal

pub returns-in-Some-clause-none : goal.returns-in-Some-clause-none
returns-in-Some-clause-none c = λ e.
    c.answer_command.ensures.others (answered-listed c.args.self.now.me (name_of c.args.self.now) c.args.body.now (taken_at c.args.self.now c.args.slot) c.in-Some.command.now c.in-Some.ensures e)
