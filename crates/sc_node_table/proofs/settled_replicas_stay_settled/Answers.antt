use Rattle.sc_node_table.proofs.Frames.{pumped_from-settled}
use Rattle.sc_node_table.proofs.settled_replicas_stay_settled.Goals as goal

pub returns : goal.returns
returns c = pumped_from-settled
