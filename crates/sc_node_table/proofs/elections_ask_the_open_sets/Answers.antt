use Rattle.sc_node_table.proofs.Asked.{asks_the_open_sets}
use Rattle.sc_node_table.proofs.elections_ask_the_open_sets.Goals as goal

pub returns : goal.returns
returns c = asks_the_open_sets
