use Rattle.sc_node_table.proofs.SamenessLemmas.{decides_commands}
use Rattle.sc_node_table.proofs.commands_are_told_apart.Goals as goal

pub returns : goal.returns
returns c = decides_commands
