use Rattle.std.proofs.lemmas.Bool.Decides.{same_from_decides}
use Rattle.sc_node_table.proofs.Lemmas.{decides_commands}
use Rattle.sc_node_choices.proofs.commands.same_command.Goals as goal

pub returns : goal.returns
returns c = same_from_decides _ _ c.is_same.ensures (decides_commands c.args.a.now c.args.b.now)
