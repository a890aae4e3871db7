use Rattle.sc_json_fast.proofs.CommandTexts.{noop_begins}
use Rattle.sc_json_fast.proofs.commands.command_noop.Goals as goal

pub returns : goal.returns
returns c = noop_begins _ _ c.in_ok-rest.ensures
