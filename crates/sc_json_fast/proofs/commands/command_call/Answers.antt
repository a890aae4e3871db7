use Rattle.sc_json_fast.proofs.CommandTexts.{call_begins}
use Rattle.sc_json_fast.proofs.commands.command_call.Goals as goal

pub returns : goal.returns
returns c = call_begins _ _ _ _ _ c.in_ok-client.ensures.a c.in_ok-client.ensures.b c.in_ok-client.ensures.c c.in_ok-client.ensures.text
