use Rattle.std.proofs.Common.{codes, ap}
use Rattle.sc_words.specs.declared.commands.commands.Command.TheVariants.{Call}
use Rattle.sc_json_text.specs.rows.Commands.{command_json, FitsCommand}
use Rattle.sc_json_text.specs.rows.Shapes.{variant}
use Rattle.sc_json_read.specs.Reading.{content_of}
use Rattle.sc_json_read.proofs.Finding.{failed}
use Rattle.sc_json_read.proofs.commands.command_call.Goals as goal

pub returns-in_err-client-clause-finds : goal.returns-in_err-client-clause-finds
unfolding command_json FitsCommand
returns-in_err-client-clause-finds c = λ client seq op fits e. failed _ _ _ c.from_residual.ensures (c.in_err-client.ensures.finds client op seq fits.0 fits.1 fits.2 (ap content_of e))

pub returns-clause-finds : goal.returns-clause-finds
unfolding command_json FitsCommand
returns-clause-finds c = λ client seq op fits e. ap (λ p. Call p.0 p.2 p.1) (c.in_ok-client.ensures.finds client op seq fits.0 fits.1 fits.2 (ap content_of e))

pub returns-clause-exact : goal.returns-clause-exact
unfolding command_json
returns-clause-exact c = ap (variant (codes "Call")) c.in_ok-client.ensures.exact
