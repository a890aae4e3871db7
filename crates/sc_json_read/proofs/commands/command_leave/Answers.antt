use Rattle.std.proofs.Common.{codes, ap}
use Rattle.sc_words.specs.declared.commands.commands.Command.TheVariants.{Leave}
use Rattle.sc_json_text.specs.rows.Commands.{command_json, FitsCommand}
use Rattle.sc_json_text.specs.rows.Shapes.{variant}
use Rattle.sc_json_read.specs.Reading.{content_of}
use Rattle.sc_json_read.proofs.Finding.{failed}
use Rattle.sc_json_read.proofs.commands.command_leave.Goals as goal

pub returns-in_err-node-clause-finds : goal.returns-in_err-node-clause-finds
unfolding command_json FitsCommand
returns-in_err-node-clause-finds c = λ node order fits e. failed _ _ _ c.from_residual.ensures (c.in_err-node.ensures.finds node order fits.0 fits.1 (ap content_of e))

pub returns-clause-finds : goal.returns-clause-finds
unfolding command_json FitsCommand
returns-clause-finds c = λ node order fits e. ap (λ p. Leave p.0 p.1) (c.in_ok-node.ensures.finds node order fits.0 fits.1 (ap content_of e))

pub returns-clause-exact : goal.returns-clause-exact
unfolding command_json
returns-clause-exact c = ap (variant (codes "Leave")) c.in_ok-node.ensures.exact
