use Rattle.std.proofs.Common.{codes, ap}
use Rattle.sc_words.specs.declared.commands.commands.Command.TheVariants.{Begin}
use Rattle.sc_json_text.specs.rows.Commands.{command_json, FitsCommand}
use Rattle.sc_json_text.specs.rows.Shapes.{variant}
use Rattle.sc_json_read.specs.Reading.{content_of}
use Rattle.sc_json_read.proofs.Finding.{failed}
use Rattle.sc_json_read.proofs.commands.command_begin.Goals as goal

pub returns-in_err-body-clause-finds : goal.returns-in_err-body-clause-finds
unfolding command_json FitsCommand
returns-in_err-body-clause-finds c = λ tx body order fits e. failed _ _ _ c.from_residual.ensures (c.in_err-body.ensures.finds body order tx fits.0 fits.1 fits.2 (ap content_of e))

pub returns-clause-finds : goal.returns-clause-finds
unfolding command_json FitsCommand
returns-clause-finds c = λ tx body order fits e. ap (λ p. Begin p.2 p.0 p.1) (c.in_ok-body.ensures.finds body order tx fits.0 fits.1 fits.2 (ap content_of e))

pub returns-clause-exact : goal.returns-clause-exact
unfolding command_json
returns-clause-exact c = ap (variant (codes "Begin")) c.in_ok-body.ensures.exact
