use Rattle.std.proofs.Common.{codes, ap}
use Rattle.sc_words.specs.declared.commands.commands.Command.TheVariants.{GiveUp}
use Rattle.sc_json_text.specs.rows.Commands.{command_json, FitsCommand}
use Rattle.sc_json_text.specs.rows.Shapes.{variant}
use Rattle.sc_json_read.specs.Reading.{content_of}
use Rattle.sc_json_read.proofs.Finding.{failed}
use Rattle.sc_json_read.proofs.commands.command_give_up.Goals as goal

pub returns-in_err-tx-clause-finds : goal.returns-in_err-tx-clause-finds
unfolding command_json FitsCommand
returns-in_err-tx-clause-finds c = λ tx fits e. failed _ _ _ c.from_residual.ensures (c.in_err-tx.ensures.finds tx fits (ap content_of e))

pub returns-clause-finds : goal.returns-clause-finds
unfolding command_json FitsCommand
returns-clause-finds c = λ tx fits e. ap GiveUp (c.in_ok-tx.ensures.finds tx fits (ap content_of e))

pub returns-clause-exact : goal.returns-clause-exact
unfolding command_json
returns-clause-exact c = ap (variant (codes "GiveUp")) c.in_ok-tx.ensures.exact
