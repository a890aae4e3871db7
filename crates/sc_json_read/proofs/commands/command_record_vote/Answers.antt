use Rattle.std.proofs.Common.{codes, ap}
use Rattle.sc_words.specs.declared.commands.commands.Command.TheVariants.{RecordVote}
use Rattle.sc_json_text.specs.rows.Commands.{command_json, FitsCommand}
use Rattle.sc_json_text.specs.rows.Shapes.{variant}
use Rattle.sc_json_read.specs.Reading.{content_of}
use Rattle.sc_json_read.proofs.Finding.{failed}
use Rattle.sc_json_read.proofs.commands.command_record_vote.Goals as goal

pub returns-in_err-by-clause-finds : goal.returns-in_err-by-clause-finds
unfolding command_json FitsCommand
returns-in_err-by-clause-finds c = λ tx vote by fits e. failed _ _ _ c.from_residual.ensures (c.in_err-by.ensures.finds by tx vote fits.0 fits.1 fits.2 (ap content_of e))

pub returns-clause-finds : goal.returns-clause-finds
unfolding command_json FitsCommand
returns-clause-finds c = λ tx vote by fits e. ap (λ p. RecordVote p.1 p.2 p.0) (c.in_ok-by.ensures.finds by tx vote fits.0 fits.1 fits.2 (ap content_of e))

pub returns-clause-exact : goal.returns-clause-exact
unfolding command_json
returns-clause-exact c = ap (variant (codes "RecordVote")) c.in_ok-by.ensures.exact
