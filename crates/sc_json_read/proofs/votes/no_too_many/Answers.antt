use Rattle.std.proofs.Common.{codes, ap}
use Rattle.sc_words.specs.declared.commands.votes.No.TheVariants.{TooMany}
use Rattle.sc_json_text.specs.rows.Votes.{no_json, FitsNo}
use Rattle.sc_json_text.specs.rows.Shapes.{variant}
use Rattle.sc_json_read.specs.Reading.{content_of}
use Rattle.sc_json_read.proofs.Finding.{failed}
use Rattle.sc_json_read.proofs.votes.no_too_many.Goals as goal

pub returns-in_err-n-clause-finds : goal.returns-in_err-n-clause-finds
unfolding no_json FitsNo
returns-in_err-n-clause-finds c = λ n fits e. failed _ _ _ c.from_residual.ensures (c.in_err-n.ensures.finds n fits (ap content_of e))

pub returns-clause-finds : goal.returns-clause-finds
unfolding no_json FitsNo
returns-clause-finds c = λ n fits e. ap TooMany (c.in_ok-n.ensures.finds n fits (ap content_of e))

pub returns-clause-exact : goal.returns-clause-exact
unfolding no_json
returns-clause-exact c = ap (variant (codes "TooMany")) c.in_ok-n.ensures.exact
