use Rattle.std.proofs.Common.{codes, ap}
use Rattle.sc_words.specs.declared.commands.votes.No.TheVariants.{Busy}
use Rattle.sc_json_text.specs.rows.Votes.{no_json, FitsNo}
use Rattle.sc_json_text.specs.rows.Shapes.{variant}
use Rattle.sc_json_read.specs.Reading.{content_of}
use Rattle.sc_json_read.proofs.Finding.{failed}
use Rattle.sc_json_read.proofs.votes.no_busy.Goals as goal

pub returns-in_err-tx-clause-finds : goal.returns-in_err-tx-clause-finds
unfolding no_json FitsNo
returns-in_err-tx-clause-finds c = λ tx fits e. failed _ _ _ c.from_residual.ensures (c.in_err-tx.ensures.finds tx fits (ap content_of e))

pub returns-clause-finds : goal.returns-clause-finds
unfolding no_json FitsNo
returns-clause-finds c = λ tx fits e. ap Busy (c.in_ok-tx.ensures.finds tx fits (ap content_of e))

pub returns-clause-exact : goal.returns-clause-exact
unfolding no_json
returns-clause-exact c = ap (variant (codes "Busy")) c.in_ok-tx.ensures.exact
