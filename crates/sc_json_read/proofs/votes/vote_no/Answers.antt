use Rattle.std.proofs.Common.{codes, ap}
use Rattle.sc_words.specs.declared.commands.votes.Vote.TheVariants.{No}
use Rattle.sc_json_text.specs.rows.Votes.{vote_json, FitsVote}
use Rattle.sc_json_text.specs.rows.Shapes.{variant}
use Rattle.sc_json_read.specs.Reading.{content_of}
use Rattle.sc_json_read.proofs.Finding.{failed}
use Rattle.sc_json_read.proofs.votes.vote_no.Goals as goal

pub returns-in_err-inner-clause-finds : goal.returns-in_err-inner-clause-finds
unfolding vote_json FitsVote
returns-in_err-inner-clause-finds c = λ inner fits e. failed _ _ _ c.from_residual.ensures (c.in_err-inner.ensures.finds inner fits (ap content_of e))

pub returns-clause-finds : goal.returns-clause-finds
unfolding vote_json FitsVote
returns-clause-finds c = λ inner fits e. ap No (c.in_ok-inner.ensures.finds inner fits (ap content_of e))

pub returns-clause-exact : goal.returns-clause-exact
unfolding vote_json
returns-clause-exact c = ap (variant (codes "No")) c.in_ok-inner.ensures.exact
