use Rattle.std.proofs.Common.{codes, ap}
use Rattle.sc_words.specs.declared.commands.votes.Outcome.TheVariants.{Merged}
use Rattle.sc_json_text.specs.rows.Outcomes.{outcome_json, FitsOutcome}
use Rattle.sc_json_text.specs.rows.Shapes.{variant}
use Rattle.sc_json_read.specs.Reading.{content_of}
use Rattle.sc_json_read.proofs.Finding.{failed}
use Rattle.sc_json_read.proofs.outcomes.outcome_merged.Goals as goal

pub returns-in_err-into-clause-finds : goal.returns-in_err-into-clause-finds
unfolding outcome_json FitsOutcome
returns-in_err-into-clause-finds c = λ into fits e. failed _ _ _ c.from_residual.ensures (c.in_err-into.ensures.finds into fits (ap content_of e))

pub returns-clause-finds : goal.returns-clause-finds
unfolding outcome_json FitsOutcome
returns-clause-finds c = λ into fits e. ap Merged (c.in_ok-into.ensures.finds into fits (ap content_of e))

pub returns-clause-exact : goal.returns-clause-exact
unfolding outcome_json
returns-clause-exact c = ap (variant (codes "Merged")) c.in_ok-into.ensures.exact
