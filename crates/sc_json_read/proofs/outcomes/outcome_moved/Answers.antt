use Rattle.std.proofs.Common.{codes, ap}
use Rattle.sc_words.specs.declared.commands.votes.Outcome.TheVariants.{Moved}
use Rattle.sc_json_text.specs.rows.Outcomes.{outcome_json, FitsOutcome}
use Rattle.sc_json_text.specs.rows.Shapes.{variant}
use Rattle.sc_json_read.specs.Reading.{content_of}
use Rattle.sc_json_read.proofs.Finding.{failed}
use Rattle.sc_json_read.proofs.outcomes.outcome_moved.Goals as goal

pub returns-in_err-at-clause-finds : goal.returns-in_err-at-clause-finds
unfolding outcome_json FitsOutcome
returns-in_err-at-clause-finds c = λ at gift fits e. failed _ _ _ c.from_residual.ensures (c.in_err-at.ensures.finds at gift fits.0 fits.1 (ap content_of e))

pub returns-clause-finds : goal.returns-clause-finds
unfolding outcome_json FitsOutcome
returns-clause-finds c = λ at gift fits e. ap (λ p. Moved p.0 p.1) (c.in_ok-at.ensures.finds at gift fits.0 fits.1 (ap content_of e))

pub returns-clause-exact : goal.returns-clause-exact
unfolding outcome_json
returns-clause-exact c = ap (variant (codes "Moved")) c.in_ok-at.ensures.exact
