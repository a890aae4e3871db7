use Rattle.std.proofs.Common.{ap}
use Rattle.sc_words.specs.declared.commands.votes.Heard.{Heard}
use Rattle.sc_json_text.specs.rows.Votes.{heard_json, FitsHeard}
use Rattle.sc_json_read.proofs.Finding.{failed}
use Rattle.sc_json_read.proofs.votes.HeardFromJson.from_json.Goals as goal

pub returns-in_err-by-clause-finds : goal.returns-in_err-by-clause-finds
unfolding heard_json FitsHeard
returns-in_err-by-clause-finds c = λ heard fits e. failed _ _ _ c.from_residual.ensures (c.in_err-by.ensures.finds heard.by heard.frozen fits.0 fits.1 e)

pub returns-clause-finds : goal.returns-clause-finds
unfolding heard_json FitsHeard
returns-clause-finds c = λ heard fits e. ap (λ p. let r : Heard = record { by = p.0; frozen = p.1 } in r) (c.in_ok-by.ensures.finds heard.by heard.frozen fits.0 fits.1 e)

pub returns-clause-exact : goal.returns-clause-exact
unfolding heard_json
returns-clause-exact c = c.in_ok-by.ensures.exact
