use Rattle.std.proofs.Common.{ap}
use Rattle.sc_words.specs.declared.commands.votes.Frozen.{Frozen}
use Rattle.sc_json_text.specs.rows.Votes.{frozen_json, FitsFrozen}
use Rattle.sc_json_read.proofs.Finding.{failed}
use Rattle.sc_json_read.proofs.votes.FrozenFromJson.from_json.Goals as goal

pub returns-in_err-arc-clause-finds : goal.returns-in_err-arc-clause-finds
unfolding frozen_json FitsFrozen
returns-in_err-arc-clause-finds c = λ frozen fits e. failed _ _ _ c.from_residual.ensures (c.in_err-arc.ensures.finds frozen.arc frozen.clients frozen.members frozen.pairs frozen.succ fits.0 fits.1 fits.2 fits.3 fits.4 e)

pub returns-clause-finds : goal.returns-clause-finds
unfolding frozen_json FitsFrozen
returns-clause-finds c = λ frozen fits e. ap (λ p. let r : Frozen = record { arc = p.0; clients = p.1; members = p.2; pairs = p.3; succ = p.4 } in r) (c.in_ok-arc.ensures.finds frozen.arc frozen.clients frozen.members frozen.pairs frozen.succ fits.0 fits.1 fits.2 fits.3 fits.4 e)

pub returns-clause-exact : goal.returns-clause-exact
unfolding frozen_json
returns-clause-exact c = c.in_ok-arc.ensures.exact
