use Rattle.std.proofs.Common.{ap}
use Rattle.sc_words.specs.declared.commands.cores.Core.{Core}
use Rattle.sc_json_text.specs.rows.Cores.{core_json, FitsCore}
use Rattle.sc_json_read.proofs.Finding.{failed}
use Rattle.sc_json_read.proofs.cores.CoreFromJson.from_json.Goals as goal

pub returns-in_err-arc-clause-finds : goal.returns-in_err-arc-clause-finds
unfolding core_json FitsCore
returns-in_err-arc-clause-finds c = λ core fits e. failed _ _ _ c.from_residual.ensures (c.in_err-arc.ensures.finds core.arc core.begun core.born core.decided core.first core.gone core.id core.lock core.members core.pred core.succ core.voted fits.0.0 fits.0.1 fits.0.2 fits.0.3 fits.0.4 fits.0.5 fits.1.0 fits.1.1 fits.1.2 fits.1.3 fits.1.4 fits.1.5 e)

pub returns-clause-finds : goal.returns-clause-finds
unfolding core_json FitsCore
returns-clause-finds c = λ core fits e. ap (λ p. let r : Core = record { arc = p.0.0; begun = p.0.1; born = p.0.2; decided = p.0.3; first = p.0.4; gone = p.0.5; id = p.1.0; lock = p.1.1; members = p.1.2; pred = p.1.3; succ = p.1.4; voted = p.1.5 } in r) (c.in_ok-arc.ensures.finds core.arc core.begun core.born core.decided core.first core.gone core.id core.lock core.members core.pred core.succ core.voted fits.0.0 fits.0.1 fits.0.2 fits.0.3 fits.0.4 fits.0.5 fits.1.0 fits.1.1 fits.1.2 fits.1.3 fits.1.4 fits.1.5 e)

pub returns-clause-exact : goal.returns-clause-exact
unfolding core_json
returns-clause-exact c = c.in_ok-arc.ensures.exact
