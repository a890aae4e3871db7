use Rattle.std.proofs.Common.{ap}
use Rattle.sc_words.specs.declared.commands.cores.Base.{Base}
use Rattle.sc_json_text.specs.rows.Cores.{base_json, FitsBase}
use Rattle.sc_json_read.proofs.Finding.{failed}
use Rattle.sc_json_read.proofs.cores.BaseFromJson.from_json.Goals as goal

pub returns-in_err-clients-clause-finds : goal.returns-in_err-clients-clause-finds
unfolding base_json FitsBase
returns-in_err-clients-clause-finds c = λ base fits e. failed _ _ _ c.from_residual.ensures (c.in_err-clients.ensures.finds base.clients base.core base.pairs fits.0 fits.1 fits.2 e)

pub returns-clause-finds : goal.returns-clause-finds
unfolding base_json FitsBase
returns-clause-finds c = λ base fits e. ap (λ p. let r : Base = record { clients = p.0; core = p.1; pairs = p.2 } in r) (c.in_ok-clients.ensures.finds base.clients base.core base.pairs fits.0 fits.1 fits.2 e)

pub returns-clause-exact : goal.returns-clause-exact
unfolding base_json
returns-clause-exact c = c.in_ok-clients.ensures.exact
