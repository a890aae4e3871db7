use Rattle.std.proofs.Common.{ap}
use Rattle.sc_words.specs.declared.commands.votes.Gift.{Gift}
use Rattle.sc_json_text.specs.rows.Outcomes.{gift_json, FitsGift}
use Rattle.sc_json_read.proofs.Finding.{failed}
use Rattle.sc_json_read.proofs.outcomes.GiftFromJson.from_json.Goals as goal

pub returns-in_err-clients-clause-finds : goal.returns-in_err-clients-clause-finds
unfolding gift_json FitsGift
returns-in_err-clients-clause-finds c = λ gift fits e. failed _ _ _ c.from_residual.ensures (c.in_err-clients.ensures.finds gift.clients gift.pairs fits.0 fits.1 e)

pub returns-clause-finds : goal.returns-clause-finds
unfolding gift_json FitsGift
returns-clause-finds c = λ gift fits e. ap (λ p. let r : Gift = record { clients = p.0; pairs = p.1 } in r) (c.in_ok-clients.ensures.finds gift.clients gift.pairs fits.0 fits.1 e)

pub returns-clause-exact : goal.returns-clause-exact
unfolding gift_json
returns-clause-exact c = c.in_ok-clients.ensures.exact
