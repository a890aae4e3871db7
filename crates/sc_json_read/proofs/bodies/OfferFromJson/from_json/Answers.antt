use Rattle.std.proofs.Common.{ap}
use Rattle.sc_words.specs.declared.commands.bodies.Offer.{Offer}
use Rattle.sc_json_text.specs.rows.Bodies.{offer_json, FitsOffer}
use Rattle.sc_json_read.proofs.Finding.{failed}
use Rattle.sc_json_read.proofs.bodies.OfferFromJson.from_json.Goals as goal

pub returns-in_err-arc-clause-finds : goal.returns-in_err-arc-clause-finds
unfolding offer_json FitsOffer
returns-in_err-arc-clause-finds c = λ offer fits e. failed _ _ _ c.from_residual.ensures (c.in_err-arc.ensures.finds offer.arc offer.body offer.by offer.coord offer.members offer.part fits.0 fits.1 fits.2 fits.3 fits.4 fits.5 e)

pub returns-clause-finds : goal.returns-clause-finds
unfolding offer_json FitsOffer
returns-clause-finds c = λ offer fits e. ap (λ p. let r : Offer = record { arc = p.0; body = p.1; by = p.2; coord = p.3; members = p.4; part = p.5 } in r) (c.in_ok-arc.ensures.finds offer.arc offer.body offer.by offer.coord offer.members offer.part fits.0 fits.1 fits.2 fits.3 fits.4 fits.5 e)

pub returns-clause-exact : goal.returns-clause-exact
unfolding offer_json
returns-clause-exact c = c.in_ok-arc.ensures.exact
