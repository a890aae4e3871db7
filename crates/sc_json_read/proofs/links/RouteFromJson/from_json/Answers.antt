use Rattle.std.proofs.Common.{ap}
use Rattle.sc_words.specs.declared.commands.links.Route.{Route}
use Rattle.sc_json_text.specs.rows.Links.{route_json, FitsRoute}
use Rattle.sc_json_read.proofs.Finding.{failed}
use Rattle.sc_json_read.proofs.links.RouteFromJson.from_json.Goals as goal

pub returns-in_err-group-clause-finds : goal.returns-in_err-group-clause-finds
unfolding route_json FitsRoute
returns-in_err-group-clause-finds c = λ route fits e. failed _ _ _ c.from_residual.ensures (c.in_err-group.ensures.finds route.group route.lo route.members fits.0 fits.1 fits.2 e)

pub returns-clause-finds : goal.returns-clause-finds
unfolding route_json FitsRoute
returns-clause-finds c = λ route fits e. ap (λ p. let r : Route = record { group = p.0; lo = p.1; members = p.2 } in r) (c.in_ok-group.ensures.finds route.group route.lo route.members fits.0 fits.1 fits.2 e)

pub returns-clause-exact : goal.returns-clause-exact
unfolding route_json
returns-clause-exact c = c.in_ok-group.ensures.exact
