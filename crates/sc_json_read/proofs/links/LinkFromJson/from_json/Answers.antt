use Rattle.std.proofs.Common.{ap}
use Rattle.sc_words.specs.declared.commands.links.Link.{Link}
use Rattle.sc_json_text.specs.rows.Links.{link_json, FitsLink}
use Rattle.sc_json_read.proofs.Finding.{failed}
use Rattle.sc_json_read.proofs.links.LinkFromJson.from_json.Goals as goal

pub returns-in_err-group-clause-finds : goal.returns-in_err-group-clause-finds
unfolding link_json FitsLink
returns-in_err-group-clause-finds c = λ link fits e. failed _ _ _ c.from_residual.ensures (c.in_err-group.ensures.finds link.group link.members fits.0 fits.1 e)

pub returns-clause-finds : goal.returns-clause-finds
unfolding link_json FitsLink
returns-clause-finds c = λ link fits e. ap (λ p. let r : Link = record { group = p.0; members = p.1 } in r) (c.in_ok-group.ensures.finds link.group link.members fits.0 fits.1 e)

pub returns-clause-exact : goal.returns-clause-exact
unfolding link_json
returns-clause-exact c = c.in_ok-group.ensures.exact
