use Rattle.std.proofs.Common.{codes, ap}
use Rattle.sc_words.specs.declared.commands.bodies.Body.TheVariants.{Split}
use Rattle.sc_json_text.specs.rows.Bodies.{body_json, FitsBody}
use Rattle.sc_json_text.specs.rows.Shapes.{variant}
use Rattle.sc_json_read.specs.Reading.{content_of}
use Rattle.sc_json_read.proofs.Finding.{failed}
use Rattle.sc_json_read.proofs.bodies.body_split.Goals as goal

pub returns-in_err-at-clause-finds : goal.returns-in_err-at-clause-finds
unfolding body_json FitsBody
returns-in_err-at-clause-finds c = λ at child fits e. failed _ _ _ c.from_residual.ensures (c.in_err-at.ensures.finds at child fits.0 fits.1 (ap content_of e))

pub returns-clause-finds : goal.returns-clause-finds
unfolding body_json FitsBody
returns-clause-finds c = λ at child fits e. ap (λ p. Split p.0 p.1) (c.in_ok-at.ensures.finds at child fits.0 fits.1 (ap content_of e))

pub returns-clause-exact : goal.returns-clause-exact
unfolding body_json
returns-clause-exact c = ap (variant (codes "Split")) c.in_ok-at.ensures.exact
