use Rattle.std.proofs.Common.{codes, ap}
use Rattle.sc_words.specs.declared.commands.bodies.Body.TheVariants.{Migrate}
use Rattle.sc_json_text.specs.rows.Bodies.{body_json, FitsBody}
use Rattle.sc_json_text.specs.rows.Shapes.{variant}
use Rattle.sc_json_read.specs.Reading.{content_of}
use Rattle.sc_json_read.proofs.Finding.{failed}
use Rattle.sc_json_read.proofs.bodies.body_migrate.Goals as goal

pub returns-in_err-node-clause-finds : goal.returns-in_err-node-clause-finds
unfolding body_json FitsBody
returns-in_err-node-clause-finds c = λ node fits e. failed _ _ _ c.from_residual.ensures (c.in_err-node.ensures.finds node fits (ap content_of e))

pub returns-clause-finds : goal.returns-clause-finds
unfolding body_json FitsBody
returns-clause-finds c = λ node fits e. ap Migrate (c.in_ok-node.ensures.finds node fits (ap content_of e))

pub returns-clause-exact : goal.returns-clause-exact
unfolding body_json
returns-clause-exact c = ap (variant (codes "Migrate")) c.in_ok-node.ensures.exact
