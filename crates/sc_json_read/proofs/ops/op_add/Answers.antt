use Rattle.std.proofs.Common.{codes, ap}
use Rattle.sc_base.specs.declared.ops.Op.TheVariants.{Add}
use Rattle.sc_json_text.specs.rows.Ops.{op_json, FitsOp}
use Rattle.sc_json_text.specs.rows.Shapes.{variant}
use Rattle.sc_json_read.specs.Reading.{content_of}
use Rattle.sc_json_read.proofs.Finding.{failed}
use Rattle.sc_json_read.proofs.ops.op_add.Goals as goal

pub returns-in_err-key-clause-finds : goal.returns-in_err-key-clause-finds
unfolding op_json FitsOp
returns-in_err-key-clause-finds c = λ key value fits e. failed _ _ _ c.from_residual.ensures (c.in_err-key.ensures.finds key value fits.0 fits.1 (ap content_of e))

pub returns-clause-finds : goal.returns-clause-finds
unfolding op_json FitsOp
returns-clause-finds c = λ key value fits e. ap (λ p. Add p.0 p.1) (c.in_ok-key.ensures.finds key value fits.0 fits.1 (ap content_of e))

pub returns-clause-exact : goal.returns-clause-exact
unfolding op_json
returns-clause-exact c = ap (variant (codes "Add")) c.in_ok-key.ensures.exact
