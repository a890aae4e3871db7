use Rattle.std.proofs.Common.{codes, ap}
use Rattle.sc_base.specs.declared.ops.Op.TheVariants.{Cas}
use Rattle.sc_json_text.specs.rows.Ops.{op_json, FitsOp}
use Rattle.sc_json_text.specs.rows.Shapes.{variant}
use Rattle.sc_json_read.specs.Reading.{content_of}
use Rattle.sc_json_read.proofs.Finding.{failed}
use Rattle.sc_json_read.proofs.ops.op_cas.Goals as goal

pub returns-in_err-expect-clause-finds : goal.returns-in_err-expect-clause-finds
unfolding op_json FitsOp
returns-in_err-expect-clause-finds c = λ key expect value fits e. failed _ _ _ c.from_residual.ensures (c.in_err-expect.ensures.finds expect key value fits.0 fits.1 fits.2 (ap content_of e))

pub returns-clause-finds : goal.returns-clause-finds
unfolding op_json FitsOp
returns-clause-finds c = λ key expect value fits e. ap (λ p. Cas p.1 p.0 p.2) (c.in_ok-expect.ensures.finds expect key value fits.0 fits.1 fits.2 (ap content_of e))

pub returns-clause-exact : goal.returns-clause-exact
unfolding op_json
returns-clause-exact c = ap (variant (codes "Cas")) c.in_ok-expect.ensures.exact
