use Rattle.std.proofs.Common.{codes, ap}
use Rattle.sc_actor.specs.declared.rows.Event.TheVariants.{Told}
use Rattle.sc_json_text.specs.rows.Rows.{event_json, FitsEvent}
use Rattle.sc_json_text.specs.rows.Shapes.{variant}
use Rattle.sc_json_read.specs.Reading.{content_of}
use Rattle.sc_json_read.proofs.Finding.{failed}
use Rattle.sc_json_read.proofs.events.event_told.Goals as goal

pub returns-in_err-inner-clause-finds : goal.returns-in_err-inner-clause-finds
unfolding event_json FitsEvent
returns-in_err-inner-clause-finds c = λ inner fits e. failed _ _ _ c.from_residual.ensures (c.in_err-inner.ensures.finds inner fits (ap content_of e))

pub returns-clause-finds : goal.returns-clause-finds
unfolding event_json FitsEvent
returns-clause-finds c = λ inner fits e. ap Told (c.in_ok-inner.ensures.finds inner fits (ap content_of e))

pub returns-clause-exact : goal.returns-clause-exact
unfolding event_json
returns-clause-exact c = ap (variant (codes "Told")) c.in_ok-inner.ensures.exact
