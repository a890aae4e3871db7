use Rattle.std.proofs.Common.{codes, ap}
use Rattle.sc_mail.specs.declared.bodies.AnswerBody.TheVariants.{NotMine}
use Rattle.sc_json_text.specs.rows.Answers.{answer_body_json, FitsAnswerBody}
use Rattle.sc_json_text.specs.rows.Shapes.{variant}
use Rattle.sc_json_read.specs.Reading.{content_of}
use Rattle.sc_json_read.proofs.Finding.{failed}
use Rattle.sc_json_read.proofs.answers.answer_body_not_mine.Goals as goal

pub returns-in_err-arc-clause-finds : goal.returns-in_err-arc-clause-finds
unfolding answer_body_json FitsAnswerBody
returns-in_err-arc-clause-finds c = λ arc succ fits e. failed _ _ _ c.from_residual.ensures (c.in_err-arc.ensures.finds arc succ fits.0 fits.1 (ap content_of e))

pub returns-clause-finds : goal.returns-clause-finds
unfolding answer_body_json FitsAnswerBody
returns-clause-finds c = λ arc succ fits e. ap (λ p. NotMine p.0 p.1) (c.in_ok-arc.ensures.finds arc succ fits.0 fits.1 (ap content_of e))

pub returns-clause-exact : goal.returns-clause-exact
unfolding answer_body_json
returns-clause-exact c = ap (variant (codes "NotMine")) c.in_ok-arc.ensures.exact
