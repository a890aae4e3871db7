use Rattle.std.proofs.Common.{codes, ap}
use Rattle.sc_mail.specs.declared.bodies.AnswerBody.TheVariants.{Stale}
use Rattle.sc_json_text.specs.rows.Answers.{answer_body_json, FitsAnswerBody}
use Rattle.sc_json_text.specs.rows.Shapes.{variant}
use Rattle.sc_json_read.specs.Reading.{content_of}
use Rattle.sc_json_read.proofs.Finding.{failed}
use Rattle.sc_json_read.proofs.answers.answer_body_stale.Goals as goal

pub returns-in_err-last-clause-finds : goal.returns-in_err-last-clause-finds
unfolding answer_body_json FitsAnswerBody
returns-in_err-last-clause-finds c = λ last fits e. failed _ _ _ c.from_residual.ensures (c.in_err-last.ensures.finds last fits (ap content_of e))

pub returns-clause-finds : goal.returns-clause-finds
unfolding answer_body_json FitsAnswerBody
returns-clause-finds c = λ last fits e. ap Stale (c.in_ok-last.ensures.finds last fits (ap content_of e))

pub returns-clause-exact : goal.returns-clause-exact
unfolding answer_body_json
returns-clause-exact c = ap (variant (codes "Stale")) c.in_ok-last.ensures.exact
