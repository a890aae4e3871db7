use Rattle.std.proofs.Common.{codes, ap}
use Rattle.sc_mail.specs.declared.bodies.AnswerBody.TheVariants.{NotLeader}
use Rattle.sc_json_text.specs.rows.Answers.{answer_body_json, FitsAnswerBody}
use Rattle.sc_json_text.specs.rows.Shapes.{variant}
use Rattle.sc_json_read.specs.Reading.{content_of}
use Rattle.sc_json_read.proofs.Finding.{failed}
use Rattle.sc_json_read.proofs.answers.answer_body_not_leader.Goals as goal

pub returns-in_err-hint-clause-finds : goal.returns-in_err-hint-clause-finds
unfolding answer_body_json FitsAnswerBody
returns-in_err-hint-clause-finds c = λ hint fits e. failed _ _ _ c.from_residual.ensures (c.in_err-hint.ensures.finds hint fits (ap content_of e))

pub returns-clause-finds : goal.returns-clause-finds
unfolding answer_body_json FitsAnswerBody
returns-clause-finds c = λ hint fits e. ap NotLeader (c.in_ok-hint.ensures.finds hint fits (ap content_of e))

pub returns-clause-exact : goal.returns-clause-exact
unfolding answer_body_json
returns-clause-exact c = ap (variant (codes "NotLeader")) c.in_ok-hint.ensures.exact
