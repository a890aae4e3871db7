use Rattle.std.proofs.Common.{ap}
use Rattle.sc_base.specs.declared.ops.Reply.{Reply}
use Rattle.sc_json_text.specs.rows.Ops.{reply_json, FitsReply}
use Rattle.sc_json_read.proofs.Finding.{failed}
use Rattle.sc_json_read.proofs.ops.ReplyFromJson.from_json.Goals as goal

pub returns-in_err-old-clause-finds : goal.returns-in_err-old-clause-finds
unfolding reply_json FitsReply
returns-in_err-old-clause-finds c = λ reply fits e. failed _ _ _ c.from_residual.ensures (c.in_err-old.ensures.finds reply.old fits e)

pub returns-clause-finds : goal.returns-clause-finds
unfolding reply_json FitsReply
returns-clause-finds c = λ reply fits e. ap (λ p. let r : Reply = record { old = p } in r) (c.in_ok-old.ensures.finds reply.old fits e)

pub returns-clause-exact : goal.returns-clause-exact
unfolding reply_json
returns-clause-exact c = c.in_ok-old.ensures.exact
