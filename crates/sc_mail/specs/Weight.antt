-- What a mail counts in the journal's bytes, beside the 256 that each mail counts.
use Rattle.std.specs.Prelude.{ℕ, ◌+◌}
use Rattle.std.specs.List.{sum_by}
use Rattle.sc_words.specs.declared.paxos.reports.Report.{Report}
use Rattle.sc_words.specs.declared.commands.commands.Command.{Command}
use Rattle.sc_words.specs.commands.CommandDefinitions.{op_weight, reply_weight, command_weight, base_weight, vote_weight, outcome_weight}
use Rattle.sc_mail.specs.declared.bodies.AnswerBody.{AnswerBody}
use Rattle.sc_mail.specs.declared.bodies.AnswerBody.TheVariants.{Value, NotLeader, NotMine, Gone, Stale}
use Rattle.sc_mail.specs.declared.bodies.MailBody.{MailBody}
use Rattle.sc_mail.specs.declared.bodies.MailBody.TheVariants.{Request, Answer, Prepare, Promise, Accept, Accepted, Nack, Learn, Ask, Install, TxPrepare, TxVote, TxOutcome, TxElsewhere, TxWatch, TxWatched, Told}

-- the weight of an answer: that of its reply, or 0
abbrev pub answer_weight : AnswerBody → ℕ
answer_weight (Value reply) = reply_weight reply
answer_weight (NotLeader hint) = 0
answer_weight (NotMine arc succ) = 0
answer_weight (Gone into) = 0
answer_weight (Stale last) = 0

-- the weight of a report: 32 and that of its command
abbrev pub report_weight : Report Command → ℕ
report_weight report = 32 + command_weight report.value

-- the weight of a mail's body: that of the operation, answer, reports, command, state, vote or outcome that it carries
abbrev pub body_weight : MailBody → ℕ
body_weight (Request group client seq op) = op_weight op
body_weight (Answer group seq answer) = answer_weight answer
body_weight (Prepare group ballot from_slot) = 0
body_weight (Promise group ballot reports) = sum_by report_weight reports
body_weight (Accept group ballot slot command) = command_weight command
body_weight (Accepted group ballot slot) = 0
body_weight (Nack group promised) = 0
body_weight (Learn group slot command) = command_weight command
body_weight (Ask group from_slot) = 0
body_weight (Install group slot base sets) = base_weight base
body_weight (TxPrepare tx offer) = 0
body_weight (TxVote tx coord part vote) = vote_weight vote
body_weight (TxOutcome tx part outcome) = outcome_weight outcome
body_weight (TxElsewhere tx coord hint) = 0
body_weight (TxWatch tx watch) = 0
body_weight (TxWatched tx coord part vote) = 0
body_weight (Told order result_reported) = 0
