-- The mails of a replica. Each one is appended.
use Rattle.std.specs.Prelude.{ℕ, ◌+◌, ◌==◌, List, [], ◌∷◌, ◌++◌, if◌then◌else◌, Option}
use Rattle.sc_base.specs.Definitions.{client_actor}
use Rattle.sc_base.specs.declared.names.Draw.{Draw}
use Rattle.sc_words.specs.declared.commands.commands.Command.{Command}
use Rattle.sc_words.specs.declared.commands.commands.Command.TheVariants.{Noop, Call, Join, Leave, Split, Begin, Prepared, RecordVote, GiveUp, Finish, Watched, RecordWatch}
use Rattle.sc_words.specs.declared.commands.orders.OrderRefusal.TheVariants.{NotLeader}
use Rattle.sc_words.specs.declared.commands.orders.OrderResult.{OrderResult}
use Rattle.sc_words.specs.declared.commands.orders.OrderResult.TheVariants.{Refused}
use Rattle.sc_mail.specs.declared.bodies.AnswerBody.{AnswerBody}
use Rattle.sc_mail.specs.declared.bodies.MailBody.{MailBody}
use Rattle.sc_mail.specs.declared.bodies.MailBody.TheVariants.{Answer, Told}
use Rattle.sc_mail.specs.declared.bodies.Mail.{Mail}
use Rattle.sc_group_table.specs.policy.PolicyDefinitions.{is_reported}

-- one mail more
abbrev pub sent : ℕ → ℕ → MailBody → List Mail → List Mail
sent me to body mails = mails ++ record { from = me; to = to; body = body } ∷ []

-- one body is sent to each of these nodes, in their order
unfoldable pub sent_all : ℕ → List ℕ → MailBody → List Mail → List Mail
sent_all me [] body mails = mails
sent_all me (node ∷ nodes) body mails = sent_all me nodes body (sent me node body mails)

-- one body is sent to each of these nodes but the sender, in their order
unfoldable pub sent_others : ℕ → List ℕ → MailBody → List Mail → List Mail
sent_others me [] body mails = mails
sent_others me (node ∷ nodes) body mails = sent_others me nodes body (if node == me then mails else sent me node body mails)

-- an answer is sent to a client
abbrev pub answer_to : ℕ → Draw → ℕ → ℕ → AnswerBody → List Mail → List Mail
answer_to me group client seq answer mails = sent me (client_actor client) (Answer group seq answer) mails

-- the client of a request gets this answer; of any other command nothing is sent
unfoldable pub answered : ℕ → Draw → AnswerBody → Command → List Mail → List Mail
answered me group answer (Call client seq op) mails = answer_to me group client seq answer mails
answered me group answer _ mails = mails

-- the client of each request among these commands gets this answer, in their order
unfoldable pub answered_all : ℕ → Draw → AnswerBody → List Command → List Mail → List Mail
answered_all me group answer [] mails = mails
answered_all me group answer (command ∷ commands) mails = answered_all me group answer commands (answered me group answer command mails)

-- the result of an order is reported to the desk
abbrev pub result_sent : ℕ → ℕ → OrderResult → List Mail → List Mail
result_sent me number result mails = sent me 0 (Told number result) mails

-- the number of the order that a command comes from, or 0 where a policy ordered it or it comes from none
abbrev pub order_number : Command → ℕ
order_number (Join node order) = order
order_number (Leave node order) = order
order_number (Split at child order) = order
order_number (Begin tx body order) = order
order_number Noop = 0
order_number (Call client seq op) = 0
order_number (Prepared tx offer) = 0
order_number (RecordVote tx vote by) = 0
order_number (GiveUp tx) = 0
order_number (Finish tx outcome) = 0
order_number (Watched tx watch) = 0
order_number (RecordWatch tx vote by) = 0

-- the result of an order is reported to the desk, unless its number is 0
unfoldable pub order_reported : ℕ → ℕ → OrderResult → List Mail → List Mail
order_reported me number result mails = if is_reported number then result_sent me number result mails else mails

-- the client of a queued request gets this answer; of a queued order it is reported that this node, which takes `hint` for the leader, does not lead
unfoldable pub dismissed : ℕ → Draw → Option ℕ → AnswerBody → Command → List Mail → List Mail
dismissed me group hint answer (Call client seq op) mails = answer_to me group client seq answer mails
dismissed me group hint answer command mails = order_reported me (order_number command) (Refused (NotLeader hint)) mails

-- each of these queued commands is answered or reported, in their order
unfoldable pub dismissed_all : ℕ → Draw → Option ℕ → AnswerBody → List Command → List Mail → List Mail
dismissed_all me group hint answer [] mails = mails
dismissed_all me group hint answer (command ∷ commands) mails = dismissed_all me group hint answer commands (dismissed me group hint answer command mails)
