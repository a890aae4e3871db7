-- What holds of the mails of a row is kept where requests and orders end, if each answer to a client and each report of an order keeps it.
use Rattle.std.proofs.Common.{ℕ, List, [], ◌∷◌, Option}
use Rattle.sc_base.specs.Definitions.{Each}
use Rattle.sc_node_table.specs.Values.{Draw, Op, Command, Call, Refused, AnswerBody, Mail}
use Rattle.sc_words.specs.declared.commands.orders.OrderRefusal.TheVariants.{NotLeader}
use Rattle.sc_words.proofs.PaxosProofs.PaxosLemmas.{Each-from}
use Rattle.sc_node_table.specs.NodeDefinitions.{answer_to, answered, answered_all, order_number, order_reported, dismissed, dismissed_all}

-- where each that ends is as K says
module _ (K : Command → Type 0) (me : ℕ) (group : Draw) (answer : AnswerBody) (Q : List Mail → Type 0) (says : (client seq : ℕ) (op : Op) (mails : List Mail) → K (Call client seq op) → Q mails → Q (answer_to me group client seq answer mails)) where
  pub request_ends : (command : Command) (mails : List Mail) → K command → Q mails → Q (answered me group answer command mails)
  unfolding answered
  request_ends (Call client seq op) mails k m = says client seq op mails k m
  request_ends _ mails k m = m

  pub requests_end : (commands : List Command) (mails : List Mail) → Each K commands → Q mails → Q (answered_all me group answer commands mails)
  unfolding answered_all
  requests_end [] mails k m = m
  requests_end (command ∷ commands) mails k m = requests_end commands (answered me group answer command mails) k.1 (request_ends command mails k.0 m)

  module _ (hint : Option ℕ) (tells : (command : Command) (mails : List Mail) → K command → Q mails → Q (order_reported me (order_number command) (Refused (NotLeader hint)) mails)) where
    queued_ends : (command : Command) (mails : List Mail) → K command → Q mails → Q (dismissed me group hint answer command mails)
    unfolding dismissed
    queued_ends (Call client seq op) mails k m = says client seq op mails k m
    queued_ends command mails k m = tells command mails k m

    pub queue_ends : (commands : List Command) (mails : List Mail) → Each K commands → Q mails → Q (dismissed_all me group hint answer commands mails)
    unfolding dismissed_all
    queue_ends [] mails k m = m
    queue_ends (command ∷ commands) mails k m = queue_ends commands (dismissed me group hint answer command mails) k.1 (queued_ends command mails k.0 m)

-- where it is kept whatever ends
module _ (me : ℕ) (group : Draw) (answer : AnswerBody) (Q : List Mail → Type 0) (says : (client seq : ℕ) (mails : List Mail) → Q mails → Q (answer_to me group client seq answer mails)) where
  pub any_ends : (command : Command) (mails : List Mail) → Q mails → Q (answered me group answer command mails)
  any_ends command mails m = request_ends (λ c. Unit {0}) me group answer Q (λ client seq op ms k q. says client seq ms q) command mails tt m

  pub all_end : (commands : List Command) (mails : List Mail) → Q mails → Q (answered_all me group answer commands mails)
  all_end commands mails m = requests_end (λ c. Unit {0}) me group answer Q (λ client seq op ms k q. says client seq ms q) commands mails (Each-from (λ c. Unit {0}) commands (λ c a. tt)) m

  pub all_queued_end : (hint : Option ℕ) → ((number : ℕ) (mails : List Mail) → Q mails → Q (order_reported me number (Refused (NotLeader hint)) mails)) → (commands : List Command) (mails : List Mail) → Q mails → Q (dismissed_all me group hint answer commands mails)
  all_queued_end hint tells commands mails m =
      queue_ends (λ c. Unit {0}) me group answer Q (λ client seq op ms k q. says client seq ms q) hint (λ c ms k q. tells (order_number c) ms q) commands mails (Each-from (λ c. Unit {0}) commands (λ c a. tt)) m
