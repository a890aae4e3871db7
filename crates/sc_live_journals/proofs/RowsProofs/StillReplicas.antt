-- What holds of a replica with its mails, and is kept by its pump after any change of what waits, is kept by a request, by the mail of a transaction, by mail for clients and the desk, and by an order.
use Rattle.std.proofs.Common.{◌≡◌, ℕ, nat_le, false, List, [], ◌∷◌, ◌++◌, Option, Some, None, sym, subst}
use Rattle.sc_base.specs.Definitions.{Drawer, next_name}
use Rattle.sc_node_table.specs.Values.{Op, Command, Call, OrderLine, OrderRefusal, Refused, AnswerBody, Mail, MailBody, Request, Answer, TxPrepare, TxVote, TxOutcome, TxElsewhere, TxWatch, TxWatched, Told}
use Rattle.sc_node_table.specs.NodeDefinitions.{has_act, act_queued, ordered_command, untaken, queued_or_refused, ordered_row, pumped, queued_number, without_request, ReplicaState, Place, name_of, refused_at, queued, requested, request_row, mailed}
use Rattle.sc_law_walks.proofs.WalkLemmas.{Talk, Parties, parties, TransactionParts, idle_pump, either_way}
use Rattle.sc_law_walks.proofs.TransactionRows.{offer_keeps, watch_keeps, vote_keeps, watched_keeps, elsewhere_keeps, outcome_keeps}
use Rattle.sc_law_walks.proofs.Talks.{vote_reported, watch_reported, outcome_said, next_one_asked}

-- mail that neither asks an acceptor nor teaches a replica
abbrev pub IsBeside : MailBody → Type 0
IsBeside (Request group client seq op) = Unit {0}
IsBeside (Answer group seq answer) = Unit {0}
IsBeside (TxPrepare tx offer) = Unit {0}
IsBeside (TxVote tx coord part vote) = Unit {0}
IsBeside (TxOutcome tx part outcome) = Unit {0}
IsBeside (TxElsewhere tx coord hint) = Unit {0}
IsBeside (TxWatch tx watch) = Unit {0}
IsBeside (TxWatched tx coord part vote) = Unit {0}
IsBeside (Told order result) = Unit {0}
IsBeside _ = ⊥

-- one that does not run pumps nothing
pub still_pumps : (F : Place → Type 0) → ((place : Place) → F place → place.0.running ≡ false) → ((r : ReplicaState) (mails : List Mail) (acts backlog : List Command) → F (r, mails) → F (record r { acts = acts; backlog = backlog }, mails))
    → (r : ReplicaState) (mails : List Mail) (acts backlog : List Command) → F (r, mails) → F (pumped (record r { acts = acts; backlog = backlog }, mails))
still_pumps F off queues r mails acts backlog k = (let q = queues r mails acts backlog k in subst F (sym (idle_pump (record r { acts = acts; backlog = backlog }, mails) (off (record r { acts = acts; backlog = backlog }, mails) q))) q)

module _ (F : Place → Type 0) (pumps : (r : ReplicaState) (mails : List Mail) (acts backlog : List Command) → F (r, mails) → F (pumped (record r { acts = acts; backlog = backlog }, mails)))
    (talk : (r : ReplicaState) → Talk r.me (λ mails. F (r, mails))) where
  act_keeps : (act : Command) (place : Place) → F place → F (act_queued act place)
  unfolding act_queued
  act_keeps act (q, mails) k =
      either_way (λ (x : ReplicaState). F (pumped (x, mails))) (has_act act q) q (record q { acts = q.acts ++ act ∷ [] }) (pumps q mails q.acts q.backlog k) (pumps q mails (q.acts ++ act ∷ []) q.backlog k)

  -- ---- Request

  queued_keeps : (o : Option ℕ) (client seq : ℕ) (op : Op) (place : Place) → F place → F (queued o client seq op place)
  unfolding queued
  queued_keeps None client seq op (q, mails) k = pumps q mails q.acts (q.backlog ++ Call client seq op ∷ []) k
  queued_keeps (Some seen) client seq op (q, mails) k =
      either_way F (nat_le seq seen) (q, mails) (pumped (record q { backlog = without_request q.backlog client ++ Call client seq op ∷ [] }, mails)) k (pumps q mails q.acts (without_request q.backlog client ++ Call client seq op ∷ []) k)

  requested_keeps : (o : Option AnswerBody) (client seq : ℕ) (op : Op) (place : Place) → F place → F (requested o client seq op place)
  unfolding requested
  requested_keeps (Some answer) client seq op (q, mails) k = (talk q).answers client (name_of q) seq answer mails k
  requested_keeps None client seq op (q, mails) k = queued_keeps (queued_number q.backlog client) client seq op (q, mails) k

  request_keeps : (client seq : ℕ) (op : Op) (place : Place) → F place → F (request_row client seq op place)
  unfolding request_row
  request_keeps client seq op (q, mails) k = requested_keeps (refused_at q.group.core.gone op q) client seq op (q, mails) k

  -- ---- the parties of a transaction

  spoken_to : (q : ReplicaState) → Parties q.me (λ mails. F (q, mails))
  spoken_to q = parties q.me (λ mails. F (q, mails)) (talk q)

  abbrev transactions : TransactionParts F
  transactions = record {
    Files = λ act. Unit {0};
    queues = λ act place q k. act_keeps act place k;
    votes = λ to tx offer vote q mails may k. vote_reported q.me (λ ms. F (q, ms)) (spoken_to q) q.group to tx offer vote mails k;
    sees = λ to tx watch vote q mails k. watch_reported q.me (λ ms. F (q, ms)) (spoken_to q) to tx watch vote mails k;
    ends = λ to tx part outcome q mails k. outcome_said q.me (λ ms. F (q, ms)) (spoken_to q) to tx part outcome mails k;
    sends_on = λ to tx coord q mails k. (talk q).sends_on to tx coord q.hint mails k;
    asks_next = λ from tx hint q mails k. next_one_asked q.me (λ ms. F (q, ms)) (spoken_to q) q.group.core.lock q.group.core from tx hint mails k;
  }

  -- ---- orders

  told_keeps : (o : Option OrderRefusal) (number : ℕ) (command : Command) (place : Place) → F place → F (queued_or_refused o number command place)
  told_keeps (Some why) number command (q, mails) k = (talk q).tells number (Refused why) mails k
  told_keeps None number command (q, mails) k = pumps q mails q.acts (q.backlog ++ command ∷ []) k

  pub order_keeps : (drawer : Drawer) (line : OrderLine) (place : Place) → F place → F (ordered_row drawer line place)
  unfolding ordered_row
  order_keeps drawer line (q, mails) k = told_keeps (untaken drawer line q) line.number (ordered_command (next_name drawer) line.number line.order) (q, mails) k

  pub beside_keeps : (from : ℕ) (body : MailBody) (place : Place) → IsBeside body → F place → F (mailed from body place).0
  unfolding mailed
  beside_keeps from (Request group client seq op) place a k = request_keeps client seq op place k
  beside_keeps from (Answer group seq answer) place a k = k
  beside_keeps from (TxPrepare tx offer) place a k = offer_keeps F transactions from tx offer place tt k
  beside_keeps from (TxVote tx coord part vote) place a k = vote_keeps F transactions from tx part vote place tt k
  beside_keeps from (TxOutcome tx part outcome) place a k = outcome_keeps F transactions tx outcome place tt k
  beside_keeps from (TxElsewhere tx coord hint) place a k = elsewhere_keeps F transactions from tx hint place k
  beside_keeps from (TxWatch tx watch) place a k = watch_keeps F transactions from tx watch place tt k
  beside_keeps from (TxWatched tx coord part vote) place a k = watched_keeps F transactions from tx part vote place tt k
  beside_keeps from (Told order result) place a k = k
  beside_keeps from _ place a k = absurd a
