-- What a leader says of an entry to clients, the desk and other groups is nothing to its own group.
use Rattle.std.proofs.Common.{◌≡◌, ℕ, true, List, [], ◌∷◌, ◌++◌, Option, Some, None, refl, ◌∙◌}
use Rattle.sc_node_table.specs.Values.{Draw, Body, Command, Call, Core, Effect, Heard, OrderResult, AnswerBody, Mail, MailBody, Answer, TxPrepare, TxVote, TxOutcome, TxElsewhere, TxWatch, TxWatched, Told}
use Rattle.sc_base.specs.Definitions.{client_actor}
use Rattle.sc_words.specs.declared.commands.bodies.Body.TheVariants as At
use Rattle.sc_node_table.specs.declared.Before.{Before}
use Rattle.sc_node_table.specs.NodeDefinitions.{ended, answer_of, order_result, answered_or_put_back, effect_reported, announced, sent, answered, answered_all, order_number, question, put_back, ReplicaState, Place, name_of, under_way, spoken}
use Rattle.sc_law_walks.proofs.WalkLemmas.{Talk}
use Rattle.sc_law_walks.proofs.Talks.{one_answered, all_answered, all_dismissed, desk_reported, spoken_said}
use Rattle.sc_live_steps.specs.following.FollowingDefinitions.{mark_of, marks_for}
use Rattle.sc_live_steps.proofs.FollowingProofs.MailTables.{marks-push}

-- what a coordinator asks is no part of an agreement
pub question_none : (name : Draw) (me : ℕ) (core : Core) (tx : Draw) (body : Body) (heard : Option Heard) → mark_of name me (question me core tx body heard) ≡ None
question_none name me core tx (At.Split at child) heard = refl
question_none name me core tx _ None = refl
question_none name me core tx _ (Some heard) = refl

-- what is kept where a mail of no mark of a group is put behind others
module _ (name : Draw) (R : List Mail → List Mail → Type 0) (same : (mails : List Mail) → R mails mails) (then_ : (a b c : List Mail) → R a b → R b c → R a c)
    (push : (mails : List Mail) (mail : Mail) → mark_of name mail.from mail.body ≡ None → R mails (mails ++ mail ∷ [])) where
  put_behind : (start : List Mail) (me to : ℕ) (body : MailBody) (mails : List Mail) → mark_of name me body ≡ None → R start mails → R start (sent me to body mails)
  put_behind start me to body mails e k = then_ start mails _ k (push mails (record { from = me; to = to; body = body }) e)

  -- so each mail to a client, to the desk and to a party of a transaction keeps it
  talk : (start : List Mail) (me : ℕ) → Talk me (R start)
  talk start me = record {
    tells = λ number result mails k. put_behind start me 0 (Told number result) mails refl k;
    answers = λ client group seq answer mails k. put_behind start me (client_actor client) (Answer group seq answer) mails refl k;
    offers = λ to tx offer mails own k. put_behind start me to (TxPrepare tx offer) mails refl k;
    watches = λ to tx watch mails own k. put_behind start me to (TxWatch tx watch) mails refl k;
    casts = λ to tx coord part vote mails k. put_behind start me to (TxVote tx coord part vote) mails refl k;
    sees = λ to tx coord part vote mails k. put_behind start me to (TxWatched tx coord part vote) mails refl k;
    ends = λ to tx part outcome mails k. put_behind start me to (TxOutcome tx part outcome) mails refl k;
    sends_on = λ to tx coord hint mails k. put_behind start me to (TxElsewhere tx coord hint) mails refl k;
  }

  pub turned_kept : (me : ℕ) (group : Draw) (command : Command) (answer : AnswerBody) (mails : List Mail) → R mails (answered me group answer command mails)
  turned_kept me group command answer mails = one_answered me (R mails) (talk mails me) group answer command mails (same mails)

  pub spoken_kept : (before : Before) (effect : Effect) (command : Command) (r : ReplicaState) (mails : List Mail) → ((spoken true before effect command (r, mails)).0 ≡ r) × R mails (spoken true before effect command (r, mails)).1
  unfolding spoken
  spoken_kept before effect command r mails = (refl, spoken_said r.me (R mails) (talk mails r.me) true r.group before effect command mails (same mails))

  -- one that runs no longer
  pub ended_kept : (hint : Option ℕ) (answer : AnswerBody) (r : ReplicaState) (mails : List Mail) → R mails (ended hint answer (r, mails)).1
  unfolding ended
  ended_kept hint answer r mails =
      all_dismissed r.me (R mails) (talk mails r.me) (name_of r) hint answer r.backlog (answered_all r.me (name_of r) answer (under_way r) mails) (all_answered r.me (R mails) (talk mails r.me) (name_of r) answer (under_way r) mails (same mails))

  -- ---- what is sent to clients and the desk, but for queues

  module _ (P : Place → Type 0) (r : ReplicaState) (mails : List Mail) (p : (acts backlog : List Command) (more : List Mail) → R mails more → P (record r { acts = acts; backlog = backlog }, more)) where
    call_kept : (o : Option AnswerBody) (command : Command) → P (answered_or_put_back o command (r, mails))
    unfolding answered_or_put_back put_back
    call_kept (Some answer) (Call client seq op) = p r.acts r.backlog _ (put_behind mails r.me (client_actor client) (Answer (name_of r) seq answer) mails refl (same mails))
    call_kept None (Call client seq op) = p r.acts _ mails (same mails)
    call_kept None _ = p r.acts r.backlog mails (same mails)
    call_kept (Some answer) _ = p r.acts r.backlog mails (same mails)

  pub announced_kept : (P : Place → Type 0) (r : ReplicaState) (mails : List Mail) → ((acts backlog : List Command) (more : List Mail) → R mails more → P (record r { acts = acts; backlog = backlog }, more)) → (effect : Effect) (command : Command) → P (announced true effect command (r, mails))
  unfolding announced effect_reported
  announced_kept P r mails p effect command =
      call_kept (λ place. P (effect_reported (order_result command effect) command place)) r mails (λ acts backlog more kept. effect_kept (order_result command effect) acts backlog more kept) (answer_of effect) command
    where
      effect_kept : (o : Option OrderResult) (acts backlog : List Command) (more : List Mail) → R mails more → P (effect_reported o command (record r { acts = acts; backlog = backlog }, more))
      effect_kept None acts backlog more kept = p acts backlog more kept
      effect_kept (Some result) acts backlog more kept = p acts backlog _ (desk_reported r.me (R mails) (talk mails r.me) (order_number command) result more kept)

-- ---- so marks stay as they are

module _ (name : Draw) (who : ℕ) where
  -- mails that leave the marks as they are
  abbrev pub Same : List Mail → List Mail → Type 0
  Same mails after = marks_for name who after ≡ marks_for name who mails

  pub one_same : (me to : ℕ) (body : MailBody) (mails : List Mail) → mark_of name me body ≡ None → Same mails (sent me to body mails)
  one_same me to body mails e = marks-push name who mails (record { from = me; to = to; body = body }) e

  pub spoken_same : (before : Before) (effect : Effect) (command : Command) (r : ReplicaState) (mails : List Mail) → ((spoken true before effect command (r, mails)).0 ≡ r) × Same mails (spoken true before effect command (r, mails)).1
  spoken_same before effect command r mails = spoken_kept name Same (λ mails. refl) (λ a b c one other. other ∙ one) (λ mails mail e. marks-push name who mails mail e) before effect command r mails

  pub ended_same : (hint : Option ℕ) (answer : AnswerBody) (r : ReplicaState) (mails : List Mail) → Same mails (ended hint answer (r, mails)).1
  ended_same hint answer r mails = ended_kept name Same (λ mails. refl) (λ a b c one other. other ∙ one) (λ mails mail e. marks-push name who mails mail e) hint answer r mails

module _ (name : Draw) (P : Place → Type 0) (r : ReplicaState) (mails : List Mail) (p : (acts backlog : List Command) (more : List Mail) → ((who : ℕ) → marks_for name who more ≡ marks_for name who mails) → P (record r { acts = acts; backlog = backlog }, more)) where
  pub announced_keeps : (effect : Effect) (command : Command) → P (announced true effect command (r, mails))
  announced_keeps effect command =
      announced_kept name (λ mails more. (who : ℕ) → marks_for name who more ≡ marks_for name who mails) (λ mails who. refl) (λ a b c one other who. other who ∙ one who)
      (λ mails mail e who. marks-push name who mails mail e) P r mails p effect command
