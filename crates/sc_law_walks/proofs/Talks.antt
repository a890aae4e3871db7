-- What holds of the mails of a row is kept by all that a replica tells others by the entries, the locks and the queues of its group.
use Rattle.std.proofs.Common.{ℕ, refl, eqb, Bool, cond, List, [], ◌∷◌, Option, Some, None}
use Rattle.sc_base.specs.Definitions.{client_actor, same_draw, least_of, Each}
use Rattle.sc_node_table.specs.Values.{Draw, Body, Offer, Watch, Command, Split, Begin, Prepared, RecordVote, GiveUp, Watched, RecordWatch, Core, Lock, Free, Coordinating, Promised, Watching, Effect, Link, OrderResult, Heard, Outcome, Past, Vote, AnswerBody, Mail, MailBody, Answer, TxPrepare, TxVote, TxOutcome, TxWatch, TxWatched}
use Rattle.sc_words.specs.declared.commands.bodies.Body.TheVariants as At
use Rattle.sc_words.specs.declared.commands.votes.Outcome.TheVariants as Is
use Rattle.sc_words.specs.declared.commands.votes.Past.TheVariants as Cast
use Rattle.sc_words.specs.declared.commands.votes.Vote.TheVariants as Says
use Rattle.sc_words.specs.commands.CommandDefinitions.{decided_in, cast_in, is_changed}
use Rattle.sc_group_table.specs.machine.MachineDefinitions.{Group, frozen_of}
use Rattle.sc_group_table.specs.policy.PolicyDefinitions.{is_reported}
use Rattle.sc_node_table.specs.declared.Before.{Before}
use Rattle.sc_node_table.specs.NodeDefinitions.{sent, sent_all, answer_to, sent_others, answered, answered_all, result_sent, order_reported, dismissed_all, offer_of, union_watch, split_watch, heard_question, question, asked_first, asked_link, voted_to, watched_to, outcome_sent, next_asked, asked_next, begun_result, spoken_number, result_reported, begun_reported, asked_on, begun_asks, vote_sent, watch_sent, aborted_to, aborted_watcher, given_up_by, vote_answered, released_to, watch_answered_by, went_on, spoken_mails, reminders}
use Rattle.sc_law_walks.proofs.EndedRequests.{any_ends, all_end, all_queued_end}
use Rattle.sc_law_walks.proofs.Ways.{either_way}
use Rattle.sc_law_walks.proofs.PlaceWalks.{Talk, PartiesAnd, Parties, parties}

-- the same mail to nodes of which M holds
module _ (me : ℕ) (M : ℕ → Type 0) (Q : List Mail → Type 0) (body : MailBody) (puts : (to : ℕ) (mails : List Mail) → M to → Q mails → Q (sent me to body mails)) where
  pub each_sent : (nodes : List ℕ) (mails : List Mail) → Each M nodes → Q mails → Q (sent_all me nodes body mails)
  unfolding sent_all
  each_sent [] mails of m = m
  each_sent (node ∷ nodes) mails of m = each_sent nodes (sent me node body mails) of.1 (puts node mails of.0 m)

  pub each_other_sent : (nodes : List ℕ) (mails : List Mail) → Each M nodes → Q mails → Q (sent_others me nodes body mails)
  unfolding sent_others
  each_other_sent [] mails of m = m
  each_other_sent (node ∷ nodes) mails of m = each_other_sent nodes (cond (eqb node me) mails (sent me node body mails)) of.1 (either_way Q (eqb node me) mails (sent me node body mails) m (puts node mails of.0 m))

-- the same mail to any nodes
module _ (me : ℕ) (Q : List Mail → Type 0) (body : MailBody) (puts : (to : ℕ) (mails : List Mail) → Q mails → Q (sent me to body mails)) where
  pub all_sent : (nodes : List ℕ) (mails : List Mail) → Q mails → Q (sent_all me nodes body mails)
  unfolding sent_all
  all_sent [] mails m = m
  all_sent (node ∷ nodes) mails m = all_sent nodes (sent me node body mails) (puts node mails m)

  pub others_sent : (nodes : List ℕ) (mails : List Mail) → Q mails → Q (sent_others me nodes body mails)
  unfolding sent_others
  others_sent [] mails m = m
  others_sent (node ∷ nodes) mails m = others_sent nodes (cond (eqb node me) mails (sent me node body mails)) (either_way Q (eqb node me) mails (sent me node body mails) m (puts node mails m))

-- a client's request that ends is answered, and each of several
abbrev pub AnswersOne : ℕ → (List Mail → Type 0) → Type 0
AnswersOne me Q = (group : Draw) (answer : AnswerBody) (command : Command) (mails : List Mail) → Q mails → Q (answered me group answer command mails)

abbrev pub AnswersAll : ℕ → (List Mail → Type 0) → Type 0
AnswersAll me Q = (group : Draw) (answer : AnswerBody) (commands : List Command) (mails : List Mail) → Q mails → Q (answered_all me group answer commands mails)

-- ---- the parties of a transaction

module _ {C : ℕ → Type 0} (me : ℕ) (Q : List Mail → Type 0) (puts : PartiesAnd C me Q) where
  heard_said : (to : ℕ) (core : Core) (tx : Draw) (body : Body) (heard : Option Heard) (mails : List Mail) → Q mails → Q (sent me to (heard_question me core tx body heard) mails)
  heard_said to core tx body None mails m = puts to (TxPrepare tx (offer_of me core body)) mails refl m
  heard_said to core tx body (Some heard) mails m = puts to (TxWatch tx (union_watch me core heard)) mails refl m

  question_said : (to : ℕ) (core : Core) (tx : Draw) (body : Body) (heard : Option Heard) (mails : List Mail) → Q mails → Q (sent me to (question me core tx body heard) mails)
  question_said to core tx At.Merge heard mails m = heard_said to core tx At.Merge heard mails m
  question_said to core tx (At.Repart at) heard mails m = heard_said to core tx (At.Repart at) heard mails m
  question_said to core tx (At.Migrate node) heard mails m = heard_said to core tx (At.Migrate node) heard mails m
  question_said to core tx (At.Split at child) heard mails m = puts to (TxWatch tx (split_watch me core at child)) mails refl m

  first_asked : (lock : Lock) (core : Core) (mails : List Mail) → Q mails → Q (asked_first lock me core mails)
  first_asked Free core mails m = m
  first_asked (Coordinating tx body order heard) core mails m = question_said _ core tx body heard mails m
  first_asked (Promised tx offer) core mails m = m
  first_asked (Watching tx watch) core mails m = m

  pub next_one_asked : (lock : Lock) (core : Core) (from : ℕ) (tx : Draw) (hint : Option ℕ) (mails : List Mail) → Q mails → Q (asked_next lock me core from tx hint mails)
  next_one_asked Free core from tx hint mails m = m
  next_one_asked (Promised locked offer) core from tx hint mails m = m
  next_one_asked (Watching locked watch) core from tx hint mails m = m
  next_one_asked (Coordinating locked body order heard) core from tx hint mails m =
      let to : ℕ = next_asked hint (asked_link core body heard).members from in
      either_way Q (same_draw locked tx) (sent me to (question me core tx body heard) mails) mails (question_said to core tx body heard mails m) m

  on_asked : (effect : Effect) (core : Core) (mails : List Mail) → Q mails → Q (asked_on effect me core mails)
  on_asked effect core mails m = either_way Q (is_changed effect) (asked_first core.lock me core mails) mails (first_asked core.lock core mails m) m

  begun_asked : (effect : Effect) (core : Core) (tx : Draw) (body : Body) (mails : List Mail) → Q mails → Q (begun_asks effect me core tx body mails)
  begun_asked effect core tx body mails m =
      let to : ℕ = least_of core.succ.members in
      either_way Q (is_changed effect) (sent me to (TxPrepare tx (offer_of me core body)) mails) mails (puts to (TxPrepare tx (offer_of me core body)) mails refl m) m

  pub vote_reported : (group : Group) (node : ℕ) (tx : Draw) (offer : Offer) (vote : Past) (mails : List Mail) → Q mails → Q (voted_to me group node tx offer vote mails)
  vote_reported group node tx offer Cast.Yes mails m = puts node (TxVote tx offer.coord offer.part (Says.Yes (frozen_of group))) mails tt m
  vote_reported group node tx offer (Cast.No why) mails m = puts node (TxVote tx offer.coord offer.part (Says.No why)) mails tt m
  vote_reported group node tx offer Cast.Ended mails m = m

  pub watch_reported : (node : ℕ) (tx : Draw) (watch : Watch) (vote : Past) (mails : List Mail) → Q mails → Q (watched_to me node tx watch vote mails)
  watch_reported node tx watch Cast.Yes mails m = puts node (TxWatched tx watch.coord watch.part Cast.Yes) mails tt m
  watch_reported node tx watch (Cast.No why) mails m = puts node (TxWatched tx watch.coord watch.part (Cast.No why)) mails tt m
  watch_reported node tx watch Cast.Ended mails m = m

  vote_said : (o : Option Past) (group : Group) (tx : Draw) (offer : Offer) (mails : List Mail) → Q mails → Q (vote_sent o me group tx offer mails)
  vote_said None group tx offer mails m = m
  vote_said (Some vote) group tx offer mails m = vote_reported group offer.by tx offer vote mails m

  watch_said : (o : Option Past) (tx : Draw) (watch : Watch) (mails : List Mail) → Q mails → Q (watch_sent o me tx watch mails)
  watch_said None tx watch mails m = m
  watch_said (Some vote) tx watch mails m = watch_reported watch.by tx watch vote mails m

  aborted_said : (tx : Draw) (link : Link) (mails : List Mail) → Q mails → Q (aborted_to me tx link mails)
  aborted_said tx link mails m = all_sent me Q (TxOutcome tx link.group Is.Abort) (λ to ms q. puts to (TxOutcome tx link.group Is.Abort) ms tt q) link.members mails m

  watcher_said : (tx : Draw) (o : Option (ℕ × Link)) (mails : List Mail) → Q mails → Q (aborted_watcher me tx o mails)
  watcher_said tx None mails m = m
  watcher_said tx (Some heard) mails m = aborted_said tx heard.1 mails m

  given_up_said : (o : Option Outcome) (before : Before) (tx : Draw) (mails : List Mail) → Q mails → Q (given_up_by o me before tx mails)
  given_up_said None before tx mails m = m
  given_up_said (Some outcome) before tx mails m = watcher_said tx before.heard (aborted_to me tx before.succ mails) (aborted_said tx before.succ mails m)

  pub outcome_said : (node : ℕ) (tx part : Draw) (outcome : Outcome) (mails : List Mail) → Q mails → Q (outcome_sent me node tx part outcome mails)
  outcome_said node tx part outcome mails m = puts node (TxOutcome tx part outcome) mails tt m

  vote_replied : (o : Option Outcome) (vote : Vote) (before : Before) (tx : Draw) (by : ℕ) (mails : List Mail) → Q mails → Q (vote_answered o vote me before tx by mails)
  vote_replied None vote before tx by mails m = m
  vote_replied (Some outcome) (Says.Yes frozen) before tx by mails m = outcome_said by tx before.succ.group outcome mails m
  vote_replied (Some outcome) (Says.No why) before tx by mails m = m

  released_said : (o : Option (ℕ × Link)) (succ : Link) (tx : Draw) (by : ℕ) (outcome : Outcome) (mails : List Mail) → Q mails → Q (released_to o me succ tx by outcome mails)
  released_said None succ tx by outcome mails m = outcome_said by tx succ.group outcome mails m
  released_said (Some heard) succ tx by outcome mails m = outcome_said by tx heard.1.group outcome (outcome_sent me heard.0 tx succ.group outcome mails) (outcome_said heard.0 tx succ.group outcome mails m)

  watch_replied : (o : Option Outcome) (vote : Past) (before : Before) (tx : Draw) (by : ℕ) (mails : List Mail) → Q mails → Q (watch_answered_by o vote me before tx by mails)
  watch_replied None vote before tx by mails m = m
  watch_replied (Some outcome) Cast.Yes before tx by mails m = released_said before.heard before.succ tx by outcome mails m
  watch_replied (Some outcome) (Cast.No why) before tx by mails m = either_way Q before.merges (aborted_to me tx before.succ mails) mails (aborted_said tx before.succ mails m) m
  watch_replied (Some outcome) Cast.Ended before tx by mails m = m

  pub went_said : (group : Group) (before : Before) (effect : Effect) (command : Command) (mails : List Mail) → Q mails → Q (went_on me group before effect command mails)
  unfolding went_on
  went_said group before effect (Split at child order) mails m = on_asked effect group.core mails m
  went_said group before effect (Begin tx body order) mails m = begun_asked effect group.core tx body mails m
  went_said group before effect (Prepared tx offer) mails m = vote_said (cast_in effect) group tx offer mails m
  went_said group before effect (RecordVote tx vote by) mails m = vote_replied (decided_in effect) vote before tx by (asked_on effect me group.core mails) (on_asked effect group.core mails m)
  went_said group before effect (GiveUp tx) mails m = given_up_said (decided_in effect) before tx mails m
  went_said group before effect (Watched tx watch) mails m = watch_said (cast_in effect) tx watch mails m
  went_said group before effect (RecordWatch tx vote by) mails m = watch_replied (decided_in effect) vote before tx by mails m
  went_said group before effect _ mails m = m

  -- who is bound in a transaction asks again, or says its vote again
  pub all_reminded : (lock : Lock) (group : Group) (mails : List Mail) → Q mails → Q (reminders lock me group mails)
  all_reminded Free group mails m = m
  all_reminded (Coordinating tx body order heard) group mails m = all_sent me Q (question me group.core tx body heard) (λ to ms q. question_said to group.core tx body heard ms q) (asked_link group.core body heard).members mails m
  all_reminded (Promised tx offer) group mails m = all_sent me Q (TxVote tx offer.coord offer.part (Says.Yes (frozen_of group))) (λ to ms q. puts to (TxVote tx offer.coord offer.part (Says.Yes (frozen_of group))) ms tt q) offer.members mails m
  all_reminded (Watching tx watch) group mails m = all_sent me Q (TxWatched tx watch.coord watch.part Cast.Yes) (λ to ms q. puts to (TxWatched tx watch.coord watch.part Cast.Yes) ms tt q) watch.members mails m

-- ---- .. and clients

module _ (me : ℕ) (Q : List Mail → Type 0) (puts : Parties me Q) where
  pub client_reported : (client : ℕ) (group : Draw) (seq : ℕ) (answer : AnswerBody) (mails : List Mail) → Q mails → Q (answer_to me group client seq answer mails)
  client_reported client group seq answer mails m = puts (client_actor client) (Answer group seq answer) mails (client, refl) m

  pub one_replied : AnswersOne me Q
  one_replied group answer command mails m = any_ends me group answer Q (λ client seq ms q. client_reported client group seq answer ms q) command mails m

  pub all_replied : AnswersAll me Q
  all_replied group answer commands mails m = all_end me group answer Q (λ client seq ms q. client_reported client group seq answer ms q) commands mails m

-- ---- .. and the desk

module _ (me : ℕ) (Q : List Mail → Type 0) (t : Talk me Q) where
  pub one_answered : AnswersOne me Q
  one_answered = one_replied me Q (parties me Q t)

  pub all_answered : AnswersAll me Q
  all_answered = all_replied me Q (parties me Q t)

  pub desk_reported : (number : ℕ) (result : OrderResult) (mails : List Mail) → Q mails → Q (order_reported me number result mails)
  unfolding order_reported
  desk_reported number result mails m = either_way Q (is_reported number) (result_sent me number result mails) mails (t.tells number result mails m) m

  pub all_dismissed : (group : Draw) (hint : Option ℕ) (answer : AnswerBody) (commands : List Command) (mails : List Mail) → Q mails → Q (dismissed_all me group hint answer commands mails)
  all_dismissed group hint answer commands mails m =
      all_queued_end me group answer Q (λ client seq ms q. client_reported me Q (parties me Q t) client group seq answer ms q) hint (λ number ms q. desk_reported number _ ms q) commands mails m

  begun_said : (before : Before) (effect : Effect) (command : Command) (mails : List Mail) → Q mails → Q (begun_reported me before effect command mails)
  unfolding begun_reported
  begun_said before effect command mails m = by (begun_result before.alone effect command)
    where
      by : (o : Option OrderResult) → Q (result_reported me o (spoken_number before.order command) mails)
      by None = m
      by (Some result) = desk_reported (spoken_number before.order command) result mails m

  -- all that is said of an executed entry
  pub spoken_said : (counted : Bool) (group : Group) (before : Before) (effect : Effect) (command : Command) (mails : List Mail) → Q mails → Q (spoken_mails counted me group before effect command mails)
  unfolding spoken_mails
  spoken_said counted group before effect command mails m =
      either_way Q counted (went_on me group before effect command (begun_reported me before effect command mails)) (begun_reported me before effect command mails)
      (went_said me Q (parties me Q t) group before effect command (begun_reported me before effect command mails) (begun_said before effect command mails m)) (begun_said before effect command mails m)
