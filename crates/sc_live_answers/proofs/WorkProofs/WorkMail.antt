-- What is sent while an order is under way, whatever it is put behind.
use Rattle.std.proofs.Common.{◌≡◌, ◌⊎◌, ℕ, Bool, List, [], ◌∷◌, Option, Some, None, inl, inr, refl, sym, subst}
use Rattle.sc_base.specs.Definitions.{Each, same_draw, least_of}
use Rattle.sc_node_table.specs.Values.{Draw, Body, Offer, Watch, Command, Split, Begin, Prepared, RecordVote, GiveUp, Watched, RecordWatch, Core, Lock, Free, Coordinating, Promised, Watching, Effect, Link, OrderResult, Heard, Outcome, Past, Vote, AnswerBody, Mail, MailBody, TxPrepare, TxVote, TxOutcome, TxWatched, Told}
use Rattle.sc_words.specs.declared.commands.bodies.Body.TheVariants as At
use Rattle.sc_words.specs.declared.commands.votes.Outcome.TheVariants as Is
use Rattle.sc_words.specs.declared.commands.votes.Past.TheVariants as Cast
use Rattle.sc_words.specs.declared.commands.votes.Vote.TheVariants as Votes
use Rattle.sc_words.specs.commands.CommandDefinitions.{decided_in, cast_in, is_changed}
use Rattle.sc_group_table.specs.machine.MachineDefinitions.{Group, frozen_of}
use Rattle.sc_words.proofs.PaxosProofs.PaxosLemmas.{Each-append}
use Rattle.sc_group_table.specs.policy.PolicyDefinitions.{is_reported}
use Rattle.sc_node_table.specs.declared.Before.{Before}
use Rattle.sc_node_table.specs.NodeDefinitions.{sent, sent_all, sent_others, answered_all, result_sent, order_reported, dismissed_all, offer_of, heard_question, question, asked_first, asked_link, voted_to, watched_to, outcome_sent, next_asked, asked_next, begun_result, spoken_number, result_reported, begun_reported, asked_on, begun_asks, vote_sent, watch_sent, aborted_to, aborted_watcher, given_up_by, vote_answered, released_to, watch_answered_by, went_on, spoken_mails}
use Rattle.sc_law_walks.proofs.WalkLemmas.{either_way}
use Rattle.sc_law_walks.proofs.EndedRequests.{requests_end}
use Rattle.sc_law_walks.proofs.Talks.{all_sent as sent_each, others_sent as sent_rest}
use Rattle.sc_live_answers.proofs.WorkProofs.Affairs.{Affair, Says, IsGood, AreGood}

module _ (a : Affair) (me : ℕ) where
  pub one_sent : (to : ℕ) (body : MailBody) (mails : List Mail) → Says a body → AreGood a mails → AreGood a (sent me to body mails)
  one_sent to body mails q m = Each-append (IsGood a) mails (record { from = me; to = to; body = body } ∷ []) m (q, tt)

  pub all_sent : (nodes : List ℕ) (body : MailBody) (mails : List Mail) → Says a body → AreGood a mails → AreGood a (sent_all me nodes body mails)
  all_sent nodes body mails q m = sent_each me (AreGood a) body (λ to ms g. one_sent to body ms q g) nodes mails m

  pub others_sent : (nodes : List ℕ) (body : MailBody) (mails : List Mail) → Says a body → AreGood a mails → AreGood a (sent_others me nodes body mails)
  others_sent nodes body mails q m = sent_rest me (AreGood a) body (λ to ms g. one_sent to body ms q g) nodes mails m

  -- ---- the desk, and clients of whom no call stands

  pub desk_reported : (number : ℕ) (result : OrderResult) (mails : List Mail) → AreGood a mails → AreGood a (order_reported me number result mails)
  unfolding order_reported
  desk_reported number result mails m = either_way (AreGood a) (is_reported number) (result_sent me number result mails) mails (one_sent 0 (Told number result) mails tt m) m

  pub all_answered : (name group : Draw) (answer : AnswerBody) (commands : List Command) (mails : List Mail) → Each (a.Does name) commands → AreGood a mails → AreGood a (answered_all me group answer commands mails)
  all_answered name group answer commands mails d m = requests_end (a.Does name) me group answer (AreGood a) (λ client seq op ms k q. absurd (a.backlog name client seq op k)) commands mails d m

  pub none_dismissed : (group : Draw) (hint : Option ℕ) (answer : AnswerBody) (backlog : List Command) (mails : List Mail) → backlog ≡ [] → AreGood a mails → AreGood a (dismissed_all me group hint answer backlog mails)
  unfolding dismissed_all
  none_dismissed group hint answer backlog mails none m = subst (λ (cs : List Command). AreGood a (dismissed_all me group hint answer cs mails)) (sym none) m

  -- ---- the parties of a transaction

  heard_said : (core : Core) (tx : Draw) (body : Body) (heard : Option Heard) → a.Parts → Says a (heard_question me core tx body heard)
  heard_said core tx body None p = p
  heard_said core tx body (Some heard) p = tt

  question_of : (core : Core) (tx : Draw) (body : Body) (heard : Option Heard) → a.Parts → Says a (question me core tx body heard)
  question_of core tx At.Merge heard p = heard_said core tx At.Merge heard p
  question_of core tx (At.Repart at) heard p = heard_said core tx (At.Repart at) heard p
  question_of core tx (At.Migrate node) heard p = heard_said core tx (At.Migrate node) heard p
  question_of core tx (At.Split at child) heard p = tt

  question_said : (core : Core) (tx : Draw) (body : Body) (heard : Option Heard) → a.Parts ⊎ ((at : ℕ) × (child : Draw) × (body ≡ At.Split at child)) → Says a (question me core tx body heard)
  question_said core tx body heard (inl p) = question_of core tx body heard p
  question_said core tx body heard (inr (at, child, e)) = subst (λ b. Says a (question me core tx b heard)) (sym e) tt

  first_asked : (name : Draw) (lock : Lock) (core : Core) (mails : List Mail) → core.lock ≡ lock → a.Is name core → AreGood a mails → AreGood a (asked_first lock me core mails)
  first_asked name Free core mails e s m = m
  first_asked name (Coordinating tx body order heard) core mails e s m = one_sent _ (question me core tx body heard) mails (question_said core tx body heard (a.asks name core tx body order heard s e)) m
  first_asked name (Promised tx offer) core mails e s m = m
  first_asked name (Watching tx watch) core mails e s m = m

  pub next_one_asked : (name : Draw) (lock : Lock) (core : Core) (from : ℕ) (tx : Draw) (hint : Option ℕ) (mails : List Mail) → core.lock ≡ lock → a.Is name core → AreGood a mails → AreGood a (asked_next lock me core from tx hint mails)
  next_one_asked name Free core from tx hint mails e s m = m
  next_one_asked name (Promised locked offer) core from tx hint mails e s m = m
  next_one_asked name (Watching locked watch) core from tx hint mails e s m = m
  next_one_asked name (Coordinating locked body order heard) core from tx hint mails e s m =
      let to : ℕ = next_asked hint (asked_link core body heard).members from in
      let q : (t : Draw) → Says a (question me core t body heard) = λ t. question_said core t body heard (a.asks name core locked body order heard s e) in
      either_way (AreGood a) (same_draw locked tx) (sent me to (question me core tx body heard) mails) mails (one_sent to (question me core tx body heard) mails (q tx) m) m

  on_asked : (name : Draw) (effect : Effect) (core : Core) (mails : List Mail) → a.Is name core → AreGood a mails → AreGood a (asked_on effect me core mails)
  on_asked name effect core mails s m = either_way (AreGood a) (is_changed effect) (asked_first core.lock me core mails) mails (first_asked name core.lock core mails refl s m) m

  begun_asked : (effect : Effect) (core : Core) (tx : Draw) (body : Body) (mails : List Mail) → a.Parts → AreGood a mails → AreGood a (begun_asks effect me core tx body mails)
  begun_asked effect core tx body mails p m =
      let to : ℕ = least_of core.succ.members in
      either_way (AreGood a) (is_changed effect) (sent me to (TxPrepare tx (offer_of me core body)) mails) mails (one_sent to (TxPrepare tx (offer_of me core body)) mails p m) m

  pub vote_reported : (group : Group) (node : ℕ) (tx : Draw) (offer : Offer) (vote : Past) (mails : List Mail) → a.Parts → AreGood a mails → AreGood a (voted_to me group node tx offer vote mails)
  vote_reported group node tx offer Cast.Yes mails p m = one_sent node (TxVote tx offer.coord offer.part (Votes.Yes (frozen_of group))) mails p m
  vote_reported group node tx offer (Cast.No why) mails p m = one_sent node (TxVote tx offer.coord offer.part (Votes.No why)) mails p m
  vote_reported group node tx offer Cast.Ended mails p m = m

  pub watch_reported : (node : ℕ) (tx : Draw) (watch : Watch) (vote : Past) (mails : List Mail) → AreGood a mails → AreGood a (watched_to me node tx watch vote mails)
  watch_reported node tx watch Cast.Yes mails m = one_sent node (TxWatched tx watch.coord watch.part Cast.Yes) mails tt m
  watch_reported node tx watch (Cast.No why) mails m = one_sent node (TxWatched tx watch.coord watch.part (Cast.No why)) mails tt m
  watch_reported node tx watch Cast.Ended mails m = m

  vote_said : (o : Option Past) (group : Group) (tx : Draw) (offer : Offer) (mails : List Mail) → a.Parts → AreGood a mails → AreGood a (vote_sent o me group tx offer mails)
  vote_said None group tx offer mails p m = m
  vote_said (Some vote) group tx offer mails p m = vote_reported group offer.by tx offer vote mails p m

  watch_said : (o : Option Past) (tx : Draw) (watch : Watch) (mails : List Mail) → AreGood a mails → AreGood a (watch_sent o me tx watch mails)
  watch_said None tx watch mails m = m
  watch_said (Some vote) tx watch mails m = watch_reported watch.by tx watch vote mails m

  aborted_said : (tx : Draw) (link : Link) (mails : List Mail) → AreGood a mails → AreGood a (aborted_to me tx link mails)
  aborted_said tx link mails m = all_sent link.members (TxOutcome tx link.group Is.Abort) mails tt m

  watcher_said : (tx : Draw) (o : Option (ℕ × Link)) (mails : List Mail) → AreGood a mails → AreGood a (aborted_watcher me tx o mails)
  watcher_said tx None mails m = m
  watcher_said tx (Some heard) mails m = aborted_said tx heard.1 mails m

  given_up_said : (o : Option Outcome) (before : Before) (tx : Draw) (mails : List Mail) → AreGood a mails → AreGood a (given_up_by o me before tx mails)
  given_up_said None before tx mails m = m
  given_up_said (Some outcome) before tx mails m = watcher_said tx before.heard (aborted_to me tx before.succ mails) (aborted_said tx before.succ mails m)

  pub outcome_said : (node : ℕ) (tx part : Draw) (outcome : Outcome) (mails : List Mail) → AreGood a mails → AreGood a (outcome_sent me node tx part outcome mails)
  outcome_said node tx part outcome mails m = one_sent node (TxOutcome tx part outcome) mails tt m

  vote_replied : (o : Option Outcome) (vote : Vote) (before : Before) (tx : Draw) (by : ℕ) (mails : List Mail) → AreGood a mails → AreGood a (vote_answered o vote me before tx by mails)
  vote_replied None vote before tx by mails m = m
  vote_replied (Some outcome) (Votes.Yes frozen) before tx by mails m = outcome_said by tx before.succ.group outcome mails m
  vote_replied (Some outcome) (Votes.No why) before tx by mails m = m

  released_said : (o : Option (ℕ × Link)) (succ : Link) (tx : Draw) (by : ℕ) (outcome : Outcome) (mails : List Mail) → AreGood a mails → AreGood a (released_to o me succ tx by outcome mails)
  released_said None succ tx by outcome mails m = outcome_said by tx succ.group outcome mails m
  released_said (Some heard) succ tx by outcome mails m = outcome_said by tx heard.1.group outcome (outcome_sent me heard.0 tx succ.group outcome mails) (outcome_said heard.0 tx succ.group outcome mails m)

  watch_replied : (o : Option Outcome) (vote : Past) (before : Before) (tx : Draw) (by : ℕ) (mails : List Mail) → AreGood a mails → AreGood a (watch_answered_by o vote me before tx by mails)
  watch_replied None vote before tx by mails m = m
  watch_replied (Some outcome) Cast.Yes before tx by mails m = released_said before.heard before.succ tx by outcome mails m
  watch_replied (Some outcome) (Cast.No why) before tx by mails m = either_way (AreGood a) before.merges (aborted_to me tx before.succ mails) mails (aborted_said tx before.succ mails m) m
  watch_replied (Some outcome) Cast.Ended before tx by mails m = m

  went_said : (name : Draw) (group : Group) (before : Before) (effect : Effect) (command : Command) (mails : List Mail) → a.Is name group.core → a.Does name command → AreGood a mails → AreGood a (went_on me group before effect command mails)
  unfolding went_on
  went_said name group before effect (Split at child order) mails s d m = on_asked name effect group.core mails s m
  went_said name group before effect (Begin tx body order) mails s d m = begun_asked effect group.core tx body mails (a.begins name tx body order d) m
  went_said name group before effect (Prepared tx offer) mails s d m = vote_said (cast_in effect) group tx offer mails (a.votes name tx offer d) m
  went_said name group before effect (RecordVote tx vote by) mails s d m = vote_replied (decided_in effect) vote before tx by (asked_on effect me group.core mails) (on_asked name effect group.core mails s m)
  went_said name group before effect (GiveUp tx) mails s d m = given_up_said (decided_in effect) before tx mails m
  went_said name group before effect (Watched tx watch) mails s d m = watch_said (cast_in effect) tx watch mails m
  went_said name group before effect (RecordWatch tx vote by) mails s d m = watch_replied (decided_in effect) vote before tx by mails m
  went_said name group before effect _ mails s d m = m

  begun_said : (before : Before) (effect : Effect) (command : Command) (mails : List Mail) → AreGood a mails → AreGood a (begun_reported me before effect command mails)
  unfolding begun_reported
  begun_said before effect command mails m = by (begun_result before.alone effect command)
    where
      by : (o : Option OrderResult) → AreGood a (result_reported me o (spoken_number before.order command) mails)
      by None = m
      by (Some result) = desk_reported (spoken_number before.order command) result mails m

  -- all that is said of an executed entry
  pub spoken_said : (counted : Bool) (name : Draw) (group : Group) (before : Before) (effect : Effect) (command : Command) (mails : List Mail) → a.Is name group.core → a.Does name command → AreGood a mails → AreGood a (spoken_mails counted me group before effect command mails)
  unfolding spoken_mails
  spoken_said counted name group before effect command mails s d m =
      either_way (AreGood a) counted (went_on me group before effect command (begun_reported me before effect command mails)) (begun_reported me before effect command mails)
      (went_said name group before effect command (begun_reported me before effect command mails) s d (begun_said before effect command mails m)) (begun_said before effect command mails m)
