-- What is sent names nothing new: answers, results for the desk, and what the parties of a transaction say to each other.
use Rattle.std.proofs.Common.{ℕ, nat_le, nat_lt, Bool, List, [], ◌∷◌, length, Option, Some, None}
use Rattle.sc_base.specs.Definitions.{Each, least_of, united}
use Rattle.sc_node_table.specs.Values.{Draw, Body, Offer, Watch, Command, Split, Begin, Prepared, RecordVote, GiveUp, Watched, RecordWatch, Core, Lock, Free, Coordinating, Promised, Watching, Effect, Link, OrderResult, Heard, Outcome, Past, Vote, AnswerBody, Mail, MailBody, Answer, TxPrepare, TxVote, TxOutcome, TxWatched, Told}
use Rattle.sc_words.specs.declared.commands.bodies.Body.TheVariants as At
use Rattle.sc_words.specs.declared.commands.effects.Effect.TheVariants as Was
use Rattle.sc_words.specs.declared.commands.orders.OrderRefusal.TheVariants as Why
use Rattle.sc_words.specs.declared.commands.orders.OrderResult.TheVariants as Results
use Rattle.sc_words.specs.declared.commands.votes.Outcome.TheVariants as Is
use Rattle.sc_words.specs.declared.commands.votes.Past.TheVariants as Cast
use Rattle.sc_words.specs.declared.commands.votes.Vote.TheVariants as Says
use Rattle.sc_words.specs.commands.CommandDefinitions.{refused_result, result_of, decided_in, cast_in}
use Rattle.sc_group_table.specs.machine.MachineDefinitions.{Group, can_split, frozen_of, merged_link, right_link}
use Rattle.sc_words.proofs.PaxosProofs.PaxosLemmas.{Each-append}
use Rattle.sc_node_table.specs.declared.Before.{Before}
use Rattle.sc_node_table.specs.NodeDefinitions.{sent, sent_all, answered, answered_all, order_reported, dismissed_all, offer_of, heard_question, question, asked_first, voted_to, watched_to, outcome_sent, heard_from, before_in, before_of, outcome_result, decided_result, begun_result, spoken_number, result_reported, begun_reported, asked_on, begun_asks, vote_sent, watch_sent, aborted_to, aborted_watcher, given_up_by, vote_answered, released_to, watch_answered_by, went_on, spoken_mails}
use Rattle.sc_law_entries.specs.names.NameDefinitions.{Opt, BodyNames, OfferNames, WatchNames, PastNames, OutcomeNames, HeardNames, LockNames, CoreNames, CommandNames, EffectNames, ResultNames, AnswerNames, BodiesNames, MailNames}
use Rattle.sc_law_walks.proofs.WalkLemmas.{either_way}
use Rattle.sc_law_walks.proofs.EndedRequests.{any_ends, all_end, all_queued_end}
use Rattle.sc_law_walks.proofs.Talks.{all_sent}

module _ (K : Draw → Type 0) where
  abbrev pub Sent : List Mail → Type 0
  Sent mails = Each (MailNames K) mails

  -- one mail more
  pub sent_names : (me to : ℕ) (body : MailBody) (mails : List Mail) → BodiesNames K body → Sent mails → Sent (sent me to body mails)
  sent_names me to body mails b m = Each-append (MailNames K) mails (record { from = me; to = to; body = body } ∷ []) m (record { body = b }, tt)

  pub sent_all_names : (me : ℕ) (nodes : List ℕ) (body : MailBody) (mails : List Mail) → BodiesNames K body → Sent mails → Sent (sent_all me nodes body mails)
  sent_all_names me nodes body mails b m = all_sent me Sent body (λ to ms q. sent_names me to body ms b q) nodes mails m

  -- ---- answers, and the desk

  pub answered_names : (me : ℕ) (group : Draw) (answer : AnswerBody) (command : Command) (mails : List Mail) → K group → AnswerNames K answer → Sent mails → Sent (answered me group answer command mails)
  answered_names me group answer command mails g a m = any_ends me group answer Sent (λ client seq ms q. sent_names me _ (Answer group seq answer) ms (g, a) q) command mails m

  pub answered_all_names : (me : ℕ) (group : Draw) (answer : AnswerBody) (commands : List Command) (mails : List Mail) → K group → AnswerNames K answer → Sent mails → Sent (answered_all me group answer commands mails)
  answered_all_names me group answer commands mails g a m = all_end me group answer Sent (λ client seq ms q. sent_names me _ (Answer group seq answer) ms (g, a) q) commands mails m

  pub reported_names : (me number : ℕ) (result : OrderResult) (mails : List Mail) → ResultNames K result → Sent mails → Sent (order_reported me number result mails)
  unfolding order_reported
  reported_names me number result mails r m = either_way Sent (nat_lt 0 number) _ _ (sent_names me 0 (Told number result) mails r m) m

  pub dismissed_all_names : (me : ℕ) (group : Draw) (hint : Option ℕ) (answer : AnswerBody) (commands : List Command) (mails : List Mail) → K group → AnswerNames K answer → Sent mails → Sent (dismissed_all me group hint answer commands mails)
  dismissed_all_names me group hint answer commands mails g a m =
      all_queued_end me group answer Sent (λ client seq ms q. sent_names me _ (Answer group seq answer) ms (g, a) q) hint (λ number ms q. reported_names me number (Results.Refused (Why.NotLeader hint)) ms tt q) commands mails m

  -- ---- what a coordinator asks

  abbrev LinkOf : Link → Type 0
  LinkOf link = K link.group

  offer_names : (me : ℕ) (core : Core) (body : Body) → BodyNames K body → CoreNames K core → OfferNames K (offer_of me core body)
  offer_names me core body b k = record { coord = k.id; part = k.succ; body = b }

  heard_names : (me : ℕ) (core : Core) (tx : Draw) (body : Body) (heard : Option Heard) → K tx → BodyNames K body → HeardNames K heard → CoreNames K core → BodiesNames K (heard_question me core tx body heard)
  heard_names me core tx body None t b h k = (t, offer_names me core body b k)
  heard_names me core tx body (Some heard) t b h k =
      (t, record { coord = k.id; part = h; old = k.succ; next = either_way LinkOf (nat_le (length (united core.members heard.frozen.members)) 9) (merged_link core heard.frozen) (record { group = core.id; members = core.members }) k.id k.id })

  pub question_names : (me : ℕ) (core : Core) (tx : Draw) (body : Body) (heard : Option Heard) → K tx → BodyNames K body → HeardNames K heard → CoreNames K core → BodiesNames K (question me core tx body heard)
  question_names me core tx At.Merge heard t b h k = heard_names me core tx At.Merge heard t b h k
  question_names me core tx (At.Repart at) heard t b h k = heard_names me core tx (At.Repart at) heard t b h k
  question_names me core tx (At.Migrate node) heard t b h k = heard_names me core tx (At.Migrate node) heard t b h k
  question_names me core tx (At.Split at child) heard t b h k =
      (t, record { coord = k.id; part = k.succ; old = k.id; next = either_way LinkOf (can_split core at) (right_link core child) (record { group = child; members = core.members }) b b })

  first_names : (lock : Lock) (me : ℕ) (core : Core) (mails : List Mail) → LockNames K lock → CoreNames K core → Sent mails → Sent (asked_first lock me core mails)
  first_names Free me core mails l k m = m
  first_names (Coordinating tx body order heard) me core mails l k m = sent_names me _ (question me core tx body heard) mails (question_names me core tx body heard l.0 l.1 l.2 k) m
  first_names (Promised tx offer) me core mails l k m = m
  first_names (Watching tx watch) me core mails l k m = m

  -- ---- what the parties say

  pub voted_to_names : (me : ℕ) (group : Group) (node : ℕ) (tx : Draw) (offer : Offer) (vote : Past) (mails : List Mail) → CoreNames K group.core → K tx → OfferNames K offer → PastNames K vote → Sent mails → Sent (voted_to me group node tx offer vote mails)
  voted_to_names me group node tx offer Cast.Yes mails k t o v m = sent_names me node (TxVote tx offer.coord offer.part (Says.Yes (frozen_of group))) mails (t, o.coord, o.part, k.succ) m
  voted_to_names me group node tx offer (Cast.No why) mails k t o v m = sent_names me node (TxVote tx offer.coord offer.part (Says.No why)) mails (t, o.coord, o.part, v) m
  voted_to_names me group node tx offer Cast.Ended mails k t o v m = m

  pub watched_to_names : (me node : ℕ) (tx : Draw) (watch : Watch) (vote : Past) (mails : List Mail) → K tx → WatchNames K watch → PastNames K vote → Sent mails → Sent (watched_to me node tx watch vote mails)
  watched_to_names me node tx watch Cast.Yes mails t w v m = sent_names me node (TxWatched tx watch.coord watch.part Cast.Yes) mails (t, w.coord, w.part, tt) m
  watched_to_names me node tx watch (Cast.No why) mails t w v m = sent_names me node (TxWatched tx watch.coord watch.part (Cast.No why)) mails (t, w.coord, w.part, v) m
  watched_to_names me node tx watch Cast.Ended mails t w v m = m

  pub outcome_names : (me node : ℕ) (tx part : Draw) (outcome : Outcome) (mails : List Mail) → K tx → K part → OutcomeNames K outcome → Sent mails → Sent (outcome_sent me node tx part outcome mails)
  outcome_names me node tx part outcome mails t p o m = sent_names me node (TxOutcome tx part outcome) mails (t, p, o) m

  -- ---- what is said of an executed entry

  -- of what a group was before an entry
  pub record BeforeNames (before : Before) : Type 0 where
    pub succ : K before.succ.group
    pub heard : Opt (λ (heard : ℕ × Link). K heard.1.group) before.heard

  heard_from_names : (heard : Option Heard) → HeardNames K heard → Opt (λ (h : ℕ × Link). K h.1.group) (heard_from heard)
  heard_from_names None h = tt
  heard_from_names (Some heard) h = h

  before_in_names : (lock : Lock) (core : Core) → LockNames K lock → CoreNames K core → BeforeNames (before_in lock core)
  before_in_names Free core l k = record { succ = k.succ; heard = tt }
  before_in_names (Coordinating tx body order heard) core l k = record { succ = k.succ; heard = heard_from_names heard l.2 }
  before_in_names (Promised tx offer) core l k = record { succ = k.succ; heard = tt }
  before_in_names (Watching tx watch) core l k = record { succ = k.succ; heard = tt }

  pub before_names : (core : Core) → CoreNames K core → BeforeNames (before_of core)
  before_names core k = before_in_names core.lock core k.lock k

  abbrev ResultOf : Option OrderResult → Type 0
  ResultOf o = Opt (ResultNames K) o

  refused_names : (effect : Effect) → EffectNames K effect → ResultOf (refused_result effect)
  refused_names (Was.Refused why) e = e
  refused_names _ e = tt

  split_names : (effect : Effect) → EffectNames K effect → ResultOf (result_of effect)
  split_names (Was.Refused why) e = e
  split_names _ e = tt

  outcome_result_names : (outcome : Outcome) → ResultNames K (outcome_result outcome)
  outcome_result_names Is.Abort = tt
  outcome_result_names _ = tt

  decided_result_names : (effect : Effect) → ResultOf (decided_result effect)
  decided_result_names (Was.Decided outcome) = outcome_result_names outcome
  decided_result_names _ = tt

  begun_names : (alone : Bool) (effect : Effect) (command : Command) → EffectNames K effect → ResultOf (begun_result alone effect command)
  begun_names alone effect (Split at child order) e = either_way ResultOf alone (result_of effect) (refused_result effect) (split_names effect e) (refused_names effect e)
  begun_names alone effect (Begin tx body order) e = refused_names effect e
  begun_names alone effect (RecordVote tx vote by) e = decided_result_names effect
  begun_names alone effect (GiveUp tx) e = decided_result_names effect
  begun_names alone effect (RecordWatch tx vote by) e = decided_result_names effect
  begun_names alone effect _ e = tt

  result_told : (me : ℕ) (result : Option OrderResult) (number : ℕ) (mails : List Mail) → ResultOf result → Sent mails → Sent (result_reported me result number mails)
  result_told me None number mails r m = m
  result_told me (Some result) number mails r m = reported_names me number result mails r m

  begun_reported_names : (me : ℕ) (before : Before) (effect : Effect) (command : Command) (mails : List Mail) → EffectNames K effect → Sent mails → Sent (begun_reported me before effect command mails)
  unfolding begun_reported
  begun_reported_names me before effect command mails e m = result_told me (begun_result before.alone effect command) (spoken_number before.order command) mails (begun_names before.alone effect command e) m

  decided_names : (effect : Effect) → EffectNames K effect → Opt (OutcomeNames K) (decided_in effect)
  decided_names (Was.Decided outcome) e = e
  decided_names _ e = tt

  cast_names : (effect : Effect) → EffectNames K effect → Opt (PastNames K) (cast_in effect)
  cast_names (Was.Voted vote) e = e
  cast_names _ e = tt

  asked_on_names : (effect : Effect) (me : ℕ) (core : Core) (mails : List Mail) → CoreNames K core → Sent mails → Sent (asked_on effect me core mails)
  asked_on_names Was.Changed me core mails k m = first_names core.lock me core mails k.lock k m
  asked_on_names _ me core mails k m = m

  begun_asks_names : (effect : Effect) (me : ℕ) (core : Core) (tx : Draw) (body : Body) (mails : List Mail) → K tx → BodyNames K body → CoreNames K core → Sent mails → Sent (begun_asks effect me core tx body mails)
  begun_asks_names Was.Changed me core tx body mails t b k m = sent_names me (least_of core.succ.members) (TxPrepare tx (offer_of me core body)) mails (t, offer_names me core body b k) m
  begun_asks_names _ me core tx body mails t b k m = m

  vote_sent_names : (vote : Option Past) (me : ℕ) (group : Group) (tx : Draw) (offer : Offer) (mails : List Mail) → Opt (PastNames K) vote → CoreNames K group.core → K tx → OfferNames K offer → Sent mails → Sent (vote_sent vote me group tx offer mails)
  vote_sent_names None me group tx offer mails v k t o m = m
  vote_sent_names (Some vote) me group tx offer mails v k t o m = voted_to_names me group offer.by tx offer vote mails k t o v m

  watch_sent_names : (vote : Option Past) (me : ℕ) (tx : Draw) (watch : Watch) (mails : List Mail) → Opt (PastNames K) vote → K tx → WatchNames K watch → Sent mails → Sent (watch_sent vote me tx watch mails)
  watch_sent_names None me tx watch mails v t w m = m
  watch_sent_names (Some vote) me tx watch mails v t w m = watched_to_names me watch.by tx watch vote mails t w v m

  aborted_names : (me : ℕ) (tx : Draw) (link : Link) (mails : List Mail) → K tx → K link.group → Sent mails → Sent (aborted_to me tx link mails)
  aborted_names me tx link mails t l m = sent_all_names me link.members (TxOutcome tx link.group Is.Abort) mails (t, l, tt) m

  aborted_watcher_names : (me : ℕ) (tx : Draw) (heard : Option (ℕ × Link)) (mails : List Mail) → K tx → Opt (λ (h : ℕ × Link). K h.1.group) heard → Sent mails → Sent (aborted_watcher me tx heard mails)
  aborted_watcher_names me tx None mails t h m = m
  aborted_watcher_names me tx (Some heard) mails t h m = aborted_names me tx heard.1 mails t h m

  given_up_names : (outcome : Option Outcome) (me : ℕ) (before : Before) (tx : Draw) (mails : List Mail) → BeforeNames before → K tx → Sent mails → Sent (given_up_by outcome me before tx mails)
  given_up_names None me before tx mails b t m = m
  given_up_names (Some outcome) me before tx mails b t m = aborted_watcher_names me tx before.heard (aborted_to me tx before.succ mails) t b.heard (aborted_names me tx before.succ mails t b.succ m)

  vote_answered_names : (outcome : Option Outcome) (vote : Vote) (me : ℕ) (before : Before) (tx : Draw) (by : ℕ) (mails : List Mail) → Opt (OutcomeNames K) outcome → BeforeNames before → K tx → Sent mails → Sent (vote_answered outcome vote me before tx by mails)
  vote_answered_names None vote me before tx by mails o b t m = m
  vote_answered_names (Some outcome) (Says.Yes frozen) me before tx by mails o b t m = outcome_names me by tx before.succ.group outcome mails t b.succ o m
  vote_answered_names (Some outcome) (Says.No why) me before tx by mails o b t m = m

  released_names : (heard : Option (ℕ × Link)) (me : ℕ) (succ : Link) (tx : Draw) (by : ℕ) (outcome : Outcome) (mails : List Mail) → Opt (λ (h : ℕ × Link). K h.1.group) heard → K succ.group → K tx → OutcomeNames K outcome → Sent mails → Sent (released_to heard me succ tx by outcome mails)
  released_names None me succ tx by outcome mails h s t o m = outcome_names me by tx succ.group outcome mails t s o m
  released_names (Some heard) me succ tx by outcome mails h s t o m = outcome_names me by tx heard.1.group outcome (outcome_sent me heard.0 tx succ.group outcome mails) t h o (outcome_names me heard.0 tx succ.group outcome mails t s o m)

  watch_answered_names : (outcome : Option Outcome) (vote : Past) (me : ℕ) (before : Before) (tx : Draw) (by : ℕ) (mails : List Mail) → Opt (OutcomeNames K) outcome → BeforeNames before → K tx → Sent mails → Sent (watch_answered_by outcome vote me before tx by mails)
  watch_answered_names None vote me before tx by mails o b t m = m
  watch_answered_names (Some outcome) Cast.Yes me before tx by mails o b t m = released_names before.heard me before.succ tx by outcome mails b.heard b.succ t o m
  watch_answered_names (Some outcome) (Cast.No why) me before tx by mails o b t m = either_way Sent before.merges (aborted_to me tx before.succ mails) mails (aborted_names me tx before.succ mails t b.succ m) m
  watch_answered_names (Some outcome) Cast.Ended me before tx by mails o b t m = m

  went_on_names : (me : ℕ) (group : Group) (before : Before) (effect : Effect) (command : Command) (mails : List Mail) → CoreNames K group.core → BeforeNames before → EffectNames K effect → CommandNames K command → Sent mails → Sent (went_on me group before effect command mails)
  unfolding went_on
  went_on_names me group before effect (Split at child order) mails k b e c m = asked_on_names effect me group.core mails k m
  went_on_names me group before effect (Begin tx body order) mails k b e c m = begun_asks_names effect me group.core tx body mails c.0 c.1 k m
  went_on_names me group before effect (Prepared tx offer) mails k b e c m = vote_sent_names (cast_in effect) me group tx offer mails (cast_names effect e) k c.0 c.1 m
  went_on_names me group before effect (RecordVote tx vote by) mails k b e c m = vote_answered_names (decided_in effect) vote me before tx by (asked_on effect me group.core mails) (decided_names effect e) b c.0 (asked_on_names effect me group.core mails k m)
  went_on_names me group before effect (GiveUp tx) mails k b e c m = given_up_names (decided_in effect) me before tx mails b c m
  went_on_names me group before effect (Watched tx watch) mails k b e c m = watch_sent_names (cast_in effect) me tx watch mails (cast_names effect e) c.0 c.1 m
  went_on_names me group before effect (RecordWatch tx vote by) mails k b e c m = watch_answered_names (decided_in effect) vote me before tx by mails (decided_names effect e) b c.0 m
  went_on_names me group before effect _ mails k b e c m = m

  -- all that is said of an executed entry
  pub spoken_names : (counted : Bool) (me : ℕ) (group : Group) (before : Before) (effect : Effect) (command : Command) (mails : List Mail) → CoreNames K group.core → BeforeNames before → EffectNames K effect → CommandNames K command → Sent mails → Sent (spoken_mails counted me group before effect command mails)
  unfolding spoken_mails
  spoken_names counted me group before effect command mails k b e c m =
      let recorded = begun_reported_names me before effect command mails e m in
      either_way Sent counted (went_on me group before effect command (begun_reported me before effect command mails)) (begun_reported me before effect command mails)
      (went_on_names me group before effect command (begun_reported me before effect command mails) k b e c recorded) recorded
