-- What holds of a replica with its mails is kept by each mail of a transaction, where it is kept by the commands that such mail queues and by what is sent to the parties.
use Rattle.std.proofs.Common.{ℕ, ◌&&◌, List, Bool, cond, Option, Some, None}
use Rattle.sc_node_table.specs.Values.{Draw, Offer, Watch, Command, Prepared, RecordVote, Finish, Watched, RecordWatch, Outcome, Past, Vote, Mail, TxElsewhere}
use Rattle.sc_words.specs.declared.commands.votes.Past.TheVariants as Cast
use Rattle.sc_words.specs.declared.commands.votes.Vote.TheVariants as Vows
use Rattle.sc_node_table.specs.NodeDefinitions.{act_queued, sent, ReplicaState, Place, settled, voted_to, watched_to, outcome_sent, asked_next, noted_outcome, standing_vote, sent_elsewhere, offered_by, offer_row, watched_by, watch_row, awaits_vote, awaits_watch, vote_met, vote_row, watch_met, watched_row, elsewhere_row, is_bound, outcome_row}
use Rattle.sc_law_walks.proofs.Ways.{either_way}

-- Which commands may be queued; and that it is kept by one that is, by a vote and an outcome that are sent, by the question to the next member, and by who is sent on to another node.
pub record TransactionParts (F : Place → Type 0) : Type 1 where
  pub Files : Command → Type 0
  pub queues : (act : Command) (place : Place) → Files act → F place → F (act_queued act place)
  pub votes : (to : ℕ) (tx : Draw) (offer : Offer) (vote : Past) (r : ReplicaState) (mails : List Mail) → Files (Prepared tx offer) → F (r, mails) → F (r, voted_to r.me r.group to tx offer vote mails)
  pub sees : (to : ℕ) (tx : Draw) (watch : Watch) (vote : Past) (r : ReplicaState) (mails : List Mail) → F (r, mails) → F (r, watched_to r.me to tx watch vote mails)
  pub ends : (to : ℕ) (tx part : Draw) (outcome : Outcome) (r : ReplicaState) (mails : List Mail) → F (r, mails) → F (r, outcome_sent r.me to tx part outcome mails)
  pub sends_on : (to : ℕ) (tx coord : Draw) (r : ReplicaState) (mails : List Mail) → F (r, mails) → F (r, sent r.me to (TxElsewhere tx coord r.hint) mails)
  pub asks_next : (from : ℕ) (tx : Draw) (hint : Option ℕ) (r : ReplicaState) (mails : List Mail) → F (r, mails) → F (r, asked_next r.group.core.lock r.me r.group.core from tx hint mails)

module _ (F : Place → Type 0) (p : TransactionParts F) where
  elsewhere_sent : (to : ℕ) (tx coord : Draw) (place : Place) → F place → F (sent_elsewhere to tx coord place)
  elsewhere_sent to tx coord (r, mails) f = p.sends_on to tx coord r mails f

  offer_met : (o : Option Past) (from : ℕ) (tx : Draw) (offer : Offer) (place : Place) → p.Files (Prepared tx offer) → F place → F (offered_by o from tx offer place)
  offer_met (Some vote) from tx offer (r, mails) q f = p.votes from tx offer vote r mails q f
  offer_met None from tx offer (r, mails) q f =
      either_way F r.running (act_queued (Prepared tx offer) (r, mails)) (sent_elsewhere from tx offer.coord (r, mails)) (p.queues (Prepared tx offer) (r, mails) q f) (elsewhere_sent from tx offer.coord (r, mails) f)

  pub offer_keeps : (from : ℕ) (tx : Draw) (offer : Offer) (place : Place) → p.Files (Prepared tx offer) → F place → F (offer_row from tx offer place)
  unfolding offer_row
  offer_keeps from tx offer (r, mails) q f = offer_met (standing_vote r.group.core tx) from tx offer (r, mails) q f

  watch_seen : (o : Option Past) (from : ℕ) (tx : Draw) (watch : Watch) (place : Place) → p.Files (Watched tx watch) → F place → F (watched_by o from tx watch place)
  watch_seen (Some vote) from tx watch (r, mails) q f = p.sees from tx watch vote r mails f
  watch_seen None from tx watch (r, mails) q f =
      either_way F r.running (act_queued (Watched tx watch) (r, mails)) (sent_elsewhere from tx watch.coord (r, mails)) (p.queues (Watched tx watch) (r, mails) q f) (elsewhere_sent from tx watch.coord (r, mails) f)

  pub watch_keeps : (from : ℕ) (tx : Draw) (watch : Watch) (place : Place) → p.Files (Watched tx watch) → F place → F (watch_row from tx watch place)
  unfolding watch_row
  watch_keeps from tx watch (r, mails) q f = watch_seen (standing_vote r.group.core tx) from tx watch (r, mails) q f

  -- a command is queued by one that runs and waits for it
  wanted_queued : (act : Command) (wanted : Bool) (r : ReplicaState) (mails : List Mail) → p.Files act → F (r, mails) → F (cond (r.running && wanted) (act_queued act (r, mails)) (r, mails))
  wanted_queued act wanted r mails q f = either_way F (r.running && wanted) (act_queued act (r, mails)) (r, mails) (p.queues act (r, mails) q f) f

  vote_heard : (vote : Vote) (o : Option Outcome) (from : ℕ) (tx part : Draw) (place : Place) → p.Files (RecordVote tx vote from) → F place → F (vote_met vote o from tx part place)
  vote_heard (Vows.Yes frozen) (Some outcome) from tx part (r, mails) q f = p.ends from tx part outcome r mails f
  vote_heard (Vows.Yes frozen) None from tx part (r, mails) q f = wanted_queued (RecordVote tx (Vows.Yes frozen) from) (awaits_vote r.group.core.lock tx) r mails q f
  vote_heard (Vows.No why) outcome from tx part (r, mails) q f = wanted_queued (RecordVote tx (Vows.No why) from) (awaits_vote r.group.core.lock tx) r mails q f

  pub vote_keeps : (from : ℕ) (tx part : Draw) (vote : Vote) (place : Place) → p.Files (RecordVote tx vote from) → F place → F (vote_row from tx part vote place)
  unfolding vote_row
  vote_keeps from tx part vote (r, mails) q f = vote_heard vote (noted_outcome r.group.core tx) from tx part (r, mails) q f

  watched_heard : (vote : Past) (o : Option Outcome) (from : ℕ) (tx part : Draw) (place : Place) → p.Files (RecordWatch tx vote from) → F place → F (watch_met vote o from tx part place)
  watched_heard Cast.Yes (Some outcome) from tx part (r, mails) q f = p.ends from tx part outcome r mails f
  watched_heard Cast.Yes None from tx part (r, mails) q f = wanted_queued (RecordWatch tx Cast.Yes from) (awaits_watch r.group.core.lock tx) r mails q f
  watched_heard (Cast.No why) outcome from tx part (r, mails) q f = wanted_queued (RecordWatch tx (Cast.No why) from) (awaits_watch r.group.core.lock tx) r mails q f
  watched_heard Cast.Ended outcome from tx part (r, mails) q f = wanted_queued (RecordWatch tx Cast.Ended from) (awaits_watch r.group.core.lock tx) r mails q f

  pub watched_keeps : (from : ℕ) (tx part : Draw) (vote : Past) (place : Place) → p.Files (RecordWatch tx vote from) → F place → F (watched_row from tx part vote place)
  unfolding watched_row
  watched_keeps from tx part vote (r, mails) q f = watched_heard vote (noted_outcome r.group.core tx) from tx part (r, mails) q f

  pub elsewhere_keeps : (from : ℕ) (tx : Draw) (hint : Option ℕ) (place : Place) → F place → F (elsewhere_row from tx hint place)
  unfolding elsewhere_row
  elsewhere_keeps from tx hint (r, mails) f = either_way F (settled r) (r, asked_next r.group.core.lock r.me r.group.core from tx hint mails) (r, mails) (p.asks_next from tx hint r mails f) f

  pub outcome_keeps : (tx : Draw) (outcome : Outcome) (place : Place) → p.Files (Finish tx outcome) → F place → F (outcome_row tx outcome place)
  unfolding outcome_row
  outcome_keeps tx outcome (r, mails) q f = wanted_queued (Finish tx outcome) (is_bound r.group.core.lock tx) r mails q f
