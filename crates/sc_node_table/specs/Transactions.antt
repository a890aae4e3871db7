-- What a replica does with TxPrepare, TxVote, TxOutcome, TxElsewhere, TxWatch and TxWatched, the mails between the parties of a transaction. Such a mail does not bind a group; the entry of its log that is queued for the mail does (Scatter, SOSP 2011, multi-group operations).
use Rattle.std.specs.Prelude.{ℕ, Bool, false, ◌&&◌, not, find, List, if◌then◌else◌, Option, Some, None}
use Rattle.std.specs.Option.{option_map}
use Rattle.sc_base.specs.Definitions.{same_draw, next_after}
use Rattle.sc_base.specs.declared.names.Draw.{Draw}
use Rattle.sc_words.specs.declared.commands.bodies.Offer.{Offer}
use Rattle.sc_words.specs.declared.commands.bodies.Watch.{Watch}
use Rattle.sc_words.specs.declared.commands.commands.Command.TheVariants.{Prepared, RecordVote, Finish, Watched, RecordWatch}
use Rattle.sc_words.specs.declared.commands.cores.Core.{Core}
use Rattle.sc_words.specs.declared.commands.cores.Lock.{Lock}
use Rattle.sc_words.specs.declared.commands.cores.Lock.TheVariants.{Free, Coordinating, Promised, Watching}
use Rattle.sc_words.specs.declared.commands.links.Route.{Route}
use Rattle.sc_words.specs.declared.commands.votes.No.TheVariants as Why
use Rattle.sc_words.specs.declared.commands.votes.Outcome.{Outcome}
use Rattle.sc_words.specs.declared.commands.votes.Past.{Past}
use Rattle.sc_words.specs.declared.commands.votes.Past.TheVariants as Cast
use Rattle.sc_words.specs.declared.commands.votes.Vote.{Vote}
use Rattle.sc_words.specs.declared.commands.votes.Vote.TheVariants as Says
use Rattle.sc_mail.specs.declared.bodies.Mail.{Mail}
use Rattle.sc_mail.specs.declared.bodies.MailBody.TheVariants.{TxVote, TxOutcome, TxElsewhere, TxWatched}
use Rattle.sc_group_table.specs.machine.MachineDefinitions.{Group, locked_in, frozen_of, is_locked_in, asks_watcher}
use Rattle.sc_node_table.specs.Replica.{Place, settled}
use Rattle.sc_node_table.specs.Mails.{sent}
use Rattle.sc_node_table.specs.Questions.{asked_link, asked_node}
use Rattle.sc_node_table.specs.Acts.{act_queued}

-- the vote that a group remembers in a transaction, if it has voted
abbrev pub noted_vote : Core → Draw → Option Past
noted_vote core tx = option_map (λ noted. noted.1) (find (λ noted. same_draw noted.0 tx) core.voted)

-- the outcome that a group has decided of a transaction, if it has
abbrev pub noted_outcome : Core → Draw → Option Outcome
noted_outcome core tx = option_map (λ noted. noted.1) (find (λ noted. same_draw noted.0 tx) core.decided)

-- the vote of a group that is gone, which is No
abbrev pub gone_vote : Option Route → Option Past
gone_vote None = None
gone_vote (Some into) = Some (Cast.No Why.Gone)

-- the vote that needs no entry any more, by the remembered vote: a No, a Yes under whose lock the group is, or Ended; and No of a group that is gone
abbrev pub standing_by : Option Past → Bool → Option Route → Option Past
standing_by None locked into = gone_vote into
standing_by (Some (Cast.No why)) locked into = Some (Cast.No why)
standing_by (Some Cast.Ended) locked into = Some Cast.Ended
standing_by (Some Cast.Yes) locked into = if locked then Some Cast.Yes else gone_vote into

-- the vote of a group in a transaction that needs no entry any more, if there is one
abbrev pub standing_vote : Core → Draw → Option Past
standing_vote core tx = standing_by (noted_vote core tx) (is_locked_in (locked_in core.lock) tx) core.gone

-- ---- the participant

-- a vote on an offer is sent, a Yes with the frozen record; of a transaction that has ended nothing is sent
abbrev pub voted_to : ℕ → Group → ℕ → Draw → Offer → Past → List Mail → List Mail
voted_to me group node tx offer Cast.Yes mails = sent me node (TxVote tx offer.coord offer.part (Says.Yes (frozen_of group))) mails
voted_to me group node tx offer (Cast.No why) mails = sent me node (TxVote tx offer.coord offer.part (Says.No why)) mails
voted_to me group node tx offer Cast.Ended mails = mails

-- a replica that does not run answers with the node that it takes for the leader
abbrev pub sent_elsewhere : ℕ → Draw → Draw → Place → Place
sent_elsewhere node tx coord (r, mails) = (r, sent r.me node (TxElsewhere tx coord r.hint) mails)

-- an offer is answered with the vote that needs no entry, if there is one; else the vote is queued, or the sender is referred to the leader
abbrev pub offered_by : Option Past → ℕ → Draw → Offer → Place → Place
offered_by (Some vote) from tx offer (r, mails) = (r, voted_to r.me r.group from tx offer vote mails)
offered_by None from tx offer (r, mails) = if r.running then act_queued (Prepared tx offer) (r, mails) else sent_elsewhere from tx offer.coord (r, mails)

-- what a replica does with a TxPrepare
unfoldable pub offer_row : ℕ → Draw → Offer → Place → Place
offer_row from tx offer (r, mails) = offered_by (standing_vote r.group.core tx) from tx offer (r, mails)

-- ---- the watcher

-- a vote on becoming a watcher is sent; of a transaction that has ended nothing is sent
abbrev pub watched_to : ℕ → ℕ → Draw → Watch → Past → List Mail → List Mail
watched_to me node tx watch Cast.Yes mails = sent me node (TxWatched tx watch.coord watch.part Cast.Yes) mails
watched_to me node tx watch (Cast.No why) mails = sent me node (TxWatched tx watch.coord watch.part (Cast.No why)) mails
watched_to me node tx watch Cast.Ended mails = mails

-- a question to a watcher is answered with the vote that needs no entry, if there is one; else the vote is queued, or the sender is referred to the leader
abbrev pub watched_by : Option Past → ℕ → Draw → Watch → Place → Place
watched_by (Some vote) from tx watch (r, mails) = (r, watched_to r.me from tx watch vote mails)
watched_by None from tx watch (r, mails) = if r.running then act_queued (Watched tx watch) (r, mails) else sent_elsewhere from tx watch.coord (r, mails)

-- what a replica does with a TxWatch
unfoldable pub watch_row : ℕ → Draw → Watch → Place → Place
watch_row from tx watch (r, mails) = watched_by (standing_vote r.group.core tx) from tx watch (r, mails)

-- ---- the coordinator

-- whether a group waits for its participant's vote in this transaction
abbrev pub awaits_vote : Lock → Draw → Bool
awaits_vote Free tx = false
awaits_vote (Coordinating locked body order heard) tx = same_draw locked tx && not (asks_watcher body heard)
awaits_vote (Promised locked offer) tx = false
awaits_vote (Watching locked watch) tx = false

-- whether a group waits for its watcher's vote in this transaction
abbrev pub awaits_watch : Lock → Draw → Bool
awaits_watch Free tx = false
awaits_watch (Coordinating locked body order heard) tx = same_draw locked tx && asks_watcher body heard
awaits_watch (Promised locked offer) tx = false
awaits_watch (Watching locked watch) tx = false

-- an outcome is sent to a node of a party
abbrev pub outcome_sent : ℕ → ℕ → Draw → Draw → Outcome → List Mail → List Mail
outcome_sent me node tx part outcome mails = sent me node (TxOutcome tx part outcome) mails

-- a participant's vote is queued to be recorded, where the replica runs and its group waits for it
abbrev pub vote_queued : ℕ → Draw → Vote → Place → Place
vote_queued from tx vote (r, mails) = if r.running && awaits_vote r.group.core.lock tx then act_queued (RecordVote tx vote from) (r, mails) else (r, mails)

-- a participant's Yes is answered with the outcome, if it is decided; any other vote is queued to be recorded
abbrev pub vote_met : Vote → Option Outcome → ℕ → Draw → Draw → Place → Place
vote_met (Says.Yes frozen) (Some outcome) from tx part (r, mails) = (r, outcome_sent r.me from tx part outcome mails)
vote_met (Says.Yes frozen) None from tx part place = vote_queued from tx (Says.Yes frozen) place
vote_met (Says.No why) outcome from tx part place = vote_queued from tx (Says.No why) place

-- what a replica does with a TxVote
unfoldable pub vote_row : ℕ → Draw → Draw → Vote → Place → Place
vote_row from tx part vote (r, mails) = vote_met vote (noted_outcome r.group.core tx) from tx part (r, mails)

-- a watcher's vote is queued to be recorded, where the replica runs and its group waits for it
abbrev pub watch_queued : ℕ → Draw → Past → Place → Place
watch_queued from tx vote (r, mails) = if r.running && awaits_watch r.group.core.lock tx then act_queued (RecordWatch tx vote from) (r, mails) else (r, mails)

-- a watcher's Yes is answered with the outcome, if it is decided; any other vote is queued to be recorded
abbrev pub watch_met : Past → Option Outcome → ℕ → Draw → Draw → Place → Place
watch_met Cast.Yes (Some outcome) from tx part (r, mails) = (r, outcome_sent r.me from tx part outcome mails)
watch_met Cast.Yes None from tx part place = watch_queued from tx Cast.Yes place
watch_met (Cast.No why) outcome from tx part place = watch_queued from tx (Cast.No why) place
watch_met Cast.Ended outcome from tx part place = watch_queued from tx Cast.Ended place

-- what a replica does with a TxWatched
unfoldable pub watched_row : ℕ → Draw → Draw → Past → Place → Place
watched_row from tx part vote (r, mails) = watch_met vote (noted_outcome r.group.core tx) from tx part (r, mails)

-- the node that is asked next: the one that was named, or else the member after the sender
abbrev pub next_asked : Option ℕ → List ℕ → ℕ → ℕ
next_asked (Some node) members from = node
next_asked None members from = next_after members from

-- the coordinator of this transaction asks its question again, at the next node
abbrev pub asked_next : Lock → ℕ → Core → ℕ → Draw → Option ℕ → List Mail → List Mail
asked_next Free me core from tx hint mails = mails
asked_next (Promised locked offer) me core from tx hint mails = mails
asked_next (Watching locked watch) me core from tx hint mails = mails
asked_next (Coordinating locked body order heard) me core from tx hint mails =
    if same_draw locked tx then asked_node me core tx body heard (next_asked hint (asked_link core body heard).members from) mails else mails

-- what a replica does with a TxElsewhere
unfoldable pub elsewhere_row : ℕ → Draw → Option ℕ → Place → Place
elsewhere_row from tx hint (r, mails) = if settled r then (r, asked_next r.group.core.lock r.me r.group.core from tx hint mails) else (r, mails)

-- ---- the end

-- whether a group is bound by its own Yes in this transaction
abbrev pub is_bound : Lock → Draw → Bool
is_bound Free tx = false
is_bound (Coordinating locked body order heard) tx = false
is_bound (Promised locked offer) tx = same_draw locked tx
is_bound (Watching locked watch) tx = same_draw locked tx

-- what a replica does with a TxOutcome: where it runs and its group is bound, the outcome is queued for the log
unfoldable pub outcome_row : Draw → Outcome → Place → Place
outcome_row tx outcome (r, mails) = if r.running && is_bound r.group.core.lock tx then act_queued (Finish tx outcome) (r, mails) else (r, mails)
