-- Small runs of the rows of transactions, computed: what is sent, and what is queued. Groups 0.1 and 0.2 make the ring, nodes 1 and 2 are their members, and 0.1 orders a merge.
use Rattle.std.proofs.Common.{◌≡◌, ℕ, ◌^◌, ◌-◌, true, false, List, [], ◌∷◌, Some, None, refl}
use Rattle.sc_base.specs.declared.names.Draw.{Draw}
use Rattle.sc_base.specs.Definitions.{Drawer}
use Rattle.sc_words.specs.declared.commands.bodies.Body.TheVariants.{Merge, Split as Divide}
use Rattle.sc_words.specs.declared.commands.bodies.Offer.{Offer}
use Rattle.sc_words.specs.declared.commands.bodies.Watch.{Watch}
use Rattle.sc_words.specs.declared.commands.commands.Command.TheVariants.{Split, Begin, Prepared, RecordVote, GiveUp, Finish, RecordWatch}
use Rattle.sc_words.specs.declared.commands.cores.Base.{Base}
use Rattle.sc_words.specs.declared.commands.cores.Core.{Core}
use Rattle.sc_words.specs.declared.commands.cores.Lock.{Lock}
use Rattle.sc_words.specs.declared.commands.cores.Lock.TheVariants.{Free, Coordinating, Promised, Watching}
use Rattle.sc_words.specs.declared.commands.effects.Effect.TheVariants.{Changed, Decided}
use Rattle.sc_words.specs.declared.commands.links.Link.{Link}
use Rattle.sc_words.specs.declared.commands.links.Route.{Route}
use Rattle.sc_words.specs.declared.commands.orders.Order.{Order}
use Rattle.sc_words.specs.declared.commands.orders.Order.TheVariants as An
use Rattle.sc_words.specs.declared.commands.orders.OrderLine.{OrderLine}
use Rattle.sc_words.specs.declared.commands.orders.OrderRefusal.TheVariants.{NotLeader, LastMember}
use Rattle.sc_words.specs.declared.commands.orders.OrderResult.TheVariants.{Committed, Aborted, Refused}
use Rattle.sc_words.specs.declared.commands.votes.Frozen.{Frozen}
use Rattle.sc_words.specs.declared.commands.votes.Heard.{Heard}
use Rattle.sc_words.specs.declared.commands.votes.No.TheVariants as Why
use Rattle.sc_words.specs.declared.commands.votes.Outcome.{Outcome}
use Rattle.sc_words.specs.declared.commands.votes.Outcome.TheVariants.{Abort, Merged}
use Rattle.sc_words.specs.declared.commands.votes.Past.{Past}
use Rattle.sc_words.specs.declared.commands.votes.Past.TheVariants as Cast
use Rattle.sc_words.specs.declared.commands.votes.Vote.TheVariants as Says
use Rattle.sc_mail.specs.declared.bodies.MailBody.TheVariants.{Accept, TxPrepare, TxVote, TxOutcome, TxElsewhere, TxWatch, TxWatched, Told}
use Rattle.sc_group_table.specs.machine.MachineDefinitions.{group_of, frozen_of}
use Rattle.sc_node_table.specs.NodeDefinitions.{Place, born_replica, sent_all, answered, order_reported, next_queued, from_backlog, from_queues, found_for, offered, pumped_from, pumped, act_queued, offer_row, vote_row, watched_row, elsewhere_row, outcome_row, reminded, ordered_row, names_after, before_of, begun_reported, went_on, spoken_mails, spoken}
use Rattle.sc_node_table.proofs.Runs.{g, b, mail}

-- the participant's name, and the transaction's
abbrev pub h : Draw
h = record { node = 0; count = 2 }

abbrev pub tx : Draw
tx = record { node = 1; count = 1 }

abbrev pub link : Draw → List ℕ → Link
link group members = record { group = group; members = members }

-- the coordinator with these members, in this lock, with these decisions
abbrev pub left_core : List ℕ → Lock → List (Draw × Outcome) → Core
left_core members lock decided = record {
  id = g;
  first = 1;
  arc = record { lo = 0; len = 2147483648 };
  members = members;
  succ = link h (2 ∷ []);
  pred = link h (2 ∷ []);
  lock = lock;
  begun = 0;
  decided = decided;
  voted = [];
  born = [];
  gone = None;
}

-- the participant, with these votes
abbrev pub right_core : Lock → List (Draw × Past) → Core
right_core lock voted = record {
  id = h;
  first = 2;
  arc = record { lo = 2147483648; len = 2147483648 };
  members = 2 ∷ [];
  succ = link g (1 ∷ []);
  pred = link g (1 ∷ []);
  lock = lock;
  begun = 0;
  decided = [];
  voted = voted;
  born = [];
  gone = None;
}

abbrev pub bare : Core → Base
bare core = record { core = core; pairs = []; clients = [] }

-- a place at a node's birth, in the state with this record
abbrev pub at : ℕ → Core → Place
at me core = (born_replica 4 me (bare core), [])

abbrev pub offer : Offer
offer = record { coord = g; part = h; arc = record { lo = 0; len = 2147483648 }; members = 1 ∷ []; body = Merge; by = 1 }

abbrev pub frozen : Frozen
frozen = record { arc = record { lo = 2147483648; len = 2147483648 }; members = 2 ∷ []; succ = link g (1 ∷ []); pairs = []; clients = [] }

abbrev pub into : Route
into = record { group = g; lo = 0; members = 1 ∷ 2 ∷ [] }

-- the participant's group as it is handed over once it is locked
abbrev pub handed : Frozen
handed = frozen_of (group_of (bare (right_core (Promised tx offer) ((tx, Cast.Yes) ∷ []))))

-- the coordinator of a merge
abbrev pub merging : Lock
merging = Coordinating tx Merge 1 None

-- ---- the participant

-- an offer goes into the log, and a second one of that transaction does not
offered_once : (offer_row 1 tx offer (offer_row 1 tx offer (at 2 (right_core Free [])))).1 ≡ mail 2 2 (Accept h (b 1 2) 1 (Prepared tx offer)) ∷ []
unfolding offer_row act_queued pumped pumped_from found_for from_queues from_backlog next_queued offered sent_all answered
offered_once = refl

-- one that does not lead names the leader
passed : (offer_row 1 tx offer (at 3 (right_core Free []))).1 ≡ mail 3 1 (TxElsewhere tx g (Some 2)) ∷ []
unfolding offer_row act_queued pumped pumped_from found_for from_queues from_backlog next_queued offered sent_all answered
passed = refl

-- a No that was noted is said again, by any replica; so is a Yes under whose lock the group is; of what has ended nothing is said
said_no : (offer_row 1 tx offer (at 3 (right_core Free ((tx, Cast.No Why.Apart) ∷ [])))).1 ≡ mail 3 1 (TxVote tx g h (Says.No Why.Apart)) ∷ []
unfolding offer_row
said_no = refl

said_yes : (offer_row 1 tx offer (at 3 (right_core (Promised tx offer) ((tx, Cast.Yes) ∷ [])))).1 ≡ mail 3 1 (TxVote tx g h (Says.Yes handed)) ∷ []
unfolding offer_row
said_yes = refl

said_nothing : (offer_row 1 tx offer (at 2 (right_core Free ((tx, Cast.Ended) ∷ [])))).1 ≡ []
unfolding offer_row
said_nothing = refl

-- a group that is gone votes No without an entry
said_gone : (offer_row 1 tx offer (at 2 (record (right_core Free []) { gone = Some into }))).1 ≡ mail 2 1 (TxVote tx g h (Says.No Why.Gone)) ∷ []
unfolding offer_row
said_gone = refl

-- the outcome goes into the log of a group that is bound, once; into no other
finishes : (outcome_row tx Abort (outcome_row tx (Merged into) (at 2 (right_core (Promised tx offer) ((tx, Cast.Yes) ∷ []))))).1 ≡ mail 2 2 (Accept h (b 1 2) 1 (Finish tx (Merged into))) ∷ []
unfolding outcome_row act_queued pumped pumped_from found_for from_queues from_backlog next_queued offered sent_all answered
finishes = refl

free_stays : (outcome_row tx Abort (at 2 (right_core Free []))).1 ≡ []
unfolding outcome_row
free_stays = refl

-- ---- the coordinator

-- its question when it has begun, and when a node did not lead
begins : (spoken true (before_of (left_core (1 ∷ []) Free [])) Changed (Begin tx Merge 1) (at 1 (left_core (1 ∷ []) merging []))).1 ≡ mail 1 2 (TxPrepare tx offer) ∷ []
unfolding spoken spoken_mails begun_reported went_on order_reported sent_all
begins = refl

-- a Begin of a split, which is in no lawful journal, sends an offer too
begins_split : (spoken true (before_of (left_core (1 ∷ []) Free [])) Changed (Begin tx (Divide 7 tx) 1) (at 1 (left_core (1 ∷ []) (Coordinating tx (Divide 7 tx) 1 None) []))).1 ≡ mail 1 2 (TxPrepare tx (record offer { body = Divide 7 tx })) ∷ []
unfolding spoken spoken_mails begun_reported went_on order_reported sent_all
begins_split = refl

asks_again : (elsewhere_row 2 tx (Some 5) (elsewhere_row 2 tx None (at 1 (left_core (1 ∷ []) merging [])))).1 ≡ mail 1 2 (TxPrepare tx offer) ∷ mail 1 5 (TxPrepare tx offer) ∷ []
unfolding elsewhere_row
asks_again = refl

-- a vote goes into the log, once; a watcher's vote does not while the participant is asked
votes : (watched_row 2 tx h Cast.Yes (vote_row 2 tx h (Says.Yes frozen) (vote_row 2 tx h (Says.Yes frozen) (at 1 (left_core (1 ∷ []) merging []))))).1
    ≡ mail 1 1 (Accept g (b 1 1) 1 (RecordVote tx (Says.Yes frozen) 2)) ∷ []
unfolding vote_row watched_row act_queued pumped pumped_from found_for from_queues from_backlog next_queued offered sent_all answered
votes = refl

-- a Yes that comes after the decision is answered with it; a No is not
too_late : (vote_row 2 tx h (Says.No Why.Apart) (vote_row 2 tx h (Says.Yes frozen) (at 3 (left_core (1 ∷ []) Free ((tx, Abort) ∷ []))))).1 ≡ mail 3 2 (TxOutcome tx h Abort) ∷ []
unfolding vote_row act_queued
too_late = refl

-- what a Yes decides is reported to the desk by each replica, and sent to the node that sent the Yes
decides : (spoken true (before_of (left_core (1 ∷ []) merging [])) (Decided (Merged into)) (RecordVote tx (Says.Yes frozen) 2) (at 1 (left_core (1 ∷ 2 ∷ []) Free []))).1
    ≡ mail 1 0 (Told 1 Committed) ∷ mail 1 2 (TxOutcome tx h (Merged into)) ∷ []
unfolding spoken spoken_mails begun_reported went_on order_reported sent_all
decides = refl

learns : (spoken false (before_of (left_core (1 ∷ []) merging [])) (Decided Abort) (GiveUp tx) (at 3 (left_core (1 ∷ []) Free []))).1 ≡ mail 3 0 (Told 1 Aborted) ∷ []
unfolding spoken spoken_mails begun_reported went_on order_reported sent_all
learns = refl

-- one that gives up tells the participant, and the watcher where one was asked: here group 0.3 of node 3
abbrev pub w : Draw
w = record { node = 0; count = 3 }

abbrev pub heard : Heard
heard = record { frozen = record frozen { succ = link w (3 ∷ []) }; by = 2 }

gives_up : (spoken true (before_of (left_core (1 ∷ []) (Coordinating tx Merge 1 (Some heard)) [])) (Decided Abort) (GiveUp tx) (at 1 (left_core (1 ∷ []) Free []))).1
    ≡ mail 1 0 (Told 1 Aborted) ∷ mail 1 2 (TxOutcome tx h Abort) ∷ mail 1 3 (TxOutcome tx w Abort) ∷ []
unfolding spoken spoken_mails begun_reported went_on order_reported sent_all
gives_up = refl

-- after a participant with another successor the watcher is asked to take the group with the members of both for its predecessor
abbrev pub watch : Watch
watch = record { coord = g; members = 1 ∷ []; part = w; old = h; next = link g (1 ∷ 2 ∷ []); by = 1 }

hears : (spoken true (before_of (left_core (1 ∷ []) merging [])) Changed (RecordVote tx (Says.Yes heard.frozen) 2) (at 1 (left_core (1 ∷ []) (Coordinating tx Merge 1 (Some heard)) []))).1
    ≡ mail 1 3 (TxWatch tx watch) ∷ []
unfolding spoken spoken_mails begun_reported went_on order_reported sent_all
hears = refl

-- what a watcher's Yes decides is sent to the participant, and then to the watcher
releases : (spoken true (before_of (left_core (1 ∷ []) (Coordinating tx Merge 1 (Some heard)) [])) (Decided (Merged into)) (RecordWatch tx Cast.Yes 3) (at 1 (left_core (1 ∷ 2 ∷ []) Free []))).1
    ≡ mail 1 0 (Told 1 Committed) ∷ mail 1 2 (TxOutcome tx h (Merged into)) ∷ mail 1 3 (TxOutcome tx w (Merged into)) ∷ []
unfolding spoken spoken_mails begun_reported went_on order_reported sent_all
releases = refl

-- a split that only locks asks the successor, which stands behind the child then, and tells nothing; the child has the greater half
splits : (spoken true (before_of (left_core (1 ∷ 4 ∷ 5 ∷ []) Free [])) Changed (Split 7 tx 2) (at 1 (left_core (1 ∷ 4 ∷ 5 ∷ []) (Coordinating tx (Divide 7 tx) 2 None) []))).1
    ≡ mail 1 2 (TxWatch tx (record { coord = g; members = 1 ∷ 4 ∷ 5 ∷ []; part = h; old = g; next = link tx (5 ∷ []); by = 1 })) ∷ []
unfolding spoken spoken_mails begun_reported went_on order_reported sent_all
splits = refl

-- ---- ticks and orders

-- the seventh tick asks again, and the eighth gives up too
ticked : ℕ → Place
ticked waits = reminded (record (born_replica 4 1 (bare (left_core (1 ∷ []) merging []))) { waits = waits }, [])

seventh : (ticked 6).1 ≡ mail 1 2 (TxPrepare tx offer) ∷ []
unfolding ticked reminded sent_all
seventh = refl

seventh_waits : (ticked 6).0.acts ≡ []
unfolding ticked reminded sent_all
seventh_waits = refl

eighth : (ticked 7).0.acts ≡ GiveUp tx ∷ []
unfolding ticked reminded sent_all
eighth = refl

-- a participant and a watcher say their Yes again to the coordinator's members
reminds : (reminded (at 2 (right_core (Promised tx offer) ((tx, Cast.Yes) ∷ [])))).1 ≡ mail 2 1 (TxVote tx g h (Says.Yes handed)) ∷ []
unfolding reminded sent_all
reminds = refl

watches : (reminded (at 2 (right_core (Watching tx watch) ((tx, Cast.Yes) ∷ [])))).1 ≡ mail 2 1 (TxWatched tx g w Cast.Yes) ∷ []
unfolding reminded sent_all
watches = refl

-- an order of a merge takes the node's next name and is begun; with no name left it is refused, and no name is drawn
abbrev pub line : Order → OrderLine
line order = record { number = 1; order = order }

abbrev pub drawer : ℕ → Drawer
drawer next = record { node = 1; next = next }

ordered : (ordered_row (drawer 1) (line (An.Merge g)) (at 1 (left_core (1 ∷ []) Free []))).1 ≡ mail 1 1 (Accept g (b 1 1) 1 (Begin tx Merge 1)) ∷ []
unfolding ordered_row pumped pumped_from found_for from_queues from_backlog next_queued offered sent_all answered
ordered = refl

drawn : names_after (drawer 1) (line (An.Merge g)) (at 1 (left_core (1 ∷ []) Free [])).0 ≡ drawer 2
drawn = refl

spent : (ordered_row (drawer (2 ^ 32 - 1)) (line (An.Merge g)) (at 1 (left_core (1 ∷ []) Free []))).1 ≡ mail 1 0 (Told 1 (Refused (NotLeader (Some 1)))) ∷ []
unfolding ordered_row pumped pumped_from found_for from_queues from_backlog next_queued offered sent_all answered
spent = refl

kept : names_after (drawer (2 ^ 32 - 1)) (line (An.Merge g)) (at 1 (left_core (1 ∷ []) Free [])).0 ≡ drawer (2 ^ 32 - 1)
kept = refl

-- a refused order draws no name: a group of one member is not split
refused : (ordered_row (drawer 1) (line (An.Split g 5)) (at 1 (left_core (1 ∷ []) Free []))).1 ≡ mail 1 0 (Told 1 (Refused LastMember)) ∷ []
unfolding ordered_row pumped pumped_from found_for from_queues from_backlog next_queued offered sent_all answered
refused = refl

undrawn : names_after (drawer 1) (line (An.Split g 5)) (at 1 (left_core (1 ∷ []) Free [])).0 ≡ drawer 1
undrawn = refl
