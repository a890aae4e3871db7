-- Small runs of a replica, computed: what it sends from birth on.
use Rattle.std.proofs.Common.{◌≡◌, ℕ, ◌^◌, false, List, [], ◌∷◌, map, replicate, Some, None, refl}
use Rattle.sc_base.specs.declared.names.Draw.{Draw}
use Rattle.sc_base.specs.Definitions.{Drawer}
use Rattle.sc_base.specs.declared.names.Ballot.{Ballot}
use Rattle.sc_base.specs.declared.ops.Op.TheVariants.{Get, Put}
use Rattle.sc_words.specs.declared.commands.commands.Command.TheVariants.{Noop, Call}
use Rattle.sc_words.specs.declared.commands.cores.Base.{Base}
use Rattle.sc_words.specs.declared.commands.cores.Core.{Core}
use Rattle.sc_words.specs.declared.commands.cores.Lock.TheVariants.{Free}
use Rattle.sc_mail.specs.declared.bodies.AnswerBody.TheVariants as Says
use Rattle.sc_mail.specs.declared.bodies.MailBody.{MailBody}
use Rattle.sc_mail.specs.declared.bodies.MailBody.TheVariants.{Request, Answer, Prepare, Promise, Accept, Accepted, Nack, Learn, Ask}
use Rattle.sc_mail.specs.declared.bodies.Mail.{Mail}
use Rattle.sc_node_table.specs.declared.ReplicaInput.{ReplicaInput}
use Rattle.sc_node_table.specs.declared.ReplicaInput.TheVariants.{Got, Tick}
use Rattle.sc_node_table.specs.NodeDefinitions.{numbers_from, ReplicaState, Place, born_replica, forgotten, sent_all, sent_others, answered, answered_all, order_reported, dismissed, dismissed_all, install_to, welcomed_all, put_back, nodes_to, elected, ended, saw, next_queued, from_backlog, from_queues, found_for, offered, pumped_from, pumped, entered, announced, answered_or_put_back, effect_reported, learnt_to, welcomed, landed, left, looked, executed_one, executed_ready, executed, promised, prepare_row, took, accept_row, promise_row, readied, accepted_row, nack_row, spoken, spoken_mails, begun_reported, went_on, reminded, wishing, ordered_row, act_queued, offer_row, watch_row, vote_row, watched_row, elsewhere_row, outcome_row, queued, requested, request_row, learn_row, taught, ask_row, asked_again, last_entry_sent, tick_row, mailed, stepped}
use Rattle.sc_words.specs.paxos.PaxosDefinitions.{first_leader}

-- the name of the group in these runs
abbrev pub g : Draw
g = record { node = 0; count = 1 }

-- a ballot of a round and a node
abbrev pub b : ℕ → ℕ → Ballot
b round node = record { round = round; node = node }

-- a mail from one actor to another
abbrev pub mail : ℕ → ℕ → MailBody → Mail
mail from to body = record { from = from; to = to; body = body }

-- a group that holds the whole ring, with its least member first
abbrev pub core : List ℕ → Core
core members = record {
  id = g;
  first = 1;
  arc = record { lo = 0; len = 2 ^ 32 };
  members = members;
  succ = record { group = g; members = members };
  pred = record { group = g; members = members };
  lock = Free;
  begun = 0;
  decided = [];
  voted = [];
  born = [];
  gone = None;
}

-- its record at birth, without pairs and clients
abbrev pub base : List ℕ → Base
base members = record { core = core members; pairs = []; clients = [] }

-- one that holds one position
abbrev narrow : List ℕ → Base
narrow members = record (base members) { core = record (core members) { arc = record { lo = 0; len = 1 } } }

-- the names that the node draws in these runs
abbrev pub names : Drawer
names = record { node = 1; next = 1 }

-- the place after these inputs
abbrev pub run : Place → List ReplicaInput → Place
run place [] = place
run place (input ∷ inputs) = run (stepped false names input place).0 inputs

-- a leader has four requests in flight at once, and the fifth waits
fifth_waits :
    (run (born_replica 4 1 (base (1 ∷ [])), []) (
    Got (mail 33 1 (Request g 1 1 (Put (97 ∷ []) (120 ∷ []))))
    ∷ Got (mail 34 1 (Request g 2 1 (Put (98 ∷ []) (120 ∷ []))))
    ∷ Got (mail 35 1 (Request g 3 1 (Put (99 ∷ []) (120 ∷ []))))
    ∷ Got (mail 36 1 (Request g 4 1 (Put (100 ∷ []) (120 ∷ []))))
    ∷ Got (mail 37 1 (Request g 5 1 (Get (97 ∷ []))))
    ∷ Got (mail 1 1 (Accept g (b 1 1) 1 (Call 1 1 (Put (97 ∷ []) (120 ∷ []))))) ∷ [])).1
    ≡ mail 1 1 (Accept g (b 1 1) 1 (Call 1 1 (Put (97 ∷ []) (120 ∷ []))))
    ∷ mail 1 1 (Accept g (b 1 1) 2 (Call 2 1 (Put (98 ∷ []) (120 ∷ []))))
    ∷ mail 1 1 (Accept g (b 1 1) 3 (Call 3 1 (Put (99 ∷ []) (120 ∷ []))))
    ∷ mail 1 1 (Accept g (b 1 1) 4 (Call 4 1 (Put (100 ∷ []) (120 ∷ []))))
    ∷ mail 1 1 (Accepted g (b 1 1) 1) ∷ []
unfolding stepped mailed request_row requested queued learn_row taught ask_row asked_again last_entry_sent tick_row prepare_row promised accept_row took promise_row accepted_row readied nack_row pumped pumped_from found_for from_queues from_backlog next_queued offered sent_all sent_others answered answered_all nodes_to elected ended saw entered announced answered_or_put_back learnt_to landed left looked executed_one executed_ready executed put_back forgotten effect_reported order_reported welcomed welcomed_all dismissed dismissed_all install_to spoken spoken_mails begun_reported went_on reminded wishing ordered_row offer_row watch_row vote_row watched_row elsewhere_row outcome_row act_queued
fifth_waits = refl

-- one that is elected offers a Noop below a slot that was reported, and there the value that was reported; the Noop is counted and executed
gap :
    (run (born_replica 4 2 (base (1 ∷ 2 ∷ 3 ∷ [])), []) (
    Got (mail 1 2 (Accept g (b 1 1) 2 (Call 2 1 (Put (97 ∷ []) (121 ∷ [])))))
    ∷ Tick
    ∷ Got (mail 2 2 (Prepare g (b 2 2) 1))
    ∷ Got (mail 2 2 (Promise g (b 2 2) (record { slot = 2; ballot = b 1 1; value = (Call 2 1 (Put (97 ∷ []) (121 ∷ []))) } ∷ [])))
    ∷ Got (mail 3 2 (Promise g (b 2 2) []))
    ∷ Got (mail 2 2 (Accept g (b 2 2) 1 Noop))
    ∷ Got (mail 2 2 (Accept g (b 2 2) 2 (Call 2 1 (Put (97 ∷ []) (121 ∷ [])))))
    ∷ Got (mail 2 2 (Accepted g (b 2 2) 1))
    ∷ Got (mail 3 2 (Accepted g (b 2 2) 1)) ∷ [])).1
    ≡ mail 2 1 (Accepted g (b 1 1) 2)
    ∷ mail 2 1 (Prepare g (b 2 2) 1)
    ∷ mail 2 2 (Prepare g (b 2 2) 1)
    ∷ mail 2 3 (Prepare g (b 2 2) 1)
    ∷ mail 2 2 (Promise g (b 2 2) (record { slot = 2; ballot = b 1 1; value = (Call 2 1 (Put (97 ∷ []) (121 ∷ []))) } ∷ []))
    ∷ mail 2 1 (Accept g (b 2 2) 1 Noop)
    ∷ mail 2 2 (Accept g (b 2 2) 1 Noop)
    ∷ mail 2 3 (Accept g (b 2 2) 1 Noop)
    ∷ mail 2 1 (Accept g (b 2 2) 2 (Call 2 1 (Put (97 ∷ []) (121 ∷ []))))
    ∷ mail 2 2 (Accept g (b 2 2) 2 (Call 2 1 (Put (97 ∷ []) (121 ∷ []))))
    ∷ mail 2 3 (Accept g (b 2 2) 2 (Call 2 1 (Put (97 ∷ []) (121 ∷ []))))
    ∷ mail 2 2 (Accepted g (b 2 2) 1)
    ∷ mail 2 2 (Accepted g (b 2 2) 2)
    ∷ mail 2 1 (Learn g 1 Noop)
    ∷ mail 2 3 (Learn g 1 Noop) ∷ []
unfolding stepped mailed request_row requested queued learn_row taught ask_row asked_again last_entry_sent tick_row prepare_row promised accept_row took promise_row accepted_row readied nack_row pumped pumped_from found_for from_queues from_backlog next_queued offered sent_all sent_others answered answered_all nodes_to elected ended saw entered announced answered_or_put_back learnt_to landed left looked executed_one executed_ready executed put_back forgotten effect_reported order_reported welcomed welcomed_all dismissed dismissed_all install_to spoken spoken_mails begun_reported went_on reminded wishing ordered_row offer_row watch_row vote_row watched_row elsewhere_row outcome_row act_queued
gap = refl

-- a leader that sees a higher ballot answers what is in flight and what waits, and then promises
stop :
    (run (born_replica 4 1 (base (1 ∷ 2 ∷ 3 ∷ [])), []) (
    Got (mail 33 1 (Request g 1 1 (Put (97 ∷ []) (120 ∷ []))))
    ∷ Got (mail 34 1 (Request g 2 1 (Put (98 ∷ []) (120 ∷ []))))
    ∷ Got (mail 35 1 (Request g 3 1 (Put (99 ∷ []) (120 ∷ []))))
    ∷ Got (mail 36 1 (Request g 4 1 (Put (100 ∷ []) (120 ∷ []))))
    ∷ Got (mail 37 1 (Request g 5 1 (Get (97 ∷ []))))
    ∷ Got (mail 2 1 (Prepare g (b 2 2) 1)) ∷ [])).1
    ≡ mail 1 1 (Accept g (b 1 1) 1 (Call 1 1 (Put (97 ∷ []) (120 ∷ []))))
    ∷ mail 1 2 (Accept g (b 1 1) 1 (Call 1 1 (Put (97 ∷ []) (120 ∷ []))))
    ∷ mail 1 3 (Accept g (b 1 1) 1 (Call 1 1 (Put (97 ∷ []) (120 ∷ []))))
    ∷ mail 1 1 (Accept g (b 1 1) 2 (Call 2 1 (Put (98 ∷ []) (120 ∷ []))))
    ∷ mail 1 2 (Accept g (b 1 1) 2 (Call 2 1 (Put (98 ∷ []) (120 ∷ []))))
    ∷ mail 1 3 (Accept g (b 1 1) 2 (Call 2 1 (Put (98 ∷ []) (120 ∷ []))))
    ∷ mail 1 1 (Accept g (b 1 1) 3 (Call 3 1 (Put (99 ∷ []) (120 ∷ []))))
    ∷ mail 1 2 (Accept g (b 1 1) 3 (Call 3 1 (Put (99 ∷ []) (120 ∷ []))))
    ∷ mail 1 3 (Accept g (b 1 1) 3 (Call 3 1 (Put (99 ∷ []) (120 ∷ []))))
    ∷ mail 1 1 (Accept g (b 1 1) 4 (Call 4 1 (Put (100 ∷ []) (120 ∷ []))))
    ∷ mail 1 2 (Accept g (b 1 1) 4 (Call 4 1 (Put (100 ∷ []) (120 ∷ []))))
    ∷ mail 1 3 (Accept g (b 1 1) 4 (Call 4 1 (Put (100 ∷ []) (120 ∷ []))))
    ∷ mail 1 33 (Answer g 1 (Says.NotLeader (Some 2)))
    ∷ mail 1 34 (Answer g 1 (Says.NotLeader (Some 2)))
    ∷ mail 1 35 (Answer g 1 (Says.NotLeader (Some 2)))
    ∷ mail 1 36 (Answer g 1 (Says.NotLeader (Some 2)))
    ∷ mail 1 37 (Answer g 1 (Says.NotLeader (Some 2)))
    ∷ mail 1 2 (Promise g (b 2 2) []) ∷ []
unfolding stepped mailed request_row requested queued learn_row taught ask_row asked_again last_entry_sent tick_row prepare_row promised accept_row took promise_row accepted_row readied nack_row pumped pumped_from found_for from_queues from_backlog next_queued offered sent_all sent_others answered answered_all nodes_to elected ended saw entered announced answered_or_put_back learnt_to landed left looked executed_one executed_ready executed put_back forgotten effect_reported order_reported welcomed welcomed_all dismissed dismissed_all install_to spoken spoken_mails begun_reported went_on reminded wishing ordered_row offer_row watch_row vote_row watched_row elsewhere_row outcome_row act_queued
stop = refl

-- a call whose slot went to a learnt Noop is offered again at the next free slot
lost_slot :
    (run (born_replica 4 1 (base (1 ∷ 2 ∷ 3 ∷ [])), []) (
    Got (mail 33 1 (Request g 1 1 (Put (97 ∷ []) (120 ∷ []))))
    ∷ Got (mail 34 1 (Request g 2 1 (Put (97 ∷ []) (121 ∷ []))))
    ∷ Got (mail 2 1 (Learn g 1 Noop)) ∷ [])).1
    ≡ mail 1 1 (Accept g (b 1 1) 1 (Call 1 1 (Put (97 ∷ []) (120 ∷ []))))
    ∷ mail 1 2 (Accept g (b 1 1) 1 (Call 1 1 (Put (97 ∷ []) (120 ∷ []))))
    ∷ mail 1 3 (Accept g (b 1 1) 1 (Call 1 1 (Put (97 ∷ []) (120 ∷ []))))
    ∷ mail 1 1 (Accept g (b 1 1) 2 (Call 2 1 (Put (97 ∷ []) (121 ∷ []))))
    ∷ mail 1 2 (Accept g (b 1 1) 2 (Call 2 1 (Put (97 ∷ []) (121 ∷ []))))
    ∷ mail 1 3 (Accept g (b 1 1) 2 (Call 2 1 (Put (97 ∷ []) (121 ∷ []))))
    ∷ mail 1 1 (Accept g (b 1 1) 3 (Call 1 1 (Put (97 ∷ []) (120 ∷ []))))
    ∷ mail 1 2 (Accept g (b 1 1) 3 (Call 1 1 (Put (97 ∷ []) (120 ∷ []))))
    ∷ mail 1 3 (Accept g (b 1 1) 3 (Call 1 1 (Put (97 ∷ []) (120 ∷ [])))) ∷ []
unfolding stepped mailed request_row requested queued learn_row taught ask_row asked_again last_entry_sent tick_row prepare_row promised accept_row took promise_row accepted_row readied nack_row pumped pumped_from found_for from_queues from_backlog next_queued offered sent_all sent_others answered answered_all nodes_to elected ended saw entered announced answered_or_put_back learnt_to landed left looked executed_one executed_ready executed put_back forgotten effect_reported order_reported welcomed welcomed_all dismissed dismissed_all install_to spoken spoken_mails begun_reported went_on reminded wishing ordered_row offer_row watch_row vote_row watched_row elsewhere_row outcome_row act_queued
lost_slot = refl

-- one that promised a higher ballot ignores an accept of a lower one
follower :
    (run (born_replica 4 3 (base (1 ∷ 2 ∷ 3 ∷ [])), []) (
    Got (mail 2 3 (Prepare g (b 2 2) 1))
    ∷ Got (mail 2 3 (Accept g (b 2 2) 1 (Call 2 1 (Put (97 ∷ []) (121 ∷ [])))))
    ∷ Got (mail 1 3 (Accept g (b 1 1) 1 (Call 1 1 (Put (97 ∷ []) (120 ∷ []))))) ∷ [])).1
    ≡ mail 3 2 (Promise g (b 2 2) [])
    ∷ mail 3 2 (Accepted g (b 2 2) 1)
    ∷ mail 3 1 (Nack g (b 2 2)) ∷ []
unfolding stepped mailed request_row requested queued learn_row taught ask_row asked_again last_entry_sent tick_row prepare_row promised accept_row took promise_row accepted_row readied nack_row pumped pumped_from found_for from_queues from_backlog next_queued offered sent_all sent_others answered answered_all nodes_to elected ended saw entered announced answered_or_put_back learnt_to landed left looked executed_one executed_ready executed put_back forgotten effect_reported order_reported welcomed welcomed_all dismissed dismissed_all install_to spoken spoken_mails begun_reported went_on reminded wishing ordered_row offer_row watch_row vote_row watched_row elsewhere_row outcome_row act_queued
follower = refl

-- a Nack stops a leader, and its next ballot is above the one in the Nack
nack :
    (run (born_replica 4 1 (base (1 ∷ 2 ∷ 3 ∷ [])), []) (
    Got (mail 33 1 (Request g 1 1 (Put (97 ∷ []) (120 ∷ []))))
    ∷ Got (mail 3 1 (Nack g (b 2 2)))
    ∷ Tick ∷ [])).1
    ≡ mail 1 1 (Accept g (b 1 1) 1 (Call 1 1 (Put (97 ∷ []) (120 ∷ []))))
    ∷ mail 1 2 (Accept g (b 1 1) 1 (Call 1 1 (Put (97 ∷ []) (120 ∷ []))))
    ∷ mail 1 3 (Accept g (b 1 1) 1 (Call 1 1 (Put (97 ∷ []) (120 ∷ []))))
    ∷ mail 1 33 (Answer g 1 (Says.NotLeader (Some 2)))
    ∷ mail 1 1 (Prepare g (b 3 1) 1)
    ∷ mail 1 2 (Prepare g (b 3 1) 1)
    ∷ mail 1 3 (Prepare g (b 3 1) 1) ∷ []
unfolding stepped mailed request_row requested queued learn_row taught ask_row asked_again last_entry_sent tick_row prepare_row promised accept_row took promise_row accepted_row readied nack_row pumped pumped_from found_for from_queues from_backlog next_queued offered sent_all sent_others answered answered_all nodes_to elected ended saw entered announced answered_or_put_back learnt_to landed left looked executed_one executed_ready executed put_back forgotten effect_reported order_reported welcomed welcomed_all dismissed dismissed_all install_to spoken spoken_mails begun_reported went_on reminded wishing ordered_row offer_row watch_row vote_row watched_row elsewhere_row outcome_row act_queued
nack = refl

-- a Noop that lost its slot to a learnt call is dropped
noop_lost :
    (run (born_replica 4 2 (narrow (1 ∷ 2 ∷ 3 ∷ [])), []) (
    Got (mail 1 2 (Accept g (b 1 1) 2 (Call 2 1 (Put (97 ∷ []) (121 ∷ [])))))
    ∷ Tick
    ∷ Got (mail 2 2 (Prepare g (b 2 2) 1))
    ∷ Got (mail 2 2 (Promise g (b 2 2) (record { slot = 2; ballot = b 1 1; value = (Call 2 1 (Put (97 ∷ []) (121 ∷ []))) } ∷ [])))
    ∷ Got (mail 3 2 (Promise g (b 2 2) []))
    ∷ Got (mail 3 2 (Learn g 1 (Call 3 1 (Put (97 ∷ []) (122 ∷ []))))) ∷ [])).1
    ≡ mail 2 1 (Accepted g (b 1 1) 2)
    ∷ mail 2 1 (Prepare g (b 2 2) 1)
    ∷ mail 2 2 (Prepare g (b 2 2) 1)
    ∷ mail 2 3 (Prepare g (b 2 2) 1)
    ∷ mail 2 2 (Promise g (b 2 2) (record { slot = 2; ballot = b 1 1; value = (Call 2 1 (Put (97 ∷ []) (121 ∷ []))) } ∷ []))
    ∷ mail 2 1 (Accept g (b 2 2) 1 Noop)
    ∷ mail 2 2 (Accept g (b 2 2) 1 Noop)
    ∷ mail 2 3 (Accept g (b 2 2) 1 Noop)
    ∷ mail 2 1 (Accept g (b 2 2) 2 (Call 2 1 (Put (97 ∷ []) (121 ∷ []))))
    ∷ mail 2 2 (Accept g (b 2 2) 2 (Call 2 1 (Put (97 ∷ []) (121 ∷ []))))
    ∷ mail 2 3 (Accept g (b 2 2) 2 (Call 2 1 (Put (97 ∷ []) (121 ∷ [])))) ∷ []
unfolding stepped mailed request_row requested queued learn_row taught ask_row asked_again last_entry_sent tick_row prepare_row promised accept_row took promise_row accepted_row readied nack_row pumped pumped_from found_for from_queues from_backlog next_queued offered sent_all sent_others answered answered_all nodes_to elected ended saw entered announced answered_or_put_back learnt_to landed left looked executed_one executed_ready executed put_back forgotten effect_reported order_reported welcomed welcomed_all dismissed dismissed_all install_to spoken spoken_mails begun_reported went_on reminded wishing ordered_row offer_row watch_row vote_row watched_row elsewhere_row outcome_row act_queued
noop_lost = refl

-- a tick asks again each member whose vote was not counted
tick :
    (run (born_replica 4 1 (base (1 ∷ 2 ∷ 3 ∷ [])), []) (
    Got (mail 33 1 (Request g 1 1 (Put (97 ∷ []) (120 ∷ []))))
    ∷ Got (mail 1 1 (Accept g (b 1 1) 1 (Call 1 1 (Put (97 ∷ []) (120 ∷ [])))))
    ∷ Got (mail 1 1 (Accepted g (b 1 1) 1))
    ∷ Tick
    ∷ Tick ∷ [])).1
    ≡ mail 1 1 (Accept g (b 1 1) 1 (Call 1 1 (Put (97 ∷ []) (120 ∷ []))))
    ∷ mail 1 2 (Accept g (b 1 1) 1 (Call 1 1 (Put (97 ∷ []) (120 ∷ []))))
    ∷ mail 1 3 (Accept g (b 1 1) 1 (Call 1 1 (Put (97 ∷ []) (120 ∷ []))))
    ∷ mail 1 1 (Accepted g (b 1 1) 1)
    ∷ mail 1 2 (Accept g (b 1 1) 1 (Call 1 1 (Put (97 ∷ []) (120 ∷ []))))
    ∷ mail 1 3 (Accept g (b 1 1) 1 (Call 1 1 (Put (97 ∷ []) (120 ∷ []))))
    ∷ mail 1 2 (Accept g (b 1 1) 1 (Call 1 1 (Put (97 ∷ []) (120 ∷ []))))
    ∷ mail 1 3 (Accept g (b 1 1) 1 (Call 1 1 (Put (97 ∷ []) (120 ∷ [])))) ∷ []
unfolding stepped mailed request_row requested queued learn_row taught ask_row asked_again last_entry_sent tick_row prepare_row promised accept_row took promise_row accepted_row readied nack_row pumped pumped_from found_for from_queues from_backlog next_queued offered sent_all sent_others answered answered_all nodes_to elected ended saw entered announced answered_or_put_back learnt_to landed left looked executed_one executed_ready executed put_back forgotten effect_reported order_reported welcomed welcomed_all dismissed dismissed_all install_to spoken spoken_mails begun_reported went_on reminded wishing ordered_row offer_row watch_row vote_row watched_row elsewhere_row outcome_row act_queued
tick = refl

-- two commands in flight, of which the second has its majority first: it is executed after the first. The group no longer holds their keys
abbrev two_in_flight : ReplicaState
two_in_flight = record (born_replica 4 1 (narrow (1 ∷ []))) {
  leader = record (first_leader (b 1 1)) {
    flights = record { slot = 1; value = Call 1 1 (Get (97 ∷ [])); voters = None } ∷ record { slot = 2; value = Call 2 1 (Get (98 ∷ [])); voters = None } ∷ [];
  };
}

-- the answer that the group does not hold the key
abbrev elsewhere : ℕ → Mail
elsewhere to = mail 1 to (Answer g 1 (Says.NotMine (record { lo = 0; len = 1 }) (record { group = g; members = 1 ∷ [] })))

second_first :
    (run (two_in_flight, []) (Got (mail 1 1 (Accepted g (b 1 1) 2)) ∷ Got (mail 1 1 (Accepted g (b 1 1) 1)) ∷ [])).1
    ≡ elsewhere 33 ∷ elsewhere 34 ∷ []
unfolding stepped mailed request_row requested queued learn_row taught ask_row asked_again last_entry_sent tick_row prepare_row promised accept_row took promise_row accepted_row readied nack_row pumped pumped_from found_for from_queues from_backlog next_queued offered sent_all sent_others answered answered_all nodes_to elected ended saw entered announced answered_or_put_back learnt_to landed left looked executed_one executed_ready executed put_back forgotten effect_reported order_reported welcomed welcomed_all dismissed dismissed_all install_to spoken spoken_mails begun_reported went_on reminded wishing ordered_row offer_row watch_row vote_row watched_row elsewhere_row outcome_row act_queued
second_first = refl

-- an Ask is answered by at most 32 entries
abbrev long : ReplicaState
long = record (born_replica 4 1 (base (1 ∷ 2 ∷ 3 ∷ []))) { log = record { base = 0; entries = replicate 40 Noop } }

asked : (run (long, []) (Got (mail 2 1 (Ask g 3)) ∷ [])).1 ≡ map (λ slot. mail 1 2 (Learn g slot Noop)) (numbers_from 3 32)
unfolding stepped mailed ask_row taught spoken spoken_mails begun_reported went_on reminded wishing ordered_row offer_row watch_row vote_row watched_row elsewhere_row outcome_row act_queued
asked = refl

-- a tick of a settled leader with nothing in flight tells the others its last entry
told_again : (run (long, []) (Tick ∷ [])).1 ≡ mail 1 2 (Learn g 40 Noop) ∷ mail 1 3 (Learn g 40 Noop) ∷ []
unfolding stepped mailed request_row requested queued learn_row taught ask_row asked_again last_entry_sent tick_row prepare_row promised accept_row took promise_row accepted_row readied nack_row pumped pumped_from found_for from_queues from_backlog next_queued offered sent_all sent_others answered answered_all nodes_to elected ended saw entered announced answered_or_put_back learnt_to landed left looked executed_one executed_ready executed put_back forgotten effect_reported order_reported welcomed welcomed_all dismissed dismissed_all install_to spoken spoken_mails begun_reported went_on reminded wishing ordered_row offer_row watch_row vote_row watched_row elsewhere_row outcome_row act_queued
told_again = refl
