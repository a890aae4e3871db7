-- Small runs of a replica whose members change, computed: what it sends from birth on.
use Rattle.std.proofs.Common.{◌≡◌, ℕ, List, [], ◌∷◌, replicate, Some, refl}
use Rattle.sc_base.specs.declared.ops.Op.TheVariants.{Put}
use Rattle.sc_words.specs.declared.commands.commands.Command.TheVariants.{Noop, Call, Join, Leave}
use Rattle.sc_words.specs.declared.commands.cores.Base.{Base}
use Rattle.sc_words.specs.declared.commands.orders.Order.{Order}
use Rattle.sc_words.specs.declared.commands.orders.Order.TheVariants as An
use Rattle.sc_words.specs.declared.commands.orders.OrderLine.{OrderLine}
use Rattle.sc_words.specs.declared.commands.orders.OrderRefusal.TheVariants.{NotLeader, LastMember}
use Rattle.sc_words.specs.declared.commands.orders.OrderResult.TheVariants.{Done, Refused}
use Rattle.sc_mail.specs.declared.bodies.AnswerBody.TheVariants as Says
use Rattle.sc_mail.specs.declared.bodies.MailBody.TheVariants.{Request, Answer, Accept, Accepted, Learn, Ask, Install, Told as ToldMail}
use Rattle.sc_node_table.specs.declared.ReplicaInput.TheVariants.{Got, Told}
use Rattle.sc_group_table.specs.machine.MachineDefinitions.{group_of, base_of}
use Rattle.sc_node_table.specs.NodeDefinitions.{born_replica, forgotten, sent_all, sent_others, answered, answered_all, order_reported, dismissed, dismissed_all, install_to, welcomed_all, jumped, put_back, nodes_to, elected, ended, saw, next_queued, from_backlog, from_queues, found_for, offered, pumped_from, pumped, entered, announced, answered_or_put_back, effect_reported, learnt_to, welcomed, landed, left, looked, executed_one, executed_ready, executed, promised, prepare_row, took, accept_row, promise_row, readied, accepted_row, nack_row, spoken, spoken_mails, begun_reported, went_on, reminded, wishing, ordered_row, act_queued, offer_row, watch_row, vote_row, watched_row, elsewhere_row, outcome_row, queued, requested, request_row, learn_row, taught, ask_row, asked_again, last_entry_sent, tick_row, looked_up, took_over, install_row, mailed, stepped}
use Rattle.sc_node_table.proofs.Runs.{g, b, mail, core, base, run}

abbrev line : ℕ → Order → OrderLine
line number order = record { number = number; order = order }

-- the group whose members were one and are two
abbrev joined : Base
joined = record { core = record (core (1 ∷ [])) { members = 1 ∷ 2 ∷ [] }; pairs = []; clients = [] }

abbrev sets : List (List ℕ)
sets = (1 ∷ []) ∷ (1 ∷ []) ∷ (1 ∷ []) ∷ (1 ∷ 2 ∷ []) ∷ []

-- a node that joins is sent the state after the entry by which it joins, and the members of the four slots after it
joins :
    (run (born_replica 4 1 (base (1 ∷ [])), []) (
    Told (line 1 (An.Join 2 g))
    ∷ Got (mail 1 1 (Accept g (b 1 1) 1 (Join 2 1)))
    ∷ Got (mail 1 1 (Accepted g (b 1 1) 1))
    ∷ Got (mail 2 1 (Ask g 0)) ∷ [])).1
    ≡ mail 1 1 (Accept g (b 1 1) 1 (Join 2 1))
    ∷ mail 1 1 (Accepted g (b 1 1) 1)
    ∷ mail 1 0 (ToldMail 1 Done)
    ∷ mail 1 2 (Install g 1 (base_of (group_of joined)) sets)
    ∷ mail 1 2 (Install g 1 (base_of (group_of joined)) sets) ∷ []
unfolding stepped mailed request_row requested queued learn_row taught ask_row asked_again last_entry_sent tick_row prepare_row promised accept_row took promise_row accepted_row readied nack_row pumped pumped_from found_for from_queues from_backlog next_queued offered sent_all sent_others answered answered_all nodes_to elected ended saw entered announced answered_or_put_back learnt_to landed left looked executed_one executed_ready executed put_back forgotten effect_reported order_reported welcomed welcomed_all dismissed dismissed_all install_to looked_up took_over install_row jumped spoken spoken_mails begun_reported went_on reminded wishing ordered_row offer_row watch_row vote_row watched_row elsewhere_row outcome_row act_queued
joins = refl

-- the last member does not leave, and one that does not lead takes no order
refused :
    (run (born_replica 4 1 (base (1 ∷ [])), []) (Told (line 7 (An.Leave 1 g)) ∷ [])).1 ≡ mail 1 0 (ToldMail 7 (Refused LastMember)) ∷ []
unfolding stepped mailed request_row requested queued learn_row taught ask_row asked_again last_entry_sent tick_row prepare_row promised accept_row took promise_row accepted_row readied nack_row pumped pumped_from found_for from_queues from_backlog next_queued offered sent_all sent_others answered answered_all nodes_to elected ended saw entered announced answered_or_put_back learnt_to landed left looked executed_one executed_ready executed put_back forgotten effect_reported order_reported welcomed welcomed_all dismissed dismissed_all install_to looked_up took_over install_row jumped spoken spoken_mails begun_reported went_on reminded wishing ordered_row offer_row watch_row vote_row watched_row elsewhere_row outcome_row act_queued
refused = refl

elsewhere :
    (run (born_replica 4 2 (base (1 ∷ 2 ∷ [])), []) (Told (line 8 (An.Leave 1 g)) ∷ [])).1 ≡ mail 2 0 (ToldMail 8 (Refused (NotLeader (Some 1)))) ∷ []
unfolding stepped mailed request_row requested queued learn_row taught ask_row asked_again last_entry_sent tick_row prepare_row promised accept_row took promise_row accepted_row readied nack_row pumped pumped_from found_for from_queues from_backlog next_queued offered sent_all sent_others answered answered_all nodes_to elected ended saw entered announced answered_or_put_back learnt_to landed left looked executed_one executed_ready executed put_back forgotten effect_reported order_reported welcomed welcomed_all dismissed dismissed_all install_to looked_up took_over install_row jumped spoken spoken_mails begun_reported went_on reminded wishing ordered_row offer_row watch_row vote_row watched_row elsewhere_row outcome_row act_queued
elsewhere = refl

-- a leader that leaves is no leader any more
leaves :
    (run (born_replica 4 1 (base (1 ∷ 2 ∷ [])), []) (
    Told (line 1 (An.Leave 1 g))
    ∷ Got (mail 1 1 (Accepted g (b 1 1) 1))
    ∷ Got (mail 2 1 (Accepted g (b 1 1) 1))
    ∷ Got (mail 33 1 (Request g 1 1 (Put (97 ∷ []) (120 ∷ [])))) ∷ [])).1
    ≡ mail 1 1 (Accept g (b 1 1) 1 (Leave 1 1))
    ∷ mail 1 2 (Accept g (b 1 1) 1 (Leave 1 1))
    ∷ mail 1 0 (ToldMail 1 Done)
    ∷ mail 1 2 (Learn g 1 (Leave 1 1))
    ∷ mail 1 33 (Answer g 1 (Says.NotLeader (Some 2))) ∷ []
unfolding stepped mailed request_row requested queued learn_row taught ask_row asked_again last_entry_sent tick_row prepare_row promised accept_row took promise_row accepted_row readied nack_row pumped pumped_from found_for from_queues from_backlog next_queued offered sent_all sent_others answered answered_all nodes_to elected ended saw entered announced answered_or_put_back learnt_to landed left looked executed_one executed_ready executed put_back forgotten effect_reported order_reported welcomed welcomed_all dismissed dismissed_all install_to looked_up took_over install_row jumped spoken spoken_mails begun_reported went_on reminded wishing ordered_row offer_row watch_row vote_row watched_row elsewhere_row outcome_row act_queued
leaves = refl

-- one that runs stops where it is sent a later state: its calls and orders are answered, the one in flight and those that wait
overtaken :
    (run (born_replica 4 1 (base (1 ∷ 2 ∷ 3 ∷ [])), []) (
    Got (mail 33 1 (Request g 1 1 (Put (97 ∷ []) (120 ∷ []))))
    ∷ Told (line 1 (An.Join 4 g))
    ∷ Got (mail 2 1 (Install g 3 (base (1 ∷ 2 ∷ 3 ∷ [])) (replicate 4 (1 ∷ 2 ∷ 3 ∷ []))))
    ∷ Got (mail 3 1 (Ask g 3)) ∷ [])).1
    ≡ mail 1 1 (Accept g (b 1 1) 1 (Call 1 1 (Put (97 ∷ []) (120 ∷ []))))
    ∷ mail 1 2 (Accept g (b 1 1) 1 (Call 1 1 (Put (97 ∷ []) (120 ∷ []))))
    ∷ mail 1 3 (Accept g (b 1 1) 1 (Call 1 1 (Put (97 ∷ []) (120 ∷ []))))
    ∷ mail 1 33 (Answer g 1 (Says.NotLeader (Some 2)))
    ∷ mail 1 0 (ToldMail 1 (Refused (NotLeader (Some 2))))
    ∷ mail 1 3 (Install g 3 (base_of (group_of (base (1 ∷ 2 ∷ 3 ∷ [])))) (replicate 4 (1 ∷ 2 ∷ 3 ∷ []))) ∷ []
unfolding stepped mailed request_row requested queued learn_row taught ask_row asked_again last_entry_sent tick_row prepare_row promised accept_row took promise_row accepted_row readied nack_row pumped pumped_from found_for from_queues from_backlog next_queued offered sent_all sent_others answered answered_all nodes_to elected ended saw entered announced answered_or_put_back learnt_to landed left looked executed_one executed_ready executed put_back forgotten effect_reported order_reported welcomed welcomed_all dismissed dismissed_all install_to looked_up took_over install_row jumped spoken spoken_mails begun_reported went_on reminded wishing ordered_row offer_row watch_row vote_row watched_row elsewhere_row outcome_row act_queued
overtaken = refl

-- an older state, and one without the members of four slots, is not taken
older :
    (run (born_replica 4 2 (base (1 ∷ 2 ∷ [])), []) (
    Got (mail 1 2 (Learn g 1 Noop))
    ∷ Got (mail 1 2 (Install g 0 (base (1 ∷ [])) (replicate 4 (1 ∷ []))))
    ∷ Got (mail 1 2 (Install g 5 (base (1 ∷ [])) (replicate 3 (1 ∷ []))))
    ∷ Got (mail 1 2 (Ask g 1)) ∷ [])).1 ≡ mail 2 1 (Learn g 1 Noop) ∷ []
unfolding stepped mailed request_row requested queued learn_row taught ask_row asked_again last_entry_sent tick_row prepare_row promised accept_row took promise_row accepted_row readied nack_row pumped pumped_from found_for from_queues from_backlog next_queued offered sent_all sent_others answered answered_all nodes_to elected ended saw entered announced answered_or_put_back learnt_to landed left looked executed_one executed_ready executed put_back forgotten effect_reported order_reported welcomed welcomed_all dismissed dismissed_all install_to looked_up took_over install_row jumped spoken spoken_mails begun_reported went_on reminded wishing ordered_row offer_row watch_row vote_row watched_row elsewhere_row outcome_row act_queued
older = refl
