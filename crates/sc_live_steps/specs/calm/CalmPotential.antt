-- What is owed in a calm journal: at most how many deliveries are still to come, by the mail under way and by what each replica still has to do.
use Rattle.std.specs.Prelude.{ℕ, ◌+◌, ◌-◌, ◌*◌, Bool, true, false, List, sum_by, Option, Some, None}
use Rattle.sc_node_table.specs.Values.{Draw, Command, Noop, Call, Join, Leave, Split, Begin, Prepared, RecordVote, GiveUp, Finish, Watched, RecordWatch, Route, AnswerBody, Mail, MailBody, Request, Answer, Prepare, Promise, Accept, Accepted, Nack, Learn, Ask, Install, TxPrepare, TxVote, TxOutcome, TxElsewhere, TxWatch, TxWatched, Told, Flight}
use Rattle.sc_mail.specs.declared.bodies.AnswerBody.TheVariants as Says
use Rattle.sc_node_table.specs.NodeDefinitions.{ReplicaState, Place}

-- For each group and node, at most how many hints (each names whom a replica takes for the leader) lead from the group's replica there to its leader; a bound of these numbers;
-- and for each transaction the group that its coordinator asks, and whether it asks that as the watcher.
pub record Ways : Type 0 where
  pub far : Draw → ℕ → ℕ
  pub most : ℕ
  pub asked_group : Draw → Option (Draw × Bool)

-- What a command that waits owes. Its round is 26 deliveries: nine accept requests, nine votes, and eight nodes that learn it.
-- The rest is an answer, or what the entry may cause.
abbrev pub command_owes : ℕ → Command → ℕ
command_owes most Noop = 27
command_owes most (Call client seq op) = 27
command_owes most (Join node order) = 30
command_owes most (Leave node order) = 99
command_owes most (Split at child order) = 186 + 2 * most
command_owes most (Begin tx body order) = 242 + 4 * most
command_owes most (Prepared tx offer) = 214 + 2 * most
command_owes most (RecordVote tx vote by) = 186 + 2 * most
command_owes most (GiveUp tx) = 27
command_owes most (Finish tx outcome) = 30
command_owes most (Watched tx watch) = 158
command_owes most (RecordWatch tx vote by) = 130

-- What a command in flight or ready owes: 18 less, since its accept requests were sent to nine nodes and owe for themselves and the votes.
abbrev pub offered_owes : ℕ → Command → ℕ
offered_owes most command = command_owes most command - 18

-- What an answer to a client owes: its own delivery, and, where it makes the client ask again, those of the request.
abbrev pub answer_owes : Ways → Draw → AnswerBody → ℕ
answer_owes ways group (Says.Value reply) = 1
answer_owes ways group (Says.NotMine arc succ) = 27
answer_owes ways group (Says.Gone into) = 27
answer_owes ways group (Says.NotLeader (Some node)) = 29 + 2 * ways.far group node
answer_owes ways group (Says.NotLeader None) = 29 + 2 * ways.most
answer_owes ways group (Says.Stale last) = 1

-- What the offer of a transaction, sent to this node, owes: it comes by hints to the group's leader.
abbrev pub prepare_owes : Ways → Draw → ℕ → ℕ
prepare_owes ways group node = 215 + 2 * ways.most + 2 * ways.far group node

-- What the watch of a transaction, sent to this node, owes: it comes by hints to the group's leader.
abbrev pub watch_owes : Ways → Draw → ℕ → ℕ
watch_owes ways group node = 159 + 2 * ways.far group node

-- What the mail owes by which a coordinator asks this node what it asks next.
abbrev pub asked_owes : Ways → ℕ → Option (Draw × Bool) → ℕ
asked_owes ways node None = 0
asked_owes ways node (Some (group, true)) = watch_owes ways group node
asked_owes ways node (Some (group, false)) = prepare_owes ways group node

-- What the reply owes that sends a coordinator to another node: its own delivery and the mail that it causes.
abbrev pub elsewhere_owes : Ways → Draw → Option ℕ → ℕ
elsewhere_owes ways tx (Some node) = 1 + asked_owes ways node (ways.asked_group tx)
elsewhere_owes ways tx None = 1

-- What a mail to this node owes, by its body; 0 for a report to the desk, which is not delivered.
abbrev pub body_owes : Ways → ℕ → MailBody → ℕ
body_owes ways to (Request group client seq op) = 28 + 2 * ways.far group to
body_owes ways to (Answer group seq answer) = answer_owes ways group answer
body_owes ways to (Prepare group ballot from_slot) = 2
body_owes ways to (Promise group ballot reports) = 1
body_owes ways to (Accept group ballot slot command) = 2
body_owes ways to (Accepted group ballot slot) = 1
body_owes ways to (Nack group promised) = 1
body_owes ways to (Learn group slot command) = 1
body_owes ways to (Ask group from_slot) = 1
body_owes ways to (Install group slot base sets) = 1
body_owes ways to (TxPrepare tx offer) = prepare_owes ways offer.part to
body_owes ways to (TxVote tx coord part vote) = 187 + 2 * ways.most
body_owes ways to (TxOutcome tx part outcome) = 31
body_owes ways to (TxElsewhere tx coord hint) = elsewhere_owes ways tx hint
body_owes ways to (TxWatch tx watch) = watch_owes ways watch.part to
body_owes ways to (TxWatched tx coord part vote) = 131
body_owes ways to (Told order result) = 0

-- What a mail owes.
abbrev pub mail_owes : Ways → Mail → ℕ
mail_owes ways mail = body_owes ways mail.to mail.body

-- What the commands in flight owe.
abbrev pub flights_owe : ℕ → List (Flight Command) → ℕ
flights_owe most flights = sum_by (λ flight. offered_owes most flight.value) flights

-- What the commands that are ready, and not yet executed, owe.
abbrev pub ready_owes : ℕ → List (ℕ × Command) → ℕ
ready_owes most ready = sum_by (λ entry. offered_owes most entry.1) ready

-- What a replica owes: the commands that wait, are in flight or are ready at it.
abbrev pub replica_owes : ℕ → ReplicaState → ℕ
replica_owes most r =
    sum_by (command_owes most) r.acts + sum_by (command_owes most) r.backlog + flights_owe most r.leader.flights + ready_owes most r.ready

-- What an election owes: at most 36 nodes are asked to promise, and each may answer.
abbrev pub election : ℕ
election = 72

-- What a group owes by a replica: an election, where the replica does not lead and its group stands; else nothing.
abbrev pub idle_owes : Bool → Option Route → ℕ
idle_owes true _ = 0
idle_owes false None = election
idle_owes false (Some into) = 0

-- What is owed at a replica during its row: by its work, by its group if no other replica of that leads or is gone, and by the mails that the row has sent.
abbrev pub place_owes : Ways → Place → ℕ
place_owes ways place =
    replica_owes ways.most place.0 + idle_owes place.0.running place.0.group.core.gone + sum_by (mail_owes ways) place.1
