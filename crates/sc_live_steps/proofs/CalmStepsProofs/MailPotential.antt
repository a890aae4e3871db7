-- What the rows of mail lower, by the body of the mail.
use Rattle.sc_node_table.specs.NodeDefinitions.{mailed}
use Rattle.sc_live_steps.specs.calm.CalmDefinitions.{AnswersLower, AsksLower, CountsLower, LearnsLower, MovesLower, OldLearnsLower, VotesLower}
use Rattle.sc_live_steps.proofs.CalmStepsProofs.RequestPotential.{promise_lowers, request_lowers, offer_lowers, watch_lowers}
use Rattle.sc_live_steps.proofs.CalmStepsProofs.InstallRows.{install_lowers, elsewhere_lowers}
use Rattle.sc_live_steps.proofs.CalmStepsProofs.LearnRows.{learn_lowers, old_lowers}
use Rattle.sc_live_steps.proofs.CalmStepsProofs.ReplicaPotential.{prepare_lowers, accept_lowers, nack_lowers, vote_lowers, watched_lowers, outcome_lowers}
use Rattle.sc_live_steps.proofs.CalmStepsProofs.VoteRows.{accepted_lowers}

-- A Prepare, an Accept and a Nack lower what is owed: one mail at most comes back.
pub answers : AnswersLower
unfolding mailed
answers = record {
  prepare = λ ways from group ballot from_slot place goes. prepare_lowers ways from ballot from_slot place goes;
  accept = λ ways from group ballot slot command place goes. accept_lowers ways from ballot slot command place goes;
  nack = λ ways from group ballot place goes. nack_lowers ways ballot place goes;
}

-- A participant's and a watcher's vote, and the outcome of a transaction, lower what is owed: each is queued for the log, where it owes less, or answered.
pub votes : VotesLower
unfolding mailed
votes = record {
  vote = λ ways from tx coord part vote place may. vote_lowers ways from tx part vote place may;
  watched = λ ways from tx coord part vote place may. watched_lowers ways from tx part vote place may;
  outcome = λ ways from tx part outcome place may. outcome_lowers ways tx outcome place may;
}

-- A Learn of the next entry or an earlier one lowers what is owed at a replica that does not run, also where it is elected by the entry, and begins to offer what it finds.
pub learns : LearnsLower
unfolding mailed
learns = λ ways from group slot command place f low. learn_lowers ways from slot command place f low

-- A promise, a request, an offer and a watch lower what is owed: each is taken, or its sender learns of a replica that is nearer to the one that runs.
pub asks : AsksLower
unfolding mailed
asks = record {
  promise = λ ways from group ballot place may. promise_lowers ways from ballot place may;
  request = λ ways from client seq op place may points. request_lowers ways client seq op place may points;
  offer = λ ways from tx offer place may points asked. offer_lowers ways from tx offer place may points asked;
  watch = λ ways from tx watch place may points asked. watch_lowers ways from tx watch place may points asked;
}

-- A state that comes to a replica that does not run, also where it is elected by it, and a mail that sends a coordinator to another node, lower what is owed.
pub moves : MovesLower
unfolding mailed
moves = record {
  install = λ ways from group slot base sets place off stands. install_lowers ways from slot base sets place off stands;
  elsewhere = λ ways from tx coord node place asks. elsewhere_lowers ways from tx node place asks;
}

-- A vote that a leader counts lowers what is owed: where it decides, its command goes from flight to what is ready, and nothing rises by what is executed then.
pub counts : CountsLower
unfolding mailed
counts = λ ways from group ballot slot place free. accepted_lowers ways from ballot slot place free

-- A Learn of an entry that is executed lowers what is owed, also where the group is gone.
pub old_learns : OldLearnsLower
unfolding mailed
old_learns = λ ways from group slot command place old. old_lowers ways from slot command place old
