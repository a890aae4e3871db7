-- A replica that has promised the ballot of a leader, and saw no later one, rises to it (`RisesAt`).
use Rattle.std.specs.Prelude.{◌≡◌, ℕ, true, Some}
use Rattle.sc_node_table.specs.Values.{Draw}
use Rattle.sc_words.specs.paxos.PaxosDefinitions.{IsAtLeast}
use Rattle.sc_node_table.specs.NodeDefinitions.{ReplicaState}
use Rattle.sc_live_steps.specs.calm.CalmDefinitions.{View, RisesAt}
use Rattle.sc_live_journals.specs.groups.GreatestBallots.{IsTopKept}

-- A replica that takes a leader for the leader, has promised its ballot and saw no later one, has that ballot as the greatest that it saw, and so rises to that leader.
abbrev pub PromisersRise : Type 0
PromisersRise =
    (at : View) (group : Draw) (lead r : ReplicaState) (who : ℕ) → at group lead.me ≡ Some lead → lead.running ≡ true → lead.leader.ballot.node ≡ lead.me → r.hint ≡ Some lead.me → r.acceptor.promised ≡ lead.leader.ballot
    → IsAtLeast lead.leader.ballot r.top → IsTopKept who r → RisesAt at group r
