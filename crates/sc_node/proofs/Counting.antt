-- The count of a vote, by its two cases.
use Rattle.std.proofs.Common.{◌≡◌, ◌++◌, ℕ, List, sym, append-nil}
use Rattle.sc_words.specs.declared.commands.commands.Command.{Command}
use Rattle.sc_words.specs.declared.commands.cores.Base.{Base}
use Rattle.sc_mail.specs.declared.bodies.Mail.{Mail}
use Rattle.sc_words.specs.declared.paxos.answers.Counted.{Counted}
use Rattle.sc_words.specs.declared.paxos.answers.Counted.TheVariants.{Chosen, NotYet}
use Rattle.sc_words.specs.paxos.Leaders.{LeaderState}
use Rattle.sc_node_table.specs.Replica.{ReplicaState}
use Rattle.sc_node_table.specs.Voting.{readied, vote_tallied}
use Rattle.sc_node_replica.specs.Steps.{with_leader}

-- a majority was counted
pub chosen_row : (slot : ℕ) (p : Counted Command × LeaderState Command) (c : Command) (r : ReplicaState) (mails : List Mail) → Chosen c ≡ p.0
    → (readied slot c (with_leader p.1 r, mails)).0 ≡ (vote_tallied slot p (r, mails)).0
chosen_row slot p c r mails e = rw (← e)

-- a majority: the children of what is executed then
pub chosen_children : (slot : ℕ) (p : Counted Command × LeaderState Command) (c : Command) (r : ReplicaState) (mails : List Mail) (made : List Base) → Chosen c ≡ p.0
    → made ++ (readied slot c (with_leader p.1 r, mails)).1 ≡ made ++ (vote_tallied slot p (r, mails)).1
chosen_children slot p c r mails made e = rw (← e)

-- none was
pub waiting_row : (slot : ℕ) (p : Counted Command × LeaderState Command) (n : ℕ) (r : ReplicaState) (mails : List Mail) → NotYet n ≡ p.0
    → (with_leader p.1 r, mails) ≡ (vote_tallied slot p (r, mails)).0
waiting_row slot p n r mails e = rw (← e)

-- no majority: nothing is executed
pub waiting_children : (slot : ℕ) (p : Counted Command × LeaderState Command) (n : ℕ) (r : ReplicaState) (mails : List Mail) (made : List Base) → NotYet n ≡ p.0
    → made ≡ made ++ (vote_tallied slot p (r, mails)).1
waiting_children slot p n r mails made e = rw (← e) (sym (append-nil made))

-- what a count of a vote may come to
pub ruleset counted = (chosen_row, chosen_children, waiting_row, waiting_children)
