-- Polls: a replica that is elected asks the members of its group to promise its ballot, and is settled once a majority has.
use Rattle.std.specs.Prelude.{◌≡◌, ◌≤◌, ℕ, true}
use Rattle.sc_node_table.specs.Values.{Ballot, MailBody, Request, Promise, Nack, Install}
use Rattle.sc_words.specs.paxos.PaxosDefinitions.{below}
use Rattle.sc_node_table.specs.NodeDefinitions.{ReplicaState, settled}

-- a replica is settled where it runs
abbrev pub IsSettledOrStopped : ReplicaState → Type 0
IsSettledOrStopped r = r.running ≡ true → settled r ≡ true

-- a mail answers a poll of this ballot from this slot on: it promises the ballot, refuses it for a greater one, or brings a state that has executed the slot
abbrev pub AnswersPoll : Ballot → ℕ → MailBody → Type 0
AnswersPoll ballot from_slot (Promise group promised reports) = promised ≡ ballot
AnswersPoll ballot from_slot (Nack group promised) = below ballot promised ≡ true
AnswersPoll ballot from_slot (Install group slot base sets) = from_slot ≤ slot
AnswersPoll ballot from_slot _ = ⊥

-- a mail is of a kind that answers polls, or a request: none of these is an entry
abbrev pub IsAnswerKind : MailBody → Type 0
IsAnswerKind (Promise group promised reports) = Unit {0}
IsAnswerKind (Nack group promised) = Unit {0}
IsAnswerKind (Install group slot base sets) = Unit {0}
IsAnswerKind (Request group client seq op) = Unit {0}
IsAnswerKind _ = ⊥
