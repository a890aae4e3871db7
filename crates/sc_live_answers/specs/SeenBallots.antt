-- Each ballot which a node of a group has promised, is asked to promise, or finds in a Nack was seen by the ballot's own node, to which such Nacks go.
use Rattle.std.specs.Prelude.{◌≡◌, ℕ, List, Option, Some, None}
use Rattle.sc_base.specs.Definitions.{Each}
use Rattle.sc_node_table.specs.Values.{Ballot, Base, Mail, Nack, Seat}
use Rattle.sc_actor.specs.Definitions.{mails}
use Rattle.sc_words.specs.paxos.PaxosDefinitions.{IsAtLeast}
use Rattle.sc_node_table.specs.NodeDefinitions.{ReplicaState, first_ballot}
use Rattle.sc_meaning.specs.sound.SoundDefinitions.{Player}
use Rattle.sc_live_steps.specs.calm.CalmDefinitions.{players, Rows}
use Rattle.sc_live_steps.specs.following.FollowingDefinitions.{Mark, Asks, Votes, Teaches, Installs, Prepares, Promises}
use Rattle.sc_live_journals.specs.rows.RowDefinitions.{view_at, marks_at, promise_in}

-- the greatest ballot that a replica saw, or the group's first where there is no replica
abbrev pub top_in : Base → Option ReplicaState → Ballot
top_in base None = first_ballot base.core
top_in base (Some r) = r.top

-- the node of the ballot has seen a ballot that is at least as great
abbrev pub IsSeen : List (Seat Player) → Rows → Base → Ballot → Type 0
IsSeen births rows base ballot = IsAtLeast (top_in base (view_at births rows base.core.id ballot.node)) ballot

-- if the mark asks to promise a ballot, the node of that ballot has seen it
abbrev pub AsksSeen : List (Seat Player) → Rows → Base → Mark → Type 0
AsksSeen births rows base (Prepares ballot) = IsSeen births rows base ballot
AsksSeen births rows base (Asks ballot slot) = Unit {0}
AsksSeen births rows base (Votes node ballot slot) = Unit {0}
AsksSeen births rows base (Teaches slot) = Unit {0}
AsksSeen births rows base (Installs slot) = Unit {0}
AsksSeen births rows base (Promises node ballot) = Unit {0}

-- if the mail is a Nack of the group, it goes to the node of the ballot that it names, which has seen that ballot
abbrev pub RefusesSeen : List (Seat Player) → Rows → Base → Mail → Type 0
RefusesSeen births rows base mail = (promised : Ballot) → mail.body ≡ Nack base.core.id promised → (mail.to ≡ promised.node) × IsSeen births rows base promised

-- each ballot that a node has promised, is asked to promise, or finds in a Nack was seen by the ballot's node; and every node has seen the group's first ballot
pub record AreSeen (words : ℕ → ℕ → ℕ × ℕ) (births : List (Seat Player)) (rows : Rows) (base : Base) : Type 0 where
  pub first : (who : ℕ) → IsAtLeast (top_in base (view_at births rows base.core.id who)) (first_ballot base.core)
  pub promised : (who : ℕ) → IsSeen births rows base (promise_in base (view_at births rows base.core.id who))
  pub asked : (who : ℕ) → Each (AsksSeen births rows base) (marks_at (players words births) rows base.core.id who)
  pub refused : Each (RefusesSeen births rows base) (mails rows)
