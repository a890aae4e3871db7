-- What becomes of the votes for the commands that a replica has in flight.
use Rattle.std.specs.Prelude.{◌≡◌, ℕ, ◌≤◌, ◌<◌, true, List, Some}
use Rattle.sc_base.specs.Definitions.{Among, is_member}
use Rattle.sc_node_table.specs.Values.{Ballot, Base, Command, Flight, Mail, MailBody, Request, Answer, Prepare, Promise, Accept, Accepted, Nack, Learn, Ask, Install, TxPrepare, TxVote, TxOutcome, TxElsewhere, TxWatch, TxWatched, Told}
use Rattle.sc_words.specs.paxos.PaxosDefinitions.{kept_voters, below}
use Rattle.sc_node_table.specs.NodeDefinitions.{NodeState, ReplicaState, replica_of, next, last_slot}

-- the node's vote for a command in flight is counted
abbrev pub HasVoted : ℕ → Flight Command → Type 0
HasVoted node flight = is_member (kept_voters flight.voters) node ≡ true

-- where the mail is a vote for this command in flight, in this ballot, it is counted
abbrev pub Counts : ℕ → MailBody → Ballot → Flight Command → Type 0
Counts from (Accepted group seen slot) ballot flight = seen ≡ ballot → slot ≡ flight.slot → HasVoted from flight
Counts from (Request group client seq op) ballot flight = Unit {0}
Counts from (Answer group seq answer) ballot flight = Unit {0}
Counts from (Prepare group seen from_slot) ballot flight = Unit {0}
Counts from (Promise group seen reports) ballot flight = Unit {0}
Counts from (Accept group seen slot command) ballot flight = Unit {0}
Counts from (Nack group promised) ballot flight = Unit {0}
Counts from (Learn group slot command) ballot flight = Unit {0}
Counts from (Ask group from_slot) ballot flight = Unit {0}
Counts from (Install group slot base sets) ballot flight = Unit {0}
Counts from (TxPrepare tx offer) ballot flight = Unit {0}
Counts from (TxVote tx coord part vote) ballot flight = Unit {0}
Counts from (TxOutcome tx part outcome) ballot flight = Unit {0}
Counts from (TxElsewhere tx coord hint) ballot flight = Unit {0}
Counts from (TxWatch tx watch) ballot flight = Unit {0}
Counts from (TxWatched tx coord part vote) ballot flight = Unit {0}
Counts from (Told order result) ballot flight = Unit {0}

-- a command in flight was in flight at its slot before this mail from this node came: its votes are still counted, and so is the mail's, where it is one
pub record IsCarried (from : ℕ) (body : MailBody) (ballot : Ballot) (before : List (Flight Command)) (flight : Flight Command) : Type 0 where
  pub earlier : Flight Command
  pub among : Among earlier before
  pub same_slot : earlier.slot ≡ flight.slot
  pub kept : (node : ℕ) → HasVoted node earlier → HasVoted node flight
  pub counts : Counts from body ballot flight

-- a mail from one actor to another
abbrev pub mail_between : ℕ → ℕ → MailBody → Mail
mail_between from to body = record { from = from; to = to; body = body }

-- a member's answer to Accept of a slot in a ballot is among these mails: Accepted, a Nack of a greater promise, or an Install of a slot that is not before it
pub data IsAnswered (mails : List Mail) (base : Base) (member lead : ℕ) (ballot : Ballot) (slot : ℕ) : Type 0 where
  Accepts : Among (mail_between member lead (Accepted base.core.id ballot slot)) mails → IsAnswered mails base member lead ballot slot
  Refuses : (promised : Ballot) → below ballot promised ≡ true → Among (mail_between member lead (Nack base.core.id promised)) mails → IsAnswered mails base member lead ballot slot
  Installs : (last : ℕ) (sent : Base) (sets : List (List ℕ)) → slot ≤ last → last ≤ last_slot → Among (mail_between member lead (Install base.core.id last sent sets)) mails → IsAnswered mails base member lead ballot slot

-- a member's vote for a command in flight is counted, or it is asked for or answered by these mails
pub data IsVoteUnderWay (mails : List Mail) (base : Base) (lead : ℕ) (ballot : Ballot) (flight : Flight Command) (member : ℕ) : Type 0 where
  Counted : HasVoted member flight → IsVoteUnderWay mails base lead ballot flight member
  Asked : (command : Command) → Among (mail_between lead member (Accept base.core.id ballot flight.slot command)) mails → IsVoteUnderWay mails base lead ballot flight member
  Answered : IsAnswered mails base member lead ballot flight.slot → IsVoteUnderWay mails base lead ballot flight member

-- of each command in flight at a node's replicas of these groups, the vote of each member that is alive is counted or under way
abbrev pub VotesAreUnderWay : List Base → (ℕ → Type 0) → List Mail → NodeState → Type 0
VotesAreUnderWay bases alive mails node =
    (base : Base) → Among base bases → (r : ReplicaState) → replica_of base.core.id node.replicas ≡ Some r
    → (flight : Flight Command) → Among flight r.leader.flights → (member : ℕ) → is_member base.core.members member ≡ true → alive member → IsVoteUnderWay mails base node.me r.leader.ballot flight member

-- an acceptor has forgotten no slot that is not executed, and the next slot is not above the last one
pub record IsInBounds (r : ReplicaState) : Type 0 where
  pub floor : r.acceptor.floor < next r
  pub near : next r ≤ last_slot
