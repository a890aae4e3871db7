-- A mail that is passed by makes no child.
use Rattle.std.proofs.Common.{◌≡◌, ℕ, Bool, true, false, ◌&&◌, ◌||◌, ◌==◌, not, nat_lt, List, [], Option, Some, None, refl, arith, get_or, subst, if◌then◌else◌}
use Rattle.std.proofs.lemmas.Bool.{ltb-true, ne_eqb}
use Rattle.sc_base.specs.declared.names.Ballot.{Ballot}
use Rattle.sc_base.specs.declared.names.Draw.{Draw}
use Rattle.sc_words.specs.declared.commands.commands.Command.{Command}
use Rattle.sc_mail.specs.declared.bodies.Mail.{Mail}
use Rattle.sc_mail.specs.declared.bodies.MailBody.{MailBody}
use Rattle.sc_mail.specs.declared.bodies.MailBody.TheVariants.{Request, Prepare, Promise, Accept, Accepted, Nack, Learn, Ask, Install, Answer, TxPrepare, TxVote, TxOutcome, TxElsewhere, TxWatch, TxWatched, Told}
use Rattle.sc_words.specs.declared.paxos.answers.Counted.{Counted}
use Rattle.sc_words.specs.declared.paxos.answers.Counted.TheVariants.{Chosen, NotYet}
use Rattle.sc_words.specs.paxos.Leaders.{LeaderState}
use Rattle.sc_words.specs.paxos.Votes.{counted}
use Rattle.sc_node_table.specs.Replica.{ReplicaState, Executed, next, set_at, last_slot}
use Rattle.sc_node_table.specs.Rows.{learn_row, mailed}
use Rattle.sc_node_table.specs.Voting.{leads, vote_tallied, voted, accepted_row}
use Rattle.sc_node.specs.PassedInputs.{is_short, readies_none, IsPassedBy, IsPassedByOne}
use Rattle.sc_node.specs.Places.{StandsAt}
use Rattle.sc_node_table.specs.Node.{NodeState, replica_of}

-- a count without a majority
tallied : (slot : ℕ) (r : ReplicaState) (mails : List Mail) (count : Counted Command × LeaderState Command) → not (is_short count.0) ≡ false → (vote_tallied slot count (r, mails)).1 ≡ []
tallied slot r mails (Chosen command, leader) h = absurd (cc)
tallied slot r mails (NotYet count, leader) h = refl

accepted_by : (b : Bool) (from : ℕ) (ballot : Ballot) (slot : ℕ) (set : Option (List ℕ)) (r : ReplicaState) (mails : List Mail) → (b && not (readies_none from ballot slot set r)) ≡ false
    → (if b then voted from ballot slot set (r, mails) else ((r, mails), [])).1 ≡ []
accepted_by false from ballot slot set r mails h = refl
accepted_by true from ballot slot None r mails h = refl
accepted_by true from ballot slot (Some set) r mails h = tallied slot r mails (counted from ballot slot set r.leader) h

-- a learnt command that is neither executed nor asked for
either_none : (b : Bool) (x y : Executed) → x.1 ≡ [] → y.1 ≡ [] → (if b then x else y).1 ≡ []
either_none true x y p q = p
either_none false x y p q = q

learnt_by : (late same : Bool) (x y z : Executed) → (late ≡ false → same ≡ false) → x.1 ≡ [] → z.1 ≡ [] → (if late then x else if same then y else z).1 ≡ []
learnt_by true same x y z other p q = p
learnt_by false true x y z other p q = let no = other refl in absurd (cc)
learnt_by false false x y z other p q = q

is_before : (late : Bool) (slot next : ℕ) → (late || nat_lt slot next) ≡ true → late ≡ false → (slot == next) ≡ false
is_before true slot next h e = absurd (cc)
is_before false slot next h e = ne_eqb slot next (λ same. omega (arith, same, ltb-true slot next h))

pub passed_childless : (from : ℕ) (body : MailBody) (r : ReplicaState) (mails : List Mail) → IsPassedBy from body r → (mailed from body (r, mails)).1 ≡ []
unfolding mailed accepted_row learn_row
passed_childless from (Request group client seq op) r mails h = refl
passed_childless from (Prepare group ballot from_slot) r mails h = refl
passed_childless from (Promise group ballot reports) r mails h = refl
passed_childless from (Accept group ballot slot command) r mails h = refl
passed_childless from (Accepted group ballot slot) r mails h = accepted_by (leads ballot r) from ballot slot (set_at slot r) r mails h
passed_childless from (Nack group promised) r mails h = refl
passed_childless from (Learn group slot command) r mails h =
    learnt_by (nat_lt last_slot slot) (slot == next r) _ _ _ (is_before (nat_lt last_slot slot) slot (next r) h) refl (either_none (nat_lt (next r) slot) _ _ refl refl)
passed_childless from (Ask group from_slot) r mails h = refl
passed_childless from (Install group slot base sets) r mails h = refl
passed_childless from (Answer group seq answer) r mails h = refl
passed_childless from (TxPrepare tx offer) r mails h = refl
passed_childless from (TxVote tx coord part vote) r mails h = refl
passed_childless from (TxOutcome tx part outcome) r mails h = refl
passed_childless from (TxElsewhere tx coord hint) r mails h = refl
passed_childless from (TxWatch tx watch) r mails h = refl
passed_childless from (TxWatched tx coord part vote) r mails h = refl
passed_childless from (Told order result) r mails h = refl

-- a mail that the node passes by is passed by by the replica at the place of its group
pub passed-at : (group : Draw) (from : ℕ) (body : MailBody) (node : NodeState) (n : ℕ) (d : ReplicaState) → StandsAt group node.replicas n
    → IsPassedByOne (replica_of group node.replicas) node.me from body → IsPassedBy from body (get_or node.replicas n d)
passed-at group from body node n d stands p = subst (λ o. IsPassedByOne o node.me from body) (stands.found d) p
