-- Promises and votes: what a replica does with a Prepare, Promise, Accept, Accepted and Nack (Paxos Made Simple, section 2.2).
use Rattle.std.specs.Prelude.{ℕ, ◌==◌, ◌&&◌, nat_le, Bool, true, List, if◌then◌else◌, Option, Some, None}
use Rattle.sc_base.specs.declared.names.Ballot.{Ballot}
use Rattle.sc_base.specs.Definitions.{same_ballot}
use Rattle.sc_words.specs.declared.commands.commands.Command.{Command}
use Rattle.sc_mail.specs.declared.bodies.MailBody.TheVariants.{Promise, Accepted, Nack}
use Rattle.sc_words.specs.declared.paxos.reports.Report.{Report}
use Rattle.sc_words.specs.declared.paxos.answers.PrepareAnswer.{PrepareAnswer}
use Rattle.sc_words.specs.declared.paxos.answers.PrepareAnswer.TheVariants as Prepared
use Rattle.sc_words.specs.declared.paxos.answers.AcceptAnswer.{AcceptAnswer}
use Rattle.sc_words.specs.declared.paxos.answers.AcceptAnswer.TheVariants as Asked
use Rattle.sc_words.specs.declared.paxos.answers.Counted.{Counted}
use Rattle.sc_words.specs.declared.paxos.answers.Counted.TheVariants.{Chosen, NotYet}
use Rattle.sc_words.specs.paxos.PaxosDefinitions.{prepared, accepted as accepted_by, AcceptorState, LeaderState, promise_counted, counted}
use Rattle.sc_node_table.specs.Slots.{with_slot}
use Rattle.sc_node_table.specs.Replica.{ReplicaState, Place, Executed, childless, name_of, next, set_at}
use Rattle.sc_node_table.specs.Mails.{sent}
use Rattle.sc_node_table.specs.Election.{saw}
use Rattle.sc_node_table.specs.Execute.{executed, has_room}
use Rattle.sc_node_table.specs.Pump.{pumped}
use Rattle.sc_node_table.specs.Install.{install_to}

-- a replica that does not run takes the ballot's node for the leader
abbrev pub hinted : Ballot → ReplicaState → ReplicaState
hinted ballot r = if r.running then r else record r { hint = Some ballot.node }

-- the answer to a prepare is sent: a Promise, or a Nack
abbrev pub promise_to : ℕ → Ballot → PrepareAnswer Command × AcceptorState Command → Place → Place
promise_to from ballot (Prepared.Promise reports, acceptor) (r, mails) =
    (hinted ballot (record r { acceptor = acceptor }), sent r.me from (Promise (name_of r) ballot reports) mails)
promise_to from ballot (Prepared.Ignored promised, acceptor) (r, mails) =
    (record r { acceptor = acceptor }, sent r.me from (Nack (name_of r) promised) mails)

-- a prepare is answered from a slot above the floor; for a slot that is forgotten the executed state is sent
unfoldable pub promised : ℕ → Ballot → ℕ → Place → Place
promised from ballot from_slot (r, mails) =
    if nat_le from_slot r.acceptor.floor then install_to from (r, mails)
    else promise_to from ballot (prepared ballot from_slot r.acceptor) (r, mails)

-- what a replica does with a Prepare (phase 1b)
unfoldable pub prepare_row : ℕ → Ballot → ℕ → Place → Place
prepare_row from ballot from_slot place = promised from ballot from_slot (saw ballot place)

-- the answer to an accept is sent: Accepted, or a Nack
abbrev pub accepted_to : ℕ → Ballot → ℕ → AcceptAnswer × AcceptorState Command → Place → Place
accepted_to from ballot slot (Asked.Accepted, acceptor) (r, mails) =
    (hinted ballot (record r { acceptor = acceptor }), sent r.me from (Accepted (name_of r) ballot slot) mails)
accepted_to from ballot slot (Asked.Ignored promised, acceptor) (r, mails) =
    (record r { acceptor = acceptor }, sent r.me from (Nack (name_of r) promised) mails)

-- an accept is answered at a slot above the floor; for a slot that is forgotten the executed state is sent
unfoldable pub took : ℕ → Report Command → Place → Place
took from report (r, mails) =
    if nat_le report.slot r.acceptor.floor then install_to from (r, mails)
    else accepted_to from report.ballot report.slot (accepted_by report r.acceptor) (r, mails)

-- what a replica does with an Accept (phase 2b)
unfoldable pub accept_row : ℕ → Ballot → ℕ → Command → Place → Place
accept_row from ballot slot command place = took from (record { slot = slot; ballot = ballot; value = command }) (saw ballot place)

-- whether a replica runs with this ballot
abbrev pub leads : Ballot → ReplicaState → Bool
leads ballot r = r.running && same_ballot ballot r.leader.ballot

-- what a replica does with a Promise of the ballot with which it runs: it counts the promise of each node once, and tries the pump
unfoldable pub promise_row : ℕ → Ballot → List (Report Command) → Place → Place
promise_row from ballot reports (r, mails) =
    if leads ballot r then pumped (record r { leader = (promise_counted from ballot reports r.leader).1 }, mails) else (r, mails)

-- a command that a majority has accepted is ready, and is executed where its slot is the next one
unfoldable pub readied : ℕ → Command → Place → Executed
readied slot command (r, mails) =
    let after : ReplicaState = record r { ready = with_slot r.ready slot command } in
    if (slot == next r) && has_room r then executed true command (after, mails) else childless (after, mails)

-- a replica after a counted vote: the command is chosen, or not yet
abbrev pub vote_tallied : ℕ → Counted Command × LeaderState Command → Place → Executed
vote_tallied slot (Chosen command, leader) (r, mails) = readied slot command (record r { leader = leader }, mails)
vote_tallied slot (NotYet count, leader) (r, mails) = childless (record r { leader = leader }, mails)

-- a vote at an open slot is counted among that slot's members
abbrev pub voted : ℕ → Ballot → ℕ → Option (List ℕ) → Place → Executed
voted from ballot slot None place = childless place
voted from ballot slot (Some set) (r, mails) = vote_tallied slot (counted from ballot slot set r.leader) (r, mails)

-- what a replica does with an Accepted: it counts a vote in the ballot with which it runs
unfoldable pub accepted_row : ℕ → Ballot → ℕ → Place → Executed
accepted_row from ballot slot (r, mails) = if leads ballot r then voted from ballot slot (set_at slot r) (r, mails) else childless (r, mails)

-- what a replica does with a Nack
unfoldable pub nack_row : Ballot → Place → Place
nack_row promised place = saw promised place
