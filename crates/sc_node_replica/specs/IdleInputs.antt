-- Inputs that leave a replica's queues as they are, or that it passes by: nothing is sent for them and nothing of them is copied, so they take no memory.
use Rattle.std.specs.Prelude.{◌≡◌, ℕ, ◌≤◌, ◌==◌, ◌||◌, nat_lt, not, Bool, true, false, List, [], length}
use Rattle.sc_mail.specs.declared.bodies.MailBody.{MailBody}
use Rattle.sc_mail.specs.declared.bodies.MailBody.TheVariants.{Request, Prepare, Promise, Accept, Accepted, Nack, Learn, Ask, Install, Answer, TxPrepare, TxVote, TxOutcome, TxElsewhere, TxWatch, TxWatched, Told}
use Rattle.sc_node_table.specs.Replica.{ReplicaState, next, last_slot}
use Rattle.sc_node_table.specs.Election.{saw}
use Rattle.sc_node_table.specs.Voting.{leads}

-- the queues of a replica after a step are those before it
abbrev pub KeepsQueues : ReplicaState → ReplicaState → Type 0
KeepsQueues before after = (after.backlog ≡ before.backlog) × (after.acts ≡ before.acts)

-- whether an Install is ignored: its slot is executed already or is above the last slot, or it does not have the members of as many slots as are open
abbrev pub ignores : ℕ → List (List ℕ) → ReplicaState → Bool
ignores slot sets r = not (length sets == length r.sets) || (nat_lt last_slot slot || nat_lt slot (next r))

-- a mail of a round of votes that a replica passes by, since nothing is sent for it and nothing of it is copied: a promise of another ballot than the one with which the replica runs, a Nack that sends nothing, an Ask from a slot that is not executed, an Install that is ignored
abbrev pub IsRoundPassedBy : MailBody → ReplicaState → Type 0
IsRoundPassedBy (Promise group ballot reports) r = leads ballot r ≡ false
IsRoundPassedBy (Nack group promised) r = (saw promised (r, [])).1 ≡ []
IsRoundPassedBy (Ask group from_slot) r = next r ≤ from_slot
IsRoundPassedBy (Install group slot base sets) r = ignores slot sets r ≡ true
IsRoundPassedBy (Request group client seq op) r = ⊥
IsRoundPassedBy (Prepare group ballot from_slot) r = ⊥
IsRoundPassedBy (Accept group ballot slot command) r = ⊥
IsRoundPassedBy (Accepted group ballot slot) r = ⊥
IsRoundPassedBy (Learn group slot command) r = ⊥
IsRoundPassedBy (Answer group seq answer) r = ⊥
IsRoundPassedBy (TxPrepare tx offer) r = ⊥
IsRoundPassedBy (TxVote tx coord part vote) r = ⊥
IsRoundPassedBy (TxOutcome tx part outcome) r = ⊥
IsRoundPassedBy (TxElsewhere tx coord hint) r = ⊥
IsRoundPassedBy (TxWatch tx watch) r = ⊥
IsRoundPassedBy (TxWatched tx coord part vote) r = ⊥
IsRoundPassedBy (Told order result) r = ⊥
