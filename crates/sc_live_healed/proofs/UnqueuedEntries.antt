-- An addition to what holds of a replica of a group that is not reshaped, which reads neither its queues nor its hint: it is kept by an entry that is a request or a Noop, where the entry itself and the mail about it keep it.
use Rattle.std.proofs.Common.{◌≡◌, ℕ, ◌+◌, Bool, true, cond, List, Some, Option, ◌∙◌, ap}
use Rattle.std.proofs.lemmas.Bool.{cond_both}
use Rattle.sc_node_table.specs.Values.{Ballot, Command, Base, AnswerBody, Mail, Learn}
use Rattle.sc_group_table.specs.machine.MachineDefinitions.{Group}
use Rattle.sc_words.specs.paxos.PaxosDefinitions.{below}
use Rattle.sc_node_table.specs.NodeDefinitions.{ended, stopped, entered, put_back, answer_to, sent, hinted, ReplicaState, Place, name_of, next}
use Rattle.sc_law_walks.proofs.Places.{cleared}
use Rattle.sc_law_walks.proofs.WalkLemmas.{either_way, back_any, entered_group, entered_next, entered_place, TableEntry, entry_holds}
use Rattle.sc_live_healed.proofs.FixedEntries.{unreported, unspoken, none_joined}
use Rattle.sc_live_healed.proofs.FixedParts.{applied_core}
use Rattle.sc_live_healed.specs.HealedDefinitions.{IsFixedCommand}

-- E reads neither queues nor hint, and is kept where the replica stops.
pub record Unqueued (E : Place → Type 0) : Type 0 where
  pub requeues : (acts backlog : List Command) (r : ReplicaState) (mails : List Mail) → E (r, mails) → E (record r { acts = acts; backlog = backlog }, mails)
  pub rehints : (hint : Option ℕ) (r : ReplicaState) (mails : List Mail) → E (r, mails) → E (record r { hint = hint }, mails)
  pub ends : (hint : Option ℕ) (answer : AnswerBody) (r : ReplicaState) (mails : List Mail) → E (r, mails) → E (ended hint answer (r, mails))

-- The entry of a command by this replica keeps E, and so does the mail about it.
pub record KeptEntry (E : Place → Type 0) (command : Command) (start : ReplicaState) : Type 0 where
  pub enters : (mails : List Mail) → next (entered command start) ≡ next start + 1 → E (start, mails) → E (entered command start, mails)
  pub answers : (client seq : ℕ) (answer : AnswerBody) (r : ReplicaState) (mails : List Mail) → E (r, mails) → E (r, answer_to r.me (name_of r) client seq answer mails)
  pub teaches : (to : ℕ) (r : ReplicaState) (mails : List Mail) → E (r, mails) → E (r, sent r.me to (Learn (name_of r) (next start) command) mails)
  pub clears : (place : Place) → E place → E (cleared (next start) place)

module _ (E : Place → Type 0) (u : Unqueued E) where
  -- a hint, where none is given to one that runs
  pub hints : (ballot : Ballot) (r : ReplicaState) (mails : List Mail) → E (r, mails) → E (hinted ballot r, mails)
  hints ballot r mails k = either_way (λ (x : ReplicaState). E (x, mails)) r.running r (record r { hint = Some ballot.node }) k (u.rehints (Some ballot.node) r mails k)

  -- a greater ballot is seen, and stops it
  pub overtakes : (ballot : Ballot) (r : ReplicaState) (mails : List Mail) → (below r.top ballot ≡ true → E (record r { top = ballot }, mails)) → E (r, mails) → E (stopped (Some ballot.node) (cond (below r.top ballot) (record r { top = ballot }) r, mails))
  overtakes ballot r mails higher k =
      cond_both (below r.top ballot) (record r { top = ballot }) r (λ (x : ReplicaState). E (stopped (Some ballot.node) (x, mails))) (λ t. u.ends (Some ballot.node) _ (record r { top = ballot }) mails (higher t)) (λ _. u.ends (Some ballot.node) _ r mails k)

  -- what goes back to a queue
  goes_back : (command : Command) (r : ReplicaState) (mails : List Mail) → E (r, mails) → E (put_back command r, mails)
  goes_back command r mails k = back_any (λ (x : ReplicaState). E (x, mails)) (λ x acts backlog q. u.requeues acts backlog x mails q) command r k

  module _ (base : Base) (counted : Bool) (command : Command) (start : ReplicaState) (fixed : IsFixedCommand base command) (same : start.group.core ≡ base.core) (e : KeptEntry E command start) where
    -- with the group's record
    abbrev Q : Place → Type 0
    Q place = E place × (place.0.group.core ≡ base.core)

    back_so : (other : Command) (r : ReplicaState) (mails : List Mail) → Q (r, mails) → Q (put_back other r, mails)
    back_so other r mails k = (goes_back other r mails k.0, back_any (λ (x : ReplicaState). x.group.core ≡ base.core) (λ x acts backlog q. q) other r k.1)

    entry_parts : TableEntry counted command start E Q
    entry_parts = record {
      Lost = λ other. Unit {0};
      entered = λ mails k. (e.enters mails (entered_next command start) k, ap (λ (group : Group). group.core) (entered_group command start) ∙ applied_core base command start.group fixed ∙ same);
      answers = λ client seq op answer r mails t fact a k. (e.answers client seq answer r mails k.0, k.1);
      returned = λ r mails t k. back_so command r mails k;
      reports = λ result r mails fact k. absurd (unreported base counted command start fixed same result fact);
      speaks = λ r mails k. unspoken base counted command start fixed same Q r mails k;
      teaches = λ to r mails t a k. (e.teaches to r mails k.0, k.1);
      installs = λ to r mails t new k. absurd (none_joined base counted command start fixed same r k.1 to new);
      repolls = λ to r mails t new k. absurd (none_joined base counted command start fixed same r k.1 to new);
      flies = λ other r mails fact k. tt;
      landed = λ place k. (e.clears place k.0, k.1);
      back = λ other r mails l k. back_so other r mails k;
    }

    pub entry_keeps : (mails : List Mail) → E (start, mails) → E (entered_place counted command (start, mails))
    entry_keeps mails k = (entry_holds counted command start E Q entry_parts mails k).0
