-- What the steps of one group say of its decided log: one value per slot, a log that only grows, and replicas that have executed a prefix of it.
use Rattle.std.proofs.Common.{◌≡◌, ℕ, ◌+◌, List, ◌++◌, length, drop, sym, ◌∙◌, ap, subst}
use Rattle.std.proofs.lemmas.List.{take-append-drop}
use Rattle.sc_node_table.specs.Values.{Command, Base}
use Rattle.sc_node_table.specs.NodeDefinitions.{ReplicaState}
use Rattle.sc_paxos_law.specs.PaxosLawDefinitions.{IsChosenAfter, IsLog, IsLawfulHistory}
use Rattle.sc_paxos_law.proofs.Lemmas.{one_value_per_slot, log_of-longest}
use Rattle.sc_meaning.specs.sound.SoundDefinitions.{Ahead, Continues, HasRun, accepts, IsChosenIn, decided_log}
use Rattle.sc_group_table.specs.machine.MachineDefinitions.{state_after}
use Rattle.sc_law_groups.proofs.GroupProofs.Invariant.{Steps, rule, first, birth, IsReplica, next_after}
use Rattle.sc_law_groups.proofs.GroupProofs.Projected.{only, only_steps, log_from_only, after_from_only, log_to_only}
use Rattle.sc_law_groups.proofs.GroupProofs.FirstRows.{Journal}
use Rattle.sc_law_groups.proofs.GroupProofs.Families.{h_of, decided_is}
use Rattle.sc_law_groups.proofs.GroupProofs.LoggedReplies.{prefix_is}

module _ (ahead : Ahead) (base : Base) (rows : Journal) (lawful : IsLawfulHistory (rule ahead base) (first ahead base) (h_of rows base)) where
  abbrev h : Steps
  h = h_of rows base

  abbrev log : List Command
  log = decided_log ahead base rows

  accepted_are : only h ≡ accepts base.core.id rows
  accepted_are = only_steps base.core.id rows

  log_of_steps : (l : List Command) → IsLog (rule ahead base) (accepts base.core.id rows) l → IsLog (rule ahead base) h l
  log_of_steps l fact = log_from_only (rule ahead base) h l (subst (λ g. IsLog (rule ahead base) g l) (sym accepted_are) fact)

  chosen_of_steps : (l : List Command) (slot : ℕ) (c : Command) → IsChosenIn ahead base rows l slot c → IsChosenAfter (rule ahead base) h l slot c
  chosen_of_steps l slot c fact = after_from_only (rule ahead base) h l slot c (subst (λ g. IsChosenAfter (rule ahead base) g l slot c) (sym accepted_are) fact)

  steps_log : IsLog (rule ahead base) h log
  steps_log = subst (IsLog (rule ahead base) h) (sym (decided_is ahead base rows)) (log_of-longest (rule ahead base) (first ahead base) h lawful).0

  -- no two commands are chosen at one slot
  pub one_value : (l other : List Command) → IsLog (rule ahead base) (accepts base.core.id rows) l → IsLog (rule ahead base) (accepts base.core.id rows) other
      → (slot : ℕ) (c d : Command) → IsChosenIn ahead base rows l (slot + 1) c → IsChosenIn ahead base rows other (slot + 1) d → c ≡ d
  one_value l other is_l is_other slot c d chosen_c chosen_d =
      one_value_per_slot (rule ahead base) (first ahead base) h lawful l other (log_of_steps l is_l) (log_of_steps other is_other) slot c d
      (chosen_of_steps l (slot + 1) c chosen_c) (chosen_of_steps other (slot + 1) d chosen_d)

  -- the decided log is one
  pub is_log : IsLog (rule ahead base) (accepts base.core.id rows) log
  is_log = subst (λ g. IsLog (rule ahead base) g log) accepted_are (log_to_only (rule ahead base) h log steps_log)

  -- each other log is a prefix of it
  pub longest : (other : List Command) → IsLog (rule ahead base) (accepts base.core.id rows) other → Continues other log
  longest other fact =
      let prefix = prefix_is ahead base rows lawful other (log_of_steps other fact) in
      (drop (length other) log, sym (take-append-drop (length other) log) ∙ ap (λ xs. xs ++ drop (length other) log) prefix.1)

  -- a replica has executed a prefix of it
  pub executed_is : (made : Command → Type 0) (n : ℕ) (r : ReplicaState) → IsReplica ahead base made h n r → HasRun ahead base rows r
  executed_is made n r fact =
      let prefix = prefix_is ahead base rows lawful fact.whole fact.log_is.is_log in
      record {
        count = length fact.whole;
        within = prefix.0;
        next_is = next_after ahead base made h n r fact;
        entries = fact.log_is.entries_are ∙ ap (drop r.log.base) (sym prefix.1);
        group_is = fact.log_is.group_is ∙ ap (state_after (birth ahead base)) (sym prefix.1);
      }
