-- A reply of a group's log is that of an entry that its history has.
use Rattle.std.proofs.Common.{◌≡◌, ◌≤◌, List, length, take, sym, subst}
use Rattle.sc_node_table.specs.Values.{Command, Base}
use Rattle.sc_paxos_law.specs.PaxosLawDefinitions.{IsLog, IsLawfulHistory}
use Rattle.sc_paxos_law.proofs.Lemmas.{prefix_of_log}
use Rattle.sc_meaning.specs.sound.SoundDefinitions.{Ahead, decided_log}
use Rattle.sc_law_groups.proofs.GroupProofs.Invariant.{rule, first}
use Rattle.sc_law_groups.proofs.GroupProofs.FirstRows.{Journal}
use Rattle.sc_law_groups.proofs.GroupProofs.Families.{h_of, decided_is}

module _ (ahead : Ahead) (base : Base) (rows : Journal) (lawful : IsLawfulHistory (rule ahead base) (first ahead base) (h_of rows base)) where
  abbrev log : List Command
  log = decided_log ahead base rows

  -- a log of the steps is a prefix of the decided one
  pub prefix_is : (l : List Command) → IsLog (rule ahead base) (h_of rows base) l → (length l ≤ length log) × (take (length l) log ≡ l)
  prefix_is l fact = subst (λ whole. (length l ≤ length whole) × (take (length l) whole ≡ l)) (sym (decided_is ahead base rows)) (prefix_of_log (rule ahead base) (first ahead base) (h_of rows base) lawful l fact)
