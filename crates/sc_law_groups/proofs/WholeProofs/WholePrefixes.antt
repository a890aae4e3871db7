-- The decided log of a group goes on from each log that its steps have chosen.
use Rattle.std.proofs.Common.{◌≡◌, List, ◌++◌, length, drop}
use Rattle.sc_node_table.specs.Values.{Command, Base}
use Rattle.sc_paxos_law.specs.PaxosLawDefinitions.{IsLog, IsLawfulHistory}
use Rattle.sc_meaning.specs.sound.SoundDefinitions.{Ahead, decided_log}
use Rattle.sc_law_groups.proofs.GroupProofs.GroupLemmas.{h_of, rule, first, Journal, split_at, prefix_is}

-- a log of the steps is a prefix of the decided one
pub goes_on_from : (ahead : Ahead) (base : Base) (rows : Journal) → IsLawfulHistory (rule ahead base) (first ahead base) (h_of rows base) → (log : List Command) → IsLog (rule ahead base) (h_of rows base) log
    → decided_log ahead base rows ≡ log ++ drop (length log) (decided_log ahead base rows)
goes_on_from ahead base rows lawful log fact = split_at (length log) log (decided_log ahead base rows) (prefix_is ahead base rows lawful log fact).1
