-- The chosen entries that a node has executed.
use Rattle.std.specs.Prelude.{ℕ, ◌+◌, ◌-◌, ◌==◌, nat_lt, max, List, [], ◌∷◌, ◌++◌, length, drop, slice_get, Option, None, if◌then◌else◌}
use Rattle.sc_words.specs.declared.paxos.answers.Learnt.{Learnt}
use Rattle.sc_words.specs.declared.paxos.answers.Learnt.TheVariants.{Learnt as Taken, Known, Ahead}

-- the state of a log: the slot after which it holds entries, and the entries of the slots from there on
pub record LogState (V : Type 0) : Type 0 where
  pub base : ℕ
  pub entries : List V

-- the log with no entries, whose first slot is 1
abbrev pub empty_log : {V : Type 0} → LogState V
empty_log = record { base = 0; entries = [] }

-- the slot after the last entry
abbrev pub next_of : {V : Type 0} → LogState V → ℕ
next_of log = log.base + length log.entries + 1

-- a log's answer to a chosen value, and the log after it: the entry of the next slot is appended, one of a lower slot is known already, and one of a greater slot has to wait
abbrev pub learnt : {V : Type 0} → ℕ → V → LogState V → Learnt × LogState V
learnt slot value log =
    if slot == next_of log then (Taken, record log { entries = log.entries ++ value ∷ [] })
    else if nat_lt slot (next_of log) then (Known, log)
    else (Ahead (next_of log), log)

-- the log that starts after a slot, with no entries
abbrev pub installed : {V : Type 0} → ℕ → LogState V
installed slot = record { base = slot; entries = [] }

-- the entry of a slot, if the log holds it
abbrev pub entry_at : {V : Type 0} → ℕ → LogState V → Option V
entry_at slot log = if nat_lt log.base slot then slice_get log.entries (slot - log.base - 1) else None

-- the log without the entries at slots not above `upto`
abbrev pub log_cut : {V : Type 0} → ℕ → LogState V → LogState V
log_cut upto log = record { base = max log.base upto; entries = drop (upto - log.base) log.entries }
