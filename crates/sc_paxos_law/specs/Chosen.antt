-- Chosen values and logs (Paxos Made Simple, sections 2.2 and 3).
use Rattle.std.specs.Prelude.{◌≡◌, ℕ, ◌+◌, ◌-◌, ◌≤◌, List, length, take, slice_get, Some}
use Rattle.sc_base.specs.declared.names.Ballot.{Ballot}
use Rattle.sc_base.specs.Definitions.{IsMajority, Among, Each}
use Rattle.sc_paxos_law.specs.Steps.{Step, Accepted}

-- a rule of membership: the members by some first entries of the log, and how many slots ahead of these entries they are valid
pub record Rule (V : Type 0) : Type 0 where
  pub ahead : ℕ
  pub some : 1 ≤ ahead
  pub members : List V → List ℕ

-- how many of the first entries determine the members of a slot
abbrev pub needed : {V : Type 0} → Rule V → ℕ → ℕ
needed rule slot = slot - rule.ahead

-- the members of a slot by a log
abbrev pub members_of : {V : Type 0} → Rule V → List V → ℕ → List ℕ
members_of rule log slot = rule.members (take (needed rule slot) log)

-- a value is chosen at a slot by these members: a majority of them accepted it in one ballot
pub record IsChosen {V : Type 0} (members : List ℕ) (h : List (Step V)) (slot : ℕ) (value : V) : Type 0 where
  pub ballot : Ballot
  pub voters : List ℕ
  pub each : Each (λ node. Among (Accepted node ballot slot value) h) voters
  pub majority : IsMajority members voters

-- a value is chosen at a slot whose members these entries determine
pub record IsChosenAfter {V : Type 0} (rule : Rule V) (h : List (Step V)) (log : List V) (slot : ℕ) (value : V) : Type 0 where
  pub known : needed rule slot ≤ length log
  pub chosen : IsChosen (members_of rule log slot) h slot value

-- a list is a log: each entry is chosen at its slot, by the members that the entries before it give; slots start at 1
abbrev pub IsLog : {V : Type 0} → Rule V → List (Step V) → List V → Type 0
IsLog {V} rule h log = (k : ℕ) (value : V) → slice_get log k ≡ Some value → IsChosenAfter rule h (take k log) (k + 1) value
