-- The log grows entry by entry.
use Rattle.std.proofs.Common.{◌≡◌, ℕ, zero, suc, ◌+◌, List, [], ◌∷◌, ◌++◌, length, Option, Some, None, refl, ap}
use Rattle.sc_paxos_law.specs.Steps.{Step}
use Rattle.sc_paxos_law.specs.Chosen.{Rule, members_of}
use Rattle.sc_paxos_law.specs.Decided.{chosen_at, with_next_entries}

-- where nothing is chosen at the next slot it ends
pub with_next_entries-ends : {V : Type 0} (rule : Rule V) (h : List (Step V)) (more : ℕ) (log : List V) → chosen_at (members_of rule log (length log + 1)) h (length log + 1) ≡ None
    → with_next_entries rule h more log ≡ log
with_next_entries-ends rule h zero log e = refl
with_next_entries-ends {V} rule h (suc more) log e = ap (λ (o : Option V). elim o [ None ↦ log | Some value ↦ with_next_entries rule h more (log ++ value ∷ []) ]) e

-- else it goes on with what is chosen there
pub with_next_entries-grows : {V : Type 0} (rule : Rule V) (h : List (Step V)) (more : ℕ) (log : List V) (value : V) → chosen_at (members_of rule log (length log + 1)) h (length log + 1) ≡ Some value
    → with_next_entries rule h (suc more) log ≡ with_next_entries rule h more (log ++ value ∷ [])
with_next_entries-grows {V} rule h more log value e = ap (λ (o : Option V). elim o [ None ↦ log | Some v ↦ with_next_entries rule h more (log ++ v ∷ []) ]) e
