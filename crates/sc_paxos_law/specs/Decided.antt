-- The decided log of a history, computed.
use Rattle.std.specs.Prelude.{ℕ, zero, suc, ◌+◌, ◌==◌, ◌&&◌, max, List, [], ◌∷◌, ◌++◌, length, if◌then◌else◌, Option, Some, None}
use Rattle.sc_base.specs.declared.names.Ballot.{Ballot}
use Rattle.sc_base.specs.Definitions.{is_majority, same_ballot}
use Rattle.std.specs.Option.{option_map}
use Rattle.sc_words.specs.paxos.PaxosDefinitions.{below}
use Rattle.sc_words.specs.declared.paxos.reports.Report.{Report}
use Rattle.sc_paxos_law.specs.Steps.{Step, Prepared, Promised, Offered, Accepted, Cut}
use Rattle.sc_paxos_law.specs.Chosen.{Rule, members_of}

-- the nodes that accepted at a slot in a ballot
abbrev pub voters_of : {V : Type 0} → List (Step V) → Ballot → ℕ → List ℕ
voters_of [] ballot slot = []
voters_of (Prepared b from ∷ older) ballot slot = voters_of older ballot slot
voters_of (Promised n b from reports ∷ older) ballot slot = voters_of older ballot slot
voters_of (Offered b s value ∷ older) ballot slot = voters_of older ballot slot
voters_of (Accepted n b s value ∷ older) ballot slot =
    if same_ballot b ballot && (s == slot) then n ∷ voters_of older ballot slot else voters_of older ballot slot
voters_of (Cut n upto ∷ older) ballot slot = voters_of older ballot slot

-- of this acceptance and the one found among older steps, if there is one, that with the lesser ballot
abbrev pub lesser_of : {V : Type 0} → Report V → Option (Report V) → Report V
lesser_of here None = here
lesser_of here (Some least) = if below least.ballot here.ballot then least else here

-- among these steps, the acceptance at the slot with the least ballot in which a majority of the members accepted there in the whole history
abbrev pub found_in : {V : Type 0} → List ℕ → List (Step V) → ℕ → List (Step V) → Option (Report V)
found_in members all slot [] = None
found_in members all slot (Prepared b from ∷ older) = found_in members all slot older
found_in members all slot (Promised n b from reports ∷ older) = found_in members all slot older
found_in members all slot (Offered b s value ∷ older) = found_in members all slot older
found_in members all slot (Accepted n b s value ∷ older) =
    if (s == slot) && is_majority members (voters_of all b slot)
    then Some (lesser_of (record { slot = s; ballot = b; value = value }) (found_in members all slot older)) else found_in members all slot older
found_in members all slot (Cut n upto ∷ older) = found_in members all slot older

-- the value chosen at a slot, if one is; of two, that of the least ballot
abbrev pub chosen_at : {V : Type 0} → List ℕ → List (Step V) → ℕ → Option V
chosen_at members h slot = option_map (λ report. report.value) (found_in members h slot h)

-- the highest slot at which a value was accepted
abbrev pub top_slot : {V : Type 0} → List (Step V) → ℕ
top_slot [] = 0
top_slot (Prepared b from ∷ older) = top_slot older
top_slot (Promised n b from reports ∷ older) = top_slot older
top_slot (Offered b s value ∷ older) = top_slot older
top_slot (Accepted n b s value ∷ older) = max s (top_slot older)
top_slot (Cut n upto ∷ older) = top_slot older

-- the log with its next entries, at most `more` of them
abbrev pub with_next_entries : {V : Type 0} → Rule V → List (Step V) → ℕ → List V → List V
with_next_entries rule h zero log = log
with_next_entries rule h (suc more) log =
    elim (chosen_at (members_of rule log (length log + 1)) h (length log + 1)) [ None ↦ log | Some value ↦ with_next_entries rule h more (log ++ value ∷ []) ]

-- the decided log: the longest list whose entry k is chosen at slot k
abbrev pub log_of : {V : Type 0} → Rule V → List (Step V) → List V
log_of rule h = with_next_entries rule h (top_slot h) []
