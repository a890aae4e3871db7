-- Laws of every lawful history.
use Rattle.std.specs.Prelude.{◌≡◌, ℕ, ◌+◌, ◌<◌, ◌≤◌, true, List, ◌∷◌, ◌++◌, length, take, map, filter, Some}
use Rattle.std.specs.List.{flat_map}
use Rattle.sc_base.specs.Definitions.{is_member, IsMajority, is_majority, Among, Each}
use Rattle.sc_base.specs.declared.names.Ballot.{Ballot}
use Rattle.sc_words.specs.declared.paxos.reports.Report.{Report}
use Rattle.sc_words.specs.declared.paxos.answers.PrepareAnswer.TheVariants.{Promise}
use Rattle.sc_words.specs.declared.paxos.answers.AcceptAnswer.TheVariants.{Accepted as Yes}
use Rattle.sc_words.specs.paxos.PaxosDefinitions.{IsAtLeast, AcceptorState, after_cut, prepared, accepted, LeaderState, Obeys, must}
use Rattle.sc_paxos_law.specs.Steps.{Step, Promised, Offered, Accepted, Cut, state_of}
use Rattle.sc_paxos_law.specs.Chosen.{Rule, IsChosen, IsChosenAfter, IsLog}
use Rattle.sc_paxos_law.specs.Lawful.{CountedPromise, IsElected, IsLawfulStep, IsLawfulHistory}
use Rattle.sc_paxos_law.specs.Decided.{chosen_at, log_of}

-- two values chosen at one slot, each by the members that its own log gives, are equal
abbrev pub OneValuePerSlot : Type 0 → Type 0
OneValuePerSlot V = (rule : Rule V) (first : Ballot) (h : List (Step V)) → IsLawfulHistory rule first h
    → (log other : List V) → IsLog rule h log → IsLog rule h other
    → (slot : ℕ) (v w : V) → IsChosenAfter rule h log (slot + 1) v → IsChosenAfter rule h other (slot + 1) w → v ≡ w

-- any two logs agree as far as both go
abbrev pub LogsAgree : Type 0 → Type 0
LogsAgree V = (rule : Rule V) (first : Ballot) (h : List (Step V)) → IsLawfulHistory rule first h
    → (log other : List V) → IsLog rule h log → IsLog rule h other → (n : ℕ) → n ≤ length log → n ≤ length other → take n log ≡ take n other

-- the computed log is a log, and each other log is a prefix of it
pub record LogIsLongest (V : Type 0) : Type 0 where
  pub is_log : (rule : Rule V) (first : Ballot) (h : List (Step V)) → IsLawfulHistory rule first h → IsLog rule h (log_of rule h)
  pub longest : (rule : Rule V) (first : Ballot) (h : List (Step V)) → IsLawfulHistory rule first h
      → (other : List V) → IsLog rule h other → (length other ≤ length (log_of rule h)) × (take (length other) (log_of rule h) ≡ other)

-- in any history, lawful or not, the value computed for a slot was accepted there in a ballot that is not above that of any value chosen there
abbrev pub LeastBallotStands : Type 0 → Type 0
LeastBallotStands V = (members : List ℕ) (h : List (Step V)) (slot : ℕ) (v : V) → chosen_at members h slot ≡ Some v
    → (ballot : Ballot) × ((node : ℕ) × Among (Accepted node ballot slot v) h) × ((w : V) (other : IsChosen members h slot w) → IsAtLeast other.ballot ballot)

-- with more steps the log keeps its entries, and may gain some at its end
abbrev pub LogOnlyGrows : Type 0 → Type 0
LogOnlyGrows V = (rule : Rule V) (first : Ballot) (newer h : List (Step V)) → IsLawfulHistory rule first (newer ++ h)
    → (length (log_of rule h) ≤ length (log_of rule (newer ++ h))) × (take (length (log_of rule h)) (log_of rule (newer ++ h)) ≡ log_of rule h)

-- what an acceptor answers by its contracts is a lawful step, after which it holds what the contracts say
pub record AcceptorsAreLawful (V : Type 0) : Type 0 where
  pub promise : (rule : Rule V) (first : Ballot) (h : List (Step V)) (node : ℕ) (ballot : Ballot) (from : ℕ) (reports : List (Report V)) (after : AcceptorState V)
      → (state_of first node h).floor < from → prepared ballot from (state_of first node h) ≡ (Promise reports, after)
      → IsLawfulStep rule first (Promised node ballot from reports) h × (state_of first node (Promised node ballot from reports ∷ h) ≡ after)
  pub accept : (rule : Rule V) (first : Ballot) (h : List (Step V)) (node : ℕ) (report : Report V) (after : AcceptorState V)
      → Among (Offered report.ballot report.slot report.value) h → accepted report (state_of first node h) ≡ (Yes, after)
      → IsLawfulStep rule first (Accepted node report.ballot report.slot report.value) h × (state_of first node (Accepted node report.ballot report.slot report.value ∷ h) ≡ after)
  pub cut : (rule : Rule V) (first : Ballot) (h : List (Step V)) (node upto : ℕ)
      → IsLawfulStep rule first (Cut node upto) h × (state_of first node (Cut node upto ∷ h) ≡ after_cut upto (state_of first node h))

-- a leader that holds these promises, of a majority of the slot's members, and proposes what it must, is elected
abbrev pub LeadersAreLawful : Type 0 → Type 0
LeadersAreLawful V = (members : List ℕ) (older : List (Step V)) (slot : ℕ) (value : V) (leader : LeaderState V) (votes : List (CountedPromise V))
    → leader.promisers ≡ map (λ (vote : CountedPromise V). vote.node) votes → leader.reports ≡ flat_map (λ (vote : CountedPromise V). vote.reports) votes
    → Each (λ (vote : CountedPromise V). Among (Promised vote.node leader.ballot vote.from vote.reports) older × (vote.from ≤ slot)) votes
    → is_majority members leader.promisers ≡ true → Obeys (must slot leader) value → IsElected members leader.ballot slot value older

-- a majority is still one without the votes of nodes that are no members
abbrev pub StrangersDoNotCount : Type 0
StrangersDoNotCount = (members voters : List ℕ) → IsMajority members voters → IsMajority members (filter (λ voter. is_member members voter) voters)
