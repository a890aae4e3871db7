-- What proposers and acceptors may do (Paxos Made Simple, sections 2.2 and 3).
use Rattle.std.specs.Prelude.{◌≡◌, ℕ, ◌<◌, ◌≤◌, true, List, [], ◌∷◌, ◌⊎◌, length, map, IfSome}
use Rattle.std.specs.List.{flat_map}
use Rattle.sc_base.specs.declared.names.Ballot.{Ballot}
use Rattle.sc_base.specs.Definitions.{IsMajority, Among, Each}
use Rattle.sc_words.specs.declared.paxos.reports.Report.{Report}
use Rattle.sc_words.specs.paxos.PaxosDefinitions.{choice, may_promise, may_accept, reports_from}
use Rattle.sc_paxos_law.specs.Steps.{Step, Prepared, Promised, Offered, Accepted, Cut, state_of}
use Rattle.sc_paxos_law.specs.Chosen.{Rule, needed, members_of, IsLog}

-- a promise that a proposer has counted: its node, the first slot that it covers, and its reports
pub record CountedPromise (V : Type 0) : Type 0 where
  pub node : ℕ
  pub from : ℕ
  pub reports : List (Report V)

-- a proposer is elected for a value at a slot: a majority of the members promised its ballot, each for this slot among others, and where a report names the slot, the value is the choice from all reports that it counted, in the order of counting
pub record IsElected {V : Type 0} (members : List ℕ) (ballot : Ballot) (slot : ℕ) (value : V) (older : List (Step V)) : Type 0 where
  pub votes : List (CountedPromise V)
  pub made : Each (λ (vote : CountedPromise V). Among (Promised vote.node ballot vote.from vote.reports) older × (vote.from ≤ slot)) votes
  pub majority : IsMajority members (map (λ (vote : CountedPromise V). vote.node) votes)
  pub choice : IfSome (choice slot (flat_map (λ (vote : CountedPromise V). vote.reports) votes)) (λ best. best.value ≡ value)

-- a proposer may offer a value: it knows enough of the log for the slot's members, its ballot is the first or it is elected by these members, and the ballot offers no other value at the slot
pub record MayOffer {V : Type 0} (rule : Rule V) (first ballot : Ballot) (slot : ℕ) (value : V) (older : List (Step V)) : Type 0 where
  pub log : List V
  pub is_log : IsLog rule older log
  pub known : needed rule slot ≤ length log
  pub elected : (ballot ≡ first) ⊎ IsElected (members_of rule log slot) ballot slot value older
  pub only : (other : V) → Among (Offered ballot slot other) older → other ≡ value

-- a step is lawful after older ones: a promise is above the acceptor's promise, covers only slots that it has not forgotten, and reports what it accepted there; an acceptance is of an offered value, in a ballot not below the promise; an offer is as `MayOffer` says; prepares and cuts always are
abbrev pub IsLawfulStep : {V : Type 0} → Rule V → Ballot → Step V → List (Step V) → Type 0
IsLawfulStep rule first (Prepared ballot from) older = Unit {0}
IsLawfulStep rule first (Promised node ballot from reports) older =
    (may_promise (state_of first node older) ballot ≡ true) × ((state_of first node older).floor < from) × (reports ≡ reports_from from (state_of first node older).accepted)
IsLawfulStep rule first (Offered ballot slot value) older = MayOffer rule first ballot slot value older
IsLawfulStep rule first (Accepted node ballot slot value) older = (may_accept (state_of first node older) ballot ≡ true) × Among (Offered ballot slot value) older
IsLawfulStep rule first (Cut node upto) older = Unit {0}

-- each step of the history is lawful after the older ones
abbrev pub IsLawfulHistory : {V : Type 0} → Rule V → Ballot → List (Step V) → Type 0
IsLawfulHistory rule first [] = Unit {0}
IsLawfulHistory rule first (step ∷ older) = IsLawfulStep rule first step older × IsLawfulHistory rule first older
