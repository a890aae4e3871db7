-- Laws of ballots, choices and acceptors.
use Rattle.std.specs.Prelude.{◌≡◌, ◌≢◌, ℕ, ◌<◌, true, false, List, ◌∷◌, ◌++◌, Some, None}
use Rattle.sc_base.specs.declared.names.Ballot.{Ballot}
use Rattle.sc_words.specs.declared.paxos.reports.Report.{Report}
use Rattle.sc_base.specs.Definitions.{Each}
use Rattle.sc_words.specs.paxos.Ballots.{below, IsAtLeast}
use Rattle.sc_words.specs.paxos.Choice.{choice}
use Rattle.sc_words.specs.paxos.Acceptors.{AcceptorState, IsWholeAcceptor, born_acceptor, last_at, may_promise, may_accept, after_promise, after_accept, after_cut}

-- ballots are in one strict total order: none is below itself, the order is transitive, and two ballots of which neither is below the other are equal
pub record BallotsAreOrdered : Type 0 where
  pub strict : (a : Ballot) → below a a ≡ false
  pub passed_on : (a b c : Ballot) → below a b ≡ true → below b c ≡ true → below a c ≡ true
  pub one : (a b : Ballot) → below a b ≡ false → below b a ≡ false → a ≡ b

-- the chosen report is in the list; the reports of its slot before it have lower ballots, and those after it no higher one
pub record IsFirstHighest {V : Type 0} (slot : ℕ) (reports : List (Report V)) (best : Report V) : Type 0 where
  pub before : List (Report V)
  pub after : List (Report V)
  pub stands : reports ≡ before ++ best ∷ after
  pub of_slot : best.slot ≡ slot
  pub lower : Each (λ report. report.slot ≡ slot → below report.ballot best.ballot ≡ true) before
  pub none_higher : Each (λ report. report.slot ≡ slot → IsAtLeast best.ballot report.ballot) after

-- the choice from reports is the first one with the highest ballot of the slot
abbrev pub ChoiceIsFirstHighest : Type 0 → Type 0
ChoiceIsFirstHighest V = (slot : ℕ) (reports : List (Report V)) (best : Report V) → choice slot reports ≡ Some best → IsFirstHighest slot reports best

-- there is no choice only where no report names the slot
abbrev pub NoChoiceWithoutReport : Type 0 → Type 0
NoChoiceWithoutReport V = (slot : ℕ) (reports : List (Report V)) → choice slot reports ≡ None → Each (λ report. report.slot ≢ slot) reports

-- the promise is never lowered, neither by a promise nor by an acceptance
pub record PromisesNeverFall (V : Type 0) : Type 0 where
  pub by_promise : (state : AcceptorState V) (ballot : Ballot) → may_promise state ballot ≡ true → IsAtLeast (after_promise ballot state).promised state.promised
  pub by_accept : (state : AcceptorState V) (report : Report V) → may_accept state report.ballot ≡ true → IsAtLeast (after_accept report state).promised state.promised

-- what an acceptor accepts at a slot has a ballot not below that of what it accepted there before
abbrev pub AcceptedBallotsNeverFall : Type 0 → Type 0
AcceptedBallotsNeverFall V = (state : AcceptorState V) (report older : Report V) → IsWholeAcceptor state → may_accept state report.ballot ≡ true
    → last_at report.slot state.accepted ≡ Some older → IsAtLeast report.ballot older.ballot

-- a new acceptor is well-formed, and stays so after promises, acceptances and cuts; what it accepts is then its last report of that slot, and its reports of other slots do not change
pub record AcceptorsStayWhole (V : Type 0) : Type 0 where
  pub at_birth : (first : Ballot) → IsWholeAcceptor {V = V} (born_acceptor first)
  pub by_promise : (state : AcceptorState V) (ballot : Ballot) → IsWholeAcceptor state → may_promise state ballot ≡ true → IsWholeAcceptor (after_promise ballot state)
  pub by_accept : (state : AcceptorState V) (report : Report V) → IsWholeAcceptor state → may_accept state report.ballot ≡ true → state.floor < report.slot → IsWholeAcceptor (after_accept report state)
  pub by_cut : (state : AcceptorState V) (upto : ℕ) → IsWholeAcceptor state → IsWholeAcceptor (after_cut upto state)
  pub accepted_here : (state : AcceptorState V) (report : Report V) → last_at report.slot (after_accept report state).accepted ≡ Some report
  pub accepted_elsewhere : (state : AcceptorState V) (report : Report V) (slot : ℕ) → slot ≢ report.slot → last_at slot (after_accept report state).accepted ≡ last_at slot state.accepted
