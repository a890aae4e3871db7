-- The steps of proposers and acceptors, and what an acceptor holds after them.
use Rattle.std.specs.Prelude.{ℕ, ◌==◌, List, [], ◌∷◌, if◌then◌else◌}
use Rattle.sc_base.specs.declared.names.Ballot.{Ballot}
use Rattle.sc_words.specs.declared.paxos.reports.Report.{Report}
use Rattle.sc_words.specs.paxos.PaxosDefinitions.{AcceptorState, born_acceptor, after_promise, after_accept, after_cut}

-- a step of one node. A message that is lost is one that no later step uses; one that is late, repeated or overtakes another is used later, again or earlier
pub data Step (V : Type 0) : Type 0 where
  -- a proposer asks for promises of its ballot that cover the slots not below `from`
  Prepared : (ballot : Ballot) (from : ℕ) → Step V
  -- an acceptor promises a ballot, and reports what it accepted at the slots not below `from`
  Promised : (node : ℕ) (ballot : Ballot) (from : ℕ) (reports : List (Report V)) → Step V
  -- a proposer asks to accept a value at a slot
  Offered : (ballot : Ballot) (slot : ℕ) (value : V) → Step V
  -- an acceptor accepts a value at a slot
  Accepted : (node : ℕ) (ballot : Ballot) (slot : ℕ) (value : V) → Step V
  -- an acceptor forgets the slots not above `upto`
  Cut : (node upto : ℕ) → Step V

-- the state of a node's acceptor after a history, which is a list of steps, newest first; at the start it has promised the first ballot
abbrev pub state_of : {V : Type 0} → Ballot → ℕ → List (Step V) → AcceptorState V
state_of first node [] = born_acceptor first
state_of first node (Prepared ballot from ∷ older) = state_of first node older
state_of first node (Promised n ballot from reports ∷ older) = if n == node then after_promise ballot (state_of first node older) else state_of first node older
state_of first node (Offered ballot slot value ∷ older) = state_of first node older
state_of first node (Accepted n ballot slot value ∷ older) =
    if n == node then after_accept (record { slot = slot; ballot = ballot; value = value }) (state_of first node older) else state_of first node older
state_of first node (Cut n upto ∷ older) = if n == node then after_cut upto (state_of first node older) else state_of first node older
