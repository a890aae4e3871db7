-- What an acceptor holds, and how it changes (Paxos Made Simple, sections 2.2 and 3).
use Rattle.std.specs.Prelude.{ℕ, ◌<◌, Bool, not, ◌==◌, nat_lt, nat_le, max, List, [], ◌∷◌, ◌++◌, filter, find, Option}
use Rattle.sc_base.specs.declared.names.Ballot.{Ballot}
use Rattle.sc_words.specs.declared.paxos.reports.Report.{Report}
use Rattle.sc_words.specs.paxos.Ballots.{below, IsAtLeast}
use Rattle.sc_base.specs.Definitions.{Each}

-- the state of an acceptor: its promise, the slot up to which it has forgotten what it accepted, and what it accepted last at each later slot
pub record AcceptorState (V : Type 0) : Type 0 where
  pub promised : Ballot
  pub floor : ℕ
  pub accepted : List (Report V)

-- a list of reports has strictly ascending slots
abbrev pub IsBySlot : {V : Type 0} → List (Report V) → Type 0
IsBySlot [] = Unit {0}
IsBySlot (report ∷ reports) = Each (λ later. report.slot < later.slot) reports × IsBySlot reports

-- an acceptor is well-formed: its reports ascend by slot, each is above the floor, and none has a ballot above the promise
pub record IsWholeAcceptor {V : Type 0} (state : AcceptorState V) : Type 0 where
  pub by_slot : IsBySlot state.accepted
  pub above : Each (λ report. state.floor < report.slot) state.accepted
  pub kept : Each (λ report. IsAtLeast state.promised report.ballot) state.accepted

-- a new acceptor: it has promised the group's first ballot and accepted nothing
abbrev pub born_acceptor : {V : Type 0} → Ballot → AcceptorState V
born_acceptor first = record { promised = first; floor = 0; accepted = [] }

-- the report of a slot: what was accepted there last, if anything was
abbrev pub last_at : {V : Type 0} → ℕ → List (Report V) → Option (Report V)
last_at slot accepted = find (λ report. report.slot == slot) accepted

-- the reports that answer a prepare: those of the slots not below `from`
abbrev pub reports_from : {V : Type 0} → ℕ → List (Report V) → List (Report V)
reports_from from accepted = filter (λ report. nat_le from report.slot) accepted

-- the reports with a new one in its place, which replaces that of its slot
abbrev pub with_report : {V : Type 0} → Report V → List (Report V) → List (Report V)
with_report new accepted = filter (λ report. nat_lt report.slot new.slot) accepted ++ new ∷ filter (λ report. nat_lt new.slot report.slot) accepted

-- whether an acceptor may promise a ballot: it is above its promise
abbrev pub may_promise : {V : Type 0} → AcceptorState V → Ballot → Bool
may_promise state ballot = below state.promised ballot

-- whether an acceptor may accept in a ballot: it is not below its promise
abbrev pub may_accept : {V : Type 0} → AcceptorState V → Ballot → Bool
may_accept state ballot = not (below ballot state.promised)

-- the state after a promise
abbrev pub after_promise : {V : Type 0} → Ballot → AcceptorState V → AcceptorState V
after_promise ballot state = record state { promised = ballot }

-- the state after an acceptance, which raises the promise to its ballot
abbrev pub after_accept : {V : Type 0} → Report V → AcceptorState V → AcceptorState V
after_accept report state = record state { promised = report.ballot; accepted = with_report report state.accepted }

-- the state after the acceptor has forgotten the slots not above `upto`
abbrev pub after_cut : {V : Type 0} → ℕ → AcceptorState V → AcceptorState V
after_cut upto state = record state { floor = max state.floor upto; accepted = filter (λ report. nat_lt upto report.slot) state.accepted }
