-- Where no mail is pending, a settled replica of which the votes of living members were under way is idle.
use Rattle.std.proofs.Common.{◌≡◌, ℕ, ◌+◌, ◌<◌, ◌≤◌, eqb, Bool, true, true≢false, List, [], ◌∷◌, Some, inl, inr, refl, sym, ◌∙◌, ap, subst, arith}
use Rattle.std.proofs.lemmas.Bool.{cases_lt, eq-eqb}
use Rattle.sc_base.specs.Definitions.{Among, Each, is_member}
use Rattle.sc_paxos_law.proofs.Lemmas.{among-member}
use Rattle.sc_words.proofs.PaxosProofs.PaxosLemmas.{Each-among}
use Rattle.sc_node_table.specs.Values.{Ballot, Base, Command, Flight, Report}
use Rattle.sc_words.specs.paxos.PaxosDefinitions.{kept_voters}
use Rattle.sc_node_table.specs.NodeDefinitions.{NodeState, ReplicaState, replica_of, next, settled, last_slot}
use Rattle.sc_live_plain.proofs.PlainLemmas.{count-cons, entries_at, flights_at, in_range, range_yes, one_yes, one_if}
use Rattle.sc_live_healed.specs.HealedDefinitions.{IsFixedReplica, IsUndecided, TakesSlots, HasVoted, IsAnswered, Accepts, Refuses, Installs, IsVoteUnderWay, Counted, Asked, Answered, VotesAreUnderWay, LivingMajority, IsIdle}
use Rattle.sc_live_healed.proofs.ExecutedSlots.{range_none}
use Rattle.sc_live_healed.proofs.LivingMajorities.{living_decide}

-- a vote that no mail carries is counted
quiet_answer : (base : Base) (member lead : ℕ) (ballot : Ballot) (slot : ℕ) → IsAnswered [] base member lead ballot slot → ⊥
quiet_answer base member lead ballot slot (Accepts a) = a
quiet_answer base member lead ballot slot (Refuses promised low a) = a
quiet_answer base member lead ballot slot (Installs last sent sets up near a) = a

quiet_vote : (base : Base) (lead : ℕ) (ballot : Ballot) (flight : Flight Command) (member : ℕ) → IsVoteUnderWay [] base lead ballot flight member → HasVoted member flight
quiet_vote base lead ballot flight member (Counted voted) = voted
quiet_vote base lead ballot flight member (Asked command a) = absurd a
quiet_vote base lead ballot flight member (Answered a) = absurd (quiet_answer base member lead ballot flight.slot a)

module _ (base : Base) (r : ReplicaState) (fixed : IsFixedReplica base r) (takes : TakesSlots base r) (lives : ℕ → Bool) (most : LivingMajority lives base.core.members)
    (votes : (flight : Flight Command) → Among flight r.leader.flights → (member : ℕ) → is_member base.core.members member ≡ true → lives member ≡ true → HasVoted member flight) where
  -- each command in flight would be decided
  none_flies : (flights : List (Flight Command)) → r.leader.flights ≡ flights → flights ≡ []
  none_flies [] e = refl
  none_flies (flight ∷ flights) e =
      let here : Among flight r.leader.flights = subst (Among flight) (sym e) (inl refl) in
      let u = Each-among (IsUndecided base) r.leader.flights flight takes.undecided here in
      absurd (true≢false (sym (living_decide lives base.core.members (kept_voters flight.voters) most (λ member a l. votes flight here member (among-member base.core.members member a) l)) ∙ u.undecided))

  flights_none : r.leader.flights ≡ []
  flights_none = none_flies r.leader.flights refl

  -- so no slot is taken
  none_taken : takes.taken ≡ 0
  none_taken =
      let flights : flights_at (next r) r.leader.flights ≡ 0 = ap (flights_at (next r)) flights_none in
      let ready = takes.executed in
      let once = takes.slots.once (next r) in
      elim (cases_lt 0 takes.taken) [
        | inl up ↦ (let one = one_yes (in_range (next r) takes.taken (next r)) (range_yes (next r) takes.taken (next r) (omega arith) (omega (arith, up))) in absurd (omega (arith, flights, ready, once, one)))
        | inr none ↦ omega (arith, none)
      ]

  -- and nothing is ready
  none_ready : (ready : List (ℕ × Command)) → r.ready ≡ ready → ready ≡ []
  none_ready [] e = refl
  none_ready (entry ∷ ready) e =
      let c = count-cons (λ (x : ℕ × Command). eqb x.0 entry.0) entry ready in
      let here = one_yes (eqb entry.0 entry.0) (eq-eqb entry.0 entry.0 refl) in
      let flights : flights_at entry.0 r.leader.flights ≡ 0 = ap (flights_at entry.0) flights_none in
      let same : entries_at entry.0 r.ready ≡ entries_at entry.0 (entry ∷ ready) = ap (λ (es : List (ℕ × Command)). entries_at entry.0 es) e in
      let once = takes.slots.once entry.0 in
      let none = ap (λ t. one_if (in_range (next r) t entry.0)) none_taken ∙ range_none (next r) entry.0 in
      absurd (omega (arith, c, here, flights, same, once, none))

  idle_where_decided : settled r ≡ true → next r ≤ last_slot → IsIdle r
  idle_where_decided on near =
      let none = none_taken in
      elim (takes.offered on near) [
        | inl all ↦ absurd (omega (arith, none, all))
        | inr done ↦ record {
          flights = flights_none;
          ready = none_ready r.ready refl;
          backlog = done.0;
          acts = fixed.acts;
          reports = (let same : next r + takes.taken ≡ next r = omega (arith, none) in subst (λ n. Each (λ (report : Report Command). report.slot < n) r.leader.reports) same done.1);
        }
      ]

-- A settled replica is idle where no mail is pending and the votes of its living members, who are more than half, were counted or under way.
pub quiet_replicas_idle : (bases : List Base) (lives : ℕ → Bool) (node : NodeState) (base : Base) (r : ReplicaState) → Among base bases → replica_of base.core.id node.replicas ≡ Some r → IsFixedReplica base r → TakesSlots base r → LivingMajority lives base.core.members
    → VotesAreUnderWay bases (λ who. lives who ≡ true) [] node → settled r ≡ true → next r ≤ last_slot → IsIdle r
quiet_replicas_idle bases lives node base r a e fixed takes most votes on near =
    idle_where_decided base r fixed takes lives most (λ flight f member in_ l. quiet_vote base node.me r.leader.ballot flight member (votes base a r e flight f member in_ l)) on near
