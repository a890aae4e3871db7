-- A leader all of whose votes are counted has nothing to do.
use Rattle.std.proofs.Common.{◌≡◌, ℕ, ◌+◌, ◌*◌, ◌<◌, ◌≤◌, eqb, Bool, true, false, List, [], ◌∷◌, length, count_by, Option, Some, inl, inr, refl, sym, ◌∙◌, ap, subst, arith}
use Rattle.std.specs.Option.{option_map}
use Rattle.std.proofs.lemmas.Bool.{cases_lt, eqb-true, eq-eqb, lt-ltb, both_ways}
use Rattle.sc_base.specs.Definitions.{Among, is_member, votes_of, is_majority}
use Rattle.sc_node_table.specs.Values.{Command, Call, Flight}
use Rattle.sc_words.specs.paxos.PaxosDefinitions.{kept_voters}
use Rattle.sc_words.proofs.PaxosProofs.PaxosLemmas.{Each-among, find_found}
use Rattle.sc_node_table.specs.NodeDefinitions.{ReplicaState, next}
use Rattle.sc_paxos_law.proofs.Lemmas.{among-member}
use Rattle.sc_live_plain.specs.PlainDefinitions.{voters_in, Frame, IsFrame, Requests, takers, IsPlainFlight, IsLeading}
use Rattle.sc_live_plain.proofs.PlainRowsProofs.SlotCounts.{one_yes, one_no, count-cons, find_some}
use Rattle.sc_live_plain.proofs.LeadersProofs.LeadingReplicas.{in_range, range_yes, range_before, range_behind, IsHeld}

count_among : {X : Type 0} (p : X → Bool) (xs : List X) (x : X) → Among x xs → p x ≡ true → 1 ≤ count_by p xs
count_among p [] x a t = absurd a
count_among p (y ∷ xs) x (inl same) t = (let c = count-cons p y xs in let one = one_yes (p y) (ap p same ∙ t) in omega (arith, c, one))
count_among p (y ∷ xs) x (inr a) t = (let c = count-cons p y xs in let more = count_among p xs x a t in omega (arith, c, more))

-- where all have voted, all votes are there
pub all_voted : (members voters : List ℕ) → ((node : ℕ) → Among node members → is_member voters node ≡ true) → votes_of members voters ≡ length members
all_voted [] voters f = refl
all_voted (x ∷ members) voters f =
    let c = count-cons (λ member. is_member voters member) x members in
    let one = one_yes (is_member voters x) (f x (inl refl)) in
    let more = all_voted members voters (λ node a. f node (inr a)) in
    omega (arith, c, one, more)

module _ (begun : Requests) (frame : Frame) (fact : IsFrame frame) (r : ReplicaState) (d : IsLeading begun frame r)
    (votes : (slot : ℕ) (voters : List ℕ) → voters_in r.leader.flights slot ≡ Some voters → (node : ℕ) → is_member (frame.at slot) node ≡ true → is_member voters node ≡ true) where
  -- so nothing is in flight at the next slot, and no slot is taken
  none_taken : 0 < d.taken → ⊥
  none_taken some =
      let once = d.leader.slots.once (next r) in
      let one = one_yes (in_range (next r) d.taken (next r)) (range_yes (next r) d.taken (next r) (omega arith) (omega (arith, some))) in
      let ready = d.done.executed in
      let found = find_some (λ (flight : Flight Command). eqb flight.slot (next r)) r.leader.flights (omega (arith, once, one, ready)) in
      let among = find_found (λ (flight : Flight Command). eqb flight.slot (next r)) r.leader.flights found.0 found.1 in
      let plain = Each-among (IsPlainFlight begun frame) r.leader.flights found.0 d.leader.flights among.0 in
      let at : found.0.slot ≡ next r = eqb-true found.0.slot (next r) among.1 in
      let voters = kept_voters found.0.voters in
      let kept : voters_in r.leader.flights (next r) ≡ Some voters = ap (λ (o : Option (Flight Command)). option_map (λ (flight : Flight Command). kept_voters flight.voters) o) found.1 in
      let members = frame.at (next r) in
      let all = all_voted members voters (λ node a. votes (next r) voters kept node (among-member members node a)) in
      let least = (fact.rosters (next r)).some in
      let yes_ : is_majority members voters ≡ true = lt-ltb (length members) (2 * votes_of members voters) (omega (arith, all, least)) in
      both_ways (is_majority members voters) (ap (λ slot. is_majority (frame.at slot) voters) (sym at) ∙ plain.undecided) yes_

  nothing_at : (slot : ℕ) → 1 ≤ takers r slot → ⊥
  nothing_at slot some = elim (cases_lt 0 d.taken) [
    | inl up ↦ none_taken up
    | inr zero_ ↦ (let once = d.leader.slots.once slot in
        elim (cases_lt slot (next r + d.taken)) [
          | inl low ↦ (let zero_low = one_no (in_range (next r) d.taken slot) (range_none slot (omega (arith, low, zero_))) in absurd (omega (arith, once, zero_low, some)))
          | inr high ↦ (let none = one_no (in_range (next r) d.taken slot) (range_behind (next r) d.taken slot high) in absurd (omega (arith, once, none, some)))
        ])
  ]
    where
      range_none : (slot : ℕ) → slot < next r → in_range (next r) d.taken slot ≡ false
      range_none slot low = range_before (next r) d.taken slot low

  -- no request is queued there or under way
  pub leader_idle : (client seq : ℕ) → IsHeld r client seq → ⊥
  leader_idle client seq h = elim (h.where_) [
    | inl a ↦ elim (d.done.offered) [
      | inl none ↦ subst (Among (Call client h.number h.op)) none a
      | inr full ↦ none_taken (omega (arith, full))
    ]
    | inr o ↦ elim o [
      | inl f ↦ (let some = count_among (λ (flight : Flight Command). eqb flight.slot f.0.slot) r.leader.flights f.0 f.1 (eq-eqb f.0.slot f.0.slot refl) in nothing_at f.0.slot (omega (arith, some)))
      | inr entry ↦ (let some = count_among (λ (e : ℕ × Command). eqb e.0 entry.0) r.ready (entry.0, Call client h.number h.op) entry.1 (eq-eqb entry.0 entry.0 refl) in nothing_at entry.0 (omega (arith, some)))
    ]
  ]
