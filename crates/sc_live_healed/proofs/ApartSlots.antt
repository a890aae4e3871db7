-- What offers, votes and entries do with the slots that a leader has taken, and with a request that it holds there.
use Rattle.std.proofs.Common.{◌≡◌, ℕ, ◌+◌, ◌<◌, ◌≤◌, eqb, List, [], ◌∷◌, ◌++◌, length, Option, Some, None, ◌⊎◌, inl, inr, refl, sym, ◌∙◌, ap, subst, arith}
use Rattle.std.specs.Option.{option_map}
use Rattle.std.proofs.lemmas.Bool.{cond_both, cases_eq, cases_lt, eqb-true, eq-eqb, ne_eqb}
use Rattle.sc_base.specs.Definitions.{Among, same_ballot, is_majority}
use Rattle.sc_node_table.specs.Values.{Ballot, Command, Flight, Counted, Chosen, NotYet}
use Rattle.sc_words.specs.paxos.PaxosDefinitions.{LeaderState, flight_at, without_flight, without_flight_at, with_flight_at, with_voters, counted, vote_at, voters_after, kept_voters}
use Rattle.sc_words.proofs.PaxosProofs.PaxosLemmas.{find_found}
use Rattle.sc_node_table.specs.NodeDefinitions.{ReplicaState, next, taken_at, at_slot, with_slot, without_slot, either}
use Rattle.sc_live_plain.specs.PlainDefinitions.{takers}
use Rattle.sc_live_plain.proofs.PlainRowsProofs.SlotCounts.{count-push, one_if, one_yes, one_no, one_if_most, entries_at, at_nothing, out_here, out_other, out_none, out_among, with_count, with_it, with_among, find_some}
use Rattle.sc_live_plain.proofs.LeadersProofs.LeadingReplicas.{flights_at}
use Rattle.sc_live_plain.proofs.LeadersProofs.Flights.{only_flight, voted_count, voted_value}
use Rattle.sc_live_plain.proofs.PlainRowsProofs.RepeatedMail.{among_push, last_among}
use Rattle.sc_live_healed.proofs.TakenRequests.{AreApart, IsHeld, Queued, Flying, Ready, IsOurs, flight_counts}

abbrev Flights : Type 0
Flights = List (Flight Command)

-- ---- a slot of which nothing is taken

neither : {X : Type 0} (a b : Option X) → either a b ≡ None → (a ≡ None) × (b ≡ None)
neither None b e = (refl, e)
neither (Some x) b e = cc

no_flights : (fs : Flights) (slot : ℕ) → option_map (λ (flight : Flight Command). flight.value) (flight_at slot fs) ≡ None → flights_at slot fs ≡ 0
no_flights fs slot e = elim (cases_lt 0 (flights_at slot fs)) [
  | inl up ↦ (let found = find_some (λ (f : Flight Command). eqb f.slot slot) fs (omega (arith, up)) in absurd (some_none (sym (ap (option_map (λ (flight : Flight Command). flight.value)) found.1) ∙ e)))
  | inr few ↦ omega (arith, few)
]
  where
    some_none : {X : Type 0} {x : X} → Some x ≡ None → ⊥
    some_none e = cc

pub untaken : (r : ReplicaState) (slot : ℕ) → taken_at r slot ≡ None → takers r slot ≡ 0
untaken r slot e =
    let none = neither (option_map (λ (flight : Flight Command). flight.value) (flight_at slot r.leader.flights)) (at_slot r.ready slot) e in
    let a = no_flights r.leader.flights slot none.0 in
    let b = at_nothing r.ready slot none.1 in
    omega (arith, a, b)

-- ---- an offer

pub apart_flown : (slot : ℕ) (command : Command) (r : ReplicaState) → taken_at r slot ≡ None → next r ≤ slot → slot < next r + length r.sets → AreApart r → AreApart (record r { leader = with_flight_at slot command r.leader })
apart_flown slot command r e low up p =
    let none = untaken r slot e in
    let new : Flight Command = record { slot = slot; value = command; voters = None } in
    let more : (s : ℕ) → flights_at s (r.leader.flights ++ new ∷ []) ≡ flights_at s r.leader.flights + one_if (eqb slot s) = λ s. count-push (λ (f : Flight Command). eqb f.slot s) r.leader.flights new in
    record {
      once = λ s. (let m = more s in let o = p.once s in
          elim (cases_eq slot s) [
            | inl same ↦ (let none_s = subst (λ n. takers r n ≡ 0) same none in let yes = one_if_most (eqb slot s) in omega (arith, m, none_s, yes))
            | inr other ↦ (let no = one_no (eqb slot s) (ne_eqb slot s other) in omega (arith, m, o, no))
          ]);
      open_ = λ s some. (let m = more s in
          elim (cases_eq slot s) [
            | inl same ↦ subst (λ n. (next r ≤ n) × (n < next r + length r.sets)) same (low, up)
            | inr other ↦ (let no = one_no (eqb slot s) (ne_eqb slot s other) in p.open_ s (omega (arith, m, some, no)))
          ]);
    }

-- ---- an entry

-- nothing is left at a slot that is cleared
pub record IsCleared (slot : ℕ) (before after : ReplicaState) : Type 0 where
  pub flights : after.leader.flights ≡ without_flight slot before.leader.flights
  pub ready : after.ready ≡ without_slot before.ready slot
  pub next_is : next after ≡ slot + 1
  pub many : length after.sets ≡ length before.sets

out_flight : (slot s : ℕ) (fs : Flights) → (slot ≡ s → ⊥) → flights_at s (without_flight slot fs) ≡ flights_at s fs
out_flight slot s fs ne = out_other (λ (f : Flight Command). f.slot) (λ m xs. without_flight m xs) (λ m. refl) (λ m x xs. refl) slot s fs ne

out_entry : (slot s : ℕ) (es : List (ℕ × Command)) → (slot ≡ s → ⊥) → entries_at s (without_slot es slot) ≡ entries_at s es
out_entry slot s es ne = out_other (λ (e : ℕ × Command). e.0) (λ m xs. without_slot xs m) (λ m. refl) (λ m x xs. refl) slot s es ne

less_flight : (slot : ℕ) (fs : Flights) → flights_at slot fs ≤ 1 → flights_at slot (without_flight slot fs) ≡ 0
less_flight slot fs most = elim (cases_lt 0 (flights_at slot fs)) [
  | inl up ↦ (let out = out_here (λ (f : Flight Command). f.slot) (λ m xs. without_flight m xs) (λ m. refl) (λ m x xs. refl) slot fs (omega (arith, up)) in omega (arith, out, most))
  | inr few ↦ (let same = out_none (λ (f : Flight Command). f.slot) (λ m xs. without_flight m xs) (λ m. refl) (λ m x xs. refl) slot fs (omega (arith, few)) in let c = ap (λ l. flights_at slot l) same in omega (arith, c, few))
]

less_entry : (slot : ℕ) (es : List (ℕ × Command)) → entries_at slot es ≤ 1 → entries_at slot (without_slot es slot) ≡ 0
less_entry slot es most = elim (cases_lt 0 (entries_at slot es)) [
  | inl up ↦ (let out = out_here (λ (e : ℕ × Command). e.0) (λ m xs. without_slot xs m) (λ m. refl) (λ m x xs. refl) slot es (omega (arith, up)) in omega (arith, out, most))
  | inr few ↦ (let same = out_none (λ (e : ℕ × Command). e.0) (λ m xs. without_slot xs m) (λ m. refl) (λ m x xs. refl) slot es (omega (arith, few)) in let c = ap (λ l. entries_at slot l) same in omega (arith, c, few))
]

pub apart_cleared : (before after : ReplicaState) → AreApart before → IsCleared (next before) before after → AreApart after
apart_cleared before after p c =
    let counts : (s : ℕ) → takers after s ≡ flights_at s (without_flight (next before) before.leader.flights) + entries_at s (without_slot before.ready (next before)) =
    λ s. (let f = ap (λ l. flights_at s l) c.flights in let e = ap (λ l. entries_at s l) c.ready in omega (arith, f, e)) in
    let up = c.next_is in
    let many = c.many in
    record {
      once = λ s. (let o = p.once s in let k = counts s in
          elim (cases_eq (next before) s) [
            | inl same ↦ (let o_next = p.once (next before) in
                let f = less_flight (next before) before.leader.flights (omega (arith, o_next)) in
                let e = less_entry (next before) before.ready (omega (arith, o_next)) in
                subst (λ n. takers after n ≤ 1) same (let k_next = counts (next before) in omega (arith, k_next, f, e)))
            | inr other ↦ (let f = out_flight (next before) s before.leader.flights other in let e = out_entry (next before) s before.ready other in omega (arith, o, k, f, e))
          ]);
      open_ = λ s some. (let k = counts s in
          elim (cases_eq (next before) s) [
            | inl same ↦ (let o_next = p.once (next before) in
                let f = less_flight (next before) before.leader.flights (omega (arith, o_next)) in
                let e = less_entry (next before) before.ready (omega (arith, o_next)) in
                let k_next = counts (next before) in
                let some_next : 1 ≤ takers after (next before) = subst (λ n. 1 ≤ takers after n) (sym same) some in
                absurd (omega (arith, k_next, f, e, some_next)))
            | inr other ↦ (let f = out_flight (next before) s before.leader.flights other in let e = out_entry (next before) s before.ready other in
                let o = p.open_ s (omega (arith, k, f, e, some)) in
                let low = o.0 in let high = o.1 in
                (omega (arith, low, up, other), omega (arith, high, up, many)))
          ]);
    }

-- ---- votes

-- a vote that leaves its slot undecided changes voters alone
pub counts_by : (P : LeaderState Command → Type 0) (from : ℕ) (ballot : Ballot) (slot : ℕ) (set : List ℕ) (count : ℕ) (l : LeaderState Command) → (counted from ballot slot set l).0 ≡ NotYet count → P l → ((voters : Option (List ℕ)) → P (record l { flights = with_voters slot voters l.flights })) → P (counted from ballot slot set l).1
counts_by P from ballot slot set count l e p more =
    cond_both (same_ballot ballot l.ballot) (vote_at from slot set (flight_at slot l.flights) l) (NotYet 0, l) (λ (x : Counted Command × LeaderState Command). x.0 ≡ NotYet count → P x.1) (λ _. by (flight_at slot l.flights)) (λ _ _. p) e
  where
    not_chosen : (command : Command) (n : ℕ) → Chosen command ≡ NotYet n → ⊥
    not_chosen command n e = cc

    by : (o : Option (Flight Command)) → (vote_at from slot set o l).0 ≡ NotYet count → P (vote_at from slot set o l).1
    by None h = p
    by (Some flight) h =
        let voters = voters_after set from flight.voters in
        cond_both (is_majority set (kept_voters voters)) (Chosen flight.value, without_flight_at slot l) (NotYet (length (kept_voters voters)), record l { flights = with_voters slot voters l.flights }) (λ (x : Counted Command × LeaderState Command). x.0 ≡ NotYet count → P x.1)
        (λ _ k. absurd (not_chosen flight.value count k)) (λ _ _. more voters) h

-- a vote that decides its slot takes the flight out
pub record IsDecided (slot : ℕ) (command : Command) (before after : LeaderState Command) : Type 0 where
  pub flight : Flight Command
  pub found : flight_at slot before.flights ≡ Some flight
  pub value : flight.value ≡ command
  pub after_is : after ≡ without_flight_at slot before

pub decides : (from : ℕ) (ballot : Ballot) (slot : ℕ) (set : List ℕ) (command : Command) (l : LeaderState Command) → (counted from ballot slot set l).0 ≡ Chosen command → IsDecided slot command l (counted from ballot slot set l).1
decides from ballot slot set command l e =
    cond_both (same_ballot ballot l.ballot) (vote_at from slot set (flight_at slot l.flights) l) (NotYet 0, l) (λ (x : Counted Command × LeaderState Command). x.0 ≡ Chosen command → IsDecided slot command l x.1) (λ _. by (flight_at slot l.flights) refl) (λ _ k. absurd (not_yet 0 k)) e
  where
    not_yet : (n : ℕ) → NotYet n ≡ Chosen command → ⊥
    not_yet n e = cc

    chosen_is : (other : Command) → Chosen other ≡ Chosen command → other ≡ command
    chosen_is other e = cc

    by : (o : Option (Flight Command)) → flight_at slot l.flights ≡ o → (vote_at from slot set o l).0 ≡ Chosen command → IsDecided slot command l (vote_at from slot set o l).1
    by None fact h = absurd (not_yet 0 h)
    by (Some flight) fact h =
        let voters = voters_after set from flight.voters in
        cond_both (is_majority set (kept_voters voters)) (Chosen flight.value, without_flight_at slot l) (NotYet (length (kept_voters voters)), record l { flights = with_voters slot voters l.flights }) (λ (x : Counted Command × LeaderState Command). x.0 ≡ Chosen command → IsDecided slot command l x.1)
        (λ _ k. record { flight = flight; found = fact; value = chosen_is flight.value k; after_is = refl }) (λ _ k. absurd (not_yet (length (kept_voters voters)) k)) h

pub apart_voted : (slot : ℕ) (voters : Option (List ℕ)) (r : ReplicaState) → AreApart r → AreApart (record r { leader = record r.leader { flights = with_voters slot voters r.leader.flights } })
apart_voted slot voters r p = record {
  once = λ s. (let o = p.once s in let same = voted_count slot voters s r.leader.flights in omega (arith, o, same));
  open_ = λ s some. (let same = voted_count slot voters s r.leader.flights in p.open_ s (omega (arith, same, some)));
}

-- as many are taken where a slot is decided
pub apart_decided : (slot : ℕ) (command : Command) (r : ReplicaState) (after : LeaderState Command) → IsDecided slot command r.leader after → AreApart r → AreApart (record r { leader = after; ready = with_slot r.ready slot command })
apart_decided slot command r after d p =
    let f = find_found (λ (x : Flight Command). eqb x.slot slot) r.leader.flights d.flight d.found in
    let at : d.flight.slot ≡ slot = eqb-true d.flight.slot slot f.1 in
    let some : 1 ≤ flights_at slot r.leader.flights = subst (λ n. 1 ≤ flights_at n r.leader.flights) at (flight_counts r.leader.flights d.flight f.0) in
    let most = p.once slot in
    let none : entries_at slot r.ready ≡ 0 = omega (arith, some, most) in
    let out = out_here (λ (x : Flight Command). x.slot) (λ m xs. without_flight m xs) (λ m. refl) (λ m x xs. refl) slot r.leader.flights some in
    let same : (s : ℕ) → flights_at s (without_flight slot r.leader.flights) + entries_at s (with_slot r.ready slot command) ≡ takers r s =
    λ s. (let more = with_count slot command r.ready s none in
    elim (cases_eq slot s) [
      | inl here ↦ (let one = one_yes (eqb slot s) (eq-eqb slot s here) in
          let out_s = subst (λ n. flights_at n (without_flight slot r.leader.flights) + 1 ≡ flights_at n r.leader.flights) here out in omega (arith, more, one, out_s))
      | inr other ↦ (let no_one = one_no (eqb slot s) (ne_eqb slot s other) in let stays = out_flight slot s r.leader.flights other in omega (arith, more, no_one, stays))
    ]) in
    subst (λ (l : LeaderState Command). AreApart (record r { leader = l; ready = with_slot r.ready slot command })) (sym d.after_is) (record {
      once = λ s. (let o = p.once s in let k = same s in omega (arith, o, k));
      open_ = λ s many. (let k = same s in p.open_ s (omega (arith, k, many)));
    })

-- ---- the request

module _ (client seq : ℕ) where
  abbrev Held : ReplicaState → Type 0
  Held r = IsHeld client seq r

  pub flown_held : (slot : ℕ) (command : Command) (r : ReplicaState) → Held r → Held (record r { leader = with_flight_at slot command r.leader })
  flown_held slot command r (Queued c a ours) = Queued c a ours
  flown_held slot command r (Flying f a ours) = Flying f (among_push r.leader.flights _ f a) ours
  flown_held slot command r (Ready e a ours) = Ready e a ours

  -- the head of the queue is offered
  pub call_flown : (slot : ℕ) (command : Command) (backlog : List Command) (r : ReplicaState) → r.backlog ≡ command ∷ backlog → Held r → Held (record r { backlog = backlog; leader = with_flight_at slot command r.leader })
  call_flown slot command backlog r e (Queued c a ours) = by (subst (λ (cs : List Command). Among c cs) e a)
    where
      by : Among c (command ∷ backlog) → Held (record r { backlog = backlog; leader = with_flight_at slot command r.leader })
      by (inl same) = Flying (record { slot = slot; value = command; voters = None }) (last_among r.leader.flights _) (subst (IsOurs client seq) (sym same) ours)
      by (inr b) = Queued c b ours
  call_flown slot command backlog r e (Flying f a ours) = Flying f (among_push r.leader.flights _ f a) ours
  call_flown slot command backlog r e (Ready en a ours) = Ready en a ours

  pub voted_held : (slot : ℕ) (voters : Option (List ℕ)) (r : ReplicaState) → Held r → Held (record r { leader = record r.leader { flights = with_voters slot voters r.leader.flights } })
  voted_held slot voters r (Queued c a ours) = Queued c a ours
  voted_held slot voters r (Flying f a ours) = (let g = voted_value slot voters r.leader.flights f a in Flying g.0 g.1 (subst (IsOurs client seq) (sym g.2) ours))
  voted_held slot voters r (Ready e a ours) = Ready e a ours

  pub decided_held : (slot : ℕ) (command : Command) (r : ReplicaState) (after : LeaderState Command) → IsDecided slot command r.leader after → AreApart r → Held r → Held (record r { leader = after; ready = with_slot r.ready slot command })
  decided_held slot command r after d p k = subst (λ (l : LeaderState Command). Held (record r { leader = l; ready = with_slot r.ready slot command })) (sym d.after_is) (by k)
    where
      now : ReplicaState
      now = record r { leader = without_flight_at slot r.leader; ready = with_slot r.ready slot command }

      by : Held r → Held now
      by (Queued c a ours) = Queued c a ours
      by (Flying f a ours) = elim (cases_eq f.slot slot) [
        | inl here ↦ (
            let counts = flight_counts r.leader.flights f a in
            let most = p.once f.slot in
            let one : flights_at slot r.leader.flights ≡ 1 = subst (λ n. flights_at n r.leader.flights ≡ 1) here (omega (arith, counts, most)) in
            let same = only_flight slot r.leader.flights d.flight f one d.found a here in
            Ready (slot, command) (with_it slot command r.ready) (subst (IsOurs client seq) (sym (ap (λ (x : Flight Command). x.value) same) ∙ d.value) ours))
        | inr other ↦ Flying f (out_among (λ (x : Flight Command). x.slot) (λ m xs. without_flight m xs) (λ m. refl) (λ m x xs. refl) slot r.leader.flights f a other) ours
      ]
      by (Ready e a ours) =
          let f = find_found (λ (x : Flight Command). eqb x.slot slot) r.leader.flights d.flight d.found in
          let at : d.flight.slot ≡ slot = eqb-true d.flight.slot slot f.1 in
          let some : 1 ≤ flights_at slot r.leader.flights = subst (λ n. 1 ≤ flights_at n r.leader.flights) at (flight_counts r.leader.flights d.flight f.0) in
          let most = p.once slot in
          Ready e (with_among slot command r.ready e (omega (arith, some, most)) a) ours

  -- at a slot that is cleared nothing but what is taken there goes
  pub cleared_held : (r after : ReplicaState) → IsCleared (next r) r after → after.backlog ≡ r.backlog → Held r → Held after ⊎ ((flight : Flight Command) × Among flight r.leader.flights × (flight.slot ≡ next r) × IsOurs client seq flight.value) ⊎ ((entry : ℕ × Command) × Among entry r.ready × (entry.0 ≡ next r) × IsOurs client seq entry.1)
  cleared_held r after c same (Queued command a ours) = inl (Queued command (subst (λ (cs : List Command). Among command cs) (sym same) a) ours)
  cleared_held r after c same (Flying f a ours) = elim (cases_eq f.slot (next r)) [
    | inl here ↦ inr (inl (f, a, here, ours))
    | inr other ↦ inl (Flying f (subst (λ (fs : Flights). Among f fs) (sym c.flights) (out_among (λ (x : Flight Command). x.slot) (λ m xs. without_flight m xs) (λ m. refl) (λ m x xs. refl) (next r) r.leader.flights f a other)) ours)
  ]
  cleared_held r after c same (Ready e a ours) = elim (cases_eq e.0 (next r)) [
    | inl here ↦ inr (inr (e, a, here, ours))
    | inr other ↦ inl (Ready e (subst (λ (es : List (ℕ × Command)). Among e es) (sym c.ready) (out_among (λ (x : ℕ × Command). x.0) (λ m xs. without_slot xs m) (λ m. refl) (λ m x xs. refl) (next r) r.ready e a other)) ours)
  ]
