-- What acceptors hold.
use Rattle.std.proofs.Common.{◌≡◌, ◌≢◌, ℕ, ◌<◌, ◌≤◌, Bool, true, false, ltb, eqb, max, List, [], ◌∷◌, ◌++◌, filter, Some, inl, inr, refl, sym, ◌∙◌, subst, arith}
use Rattle.std.specs.List.{find}
use Rattle.std.proofs.lemmas.Bool.{cases_Bool, cond-true, cond-false, ltb-true, lt-ltb, eqb-true, eq-eqb, ne_eqb, cases_order, not-true}
use Rattle.sc_base.specs.declared.names.Ballot.{Ballot}
use Rattle.sc_words.specs.declared.paxos.reports.Report.{Report}
use Rattle.sc_base.specs.Definitions.{Each}
use Rattle.sc_words.specs.paxos.PaxosDefinitions.{below, IsAtLeast, AcceptorState, IsBySlot, IsWholeAcceptor, born_acceptor, last_at, with_report, may_promise, may_accept, after_promise, after_accept, after_cut}
use Rattle.sc_words.proofs.PaxosProofs.BallotLemmas.{at_least_trans, at_least_itself, at_least_from_below}
use Rattle.sc_words.proofs.PaxosProofs.ListLemmas.{Each-among, Each-weaker, Each-append, Each-filter, Each-passes, find_found, find_nothing, find_past, find_within, find_filter}

abbrev Under : {V : Type 0} → ℕ → Report V → Type 0
Under slot r = r.slot < slot

abbrev Over : {V : Type 0} → ℕ → Report V → Type 0
Over slot r = slot < r.slot

filtered : {V : Type 0} (p : Report V → Bool) (xs : List (Report V)) → IsBySlot xs → IsBySlot (filter p xs)
filtered p [] up = tt
filtered p (x ∷ xs) up =
    elim (cases_Bool (p x)) [
      | inl t ↦ subst IsBySlot (sym (cond-true (p x) (x ∷ filter p xs) (filter p xs) t)) (Each-filter (Over x.slot) p xs up.0, filtered p xs up.1)
      | inr f ↦ subst IsBySlot (sym (cond-false (p x) (x ∷ filter p xs) (filter p xs) f)) (filtered p xs up.1)
    ]

joined : {V : Type 0} (low : List (Report V)) (new : Report V) (high : List (Report V)) → IsBySlot low → Each (Under new.slot) low → IsBySlot high → Each (Over new.slot) high → IsBySlot (low ++ new ∷ high)
joined [] new high up under up' over = (over, up')
joined (x ∷ low) new high up under up' over = (
  Each-append (Over x.slot) low (new ∷ high) up.0 (under.0, Each-weaker (Over new.slot) (Over x.slot) (λ r h. omega (arith, h, under.0)) high over),
  joined low new high up.1 under.1 up' over,
)

lower_part : {V : Type 0} (slot : ℕ) (xs : List (Report V)) → Each (Under slot) (filter (λ r. ltb r.slot slot) xs)
lower_part {V} slot xs = Each-weaker _ (Under slot) (λ (r : Report V) t. ltb-true r.slot slot t) (filter (λ r. ltb r.slot slot) xs) (Each-passes (λ (r : Report V). ltb r.slot slot) xs)

upper_part : {V : Type 0} (slot : ℕ) (xs : List (Report V)) → Each (Over slot) (filter (λ r. ltb slot r.slot) xs)
upper_part {V} slot xs = Each-weaker _ (Over slot) (λ (r : Report V) t. ltb-true slot r.slot t) (filter (λ r. ltb slot r.slot) xs) (Each-passes (λ (r : Report V). ltb slot r.slot) xs)

by_slot_with : {V : Type 0} (new : Report V) (xs : List (Report V)) → IsBySlot xs → IsBySlot (with_report new xs)
by_slot_with new xs up =
    joined (filter (λ r. ltb r.slot new.slot) xs) new (filter (λ r. ltb new.slot r.slot) xs) (filtered _ xs up) (lower_part new.slot xs) (filtered _ xs up) (upper_part new.slot xs)

each_with : {V : Type 0} (P : Report V → Type 0) (new : Report V) (xs : List (Report V)) → P new → Each P xs → Each P (with_report new xs)
each_with P new xs h all = Each-append P (filter (λ r. ltb r.slot new.slot) xs) (new ∷ filter (λ r. ltb new.slot r.slot) xs) (Each-filter P _ xs all) (h, Each-filter P _ xs all)

-- an acceptor is whole at birth
pub whole_at_birth : {V : Type 0} (first : Ballot) → IsWholeAcceptor {V = V} (born_acceptor first)
whole_at_birth first = record { by_slot = tt; above = tt; kept = tt }

-- and stays so by a promise
pub whole_by_promise : {V : Type 0} (state : AcceptorState V) (ballot : Ballot) → IsWholeAcceptor state → may_promise state ballot ≡ true → IsWholeAcceptor (after_promise ballot state)
whole_by_promise {V} state ballot is t = record {
  by_slot = is.by_slot;
  above = is.above;
  kept = Each-weaker _ (λ (r : Report V). IsAtLeast ballot r.ballot) (λ r h. at_least_trans ballot state.promised r.ballot (at_least_from_below state.promised ballot t) h) state.accepted is.kept;
}

-- an acceptor that may accept in a ballot has promised none above it
pub may_is : {V : Type 0} (state : AcceptorState V) (ballot : Ballot) → may_accept state ballot ≡ true → IsAtLeast ballot state.promised
may_is state ballot t = not-true (below ballot state.promised) t

-- by what it accepts
pub whole_by_accept : {V : Type 0} (state : AcceptorState V) (report : Report V) → IsWholeAcceptor state → may_accept state report.ballot ≡ true → state.floor < report.slot → IsWholeAcceptor (after_accept report state)
whole_by_accept {V} state report is t up = record {
  by_slot = by_slot_with report state.accepted is.by_slot;
  above = each_with (Over state.floor) report state.accepted up is.above;
  kept = each_with (λ (r : Report V). IsAtLeast report.ballot r.ballot) report state.accepted (at_least_itself report.ballot)
      (Each-weaker _ (λ (r : Report V). IsAtLeast report.ballot r.ballot) (λ r h. at_least_trans report.ballot state.promised r.ballot (may_is state report.ballot t) h) state.accepted is.kept);
}

above_cut : {V : Type 0} (floor upto : ℕ) (xs : List (Report V)) → Each (Over floor) xs → Each (Over (max floor upto)) (filter (λ r. ltb upto r.slot) xs)
above_cut {V} floor upto xs all =
    both (filter (λ (r : Report V). ltb upto r.slot) xs) (Each-filter (Over floor) _ xs all) (upper_part upto xs)
  where
    both : (ys : List (Report V)) → Each (Over floor) ys → Each (Over upto) ys → Each (Over (max floor upto)) ys
    both [] a b = tt
    both (y ∷ ys) a b = (omega (arith, a.0, b.0), both ys a.1 b.1)

-- and by what it forgets
pub whole_by_cut : {V : Type 0} (state : AcceptorState V) (upto : ℕ) → IsWholeAcceptor state → IsWholeAcceptor (after_cut upto state)
whole_by_cut {V} state upto is = record {
  by_slot = filtered (λ (r : Report V). ltb upto r.slot) state.accepted is.by_slot;
  above = above_cut state.floor upto state.accepted is.above;
  kept = Each-filter (λ (r : Report V). IsAtLeast state.promised r.ballot) (λ r. ltb upto r.slot) state.accepted is.kept;
}

abbrev At : {V : Type 0} → ℕ → Report V → Bool
At slot r = eqb r.slot slot

not_at_lower : {V : Type 0} (slot bound : ℕ) (xs : List (Report V)) → bound ≤ slot → Each (λ r. At slot r ≡ false) (filter (λ r. ltb r.slot bound) xs)
not_at_lower {V} slot bound xs le = Each-weaker (Under bound) _ (λ (r : Report V) h. ne_eqb r.slot slot (λ e. absurd (omega (arith, h)))) (filter (λ (r : Report V). ltb r.slot bound) xs) (lower_part bound xs)

not_at_upper : {V : Type 0} (slot bound : ℕ) (xs : List (Report V)) → slot ≤ bound → Each (λ r. At slot r ≡ false) (filter (λ r. ltb bound r.slot) xs)
not_at_upper {V} slot bound xs le = Each-weaker (Over bound) _ (λ (r : Report V) h. ne_eqb r.slot slot (λ e. absurd (omega (arith, h)))) (filter (λ (r : Report V). ltb bound r.slot) xs) (upper_part bound xs)

-- what is accepted at a slot is then what was accepted last there
pub accepted_here : {V : Type 0} (new : Report V) (xs : List (Report V)) → last_at new.slot (with_report new xs) ≡ Some new
accepted_here {V} new xs =
    let low = filter (λ (r : Report V). ltb r.slot new.slot) xs in
    let high = filter (λ (r : Report V). ltb new.slot r.slot) xs in
    find_past (At new.slot) low (new ∷ high) (not_at_lower new.slot new.slot xs (omega arith)) ∙ cond-true (eqb new.slot new.slot) (Some new) (find (At new.slot) high) (eq-eqb new.slot new.slot refl)

-- and nothing else is changed
pub accepted_elsewhere : {V : Type 0} (new : Report V) (xs : List (Report V)) (slot : ℕ) → slot ≢ new.slot → last_at slot (with_report new xs) ≡ last_at slot xs
accepted_elsewhere {V} new xs slot other =
    let low = filter (λ (r : Report V). ltb r.slot new.slot) xs in
    let high = filter (λ (r : Report V). ltb new.slot r.slot) xs in
    let not_new = cond-false (eqb new.slot slot) (Some new) (find (At slot) high) (ne_eqb new.slot slot (λ e. other (sym e))) in
    elim (cases_order slot new.slot) [
      | inl e ↦ absurd (other e)
      | inr o ↦ elim o [
        | inl lt ↦ find_within (At slot) low (new ∷ high) (not_new ∙ find_nothing (At slot) high (not_at_upper slot new.slot xs (omega arith)))
            ∙ find_filter (At slot) (λ r. ltb r.slot new.slot) (λ r t. lt-ltb r.slot new.slot (omega (arith, eqb-true r.slot slot t))) xs
        | inr gt ↦ find_past (At slot) low (new ∷ high) (not_at_lower slot new.slot xs (omega arith)) ∙ not_new
            ∙ find_filter (At slot) (λ r. ltb new.slot r.slot) (λ r t. lt-ltb new.slot r.slot (omega (arith, eqb-true r.slot slot t))) xs
      ]
    ]

-- at a slot it accepts no lower ballot than before
pub ballots_never_fall : {V : Type 0} (state : AcceptorState V) (report older : Report V) → IsWholeAcceptor state → may_accept state report.ballot ≡ true
    → last_at report.slot state.accepted ≡ Some older → IsAtLeast report.ballot older.ballot
ballots_never_fall {V} state report older is t e =
    let found = find_found (At report.slot) state.accepted older e in
    at_least_trans report.ballot state.promised older.ballot (may_is state report.ballot t)
    (Each-among (λ (r : Report V). IsAtLeast state.promised r.ballot) state.accepted older is.kept found.0)
