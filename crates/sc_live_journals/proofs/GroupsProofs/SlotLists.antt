-- Commands in flight and entries that are ready, from a slot on.
use Rattle.std.proofs.Common.{◌≡◌, ℕ, ◌+◌, ◌<◌, ◌≤◌, eqb, nat_lt, Bool, true, false, cond, List, [], ◌∷◌, ◌++◌, Option, Some, None, refl, sym, ◌∙◌, ap, arith}
use Rattle.std.proofs.lemmas.Bool.{eqb-true, eqb-false, ltb-true, ltb-false, ne_eqb}
use Rattle.sc_base.specs.Definitions.{Each}
use Rattle.sc_node_table.specs.Values.{Command, Flight}
use Rattle.sc_words.specs.paxos.PaxosDefinitions.{flight_at, without_flight, with_voters}
use Rattle.sc_words.proofs.PaxosProofs.PaxosLemmas.{Each-append, Each-weaker}
use Rattle.sc_node_table.specs.NodeDefinitions.{at_slot, with_slot, without_slot}
use Rattle.sc_law_walks.proofs.WalkLemmas.{either_way}
use Rattle.sc_live_steps.specs.following.FollowingDefinitions.{AreApart}
use Rattle.sc_live_steps.proofs.FollowingProofs.FollowingLemmas.{apart_without, apart_polled, apart_pushed}
use Rattle.sc_live_journals.specs.groups.GroupDefinitions.{FlyFrom, AreRising, WaitFrom}
use Rattle.sc_law_groups.proofs.GroupProofs.WithoutOne.{Each-without_flight as each_without}

-- where none is at this slot, all are later
none_there : (n : ℕ) (fs : List (Flight Command)) → Each (λ f. n ≤ f.slot) fs → flight_at n fs ≡ None → Each (λ f. n + 1 ≤ f.slot) fs
none_there n [] all e = tt
none_there n (f ∷ fs) all e = by (eqb f.slot n) refl e (λ rest. none_there n fs all.1 rest)
  where
    by : (b : Bool) → eqb f.slot n ≡ b → cond b (Some f) (flight_at n fs) ≡ None → (flight_at n fs ≡ None → Each (λ f. n + 1 ≤ f.slot) fs) → Each (λ f. n + 1 ≤ f.slot) (f ∷ fs)
    by true t bad more = cc
    by false t rest more = (let ne = eqb-false f.slot n t in let low = all.0 in omega (arith, ne, low), more rest)

later_flights : (n : ℕ) (fs : List (Flight Command)) → Each (λ f. n ≤ f.slot) fs → AreApart fs → Each (λ f. n + 1 ≤ f.slot) (without_flight n fs)
later_flights n [] all apart = tt
later_flights n (f ∷ fs) all apart = by (eqb f.slot n) refl (later_flights n fs all.1 apart.1)
  where
    by : (b : Bool) → eqb f.slot n ≡ b → Each (λ f. n + 1 ≤ f.slot) (without_flight n fs) → Each (λ f. n + 1 ≤ f.slot) (cond b fs (f ∷ without_flight n fs))
    by true t more = none_there n fs all.1 (ap (λ s. flight_at s fs) (sym (eqb-true f.slot n t)) ∙ apart.0)
    by false t more = (let ne = eqb-false f.slot n t in let low = all.0 in omega (arith, ne, low), more)

-- the one at a slot is over
pub fly_past : (n : ℕ) (fs : List (Flight Command)) → FlyFrom n fs → FlyFrom (n + 1) (without_flight n fs)
fly_past n fs k = (later_flights n fs k.0 k.1, apart_without n fs k.1)

pub fly_without : (n slot : ℕ) (fs : List (Flight Command)) → FlyFrom n fs → FlyFrom n (without_flight slot fs)
fly_without n slot fs k = (each_without (λ f. n ≤ f.slot) slot fs k.0, apart_without slot fs k.1)

each_polled : (n slot : ℕ) (voters : Option (List ℕ)) (fs : List (Flight Command)) → Each (λ f. n ≤ f.slot) fs → Each (λ f. n ≤ f.slot) (with_voters slot voters fs)
each_polled n slot voters [] k = tt
each_polled n slot voters (f ∷ fs) k = either_way (Each (λ (f : Flight Command). n ≤ f.slot)) (eqb f.slot slot) ((record f { voters = voters }) ∷ fs) (f ∷ with_voters slot voters fs) k (k.0, each_polled n slot voters fs k.1)

-- flights from a slot on stay such where one has other voters
pub fly_polled : (n slot : ℕ) (voters : Option (List ℕ)) (fs : List (Flight Command)) → FlyFrom n fs → FlyFrom n (with_voters slot voters fs)
fly_polled n slot voters fs k = (each_polled n slot voters fs k.0, apart_polled slot voters fs k.1)

-- one more begins to fly
pub fly_pushed : (n : ℕ) (new : Flight Command) (fs : List (Flight Command)) → n ≤ new.slot → flight_at new.slot fs ≡ None → FlyFrom n fs → FlyFrom n (fs ++ new ∷ [])
fly_pushed n new fs from none k = (Each-append (λ f. n ≤ f.slot) fs (new ∷ []) k.0 (from, tt), apart_pushed fs new k.1 none)

-- one that is there is not before all
pub flies_from : (n slot : ℕ) (fs : List (Flight Command)) (flight : Flight Command) → Each (λ f. n ≤ f.slot) fs → flight_at slot fs ≡ Some flight → n ≤ slot
flies_from n slot [] flight k e = cc
flies_from n slot (f ∷ fs) flight k e = by (eqb f.slot slot) refl e (λ there. flies_from n slot fs flight k.1 there)
  where
    by : (b : Bool) → eqb f.slot slot ≡ b → cond b (Some f) (flight_at slot fs) ≡ Some flight → (flight_at slot fs ≡ Some flight → n ≤ slot) → n ≤ slot
    by true t there more = (let same = eqb-true f.slot slot t in let low = k.0 in omega (arith, same, low))
    by false t there more = more there

-- ---- what is ready

each_out : (P : ℕ × Command → Type 0) (slot : ℕ) (es : List (ℕ × Command)) → Each P es → Each P (without_slot es slot)
each_out P slot [] k = tt
each_out P slot (e ∷ es) k = either_way (Each P) (eqb e.0 slot) es (e ∷ without_slot es slot) k.1 (k.0, each_out P slot es k.1)

rising_out : (slot : ℕ) (es : List (ℕ × Command)) → AreRising es → AreRising (without_slot es slot)
rising_out slot [] k = tt
rising_out slot (e ∷ es) k = either_way AreRising (eqb e.0 slot) es (e ∷ without_slot es slot) k.1 (each_out (λ x. e.0 < x.0) slot es k.0, rising_out slot es k.1)

later_ready : (n : ℕ) (es : List (ℕ × Command)) → Each (λ e. n ≤ e.0) es → AreRising es → Each (λ e. n + 1 ≤ e.0) (without_slot es n)
later_ready n [] all k = tt
later_ready n (e ∷ es) all k = by (eqb e.0 n) refl (later_ready n es all.1 k.1)
  where
    by : (b : Bool) → eqb e.0 n ≡ b → Each (λ (x : ℕ × Command). n + 1 ≤ x.0) (without_slot es n) → Each (λ (x : ℕ × Command). n + 1 ≤ x.0) (cond b es (e ∷ without_slot es n))
    by true t more = (let same = eqb-true e.0 n t in Each-weaker (λ (x : ℕ × Command). e.0 < x.0) (λ x. n + 1 ≤ x.0) (λ x lt. omega (arith, same, lt)) es k.0)
    by false t more = (let ne = eqb-false e.0 n t in let low = all.0 in omega (arith, ne, low), more)

pub wait_past : (n : ℕ) (es : List (ℕ × Command)) → WaitFrom n es → WaitFrom (n + 1) (without_slot es n)
wait_past n es k = (later_ready n es k.0 k.1, rising_out n es k.1)

each_in : (P : ℕ × Command → Type 0) (slot : ℕ) (command : Command) (es : List (ℕ × Command)) → P (slot, command) → Each P es → Each P (with_slot es slot command)
each_in P slot command [] p k = (p, tt)
each_in P slot command (e ∷ es) p k =
    either_way (Each P) (eqb e.0 slot) ((slot, command) ∷ es) (cond (nat_lt slot e.0) ((slot, command) ∷ e ∷ es) (e ∷ with_slot es slot command)) (p, k.1)
    (either_way (Each P) (nat_lt slot e.0) ((slot, command) ∷ e ∷ es) (e ∷ with_slot es slot command) (p, k) (k.0, each_in P slot command es p k.1))

rising_in : (slot : ℕ) (command : Command) (es : List (ℕ × Command)) → AreRising es → AreRising (with_slot es slot command)
rising_in slot command [] k = (tt, tt)
rising_in slot command (e ∷ es) k = by (eqb e.0 slot) (nat_lt slot e.0) refl refl (rising_in slot command es k.1)
  where
    by : (b c : Bool) → eqb e.0 slot ≡ b → nat_lt slot e.0 ≡ c → AreRising (with_slot es slot command) → AreRising (cond b ((slot, command) ∷ es) (cond c ((slot, command) ∷ e ∷ es) (e ∷ with_slot es slot command)))
    by true c t u more = (let same = eqb-true e.0 slot t in (Each-weaker (λ (x : ℕ × Command). e.0 < x.0) (λ x. slot < x.0) (λ x lt. omega (arith, same, lt)) es k.0, k.1))
    by false true t u more = (let low = ltb-true slot e.0 u in ((low, Each-weaker (λ (x : ℕ × Command). e.0 < x.0) (λ x. slot < x.0) (λ x lt. omega (arith, low, lt)) es k.0), k))
    by false false t u more = (let ne = eqb-false e.0 slot t in let high = ltb-false slot e.0 u in (each_in (λ x. e.0 < x.0) slot command es (omega (arith, ne, high)) k.0, more))

-- one more is ready
pub wait_in : (n slot : ℕ) (command : Command) (es : List (ℕ × Command)) → n ≤ slot → WaitFrom n es → WaitFrom n (with_slot es slot command)
wait_in n slot command es from k = (each_in (λ e. n ≤ e.0) slot command es from k.0, rising_in slot command es k.1)

-- what is ready at other slots stays as it was
pub in_other : (slot other : ℕ) (command : Command) (es : List (ℕ × Command)) → (slot ≡ other → ⊥) → at_slot (with_slot es slot command) other ≡ at_slot es other
in_other slot other command [] ne = ap (λ b. cond b (Some command) None) (ne_eqb slot other ne)
in_other slot other command (e ∷ es) ne = by (eqb e.0 slot) (nat_lt slot e.0) refl (in_other slot other command es ne)
  where
    by : (b c : Bool) → eqb e.0 slot ≡ b → at_slot (with_slot es slot command) other ≡ at_slot es other → at_slot (cond b ((slot, command) ∷ es) (cond c ((slot, command) ∷ e ∷ es) (e ∷ with_slot es slot command))) other ≡ at_slot (e ∷ es) other
    by true c t more =
        ap (λ b. cond b (Some command) (at_slot es other)) (ne_eqb slot other ne)
        ∙ sym (ap (λ b. cond b (Some e.1) (at_slot es other)) (ne_eqb e.0 other (λ fact. ne (sym (eqb-true e.0 slot t) ∙ fact))))
    by false true t more = ap (λ b. cond b (Some command) (at_slot (e ∷ es) other)) (ne_eqb slot other ne)
    by false false t more = ap (λ o. cond (eqb e.0 other) (Some e.1) o) more
