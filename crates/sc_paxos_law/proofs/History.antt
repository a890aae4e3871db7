-- What holds of each lawful history.
use Rattle.std.proofs.Common.{◌≡◌, ◌≢◌, ℕ, ◌<◌, ◌≤◌, true, cond, eqb, leb, ltb, List, [], ◌∷◌, filter, ◌⊎◌, inl, inr, refl, sym, ◌∙◌, ap, subst, arith}
use Rattle.std.proofs.lemmas.Bool.{cases_order, eqb-true, eq-eqb, cond-true, cond_both, lt-ltb, le-leb}
use Rattle.sc_base.specs.declared.names.Ballot.{Ballot}
use Rattle.sc_words.specs.declared.paxos.reports.Report.{Report}
use Rattle.sc_base.specs.Definitions.{Among}
use Rattle.sc_words.specs.paxos.PaxosDefinitions.{below, IsAtLeast, AcceptorState, with_report, may_promise, may_accept, after_promise, after_accept, after_cut}
use Rattle.sc_words.proofs.PaxosProofs.PaxosLemmas.{at_least_trans, at_least_itself, at_least_from_below, at_least_below, not_both, Among-filter, from_filter, may_is}
use Rattle.sc_paxos_law.specs.PaxosLawDefinitions.{Step, Prepared, Promised, Offered, Accepted, Cut, state_of, Rule, IsLawfulStep, IsLawfulHistory}
use Rattle.sc_paxos_law.proofs.Among.{Among-left, Among-right, Among-either}

abbrev pub promise_of : {V : Type 0} → Ballot → ℕ → List (Step V) → Ballot
promise_of first node h = (state_of first node h).promised

abbrev if_node : {V : Type 0} → ℕ → ℕ → AcceptorState V → AcceptorState V → AcceptorState V
if_node n node here there = cond (eqb n node) here there

-- what a step leaves an acceptor with is what it leaves its own with, or what there was
by_node : {V : Type 0} (n node : ℕ) (here there : AcceptorState V) (P : AcceptorState V → Type 0) → (n ≡ node → P here) → P there → P (if_node n node here there)
by_node n node here there P f p = cond_both (eqb n node) here there P (λ t. f (eqb-true n node t)) (λ _. p)

-- ---- a promise never falls

pub step_keeps : {V : Type 0} (rule : Rule V) (first : Ballot) (node : ℕ) (s : Step V) (older : List (Step V)) → IsLawfulStep rule first s older
    → IsAtLeast (promise_of first node (s ∷ older)) (promise_of first node older)
step_keeps rule first node (Prepared ballot from) older h = at_least_itself (promise_of first node older)
step_keeps {V} rule first node (Promised n ballot from reports) older h =
    by_node n node (after_promise ballot (state_of first node older)) (state_of first node older) (λ (st : AcceptorState V). IsAtLeast st.promised (promise_of first node older))
    (λ same. at_least_from_below (promise_of first node older) ballot (subst (λ m. may_promise (state_of first m older) ballot ≡ true) same h.0)) (at_least_itself (promise_of first node older))
step_keeps rule first node (Offered ballot slot value) older h = at_least_itself (promise_of first node older)
step_keeps {V} rule first node (Accepted n ballot slot value) older h =
    by_node n node (after_accept (record { slot = slot; ballot = ballot; value = value }) (state_of first node older)) (state_of first node older) (λ (st : AcceptorState V). IsAtLeast st.promised (promise_of first node older))
    (λ same. may_is (state_of first node older) ballot (subst (λ m. may_accept (state_of first m older) ballot ≡ true) same h.0)) (at_least_itself (promise_of first node older))
step_keeps {V} rule first node (Cut n upto) older h =
    by_node n node (after_cut upto (state_of first node older)) (state_of first node older) (λ (st : AcceptorState V). IsAtLeast st.promised (promise_of first node older))
    (λ same. at_least_itself (promise_of first node older)) (at_least_itself (promise_of first node older))

pub at_least_first : {V : Type 0} (rule : Rule V) (first : Ballot) (node : ℕ) (h : List (Step V)) → IsLawfulHistory rule first h → IsAtLeast (promise_of first node h) first
at_least_first rule first node [] l = at_least_itself first
at_least_first rule first node (s ∷ older) l =
    at_least_trans (promise_of first node (s ∷ older)) (promise_of first node older) first (step_keeps rule first node s older l.0) (at_least_first rule first node older l.1)

own_state : {V : Type 0} (n : ℕ) (here there : AcceptorState V) → if_node n n here there ≡ here
own_state n here there = cond-true (eqb n n) here there (eq-eqb n n refl)

-- what a node has promised stands
pub promise_kept : {V : Type 0} (rule : Rule V) (first : Ballot) (h : List (Step V)) (n : ℕ) (b : Ballot) (from : ℕ) (rs : List (Report V)) → IsLawfulHistory rule first h
    → Among (Promised n b from rs) h → IsAtLeast (promise_of first n h) b
promise_kept rule first [] n b from rs l a = absurd a
promise_kept {V} rule first (s ∷ older) n b from rs l (inl e) =
    subst (λ (t : Step V). IsAtLeast (promise_of first n (t ∷ older)) b) (sym e)
    (subst (λ (st : AcceptorState V). IsAtLeast st.promised b) (sym (own_state n (after_promise b (state_of first n older)) (state_of first n older))) (at_least_itself b))
promise_kept rule first (s ∷ older) n b from rs l (inr a) =
    at_least_trans (promise_of first n (s ∷ older)) (promise_of first n older) b (step_keeps rule first n s older l.0) (promise_kept rule first older n b from rs l.1 a)

-- what it has accepted stays too
pub accepted_kept : {V : Type 0} (rule : Rule V) (first : Ballot) (h : List (Step V)) (n : ℕ) (b : Ballot) (slot : ℕ) (v : V) → IsLawfulHistory rule first h
    → Among (Accepted n b slot v) h → IsAtLeast (promise_of first n h) b
accepted_kept rule first [] n b slot v l a = absurd a
accepted_kept {V} rule first (s ∷ older) n b slot v l (inl e) =
    subst (λ (t : Step V). IsAtLeast (promise_of first n (t ∷ older)) b) (sym e)
    (subst (λ (st : AcceptorState V). IsAtLeast st.promised b)
    (sym (own_state n (after_accept (record { slot = slot; ballot = b; value = v }) (state_of first n older)) (state_of first n older))) (at_least_itself b))
accepted_kept rule first (s ∷ older) n b slot v l (inr a) =
    at_least_trans (promise_of first n (s ∷ older)) (promise_of first n older) b (step_keeps rule first n s older l.0) (accepted_kept rule first older n b slot v l.1 a)

-- no ballot below the first is accepted
pub first_is_least : {V : Type 0} (rule : Rule V) (first : Ballot) (h : List (Step V)) (n : ℕ) (b : Ballot) (slot : ℕ) (v : V) → IsLawfulHistory rule first h
    → Among (Accepted n b slot v) h → IsAtLeast b first
first_is_least rule first [] n b slot v l a = absurd a
first_is_least {V} rule first (s ∷ older) n b slot v l (inl e) =
    let k = subst (λ (t : Step V). IsLawfulStep rule first t older) e l.0 in
    at_least_trans b (promise_of first n older) first (may_is (state_of first n older) b k.0) (at_least_first rule first n older l.1)
first_is_least rule first (s ∷ older) n b slot v l (inr a) = first_is_least rule first older n b slot v l.1 a

-- ---- offers

-- what was accepted was offered
pub was_offered : {V : Type 0} (rule : Rule V) (first : Ballot) (h : List (Step V)) (n : ℕ) (b : Ballot) (slot : ℕ) (v : V) → IsLawfulHistory rule first h
    → Among (Accepted n b slot v) h → Among (Offered b slot v) h
was_offered rule first [] n b slot v l a = absurd a
was_offered {V} rule first (s ∷ older) n b slot v l (inl e) = inr (subst (λ (t : Step V). IsLawfulStep rule first t older) e l.0).1
was_offered rule first (s ∷ older) n b slot v l (inr a) = inr (was_offered rule first older n b slot v l.1 a)

-- one value for each ballot and slot
pub one_offer : {V : Type 0} (rule : Rule V) (first : Ballot) (h : List (Step V)) (b : Ballot) (slot : ℕ) (v w : V) → IsLawfulHistory rule first h
    → Among (Offered b slot v) h → Among (Offered b slot w) h → v ≡ w
one_offer rule first [] b slot v w l a c = absurd a
one_offer rule first (s ∷ older) b slot v w l (inl d) (inl e) = let k = sym d ∙ e in cc
one_offer {V} rule first (s ∷ older) b slot v w l (inl d) (inr c) = sym ((subst (λ (t : Step V). IsLawfulStep rule first t older) d l.0).only w c)
one_offer {V} rule first (s ∷ older) b slot v w l (inr a) (inl e) = (subst (λ (t : Step V). IsLawfulStep rule first t older) e l.0).only v a
one_offer rule first (s ∷ older) b slot v w l (inr a) (inr c) = one_offer rule first older b slot v w l.1 a c

-- ---- reports

among-with : {V : Type 0} (new : Report V) (xs : List (Report V)) → Among new (with_report new xs)
among-with {V} new xs = Among-right new (filter (λ (r : Report V). ltb r.slot new.slot) xs) (new ∷ filter (λ (r : Report V). ltb new.slot r.slot) xs) (inl refl)

still-with : {V : Type 0} (new r : Report V) (xs : List (Report V)) → Among r xs → r.slot ≢ new.slot → Among r (with_report new xs)
still-with {V} new r xs a other =
    let low = filter (λ (x : Report V). ltb x.slot new.slot) xs in
    let high = filter (λ (x : Report V). ltb new.slot x.slot) xs in
    elim (cases_order r.slot new.slot) [
      | inl e ↦ absurd (other e)
      | inr o ↦ elim o [
        | inl lt ↦ Among-left r low (new ∷ high) (Among-filter (λ (x : Report V). ltb x.slot new.slot) xs r a (lt-ltb r.slot new.slot lt))
        | inr gt ↦ Among-right r low (new ∷ high) (inr (Among-filter (λ (x : Report V). ltb new.slot x.slot) xs r a (lt-ltb new.slot r.slot gt)))
      ]
    ]

from-with : {V : Type 0} (new r : Report V) (xs : List (Report V)) → Among r (with_report new xs) → (new ≡ r) ⊎ Among r xs
from-with {V} new r xs a =
    let low = filter (λ (x : Report V). ltb x.slot new.slot) xs in
    let high = filter (λ (x : Report V). ltb new.slot x.slot) xs in
    elim (Among-either r low (new ∷ high) a) [
      | inl b ↦ inr (from_filter (λ (x : Report V). ltb x.slot new.slot) xs r b).0
      | inr b ↦ elim b [ inl e ↦ inl e | inr c ↦ inr (from_filter (λ (x : Report V). ltb new.slot x.slot) xs r c).0 ]
    ]

-- what an acceptor holds of a slot above its floor has no lower ballot
abbrev Holds : {V : Type 0} → Ballot → ℕ → AcceptorState V → Type 0
Holds {V} b slot state = state.floor < slot → (r : Report V) × Among r state.accepted × (r.slot ≡ slot) × IsAtLeast r.ballot b

holds_new : {V : Type 0} (report : Report V) (state : AcceptorState V) (b : Ballot) → IsAtLeast report.ballot b → Holds b report.slot (after_accept report state)
holds_new report state b above floor = (report, among-with report state.accepted, refl, above)

cases_same : (a b : ℕ) → (a ≡ b) ⊎ (a ≡ b → ⊥)
cases_same a b = elim (cases_order a b) [ inl e ↦ inl e | inr o ↦ elim o [ inl lt ↦ inr (λ e. absurd (omega arith)) | inr gt ↦ inr (λ e. absurd (omega arith)) ] ]

holds_still : {V : Type 0} (report : Report V) (state : AcceptorState V) (b : Ballot) (slot : ℕ) → IsAtLeast report.ballot b → Holds b slot state → Holds b slot (after_accept report state)
holds_still report state b slot above held floor =
    elim (cases_same slot report.slot) [
      | inl e ↦ (report, among-with report state.accepted, sym e, above)
      | inr other ↦ (let old = held floor in (old.0, still-with report old.0 state.accepted old.1 (λ e. other (sym old.2 ∙ e)), old.2, old.3))
    ]

holds_after_cut : {V : Type 0} (state : AcceptorState V) (upto : ℕ) (b : Ballot) (slot : ℕ) → Holds b slot state → Holds b slot (after_cut upto state)
holds_after_cut {V} state upto b slot held floor =
    let lower : state.floor < slot = omega arith in
    let old = held lower in
    let over : upto < old.0.slot = omega (arith, old.2) in
    (old.0, Among-filter (λ (r : Report V). ltb upto r.slot) state.accepted old.0 old.1 (lt-ltb upto old.0.slot over), old.2, old.3)

-- what was accepted is held as the last accepted value, or a later one is, or the slot is forgotten
pub has_accepted : {V : Type 0} (rule : Rule V) (first : Ballot) (h : List (Step V)) (n : ℕ) (b : Ballot) (slot : ℕ) (v : V) → IsLawfulHistory rule first h
    → Among (Accepted n b slot v) h → Holds b slot (state_of first n h)
has_accepted rule first [] n b slot v l a = absurd a
has_accepted {V} rule first (s ∷ older) n b slot v l (inl e) =
    subst (λ (t : Step V). Holds b slot (state_of first n (t ∷ older))) (sym e)
    (subst (Holds b slot) (sym (own_state n (after_accept (record { slot = slot; ballot = b; value = v }) (state_of first n older)) (state_of first n older)))
    (holds_new (record { slot = slot; ballot = b; value = v }) (state_of first n older) b (at_least_itself b)))
has_accepted rule first (Prepared b' from ∷ older) n b slot v l (inr a) = has_accepted rule first older n b slot v l.1 a
has_accepted rule first (Promised m b' from rs ∷ older) n b slot v l (inr a) =
    by_node m n (after_promise b' (state_of first n older)) (state_of first n older) (Holds b slot) (λ same. has_accepted rule first older n b slot v l.1 a) (has_accepted rule first older n b slot v l.1 a)
has_accepted rule first (Offered b' s w ∷ older) n b slot v l (inr a) = has_accepted rule first older n b slot v l.1 a
has_accepted {V} rule first (Accepted m b' s w ∷ older) n b slot v l (inr a) =
    by_node m n (after_accept (record { slot = s; ballot = b'; value = w }) (state_of first n older)) (state_of first n older) (Holds b slot)
    (λ same. holds_still (record { slot = s; ballot = b'; value = w }) (state_of first n older) b slot
    (at_least_trans b' (promise_of first n older) b (may_is (state_of first n older) b' (subst (λ x. may_accept (state_of first x older) b' ≡ true) same l.0.0)) (accepted_kept rule first older n b slot v l.1 a))
    (has_accepted rule first older n b slot v l.1 a))
    (has_accepted rule first older n b slot v l.1 a)
has_accepted rule first (Cut m upto ∷ older) n b slot v l (inr a) =
    by_node m n (after_cut upto (state_of first n older)) (state_of first n older) (Holds b slot)
    (λ same. holds_after_cut (state_of first n older) upto b slot (has_accepted rule first older n b slot v l.1 a)) (has_accepted rule first older n b slot v l.1 a)

-- what an acceptor holds it accepted
abbrev Did : {V : Type 0} → List (Step V) → ℕ → AcceptorState V → Type 0
Did {V} h n state = (r : Report V) → Among r state.accepted → Among (Accepted n r.ballot r.slot r.value) h

later_did : {V : Type 0} (s : Step V) (h : List (Step V)) (n : ℕ) (state : AcceptorState V) → Did h n state → Did (s ∷ h) n state
later_did s h n state did r a = inr (did r a)

pub did_accept : {V : Type 0} (first : Ballot) (h : List (Step V)) (n : ℕ) → Did h n (state_of first n h)
did_accept first [] n = λ r a. absurd a
did_accept first (Prepared b from ∷ older) n = later_did (Prepared b from) older n (state_of first n older) (did_accept first older n)
did_accept first (Promised m b from rs ∷ older) n =
    by_node m n (after_promise b (state_of first n older)) (state_of first n older) (Did (Promised m b from rs ∷ older) n)
    (λ same. later_did (Promised m b from rs) older n (state_of first n older) (did_accept first older n)) (later_did (Promised m b from rs) older n (state_of first n older) (did_accept first older n))
did_accept first (Offered b s v ∷ older) n = later_did (Offered b s v) older n (state_of first n older) (did_accept first older n)
did_accept {V} first (Accepted m b s v ∷ older) n =
    by_node m n (after_accept (record { slot = s; ballot = b; value = v }) (state_of first n older)) (state_of first n older) (Did (Accepted m b s v ∷ older) n)
    (λ same r a. elim (from-with (record { slot = s; ballot = b; value = v }) r (state_of first n older).accepted a) [
      | inl e ↦ inl (ap (λ k. Accepted k b s v) same ∙ ap (λ (x : Report V). Accepted n x.ballot x.slot x.value) e)
      | inr old ↦ inr (did_accept first older n r old)
    ])
    (later_did (Accepted m b s v) older n (state_of first n older) (did_accept first older n))
did_accept {V} first (Cut m upto ∷ older) n =
    by_node m n (after_cut upto (state_of first n older)) (state_of first n older) (Did (Cut m upto ∷ older) n)
    (λ same r a. inr (did_accept first older n r (from_filter (λ (x : Report V). ltb upto x.slot) (state_of first n older).accepted r a).0))
    (later_did (Cut m upto) older n (state_of first n older) (did_accept first older n))

-- a promise reports what was accepted below it, or a later value
pub reported : {V : Type 0} (rule : Rule V) (first : Ballot) (h : List (Step V)) (n : ℕ) (b' : Ballot) (from : ℕ) (rs : List (Report V)) (b : Ballot) (slot : ℕ) (v : V) → IsLawfulHistory rule first h
    → Among (Promised n b' from rs) h → Among (Accepted n b slot v) h → below b b' ≡ true → from ≤ slot
    → (r : Report V) × Among r rs × (r.slot ≡ slot) × IsAtLeast r.ballot b
reported rule first [] n b' from rs b slot v l p a lt within = absurd p
reported rule first (s ∷ older) n b' from rs b slot v l (inl e) (inl d) lt within = let k = sym e ∙ d in cc
reported {V} rule first (s ∷ older) n b' from rs b slot v l (inl e) (inr a) lt within =
    let k = subst (λ (t : Step V). IsLawfulStep rule first t older) e l.0 in
    let last = has_accepted rule first older n b slot v l.1 a (omega (arith, k.1)) in
    let in_range : from ≤ last.0.slot = omega (arith, last.2) in
    (last.0, subst (Among last.0) (sym k.2) (Among-filter (λ (r : Report V). leb from r.slot) (state_of first n older).accepted last.0 last.1 (le-leb from last.0.slot in_range)), last.2, last.3)
reported {V} rule first (s ∷ older) n b' from rs b slot v l (inr p) (inl d) lt within =
    let k = subst (λ (t : Step V). IsLawfulStep rule first t older) d l.0 in
    absurd (not_both b b' lt (at_least_trans b (promise_of first n older) b' (may_is (state_of first n older) b k.0) (promise_kept rule first older n b' from rs l.1 p)))
reported rule first (s ∷ older) n b' from rs b slot v l (inr p) (inr a) lt within = reported rule first older n b' from rs b slot v l.1 p a lt within

-- what is reported was accepted, below the promise
pub report_accepted : {V : Type 0} (rule : Rule V) (first : Ballot) (h : List (Step V)) (n : ℕ) (b' : Ballot) (from : ℕ) (rs : List (Report V)) (r : Report V) → IsLawfulHistory rule first h
    → Among (Promised n b' from rs) h → Among r rs → Among (Accepted n r.ballot r.slot r.value) h × (below r.ballot b' ≡ true)
report_accepted rule first [] n b' from rs r l p a = absurd p
report_accepted {V} rule first (s ∷ older) n b' from rs r l (inl e) a =
    let k = subst (λ (t : Step V). IsLawfulStep rule first t older) e l.0 in
    let held = from_filter (λ (x : Report V). leb from x.slot) (state_of first n older).accepted r (subst (Among r) k.2 a) in
    let did = did_accept first older n r held.0 in
    (inr did, at_least_below r.ballot (promise_of first n older) b' (accepted_kept rule first older n r.ballot r.slot r.value l.1 did) k.0)
report_accepted rule first (s ∷ older) n b' from rs r l (inr p) a =
    let k = report_accepted rule first older n b' from rs r l.1 p a in (inr k.0, k.1)
