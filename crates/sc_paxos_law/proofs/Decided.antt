-- The computed log is the longest log.
use Rattle.std.proofs.Common.{◌≡◌, ℕ, ◌+◌, ◌*◌, ◌<◌, ◌≤◌, ◌&&◌, zero, suc, true, eqb, List, [], ◌∷◌, ◌++◌, length, take, count_by, Option, Some, None, inl, inr, refl, sym, ◌∙◌, ap, subst, arith}
use Rattle.std.proofs.lemmas.Bool.{cases_Bool, eqb-true, eq-eqb, ltb-true, lt-ltb, cond-true, cond-false, cond_both, and_parts, and_from, cases_lt}
use Rattle.std.proofs.lemmas.List.{length_push, take_all}
use Rattle.sc_base.specs.Definitions.{Among, Each, is_member, IsMajority, is_majority, same_ballot}
use Rattle.sc_base.specs.declared.names.Ballot.{Ballot}
use Rattle.std.specs.Option.{option_map}
use Rattle.sc_words.specs.paxos.PaxosDefinitions.{below, IsAtLeast}
use Rattle.sc_words.specs.declared.paxos.reports.Report.{Report}
use Rattle.sc_words.proofs.PaxosProofs.PaxosLemmas.{at_least_itself, at_least_trans, at_least_from_below, Each-among, Each-weaker}
use Rattle.sc_paxos_law.specs.PaxosLawDefinitions.{Step, Prepared, Promised, Offered, Accepted, Cut, Rule, needed, members_of, IsChosen, IsChosenAfter, IsLog, IsLawfulHistory, voters_of, lesser_of, found_in, chosen_at, top_slot, with_next_entries, log_of}
use Rattle.sc_paxos_law.proofs.Among.{shared_member, member-among, among-member, count_by-le}
use Rattle.sc_paxos_law.proofs.History.{was_offered, one_offer}
use Rattle.sc_paxos_law.proofs.Law.{earlier, agree_members, logs_agree, element, chosen_by, later_log, longer_log}
use Rattle.sc_base.proofs.Lemmas.{ballot_is, ballot_itself}

-- ---- voters

-- each voter accepted some value
abbrev Accepts : {V : Type 0} → List (Step V) → Ballot → ℕ → ℕ → Type 0
Accepts {V} h b slot n = (v : V) × Among (Accepted n b slot v) h

later_voters : {V : Type 0} (s : Step V) (h : List (Step V)) (b : Ballot) (slot : ℕ) (ns : List ℕ) → Each (Accepts h b slot) ns → Each (Accepts (s ∷ h) b slot) ns
later_voters s h b slot ns e = Each-weaker _ _ (λ n a. (a.0, inr a.1)) ns e

voters_accept : {V : Type 0} (h : List (Step V)) (b : Ballot) (slot : ℕ) → Each (Accepts h b slot) (voters_of h b slot)
voters_accept [] b slot = tt
voters_accept (Prepared c from ∷ h) b slot = later_voters _ h b slot _ (voters_accept h b slot)
voters_accept (Promised n c from rs ∷ h) b slot = later_voters _ h b slot _ (voters_accept h b slot)
voters_accept (Cut n upto ∷ h) b slot = later_voters _ h b slot _ (voters_accept h b slot)
voters_accept (Offered c s v ∷ h) b slot = later_voters _ h b slot _ (voters_accept h b slot)
voters_accept {V} (Accepted n c s v ∷ h) b slot =
    let rest = later_voters (Accepted n c s v) h b slot _ (voters_accept h b slot) in
    elim (cases_Bool (same_ballot c b && eqb s slot)) [
      | inl t ↦ (
          let parts = and_parts (same_ballot c b) (eqb s slot) t in
          let same = ap (λ x. Accepted n x s v) (ballot_is c b parts.0) ∙ ap (λ x. Accepted n b x v) (eqb-true s slot parts.1) in
          subst (Each (Accepts (Accepted n c s v ∷ h) b slot)) (sym (cond-true (same_ballot c b && eqb s slot) (n ∷ voters_of h b slot) (voters_of h b slot) t)) ((v, inl same), rest))
      | inr f ↦ subst (Each (Accepts (Accepted n c s v ∷ h) b slot)) (sym (cond-false (same_ballot c b && eqb s slot) (n ∷ voters_of h b slot) (voters_of h b slot) f)) rest
    ]

is_voter : {V : Type 0} (h : List (Step V)) (n : ℕ) (b : Ballot) (slot : ℕ) (v : V) → Among (Accepted n b slot v) h → Among n (voters_of h b slot)
is_voter [] n b slot v a = absurd a
is_voter {V} (x ∷ h) n b slot v (inl e) =
    subst (λ (y : Step V). Among n (voters_of (y ∷ h) b slot)) (sym e)
    (subst (Among n) (sym (cond-true (same_ballot b b && eqb slot slot) (n ∷ voters_of h b slot) (voters_of h b slot) (and_from (same_ballot b b) (eqb slot slot) (ballot_itself b) (eq-eqb slot slot refl)))) (inl refl))
is_voter (Prepared c from ∷ h) n b slot v (inr a) = is_voter h n b slot v a
is_voter (Promised m c from rs ∷ h) n b slot v (inr a) = is_voter h n b slot v a
is_voter (Cut m upto ∷ h) n b slot v (inr a) = is_voter h n b slot v a
is_voter (Offered c s w ∷ h) n b slot v (inr a) = is_voter h n b slot v a
is_voter (Accepted m c s w ∷ h) n b slot v (inr a) =
    cond_both (same_ballot c b && eqb s slot) (m ∷ voters_of h b slot) (voters_of h b slot) (Among n) (λ t. inr (is_voter h n b slot v a)) (λ f. is_voter h n b slot v a)

more_voters : (members one other : List ℕ) → IsMajority members one → ((n : ℕ) → Among n one → Among n other) → is_majority members other ≡ true
more_voters members one other most f =
    let le = count_by-le (is_member one) (is_member other) members (λ n t. among-member other n (f n (member-among one n t))) in
    lt-ltb (length members) (2 * count_by (is_member other) members) (omega (arith, most, le))

-- ---- what is found is chosen

-- a value of these steps was accepted in a ballot in which a majority accepted by the whole history
abbrev IsFound : {V : Type 0} → List ℕ → List (Step V) → ℕ → List (Step V) → Report V → Type 0
IsFound {V} members all slot h r = (n : ℕ) × Among (Accepted n r.ballot slot r.value) h × (is_majority members (voters_of all r.ballot slot) ≡ true)

later_found : {V : Type 0} (s : Step V) (members : List ℕ) (all : List (Step V)) (slot : ℕ) (h : List (Step V)) (r : Report V) → IsFound members all slot h r → IsFound members all slot (s ∷ h) r
later_found s members all slot h r k = (k.0, inr k.1, k.2)

-- what holds of both holds of the lesser
lesser_is : {V : Type 0} (P : Report V → Type 0) (here : Report V) (o : Option (Report V)) → P here → ((r : Report V) → o ≡ Some r → P r) → P (lesser_of here o)
lesser_is P here None p rest = p
lesser_is P here (Some least) p rest = cond_both (below least.ballot here.ballot) least here P (λ t. rest least refl) (λ f. p)

found_by : {V : Type 0} (members : List ℕ) (all : List (Step V)) (slot : ℕ) (h : List (Step V)) (r : Report V) → found_in members all slot h ≡ Some r → IsFound members all slot h r
found_by members all slot [] r e = cc
found_by members all slot (Prepared b from ∷ h) r e = later_found _ members all slot h r (found_by members all slot h r e)
found_by members all slot (Promised n b from rs ∷ h) r e = later_found _ members all slot h r (found_by members all slot h r e)
found_by members all slot (Cut n upto ∷ h) r e = later_found _ members all slot h r (found_by members all slot h r e)
found_by members all slot (Offered b s w ∷ h) r e = later_found _ members all slot h r (found_by members all slot h r e)
found_by {V} members all slot (Accepted n b s w ∷ h) r e =
    let here : Report V = record { slot = s; ballot = b; value = w } in
    let hit = Some (lesser_of here (found_in members all slot h)) in
    elim (cases_Bool (eqb s slot && is_majority members (voters_of all b slot))) [
      | inl t ↦ (
          let parts = and_parts (eqb s slot) (is_majority members (voters_of all b slot)) t in
          let got : hit ≡ Some r = sym (cond-true (eqb s slot && is_majority members (voters_of all b slot)) hit (found_in members all slot h) t) ∙ e in
          let same : lesser_of here (found_in members all slot h) ≡ r = cc in
          subst (IsFound members all slot (Accepted n b s w ∷ h)) same
          (lesser_is (IsFound members all slot (Accepted n b s w ∷ h)) here (found_in members all slot h)
          (n, inl (ap (λ x. Accepted n b x w) (eqb-true s slot parts.0)), parts.1)
          (λ q f. later_found _ members all slot h q (found_by members all slot h q f))))
      | inr f ↦ later_found _ members all slot h r (found_by members all slot h r (sym (cond-false (eqb s slot && is_majority members (voters_of all b slot)) hit (found_in members all slot h) f) ∙ e))
    ]

of_value : {V : Type 0} (o : Option (Report V)) (v : V) → option_map (λ (r : Report V). r.value) o ≡ Some v → (r : Report V) × (o ≡ Some r) × (r.value ≡ v)
of_value None v e = cc
of_value (Some r) v e = (r, refl, cc)

no_value : {V : Type 0} (o : Option (Report V)) → option_map (λ (r : Report V). r.value) o ≡ None → o ≡ None
no_value None e = refl
no_value (Some r) e = cc

pub chosen_at-chosen : {V : Type 0} (rule : Rule V) (first : Ballot) (h : List (Step V)) (members : List ℕ) (slot : ℕ) (v : V) → IsLawfulHistory rule first h → chosen_at members h slot ≡ Some v → IsChosen members h slot v
chosen_at-chosen {V} rule first h members slot v l e =
    let at = of_value (found_in members h slot h) v e in
    let b = at.0.ballot in
    let k = found_by members h slot h at.0 at.1 in
    let accepted : Among (Accepted k.0 b slot v) h = subst (λ (x : V). Among (Accepted k.0 b slot x) h) at.2 k.1 in
    let offered = was_offered rule first h k.0 b slot v l accepted in
    record {
      ballot = b;
      voters = voters_of h b slot;
      each = Each-weaker _ _ (λ n a. (let same = one_offer rule first h b slot a.0 v l (was_offered rule first h n b slot a.0 l a.1) offered in subst (λ (x : V). Among (Accepted n b slot x) h) same a.1)) (voters_of h b slot) (voters_accept h b slot);
      majority = ltb-true _ _ k.2;
    }

-- ---- what is chosen is found

finds : {V : Type 0} (members : List ℕ) (all : List (Step V)) (slot : ℕ) (h : List (Step V)) (n : ℕ) (b : Ballot) (v : V) → Among (Accepted n b slot v) h → is_majority members (voters_of all b slot) ≡ true
    → found_in members all slot h ≡ None → ⊥
finds members all slot [] n b v a most e = a
finds {V} members all slot (x ∷ h) n b v (inl same) most e =
    let k = subst (λ (y : Step V). found_in members all slot (y ∷ h) ≡ None) same e in
    let t = and_from (eqb slot slot) (is_majority members (voters_of all b slot)) (eq-eqb slot slot refl) most in
    let here : Report V = record { slot = slot; ballot = b; value = v } in
    let hit = Some (lesser_of here (found_in members all slot h)) in
    let no_way : hit ≡ None = sym (cond-true (eqb slot slot && is_majority members (voters_of all b slot)) hit (found_in members all slot h) t) ∙ k in cc
finds members all slot (Prepared c from ∷ h) n b v (inr a) most e = finds members all slot h n b v a most e
finds members all slot (Promised m c from rs ∷ h) n b v (inr a) most e = finds members all slot h n b v a most e
finds members all slot (Cut m upto ∷ h) n b v (inr a) most e = finds members all slot h n b v a most e
finds members all slot (Offered c s w ∷ h) n b v (inr a) most e = finds members all slot h n b v a most e
finds {V} members all slot (Accepted m c s w ∷ h) n b v (inr a) most e =
    let here : Report V = record { slot = s; ballot = c; value = w } in
    cond_both (eqb s slot && is_majority members (voters_of all c slot)) (Some (lesser_of here (found_in members all slot h))) (found_in members all slot h) (λ (o : Option (Report V)). o ≡ None → ⊥)
    (λ t k. cc) (λ f k. finds members all slot h n b v a most k) e

chosen-found : {V : Type 0} (h : List (Step V)) (members : List ℕ) (slot : ℕ) (v : V) → IsChosen members h slot v → chosen_at members h slot ≡ None → ⊥
chosen-found h members slot v c e =
    let voter = shared_member members c.voters c.voters c.majority c.majority in
    finds members h slot h voter.0 c.ballot v (Each-among _ c.voters voter.0 c.each voter.1)
    (more_voters members c.voters (voters_of h c.ballot slot) c.majority (λ n a. is_voter h n c.ballot slot v (Each-among _ c.voters n c.each a))) (no_value (found_in members h slot h) e)

-- ---- what is found has the least ballot

not_above_here : {V : Type 0} (here : Report V) (o : Option (Report V)) → IsAtLeast here.ballot (lesser_of here o).ballot
not_above_here here None = at_least_itself here.ballot
not_above_here {V} here (Some least) =
    cond_both (below least.ballot here.ballot) least here (λ (r : Report V). IsAtLeast here.ballot r.ballot) (λ t. at_least_from_below least.ballot here.ballot t) (λ f. at_least_itself here.ballot)

not_above_rest : {V : Type 0} (here : Report V) (o : Option (Report V)) (b : Ballot) → (o ≡ None → ⊥) → ((r : Report V) → o ≡ Some r → IsAtLeast b r.ballot) → IsAtLeast b (lesser_of here o).ballot
not_above_rest here None b some rest = absurd (some refl)
not_above_rest {V} here (Some least) b some rest =
    cond_both (below least.ballot here.ballot) least here (λ (r : Report V). IsAtLeast b r.ballot) (λ t. rest least refl) (λ f. at_least_trans b least.ballot here.ballot (rest least refl) f)

least_found : {V : Type 0} (members : List ℕ) (all : List (Step V)) (slot : ℕ) (h : List (Step V)) (r : Report V) → found_in members all slot h ≡ Some r
    → (n : ℕ) (b : Ballot) (w : V) → Among (Accepted n b slot w) h → is_majority members (voters_of all b slot) ≡ true → IsAtLeast b r.ballot
least_found members all slot [] r e n b w a most = absurd a
least_found members all slot (Prepared c from ∷ h) r e n b w (inr a) most = least_found members all slot h r e n b w a most
least_found members all slot (Promised m c from rs ∷ h) r e n b w (inr a) most = least_found members all slot h r e n b w a most
least_found members all slot (Cut m upto ∷ h) r e n b w (inr a) most = least_found members all slot h r e n b w a most
least_found members all slot (Offered c s v ∷ h) r e n b w (inr a) most = least_found members all slot h r e n b w a most
least_found {V} members all slot (x ∷ h) r e n b w (inl same) most =
    let k = subst (λ (y : Step V). found_in members all slot (y ∷ h) ≡ Some r) same e in
    let t = and_from (eqb slot slot) (is_majority members (voters_of all b slot)) (eq-eqb slot slot refl) most in
    let here : Report V = record { slot = slot; ballot = b; value = w } in
    let hit = Some (lesser_of here (found_in members all slot h)) in
    let got : hit ≡ Some r = sym (cond-true (eqb slot slot && is_majority members (voters_of all b slot)) hit (found_in members all slot h) t) ∙ k in
    let is_r : lesser_of here (found_in members all slot h) ≡ r = cc in
    subst (λ (q : Report V). IsAtLeast b q.ballot) is_r (not_above_here here (found_in members all slot h))
least_found {V} members all slot (Accepted m c s v ∷ h) r e n b w (inr a) most =
    let here : Report V = record { slot = s; ballot = c; value = v } in
    cond_both (eqb s slot && is_majority members (voters_of all c slot)) (Some (lesser_of here (found_in members all slot h))) (found_in members all slot h)
    (λ (o : Option (Report V)). o ≡ Some r → IsAtLeast b r.ballot)
    (λ t k. (
    let is_r : lesser_of here (found_in members all slot h) ≡ r = cc in
    subst (λ (q : Report V). IsAtLeast b q.ballot) is_r
    (not_above_rest here (found_in members all slot h) b (finds members all slot h n b w a most) (λ q f. least_found members all slot h q f n b w a most))))
    (λ f k. least_found members all slot h r k n b w a most) e

-- what is found chosen at a slot is the value of the least ballot in which one was chosen
pub least_stands : {V : Type 0} (members : List ℕ) (h : List (Step V)) (slot : ℕ) (v : V) → chosen_at members h slot ≡ Some v
    → (b : Ballot) × ((n : ℕ) × Among (Accepted n b slot v) h) × ((w : V) (c : IsChosen members h slot w) → IsAtLeast c.ballot b)
least_stands {V} members h slot v e =
    let at = of_value (found_in members h slot h) v e in
    let k = found_by members h slot h at.0 at.1 in (
      at.0.ballot,
      (k.0, subst (λ (x : V). Among (Accepted k.0 at.0.ballot slot x) h) at.2 k.1),
      λ w c. (
          let voter = shared_member members c.voters c.voters c.majority c.majority in
          least_found members h slot h at.0 at.1 voter.0 c.ballot w (Each-among _ c.voters voter.0 c.each voter.1)
          (more_voters members c.voters (voters_of h c.ballot slot) c.majority (λ n a. is_voter h n c.ballot slot w (Each-among _ c.voters n c.each a)))),
    )

-- ---- the log

slot_bound : {V : Type 0} (h : List (Step V)) (n : ℕ) (b : Ballot) (slot : ℕ) (v : V) → Among (Accepted n b slot v) h → slot ≤ top_slot h
slot_bound [] n b slot v a = absurd a
slot_bound {V} (x ∷ h) n b slot v (inl e) = subst (λ (y : Step V). slot ≤ top_slot (y ∷ h)) (sym e) (omega arith)
slot_bound (Prepared c from ∷ h) n b slot v (inr a) = slot_bound h n b slot v a
slot_bound (Promised m c from rs ∷ h) n b slot v (inr a) = slot_bound h n b slot v a
slot_bound (Cut m upto ∷ h) n b slot v (inr a) = slot_bound h n b slot v a
slot_bound (Offered c s w ∷ h) n b slot v (inr a) = slot_bound h n b slot v a
slot_bound (Accepted m c s w ∷ h) n b slot v (inr a) = omega (arith, slot_bound h n b slot v a)

length_bound : {V : Type 0} (rule : Rule V) (h : List (Step V)) (log : List V) → IsLog rule h log → length log ≤ top_slot h
length_bound rule h [] is = omega arith
length_bound rule h (x ∷ xs) is =
    let last = element (x ∷ xs) (length xs) (omega arith) in
    let c = (is (length xs) last.0 last.1).chosen in
    let voter = shared_member _ c.voters c.voters c.majority c.majority in
    omega (arith, slot_bound h voter.0 c.ballot (length xs + 1) last.0 (Each-among _ c.voters voter.0 c.each voter.1))

next_chosen : {V : Type 0} (rule : Rule V) (first : Ballot) (h : List (Step V)) (log : List V) (v : V) → IsLawfulHistory rule first h → chosen_at (members_of rule log (length log + 1)) h (length log + 1) ≡ Some v
    → IsChosenAfter rule h log (length log + 1) v
next_chosen rule first h log v l e = record { known = earlier rule (length log); chosen = chosen_at-chosen rule first h _ (length log + 1) v l e }

-- no log is longer than one with no next entry
stops : {V : Type 0} (rule : Rule V) (first : Ballot) (h : List (Step V)) (log other : List V) → IsLawfulHistory rule first h → IsLog rule h log → IsLog rule h other
    → chosen_at (members_of rule log (length log + 1)) h (length log + 1) ≡ None → length log < length other → ⊥
stops {V} rule first h log other l a b none lt =
    let n = length log in
    let w = element other n lt in
    let here = agree_members rule h (n + 1) log a (earlier rule n) (logs_agree rule first h l (needed rule (n + 1))) in
    let early = earlier rule n in
    let c = subst (λ ms. IsChosen ms h (n + 1) w.0) (here other b (omega arith)) (chosen_by rule h other n w.0 (b n w.0 w.1)) in
    chosen-found h _ (n + 1) w.0 c none

abbrev IsLongest : {V : Type 0} → Rule V → List (Step V) → List V → Type 0
IsLongest {V} rule h log = IsLog rule h log × ((other : List V) → IsLog rule h other → length other ≤ length log)

-- one more entry, if there is one
go_on : {V : Type 0} (rule : Rule V) (first : Ballot) (h : List (Step V)) (more : ℕ) (log : List V) → IsLawfulHistory rule first h → IsLog rule h log
    → (o : Option V) → chosen_at (members_of rule log (length log + 1)) h (length log + 1) ≡ o
    → ((v : V) → IsLog rule h (log ++ v ∷ []) → IsLongest rule h (with_next_entries rule h more (log ++ v ∷ [])))
    → IsLongest rule h (elim o [ None ↦ log | Some v ↦ with_next_entries rule h more (log ++ v ∷ []) ])
go_on rule first h more log l a None e rest =
    (a, λ other b. elim (cases_lt (length log) (length other)) [ inl lt ↦ absurd (stops rule first h log other l a b e lt) | inr ge ↦ ge ])
go_on rule first h more log l a (Some v) e rest = rest v (longer_log rule h log v a (next_chosen rule first h log v l e))

longer_longest : {V : Type 0} (rule : Rule V) (first : Ballot) (h : List (Step V)) → IsLawfulHistory rule first h → (more : ℕ) (log : List V) → IsLog rule h log → top_slot h ≤ length log + more
    → IsLongest rule h (with_next_entries rule h more log)
longer_longest rule first h l zero log a enough = (a, λ other b. omega (arith, length_bound rule h other b))
longer_longest rule first h l (suc more) log a enough =
    go_on rule first h more log l a (chosen_at (members_of rule log (length log + 1)) h (length log + 1)) refl
    (λ v b. longer_longest rule first h l more (log ++ v ∷ []) b (omega (arith, length_push log v)))

-- the decided log is a log, and no log is longer
pub log_of-longest : {V : Type 0} (rule : Rule V) (first : Ballot) (h : List (Step V)) → IsLawfulHistory rule first h → IsLongest rule h (log_of rule h)
log_of-longest rule first h l = longer_longest rule first h l (top_slot h) [] (λ k v e. cc) (omega arith)

-- each log is a prefix of the decided one
pub prefix_of_log : {V : Type 0} (rule : Rule V) (first : Ballot) (h : List (Step V)) → IsLawfulHistory rule first h → (other : List V) → IsLog rule h other
    → (length other ≤ length (log_of rule h)) × (take (length other) (log_of rule h) ≡ other)
prefix_of_log rule first h l other b =
    let longest = log_of-longest rule first h l in
    let le = longest.1 other b in
    (le, logs_agree rule first h l (length other) (log_of rule h) other longest.0 b le (omega arith) ∙ take_all (length other) other (omega arith))

-- ---- more steps

-- a log is one after more steps too
pub later_logs : {V : Type 0} (rule : Rule V) (newer h : List (Step V)) (log : List V) → IsLog rule h log → IsLog rule (newer ++ h) log
later_logs rule [] h log is = is
later_logs rule (s ∷ newer) h log is = later_log rule s (newer ++ h) log (later_logs rule newer h log is)

older_lawful : {V : Type 0} (rule : Rule V) (first : Ballot) (newer h : List (Step V)) → IsLawfulHistory rule first (newer ++ h) → IsLawfulHistory rule first h
older_lawful rule first [] h l = l
older_lawful rule first (s ∷ newer) h l = older_lawful rule first newer h l.1

-- after more steps the decided log goes on as it was
pub log_grows : {V : Type 0} (rule : Rule V) (first : Ballot) (newer h : List (Step V)) → IsLawfulHistory rule first (newer ++ h)
    → (length (log_of rule h) ≤ length (log_of rule (newer ++ h))) × (take (length (log_of rule h)) (log_of rule (newer ++ h)) ≡ log_of rule h)
log_grows rule first newer h l =
    prefix_of_log rule first (newer ++ h) l (log_of rule h) (later_logs rule newer h (log_of rule h) (log_of-longest rule first h (older_lawful rule first newer h l)).0)
