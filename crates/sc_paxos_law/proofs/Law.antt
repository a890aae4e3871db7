-- One value per slot.
use Rattle.std.proofs.Common.{◌≡◌, ℕ, ◌+◌, ◌<◌, ◌≤◌, zero, suc, true, List, [], ◌∷◌, ◌++◌, length, map, take, get_or, Some, IfSome, ◌⊎◌, inl, inr, refl, sym, ◌∙◌, ap, subst, arith}
use Rattle.std.specs.List.{flat_map, slice_get}
use Rattle.std.proofs.lemmas.Bool.{cases_lt}
use Rattle.std.proofs.lemmas.Option.{slice_get_cases, slice_get_within}
use Rattle.std.proofs.lemmas.List.{take_more, take-take, take-append-le, take_all}
use Rattle.sc_base.specs.Definitions.{Among, Each, IsMajority}
use Rattle.sc_base.specs.declared.names.Ballot.{Ballot}
use Rattle.sc_words.specs.declared.paxos.reports.Report.{Report}
use Rattle.sc_words.specs.paxos.PaxosDefinitions.{below, IsAtLeast}
use Rattle.sc_words.proofs.PaxosProofs.PaxosLemmas.{below_parts, at_least_trans, at_least_from_below, cases_below, same_from_at_least, not_both, Each-among, Each-weaker, choice_among, choice_best}
use Rattle.sc_paxos_law.specs.PaxosLawDefinitions.{Step, Offered, Accepted, Rule, needed, members_of, IsChosen, IsChosenAfter, IsLog, CountedPromise, IsElected, IsLawfulStep, IsLawfulHistory}
use Rattle.sc_paxos_law.proofs.Among.{Among-flat_map, from_flat_map, from_map, shared_member, get_pushed}
use Rattle.sc_paxos_law.proofs.History.{first_is_least, was_offered, one_offer, reported, report_accepted}

-- ---- what holds of a history holds after one more step

-- what is chosen stays chosen after one more step
pub later_chosen : {V : Type 0} (members : List ℕ) (s : Step V) (older : List (Step V)) (slot : ℕ) (v : V) → IsChosen members older slot v → IsChosen members (s ∷ older) slot v
later_chosen members s older slot v c =
    record { ballot = c.ballot; voters = c.voters; each = Each-weaker _ _ (λ n a. inr a) c.voters c.each; majority = c.majority }

-- a log is one after one more step
pub later_log : {V : Type 0} (rule : Rule V) (s : Step V) (older : List (Step V)) (log : List V) → IsLog rule older log → IsLog rule (s ∷ older) log
later_log rule s older log l k v e = let c = l k v e in record { known = c.known; chosen = later_chosen _ s older (k + 1) v c.chosen }

-- an offer, with the log that its proposer knew
record IsMade {V : Type 0} (rule : Rule V) (first ballot : Ballot) (slot : ℕ) (value : V) (h : List (Step V)) : Type 0 where
  log : List V
  is_log : IsLog rule h log
  known : needed rule slot ≤ length log
  elected : (ballot ≡ first) ⊎ IsElected (members_of rule log slot) ballot slot value h

-- an election is one after more steps too
pub later_elected : {V : Type 0} (members : List ℕ) (b : Ballot) (slot : ℕ) (v : V) (s : Step V) (older : List (Step V)) → IsElected members b slot v older → IsElected members b slot v (s ∷ older)
later_elected members b slot v s older e =
    record { votes = e.votes; made = Each-weaker _ _ (λ x m. (inr m.0, m.1)) e.votes e.made; majority = e.majority; choice = e.choice }

later_made : {V : Type 0} (rule : Rule V) (first b : Ballot) (slot : ℕ) (v : V) (s : Step V) (older : List (Step V)) (log : List V) → IsLog rule older log → needed rule slot ≤ length log
    → (b ≡ first) ⊎ IsElected (members_of rule log slot) b slot v older → IsMade rule first b slot v (s ∷ older)
later_made rule first b slot v s older log l known (inl e) = record { log = log; is_log = later_log rule s older log l; known = known; elected = inl e }
later_made rule first b slot v s older log l known (inr e) =
    record { log = log; is_log = later_log rule s older log l; known = known; elected = inr (later_elected _ b slot v s older e) }

made : {V : Type 0} (rule : Rule V) (first : Ballot) (h : List (Step V)) (b : Ballot) (slot : ℕ) (v : V) → IsLawfulHistory rule first h → Among (Offered b slot v) h → IsMade rule first b slot v h
made rule first [] b slot v l a = absurd a
made rule first (s ∷ older) b slot v l (inl e) =
    let m = subst (λ t. IsLawfulStep rule first t older) e l.0 in later_made rule first b slot v s older m.log m.is_log m.known m.elected
made rule first (s ∷ older) b slot v l (inr a) =
    let m = made rule first older b slot v l.1 a in later_made rule first b slot v s older m.log m.is_log m.known m.elected

-- ---- one slot, whose members all logs agree on

abbrev pub HasMembers : {V : Type 0} → Rule V → List (Step V) → ℕ → List ℕ → Type 0
HasMembers {V} rule h slot members = (log : List V) → IsLog rule h log → needed rule slot ≤ length log → members_of rule log slot ≡ members

-- the choice of an elected proposer was accepted in a ballot between the two
choice_between : {V : Type 0} (rule : Rule V) (first : Ballot) (h : List (Step V)) (slot : ℕ) (members voters : List ℕ) (b : Ballot) (v : V) (b' : Ballot) (w : V)
    → IsLawfulHistory rule first h → Each (λ n. Among (Accepted n b slot v) h) voters → IsMajority members voters → below b b' ≡ true → IsElected members b' slot w h
    → (between : Ballot) × IsAtLeast between b × (below between b' ≡ true) × Among (Offered between slot w) h
choice_between {V} rule first h slot members voters b v b' w l each most lt e =
    let shared = shared_member members voters (map (λ (x : CountedPromise V). x.node) e.votes) most e.majority in
    let vote = from_map (λ (x : CountedPromise V). x.node) e.votes shared.0 shared.2 in
    let promised = Each-among _ e.votes vote.0 e.made vote.1 in
    let accepted = subst (λ n. Among (Accepted n b slot v) h) (sym vote.2) (Each-among _ voters shared.0 each shared.1) in
    let r = reported rule first h vote.0.node b' vote.0.from vote.0.reports b slot v l promised.0 accepted lt promised.1 in
    let all = flat_map (λ (x : CountedPromise V). x.reports) e.votes in
    let found = choice_best slot all r.0 (Among-flat_map (λ (x : CountedPromise V). x.reports) e.votes vote.0 r.0 vote.1 r.1) r.2 in
    let best = found.0 in
    let is_w : best.value ≡ w = (let k = subst (λ o. IfSome o (λ (x : Report V). x.value ≡ w)) found.1 e.choice in k) in
    let there = choice_among slot all best found.1 in
    let from = from_flat_map (λ (x : CountedPromise V). x.reports) e.votes best there.0 in
    let also = Each-among _ e.votes from.0 e.made from.1 in
    let did = report_accepted rule first h from.0.node b' from.0.from from.0.reports best l also.0 from.2 in
    let offer = was_offered rule first h from.0.node best.ballot best.slot best.value l did.0 in (
      best.ballot,
      at_least_trans best.ballot r.0.ballot b found.2 r.3,
      did.1,
      subst (λ (x : V). Among (Offered best.ballot slot x) h) is_w (subst (λ k. Among (Offered best.ballot k best.value) h) there.1 offer),
    )

-- what holds of a ballot where it holds of all below it holds of all
below_induction : (P : Ballot → Type 0) → ((b : Ballot) → ((a : Ballot) → below a b ≡ true → P a) → P b) → (b : Ballot) → P b
below_induction P step b = rounds (suc b.round) b (omega arith)
  where
    nodes : (n : ℕ) → ((a : Ballot) → a.round < n → P a) → (m : ℕ) (b : Ballot) → b.round < suc n → b.node < m → P b
    nodes n lower zero b lt lm = absurd (omega arith)
    nodes n lower (suc m) b lt lm =
        step b (λ a h. elim (below_parts a b h) [
          | inl r ↦ lower a (omega (arith, r))
          | inr e ↦ nodes n lower m a (omega (arith, e.0)) (omega (arith, e.1))
        ])

    rounds : (n : ℕ) (b : Ballot) → b.round < n → P b
    rounds zero b lt = absurd (omega arith)
    rounds (suc n) b lt = nodes n (rounds n) (suc b.node) b lt (omega arith)

-- what is offered with a ballot not below that of a chosen value is that value
abbrev Safe : {V : Type 0} → List (Step V) → ℕ → V → Ballot → Ballot → Type 0
Safe {V} h slot v chosen b = (w : V) → IsAtLeast b chosen → Among (Offered b slot w) h → v ≡ w

safe_step : {V : Type 0} (rule : Rule V) (first : Ballot) (h : List (Step V)) (slot : ℕ) (members : List ℕ) (v : V)
    → IsLawfulHistory rule first h → HasMembers rule h slot members → (c : IsChosen members h slot v)
    → (b : Ballot) → ((a : Ballot) → below a b ≡ true → Safe h slot v c.ballot a) → Safe h slot v c.ballot b
safe_step {V} rule first h slot members v l same c b lower w above o =
    let voter = shared_member members c.voters c.voters c.majority c.majority in
    let accepted = Each-among _ c.voters voter.0 c.each voter.1 in
    let offered = was_offered rule first h voter.0 c.ballot slot v l accepted in
    elim (cases_below c.ballot b) [
      | inl lt ↦ (
          let m = made rule first h b slot w l o in
          elim m.elected [
            | inl is_first ↦ absurd (not_both c.ballot b lt (subst (λ x. IsAtLeast c.ballot x) (sym is_first) (first_is_least rule first h voter.0 c.ballot slot v l accepted)))
            | inr e ↦ (
                let at : IsElected members b slot w h = subst (λ ms. IsElected ms b slot w h) (same m.log m.is_log m.known) e in
                let mid = choice_between rule first h slot members c.voters c.ballot v b w l c.each c.majority lt at in
                lower mid.0 mid.2 w mid.1 mid.3)
          ])
      | inr ge ↦ one_offer rule first h b slot v w l (subst (λ x. Among (Offered x slot v) h) (same_from_at_least c.ballot b ge above) offered) o
    ]

safe : {V : Type 0} (rule : Rule V) (first : Ballot) (h : List (Step V)) (slot : ℕ) (members : List ℕ) (v : V)
    → IsLawfulHistory rule first h → HasMembers rule h slot members → (c : IsChosen members h slot v) → (b : Ballot) → Safe h slot v c.ballot b
safe rule first h slot members v l same c b = below_induction (Safe h slot v c.ballot) (safe_step rule first h slot members v l same c) b

-- a chosen value was offered
offer_of : {V : Type 0} (rule : Rule V) (first : Ballot) (h : List (Step V)) (slot : ℕ) (members : List ℕ) (v : V)
    → IsLawfulHistory rule first h → (c : IsChosen members h slot v) → Among (Offered c.ballot slot v) h
offer_of rule first h slot members v l c =
    let voter = shared_member members c.voters c.voters c.majority c.majority in
    was_offered rule first h voter.0 c.ballot slot v l (Each-among _ c.voters voter.0 c.each voter.1)

one_value : {V : Type 0} (rule : Rule V) (first : Ballot) (h : List (Step V)) (slot : ℕ) (members : List ℕ) (v w : V)
    → IsLawfulHistory rule first h → HasMembers rule h slot members → IsChosen members h slot v → IsChosen members h slot w → v ≡ w
one_value rule first h slot members v w l same c d =
    let offered_v = offer_of rule first h slot members v l c in
    let offered_w = offer_of rule first h slot members w l d in
    elim (cases_below c.ballot d.ballot) [
      | inl lt ↦ safe rule first h slot members v l same c d.ballot w (at_least_from_below c.ballot d.ballot lt) offered_w
      | inr ge ↦ sym (safe rule first h slot members w l same d c.ballot v ge offered_v)
    ]

-- ---- all slots

-- two logs agree on their first n entries
abbrev pub Agree : {V : Type 0} → Rule V → List (Step V) → ℕ → Type 0
Agree {V} rule h n = (log other : List V) → IsLog rule h log → IsLog rule h other → n ≤ length log → n ≤ length other → take n log ≡ take n other

-- logs that agree as far as is needed give a slot the same members
pub agree_members : {V : Type 0} (rule : Rule V) (h : List (Step V)) (slot : ℕ) (log : List V) → IsLog rule h log → needed rule slot ≤ length log → Agree rule h (needed rule slot)
    → HasMembers rule h slot (members_of rule log slot)
agree_members rule h slot log l known agree other k enough = ap rule.members (agree other log k l enough known)

-- each place within a list has its element
pub element : {V : Type 0} (xs : List V) (n : ℕ) → n < length xs → (v : V) × (slice_get xs n ≡ Some v) × (get_or xs n v ≡ v)
element xs n h =
    elim (slice_get_cases xs n).1 [ inl k ↦ (k.0, k.2, k.3) | inr k ↦ absurd (omega (arith, k.0)) ]

-- the members of a slot come from entries before it
pub earlier : {V : Type 0} (rule : Rule V) (slot : ℕ) → needed rule (slot + 1) ≤ slot
earlier rule slot = omega (arith, rule.some)

-- the members that an entry was chosen by are those that the whole log gives
pub chosen_by : {V : Type 0} (rule : Rule V) (h : List (Step V)) (log : List V) (n : ℕ) (v : V) → IsChosenAfter rule h (take n log) (n + 1) v → IsChosen (members_of rule log (n + 1)) h (n + 1) v
chosen_by {V} rule h log n v c =
    subst (λ ms. IsChosen ms h (n + 1) v) (ap rule.members (take-take (needed rule (n + 1)) n log (earlier rule n))) c.chosen

agree_next : {V : Type 0} (rule : Rule V) (first : Ballot) (h : List (Step V)) → IsLawfulHistory rule first h → (n : ℕ) → ((k : ℕ) → k ≤ n → Agree rule h k) → Agree rule h (n + 1)
agree_next {V} rule first h l n below log other a b p q =
    let v = element log n (omega arith) in
    let w = element other n (omega arith) in
    let early = earlier rule n in
    let here = agree_members rule h (n + 1) log a (omega arith) (below (needed rule (n + 1)) early) in
    let by_log = chosen_by rule h log n v.0 (a n v.0 v.1) in
    let by_other = subst (λ ms. IsChosen ms h (n + 1) w.0) (here other b (omega arith)) (chosen_by rule h other n w.0 (b n w.0 w.1)) in
    let same = one_value rule first h (n + 1) _ v.0 w.0 l here by_log by_other in
    let rest = below n (omega arith) log other a b (omega arith) (omega arith) in
    take_more log n v.0 (omega arith) ∙ ap (λ x. take n log ++ x ∷ []) (v.2 ∙ same ∙ sym w.2) ∙ ap (λ xs. xs ++ get_or other n w.0 ∷ []) rest ∙ sym (take_more other n w.0 (omega arith))

agree_up_to : {V : Type 0} (rule : Rule V) (first : Ballot) (h : List (Step V)) → IsLawfulHistory rule first h → (n k : ℕ) → k ≤ n → Agree rule h k
agree_up_to rule first h l zero k le = let e : 0 ≡ k = omega arith in subst (Agree rule h) e (λ log other a b p q. refl)
agree_up_to rule first h l (suc n) k le =
    elim (cases_lt n k) [
      | inl lt ↦ (let e : n + 1 ≡ k = omega arith in subst (Agree rule h) e (agree_next rule first h l n (agree_up_to rule first h l n)))
      | inr ge ↦ agree_up_to rule first h l n k ge
    ]

-- any two logs of a history agree as far as both go
pub logs_agree : {V : Type 0} (rule : Rule V) (first : Ballot) (h : List (Step V)) → IsLawfulHistory rule first h → (n : ℕ) → Agree rule h n
logs_agree rule first h l n = agree_up_to rule first h l n n (omega arith)

-- no two values are chosen at one slot
pub one_value_per_slot : {V : Type 0} (rule : Rule V) (first : Ballot) (h : List (Step V)) → IsLawfulHistory rule first h
    → (log other : List V) → IsLog rule h log → IsLog rule h other
    → (slot : ℕ) (v w : V) → IsChosenAfter rule h log (slot + 1) v → IsChosenAfter rule h other (slot + 1) w → v ≡ w
one_value_per_slot rule first h l log other a b slot v w c d =
    let here = agree_members rule h (slot + 1) log a c.known (logs_agree rule first h l (needed rule (slot + 1))) in
    one_value rule first h (slot + 1) _ v w l here c.chosen (subst (λ ms. IsChosen ms h (slot + 1) w) (here other b d.known) d.chosen)

-- one entry more
pub longer_log : {V : Type 0} (rule : Rule V) (h : List (Step V)) (log : List V) (v : V) → IsLog rule h log → IsChosenAfter rule h log (length log + 1) v → IsLog rule h (log ++ v ∷ [])
longer_log {V} rule h log v is c k w e =
    elim (get_pushed log v k w e) [
      | inl old ↦ (
          let within = slice_get_within log k w old in
          subst (λ xs. IsChosenAfter rule h xs (k + 1) w) (sym (take-append-le k log (v ∷ []) (omega arith))) (is k w old))
      | inr new ↦ (
          let same : log ≡ take k (log ++ v ∷ []) = sym (take-append-le k log (v ∷ []) (omega (arith, new.0)) ∙ take_all k log (omega (arith, new.0))) in
          subst (λ xs. IsChosenAfter rule h xs (k + 1) w) same (subst (λ m. IsChosenAfter rule h log (m + 1) w) (sym new.0) (subst (IsChosenAfter rule h log (length log + 1)) new.1 c)))
    ]
