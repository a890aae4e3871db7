-- How a group begins, and what stands between the one that leads and its nodes where no mail is under way.
use Rattle.std.proofs.Common.{◌≡◌, ℕ, ◌+◌, ◌*◌, ◌<◌, ◌≤◌, true, false, eqb, cond, List, [], ◌∷◌, length, Option, Some, None, inl, inr, refl, sym, ◌∙◌, ap, subst, arith}
use Rattle.std.proofs.lemmas.Bool.{cases_Bool, cond_both, cond-true, eq-eqb, lt-ltb, or_left, or_right, both_ways}
use Rattle.std.proofs.lemmas.List.Sums.{sum_by-cons}
use Rattle.sc_base.specs.Definitions.{Among, votes_of, is_majority, IsRoster, is_member, least_of}
use Rattle.sc_node_table.specs.Values.{Ballot}
use Rattle.sc_node_table.specs.NodeDefinitions.{slots_ahead}
use Rattle.sc_words.proofs.PaxosProofs.PaxosLemmas.{at_least_itself}
use Rattle.sc_live_steps.specs.following.FollowingDefinitions.{Mark, Asks, Votes, Prepares, Promises, reached, pledged, Progress, Sets, members_at, IsVoting, IsPromising, IsFollowing, IsEven, IsEvenLed, begun}
use Rattle.sc_live_steps.proofs.FollowingProofs.LeaderRows.{least_in}

-- ---- a group begins

-- A group begins with its first members at the same place, one of which leads with the first ballot, and no mail under way: so each that decides an open slot follows the one that leads.
pub begins : (at : Sets) (ballot : Ballot) → ((slot : ℕ) → slot < 1 + slots_ahead → at slot ≡ members_at at 1) → is_member (members_at at 1) ballot.node ≡ true → IsFollowing at (begun (members_at at 1) ballot) (λ node. [])
begins at ballot same mine = record {
  fits = λ node. tt;
  within = λ node. cond_both (is_member (members_at at 1) node) 1 0 (λ n. n ≤ 1) (λ _. omega arith) (λ _. omega arith);
  members = λ node fact. cond-true (is_member (members_at at 1) node) 1 0 fact;
  ready = λ node o. record {
    replica = subst (λ n. 1 ≤ n) (sym (cond-true (is_member (members_at at 1) node) 1 0 (subst (λ s. is_member s node ≡ true) (same o.slot o.to) o.decides))) (omega arith);
    promised = refl;
  };
  some = omega arith;
  low = omega arith;
  high = omega arith;
  known = λ node. tt;
  promised = λ node. at_least_itself ballot;
  first = λ f node. refl;
  asked = λ node. tt;
  undone = λ r b slot a. absurd a;
  flying = λ slot voters v. absurd (none_some v);
  votes = λ slot voters v node fact. absurd (none_some v);
  promises = λ r f node o. absurd (true_false f);
  pledges = λ r f node e. absurd (true_false f);
  leads = λ r. record { executed = cond-true (is_member (members_at at 1) ballot.node) 1 0 mine; member = mine; stands = refl };
  offered = λ r. absurd (true_false r);
  self_election = λ r g. absurd (true_false r);
}
  where
    none_some : {x : List ℕ} → None ≡ Some x → ⊥
    none_some e = cc

    true_false : true ≡ false → ⊥
    true_false e = cc

-- ---- where all that decide a slot have voted, a majority has

pub all_votes : (members voters : List ℕ) → ((node : ℕ) → is_member members node ≡ true → is_member voters node ≡ true) → votes_of members voters ≡ length members
all_votes [] voters f = refl
all_votes (x ∷ members) voters f =
    let head = sum_by-cons (λ member. cond (is_member voters member) 1 0) x members in
    let one : ◌≡◌ {A = ℕ} (cond (is_member voters x) 1 0) 1 = cond-true (is_member voters x) 1 0 (f x (or_left (eqb x x) (is_member members x) (eq-eqb x x refl))) in
    let more = all_votes members voters (λ node fact. f node (or_right (eqb x node) (is_member members node) fact)) in
    omega (arith, head, one, more)

pub decided : (members voters : List ℕ) → 1 ≤ length members → ((node : ℕ) → is_member members node ≡ true → is_member voters node ≡ true) → is_majority members voters ≡ true
decided members voters some f = (let all = all_votes members voters f in lt-ltb (length members) (2 * votes_of members voters) (omega (arith, all, some)))

-- ---- where no mail is under way

module _ (at : Sets) (now : Progress) (marks : ℕ → List Mark) (rosters : (slot : ℕ) → IsRoster (at slot)) (quiet : (node : ℕ) → marks node ≡ []) (was : IsFollowing at now marks) where
  abbrev newest : ℕ
  newest = now.course.newest

  nothing : (node : ℕ) (mark : Mark) → Among mark (marks node) → ⊥
  nothing node mark a = subst (Among mark) (quiet node) a

  ends : (node : ℕ) → reached (now.next node) (marks node) ≡ now.next node
  ends node = ap (reached (now.next node)) (quiet node)

  pledges : (node : ℕ) → pledged (now.promise node) (marks node) ≡ now.promise node
  pledges node = ap (pledged (now.promise node)) (quiet node)

  members : (node : ℕ) → is_member (members_at at newest) node ≡ true → now.next node ≡ newest
  members node fact = sym (ends node) ∙ was.members node fact

  voted : (slot : ℕ) (voters : List ℕ) (node : ℕ) → IsVoting now.course.ballot node slot voters (marks node) (marks now.course.ballot.node) → is_member voters node ≡ true
  voted slot voters node (inl v) = v
  voted slot voters node (inr (inl a)) = absurd (nothing node (Asks now.course.ballot slot) a)
  voted slot voters node (inr (inr a)) = absurd (nothing now.course.ballot.node (Votes node now.course.ballot slot) a)

  none : (slot : ℕ) (voters : Option (List ℕ)) → now.course.voters slot ≡ voters → now.course.voters slot ≡ None
  none slot None e = e
  none slot (Some voters) e =
      absurd (both_ways (is_majority (at slot) voters) (was.flying slot voters e).undecided (decided (at slot) voters (rosters slot).some (λ node fact. voted slot voters node (was.votes slot voters e node fact))))

  even : IsEven at now
  even = record {
    members = members;
    most = λ node. subst (λ n. n ≤ newest) (ends node) (was.within node);
    promised = was.promised;
    none = λ slot. none slot (now.course.voters slot) refl;
  }

  counted : (node : ℕ) → IsPromising now.course node (marks node) (marks now.course.ballot.node) → now.course.counted node ≡ true
  counted node (inl a) = absurd (nothing node (Prepares now.course.ballot) a)
  counted node (inr (inl c)) = c
  counted node (inr (inr a)) = absurd (nothing now.course.ballot.node (Promises node now.course.ballot) a)

  -- one leads: else the least member has not executed all, but all members have
  running : now.course.gone ≡ false → now.course.running ≡ true
  running stands = elim (cases_Bool now.course.running) [
    | inl t ↦ t
    | inr f ↦ (let heir = least_of (members_at at newest) in
        let low = was.self_election f stands in
        let all = members heir (least_in (members_at at newest) (rosters (newest + 3)).some) in
        absurd (omega (arith, low, all)))
  ]

  led : now.course.gone ≡ false → IsEvenLed at now
  led stands = (let r = running stands in record {
    runs = r;
    leads = was.leads r;
    replicas = λ node o. subst (λ n. 1 ≤ n) (ends node) (was.ready node o).replica;
    voters = λ node o. sym (pledges node) ∙ (was.ready node o).promised;
    counted = λ later node o. counted node (was.promises r later node o);
  })

  pub quiet-even : IsEven at now × (now.course.gone ≡ false → IsEvenLed at now)
  quiet-even = (even, led)
