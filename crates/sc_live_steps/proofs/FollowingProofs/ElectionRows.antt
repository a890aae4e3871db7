-- A row in which the least member elects itself keeps what stands between the one that leads and its nodes.
use Rattle.std.proofs.Common.{◌≡◌, ℕ, ◌+◌, ◌<◌, ◌≤◌, true, List, ◌∷◌, ◌++◌, Option, Some, None, inl, inr, refl, sym, ◌∙◌, ap, subst, arith}
use Rattle.std.proofs.lemmas.Bool.{cases_eq}
use Rattle.sc_base.specs.Definitions.{Among, Each, IsRoster, is_member}
use Rattle.sc_node_table.specs.Values.{Ballot}
use Rattle.sc_node_table.specs.NodeDefinitions.{listed}
use Rattle.sc_words.specs.paxos.PaxosDefinitions.{IsAtLeast}
use Rattle.sc_words.proofs.PaxosProofs.PaxosLemmas.{at_least_below, at_least_from_below, at_least_itself, not_both, Each-among, Each-weaker}
use Rattle.sc_live_steps.specs.following.FollowingDefinitions.{Mark, Asks, Prepares, next_by, promise_by, reached, pledged, AreFit, AreAskedFirst, Progress, Sets, members_at, IsOpen, IsKnown, IsFollowing, IsRow, IsLast, Elects}
use Rattle.sc_live_steps.proofs.FollowingProofs.Marks.{known_later, reached-append, pledged-append, fit-append, fit-asks, pledged-most, IsLater}
use Rattle.sc_live_steps.proofs.FollowingProofs.NodeMarks.{GoAsFar, AreAllFit, goes, each-row, promise-row, asked-row}
use Rattle.sc_live_steps.proofs.FollowingProofs.LeaderRows.{least_in}
use Rattle.sc_live_steps.proofs.FollowingProofs.LeaderRows.{both_no as true_false}

-- the last entry takes a node to the newest state, and promises nothing
pub last_next : (newest next : ℕ) (mark : Mark) → IsLast newest mark → next_by next mark ≡ newest
last_next newest next mark (slot, fact, inl tells) = ap (next_by next) tells ∙ fact
last_next newest next mark (slot, fact, inr installs) = ap (next_by next) installs ∙ fact

pub last_promise : (newest : ℕ) (promise : Ballot) (mark : Mark) → IsLast newest mark → promise_by promise mark ≡ promise
last_promise newest promise mark (slot, fact, inl tells) = ap (promise_by promise) tells
last_promise newest promise mark (slot, fact, inr installs) = ap (promise_by promise) installs

none_some : {X : Type 0} {o : Option X} {x : X} → o ≡ None → o ≡ Some x → ⊥
none_some e f = cc

-- what is sent at an election is the ballot's Prepare, or nothing
pub elects-each : (at : Sets) (now after : Progress) (node : ℕ) (taken : Option Mark) (sent : ℕ → List Mark) → Elects at now after node taken sent → (P : Mark → Type 0) → P (Prepares after.course.ballot) → (who : ℕ) → Each P (sent who)
elects-each at now after node taken sent e P p who = elim (e.sends who) [ inl none ↦ subst (Each P) (sym none) tt | inr one ↦ subst (Each P) (sym one.1) (p, tt) ]

module _ (at : Sets) (now after : Progress) (node : ℕ) (taken : Option Mark) (sent marks marks_after : ℕ → List Mark) (rosters : (slot : ℕ) → IsRoster (at slot))
    (row : IsRow now after node taken sent marks marks_after) (e : Elects at now after node taken sent) (was : IsFollowing at now marks) where
  abbrev newest : ℕ
  newest = now.course.newest

  abbrev ballot : Ballot
  ballot = after.course.ballot

  here : marks node ≡ e.mark ∷ row.left
  here = row.takes ∙ ap (λ o. listed o ++ row.left) e.takes

  fit : AreFit (now.next node) (now.promise node) (e.mark ∷ row.left)
  fit = subst (AreFit (now.next node) (now.promise node)) here (was.fits node)

  member : is_member (members_at at newest) node ≡ true
  member = subst (λ n. is_member (members_at at newest) n ≡ true) (sym e.least) (least_in (members_at at newest) (rosters (newest + 3)).some)

  -- what a node has, and what it will have, is of no later ballot than before
  most : (who : ℕ) → IsAtLeast now.course.ballot (pledged (now.promise who) (marks who))
  most who = pledged-most now.course (now.promise who) (marks who) (was.promised who) (was.known who)

  later : (b : Ballot) → IsAtLeast now.course.ballot b → IsAtLeast ballot b
  later b least = at_least_from_below b ballot (at_least_below b now.course.ballot ballot least e.later)

  never : (b : Ballot) → IsAtLeast now.course.ballot b → b ≡ ballot → ⊥
  never b least same = not_both now.course.ballot ballot e.later (subst (IsAtLeast now.course.ballot) same least)

  -- ---- where each is after the row

  -- at the node itself, once it is elected, as in its mail before it
  own_fit : AreFit (after.next node) (after.promise node) row.left
  own_fit =
      subst (λ n. AreFit n (after.promise node) row.left) (last_next newest (now.next node) e.mark e.last ∙ sym e.next)
      (subst (λ p. AreFit (next_by (now.next node) e.mark) p row.left) (last_promise newest (now.promise node) e.mark e.last ∙ sym e.promise) fit.1)

  own_reached : reached (after.next node) row.left ≡ reached (now.next node) (marks node)
  own_reached = ap (λ n. reached n row.left) (e.next ∙ sym (last_next newest (now.next node) e.mark e.last)) ∙ sym (ap (reached (now.next node)) here)

  own_pledged : pledged (after.promise node) row.left ≡ pledged (now.promise node) (marks node)
  own_pledged = ap (λ p. pledged p row.left) (e.promise ∙ sym (last_promise newest (now.promise node) e.mark e.last)) ∙ sym (ap (pledged (now.promise node)) here)

  -- what was under way to one and is so still
  record IsLeft (who : ℕ) (left : List Mark) : Type 0 where
    mail : marks_after who ≡ left ++ sent who
    in_time : AreFit (after.next who) (after.promise who) left
    reaches : reached (after.next who) left ≡ reached (now.next who) (marks who)
    pledges : pledged (after.promise who) left ≡ pledged (now.promise who) (marks who)

  left_of : (who : ℕ) → (left : List Mark) × IsLeft who left
  left_of who = elim (cases_eq who node) [
    | inl fact ↦ (row.left, subst (λ n. IsLeft n row.left) (sym fact) (record { mail = row.own; in_time = own_fit; reaches = own_reached; pledges = own_pledged }))
    | inr ne ↦ (
      marks who,
      record {
        mail = row.others who ne;
        in_time = subst (λ n. AreFit n (after.promise who) (marks who)) (sym (row.next who ne)) (subst (λ p. AreFit (now.next who) p (marks who)) (sym (row.promise who ne)) (was.fits who));
        reaches = ap (λ n. reached n (marks who)) (row.next who ne);
        pledges = ap (λ p. pledged p (marks who)) (row.promise who ne);
      },
    )
  ]

  sent_reached : (who next : ℕ) → reached next (sent who) ≡ next
  sent_reached who next = elim (e.sends who) [ inl none ↦ ap (reached next) none | inr one ↦ ap (reached next) one.1 ]

  sent_fit : (who next : ℕ) (promise : Ballot) → (IsOpen at newest who → 1 ≤ next) → IsAtLeast now.course.ballot promise → AreFit next promise (sent who)
  sent_fit who next promise some least = elim (e.sends who) [
    | inl none ↦ subst (AreFit next promise) (sym none) tt
    | inr one ↦ subst (AreFit next promise) (sym one.1) ((some one.0, later promise least), tt)
  ]

  sent_first : (who : ℕ) → AreAskedFirst (sent who)
  sent_first who = elim (e.sends who) [ inl none ↦ subst AreAskedFirst (sym none) tt | inr one ↦ subst AreAskedFirst (sym one.1) tt ]

  reached_after : GoAsFar now.next after.next marks marks_after
  reached_after who =
      let left = left_of who in
      ap (reached (after.next who)) left.1.mail ∙ (reached-append (after.next who) left.0 (sent who) ∙ (sent_reached who (reached (after.next who) left.0) ∙ left.1.reaches))

  fit_after : AreAllFit after marks_after
  fit_after who =
      let left = left_of who in
      subst (AreFit (after.next who) (after.promise who)) (sym left.1.mail)
      (fit-append (after.next who) (after.promise who) left.0 (sent who) left.1.in_time
      (sent_fit who (reached (after.next who) left.0) (pledged (after.promise who) left.0) (λ o. subst (λ n. 1 ≤ n) (sym left.1.reaches) (was.ready who o).replica)
      (subst (IsAtLeast now.course.ballot) (sym left.1.pledges) (most who))))

  pledged_after : (who : ℕ) → IsOpen at newest who → pledged (after.promise who) (marks_after who) ≡ ballot
  pledged_after who o =
      let left = left_of who in
      ap (pledged (after.promise who)) left.1.mail ∙ (pledged-append (after.promise who) left.0 (sent who) ∙ ap (pledged (pledged (after.promise who) left.0)) (e.asks who o))

  known_after : (who : ℕ) → Each (IsKnown after.course) (marks_after who)
  known_after who =
      each-row now after node taken sent marks marks_after row (IsKnown after.course) who (Each-weaker (IsKnown now.course) (IsKnown after.course) (known_later now.course after.course (λ slot low. subst (λ n. slot < n) (sym e.bound) low) later) (marks who) (was.known who))
      (elects-each at now after node taken sent e (IsKnown after.course) (at_least_itself ballot) who)

  -- nothing is asked for that is not executed
  nothing_asked : (b : Ballot) (slot : ℕ) → Among (Asks b slot) (marks_after node) → ⊥
  nothing_asked b slot a =
      let from = fit-asks (after.next node) (after.promise node) (marks_after node) b slot (fit_after node) a in
      let to = Each-among (IsKnown after.course) (marks_after node) (Asks b slot) (known_after node) a in
      let next = e.next in
      let bound = e.bound in
      let offered = was.offered e.idle in
      omega (arith, from, to, next, bound, offered)

  pub self_election-keeps : IsFollowing at after marks_after
  self_election-keeps = record {
    fits = fit_after;
    within = λ who. subst (λ n. n ≤ after.course.newest) (sym (reached_after who)) (subst (λ n. reached (now.next who) (marks who) ≤ n) (sym e.newest) (was.within who));
    members = λ who fact. reached_after who ∙ (was.members who (subst (λ n. is_member (members_at at n) who ≡ true) e.newest fact) ∙ sym e.newest);
    ready = λ who o. (let old = subst (λ n. IsOpen at n who) e.newest o in
        record { replica = subst (λ n. 1 ≤ n) (sym (reached_after who)) (was.ready who old).replica; promised = pledged_after who old });
    some = subst (λ n. 1 ≤ n) (sym e.newest) was.some;
    low = (let low = was.low in let n = e.newest in let b = e.bound in omega (arith, low, n, b));
    high = (let high = was.high in let n = e.newest in let b = e.bound in omega (arith, high, n, b));
    known = known_after;
    promised = λ who. later (after.promise who) (subst (IsAtLeast now.course.ballot) (sym (promise-row now after node taken sent marks marks_after row e.promise who)) (was.promised who));
    first = λ f who. absurd (true_false f e.first);
    asked = λ who. asked-row now after node taken sent marks marks_after row who (was.asked who) (was.known who) (elects-each at now after node taken sent e (IsLater now.course.bound) tt who) (sent_first who);
    undone = λ r b slot a. absurd (nothing_asked b slot (subst (λ n. Among (Asks b slot) (marks_after n)) e.mine a));
    flying = λ slot voters v. absurd (none_some (e.voters slot) v);
    votes = λ slot voters v who fact. absurd (none_some (e.voters slot) v);
    promises = λ r f who o. inl (goes now after node taken sent marks marks_after row who (Prepares ballot) (subst (Among (Prepares ballot)) (sym (e.asks who (subst (λ n. IsOpen at n who) e.newest o))) (inl refl)));
    pledges = λ r f who same. absurd (never (now.promise who) (was.promised who) (sym (promise-row now after node taken sent marks marks_after row e.promise who) ∙ same));
    leads = λ r. record {
      executed = ap after.next e.mine ∙ (e.next ∙ sym e.newest);
      member = subst (λ n. is_member (members_at at after.course.newest) n ≡ true) (sym e.mine) (subst (λ n. is_member (members_at at n) node ≡ true) (sym e.newest) member);
      stands = e.stays;
    };
    offered = λ r. absurd (true_false e.runs r);
    self_election = λ r g. absurd (true_false e.runs r);
  }
