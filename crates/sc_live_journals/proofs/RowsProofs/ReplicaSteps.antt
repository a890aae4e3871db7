-- A row of a replica's table as one of its group's progress.
use Rattle.std.proofs.Common.{◌≡◌, ℕ, ◌+◌, ◌<◌, ◌≤◌, ◌||◌, eqb, leb, Bool, true, false, true≢false, cond, List, [], ◌∷◌, length, inl, inr, refl, sym, ◌∙◌, ap, subst, arith}
use Rattle.std.specs.List.{filter}
use Rattle.std.proofs.lemmas.Bool.{cases_Bool, cases_lt, cond_both, cond-true, cond-false, eqb-true, and_parts, or_left, or_right, leb-true, both_ways}
use Rattle.sc_base.specs.Definitions.{most_nodes, is_member}
use Rattle.sc_node_table.specs.Values.{Ballot, Command, Promise, Accepted, Report}
use Rattle.sc_words.specs.paxos.PaxosDefinitions.{promise_counted}
use Rattle.sc_node_table.specs.NodeDefinitions.{is_in_some, nodes_to, open_nodes, pumped, ReplicaState, Place, Executed, childless, name_of, next, set_at, mailed, numbers_from, leads, promise_row, voted, accepted_row}
use Rattle.sc_live_steps.specs.following.FollowingDefinitions.{Mark, Votes, Teaches, Installs, Prepares, Promises, next_by, promise_by, Course, Sets, IsOpen, answered, AreAt, marks_for, StepsBy, next_ballot}
use Rattle.sc_live_steps.proofs.FollowingProofs.FollowingLemmas.{states, among_numbers as in_numbers}
use Rattle.sc_live_journals.specs.rows.RowDefinitions.{next_in, promise_in, StepsTake, StatesTake, UncountedPass, IsToLead, StepsElect, StillIdle}

-- ---- a node that takes a mail

-- A replica that takes a mail as its mark says takes it so in its group, where no leader takes a vote or a promise, and none that is to lead next executes the last entry.
pub steps_take : StepsTake
steps_take at births rows seat event base course mark r after row named me takes steps counts waits =
    let now_next = ap (next_in base seat.who) row.was in
    let after_next = ap (next_in base seat.who) row.fact in
    let now_promise = ap (promise_in base) row.was in
    let after_promise = ap (promise_in base) row.fact in
    record {
      mark = mark;
      takes = takes;
      next = after_next ∙ (steps.reaches ∙ ap (λ n. next_by n mark) (sym now_next));
      promise = after_promise ∙ (steps.promises ∙ ap (λ b. promise_by b mark) (sym now_promise));
      course = refl;
      sends = λ who. row.sends who ∙ (ap (λ n. marks_for n who after.1) (sym named) ∙ (steps.answers who ∙ (ap (λ n. answered n r.acceptor.promised mark who) me ∙ ap (λ b. answered seat.who b mark who) (sym now_promise))));
      counts = counts;
      waits = λ off stands least. subst (λ n. n < course.newest) (sym after_next) (waits off stands least);
    }

-- So does a node that makes a replica of a state that a member sends.
pub states_take : StatesTake
states_take at births rows seat event base course me from slot state sets row takes firsts mine waits =
    let now_next = ap (next_in base seat.who) row.was in
    let now_promise = ap (promise_in base) row.was in
    let after_next = ap (next_in base seat.who) row.fact ∙ states.reaches me from base.core.id slot state sets mine in
    let after_promise = ap (promise_in base) row.fact ∙ (states.promises me from base.core.id slot state sets mine ∙ firsts) in
    record {
      mark = Installs slot;
      takes = takes;
      next = after_next;
      promise = after_promise ∙ sym now_promise;
      course = refl;
      sends = λ who. row.sends who ∙ ap (marks_for base.core.id who) (states.sends me from base.core.id slot state sets mine);
      counts = λ runs lead count. count;
      waits = λ off stands least. subst (λ n. n < course.newest) (sym after_next) (waits off stands least);
    }

-- ---- what no leader counts

module _ (r : ReplicaState) where
  stays : (mark : Mark) → next r ≡ next_by (next r) mark → r.acceptor.promised ≡ promise_by r.acceptor.promised mark → ((who : ℕ) → [] ≡ answered r.me r.acceptor.promised mark who) → StepsBy mark r (r, [])
  stays mark n p a = record { reaches = n; promises = p; runs = refl; leads = λ _. (refl, refl); answers = a; low = λ l. l }

  uncounted_vote : (from : ℕ) (ballot : Ballot) (slot : ℕ) → leads ballot r ≡ false → StepsBy (Votes from ballot slot) r (mailed from (Accepted (name_of r) ballot slot) (r, [])).0
  unfolding mailed accepted_row
  uncounted_vote from ballot slot off =
      subst (λ (p : Executed). StepsBy (Votes from ballot slot) r p.0) (sym (cond-false (leads ballot r) (voted from ballot slot (set_at slot r) (r, [])) (childless (r, [])) off)) (stays (Votes from ballot slot) refl refl (λ who. refl))

  uncounted_promise : (from : ℕ) (ballot : Ballot) (reports : List (Report Command)) → leads ballot r ≡ false → StepsBy (Promises from ballot) r (mailed from (Promise (name_of r) ballot reports) (r, [])).0
  unfolding mailed promise_row
  uncounted_promise from ballot reports off =
      subst (λ (p : Place). StepsBy (Promises from ballot) r p) (sym (cond-false (leads ballot r) (pumped (record r { leader = (promise_counted from ballot reports r.leader).1 }, [])) (r, []) off)) (stays (Promises from ballot) refl refl (λ who. refl))

-- A vote and a promise that no leader counts change nothing, and are not answered.
pub uncounted_pass : UncountedPass
uncounted_pass = record {
  vote = λ from ballot slot r off. uncounted_vote r from ballot slot off;
  promise = λ from ballot reports r off. uncounted_promise r from ballot reports off;
}

-- ---- one that elects itself

-- one that passes and stands in a list stands among those that pass, and only such a one
passes : (p : ℕ → Bool) (who : ℕ) → p who ≡ true → (xs : List ℕ) → is_member xs who ≡ true → is_member (filter p xs) who ≡ true
passes p who t [] e = e
passes p who t (x ∷ xs) e = by (eqb x who) refl e (passes p who t xs)
  where
    by : (b : Bool) → eqb x who ≡ b → (b || is_member xs who) ≡ true → (is_member xs who ≡ true → is_member (filter p xs) who ≡ true) → is_member (filter p (x ∷ xs)) who ≡ true
    by true fact e2 rest = cond_both (p x) (x ∷ filter p xs) (filter p xs) (λ l. is_member l who ≡ true) (λ _. or_left (eqb x who) (is_member (filter p xs) who) fact) (λ f. absurd (both_ways (p x) f (ap p (eqb-true x who fact) ∙ t)))
    by false fact e2 rest = cond_both (p x) (x ∷ filter p xs) (filter p xs) (λ l. is_member l who ≡ true) (λ _. or_right (eqb x who) (is_member (filter p xs) who) (rest e2)) (λ _. rest e2)

passed : (p : ℕ → Bool) (who : ℕ) (xs : List ℕ) → is_member (filter p xs) who ≡ true → p who ≡ true
passed p who [] e = absurd (true≢false (sym e))
passed p who (x ∷ xs) e = by (p x) refl e (passed p who xs)
  where
    by : (b : Bool) → p x ≡ b → is_member (cond b (x ∷ filter p xs) (filter p xs)) who ≡ true → (is_member (filter p xs) who ≡ true → p who ≡ true) → p who ≡ true
    by false f e2 rest = rest e2
    by true t e2 rest = by_head (eqb x who) refl e2
      where
        by_head : (b : Bool) → eqb x who ≡ b → (b || is_member (filter p xs) who) ≡ true → p who ≡ true
        by_head true fact e3 = ap p (sym (eqb-true x who fact)) ∙ t
        by_head false fact e3 = rest e3

module _ (at : Sets) (who : ℕ) where
  -- one of the sets has the node where it decides one of their slots
  in_sets : (sets : List (List ℕ)) (from slot : ℕ) → AreAt at from sets → from ≤ slot → slot < from + length sets → is_member (at slot) who ≡ true → is_in_some sets who ≡ true
  in_sets [] from slot are low high m = absurd (omega (arith, low, high))
  in_sets (set ∷ sets) from slot are low high m = elim (cases_lt from slot) [
    | inl lt ↦ or_right (is_member set who) (is_in_some sets who) (in_sets sets (from + 1) slot are.1 (omega (arith, lt)) (omega (arith, high)) m)
    | inr ge ↦ (let same : slot ≡ from = omega (arith, low, ge) in or_left (is_member set who) (is_in_some sets who) (ap (λ s. is_member s who) (sym are.0) ∙ (ap (λ n. is_member (at n) who) (sym same) ∙ m)))
  ]

  -- a node that is in some set of the open slots decides one of them
  from_sets : (sets : List (List ℕ)) (from : ℕ) → AreAt at from sets → is_in_some sets who ≡ true → (slot : ℕ) × (from ≤ slot) × (slot < from + length sets) × (is_member (at slot) who ≡ true)
  from_sets [] from are e = absurd (true≢false (sym e))
  from_sets (set ∷ sets) from are e = by (is_member set who) refl e (from_sets sets (from + 1) are.1)
    where
      by : (b : Bool) → is_member set who ≡ b → (b || is_in_some sets who) ≡ true
          → (is_in_some sets who ≡ true → (slot : ℕ) × (from + 1 ≤ slot) × (slot < from + 1 + length sets) × (is_member (at slot) who ≡ true))
          → (slot : ℕ) × (from ≤ slot) × (slot < from + length (set ∷ sets)) × (is_member (at slot) who ≡ true)
      by true fact e2 rest = (from, omega arith, omega arith, ap (λ s. is_member s who) are.0 ∙ fact)
      by false fact e2 rest = (let r = rest e2 in let low = r.1 in let high = r.2 in (r.0, omega (arith, low), omega (arith, high), r.3))

module _ (at : Sets) (course : Course) (slot : ℕ) (open_sets : List (List ℕ)) (r : ReplicaState) (l : IsToLead at course slot open_sets r) (who : ℕ) where
  asked : IsOpen at course.newest who → is_member (open_nodes open_sets) who ≡ true
  unfolding nodes_to
  asked o =
      let number = and_parts (leb 1 who) (leb who most_nodes) (l.nodes o.slot who o.decides) in
      let low = leb-true 1 who number.0 in
      let high = leb-true who most_nodes number.1 in
      let many = l.many in
      let to = o.to in
      passes (λ node. is_in_some open_sets node) who (in_sets at who open_sets course.newest o.slot l.opens o.from (omega (arith, to, many)) o.decides) (numbers_from 1 most_nodes) (in_numbers most_nodes 1 who low (omega (arith, high)))

  opened : is_member (open_nodes open_sets) who ≡ true → IsOpen at course.newest who
  unfolding nodes_to
  opened m =
      let f = from_sets at who open_sets course.newest l.opens (passed (λ node. is_in_some open_sets node) who (numbers_from 1 most_nodes) m) in
      let high = f.2 in
      let many = l.many in
      record { slot = f.0; from = f.1; to = omega (arith, high, many); decides = f.3 }

-- One that is to lead a group, and elects itself by the last entry, does so in the group: it asks each node that decides an open slot to promise its ballot.
pub steps_elect : StepsElect
steps_elect at births rows seat event base course slot open_sets r after row named me takes steps lead =
    let after_next = ap (next_in base seat.who) row.fact ∙ steps.reaches in
    let now_promise = ap (promise_in base) row.was in
    let after_promise = ap (promise_in base) row.fact ∙ steps.promises in
    let sends : (who : ℕ) → marks_for base.core.id who _ ≡ cond (is_member (open_nodes open_sets) who) (Prepares (next_ballot r) ∷ []) [] = λ who. row.sends who ∙ (ap (λ n. marks_for n who after.1) (sym named) ∙ steps.asks who) in
    record {
      mark = Teaches slot;
      takes = takes;
      last = (slot, lead.last, inl refl);
      idle = lead.idle;
      stands = lead.stands;
      least = sym me ∙ lead.least;
      next = after_next ∙ lead.last;
      promise = after_promise ∙ sym now_promise;
      newest = refl;
      bound = refl;
      later = lead.later;
      mine = me;
      first = refl;
      runs = refl;
      stays = refl;
      voters = λ s. refl;
      sends = λ who. elim (cases_Bool (is_member (open_nodes open_sets) who)) [
        | inl t ↦ inr (opened at course slot open_sets r lead who t, sends who ∙ cond-true (is_member (open_nodes open_sets) who) (Prepares (next_ballot r) ∷ []) [] t)
        | inr f ↦ inl (sends who ∙ cond-false (is_member (open_nodes open_sets) who) (Prepares (next_ballot r) ∷ []) [] f)
      ];
      asks = λ who o. sends who ∙ cond-true (is_member (open_nodes open_sets) who) (Prepares (next_ballot r) ∷ []) [] (asked at course slot open_sets r lead who o);
    }

-- ---- one that stays where it is

-- A replica that stays where it is, and sends nothing of its group, does nothing in it.
pub still_idle : StillIdle
still_idle births rows seat event base course r after row takes same_next same_promise silent = record {
  takes = takes;
  next = ap (next_in base seat.who) row.fact ∙ (same_next ∙ sym (ap (next_in base seat.who) row.was));
  promise = ap (promise_in base) row.fact ∙ (same_promise ∙ sym (ap (promise_in base) row.was));
  course = refl;
  sends = λ who. row.sends who ∙ silent who;
}
