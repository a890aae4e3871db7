-- Mail of a group finds a replica where it needs one, after each kind of row.
use Rattle.std.proofs.Common.{◌≡◌, ℕ, suc, zero, ◌+◌, ◌≤◌, ◌&&◌, eqb, true≢false, List, [], ◌∷◌, ◌++◌, Option, Some, ◌⊎◌, inl, inr, refl, sym, ◌∙◌, ap, subst, arith, append-nil}
use Rattle.std.proofs.lemmas.Bool.{cases_eq, cond_both, cond-false, eqb-true, and_parts}
use Rattle.sc_base.specs.Definitions.{Each, is_member}
use Rattle.sc_node_table.specs.Values.{Ballot}
use Rattle.sc_node_table.specs.NodeDefinitions.{listed}
use Rattle.sc_words.specs.paxos.PaxosDefinitions.{below}
use Rattle.sc_words.proofs.PaxosProofs.PaxosLemmas.{Each-append, Each-weaker}
use Rattle.sc_live_steps.specs.following.FollowingDefinitions.{Mark, Asks, Votes, Teaches, Installs, Prepares, Promises, Course, Progress, Sets, members_at, promise_by, IsFit, AreFit, IsFollowing, IsRow, IsIdle, IsOffer, answered, Takes, reported_of, taught_from, Leads, Elects}
use Rattle.sc_live_steps.proofs.FollowingProofs.FollowingLemmas.{each-row, offers-each, taught-each, rises, reached-least}
use Rattle.sc_live_answers.specs.AnswerDefinitions.{IsHeld, FindsOne, IsStranger, IsAtHome, HomesAreKept}

-- what a stranger learns: nothing
taught_none : (at : Sets) (course : Course) (who : ℕ) → IsStranger at who → (more slot : ℕ) → taught_from at course slot more who ≡ []
taught_none at course who out zero slot = refl
taught_none at course who out (suc more) slot = ap (λ l. l ++ taught_from at course (slot + 1) more who) one ∙ taught_none at course who out more (slot + 1)
  where
    one : reported_of at course slot who ≡ []
    one = cond_both (eqb who course.ballot.node) _ _ (λ l. l ≡ []) (λ _. refl) (λ _.
        cond-false (is_member (members_at at slot) who) _ _ (out (slot + 3)) ∙ cond-false (is_member (members_at at (slot + 1)) who) _ _ (out (slot + 1 + 3)))

-- what a stranger is offered: nothing
offers_none : (at : Sets) (course : Course) (from who : ℕ) → IsStranger at who → (marks : List Mark) → Each (IsOffer at course from who) marks → marks ≡ []
offers_none at course from who out [] e = refl
offers_none at course from who out (Asks ballot slot ∷ marks) e = absurd (true≢false (sym e.0.3 ∙ out slot))
offers_none at course from who out (Votes node ballot slot ∷ marks) e = absurd e.0
offers_none at course from who out (Teaches slot ∷ marks) e = absurd e.0
offers_none at course from who out (Installs slot ∷ marks) e = absurd e.0
offers_none at course from who out (Prepares ballot ∷ marks) e = absurd e.0
offers_none at course from who out (Promises node ballot ∷ marks) e = absurd e.0

-- what finds a replica does so where no next slot falls
find_on : (now after : Progress) (who : ℕ) → ((other : ℕ) → now.next other ≤ after.next other) → (mark : Mark) → FindsOne now who mark → FindsOne after who mark
find_on now after who up (Votes node ballot slot) f = (let u = up who in omega (arith, u, f))
find_on now after who up (Promises node ballot) f = (let u = up who in omega (arith, u, f))
find_on now after who up (Prepares ballot) f = (let u = up ballot.node in omega (arith, u, f))
find_on now after who up (Asks ballot slot) f = tt
find_on now after who up (Teaches slot) f = tt
find_on now after who up (Installs slot) f = tt

module _ (at : Sets) (now after : Progress) (node : ℕ) (taken : Option Mark) (sent marks marks_after : ℕ → List Mark) (row : IsRow now after node taken sent marks marks_after) (was : IsFollowing at now marks) (h : IsAtHome at now marks) where
  next_up : now.next node ≤ after.next node → (who : ℕ) → now.next who ≤ after.next who
  next_up own who = elim (cases_eq who node) [ inl fact ↦ subst (λ n. now.next n ≤ after.next n) (sym fact) own | inr ne ↦ (let e = row.next who ne in omega (arith, e)) ]

  -- what is kept by a row that sends so, raises its node's next slot, and leaves its promise one that is held
  kept : now.next node ≤ after.next node → ((who : ℕ) → Each (FindsOne after who) (sent who)) → IsHeld after (after.promise node) → (IsStranger at node → ⊥) → ((who : ℕ) → IsStranger at who → sent who ≡ []) → IsAtHome at after marks_after
  kept own finds held known silent = record {
    finds = λ who. each-row now after node taken sent marks marks_after row (FindsOne after who) who (Each-weaker (FindsOne now who) (FindsOne after who) (find_on now after who up) (marks who) (h.finds who)) (finds who);
    promised = λ who. elim (cases_eq who node) [
      | inl fact ↦ subst (λ n. IsHeld after (after.promise n)) (sym fact) held
      | inr ne ↦ (let old = h.promised who in let u = up (now.promise who).node in subst (IsHeld after) (sym (row.promise who ne)) (omega (arith, old, u)))
    ];
    strangers = λ who out. elim (cases_eq who node) [
      | inl fact ↦ absurd (known (subst (IsStranger at) fact out))
      | inr ne ↦ (row.next who ne ∙ (h.strangers who out).0, row.others who ne ∙ (ap (λ l. l ++ sent who) (h.strangers who out).1 ∙ silent who out))
    ];
  }
    where
      up : (who : ℕ) → now.next who ≤ after.next who
      up = next_up own

  idle_homes : IsIdle now after node taken sent → IsAtHome at after marks_after
  idle_homes i = record {
    finds = λ who. each-row now after node taken sent marks marks_after row (FindsOne after who) who (Each-weaker (FindsOne now who) (FindsOne after who) (find_on now after who up) (marks who) (h.finds who)) (subst (Each (FindsOne after who)) (sym (i.sends who)) tt);
    promised = λ who. elim (cases_eq who node) [
      | inl fact ↦ (let old = h.promised node in let u = up (now.promise node).node in subst (λ n. IsHeld after (after.promise n)) (sym fact) (subst (IsHeld after) (sym i.promise) (omega (arith, old, u))))
      | inr ne ↦ (let old = h.promised who in let u = up (now.promise who).node in subst (IsHeld after) (sym (row.promise who ne)) (omega (arith, old, u)))
    ];
    strangers = λ who out. elim (cases_eq who node) [
      | inl fact ↦ (
        ap after.next fact ∙ (i.next ∙ (ap now.next (sym fact) ∙ (h.strangers who out).0)),
        ap marks_after fact ∙ (row.own ∙ (ap (λ l. row.left ++ l) (i.sends node) ∙ (append-nil row.left ∙ (sym (row.takes ∙ ap (λ t. listed t ++ row.left) i.takes) ∙ (ap marks (sym fact) ∙ (h.strangers who out).1))))),
      )
      | inr ne ↦ (row.next who ne ∙ (h.strangers who out).0, row.others who ne ∙ (ap (λ l. l ++ sent who) (h.strangers who out).1 ∙ i.sends who))
    ];
  }
    where
      up : (who : ℕ) → now.next who ≤ after.next who
      up = next_up (let e = i.next in omega (arith, e))

  -- one that takes a mail is no stranger
  no_stranger : (mark : Mark) → taken ≡ Some mark → IsStranger at node → ⊥
  no_stranger mark takes out = (let none : [] ≡ mark ∷ row.left = sym (h.strangers node out).1 ∙ (row.takes ∙ ap (λ t. listed t ++ row.left) takes) in cc)

  module _ (t : Takes at now after node taken sent) where
    here : marks node ≡ t.mark ∷ row.left
    here = row.takes ∙ ap (λ x. listed x ++ row.left) t.takes

    is_fit : IsFit (now.next node) (now.promise node) t.mark
    is_fit = (subst (λ l. AreFit (now.next node) (now.promise node) l) here (was.fits node)).0

    finds_head : FindsOne now node t.mark
    finds_head = (subst (Each (FindsOne now node)) here (h.finds node)).0

    own : now.next node ≤ after.next node
    own = (let e = t.next in let r = rises (now.next node) (now.promise node) t.mark is_fit in omega (arith, e, r))

    up : (who : ℕ) → now.next who ≤ after.next who
    up = next_up own

    -- whom it answers has a replica
    held_of : (mark : Mark) → IsFit (now.next node) (now.promise node) mark → FindsOne now node mark → (who : ℕ) → (answered node (now.promise node) mark who ≡ []) ⊎ ((1 ≤ now.next who) × Each (FindsOne after who) (answered node (now.promise node) mark who))
    held_of (Asks ballot slot) fit f who = cond_both (eqb who ballot.node) (Votes node ballot slot ∷ []) [] (λ l. (l ≡ []) ⊎ ((1 ≤ now.next who) × Each (FindsOne after who) l))
        (λ e. (let some : 1 ≤ now.next who = subst (λ n. 1 ≤ now.next n) (ap (λ (b : Ballot). b.node) (sym fit.2) ∙ sym (eqb-true who ballot.node e)) (h.promised node) in let u = up who in inr (some, (omega (arith, some, u), tt)))) (λ _. inl refl)
    held_of (Prepares ballot) fit f who = cond_both (eqb who ballot.node && below (now.promise node) ballot) (Promises node ballot ∷ []) [] (λ l. (l ≡ []) ⊎ ((1 ≤ now.next who) × Each (FindsOne after who) l))
        (λ e. (let some : 1 ≤ now.next who = subst (λ n. 1 ≤ now.next n) (sym (eqb-true who ballot.node (and_parts (eqb who ballot.node) (below (now.promise node) ballot) e).0)) f in let u = up who in inr (some, (omega (arith, some, u), tt)))) (λ _. inl refl)
    held_of (Votes other ballot slot) fit f who = inl refl
    held_of _ fit f who = inl refl

    answers : (who : ℕ) → (sent who ≡ []) ⊎ ((1 ≤ now.next who) × Each (FindsOne after who) (sent who))
    answers who = subst (λ l. (l ≡ []) ⊎ ((1 ≤ now.next who) × Each (FindsOne after who) l)) (sym (t.sends who)) (held_of t.mark is_fit finds_head who)

    promise_held : (mark : Mark) → FindsOne now node mark → IsHeld now (promise_by (now.promise node) mark)
    promise_held (Prepares ballot) f = f
    promise_held _ f = h.promised node

    takes_homes : IsAtHome at after marks_after
    takes_homes = kept own (λ who. elim (answers who) [ inl none ↦ subst (Each (FindsOne after who)) (sym none) tt | inr some ↦ some.1 ])
        (let old = promise_held t.mark finds_head in let u = up (promise_by (now.promise node) t.mark).node in subst (IsHeld after) (sym t.promise) (omega (arith, old, u)))
        (no_stranger t.mark t.takes)
        (λ who out. elim (answers who) [ inl none ↦ none | inr some ↦ (let zero_ = (h.strangers who out).0 in let one = some.0 in absurd (omega (arith, zero_, one))) ])

  module _ (l : Leads at now after node taken sent) where
    leading : now.next node ≡ now.course.newest
    leading = ap now.next l.mine ∙ (was.leads l.runs).executed

    grows : now.next node ≤ after.next node
    grows = (let a = leading in let b = l.next in let c = l.newest in omega (arith, a, b, c))

    lead_held : IsHeld after now.course.ballot
    lead_held = subst (λ n. 1 ≤ after.next n) l.mine (let a = l.next in let b = l.newest in let c = was.some in omega (arith, a, b, c))

    leads_homes : IsAtHome at after marks_after
    leads_homes = kept grows
        (λ who. subst (Each (FindsOne after who)) (sym (l.sends who)) (Each-append (FindsOne after who) (taught_from at now.course now.course.newest l.executed who) (l.offers who)
        (taught-each at now.course who (FindsOne after who) (λ _. tt) (λ _. tt) lead_held l.executed now.course.newest)
        (offers-each (FindsOne after who) at after.course now.course.bound who (λ ballot slot least most. tt) (l.offers who) (l.asks who))))
        (let old = h.promised node in let u = next_up grows (now.promise node).node in subst (IsHeld after) (sym l.promise) (omega (arith, old, u)))
        (λ out. true≢false (sym (was.leads l.runs).member ∙ (ap (is_member (members_at at now.course.newest)) (sym l.mine) ∙ out (now.course.newest + 3))))
        (λ who out. l.sends who ∙ (ap (λ x. x ++ l.offers who) (taught_none at now.course who out l.executed now.course.newest) ∙ offers_none at after.course now.course.bound who out (l.offers who) (l.asks who)))

  module _ (e : Elects at now after node taken sent) where
    goes : now.next node ≤ after.next node
    goes = (let a = e.next in let b = was.within node in let c = reached-least (now.next node) (now.promise node) (marks node) (was.fits node) in omega (arith, a, b, c))

    ballot_held : IsHeld after after.course.ballot
    ballot_held = subst (λ n. 1 ≤ after.next n) (sym e.mine) (let a = e.next in let b = was.some in omega (arith, a, b))

    elects_homes : IsAtHome at after marks_after
    elects_homes = kept goes (λ who. elim (e.sends who) [ inl none ↦ subst (Each (FindsOne after who)) (sym none) tt | inr one ↦ subst (Each (FindsOne after who)) (sym one.1) (ballot_held, tt) ])
        (let old = h.promised node in let u = next_up goes (now.promise node).node in subst (IsHeld after) (sym e.promise) (omega (arith, old, u)))
        (no_stranger e.mark e.takes)
        (λ who out. elim (e.sends who) [ inl none ↦ none | inr one ↦ absurd (true≢false (sym one.0.decides ∙ out one.0.slot)) ])

-- Votes and promises come to nodes that have a replica, and nothing of a group comes to an actor that is never a member: each kind of row keeps that.
pub homes_are_kept : HomesAreKept
homes_are_kept = record {
  idle = λ at now after node taken sent marks marks_after row i was h. idle_homes at now after node taken sent marks marks_after row was h i;
  takes = λ at now after node taken sent marks marks_after row t was h. takes_homes at now after node taken sent marks marks_after row was h t;
  leads = λ at now after node taken sent marks marks_after row l was h. leads_homes at now after node taken sent marks marks_after row was h l;
  self_election = λ at now after node taken sent marks marks_after row e was h. elects_homes at now after node taken sent marks marks_after row was h e;
}
