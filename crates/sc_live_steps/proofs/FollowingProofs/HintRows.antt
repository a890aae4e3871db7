-- Each row keeps whom the nodes of a group take for its leader.
use Rattle.std.proofs.Common.{◌≡◌, ℕ, suc, ◌+◌, ◌-◌, ◌<◌, ◌≤◌, true, false, true≢false, List, [], ◌∷◌, ◌++◌, Option, Some, ◌⊎◌, inl, inr, sym, ◌∙◌, ap, subst, arith}
use Rattle.std.proofs.lemmas.Bool.{cases_Bool, cases_eq, cases_lt, cond-true}
use Rattle.sc_base.specs.Definitions.{Each, IsRoster, is_member, least_of}
use Rattle.sc_node_table.specs.Values.{Ballot}
use Rattle.sc_node_table.specs.NodeDefinitions.{is_among, listed, slots_ahead}
use Rattle.sc_words.specs.paxos.PaxosDefinitions.{below}
use Rattle.sc_words.proofs.PaxosProofs.PaxosLemmas.{at_least_below}
use Rattle.sc_live_steps.specs.following.FollowingDefinitions.{Mark, promise_by, reached, pledged, Course, Progress, Sets, members_at, IsOpen, IsFollowing, SlotLeaders, hint_by, hinted, MayLeave, AreHeeded, IsOther, IsHeeding, GoesBy, LeavesLast, HintsAreKept, NodesHeed, IsRow, IsIdle, IsCount, Takes, taught_from, Leads, Elects, begun}
use Rattle.sc_live_steps.proofs.FollowingProofs.Hints.{hinted-append, heeded-append, heeded-change, no_more, count-heeded, count-hinted, offers-heeded, offers-hinted, taught-heeded, taught-hinted}
use Rattle.sc_live_steps.proofs.FollowingProofs.NodeMarks.{counts_of, idle_promise, idle_marks, takes-keeps}
use Rattle.sc_live_steps.proofs.FollowingProofs.LeaderRows.{leads-keeps}
use Rattle.sc_live_steps.proofs.FollowingProofs.Marks.{pledged-most}

module _ (at : Sets) (by : SlotLeaders) (now after : Progress) (node : ℕ) (taken : Option Mark) (sent marks marks_after : ℕ → List Mark) (hints hints_after : ℕ → Option ℕ) (rosters : (slot : ℕ) → IsRoster (at slot))
    (row : IsRow now after node taken sent marks marks_after) (was : IsFollowing at now marks) (others : (who : ℕ) → (who ≡ node → ⊥) → hints_after who ≡ hints who) (h : IsHeeding at by now hints marks) where
  -- where another node is that is sent something
  there : (who : ℕ) → (who ≡ node → ⊥) → (course : Course) → AreHeeded at by course who (now.promise who) (hints who) (marks who ++ sent who) → AreHeeded at by course who (after.promise who) (hints_after who) (marks_after who)
  there who ne course f =
      subst (AreHeeded at by course who (after.promise who) (hints_after who)) (sym (row.others who ne))
      (subst (λ o. AreHeeded at by course who (after.promise who) o (marks who ++ sent who)) (sym (others who ne))
      (subst (λ p. AreHeeded at by course who p (hints who) (marks who ++ sent who)) (sym (row.promise who ne)) f))

  there_hinted : (who : ℕ) → (who ≡ node → ⊥) → hinted at by (after.promise who) (hints_after who) (marks_after who) ≡ hinted at by (pledged (now.promise who) (marks who)) (hinted at by (now.promise who) (hints who) (marks who)) (sent who)
  there_hinted who ne =
      ap (hinted at by (after.promise who) (hints_after who)) (row.others who ne)
      ∙ (ap (λ o. hinted at by (after.promise who) o (marks who ++ sent who)) (others who ne)
      ∙ (ap (λ p. hinted at by p (hints who) (marks who ++ sent who)) (row.promise who ne) ∙ hinted-append at by (now.promise who) (hints who) (marks who) (sent who)))

  -- ---- nothing is done

  pub idle-hints : IsIdle now after node taken sent → hints_after node ≡ hints node → IsHeeding at by after hints_after marks_after
  idle-hints i so =
      subst (λ c. IsHeeding at by (record { next = after.next; promise = after.promise; course = c }) hints_after marks_after) (sym i.course) (record {
        heeds = λ who other. subst (AreHeeded at by now.course who (after.promise who) (hints_after who)) (idle_marks now after node taken sent marks marks_after row i who)
            (subst (λ o. AreHeeded at by now.course who (after.promise who) o (marks who)) (sym (hint who)) (subst (λ p. AreHeeded at by now.course who p (hints who) (marks who)) (sym (idle_promise now after node taken sent marks marks_after row i who)) (h.heeds who other)));
        ends = λ r who ne o. sym (ap (hinted at by (after.promise who) (hints_after who)) (idle_marks now after node taken sent marks marks_after row i who))
            ∙ (ap (λ x. hinted at by (after.promise who) x (marks who)) (hint who) ∙ (ap (λ p. hinted at by p (hints who) (marks who)) (idle_promise now after node taken sent marks marks_after row i who) ∙ h.ends r who ne o));
        left = h.left;
      })
    where
      hint : (who : ℕ) → hints_after who ≡ hints who
      hint who = elim (cases_eq who node) [ inl fact ↦ ap hints_after fact ∙ (so ∙ ap hints (sym fact)) | inr ne ↦ others who ne ]

  -- ---- a mail is taken

  module _ (t : Takes at now after node taken sent) (goes : GoesBy at by now after node taken (hints node) (hints_after node)) where
    follows : IsFollowing at after marks_after
    follows = takes-keeps at now after node taken sent marks marks_after row t was

    counts : (who : ℕ) → Each IsCount (sent who)
    counts who = subst (Each IsCount) (sym (t.sends who)) (counts_of node (now.promise node) t.mark who)

    here : marks node ≡ t.mark ∷ row.left
    here = row.takes ∙ ap (λ o. listed o ++ row.left) t.takes

    own_heeds : IsOther now.course node → AreHeeded at by now.course node (after.promise node) (hints_after node) (marks_after node)
    own_heeds other =
        let old = subst (AreHeeded at by now.course node (now.promise node) (hints node)) here (h.heeds node other) in
        elim (goes t.mark t.takes other) [
          | inl same ↦ subst (AreHeeded at by now.course node (after.promise node) (hints_after node)) (sym row.own)
              (subst (λ o. AreHeeded at by now.course node (after.promise node) o (row.left ++ sent node)) (sym same)
              (subst (λ p. AreHeeded at by now.course node p (hint_by at by (now.promise node) (hints node) t.mark) (row.left ++ sent node)) (sym t.promise)
              (heeded-append at by now.course node (promise_by (now.promise node) t.mark) (hint_by at by (now.promise node) (hints node) t.mark) row.left (sent node) old.1 (count-heeded at by now.course node _ _ (sent node) (counts node)))))
          | inr end ↦ no_more at by now.course node (after.next node) (after.promise node) (marks_after node) (follows.fits node)
              (let within = subst (λ (c : Course). reached_then ≤ c.newest) t.course (follows.within node) in let all = end.1 in omega (arith, within, all)) (hints_after node)
        ]
      where
        reached_then : ℕ
        reached_then = reached (after.next node) (marks_after node)

    own_ends : now.course.running ≡ true → (node ≡ now.course.ballot.node → ⊥) → IsOpen at now.course.newest node → hinted at by (after.promise node) (hints_after node) (marks_after node) ≡ Some now.course.ballot.node
    own_ends r ne o = elim (goes t.mark t.takes (λ _. ne)) [
      | inl same ↦ ap (hinted at by (after.promise node) (hints_after node)) row.own
          ∙ (ap (λ x. hinted at by (after.promise node) x (row.left ++ sent node)) same
          ∙ (ap (λ p. hinted at by p (hint_by at by (now.promise node) (hints node) t.mark) (row.left ++ sent node)) t.promise
          ∙ (hinted-append at by (promise_by (now.promise node) t.mark) (hint_by at by (now.promise node) (hints node) t.mark) row.left (sent node)
          ∙ (count-hinted at by _ _ (sent node) (counts node) ∙ (sym (ap (hinted at by (now.promise node) (hints node)) here) ∙ h.ends r node ne o)))))
      | inr end ↦ absurd (true≢false (sym end.0 ∙ (was.leads r).stands))
    ]

    pub takes-hints : IsHeeding at by after hints_after marks_after
    takes-hints = subst (λ c. IsHeeding at by (record { next = after.next; promise = after.promise; course = c }) hints_after marks_after) (sym t.course) (record {
      heeds = λ who other. elim (cases_eq who node) [
        | inl fact ↦ subst (λ n. AreHeeded at by now.course n (after.promise n) (hints_after n) (marks_after n)) (sym fact) (own_heeds (subst (IsOther now.course) fact other))
        | inr ne ↦ there who ne now.course (heeded-append at by now.course who (now.promise who) (hints who) (marks who) (sent who) (h.heeds who other) (count-heeded at by now.course who _ _ (sent who) (counts who)))
      ];
      ends = λ r who ne o. elim (cases_eq who node) [
        | inl fact ↦ subst (λ n. hinted at by (after.promise n) (hints_after n) (marks_after n) ≡ Some now.course.ballot.node) (sym fact) (own_ends r (λ e. ne (fact ∙ e)) (subst (IsOpen at now.course.newest) fact o))
        | inr apart ↦ there_hinted who apart ∙ (count-hinted at by _ _ (sent who) (counts who) ∙ h.ends r who ne o)
      ];
      left = h.left;
    })

  -- ---- the leader's row

  module _ (l : Leads at now after node taken sent) (w : LeavesLast at by now after) where
    followed : IsFollowing at after marks_after
    followed = leads-keeps at now after node taken sent marks marks_after rosters row l was

    abbrev newest : ℕ
    newest = now.course.newest

    abbrev lead : ℕ
    lead = now.course.ballot.node

    module _ (who : ℕ) (ne : who ≡ node → ⊥) where
      apart : who ≡ lead → ⊥
      apart fact = ne (fact ∙ sym l.mine)

      abbrev then_promise : Ballot
      then_promise = pledged (now.promise who) (marks who)

      abbrev then_hint : Option ℕ
      then_hint = hinted at by (now.promise who) (hints who) (marks who)

      member : is_member (members_at at newest) who ≡ true → then_hint ≡ Some lead
      member m = h.ends l.runs who apart (record { slot = newest + 3; from = omega arith; to = omega arith; decides = m })

      counted : (s : ℕ) → newest ≤ s → s < newest + l.executed → by s ≡ lead
      counted s least most = w.counts s least (let up = l.newest in omega (arith, most, up))

      ends_then : (s : ℕ) → newest ≤ s → suc s ≡ newest + l.executed
          → (is_member (members_at at (s + 1)) lead ≡ true) ⊎ ((after.course.running ≡ false) × (suc s ≡ after.course.newest) × (is_member (members_at at (s + 1)) who ≡ true → is_member (members_at at s) who ≡ true))
      ends_then s least fact = (let last : suc s ≡ after.course.newest = (let up = l.newest in omega (arith, fact, up)) in
          elim (w.alone s least last) [
            | inl m ↦ inl m
            | inr nobody ↦ elim (cases_Bool after.course.running) [
              | inl r ↦ inl (let same : after.course.newest ≡ s + 1 = omega (arith, last) in subst (λ n. is_member (members_at at n) lead ≡ true) same (subst (λ n. is_member (members_at at after.course.newest) n ≡ true) l.mine (l.stays r).0))
              | inr off ↦ inr (off, last, nobody who)
            ]
          ])

      may : (slot : ℕ) → MayLeave at by now.course who slot → MayLeave at by after.course who slot
      may slot (inl m) = inl m
      may slot (inr (inl least)) = inr (inl least)
      may slot (inr (inr last)) = absurd (true≢false (sym l.runs ∙ last.0))

      heeds_then : IsOther now.course who → AreHeeded at by after.course who (after.promise who) (hints_after who) (marks_after who)
      heeds_then other =
          there who ne after.course
          (heeded-append at by after.course who (now.promise who) (hints who) (marks who) (sent who) (heeded-change at by now.course after.course who may (now.promise who) (hints who) (marks who) (h.heeds who other))
          (subst (AreHeeded at by after.course who then_promise then_hint) (sym (l.sends who))
          (heeded-append at by after.course who then_promise then_hint (taught_from at now.course newest l.executed who) (l.offers who)
          (taught-heeded at by now.course after.course who apart l.executed newest then_promise then_hint member counted (λ s least most. w.stayed s least (let up = l.newest in omega (arith, most, up))) ends_then)
          (offers-heeded at by after.course after.course now.course.bound who who _ _ (l.offers who) (l.asks who)))))

      all_stay : after.course.running ≡ true → (s : ℕ) → newest ≤ s → s < newest + l.executed → is_member (members_at at (s + 1)) lead ≡ true
      all_stay r s least most = (let up = l.newest in elim (cases_lt (suc s) after.course.newest) [
        | inl lt ↦ w.stayed s least lt
        | inr ge ↦ (let same : after.course.newest ≡ s + 1 = omega (arith, ge, most, up) in subst (λ n. is_member (members_at at n) lead ≡ true) same (subst (λ n. is_member (members_at at after.course.newest) n ≡ true) l.mine (l.stays r).0))
      ])

      some_then : IsOpen at after.course.newest who → (then_hint ≡ Some lead) ⊎ ((j : ℕ) × (j < l.executed) × (is_member (members_at at (newest + j + 1)) who ≡ true))
      some_then o = (let up = l.newest in
          let from = o.from in
          let to = o.to in
          elim (cases_lt o.slot (newest + slots_ahead)) [
            | inl lt ↦ inl (h.ends l.runs who apart (record { slot = o.slot; from = omega (arith, from, up); to = lt; decides = o.decides }))
            | inr ge ↦ inr (
              o.slot - (newest + 4),
              omega (arith, ge, to, up),
              (let same : o.slot ≡ newest + (o.slot - (newest + 4)) + 1 + 3 = omega (arith, ge) in subst (λ s. is_member (at s) who ≡ true) same o.decides),
            )
          ])

      ends_there : after.course.running ≡ true → IsOpen at after.course.newest who → hinted at by (after.promise who) (hints_after who) (marks_after who) ≡ Some after.course.ballot.node
      ends_there r o =
          there_hinted who ne
          ∙ (ap (hinted at by then_promise then_hint) (l.sends who)
          ∙ (hinted-append at by then_promise then_hint (taught_from at now.course newest l.executed who) (l.offers who)
          ∙ offers-hinted at by after.course now.course.bound who _ _ (l.offers who) (l.asks who)
          (taught-hinted at by now.course after.course who apart l.executed newest then_promise then_hint (some_then o) member counted (all_stay r) ∙ ap (λ (b : Ballot). Some b.node) (sym l.ballot))))

    pub leads-hints : IsHeeding at by after hints_after marks_after
    leads-hints = record {
      heeds = λ who other. elim (cases_eq who node) [
        | inl fact ↦ subst (λ n. AreHeeded at by after.course n (after.promise n) (hints_after n) (marks_after n)) (sym fact)
            (no_more at by after.course node (after.next node) (after.promise node) (marks_after node) (followed.fits node) (let within = followed.within node in let all = l.next in omega (arith, within, all)) (hints_after node))
        | inr ne ↦ heeds_then who ne (λ r fact. ne (fact ∙ sym l.mine))
      ];
      ends = λ r who ne o. ends_there who (λ fact. ne (fact ∙ (l.mine ∙ ap (λ (b : Ballot). b.node) (sym l.ballot)))) r o;
      left = λ off stands slot fact.
          (let some = (l.stops off).0 in
          let up = l.newest in
          ap (is_member (members_at at after.course.newest)) (w.counts slot (omega (arith, some, up, fact)) (omega (arith, fact)) ∙ sym l.mine) ∙ l.leaves off stands);
    }

  -- ---- an election

  module _ (e : Elects at now after node taken sent) where
    may_then : (who : ℕ) → (who ≡ node → ⊥) → (slot : ℕ) → MayLeave at by now.course who slot → MayLeave at by after.course who slot
    may_then who ne slot (inl m) = inl m
    may_then who ne slot (inr (inl least)) = inr (inl least)
    may_then who ne slot (inr (inr last)) =
        inr (inl (λ fact. ne (sym fact ∙ (ap (λ n. least_of (members_at at n)) (let all = last.1 in let same : slot + 1 ≡ now.course.newest = omega (arith, all) in same) ∙ sym e.least))))

    sent_heeded : (who : ℕ) (promise : Ballot) (hint : Option ℕ) → AreHeeded at by after.course who promise hint (sent who)
    sent_heeded who promise hint = elim (e.sends who) [
      | inl none ↦ subst (AreHeeded at by after.course who promise hint) (sym none) tt
      | inr one ↦ subst (AreHeeded at by after.course who promise hint) (sym one.1) (tt, tt)
    ]

    pub self_election-hints : IsHeeding at by after hints_after marks_after
    self_election-hints = record {
      heeds = λ who other. (let ne : who ≡ node → ⊥ = λ fact. other e.runs (fact ∙ sym e.mine) in
          there who ne after.course
          (heeded-append at by after.course who (now.promise who) (hints who) (marks who) (sent who)
          (heeded-change at by now.course after.course who (may_then who ne) (now.promise who) (hints who) (marks who) (h.heeds who (λ r. absurd (true≢false (sym r ∙ e.idle))))) (sent_heeded who _ _)));
      ends = λ r who ne o.
          (let promise = pledged (now.promise who) (marks who) in
          let low = at_least_below promise now.course.ballot after.course.ballot (pledged-most now.course (now.promise who) (marks who) (was.promised who) (was.known who)) e.later in
          there_hinted who (λ fact. ne (fact ∙ sym e.mine))
          ∙ (ap (hinted at by promise (hinted at by (now.promise who) (hints who) (marks who))) (e.asks who (subst (λ n. IsOpen at n who) e.newest o))
          ∙ cond-true (below promise after.course.ballot) (Some after.course.ballot.node) (hinted at by (now.promise who) (hints who) (marks who)) low));
      left = λ off. absurd (true≢false (sym e.runs ∙ off));
    }

-- ---- where a group begins

begins : (at : Sets) (by : SlotLeaders) (ballot : Ballot) (hints : ℕ → Option ℕ) → ((node : ℕ) → (node ≡ ballot.node → ⊥) → IsOpen at 1 node → hints node ≡ Some ballot.node) → IsHeeding at by (begun (members_at at 1) ballot) hints (λ node. [])
begins at by ballot hints so = record { heeds = λ node other. tt; ends = λ r node ne o. so node ne o; left = λ off. absurd (true≢false off) }

-- Whom each node takes for the leader is kept by each kind of row: while one leads, all others that decide an open slot take it for that once they have taken their mail, and each learns an entry from the one that it takes for the leader then.
pub hints_are_kept : HintsAreKept
hints_are_kept = record {
  begin = begins;
  idle = λ at by now after node taken sent marks marks_after hints hints_after rosters row i was others so h. idle-hints at by now after node taken sent marks marks_after hints hints_after rosters row was others h i so;
  takes = λ at by now after node taken sent marks marks_after hints hints_after rosters row t was others goes h. takes-hints at by now after node taken sent marks marks_after hints hints_after rosters row was others h t goes;
  leads = λ at by now after node taken sent marks marks_after hints hints_after rosters row l was others w h. leads-hints at by now after node taken sent marks marks_after hints hints_after rosters row was others h l w;
  self_election = λ at by now after node taken sent marks marks_after hints hints_after rosters row e was others so h. self_election-hints at by now after node taken sent marks marks_after hints hints_after rosters row was others h e;
}

-- ---- what follows

-- A node that learns an entry takes a member for the leader after it, or is not the least member, or the entry is the last one and none leads; and then it takes no member for it.
pub nodes_heed : NodesHeed
nodes_heed = record {
  told = λ at by now hints marks node slot rest h other fact.
      (let f = (subst (AreHeeded at by now.course node (now.promise node) (hints node)) fact (h.heeds node other)).0 in
      elim (f.1) [ inl m ↦ inl (ap (is_among (members_at at (slot + 1))) f.0 ∙ m) | inr more ↦ inr more ]);
  last = λ at by now hints marks node slot rest h idle stands fact last.
      (let f = (subst (AreHeeded at by now.course node (now.promise node) (hints node)) fact (h.heeds node (λ r. absurd (true≢false (sym r ∙ idle))))).0 in
      ap (is_among (members_at at now.course.newest)) f.0 ∙ h.left idle stands slot last);
  sent = λ at by now hints marks node slot rest h idle stands fact last.
      (let f = (subst (AreHeeded at by now.course node (now.promise node) (hints node)) fact (h.heeds node (λ r. absurd (true≢false (sym r ∙ idle))))).0 in
      let same : slot + 1 ≡ now.course.newest = omega (arith, last) in
      true≢false (sym (subst (λ n. is_member (members_at at n) (by slot) ≡ true) same f) ∙ h.left idle stands slot last));
}
