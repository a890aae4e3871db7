-- A leader's own Prepare comes before every promise of its ballot, by each kind of row.
use Rattle.std.proofs.Common.{◌≡◌, ℕ, ◌<◌, ◌≤◌, ◌&&◌, eqb, true, false, true≢false, List, [], ◌∷◌, ◌++◌, Option, Some, None, inl, inr, refl, sym, ◌∙◌, ap, subst, arith}
use Rattle.std.proofs.lemmas.Bool.{cases_Bool, cases_eq, cond_both, eqb-true, and_parts}
use Rattle.sc_base.specs.Definitions.{Each}
use Rattle.sc_node_table.specs.Values.{Ballot}
use Rattle.sc_node_table.specs.NodeDefinitions.{listed, next}
use Rattle.sc_words.specs.paxos.PaxosDefinitions.{below, IsAtLeast}
use Rattle.sc_words.proofs.PaxosProofs.PaxosLemmas.{at_least_below, at_least_from_below, not_both, Each-append, Each-split, Each-weaker}
use Rattle.sc_live_steps.specs.following.FollowingDefinitions.{Course, IsNoPrepare, Mark, Asks, Votes, Teaches, Installs, Prepares, Promises, Progress, Sets, IsKnown, IsFollowing, IsOtherPrepare, IsOwnPrepare, IsHome, ArePromisedLast, AreLearntLast, IsOwnFirst, CountsOwn, CountsNone, OwnIsKept, LeadersCountOwn, IsRow, IsIdle, IsCount, answered, Takes, taught_from, Leads, Elects}
use Rattle.sc_live_steps.proofs.FollowingProofs.ElectionRows.{elects-each}
use Rattle.sc_live_steps.proofs.FollowingProofs.NodeMarks.{counts_of, each-row, idle_marks}
use Rattle.sc_live_steps.proofs.FollowingProofs.Marks.{offers-each, taught-each, taught-own}
use Rattle.sc_live_steps.proofs.FollowingProofs.OwnMarks.{Behind, IsNoPromise, IsNotLast, all_neither, behind_none, count_none, each_all, last_append, last_counts, last_tail, last_taught, no_promised, none_own, not_last, promised_append, promised_left, promised_none}

-- what is at home stays so in a later ballot
home_later : (old new : Course) → ((b : Ballot) → IsAtLeast old.ballot b → IsAtLeast new.ballot b) → (who : ℕ) (mark : Mark) → IsHome old who mark → IsHome new who mark
home_later old new later who (Promises node ballot) h = (h.0, later ballot h.1)
home_later old new later who _ h = tt

-- ---- rows

module _ (at : Sets) (now after : Progress) (node : ℕ) (taken : Option Mark) (sent marks marks_after : ℕ → List Mark) (row : IsRow now after node taken sent marks marks_after) (was : IsFollowing at now marks) (o : IsOwnFirst now marks) where
  abbrev lead : ℕ
  lead = now.course.ballot.node

  order_row : (who : ℕ) → Each (Behind (sent who)) (marks who) → ArePromisedLast (sent who) → ArePromisedLast (marks_after who)
  order_row who behind g = elim (cases_eq who node) [
    | inl fact ↦ (let behind_node = subst (λ n. Each (Behind (sent n)) (marks n)) fact behind in
        subst (λ n. ArePromisedLast (marks_after n)) (sym fact)
        (subst ArePromisedLast (sym row.own)
        (promised_append row.left (sent node) (promised_left taken row.left (subst ArePromisedLast row.takes (o.order node))) (Each-split (Behind (sent node)) (listed taken) row.left (subst (Each (Behind (sent node))) row.takes behind_node)).1
        (subst (λ n. ArePromisedLast (sent n)) fact g))))
    | inr ne ↦ subst ArePromisedLast (sym (row.others who ne)) (promised_append (marks who) (sent who) (o.order who) behind g)
  ]

  last_left : (t : Option Mark) (left : List Mark) (newest : ℕ) → AreLearntLast newest (listed t ++ left) → AreLearntLast newest left
  last_left None left newest f = f
  last_left (Some mark) left newest f = last_tail newest mark left f

  idle_own : IsIdle now after node taken sent → IsOwnFirst after marks_after
  idle_own i = subst (λ c. IsOwnFirst (record { next = after.next; promise = after.promise; course = c }) marks_after) (sym i.course) (record {
    home = λ who. subst (Each (IsHome now.course who)) (idle_marks now after node taken sent marks marks_after row i who) (o.home who);
    order = λ who. subst ArePromisedLast (idle_marks now after node taken sent marks marks_after row i who) (o.order who);
    own = λ r who c. subst (Each IsNoPrepare) (idle_marks now after node taken sent marks marks_after row i lead) (o.own r who c);
    some = o.some;
    first = λ r f. subst (Each IsNoPrepare) (idle_marks now after node taken sent marks marks_after row i lead) (o.first r f);
    only = λ r. subst (Each (IsOwnPrepare now.course.ballot)) (idle_marks now after node taken sent marks marks_after row i lead) (o.only r);
    stop = λ off who. subst (AreLearntLast now.course.newest) (idle_marks now after node taken sent marks marks_after row i who) (o.stop off who);
  })

  module _ (t : Takes at now after node taken sent) where
    counts : (who : ℕ) → Each IsCount (sent who)
    counts who = subst (Each IsCount) (sym (t.sends who)) (counts_of node (now.promise node) t.mark who)

    nones : (who : ℕ) → Each IsNoPrepare (sent who)
    nones who = Each-weaker IsCount IsNoPrepare count_none (sent who) (counts who)

    known : IsKnown now.course t.mark
    known = (subst (Each (IsKnown now.course)) (row.takes ∙ ap (λ x. listed x ++ row.left) t.takes) (was.known node)).0

    home_of : (mark : Mark) (promise : Ballot) (who : ℕ) → IsKnown now.course mark → Each (IsHome now.course who) (answered node promise mark who)
    home_of (Prepares ballot) promise who k = cond_both (eqb who ballot.node && below promise ballot) (Promises node ballot ∷ []) [] (Each (IsHome now.course who)) (λ e. ((sym (eqb-true who ballot.node (and_parts (eqb who ballot.node) (below promise ballot) e).0), k), tt)) (λ _. tt)
    home_of (Asks ballot slot) promise who k = cond_both (eqb who ballot.node) (Votes node ballot slot ∷ []) [] (Each (IsHome now.course who)) (λ _. (tt, tt)) (λ _. tt)
    home_of _ promise who k = tt

    stop_row : now.course.running ≡ false → (who : ℕ) → AreLearntLast now.course.newest (marks_after who)
    stop_row off who = elim (cases_eq who node) [
      | inl fact ↦ subst (λ n. AreLearntLast now.course.newest (marks_after n)) (sym fact) (subst (AreLearntLast now.course.newest) (sym row.own)
          (last_counts now.course.newest row.left (sent node) (last_left taken row.left now.course.newest (subst (AreLearntLast now.course.newest) row.takes (o.stop off node))) (counts node)))
      | inr ne ↦ subst (AreLearntLast now.course.newest) (sym (row.others who ne)) (last_counts now.course.newest (marks who) (sent who) (o.stop off who) (counts who))
    ]

    pub takes_own : IsOwnFirst after marks_after
    takes_own = subst (λ c. IsOwnFirst (record { next = after.next; promise = after.promise; course = c }) marks_after) (sym t.course) (record {
      home = λ who. each-row now after node taken sent marks marks_after row (IsHome now.course who) who (o.home who) (subst (Each (IsHome now.course who)) (sym (t.sends who)) (home_of t.mark (now.promise node) who known));
      order = λ who. order_row who (each_all (Behind (sent who)) (behind_none (sent who) (nones who)) (marks who)) (promised_none (sent who) (nones who));
      own = λ r who c. each-row now after node taken sent marks marks_after row IsNoPrepare lead (o.own r who c) (nones lead);
      some = o.some;
      first = λ r f. each-row now after node taken sent marks marks_after row IsNoPrepare lead (o.first r f) (nones lead);
      only = λ r. each-row now after node taken sent marks marks_after row (IsOwnPrepare now.course.ballot) lead (o.only r) (Each-weaker IsNoPrepare (IsOwnPrepare now.course.ballot) (none_own now.course.ballot) (sent lead) (nones lead));
      stop = stop_row;
    })

  module _ (l : Leads at now after node taken sent) (c : CountsOwn now after taken) where
    offers_none : (who : ℕ) → Each IsNoPrepare (l.offers who)
    offers_none who = offers-each IsNoPrepare at after.course now.course.bound who (λ ballot s least most. tt) (l.offers who) (l.asks who)

    own_none : Each IsNoPrepare (sent lead)
    own_none = subst (λ n. Each IsNoPrepare (sent n)) l.mine (subst (Each IsNoPrepare) (sym (l.sends node ∙ ap (λ t. t ++ l.offers node) (taught-own at now.course node l.mine l.executed now.course.newest))) (offers_none node))

    sent_each : (P : Mark → Type 0) → ((slot : ℕ) → P (Teaches slot)) → ((slot : ℕ) → P (Installs slot)) → P (Prepares now.course.ballot) → ((ballot : Ballot) (slot : ℕ) → P (Asks ballot slot)) → (who : ℕ) → Each P (sent who)
    sent_each P tells installs prepares asks who =
        subst (Each P) (sym (l.sends who)) (Each-append P (taught_from at now.course now.course.newest l.executed who) (l.offers who) (taught-each at now.course who P tells installs prepares l.executed now.course.newest)
        (offers-each P at after.course now.course.bound who (λ ballot s least most. asks ballot s) (l.offers who) (l.asks who)))

    behind_sent : (who : ℕ) → (who ≡ lead → ⊥) → (mark : Mark) → IsHome now.course who mark → Behind (sent who) mark
    behind_sent who apart (Promises n ballot) h = sent_each (IsOtherPrepare ballot) (λ _. tt) (λ _. tt) (λ e. apart (sym h.0 ∙ ap (λ (b : Ballot). b.node) (sym e))) (λ _ _. tt) who
    behind_sent who apart _ h = tt

    order_then : (who : ℕ) → ArePromisedLast (marks_after who)
    order_then who = order_row who (elim (cases_eq who lead) [
      | inl fact ↦ subst (λ n. Each (Behind (sent n)) (marks n)) (sym fact) (each_all (Behind (sent lead)) (behind_none (sent lead) own_none) (marks lead))
      | inr ne ↦ Each-weaker (IsHome now.course who) (Behind (sent who)) (behind_sent who ne) (marks who) (o.home who)
    ]) (no_promised (sent who) (sent_each IsNoPromise (λ _. tt) (λ _. tt) tt (λ _ _. tt) who))

    home_then : (who : ℕ) → Each (IsHome now.course who) (marks_after who)
    home_then who = each-row now after node taken sent marks marks_after row (IsHome now.course who) who (o.home who) (sent_each (IsHome now.course who) (λ _. tt) (λ _. tt) tt (λ _ _. tt) who)

    -- once a promise is counted
    own_then : after.course.running ≡ true → (who : ℕ) → after.course.counted who ≡ true → Each IsNoPrepare (marks_after lead)
    own_then r who counted = elim (c.grown r who counted) [
      | inl before ↦ each-row now after node taken sent marks marks_after row IsNoPrepare lead (o.own l.runs who before) own_none
      | inr takes ↦ (let here : marks node ≡ Promises who now.course.ballot ∷ row.left = row.takes ∙ ap (λ x. listed x ++ row.left) takes in
          let others = (subst ArePromisedLast here (o.order node)).0 in
          let only = (subst (Each (IsOwnPrepare now.course.ballot)) here (subst (λ n. Each (IsOwnPrepare now.course.ballot) (marks n)) (sym l.mine) (o.only l.runs))).1 in
          subst (λ n. Each IsNoPrepare (marks_after n)) l.mine (subst (Each IsNoPrepare) (sym row.own) (Each-append IsNoPrepare row.left (sent node) (all_neither now.course.ballot row.left only others) (subst (λ n. Each IsNoPrepare (sent n)) (sym l.mine) own_none))))
    ]

    stop_then : after.course.running ≡ false → (who : ℕ) → AreLearntLast after.course.newest (marks_after who)
    stop_then off who =
        let some = (l.stops off).0 in
        let up = l.newest in
        let later : now.course.newest < after.course.newest = omega (arith, some, up) in
        let old = not_last now.course.newest after.course.newest (now.next who) (now.promise who) (marks who) (was.fits who) (was.within who) later in
        let new = subst (AreLearntLast after.course.newest) (sym (l.sends who)) (last_taught at now.course after.course now.course.bound who after.course.newest (l.offers who) (l.asks who) l.executed now.course.newest (sym up)) in
        elim (cases_eq who node) [
          | inl fact ↦ subst (λ n. AreLearntLast after.course.newest (marks_after n)) (sym fact) (subst (AreLearntLast after.course.newest) (sym row.own)
              (last_append after.course.newest row.left (sent node) (Each-split (IsNotLast after.course.newest) (listed taken) row.left (subst (Each (IsNotLast after.course.newest)) row.takes (subst (λ n. Each (IsNotLast after.course.newest) (marks n)) fact old))).1
              (subst (λ n. AreLearntLast after.course.newest (sent n)) fact new)))
          | inr ne ↦ subst (AreLearntLast after.course.newest) (sym (row.others who ne)) (last_append after.course.newest (marks who) (sent who) old new)
        ]

    at_lead : (P : List Mark → Type 0) → P (marks_after lead) → P (marks_after after.course.ballot.node)
    at_lead P = subst (λ (b : Ballot). P (marks_after b.node)) (sym l.ballot)

    pub leads_own : IsOwnFirst after marks_after
    leads_own = record {
      home = λ who. Each-weaker (IsHome now.course who) (IsHome after.course who) (home_later now.course after.course (λ b. subst (λ x. IsAtLeast x b) (sym l.ballot)) who) (marks_after who) (home_then who);
      order = order_then;
      own = λ r who counted. at_lead (Each IsNoPrepare) (own_then r who counted);
      some = c.some;
      first = λ r f. at_lead (Each IsNoPrepare) (each-row now after node taken sent marks marks_after row IsNoPrepare lead (o.first l.runs (sym l.first ∙ f)) own_none);
      only = λ r. subst (λ (b : Ballot). Each (IsOwnPrepare b) (marks_after b.node)) (sym l.ballot)
          (each-row now after node taken sent marks marks_after row (IsOwnPrepare now.course.ballot) lead (o.only l.runs) (Each-weaker IsNoPrepare (IsOwnPrepare now.course.ballot) (none_own now.course.ballot) (sent lead) own_none));
      stop = stop_then;
    }

  module _ (e : Elects at now after node taken sent) (c : CountsNone now after taken) where
    abbrev ballot : Ballot
    ballot = after.course.ballot

    left_none : Each IsNoPrepare row.left
    left_none = (subst (AreLearntLast now.course.newest) (row.takes ∙ ap (λ x. listed x ++ row.left) c.told.2) (o.stop e.idle node)).0 c.told.1

    never : (b : Ballot) → IsAtLeast now.course.ballot b → ballot ≡ b → ⊥
    never b least same = not_both now.course.ballot ballot e.later (subst (IsAtLeast now.course.ballot) (sym same) least)

    behind_asked : (who : ℕ) (mark : Mark) → IsHome now.course who mark → Behind (sent who) mark
    behind_asked who (Promises n b) h = elects-each at now after node taken sent e (IsOtherPrepare b) (never b h.1) who
    behind_asked who _ h = tt

    pub elects_own : IsOwnFirst after marks_after
    elects_own = record {
      home = λ who. each-row now after node taken sent marks marks_after row (IsHome after.course who) who (Each-weaker (IsHome now.course who) (IsHome after.course who) (home_later now.course after.course (λ b least. at_least_from_below b ballot (at_least_below b now.course.ballot ballot least e.later)) who) (marks who) (o.home who)) (elects-each at now after node taken sent e (IsHome after.course who) tt who);
      order = λ who. order_row who (Each-weaker (IsHome now.course who) (Behind (sent who)) (behind_asked who) (marks who) (o.home who)) (no_promised (sent who) (elects-each at now after node taken sent e IsNoPromise tt who));
      own = λ r who counted. absurd (true≢false (sym counted ∙ c.none who));
      some = λ r later_ below_. absurd (let n = e.newest in let b = e.bound in let same = was.offered e.idle in omega (arith, n, b, same, below_));
      first = λ r f. absurd (true≢false (sym f ∙ e.first));
      only = λ r. subst (λ n. Each (IsOwnPrepare ballot) (marks_after n)) (sym e.mine)
          (subst (Each (IsOwnPrepare ballot)) (sym row.own) (Each-append (IsOwnPrepare ballot) row.left (sent node) (Each-weaker IsNoPrepare (IsOwnPrepare ballot) (none_own ballot) row.left left_none) (elects-each at now after node taken sent e (IsOwnPrepare ballot) refl node)));
      stop = λ off. absurd (true≢false (sym e.runs ∙ off));
    }

executing : (at : Sets) (now after : Progress) (node : ℕ) (taken : Option Mark) (sent marks : ℕ → List Mark) (l : Leads at now after node taken sent) → IsOwnFirst now marks → 1 ≤ l.executed → Each IsNoPrepare (marks node)
executing at now after node taken sent marks l o some = subst (λ n. Each IsNoPrepare (marks n)) (sym l.mine) (elim (cases_Bool now.course.is_first) [
  | inl f ↦ o.first l.runs f
  | inr later ↦ (let up = l.newest in let within = l.within in let counted = o.some l.runs later (omega (arith, up, within, some)) in o.own l.runs counted.0 counted.1)
])

-- A leader's own Prepare is taken before any promise of its ballot is counted, and so before it executes an entry: each kind of row keeps it.
pub own_is_kept : OwnIsKept
own_is_kept = record {
  begin = λ at ballot. record { home = λ who. tt; order = λ who. tt; own = λ r who c. tt; some = λ r later below_. absurd (true≢false later); first = λ r f. tt; only = λ r. tt; stop = λ off who. tt };
  idle = λ at now after node taken sent marks marks_after row i was kind o. idle_own at now after node taken sent marks marks_after row was o i;
  takes = λ at now after node taken sent marks marks_after row t was kind o. takes_own at now after node taken sent marks marks_after row was o t;
  leads = λ at now after node taken sent marks marks_after row l was c o. leads_own at now after node taken sent marks marks_after row was o l c;
  self_election = λ at now after node taken sent marks marks_after row e was c o. elects_own at now after node taken sent marks marks_after row was o e c;
  execution = λ at now after node taken sent marks l o some. executing at now after node taken sent marks l o some;
}

-- ---- tables

-- A leader's row in the table is one of a leader that counts so.
pub leaders_count_own : LeadersCountOwn
leaders_count_own at now taken r after was l orderly = record {
  grown = λ on who m. elim (l.promisers on who m) [ inl old ↦ inl (was.counted who ∙ old) | inr takes ↦ inr takes ];
  some = λ on later above.
      (let led = (l.goes_on on).led in
      elim ((orderly on).asked (next after.0) (omega arith) (led.may.taken (next after.0) (omega arith) above)) [
        | inl first ↦ absurd (true≢false (sym first ∙ (led.first ∙ later)))
        | inr w ↦ w
      ]);
}
