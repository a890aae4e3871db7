-- A row in which a node takes a mail, or none, keeps what stands between the leader of its group and the nodes.
use Rattle.std.proofs.Common.{◌≡◌, ℕ, ◌<◌, ◌≤◌, ◌&&◌, true, false, eqb, List, [], ◌∷◌, ◌++◌, Option, Some, ◌⊎◌, inl, inr, refl, sym, ◌∙◌, ap, subst, append-nil}
use Rattle.std.proofs.lemmas.Bool.{cases_eq, cond_both, cond-true, eq-eqb, and_from}
use Rattle.sc_base.specs.Definitions.{Among, Each, least_of}
use Rattle.sc_node_table.specs.Values.{Ballot}
use Rattle.sc_node_table.specs.NodeDefinitions.{listed}
use Rattle.sc_words.specs.paxos.PaxosDefinitions.{below, IsAtLeast}
use Rattle.sc_words.proofs.PaxosProofs.PaxosLemmas.{same_from_at_least, cases_below, Each-append, Each-split, Each-weaker}
use Rattle.sc_live_steps.specs.following.FollowingDefinitions.{Mark, Asks, Votes, Prepares, Promises, next_by, promise_by, reached, pledged, IsFit, AreFit, AreAskedFirst, Course, Progress, Sets, members_at, IsKnown, IsVoting, HasPromised, IsPromising, IsFollowing, IsRow, IsIdle, answered, IsCount, Takes}
use Rattle.sc_live_steps.proofs.FollowingProofs.Marks.{among-left, among-right, among-either, among-listed, reached-append, pledged-append, fit-append, no_step, promise-most, count-reached, count-pledged, count-fit, count-asks, IsLater, asked-append, asked-counts, asked-left}

-- ---- what is under way before and after a row

module _ (now after : Progress) (node : ℕ) (taken : Option Mark) (sent marks marks_after : ℕ → List Mark) (row : IsRow now after node taken sent marks marks_after) where
  -- what is under way to one was so before, or is sent
  pub came : (who : ℕ) (mark : Mark) → Among mark (marks_after who) → Among mark (marks who) ⊎ Among mark (sent who)
  came who mark a = elim (cases_eq who node) [
    | inl fact ↦ (let b = among-either mark row.left (sent node) (subst (Among mark) (ap marks_after fact ∙ row.own) a) in
        elim b [
          | inl c ↦ inl (subst (λ n. Among mark (marks n)) (sym fact) (subst (Among mark) (sym row.takes) (among-right mark (listed taken) row.left c)))
          | inr c ↦ inr (subst (λ n. Among mark (sent n)) (sym fact) c)
        ])
    | inr ne ↦ among-either mark (marks who) (sent who) (subst (Among mark) (row.others who ne) a)
  ]

  -- what is sent is under way after it
  pub goes : (who : ℕ) (mark : Mark) → Among mark (sent who) → Among mark (marks_after who)
  goes who mark a = elim (cases_eq who node) [
    | inl fact ↦ subst (Among mark) (sym (ap marks_after fact ∙ row.own)) (among-right mark row.left (sent node) (subst (λ n. Among mark (sent n)) fact a))
    | inr ne ↦ subst (Among mark) (sym (row.others who ne)) (among-right mark (marks who) (sent who) a)
  ]

  -- what was under way is so still, unless it was taken
  pub stays : (who : ℕ) (mark : Mark) → Among mark (marks who) → ((who ≡ node) × (taken ≡ Some mark)) ⊎ Among mark (marks_after who)
  stays who mark a = elim (cases_eq who node) [
    | inl fact ↦ elim (among-either mark (listed taken) row.left (subst (Among mark) row.takes (subst (λ n. Among mark (marks n)) fact a))) [
      | inl b ↦ inl (fact, among-listed mark taken b)
      | inr b ↦ inr (subst (Among mark) (sym (ap marks_after fact ∙ row.own)) (among-left mark row.left (sent node) b))
    ]
    | inr ne ↦ inr (subst (Among mark) (sym (row.others who ne)) (among-left mark (marks who) (sent who) a))
  ]

  -- what held of all that was under way to one, and holds of what is sent, holds of all
  pub each-row : (P : Mark → Type 0) (who : ℕ) → Each P (marks who) → Each P (sent who) → Each P (marks_after who)
  each-row P who old new = elim (cases_eq who node) [
    | inl fact ↦ (let left = (Each-split P (listed taken) row.left (subst (Each P) row.takes (subst (λ n. Each P (marks n)) fact old))).1 in
        subst (Each P) (sym (ap marks_after fact ∙ row.own)) (Each-append P row.left (sent node) left (subst (λ n. Each P (sent n)) fact new)))
    | inr ne ↦ subst (Each P) (sym (row.others who ne)) (Each-append P (marks who) (sent who) old new)
  ]

  -- where the node has promised no more, nobody has
  pub promise-row : after.promise node ≡ now.promise node → (who : ℕ) → after.promise who ≡ now.promise who
  promise-row own who = elim (cases_eq who node) [ inl fact ↦ ap after.promise fact ∙ (own ∙ ap now.promise (sym fact)) | inr ne ↦ row.promise who ne ]

  -- what is asked for comes before votes still, where it is new
  pub asked-row : (who : ℕ) → AreAskedFirst (marks who) → Each (IsKnown now.course) (marks who) → Each (IsLater now.course.bound) (sent who) → AreAskedFirst (sent who) → AreAskedFirst (marks_after who)
  asked-row who old known new sent_first = elim (cases_eq who node) [
    | inl fact ↦ (let left = (Each-split (IsKnown now.course) (listed taken) row.left (subst (Each (IsKnown now.course)) row.takes (subst (λ n. Each (IsKnown now.course) (marks n)) fact known))).1 in
        let behind = asked-left taken row.left (subst AreAskedFirst row.takes (subst (λ n. AreAskedFirst (marks n)) fact old)) in
        subst AreAskedFirst (sym (ap marks_after fact ∙ row.own))
        (asked-append now.course row.left (sent node) behind left (subst (λ n. Each (IsLater now.course.bound) (sent n)) fact new) (subst (λ n. AreAskedFirst (sent n)) fact sent_first)))
    | inr ne ↦ subst AreAskedFirst (sym (row.others who ne)) (asked-append now.course (marks who) (sent who) old known new sent_first)
  ]

-- what is under way to each takes it as far as before
abbrev pub GoAsFar : (ℕ → ℕ) → (ℕ → ℕ) → (ℕ → List Mark) → (ℕ → List Mark) → Type 0
GoAsFar next next_after marks marks_after = (who : ℕ) → reached (next_after who) (marks_after who) ≡ reached (next who) (marks who)

-- what is under way to each makes it promise as much as before
abbrev PledgeAsMuch : (ℕ → Ballot) → (ℕ → Ballot) → (ℕ → List Mark) → (ℕ → List Mark) → Type 0
PledgeAsMuch promise promise_after marks marks_after = (who : ℕ) → pledged (promise_after who) (marks_after who) ≡ pledged (promise who) (marks who)

-- what is under way to each is fit for where it is
abbrev pub AreAllFit : Progress → (ℕ → List Mark) → Type 0
AreAllFit now marks = (who : ℕ) → AreFit (now.next who) (now.promise who) (marks who)

-- ---- a row that does nothing in the group

module _ (now after : Progress) (node : ℕ) (taken : Option Mark) (sent marks marks_after : ℕ → List Mark) (row : IsRow now after node taken sent marks marks_after) (i : IsIdle now after node taken sent) where
  pub idle_next : (who : ℕ) → after.next who ≡ now.next who
  idle_next who = elim (cases_eq who node) [ inl fact ↦ ap after.next fact ∙ (i.next ∙ ap now.next (sym fact)) | inr ne ↦ row.next who ne ]

  pub idle_promise : (who : ℕ) → after.promise who ≡ now.promise who
  idle_promise = promise-row now after node taken sent marks marks_after row i.promise

  pub idle_marks : (who : ℕ) → marks who ≡ marks_after who
  idle_marks who = elim (cases_eq who node) [
    | inl fact ↦ ap marks fact ∙ (row.takes ∙ (ap (λ t. listed t ++ row.left) i.takes ∙ (sym (append-nil row.left) ∙ (ap (λ l. row.left ++ l) (sym (i.sends node)) ∙ (sym row.own ∙ ap marks_after (sym fact))))))
    | inr ne ↦ sym (append-nil (marks who)) ∙ (ap (λ l. marks who ++ l) (sym (i.sends who)) ∙ sym (row.others who ne))
  ]

  pub idle_reached : GoAsFar now.next after.next marks marks_after
  idle_reached who = ap (λ n. reached n (marks_after who)) (idle_next who) ∙ ap (reached (now.next who)) (sym (idle_marks who))

  idle_pledged : PledgeAsMuch now.promise after.promise marks marks_after
  idle_pledged who = ap (λ p. pledged p (marks_after who)) (idle_promise who) ∙ ap (pledged (now.promise who)) (sym (idle_marks who))

  pub idle-keeps : (at : Sets) → IsFollowing at now marks → IsFollowing at after marks_after
  idle-keeps at was =
      subst (λ c. IsFollowing at (record { next = after.next; promise = after.promise; course = c }) marks_after) (sym i.course) (record {
        fits = λ who. subst (λ l. AreFit (after.next who) (after.promise who) l) (idle_marks who) (subst (λ n. AreFit n (after.promise who) (marks who)) (sym (idle_next who)) (subst (λ p. AreFit (now.next who) p (marks who)) (sym (idle_promise who)) (was.fits who)));
        within = λ who. subst (λ n. n ≤ now.course.newest) (sym (idle_reached who)) (was.within who);
        members = λ who fact. idle_reached who ∙ was.members who fact;
        ready = λ who o. record { replica = subst (λ n. 1 ≤ n) (sym (idle_reached who)) (was.ready who o).replica; promised = idle_pledged who ∙ (was.ready who o).promised };
        some = was.some;
        low = was.low;
        high = was.high;
        known = λ who. subst (Each (IsKnown now.course)) (idle_marks who) (was.known who);
        promised = λ who. subst (IsAtLeast now.course.ballot) (sym (idle_promise who)) (was.promised who);
        first = λ f who. idle_pledged who ∙ was.first f who;
        asked = λ who. subst AreAskedFirst (idle_marks who) (was.asked who);
        undone = λ r ballot slot a. was.undone r ballot slot (subst (Among (Asks ballot slot)) (sym (idle_marks now.course.ballot.node)) a);
        flying = was.flying;
        votes = λ slot voters e who fact.
            subst (λ l. IsVoting now.course.ballot who slot voters l (marks_after now.course.ballot.node)) (idle_marks who) (subst (λ l. IsVoting now.course.ballot who slot voters (marks who) l) (idle_marks now.course.ballot.node) (was.votes slot voters e who fact));
        promises = λ r f who o. subst (λ l. IsPromising now.course who l (marks_after now.course.ballot.node)) (idle_marks who) (subst (λ l. IsPromising now.course who (marks who) l) (idle_marks now.course.ballot.node) (was.promises r f who o));
        pledges = λ r f who e. subst (HasPromised now.course who) (idle_marks now.course.ballot.node) (was.pledges r f who (sym (idle_promise who) ∙ e));
        leads = λ r. (let l = was.leads r in record { executed = idle_next now.course.ballot.node ∙ l.executed; member = l.member; stands = l.stands });
        offered = was.offered;
        self_election = λ r g. subst (λ n. n < now.course.newest) (sym (idle_next (least_of (members_at at now.course.newest)))) (was.self_election r g);
      })

-- ---- a row in which a node takes a mail of the group

-- what a node sends for a mail is a vote or a promise
pub counts_of : (node : ℕ) (promise : Ballot) (mark : Mark) (who : ℕ) → Each IsCount (answered node promise mark who)
counts_of node promise (Asks ballot slot) who = cond_both (eqb who ballot.node) (Votes node ballot slot ∷ []) [] (Each IsCount) (λ _. (tt, tt)) (λ _. tt)
counts_of node promise (Prepares ballot) who = cond_both (eqb who ballot.node && below promise ballot) (Promises node ballot ∷ []) [] (Each IsCount) (λ _. (tt, tt)) (λ _. tt)
counts_of node promise _ who = tt

-- what a node sends for a mail is at a slot that is known
known_of : (course : Course) (node : ℕ) (promise : Ballot) (mark : Mark) (who : ℕ) → IsKnown course mark → Each (IsKnown course) (answered node promise mark who)
known_of course node promise (Asks ballot slot) who k = cond_both (eqb who ballot.node) (Votes node ballot slot ∷ []) [] (Each (IsKnown course)) (λ _. (k, tt)) (λ _. tt)
known_of course node promise (Prepares ballot) who k = cond_both (eqb who ballot.node && below promise ballot) (Promises node ballot ∷ []) [] (Each (IsKnown course)) (λ _. (tt, tt)) (λ _. tt)
known_of course node promise _ who k = tt

later_counts : (bound : ℕ) (mark : Mark) → IsCount mark → IsLater bound mark
later_counts bound (Asks ballot slot) c = absurd c
later_counts bound _ c = tt

-- a node promises a ballot by being asked to, or has promised it before
promise_from : (promise ballot : Ballot) (mark : Mark) → promise_by promise mark ≡ ballot → (promise ≡ ballot) ⊎ (mark ≡ Prepares ballot)
promise_from promise ballot (Prepares other) e = inr (ap (λ b. Prepares b) e)
promise_from promise ballot _ e = inl e

some_same : {a b : Mark} → Some a ≡ Some b → a ≡ b
some_same e = cc

module _ (at : Sets) (now after : Progress) (node : ℕ) (taken : Option Mark) (sent marks marks_after : ℕ → List Mark) (row : IsRow now after node taken sent marks marks_after) (t : Takes at now after node taken sent)
    (was : IsFollowing at now marks) where
  abbrev lead : ℕ
  lead = now.course.ballot.node

  here : marks node ≡ t.mark ∷ row.left
  here = row.takes ∙ ap (λ o. listed o ++ row.left) t.takes

  is_taken : (mark : Mark) → taken ≡ Some mark → t.mark ≡ mark
  is_taken mark e = some_same (sym t.takes ∙ e)

  fit : AreFit (now.next node) (now.promise node) (t.mark ∷ row.left)
  fit = subst (AreFit (now.next node) (now.promise node)) here (was.fits node)

  known : IsKnown now.course t.mark
  known = (subst (Each (IsKnown now.course)) here (was.known node)).0

  counts : (who : ℕ) → Each IsCount (sent who)
  counts who = subst (Each IsCount) (sym (t.sends who)) (counts_of node (now.promise node) t.mark who)

  pub reached_left : GoAsFar now.next after.next marks marks_after
  reached_left who = elim (cases_eq who node) [
    | inl fact ↦ ap (λ n. reached (after.next n) (marks_after n)) fact
        ∙ (ap (reached (after.next node)) row.own
        ∙ (reached-append (after.next node) row.left (sent node)
        ∙ (count-reached (reached (after.next node) row.left) (sent node) (counts node)
        ∙ (ap (λ n. reached n row.left) t.next ∙ (sym (ap (reached (now.next node)) here) ∙ ap (λ n. reached (now.next n) (marks n)) (sym fact))))))
    | inr ne ↦ ap (reached (after.next who)) (row.others who ne)
        ∙ (reached-append (after.next who) (marks who) (sent who) ∙ (count-reached (reached (after.next who) (marks who)) (sent who) (counts who) ∙ ap (λ n. reached n (marks who)) (row.next who ne)))
  ]

  pledged_left : PledgeAsMuch now.promise after.promise marks marks_after
  pledged_left who = elim (cases_eq who node) [
    | inl fact ↦ ap (λ n. pledged (after.promise n) (marks_after n)) fact
        ∙ (ap (pledged (after.promise node)) row.own
        ∙ (pledged-append (after.promise node) row.left (sent node)
        ∙ (count-pledged (pledged (after.promise node) row.left) (sent node) (counts node)
        ∙ (ap (λ p. pledged p row.left) t.promise ∙ (sym (ap (pledged (now.promise node)) here) ∙ ap (λ n. pledged (now.promise n) (marks n)) (sym fact))))))
    | inr ne ↦ ap (pledged (after.promise who)) (row.others who ne)
        ∙ (pledged-append (after.promise who) (marks who) (sent who) ∙ (count-pledged (pledged (after.promise who) (marks who)) (sent who) (counts who) ∙ ap (λ p. pledged p (marks who)) (row.promise who ne)))
  ]

  fits_own : AreFit (after.next node) (after.promise node) (marks_after node)
  fits_own =
      subst (AreFit (after.next node) (after.promise node)) (sym row.own)
      (fit-append (after.next node) (after.promise node) row.left (sent node) (subst (λ n. AreFit n (after.promise node) row.left) (sym t.next) (subst (λ p. AreFit (next_by (now.next node) t.mark) p row.left) (sym t.promise) fit.1))
      (count-fit (reached (after.next node) row.left) (pledged (after.promise node) row.left) (sent node) (counts node)))

  fits_after : AreAllFit after marks_after
  fits_after who = elim (cases_eq who node) [
    | inl fact ↦ subst (λ n. AreFit (after.next n) (after.promise n) (marks_after n)) (sym fact) fits_own
    | inr ne ↦ subst (AreFit (after.next who) (after.promise who)) (sym (row.others who ne))
        (fit-append (after.next who) (after.promise who) (marks who) (sent who) (subst (λ n. AreFit n (after.promise who) (marks who)) (sym (row.next who ne)) (subst (λ p. AreFit (now.next who) p (marks who)) (sym (row.promise who ne)) (was.fits who)))
        (count-fit (reached (after.next who) (marks who)) (pledged (after.promise who) (marks who)) (sent who) (counts who)))
  ]

  -- the one that leads is taken no further
  leads_after : now.course.running ≡ true → after.next lead ≡ now.course.newest
  leads_after r =
      let executed = (was.leads r).executed in
      elim (cases_eq lead node) [
        | inl fact ↦ (let own : now.next node ≡ now.course.newest = ap now.next (sym fact) ∙ executed in
            let most : reached (now.next node) (t.mark ∷ row.left) ≤ now.next node =
            subst (λ l. reached (now.next node) l ≤ now.next node) here (subst (λ n. reached (now.next node) (marks node) ≤ n) (sym own) (was.within node)) in
            ap after.next fact ∙ (t.next ∙ (no_step (now.next node) (now.promise node) t.mark row.left fit most ∙ own)))
        | inr ne ↦ row.next lead ne ∙ executed
      ]

  -- it takes no vote and no promise in such a row
  no_count : now.course.running ≡ true → (mark : Mark) → IsCount mark → (lead ≡ node) × (taken ≡ Some mark) → ⊥
  no_count r mark c both = t.counts r (sym both.0) (subst IsCount (sym (is_taken mark both.1)) c)

  voting : now.course.running ≡ true → (slot : ℕ) (voters : List ℕ) (who : ℕ) → IsVoting now.course.ballot who slot voters (marks who) (marks lead) → IsVoting now.course.ballot who slot voters (marks_after who) (marks_after lead)
  voting r slot voters who (inl v) = inl v
  voting r slot voters who (inr (inl a)) = elim (stays now after node taken sent marks marks_after row who (Asks now.course.ballot slot) a) [
    | inl both ↦ (let said : sent lead ≡ answered node (now.promise node) (Asks now.course.ballot slot) lead = t.sends lead ∙ ap (λ m. answered node (now.promise node) m lead) (is_taken (Asks now.course.ballot slot) both.1) in
        let vote : sent lead ≡ Votes node now.course.ballot slot ∷ [] = said ∙ cond-true (eqb lead lead) (Votes node now.course.ballot slot ∷ []) [] (eq-eqb lead lead refl) in
        inr (inr (goes now after node taken sent marks marks_after row lead (Votes who now.course.ballot slot) (subst (Among (Votes who now.course.ballot slot)) (sym vote) (inl (ap (λ n. Votes n now.course.ballot slot) (sym both.0)))))))
    | inr b ↦ inr (inl b)
  ]
  voting r slot voters who (inr (inr a)) = elim (stays now after node taken sent marks marks_after row lead (Votes who now.course.ballot slot) a) [
    | inl both ↦ absurd (no_count r (Votes who now.course.ballot slot) tt both)
    | inr b ↦ inr (inr b)
  ]

  promised_still : now.course.running ≡ true → (who : ℕ) → HasPromised now.course who (marks lead) → HasPromised now.course who (marks_after lead)
  promised_still r who (inl c) = inl c
  promised_still r who (inr a) = elim (stays now after node taken sent marks marks_after row lead (Promises who now.course.ballot) a) [
    | inl both ↦ absurd (no_count r (Promises who now.course.ballot) tt both)
    | inr b ↦ inr b
  ]

  -- one that is asked to promise does so, unless it has
  promises_now : now.course.running ≡ true → now.course.is_first ≡ false → t.mark ≡ Prepares now.course.ballot → HasPromised now.course node (marks_after lead)
  promises_now r later fact = elim (cases_below (now.promise node) now.course.ballot) [
    | inl up ↦ (let said : sent lead ≡ answered node (now.promise node) (Prepares now.course.ballot) lead = t.sends lead ∙ ap (λ m. answered node (now.promise node) m lead) fact in
        let promise : sent lead ≡ Promises node now.course.ballot ∷ [] =
        said ∙ cond-true (eqb lead lead && below (now.promise node) now.course.ballot) (Promises node now.course.ballot ∷ []) [] (and_from (eqb lead lead) (below (now.promise node) now.course.ballot) (eq-eqb lead lead refl) up) in
        inr (goes now after node taken sent marks marks_after row lead (Promises node now.course.ballot) (subst (Among (Promises node now.course.ballot)) (sym promise) (inl refl))))
    | inr least ↦ (let asked : IsFit (now.next node) (now.promise node) (Prepares now.course.ballot) = subst (IsFit (now.next node) (now.promise node)) fact fit.0 in
        promised_still r node (was.pledges r later node (same_from_at_least (now.promise node) now.course.ballot least asked.1)))
  ]

  promising : now.course.running ≡ true → now.course.is_first ≡ false → (who : ℕ) → IsPromising now.course who (marks who) (marks lead) → IsPromising now.course who (marks_after who) (marks_after lead)
  promising r later who (inl a) = elim (stays now after node taken sent marks marks_after row who (Prepares now.course.ballot) a) [
    | inl both ↦ inr (subst (λ n. HasPromised now.course n (marks_after lead)) (sym both.0) (promises_now r later (is_taken (Prepares now.course.ballot) both.1)))
    | inr b ↦ inl b
  ]
  promising r later who (inr h) = inr (promised_still r who h)

  pledging : now.course.running ≡ true → now.course.is_first ≡ false → (who : ℕ) → after.promise who ≡ now.course.ballot → HasPromised now.course who (marks_after lead)
  pledging r later who e = elim (cases_eq who node) [
    | inl fact ↦ subst (λ n. HasPromised now.course n (marks_after lead)) (sym fact) (elim (promise_from (now.promise node) now.course.ballot t.mark (sym t.promise ∙ (ap after.promise (sym fact) ∙ e))) [
      | inl old ↦ promised_still r node (was.pledges r later node old)
      | inr new ↦ promises_now r later new
    ])
    | inr ne ↦ promised_still r who (was.pledges r later who (sym (row.promise who ne) ∙ e))
  ]

  pub takes-keeps : IsFollowing at after marks_after
  takes-keeps =
      subst (λ c. IsFollowing at (record { next = after.next; promise = after.promise; course = c }) marks_after) (sym t.course) (record {
        fits = fits_after;
        within = λ who. subst (λ n. n ≤ now.course.newest) (sym (reached_left who)) (was.within who);
        members = λ who fact. reached_left who ∙ was.members who fact;
        ready = λ who o. record { replica = subst (λ n. 1 ≤ n) (sym (reached_left who)) (was.ready who o).replica; promised = pledged_left who ∙ (was.ready who o).promised };
        some = was.some;
        low = was.low;
        high = was.high;
        known = λ who. each-row now after node taken sent marks marks_after row (IsKnown now.course) who (was.known who) (subst (Each (IsKnown now.course)) (sym (t.sends who)) (known_of now.course node (now.promise node) t.mark who known));
        promised = λ who. elim (cases_eq who node) [
          | inl fact ↦ subst (IsAtLeast now.course.ballot) (sym (ap after.promise fact ∙ t.promise)) (promise-most now.course (now.promise node) t.mark (was.promised node) known)
          | inr ne ↦ subst (IsAtLeast now.course.ballot) (sym (row.promise who ne)) (was.promised who)
        ];
        first = λ f who. pledged_left who ∙ was.first f who;
        asked = λ who. asked-row now after node taken sent marks marks_after row who (was.asked who) (was.known who)
            (Each-weaker IsCount (IsLater now.course.bound) (later_counts now.course.bound) (sent who) (counts who)) (asked-counts (sent who) (counts who));
        undone = λ r ballot slot a. elim (came now after node taken sent marks marks_after row lead (Asks ballot slot) a) [
          | inl b ↦ was.undone r ballot slot b
          | inr b ↦ absurd (count-asks (sent lead) (counts lead) ballot slot b)
        ];
        flying = was.flying;
        votes = λ slot voters e who fact. voting (was.flying slot voters e).runs slot voters who (was.votes slot voters e who fact);
        promises = λ r later who o. promising r later who (was.promises r later who o);
        pledges = pledging;
        leads = λ r. (let l = was.leads r in record { executed = leads_after r; member = l.member; stands = l.stands });
        offered = was.offered;
        self_election = λ r g. (let heir = least_of (members_at at now.course.newest) in
            elim (cases_eq heir node) [
              | inl fact ↦ subst (λ n. after.next n < now.course.newest) (sym fact) (t.waits r g (sym fact))
              | inr ne ↦ subst (λ n. n < now.course.newest) (sym (row.next heir ne)) (was.self_election r g)
            ]);
      })
