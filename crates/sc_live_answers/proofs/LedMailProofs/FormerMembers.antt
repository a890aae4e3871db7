-- What becomes of those that left a group, after each kind of row.
use Rattle.std.proofs.Common.{◌≡◌, ℕ, zero, suc, ◌+◌, ◌-◌, ◌<◌, ◌≤◌, true, false, true≢false, List, [], ◌∷◌, ◌++◌, Option, Some, ◌⊎◌, inl, inr, refl, sym, ◌∙◌, ap, subst, arith, append-nil}
use Rattle.std.proofs.lemmas.Bool.{cases_Bool, cases_eq, cases_lt}
use Rattle.sc_base.specs.Definitions.{Each, is_member}
use Rattle.sc_node_table.specs.Values.{Ballot}
use Rattle.sc_node_table.specs.NodeDefinitions.{listed}
use Rattle.sc_words.specs.paxos.PaxosDefinitions.{IsAtLeast}
use Rattle.sc_words.proofs.PaxosProofs.PaxosLemmas.{at_least_itself}
use Rattle.sc_live_steps.specs.following.FollowingDefinitions.{Mark, promise_by, reached, pledged, AreFit, Course, Progress, Sets, members_at, IsOpen, IsFollowing, SlotLeaders, hint_by, hinted, IsOther, IsHeeding, StaysSo, GoesBy, IsRow, IsIdle, IsCount, Takes, taught_from, Leads, Elects}
use Rattle.sc_live_steps.proofs.FollowingProofs.FollowingLemmas.{hinted-append, counts_of, reached-append, pledged-append, reached-least, pledged-most, rises, offers-reached}
use Rattle.sc_live_answers.proofs.BallotsProofs.PrepareSlots.{MovesLast}
use Rattle.sc_live_answers.specs.AnswerDefinitions.{IsPassed, IsFated, EndsGone, AreFated}
use Rattle.sc_live_answers.proofs.BallotsProofs.HintedMarks.{round_most, Silent, none_silent, counts_silent, open_or, member_open, taught_nothing, told_all, offered_nothing}
use Rattle.sc_live_answers.proofs.BallotsProofs.PromisedBallots.{others_rise}

module _ (at : Sets) (by : SlotLeaders) (now after : Progress) (node : ℕ) (taken : Option Mark) (sent marks marks_after : ℕ → List Mark) (hints hints_after : ℕ → Option ℕ) (row : IsRow now after node taken sent marks marks_after)
    (was : IsFollowing at now marks) (then_ : IsFollowing at after marks_after) (others : (who : ℕ) → (who ≡ node → ⊥) → hints_after who ≡ hints who) (k : AreFated at by now hints marks) where
  -- once it has taken its mail, a node takes the same one for the leader, and has promised and executed as much
  abbrev SameHint : ℕ → Type 0
  SameHint who = hinted at by (after.promise who) (hints_after who) (marks_after who) ≡ hinted at by (now.promise who) (hints who) (marks who)

  abbrev SamePromise : ℕ → Type 0
  SamePromise who = pledged (after.promise who) (marks_after who) ≡ pledged (now.promise who) (marks who)

  abbrev SameReach : ℕ → Type 0
  SameReach who = reached (after.next who) (marks_after who) ≡ reached (now.next who) (marks who)

  module _ (who : ℕ) (ne : who ≡ node → ⊥) where
    promise_more : pledged (after.promise who) (marks_after who) ≡ pledged (pledged (now.promise who) (marks who)) (sent who)
    promise_more = ap (pledged (after.promise who)) (row.others who ne) ∙ (ap (λ p. pledged p (marks who ++ sent who)) (row.promise who ne) ∙ pledged-append (now.promise who) (marks who) (sent who))

    reach_more : reached (after.next who) (marks_after who) ≡ reached (reached (now.next who) (marks who)) (sent who)
    reach_more = ap (reached (after.next who)) (row.others who ne) ∙ (ap (λ n. reached n (marks who ++ sent who)) (row.next who ne) ∙ reached-append (now.next who) (marks who) (sent who))

    hint_more : hinted at by (after.promise who) (hints_after who) (marks_after who) ≡ hinted at by (pledged (now.promise who) (marks who)) (hinted at by (now.promise who) (hints who) (marks who)) (sent who)
    hint_more =
        ap (hinted at by (after.promise who) (hints_after who)) (row.others who ne)
        ∙ (ap (λ p. hinted at by p (hints_after who) (marks who ++ sent who)) (row.promise who ne)
        ∙ (ap (λ h. hinted at by (now.promise who) h (marks who ++ sent who)) (others who ne) ∙ hinted-append at by (now.promise who) (hints who) (marks who) (sent who)))

    same_promise : Silent at by (sent who) → SamePromise who
    same_promise s = promise_more ∙ s.promise (pledged (now.promise who) (marks who))

    same_reach : Silent at by (sent who) → SameReach who
    same_reach s = reach_more ∙ s.reach (reached (now.next who) (marks who))

    same_hint : Silent at by (sent who) → SameHint who
    same_hint s = hint_more ∙ s.hint (pledged (now.promise who) (marks who)) (hinted at by (now.promise who) (hints who) (marks who))

  -- what is passed stays so
  abbrev PassedStay : Type 0
  PassedStay = (ballot : Ballot) → IsPassed now marks ballot → IsPassed after marks_after ballot

  -- one that is so stays so, where what is passed stays passed
  fated_on : (who : ℕ) → SameHint who → SamePromise who → PassedStay → IsFated at by now hints marks who → IsFated at by after hints_after marks_after who
  fated_on who hint promise up f = record {
    hint_is = hint ∙ (f.hint_is ∙ ap (λ (b : Ballot). Some b.node) (sym promise));
    passed = subst (IsPassed after marks_after) (sym promise) (up (pledged (now.promise who) (marks who)) f.passed);
  }

  promised_up : (who : ℕ) → (who ≡ node → ⊥) → (pledged (now.promise who) (marks who)).round ≤ (pledged (after.promise who) (marks_after who)).round
  promised_up who ne = round_most (pledged (after.promise who) (marks_after who)) (pledged (now.promise who) (marks who)) (others_rise now after node taken sent marks marks_after row then_.fits who ne)

  -- ---- rows in which the course stays

  module _ (same : after.course ≡ now.course) (promises : (who : ℕ) → SamePromise who) (reaches : (who : ℕ) → SameReach who) (hint : (who : ℕ) → (who ≡ node → ⊥) → SameHint who) (grows : now.next node ≤ after.next node) where
    passed_on : PassedStay
    passed_on ballot (inl e) = inl (e ∙ ap (λ (c : Course). c.ballot) (sym same))
    passed_on ballot (inr lt) = inr (subst (λ (b : Ballot). ballot.round < b.round) (sym (promises ballot.node)) lt)

    ends_on : (who : ℕ) → EndsGone now marks who → EndsGone after marks_after who
    ends_on who e = (ap (λ (c : Course). c.gone) same ∙ e.0, reaches who ∙ (e.1 ∙ ap (λ (c : Course). c.newest) (sym same)))

    steady : ((IsOpen at now.course.newest node → now.course.gone ≡ true) → (SameHint node) ⊎ EndsGone after marks_after node) → AreFated at by after hints_after marks_after
    steady own = record {
      fates = λ who prem.
          (let before : IsOpen at now.course.newest who → now.course.gone ≡ true = λ o. ap (λ (c : Course). c.gone) (sym same) ∙ prem (subst (λ (c : Course). IsOpen at c.newest who) (sym same) o) in
          elim (k.fates who before) [
            | inl e ↦ inl (ends_on who e)
            | inr f ↦ elim (cases_eq who node) [
              | inr ne ↦ inr (fated_on who (hint who ne) (promises who) passed_on f)
              | inl fact ↦ elim (own (λ o. before (subst (IsOpen at now.course.newest) (sym fact) o))) [
                | inl h ↦ inr (fated_on who (subst SameHint (sym fact) h) (promises who) passed_on f)
                | inr e ↦ inl (subst (EndsGone after marks_after) (sym fact) e)
              ]
            ]
          ]);
      last = λ off gone.
          (let off_ : now.course.running ≡ false = ap (λ (c : Course). c.running) (sym same) ∙ off in
          let gone_ : now.course.gone ≡ true = ap (λ (c : Course). c.gone) (sym same) ∙ gone in
          subst (λ (c : Course). after.next c.ballot.node ≡ c.newest) (sym same) (last_on (k.last off_ gone_)));
      left = λ off stands. subst (λ (c : Course). IsOpen at c.newest c.ballot.node) (sym same) (k.left (ap (λ (c : Course). c.running) (sym same) ∙ off) (ap (λ (c : Course). c.gone) (sym same) ∙ stands));
    }
      where
        last_on : now.next now.course.ballot.node ≡ now.course.newest → after.next now.course.ballot.node ≡ now.course.newest
        last_on e = elim (cases_eq now.course.ballot.node node) [
          | inr ne ↦ row.next now.course.ballot.node ne ∙ e
          | inl fact ↦ (let most = then_.within node in
              let least = reached-least (after.next node) (after.promise node) (marks_after node) (then_.fits node) in
              let newest = ap (λ (c : Course). c.newest) same in
              let low = ap now.next fact in
              let high = ap after.next fact in
              omega (arith, most, least, newest, low, high, e, grows))
        ]

  pub idle_fates : IsIdle now after node taken sent → StaysSo at by now after node taken (hints node) (hints_after node) → AreFated at by after hints_after marks_after
  idle_fates i hint_same = steady i.course promises reaches (λ who ne. same_hint who ne (silent who)) (let n = i.next in omega (arith, n)) (λ _. inl hint_own)
    where
      silent : (who : ℕ) → Silent at by (sent who)
      silent who = none_silent at by (sent who) (i.sends who)

      left_is : marks_after node ≡ marks node
      left_is = row.own ∙ (ap (λ l. row.left ++ l) (i.sends node) ∙ (append-nil row.left ∙ sym (row.takes ∙ ap (λ t. listed t ++ row.left) i.takes)))

      promise_own : SamePromise node
      promise_own = ap (pledged (after.promise node)) left_is ∙ ap (λ p. pledged p (marks node)) i.promise

      reach_own : SameReach node
      reach_own = ap (reached (after.next node)) left_is ∙ ap (λ n. reached n (marks node)) i.next

      hint_own : SameHint node
      hint_own = ap (hinted at by (after.promise node) (hints_after node)) left_is ∙ (ap (λ p. hinted at by p (hints_after node) (marks node)) i.promise ∙ ap (λ h. hinted at by (now.promise node) h (marks node)) hint_same)

      promises : (who : ℕ) → SamePromise who
      promises who = elim (cases_eq who node) [ inl fact ↦ subst SamePromise (sym fact) promise_own | inr ne ↦ same_promise who ne (silent who) ]

      reaches : (who : ℕ) → SameReach who
      reaches who = elim (cases_eq who node) [ inl fact ↦ subst SameReach (sym fact) reach_own | inr ne ↦ same_reach who ne (silent who) ]

  pub takes_fates : Takes at now after node taken sent → GoesBy at by now after node taken (hints node) (hints_after node) → AreFated at by after hints_after marks_after
  takes_fates t goes = steady t.course promises reaches (λ who ne. same_hint who ne (silent who)) grows own
    where
      silent : (who : ℕ) → Silent at by (sent who)
      silent who = counts_silent at by (sent who) (subst (Each IsCount) (sym (t.sends who)) (counts_of node (now.promise node) t.mark who))

      here : marks node ≡ t.mark ∷ row.left
      here = row.takes ∙ ap (λ x. listed x ++ row.left) t.takes

      grows : now.next node ≤ after.next node
      grows = (let e = t.next in let r = rises (now.next node) (now.promise node) t.mark (subst (AreFit (now.next node) (now.promise node)) here (was.fits node)).0 in omega (arith, e, r))

      promise_own : SamePromise node
      promise_own =
          ap (pledged (after.promise node)) row.own ∙ (pledged-append (after.promise node) row.left (sent node) ∙ ((silent node).promise (pledged (after.promise node) row.left)
          ∙ (ap (λ p. pledged p row.left) t.promise ∙ sym (ap (pledged (now.promise node)) here))))

      reach_own : SameReach node
      reach_own =
          ap (reached (after.next node)) row.own ∙ (reached-append (after.next node) row.left (sent node) ∙ ((silent node).reach (reached (after.next node) row.left)
          ∙ (ap (λ n. reached n row.left) t.next ∙ sym (ap (reached (now.next node)) here))))

      hint_own : hints_after node ≡ hint_by at by (now.promise node) (hints node) t.mark → SameHint node
      hint_own said =
          ap (hinted at by (after.promise node) (hints_after node)) row.own ∙ (hinted-append at by (after.promise node) (hints_after node) row.left (sent node)
          ∙ ((silent node).hint (pledged (after.promise node) row.left) (hinted at by (after.promise node) (hints_after node) row.left)
          ∙ (ap (λ p. hinted at by p (hints_after node) row.left) t.promise ∙ (ap (λ h. hinted at by (promise_by (now.promise node) t.mark) h row.left) said ∙ sym (ap (hinted at by (now.promise node) (hints node)) here)))))

      promises : (who : ℕ) → SamePromise who
      promises who = elim (cases_eq who node) [ inl fact ↦ subst SamePromise (sym fact) promise_own | inr ne ↦ same_promise who ne (silent who) ]

      reaches : (who : ℕ) → SameReach who
      reaches who = elim (cases_eq who node) [ inl fact ↦ subst SameReach (sym fact) reach_own | inr ne ↦ same_reach who ne (silent who) ]

      -- one that leads decides an open slot of a group that stands
      own : (IsOpen at now.course.newest node → now.course.gone ≡ true) → (SameHint node) ⊎ EndsGone after marks_after node
      own prem = elim (goes t.mark t.takes other) [
        | inl said ↦ inl (hint_own said)
        | inr over_ ↦ inr (
          ap (λ (c : Course). c.gone) t.course ∙ over_.0,
          (let most = then_.within node in
              let least = reached-least (after.next node) (after.promise node) (marks_after node) (then_.fits node) in
              let newest = ap (λ (c : Course). c.newest) t.course in
              let at_end = over_.1 in
              omega (arith, most, least, newest, at_end)),
        )
      ]
        where
          other : IsOther now.course node
          other runs mine =
              let leads = was.leads runs in
              let opened : IsOpen at now.course.newest now.course.ballot.node = member_open at now.course.ballot.node now.course.newest now.course.newest (omega arith) (omega arith) leads.member in
              true≢false (sym (prem (subst (IsOpen at now.course.newest) (sym mine) opened)) ∙ leads.stands)

  -- ---- a leader's row

  module _ (l : Leads at now after node taken sent) (heeded : IsHeeding at by now hints marks) (moves : MovesLast at now.course now.course.newest after.course.newest) where
    -- until the last entry the members are the same
    members_stay : (more : ℕ) → now.course.newest + more < after.course.newest → members_at at (now.course.newest + more) ≡ members_at at now.course.newest
    members_stay zero low = ap (members_at at) (omega arith)
    members_stay (suc more) low =
        let before = members_stay more (omega (arith, low)) in
        elim (moves (now.course.newest + more) (omega arith) (omega (arith, low))) [
          | inl last ↦ (let within = l.within in absurd (omega (arith, last, low, within)))
          | inr same ↦ ap (members_at at) (omega arith) ∙ (same ∙ before)
        ]

    member_before : (who slot : ℕ) → now.course.newest ≤ slot → slot < after.course.newest → is_member (members_at at now.course.newest) who ≡ true → is_member (members_at at slot) who ≡ true
    member_before who slot least most m = (let e : now.course.newest + (slot - now.course.newest) ≡ slot = omega (arith, least) in ap (λ ms. is_member ms who) (ap (members_at at) (sym e) ∙ members_stay (slot - now.course.newest) (omega (arith, e, most))) ∙ m)

    -- a member before it decides an open slot after it
    open_then : (who : ℕ) → is_member (members_at at now.course.newest) who ≡ true → IsOpen at after.course.newest who
    open_then who m = elim (cases_lt now.course.newest after.course.newest) [
      | inl lt ↦ member_open at who after.course.newest (after.course.newest - 1) (omega (arith, lt)) (omega (arith, lt)) (member_before who (after.course.newest - 1) (omega (arith, lt)) (omega (arith, lt)) m)
      | inr ge ↦ (let up = l.newest in member_open at who after.course.newest now.course.newest (omega (arith, up, ge)) (omega (arith, up)) m)
    ]

    -- who decides no open slot after it is sent nothing
    sent_none : (who : ℕ) → (is_member (members_at at now.course.newest) who ≡ true → ⊥) → (is_member (members_at at after.course.newest) who ≡ true → ⊥) → ((slot : ℕ) → now.course.bound ≤ slot → slot < after.course.bound → is_member (at slot) who ≡ true → ⊥) → sent who ≡ []
    sent_none who out none free =
        l.sends who ∙ (ap (λ x. x ++ l.offers who) (taught_nothing at now.course who l.executed now.course.newest (λ s least most. (away s least (up_to s most), past s least (up_to s most)))) ∙ offered_nothing at now.course who after.course now.course.bound (l.offers who) free (l.asks who))
      where
        up_to : (s : ℕ) → s < now.course.newest + l.executed → s < after.course.newest
        up_to s most = (let e = l.newest in omega (arith, e, most))

        away : (s : ℕ) → now.course.newest ≤ s → s < after.course.newest → is_member (members_at at s) who ≡ false
        away s least most = elim (cases_Bool (is_member (members_at at s) who)) [
          | inl t ↦ (let e : now.course.newest + (s - now.course.newest) ≡ s = omega (arith, least) in
              absurd (out (ap (λ ms. is_member ms who) (sym (members_stay (s - now.course.newest) (omega (arith, e, most))) ∙ ap (members_at at) e) ∙ t)))
          | inr f ↦ f
        ]

        past : (s : ℕ) → now.course.newest ≤ s → s < after.course.newest → is_member (members_at at (s + 1)) who ≡ false
        past s least most = elim (cases_lt (s + 1) after.course.newest) [
          | inl lt ↦ away (s + 1) (omega (arith, least)) lt
          | inr ge ↦ elim (cases_Bool (is_member (members_at at (s + 1)) who)) [ inl t ↦ absurd (none (subst (λ n. is_member (members_at at n) who ≡ true) (omega (arith, ge, most)) t)) | inr f ↦ f ]
        ]

    -- what is passed stays so: no promise of another falls, and the leader's own is the ballot's
    passed_then : PassedStay
    passed_then ballot (inl e) = inl (e ∙ sym l.ballot)
    passed_then ballot (inr lt) = elim (cases_eq ballot.node node) [
      | inr ne ↦ (let up = promised_up ballot.node ne in inr (omega (arith, lt, up)))
      | inl fact ↦ (let most = round_most now.course.ballot (pledged (now.promise ballot.node) (marks ballot.node)) (pledged-most now.course (now.promise ballot.node) (marks ballot.node) (was.promised ballot.node) (was.known ballot.node)) in
          let own = round_most (pledged (after.promise ballot.node) (marks_after ballot.node)) now.course.ballot (subst (λ n. IsAtLeast (pledged (after.promise n) (marks_after n)) now.course.ballot) (sym fact) own_promise) in
          inr (omega (arith, lt, most, own)))
    ]
      where
        opened : IsOpen at after.course.newest node
        opened = open_then node (ap (is_member (members_at at now.course.newest)) l.mine ∙ (was.leads l.runs).member)

        own_promise : IsAtLeast (pledged (after.promise node) (marks_after node)) now.course.ballot
        own_promise = subst (λ b. IsAtLeast b now.course.ballot) (sym ((then_.ready node opened).promised ∙ l.ballot)) (own_least now.course.ballot)
          where
            own_least : (b : Ballot) → IsAtLeast b b
            own_least b = at_least_itself b

    -- one that was sent nothing, and is not the leader
    quiet_fate : (who : ℕ) → (who ≡ node → ⊥) → sent who ≡ [] → IsFated at by after hints_after marks_after who
    quiet_fate who ne none = elim (open_or at who now.course.newest) [
      | inl o ↦ (let promise : pledged (now.promise who) (marks who) ≡ now.course.ballot = (was.ready who o).promised in
          record {
            hint_is = same_hint who ne quiet ∙ (heeded.ends l.runs who (λ fact. ne (fact ∙ sym l.mine)) o ∙ ap (λ (b : Ballot). Some b.node) (sym (same_promise who ne quiet ∙ promise)));
            passed = inl (same_promise who ne quiet ∙ (promise ∙ sym l.ballot));
          })
      | inr closed ↦ elim (k.fates who (λ o. absurd (closed o))) [
        | inl e ↦ absurd (true≢false (sym e.0 ∙ (was.leads l.runs).stands))
        | inr f ↦ fated_on who (same_hint who ne quiet) (same_promise who ne quiet) passed_then f
      ]
    ]
      where
        quiet : Silent at by (sent who)
        quiet = none_silent at by (sent who) none

    -- a group that stands after it
    stands_fate : (who : ℕ) → ((IsOpen at after.course.newest who) → ⊥) → IsFated at by after hints_after marks_after who
    stands_fate who closed = quiet_fate who not_lead (sent_none who (λ m. closed (open_then who m)) (λ m. closed (member_open at who after.course.newest after.course.newest (omega arith) (omega arith) m)) free)
      where
        not_lead : who ≡ node → ⊥
        not_lead fact = closed (subst (IsOpen at after.course.newest) (sym fact) (open_then node (ap (is_member (members_at at now.course.newest)) l.mine ∙ (was.leads l.runs).member)))

        free : (slot : ℕ) → now.course.bound ≤ slot → slot < after.course.bound → is_member (at slot) who ≡ true → ⊥
        free slot least most m = (let within = l.within in let high = l.high in closed (record { slot = slot; from = omega (arith, least, within); to = omega (arith, most, high); decides = m }))

    -- one that is gone
    gone_fate : after.course.gone ≡ true → (who : ℕ) → EndsGone after marks_after who ⊎ IsFated at by after hints_after marks_after who
    gone_fate gone who = elim (cases_eq who node) [
      | inl fact ↦ inl (subst (EndsGone after marks_after) (sym fact) (gone, at_end))
      | inr ne ↦ elim (cases_Bool (is_member (members_at at now.course.newest) who)) [
        | inl m ↦ inl (gone, taught_end ne m)
        | inr out ↦ elim (cases_Bool (is_member (members_at at after.course.newest) who)) [
          | inl m ↦ inl (gone, then_.members who m)
          | inr none ↦ inr (quiet_fate who ne (sent_none who (λ m. true≢false (sym m ∙ out)) (λ m. true≢false (sym m ∙ none)) (λ slot least most m. (let even = stop.1 in let within = l.within in absurd (omega (arith, even, within, least, most))))))
        ]
      ]
    ]
      where
        off : after.course.running ≡ false
        off = elim (cases_Bool after.course.running) [ inl t ↦ absurd (true≢false (sym gone ∙ (l.stays t).1)) | inr f ↦ f ]

        stop : (1 ≤ l.executed) × (after.course.bound ≡ after.course.newest)
        stop = l.stops off

        at_end : reached (after.next node) (marks_after node) ≡ after.course.newest
        at_end = (let most = then_.within node in let least = reached-least (after.next node) (after.promise node) (marks_after node) (then_.fits node) in let here = l.next in omega (arith, most, least, here))

        taught_end : (who ≡ node → ⊥) → is_member (members_at at now.course.newest) who ≡ true → reached (after.next who) (marks_after who) ≡ after.course.newest
        taught_end ne m =
            reach_more who ne
            ∙ (ap (reached (reached (now.next who) (marks who))) (l.sends who)
            ∙ (reached-append (reached (now.next who) (marks who)) (taught_from at now.course now.course.newest l.executed who) (l.offers who)
            ∙ (offers-reached at after.course now.course.bound who _ (l.offers who) (l.asks who) ∙ by_count l.executed refl)))
          where
            by_count : (n : ℕ) → l.executed ≡ n → reached (reached (now.next who) (marks who)) (taught_from at now.course now.course.newest n who) ≡ after.course.newest
            by_count zero e = (let one = stop.0 in absurd (omega (arith, one, e)))
            by_count (suc n) e =
                let up = l.newest in
                told_all at now.course who (λ fact. ne (fact ∙ sym l.mine)) n now.course.newest (reached (now.next who) (marks who)) (λ s least most_. member_before who s least (omega (arith, most_, up, e)) m) ∙ omega (arith, up, e)

    pub leads_fates : AreFated at by after hints_after marks_after
    leads_fates = record {
      fates = λ who prem. elim (cases_Bool after.course.gone) [
        | inl gone ↦ gone_fate gone who
        | inr stands ↦ inr (stands_fate who (λ o. true≢false (sym (prem o) ∙ stands)))
      ];
      last = λ off gone. subst (λ n. after.next n ≡ after.course.newest) (l.mine ∙ ap (λ (b : Ballot). b.node) (sym l.ballot)) l.next;
      left = λ off stands. subst (IsOpen at after.course.newest) (l.mine ∙ ap (λ (b : Ballot). b.node) (sym l.ballot)) (open_then node (ap (is_member (members_at at now.course.newest)) l.mine ∙ (was.leads l.runs).member));
    }

  -- ---- one elects itself

  module _ (e : Elects at now after node taken sent) (later : now.course.ballot.round < after.course.ballot.round) (lead_least : is_member (members_at at now.course.newest) node ≡ true) where
    -- all that decide an open slot are asked to promise
    asked_all : (who : ℕ) → IsOpen at now.course.newest who → pledged (after.promise who) (marks_after who) ≡ after.course.ballot
    asked_all who o = (then_.ready who (subst (λ n. IsOpen at n who) (sym e.newest) o)).promised

    passed_elects : (ballot : Ballot) → IsAtLeast now.course.ballot (pledged (now.promise ballot.node) (marks ballot.node)) → IsPassed now marks ballot → IsPassed after marks_after ballot
    passed_elects ballot most (inl fact) = inr (
        let own : pledged (after.promise ballot.node) (marks_after ballot.node) ≡ after.course.ballot = asked_all ballot.node (subst (λ (b : Ballot). IsOpen at now.course.newest b.node) (sym fact) (k.left e.idle e.stands)) in
        let up = ap (λ (b : Ballot). b.round) own in
        let same = ap (λ (b : Ballot). b.round) fact in
        omega (arith, up, same, later)
        )
    passed_elects ballot most (inr lt) = elim (open_or at ballot.node now.course.newest) [
      | inl o ↦ (let up = ap (λ (b : Ballot). b.round) (asked_all ballot.node o) in let low = round_most now.course.ballot (pledged (now.promise ballot.node) (marks ballot.node)) most in inr (omega (arith, lt, up, low, later)))
      | inr closed ↦ (let ne : ballot.node ≡ node → ⊥ = λ fact. closed (subst (IsOpen at now.course.newest) (sym fact) (member_open at node now.course.newest now.course.newest (omega arith) (omega arith) lead_least)) in
          let up = promised_up ballot.node ne in inr (omega (arith, lt, up)))
    ]

    pub elects_fates : AreFated at by after hints_after marks_after
    elects_fates = record {
      fates = λ who prem.
          (let closed : IsOpen at now.course.newest who → ⊥ = λ o. true≢false (sym (prem (subst (λ n. IsOpen at n who) (sym e.newest) o)) ∙ e.stays) in
          let ne : who ≡ node → ⊥ = λ fact. closed (subst (IsOpen at now.course.newest) (sym fact) (member_open at node now.course.newest now.course.newest (omega arith) (omega arith) lead_least)) in
          let quiet : Silent at by (sent who) = none_silent at by (sent who) (elim (e.sends who) [ inl none ↦ none | inr asked ↦ absurd (closed asked.0) ]) in
          elim (k.fates who (λ o. absurd (closed o))) [
            | inl ends ↦ absurd (true≢false (sym ends.0 ∙ e.stands))
            | inr f ↦ inr (fated_on who (same_hint who ne quiet) (same_promise who ne quiet)
                (λ ballot p. passed_elects ballot (pledged-most now.course (now.promise ballot.node) (marks ballot.node) (was.promised ballot.node) (was.known ballot.node)) p) f)
          ]);
      last = λ off. absurd (true≢false (sym e.runs ∙ off));
      left = λ off. absurd (true≢false (sym e.runs ∙ off));
    }
