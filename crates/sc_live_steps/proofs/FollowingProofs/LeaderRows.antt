-- A row of the one that leads keeps what stands between it and its nodes, also where it executes entries by which members come and go, and where it leaves.
use Rattle.std.proofs.Common.{◌≡◌, ℕ, ◌+◌, ◌-◌, ◌<◌, ◌≤◌, true, false, eqb, Bool, List, [], ◌∷◌, ◌++◌, length, Option, Some, None, ◌⊎◌, inl, inr, refl, sym, ◌∙◌, ap, subst, arith}
use Rattle.std.proofs.lemmas.Bool.{cases_eq, cases_lt, eq-eqb, or_left}
use Rattle.sc_base.specs.Definitions.{Among, Each, IsRoster, is_member, least_of}
use Rattle.sc_node_table.specs.Values.{Ballot}
use Rattle.sc_node_table.specs.NodeDefinitions.{listed, slots_ahead}
use Rattle.sc_words.specs.paxos.PaxosDefinitions.{IsAtLeast}
use Rattle.sc_words.proofs.PaxosProofs.PaxosLemmas.{at_least_itself, Each-append, Each-weaker}
use Rattle.sc_live_steps.specs.following.FollowingDefinitions.{Mark, Asks, Votes, Teaches, Installs, Prepares, Promises, reached, pledged, AreFit, AreAskedFirst, Progress, Sets, members_at, IsOpen, IsKnown, IsVoting, HasPromised, IsPromising, IsFollowing, IsRow, IsCount, IsElsewhere, taught_from, IsCounted, IsKept, Leads}
use Rattle.sc_live_steps.proofs.FollowingProofs.Marks.{known_later, among-left, among-right, among-either, reached-append, pledged-append, fit-append, reached-least, pledged-most, stands, count-reached, count-pledged, IsLater, IsNoVote, asked-none, asked-votes, offers-fit, offers-reached, offers-pledged, offers-each, taught-each, taught-own, taught-prepares, IsTaughtUpTo, taught-all}
use Rattle.sc_live_steps.proofs.FollowingProofs.NodeMarks.{promise-row, goes, stays, each-row, asked-row}

-- the least of some members is one
pub least_in : (members : List ℕ) → 1 ≤ length members → is_member members (least_of members) ≡ true
least_in [] some = absurd (omega (arith, some))
least_in (x ∷ members) some = or_left (eqb x x) (is_member members x) (eq-eqb x x refl)

-- what is left behind a vote or a promise comes in time
fit_left : (next : ℕ) (promise : Ballot) (taken : Option Mark) (left : List Mark) → Each IsCount (listed taken) → AreFit next promise (listed taken ++ left) → AreFit next promise left
fit_left next promise None left c f = f
fit_left next promise (Some (Votes node ballot slot)) left c f = f.1
fit_left next promise (Some (Promises node ballot)) left c f = f.1
fit_left next promise (Some (Asks ballot slot)) left c f = absurd c.0
fit_left next promise (Some (Teaches slot)) left c f = absurd c.0
fit_left next promise (Some (Installs slot)) left c f = absurd c.0
fit_left next promise (Some (Prepares ballot)) left c f = absurd c.0

-- what is asked for behind a vote is at another slot
elsewhere : (taken : Option Mark) (left : List Mark) → AreAskedFirst (listed taken ++ left) → (ballot : Ballot) (slot : ℕ) → Among (Asks ballot slot) left → Each (λ mark. IsElsewhere mark slot) (listed taken)
elsewhere None left o ballot slot a = tt
elsewhere (Some (Votes node other at)) left o ballot slot a = (asked-votes node other at left o ballot slot a, tt)
elsewhere (Some (Promises node other)) left o ballot slot a = (tt, tt)
elsewhere (Some (Asks other at)) left o ballot slot a = (tt, tt)
elsewhere (Some (Teaches at)) left o ballot slot a = (tt, tt)
elsewhere (Some (Installs at)) left o ballot slot a = (tt, tt)
elsewhere (Some (Prepares other)) left o ballot slot a = (tt, tt)

-- a vote or a promise is taken
counted_is : (taken : Option Mark) (mark : Mark) → Each IsCount (listed taken) → taken ≡ Some mark → IsCount mark
counted_is taken mark c e = (subst (λ o. Each IsCount (listed o)) e c).0

pub both_no : {b : Bool} → b ≡ true → b ≡ false → ⊥
both_no t f = cc

module _ (at : Sets) (now after : Progress) (node : ℕ) (taken : Option Mark) (sent marks marks_after : ℕ → List Mark) (rosters : (slot : ℕ) → IsRoster (at slot))
    (row : IsRow now after node taken sent marks marks_after) (l : Leads at now after node taken sent) (was : IsFollowing at now marks) where
  abbrev lead : ℕ
  lead = now.course.ballot.node

  abbrev newest : ℕ
  newest = now.course.newest

  abbrev newest_after : ℕ
  newest_after = after.course.newest

  abbrev taught : ℕ → List Mark
  taught who = taught_from at now.course newest l.executed who

  apart : (who : ℕ) → (who ≡ node → ⊥) → who ≡ lead → ⊥
  apart who ne fact = ne (fact ∙ sym l.mine)

  led : now.next node ≡ newest
  led = ap now.next l.mine ∙ (was.leads l.runs).executed

  lead_open : IsOpen at newest node
  lead_open = record { slot = newest + 3; from = omega arith; to = omega arith; decides = subst (λ n. is_member (members_at at newest) n ≡ true) (sym l.mine) (was.leads l.runs).member }

  -- ---- where each is after the row

  record IsAfter (who : ℕ) : Type 0 where
    fit : AreFit (after.next who) (after.promise who) (marks_after who)
    within : reached (after.next who) (marks_after who) ≤ newest_after
    member : is_member (members_at at newest_after) who ≡ true → reached (after.next who) (marks_after who) ≡ newest_after
    opens : IsOpen at newest_after who → (1 ≤ reached (after.next who) (marks_after who)) × (pledged (after.promise who) (marks_after who) ≡ now.course.ballot)
    first : now.course.is_first ≡ true → pledged (after.promise who) (marks_after who) ≡ now.course.ballot

  kept_asks : (ballot : Ballot) (slot : ℕ) → Among (Asks ballot slot) row.left → IsKept now.course after.course slot []
  kept_asks ballot slot a =
      let among : Among (Asks ballot slot) (marks lead) = subst (λ n. Among (Asks ballot slot) (marks n)) l.mine (subst (Among (Asks ballot slot)) (sym row.takes) (among-right (Asks ballot slot) (listed taken) row.left a)) in
      l.kept slot [] (was.undone l.runs ballot slot among) (elsewhere taken row.left (subst AreAskedFirst row.takes (was.asked node)) ballot slot a)

  own : AreFit newest_after (now.promise node) row.left × (reached newest_after row.left ≡ newest_after)
  own =
      let fit = fit_left (now.next node) (now.promise node) taken row.left l.takes (subst (AreFit (now.next node) (now.promise node)) row.takes (was.fits node)) in
      let same : reached (now.next node) (marks node) ≡ reached (now.next node) row.left =
      (ap (reached (now.next node)) row.takes ∙ (reached-append (now.next node) (listed taken) row.left ∙ ap (λ n. reached n row.left) (count-reached (now.next node) (listed taken) l.takes))) in
      let most = was.within node in
      let fact = led in
      let up = l.newest in
      stands (now.next node) (now.promise node) row.left fit (omega (arith, same, most, fact)) newest_after (omega (arith, fact, up)) (λ ballot slot a. (kept_asks ballot slot a).from)

  own_pledged : pledged (now.promise node) row.left ≡ now.course.ballot
  own_pledged =
      ap (λ p. pledged p row.left) (sym (count-pledged (now.promise node) (listed taken) l.takes))
      ∙ (sym (pledged-append (now.promise node) (listed taken) row.left) ∙ (ap (pledged (now.promise node)) (sym row.takes) ∙ (was.ready node lead_open).promised))

  own_sent : sent node ≡ l.offers node
  own_sent = l.sends node ∙ ap (λ t. t ++ l.offers node) (taught-own at now.course node l.mine l.executed newest)

  own_reached : reached (after.next node) (marks_after node) ≡ newest_after
  own_reached =
      ap (reached (after.next node)) row.own
      ∙ (reached-append (after.next node) row.left (sent node)
      ∙ (ap (λ n. reached (reached n row.left) (sent node)) l.next
      ∙ (ap (λ n. reached n (sent node)) own.1 ∙ (ap (reached newest_after) own_sent ∙ offers-reached at after.course now.course.bound node newest_after (l.offers node) (l.asks node)))))

  own_pledged_after : pledged (after.promise node) (marks_after node) ≡ now.course.ballot
  own_pledged_after =
      ap (pledged (after.promise node)) row.own
      ∙ (pledged-append (after.promise node) row.left (sent node)
      ∙ (ap (λ p. pledged (pledged p row.left) (sent node)) l.promise
      ∙ (ap (λ p. pledged p (sent node)) own_pledged ∙ (ap (pledged now.course.ballot) own_sent ∙ offers-pledged at after.course now.course.bound node now.course.ballot (l.offers node) (l.asks node)))))

  own_fit : AreFit (after.next node) (after.promise node) (marks_after node)
  own_fit =
      let some = was.some in
      let up = l.newest in
      let within = l.within in
      let offers : AreFit newest_after now.course.ballot (l.offers node) =
      offers-fit at after.course now.course.bound node newest_after now.course.ballot (l.offers node) (l.asks node) within (λ slot f lt d. (omega (arith, some, up), sym l.ballot)) in
      let behind : AreFit (reached newest_after row.left) (pledged (now.promise node) row.left) (sent node) =
      subst (λ n. AreFit n (pledged (now.promise node) row.left) (sent node)) (sym own.1)
      (subst (λ p. AreFit newest_after p (sent node)) (sym own_pledged) (subst (AreFit newest_after now.course.ballot) (sym own_sent) offers)) in
      subst (λ n. AreFit n (after.promise node) (marks_after node)) (sym l.next)
      (subst (λ p. AreFit newest_after p (marks_after node)) (sym l.promise)
      (subst (AreFit newest_after (now.promise node)) (sym row.own) (fit-append newest_after (now.promise node) row.left (sent node) own.0 behind)))

  own_after : IsAfter node
  own_after =
      let some = was.some in
      let up = l.newest in
      let fact = own_reached in
      record {
        fit = own_fit;
        within = omega (arith, fact);
        member = λ _. own_reached;
        opens = λ _. (omega (arith, fact, some, up), own_pledged_after);
        first = λ _. own_pledged_after;
      }

  module _ (who : ℕ) (ne : who ≡ node → ⊥) where
    abbrev next_then : ℕ
    next_then = reached (now.next who) (marks who)

    abbrev promise_then : Ballot
    promise_then = pledged (now.promise who) (marks who)

    before : IsTaughtUpTo at now.course who newest newest next_then promise_then
    before = record {
      low = was.within who;
      member = was.members who;
      most = pledged-most now.course (now.promise who) (marks who) (was.promised who) (was.known who);
      first = λ f. was.first f who;
      opens = λ slot f lt d. (let r = was.ready who (record { slot = slot; from = f; to = lt; decides = d }) in (r.replica, r.promised));
    }

    told_there : AreFit next_then promise_then (taught who) × IsTaughtUpTo at now.course who newest (newest + l.executed) (reached next_then (taught who)) (pledged promise_then (taught who))
    told_there = taught-all at now.course who (apart who ne) newest l.executed newest next_then promise_then (omega arith) was.some before

    other_reached : reached (after.next who) (marks_after who) ≡ reached next_then (taught who)
    other_reached =
        ap (reached (after.next who)) (row.others who ne)
        ∙ (reached-append (after.next who) (marks who) (sent who)
        ∙ (ap (λ n. reached (reached n (marks who)) (sent who)) (row.next who ne)
        ∙ (ap (reached next_then) (l.sends who) ∙ (reached-append next_then (taught who) (l.offers who) ∙ offers-reached at after.course now.course.bound who (reached next_then (taught who)) (l.offers who) (l.asks who)))))

    other_pledged : pledged (after.promise who) (marks_after who) ≡ pledged promise_then (taught who)
    other_pledged =
        ap (pledged (after.promise who)) (row.others who ne)
        ∙ (pledged-append (after.promise who) (marks who) (sent who)
        ∙ (ap (λ p. pledged (pledged p (marks who)) (sent who)) (row.promise who ne)
        ∙ (ap (pledged promise_then) (l.sends who) ∙ (pledged-append promise_then (taught who) (l.offers who) ∙ offers-pledged at after.course now.course.bound who (pledged promise_then (taught who)) (l.offers who) (l.asks who)))))

    other_opens : (slot : ℕ) → newest ≤ slot → slot < newest_after + slots_ahead → is_member (at slot) who ≡ true → (1 ≤ reached next_then (taught who)) × (pledged promise_then (taught who) ≡ now.course.ballot)
    other_opens slot f lt d = (let up = l.newest in told_there.1.opens slot f (omega (arith, lt, up)) d)

    other_fit : AreFit (after.next who) (after.promise who) (marks_after who)
    other_fit =
        let up = l.newest in
        let low = told_there.1.low in
        let within = l.within in
        let starts = was.low in
        let high = l.high in
        let offers : AreFit (reached next_then (taught who)) (pledged promise_then (taught who)) (l.offers who) =
        offers-fit at after.course now.course.bound who (reached next_then (taught who)) (pledged promise_then (taught who)) (l.offers who) (l.asks who) (omega (arith, up, low, within))
        (λ slot f lt d. (let o = other_opens slot (omega (arith, f, starts)) (omega (arith, lt, high)) d in (o.0, o.1 ∙ sym l.ballot))) in
        let behind : AreFit next_then promise_then (sent who) = subst (AreFit next_then promise_then) (sym (l.sends who)) (fit-append next_then promise_then (taught who) (l.offers who) told_there.0 offers) in
        subst (λ n. AreFit n (after.promise who) (marks_after who)) (sym (row.next who ne))
        (subst (λ p. AreFit (now.next who) p (marks_after who)) (sym (row.promise who ne))
        (subst (AreFit (now.next who) (now.promise who)) (sym (row.others who ne)) (fit-append (now.next who) (now.promise who) (marks who) (sent who) (was.fits who) behind)))

    other_after : IsAfter who
    other_after =
        let up = l.newest in
        let fact = other_reached in
        let low = told_there.1.low in
        record {
          fit = other_fit;
          within = omega (arith, up, fact, low);
          member = λ m. other_reached ∙ (told_there.1.member (subst (λ n. is_member (members_at at n) who ≡ true) up m) ∙ sym up);
          opens = λ o. (let r = other_opens o.slot (let f = o.from in omega (arith, f, up)) o.to o.decides in let some = r.0 in (omega (arith, some, fact), other_pledged ∙ r.1));
          first = λ f. other_pledged ∙ told_there.1.first f;
        }

  after_is : (who : ℕ) → IsAfter who
  after_is who = elim (cases_eq who node) [ inl fact ↦ subst IsAfter (sym fact) own_after | inr ne ↦ other_after who ne ]

  -- ---- what is sent

  sent_each : (P : Mark → Type 0) → ((slot : ℕ) → P (Teaches slot)) → ((slot : ℕ) → P (Installs slot)) → P (Prepares now.course.ballot)
      → ((ballot : Ballot) (slot : ℕ) → now.course.bound ≤ slot → slot < after.course.bound → P (Asks ballot slot)) → (who : ℕ) → Each P (sent who)
  sent_each P tells installs prepares asks who =
      subst (Each P) (sym (l.sends who))
      (Each-append P (taught who) (l.offers who) (taught-each at now.course who P tells installs prepares l.executed newest) (offers-each P at after.course now.course.bound who asks (l.offers who) (l.asks who)))

  taken_no : (mark : Mark) → (IsCount mark → ⊥) → taken ≡ Some mark → ⊥
  taken_no mark no_ e = no_ (counted_is taken mark l.takes e)

  -- ---- votes and promises

  voting : (slot : ℕ) (voters : List ℕ) (who : ℕ) → is_member (at slot) who ≡ true → (c : IsCounted at now.course taken slot voters) → IsVoting now.course.ballot who slot c.before (marks who) (marks lead)
      → IsVoting now.course.ballot who slot voters (marks_after who) (marks_after lead)
  voting slot voters who fact c (inl v) = inl (c.keeps who v)
  voting slot voters who fact c (inr (inl a)) = elim (stays now after node taken sent marks marks_after row who (Asks now.course.ballot slot) a) [
    | inl both ↦ absurd (taken_no (Asks now.course.ballot slot) (λ n. n) both.1)
    | inr b ↦ inr (inl b)
  ]
  voting slot voters who fact c (inr (inr a)) = elim (stays now after node taken sent marks marks_after row lead (Votes who now.course.ballot slot) a) [
    | inl both ↦ inl (c.counts who both.1 fact)
    | inr b ↦ inr (inr b)
  ]

  voting_after : (slot : ℕ) (voters : List ℕ) → after.course.voters slot ≡ Some voters → (who : ℕ) → is_member (at slot) who ≡ true → IsVoting now.course.ballot who slot voters (marks_after who) (marks_after lead)
  voting_after slot voters e who fact = elim (l.grown slot voters e) [
    | inl o ↦ inr (inl (goes now after node taken sent marks marks_after row who (Asks now.course.ballot slot) (o.asks who fact)))
    | inr c ↦ voting slot voters who fact c (was.votes slot c.before c.flew who fact)
  ]

  abbrev HasPromisedAfter : ℕ → Ballot → Type 0
  HasPromisedAfter who ballot = (after.course.counted who ≡ true) ⊎ Among (Promises who ballot) (marks_after ballot.node)

  promised_after : after.course.running ≡ true → (who : ℕ) → HasPromised now.course who (marks lead) → HasPromisedAfter who now.course.ballot
  promised_after r who (inl c) = inl (l.counted r who c)
  promised_after r who (inr a) = elim (stays now after node taken sent marks marks_after row lead (Promises who now.course.ballot) a) [
    | inl both ↦ inl (l.counts r who both.1)
    | inr b ↦ inr b
  ]

  promising : after.course.running ≡ true → (who : ℕ) → IsPromising now.course who (marks who) (marks lead) → Among (Prepares now.course.ballot) (marks_after who) ⊎ HasPromisedAfter who now.course.ballot
  promising r who (inl a) = elim (stays now after node taken sent marks marks_after row who (Prepares now.course.ballot) a) [
    | inl both ↦ absurd (taken_no (Prepares now.course.ballot) (λ n. n) both.1)
    | inr b ↦ inl b
  ]
  promising r who (inr h) = inr (promised_after r who h)

  -- one that decides an open slot did so before, or came by an entry, and is asked
  open_before : now.course.is_first ≡ false → (who : ℕ) → IsOpen at newest_after who → IsOpen at newest who ⊎ Among (Prepares now.course.ballot) (sent who)
  open_before later who o = elim (cases_eq who node) [
    | inl fact ↦ inl (subst (IsOpen at newest) (sym fact) lead_open)
    | inr ne ↦ elim (cases_lt o.slot (newest + slots_ahead)) [
      | inl lt ↦ inl (record { slot = o.slot; from = (let f = o.from in let up = l.newest in omega (arith, f, up)); to = lt; decides = o.decides })
      | inr ge ↦ (let to = o.to in
          let up = l.newest in
          let same : o.slot ≡ newest + (o.slot - (newest + 3)) + 3 = omega (arith, ge) in
          let prepared = taught-prepares at now.course who (apart who ne) later l.executed newest (o.slot - (newest + 3)) (omega (arith, to, up, ge)) (subst (λ s. is_member (at s) who ≡ true) same o.decides) in
          elim prepared [
            | inl m ↦ inl (record { slot = newest + 3; from = omega arith; to = omega arith; decides = m })
            | inr a ↦ inr (subst (Among (Prepares now.course.ballot)) (sym (l.sends who)) (among-left (Prepares now.course.ballot) (taught who) (l.offers who) a))
          ])
    ]
  ]

  promising_after : after.course.running ≡ true → now.course.is_first ≡ false → (who : ℕ) → IsOpen at newest_after who → Among (Prepares now.course.ballot) (marks_after who) ⊎ HasPromisedAfter who now.course.ballot
  promising_after r later who o = elim (open_before later who o) [
    | inl old ↦ promising r who (was.promises l.runs later who old)
    | inr new ↦ inl (goes now after node taken sent marks marks_after row who (Prepares now.course.ballot) new)
  ]

  undone_after : after.course.running ≡ true → (ballot : Ballot) (slot : ℕ) → Among (Asks ballot slot) (marks_after node) → after.course.voters slot ≡ Some []
  undone_after r ballot slot a = elim (among-either (Asks ballot slot) row.left (sent node) (subst (Among (Asks ballot slot)) row.own a)) [
    | inl b ↦ (kept_asks ballot slot b).same r
    | inr b ↦ l.unvoted r ballot slot (subst (Among (Asks ballot slot)) own_sent b)
  ]

  same_lead : after.course.ballot.node ≡ node
  same_lead = ap (λ (b : Ballot). b.node) l.ballot ∙ sym l.mine

  pub leads-keeps : IsFollowing at after marks_after
  leads-keeps = record {
    fits = λ who. (after_is who).fit;
    within = λ who. (after_is who).within;
    members = λ who. (after_is who).member;
    ready = λ who o. (let opens = (after_is who).opens o in record { replica = opens.0; promised = opens.1 ∙ sym l.ballot });
    some = (let some = was.some in let up = l.newest in omega (arith, some, up));
    low = (let within = l.within in let up = l.bound in omega (arith, within, up));
    high = l.high;
    known = λ who. each-row now after node taken sent marks marks_after row (IsKnown after.course) who (Each-weaker (IsKnown now.course) (IsKnown after.course) (known_later now.course after.course (λ slot low. (let up = l.bound in omega (arith, low, up))) (λ b. subst (λ x. IsAtLeast x b) (sym l.ballot))) (marks who) (was.known who))
        (sent_each (IsKnown after.course) (λ _. tt) (λ _. tt) (subst (λ b. IsAtLeast b now.course.ballot) (sym l.ballot) (at_least_itself now.course.ballot)) (λ ballot slot f lt. lt) who);
    promised = λ who. subst (λ b. IsAtLeast b (after.promise who)) (sym l.ballot) (subst (IsAtLeast now.course.ballot) (sym (promise-row now after node taken sent marks marks_after row l.promise who)) (was.promised who));
    first = λ f who. (after_is who).first (sym l.first ∙ f) ∙ sym l.ballot;
    asked = λ who. asked-row now after node taken sent marks marks_after row who (was.asked who) (was.known who) (sent_each (IsLater now.course.bound) (λ _. tt) (λ _. tt) tt (λ ballot slot f lt. f) who)
        (asked-none (sent who) (sent_each IsNoVote (λ _. tt) (λ _. tt) tt (λ _ _ _ _. tt) who));
    undone = λ r ballot slot a. undone_after r ballot slot (subst (λ n. Among (Asks ballot slot) (marks_after n)) same_lead a);
    flying = l.flying;
    votes = λ slot voters e who fact. subst (λ (b : Ballot). IsVoting b who slot voters (marks_after who) (marks_after b.node)) (sym l.ballot) (voting_after slot voters e who fact);
    promises = λ r later who o. subst (λ (b : Ballot). Among (Prepares b) (marks_after who) ⊎ HasPromisedAfter who b) (sym l.ballot) (promising_after r (sym l.first ∙ later) who o);
    pledges = λ r later who e. subst (HasPromisedAfter who) (sym l.ballot) (promised_after r who (was.pledges l.runs (sym l.first ∙ later) who (sym (promise-row now after node taken sent marks marks_after row l.promise who) ∙ (e ∙ l.ballot))));
    leads = λ r. (let stay = l.stays r in
        record { executed = ap after.next same_lead ∙ l.next; member = subst (λ n. is_member (members_at at newest_after) n ≡ true) (sym same_lead) stay.0; stands = stay.1 });
    offered = λ r. (l.stops r).1;
    self_election = λ r g. (let heir = least_of (members_at at newest_after) in
        let member = least_in (members_at at newest_after) (rosters (newest_after + 3)).some in
        elim (cases_eq heir node) [
          | inl fact ↦ absurd (both_no (subst (λ n. is_member (members_at at newest_after) n ≡ true) fact member) (l.leaves r g))
          | inr ne ↦ (let same = row.next heir ne in
              let rises = reached-least (now.next heir) (now.promise heir) (marks heir) (was.fits heir) in
              let within = was.within heir in
              let some = (l.stops r).0 in
              let up = l.newest in
              omega (arith, same, rises, within, some, up))
        ]);
  }
