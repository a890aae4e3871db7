-- Each kind of row keeps it that members learn all entries, and nobody else learns one.
use Rattle.std.proofs.Common.{◌≡◌, ℕ, zero, suc, ◌+◌, ◌-◌, ◌<◌, ◌≤◌, Bool, true, false, cond, List, [], ◌∷◌, ◌++◌, Option, inl, inr, refl, sym, ◌∙◌, ap, subst, arith}
use Rattle.std.proofs.lemmas.Bool.{cases_eq, cases_lt, cond_both, cond-true}
use Rattle.sc_base.specs.Definitions.{Among, Each, IsRoster, is_member}
use Rattle.sc_node_table.specs.Values.{Ballot}
use Rattle.sc_node_table.specs.NodeDefinitions.{listed}
use Rattle.sc_words.proofs.PaxosProofs.PaxosLemmas.{Each-append, Each-weaker}
use Rattle.sc_live_steps.specs.following.FollowingDefinitions.{Mark, Votes, Teaches, Installs, Prepares, Promises, next_by, promise_by, reached, pledged, AreFit, Course, Progress, Sets, members_at, IsFollowing, SlotLeaders, LeavesLast, IsRow, IsIdle, IsCount, Takes, reported_of, taught_from, Leads, Elects, begun, IsForMember, IsMemberBy, AreTaught, TaughtIsKept, QuietMembersKnow}
use Rattle.sc_live_steps.proofs.FollowingProofs.ElectionRows.{elects-each, self_election-keeps}
use Rattle.sc_live_steps.proofs.FollowingProofs.NodeMarks.{idle_next, idle_reached, counts_of, each-row, reached_left}
use Rattle.sc_live_steps.proofs.FollowingProofs.LeaderRows.{leads-keeps}
use Rattle.sc_live_steps.proofs.FollowingProofs.Marks.{among-left, among-right, offers-each, reached-append, reached-least, taught-cases, taught-own}

-- ---- lists

-- what comes behind fits from where what is before it leads
pub fit_behind : (next : ℕ) (promise : Ballot) (xs ys : List Mark) → AreFit next promise (xs ++ ys) → AreFit (reached next xs) (pledged promise xs) ys
fit_behind next promise [] ys f = f
fit_behind next promise (mark ∷ xs) ys f = fit_behind (next_by next mark) (promise_by promise mark) xs ys f.1

-- so it leads no less far with more behind it
more_reached : (next : ℕ) (promise : Ballot) (xs ys : List Mark) → AreFit next promise (xs ++ ys) → reached next xs ≤ reached next (xs ++ ys)
more_reached next promise xs ys f = subst (λ n. reached next xs ≤ n) (sym (reached-append next xs ys)) (reached-least (reached next xs) (pledged promise xs) ys (fit_behind next promise xs ys f))

-- an entry that is taken to be learnt is learnt
taught_reached : (next : ℕ) (promise : Ballot) (marks : List Mark) (slot : ℕ) → AreFit next promise marks → Among (Teaches slot) marks → slot < reached next marks
taught_reached next promise [] slot f a = absurd a
taught_reached next promise (mark ∷ marks) slot f (inl fact) =
    let least = reached-least (next_by next mark) (promise_by promise mark) marks f.1 in
    let step : next_by next mark ≡ suc slot = ap (next_by next) fact in
    omega (arith, least, step)
taught_reached next promise (mark ∷ marks) slot f (inr a) = taught_reached (next_by next mark) (promise_by promise mark) marks slot f.1 a

count_member : (at : Sets) (node : ℕ) (mark : Mark) → IsCount mark → IsForMember at node mark
count_member at node (Votes other ballot slot) c = tt
count_member at node (Promises other ballot) c = tt
count_member at node _ c = absurd c

module _ (at : Sets) (course : Course) (who : ℕ) (apart : who ≡ course.ballot.node → ⊥) where
  -- each member of a state is sent the entry after it
  taught_among : (more slot j : ℕ) → j < more → is_member (members_at at (slot + j)) who ≡ true → Among (Teaches (slot + j)) (taught_from at course slot more who)
  taught_among zero slot j low fact = absurd (omega (arith, low))
  taught_among (suc more) slot zero low fact =
      let e : slot + zero ≡ slot = omega arith in
      subst (λ s. Among (Teaches s) (reported_of at course slot who ++ taught_from at course (slot + 1) more who)) (sym e)
      (among-left (Teaches slot) (reported_of at course slot who) (taught_from at course (slot + 1) more who)
      (taught-cases at course who apart (Among (Teaches slot)) slot (λ _. inl refl) (λ out come. absurd (both_no (subst (λ s. is_member (members_at at s) who ≡ true) e fact) out)) (λ out stays. absurd (both_no (subst (λ s. is_member (members_at at s) who ≡ true) e fact) out))))
    where
      both_no : {b : Bool} → b ≡ true → b ≡ false → ⊥
      both_no t f = cc
  taught_among (suc more) slot (suc j) low fact =
      let e : slot + suc j ≡ slot + 1 + j = omega arith in
      among-right (Teaches (slot + suc j)) (reported_of at course slot who) (taught_from at course (slot + 1) more who)
      (subst (λ s. Among (Teaches s) (taught_from at course (slot + 1) more who)) (sym e) (taught_among more (slot + 1) j (omega (arith, low)) (subst (λ s. is_member (members_at at s) who ≡ true) e fact)))

  -- nobody else is sent one
  one_member : (slot : ℕ) → Each (IsForMember at who) (reported_of at course slot who)
  one_member slot =
      let e : slot + 1 ≡ suc slot = omega arith in
      taught-cases at course who apart (Each (IsForMember at who)) slot (λ fact. (fact, tt))
      (λ out come. (subst (λ s. is_member (members_at at s) who ≡ true) e come, cond_both course.is_first [] (Prepares course.ballot ∷ []) (Each (IsForMember at who)) (λ _. tt) (λ _. (tt, tt))))
      (λ out stays. tt)

  taught_members : (more slot : ℕ) → Each (IsForMember at who) (taught_from at course slot more who)
  taught_members zero slot = tt
  taught_members (suc more) slot = Each-append (IsForMember at who) (reported_of at course slot who) (taught_from at course (slot + 1) more who) (one_member slot) (taught_members more (slot + 1))

-- ---- a group begins

begin_taught : (at : Sets) (ballot : Ballot) → at 3 ≡ at 4 → AreTaught at (begun (members_at at 1) ballot) (λ node. [])
begin_taught at ballot same = record {
  taught = λ node slot low fact. (let first : is_member (members_at at 1) node ≡ true = subst (λ s. is_member s node ≡ true) same (subst (λ n. is_member (members_at at n) node ≡ true) (zero_is slot low) fact) in
      subst (λ n. slot < n) (sym (cond-true (is_member (members_at at 1) node) 1 0 first)) low);
  told = λ node. tt;
  learnt = λ node slot fact. inr (at_next node slot (is_member (members_at at 1) node) refl fact);
}
  where
    zero_is : (slot : ℕ) → slot < 1 → slot ≡ 0
    zero_is slot low = omega (arith, low)

    at_next : (node slot : ℕ) (b : Bool) → is_member (members_at at 1) node ≡ b → cond b 1 0 ≡ suc slot → is_member (members_at at (suc slot)) node ≡ true
    at_next node slot true fact next = (let e : 1 ≡ suc slot = next in subst (λ n. is_member (members_at at n) node ≡ true) e fact)
    at_next node slot false fact next = (let e : 0 ≡ suc slot = next in absurd (omega (arith, e)))

-- ---- rows

module _ (at : Sets) (by : SlotLeaders) (now after : Progress) (node : ℕ) (taken : Option Mark) (sent marks marks_after : ℕ → List Mark) (rosters : (slot : ℕ) → IsRoster (at slot)) (row : IsRow now after node taken sent marks marks_after)
    (was : IsFollowing at now marks) (o : AreTaught at now marks) where
  abbrev lead : ℕ
  lead = now.course.ballot.node

  row_of_entry : ((who : ℕ) → Each (IsForMember at who) (sent who)) → (who : ℕ) → Each (IsForMember at who) (marks_after who)
  row_of_entry new who = each-row now after node taken sent marks marks_after row (IsForMember at who) who (o.told who) (new who)

  -- another node is taken no less far
  others_reached : IsFollowing at after marks_after → (who : ℕ) → (who ≡ node → ⊥) → reached (now.next who) (marks who) ≤ reached (after.next who) (marks_after who)
  others_reached fact who ne =
      let fits = subst (λ n. AreFit n (after.promise who) (marks who ++ sent who)) (row.next who ne) (subst (AreFit (after.next who) (after.promise who)) (row.others who ne) (fact.fits who)) in
      subst (λ n. reached (now.next who) (marks who) ≤ reached n (marks_after who)) (sym (row.next who ne))
      (subst (λ l. reached (now.next who) (marks who) ≤ reached (now.next who) l) (sym (row.others who ne)) (more_reached (now.next who) (after.promise who) (marks who) (sent who) fits))

  -- what the row's node has executed last it has as a member
  abbrev OwnLearns : Type 0
  OwnLearns = (slot : ℕ) → after.next node ≡ suc slot → IsMemberBy at node slot

  all_learnt : OwnLearns → (who slot : ℕ) → after.next who ≡ suc slot → IsMemberBy at who slot
  all_learnt own who slot fact = elim (cases_eq who node) [ inl e ↦ subst (λ n. IsMemberBy at n slot) (sym e) (own slot (subst (λ n. after.next n ≡ suc slot) e fact)) | inr ne ↦ o.learnt who slot (sym (row.next who ne) ∙ fact) ]

  idle_taught : IsIdle now after node taken sent → AreTaught at after marks_after
  idle_taught i = record {
    taught = λ who slot low fact. subst (λ n. slot < n) (sym (idle_reached now after node taken sent marks marks_after row i who)) (o.taught who slot (subst (λ (c : Course). slot < c.newest) i.course low) fact);
    told = row_of_entry (λ who. subst (Each (IsForMember at who)) (sym (i.sends who)) tt);
    learnt = λ who slot fact. o.learnt who slot (sym (idle_next now after node taken sent marks marks_after row i who) ∙ fact);
  }

  module _ (t : Takes at now after node taken sent) where
    here : marks node ≡ t.mark ∷ row.left
    here = row.takes ∙ ap (λ x. listed x ++ row.left) t.takes

    by_mark : (mark : Mark) (next slot : ℕ) → IsForMember at node mark → (next ≡ suc slot → IsMemberBy at node slot) → next_by next mark ≡ suc slot → IsMemberBy at node slot
    by_mark (Teaches told) next slot m old e = (let fact : told ≡ slot = omega (arith, e) in inl (subst (λ s. is_member (members_at at s) node ≡ true) fact m))
    by_mark (Installs told) next slot m old e = (let fact : suc told ≡ suc slot = e in inr (subst (λ s. is_member (members_at at s) node ≡ true) fact m))
    by_mark _ next slot m old e = old e

    takes_taught : AreTaught at after marks_after
    takes_taught = record {
      taught = λ who slot low fact. subst (λ n. slot < n) (sym (reached_left at now after node taken sent marks marks_after row t was who)) (o.taught who slot (subst (λ (c : Course). slot < c.newest) t.course low) fact);
      told = row_of_entry (λ who. Each-weaker IsCount (IsForMember at who) (count_member at who) (sent who) (subst (Each IsCount) (sym (t.sends who)) (counts_of node (now.promise node) t.mark who)));
      learnt = all_learnt (λ slot fact. by_mark t.mark (now.next node) slot (subst (Each (IsForMember at node)) here (o.told node)).0 (o.learnt node slot) (sym t.next ∙ fact));
    }

  module _ (l : Leads at now after node taken sent) (m : LeavesLast at by now after) where
    then : IsFollowing at after marks_after
    then = leads-keeps at now after node taken sent marks marks_after rosters row l was

    sent_members : (who : ℕ) → Each (IsForMember at who) (sent who)
    sent_members who =
        subst (Each (IsForMember at who)) (sym (l.sends who))
        (Each-append (IsForMember at who) (taught_from at now.course now.course.newest l.executed who) (l.offers who) told
        (offers-each (IsForMember at who) at after.course now.course.bound who (λ ballot s least most. tt) (l.offers who) (l.asks who)))
      where
        told : Each (IsForMember at who) (taught_from at now.course now.course.newest l.executed who)
        told = elim (cases_eq who lead) [
          | inl fact ↦ subst (Each (IsForMember at who)) (sym (taught-own at now.course who fact l.executed now.course.newest)) tt
          | inr ne ↦ taught_members at now.course who ne l.executed now.course.newest
        ]

    own_reached : (slot : ℕ) → slot < after.course.newest → slot < reached (after.next node) (marks_after node)
    own_reached slot low = (let least = reached-least (after.next node) (after.promise node) (marks_after node) (then.fits node) in let next = l.next in omega (arith, least, next, low))

    new_reached : (who : ℕ) → (who ≡ node → ⊥) → (slot : ℕ) → now.course.newest ≤ slot → slot < after.course.newest → is_member (members_at at slot) who ≡ true → slot < reached (after.next who) (marks_after who)
    new_reached who ne slot from low fact =
        let j = slot - now.course.newest in
        let e : now.course.newest + j ≡ slot = omega (arith, from) in
        let up = l.newest in
        let among = taught_among at now.course who (λ h. ne (h ∙ sym l.mine)) l.executed now.course.newest j (omega (arith, low, up, from)) (subst (λ s. is_member (members_at at s) who ≡ true) (sym e) fact) in
        taught_reached (after.next who) (after.promise who) (marks_after who) slot (then.fits who)
        (subst (Among (Teaches slot)) (sym (row.others who ne)) (among-right (Teaches slot) (marks who) (sent who) (subst (Among (Teaches slot)) (sym (l.sends who))
        (among-left (Teaches slot) (taught_from at now.course now.course.newest l.executed who) (l.offers who) (subst (λ s. Among (Teaches s) (taught_from at now.course now.course.newest l.executed who)) e among)))))

    own_learnt : OwnLearns
    own_learnt slot fact = elim (cases_lt now.course.newest (suc slot)) [
      | inl more ↦ elim (cases_lt now.course.newest slot) [
        | inl later ↦ (let last = l.next in
            let k = slot - 1 in
            let e : k + 1 ≡ slot = omega (arith, later) in
            inl (subst (λ s. is_member (members_at at s) node ≡ true) e
            (subst (λ n. is_member (members_at at (k + 1)) n ≡ true) (sym l.mine) (m.stayed k (omega (arith, later)) (omega (arith, later, last, fact))))))
        | inr le ↦ (let e : now.course.newest ≡ slot = omega (arith, more, le) in inl (subst (λ s. is_member (members_at at s) node ≡ true) e member))
      ]
      | inr none ↦ (let up = l.newest in let last = l.next in let e : now.course.newest ≡ suc slot = omega (arith, none, up, last, fact) in inr (subst (λ s. is_member (members_at at s) node ≡ true) e member))
    ]
      where
        member : is_member (members_at at now.course.newest) node ≡ true
        member = subst (λ n. is_member (members_at at now.course.newest) n ≡ true) (sym l.mine) (was.leads l.runs).member

    leads_taught : AreTaught at after marks_after
    leads_taught = record {
      taught = λ who slot low fact. elim (cases_eq who node) [
        | inl e ↦ subst (λ n. slot < reached (after.next n) (marks_after n)) (sym e) (own_reached slot low)
        | inr ne ↦ elim (cases_lt slot now.course.newest) [
          | inl old ↦ (let a = o.taught who slot old fact in let b = others_reached then who ne in omega (arith, a, b))
          | inr from ↦ new_reached who ne slot from low fact
        ]
      ];
      told = row_of_entry sent_members;
      learnt = all_learnt own_learnt;
    }

  module _ (e : Elects at now after node taken sent) where
    then_elected : IsFollowing at after marks_after
    then_elected = self_election-keeps at now after node taken sent marks marks_after rosters row e was

    here_elected : marks node ≡ e.mark ∷ row.left
    here_elected = row.takes ∙ ap (λ x. listed x ++ row.left) e.takes

    -- it has learnt the last entry
    last_learnt : OwnLearns
    last_learnt slot fact =
        let last = e.last in
        let told = (subst (Each (IsForMember at node)) here_elected (o.told node)).0 in
        let same : last.0 ≡ slot = (let a = last.1 in let b = e.next in omega (arith, a, b, fact)) in
        elim last.2 [
          | inl t ↦ inl (subst (λ s. is_member (members_at at s) node ≡ true) same (subst (IsForMember at node) t told))
          | inr i ↦ inr (subst (λ s. is_member (members_at at (suc s)) node ≡ true) same (subst (IsForMember at node) i told))
        ]

    elects_taught : AreTaught at after marks_after
    elects_taught = record {
      taught = λ who slot low fact. elim (cases_eq who node) [
        | inl own ↦ (let least = reached-least (after.next node) (after.promise node) (marks_after node) (then_elected.fits node) in
            let next = e.next in
            let same = e.newest in
            let far : slot < reached (after.next node) (marks_after node) = omega (arith, least, next, same, low) in
            subst (λ n. slot < reached (after.next n) (marks_after n)) (sym own) far)
        | inr ne ↦ (let same = e.newest in let a = o.taught who slot (omega (arith, low, same)) fact in let b = others_reached then_elected who ne in omega (arith, a, b))
      ];
      told = row_of_entry (λ who. elects-each at now after node taken sent e (IsForMember at who) tt who);
      learnt = all_learnt last_learnt;
    }

-- Each kind of row keeps it that each member of a state learns the entry after it, and that nobody else is sent one.
pub taught_is_kept : TaughtIsKept
taught_is_kept = record {
  begin = begin_taught;
  idle = λ at by now after node taken sent marks marks_after rosters row k was more o. idle_taught at by now after node taken sent marks marks_after rosters row was o k;
  takes = λ at by now after node taken sent marks marks_after rosters row k was more o. takes_taught at by now after node taken sent marks marks_after rosters row was o k;
  leads = λ at by now after node taken sent marks marks_after rosters row k was more o. leads_taught at by now after node taken sent marks marks_after rosters row was o k more;
  self_election = λ at by now after node taken sent marks marks_after rosters row k was more o. elects_taught at by now after node taken sent marks marks_after rosters row was o k;
}

-- So where no mail is under way, each node that was a member before an entry has learnt it.
pub quiet_members_know : QuietMembersKnow
quiet_members_know at now marks quiet o node slot low fact = subst (λ l. slot < reached (now.next node) l) (quiet node) (o.taught node slot low fact)
