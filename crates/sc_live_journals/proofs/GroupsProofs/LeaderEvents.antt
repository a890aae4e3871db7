-- What the leader of a group takes leaves the group well led, in the course after it.
use Rattle.std.proofs.Common.{◌≡◌, ℕ, suc, ◌+◌, ◌-◌, ◌<◌, ◌≤◌, true, false, true≢false, List, [], Option, Some, None, ◌⊎◌, inl, inr, refl, sym, ◌∙◌, ap, subst, arith}
use Rattle.std.proofs.lemmas.Bool.{cases_eq, cases_lt}
use Rattle.sc_base.specs.Definitions.{Each, is_member}
use Rattle.sc_node_table.specs.Values.{Ballot, Draw, Base, OrderLine, Mail, Promise, Accepted, Seat, Event, Deliver}
use Rattle.sc_actor.specs.declared.rows.Event.TheVariants.{Told}
use Rattle.sc_actor.specs.Definitions.{mails}
use Rattle.sc_live_orderly.specs.OrderlyDefinitions.{AreInTime}
use Rattle.sc_node_table.specs.NodeDefinitions.{NodeState, replica_of, group_of_mail, group_of_order, ordered_row, ReplicaState, Place, name_of, next, mailed}
use Rattle.sc_meaning.specs.sound.SoundDefinitions.{Player}
use Rattle.sc_live_steps.specs.calm.CalmDefinitions.{players, Rows}
use Rattle.sc_live_steps.specs.following.FollowingDefinitions.{AsksLow, Mark, Votes, Promises, mark_of, Course, Progress, Sets, members_at, SlotLeaders, LeavesLast, IsLeadOf, LeadsInto, IsAside, DecidesNext, IsOrderly, CountsOwn}
use Rattle.sc_live_steps.proofs.FollowingProofs.FollowingLemmas.{acts_stop_alone, rows_ask_next, rows_lead, same_mark, order_is_kept, leaders_count_own, leaders_leave_last}
use Rattle.sc_live_journals.specs.rows.RowDefinitions.{view_at, progress_at, mark_in, taken_mark, IsScene, TakesMail, HoldsReplica, led_course, LedBy, with_event, IsReplicasRow}
use Rattle.sc_live_journals.proofs.RowsProofs.RowLemmas.{steps_lead, aside_mark, told_is, leads_here, named, row_to, taken, found_name, rows_replicas}
use Rattle.sc_live_journals.specs.groups.GroupDefinitions.{RowLeads, IsLedStep, Ends, IsOfLog, RestsBy, CountsTo, CountsAsMember, IsLedScene, LeadersKeepLed, IsStateFrom, LeadsWell}
use Rattle.sc_live_journals.proofs.GroupsProofs.IdleLeaderRows.{asides_stay, orders_stay, promises_stay}
use Rattle.sc_live_journals.proofs.GroupsProofs.NodeMail.{scene, stage}
use Rattle.sc_live_journals.proofs.GroupsProofs.Rows.{rows_keep_led}
use Rattle.sc_live_journals.proofs.GroupsProofs.SentStates.{votes_own, promises_own, asides_own, orders_own}

module _ (at : Sets) (over : Ends) (by : SlotLeaders) (words : ℕ → ℕ → ℕ × ℕ) (births : List (Seat Player)) (rows : Rows) (seat : Seat Player) (node : NodeState) (base : Base) (course : Course) (s : IsLedScene at over by words births rows seat node base course) where
  abbrev the_scene : IsScene at words births rows seat node base course
  the_scene = scene at over by words births rows seat node base course s

  abbrev name : Draw
  name = base.core.id

  abbrev now : Progress
  now = progress_at births rows base course

  -- a leader's row
  module _ (event : Event OrderLine) (timely : AreInTime (players words births) (with_event rows seat event)) (r : ReplicaState) (after : Place) (row : IsReplicasRow births rows seat event base.core.id (Some r) after) (own_name : name_of r ≡ base.core.id) (me : r.me ≡ seat.who)
      (runs : r.running ≡ true) (into : LeadsInto at (progress_at births rows base course) (taken_mark base.core.id (mails rows) event) r after) (low : AsksLow (name_of r) after.1) (states : Each (IsStateFrom (name_of r) seat.who) after.1) (orderly : after.0.running ≡ true → IsOrderly after.0) (logs : IsOfLog at over after.0)
      (rests : (next after.0 ≡ next r) ⊎ RestsBy over after.0) (counting : CountsAsMember at by r after.0 seat.who) where
    abbrev taken_it : Option Mark
    taken_it = taken_mark name (mails rows) event

    lead : IsLeadOf at now r × (seat.who ≡ course.ballot.node)
    lead = leads_here at words births rows seat node base course the_scene r row.was runs

    led : LedBy at births rows seat event base course after
    led = steps_lead at births rows seat event base course r after row own_name me into

    -- it is a member at each slot that it executes
    member : (slot : ℕ) → next r ≤ slot → slot < next after.0 → is_member (members_at at slot) seat.who ≡ true
    member slot least most = elim (cases_eq slot (next r)) [
      | inl fact ↦ subst (λ n. is_member (members_at at slot) n ≡ true) (sym lead.1)
          (subst (λ k. is_member (members_at at k) course.ballot.node ≡ true) (lead.0.newest ∙ sym fact) (s.led.followed.follows.leads lead.0.runs).member)
      | inr ne ↦ (let up : next r < slot = past least ne in
          subst (λ k. is_member (members_at at k) seat.who ≡ true) (omega (arith, up)) (subst (λ n. is_member (members_at at (slot - 1 + 1)) n ≡ true) me (into.stayed (slot - 1) (omega (arith, up)) (omega (arith, up, most)))))
    ]
      where
        past : next r ≤ slot → (slot ≡ next r → ⊥) → next r < slot
        past least ne = elim (cases_lt (next r) slot) [ inl lt ↦ lt | inr ge ↦ absurd (ne (omega (arith, least, ge))) ]

    counts : CountsTo by r after.0 seat.who
    counts = counting member

    -- it executes nothing of a group that is gone
    rests_after : RestsBy over after.0
    rests_after = elim rests [ inl same ↦ (λ slot gone. (let low = s.led.rests slot gone in let fact = lead.0.newest in omega (arith, low, fact, same))) | inr well ↦ well ]

    -- it counts its entries, and nobody comes by one by which it goes
    its_own : (slot : ℕ) → course.newest ≤ slot → slot < next after.0 → by slot ≡ course.ballot.node
    its_own slot least most = (let fact = lead.0.newest in counts slot (omega (arith, least, fact)) most ∙ lead.1)

    alone : (slot : ℕ) → course.newest ≤ slot → suc slot ≡ next after.0
        → (is_member (members_at at (slot + 1)) course.ballot.node ≡ true) ⊎ ((who : ℕ) → is_member (members_at at (slot + 1)) who ≡ true → is_member (members_at at slot) who ≡ true)
    alone slot least last = elim (s.log.leaves slot) [
      | inl member ↦ inl (subst (λ n. is_member (members_at at (slot + 1)) n ≡ true) (its_own slot least (omega (arith, last))) member)
      | inr none ↦ inr none
    ]

    last : LeavesLast at by now (progress_at births (with_event rows seat event) base (led_course led.bound course after.0))
    last = (let l = leaders_leave_last at by now taken_it r after lead.0 into its_own alone in record { counts = l.counts; stayed = l.stayed; alone = l.alone })

    counted : CountsOwn now (progress_at births (with_event rows seat event) base (led_course led.bound course after.0)) taken_it
    counted = record {
      grown = (leaders_count_own at now taken_it r after lead.0 into orderly).grown;
      some = λ on later above.
          (let goes = (led.goes_on on).led in
          elim ((orderly on).asked (next after.0) (omega arith) (goes.may.taken (next after.0) (omega arith) above)) [
            | inl first ↦ absurd (true≢false (sym first ∙ (goes.first ∙ later)))
            | inr w ↦ w
          ]);
    }

    well : LeadsWell at over by births rows seat event base course after
    well = record {
      led = led;
      last = last;
      counts = counted;
      low = subst (λ n. AsksLow n after.1) own_name low;
      states = subst (λ n. Each (IsStateFrom n seat.who) after.1) own_name states;
      orderly = orderly;
      ends = logs.ends;
      rests = rests_after;
    }

    leads_on : IsLedStep at over by words births rows seat event base course
    leads_on = record {
      later = led_course well.led.bound course after.0;
      led = rows_keep_led.leads at over by words births rows seat event base course r after (stage at over by words births rows seat node base course s event timely) row well;
      row = RowLeads r after row runs counts well refl;
    }

  -- ---- each mail

  module _ (number : ℕ) (mail : Mail) (takes : TakesMail words births rows seat number mail) (r : ReplicaState) (has : HoldsReplica seat node base r) (runs : r.running ≡ true) where
    own_name : name_of r ≡ base.core.id
    own_name = named at words births rows seat node base course the_scene number mail takes r has

    ordered_r : view_at births rows name seat.who ≡ Some r → IsOrderly r
    ordered_r was = s.led.orderly seat.who r was runs

    counts_vote : (ballot : Ballot) (slot : ℕ) → mail.body ≡ Accepted name ballot slot → DecidesNext at mail.from ballot slot r → RestsBy over (mailed mail.from mail.body (r, [])).0.0 → IsOfLog at over (mailed mail.from mail.body (r, [])).0.0 → CountsAsMember at by r (mailed mail.from mail.body (r, [])).0.0 seat.who
        → IsLedStep at over by words births rows seat (Deliver number) base course
    counts_vote ballot slot body decides rests logs counts =
        let mark = Votes mail.from ballot slot in
        let fact : mark_of name mail.from mail.body ≡ Some mark = ap (mark_of name mail.from) body ∙ same_mark name mark in
        let own : mail.body ≡ Accepted (name_of r) ballot slot = body ∙ ap (λ n. Accepted n ballot slot) (sym own_name) in
        let after = (mailed mail.from (Accepted (name_of r) ballot slot) (r, [])).0 in
        let row = row_to at words births rows seat node base course the_scene number mail takes r has mail.from (Accepted (name_of r) ballot slot) refl own (ap group_of_mail body) in
        let leads = (leads_here at words births rows seat node base course the_scene r row.was runs).0 in
        let old = ordered_r row.was in
        let stops = acts_stop_alone at now mail.from ballot slot r s.log.rosters leads decides (order_is_kept.alone at course r leads.led old) in
        let into = rows_lead.votes at now mail.from ballot slot r s.log.rosters leads decides stops in
        leads_on (Deliver number) takes.timely r after row own_name has.well.0 runs (subst (λ o. LeadsInto at now o r after) (sym (taken at words births rows seat node base course the_scene number mail takes mark fact)) into)
        (rows_ask_next.votes at now mail.from ballot slot r s.log.rosters leads decides) (votes_own at now seat.who r leads has.well.0 mail.from ballot slot s.log.rosters decides) (λ on. order_is_kept.votes at now mail.from ballot slot r s.log.rosters leads decides old on)
        (subst (λ b. IsOfLog at over (mailed mail.from b (r, [])).0.0) own logs) (inr (subst (λ b. RestsBy over (mailed mail.from b (r, [])).0.0) own rests)) (subst (λ b. CountsAsMember at by r (mailed mail.from b (r, [])).0.0 seat.who) own counts)

    counts_promise : (ballot : Ballot) → mail.body ≡ Promise name ballot [] → IsOfLog at over (mailed mail.from mail.body (r, [])).0.0 → CountsAsMember at by r (mailed mail.from mail.body (r, [])).0.0 seat.who
        → IsLedStep at over by words births rows seat (Deliver number) base course
    counts_promise ballot body logs counts =
        let mark = Promises mail.from ballot in
        let fact : mark_of name mail.from mail.body ≡ Some mark = ap (mark_of name mail.from) body ∙ same_mark name mark in
        let own : mail.body ≡ Promise (name_of r) ballot [] = body ∙ ap (λ n. Promise n ballot []) (sym own_name) in
        let after = (mailed mail.from (Promise (name_of r) ballot []) (r, [])).0 in
        let row = row_to at words births rows seat node base course the_scene number mail takes r has mail.from (Promise (name_of r) ballot []) refl own (ap group_of_mail body) in
        let leads = (leads_here at words births rows seat node base course the_scene r row.was runs).0 in
        let old = ordered_r row.was in
        let into = rows_lead.promises at now mail.from ballot [] r leads in
        leads_on (Deliver number) takes.timely r after row own_name has.well.0 runs (subst (λ o. LeadsInto at now o r after) (sym (taken at words births rows seat node base course the_scene number mail takes mark fact)) into)
        (rows_ask_next.promises at now mail.from ballot [] r leads) (promises_own at now seat.who r leads has.well.0 mail.from ballot []) (λ on. order_is_kept.promises at now mail.from ballot r leads old)
        (subst (λ b. IsOfLog at over (mailed mail.from b (r, [])).0.0) own logs) (inl (promises_stay at now r leads mail.from ballot [])) (subst (λ b. CountsAsMember at by r (mailed mail.from b (r, [])).0.0 seat.who) own counts)

    takes_aside : group_of_mail mail.body ≡ Some name → IsAside r mail.body → IsOfLog at over (mailed mail.from mail.body (r, [])).0.0 → CountsAsMember at by r (mailed mail.from mail.body (r, [])).0.0 seat.who
        → IsLedStep at over by words births rows seat (Deliver number) base course
    takes_aside group aside logs counts =
        let row = row_to at words births rows seat node base course the_scene number mail takes r has mail.from mail.body refl refl group in
        let after = (mailed mail.from mail.body (r, [])).0 in
        let none : taken_mark name (mails rows) (Deliver number) ≡ None = ap (mark_in name) takes.sent ∙ aside_mark name mail.from r mail.body aside in
        let leads = (leads_here at words births rows seat node base course the_scene r row.was runs).0 in
        let old = ordered_r row.was in
        let into = rows_lead.asides at now mail.from mail.body r leads aside in
        leads_on (Deliver number) takes.timely r after row own_name has.well.0 runs (subst (λ o. LeadsInto at now o r after) (sym none) into)
        (rows_ask_next.asides at now mail.from mail.body r leads aside) (asides_own at now seat.who r leads has.well.0 mail.from mail.body aside) (λ on. order_is_kept.asides at now mail.from mail.body r leads aside old) logs (inl (asides_stay at now r leads mail.from mail.body aside)) counts

  ordered : (line : OrderLine) (r : ReplicaState) → AreInTime (players words births) (with_event rows seat (Told line)) → HoldsReplica seat node base r → group_of_order line.order ≡ name → r.running ≡ true
      → IsOfLog at over (ordered_row node.draws line (r, [])).0 → CountsAsMember at by r (ordered_row node.draws line (r, [])).0 seat.who → IsLedStep at over by words births rows seat (Told line) base course
  ordered line r timely has group runs logs counts =
      let after : Place = ordered_row node.draws line (r, []) in
      let here : replica_of (group_of_order line.order) node.replicas ≡ Some r = ap (λ n. replica_of n node.replicas) group ∙ has.here in
      let row : IsReplicasRow births rows seat (Told line) name (Some r) after = subst (λ n. IsReplicasRow births rows seat (Told line) n (Some r) after) group (rows_replicas.ordered births rows seat line node r s.seated s.fact here) in
      let leads = (leads_here at words births rows seat node base course the_scene r row.was runs).0 in
      let old = s.led.orderly seat.who r row.was runs in
      let into : LeadsInto at now None r after = subst (λ p. LeadsInto at now None r p) (told_is node line r) (rows_lead.orders at now false node.draws line r leads) in
      leads_on (Told line) timely r after row (found_name name node.replicas r has.here) has.well.0 runs into
      (subst (λ (p : Place). AsksLow (name_of r) p.1) (told_is node line r) (rows_ask_next.orders at now false node.draws line r leads))
      (subst (λ (p : Place). Each (IsStateFrom (name_of r) seat.who) p.1) (told_is node line r) (orders_own at now seat.who r leads has.well.0 false node.draws line))
      (λ on. subst (λ (p : Place). IsOrderly p.0) (told_is node line r) (order_is_kept.orders at now false node.draws line r leads old)) logs
      (inl (subst (λ (p : Place). next p.0 ≡ next r) (told_is node line r) (orders_stay at now r leads false node.draws line))) counts

-- So does what its leader takes: a vote, a promise, other mail that comes to it, and an order.
pub leaders_keep_led : LeadersKeepLed
leaders_keep_led = record {
  vote = λ at over by words births rows seat number mail node base course r ballot slot s takes has body runs decides rests logs counts. counts_vote at over by words births rows seat node base course s number mail takes r has runs ballot slot body decides rests logs counts;
  promise = λ at over by words births rows seat number mail node base course r ballot s takes has body runs logs counts. counts_promise at over by words births rows seat node base course s number mail takes r has runs ballot body logs counts;
  aside = λ at over by words births rows seat number mail node base course r s takes has group aside runs logs counts. takes_aside at over by words births rows seat node base course s number mail takes r has runs group aside logs counts;
  order = λ at over by words births rows seat line node base course r s timely has group runs logs counts. ordered at over by words births rows seat node base course s line r timely has group runs logs counts;
}
