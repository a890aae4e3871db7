-- A group that stands is as a quiet journal asks it, where it is well led.
use Rattle.std.proofs.Common.{◌≡◌, ℕ, ◌+◌, ◌<◌, ◌≤◌, true, false, true≢false, List, Option, Some, None, inl, inr, sym, ◌∙◌, ap, subst, arith}
use Rattle.std.specs.Prelude.{is_some}
use Rattle.std.proofs.lemmas.Bool.{cases_eq, cases_lt}
use Rattle.sc_base.specs.Definitions.{Among, is_member, least_of}
use Rattle.sc_node_table.specs.Values.{Ballot, Command, Base, Route, Report}
use Rattle.sc_group_table.specs.machine.MachineDefinitions.{Group}
use Rattle.sc_words.specs.paxos.PaxosDefinitions.{below}
use Rattle.sc_words.proofs.PaxosProofs.PaxosLemmas.{Each-weaker}
use Rattle.sc_scenario.specs.declared.scenario.scenarios.Scenario.{Scenario}
use Rattle.sc_node_table.specs.NodeDefinitions.{ReplicaState, next, members}
use Rattle.sc_meaning.specs.sound.SoundDefinitions.{as_nodes}
use Rattle.sc_live_steps.specs.calm.CalmDefinitions.{IsLinked, IsBelow, MayVote, IsUpToDate, StandsQuiet, IsGoneQuiet}
use Rattle.sc_law_entries.specs.logs.LogDefinitions.{Rows}
use Rattle.sc_live_steps.specs.following.FollowingDefinitions.{Sets, Course, Progress, members_at, IsOpen, IsEvenLed, SlotLeaders, IsLeadOf, AreAt}
use Rattle.sc_live_steps.proofs.FollowingProofs.FollowingLemmas.{least_in}
use Rattle.sc_live_journals.specs.rows.RowDefinitions.{promise_in}
use Rattle.sc_live_journals.proofs.RowsProofs.RowLemmas.{same_some}
use Rattle.sc_live_journals.specs.groups.GroupDefinitions.{RestsCleared, IsLedQuietly}
use Rattle.sc_live_journals.proofs.GroupsProofs.GroupLemmas.{kept_leaders_rest, scenarios_kept_born, quiet_groups_led}
use Rattle.sc_live_answers.specs.AnswerDefinitions.{state_at, ReplicasRunLogs, replicas_at, IsQuietGroup, SawNoMore, QuietGroupsStand, IsTakenIn, QuietGroupsAreGone}
use Rattle.sc_live_answers.proofs.QuietProofs.QuietGroupReplicas.{opens_same, set_slot, at, over, all, now, view, even, place, has_one, newest_next, members_have, states, kept, room, same_state, ran}
use Rattle.sc_live_answers.proofs.QuietProofs.QuietPrefixGroupLogs.{none_taken}
use Rattle.sc_law_walks.proofs.WalkLemmas.{some_there}

module _ (run : ReplicasRunLogs) (by : SlotLeaders) (words : ℕ → ℕ → ℕ × ℕ) (scenario : Scenario) (journal prefix : Rows) (base : Base) (course : Course) (q : IsQuietGroup by words scenario journal prefix base course) where
  abbrev sets : Sets
  sets = at by words scenario journal prefix base course q

  abbrev see : ℕ → Option ReplicaState
  see = view by words scenario journal prefix base course q

  abbrev here : Progress
  here = now by words scenario journal prefix base course q

  module _ (stands : course.gone ≡ false) (lead : ReplicaState) (there : see course.ballot.node ≡ Some lead) where
    led : IsLedQuietly sets (all by words scenario journal prefix base course q) prefix base course lead
    led = quiet_groups_led.stands sets (over by words scenario journal prefix base course q) by words (all by words scenario journal prefix base course q) prefix base course lead q.one.log.rosters q.timely q.quiet q.strangers q.led stands there

    rest : RestsCleared lead
    rest =
        kept_leaders_rest sets (over by words scenario journal prefix base course q) by words (all by words scenario journal prefix base course q) prefix base course lead (scenarios_kept_born scenario) q.one.log.rosters q.timely q.quiet q.strangers q.led stands there
        (room by words scenario journal prefix base course q course.ballot.node lead there)

    even_led : IsEvenLed sets here
    even_led = (even by words scenario journal prefix base course q).led stands

    leads : IsLeadOf sets here lead
    leads = led.leads

    me : course.ballot.node ≡ lead.me
    me = leads.led.mine

    newest_is : course.newest ≡ next lead
    newest_is = leads.newest

    own_place : see lead.me ≡ Some lead
    own_place = subst (λ n. see n ≡ Some lead) me there

    own_me : (node : ℕ) (r : ReplicaState) → see node ≡ Some r → r.me ≡ node
    own_me node r e = (kept by words scenario journal prefix base course q node r e).0.0

    -- the leader's own node holds the leader
    is_lead : (node : ℕ) (r : ReplicaState) → see node ≡ Some r → node ≡ lead.me → r ≡ lead
    is_lead node r e fact = same_some (see lead.me) r lead (subst (λ n. see n ≡ Some r) fact e) own_place

    lead_votes : IsOpen sets course.newest lead.me → MayVote lead lead
    lead_votes open_ = record {
      hint_is = rest.leads.hint_is;
      promised = λ later. (
        sym (ap (promise_in base) own_place) ∙ (even_led.voters lead.me open_ ∙ sym leads.led.may.ballot),
        sym (leads.counted lead.me) ∙ even_led.counted (sym leads.led.first ∙ later) lead.me open_,
      );
    }

    votes : (node : ℕ) (r : ReplicaState) → see node ≡ Some r → IsOpen sets course.newest node → MayVote lead r
    votes node r e open_ = elim (cases_eq node lead.me) [
      | inl fact ↦ subst (MayVote lead) (sym (is_lead node r e fact)) (lead_votes (subst (IsOpen sets course.newest) fact open_))
      | inr ne ↦ led.voter node r e (own_me node r e) open_ ne
    ]

    -- members decide the last open slot
    member_opens : (node : ℕ) → is_member (members_at sets course.newest) node ≡ true → IsOpen sets course.newest node
    member_opens node m = record { slot = course.newest + 3; from = omega arith; to = omega arith; decides = m }

    member_then : (node : ℕ) → is_member (members lead) node ≡ true → is_member (members_at sets course.newest) node ≡ true
    member_then node m = ap (λ ms. is_member ms node) (ap (members_at sets) newest_is ∙ leads.led.was) ∙ m

    up_to_date : (node : ℕ) (r : ReplicaState) → see node ≡ Some r → is_member (members lead) node ≡ true → IsUpToDate lead r
    up_to_date node r e m =
        let nexts : next r ≡ next lead = led.member node r e m in
        let one = states by words scenario journal prefix base course q node r e in
        let other = states by words scenario journal prefix base course q course.ballot.node lead there in
        record {
          group_is = same_state by words scenario journal prefix base course q run node course.ballot.node r lead e there nexts;
          next_is = nexts;
          sets_are = opens_same sets (next lead) r.sets lead.sets (subst (λ n. AreAt sets n r.sets) nexts one.opens) other.opens (one.many ∙ sym other.many);
          hint_is = (votes node r e (member_opens node (member_then node m))).hint_is;
        }

    set_opens : (set : List ℕ) (node : ℕ) → Among set lead.sets → is_member set node ≡ true → IsOpen sets course.newest node
    set_opens set node a m =
        let where_ = set_slot sets (next lead) lead.sets set leads.led.may.sets a in
        let ahead = leads.led.ahead in
        let newest = newest_is in
        let low = where_.1 in
        let high = where_.2 in
        record { slot = where_.0; from = omega (arith, low, newest); to = omega (arith, high, ahead, newest); decides = ap (λ ms. is_member ms node) where_.3 ∙ m }

    -- nothing was offered that is not executed
    bound_low : course.bound ≤ next lead
    bound_low = elim (cases_lt (next lead) course.bound) [
      | inl lt ↦ absurd (true≢false (sym (leads.led.may.taken (next lead) (omega arith) lt) ∙ ap is_some (none_taken lead (next lead) rest.flights rest.ready)))
      | inr ge ↦ ge
    ]

    stood : lead.group.core.gone ≡ None
    stood = leads.led.stands

    module _ (saw : SawNoMore (replicas_at scenario prefix) base course) where
      is_below : (node : ℕ) (r : ReplicaState) → see node ≡ Some r → IsBelow lead r
      is_below node r e = record {
        promised = led.promised node r e;
        top = ap (λ (b : Ballot). below b r.top) leads.led.may.ballot ∙ (saw node r e).0;
        accepted = Each-weaker (λ (report : Report Command). report.slot < course.bound) (λ (report : Report Command). report.slot < next lead) (λ report lt. (let low = bound_low in omega (arith, lt, low))) r.acceptor.accepted (saw node r e).1;
      }

      stands_quiet : IsLinked (replicas_at scenario prefix) lead → (quiet : StandsQuiet (replicas_at scenario prefix) base.core.id) × (see course.ballot.node ≡ Some quiet.lead)
      stands_quiet linked = (
        record {
          lead = lead;
          newest = record { is_there = own_place; most = led.most };
          stands = stood;
          leads = rest.leads;
          alone = led.alone;
          below_it = is_below;
          member = λ node m.
              (let has = members_have by words scenario journal prefix base course q node course.newest (omega arith) (member_then node m) in
              (has.0, has.1, up_to_date node has.0 has.1 m));
          voter = λ set node a m.
              (let open_ = set_opens set node a m in
              let has = has_one by words scenario journal prefix base course q node (even_led.replicas node open_) in
              (has.0, has.1, votes node has.0 has.1 open_));
          linked = linked;
        },
        there,
      )

  -- ---- a group that is gone

  module _ (gone : course.gone ≡ true) where
    abbrev one : ℕ
    one = least_of (members_at sets course.newest)

    one_in : is_member (members_at sets course.newest) one ≡ true
    one_in = least_in (members_at sets course.newest) (q.one.log.rosters (course.newest + 3)).some

    last : (r : ReplicaState) × (see one ≡ Some r)
    last = members_have by words scenario journal prefix base course q one course.newest (omega arith) one_in

    as_far : (node : ℕ) (r : ReplicaState) → see node ≡ Some r → is_member (members_at sets course.newest) node ≡ true → next r ≡ course.newest
    as_far node r e m = sym (place by words scenario journal prefix base course q node r e) ∙ newest_next by words scenario journal prefix base course q node m

    last_next : next last.0 ≡ course.newest
    last_next = as_far one last.0 last.1 one_in

    most : (node : ℕ) (other : ReplicaState) → see node ≡ Some other → next other ≤ next last.0
    most node other e =
        let far = (even by words scenario journal prefix base course q).even.most node in
        let place_ = place by words scenario journal prefix base course q node other e in
        let end = last_next in
        omega (arith, far, place_, end)

    last_gone : is_some last.0.group.core.gone ≡ true
    last_gone = (states by words scenario journal prefix base course q one last.0 last.1).ends ∙ ap (over by words scenario journal prefix base course q) last_next ∙ sym q.led.ends ∙ gone

    last_state : last.0.group ≡ state_at as_nodes base journal course.newest
    last_state = (ran by words scenario journal prefix base course q run one last.0 last.1).1 ∙ ap (state_at as_nodes base journal) last_next

    went : (into : Route) × (last.0.group.core.gone ≡ Some into)
    went = some_there last.0.group.core.gone last_gone

    member_now : (node : ℕ) → is_member (members last.0) node ≡ true → is_member (members_at sets course.newest) node ≡ true
    member_now node m =
        ap (λ ms. is_member ms node) (ap (members_at sets) (sym last_next) ∙ (states by words scenario journal prefix base course q one last.0 last.1).members_are) ∙ m

    gone_quiet : ((into : Route) → (state_at as_nodes base journal course.newest).core.gone ≡ Some into → IsTakenIn (replicas_at scenario prefix) into) → IsGoneQuiet (replicas_at scenario prefix) base.core.id
    gone_quiet taken = record {
      last = last.0;
      newest = record { is_there = subst (λ n. see n ≡ Some last.0) (sym (kept by words scenario journal prefix base course q one last.0 last.1).0.0) last.1; most = most };
      into = went.0;
      went = went.1;
      stopped = quiet_groups_led.gone sets (over by words scenario journal prefix base course q) by words (all by words scenario journal prefix base course q) prefix base course q.led gone;
      member = λ node m.
          (let now_m = member_now node m in
          let has = members_have by words scenario journal prefix base course q node course.newest (omega arith) now_m in
          let same = as_far node has.0 has.1 now_m ∙ sym last_next in
          (has.0, has.1, same_state by words scenario journal prefix base course q run node one has.0 last.0 has.1 last.1 same, same));
      nodes = taken went.0 (ap (λ (g : Group). g.core.gone) (sym last_state) ∙ went.1);
    }

pub quiet_groups_stand : ReplicasRunLogs → QuietGroupsStand
quiet_groups_stand run by words scenario journal prefix base course q stands saw linked =
    let even_led = (even by words scenario journal prefix base course q).led stands in
    let there = members_have by words scenario journal prefix base course q course.ballot.node course.newest (omega arith) even_led.leads.member in
    stands_quiet run by words scenario journal prefix base course q stands there.0 there.1 saw (linked there.0 there.1)

pub quiet_groups_are_gone : ReplicasRunLogs → QuietGroupsAreGone
quiet_groups_are_gone run by words scenario journal prefix base course q gone taken = gone_quiet run by words scenario journal prefix base course q gone taken
