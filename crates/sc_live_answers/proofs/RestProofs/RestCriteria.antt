-- A quiet prefix of a calm journal rests.
use Rattle.std.proofs.Common.{◌≡◌, ℕ, ◌<◌, ◌≤◌, true, false, true≢false, [], Option, Some, None, ◌⊎◌, inl, inr, sym, ◌∙◌, ap, subst, arith}
use Rattle.std.specs.Prelude.{is_some}
use Rattle.std.proofs.lemmas.Bool.{cases_Bool, cases_lt}
use Rattle.sc_base.specs.Definitions.{Among}
use Rattle.sc_node_table.specs.Values.{Ballot, Draw, Command, Base, Free, OrderLine, Mail, Report}
use Rattle.sc_group_table.specs.machine.MachineDefinitions.{Group}
use Rattle.sc_words.specs.paxos.PaxosDefinitions.{IsAtLeast}
use Rattle.sc_words.proofs.PaxosProofs.PaxosLemmas.{Each-weaker}
use Rattle.sc_actor.specs.Definitions.{System}
use Rattle.sc_live_orderly.specs.OrderlyDefinitions.{is_born, rest}
use Rattle.sc_live_orderly.proofs.OrderlyLemmas.{in_time_tidy, quiet-empty}
use Rattle.sc_node_table.specs.NodeDefinitions.{ReplicaState}
use Rattle.sc_scenario.specs.declared.scenario.scenarios.Scenario.{Scenario}
use Rattle.sc_scenario.specs.scenario.Definitions.{ValidScenariosAreBounded}
use Rattle.sc_meaning.specs.sound.SoundDefinitions.{groups_at, Player, births, as_nodes}
use Rattle.sc_live_steps.specs.calm.CalmDefinitions.{players, MayPump, HasReplica, StandsQuiet, IsGoneQuiet, IsAtRest, RisesAt, Rows}
use Rattle.sc_live_steps.specs.following.FollowingDefinitions.{Course, marks_of, IsLeadOf}
use Rattle.sc_live_journals.specs.rows.RowDefinitions.{marks_at, progress_at}
use Rattle.sc_live_journals.specs.groups.GroupDefinitions.{NodesKeepTops, NodesAreBornTopped, QuietGroupsAreLed, IsLedQuietly}
use Rattle.sc_live_journals.specs.logs.LogDefinitions.{logged_sets}
use Rattle.sc_live_answers.specs.AnswerDefinitions.{over_at, state_at, slot_leaders_at, replicas_at, SawNoMore, QuietGroupsStand, QuietGroupsAreGone, QuietReplicasRest, QuietReplicasAreKept, IsSentThrough, SentReplicas, IsQuietPrefix, IsKnownGroup, IsFoundPrefix, PrefixesAreFound, QuietPrefixesHaveGroups, QuietLogsAreExecuted, PrefixesAreKnown, PrefixesAreReachable, PrefixesAreTakenIn, PrefixesAreLinked, StillPrefixesAreFree, AreAllFree, PrefixNotesAreBegun, QuietHintsRise, RoundsAreSeen, NoMailForStrangers, PrefixGroupsHaveReplicas, PrefixMembersHaveReplicas, RestsAt, EndsQuietly, QuietPrefixesRest}
use Rattle.sc_live_answers.proofs.QuietProofs.QuietGroupReplicas.{even, has_one}
use Rattle.sc_live_plain.specs.PlainDefinitions.{replicas_after, IsQuietJournal, IsKept}
use Rattle.sc_live_answers.proofs.QuietProofs.QuietPrefixGroups.{newest_state}
use Rattle.sc_live_answers.proofs.RequestsProofs.RequestInvariant.{prefix_timely}
use Rattle.sc_live_answers.proofs.QuietProofs.QuietGroupViews.{stands_as, gone_as}
use Rattle.sc_live_answers.proofs.RequestsProofs.UnmarkedMail.{desk_marks}
use Rattle.sc_live_answers.proofs.ReplicasProofs.Nodes.{node_value}

module _ (all_bounded : ValidScenariosAreBounded) (found_law : PrefixesAreFound) (groups_law : QuietPrefixesHaveGroups) (executed_law : QuietLogsAreExecuted) (known_law : PrefixesAreKnown) (reach_law : PrefixesAreReachable) (taken_law : PrefixesAreTakenIn) (linked_law : PrefixesAreLinked) (free_law : StillPrefixesAreFree)
    (stand_law : QuietGroupsStand) (gone_law : QuietGroupsAreGone) (rest_law : QuietReplicasRest) (kept_law : QuietReplicasAreKept) (led_law : QuietGroupsAreLed) (keep_law : NodesKeepTops) (topped_law : NodesAreBornTopped) (sent_law : SentReplicas) (there_law : PrefixGroupsHaveReplicas) (members_law : PrefixMembersHaveReplicas) (noted_law : PrefixNotesAreBegun) (no_law : NoMailForStrangers) (hints_law : QuietHintsRise) (rounds_law : RoundsAreSeen) (words : ℕ → ℕ → ℕ × ℕ) (scenario : Scenario) (first : Base) (journal prefix : Rows)
    (q : IsQuietPrefix words scenario journal prefix) (ends : EndsQuietly words scenario first journal prefix q.sent) where
  abbrev at : Draw → ℕ → Option ReplicaState
  at = replicas_after scenario prefix

  abbrev s : System Player Mail OrderLine
  s = players words (births as_nodes scenario)

  found : IsFoundPrefix words scenario journal prefix
  found = found_law words scenario journal prefix q.calm q.begins

  free : AreAllFree scenario prefix
  free = free_law words scenario journal prefix q ends.still

  module _ (base : Base) (a : Among base (groups_at as_nodes scenario.groups prefix)) where
    t : IsSentThrough (logged_sets as_nodes base journal) (over_at as_nodes base journal) (slot_leaders_at as_nodes scenario base journal) words (births as_nodes scenario) prefix base
    t = q.sent base (found.later base a)

    known : IsKnownGroup words scenario journal prefix base
    known = groups_law words scenario journal prefix base q (found.later base a) (there_law words scenario journal prefix q base a)

    abbrev course : Course
    course = known.course

    newest_free : (state_at as_nodes base journal course.newest).core.lock ≡ Free
    newest_free = ap (λ (g : Group). g.core.lock) (newest_state executed_law found_law words scenario journal prefix q base a (slot_leaders_at as_nodes scenario base journal) course known.quiet) ∙ free base a

    -- ---- one that stands

    module _ (stands : course.gone ≡ false) where
      lead : HasReplica (replicas_at scenario prefix) base.core.id course.ballot.node
      lead =
          let e = (even (slot_leaders_at as_nodes scenario base journal) words scenario journal prefix base course known.quiet).led stands in
          let executed = e.leads.executed in
          let some = known.quiet.led.followed.follows.some in
          has_one (slot_leaders_at as_nodes scenario base journal) words scenario journal prefix base course known.quiet course.ballot.node (omega (arith, executed, some))

      led : IsLedQuietly (logged_sets as_nodes base journal) (births as_nodes scenario) prefix base course lead.0
      led =
          led_law.stands (logged_sets as_nodes base journal) (over_at as_nodes base journal) (slot_leaders_at as_nodes scenario base journal) words (births as_nodes scenario) prefix base course lead.0 known.quiet.one.log.rosters known.quiet.timely known.quiet.quiet known.quiet.strangers
          known.quiet.led stands lead.1

      sent_lead : IsLeadOf (logged_sets as_nodes base journal) (progress_at (births as_nodes scenario) prefix base t.course) lead.0
      sent_lead = (t.led.followed.given.gives course.ballot.node lead.0 lead.1 led.runs).0

      ballots : t.course.ballot ≡ course.ballot
      ballots = sym sent_lead.led.may.ballot ∙ led.leads.led.may.ballot

      bounds : t.course.bound ≤ course.bound
      bounds = elim (cases_lt course.bound t.course.bound) [
        | inl lt ↦ (
            let low = led.leads.led.may.low in
            let taken = sent_lead.led.may.taken course.bound low lt in
            let none = led.leads.led.may.free course.bound (omega arith) in
            absurd (true≢false (sym taken ∙ ap is_some none)))
        | inr ge ↦ ge
      ]

      saw : SawNoMore (replicas_at scenario prefix) base course
      saw node r e =
          let fact = sent_law.saw (logged_sets as_nodes base journal) (over_at as_nodes base journal) (slot_leaders_at as_nodes scenario base journal) words (births as_nodes scenario) prefix base t node r e in
          let high = bounds in (
            subst (λ (b : Ballot). IsAtLeast b r.top) ballots fact.0,
            Each-weaker (λ (report : Report Command). report.slot < t.course.bound) (λ (report : Report Command). report.slot < course.bound) (λ report lt. omega (arith, lt, high)) r.acceptor.accepted fact.1,
          )

      quiet_stands : StandsQuiet at base.core.id
      quiet_stands =
          stands_as (replicas_at scenario prefix) at (λ name node. found.views name node) base.core.id
          (stand_law (slot_leaders_at as_nodes scenario base journal) words scenario journal prefix base course known.quiet stands saw
          (λ r e. linked_law words scenario journal prefix (slot_leaders_at as_nodes scenario base journal) base course r q free a known.quiet stands e)).0

    quiet_gone : course.gone ≡ true → IsGoneQuiet at base.core.id
    quiet_gone gone =
        gone_as (replicas_at scenario prefix) at (λ name node. found.views name node) base.core.id
        (gone_law (slot_leaders_at as_nodes scenario base journal) words scenario journal prefix base course known.quiet gone
        (λ into e. taken_law words scenario journal prefix (slot_leaders_at as_nodes scenario base journal) base course into q free a known.quiet e))

    group_quiet : StandsQuiet at base.core.id ⊎ IsGoneQuiet at base.core.id
    group_quiet = elim (cases_Bool course.gone) [ inl gone ↦ inr (quiet_gone gone) | inr stands ↦ inl (quiet_stands stands) ]

    seen : (node : ℕ) (r : ReplicaState) → at base.core.id node ≡ Some r → replicas_at scenario prefix base.core.id node ≡ Some r
    seen node r e = sym (found.views base.core.id node) ∙ e

    rest_here : (node : ℕ) (r : ReplicaState) → at base.core.id node ≡ Some r → IsAtRest r
    rest_here node r e =
        rest_law (slot_leaders_at as_nodes scenario base journal) words scenario journal prefix base course known.quiet newest_free (λ n x f runs. ends.done base.core.id n x f runs) node r (seen node r e)

    kept_here : (node : ℕ) (r : ReplicaState) → at base.core.id node ≡ Some r → IsKept base.core.id node r
    kept_here node r e = kept_law.kept (slot_leaders_at as_nodes scenario base journal) words scenario journal prefix base course known.quiet node r (seen node r e)

    pump_here : (node : ℕ) (r : ReplicaState) → at base.core.id node ≡ Some r → MayPump r
    pump_here node r e =
        kept_law.pumps (slot_leaders_at as_nodes scenario base journal) words scenario journal prefix base course known.quiet node r (seen node r e)
        (λ off. sent_law.plain (logged_sets as_nodes base journal) (over_at as_nodes base journal) (slot_leaders_at as_nodes scenario base journal) words (births as_nodes scenario) prefix base t node r (seen node r e))

  -- ---- of each name

  module _ (P : Draw → ℕ → ReplicaState → Type 0) (each : (base : Base) → Among base (groups_at as_nodes scenario.groups prefix) → (node : ℕ) (r : ReplicaState) → at base.core.id node ≡ Some r → P base.core.id node r) where
    by_name : (name : Draw) (node : ℕ) (r : ReplicaState) → at name node ≡ Some r → P name node r
    by_name name node r e =
        let of = found.replicas name node r e in
        subst (λ n. P n node r) of.named (each of.base of.among node r (subst (λ n. at n node ≡ Some r) (sym of.named) e))

  empty : (who : ℕ) → is_born s who ≡ true → rest s prefix who ≡ []
  empty who born = quiet-empty s prefix who (in_time_tidy s prefix (prefix_timely words scenario journal prefix q.calm q.begins)) born q.quiet

  none : (name : Draw) (who : ℕ) → marks_at s prefix name who ≡ []
  none name who = elim (cases_Bool (is_born s who)) [ inl t ↦ ap (marks_of name) (empty who t) | inr f ↦ no_law.strangers words scenario journal prefix q.calm q.begins q.sent name who f ]

  -- hints rise, and rounds are counted from 1 on
  rises_here : (base : Base) → Among base (groups_at as_nodes scenario.groups prefix) → (node : ℕ) (r : ReplicaState) → at base.core.id node ≡ Some r → r.running ≡ false → r.group.core.gone ≡ None → RisesAt at base.core.id r
  rises_here base a node r e off stands =
      let j = found.later base a in
      let x =
      hints_law words (logged_sets as_nodes base journal) (over_at as_nodes base journal) (slot_leaders_at as_nodes scenario base journal) scenario prefix base (q.sent base j) (ends.rising base j) (none base.core.id)
      (λ there. members_law words scenario journal prefix base q j there) node r (sym (found.views base.core.id node) ∙ e) off stands in
      record { hint_is = x.hint_is; there = x.there; is_there = found.views base.core.id r.top.node ∙ x.is_there; nearer = x.nearer }

  least_here : (base : Base) → Among base (groups_at as_nodes scenario.groups prefix) → (node : ℕ) (r : ReplicaState) → at base.core.id node ≡ Some r → 1 ≤ r.top.round
  least_here base a node r e =
      let j = found.later base a in
      rounds_law.least (logged_sets as_nodes base journal) (slot_leaders_at as_nodes scenario base journal) words (births as_nodes scenario) prefix base (q.sent base j).course (ends.rising base j) node r (sym (found.views base.core.id node) ∙ e)

  journal_is : IsQuietJournal words scenario first prefix
  journal_is = record {
    clients = ends.clients;
    quiet = record {
      groups = λ name node has. by_name (λ n w r. StandsQuiet at n ⊎ IsGoneQuiet at n) (λ base a w r e. group_quiet base a) name node has.0 has.1;
      at_rest = by_name (λ n w r. IsAtRest r) rest_here;
      rises = by_name (λ n w r. r.running ≡ false → r.group.core.gone ≡ None → RisesAt at n r) rises_here;
      answered = ends.answered;
    };
    kept = by_name (λ n w r. IsKept n w r) kept_here;
    noted = noted_law words scenario journal prefix q free;
    nodes = λ me one most. node_value keep_law topped_law scenario prefix me;
    players = ends.players;
    reached = ends.reached;
    none = empty;
    desk = λ who none. desk_marks (rest s prefix who) (λ name. no_law.strangers words scenario journal prefix q.calm q.begins q.sent name who none);
  }

  rests : RestsAt words scenario first journal prefix
  rests = record {
    prefix = q.begins;
    calm = q.quiet;
    fact = journal_is;
    sent = q.sent;
    members = λ base among there. members_law words scenario journal prefix base q among there;
    still = ends.still;
    known = known_law words scenario journal prefix q free;
    reach = reach_law words scenario journal prefix q free;
    pumps = by_name (λ n w r. MayPump r) pump_here;
    rounds = λ name node r e. (by_name (λ n w x. 1 ≤ x.top.round) least_here name node r (found.views name node ∙ e), ends.rounds name node r e);
    rising = ends.rising;
    turn = ends.turn;
    turns = ends.turns;
  }

pub quiet_prefixes_rest : ValidScenariosAreBounded → PrefixesAreFound → QuietPrefixesHaveGroups → QuietLogsAreExecuted → PrefixesAreKnown → PrefixesAreReachable → PrefixesAreTakenIn → PrefixesAreLinked → StillPrefixesAreFree → QuietGroupsStand → QuietGroupsAreGone → QuietReplicasRest → QuietReplicasAreKept
    → QuietGroupsAreLed → NodesKeepTops → NodesAreBornTopped → SentReplicas → PrefixGroupsHaveReplicas → PrefixMembersHaveReplicas → PrefixNotesAreBegun → NoMailForStrangers → QuietHintsRise → RoundsAreSeen → QuietPrefixesRest
quiet_prefixes_rest = rests
