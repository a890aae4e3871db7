-- Each group begins one round more at most while an order is under way.
use Rattle.std.proofs.Common.{◌≡◌, ℕ, ◌+◌, ◌≤◌, true, false, true≢false, List, [], Option, Some, None, ◌⊎◌, inl, inr, refl, sym, ◌∙◌, ap, subst, arith}
use Rattle.std.proofs.lemmas.Bool.{cases_Bool}
use Rattle.sc_base.specs.Definitions.{Among}
use Rattle.sc_node_table.specs.Values.{Ballot, Draw, Base, OrderLine, Seat, Event}
use Rattle.sc_actor.specs.declared.rows.Event.TheVariants.{Told}
use Rattle.sc_actor.specs.Definitions.{mails, numbers_of}
use Rattle.sc_live_orderly.specs.OrderlyDefinitions.{IsCalmEvent, AreInTime}
use Rattle.sc_scenario.specs.declared.scenario.scenarios.Scenario.{Scenario}
use Rattle.sc_node_table.specs.NodeDefinitions.{ReplicaState, Place}
use Rattle.sc_meaning.specs.sound.SoundDefinitions.{Player, births, as_nodes}
use Rattle.sc_live_steps.specs.calm.CalmDefinitions.{players, Rows}
use Rattle.sc_live_steps.specs.following.FollowingDefinitions.{Course, Sets, SlotLeaders}
use Rattle.sc_live_steps.specs.orders.OrderDefinitions.{works, Work, Deal, Stage, Still, Asks, IsAt}
use Rattle.sc_live_journals.specs.rows.RowDefinitions.{view_at, taken_mark, led_course, elected_course, IsSeat, with_event, IsReplicasRow}
use Rattle.sc_live_journals.specs.groups.GroupDefinitions.{IsGroupRow, RowPasses, RowRests, RowTakes, RowMakes, RowLeads, RowElects, Ends, LeadsWell, ElectsWell, AreWellBorn}
use Rattle.sc_live_journals.specs.mail.MailDefinitions.{JournalsKeepIdle}
use Rattle.sc_live_journals.specs.scenes.SceneDefinitions.{GivesAnOrder, GoesBy, is_running, lead_of, works_of, work_at, scene_at}
use Rattle.sc_live_journals.proofs.ScenesProofs.SceneLemmas.{lead_found, lead_runs, seat_among}
use Rattle.sc_live_answers.specs.AnswerDefinitions.{IsSentThrough, IsSentStep, MustLead, HasOneRound, StaysGone}
use Rattle.sc_live_answers.proofs.BallotsProofs.PrepareSlotRows.{leader_moves}
use Rattle.sc_live_answers.proofs.LedGroupsProofs.JoiningMembers.{HasAct}
use Rattle.sc_live_answers.proofs.OrdersProofs.ActsUnderOrders.{has_work}
use Rattle.sc_live_answers.proofs.BallotsProofs.HintedMarks.{round_most}
use Rattle.sc_live_answers.proofs.BallotsProofs.HintInvariant.{next_round}
use Rattle.sc_live_answers.proofs.WorkProofs.Stages.{Before, work_leads, must_lead, step_back}

-- nothing is taken where an order is given
told_none : (event : Event OrderLine) (name : Draw) (rows : Rows) → GivesAnOrder event → taken_mark name (mails rows) event ≡ None
told_none (Told line) name rows t = refl
told_none _ name rows t = absurd t

-- what stands at the one that leads is of the order
module _ (words : ℕ → ℕ → ℕ × ℕ) (at : Sets) (over : Ends) (by : SlotLeaders) (scenario : Scenario) (rows : Rows) (base : Base) (t : IsSentThrough at over by words (births as_nodes scenario) rows base) (stage : Stage) (a : IsAt stage (scene_at (births as_nodes scenario) rows)) (seat : Seat Player)
    (born : IsSeat (births as_nodes scenario) seat) (r : ReplicaState) (view : view_at (births as_nodes scenario) rows base.core.id seat.who ≡ Some r) (runs : r.running ≡ true) where
  abbrev all_ : List (Seat Player)
  all_ = births as_nodes scenario

  the_leader : (node : ℕ) (o : Option ReplicaState) → view_at all_ rows base.core.id node ≡ o → is_running o ≡ true → node ≡ t.course.ballot.node
  the_leader node None e on = absurd (true≢false (sym on))
  the_leader node (Some x) e on = (t.led.followed.given.gives node x e on).1

  lead_is : lead_of (view_at all_ rows base.core.id) (numbers_of all_) ≡ Some seat.who
  lead_is = lead_found (view_at all_ rows base.core.id) (numbers_of all_) seat.who (seat_among all_ seat born) (ap is_running view ∙ runs)
      (λ other on. the_leader other (view_at all_ rows base.core.id other) refl on ∙ sym (t.led.followed.given.gives seat.who r view runs).1)

  work_is : work_at (view_at all_ rows base.core.id) (lead_of (view_at all_ rows base.core.id) (numbers_of all_)) ≡ works_of (Some r)
  work_is = ap (work_at (view_at all_ rows base.core.id)) lead_is ∙ ap works_of view

  pub works_lead : (work : Work) → Among work (works r) → MustLead stage base.core.id
  works_lead work among = work_leads (scene_at all_ rows) stage base.core.id work a (subst (Among work) (sym work_is) among)

module _ (words : ℕ → ℕ → ℕ × ℕ) (at : Sets) (over : Ends) (by : SlotLeaders) (scenario : Scenario) (rows : Rows) (seat : Seat Player) (event : Event OrderLine) (base : Base) (idle : JournalsKeepIdle) (wb : AreWellBorn (births as_nodes scenario))
    (timely : AreInTime (players words (births as_nodes scenario)) (with_event rows seat event)) (born : IsSeat (births as_nodes scenario) seat) (calm : IsCalmEvent (players words (births as_nodes scenario)) rows seat.who event)
    (t : IsSentThrough at over by words (births as_nodes scenario) rows base) (s : IsSentStep at over by words (births as_nodes scenario) rows seat event base t.course) where
  abbrev all : List (Seat Player)
  all = births as_nodes scenario

  abbrev name : Draw
  name = base.core.id

  abbrev now : Course
  now = t.course

  one_runs : (node : ℕ) (o : Option ReplicaState) → view_at all rows base.core.id node ≡ o → is_running o ≡ true → (node ≡ now.ballot.node) × (now.running ≡ true)
  one_runs node None e runs = absurd (true≢false (sym runs))
  one_runs node (Some r) e runs = (let given = t.led.followed.given.gives node r e runs in (given.1, given.0.runs))

  -- a leader stops by an act
  stops_by_act : (r : ReplicaState) (after : Place) → IsReplicasRow all rows seat event base.core.id (Some r) after → r.running ≡ true → (l : LeadsWell at over by all rows seat event base now after) → after.0.running ≡ false → HasAct r
  stops_by_act r after row_ runs l off = elim (leader_moves words at over by scenario rows seat event base now idle wb s.through.one s.through.so timely born calm t.led r after row_ runs l.led.leads.takes) [
    | inr goes ↦ goes.2 off
    | inl same ↦ (let newest = (t.led.followed.given.gives seat.who r row_.was runs).0.newest in let some = (l.led.leads.stops off).0 in let up = l.led.leads.newest in absurd (omega (arith, same, newest, some, up)))
  ]

  -- ---- a group that is gone stays so

  module _ (first : Ballot) (g : StaysGone first t.course) where
    gone_by : (later : Course) → IsGroupRow at over by all rows seat event base t.course later → StaysGone first later
    gone_by later (RowPasses same leaves) = subst (StaysGone first) (sym same) g
    gone_by later (RowRests same r after row_ off still i) = subst (StaysGone first) (sym same) g
    gone_by later (RowTakes same r after mark row_ took steps i) = subst (StaysGone first) (sym same) g
    gone_by later (RowMakes same from slot state sets row_ took logs i) = subst (StaysGone first) (sym same) g
    gone_by later (RowLeads r after row_ runs counts l same) = absurd (true≢false (sym (t.led.followed.given.gives seat.who r row_.was runs).0.runs ∙ g.off))
    gone_by later (RowElects r after ballot row_ off e same) = absurd (true≢false (sym g.gone ∙ e.self_election.stands))

    pub gone_then : StaysGone first s.through.course
    gone_then = subst (StaysGone first) (sym s.same) (gone_by s.step.later s.step.row)

  -- ---- where nothing of an order stands at the leader, it leads on

  module _ (none : (r : ReplicaState) → view_at (births as_nodes scenario) rows base.core.id seat.who ≡ Some r → r.running ≡ true → works r ≡ []) (leads : t.course.running ≡ true) where
    abbrev KeepsOn : Course → Type 0
    KeepsOn c = (c.ballot ≡ t.course.ballot) × (c.running ≡ true)

    same_on : (later : Course) → later ≡ t.course → KeepsOn later
    same_on later same = (ap (λ (c : Course). c.ballot) same, ap (λ (c : Course). c.running) same ∙ leads)

    on_by : (later : Course) → IsGroupRow at over by all rows seat event base t.course later → KeepsOn later
    on_by later (RowPasses same leaves) = same_on later same
    on_by later (RowRests same r after row_ off still i) = same_on later same
    on_by later (RowTakes same r after mark row_ took steps i) = same_on later same
    on_by later (RowMakes same from slot state sets row_ took logs i) = same_on later same
    on_by later (RowLeads r after row_ runs counts l same) = subst KeepsOn (sym same) (elim (cases_Bool after.0.running) [
      | inl on ↦ (refl, on)
      | inr off ↦ (let w = has_work r (stops_by_act r after row_ runs l off) in absurd (subst (Among w.0) (none r row_.was runs) w.1))
    ])
    on_by later (RowElects r after ballot row_ off e same) = absurd (true≢false (sym leads ∙ e.self_election.idle))

    pub on_then : (s.through.course.ballot ≡ t.course.ballot) × (s.through.course.running ≡ true)
    on_then = subst (λ (c : Course). KeepsOn c) (sym s.same) (on_by s.step.later s.step.row)

  -- ---- where an order is given, none elects itself

  module _ (telling : GivesAnOrder event) where
    told_by : (later : Course) → IsGroupRow at over by all rows seat event base t.course later → later.ballot ≡ t.course.ballot
    told_by later (RowPasses same leaves) = ap (λ (c : Course). c.ballot) same
    told_by later (RowRests same r after row_ off still i) = ap (λ (c : Course). c.ballot) same
    told_by later (RowTakes same r after mark row_ took steps i) = ap (λ (c : Course). c.ballot) same
    told_by later (RowMakes same from slot state sets row_ took logs i) = ap (λ (c : Course). c.ballot) same
    told_by later (RowLeads r after row_ runs counts l same) = ap (λ (c : Course). c.ballot) same
    told_by later (RowElects r after ballot row_ off e same) = (let bad : None ≡ Some _ = sym (told_none event base.core.id rows telling) ∙ e.told.2 in cc)

    pub told_then : s.through.course.ballot ≡ t.course.ballot
    told_then = subst (λ (c : Course). c.ballot ≡ t.course.ballot) (sym s.same) (told_by s.step.later s.step.row)

  module _ (stage : Stage) (a : IsAt stage (scene_at (births as_nodes scenario) rows)) where
    -- ---- where one runs, it leads in the scene

    led_runs : MustLead stage base.core.id → now.running ≡ true
    led_runs m =
        let lead = must_lead (scene_at all rows) stage base.core.id a m in
        (one_runs lead.0 (view_at all rows base.core.id lead.0) refl (lead_runs (view_at all rows base.core.id) (numbers_of all) lead.0 lead.1)).1

    -- an act at the one that leads is of the order
    act_leads : (r : ReplicaState) → view_at (births as_nodes scenario) rows base.core.id seat.who ≡ Some r → r.running ≡ true → HasAct r → MustLead stage base.core.id
    act_leads r view runs has = (let w = has_work r has in works_lead words at over by scenario rows base t stage a seat born r view runs w.0 w.1)

    -- ---- the round

    module _ (first : Ballot) where
      abbrev IsOne : Course → Type 0
      IsOne c = (c.ballot ≡ first) ⊎ ((c.ballot.round ≤ first.round + 1) × (c.running ≡ true))

      module _ (was : HasOneRound first stage base.core.id t.course) where
        led_one : (r : ReplicaState) (after : Place) → IsReplicasRow all rows seat event base.core.id (Some r) after → r.running ≡ true → (l : LeadsWell at over by all rows seat event base now after) → IsOne (led_course l.led.bound now after.0)
        led_one r after row_ runs l = elim (cases_Bool after.0.running) [
          | inl on ↦ elim (was.one) [ inl same ↦ inl same | inr low ↦ inr (low.0, on) ]
          | inr off ↦ inl (was.leads (act_leads r row_.was runs (stops_by_act r after row_ runs l off)))
        ]

        elected_one : (r : ReplicaState) (after : Place) (ballot : Ballot) → IsReplicasRow all rows seat event base.core.id (Some r) after → r.running ≡ false → ElectsWell at all rows seat event base now ballot after → IsOne (elected_course now ballot)
        elected_one r after ballot row_ off e = elim (was.one) [
          | inr low ↦ absurd (true≢false (sym low.1 ∙ e.self_election.idle))
          | inl same ↦ (let up = next_round words at over by scenario rows seat event base now idle wb s.through.one s.through.so timely born calm t.led r after ballot row_ off e in
              let most = round_most now.ballot r.top (t.asked.seen seat.who r row_.was) in
              let old = ap (λ (b : Ballot). b.round) same in
              inr (omega (arith, up, most, old), refl))
        ]

        one_then : (later : Course) → IsGroupRow at over by all rows seat event base t.course later → IsOne later
        one_then later (RowPasses same leaves) = subst IsOne (sym same) (was.one)
        one_then later (RowRests same r after row_ off still i) = subst IsOne (sym same) (was.one)
        one_then later (RowTakes same r after mark row_ took steps i) = subst IsOne (sym same) (was.one)
        one_then later (RowMakes same from slot state sets row_ took logs i) = subst IsOne (sym same) (was.one)
        one_then later (RowLeads r after row_ runs counts l same) = subst IsOne (sym same) (led_one r after row_ runs l)
        one_then later (RowElects r after ballot row_ off e same) = subst IsOne (sym same) (elected_one r after ballot row_ off e)

        module _ (telling : GivesAnOrder event → t.course.ballot ≡ first) (asked : (deal : Deal) (to : ℕ) → stage ≡ Asks deal to → deal.asked ≡ base.core.id → (t.course.ballot ≡ first) × (t.course.running ≡ true)) (before : Before base.core.id stage) (begins : stage ≡ Still → GivesAnOrder event) where
          ballot_is : now.ballot ≡ first
          ballot_is = elim (before) [
            | inl m ↦ was.leads m
            | inr new ↦ elim new [ inl still ↦ telling (begins still) | inr asks ↦ (asked asks.0 asks.1 asks.2 asks.3).0 ]
          ]

          -- none elects itself then
          none_elects : (ballot : Ballot) (after : Place) → ElectsWell at all rows seat event base now ballot after → ⊥
          none_elects ballot after e = elim (before) [
            | inl m ↦ true≢false (sym (led_runs m) ∙ e.self_election.idle)
            | inr new ↦ elim new [
              | inl still ↦ (let bad : None ≡ Some _ = sym (told_none event base.core.id rows (begins still)) ∙ e.told.2 in cc)
              | inr asks ↦ true≢false (sym (asked asks.0 asks.1 asks.2 asks.3).1 ∙ e.self_election.idle)
            ]
          ]

          leads_then : (later : Course) → IsGroupRow at over by all rows seat event base t.course later → later.ballot ≡ first
          leads_then later (RowPasses same leaves) = ap (λ (c : Course). c.ballot) same ∙ ballot_is
          leads_then later (RowRests same r after row_ off still i) = ap (λ (c : Course). c.ballot) same ∙ ballot_is
          leads_then later (RowTakes same r after mark row_ took steps i) = ap (λ (c : Course). c.ballot) same ∙ ballot_is
          leads_then later (RowMakes same from slot state sets row_ took logs i) = ap (λ (c : Course). c.ballot) same ∙ ballot_is
          leads_then later (RowLeads r after row_ runs counts l same) = ap (λ (c : Course). c.ballot) same ∙ ballot_is
          leads_then later (RowElects r after ballot row_ off e same) = absurd (none_elects ballot after e)

      module _ (later : Stage) (goes : (later ≡ stage) ⊎ GoesBy rows event stage later) (telling : GivesAnOrder event → t.course.ballot ≡ first) (asked : (deal : Deal) (to : ℕ) → stage ≡ Asks deal to → deal.asked ≡ base.core.id → (t.course.ballot ≡ first) × (t.course.running ≡ true))
          (was : HasOneRound first stage base.core.id t.course) where
        from_before : MustLead later base.core.id → Before base.core.id stage
        from_before m = elim (goes) [ inl same ↦ inl (subst (λ x. MustLead x base.core.id) same m) | inr g ↦ step_back base.core.id g.group stage later g.step m ]

        keeps_then : HasOneRound first later base.core.id s.step.later
        keeps_then = record {
          one = one_then was s.step.later s.step.row;
          leads = λ m. elim (goes) [
            | inl same ↦ (let n : MustLead stage base.core.id = subst (λ x. MustLead x base.core.id) same m in
                leads_then was telling asked (inl n) (λ still. absurd (subst (λ x. MustLead x base.core.id) still n).1) s.step.later s.step.row)
            | inr g ↦ leads_then was telling asked (from_before m) g.begins s.step.later s.step.row
          ];
        }

        pub round_then : HasOneRound first later base.core.id s.through.course
        round_then = subst (HasOneRound first later base.core.id) (sym s.same) keeps_then
