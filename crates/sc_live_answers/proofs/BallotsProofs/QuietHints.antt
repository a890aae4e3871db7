-- In quiet, hints rise.
use Rattle.std.proofs.Common.{◌≡◌, ℕ, ◌<◌, ◌≤◌, true, false, true≢false, List, [], Option, Some, None, ◌⊎◌, inl, inr, refl, sym, ◌∙◌, ap, subst, arith, append-nil}
use Rattle.std.specs.Prelude.{is_some}
use Rattle.std.proofs.lemmas.Bool.{cases_Bool}
use Rattle.sc_node_table.specs.Values.{Ballot, Draw, Base, Route, Seat}
use Rattle.sc_base.specs.Definitions.{is_member}
use Rattle.sc_words.specs.paxos.PaxosDefinitions.{IsAtLeast}
use Rattle.sc_words.proofs.PaxosProofs.PaxosLemmas.{same_from_at_least}
use Rattle.sc_scenario.specs.declared.scenario.scenarios.Scenario.{Scenario}
use Rattle.sc_node_table.specs.NodeDefinitions.{ReplicaState, next}
use Rattle.sc_meaning.specs.sound.SoundDefinitions.{Player, births, as_nodes}
use Rattle.sc_live_steps.specs.calm.CalmDefinitions.{players, HasReplica, RisesAt, Rows}
use Rattle.sc_live_steps.specs.following.FollowingDefinitions.{Mark, reached, pledged, Course, Progress, Sets, IsOpen, IsFollowing, SlotLeaders, hinted}
use Rattle.sc_live_journals.specs.rows.RowDefinitions.{view_at, marks_at, next_in, promise_in, progress_at}
use Rattle.sc_live_journals.specs.groups.GroupDefinitions.{Ends, hint_in, hints_at, IsTopKept}
use Rattle.sc_live_journals.proofs.GroupsProofs.GroupLemmas.{replicas_kept, scenarios_kept_born}
use Rattle.sc_live_answers.specs.AnswerDefinitions.{IsSentThrough, IsPassed, IsFated, QuietHintsRise, IsRisingOn}
use Rattle.sc_live_answers.proofs.QuietProofs.EvenReplicas.{has_one as even_has, leader as even_leader, over_then as even_over}
use Rattle.sc_live_answers.proofs.BallotsProofs.HintedMarks.{round_most, open_or}
use Rattle.std.proofs.lemmas.Option.{same_Some}

-- a group that says that it is gone
gone_of : (o : Option Route) → is_some o ≡ true → (into : Route) × (o ≡ Some into)
gone_of None e = absurd (true≢false (sym e))
gone_of (Some into) e = (into, refl)

module _ (words : ℕ → ℕ → ℕ × ℕ) (at : Sets) (over : Ends) (by : SlotLeaders) (scenario : Scenario) (prefix : Rows) (base : Base) (t : IsSentThrough at over by words (births as_nodes scenario) prefix base) (rising : IsRisingOn at by words (births as_nodes scenario) prefix base t.course)
    (none : (who : ℕ) → marks_at (players words (births as_nodes scenario)) prefix base.core.id who ≡ []) (born : (node : ℕ) → is_member base.core.members node ≡ true → HasReplica (view_at (births as_nodes scenario) prefix) base.core.id node) where
  abbrev all : List (Seat Player)
  all = births as_nodes scenario

  abbrev name : Draw
  name = base.core.id

  abbrev course : Course
  course = t.course

  abbrev now : Progress
  now = progress_at all prefix base course

  abbrev marks : ℕ → List Mark
  marks = marks_at (players words all) prefix name

  follows : IsFollowing at now marks
  follows = t.led.followed.follows

  topped : (node : ℕ) (r : ReplicaState) → view_at all prefix base.core.id node ≡ Some r → IsTopKept node r
  topped node r e = (replicas_kept all prefix name node r (scenarios_kept_born scenario) e).0

  -- it saw no ballot that it has not promised
  top_is : (node : ℕ) (r : ReplicaState) → view_at all prefix base.core.id node ≡ Some r → r.top ≡ r.acceptor.promised
  top_is node r e = same_from_at_least r.top r.acceptor.promised (topped node r e).1 (subst (λ l. IsAtLeast (pledged r.acceptor.promised l) r.top) (none node) (rising.seen node r e))

  -- a replica that has executed all of a group that is gone says so
  ends : (node : ℕ) (r : ReplicaState) → view_at all prefix base.core.id node ≡ Some r → course.gone ≡ true → next r ≡ course.newest → (into : Route) × (r.group.core.gone ≡ Some into)
  ends node r e gone last = gone_of r.group.core.gone ((t.one.states prefix [] node r (sym (append-nil prefix)) e).ends ∙ (ap over last ∙ (sym t.led.ends ∙ gone)))

  has_one : (node : ℕ) → 1 ≤ now.next node → HasReplica (view_at (births as_nodes scenario) prefix) base.core.id node
  has_one = even_has words at over by (births as_nodes scenario) prefix base t born

  -- the one that leads
  leader : course.running ≡ true → (lead : ReplicaState) × (view_at (births as_nodes scenario) prefix base.core.id course.ballot.node ≡ Some lead) × (lead.running ≡ true)
  leader = even_leader words at over by (births as_nodes scenario) prefix base t born

  -- where none leads, the group is gone
  over_then : course.running ≡ false → course.gone ≡ true
  over_then = even_over words at over by (births as_nodes scenario) prefix base t none

  module _ (node : ℕ) (r : ReplicaState) (here : view_at (births as_nodes scenario) prefix base.core.id node ≡ Some r) (off : r.running ≡ false) (stands : r.group.core.gone ≡ None) where
    hint_here : hints_at all prefix base node ≡ r.hint
    hint_here = ap (hint_in base) here

    promise_here : now.promise node ≡ r.acceptor.promised
    promise_here = ap (promise_in base) here

    -- it is not the one that leads
    apart : course.running ≡ true → node ≡ course.ballot.node → ⊥
    apart runs fact =
        let lead = leader runs in
        let same : r ≡ lead.0 = same_Some r lead.0 (sym here ∙ (ap (view_at all prefix name) fact ∙ lead.1)) in
        true≢false (sym lead.2 ∙ (ap (λ (x : ReplicaState). x.running) (sym same) ∙ off))

    -- one that takes the leader of the ballot for it that it has promised
    open_rises : course.running ≡ true → IsOpen at course.newest node → RisesAt (view_at (births as_nodes scenario) prefix) base.core.id r
    open_rises runs opened =
        let lead = leader runs in
        let promise : now.promise node ≡ course.ballot = ap (pledged (now.promise node)) (sym (none node)) ∙ (follows.ready node opened).promised in
        let top : r.top ≡ course.ballot = top_is node r here ∙ (sym promise_here ∙ promise) in
        let hint : r.hint ≡ Some course.ballot.node = sym hint_here ∙ (ap (hinted at by (now.promise node) (hints_at all prefix base node)) (sym (none node)) ∙ t.led.heeded.ends runs node (apart runs) opened) in
        record {
          hint_is = hint ∙ ap (λ (b : Ballot). Some b.node) (sym top);
          there = lead.0;
          is_there = ap (λ (b : Ballot). view_at all prefix name b.node) top ∙ lead.1;
          nearer = inl lead.2;
        }

    -- a replica that has left the group rises too
    fated_rises : IsFated at by now (hints_at all prefix base) marks node → RisesAt (view_at (births as_nodes scenario) prefix) base.core.id r
    fated_rises f =
        let pledge : pledged (now.promise node) (marks node) ≡ r.top = ap (pledged (now.promise node)) (none node) ∙ (promise_here ∙ sym (top_is node r here)) in
        let hint : r.hint ≡ Some r.top.node = sym hint_here ∙ (ap (hinted at by (now.promise node) (hints_at all prefix base node)) (sym (none node)) ∙ (f.hint_is ∙ ap (λ (b : Ballot). Some b.node) pledge)) in
        let held : 1 ≤ now.next r.top.node = subst (λ (b : Ballot). 1 ≤ now.next b.node) (promise_here ∙ sym (top_is node r here)) (t.sent.homes.promised node) in
        let one = has_one r.top.node held in
        record { hint_is = hint; there = one.0; is_there = one.1; nearer = near one.0 one.1 (subst (IsPassed now marks) pledge f.passed) }
      where
        near : (there : ReplicaState) → view_at all prefix base.core.id r.top.node ≡ Some there → IsPassed now marks r.top → (there.running ≡ true) ⊎ (((into : Route) × (there.group.core.gone ≡ Some into)) ⊎ (r.top.round < there.top.round))
        near there e (inl same) = elim (cases_Bool course.running) [
          | inl runs ↦ (let lead = leader runs in
              let fact : lead.0 ≡ there = same_Some lead.0 there (sym lead.1 ∙ (ap (λ (b : Ballot). view_at all prefix name b.node) (sym same) ∙ e)) in
              inl (ap (λ (x : ReplicaState). x.running) (sym fact) ∙ lead.2))
          | inr off_ ↦ (let gone = over_then off_ in
              let last : next there ≡ course.newest = sym (ap (next_in base r.top.node) e) ∙ (ap (λ (b : Ballot). now.next b.node) same ∙ rising.fated.last off_ gone) in
              inr (inl (ends r.top.node there e gone last)))
        ]
        near there e (inr lt) =
            let promise : pledged (now.promise r.top.node) (marks r.top.node) ≡ there.acceptor.promised = ap (pledged (now.promise r.top.node)) (none r.top.node) ∙ ap (promise_in base) e in
            let up = ap (λ (b : Ballot). b.round) promise in
            let most = round_most there.top there.acceptor.promised (topped r.top.node there e).1 in
            inr (inr (omega (arith, lt, up, most)))

    closed_rises : (IsOpen at course.newest node → course.gone ≡ true) → RisesAt (view_at (births as_nodes scenario) prefix) base.core.id r
    closed_rises prem = elim (rising.fated.fates node prem) [
      | inr f ↦ fated_rises f
      | inl e ↦ (let last : next r ≡ course.newest = sym (ap (next_in base node) here) ∙ (ap (reached (now.next node)) (sym (none node)) ∙ e.1) in
          let gone = ends node r here e.0 last in
          let bad : None ≡ Some gone.0 = sym stands ∙ gone.1 in
          cc)
    ]

    rises : RisesAt (view_at (births as_nodes scenario) prefix) base.core.id r
    rises = elim (open_or at node course.newest) [
      | inr closed ↦ closed_rises (λ o. absurd (closed o))
      | inl opened ↦ elim (cases_Bool course.running) [ inl runs ↦ open_rises runs opened | inr off_ ↦ closed_rises (λ o. over_then off_) ]
    ]

-- So where none of the group's mail is under way, and its first members have made their replicas, hints rise.
pub quiet_hints_rise : QuietHintsRise
quiet_hints_rise words at over by scenario prefix base t rising none born node r here off stands = rises words at over by scenario prefix base t rising none (born (node, r, here)) node r here off stands
