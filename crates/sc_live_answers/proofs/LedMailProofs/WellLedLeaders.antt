-- Who leads a well led group, and what it has in flight in a quiet journal.
use Rattle.std.proofs.Common.{List, None, Option, Some, ap, inl, inr, refl, sym, true, true≢false, ℕ, ◌∙◌, ◌≡◌}
use Rattle.std.proofs.lemmas.Bool.{cases_Bool}
use Rattle.sc_node_table.specs.Values.{Seat, Base}
use Rattle.sc_live_answers.specs.AnswerDefinitions.{LeadsOrNone, QuietLeadersHaveNothing, WellLedLeadAlone}
use Rattle.sc_live_journals.proofs.GroupsProofs.GroupLemmas.{kept_leaders_rest}
use Rattle.sc_live_journals.specs.groups.GroupDefinitions.{Ends, IsWellLed}
use Rattle.sc_live_steps.proofs.CalmStepsProofs.CalmStepLemmas.{unbound_new}
use Rattle.sc_live_steps.specs.calm.CalmDefinitions.{Rows}
use Rattle.sc_live_steps.specs.orders.OrderDefinitions.{IsUnbound}
use Rattle.sc_live_journals.proofs.RowsProofs.RowLemmas.{same_some}
use Rattle.sc_live_journals.specs.rows.RowDefinitions.{progress_at, view_at}
use Rattle.sc_live_journals.specs.scenes.SceneDefinitions.{LeadsAlone}
use Rattle.sc_live_steps.specs.following.FollowingDefinitions.{Course, Sets, SlotLeaders, IsLeadOf}
use Rattle.sc_node_table.specs.NodeDefinitions.{ReplicaState}
use Rattle.sc_meaning.specs.sound.SoundDefinitions.{Player}

module _ (at : Sets) (over : Ends) (by : SlotLeaders) (words : ℕ → ℕ → ℕ × ℕ) (births : List (Seat Player)) (rows : Rows) (base : Base) (course : Course) (was : IsWellLed at over by words births rows base course) where
  module _ (node : ℕ) (r : ReplicaState) (e : view_at births rows base.core.id node ≡ Some r) (runs : r.running ≡ true) where
    pub gives : IsLeadOf at (progress_at births rows base course) r × (node ≡ course.ballot.node)
    gives = was.followed.given.gives node r e runs

    pub alone : LeadsAlone births rows base.core.id node r
    alone = record { is_there = e; running = runs; alone = λ other x f ran. (was.followed.given.gives other x f ran).1 ∙ sym (was.followed.given.gives node r e runs).1 }

    pub unbound : IsUnbound r
    unbound slot low = unbound_new r.leader (was.orderly node r e runs).plain slot

  one_by : (o : Option ReplicaState) → view_at births rows base.core.id course.ballot.node ≡ o → LeadsOrNone births rows base.core.id
  one_by None e = inr (λ node r f. elim (cases_Bool r.running) [
    | inl runs ↦ (let bad : Some r ≡ None = sym f ∙ (ap (view_at births rows base.core.id) (gives node r f runs).1 ∙ e) in cc)
    | inr off ↦ off
  ])
  one_by (Some lead) e = elim (cases_Bool lead.running) [
    | inl runs ↦ inl (course.ballot.node, lead, alone course.ballot.node lead e runs)
    | inr off ↦ inr (λ node r f. elim (cases_Bool r.running) [
      | inl runs ↦ (let same : Some r ≡ Some lead = sym f ∙ (ap (view_at births rows base.core.id) (gives node r f runs).1 ∙ e) in
          absurd (true≢false (sym runs ∙ (ap (λ (x : ReplicaState). x.running) (same_some (view_at births rows base.core.id course.ballot.node) r lead (sym (ap (view_at births rows base.core.id) (gives node r f runs).1) ∙ f) e) ∙ off))))
      | inr none ↦ none
    ])
  ]

  pub one : LeadsOrNone births rows base.core.id
  one = one_by (view_at births rows base.core.id course.ballot.node) refl

-- A well led group has one that leads alone, bound by no report, or none runs; and each replica that runs is that one.
pub well_led_lead_alone : WellLedLeadAlone
well_led_lead_alone = record {
  alone = λ at over by words births rows base course node r was e runs. (alone at over by words births rows base course was node r e runs, unbound at over by words births rows base course was node r e runs);
  one = λ at over by words births rows base course was. one at over by words births rows base course was;
}

-- In a quiet journal each replica of a well led group that runs has nothing in flight.
pub quiet_leaders_have_nothing : QuietLeadersHaveNothing
quiet_leaders_have_nothing at over by words births rows base course node r kept rosters timely quiet strangers was e runs room waits =
    let g = gives at over by words births rows base course was node r e runs in
    let there : view_at births rows base.core.id course.ballot.node ≡ Some r = ap (view_at births rows base.core.id) (sym g.1) ∙ e in
    let rest = kept_leaders_rest at over by words births rows base course r kept rosters timely quiet strangers was g.0.stands there room in
    record { flights = rest.flights; ready = rest.ready; waits = waits }
