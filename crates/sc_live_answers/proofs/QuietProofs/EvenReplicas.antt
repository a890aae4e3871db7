-- A quiet prefix of a calm journal: a group's replicas are even, and one leads where it stands.
use Rattle.std.proofs.Common.{◌≡◌, ℕ, ◌+◌, ◌≤◌, Bool, true, false, cond, List, [], Option, Some, None, inl, inr, refl, sym, ◌∙◌, ap, arith}
use Rattle.std.proofs.lemmas.Bool.{cases_Bool}
use Rattle.sc_node_table.specs.Values.{Draw, Base, Seat}
use Rattle.sc_base.specs.Definitions.{is_member, least_of}
use Rattle.sc_node_table.specs.NodeDefinitions.{ReplicaState}
use Rattle.sc_meaning.specs.sound.SoundDefinitions.{Player}
use Rattle.sc_live_steps.specs.calm.CalmDefinitions.{players, HasReplica, Rows}
use Rattle.sc_live_steps.specs.following.FollowingDefinitions.{Course, Progress, Sets, members_at, IsEven, IsEvenLed, SlotLeaders}
use Rattle.sc_live_steps.proofs.FollowingProofs.FollowingLemmas.{quiet-even, least_in}
use Rattle.sc_live_journals.specs.rows.RowDefinitions.{view_at, marks_at, next_in, progress_at, IsLedBy}
use Rattle.sc_live_journals.specs.groups.GroupDefinitions.{Ends}
use Rattle.sc_live_answers.specs.AnswerDefinitions.{IsSentThrough}

module _ (words : ℕ → ℕ → ℕ × ℕ) (at : Sets) (over : Ends) (by : SlotLeaders) (births : List (Seat Player)) (prefix : Rows) (base : Base) (t : IsSentThrough at over by words births prefix base) where
  abbrev name : Draw
  name = base.core.id

  abbrev course : Course
  course = t.course

  abbrev now : Progress
  now = progress_at births prefix base course

  -- the one that leads
  pub leader : ((node : ℕ) → is_member base.core.members node ≡ true → HasReplica (view_at births prefix) base.core.id node) → t.course.running ≡ true → (lead : ReplicaState) × (view_at births prefix base.core.id t.course.ballot.node ≡ Some lead) × (lead.running ≡ true)
  leader born runs = by_view (view_at births prefix name course.ballot.node) refl (t.led.followed.given.runs runs)
    where
      by_view : (o : Option ReplicaState) → view_at births prefix base.core.id course.ballot.node ≡ o → IsLedBy base course o → (lead : ReplicaState) × (view_at births prefix base.core.id course.ballot.node ≡ Some lead) × (lead.running ≡ true)
      by_view (Some lead) e on = (lead, e, on)
      by_view None e begins =
          let first : course.ballot.node ≡ base.core.first = ap (λ (c : Course). c.ballot.node) begins in
          let made = born course.ballot.node (ap (is_member base.core.members) first ∙ t.one.first) in
          let bad : None ≡ Some made.0 = sym e ∙ made.1 in
          cc

  -- one that has executed something has its replica
  pub has_one : ((node : ℕ) → is_member base.core.members node ≡ true → HasReplica (view_at births prefix) base.core.id node) → (node : ℕ) → 1 ≤ next_in base node (view_at births prefix base.core.id node) → HasReplica (view_at births prefix) base.core.id node
  has_one born node some = by_view (view_at births prefix name node) refl some
    where
      first : (b : Bool) → is_member base.core.members node ≡ b → 1 ≤ cond b 1 0 → HasReplica (view_at births prefix) base.core.id node
      first true fact low = born node fact
      first false fact low = absurd (omega (arith, low))

      by_view : (o : Option ReplicaState) → view_at births prefix base.core.id node ≡ o → 1 ≤ next_in base node o → HasReplica (view_at births prefix) base.core.id node
      by_view (Some r) e low = (r, e)
      by_view None e low = first (is_member base.core.members node) refl low

  module _ (none : (who : ℕ) → marks_at (players words births) prefix base.core.id who ≡ []) where
    pub even : IsEven at (progress_at births prefix base t.course) × (t.course.gone ≡ false → IsEvenLed at (progress_at births prefix base t.course))
    even = quiet-even at now (marks_at (players words births) prefix name) t.one.log.rosters none t.led.followed.follows

    -- where none leads, the group is gone
    pub over_then : t.course.running ≡ false → t.course.gone ≡ true
    over_then off = elim (cases_Bool course.gone) [
      | inl t_ ↦ t_
      | inr stands ↦ (let low = t.led.followed.follows.self_election off stands in
          let all_ = even.0.members (least_of (members_at at course.newest)) (least_in (members_at at course.newest) (t.one.log.rosters (course.newest + 3)).some) in
          absurd (omega (arith, low, all_)))
    ]
