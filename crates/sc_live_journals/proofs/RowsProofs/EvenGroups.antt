-- A group that follows its leader is even in a quiet journal.
use Rattle.std.proofs.Common.{◌≡◌, ℕ, true, false, List, [], inl, inr, ap, subst}
use Rattle.std.proofs.lemmas.Bool.{cases_Bool}
use Rattle.sc_node_table.specs.Values.{Base, Seat}
use Rattle.sc_base.specs.Definitions.{IsRoster}
use Rattle.sc_actor.specs.Definitions.{is_quiet}
use Rattle.sc_live_orderly.specs.OrderlyDefinitions.{is_born, AreInTime}
use Rattle.sc_live_orderly.proofs.OrderlyLemmas.{in_time_tidy, quiet-empty}
use Rattle.sc_meaning.specs.sound.SoundDefinitions.{Player}
use Rattle.sc_live_steps.specs.calm.CalmDefinitions.{players, Rows}
use Rattle.sc_live_steps.specs.following.FollowingDefinitions.{marks_of, Course, Sets, IsEven, IsEvenLed}
use Rattle.sc_live_steps.proofs.FollowingProofs.FollowingLemmas.{quiet-even}
use Rattle.sc_live_journals.specs.rows.RowDefinitions.{IsEvenAt, QuietGroupsRest, progress_at, marks_at, IsLedBy, IsFollowedAt}

-- in a quiet journal no mail of the group is pending for anybody
pub none_pending : (words : ℕ → ℕ → ℕ × ℕ) (births : List (Seat Player)) (rows : Rows) (base : Base) → AreInTime (players words births) rows → is_quiet (players words births) rows ≡ true
    → ((who : ℕ) → is_born (players words births) who ≡ false → marks_at (players words births) rows base.core.id who ≡ []) → (who : ℕ) → marks_at (players words births) rows base.core.id who ≡ []
none_pending words births rows base timely quiet strangers who = elim (cases_Bool (is_born (players words births) who)) [
  | inl t ↦ ap (marks_of base.core.id) (quiet-empty (players words births) rows who (in_time_tidy (players words births) rows timely) t quiet)
  | inr f ↦ strangers who f
]

module _ (at : Sets) (words : ℕ → ℕ → ℕ × ℕ) (births : List (Seat Player)) (rows : Rows) (base : Base) (course : Course) (rosters : (slot : ℕ) → IsRoster (at slot)) (timely : AreInTime (players words births) rows)
    (quiet : is_quiet (players words births) rows ≡ true) (strangers : (who : ℕ) → is_born (players words births) who ≡ false → marks_at (players words births) rows base.core.id who ≡ []) (was : IsFollowedAt at words births rows base course) where
  both : IsEven at (progress_at births rows base course) × (course.gone ≡ false → IsEvenLed at (progress_at births rows base course))
  both = quiet-even at (progress_at births rows base course) (marks_at (players words births) rows base.core.id) rosters (none_pending words births rows base timely quiet strangers) was.follows

  rests : IsEvenAt at births rows base course
  rests = record {
    even = both.0;
    led = both.1;
    lead = λ stands r e. (was.given.gives course.ballot.node r e (subst (IsLedBy base course) e (was.given.runs (both.1 stands).runs))).0;
    alone = λ node r e runs. (was.given.gives node r e runs).1;
  }

-- In a quiet journal a group that follows its leader is even: its members have executed all, and if it stands, the replica at the node of its ballot leads, and no other runs.
pub quiet_rests : QuietGroupsRest
quiet_rests at words births rows base course rosters timely quiet strangers was = rests at words births rows base course rosters timely quiet strangers was
