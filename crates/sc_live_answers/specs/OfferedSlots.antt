-- No mail ever asked to accept anything at a slot beyond what the group's leader offered.
use Rattle.std.specs.Prelude.{◌≡◌, ℕ, ◌<◌, List, []}
use Rattle.sc_base.specs.Definitions.{Each}
use Rattle.sc_node_table.specs.Values.{Draw, Base, Mail, MailBody, Request, Answer, Prepare, Promise, Accept, Accepted, Nack, Learn, Ask, Install, TxPrepare, TxVote, TxOutcome, TxElsewhere, TxWatch, TxWatched, Told, Seat}
use Rattle.sc_actor.specs.Definitions.{mails}
use Rattle.sc_live_orderly.specs.OrderlyDefinitions.{AreInTime}
use Rattle.sc_meaning.specs.sound.SoundDefinitions.{Player}
use Rattle.sc_live_steps.specs.calm.CalmDefinitions.{players, Rows}
use Rattle.sc_live_steps.specs.following.FollowingDefinitions.{Course, Sets, SlotLeaders}
use Rattle.sc_live_journals.specs.groups.GroupDefinitions.{Ends, IsWellLed, AreTaughtAt, IsTaughtOn, AreWellBorn, HasOneLog, IsSentSo}

-- the mail asks to accept only below this slot in the group with this name; all other mail is allowed
abbrev pub AsksBelow : Draw → ℕ → MailBody → Type 0
AsksBelow name bound (Accept group ballot slot command) = group ≡ name → slot < bound
AsksBelow name bound (Request group client seq op) = Unit {0}
AsksBelow name bound (Answer group seq answer) = Unit {0}
AsksBelow name bound (Prepare group ballot from_slot) = Unit {0}
AsksBelow name bound (Promise group ballot reports) = Unit {0}
AsksBelow name bound (Accepted group ballot slot) = Unit {0}
AsksBelow name bound (Nack group promised) = Unit {0}
AsksBelow name bound (Learn group slot command) = Unit {0}
AsksBelow name bound (Ask group from_slot) = Unit {0}
AsksBelow name bound (Install group slot base sets) = Unit {0}
AsksBelow name bound (TxPrepare tx offer) = Unit {0}
AsksBelow name bound (TxVote tx coord part vote) = Unit {0}
AsksBelow name bound (TxOutcome tx part outcome) = Unit {0}
AsksBelow name bound (TxElsewhere tx coord hint) = Unit {0}
AsksBelow name bound (TxWatch tx watch) = Unit {0}
AsksBelow name bound (TxWatched tx coord part vote) = Unit {0}
AsksBelow name bound (Told order result) = Unit {0}

-- each of these mails is as `AsksBelow` says
abbrev pub AreAskedBelow : Draw → ℕ → List Mail → Type 0
AreAskedBelow name bound sent = Each (λ mail. AsksBelow name bound mail.body) sent

-- after some rows a group is well led and its members learn all entries, in a course beyond whose bound no mail ever asked for anything
pub record IsAskedOn (at : Sets) (over : Ends) (by : SlotLeaders) (words : ℕ → ℕ → ℕ × ℕ) (births : List (Seat Player)) (rows : Rows) (base : Base) : Type 0 where
  pub course : Course
  pub led : IsWellLed at over by words births rows base course
  pub taught : AreTaughtAt at words births rows base course
  pub asked : AreAskedBelow base.core.id course.bound (mails rows)

-- `IsAskedOn` holds after a journal whose rows come in time, where the group has one log, its mail is as `IsSentSo` says, and its members are taught at the births
abbrev pub GroupsAreAskedThrough : Type 0
GroupsAreAskedThrough =
    (at : Sets) (over : Ends) (by : SlotLeaders) (words : ℕ → ℕ → ℕ × ℕ) (births : List (Seat Player)) (journal : Rows) (base : Base) → AreWellBorn births → HasOneLog at over by births journal base → IsSentSo births journal base
    → AreInTime (players words births) journal → IsTaughtOn at over by words births [] base → IsAskedOn at over by words births journal base
