-- Which groups an order has not touched so far, and that these stay as they were in the quiet journal before the order.
use Rattle.std.specs.Prelude.{◌≡◌, ℕ, true, List, [], ◌∷◌, Some, None, ◌⊎◌}
use Rattle.sc_base.specs.Definitions.{Each}
use Rattle.sc_node_table.specs.Values.{Draw, OrderLine, Mail, AnswerBody, Answer, Seat, Deliver}
use Rattle.sc_actor.specs.declared.rows.Event.TheVariants.{Told}
use Rattle.sc_actor.specs.Definitions.{mails, numbered, is_quiet}
use Rattle.sc_live_orderly.specs.OrderlyDefinitions.{rest, is_born, AreInTime}
use Rattle.sc_node_table.specs.NodeDefinitions.{NodeState, replica_of, group_of_mail, ReplicaState, mailed}
use Rattle.sc_meaning.specs.sound.SoundDefinitions.{Player}
use Rattle.sc_live_steps.specs.calm.CalmDefinitions.{players, Rows}
use Rattle.sc_live_steps.specs.orders.OrderDefinitions.{Turn, First, Lone, Next, Errand, Scene, Deal, Stage, Still, Ordered, Asks, SentOn, Weighs, Replied, Recorded, Closes, ClosesBoth, parties_of, IsAt, errand_by}
use Rattle.sc_live_journals.specs.rows.RowDefinitions.{view_at, IsSeat, with_event}
use Rattle.sc_live_journals.specs.scenes.ScenePremises.{FindsOrder}
use Rattle.sc_live_journals.specs.scenes.OrderRows.{GoesBy}
use Rattle.sc_live_journals.specs.scenes.JournalScenes.{scene_at}
use Rattle.sc_live_journals.specs.scenes.SceneReceivers.{IsTaking}

-- ---- groups

-- The name is that of the participant that was heard.
abbrev pub IsHeard : Turn → Draw → Type 0
IsHeard First name = ⊥
IsHeard Lone name = ⊥
IsHeard (Next part host) name = name ≡ part

-- The order, at this stage, has not touched the group: it neither took the order nor a question.
-- At the stages where nothing is under way, or an outcome is, no group counts as untouched.
abbrev pub IsFresh : Stage → Draw → Type 0
IsFresh Still name = ⊥
IsFresh (Ordered group chief work) name = name ≡ group → ⊥
IsFresh (Asks deal to) name = (name ≡ deal.coord → ⊥) × (IsHeard deal.turn name → ⊥)
IsFresh (SentOn deal) name = (name ≡ deal.coord → ⊥) × (IsHeard deal.turn name → ⊥)
IsFresh (Weighs deal host) name = (name ≡ deal.coord → ⊥) × (name ≡ deal.asked → ⊥) × (IsHeard deal.turn name → ⊥)
IsFresh (Replied deal agreed host) name = (name ≡ deal.coord → ⊥) × (name ≡ deal.asked → ⊥) × (IsHeard deal.turn name → ⊥)
IsFresh (Recorded deal agreed host) name = (name ≡ deal.coord → ⊥) × (name ≡ deal.asked → ⊥) × (IsHeard deal.turn name → ⊥)
IsFresh (Closes tx party) name = ⊥
IsFresh (ClosesBoth tx one two) name = ⊥

-- Some node has a replica of the group.
abbrev pub IsThere : List (Seat Player) → Rows → Draw → Type 0
IsThere births rows name = (node : ℕ) × (r : ReplicaState) × (view_at births rows name node ≡ Some r)

-- No node has a replica of the group.
abbrev pub IsNowhere : List (Seat Player) → Rows → Draw → Type 0
IsNowhere births rows name = (node : ℕ) → view_at births rows name node ≡ None

-- Each group that has a part in this stage has a replica.
abbrev pub AreThere : List (Seat Player) → Rows → Stage → Type 0
AreThere births rows stage = Each (λ party. IsThere births rows party.0) (parties_of stage)

-- The mail is an errand.
abbrev pub IsErrand : Mail → Type 0
IsErrand mail = (entry : Draw × Errand) × (errand_by mail.from mail.to mail.body ≡ Some entry)

-- If the mail is for this group, it is an errand.
abbrev pub IsErrandFor : Draw → Mail → Type 0
IsErrandFor name mail = group_of_mail mail.body ≡ Some name → IsErrand mail

-- This stage stands after these rows, and its groups had replicas in the quiet journal.
-- Each group that had one there, and is untouched, has the replicas that it had, and all mail under way for it are errands.
pub record AreUntouched (words : ℕ → ℕ → ℕ × ℕ) (births : List (Seat Player)) (quiet rows : Rows) (stage : Stage) : Type 0 where
  pub stands : IsAt stage (scene_at births rows)
  pub parties : AreThere births quiet stage
  pub views : (name : Draw) → IsFresh stage name → IsThere births quiet name → (who : ℕ) → view_at births rows name who ≡ view_at births quiet name who
  pub mails : (name : Draw) → IsFresh stage name → IsThere births quiet name → (who : ℕ) → is_born (players words births) who ≡ true → Each (IsErrandFor name) (rest (players words births) rows who)

-- ---- rows

-- A delivery in time that finds what an order needs, and is no answer to a client.
-- Each child that it creates is of a group without replica in the quiet journal, and a group that is asked after it had one there.
pub record IsDelivered (words : ℕ → ℕ → ℕ × ℕ) (births : List (Seat Player)) (quiet rows : Rows) (seat : Seat Player) (number : ℕ) : Type 0 where
  pub seated : IsSeat births seat
  pub timely : AreInTime (players words births) (with_event rows seat (Deliver number))
  pub finds : FindsOrder words births rows seat (Deliver number)
  pub unanswered : (mail : Mail) (group : Draw) (seq : ℕ) (answer : AnswerBody) → numbered (mails rows) number ≡ Some mail → mail.body ≡ Answer group seq answer → ⊥
  pub children : (mail : Mail) (group : Draw) (node : NodeState) (r : ReplicaState) → IsTaking words births rows seat number mail group node → replica_of group node.replicas ≡ Some r
      → Each (λ child. IsNowhere births quiet child.core.id) (mailed mail.from mail.body (r, [])).1
  pub asked : (deal : Deal) (to : ℕ) → IsAt (Asks deal to) (scene_at births (with_event rows seat (Deliver number))) → IsThere births quiet deal.asked

-- The rows, with those of these deliveries appended, one after another.
abbrev pub after_all : Rows → List (Seat Player × ℕ) → Rows
after_all rows [] = rows
after_all rows (turn ∷ turns) = after_all (with_event rows turn.0 (Deliver turn.1)) turns

-- Each of these deliveries is one that `IsDelivered` describes.
abbrev pub AreDelivered : (ℕ → ℕ → ℕ × ℕ) → List (Seat Player) → Rows → Rows → List (Seat Player × ℕ) → Type 0
AreDelivered words births quiet rows [] = Unit {0}
AreDelivered words births quiet rows (turn ∷ turns) = IsDelivered words births quiet rows turn.0 turn.1 × AreDelivered words births quiet (with_event rows turn.0 (Deliver turn.1)) turns

-- An order is given in a quiet journal, at the stage `Still`, and finds what it needs.
pub record IsGivenInQuiet (words : ℕ → ℕ → ℕ × ℕ) (births : List (Seat Player)) (quiet : Rows) (seat : Seat Player) (line : OrderLine) : Type 0 where
  pub seated : IsSeat births seat
  pub timely : AreInTime (players words births) (with_event quiet seat (Told line))
  pub still : IsAt Still (scene_at births quiet)
  pub calm : is_quiet (players words births) quiet ≡ true
  pub finds : FindsOrder words births quiet seat (Told line)

-- `AreUntouched` holds after the order that is given in quiet, after each delivery, which leaves the stage or leads to the next one, and after all.
-- What such a group is delivered is an errand; and a group that is asked, and has not taken the question, is such a group.
pub record FreshGroupsStay : Type 0 where
  pub begins : (words : ℕ → ℕ → ℕ × ℕ) (births : List (Seat Player)) (quiet : Rows) (seat : Seat Player) (line : OrderLine) → IsGivenInQuiet words births quiet seat line
      → (stage : Stage) × AreUntouched words births quiet (with_event quiet seat (Told line)) stage
  pub goes_on : (words : ℕ → ℕ → ℕ × ℕ) (births : List (Seat Player)) (quiet rows : Rows) (seat : Seat Player) (number : ℕ) (stage : Stage) → AreUntouched words births quiet rows stage
      → IsDelivered words births quiet rows seat number → (later : Stage) × AreUntouched words births quiet (with_event rows seat (Deliver number)) later × ((later ≡ stage) ⊎ GoesBy rows (Deliver number) stage later)
  pub through : (words : ℕ → ℕ → ℕ × ℕ) (births : List (Seat Player)) (quiet : Rows) (seat : Seat Player) (line : OrderLine) (turns : List (Seat Player × ℕ)) → IsGivenInQuiet words births quiet seat line
      → AreDelivered words births quiet (with_event quiet seat (Told line)) turns → (stage : Stage) × AreUntouched words births quiet (after_all (with_event quiet seat (Told line)) turns) stage
  pub errands : (words : ℕ → ℕ → ℕ × ℕ) (births : List (Seat Player)) (quiet rows : Rows) (seat : Seat Player) (number : ℕ) (stage : Stage) (name : Draw) (mail : Mail) → AreUntouched words births quiet rows stage
      → IsDelivered words births quiet rows seat number → IsFresh stage name → IsThere births quiet name → numbered (mails rows) number ≡ Some mail → group_of_mail mail.body ≡ Some name → IsErrand mail
  pub asked : (now : Scene) (deal : Deal) (to : ℕ) → IsAt (Asks deal to) now → IsFresh (Asks deal to) deal.asked
  pub sent_on : (now : Scene) (deal : Deal) → IsAt (SentOn deal) now → IsFresh (SentOn deal) deal.asked
