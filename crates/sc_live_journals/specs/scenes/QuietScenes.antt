-- No order is under way in a quiet journal, and a leader's one work is in flight alone.
use Rattle.std.specs.Prelude.{◌≡◌, ℕ, true, List, [], ◌∷◌, Some}
use Rattle.sc_base.specs.Definitions.{Among, Each}
use Rattle.sc_node_table.specs.Values.{Draw, Command, Free, OrderLine, Event, Mail, Seat, Flight}
use Rattle.sc_actor.specs.declared.rows.Event.TheVariants.{Told}
use Rattle.sc_node_table.specs.NodeDefinitions.{NodeState, group_of_order, ReplicaState, next}
use Rattle.sc_live_journals.specs.rows.RowDefinitions.{IsSeat, with_event, view_at}
use Rattle.sc_live_journals.specs.scenes.VotesAndOrders.{IsOrdered}
use Rattle.sc_live_journals.specs.scenes.OrderRows.{KeepsStage}
use Rattle.sc_actor.specs.Definitions.{mails, is_quiet}
use Rattle.sc_live_orderly.specs.OrderlyDefinitions.{is_born, AreInTime}
use Rattle.sc_meaning.specs.sound.SoundDefinitions.{Player}
use Rattle.sc_live_steps.specs.calm.CalmDefinitions.{players, Rows}
use Rattle.sc_live_steps.specs.orders.OrderDefinitions.{Unbound, Errand, Work, IsAt, Still, IsUnderWay, work_by, works_in, works, errand_by, FliesLone, IsUnbound}
use Rattle.sc_live_journals.specs.scenes.JournalScenes.{scene_at}
use Rattle.sc_live_journals.specs.scenes.SceneRows.{LeadsAlone}

-- If the mail is an errand, its receiver is an actor.
abbrev pub GoesToActor : (ℕ → ℕ → ℕ × ℕ) → List (Seat Player) → Mail → Type 0
GoesToActor words births mail = (entry : Draw × Errand) → errand_by mail.from mail.to mail.body ≡ Some entry → is_born (players words births) mail.to ≡ true

-- Nothing is in flight or ready at the replica, and a command that is no call and no filler waits only while something is in flight.
pub record HasNothing (r : ReplicaState) : Type 0 where
  pub flights : r.leader.flights ≡ []
  pub ready : r.ready ≡ []
  pub waits : r.leader.flights ≡ [] → (works_in r.acts ≡ []) × (works_in r.backlog ≡ [])

-- `over`: in a quiet journal in which all errands go to actors and no leader has anything in flight, no order is under way and no group is bound.
-- `free`: a group that is led and not bound is free, by its leader's state.
pub record QuietScenesAreOver : Type 0 where
  pub over : (words : ℕ → ℕ → ℕ × ℕ) (births : List (Seat Player)) (rows : Rows) → AreInTime (players words births) rows → is_quiet (players words births) rows ≡ true → Each (GoesToActor words births) (mails rows)
      → ((name : Draw) (node : ℕ) (r : ReplicaState) → view_at births rows name node ≡ Some r → r.running ≡ true → HasNothing r) → IsUnderWay (scene_at births rows)
      → IsAt Still (scene_at births rows) × ((name : Draw) → ((scene_at births rows).at name).bond ≡ Unbound)
  pub free : (births : List (Seat Player)) (rows : Rows) (name : Draw) (node : ℕ) (r : ReplicaState) → LeadsAlone births rows name node r → ((scene_at births rows).at name).bond ≡ Unbound → r.group.core.lock ≡ Free

-- The command is no call and no filler.
abbrev pub IsWork : Command → Type 0
IsWork command = (work : Work) × (work_by command ≡ Some work)

-- The one work of a leader that no report binds is in flight alone, if no call or filler is in flight or ready and something is in flight at its next slot.
abbrev pub WorksFlyLone : Type 0
WorksFlyLone =
    (work : Work) (flight : Flight Command) (r : ReplicaState) → r.running ≡ true → IsUnbound r → works r ≡ work ∷ []
    → Each (λ flight. IsWork flight.value) r.leader.flights → Each (λ entry. IsWork entry.1) r.ready → Among flight r.leader.flights → flight.slot ≡ next r → FliesLone flight r

-- An order in time, to a leader that no report binds, where nothing is under way and no leader has anything in flight, begins or is refused; the stages are kept.
abbrev pub OrdersBeginInQuiet : Type 0
OrdersBeginInQuiet =
    (words : ℕ → ℕ → ℕ × ℕ) (births : List (Seat Player)) (rows : Rows) (seat : Seat Player) (line : OrderLine) (node : NodeState) (r : ReplicaState) → IsOrdered words births rows seat line node r
    → LeadsAlone births rows (group_of_order line.order) seat.who r → IsUnbound r → Each (GoesToActor words births) (mails rows)
    → ((name : Draw) (node : ℕ) (r : ReplicaState) → view_at births rows name node ≡ Some r → r.running ≡ true → HasNothing r) → KeepsStage births rows seat (Told line)

-- Some stage stands after a journal in time, if the stage is `Still` at first and each row keeps that.
abbrev pub OrdersGoThrough : Type 0
OrdersGoThrough =
    (words : ℕ → ℕ → ℕ × ℕ) (births : List (Seat Player)) (journal : Rows) → AreInTime (players words births) journal → IsAt Still (scene_at births [])
    → ((rows : Rows) (seat : Seat Player) (event : Event OrderLine) → IsSeat births seat → AreInTime (players words births) (with_event rows seat event) → KeepsStage births rows seat event) → IsUnderWay (scene_at births journal)
