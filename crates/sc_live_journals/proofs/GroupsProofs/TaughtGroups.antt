-- Through a journal in which a group is well led, its members learn all entries.
use Rattle.sc_live_journals.proofs.GroupsProofs.PrefixesInTime.{kept_through}
use Rattle.std.proofs.Common.{◌≡◌, ℕ, true, List, [], Option, None, refl, sym, ◌∙◌, ap, subst, arith}
use Rattle.sc_node_table.specs.Values.{Ballot, Base, OrderLine, Seat, Event}
use Rattle.sc_base.specs.Definitions.{is_member}
use Rattle.sc_actor.specs.Definitions.{mails, row_of}
use Rattle.sc_node_table.specs.NodeDefinitions.{first_ballot}
use Rattle.sc_meaning.specs.sound.SoundDefinitions.{Player, player_table, births, as_nodes}
use Rattle.sc_live_steps.specs.calm.CalmDefinitions.{players, Rows}
use Rattle.sc_live_steps.specs.following.FollowingDefinitions.{Mark, Course, Progress, Sets, members_at, IsFollowing, SlotLeaders, IsRow, IsIdle, begun, marks_for}
use Rattle.sc_live_steps.proofs.FollowingProofs.FollowingLemmas.{begins, taught_is_kept}
use Rattle.sc_live_journals.specs.rows.RowDefinitions.{next_in, promise_in, progress_at, marks_at, taken_mark, begun_course, with_event}
use Rattle.sc_live_journals.proofs.RowsProofs.RowLemmas.{born_facts, next_born, promise_born, rows_are}
use Rattle.sc_live_journals.specs.groups.GroupDefinitions.{BeginsSo, IsGroupRow, RowPasses, RowRests, RowTakes, RowMakes, RowLeads, RowElects, Ends, IsStage, AreTaughtAt, IsTaughtOn, RowsKeepTaught, ScenariosBeginTaught, ChildrenBeginTaught, GroupsAreTaughtThrough}
use Rattle.sc_live_journals.proofs.GroupsProofs.WellLedBeginnings.{first_slots, scenarios_begin_led, children_begin_led}
use Rattle.sc_live_journals.proofs.GroupsProofs.JournalEvents.{events_go_on}

-- ---- one row

module _ (at : Sets) (over : Ends) (by : SlotLeaders) (words : ℕ → ℕ → ℕ × ℕ) (births : List (Seat Player)) (rows : Rows) (seat : Seat Player) (event : Event OrderLine) (base : Base) (course : Course)
    (stage : IsStage at over by words births rows seat event base course) (was : AreTaughtAt at words births rows base course) where
  abbrev now : Progress
  now = progress_at births rows base course

  abbrev after_ : Course → Progress
  after_ c = progress_at births (with_event rows seat event) base c

  abbrev taken : Option Mark
  taken = taken_mark base.core.id (mails rows) event

  abbrev sent : ℕ → List Mark
  sent who = marks_for base.core.id who (row_of player_table seat rows event).sent

  abbrev marks : ℕ → List Mark
  marks = marks_at (players words births) rows base.core.id

  abbrev marks_then : ℕ → List Mark
  marks_then = marks_at (players words births) (with_event rows seat event) base.core.id

  abbrev Then : Course → Type 0
  Then c = AreTaughtAt at words births (with_event rows seat event) base c

  row_keeps : (later : Course) → IsGroupRow at over by births rows seat event base course later → Then later
  row_keeps later (RowPasses same leaves) = subst Then (sym same) (taught_is_kept.idle at by now (after_ course) seat.who taken sent marks marks_then stage.rosters (rows_are words births rows (row_of player_table seat rows event) base course course stage.timely) (leaves.idle course) stage.was.followed.follows tt was)
  row_keeps later (RowRests same r after row off still idle) = subst Then (sym same) (taught_is_kept.idle at by now (after_ course) seat.who taken sent marks marks_then stage.rosters (rows_are words births rows (row_of player_table seat rows event) base course course stage.timely) idle stage.was.followed.follows tt was)
  row_keeps later (RowTakes same r after mark row fact steps takes) = subst Then (sym same) (taught_is_kept.takes at by now (after_ course) seat.who taken sent marks marks_then stage.rosters (rows_are words births rows (row_of player_table seat rows event) base course course stage.timely) takes stage.was.followed.follows tt was)
  row_keeps later (RowMakes same from slot state sets row fact logs takes) =
      subst Then (sym same) (taught_is_kept.takes at by now (after_ course) seat.who taken sent marks marks_then stage.rosters (rows_are words births rows (row_of player_table seat rows event) base course course stage.timely) takes stage.was.followed.follows tt was)
  row_keeps later (RowLeads r after row runs counts l same) =
      subst Then (sym same) (taught_is_kept.leads at by now (after_ _) seat.who taken sent marks marks_then stage.rosters (rows_are words births rows (row_of player_table seat rows event) base course _ stage.timely) l.led.leads stage.was.followed.follows l.last was)
  row_keeps later (RowElects r after ballot row off e same) =
      subst Then (sym same) (taught_is_kept.self_election at by now (after_ _) seat.who taken sent marks marks_then stage.rosters (rows_are words births rows (row_of player_table seat rows event) base course _ stage.timely) e.self_election stage.was.followed.follows tt was)

-- Each row of a known kind keeps it that the members of a group's states learn the entries after them, and that nobody else is sent one.
pub rows_keep_taught : RowsKeepTaught
rows_keep_taught at over by words births rows seat event base course later stage row was = row_keeps at over by words births rows seat event base course stage was later row

-- ---- a group begins

module _ (at : Sets) (over : Ends) (by : SlotLeaders) (words : ℕ → ℕ → ℕ × ℕ) (seats : List (Seat Player)) (rows : Rows) (base : Base) (so : BeginsSo at over base) (first : is_member base.core.members base.core.first ≡ true) where
  abbrev ballot : Ballot
  ballot = first_ballot base.core

  abbrev start : Progress
  start = begun (members_at at 1) ballot

  abbrev now_begun : Progress
  now_begun = progress_at seats rows base (begun_course base)

  abbrev marks_begun : ℕ → List Mark
  marks_begun = marks_at (players words seats) rows base.core.id

  firsts : members_at at 1 ≡ base.core.members
  firsts = so.sets 4 (omega arith)

  taught_begun : ((who : ℕ) → now_begun.next who ≡ (begun base.core.members ballot).next who) → ((who : ℕ) → now_begun.promise who ≡ ballot) → ((who : ℕ) → marks_begun who ≡ []) → AreTaughtAt at words seats rows base (begun_course base)
  taught_begun nexts promises none = taught_is_kept.idle at by start now_begun 0 None (λ who. []) (λ who. []) marks_begun so.rosters row idle following tt (taught_is_kept.begin at ballot (first_slots at over base so 3 (omega arith)))
    where
      nexts_too : (who : ℕ) → now_begun.next who ≡ start.next who
      nexts_too who = nexts who ∙ ap (λ (ms : List ℕ). (begun ms ballot).next who) (sym firsts)

      row : IsRow start now_begun 0 None (λ who. []) (λ who. []) marks_begun
      row = record { left = []; takes = refl; own = none 0; others = λ who ne. none who; next = λ who ne. nexts_too who; promise = λ who ne. promises who }

      idle : IsIdle start now_begun 0 None (λ who. [])
      idle = record { takes = refl; next = nexts_too 0; promise = promises 0; course = refl; sends = λ who. refl }

      following : IsFollowing at start (λ node. [])
      following = begins at ballot (first_slots at over base so) (ap (λ (ms : List ℕ). is_member ms base.core.first) firsts ∙ first)

-- So it is of each group of a bounded scenario at its birth.
pub scenarios_begin_taught : ScenariosBeginTaught
scenarios_begin_taught at over by words scenario base bounded a so = record {
  course = begun_course base;
  led = scenarios_begin_led at over by words scenario base bounded a so;
  taught = taught_begun at over by words (births as_nodes scenario) [] base so (born_facts scenario bounded base a).1 (next_born scenario bounded base a) (promise_born scenario bounded base a) (λ who. refl);
}

-- So it is of a group of which no node has a replica at the births.
pub children_begin_taught : ChildrenBeginTaught
children_begin_taught at over by words births base first unborn so = record {
  course = begun_course base;
  led = children_begin_led at over by words births [] base so first unborn (λ who. refl);
  taught = taught_begun at over by words births [] base so first (λ who. ap (next_in base who) (unborn who)) (λ who. ap (promise_in base) (unborn who)) (λ who. refl);
}

-- ---- through a journal

-- It is so after each row of a journal whose rows come in time, and in which the group's log is one, if it is at first.
pub groups_taught_through : GroupsAreTaughtThrough
groups_taught_through at over by words births journal base wb one so timely first rows more fact =
    kept_through words births journal (λ rows. IsTaughtOn at over by words births rows base) (λ rows seat event row born calm timely_ old. (
    let step = events_go_on at over by words births journal base wb one so rows seat event old.course row born calm timely_ old.led in
    record {
      course = step.later;
      led = step.led;
      taught = rows_keep_taught at over by words births rows seat event base old.course step.later (record { rosters = one.log.rosters; timely = timely_; was = old.led }) step.row old.taught;
    })) first timely rows more fact
