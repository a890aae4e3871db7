-- A group follows its leader through a journal, if each row keeps that.
use Rattle.std.specs.Prelude.{◌≡◌, ℕ, List, [], ◌++◌}
use Rattle.sc_node_table.specs.Values.{Base, OrderLine, Seat, Event}
use Rattle.sc_live_orderly.specs.OrderlyDefinitions.{IsCalmEvent, AreInTime}
use Rattle.sc_meaning.specs.sound.SoundDefinitions.{Player}
use Rattle.sc_live_steps.specs.calm.CalmDefinitions.{players, Rows}
use Rattle.sc_live_steps.specs.following.FollowingDefinitions.{Course, Sets}
use Rattle.sc_live_journals.specs.rows.Groups.{IsFollowedAt, FollowsOn}
use Rattle.sc_live_journals.specs.rows.PlayerRows.{IsSeat, with_event}

-- Each event of a player in this journal keeps the group following its leader. The members that decide its slots may depend on the whole journal.
abbrev pub EventsKeep : Sets → (ℕ → ℕ → ℕ × ℕ) → List (Seat Player) → Rows → Base → Type 0
EventsKeep at words births journal base =
    (rows more : Rows) (seat : Seat Player) (event : Event OrderLine) (course : Course) → journal ≡ with_event rows seat event ++ more → IsSeat births seat → IsCalmEvent (players words births) rows seat.who event
    → AreInTime (players words births) (with_event rows seat event) → IsFollowedAt at words births rows base course → FollowsOn at words births (with_event rows seat event) base

-- A group follows its leader after each row of a journal in time, if it does so at first and each event keeps that.
abbrev pub GroupsFollowThrough : Type 0
GroupsFollowThrough =
    (at : Sets) (words : ℕ → ℕ → ℕ × ℕ) (births : List (Seat Player)) (journal : Rows) (base : Base) → AreInTime (players words births) journal → FollowsOn at words births [] base → EventsKeep at words births journal base
    → (rows more : Rows) → journal ≡ rows ++ more → FollowsOn at words births rows base
