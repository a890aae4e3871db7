-- Each row of a journal finds its groups guided (`IsGuided`).
use Rattle.std.specs.Prelude.{ℕ, ◌++◌, ◌≡◌}
use Rattle.sc_node_table.specs.Values.{Seat, Event, Base, OrderLine}
use Rattle.sc_live_answers.specs.GuidedGroups.{AreBoundBy, IsGuided, IsReachedSo}
use Rattle.sc_live_journals.specs.groups.GroupDefinitions.{IsWellLed, IsSentSo}
use Rattle.sc_live_steps.specs.calm.CalmDefinitions.{players, Rows}
use Rattle.sc_live_answers.specs.LedGroups.{over_at}
use Rattle.sc_live_answers.specs.SlotLeaders.{AreFew, slot_leaders_at}
use Rattle.sc_live_journals.specs.logs.LogDefinitions.{IsGroupOf, logged_sets}
use Rattle.sc_live_steps.specs.orders.OrderDefinitions.{Bond}
use Rattle.sc_live_journals.specs.rows.RowDefinitions.{IsSeat, with_event}
use Rattle.sc_live_steps.specs.following.FollowingDefinitions.{Course}
use Rattle.sc_live_orderly.specs.OrderlyDefinitions.{IsCalmEvent, AreInTime}
use Rattle.sc_scenario.specs.declared.scenario.scenarios.Scenario.{Scenario}
use Rattle.sc_meaning.specs.sound.SoundDefinitions.{Player, as_nodes, births}

-- a group of a journal whose rows come in time is guided at a row, where its mail up to the row is as `IsSentSo` says, no replica of it uses up its slots or rounds, it is well led before the row, some replica of it has its newest state, and what its replicas are bound by depends only on how much they have executed
abbrev pub RowsAreGuided : Type 0
RowsAreGuided =
    (words : ℕ → ℕ → ℕ × ℕ) (scenario : Scenario) (journal rows more : Rows) (seat : Seat Player) (event : Event OrderLine) (base : Base) (course : Course) (bonds : ℕ → Bond) → IsGroupOf as_nodes words scenario journal base
    → AreInTime (players words (births as_nodes scenario)) journal → AreFew as_nodes scenario journal base → journal ≡ with_event rows seat event ++ more → IsSentSo (births as_nodes scenario) (with_event rows seat event) base
    → IsSeat (births as_nodes scenario) seat → IsCalmEvent (players words (births as_nodes scenario)) rows seat.who event
    → IsWellLed (logged_sets as_nodes base journal) (over_at as_nodes base journal) (slot_leaders_at as_nodes scenario base journal) words (births as_nodes scenario) rows base course → IsReachedSo (births as_nodes scenario) rows base course
    → AreBoundBy bonds (births as_nodes scenario) rows base.core.id → AreBoundBy bonds (births as_nodes scenario) (with_event rows seat event) base.core.id → IsGuided words (births as_nodes scenario) rows seat event base
