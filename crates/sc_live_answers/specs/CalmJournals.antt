-- A calm journal and its prefixes, and that all its groups are well led.
use Rattle.std.specs.Prelude.{◌≡◌, ℕ, ◌≤◌, ◌^◌, ◌++◌, length}
use Rattle.sc_base.specs.Definitions.{Among}
use Rattle.sc_node_table.specs.Values.{Draw, Base, Seat, Deliver}
use Rattle.sc_live_orderly.specs.OrderlyDefinitions.{AreInTime, GiveAllowedOrders}
use Rattle.sc_scenario.specs.scenario.Definitions.{IsValid}
use Rattle.sc_scenario.specs.declared.scenario.scenarios.Scenario.{Scenario}
use Rattle.sc_meaning.specs.sound.SoundDefinitions.{groups_at, Player, births, as_nodes, Lawful}
use Rattle.sc_live_steps.specs.calm.CalmDefinitions.{players, Rows}
use Rattle.sc_live_journals.specs.rows.RowDefinitions.{IsSeat, with_event}
use Rattle.sc_live_journals.specs.logs.LogDefinitions.{logged_sets}
use Rattle.sc_live_answers.specs.LedGroups.{over_at}
use Rattle.sc_live_answers.specs.SlotLeaders.{slot_leaders_at}
use Rattle.sc_live_answers.specs.GroupMail.{IsSentThrough}
use Rattle.sc_live_answers.specs.GivenOrders.{may_be_given}

-- a calm journal: a lawful journal of a valid scenario whose rows come in time, of at most 2^28 rows, in which each order is given as a line may give it
pub record IsCalmJournal (words : ℕ → ℕ → ℕ × ℕ) (scenario : Scenario) (journal : Rows) : Type 0 where
  pub valid : IsValid scenario
  pub lawful : Lawful as_nodes words scenario journal
  pub timely : AreInTime (players words (births as_nodes scenario)) journal
  pub short : length journal ≤ 2 ^ 28
  pub given : GiveAllowedOrders (may_be_given scenario) journal

-- the rows are a prefix of the journal
pub record IsPrefixOf (journal rows : Rows) : Type 0 where
  pub more : Rows
  pub fact : journal ≡ rows ++ more

-- after these rows each group of the journal is well led, has one log, and its mail is as `IsSentSo` says
abbrev pub AreSent : (ℕ → ℕ → ℕ × ℕ) → Scenario → Rows → Rows → Type 0
AreSent words scenario journal rows =
    (base : Base) → Among base (groups_at as_nodes scenario.groups journal)
    → IsSentThrough (logged_sets as_nodes base journal) (over_at as_nodes base journal) (slot_leaders_at as_nodes scenario base journal) words (births as_nodes scenario) rows base

-- the rows and one more delivery, which comes in time, are a prefix of the journal
pub record ContinuesBy (words : ℕ → ℕ → ℕ × ℕ) (scenario : Scenario) (journal rows : Rows) (seat : Seat Player) (number : ℕ) : Type 0 where
  pub prefix : IsPrefixOf journal (with_event rows seat (Deliver number))
  pub seated : IsSeat (births as_nodes scenario) seat
  pub timely : AreInTime (players words (births as_nodes scenario)) (with_event rows seat (Deliver number))

-- a prefix of a prefix of the journal is a prefix of the journal
abbrev pub PrefixesOfPrefixes : Type 0
PrefixesOfPrefixes = (journal rows more : Rows) → IsPrefixOf journal (rows ++ more) → IsPrefixOf journal rows

-- some group of the journal has this name
abbrev pub IsNamedGroup : Scenario → Rows → Draw → Type 0
IsNamedGroup scenario journal name = (base : Base) × Among base (groups_at as_nodes scenario.groups journal) × (base.core.id ≡ name)
