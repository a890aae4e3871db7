-- What holds while clients ask alone since a quiet prefix of a calm journal.
use Rattle.std.specs.Prelude.{◌≡◌, ℕ, ◌+◌, ◌≤◌, List, [], ◌∷◌, ◌++◌, true}
use Rattle.sc_base.specs.Definitions.{Among, is_member}
use Rattle.sc_node_table.specs.Values.{Base, OrderLine, Seat, Event}
use Rattle.sc_actor.specs.Definitions.{row_of}
use Rattle.sc_live_orderly.specs.OrderlyDefinitions.{IsInOrder, is_born, orders}
use Rattle.sc_law_entries.specs.logs.LogDefinitions.{AreItsLogs}
use Rattle.sc_meaning.specs.sound.SoundDefinitions.{IsOneMap, groups_at, world_at, Player, player_table, births, as_nodes}
use Rattle.sc_scenario.specs.declared.scenario.scenarios.Scenario.{Scenario}
use Rattle.sc_live_steps.specs.calm.CalmDefinitions.{players, FindsCalm, Rows}
use Rattle.sc_live_journals.specs.rows.RowDefinitions.{IsSeat}
use Rattle.sc_live_answers.specs.GroupMail.{IsQuietWhileYoung}
use Rattle.sc_live_journals.specs.charts.ChartDefinitions.{chart_at, quiet_prefix}
use Rattle.sc_live_plain.specs.PlainDefinitions.{IsAsking, AreRequests, NobodyWaits, replicas_after, setting_at, Setting}
use Rattle.sc_live_answers.specs.RequestRows.{NodesMayPump, AreNear}
use Rattle.sc_live_answers.specs.SettingCharts.{GoneAgree}
use Rattle.sc_live_answers.specs.Settings.{frames_after, AreAtNodes}
use Rattle.sc_live_answers.specs.CalmJournals.{IsCalmJournal, IsPrefixOf}
use Rattle.sc_live_answers.specs.RestingPrefixes.{RestsAt}

-- the setting that a quiet prefix gives to the requests behind it: the frames of the groups that stand, its replicas, and the ways of its chart
abbrev pub setting_of : (ℕ → ℕ → ℕ × ℕ) → Scenario → ℕ → ℕ → Rows → Setting
setting_of words scenario far sent quiet = setting_at (replicas_after scenario quiet) (frames_after scenario quiet) (chart_at far sent (players words (births as_nodes scenario)) quiet).ways

-- what else is known of a quiet prefix of a calm journal: the entries are the logs of its groups and make one map; replicas that are gone agree where they went; replicas are at nodes of the scenario; first members of groups are players; and a way may be longer by one than the number of orders given so far
pub record IsKnownPrefix (words : ℕ → ℕ → ℕ × ℕ) (scenario : Scenario) (journal quiet : Rows) (far : ℕ) : Type 0 where
  pub one : IsOneMap (world_at as_nodes scenario.groups quiet)
  pub logs : AreItsLogs as_nodes scenario.groups quiet
  pub agree : GoneAgree (replicas_after scenario quiet)
  pub homes : (rows : Rows) → IsPrefixOf journal rows → AreAtNodes scenario rows
  pub born : (base : Base) → Among base (groups_at as_nodes scenario.groups journal) → (who : ℕ) → is_member base.core.members who ≡ true → is_born (players words (births as_nodes scenario)) who ≡ true
  pub room : orders quiet + 1 ≤ far

-- since a quiet prefix clients have asked by the rows behind it, and all players and mail are as `IsAsking` says
pub record IsRequested (words : ℕ → ℕ → ℕ × ℕ) (scenario : Scenario) (first : Base) (far sent : ℕ) (quiet after : Rows) : Type 0 where
  pub requests : AreRequests words scenario (setting_of words scenario far sent quiet) quiet after
  pub asking : IsAsking words scenario (setting_of words scenario far sent quiet) first (quiet ++ after)

-- `IsRequested` holds with no row behind a quiet prefix that rests, and no request waits
abbrev pub RequestsBegin : Type 0
RequestsBegin =
    (words : ℕ → ℕ → ℕ × ℕ) (scenario : Scenario) (first : Base) (others : List Base) (far sent : ℕ) (journal quiet : Rows) → IsCalmJournal words scenario journal → scenario.groups ≡ first ∷ others → RestsAt words scenario first journal quiet
    → IsKnownPrefix words scenario journal quiet far → IsRequested words scenario first far sent quiet [] × NobodyWaits scenario first quiet

-- `IsRequested` holds after one event more that comes in order, a client that starts or a delivery
abbrev pub RequestsStay : Type 0
RequestsStay =
    (words : ℕ → ℕ → ℕ × ℕ) (scenario : Scenario) (first : Base) (others : List Base) (far sent : ℕ) (journal quiet after : Rows) (seat : Seat Player) (event : Event OrderLine) → IsCalmJournal words scenario journal → scenario.groups ≡ first ∷ others
    → RestsAt words scenario first journal quiet → IsKnownPrefix words scenario journal quiet far → IsRequested words scenario first far sent quiet after → IsPrefixOf journal (quiet ++ after) → IsSeat (births as_nodes scenario) seat
    → IsInOrder (players words (births as_nodes scenario)) (quiet ++ after) seat.who event → IsRequested words scenario first far sent quiet (after ++ row_of player_table seat (quiet ++ after) event ∷ [])

-- while clients ask alone the next event finds what the potential needs, where each replica may pump and no client is sent on more often than the chart allows
abbrev pub RequestsFindCalm : Type 0
RequestsFindCalm =
    (words : ℕ → ℕ → ℕ × ℕ) (scenario : Scenario) (first : Base) (others : List Base) (far sent : ℕ) (journal quiet after : Rows) (seat : Seat Player) (event : Event OrderLine) → IsCalmJournal words scenario journal → scenario.groups ≡ first ∷ others
    → RestsAt words scenario first journal quiet → IsKnownPrefix words scenario journal quiet far → IsRequested words scenario first far sent quiet after → IsPrefixOf journal (quiet ++ after) → IsSeat (births as_nodes scenario) seat
    → IsInOrder (players words (births as_nodes scenario)) (quiet ++ after) seat.who event → quiet_prefix (players words (births as_nodes scenario)) (quiet ++ after) ≡ quiet
    → NodesMayPump scenario (quiet ++ after) → AreNear scenario (chart_at far sent (players words (births as_nodes scenario)) (quiet ++ after)) first (quiet ++ after)
    → FindsCalm (chart_at far sent (players words (births as_nodes scenario)) (quiet ++ after)) (births as_nodes scenario) (quiet ++ after) seat event

-- while clients ask alone, no mail of a group is pending for a first member that has no replica of it yet
abbrev pub RequestsLeaveYoung : Type 0
RequestsLeaveYoung =
    (words : ℕ → ℕ → ℕ × ℕ) (scenario : Scenario) (first : Base) (others : List Base) (far sent : ℕ) (journal quiet after : Rows) (base : Base) → IsCalmJournal words scenario journal → scenario.groups ≡ first ∷ others → RestsAt words scenario first journal quiet → IsPrefixOf journal (quiet ++ after)
    → IsKnownPrefix words scenario journal quiet far → IsRequested words scenario first far sent quiet after → Among base (groups_at as_nodes scenario.groups journal) → IsQuietWhileYoung words (births as_nodes scenario) (quiet ++ after) base
