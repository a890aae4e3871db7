-- What holds while clients ask alone since a quiet prefix of a calm journal: it begins so, each row keeps it, and the journal rests again once it is quiet.
use Rattle.std.specs.Prelude.{◌≡◌, ℕ, ◌+◌, ◌≤◌, true, false, List, [], ◌∷◌, ◌++◌}
use Rattle.sc_base.specs.Definitions.{Among, Each}
use Rattle.sc_node_table.specs.Values.{Draw, Base, OrderLine, Mail, Seat, Event, Row}
use Rattle.sc_actor.specs.Definitions.{mails, row_of, is_quiet}
use Rattle.sc_live_orderly.specs.OrderlyDefinitions.{IsInOrder, is_told, orders}
use Rattle.sc_scenario.specs.declared.scenario.scenarios.Scenario.{Scenario}
use Rattle.sc_meaning.specs.sound.SoundDefinitions.{groups_at, Player, player_table, births, as_nodes}
use Rattle.sc_live_steps.specs.calm.CalmDefinitions.{players, FindsCalm, Rows}
use Rattle.sc_live_journals.specs.rows.RowDefinitions.{IsSeat, with_event}
use Rattle.sc_live_journals.specs.scenes.SceneDefinitions.{IsThere, GoesToActor}
use Rattle.sc_live_journals.specs.charts.ChartDefinitions.{chart_at, quiet_prefix}
use Rattle.sc_live_journals.specs.logs.LogDefinitions.{logged_sets}
use Rattle.sc_live_plain.specs.PlainDefinitions.{NobodyWaits}
use Rattle.sc_live_answers.specs.SlotLeaders.{slot_leaders_at}
use Rattle.sc_live_answers.specs.HintInvariant.{IsRisingOn}
use Rattle.sc_live_answers.specs.RoundBounds.{IsBallotSince}
use Rattle.sc_live_answers.specs.RequestRows.{NodesMayPump, AreNear}
use Rattle.sc_live_answers.specs.CalmJournals.{IsCalmJournal, IsPrefixOf, AreSent}
use Rattle.sc_live_answers.specs.RestingPrefixes.{RestsAt}
use Rattle.sc_live_answers.specs.RequestInvariant.{IsKnownPrefix, IsRequested}

-- a quiet prefix that rests is known (`IsKnownPrefix`), where ways may be longer by one than the number of orders given so far
abbrev pub RestingPrefixesAreKnown : Type 0
RestingPrefixesAreKnown =
    (words : ℕ → ℕ → ℕ × ℕ) (scenario : Scenario) (first : Base) (journal quiet : Rows) (far : ℕ) → IsCalmJournal words scenario journal → RestsAt words scenario first journal quiet → orders quiet + 1 ≤ far → IsKnownPrefix words scenario journal quiet far

-- each replica of each node may pump after a prefix of a calm journal whose groups are well led
abbrev pub SentNodesMayPump : Type 0
SentNodesMayPump = (words : ℕ → ℕ → ℕ × ℕ) (scenario : Scenario) (journal rows : Rows) → IsCalmJournal words scenario journal → IsPrefixOf journal rows → AreSent words scenario journal rows → NodesMayPump scenario rows

-- since a quiet prefix that rests clients have asked alone: players and mail are as requests leave them (`IsRequested`), all groups are well led, hints rise in them (`IsRisingOn`), and each group has the ballot that it had in the quiet prefix
pub record IsAskedSince (words : ℕ → ℕ → ℕ × ℕ) (scenario : Scenario) (first : Base) (far sends : ℕ) (journal quiet after : Rows) : Type 0 where
  pub rests : RestsAt words scenario first journal quiet
  pub known : IsKnownPrefix words scenario journal quiet far
  pub prefix : IsPrefixOf journal (quiet ++ after)
  pub requested : IsRequested words scenario first far sends quiet after
  pub sent : AreSent words scenario journal (quiet ++ after)
  pub rising : (base : Base) (among : Among base (groups_at as_nodes scenario.groups journal)) → IsRisingOn (logged_sets as_nodes base journal) (slot_leaders_at as_nodes scenario base journal) words (births as_nodes scenario) (quiet ++ after) base (sent base among).course
  pub ballots : (base : Base) (among : Among base (groups_at as_nodes scenario.groups journal)) → IsBallotSince (rests.sent base among).course (sent base among).course

-- after a quiet prefix that rests, `IsAskedSince` holds with no row behind it, and no request waits
abbrev pub RequestsBeginAsked : Type 0
RequestsBeginAsked =
    (words : ℕ → ℕ → ℕ × ℕ) (scenario : Scenario) (first : Base) (others : List Base) (far sends : ℕ) (journal quiet : Rows) → IsCalmJournal words scenario journal → scenario.groups ≡ first ∷ others → RestsAt words scenario first journal quiet → orders quiet + 1 ≤ far
    → IsAskedSince words scenario first far sends journal quiet [] × NobodyWaits scenario first quiet

-- `IsAskedSince` holds after one event more that comes in order, a client that starts or a delivery
abbrev pub RequestsStayAsked : Type 0
RequestsStayAsked =
    (words : ℕ → ℕ → ℕ × ℕ) (scenario : Scenario) (first : Base) (others : List Base) (far sends : ℕ) (journal quiet after : Rows) (seat : Seat Player) (event : Event OrderLine) → IsCalmJournal words scenario journal → scenario.groups ≡ first ∷ others
    → IsAskedSince words scenario first far sends journal quiet after → IsPrefixOf journal (with_event (quiet ++ after) seat event) → IsSeat (births as_nodes scenario) seat
    → IsInOrder (players words (births as_nodes scenario)) (quiet ++ after) seat.who event → IsAskedSince words scenario first far sends journal quiet (after ++ row_of player_table seat (quiet ++ after) event ∷ [])

-- `IsAskedSince` holds after each further row of the journal that gives no order
abbrev pub AskedRowsGoOn : Type 0
AskedRowsGoOn =
    (words : ℕ → ℕ → ℕ × ℕ) (scenario : Scenario) (first : Base) (others : List Base) (far sends : ℕ) (journal quiet after : Rows) (row : Row Mail OrderLine) → IsCalmJournal words scenario journal → scenario.groups ≡ first ∷ others
    → IsAskedSince words scenario first far sends journal quiet after → IsPrefixOf journal (quiet ++ (after ++ row ∷ [])) → is_told row.event ≡ false → IsAskedSince words scenario first far sends journal quiet (after ++ row ∷ [])

-- while clients ask alone the next event finds what the potential needs, where no client is sent on more often than the chart allows (`AreNear`)
abbrev pub AskedRowsFindCalm : Type 0
AskedRowsFindCalm =
    (words : ℕ → ℕ → ℕ × ℕ) (scenario : Scenario) (first : Base) (others : List Base) (far sends : ℕ) (journal quiet after : Rows) (seat : Seat Player) (event : Event OrderLine) → IsCalmJournal words scenario journal → scenario.groups ≡ first ∷ others
    → IsAskedSince words scenario first far sends journal quiet after → IsSeat (births as_nodes scenario) seat → IsInOrder (players words (births as_nodes scenario)) (quiet ++ after) seat.who event
    → quiet_prefix (players words (births as_nodes scenario)) (quiet ++ after) ≡ quiet → AreNear scenario (chart_at far sends (players words (births as_nodes scenario)) (quiet ++ after)) first (quiet ++ after)
    → FindsCalm (chart_at far sends (players words (births as_nodes scenario)) (quiet ++ after)) (births as_nodes scenario) (quiet ++ after) seat event

-- while clients ask alone, the groups that have a replica are exactly those that had one in the quiet prefix
abbrev pub RequestsKeepGroups : Type 0
RequestsKeepGroups =
    (words : ℕ → ℕ → ℕ × ℕ) (scenario : Scenario) (first : Base) (others : List Base) (far sends : ℕ) (journal quiet after : Rows) → IsCalmJournal words scenario journal → scenario.groups ≡ first ∷ others → IsAskedSince words scenario first far sends journal quiet after → (name : Draw)
    → (IsThere (births as_nodes scenario) (quiet ++ after) name → IsThere (births as_nodes scenario) quiet name) × (IsThere (births as_nodes scenario) quiet name → IsThere (births as_nodes scenario) (quiet ++ after) name)

-- where the journal is quiet again after requests alone, and all mail of transactions went to players, it rests again
abbrev pub RequestsRestAgain : Type 0
RequestsRestAgain =
    (words : ℕ → ℕ → ℕ × ℕ) (scenario : Scenario) (first : Base) (others : List Base) (far sends : ℕ) (journal quiet after : Rows) → IsCalmJournal words scenario journal → scenario.groups ≡ first ∷ others → IsAskedSince words scenario first far sends journal quiet after
    → is_quiet (players words (births as_nodes scenario)) (quiet ++ after) ≡ true → Each (GoesToActor words (births as_nodes scenario)) (mails (quiet ++ after)) → RestsAt words scenario first journal (quiet ++ after)
