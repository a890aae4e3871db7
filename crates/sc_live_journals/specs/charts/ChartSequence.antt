-- The charts of a calm journal follow one another, and rest in quiet journals.
use Rattle.std.specs.Prelude.{◌≡◌, ℕ, ◌≤◌, ◌++◌, true, List, [], ◌∷◌, length, take, Option, None}
use Rattle.sc_base.specs.Definitions.{Each}
use Rattle.sc_node_table.specs.Values.{Draw, OrderLine, Mail, MailBody, TxElsewhere, Node, Client, Seat, Row}
use Rattle.sc_actor.specs.Definitions.{value, is_quiet}
use Rattle.sc_live_orderly.specs.OrderlyDefinitions.{under_way, AreInTime}
use Rattle.sc_meaning.specs.sound.SoundDefinitions.{Player, player_table}
use Rattle.sc_live_steps.specs.calm.CalmDefinitions.{players, MayFollow, StandsOnce, IsResting, RestsCalm, Rows, is_led}
use Rattle.sc_live_journals.specs.charts.Charts.{all_replicas, asked_in, names_at, chart_at}

-- The player is a node, or a client with no request that waits.
abbrev pub WaitsForNone : Player → Type 0
WaitsForNone (Node node) = Unit {0}
WaitsForNone (Client client) = client.waiting ≡ None

-- Each group that was ever led after some of these rows is led after all of them, or gone.
abbrev pub AreAllLed : List (Seat Player) → Rows → Type 0
AreAllLed births rows = Each (λ name. is_led births rows name ≡ true) (names_at births rows)

-- If the body is a `TxElsewhere`, what its coordinator asks is the same after the row as before it.
abbrev pub AsksSame : List (Seat Player) → Rows → Rows → MailBody → Type 0
AsksSame births rows after body = (tx coord : Draw) (hint : Option ℕ) → body ≡ TxElsewhere tx coord hint → asked_in tx (all_replicas births after) ≡ asked_in tx (all_replicas births rows)

-- The chart after a row in time may follow that of the rows before it.
-- Premises: for each `TxElsewhere` under way, what its coordinator asks stays the same; and if the journal is quiet after the row, no client waits.
abbrev pub ChartsFollow : Type 0
ChartsFollow =
    (words : ℕ → ℕ → ℕ × ℕ) (births : List (Seat Player)) (far sent : ℕ) (rows : Rows) (row : Row Mail OrderLine) → AreInTime (players words births) (rows ++ row ∷ [])
    → Each (λ mail. AsksSame births rows (rows ++ row ∷ []) mail.body) (under_way (players words births) (rows ++ row ∷ []))
    → (is_quiet (players words births) (rows ++ row ∷ []) ≡ true → Each (λ seat. WaitsForNone (value player_table seat (rows ++ row ∷ []))) births)
    → MayFollow (players words births) (rows ++ row ∷ []) (chart_at far sent (players words births) rows) (chart_at far sent (players words births) (rows ++ row ∷ []))

-- If all players rest, and each group that was ever led is led or gone, the journal rests by its chart (`RestsCalm`).
abbrev pub QuietChartsRest : Type 0
QuietChartsRest =
    (words : ℕ → ℕ → ℕ × ℕ) (births : List (Seat Player)) (far sent : ℕ) (rows : Rows) → Each (λ seat. IsResting (value player_table seat rows)) births → AreAllLed births rows
    → RestsCalm births (chart_at far sent (players words births) []) (chart_at far sent (players words births) rows) rows

-- Each group that is led after some of the rows stands exactly once among the names of `names_at`.
abbrev pub LedStandOnce : Type 0
LedStandOnce = (births : List (Seat Player)) (rows : Rows) (n : ℕ) (group : Draw) → n ≤ length rows → is_led births (take n rows) group ≡ true → StandsOnce group (names_at births rows)
