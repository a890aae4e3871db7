-- What is owed in quiet journals that rest, and that calm journals which keep what they need end quiet.
use Rattle.std.specs.Prelude.{◌≡◌, ℕ, ◌+◌, ◌*◌, ◌≤◌, nat_lt, true, false, List, [], length, sum_by, None, if◌then◌else◌}
use Rattle.sc_base.specs.Definitions.{Each}
use Rattle.sc_node_table.specs.Values.{OrderLine, Node, Client, Seat, Line}
use Rattle.sc_actor.specs.Definitions.{value, are_apart, IsLawful, is_quiet, unsettled}
use Rattle.sc_live_orderly.specs.OrderlyDefinitions.{HasRoom, deliveries, AreSpaced, Nothing, AreInTime, orders_given}
use Rattle.sc_meaning.specs.sound.SoundDefinitions.{Player, player_table}
use Rattle.sc_live_steps.specs.calm.ChartedPotential.{players, Chart, run_owes}
use Rattle.sc_live_steps.specs.calm.RowPremises.{KeepCalm}
use Rattle.sc_live_steps.specs.calm.QuietPlayers.{IsAtRest}
use Rattle.sc_live_steps.specs.calm.Totals.{Rows, is_led}

-- Each replica of the node has nothing to do, or the client has no request that waits.
abbrev pub IsResting : Player → Type 0
IsResting (Node node) = Each IsAtRest node.replicas
IsResting (Client client) = client.waiting ≡ None

-- All players rest, each group of the chart is led, and the chart's bounds of ways and of being sent on are those of the first chart.
pub record RestsCalm (births : List (Seat Player)) (first chart : Chart) (rows : Rows) : Type 0 where
  pub players : Each (λ seat. IsResting (value player_table seat rows)) births
  pub led : Each (λ group. is_led births rows group ≡ true) chart.groups
  pub most : chart.ways.most ≡ first.ways.most
  pub reach : chart.reach.most ≡ first.reach.most

-- What a player owes at its birth: a client for each request, and for being sent on before its first; a node nothing.
abbrev pub birth_owes : Chart → Player → ℕ
birth_owes chart (Node node) = 0
birth_owes chart (Client client) = 28 * length client.requests + (if nat_lt 0 (length client.requests) then chart.reach.most * (2 + 2 * chart.ways.most) + 2 * chart.ways.most else 0)

-- What all players owe at their births.
abbrev pub births_owe : Chart → List (Seat Player) → ℕ
births_owe chart births = sum_by (λ seat. birth_owes chart seat.actor) births

-- In a quiet journal that rests no more is owed than at birth.
abbrev pub RestingOwesLittle : Type 0
RestingOwesLittle =
    (words : ℕ → ℕ → ℕ × ℕ) (births : List (Seat Player)) (first chart : Chart) (rows : Rows) → AreInTime (players words births) rows → is_quiet (players words births) rows ≡ true → RestsCalm births first chart rows
    → run_owes chart (players words births) rows ≤ births_owe first births

-- Each quiet lawful journal in time, with at most `most` deliveries, rests.
abbrev pub RestCalm : (ℕ → ℕ → ℕ × ℕ) → List (Seat Player) → List (Line OrderLine) → (Rows → Chart) → ℕ → Type 0
RestCalm words births lines charts most =
    (rows : Rows) → IsLawful (players words births) lines rows → AreInTime (players words births) rows → deliveries rows ≤ most → is_quiet (players words births) rows ≡ true → RestsCalm births (charts []) (charts rows) rows

-- If rows keep calm and quiet journals rest, no line of deliveries is cut off that has room for what is owed at birth and what one order raises.
-- Premises: a line of deliveries stands between each order and every other order or `go` line, and `most` is at least what is owed at birth and what all orders raise.
abbrev pub KeptCalmEndsQuiet : Type 0
KeptCalmEndsQuiet =
    (words : ℕ → ℕ → ℕ × ℕ) (births : List (Seat Player)) (lines : List (Line OrderLine)) (charts : Rows → Chart) (most : ℕ) (journal : Rows) → are_apart births ≡ true
    → KeepCalm (players words births) lines charts most → RestCalm words births lines charts most
    → AreSpaced Nothing lines → Each (HasRoom (births_owe (charts []) births + (242 + 4 * (charts []).ways.most))) lines
    → births_owe (charts []) births + orders_given lines * (242 + 4 * (charts []).ways.most) ≤ most → IsLawful (players words births) lines journal
    → unsettled (players words births) lines journal ≡ false
