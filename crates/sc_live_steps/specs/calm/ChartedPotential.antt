-- What all players, groups and mail under way owe after some rows, by a chart that may change with the rows.
use Rattle.std.specs.Prelude.{◌≡◌, ℕ, ◌+◌, ◌≤◌, true, List, ◌++◌, sum_by}
use Rattle.sc_base.specs.Definitions.{Each}
use Rattle.sc_node_table.specs.Values.{Draw, OrderLine, Mail, Node, Client, Seat}
use Rattle.sc_actor.specs.Definitions.{value, System, system}
use Rattle.sc_live_orderly.specs.OrderlyDefinitions.{under_way}
use Rattle.sc_meaning.specs.sound.SoundDefinitions.{Player, player_table, receiver_of}
use Rattle.sc_live_steps.specs.calm.NodePotential.{node_owes}
use Rattle.sc_live_steps.specs.calm.CalmPotential.{Ways, mail_owes}
use Rattle.sc_live_steps.specs.calm.ClientReach.{Reach, client_owes}
use Rattle.sc_live_steps.specs.calm.Totals.{Rows, is_led, players_owe}

-- The system of the players (nodes and clients) with these births; `words` gives what storms draw from their generator.
abbrev pub players : (ℕ → ℕ → ℕ × ℕ) → List (Seat Player) → System Player Mail OrderLine
players words births = system player_table receiver_of words births

-- What the amount owed is reckoned by after some rows: the ways by hints, the groups that still owe an election where no replica leads, and how far clients still have to search.
pub record Chart : Type 0 where
  pub ways : Ways
  pub groups : List Draw
  pub reach : Reach

-- What a node or a client owes.
abbrev pub player_owes : Chart → Player → ℕ
player_owes chart (Node node) = node_owes chart.ways.most node
player_owes chart (Client client) = client_owes chart.ways chart.reach client

-- What all players, the chart's groups and all mail under way owe after these rows.
abbrev pub run_owes : Chart → System Player Mail OrderLine → Rows → ℕ
run_owes chart s rows = players_owe (player_owes chart) chart.groups s.births rows + sum_by (mail_owes chart.ways) (under_way s rows)

-- The player is a node, or a client that owes no more by the new chart than by the old one.
abbrev pub SeeksNoMore : Chart → Chart → Player → Type 0
SeeksNoMore old new (Node node) = Unit {0}
SeeksNoMore old new (Client client) = client_owes new.ways new.reach client ≤ client_owes old.ways old.reach client

-- After these rows the chart `new` may follow `old`: the bound of ways is the same, no mail under way and no client owes more, and each group that is added is led.
pub record MayFollow (s : System Player Mail OrderLine) (rows : Rows) (old new : Chart) : Type 0 where
  pub most : new.ways.most ≡ old.ways.most
  pub mail : Each (λ mail. mail_owes new.ways mail ≤ mail_owes old.ways mail) (under_way s rows)
  pub clients : Each (λ seat. SeeksNoMore old new (value player_table seat rows)) s.births
  pub more : List Draw
  pub groups : new.groups ≡ old.groups ++ more
  pub led : Each (λ group. is_led s.births rows group ≡ true) more

-- No more is owed by a chart that may follow than by the old one.
abbrev pub ChartsMayChange : Type 0
ChartsMayChange =
    (words : ℕ → ℕ → ℕ × ℕ) (births : List (Seat Player)) (rows : Rows) (old new : Chart) → MayFollow (players words births) rows old new → run_owes new (players words births) rows ≤ run_owes old (players words births) rows
