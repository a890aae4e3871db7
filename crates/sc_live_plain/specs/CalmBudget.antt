-- The budget of a calm scenario, in which orders are given besides, one after another.
use Rattle.std.specs.Prelude.{◌≡◌, ℕ, ◌+◌, ◌*◌, ◌≤◌, ◌&&◌, ◌||◌, Bool, true, false, List, ◌∷◌, ◌++◌, length, count_by}
use Rattle.std.specs.List.{list_any}
use Rattle.sc_base.specs.Definitions.{Each}
use Rattle.sc_scenario.specs.scenario.Definitions.{most_deliveries}
use Rattle.sc_scenario.specs.declared.scenario.scenarios.Scenario.{Scenario}
use Rattle.sc_scenario.specs.declared.scenario.scenarios.SchedLine.{SchedLine}
use Rattle.sc_scenario.specs.declared.scenario.scenarios.SchedLine.TheVariants.{Go, Deliver, Drop, Again, Tick, Crash, Told, Settle, Free, Storm}
use Rattle.sc_meaning.specs.sound.SoundDefinitions.{schedule}
use Rattle.sc_live_orderly.specs.OrderlyDefinitions.{HasRoom, AreSpaced, Nothing}
use Rattle.sc_live_plain.specs.Budget.{requests_of, delivers, IsAtBudget}

-- whether a line gives an order
abbrev pub gives_order : SchedLine → Bool
gives_order (Told node order) = true
gives_order (Go client) = false
gives_order (Deliver who k) = false
gives_order (Drop who k) = false
gives_order (Again mail) = false
gives_order (Tick who) = false
gives_order (Crash node) = false
gives_order (Settle most) = false
gives_order (Free most workers) = false
gives_order (Storm number most) = false

-- whether a line starts a client
abbrev pub starts : SchedLine → Bool
starts (Go client) = true
starts (Told node order) = false
starts (Deliver who k) = false
starts (Drop who k) = false
starts (Again mail) = false
starts (Tick who) = false
starts (Crash node) = false
starts (Settle most) = false
starts (Free most workers) = false
starts (Storm number most) = false

-- the number of orders that the schedule gives
abbrev pub orders_of : Scenario → ℕ
orders_of scenario = count_by gives_order scenario.lines

-- the budget of a calm scenario with R requests, C clients, G groups and N orders: (R + N * C) * (32 + 8 * (G + N)) + 512 * N deliveries
abbrev pub calm_budget_of : Scenario → ℕ
calm_budget_of scenario =
    (requests_of scenario + orders_of scenario * length scenario.clients) * (32 + 8 * (length scenario.groups + orders_of scenario)) + 512 * orders_of scenario

-- A calm line has room for a number of deliveries: it is a plain line that has, or gives an order.
abbrev pub AllowsCalmly : ℕ → SchedLine → Type 0
AllowsCalmly budget (Go client) = Unit {0}
AllowsCalmly budget (Told node order) = Unit {0}
AllowsCalmly budget (Settle most) = budget ≤ most
AllowsCalmly budget (Free most workers) = budget ≤ most
AllowsCalmly budget (Deliver who k) = (k ≡ 1) × (budget ≤ most_deliveries)
AllowsCalmly budget (Drop who k) = ⊥
AllowsCalmly budget (Again mail) = ⊥
AllowsCalmly budget (Tick who) = ⊥
AllowsCalmly budget (Crash node) = ⊥
AllowsCalmly budget (Storm number most) = ⊥

-- The scenario's lines start clients, deliver pending mail, of one actor the first, or give orders.
abbrev pub HasCalmLines : Scenario → Type 0
HasCalmLines scenario = Each (AllowsCalmly 0) scenario.lines

-- whether a line of deliveries has to stand between two lines: one gives an order, and the other gives an order or starts a client
abbrev pub are_parted : SchedLine → SchedLine → Bool
are_parted one other = (gives_order one && (gives_order other || starts other)) || (starts one && gives_order other)

-- A scenario whose lines are calm and have room for a number of deliveries: each order is followed by a line of deliveries, and one stands between each order and every other order or client that starts.
pub record IsCalmWith (room : ℕ) (scenario : Scenario) : Type 0 where
  pub lines : Each (AllowsCalmly room) scenario.lines
  pub followed : (before after : List SchedLine) (one : SchedLine) → scenario.lines ≡ before ++ one ∷ after → gives_order one ≡ true → list_any delivers after ≡ true
  pub parted : (before between after : List SchedLine) (one other : SchedLine) → scenario.lines ≡ before ++ one ∷ between ++ other ∷ after → are_parted one other ≡ true → list_any delivers between ≡ true

-- A calm scenario, whatever number of deliveries its lines allow.
abbrev pub IsCalm : Scenario → Type 0
IsCalm scenario = IsCalmWith 0 scenario

-- A calm scenario at its budget: each line of deliveries has room for the budget.
abbrev pub IsCalmAtBudget : Scenario → Type 0
IsCalmAtBudget scenario = IsCalmWith (calm_budget_of scenario) scenario

-- The orders of a calm scenario stand alone between lines of deliveries, and each of these has room for as many deliveries as the scenario's lines have.
abbrev pub CalmLinesAreSpaced : Type 0
CalmLinesAreSpaced = (room : ℕ) (scenario : Scenario) → IsCalmWith room scenario → AreSpaced Nothing (schedule scenario) × Each (HasRoom room) (schedule scenario)

-- A scenario that is calm with room for some deliveries is calm, and so is a plain one.
pub record RoomyScenariosAreCalm : Type 0 where
  pub calm : (room : ℕ) (scenario : Scenario) → IsCalmWith room scenario → IsCalm scenario
  pub plain : (scenario : Scenario) → IsAtBudget scenario → IsCalm scenario
