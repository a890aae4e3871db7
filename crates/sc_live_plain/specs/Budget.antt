-- The budget of a plain scenario: the deliveries that each line has to allow, so that every request is answered.
use Rattle.std.specs.Prelude.{◌≡◌, ℕ, ◌+◌, ◌*◌, ◌≤◌, Bool, true, false, List, ◌∷◌, ◌++◌, length, sum_by}
use Rattle.std.specs.List.{list_any}
use Rattle.sc_base.specs.Definitions.{Among, Each}
use Rattle.sc_node_table.specs.Values.{Base, OrderLine, Mail, Row}
use Rattle.sc_scenario.specs.scenario.Definitions.{most_deliveries}
use Rattle.sc_scenario.specs.declared.scenario.scenarios.Asks.{Asks}
use Rattle.sc_scenario.specs.declared.scenario.scenarios.Scenario.{Scenario}
use Rattle.sc_scenario.specs.declared.scenario.scenarios.SchedLine.{SchedLine}
use Rattle.sc_scenario.specs.declared.scenario.scenarios.SchedLine.TheVariants.{Go, Deliver, Drop, Again, Tick, Crash, Told, Settle, Free, Storm}
use Rattle.sc_meaning.specs.sound.SoundDefinitions.{route_of, kept_replies}

-- the number of requests of all clients together
abbrev pub requests_of : Scenario → ℕ
requests_of scenario = sum_by (λ asks. length asks.ops) scenario.clients

-- the budget of a plain scenario with R requests and G groups: R * (32 + 4 * G) deliveries
abbrev pub budget_of : Scenario → ℕ
budget_of scenario = requests_of scenario * (32 + 4 * length scenario.groups)

-- A plain line has room for a number of deliveries: it starts a client, or delivers pending mail of all actors at least so often, or the first pending mail of one actor where the number is one that a line can allow.
abbrev pub AllowsDeliveries : ℕ → SchedLine → Type 0
AllowsDeliveries budget (Go client) = Unit {0}
AllowsDeliveries budget (Settle most) = budget ≤ most
AllowsDeliveries budget (Free most workers) = budget ≤ most
AllowsDeliveries budget (Deliver who k) = (k ≡ 1) × (budget ≤ most_deliveries)
AllowsDeliveries budget (Drop who k) = ⊥
AllowsDeliveries budget (Again mail) = ⊥
AllowsDeliveries budget (Tick who) = ⊥
AllowsDeliveries budget (Crash node) = ⊥
AllowsDeliveries budget (Told node order) = ⊥
AllowsDeliveries budget (Storm number most) = ⊥

-- A plain scenario at its budget: its lines start clients and deliver mail, and each that delivers pending mail of all actors has room for the budget.
abbrev pub IsAtBudget : Scenario → Type 0
IsAtBudget scenario = Each (AllowsDeliveries (budget_of scenario)) scenario.lines

-- whether a line delivers pending mail of all actors: a `settle` or `free` line
abbrev pub delivers : SchedLine → Bool
delivers (Settle most) = true
delivers (Free most workers) = true
delivers (Go client) = false
delivers (Deliver who k) = false
delivers (Drop who k) = false
delivers (Again mail) = false
delivers (Tick who) = false
delivers (Crash node) = false
delivers (Told node order) = false
delivers (Storm number most) = false

-- the client has a `go` line in the schedule, and a line of deliveries follows it
pub record StartsBeforeDeliveries (scenario : Scenario) (client : ℕ) : Type 0 where
  pub before : List SchedLine
  pub after : List SchedLine
  pub lines_are : scenario.lines ≡ before ++ Go client ∷ after
  pub delivered : list_any delivers after ≡ true

-- each client whose `go` line is followed by a line of deliveries kept a reply to each of its requests
abbrev pub AreAnswered : Scenario → List (Row Mail OrderLine) → Type 0
AreAnswered scenario journal =
    (first : Base) (others : List Base) → scenario.groups ≡ first ∷ others
    → (asks : Asks) → Among asks scenario.clients → StartsBeforeDeliveries scenario asks.client
    → length (kept_replies (route_of first) asks journal) ≡ length asks.ops
