-- Journals in which each order is given while nothing else is under way: all that was asked is answered, and each order has its result.
use Rattle.std.specs.Prelude.{◌≡◌, ℕ, ◌^◌, ◌≤◌, true, List, ◌∷◌, length}
use Rattle.sc_base.specs.Definitions.{Among, client_actor}
use Rattle.sc_node_table.specs.Values.{Base, OrderLine, Mail, Row}
use Rattle.sc_actor.specs.Definitions.{has_started, is_quiet}
use Rattle.sc_scenario.specs.scenario.Definitions.{IsValid}
use Rattle.sc_scenario.specs.declared.scenario.scenarios.Asks.{Asks}
use Rattle.sc_scenario.specs.declared.scenario.scenarios.Scenario.{Scenario}
use Rattle.sc_meaning.specs.sound.SoundDefinitions.{system_of, route_of, as_nodes, kept_replies, Lawful, Whole}
use Rattle.sc_live_orderly.specs.OrderlyDefinitions.{AreInTime}
use Rattle.sc_live_plain.specs.PlainDefinitions.{HasCalmLines}
use Rattle.sc_live_answers.specs.ReportedOrders.{AreOrdersReported}

-- Orders are given in quiet: the scenario's lines start clients, deliver pending mail, of one actor the first, or give orders; in the journal an order is given only where no mail is pending, and a client starts only where no mail was pending since the last order; and no mail is pending at the end.
pub record GivesOrdersInQuiet (words : ℕ → ℕ → ℕ × ℕ) (scenario : Scenario) (journal : List (Row Mail OrderLine)) : Type 0 where
  pub lines : HasCalmLines scenario
  pub timely : AreInTime (system_of as_nodes words scenario) journal
  pub quiet : is_quiet (system_of as_nodes words scenario) journal ≡ true

-- each client that has started kept a reply to each of its requests
abbrev pub AreStartedAnswered : Scenario → List (Row Mail OrderLine) → Type 0
AreStartedAnswered scenario journal =
    (first : Base) (others : List Base) → scenario.groups ≡ first ∷ others
    → (asks : Asks) → Among asks scenario.clients → has_started journal (client_actor asks.client) ≡ true
    → length (kept_replies (route_of first) asks journal) ≡ length asks.ops

-- In a lawful journal of a valid scenario whose orders are given in quiet, with no more rows than slots and rounds are for, every request of a client that has started is answered.
abbrev pub StartedRequestsAreAnswered : Type 0
StartedRequestsAreAnswered =
    (words : ℕ → ℕ → ℕ × ℕ) (scenario : Scenario) (journal : List (Row Mail OrderLine)) → IsValid scenario → GivesOrdersInQuiet words scenario journal → Lawful as_nodes words scenario journal → length journal ≤ 2 ^ 28
    → AreStartedAnswered scenario journal

-- In a whole one the result of each order is reported.
abbrev pub OrdersInQuietAreReported : Type 0
OrdersInQuietAreReported =
    (words : ℕ → ℕ → ℕ × ℕ) (scenario : Scenario) (journal : List (Row Mail OrderLine)) → IsValid scenario → GivesOrdersInQuiet words scenario journal → Lawful as_nodes words scenario journal → Whole as_nodes words scenario journal → length journal ≤ 2 ^ 28
    → AreOrdersReported scenario journal
