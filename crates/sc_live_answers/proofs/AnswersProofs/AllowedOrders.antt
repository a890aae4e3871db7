-- Each order that a journal of a valid scenario of calm lines gives is such as its lines may give.
use Rattle.std.proofs.Common.{◌≡◌, ℕ, true, List, [], ◌∷◌, map, refl, ◌^◌, ◌&&◌, leb}
use Rattle.std.proofs.lemmas.Bool.{and_from, le-leb, lt-ltb}
use Rattle.sc_base.specs.Definitions.{Each}
use Rattle.sc_node_table.specs.Values.{Order, Merge, Repart, Migrate}
use Rattle.sc_words.specs.declared.commands.orders.Order.TheVariants.{Join, Leave, Split}
use Rattle.sc_live_orderly.specs.OrderlyDefinitions.{LinesGiveAllowedOrders}
use Rattle.sc_live_orderly.proofs.GivenOrders.{told_so}
use Rattle.sc_words.proofs.PaxosProofs.PaxosLemmas.{Each-from_All}
use Rattle.sc_scenario.specs.scenario.Definitions.{IsUpTo, IsBoundedOrder, IsBoundedLine, ValidScenariosAreBounded}
use Rattle.sc_scenario.specs.declared.scenario.scenarios.Scenario.{Scenario}
use Rattle.sc_scenario.specs.declared.scenario.scenarios.SchedLine.{SchedLine}
use Rattle.sc_scenario.specs.declared.scenario.scenarios.SchedLine.TheVariants.{Go, Deliver, Drop, Again, Tick, Crash, Told, Settle, Free, Storm}
use Rattle.sc_meaning.specs.sound.SoundDefinitions.{line_of, schedule, as_nodes, system_of}
use Rattle.sc_live_plain.proofs.PlainLemmas.{schedule_calm}
use Rattle.sc_live_answers.specs.GivenOrders.{names_nodes, may_be_given, OrdersMayBeGiven}

up_to : (most n : ℕ) → IsUpTo most n → (leb 1 n && leb n most) ≡ true
up_to most n fact = and_from (leb 1 n) (leb n most) (le-leb 1 n fact.0) (le-leb n most fact.1)

named : (nodes : ℕ) (order : Order) → IsBoundedOrder nodes order → names_nodes nodes order ≡ true
named nodes (Join node group) b = up_to nodes node b
named nodes (Leave node group) b = up_to nodes node b
named nodes (Split group at) b = lt-ltb at (2 ^ 32) b
named nodes (Merge group) b = refl
named nodes (Repart group at) b = lt-ltb at (2 ^ 32) b
named nodes (Migrate group node) b = up_to nodes node b

given_so : (scenario : Scenario) (lines : List SchedLine) → Each (IsBoundedLine scenario.nodes scenario.clients) lines → LinesGiveAllowedOrders (may_be_given scenario) (map line_of lines)
given_so scenario [] bounded = tt
given_so scenario (Told node order ∷ lines) bounded = (
  (let b = bounded.0 in
      and_from (leb 1 node && leb node scenario.nodes) (names_nodes scenario.nodes order.order && leb 1 order.number) (up_to scenario.nodes node b.0)
      (and_from (names_nodes scenario.nodes order.order) (leb 1 order.number) (named scenario.nodes order.order b.1) (le-leb 1 order.number b.2))),
  given_so scenario lines bounded.1,
)
given_so scenario (Go client ∷ lines) bounded = (tt, given_so scenario lines bounded.1)
given_so scenario (Deliver who k ∷ lines) bounded = (tt, given_so scenario lines bounded.1)
given_so scenario (Drop who k ∷ lines) bounded = (tt, given_so scenario lines bounded.1)
given_so scenario (Again mail ∷ lines) bounded = (tt, given_so scenario lines bounded.1)
given_so scenario (Tick who ∷ lines) bounded = (tt, given_so scenario lines bounded.1)
given_so scenario (Crash node ∷ lines) bounded = (tt, given_so scenario lines bounded.1)
given_so scenario (Settle most ∷ lines) bounded = (tt, given_so scenario lines bounded.1)
given_so scenario (Free most workers ∷ lines) bounded = (tt, given_so scenario lines bounded.1)
given_so scenario (Storm number most ∷ lines) bounded = (tt, given_so scenario lines bounded.1)

pub orders_so : ValidScenariosAreBounded → OrdersMayBeGiven
orders_so all_bounded words scenario journal valid calm lawful =
    told_so (system_of as_nodes words scenario) (schedule scenario) (schedule_calm scenario.lines calm) (may_be_given scenario)
    (given_so scenario scenario.lines (Each-from_All (IsBoundedLine scenario.nodes scenario.clients) scenario.lines (all_bounded scenario valid).lines)) journal lawful
