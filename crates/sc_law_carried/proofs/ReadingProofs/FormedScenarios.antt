-- A well formed scenario stays so with the clients and the schedule that are read off rows.
use Rattle.std.proofs.Common.{◌≡◌, ℕ, zero, suc, ◌+◌, ◌<◌, ◌≤◌, List, [], ◌∷◌, ◌++◌, length, Bool, true, false, cond, refl, arith, slice_index_or}
use Rattle.std.specs.List.{All, AllPairs}
use Rattle.std.proofs.lemmas.Bool.{and_parts, leb-true, ltb-true}
use Rattle.std.proofs.lemmas.List.Elements.{All-nil, All-cons}
use Rattle.sc_base.specs.Definitions.{client_actor, most_clients}
use Rattle.sc_node_table.specs.Values.{OrderLine, Mail, Row, Event, Order}
use Rattle.sc_words.specs.declared.commands.orders.Order.TheVariants as An
use Rattle.sc_actor.specs.declared.rows.Event.TheVariants.{Deliver, Tick, Go, Told, Crash, Drop, Again}
use Rattle.sc_scenario.specs.scenario.Definitions.{IsUpTo, IsBoundedOrder}
use Rattle.sc_scenario.specs.declared.scenario.scenarios.Asks.{Asks}
use Rattle.sc_scenario.specs.declared.scenario.scenarios.Scenario.{Scenario}
use Rattle.sc_law_groups.specs.whole.WholeDefinitions.{GivesBoundedOrder}
use Rattle.sc_law_carried.specs.reading.ReadingDefinitions.{is_node, is_bounded_order, may_be_line, line_at, actors_of, lines_from, has_row, requests_read, clients_from, clients_read, ReadScenariosAreWellFormed}

-- ---- orders

node_of : (nodes who : ℕ) → is_node nodes who ≡ true → IsUpTo nodes who
node_of nodes who t = let parts = and_parts _ _ t in (leb-true 1 who parts.0, leb-true who nodes parts.1)

order_of : (nodes : ℕ) (order : Order) → is_bounded_order nodes order ≡ true → IsBoundedOrder nodes order
order_of nodes (An.Join node group) t = node_of nodes node t
order_of nodes (An.Leave node group) t = node_of nodes node t
order_of nodes (An.Split group at) t = ltb-true at 4294967296 t
order_of nodes (An.Merge group) t = tt
order_of nodes (An.Repart group at) t = ltb-true at 4294967296 t
order_of nodes (An.Migrate group node) t = node_of nodes node t

line_bounded : (scenario : Scenario) (actors : List ℕ) (rows : List (Row Mail OrderLine)) (who : ℕ) (event : Event OrderLine) → may_be_line scenario who event ≡ true → GivesBoundedOrder scenario.nodes (line_at actors rows who event)
line_bounded scenario actors rows who (Deliver number) may = tt
line_bounded scenario actors rows who Tick may = tt
line_bounded scenario actors rows who Go may = tt
line_bounded scenario actors rows who (Told line) may =
    let parts = and_parts _ _ may in
    let more = and_parts _ _ parts.1 in
    (node_of scenario.nodes who parts.0, order_of scenario.nodes line.order more.0, leb-true 1 line.number more.1)
line_bounded scenario actors rows who Crash may = tt
line_bounded scenario actors rows who (Drop number) may = tt
line_bounded scenario actors rows who (Again number) may = tt

lines_bounded : (scenario : Scenario) (before rows : List (Row Mail OrderLine)) → All (GivesBoundedOrder scenario.nodes) (lines_from scenario before rows)
lines_bounded scenario before [] = All-nil (GivesBoundedOrder scenario.nodes)
lines_bounded scenario before (row ∷ rows) = by (may_be_line scenario row.who row.event) refl (lines_bounded scenario (before ++ row ∷ []) rows)
  where
    by : (b : Bool) → may_be_line scenario row.who row.event ≡ b → All (GivesBoundedOrder scenario.nodes) (lines_from scenario (before ++ row ∷ []) rows)
        → All (GivesBoundedOrder scenario.nodes) (cond b (line_at (actors_of scenario) before row.who row.event ∷ []) [] ++ lines_from scenario (before ++ row ∷ []) rows)
    by true may more = All-cons (GivesBoundedOrder scenario.nodes) (line_at (actors_of scenario) before row.who row.event) (lines_from scenario (before ++ row ∷ []) rows) (line_bounded scenario (actors_of scenario) before row.who row.event may) more
    by false may more = more

-- ---- clients

-- the clients rise, from a number on and below another
abbrev Between : ℕ → ℕ → List Asks → Type 0
Between low top [] = Unit {0}
Between low top (asks ∷ clients) = (low ≤ asks.client) × (asks.client < top) × Between (asks.client + 1) top clients

lower : (low high top : ℕ) (clients : List Asks) → low ≤ high → Between high top clients → Between low top clients
lower low high top [] le between = tt
lower low high top (asks ∷ clients) le between = (omega (arith, le, between.0), between.1, between.2)

clients_between : (version : ℕ) (rows : List (Row Mail OrderLine)) (first count top : ℕ) → first + count ≤ top → Between first top (clients_from version rows first count)
clients_between version rows first zero top le = tt
clients_between version rows first (suc count) top le = by (has_row rows (client_actor first)) (clients_between version rows (first + 1) count top (omega (arith, le)))
  where
    by : (b : Bool) → Between (first + 1) top (clients_from version rows (first + 1) count)
        → Between first top (cond b (record { client = first; ops = requests_read version first rows } ∷ []) [] ++ clients_from version rows (first + 1) count)
    by true more = (omega arith, omega (arith, le), more)
    by false more = lower first (first + 1) top (clients_from version rows (first + 1) count) (omega arith) more

up_to : (low top : ℕ) (clients : List Asks) → 1 ≤ low → Between low (top + 1) clients → All (λ (asks : Asks). IsUpTo top asks.client) clients
up_to low top [] le between = All-nil (λ (asks : Asks). IsUpTo top asks.client)
up_to low top (asks ∷ clients) le between =
    All-cons (λ (asks : Asks). IsUpTo top asks.client) asks clients (omega (arith, le, between.0), omega (arith, between.1)) (up_to (asks.client + 1) top clients (omega arith) between.2)

above_first : (low top : ℕ) (clients : List Asks) → Between low top clients → (k : ℕ) (d : Asks) → k < length clients → low ≤ (slice_index_or clients k d).client
above_first low top [] between k d lt = absurd (omega (arith, lt))
above_first low top (asks ∷ clients) between zero d lt = between.0
above_first low top (asks ∷ clients) between (suc k) d lt =
    let more = above_first (asks.client + 1) top clients between.2 k d (omega (arith, lt)) in
    omega (arith, more, between.0)

ascending : (low top : ℕ) (clients : List Asks) → Between low top clients → AllPairs (λ (one other : Asks). one.client < other.client) clients
ascending low top [] between i j d lt within = absurd (omega (arith, within))
ascending low top (asks ∷ clients) between i zero d lt within = absurd (omega (arith, lt))
ascending low top (asks ∷ clients) between zero (suc j) d lt within =
    let more = above_first (asks.client + 1) top clients between.2 j d (omega (arith, within)) in
    omega (arith, more)
ascending low top (asks ∷ clients) between (suc i) (suc j) d lt within = ascending (asks.client + 1) top clients between.2 i j d (omega (arith, lt)) (omega (arith, within))

-- ---- the law

pub read_scenarios_are_formed : ReadScenariosAreWellFormed
read_scenarios_are_formed = record {
  clients = λ scenario rows formed.
      let between = clients_between scenario.version rows 1 most_clients (most_clients + 1) (omega arith) in
      record {
        starts = formed.starts;
        nodes = formed.nodes;
        some = formed.some;
        each = formed.each;
        rising = formed.rising;
        groups = formed.groups;
        clients = up_to 1 most_clients (clients_read scenario.version rows) (omega arith) between;
        ascending = ascending 1 (most_clients + 1) (clients_read scenario.version rows) between;
        orders = formed.orders;
      };
  lines = λ scenario rows formed. record {
    starts = formed.starts;
    nodes = formed.nodes;
    some = formed.some;
    each = formed.each;
    rising = formed.rising;
    groups = formed.groups;
    clients = formed.clients;
    ascending = formed.ascending;
    orders = lines_bounded scenario [] rows;
  };
}
