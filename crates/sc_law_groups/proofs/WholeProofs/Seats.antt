-- The actors of a scenario have different numbers: nodes up to 32, and then clients up to 96, ascending.
use Rattle.std.proofs.Common.{◌≡◌, ℕ, zero, suc, ◌+◌, ◌<◌, ◌≤◌, Bool, true, false, not, eqb, List, [], ◌∷◌, ◌++◌, length, map, refl, ap, arith, slice_index_or}
use Rattle.std.specs.List.{All, AllPairs, list_any}
use Rattle.std.proofs.lemmas.Bool.{ne_eqb, and_from}
use Rattle.std.proofs.lemmas.List.Elements.{All-nil, All-cons}
use Rattle.sc_base.specs.Definitions.{most_clients}
use Rattle.sc_node_table.specs.Values.{Base, Route, Seat}
use Rattle.sc_actor.specs.Definitions.{are_apart}
use Rattle.sc_node_table.specs.NodeDefinitions.{numbers_from}
use Rattle.sc_scenario.specs.scenario.Definitions.{IsBounded, IsUpTo}
use Rattle.sc_scenario.specs.declared.scenario.scenarios.Asks.{Asks}
use Rattle.sc_scenario.specs.declared.scenario.scenarios.Scenario.{Scenario}
use Rattle.sc_meaning.specs.sound.SoundDefinitions.{node_seat, client_seat, client_seats, route_of, births, most_actor, Player, as_nodes}
use Rattle.sc_law_groups.specs.whole.WholeDefinitions.{IsWellFormed}
use Rattle.sc_law_groups.proofs.WholeProofs.StartValid.{bounded_is_formed}

-- the numbers rise, from above a number on
abbrev Rises : ℕ → List (Seat Player) → Type 0
Rises low [] = Unit {0}
Rises low (seat ∷ seats) = (low < seat.who) × Rises seat.who seats

none_same : (number low : ℕ) (seats : List (Seat Player)) → number ≤ low → Rises low seats → list_any (λ (other : Seat Player). eqb other.who number) seats ≡ false
none_same number low [] le r = refl
none_same number low (seat ∷ seats) le r =
    let other : eqb seat.who number ≡ false = ne_eqb seat.who number (λ e. absurd (omega (arith, e, le, r.0))) in
    rw other (none_same number seat.who seats (omega (arith, le, r.0)) r.1)

apart_rising : (low : ℕ) (seats : List (Seat Player)) → Rises low seats → are_apart seats ≡ true
apart_rising low [] r = refl
apart_rising low (seat ∷ seats) r = and_from _ _ (ap not (none_same seat.who seat.who seats (omega arith) r.1)) (apart_rising seat.who seats r.1)

-- none is above a number
abbrev Within : ℕ → List (Seat Player) → Type 0
Within top [] = Unit {0}
Within top (seat ∷ seats) = (seat.who ≤ top) × Within top seats

lower : (low top : ℕ) (seats : List (Seat Player)) → low ≤ top → Rises top seats → Rises low seats
lower low top [] le r = tt
lower low top (seat ∷ seats) le r = (omega (arith, le, r.0), r.1)

rise_on : (low top : ℕ) (xs ys : List (Seat Player)) → low ≤ top → Rises low xs → Within top xs → Rises top ys → Rises low (xs ++ ys)
rise_on low top [] ys le r w s = lower low top ys le s
rise_on low top (x ∷ xs) ys le r w s = (r.0, rise_on x.who top xs ys w.0 r.1 w.1 s)

nodes_rise : (groups : List Base) (policy : Bool) (low from count : ℕ) → low < from → Rises low (map (node_seat as_nodes groups policy) (numbers_from from count))
nodes_rise groups policy low from zero lt = tt
nodes_rise groups policy low from (suc count) lt = (lt, nodes_rise groups policy from (from + 1) count (omega arith))

nodes_within : (groups : List Base) (policy : Bool) (top from count : ℕ) → from + count ≤ top + 1 → Within top (map (node_seat as_nodes groups policy) (numbers_from from count))
nodes_within groups policy top from zero le = tt
nodes_within groups policy top from (suc count) le = (omega (arith, le), nodes_within groups policy top (from + 1) count (omega (arith, le)))

clients_rise : (first : Route) (low : ℕ) (clients : List Asks) → All (λ (asks : Asks). low < asks.client) clients → AllPairs (λ (a b : Asks). a.client < b.client) clients
    → Rises (32 + low) (map (client_seat first) clients)
clients_rise first low [] above rising = tt
clients_rise first low (asks ∷ clients) above rising = (
  omega (arith, above 0 asks (omega arith)),
  clients_rise first asks.client clients (λ k d lt. later k d lt) (λ i j d lt within. rising (suc i) (suc j) d (omega (arith, lt)) (omega (arith, within))),
)
  where
    later : (k : ℕ) (d : Asks) → k < length clients → asks.client < (slice_index_or clients k d).client
    later k d lt = rising 0 (suc k) d (omega arith) (omega (arith, lt))

clients_rise_any : (groups : List Base) (clients : List Asks) → All (λ (asks : Asks). 0 < asks.client) clients → AllPairs (λ (a b : Asks). a.client < b.client) clients → Rises 32 (client_seats groups clients)
clients_rise_any [] clients above rising = tt
clients_rise_any (base ∷ groups) clients above rising = clients_rise (route_of base) 0 clients above rising

within_on : (top : ℕ) (xs ys : List (Seat Player)) → Within top xs → Within top ys → Within top (xs ++ ys)
within_on top [] ys w v = v
within_on top (x ∷ xs) ys w v = (w.0, within_on top xs ys w.1 v)

clients_within : (first : Route) (clients : List Asks) → All (λ (asks : Asks). IsUpTo most_clients asks.client) clients → Within most_actor (map (client_seat first) clients)
clients_within first [] all = tt
clients_within first (asks ∷ clients) all = (
  omega (arith, (all 0 asks (omega arith)).1),
  clients_within first clients (λ k d lt. all (suc k) d (omega (arith, lt))),
)

clients_within_any : (groups : List Base) (clients : List Asks) → All (λ (asks : Asks). IsUpTo most_clients asks.client) clients → Within most_actor (client_seats groups clients)
clients_within_any [] clients all = tt
clients_within_any (base ∷ groups) clients all = clients_within (route_of base) clients all

-- those that rise from above a number and are not above another lie between
between : (low top : ℕ) (seats : List (Seat Player)) → Rises low seats → Within top seats → All (λ (seat : Seat Player). (low < seat.who) × (seat.who ≤ top)) seats
between low top [] r w = All-nil (λ (seat : Seat Player). (low < seat.who) × (seat.who ≤ top))
between low top (seat ∷ seats) r w =
    All-cons (λ (seat : Seat Player). (low < seat.who) × (seat.who ≤ top)) seat seats (r.0, w.0)
    (between low top seats (lower low seat.who seats (omega (arith, r.0)) r.1) w.1)

-- the births of a well formed scenario rise
births_rise : (scenario : Scenario) → IsWellFormed scenario → Rises 0 (births as_nodes scenario)
births_rise scenario formed =
    let clients : Rises 32 (client_seats scenario.groups scenario.clients) =
    clients_rise_any scenario.groups scenario.clients (λ k d lt. omega (arith, (formed.clients k d lt).0)) formed.ascending in
    rise_on 0 32 _ (client_seats scenario.groups scenario.clients) (omega arith) (nodes_rise scenario.groups scenario.policy 0 1 scenario.nodes (omega arith))
    (nodes_within scenario.groups scenario.policy 32 1 scenario.nodes (omega (arith, formed.nodes.1))) clients

-- so they have different numbers
pub formed_apart : (scenario : Scenario) → IsWellFormed scenario → are_apart (births as_nodes scenario) ≡ true
formed_apart scenario formed = apart_rising 0 (births as_nodes scenario) (births_rise scenario formed)

pub all_apart : (scenario : Scenario) → IsBounded scenario → are_apart (births as_nodes scenario) ≡ true
all_apart scenario bounded = formed_apart scenario (bounded_is_formed scenario bounded)

-- and numbers from 1 to 96
pub all_numbered : (scenario : Scenario) → IsBounded scenario → All (λ (seat : Seat Player). (0 < seat.who) × (seat.who ≤ most_actor)) (births as_nodes scenario)
all_numbered scenario bounded =
    let formed = bounded_is_formed scenario bounded in
    let clients : Within most_actor (client_seats scenario.groups scenario.clients) = clients_within_any scenario.groups scenario.clients formed.clients in
    between 0 most_actor (births as_nodes scenario) (births_rise scenario formed)
    (within_on most_actor _ (client_seats scenario.groups scenario.clients) (nodes_within scenario.groups scenario.policy most_actor 1 scenario.nodes (omega (arith, bounded.nodes.1))) clients)
