-- The lines and the clients of a bounded scenario.
use Rattle.std.proofs.Common.{◌≡◌, ℕ, suc, ◌<◌, ◌≤◌, List, [], ◌∷◌, map, Bool, true, false, true≢false, eqb, ◌||◌, refl, sym, arith, Contains}
use Rattle.std.specs.List.{All}
use Rattle.std.proofs.lemmas.Bool.{eqb-true}
use Rattle.std.proofs.lemmas.List.Elements.{All-nil, All-cons, All-contains}
use Rattle.sc_words.specs.declared.commands.orders.OrderLine.{OrderLine}
use Rattle.sc_actor.specs.declared.schedules.Line.{Line}
use Rattle.sc_actor.specs.declared.schedules.Line.TheVariants as line
use Rattle.sc_scenario.specs.scenario.Schedules.{is_client}
use Rattle.sc_scenario.specs.scenario.Valid.{IsBounded, IsBoundedClient, IsBoundedLine}
use Rattle.sc_scenario.specs.declared.scenario.scenarios.Asks.{Asks}
use Rattle.sc_scenario.specs.declared.scenario.scenarios.Scenario.{Scenario}
use Rattle.sc_scenario.specs.declared.scenario.scenarios.SchedLine.{SchedLine}
use Rattle.sc_scenario.specs.declared.scenario.scenarios.SchedLine.TheVariants.{Go, Deliver, Drop, Again, Tick, Crash, Told, Settle, Free, Storm}
use Rattle.sc_meaning.specs.sound.Players.{line_of, schedule, AreFew}

-- no client of a bounded scenario has more requests than it may
pub few : (scenario : Scenario) → IsBounded scenario → AreFew scenario
few scenario bounded = λ k d lt. (bounded.clients k d lt).1

-- clients go, nodes crash, and no client has the number of a node
abbrev Parted : Line OrderLine → Type 0
Parted (line.Go who) = 32 < who
Parted (line.Deliver who k) = Unit {0}
Parted (line.Drop who k) = Unit {0}
Parted (line.Again mail) = Unit {0}
Parted (line.Tick who) = Unit {0}
Parted (line.Crash who) = who ≤ 32
Parted (line.Told who order) = Unit {0}
Parted (line.Settle most) = Unit {0}
Parted (line.Free most workers) = Unit {0}
Parted (line.Storm number most) = Unit {0}

client_some : (clients : List Asks) (client : ℕ) → All IsBoundedClient clients → is_client clients client ≡ true → 0 < client
client_some [] client all e = absurd (true≢false (sym e))
client_some (asks ∷ clients) client all e =
    by (eqb asks.client client) refl e (client_some clients client (λ k d lt. all (suc k) d (omega (arith, lt))))
  where
    by : (b : Bool) → eqb asks.client client ≡ b → (b || is_client clients client) ≡ true → (is_client clients client ≡ true → 0 < client) → 0 < client
    by true t e later = omega (arith, (all 0 asks (omega arith)).0.0, eqb-true asks.client client t)
    by false t e later = later e

parted_one : (nodes : ℕ) (clients : List Asks) (x : SchedLine) → nodes ≤ 32 → All IsBoundedClient clients → IsBoundedLine nodes clients x → Parted (line_of x)
parted_one nodes clients (Go client) few all h = omega (arith, client_some clients client all h)
parted_one nodes clients (Deliver who k) few all h = tt
parted_one nodes clients (Drop who k) few all h = tt
parted_one nodes clients (Again mail) few all h = tt
parted_one nodes clients (Tick who) few all h = tt
parted_one nodes clients (Crash node) few all h = omega (arith, few, h.1)
parted_one nodes clients (Told node line) few all h = tt
parted_one nodes clients (Settle most) few all h = tt
parted_one nodes clients (Free most workers) few all h = tt
parted_one nodes clients (Storm number most) few all h = tt

parted_all : (nodes : ℕ) (clients : List Asks) (xs : List SchedLine) → nodes ≤ 32 → All IsBoundedClient clients → All (IsBoundedLine nodes clients) xs → All Parted (map line_of xs)
parted_all nodes clients [] few all each = All-nil Parted
parted_all nodes clients (x ∷ xs) few all each =
    All-cons Parted (line_of x) (map line_of xs) (parted_one nodes clients x few all (each 0 x (omega arith)))
    (parted_all nodes clients xs few all (λ k d lt. each (suc k) d (omega (arith, lt))))

-- no actor with a `go` line may crash
pub spared : (scenario : Scenario) → IsBounded scenario → (who : ℕ) → Contains (schedule scenario) (line.Go who) → ¬ Contains (schedule scenario) (line.Crash who)
spared scenario bounded who goes crashes =
    let each : All Parted (schedule scenario) = parted_all scenario.nodes scenario.clients scenario.lines bounded.nodes.1 bounded.clients bounded.lines in
    let high : 32 < who = All-contains Parted (schedule scenario) (line.Go who) each goes in
    let low : who ≤ 32 = All-contains Parted (schedule scenario) (line.Crash who) each crashes in
    omega (arith, high, low)
