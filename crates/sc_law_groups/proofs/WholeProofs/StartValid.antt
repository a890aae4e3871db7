-- Each well formed scenario has its groups in place, and its players are seated; so does each valid one.
use Rattle.std.proofs.Common.{◌≡◌, ◌-◌, ◌<◌, ◌≤◌, List, ◌∷◌, ◌++◌, length, map, Option, None, sym, ◌∙◌, ap, subst, arith, slice_index_or}
use Rattle.std.specs.List.{All, AllPairs}
use Rattle.sc_base.specs.Definitions.{Among}
use Rattle.sc_node_table.specs.Values.{Draw, Base}
use Rattle.sc_node_table.specs.NodeDefinitions.{numbers_from, slots_ahead}
use Rattle.sc_meaning.specs.sound.SoundDefinitions.{Ahead, node_seat, client_seats, route_of, AreNamedApart}
use Rattle.sc_scenario.specs.scenario.Definitions.{base_at, IsBounded, IsBoundedLine, ValidScenariosAreBounded}
use Rattle.sc_scenario.specs.declared.scenario.scenarios.Asks.{Asks}
use Rattle.sc_scenario.specs.declared.scenario.scenarios.Scenario.{Scenario}
use Rattle.sc_law_entries.specs.history.HistoryDefinitions.{BeginBare}
use Rattle.sc_law_entries.specs.ring.RingDefinitions.{Sources, BeginInPlace}
use Rattle.sc_scenario.specs.declared.scenario.scenarios.SchedLine.{SchedLine}
use Rattle.sc_scenario.specs.declared.scenario.scenarios.SchedLine.TheVariants.{Go, Deliver, Drop, Again, Tick, Crash, Told, Settle, Free, Storm}
use Rattle.sc_law_groups.specs.whole.WholeDefinitions.{HasSeats, IsReady, section_op, ValidScenariosBeginWell, IsWellFormed, GivesBoundedOrder, BoundedScenariosAreWellFormed}
use Rattle.sc_law_groups.proofs.WholeProofs.ClientSections.{asks_are}
use Rattle.sc_law_groups.proofs.WholeProofs.Starts.{AreStarts, bases_from, first_and_others, starts_apart, starts_bare, starts_fresh, starts_in_place}
use Rattle.sc_words.proofs.PaxosProofs.PaxosLemmas.{one_of_name, Each-from_All}

-- clients that rise are numbered each once
numbered_once : (clients : List Asks) → AllPairs (λ (a b : Asks). a.client < b.client) clients
    → (one other : Asks) → Among one clients → Among other clients → one.client ≡ other.client → one ≡ other
numbered_once clients rising = one_of_name (λ (asks : Asks). asks.client) clients (λ i j d lt within e. (let below = rising i j d lt within in absurd (omega (arith, below, e))))

-- a scenario within its bounds gives bounded orders
orders_bounded : (scenario : Scenario) → IsBounded scenario → All (GivesBoundedOrder scenario.nodes) scenario.lines
orders_bounded scenario bounded k d lt = by (slice_index_or scenario.lines k d) (bounded.lines k d lt)
  where
    by : (line : SchedLine) → IsBoundedLine scenario.nodes scenario.clients line → GivesBoundedOrder scenario.nodes line
    by (Go client) b = tt
    by (Deliver who k) b = tt
    by (Drop who k) b = tt
    by (Again mail) b = tt
    by (Tick who) b = tt
    by (Crash node) b = tt
    by (Told node line) b = b
    by (Settle most) b = tt
    by (Free most workers) b = tt
    by (Storm number most) b = tt

-- and is well formed
pub bounded_is_formed : BoundedScenariosAreWellFormed
bounded_is_formed scenario bounded = record {
  starts = bounded.starts;
  nodes = bounded.nodes;
  some = bounded.some;
  each = bounded.each;
  rising = bounded.rising;
  groups = bounded.groups;
  clients = λ k d lt. (bounded.clients k d lt).0;
  ascending = bounded.ascending;
  orders = orders_bounded scenario bounded;
}

module _ (owner : Draw → Option Draw) (unowned : (name : Draw) → name.node ≡ 0 → owner name ≡ None) (ahead : Ahead) (open_slots : ahead.slots ≡ slots_ahead) (scenario : Scenario) (formed : IsWellFormed scenario) where
  abbrev sources : Sources
  sources = record { owner = owner; request = section_op scenario }

  abbrev first : Base
  first = base_at formed.starts 0

  abbrev others : List Base
  others = bases_from formed.starts 1 (length formed.starts - 1)

  groups_are : scenario.groups ≡ first ∷ others
  groups_are = formed.groups ∙ first_and_others formed.starts formed.some

  are_starts : AreStarts formed.starts
  are_starts = record { some = formed.some; low = λ k d lt. (formed.each k d lt).lo_in; rising = formed.rising }

  seats : HasSeats ahead scenario (route_of first)
  seats = record {
    seats = ap (λ gs. map (node_seat ahead scenario.groups scenario.policy) (numbers_from 1 scenario.nodes) ++ client_seats gs scenario.clients) groups_are;
    nodes = formed.nodes.1;
    numbered = Each-from_All (λ (asks : Asks). 1 ≤ asks.client) scenario.clients (λ k d lt. (formed.clients k d lt).0);
    once = numbered_once scenario.clients formed.ascending;
    open_slots = open_slots;
  }

  -- each well formed scenario is ready
  pub formed_ready : IsReady sources ahead scenario
  formed_ready = record {
    first = first;
    others = others;
    groups = groups_are;
    well = record {
      place = subst (BeginInPlace sources) (sym formed.groups) (starts_in_place formed.starts are_starts sources unowned);
      apart = subst AreNamedApart (sym formed.groups) (starts_apart formed.starts);
      fresh = λ base a. starts_fresh formed.starts (λ k d lt. (formed.each k d lt).roster) base (subst (Among base) formed.groups a);
      seats = seats;
      asks = asks_are owner scenario seats.once;
    };
    bare = subst BeginBare (sym formed.groups) (starts_bare formed.starts are_starts);
  }

-- each valid scenario is ready
pub valid_begin_well : ValidScenariosAreBounded → ValidScenariosBeginWell
valid_begin_well bounded owner unowned ahead open_slots scenario valid = formed_ready owner unowned ahead open_slots scenario (bounded_is_formed scenario (bounded scenario valid))
