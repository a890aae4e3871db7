-- The section of a client is found by the client's number, so what it says is what the client asks.
use Rattle.std.proofs.Common.{◌≡◌, ◌-◌, eqb, List, [], ◌∷◌, find, Option, Some, inl, inr, refl, sym, ◌∙◌, ap}
use Rattle.std.specs.Prelude.{slice_get, option_and_then}
use Rattle.std.proofs.lemmas.Bool.{eqb-true, eq-eqb, cond-true, cond_both}
use Rattle.sc_base.specs.Definitions.{Among}
use Rattle.sc_node_table.specs.Values.{Draw}
use Rattle.sc_words.proofs.PaxosProofs.PaxosLemmas.{find_found}
use Rattle.sc_scenario.specs.declared.scenario.scenarios.Asks.{Asks}
use Rattle.sc_scenario.specs.declared.scenario.scenarios.Scenario.{Scenario}
use Rattle.sc_law_groups.specs.whole.WholeDefinitions.{AsksAre, op_or_get, section_op}

-- a client that has a section is found
find_there : (clients : List Asks) (asks : Asks) → Among asks clients → (found : Asks) × (find (λ (a : Asks). eqb a.client asks.client) clients ≡ Some found)
find_there [] asks a = absurd a
find_there (c ∷ clients) asks (inl e) = (c, cond-true (eqb c.client asks.client) (Some c) (find (λ (a : Asks). eqb a.client asks.client) clients) (eq-eqb c.client asks.client (ap (λ (a : Asks). a.client) e)))
find_there (c ∷ clients) asks (inr a) =
    let later = find_there clients asks a in
    cond_both (eqb c.client asks.client) (Some c) (find (λ (x : Asks). eqb x.client asks.client) clients) (λ o. (found : Asks) × (o ≡ Some found)) (λ _. (c, refl)) (λ _. later)

-- clients ask what their sections say, where no two have one number
pub asks_are : (owner : Draw → Option Draw) (scenario : Scenario) → ((one other : Asks) → Among one scenario.clients → Among other scenario.clients → one.client ≡ other.client → one ≡ other)
    → AsksAre (record { owner = owner; request = section_op scenario }) scenario
asks_are owner scenario once asks stands seq op some fact =
    let (c, there) = find_there scenario.clients asks stands in
    let found = find_found (λ (a : Asks). eqb a.client asks.client) scenario.clients c there in
    let same : c ≡ asks = once c asks found.0 stands (eqb-true c.client asks.client found.1) in
    sym (ap (λ o. op_or_get (option_and_then (λ (a : Asks). slice_get a.ops (seq - 1)) o)) (there ∙ ap (λ (a : Asks). Some a) same) ∙ ap op_or_get fact)
