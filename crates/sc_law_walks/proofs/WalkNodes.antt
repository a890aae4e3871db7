-- What a walk says is kept by each row of a node's table.
use Rattle.std.proofs.Common.{◌≡◌, List, []}
use Rattle.sc_base.specs.Definitions.{Each}
use Rattle.sc_node_table.specs.Values.{Input, OrderLine, Mail}
use Rattle.sc_words.proofs.PaxosProofs.PaxosLemmas.{Each-weaker}
use Rattle.sc_node_table.specs.NodeDefinitions.{NodeState, node_table, ReplicaState}
use Rattle.sc_law_walks.proofs.PlaceWalks.{Before as BeforeAt, After as AfterAt}
use Rattle.sc_law_walks.proofs.PlaceNodes as places
use Rattle.sc_law_walks.proofs.PlaceNodes.{NodeSteps}
use Rattle.sc_law_walks.proofs.WalkPlaces.{place_walk, place_births, place_ticks}
use Rattle.sc_law_walks.proofs.Walks.{Walk, Births, Ticks, AreSaid, EarlyAt, LateAt}

module _ (w : Walk) (b : Births w.facts) where
  abbrev pub AllLate : List ReplicaState → Type 0
  AllLate replicas = Each (LateAt w) replicas

  abbrev pub AllEarly : List ReplicaState → Type 0
  AllEarly replicas = Each (EarlyAt w) replicas

  -- a node of this number
  abbrev pub Starts : NodeState → Type 0
  Starts node = (node.me ≡ w.facts.me) × AllEarly node.replicas

  abbrev pub Stands : NodeState → Type 0
  Stands node = (node.me ≡ w.facts.me) × AllLate node.replicas

  abbrev pub Step : NodeState × List Mail → Type 0
  Step step = Stands step.0 × AreSaid w step.1

  to_places : (node : NodeState) → Starts node → places.Starts (place_walk w) (place_births w b) node
  to_places node k = (k.0, Each-weaker (EarlyAt w) (λ (r : ReplicaState). BeforeAt (place_walk w).facts (r, [])) (λ r e. (e.0, (e.1, tt))) node.replicas k.1)

  from_places : (step : NodeState × List Mail) → places.Step (place_walk w) (place_births w b) step → Step step
  from_places step k = ((k.0.0, Each-weaker (λ (r : ReplicaState). AfterAt (place_walk w).facts (r, step.1)) (LateAt w) (λ r l. (l.0, l.1.0)) step.0.replicas k.0.1), k.1)

  -- what a node takes, in rows that are no ticks
  abbrev pub Given : Input Mail OrderLine → Type 0
  Given input = places.Given (place_walk w) (place_births w b) input

  pub input_step : NodeSteps Given Starts Step
  input_step node input h k = from_places (node_table node input) (places.input_step (place_walk w) (place_births w b) node input h (to_places node k))

  module _ (t : Ticks w.facts) where
    abbrev pub GivenAny : Input Mail OrderLine → Type 0
    GivenAny input = places.GivenAny (place_walk w) (place_births w b) (place_ticks w t) input

    pub any_step : NodeSteps GivenAny Starts Step
    any_step node input h k = from_places (node_table node input) (places.any_step (place_walk w) (place_births w b) (place_ticks w t) node input h (to_places node k))
