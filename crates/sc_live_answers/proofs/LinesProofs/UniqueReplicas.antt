-- In a lawful journal no node has two replicas of one group.
use Rattle.std.proofs.Common.{◌≡◌, ℕ, List, [], ◌∷◌, ◌⊎◌, inl, inr, refl, sym, ◌∙◌, subst}
use Rattle.sc_base.specs.Definitions.{Among, Each}
use Rattle.sc_node_table.specs.Values.{Command, Base, Node}
use Rattle.sc_node_table.specs.NodeDefinitions.{NodeState, ReplicaState, name_of}
use Rattle.sc_words.proofs.PaxosProofs.PaxosLemmas.{Each-weaker}
use Rattle.sc_scenario.specs.scenario.Definitions.{ValidScenariosAreBounded}
use Rattle.sc_meaning.specs.sound.SoundDefinitions.{groups_at, Ahead, route_of, as_nodes}
use Rattle.sc_law_entries.specs.ring.RingDefinitions.{Sources}
use Rattle.sc_law_entries.specs.names.NameDefinitions.{OtherNamesAreFree, TakenOrdersAreAllowed, TakenWishesAreAllowed, WishesAreAtPositions, owner_in}
use Rattle.sc_law_groups.proofs.GroupProofs.GroupLemmas.{h_of, Holds, IsOther, Steps, IsOneOf}
use Rattle.sc_law_groups.specs.whole.WholeDefinitions.{section_op, MayQueue, ValidScenariosBeginWell}
use Rattle.sc_law_groups.proofs.WholeProofs.WholeLemmas.{holds, orders_allowed}
use Rattle.sc_live_answers.specs.AnswerDefinitions.{AreNamedOnce, LawfulReplicasAreNamedOnce, LawfulQuietJournalsCountOnce, QuietJournalsCountOnce}

module _ (ahead : Ahead) (bases : List Base) (made : Base → Command → Type 0) (me : ℕ) (h : Base → Steps) where
  -- of these replicas one at most is the group's
  abbrev HasOne : Base → List ReplicaState → Type 0
  HasOne base replicas = Holds ahead base (made base) me (h base) replicas ⊎ Each (IsOther base.core.id) replicas

  others : (base : Base) (r : ReplicaState) (replicas : List ReplicaState) → name_of r ≡ base.core.id → HasOne base (r ∷ replicas) → Each (λ (other : ReplicaState). name_of other ≡ name_of r → ⊥) replicas
  others base r replicas named (inl (inl (fact, k, none))) = Each-weaker (IsOther base.core.id) (λ (other : ReplicaState). name_of other ≡ name_of r → ⊥) (λ other apart e. apart (e ∙ named)) replicas none
  others base r replicas named (inl (inr (o, rest))) = absurd (o named)
  others base r replicas named (inr each) = absurd (each.0 named)

  fewer : (base : Base) (r : ReplicaState) (replicas : List ReplicaState) → HasOne base (r ∷ replicas) → HasOne base replicas
  fewer base r replicas (inl (inl (fact, k, none))) = inr none
  fewer base r replicas (inl (inr (o, rest))) = inl rest
  fewer base r replicas (inr each) = inr each.1

  once : (replicas : List ReplicaState) → Each (λ r. IsOneOf bases (name_of r)) replicas → ((base : Base) → Among base bases → HasOne base replicas) → AreNamedOnce replicas
  once [] known has = tt
  once (r ∷ replicas) known has = (
    others known.0.0 r replicas known.0.2 (has known.0.0 known.0.1),
    once replicas known.1 (λ base a. fewer base r replicas (has base a)),
  )

pub named_once : ValidScenariosAreBounded → ValidScenariosBeginWell → TakenOrdersAreAllowed → TakenWishesAreAllowed → WishesAreAtPositions → OtherNamesAreFree → LawfulReplicasAreNamedOnce
named_once bounded begin allowed wishes positions free words scenario rows me node valid lawful low high fact =
    let owner = owner_in as_nodes scenario rows in
    let sources : Sources = record { owner = owner; request = section_op scenario } in
    let ready = begin owner (free as_nodes scenario rows) as_nodes refl scenario valid in
    let well = ready.well in
    let orders = orders_allowed as_nodes words scenario (bounded scenario valid) allowed wishes positions rows lawful in
    let at = (holds sources as_nodes words scenario (route_of ready.first) well.place well.seats well.asks well.apart well.fresh rows orders lawful).kept.nodes me low high in
    let found : Node at.node ≡ Node node = sym at.value_is ∙ fact in
    let same : at.node ≡ node = cc in
    subst (λ (n : NodeState). AreNamedOnce n.replicas) same
    (once as_nodes (groups_at as_nodes scenario.groups rows) (MayQueue sources as_nodes scenario rows) me (h_of rows) at.node.replicas at.fact.known (λ base a. inl (at.fact.holds base a)))

pub lawful_count_once : QuietJournalsCountOnce → LawfulReplicasAreNamedOnce → LawfulQuietJournalsCountOnce
lawful_count_once counts named words scenario set first others rows c valid groups j q lawful =
    counts words scenario set first others rows c valid groups j q (λ me node low high fact. named words scenario rows me node valid lawful low high fact)
