-- What holds of a scenario's groups before any row, and what the start of a group gives.
use Rattle.std.proofs.Common.{◌≡◌, ℕ, ◌≤◌, List, [], ◌∷◌, length, map, filter, inl, inr, refl, sym, subst, arith}
use Rattle.std.proofs.lemmas.Bool.{cond_both}
use Rattle.sc_base.specs.Definitions.{Among, Each, is_member}
use Rattle.sc_node_table.specs.Values.{Command, Base, Route, MailBody}
use Rattle.sc_client_table.specs.table.TableDefinitions.{born_client}
use Rattle.sc_words.proofs.PaxosProofs.PaxosLemmas.{Each-among}
use Rattle.sc_node_table.specs.NodeDefinitions.{ReplicaState, name_of, born_replica}
use Rattle.sc_scenario.specs.declared.scenario.scenarios.Scenario.{Scenario}
use Rattle.sc_meaning.specs.sound.SoundDefinitions.{Ahead, AreNamedApart}
use Rattle.sc_law_groups.proofs.GroupProofs.Holding.{IsOther, Holds, holds_none}
use Rattle.sc_law_groups.proofs.GroupProofs.Newborn.{born_replica_is}
use Rattle.sc_law_groups.proofs.GroupProofs.Names.{IsOneOf}
use Rattle.sc_law_groups.proofs.GroupProofs.FirstRows.{Journal}
use Rattle.sc_law_groups.proofs.GroupProofs.Families.{Kept}

-- a list that is not empty has a first element
pub first_of : (members : List ℕ) → 1 ≤ length members → (node : ℕ) × (rest : List ℕ) × (members ≡ node ∷ rest)
first_of [] le = absurd (omega (arith, le))
first_of (node ∷ rest) le = (node, rest, refl)

module _ (ahead : Ahead) (made : Command → Type 0) (n : ℕ) where
  -- the replicas of a node at the birth of these groups
  abbrev born : List Base → List ReplicaState
  born bases = map (λ b. born_replica ahead.slots n b) (filter (λ b. is_member b.core.members n) bases)

  each_born : (P : ReplicaState → Type 0) (bases : List Base) → ((b : Base) → Among b bases → P (born_replica ahead.slots n b)) → Each P (born bases)
  each_born P [] p = tt
  each_born P (b ∷ bases) p =
      cond_both (is_member b.core.members n) (b ∷ filter (λ c. is_member c.core.members n) bases) (filter (λ c. is_member c.core.members n) bases)
      (λ bs. Each P (map (λ c. born_replica ahead.slots n c) bs))
      (λ _. (p b (inl refl), each_born P bases (λ c a. p c (inr a)))) (λ _. each_born P bases (λ c a. p c (inr a)))

  -- none of them is of a group with another name
  none_born : (base : Base) (bases : List Base) → Each (λ other. other.core.id ≡ base.core.id → ⊥) bases → Each (IsOther base.core.id) (born bases)
  none_born base [] apart = tt
  none_born base (b ∷ bases) apart =
      cond_both (is_member b.core.members n) (b ∷ filter (λ c. is_member c.core.members n) bases) (filter (λ c. is_member c.core.members n) bases)
      (λ bs. Each (IsOther base.core.id) (map (λ c. born_replica ahead.slots n c) bs))
      (λ _. (apart.0, none_born base bases apart.1)) (λ _. none_born base bases apart.1)

  -- of each group there is one, or none
  holds_born : (base : Base) (bases : List Base) → AreNamedApart bases → Among base bases → Holds ahead base made n [] (born bases)
  holds_born base [] apart a = absurd a
  holds_born base (b ∷ bases) apart (inl fact) =
      cond_both (is_member b.core.members n) (b ∷ filter (λ c. is_member c.core.members n) bases) (filter (λ c. is_member c.core.members n) bases)
      (λ bs. Holds ahead base made n [] (map (λ c. born_replica ahead.slots n c) bs))
      (λ _. subst (λ x. Holds ahead x made n [] (born_replica ahead.slots n b ∷ born bases)) fact (inl (refl, born_replica_is ahead b made [] n tt, none_born b bases apart.0)))
      (λ _. subst (λ x. Holds ahead x made n [] (born bases)) fact (holds_none ahead b made n [] (born bases) (none_born b bases apart.0) tt))
  holds_born base (b ∷ bases) apart (inr a) =
      cond_both (is_member b.core.members n) (b ∷ filter (λ c. is_member c.core.members n) bases) (filter (λ c. is_member c.core.members n) bases)
      (λ bs. Holds ahead base made n [] (map (λ c. born_replica ahead.slots n c) bs))
      (λ _. inr (λ same. Each-among (λ other. other.core.id ≡ b.core.id → ⊥) bases base apart.0 a (sym same), holds_born base bases apart.1 a)) (λ _. holds_born base bases apart.1 a)

-- what holds before any row
pub at_start : (ahead : Ahead) (scenario : Scenario) (bases : List Base) (route : Route) (made : Journal → Base → Command → Type 0) (heard : Journal → MailBody → Type 0) → AreNamedApart bases → Kept ahead scenario bases bases route made heard []
at_start ahead scenario bases route made heard apart = record {
  parts = λ b a. record { lawful = tt; requested = λ ballot slot c o. absurd o; true_mail = λ m o. absurd o };
  named = λ m a. absurd a;
  nodes = λ n low high. record {
    node = record { me = n; draws = record { node = n; next = 1 }; policy = scenario.policy; replicas = map (λ b. born_replica ahead.slots n b) (filter (λ b. is_member b.core.members n) bases) };
    value_is = refl;
    fact = record {
      me_is = refl;
      known = each_born ahead (λ c. Unit {0}) n (λ r. IsOneOf bases (name_of r)) bases (λ b a. (b, a, refl));
      holds = λ b a. holds_born ahead (made [] b) n b bases apart a;
    };
  };
  clients = λ asks stands. record {
    client = born_client asks.client asks.ops route;
    value_is = refl;
    fact = record { me = refl; requests = refl; waits = tt; replies = λ k reply e. cc };
    fresh = λ e. (refl, refl);
  };
}
