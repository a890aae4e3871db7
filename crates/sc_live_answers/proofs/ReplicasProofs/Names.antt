-- Which names replicas have after some rows, and that a name that is new is none of them.
use Rattle.std.proofs.Common.{◌≡◌, ℕ, eqb, false, List, [], ◌∷◌, Option, Some, None, find, option_map, inl, inr, refl, ap, subst}
use Rattle.std.proofs.lemmas.Bool.{cases_Bool, or_from}
use Rattle.std.specs.List.{list_any}
use Rattle.sc_group_table.specs.machine.MachineDefinitions.{has_voted}
use Rattle.sc_base.specs.Definitions.{Among, Each, same_draw}
use Rattle.sc_node_table.specs.Values.{Draw, Seat, Core, Outcome, Past, Node, Client}
use Rattle.sc_base.proofs.Lemmas.{draw_is}
use Rattle.sc_actor.specs.Definitions.{value}
use Rattle.sc_node_table.specs.NodeDefinitions.{replica_of, ReplicaState, name_of, noted_outcome, noted_vote}
use Rattle.sc_words.proofs.PaxosProofs.PaxosLemmas.{Each-among, Each-weaker, find_found, find_nothing}
use Rattle.sc_scenario.specs.scenario.Definitions.{IsBounded}
use Rattle.sc_scenario.specs.declared.scenario.scenarios.Scenario.{Scenario}
use Rattle.sc_meaning.specs.sound.SoundDefinitions.{Lawful, Player, as_nodes, births, player_table}
use Rattle.sc_law_entries.specs.names.NameDefinitions.{IsUsed, NamesAreDrawn, CoreNames, OutcomeNames, PastNames, PlayerNames, ReplicaNames}
use Rattle.sc_live_steps.specs.calm.CalmDefinitions.{Rows}
use Rattle.sc_live_journals.specs.rows.RowDefinitions.{replica_in, view_at}
use Rattle.sc_live_answers.proofs.ChildrenProofs.DrawnNames.{begin_undrawn as undrawn}

-- ---- the groups of a scenario

-- ---- replicas

module _ (K : Draw → Type 0) (name : Draw) (rows : Rows) (r : ReplicaState) where
  in_player : (player : Player) → PlayerNames K player → replica_of name (Rattle.sc_live_journals.specs.rows.Groups.replicas_of player) ≡ Some r → ReplicaNames K r
  in_player (Node node) k e = Each-among (ReplicaNames K) node.replicas r k (find_found (λ (s : ReplicaState). same_draw (name_of s) name) node.replicas r e).0
  in_player (Client client) k e = cc

  in_seat : (seats : List (Seat Player)) → ((seat : Seat Player) → Among seat seats → PlayerNames K (value player_table seat rows)) → (who : ℕ) (o : Option (Seat Player)) → find (λ (seat : Seat Player). eqb seat.who who) seats ≡ o → replica_in name rows o ≡ Some r
      → ReplicaNames K r
  in_seat seats all who None e has = cc
  in_seat seats all who (Some seat) e has = in_player (value player_table seat rows) (all seat (find_found (λ (s : Seat Player). eqb s.who who) seats seat e).0) has

-- each replica names what is in use
pub used_in : NamesAreDrawn → (words : ℕ → ℕ → ℕ × ℕ) (scenario : Scenario) (rows : Rows) → IsBounded scenario → Lawful as_nodes words scenario rows → (name : Draw) (who : ℕ) (r : ReplicaState) → view_at (births as_nodes scenario) rows name who ≡ Some r
    → CoreNames (IsUsed as_nodes scenario rows) r.group.core
used_in drawn words scenario rows bounded lawful name who r has =
    let all = (drawn as_nodes words scenario (undrawn scenario bounded) rows lawful).0 in
    (in_seat (IsUsed as_nodes scenario rows) name rows r (births as_nodes scenario) all.players who (find (λ (seat : Seat Player). eqb seat.who who) (births as_nodes scenario)) refl has).core

-- ---- a name that is new

module _ (K : Draw → Type 0) (tx : Draw) (new : K tx → ⊥) where
  pub not_it : (name : Draw) → K name → same_draw name tx ≡ false
  not_it name k = elim (cases_Bool (same_draw name tx)) [ inl t ↦ absurd (new (subst K (draw_is name tx t) k)) | inr f ↦ f ]

  pub unvoted : (core : Core) → CoreNames K core → noted_vote core tx ≡ None
  unvoted core k =
      ap (option_map (λ (noted : Draw × Past). noted.1))
      (find_nothing (λ (noted : Draw × Past). same_draw noted.0 tx) core.voted
      (Each-weaker (λ (v : Draw × Past). K v.0 × PastNames K v.1) (λ (v : Draw × Past). same_draw v.0 tx ≡ false) (λ v kv. not_it v.0 kv.0) core.voted k.voted))

  pub undecided : (core : Core) → CoreNames K core → noted_outcome core tx ≡ None
  undecided core k =
      ap (option_map (λ (noted : Draw × Outcome). noted.1))
      (find_nothing (λ (noted : Draw × Outcome). same_draw noted.0 tx) core.decided
      (Each-weaker (λ (d : Draw × Outcome). K d.0 × OutcomeNames K d.1) (λ (d : Draw × Outcome). same_draw d.0 tx ≡ false) (λ d kd. not_it d.0 kd.0) core.decided k.decided))

  pub has_not_voted : (core : Core) → CoreNames K core → has_voted core tx ≡ false
  has_not_voted core k = by core.voted k.voted
    where
      by : (voted : List (Draw × Past)) → Each (λ (v : Draw × Past). K v.0 × PastNames K v.1) voted → list_any (λ (vote : Draw × Past). same_draw vote.0 tx) voted ≡ false
      by [] all = refl
      by (v ∷ voted) all = or_from (same_draw v.0 tx) (list_any (λ (vote : Draw × Past). same_draw vote.0 tx) voted) (not_it v.0 all.0.0) (by voted all.1)
