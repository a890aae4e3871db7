-- The frames of the replicas that lead in a quiet journal are those of the groups that stand.
use Rattle.std.proofs.Common.{◌≡◌, ℕ, ◌≤◌, leb, cond, true, true≢false, List, [], ◌∷◌, Option, Some, None, inl, inr, sym, ◌∙◌, ap, subst, arith}
use Rattle.std.specs.Prelude.{filter}
use Rattle.std.proofs.lemmas.Bool.{cases_Bool, and_from, le-leb}
use Rattle.std.proofs.lemmas.Option.{none-some}
use Rattle.sc_base.proofs.Lemmas.{draw_is, same_name}
use Rattle.sc_base.specs.Definitions.{Among, most_nodes, same_draw}
use Rattle.sc_node_table.specs.Values.{Draw, Base, OrderLine, Mail, Row}
use Rattle.sc_actor.specs.Definitions.{value}
use Rattle.sc_node_table.specs.NodeDefinitions.{is_node, replica_of, ReplicaState, name_of, numbers_from}
use Rattle.sc_paxos_law.proofs.Lemmas.{Among-flat_map, from_flat_map, from_map}
use Rattle.sc_words.proofs.PaxosProofs.PaxosLemmas.{Among-filter, Each-among, find_found}
use Rattle.sc_scenario.specs.declared.scenario.scenarios.Scenario.{Scenario}
use Rattle.sc_scenario.specs.scenario.Definitions.{IsValid, ValidScenariosAreBounded}
use Rattle.sc_meaning.specs.sound.SoundDefinitions.{Player, player_table, node_seat, as_nodes, Lawful}
use Rattle.sc_live_steps.specs.calm.CalmDefinitions.{StandsQuiet}
use Rattle.sc_live_plain.specs.PlainDefinitions.{replicas_after, IsQuietJournal, frame_at_rest, replicas_of, Frame}
use Rattle.sc_live_plain.proofs.PlainLemmas.{in_numbers, to_numbers, map_among}
use Rattle.sc_live_answers.specs.AnswerDefinitions.{AreNamedOnce, LawfulReplicasAreNamedOnce, nodes_replicas, frames_after, AreAtNodes, QuietJournalsHaveFrames}

-- ---- lists

-- what passes stands in the list
passes : (rs : List ReplicaState) (r : ReplicaState) → Among r (filter (λ (x : ReplicaState). x.running) rs) → Among r rs × (r.running ≡ true)
passes [] r a = absurd a
passes (x ∷ rs) r a = elim (cases_Bool x.running) [
  | inl runs ↦ (let here : Among r (x ∷ filter (λ (y : ReplicaState). y.running) rs) = subst (λ b. Among r (cond b (x ∷ filter (λ (y : ReplicaState). y.running) rs) (filter (λ (y : ReplicaState). y.running) rs))) runs a in
      elim here [ inl e ↦ (inl e, sym (ap (λ (y : ReplicaState). y.running) e) ∙ runs) | inr more ↦ (let p = passes rs r more in (inr p.0, p.1)) ])
  | inr off ↦ (let p = passes rs r (subst (λ b. Among r (cond b (x ∷ filter (λ (y : ReplicaState). y.running) rs) (filter (λ (y : ReplicaState). y.running) rs))) off a) in (inr p.0, p.1))
]

-- one of some that are named once is found by its name
pub found_once : (rs : List ReplicaState) (r : ReplicaState) → AreNamedOnce rs → Among r rs → replica_of (name_of r) rs ≡ Some r
found_once [] r once a = absurd a
found_once (x ∷ rs) r once (inl e) = ap (λ b. cond b (Some x) (replica_of (name_of r) rs)) (same_name (name_of x) (name_of r) (ap name_of e)) ∙ ap Some e
found_once (x ∷ rs) r once (inr more) = elim (cases_Bool (same_draw (name_of x) (name_of r))) [
  | inl same ↦ absurd (Each-among (λ (other : ReplicaState). name_of other ≡ name_of x → ⊥) rs r once.0 more (sym (draw_is (name_of x) (name_of r) same)))
  | inr other ↦ ap (λ b. cond b (Some x) (replica_of (name_of r) rs)) other ∙ found_once rs r once.1 more
]

module _ (named : LawfulReplicasAreNamedOnce) (words : ℕ → ℕ → ℕ × ℕ) (scenario : Scenario) (first : Base) (rows : List (Row Mail OrderLine)) (nodes_are : (me : ℕ) → 1 ≤ me → me ≤ scenario.nodes → is_node me ≡ true) (valid : IsValid scenario) (lawful : Lawful as_nodes words scenario rows) (quiet : IsQuietJournal words scenario first rows) (homes : AreAtNodes scenario rows) where
  abbrev at : Draw → ℕ → Option ReplicaState
  at = replicas_after scenario rows

  abbrev player : ℕ → Player
  player me = value player_table (node_seat as_nodes scenario.groups scenario.policy me) rows

  -- a replica that is seen is one of its node's
  pub seen : (group : Draw) (node : ℕ) (r : ReplicaState) → at group node ≡ Some r → Among r (replicas_of (player node))
  seen group node r e = elim (cases_Bool (is_node node)) [
    | inl fact ↦ (find_found (λ (x : ReplicaState). same_draw (name_of x) group) (replicas_of (player node)) r (sym (ap (λ b. cond b (replica_of group (replicas_of (player node))) None) fact) ∙ e)).0
    | inr none ↦ absurd (none-some r (sym (ap (λ b. cond b (replica_of group (replicas_of (player node))) None) none) ∙ e))
  ]

  stand : (group : Draw) (q : StandsQuiet at group) → Among (frame_at_rest q.lead) (frames_after scenario rows)
  stand group q =
      let home = homes group q.lead.me (q.lead, q.newest.is_there) in
      let low = home.0 in
      let high = home.1 in
      let here = Among-flat_map (λ me. replicas_of (player me)) (numbers_from 1 scenario.nodes) q.lead.me q.lead (to_numbers 1 scenario.nodes q.lead.me low (omega (arith, high))) (seen group q.lead.me q.lead q.newest.is_there) in
      map_among frame_at_rest (filter (λ (r : ReplicaState). r.running) (nodes_replicas scenario rows)) q.lead (Among-filter (λ (r : ReplicaState). r.running) (nodes_replicas scenario rows) q.lead here q.leads.running)

  -- a replica of a node is the one that is seen of its group
  pub view : (me : ℕ) (r : ReplicaState) → 1 ≤ me → me ≤ scenario.nodes → Among r (replicas_of (player me)) → at (name_of r) me ≡ Some r
  view me r low high a =
      let n = quiet.nodes me low high in
      let once = named words scenario rows me n.0 valid lawful low high n.1 in
      let replicas : replicas_of (player me) ≡ n.0.replicas = ap replicas_of n.1 in
      ap (λ b. cond b (replica_of (name_of r) (replicas_of (player me))) None) (nodes_are me low high) ∙ (ap (replica_of (name_of r)) replicas ∙ found_once n.0.replicas r once (subst (Among r) replicas a))

  are : (frame : Frame) → Among frame (frames_after scenario rows) → (group : Draw) × (q : StandsQuiet at group) × (frame_at_rest q.lead ≡ frame)
  are frame a =
      let f = from_map frame_at_rest (filter (λ (r : ReplicaState). r.running) (nodes_replicas scenario rows)) frame a in
      let p = passes (nodes_replicas scenario rows) f.0 f.1 in
      let n = from_flat_map (λ me. replicas_of (player me)) (numbers_from 1 scenario.nodes) f.0 p.0 in
      let within = in_numbers 1 scenario.nodes n.0 n.1 in
      let low = within.0 in
      let high = within.1 in
      let here = view n.0 f.0 low (omega (arith, high)) n.2 in
      elim (quiet.quiet.groups (name_of f.0) n.0 (f.0, here)) [
        | inl q ↦ (name_of f.0, q, ap frame_at_rest (sym (q.alone n.0 f.0 here p.1)) ∙ f.2)
        | inr g ↦ absurd (true≢false (sym p.1 ∙ g.stopped n.0 f.0 here))
      ]

-- the nodes of a scenario have numbers of nodes
pub nodes_numbered : ValidScenariosAreBounded → (scenario : Scenario) → IsValid scenario → (me : ℕ) → 1 ≤ me → me ≤ scenario.nodes → is_node me ≡ true
nodes_numbered all_bounded scenario valid me low high = (let most = (all_bounded scenario valid).nodes.1 in and_from (leb 1 me) (leb me most_nodes) (le-leb 1 me low) (le-leb me most_nodes (omega (arith, high, most))))

pub quiet_frames : ValidScenariosAreBounded → LawfulReplicasAreNamedOnce → QuietJournalsHaveFrames
quiet_frames all_bounded named words scenario first rows valid lawful quiet homes = record {
  stand = stand named words scenario first rows (nodes_numbered all_bounded scenario valid) valid lawful quiet homes;
  are = are named words scenario first rows (nodes_numbered all_bounded scenario valid) valid lawful quiet homes;
}
