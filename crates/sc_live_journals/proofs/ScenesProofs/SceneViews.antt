-- What a scene says of a group by its replicas.
use Rattle.std.proofs.Common.{◌≡◌, ℕ, eqb, true, false, List, [], ◌∷◌, find, Option, Some, None, inl, inr, refl, ◌∙◌, ap, subst}
use Rattle.std.proofs.lemmas.Bool.{eqb-true}
use Rattle.sc_base.specs.Definitions.{Among}
use Rattle.sc_node_table.specs.Values.{Draw, Seat}
use Rattle.sc_actor.specs.Definitions.{numbers_of}
use Rattle.sc_node_table.specs.NodeDefinitions.{ReplicaState}
use Rattle.sc_words.proofs.PaxosProofs.PaxosLemmas.{find_found}
use Rattle.sc_meaning.specs.sound.SoundDefinitions.{Player}
use Rattle.sc_live_steps.specs.calm.CalmDefinitions.{Rows}
use Rattle.sc_live_journals.specs.rows.RowDefinitions.{replica_in, view_at, IsSeat}
use Rattle.sc_live_journals.specs.scenes.SceneDefinitions.{is_running, bond_there, works_of, bond_by, work_at, scene_at, LeadsAlone, NoneRuns, ScenesDescribe}
use Rattle.sc_live_journals.proofs.ScenesProofs.NewestLeaders.{lead_found, lead_none}
use Rattle.sc_live_journals.proofs.ScenesProofs.GroupParts.{AreAll, newest_bound, newest_some}

number_among : (births : List (Seat Player)) (seat : Seat Player) → Among seat births → Among seat.who (numbers_of births)
number_among [] seat fact = absurd fact
number_among (first ∷ births) seat fact = elim fact [ inl same ↦ inl (ap (λ (s : Seat Player). s.who) same) | inr more ↦ inr (number_among births seat more) ]

found_among : (births : List (Seat Player)) (who : ℕ) (seat : Seat Player) → find (λ other. eqb other.who who) births ≡ Some seat → Among who (numbers_of births)
found_among births who seat e =
    let f = find_found (λ (other : Seat Player). eqb other.who who) births seat e in
    subst (λ n. Among n (numbers_of births)) (eqb-true seat.who who f.1) (number_among births seat f.0)

-- a seat that is found is one of the numbers
pub seat_among : (births : List (Seat Player)) (seat : Seat Player) → IsSeat births seat → Among seat.who (numbers_of births)
seat_among births seat born = found_among births seat.who seat born

module _ (births : List (Seat Player)) (rows : Rows) (name : Draw) where
  view_by : (who : ℕ) (r : ReplicaState) (o : Option (Seat Player)) → find (λ seat. eqb seat.who who) births ≡ o → replica_in name rows o ≡ Some r → Among who (numbers_of births)
  view_by who r None e has = cc
  view_by who r (Some seat) e has = found_among births who seat e

  -- only seats have replicas
  pub view_among : AreAll (view_at births rows name) (numbers_of births)
  view_among who r has = view_by who r (find (λ seat. eqb seat.who who) births) refl has

  running_is : (node other : ℕ) (o : Option ReplicaState) → ((x : ReplicaState) → o ≡ Some x → x.running ≡ true → other ≡ node) → is_running o ≡ true → other ≡ node
  running_is node other None alone runs = cc
  running_is node other (Some x) alone runs = alone x refl runs

  stopped_is : (o : Option ReplicaState) → ((x : ReplicaState) → o ≡ Some x → x.running ≡ false) → is_running o ≡ false
  stopped_is None stopped = refl
  stopped_is (Some x) stopped = stopped x refl

  -- who leads alone is the leader of the scene
  pub lead_is : (node : ℕ) (r : ReplicaState) → LeadsAlone births rows name node r → (scene_at births rows).lead name ≡ Some node
  lead_is node r leads =
      lead_found (view_at births rows name) (numbers_of births) node (view_among node r leads.is_there) (ap is_running leads.is_there ∙ leads.running)
      (λ other runs. running_is node other (view_at births rows name other) (leads.alone other) runs)

  pub no_lead : NoneRuns births rows name → (scene_at births rows).lead name ≡ None
  no_lead none = lead_none (view_at births rows name) (numbers_of births) (λ node. stopped_is (view_at births rows name node) (none node))

-- Where one replica of a group runs, the scene has its bond, its work, and its node for the leader; where none runs, there is no work, and the bond is that of the newest state.
pub tell : ScenesDescribe
tell = record {
  led = λ births rows name node r leads.
      (let at = view_at births rows name in
      let lead = lead_is births rows name node r leads in (
        lead,
        (ap (bond_by at (numbers_of births)) lead ∙ ap bond_there leads.is_there, ap (work_at at) lead ∙ ap works_of leads.is_there),
      ));
  idle = λ births rows name bond node r none bound has.
      (let at = view_at births rows name in
      let all = view_among births rows name in
      let lead = no_lead births rows name none in (
        lead,
        (ap (bond_by at (numbers_of births)) lead ∙ newest_bound at (numbers_of births) bond all bound (λ e. absurd (newest_some at (numbers_of births) node r all has e)), ap (work_at at) lead),
      ));
}
