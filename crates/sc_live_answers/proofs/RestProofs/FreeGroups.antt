-- Where nothing of an order is left in a quiet prefix, no group is bound.
use Rattle.std.proofs.Common.{◌≡◌, ℕ, true, List, Option, Some, None, refl, sym, ◌∙◌, ap, arith}
use Rattle.sc_base.specs.Definitions.{Among}
use Rattle.sc_node_table.specs.Values.{Base, Free}
use Rattle.sc_actor.specs.Definitions.{numbers_of}
use Rattle.sc_group_table.specs.machine.MachineDefinitions.{Group}
use Rattle.sc_scenario.specs.declared.scenario.scenarios.Scenario.{Scenario}
use Rattle.sc_node_table.specs.NodeDefinitions.{ReplicaState}
use Rattle.sc_meaning.specs.sound.SoundDefinitions.{groups_at, decided_state, births, as_nodes}
use Rattle.sc_law_entries.specs.logs.LogDefinitions.{Rows}
use Rattle.sc_live_steps.specs.orders.OrderDefinitions.{bond_of, Bond, Here, Still, IsAt}
use Rattle.sc_live_journals.specs.rows.RowDefinitions.{view_at}
use Rattle.sc_live_journals.specs.scenes.SceneDefinitions.{is_running, lead_of, newest_of, bond_there, bond_by, scene_at}
use Rattle.sc_live_journals.proofs.ScenesProofs.SceneLemmas.{IsNewest, newest_is, lead_runs, view_among, free_by as unbound_free}
use Rattle.sc_live_answers.specs.AnswerDefinitions.{IsQuietPrefix, PrefixesAreFound, QuietLogsAreExecuted, AreAllThere, StillPrefixesAreFree, PrefixGroupsHaveReplicas}
use Rattle.sc_live_answers.proofs.QuietProofs.QuietPrefixGroups.{most, last_state}
use Rattle.sc_live_answers.proofs.RestProofs.ReachableGroups.{last}

module _ (executed : QuietLogsAreExecuted) (finds : PrefixesAreFound) (words : ℕ → ℕ → ℕ × ℕ) (scenario : Scenario) (journal prefix : Rows) (q : IsQuietPrefix words scenario journal prefix) (there : AreAllThere scenario prefix) (base : Base) (a : Among base (groups_at as_nodes scenario.groups prefix)) where
  abbrev view : ℕ → Option ReplicaState
  view node = view_at (births as_nodes scenario) prefix base.core.id node

  abbrev nodes : List ℕ
  nodes = numbers_of (births as_nodes scenario)

  abbrev bond : Bond
  bond = bond_of (decided_state as_nodes base prefix).core

  of_lead : (node : ℕ) (o : Option ReplicaState) → view node ≡ o → is_running o ≡ true → bond_there o ≡ bond
  of_lead node None e runs = cc
  of_lead node (Some r) e runs =
      let x = executed words scenario journal prefix base q a (there base a) in
      let leads = (x.0.quiet.led.followed.given.gives node r e runs).0 in
      let newest = leads.newest in
      let end = x.1 in
      ap (λ (g : Group). bond_of g.core) (last_state executed finds words scenario journal prefix q base a node r e (omega (arith, newest, end)))

  of_newest : (o : Option ReplicaState) → IsNewest view nodes o → bond_there o ≡ bond
  of_newest None new =
      let l = last executed finds words scenario journal prefix q there base a in
      let none : None ≡ Some l.1 = sym (new l.0 (view_among (births as_nodes scenario) prefix base.core.id l.0 l.1 l.2.is_there)) ∙ l.2.is_there in
      cc
  of_newest (Some r) new =
      let l = last executed finds words scenario journal prefix q there base a in
      let far = new.most l.0 l.1 (view_among (births as_nodes scenario) prefix base.core.id l.0 l.1 l.2.is_there) l.2.is_there in
      let low = most executed finds words scenario journal prefix q base a new.node r new.there in
      let end = l.2.next_is in
      ap (λ (g : Group). bond_of g.core) (last_state executed finds words scenario journal prefix q base a new.node r new.there (omega (arith, far, low, end)))

  bond_is : (o : Option ℕ) → lead_of view nodes ≡ o → bond_by view nodes o ≡ bond
  bond_is None e = of_newest (newest_of view nodes) (newest_is view nodes)
  bond_is (Some node) e = of_lead node (view node) refl (lead_runs view nodes node e)

  pub still_free : IsAt Still (scene_at (births as_nodes scenario) prefix) → (decided_state as_nodes base prefix).core.lock ≡ Free
  still_free still = unbound_free (decided_state as_nodes base prefix).core.lock (decided_state as_nodes base prefix).core (sym (bond_is (lead_of view nodes) refl) ∙ ap (λ (h : Here). h.bond) (still.parties.1 base.core.id tt))

pub still_prefixes_are_free : QuietLogsAreExecuted → PrefixesAreFound → PrefixGroupsHaveReplicas → StillPrefixesAreFree
still_prefixes_are_free executed finds there words scenario journal prefix q still base a = still_free executed finds words scenario journal prefix q (there words scenario journal prefix q) base a still
