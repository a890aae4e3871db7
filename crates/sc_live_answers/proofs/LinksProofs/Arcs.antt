-- A group that stands, and is bound in no transaction, has an arc of the ring.
use Rattle.std.proofs.Common.{◌≡◌, ◌<◌, ◌^◌, Some, None, inl, ◌∙◌, ap}
use Rattle.sc_base.specs.Definitions.{IsArc}
use Rattle.sc_node_table.specs.Values.{Draw, Free}
use Rattle.sc_group_table.specs.machine.MachineDefinitions.{Group}
use Rattle.sc_meaning.specs.entries.EntryDefinitions.{StoreWorld, named_group}
use Rattle.sc_law_entries.specs.ring.RingDefinitions.{StoryWorld, first_recorded, recorded_after}
use Rattle.sc_law_entries.proofs.RingProofs.RingLemmas.{decisions, eff, arc_of, store_after, at_start, serving, groups_in, KeptWorld, kept_after}
use Rattle.sc_scenario.specs.scenario.Definitions.{ValidScenariosAreBounded}
use Rattle.sc_meaning.specs.sound.SoundDefinitions.{entries_at, decided_state, as_nodes}
use Rattle.sc_law_entries.proofs.LogsProofs.LogLemmas.{state_there}
use Rattle.sc_law_entries.specs.names.NameDefinitions.{OtherNamesAreFree, TakenOrdersAreAllowed, TakenWishesAreAllowed, WishesAreAtPositions}
use Rattle.sc_law_groups.specs.whole.WholeDefinitions.{ValidScenariosBeginWell}
use Rattle.sc_live_answers.specs.AnswerDefinitions.{FreeGroupsHaveArcs}
use Rattle.sc_live_answers.proofs.LinksProofs.LinkLogs.{sources, well, told, found}

-- in a world that allowed entries made
arc_in_world : (owner : Draw → _) (w : StoryWorld) (k : KeptWorld owner w) (name : Draw) (u : Group) → groups_in w.store.groups name ≡ Some u → u.core.lock ≡ Free → u.core.gone ≡ None → IsArc u.core.arc × (u.core.arc.lo < 2 ^ 32)
arc_in_world owner w k name u fact free here =
    let r = serving (decisions w.stories) u here (inl free) in
    let a = k.kept.1.0.0.arcs name u.core.arc (ap arc_of (ap (eff (decisions w.stories)) fact ∙ r.fact) ∙ ap Some r.arc) in
    (record { some = a.some; most = a.len_fits }, a.lo_fits)

module _ (bounded : ValidScenariosAreBounded) (begin : ValidScenariosBeginWell) (allowed : TakenOrdersAreAllowed) (wishes : TakenWishesAreAllowed) (positions : WishesAreAtPositions) (free : OtherNamesAreFree) where
  pub free_groups_have_arcs : FreeGroupsHaveArcs
  free_groups_have_arcs words scenario rows base valid lawful a unbound here =
      let s = sources bounded begin allowed wishes positions free words scenario rows valid lawful in
      let w = well bounded begin allowed wishes positions free words scenario rows valid lawful in
      let t = told bounded begin allowed wishes positions free words scenario rows valid lawful in
      let entries = entries_at as_nodes scenario.groups rows in
      let there : groups_in (recorded_after (first_recorded scenario.groups) entries).store.groups base.core.id ≡ Some (decided_state as_nodes base rows) =
      ap (λ (x : StoreWorld). named_group base.core.id x.groups) (store_after (first_recorded scenario.groups) entries)
      ∙ state_there s as_nodes scenario.groups w.place rows t base ((found bounded begin allowed wishes positions free words scenario rows valid lawful).only base a) in
      arc_in_world s.owner (recorded_after (first_recorded scenario.groups) entries) (kept_after s (first_recorded scenario.groups) entries (at_start s scenario.groups w.place) t.allowed) base.core.id (decided_state as_nodes base rows) there unbound here
