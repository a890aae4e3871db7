-- The groups that stand in a quiet journal are those of the cuts: each serves where its arc begins, and the group of each cut stands.
use Rattle.std.proofs.Common.{◌≡◌, ℕ, List, Option, Some, None, inl, inr, refl, sym, ◌∙◌, ap, subst}
use Rattle.std.specs.Prelude.{option_map}
use Rattle.std.proofs.lemmas.Option.{none-some, same_Some}
use Rattle.sc_base.proofs.Lemmas.{draw_is}
use Rattle.sc_base.specs.Definitions.{Among}
use Rattle.sc_node_table.specs.Values.{Draw, Base, OrderLine, Mail, Row}
use Rattle.sc_meaning.specs.entries.EntryDefinitions.{effective_by, IsPlaced, StoreWorld, named_group}
use Rattle.sc_meaning.specs.declared.entries.Cut.{Cut}
use Rattle.sc_law_entries.specs.logs.LogDefinitions.{AreItsLogs}
use Rattle.sc_group_table.specs.machine.MachineDefinitions.{Group}
use Rattle.sc_node_table.specs.NodeDefinitions.{ReplicaState}
use Rattle.sc_words.proofs.PaxosProofs.PaxosLemmas.{find_found}
use Rattle.sc_scenario.specs.declared.scenario.scenarios.Scenario.{Scenario}
use Rattle.sc_meaning.specs.sound.SoundDefinitions.{groups_at, birth_at, is_birth_of, world_at, as_nodes, IsOneMap}
use Rattle.sc_live_steps.specs.calm.CalmDefinitions.{HasReplica, StandsQuiet}
use Rattle.sc_live_plain.specs.PlainDefinitions.{replicas_after, AreFramesOf, IsQuietJournal, frame_at_rest, Frame, AreNamedApart}
use Rattle.sc_live_answers.specs.AnswerDefinitions.{state_of, AreKnown, QuietGroupsHaveCuts, IsOfCut}
use Rattle.sc_live_answers.proofs.QuietProofs.QuietGroupCuts.{free_is, had, placed_group, cut_there}

module _ (words : ℕ → ℕ → ℕ × ℕ) (scenario : Scenario) (first : Base) (rows : List (Row Mail OrderLine)) (frames : List Frame) (map : IsOneMap (world_at as_nodes scenario.groups rows)) (logs : AreItsLogs as_nodes scenario.groups rows) (known : AreKnown scenario rows)
    (quiet : IsQuietJournal words scenario first rows) (are : AreFramesOf (replicas_after scenario rows) frames) where
  abbrev world : StoreWorld
  world = world_at as_nodes scenario.groups rows

  abbrev at : Draw → ℕ → Option ReplicaState
  at = replicas_after scenario rows

  -- a group that stands is that of a cut
  record HasCut (lead : ReplicaState) : Type 0 where
    cut : Cut
    fact : IsOfCut world (frame_at_rest lead) cut

  of_cut : (name : Draw) (q : StandsQuiet at name) (cut : Cut) → Among cut world.ring → cut.group ≡ name → IsOfCut world (frame_at_rest q.lead) cut
  of_cut name q cut among named = record {
    among = among;
    named = named ∙ sym (quiet.kept name q.lead.me q.lead q.newest.is_there).name_is;
    placed = λ fact. ap (λ (g : Group). g.core) (placed_group words scenario first rows map logs known quiet name q cut named fact);
  }

  cut_of : (name : Draw) (q : StandsQuiet at name) → HasCut q.lead
  cut_of name q = (let c = cut_there words scenario first rows map logs known quiet name q in record { cut = c.0; fact = of_cut name q c.0 c.1 c.2 })

  -- the group of a cut stands
  stands_there : (cut : Cut) → Among cut world.ring → (frame : Frame) × Among frame frames × IsOfCut world frame cut
  stands_there cut among = by_state (birth_at as_nodes scenario.groups rows cut.group) refl
    where
      placed : IsPlaced world cut
      placed = map.placed cut among

      with_base : (base : Base) → birth_at as_nodes scenario.groups rows cut.group ≡ Some base → (frame : Frame) × Among frame frames × IsOfCut world frame cut
      with_base base e =
          let b = find_found (is_birth_of cut.group) (groups_at as_nodes scenario.groups rows) base e in
          let name = draw_is base.core.id cut.group b.1 in
          let t = known.there base b.0 in
          elim (quiet.quiet.groups cut.group t.0 (subst (λ n. HasReplica at n t.0) name t.1)) [
            | inl q ↦ (frame_at_rest q.lead, are.stand cut.group q, of_cut cut.group q cut among refl)
            | inr g ↦ (
                let h = had words scenario first rows map logs known quiet cut.group g.last g.newest.is_there g.newest.most in
                let free = (quiet.quiet.at_rest cut.group g.last.me g.last g.newest.is_there).free in
                let fact = same_Some placed.group g.last.group (sym placed.fact ∙ free_is words scenario first rows map logs known quiet cut.group g.last.group h.there free) in
                absurd (none-some g.into (sym placed.here ∙ (ap (λ (x : Group). x.core.gone) fact ∙ g.went))))
          ]

      by_state : (o : Option Base) → birth_at as_nodes scenario.groups rows cut.group ≡ o → (frame : Frame) × Among frame frames × IsOfCut world frame cut
      by_state (Some base) e = with_base base e
      by_state None e =
          let none : named_group cut.group world.groups ≡ None = logs.states cut.group ∙ ap (option_map (state_of scenario rows)) e in
          absurd (none-some placed.group (sym (ap (option_map (λ (g : Group). effective_by g.core.lock world.transactions g)) none) ∙ placed.fact))

  apart : AreNamedApart frames
  apart one other a b same =
      let f = are.are one a in
      let g = are.are other b in
      let name : f.0 ≡ g.0 = sym (named f.0 f.1) ∙ (ap (λ (x : Frame). x.core.id) f.2 ∙ (same ∙ (ap (λ (x : Frame). x.core.id) (sym g.2) ∙ named g.0 g.1))) in
      let lead = g.1.alone f.1.lead.me f.1.lead (subst (λ n. at n f.1.lead.me ≡ Some f.1.lead) name f.1.newest.is_there) f.1.leads.running in
      sym f.2 ∙ (ap frame_at_rest lead ∙ g.2)
    where
      named : (name : Draw) (q : StandsQuiet at name) → (frame_at_rest q.lead).core.id ≡ name
      named name q = (quiet.kept name q.lead.me q.lead q.newest.is_there).name_is

  cut_of_frame : (frame : Frame) → Among frame frames → (cut : Cut) × IsOfCut world frame cut
  cut_of_frame frame a =
      let f = are.are frame a in
      let c = cut_of f.0 f.1 in
      (c.cut, subst (λ x. IsOfCut world x c.cut) f.2 c.fact)

-- In a quiet journal whose groups are one map the groups that stand are those of the cuts, where each group of the journal has a replica, and one that has executed as much as any has executed its whole log.
pub quiet_cuts : QuietGroupsHaveCuts
quiet_cuts words scenario first rows frames map logs known quiet are = record {
  apart = apart words scenario first rows frames map logs known quiet are;
  cut = cut_of_frame words scenario first rows frames map logs known quiet are;
  frame = stands_there words scenario first rows frames map logs known quiet are;
}
