-- What stands in a quiet journal: whoever runs leads a group that stands, and so does its successor.
use Rattle.std.proofs.Common.{◌≡◌, ℕ, true, true≢false, Option, Some, None, inl, inr, sym, ◌∙◌, ap, subst}
use Rattle.sc_node_table.specs.Values.{Draw, Route}
use Rattle.sc_base.specs.Definitions.{least_of}
use Rattle.sc_group_table.specs.machine.MachineDefinitions.{Group}
use Rattle.sc_node_table.specs.NodeDefinitions.{ReplicaState}
use Rattle.sc_scenario.specs.declared.scenario.scenarios.Scenario.{Scenario}
use Rattle.sc_meaning.specs.sound.SoundDefinitions.{as_nodes, births}
use Rattle.sc_live_steps.specs.calm.CalmDefinitions.{HasReplica, IsNewest, IsQuiet, StandsQuiet, View, Rows}
use Rattle.sc_live_answers.specs.AnswerDefinitions.{AreKnown, AreReachable, AreSeen}
use Rattle.sc_live_journals.specs.scenes.SceneDefinitions.{IsThere}
use Rattle.sc_live_plain.specs.PlainDefinitions.{replicas_after}
use Rattle.sc_live_steps.proofs.FollowingProofs.FollowingLemmas.{least_in}

no_route : (into : Route) → ◌≡◌ {A = Option Route} None (Some into) → ⊥
no_route into e = cc

module _ (scenario : Scenario) (quiet : Rows) (first : Route) (clients : _) (fact : IsQuiet (replicas_after scenario quiet) first clients) (known : AreKnown scenario quiet) where
  abbrev at : View
  at = replicas_after scenario quiet

  -- whoever runs leads
  pub leads_it : (name : Draw) (node : ℕ) (r : ReplicaState) → replicas_after scenario quiet name node ≡ Some r → r.running ≡ true → (stands : StandsQuiet (replicas_after scenario quiet) name) × (r ≡ stands.lead)
  leads_it name node r has runs = elim (fact.groups name node (r, has)) [
    | inl s ↦ (s, s.alone node r has runs)
    | inr gone ↦ absurd (true≢false (sym runs ∙ gone.stopped node r has))
  ]

  -- two newest replicas of a group have one state
  newest_same : (name : Draw) (r other : ReplicaState) → IsNewest (replicas_after scenario quiet) name r → IsNewest (replicas_after scenario quiet) name other → r.group ≡ other.group
  newest_same name r other n m =
      let named = known.named name r.me r n.is_there in
      known.newest named.0 r named.1 (subst (λ g. IsNewest at g r) (sym named.2) n) ∙ sym (known.newest named.0 other named.1 (subst (λ g. IsNewest at g other) (sym named.2) m))

  -- the successor stands
  pub link_stands : (name : Draw) (s : StandsQuiet (replicas_after scenario quiet) name) → StandsQuiet (replicas_after scenario quiet) s.lead.group.core.succ.group
  link_stands name s =
      let l = s.linked in
      elim (fact.groups s.lead.group.core.succ.group l.behind.me (l.behind, l.newest.is_there)) [
        | inl stands ↦ stands
        | inr gone ↦ absurd (no_route gone.into (sym l.stands ∙ (ap (λ (g : Group). g.core.gone) (newest_same s.lead.group.core.succ.group l.behind gone.last l.newest gone.newest) ∙ gone.went)))
      ]

  -- the least member of the successor, by the link, has a replica
  pub link_least : AreReachable (replicas_after scenario quiet) → (name : Draw) (s : StandsQuiet (replicas_after scenario quiet) name) → HasReplica (replicas_after scenario quiet) s.lead.group.core.succ.group (least_of s.lead.group.core.succ.members)
  link_least reach name s = s.linked.nodes (least_of s.lead.group.core.succ.members) (least_in s.lead.group.core.succ.members (reach.links name s))

  -- a group that stands is there
  pub stands_there : AreSeen scenario quiet → (name : Draw) → StandsQuiet (replicas_after scenario quiet) name → IsThere (births as_nodes scenario) quiet name
  stands_there seen name s = (s.lead.me, s.lead, seen name s.lead.me ∙ s.newest.is_there)
